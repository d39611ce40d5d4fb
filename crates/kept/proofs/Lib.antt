-- Lemmas on searching, removing and pairing off.
pub mod Finding
pub mod Removing
pub mod PairLaws
pub mod PairMaps
