-- Lemmas on tags.
pub mod TagLaws
