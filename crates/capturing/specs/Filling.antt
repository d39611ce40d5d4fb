-- What stays the same while a capture goes on.
use Rattle.std.specs.Prelude.{◌≡◌}
use Rattle.capturing.specs.declared.filling.FillGuard.{FillGuard}

-- it fills the same slots of the same rack, from the same first one on
pub record GoesOn (a b : FillGuard) : Type 0 where
  pub fill : b.fill.ghost_name ≡ a.fill.ghost_name
  pub slots : b.slots.ghost_name ≡ a.slots.ghost_name
  pub first : b.first ≡ a.first
  pub text : b.text_len ≡ a.text_len
