-- What the code's rules and bases stand for.
use Rattle.std.specs.Prelude.{ℕ, List}
use Rattle.nodes.specs.Fields.{Rules as RulesOn, Basis as BasisOn}
use Rattle.nodes.specs.Fields.Basis.{direct, expansion}
use Rattle.entries.specs.declared.rules.Policies.{Policies}
use Rattle.entries.specs.declared.rules.Rules.{Rules}
use Rattle.entries.specs.declared.rules.Basis.{Basis}
use Rattle.entries.specs.declared.rules.Basis.TheVariants.{Direct, Expansion}

-- the rules of a collection by policies, known anchors and a text, into a table with so many places
abbrev pub rules_for : Policies → List ℕ → List ℕ → ℕ → RulesOn
rules_for p anchors text places = record { merges = p.merges; repeats = p.repeats; anchors = anchors; text = text; places = places }

abbrev pub rules_of : Rules → ℕ → RulesOn
rules_of r places = rules_for r.policies r.anchors.now r.text.now places

abbrev pub basis_of : Basis → BasisOn
basis_of (Direct l) = direct l
basis_of (Expansion l) = expansion l
