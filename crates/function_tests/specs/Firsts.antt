-- The first operation of a function that breaks a test, and the first test that it breaks.
use Rattle.std.specs.Prelude.{◌≡◌, ℕ, zero, suc, ◌<◌, true, false, List, [], ◌∷◌, Option, Some, None}
use Rattle.plain_tree.specs.Ops.{Op}
use Rattle.rule_model.specs.declared.rules.Rule.{Rule}
use Rattle.rule_model.specs.Words.{AllOf}
use Rattle.rule_model.specs.Facts.{Functions}
use Rattle.rule_model.specs.Rules.{place}
use Rattle.rule_model.specs.Sites.{Site, sites}
use Rattle.rule_tests.specs.Firsts.{keeps}

-- an operation keeps all rules that are tests
abbrev pub KeepsTests : Functions → Site → Type 0
KeepsTests c s = (r : Rule) → keeps c s.facts r ≡ true

-- it breaks this one, and none before it
abbrev pub BreaksTest : Functions → Site → Rule → Type 0
BreaksTest c s r = (keeps c s.facts r ≡ false) × ((q : Rule) → place q < place r → keeps c s.facts q ≡ true)

-- the first of these operations that breaks a test is the n-th, and the first test that it breaks is r
abbrev pub BreaksTestAt : Functions → List Site → ℕ → Rule → Type 0
BreaksTestAt c [] n r = ⊥
BreaksTestAt c (s ∷ ss) zero r = BreaksTest c s r
BreaksTestAt c (s ∷ ss) (suc n) r = KeepsTests c s × BreaksTestAt c ss n r

-- what an answer says of a function
abbrev pub TellsTests : Functions → Op → Option (record { 0 : ℕ; 1 : Rule }) → Type 0
TellsTests c f None = AllOf (KeepsTests c) (sites f)
TellsTests c f (Some found) = BreaksTestAt c (sites f) found.0 found.1
