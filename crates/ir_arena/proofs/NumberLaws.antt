-- Places of numbers.
use Rattle.std.proofs.Common.{ℕ, List, [], ◌∷◌, length, arith}
use Rattle.std.proofs.lemmas.Grind.{common_steps}
use Rattle.std.specs.List.{AllZip}
use Rattle.flat_model.specs.Flat.{AllBelow}
use Rattle.flat_model.proofs.GrowthLaws.{zip_push, below_next}
use Rattle.ir_arena.specs.declared.numbering.Numbering.{Numbering}
use Rattle.ir_arena.specs.Building.{Names}

pub all_inside : (n : Numbering) (places numbers : List ℕ) → AllZip (Names n) places numbers → AllBelow (length n.numbers.items) places
all_inside n [] numbers z = λ k d h. absurd (omega arith)
all_inside n (p ∷ ps) [] z = absurd z
all_inside n (p ∷ ps) (m ∷ ms) z = below_next (length n.numbers.items) ps p z.0.inside (all_inside n ps ms z.1)

pub ruleset number_laws = (common_steps, zip_push, all_inside)
