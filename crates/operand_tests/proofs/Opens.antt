-- The plain form of each type that is written out, and tests that turn one into another.
use Rattle.std.proofs.Common.{◌≡◌, ℕ, [], ◌∷◌, refl}
use Rattle.std.proofs.lemmas.Grind.{common_steps}
use Rattle.plain_tree.specs.Types.{PlainType, Int, Index}
use Rattle.plain_tree.proofs.TypeOpens.{plain-Int, plain-Index, plain-Memref, plain-Func, plain-Ptr, plain-Void, plain-Struct, plain-Array, plain-LlvmFunc}
use Rattle.rule_model.specs.Forms.{is_index, is_integer}
use Rattle.rule_model.specs.Types.{index_and_integer}
use Rattle.rule_facts.proofs.PartLemmas.{types_again}

pub from_index : (t : PlainType) → index_and_integer (Index ∷ []) (t ∷ []) ≡ is_integer t
from_index (Int m) = refl
from_index _ = refl

pub to_index : (n : ℕ) (t : PlainType) → index_and_integer (Int n ∷ []) (t ∷ []) ≡ is_index t
to_index n Index = refl
to_index n _ = refl

pub ruleset opens = (common_steps, plain-Int, plain-Index, plain-Memref, plain-Func, plain-Ptr, plain-Void, plain-Struct, plain-Array, plain-LlvmFunc, types_again, from_index, to_index)
