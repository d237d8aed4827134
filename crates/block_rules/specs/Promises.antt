-- What the laws on branches and block arguments promise.
use Rattle.std.specs.Prelude.{◌≡◌, ℕ, true, List, [], ◌∷◌, ◌++◌, map, Some, codes}
use Rattle.std.specs.Option.{option_map}
use Rattle.plain_tree.specs.Types.{PlainType}
use Rattle.plain_tree.specs.ValueTypes.{is_value}
use Rattle.plain_tree.specs.Attrs.{Entries, PlainAttr, entry}
use Rattle.plain_tree.specs.Ops.{Op}
use Rattle.rule_model.specs.Chains.{Chain}
use Rattle.rule_model.specs.Words.{AllOf}
use Rattle.rule_model.specs.Formed.{is_formed_function, is_formed_type}
use Rattle.rule_model.specs.Scopes.{DefinedFunction}
use Rattle.conversion_model.specs.Templates.{written}
use Rattle.conversion_model.specs.Chosen.{chosen}
use Rattle.conversion_model.specs.Conversion.{op_blocks, Supply}
use Rattle.conversion_model.specs.Counts.{DefinesOnce}
use Rattle.conversion_model.specs.Fresh.{Fresh}
use Rattle.pattern_model.specs.CfRows.{cf_set}
use Rattle.fitting_rows.specs.Widths.{IsWidth}
use Rattle.block_rules.specs.Branches.{branch, branch_shape, cf_target, converted_operands, fronts, IsConverted}

-- where the arguments of blocks get their converted types, with casts back from fresh numbers, rule `Defined` is kept, region by region
abbrev pub BlocksKeepDefined : Type 0
BlocksKeepDefined = (bits : ℕ) (new : Supply) (f : Op) → Fresh new f → DefinedFunction f → DefinedFunction (op_blocks bits new.argument f)

-- and still no value uses itself
abbrev pub BlocksKeepOwn : Type 0
BlocksKeepOwn = (bits : ℕ) (new : Supply) (f : Op) → Fresh new f → ((v : ℕ) → Chain f v v → ⊥) → (v : ℕ) → Chain (op_blocks bits new.argument f) v v → ⊥

-- and a formed function stays formed, where each number is still defined once
abbrev pub BlocksKeepFormed : Type 0
BlocksKeepFormed = (bits : ℕ) (new : Supply) (f : Op) → IsWidth bits → DefinesOnce (op_blocks bits new.argument f) → is_formed_function f ≡ true → is_formed_function (op_blocks bits new.argument f) ≡ true

-- Branches

-- value types that are formed
abbrev pub ValueTypes : List PlainType → Type 0
ValueTypes ts = AllOf (λ t. (is_value t ≡ true) × (is_formed_type t ≡ true)) ts

-- What convert-cf-to-llvm chooses for a branch, written down: a cast of each operand whose type changes, and the branch of llvm
-- from the operands in converted types to the same block.
abbrev pub BrConverted : Type 0
BrConverted = (bits : ℕ) → IsWidth bits → (T : ℕ → PlainType) (new : ℕ → ℕ) (name : List ℕ) (props attrs : Entries) (os : List ℕ) (l : ℕ) → ValueTypes (map T os) → IsConverted (codes "cf.br") (codes "llvm.br") name (map T os)
    → option_map (λ t. written new [] os (l ∷ []) t []) (chosen bits cf_target cf_set [] (branch_shape name (map T os) props attrs 1))
    ≡ Some (fronts bits T new 0 os ++ branch (codes "llvm.br") [] (converted_operands bits T new 0 os) (l ∷ []) ∷ [])

-- and for a branch with a condition, which keeps its sizes, to the same two blocks in order
abbrev pub CondBrConverted : Type 0
CondBrConverted = (bits : ℕ) → IsWidth bits → (T : ℕ → PlainType) (new : ℕ → ℕ) (name : List ℕ) (props attrs : Entries) (sizes : PlainAttr) (os : List ℕ) (l m : ℕ) → ValueTypes (map T os) → IsConverted (codes "cf.cond_br") (codes "llvm.cond_br") name (map T os)
    → entry (codes "operandSegmentSizes") props ≡ Some sizes
    → option_map (λ t. written new [] os (l ∷ m ∷ []) t []) (chosen bits cf_target cf_set [] (branch_shape name (map T os) props attrs 2))
    ≡ Some (fronts bits T new 0 os ++ branch (codes "llvm.cond_br") ((codes "operandSegmentSizes", sizes) ∷ []) (converted_operands bits T new 0 os) (l ∷ m ∷ []) ∷ [])
