-- What stands for a branch in converted types.
use Rattle.std.specs.Prelude.{◌≡◌, ◌⊎◌, ℕ, ◌+◌, false, List, [], ◌∷◌, Option, Some, None}
use Rattle.std.specs.List.{list_all}
use Rattle.plain_tree.specs.Types.{PlainType}
use Rattle.plain_tree.specs.ValueTypes.{is_own}
use Rattle.plain_tree.specs.Attrs.{Entries}
use Rattle.plain_tree.specs.Ops.{Op, op, end_of_regions}
use Rattle.conversion_model.specs.Types.{new_type}
use Rattle.conversion_model.specs.Targets.{Shape, Target}
use Rattle.conversion_model.specs.Conversion.{cast_op}
use Rattle.pattern_model.specs.OperationNames.{cf_names, llvm_branches}
use Rattle.pattern_model.specs.PassTable.{partial_target}

-- the number of the next value, behind an operand whose type changes or not
abbrev pub next : ℕ → Option PlainType → ℕ
next n None = n + 0
next n (Some u) = n + 1

abbrev pub put_cast : ℕ → ℕ → Option PlainType → List Op → List Op
put_cast new x None l = l
put_cast new x (Some u) l = cast_op x (new, u) ∷ l

-- a cast for each operand whose type changes, with new numbers from the n-th on
abbrev pub fronts : ℕ → (ℕ → PlainType) → (ℕ → ℕ) → ℕ → List ℕ → List Op
fronts bits T new n [] = []
fronts bits T new n (x ∷ os) = put_cast (new n) x (new_type bits (T x)) (fronts bits T new (next n (new_type bits (T x))) os)

abbrev pub either_number : ℕ → ℕ → Option PlainType → ℕ
either_number new x None = x
either_number new x (Some u) = new

-- the operands behind them
abbrev pub converted_operands : ℕ → (ℕ → PlainType) → (ℕ → ℕ) → ℕ → List ℕ → List ℕ
converted_operands bits T new n [] = []
converted_operands bits T new n (x ∷ os) = either_number (new n) x (new_type bits (T x)) ∷ converted_operands bits T new (next n (new_type bits (T x))) os

abbrev pub branch : List ℕ → Entries → List ℕ → List ℕ → Op
branch name props os ls = op (record { name = name; props = props; attrs = [] }) [] os end_of_regions ls

-- what convert-cf-to-llvm wants of a name
abbrev pub cf_target : Target
cf_target = partial_target cf_names llvm_branches

-- a branch of that name without results and regions, with so many successors
abbrev pub branch_shape : List ℕ → List PlainType → Entries → Entries → ℕ → Shape
branch_shape name ts props attrs n = record { name = name; operands = ts; results = []; props = props; attrs = attrs; successors = n; regions = 0 }

-- whether a branch is converted: one of cf, or one of llvm with an operand whose type isn't own
abbrev pub IsConverted : (cf llvm name : List ℕ) → List PlainType → Type 0
IsConverted cf llvm name ts = (name ≡ cf) ⊎ ((name ≡ llvm) × (list_all is_own ts ≡ false))
