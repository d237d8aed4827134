-- What the laws of rows of calls, returns and casts promise.
use Rattle.std.specs.Prelude.{◌≡◌, ℕ, false, List, [], ◌∷◌, Some, codes}
use Rattle.std.specs.Str.{bytes_eq}
use Rattle.plain_tree.specs.Attrs.{Symbol, entry}
use Rattle.conversion_model.specs.Types.{new_type}
use Rattle.conversion_model.specs.Templates.{Template}
use Rattle.conversion_model.specs.Targets.{Shape}
use Rattle.conversion_model.specs.Rows.{Pattern}
use Rattle.pattern_model.specs.FuncRows.{call_row, func_set_without_cast, cast_pattern}
use Rattle.pattern_model.specs.Tables.{all_sets}
use Rattle.sound_model.specs.Soundness.{PatternsSound, RowHolds}
use Rattle.row_laws.specs.Promises.{IsWidth}
use Rattle.memory_row_laws.specs.Promises.{RowsHold}

-- the row of func.return is sound, in the pass that has the set without casts and in the one that has all sets
abbrev pub ReturnRowHolds : Type 0
ReturnRowHolds = RowsHold (codes "func.return" ∷ []) func_set_without_cast

-- the row of casts between types that become the same is sound in the pass that has all sets
abbrev pub CastRowHolds : Type 0
CastRowHolds = (bits : ℕ) → IsWidth bits → PatternsSound bits all_sets (cast_pattern ∷ [])

-- a name that none of the functions has that make and end buffers
pub record IsFree (name : List ℕ) : Type 0 where
  pub malloc : bytes_eq name (codes "malloc") ≡ false
  pub aligned_alloc : bytes_eq name (codes "aligned_alloc") ≡ false
  pub free : bytes_eq name (codes "free") ≡ false

-- the row of func.call holds of each call of a function with such a name
abbrev pub CallHoldsIn : List Pattern → Type 0
CallHoldsIn table =
    (bits : ℕ) → IsWidth bits → (o : Shape) (t : Template) (name : List ℕ) → o.name ≡ codes "func.call" → entry (codes "callee") o.props ≡ Some (Symbol name) → IsFree name → call_row bits o ≡ Some t
    → RowHolds bits table (new_type bits) o t

pub record CallRowHolds : Type 0 where
  pub alone : CallHoldsIn func_set_without_cast
  pub among_all : CallHoldsIn all_sets
