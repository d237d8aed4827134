-- What the laws of rows under a condition promise.
use Rattle.std.specs.Prelude.{◌≡◌, true, ℕ, ◌*◌, ◌<◌, ◌≤◌, ◌^◌, List, [], ◌∷◌, map, length, Some, codes}
use Rattle.tree_model.specs.declared.type_tree.Dim.{Dim}
use Rattle.number_model.specs.Answers.{Gives}
use Rattle.operation_model.specs.Values.{Value, parts_at, size_path, counted}
use Rattle.std.specs.List.{list_all}
use Rattle.operation_model.specs.Doings.{Doing}
use Rattle.operation_model.specs.Straight.{Size, sizes_from, elements, byte_size}
use Rattle.form_model.specs.Types.{width_of, fixed_size}
use Rattle.rule_model.specs.Forms.{is_index}
use Rattle.plain_tree.specs.Types.{PlainType, Index, Memref, type_tree}
use Rattle.conversion_model.specs.Types.{new_type}
use Rattle.conversion_model.specs.Templates.{Template}
use Rattle.conversion_model.specs.Targets.{Shape}
use Rattle.conversion_model.specs.Rows.{Pattern}
use Rattle.pattern_model.specs.MemrefRows.{dim_row, alloc_row, memref_set}
use Rattle.pattern_model.specs.Tables.{all_sets}
use Rattle.sound_model.specs.Refinement.{Refines}
use Rattle.sound_model.specs.Runs.{items_of, root_form, root_runs, template_runs, types_made}
use Rattle.sound_model.specs.Soundness.{IsReplaceable, StepsFit, all_changed}
use Rattle.row_laws.specs.Promises.{IsWidth}

-- all that a row owes, but that the template does what the operation does only of operands that are fine
pub record HoldsWhere (Fine : List Value → Type 0) (bits : ℕ) (table : List Pattern) (o : Shape) (t : Template) : Type 0 where
  pub replaceable : IsReplaceable (root_form bits o) o.results
  pub steps : StepsFit table (all_changed (new_type bits) o.operands) t.steps []
  pub types : items_of (all_changed (new_type bits) o.operands) (types_made t.steps) t.results ≡ Some (all_changed (new_type bits) o.results)
  pub same : (args : List Value) (labels : List ℕ) (next : List Value → Doing) → length args ≡ length o.operands → length labels ≡ o.successors → Fine args
      → Refines (root_runs bits o args labels next) (template_runs bits (all_changed (new_type bits) o.operands) args labels t next)

-- a memref that has each size that its rank asks for
pub data HasSizes (rank : ℕ) : List Value → Type 0 where
  has_sizes : {m x : Value} (sizes : List Value) → parts_at (map size_path (counted 0 rank)) m ≡ Gives sizes → HasSizes rank (m ∷ x ∷ [])

-- The row of memref.dim holds of each memref that has its sizes, whose rank is a number of the width.
abbrev pub DimHoldsIn : List Pattern → Type 0
DimHoldsIn table =
    (bits : ℕ) → IsWidth bits → (o : Shape) (t : Template) (dims : List Dim) (element : PlainType) → o.name ≡ codes "memref.dim" → o.operands ≡ Memref dims element ∷ Index ∷ [] → o.results ≡ Index ∷ [] → length dims ≤ 2 ^ bits
    → dim_row bits o ≡ Some t → HoldsWhere (HasSizes (length dims)) bits table o t

pub record DimRowHolds : Type 0 where
  pub alone : DimHoldsIn memref_set
  pub among_all : DimHoldsIn all_sets

-- the bytes of the memref of these dimensions, whose elements have so many, are a number of the width
abbrev pub FitsWidth : ℕ → List Dim → ℕ → List Value → Type 0
FitsWidth bits dims size args = (sizes : List Size) → sizes_from bits (map fixed_size dims) args ≡ Gives sizes → elements sizes * size < 2 ^ bits

-- The row of memref.alloc without alignment holds wherever the bytes are a number of the width.
abbrev pub AllocHoldsIn : List Pattern → Type 0
AllocHoldsIn table =
    (bits : ℕ) → IsWidth bits → (o : Shape) (t : Template) (dims : List Dim) (element : PlainType) (w : ℕ) → o.name ≡ codes "memref.alloc" → list_all is_index o.operands ≡ true → o.results ≡ Memref dims element ∷ []
    → width_of bits (type_tree element) ≡ Some w → alloc_row bits o ≡ Some t → HoldsWhere (FitsWidth bits dims (byte_size w)) bits table o t

pub record AllocRowHolds : Type 0 where
  pub alone : AllocHoldsIn memref_set
  pub among_all : AllocHoldsIn all_sets
