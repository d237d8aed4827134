-- What the laws of rows for memory promise.
use Rattle.std.specs.Prelude.{ℕ, List, [], ◌∷◌, filter, codes}
use Rattle.conversion_model.specs.Rows.{Pattern}
use Rattle.pattern_model.specs.OperationNames.{is_among}
use Rattle.pattern_model.specs.MemrefRows.{memref_set}
use Rattle.pattern_model.specs.Tables.{all_sets}
use Rattle.sound_model.specs.Soundness.{PatternsSound}
use Rattle.row_laws.specs.Promises.{IsWidth}

-- the patterns of a set with these roots
abbrev pub rows_of : List (List ℕ) → List Pattern → List Pattern
rows_of roots set = filter (λ p. is_among roots p.root) set

-- The rows of these roots do what their roots do wherever those are defined, in a pass that has the set alone and in one that has all
-- sets.
pub record RowsHold (roots : List (List ℕ)) (set : List Pattern) : Type 0 where
  pub alone : (bits : ℕ) → IsWidth bits → PatternsSound bits set (rows_of roots set)
  pub among_all : (bits : ℕ) → IsWidth bits → PatternsSound bits all_sets (rows_of roots set)

-- the roots for memory whose rows are known to hold: all but memref.alloc and memref.dim
abbrev pub memory_roots : List (List ℕ)
memory_roots = codes "memref.dealloc" ∷ codes "memref.load" ∷ codes "memref.store" ∷ codes "memref.rank" ∷ codes "memref.cast" ∷ []

abbrev pub MemoryRowsHold : Type 0
MemoryRowsHold = RowsHold memory_roots memref_set
