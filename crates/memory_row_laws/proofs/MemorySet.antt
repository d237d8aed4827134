-- The rows for memory are sound at both widths of an index.
use Rattle.std.proofs.Common.{◌≡◌, ℕ, List, false, refl}
use Rattle.std.specs.Prelude.{codes}
use Rattle.conversion_model.specs.Rows.{Pattern}
use Rattle.pattern_model.specs.MemrefRows.{memref_set}
use Rattle.pattern_model.specs.Tables.{all_sets}
use Rattle.sound_model.specs.Soundness.{is_root, PatternsSound}
use Rattle.row_laws.specs.Promises.{IsWidth}
use Rattle.row_laws.proofs.Sets.{is_width}
use Rattle.memory_row_laws.specs.Promises.{rows_of, memory_roots, MemoryRowsHold}
use Rattle.memory_row_laws.proofs.MemrefRows.{dealloc_sound, rank_sound, cast_sound}
use Rattle.memory_row_laws.proofs.ElementRows.{NoPlaceRoots, load_sound, store_sound}

memory_sound : (table : List Pattern) → NoPlaceRoots table → is_root table (codes "llvm.call") ≡ false → is_root table (codes "llvm.mlir.constant") ≡ false → (bits : ℕ) → IsWidth bits → PatternsSound bits table (rows_of memory_roots memref_set)
memory_sound table free no_call no_constant bits w = (
  dealloc_sound bits table free.extract no_call,
  (
    load_sound bits (is_width bits w) w table free,
    (
      store_sound bits (is_width bits w) w table free,
      (
        rank_sound bits (is_width bits w) table no_constant,
        (
          cast_sound bits table,
          tt,
        ),
      ),
    ),
  ),
)

in_memref : NoPlaceRoots memref_set
in_memref = record { extract = refl; mul = refl; add = refl; sext = refl; move = refl; load = refl; store = refl }

in_all : NoPlaceRoots all_sets
in_all = record { extract = refl; mul = refl; add = refl; sext = refl; move = refl; load = refl; store = refl }

pub memory_rows : MemoryRowsHold
memory_rows = record { alone = memory_sound memref_set in_memref refl refl; among_all = memory_sound all_sets in_all refl refl }
