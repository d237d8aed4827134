-- Laws of the definitions.
use Rattle.std.specs.Prelude.{◌≡◌, ◌⊎◌, ℕ, ◌≤◌, List, ℤ}
use Rattle.form_model.specs.Codes.{Function}
use Rattle.machine_model.specs.Worlds.{More, NoRoom, IsPrefix}
use Rattle.meaning_model.specs.Buffers.{Heap, no_heap, ask_heap}
use Rattle.meaning_model.specs.Cells.{Cells, no_cells, ask_cells}
use Rattle.meaning_model.specs.Meaning.{Result, Stops, structured, stepped, need_of}

-- The structured meaning and the machine come to the same: the same end, the same calls of external functions, the same memory and so
-- the same need, with the same fuel.
abbrev pub SameForms : Type 0
SameForms = (fs : List Function) (name : List ℕ) (args answers : List ℤ) (fuel : ℕ) → structured fs name args answers fuel ≡ stepped ask_heap no_heap fs name args answers fuel

-- A run with more fuel is the same run, or the one with less fuel wanted more; then its trace begins with the shorter run's, and it needs
-- no less memory. So a run that has ended stays as it is, whatever fuel it gets.
abbrev pub IsContinued : Result Heap → Result Heap → Type 0
IsContinued r longer = (longer ≡ r) ⊎ ((r.end ≡ Stops More) × IsPrefix r.trace longer.trace × (need_of r ≤ need_of longer))

abbrev pub MoreFuel : Type 0
MoreFuel =
    (fs : List Function) (name : List ℕ) (args answers : List ℤ) (fuel more : ℕ) → fuel ≤ more
    → IsContinued (structured fs name args answers fuel) (structured fs name args answers more)

-- the same of L, in which memory may be short
abbrev pub IsContinuedCells : Result Cells → Result Cells → Type 0
IsContinuedCells r longer = (longer ≡ r) ⊎ ((r.end ≡ Stops More) × IsPrefix r.trace longer.trace)

abbrev pub MoreFuelCells : Type 0
MoreFuelCells =
    (fs : List Function) (name : List ℕ) (args answers : List ℤ) (room fuel more : ℕ) → fuel ≤ more
    → IsContinuedCells (stepped ask_cells (no_cells room) fs name args answers fuel) (stepped ask_cells (no_cells room) fs name args answers more)

-- S has room for every buffer
abbrev pub AlwaysRoom : Type 0
AlwaysRoom =
    (fs : List Function) (name : List ℕ) (args answers : List ℤ) (fuel : ℕ) → (structured fs name args answers fuel).end ≡ Stops NoRoom → ⊥
