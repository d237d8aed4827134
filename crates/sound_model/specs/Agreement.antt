-- When one module keeps the results, the traces and the endless runs of another.
use Rattle.std.specs.Prelude.{◌≡◌, ℕ, ◌<◌, ◌≤◌, ◌^◌, List, ℤ, ⊤}
use Rattle.plain_tree.specs.Ops.{PlainModule, module_tree}
use Rattle.form_model.specs.Codes.{Function}
use Rattle.form_model.specs.Decoding.{functions_of}
use Rattle.machine_model.specs.Worlds.{More, Undefined, Outside, NoRoom, IsPrefix}
use Rattle.meaning_model.specs.Buffers.{Heap}
use Rattle.meaning_model.specs.Meaning.{Result, End, Done, Stops, structured, need_of}

-- A run is kept by the runs of another module with each amount of fuel: where it is done, one of them is done with the same results
-- and the same trace; where it wants more fuel, so does one of them whose trace begins with its trace. That one needs no more memory.
-- Of a run that is undefined or outside nothing is said.
abbrev pub KeptBy : (ℕ → Result Heap) → Result Heap → End → Type 0
KeptBy run r (Done zs) = (m : ℕ) × ((run m).end ≡ Done zs) × ((run m).trace ≡ r.trace) × (need_of (run m) ≤ need_of r)
KeptBy run r (Stops More) = (m : ℕ) × ((run m).end ≡ Stops More) × IsPrefix r.trace (run m).trace × (need_of (run m) ≤ need_of r)
KeptBy run r (Stops Undefined) = ⊤
KeptBy run r (Stops Outside) = ⊤
KeptBy run r (Stops NoRoom) = ⊤

-- the second functions keep each run of the first ones that needs less than 2 to the 48th bytes
abbrev pub AgreeFunctions : List Function → List Function → Type 0
AgreeFunctions fs gs =
    (name : List ℕ) (args answers : List ℤ) (n : ℕ) → need_of (structured fs name args answers n) < 2 ^ 48
    → KeptBy (λ m. structured gs name args answers m) (structured fs name args answers n) (structured fs name args answers n).end

-- two modules agree where an index has so many bits: by the meaning S of both
abbrev pub AgreesS : ℕ → PlainModule → PlainModule → Type 0
AgreesS bits a b = AgreeFunctions (functions_of bits (module_tree a)) (functions_of bits (module_tree b))

-- a module agrees with itself
abbrev pub AgreesWithItself : Type 0
AgreesWithItself = (bits : ℕ) (m : PlainModule) → AgreesS bits m m

-- agreements go on from one module to the next
abbrev pub AgreementsJoin : Type 0
AgreementsJoin = (bits : ℕ) (a b c : PlainModule) → AgreesS bits a b → AgreesS bits b c → AgreesS bits a c
