-- Worked examples of agreement: what keeps a run and what doesn't.
use Rattle.std.proofs.Common.{ℕ, List, [], ◌∷◌, refl, ap, arith}
use Rattle.std.specs.Prelude.{codes, length, pos}
use Rattle.machine_model.specs.Worlds.{More, Undefined, ExternalCall}
use Rattle.meaning_model.specs.Buffers.{Heap}
use Rattle.meaning_model.specs.Meaning.{Result, Done, Stops, End}
use Rattle.sound_model.specs.Agreement.{KeptBy}

abbrev heap : ℕ → Heap
heap need = record { buffers = []; need = need }

abbrev call : ExternalCall
call = record { name = codes "print"; args = pos 1 ∷ []; answers = [] }

-- a run with an end, calls and a need
abbrev run : End → List ExternalCall → ℕ → Result Heap
run end trace need = record { end = end; trace = trace; memory = heap need }

abbrev one : End
one = Done (pos 1 ∷ [])

-- every run keeps itself
done_keeps_itself : KeptBy (λ m. run one (call ∷ []) 16) (run one (call ∷ []) 16) one
done_keeps_itself = (0, refl, refl, omega arith)

-- a run that wants more is kept by one that has come further, and needs no more
more_is_kept : KeptBy (λ m. run (Stops More) (call ∷ call ∷ []) 16) (run (Stops More) (call ∷ []) 32) (Stops More)
more_is_kept = (0, refl, record { rest = call ∷ []; is = refl }, omega arith)

-- of an undefined run nothing is said
undefined_is_kept : KeptBy (λ m. run one [] 0) (run (Stops Undefined) [] 0) (Stops Undefined)
undefined_is_kept = tt

-- not by other results
first_result : End → ℕ
first_result (Done (pos n ∷ [])) = n
first_result _ = 0

other_results : KeptBy (λ m. run (Done (pos 2 ∷ [])) [] 0) (run one [] 0) one → ⊥
unfolding first_result
other_results h = omega (arith, ap first_result h.1)

-- nor by other calls
other_calls : KeptBy (λ m. run one [] 0) (run one (call ∷ []) 0) one → ⊥
other_calls h = omega (arith, ap length h.2)

-- nor where more memory is needed
more_memory : KeptBy (λ m. run one [] 32) (run one [] 16) one → ⊥
more_memory h = omega (arith, h.3)

-- nor is one that wants more kept by one that is behind
behind : KeptBy (λ m. run (Stops More) [] 0) (run (Stops More) (call ∷ []) 0) (Stops More) → ⊥
behind h = omega (arith, ap length h.2.is)
