-- What one read or write does: how much it moves, and when it may answer a fault.
use Rattle.std.specs.Prelude.{◌≡◌, ℕ, ◌+◌, ◌-◌, ◌^◌, ◌<◌, ◌≤◌, min, List, length, IfOk, OnOk, OnErr, IsErrOf, Result}
use Rattle.edge_kit.specs.declared.sink.SinkFault.{SinkFault}
use Rattle.edge_kit.specs.declared.sink.SinkFault.TheVariants.{Failed, NoMemory}

-- a count of 64 bits rose, or stands at its last value
abbrev pub Rose : ℕ → ℕ → Type 0
Rose before now = min (before + 1) (2 ^ 64 - 1) ≤ now

-- a read leaves the count of faults as it was where it answers `Ok`, and fails only where the count rose
pub record ReadHasCause {T E : Type 0} (before now : ℕ) (result : Result T E) : Type 0 where
  pub quiet : OnOk result (now ≡ before)
  pub later : before ≤ now
  pub failed : OnErr result (Rose before now)

-- a write leaves the count of faults as it was where it answers `Ok` or want of memory, and answers `Failed` only where
-- the count rose; want of memory is free
pub record WriteHasCause {T : Type 0} (before now : ℕ) (result : Result T SinkFault) : Type 0 where
  pub quiet : OnOk result (now ≡ before)
  pub wanting : IsErrOf result NoMemory → now ≡ before
  pub later : before ≤ now
  pub failed : IsErrOf result Failed → Rose before now

-- a write takes at most the bytes that it was given, and at least one of them where there is one
abbrev pub TakesSome : {E : Type 0} → Result ℕ E → List ℕ → Type 0
TakesSome result bytes = IfOk result (λ count. (count ≤ length bytes) × (0 < length bytes → 0 < count))
