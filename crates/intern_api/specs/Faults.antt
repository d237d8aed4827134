-- When an interner may say that a shard is full.
use Rattle.std.specs.Prelude.{◌≡◌, ℕ, Option, Some}
use Rattle.intern_api.specs.declared.fault.InternFault.{InternFault}
use Rattle.intern_api.specs.declared.fault.InternFault.TheVariants.{Full, NoMemory}

-- a shard is full only where there is a cap, which is the count
abbrev pub IsFaultUnder : Option ℕ → InternFault → Type 0
IsFaultUnder cap (Full count) = cap ≡ Some count
IsFaultUnder cap NoMemory = Unit {0}
