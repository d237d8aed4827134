use Rattle.std.proofs.Common.{◌≡◌, take}
use Rattle.func_rows.proofs.calls.struct_of.Given as goal

abbrev pub invariant-each : goal.invariant-each
invariant-each l = l.fields ≡ take l.t-index l.types
