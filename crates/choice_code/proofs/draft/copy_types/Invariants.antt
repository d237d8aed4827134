use Rattle.std.proofs.Common.{◌≡◌, take}
use Rattle.choice_code.proofs.draft.copy_types.Given as goal

abbrev pub invariant-each : goal.invariant-each
invariant-each l = l.copies ≡ take l.t-index l.types
