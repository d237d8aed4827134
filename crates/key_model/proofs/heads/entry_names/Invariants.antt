use Rattle.std.proofs.Common.{◌≡◌, take}
use Rattle.key_model.specs.Parts.{names_of}
use Rattle.key_model.proofs.heads.entry_names.Given as goal

abbrev pub invariant-loop-entry : goal.invariant-loop-entry
invariant-loop-entry l = l.names.items ≡ names_of (take l.entry-index l.entries)
