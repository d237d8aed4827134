use Rattle.std.proofs.Common.{◌≡◌, take}
use Rattle.tree_model.proofs.type_copy.+copy_type.Given as goal

abbrev pub invariant-copy_types-loop-t : goal.invariant-copy_types-loop-t
invariant-copy_types-loop-t l = l.copies ≡ take l.t-index l.types
