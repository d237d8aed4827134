use Rattle.std.proofs.Common.{◌≡◌, take}
use Rattle.tree_model.proofs.attr_copy.+copy_attr.Given as goal

abbrev pub invariant-copy_attrs-loop-a : goal.invariant-copy_attrs-loop-a
invariant-copy_attrs-loop-a l = l.copies ≡ take l.a-index l.attrs

abbrev pub invariant-copy_dict-loop-entry : goal.invariant-copy_dict-loop-entry
invariant-copy_dict-loop-entry l = l.copies ≡ take l.entry-index l.entries
