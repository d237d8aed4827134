use Rattle.std.proofs.Common.{◌≡◌, length, take}
use Rattle.tree_model.proofs.attr_same.+same_attr.Given as goal

abbrev pub invariant-same_attrs-loop-v : goal.invariant-same_attrs-loop-v
invariant-same_attrs-loop-v l = take (length l.yielded) l.a ≡ take (length l.yielded) l.b

abbrev pub invariant-same_dict-loop-v : goal.invariant-same_dict-loop-v
invariant-same_dict-loop-v l = take (length l.yielded) l.a ≡ take (length l.yielded) l.b
