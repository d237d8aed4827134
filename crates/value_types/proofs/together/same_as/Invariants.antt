use Rattle.std.proofs.Common.{◌≡◌, drop, length, map}
use Rattle.rule_model.specs.Forms.{same_all}
use Rattle.plain_tree.specs.Types.{plain_type}
use Rattle.value_types.specs.Views.{plain_types}
use Rattle.value_types.proofs.together.same_as.Given as goal

abbrev pub invariant-loop-t : goal.invariant-loop-t
invariant-loop-t l = same_all (plain_types (drop (length l.yielded) l.types)) (map plain_type (drop (length l.yielded) l.others)) ≡ same_all (plain_types l.types) (map plain_type l.others)
