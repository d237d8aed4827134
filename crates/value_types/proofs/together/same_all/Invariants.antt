use Rattle.std.proofs.Common.{◌≡◌, drop, length}
use Rattle.rule_model.specs.Forms.{same_all}
use Rattle.value_types.specs.Views.{plain_types}
use Rattle.value_types.proofs.together.same_all.Given as goal

abbrev pub invariant-loop-t : goal.invariant-loop-t
invariant-loop-t l = same_all (plain_types (drop (length l.yielded) l.types)) (plain_types (drop (length l.yielded) l.others)) ≡ same_all (plain_types l.types) (plain_types l.others)
