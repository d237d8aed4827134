use Rattle.std.proofs.Common.{[], map, take}
use Rattle.plain_tree.specs.Ops.{plain_func}
use Rattle.rule_model.specs.Rules.{SoundFrom}
use Rattle.ir_verifier.proofs.module.first_in.Given as goal

abbrev pub invariant-loop-place : goal.invariant-loop-place
invariant-loop-place l = SoundFrom (map plain_func l.funcs) [] (map plain_func (take l.place l.funcs))
