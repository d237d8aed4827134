use Rattle.std.proofs.Common.{◌+◌, ◌∙◌, drop, map}
use Rattle.plain_tree.specs.Types.{plain_type}
use Rattle.conversion_model.specs.Chosen.{change_of, take_operands}
use Rattle.choice_code.specs.Drafts.{done_of, state_of}
use Rattle.choice_code.proofs.CastLaws.{operand_next, operands_ended}
use Rattle.choice_code.proofs.draft.Draft.take_operands.Goals as goal

pub each-preserved : goal.each-preserved
each-preserved c = λ next.
    c.each.invariant next
    ∙ operand_next (change_of c.args.bits c.args.converted) c.args.types.now c.each.place c.index-types-place.result (done_of c.each.self) (state_of c.each.self) c.each-test.true c.index-types-place.is next
    ∙ c.in_ok-take_at.ensures (take_operands (change_of c.args.bits c.args.converted) next (c.each.place + 1) (map plain_type (drop (c.each.place + 1) c.args.types.now)))

pub returns : goal.returns
returns c = λ next.
    c.each.invariant next ∙ operands_ended (change_of c.args.bits c.args.converted) c.args.types.now c.each.place (done_of c.each.self) (state_of c.each.self) c.each-test.false next
