use Rattle.std.proofs.Common.{◌≡◌, length, Some, refl}
use Rattle.std.specs.List.{slice_get}
use Rattle.std.proofs.lemmas.Option.{slice_get_read}
use Rattle.round_code.proofs.AnswerLaws.{answered_more}
use Rattle.round_code.proofs.outside.answered.Goals as goal

pub loop-i-preserved : goal.loop-i-preserved
loop-i-preserved c =
    let at : slice_get c.args.widths.now c.loop-i.i ≡ Some c.index-widths-i.result =
    slice_get_read c.args.widths.now (length c.args.widths.now) c.loop-i.i c.index-widths-i.result refl c.loop-i-test.true c.index-widths-i.is in
    answered_more c.args.widths.now c.args.answers.now c.loop-i.i c.index-widths-i.result c.answer_at.result c.loop-i.all c.push.new.self at c.answer_at.ensures c.in_ok-push.ensures.ok c.loop-i.invariant
