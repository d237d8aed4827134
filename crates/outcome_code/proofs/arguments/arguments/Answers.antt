use Rattle.std.proofs.Common.{◌≡◌, length, Some, refl, sym, ap, rules, ◌∙◌, true, false, arith}
use Rattle.std.specs.List.{slice_get}
use Rattle.std.proofs.lemmas.Option.{slice_get_read}
use Rattle.std.specs.Int.{w128}
use Rattle.std.proofs.lemmas.Int.{to_z-of_z}
use Rattle.number_model.specs.Numbers.{wrapped}
use Rattle.meaning_model.specs.Meaning.{fits}
use Rattle.outcome_code.proofs.ArgumentLaws.{one_more, unfit, too_few, too_many, all_there}
use Rattle.outcome_code.proofs.arguments.arguments.Goals as goal

pub returns-in_default : goal.returns-in_default
returns-in_default c =
    let at_w : slice_get c.args.widths.now c.loop-i.i ≡ Some c.index-widths-i.result =
    slice_get_read c.args.widths.now (length c.args.widths.now) c.loop-i.i c.index-widths-i.result refl c.loop-i-test.true c.index-widths-i.is in
    too_few c.args.widths.now c.args.args.now c.loop-i.i c.index-widths-i.result c.loop-i.all at_w (sym c.in_default.ensures) c.loop-i.invariant

pub returns-then-not-fits : goal.returns-then-not-fits
returns-then-not-fits c =
    let at_w : slice_get c.args.widths.now c.loop-i.i ≡ Some c.index-widths-i.result =
    slice_get_read c.args.widths.now (length c.args.widths.now) c.loop-i.i c.index-widths-i.result refl c.loop-i-test.true c.index-widths-i.is in
    unfit c.args.widths.now c.args.args.now c.loop-i.i c.index-widths-i.result c.in-Some.z.now c.loop-i.all at_w (sym c.in-Some.ensures) (ap (fits c.index-widths-i.result.bits) (sym (to_z-of_z w128 c.in-Some.z.now (search rules))) ∙ sym c.fits.ensures ∙ c.if-not-fits.true) c.loop-i.invariant

pub loop-i-preserved : goal.loop-i-preserved
loop-i-preserved c =
    let at_w : slice_get c.args.widths.now c.loop-i.i ≡ Some c.index-widths-i.result =
    slice_get_read c.args.widths.now (length c.args.widths.now) c.loop-i.i c.index-widths-i.result refl c.loop-i-test.true c.index-widths-i.is in
    one_more c.args.widths.now c.args.args.now c.loop-i.i c.index-widths-i.result c.in-Some.z.now c.wrapped.result c.loop-i.all c.push.new.self at_w (sym c.in-Some.ensures) (ap (fits c.index-widths-i.result.bits) (sym (to_z-of_z w128 c.in-Some.z.now (search rules))) ∙ sym c.fits.ensures ∙ c.if-not-fits.false)
    (c.wrapped.ensures ∙ ap (wrapped c.index-widths-i.result.bits) (to_z-of_z w128 c.in-Some.z.now (search rules)))
    c.in_ok-push.ensures.ok c.loop-i.invariant

pub returns-then-widths-args : goal.returns-then-widths-args
returns-then-widths-args c =
    too_many c.args.widths.now c.args.args.now c.loop-i.i c.loop-i.all c.loop-i-test.false (omega (arith, c.if-widths-args.true, c.loop-i.auto.i-end)) c.loop-i.invariant

pub returns : goal.returns
returns c =
    all_there c.args.widths.now c.args.args.now c.loop-i.i c.loop-i.all c.loop-i-test.false (omega (arith, c.if-widths-args.false, c.loop-i-test.false)) c.loop-i.invariant
