use Rattle.std.proofs.Common.{rules, ◌≡◌, ◌++◌, ◌∷◌, [], length, Some, refl, sym, ap, ◌∙◌}
use Rattle.std.specs.List.{slice_get}
use Rattle.std.proofs.lemmas.Option.{slice_get_read}
use Rattle.std.specs.Int.{w64}
use Rattle.std.proofs.lemmas.Int.{to_z-of_z}
use Rattle.round_code.proofs.AnswerLaws.{signed_more, signed_end}
use Rattle.round_code.proofs.outside.signed_numbers.Goals as goal

pub returns-in-None : goal.returns-in-None
returns-in-None c = signed_end c.args.widths.now c.args.ns.now c.loop-i.i c.loop-i.all (sym c.in-None.ensures) c.loop-i.invariant

pub loop-i-preserved : goal.loop-i-preserved
loop-i-preserved c =
    let at : slice_get c.args.widths.now c.loop-i.i ≡ Some c.index-widths-i.result =
    slice_get_read c.args.widths.now (length c.args.widths.now) c.loop-i.i c.index-widths-i.result refl c.loop-i-test.true c.index-widths-i.is in
    signed_more c.args.widths.now c.args.ns.now c.loop-i.i c.index-widths-i.result c.in-Some.n.now c.signed_number.result c.loop-i.all c.push.new.self at (sym c.in-Some.ensures)
    c.signed_number.ensures (c.in_ok-push-in-Some.ensures.ok ∙ ap (λ z. c.loop-i.all ++ z ∷ []) (to_z-of_z w64 c.signed_number.result (search rules))) c.loop-i.invariant
