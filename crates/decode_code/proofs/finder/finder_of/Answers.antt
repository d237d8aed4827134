use Rattle.std.proofs.Common.{◌≡◌, ◌∷◌, ◌+◌, ◌-◌, ◌<◌, suc, drop, drop-cons, length, sym, ap, ap₂, ◌∙◌, arith}
use Rattle.run_code.specs.Views.{functions_of}
use Rattle.form_model.specs.Codes.{find_function}
use Rattle.decode_code.proofs.FinderLemmas.{found_more}
use Rattle.decode_code.proofs.finder.finder_of.Goals as goal

pub loop-k-preserved : goal.loop-k-preserved
loop-k-preserved c = λ name.
    found_more name.now _ _ (drop (length c.args.functions.now - c.loop-k.k) c.args.functions.now) _ _ c.as_slice.ensures (c.in_ok-insert.ensures.updates.0 name) (c.loop-k.invariant name)
    ∙ ap (λ l. find_function name.now (functions_of l)) (sym front)
  where
    front : drop (length c.args.functions.now - (c.loop-k.k + 1)) c.args.functions.now ≡ c.index-functions-functions.result ∷ drop (length c.args.functions.now - c.loop-k.k) c.args.functions.now
    front =
        let below : c.loop-k.k < length c.args.functions.now = omega (arith, c.loop-k-test.true) in
        let same : length c.args.functions.now - (c.loop-k.k + 1) ≡ length c.args.functions.now - 1 - c.loop-k.k = omega arith in
        let within : length c.args.functions.now - 1 - c.loop-k.k < length c.args.functions.now = omega arith in
        let next : suc (length c.args.functions.now - 1 - c.loop-k.k) ≡ length c.args.functions.now - c.loop-k.k = omega arith in
        ap (λ i. drop i c.args.functions.now) same
        ∙ drop-cons c.args.functions.now (length c.args.functions.now - 1 - c.loop-k.k) c.index-functions-functions.result within
        ∙ ap₂ (λ x j. x ∷ drop j c.args.functions.now) (sym c.index-functions-functions.is) next
