use Rattle.std.proofs.Common.{◌≡◌, ◌∷◌, ◌+◌, ◌<◌, suc, drop, drop-cons, length, sym, ap, ap₂, ◌∙◌, arith, rules}
use Rattle.number_model.specs.Answers.{with_answer}
use Rattle.number_model.specs.Numbers.{signed}
use Rattle.operation_model.specs.Pures as model
use Rattle.value_code.specs.Models.{step_of, value_of, values_of}
use Rattle.value_code.proofs.Sums.{one_index}
use Rattle.value_code.proofs.elements.indexed.Goals as goal

pub loop-k-preserved : goal.loop-k-preserved
loop-k-preserved c =
    one_index c.args.bits (value_of c.args.m.now) c.requires.high (value_of c.index-xs-k.result) c.loop-k.k c.loop-k.sum c.add_product-sum.result (c.in-Gives.i, c.in-Gives.stride) (values_of (drop (c.loop-k.k + 1) c.args.xs.now))
    (ap step_of (sym c.in-Gives.is) ∙ c.step.ensures) c.add_product-sum.ensures
    ∙ ap (λ l. with_answer (signed c.args.bits) (model.indexed c.args.bits (value_of c.args.m.now) c.loop-k.k c.loop-k.sum (values_of l))) (sym front)
    ∙ c.loop-k.invariant
  where
    front : drop c.loop-k.k c.args.xs.now ≡ c.index-xs-k.result ∷ drop (c.loop-k.k + 1) c.args.xs.now
    front =
        let next : suc c.loop-k.k ≡ c.loop-k.k + 1 = omega arith in
        let within : c.loop-k.k < length c.args.xs.now = search rules in
        drop-cons c.args.xs.now c.loop-k.k c.index-xs-k.result within ∙ ap₂ (λ x j. x ∷ drop j c.args.xs.now) (sym c.index-xs-k.is) next
