use Rattle.std.proofs.Common.{sym, ap, ap₂, ◌∙◌}
use Rattle.number_model.specs.Answers.{with_answer}
use Rattle.operation_model.specs.Values as model
use Rattle.value_code.specs.Models.{answer_of, value_of, values_of}
use Rattle.value_code.proofs.Shapes.{value_of-Aggregate}
use Rattle.compute_code.proofs.PartLaws.{put_at, if_ok, first_and_rest}
use Rattle.compute_code.proofs.inserts.+with_part.Goals as goal

pub put_inside-returns-in-Gives : goal.put_inside-returns-in-Gives
put_inside-returns-in-Gives t c =
    let at = put_at c.args.i c.args.rest.now (value_of c.args.part) c.args.parts.now c.in-Some.old.now (sym c.in-Some.ensures) in
    let inner = ap (answer_of value_of) (sym c.in-Gives.is) ∙ c.in_ok-new-in-Some.ensures in
    if_ok c.together.result (λ l same. same ∙ ap (with_answer (λ new. model.together (model.replaced (values_of c.args.parts.now) c.args.i new))) inner ∙ sym at) c.together.ensures

pub put_inside-returns-in-Undefined : goal.put_inside-returns-in-Undefined
put_inside-returns-in-Undefined t c =
    let at = put_at c.args.i c.args.rest.now (value_of c.args.part) c.args.parts.now c.in-Some.old.now (sym c.in-Some.ensures) in
    ap (with_answer (λ new. model.together (model.replaced (values_of c.args.parts.now) c.args.i new))) (ap (answer_of value_of) (sym c.in-Undefined.is) ∙ c.in_ok-new-in-Some.ensures) ∙ sym at

pub put_inside-returns-in-Outside : goal.put_inside-returns-in-Outside
put_inside-returns-in-Outside t c =
    let at = put_at c.args.i c.args.rest.now (value_of c.args.part) c.args.parts.now c.in-Some.old.now (sym c.in-Some.ensures) in
    ap (with_answer (λ new. model.together (model.replaced (values_of c.args.parts.now) c.args.i new))) (ap (answer_of value_of) (sym c.in-Outside.is) ∙ c.in_ok-new-in-Some.ensures) ∙ sym at

pub with_part-returns-in-Aggregate : goal.with_part-returns-in-Aggregate
with_part-returns-in-Aggregate t c =
    let path = first_and_rest c.args.path.now c.in-len1-up.len_at_least in
    let parts = ap (λ ps. model.together (values_of ps)) c.as_slice.ensures ∙ sym (value_of-Aggregate c.in-Aggregate.parts) ∙ sym (ap value_of c.in-Aggregate.is) in
    if_ok c.put_inside.result (λ l same. same ∙ ap₂ (λ p v. model.with_part p (value_of c.args.part) v) path parts) c.put_inside.ensures
