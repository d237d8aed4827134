use Rattle.std.proofs.Common.{◌++◌, true≢false, ◌∷◌, [], length, sym, ap, ◌∙◌}
use Rattle.operation_model.specs.Values as values
use Rattle.value_code.specs.Models.{pointer_at, values_of}
use Rattle.value_code.proofs.Shapes.{value_of-Aggregate}
use Rattle.step_code.proofs.StepLaws.{empty_of, descriptor_flat, descriptor_full}
use Rattle.step_code.proofs.replies.descriptor.Goals as goal

pub returns-then-is_empty : goal.returns-then-is_empty
returns-then-is_empty c = value_of-Aggregate c.in_ok-head.head ∙ ap values.together c.in_ok-head.ensures ∙ sym (descriptor_flat (pointer_at c.args.at) c.args.sizes c.args.strides (ap length (c.is_empty.ensures.0 c.if-is_empty.true)))

pub returns-in_ok-with_arrays : goal.returns-in_ok-with_arrays
returns-in_ok-with_arrays c =
    c.in_ok-with_arrays.ensures ∙ ap (λ l. values.together (l ++ values.together (values_of c.args.sizes) ∷ values.together (values_of c.args.strides) ∷ [])) c.in_ok-head.ensures
    ∙ sym (descriptor_full (pointer_at c.args.at) c.args.sizes c.args.strides (λ h. true≢false (sym (c.is_empty.ensures.1 (empty_of c.args.sizes h)) ∙ c.if-is_empty.false)))
