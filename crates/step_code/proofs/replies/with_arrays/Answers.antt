use Rattle.std.proofs.Common.{ap, ◌∙◌}
use Rattle.operation_model.specs.Values as values
use Rattle.value_code.specs.declared.value.Value as value
use Rattle.value_code.proofs.Shapes.{value_of-Aggregate}
use Rattle.step_code.proofs.StepLaws.{two_behind}
use Rattle.step_code.proofs.replies.with_arrays.Goals as goal

pub returns : goal.returns
returns c =
    value_of-Aggregate c.push-2.new.self
    ∙ ap values.together (two_behind c.args.head c.args.sizes c.args.strides (value.Aggregate c.args.sizes) (value.Aggregate c.args.strides) c.push.new.self c.push-2.new.self
    (value_of-Aggregate c.args.sizes) (value_of-Aggregate c.args.strides) c.in_ok-push.ensures.ok c.in_ok-push-2.ensures.ok)
