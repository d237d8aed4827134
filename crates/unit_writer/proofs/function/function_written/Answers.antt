use Rattle.std.proofs.Common.{Some, None, ◌∙◌}
use Rattle.plain_tree.specs.Ops.{plain_op}
use Rattle.unit_writer.proofs.FrameLaws.{function_by}
use Rattle.unit_writer.proofs.function.function_written.Goals as goal

pub returns-in-Some : goal.returns-in-Some
returns-in-Some c =
    function_by c.args.choices.now (plain_op c.args.function.now) (plain_op c.in_ok-framed-in-Some.field-0) c.as_slice.result.now c.as_slice-2.result.now (Some c.in-Some.framing) _ _ c.as_slice.ensures.value
    (c.as_slice-2.ensures.value ∙ c.in_ok-sizes.ensures) c.in-Some.is c.in_ok-framed-in-Some.ensures

pub returns : goal.returns
returns c =
    function_by c.args.choices.now (plain_op c.args.function.now) (plain_op c.in_ok-unframed-in-None.field-0) c.as_slice.result.now c.as_slice-2.result.now None _ _ c.as_slice.ensures.value
    (c.as_slice-2.ensures.value ∙ c.in_ok-sizes.ensures) c.in-None.is c.in_ok-unframed-in-None.ensures
