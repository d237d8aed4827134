use Rattle.std.proofs.Common.{sym, ap, ◌∙◌, min, ◌^◌}
use Rattle.operation_model.specs.Straight.{elements, size_values, strides}
use Rattle.layout_code.specs.Sizes.{sizes_of}
use Rattle.value_code.specs.Models.{values_of}
use Rattle.doing_code.proofs.AccessLaws.{asked}
use Rattle.doing_code.proofs.access.of_sizes.Goals as goal

pub returns : goal.returns
returns c =
    asked c.args.l.now.alignment c.args.l.now.bits.bits c.args.l.now.element.bits c.element_count-count.result c.byte_size.result c.min-bytes.result (sizes_of c.args.sizes.now)
    (values_of c.in_ok-sizes.sizes) (values_of c.in_ok-strides.strides)
    (c.element_count-count.ensures ∙ ap (λ ss. min (elements (sizes_of ss)) (2 ^ 65)) c.as_slice.ensures) c.byte_size.ensures.value c.min-bytes.ensures
    (c.in_ok-sizes.ensures ∙ ap (λ ss. size_values (sizes_of ss)) c.as_slice-3.ensures)
    (c.in_ok-strides.ensures ∙ ap (λ ss. strides c.args.l.now.bits.bits (sizes_of ss)) c.as_slice-2.ensures)
