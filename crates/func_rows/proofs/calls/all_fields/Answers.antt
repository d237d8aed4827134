use Rattle.std.proofs.Common.{◌∙◌, ◌++◌, List, append_assoc, sym, ap}
use Rattle.conversion_model.specs.declared.templates.Source.{Source}
use Rattle.pattern_model.specs.FuncRows.{fields_at}
use Rattle.row_drafts.specs.Writes.{behind}
use Rattle.func_rows.proofs.calls.all_fields.Goals as goal

pub returns : goal.returns
returns c = λ next.
    c.in_ok-fields.ensures (λ fs. fields_at c.args.bits c.args.from 3 0 c.args.dims.now λ ss. fields_at c.args.bits c.args.from 4 0 c.args.dims.now λ ts. next (fs ++ (ss ++ ts)))
    ∙ c.in_ok-sizes.ensures (λ ss. fields_at c.args.bits c.args.from 4 0 c.args.dims.now λ ts. next (c.in_ok-fields.fields ++ (ss ++ ts)))
    ∙ c.in_ok-strides.ensures (λ ts. next (c.in_ok-fields.fields ++ (c.in_ok-sizes.sizes ++ ts)))
    ∙ ap (λ (ss : List Source). behind c.array_fields-2.new.writer (next ss)) (sym (append_assoc c.in_ok-fields.fields c.in_ok-sizes.sizes c.in_ok-strides.strides) ∙ ap (λ (l : List Source). l ++ c.in_ok-strides.strides) (sym c.in_ok-append.ensures) ∙ sym c.in_ok-append-2.ensures)
