use Rattle.std.proofs.Common.{◌∙◌, List, Some, map, sym, ap}
use Rattle.plain_tree.specs.Types.{PlainType, plain_type}
use Rattle.conversion_model.specs.declared.templates.Source.{Source}
use Rattle.pattern_model.specs.ArithRows.{all_types}
use Rattle.pattern_model.specs.Drafts.{gives}
use Rattle.pattern_model.specs.FuncRows.{return_by}
use Rattle.row_drafts.specs.Writes.{behind}
use Rattle.func_rows.proofs.FieldLaws.{fields_again}
use Rattle.func_rows.proofs.returns.return_template.Goals as goal

pub returns : goal.returns
returns c =
    let e = ap (map plain_type) c.as_slice.ensures ∙ fields_again _ _ c.in_ok-types.ensures in
    ap Some (c.finish.ensures ∙ ap (λ (rs : List Source). behind c.return_by.new.writer (gives rs)) c.new.ensures
    ∙ sym (sym (ap (λ (ts : List PlainType). behind c.new-writer.result (return_by ts)) e) ∙ c.in_ok-return_by.ensures)
    ∙ c.new-writer.ensures (return_by (all_types c.args.bits (map plain_type c.args.operands.now))))
