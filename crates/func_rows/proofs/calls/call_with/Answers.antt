use Rattle.std.proofs.Common.{◌≡◌, ◌∙◌, List, Some, map, sym, ap, subst}
use Rattle.tree_model.specs.declared.type_tree.TypeTree.{TypeTree}
use Rattle.plain_tree.specs.Types.{PlainType, plain_type}
use Rattle.plain_tree.specs.Attrs.{plain_entries}
use Rattle.conversion_model.specs.declared.templates.Source.{Source}
use Rattle.pattern_model.specs.ArithRows.{all_types}
use Rattle.pattern_model.specs.Drafts.{Draft}
use Rattle.pattern_model.specs.FuncRows.{arguments, called}
use Rattle.row_code.specs.Shapes.{shape_of}
use Rattle.row_drafts.specs.Writes.{behind}
use Rattle.func_rows.specs.Parts.{call_draft}
use Rattle.func_rows.proofs.FieldLaws.{fields_again}
use Rattle.func_rows.proofs.calls.call_with.Goals as goal

pub returns : goal.returns
returns c =
    let h = subst (λ (ts : List TypeTree). (next : List Source → Draft) → behind c.new-writer.result (arguments c.args.bits 0 (map plain_type ts) next) ≡ behind c.all_arguments.new.writer (next c.in_ok-sources.sources)) c.as_slice.ensures c.in_ok-sources.ensures in
    let e = ap (map plain_type) c.as_slice-4.ensures ∙ fields_again _ _ c.in_ok-types.ensures ∙ ap (λ (ts : List TypeTree). all_types c.args.bits (map plain_type ts)) c.as_slice-2.ensures in
    ap Some (c.finish.ensures
    ∙ sym (h (λ ss. called (plain_entries c.args.props) ss (all_types c.args.bits (map plain_type c.args.shape.now.results)))
    ∙ sym (ap (λ (ss : List Source). behind c.all_arguments.new.writer (called (plain_entries c.args.props) ss (all_types c.args.bits (map plain_type c.args.shape.now.results)))) c.as_slice-3.ensures)
    ∙ sym (ap (λ (ts : List PlainType). behind c.all_arguments.new.writer (called (plain_entries c.args.props) c.as_slice-3.result.now ts)) e)
    ∙ c.in_ok-results.ensures)
    ∙ c.new-writer.ensures (call_draft c.args.bits (plain_entries c.args.props) (shape_of c.args.shape.now)))
