use Rattle.std.proofs.Common.{◌≡◌, List, map, ap, subst, ◌∙◌}
use Rattle.std.specs.Prelude.{IfOk}
use Rattle.plain_tree.specs.Ops.{plain_func}
use Rattle.ordered_diags.specs.declared.diag.Diag.{Diag}
use Rattle.ordered_diags.specs.Order.{IsMerged}
use Rattle.pass_fold.specs.Views.{failure_view}
use Rattle.lowered_module.specs.Lines.{all_lines, lines_text}
use Rattle.lowered_module.proofs.LineLaws.{merged_is}
use Rattle.lowered_module.proofs.lowered.lines_behind.Goals as goal

pub returns : goal.returns
returns c =
    let funcs = map plain_func c.args.folded.now.module_behind.funcs in
    let failures = map failure_view c.args.folded.now.failures in
    let given = c.in_ok-lists.ensures ∙ ap (λ fs. all_lines (map plain_func fs) (map failure_view c.as_slice.result.now)) c.as_slice-funcs.ensures ∙ ap (λ es. all_lines funcs (map failure_view es)) c.as_slice.ensures in
    let merged : c.in_ok-lines.lines ≡ all_lines funcs failures = merged_is funcs failures c.in_ok-lines.lines c.requires (subst (λ (ds : List Diag). IsMerged ds c.in_ok-lines.lines) given c.in_ok-lines.ensures) in
    subst (λ ds. IfOk c.lines_text.result (λ text. text ≡ lines_text ds)) (c.as_slice-2.ensures ∙ merged) c.lines_text.ensures
