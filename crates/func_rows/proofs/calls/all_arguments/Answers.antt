use Rattle.std.proofs.Common.{◌≡◌, ◌∙◌, List, subst}
use Rattle.plain_tree.specs.Types.{plain_type}
use Rattle.conversion_model.specs.declared.templates.Source.{Source}
use Rattle.pattern_model.specs.Drafts.{Draft}
use Rattle.row_drafts.specs.Buffers.{as_buffer}
use Rattle.row_drafts.specs.Writes.{behind}
use Rattle.func_rows.specs.Parts.{one_argument}
use Rattle.func_rows.proofs.PartLaws.{argument_more}
use Rattle.func_rows.proofs.calls.all_arguments.Goals as goal

pub each-preserved : goal.each-preserved
each-preserved c = λ next.
    let h = subst (λ k. (next : List Source → Draft) → behind c.each.writer (one_argument c.args.bits k (as_buffer (plain_type c.index-types-place.result)) next) ≡ behind c.argument.new.writer (next c.in_ok-more.more)) c.in_ok-operand.ensures c.in_ok-more.ensures in
    c.each.invariant next
    ∙ argument_more c.args.bits c.args.types.now c.each.place c.index-types-place.result c.each.sources c.in_ok-more.more _ c.each.writer c.argument.new.writer c.each-test.true c.index-types-place.is c.in_ok-append.ensures h next
