use Rattle.std.proofs.Common.{◌∙◌, List, Some, sym, ap}
use Rattle.conversion_model.specs.declared.templates.Source.{Source}
use Rattle.pattern_model.specs.Drafts.{gives}
use Rattle.pattern_model.specs.MemrefRows.{size_at}
use Rattle.row_drafts.specs.Writes.{behind}
use Rattle.memref_rows.specs.Rows.{chosen_size}
use Rattle.tree_model.specs.declared.type_tree.Dim.TheVariants.{Dynamic}
use Rattle.memref_rows.proofs.PartLaws.{choice_ended, choice_more}
use Rattle.memref_rows.proofs.sizes.chosen_size.Goals as goal

pub returns : goal.returns
returns c =
    ap Some (c.finish.ensures ∙ ap (λ (rs : List Source). behind c.each.writer (gives rs)) c.in_ok-results.ensures
    ∙ sym (c.in_ok-size.ensures (λ r. size_at c.args.bits 1 c.args.dims.now r)
    ∙ c.each.invariant
    ∙ choice_ended c.args.bits c.each.place c.args.dims.now c.each.size c.each.writer c.each-test.false)
    ∙ c.new-writer.ensures (chosen_size c.args.bits c.args.dims.now))

pub each-preserved : goal.each-preserved
each-preserved c =
    c.each.invariant
    ∙ choice_more c.args.bits c.each.place c.args.dims.now c.each.size c.in_ok-size-2.size Dynamic c.each.writer c.one_choice.new.writer c.each-test.true c.in_ok-size-2.ensures
