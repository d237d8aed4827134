use Rattle.std.proofs.Common.{◌∙◌, ◌∷◌, [], List, Some, sym, ap}
use Rattle.conversion_model.specs.declared.templates.Source.{Source}
use Rattle.pattern_model.specs.Drafts.{gives}
use Rattle.row_drafts.specs.Writes.{behind}
use Rattle.memref_rows.specs.Rows.{rank_draft}
use Rattle.memref_rows.proofs.sizes.rank_number.Goals as goal

pub returns : goal.returns
returns c =
    ap Some (c.finish.ensures ∙ ap (λ (rs : List Source). behind c.natural.new.writer (gives rs)) c.in_ok-results.ensures
    ∙ sym (c.in_ok-number.ensures (λ r. gives (r ∷ [])))
    ∙ c.new-writer.ensures (rank_draft c.args.bits c.args.rank))
