use Rattle.std.proofs.Common.{ap, sym, ◌∙◌}
use Rattle.pattern_model.specs.MemrefRows.{extract}
use Rattle.conversion_model.specs.Types.{number_type}
use Rattle.row_drafts.specs.Writes.{behind}
use Rattle.row_drafts.proofs.writer.Writer.extract_number_in.Goals as goal

pub returns : goal.returns
returns c = λ next.
    sym (ap (λ path. behind c.args.self.now (extract c.args.from path (number_type c.args.bits) next)) c.in_ok-path.ensures)
    ∙ c.in_ok-source.ensures next
