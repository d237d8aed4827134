use Rattle.std.proofs.Common.{ap, sym, ◌∙◌}
use Rattle.plain_tree.specs.Types.{plain_type}
use Rattle.pattern_model.specs.MemrefRows.{insert}
use Rattle.row_drafts.specs.Writes.{behind}
use Rattle.row_drafts.proofs.writer.Writer.insert_in.Goals as goal

pub returns : goal.returns
returns c = λ next.
    sym (ap (λ path. behind c.args.self.now (insert c.args.into c.args.value path (plain_type c.args.t.now) next)) c.in_ok-path.ensures)
    ∙ c.in_ok-source.ensures next
