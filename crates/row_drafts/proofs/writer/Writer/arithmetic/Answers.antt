use Rattle.std.proofs.Common.{ap, sym, ◌∙◌}
use Rattle.plain_tree.proofs.TypeOpens.{plain-Int}
use Rattle.pattern_model.specs.MemrefRows.{two}
use Rattle.row_drafts.specs.Writes.{behind}
use Rattle.row_drafts.proofs.writer.Writer.arithmetic.Goals as goal

pub returns : goal.returns
returns c = λ next.
    sym (ap (λ t. behind c.args.self.now (two c.args.name.now c.args.x c.args.y t next)) (plain-Int c.args.bits))
    ∙ c.in_ok-source.ensures next
