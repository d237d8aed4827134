use Rattle.std.proofs.Common.{◌∙◌, ap}
use Rattle.row_drafts.specs.Writes.{behind}
use Rattle.memref_rows.specs.Parts.{one_size}
use Rattle.memref_rows.proofs.layout.one_size.Goals as goal

pub returns-in_ok-source-in-Fixed : goal.returns-in_ok-source-in-Fixed
returns-in_ok-source-in-Fixed c = λ next.
    ap (λ d. behind c.args.writer.now (one_size c.args.bits d c.args.taken.now next)) c.in-Fixed.is ∙ c.in_ok-source-in-Fixed.ensures (λ s. next s c.args.taken.now)
