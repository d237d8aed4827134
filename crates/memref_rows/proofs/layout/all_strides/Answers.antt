use Rattle.std.proofs.Common.{◌∙◌, ap}
use Rattle.row_drafts.specs.Writes.{behind}
use Rattle.memref_rows.proofs.PartLaws.{strides_split}
use Rattle.memref_rows.proofs.layout.all_strides.Goals as goal

pub returns : goal.returns
returns c = λ next.
    ap (behind c.args.writer.now) (strides_split c.args.bits c.args.last c.args.sizes.now next c.in-len1-up.len_at_least) ∙ c.in_ok-strides.ensures next
