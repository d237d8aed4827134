use Rattle.std.proofs.Common.{◌∷◌, [], ap}
use Rattle.std.specs.Prelude.{codes}
use Rattle.plain_tree.specs.Attrs.{plain_entries}
use Rattle.plain_tree.proofs.TypeOpens.{plain-Int}
use Rattle.row_drafts.proofs.Values.{same_value}
use Rattle.memref_rows.proofs.sizes.select.Goals as goal

pub returns : goal.returns
returns c = λ next.
    same_value c.args.writer.now (codes "llvm.select") (c.args.bit ∷ c.args.size ∷ c.args.other ∷ []) _ [] _ _ (ap plain_entries c.new.ensures) (plain-Int c.args.bits) next _ (c.in_ok-made.ensures next)
