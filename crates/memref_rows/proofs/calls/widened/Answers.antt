use Rattle.std.proofs.Common.{◌∷◌, [], ap, rules}
use Rattle.plain_tree.specs.Attrs.{plain_entries}
use Rattle.plain_tree.proofs.TypeOpens.{plain-Int}
use Rattle.row_drafts.proofs.Values.{same_value}
use Rattle.memref_rows.proofs.PartLaws.{narrow}
use Rattle.memref_rows.proofs.calls.widened.Goals as goal

pub returns : goal.returns
returns c = λ next. let h = same_value c.args.writer.now c.args.name.now (c.args.number ∷ []) _ [] _ _ (ap plain_entries c.new.ensures) (plain-Int 64) next _ (c.in_ok-wide.ensures next) in
    narrow c.args.writer.now c.args.name.now c.args.bits c.args.number next _ (search rules) h
