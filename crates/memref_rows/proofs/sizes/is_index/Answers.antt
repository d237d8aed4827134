use Rattle.std.proofs.Common.{◌∷◌, []}
use Rattle.std.specs.Prelude.{codes}
use Rattle.plain_tree.proofs.TypeOpens.{plain-Int}
use Rattle.conversion_model.specs.declared.templates.Source.TheVariants.{Operand}
use Rattle.row_drafts.proofs.Values.{same_value}
use Rattle.memref_rows.proofs.sizes.is_index.Goals as goal

pub returns : goal.returns
returns c = λ next.
    same_value c.args.writer.now (codes "llvm.icmp") (Operand 1 ∷ c.args.number ∷ []) _ _ _ _ c.in_ok-props.ensures (plain-Int 1) next _ (c.in_ok-bit.ensures next)
