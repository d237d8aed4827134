use Rattle.std.proofs.Common.{◌∙◌, ◌∷◌, [], ap}
use Rattle.std.specs.Prelude.{codes}
use Rattle.plain_tree.proofs.TypeOpens.{plain-Ptr}
use Rattle.row_drafts.proofs.Values.{same_value}
use Rattle.memref_rows.specs.Rows.{place_props}
use Rattle.memref_rows.proofs.places.element_at.Goals as goal

pub returns : goal.returns
returns c = λ next.
    same_value c.args.writer.now (codes "llvm.getelementptr") (c.args.pointer ∷ c.args.offset ∷ []) _ _ _ _ (c.in_ok-props.ensures ∙ ap place_props c.in_ok-t.ensures.plain) plain-Ptr next _ (c.in_ok-place.ensures next)
