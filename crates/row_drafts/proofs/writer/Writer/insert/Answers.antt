use Rattle.std.proofs.Common.{ap, [], ◌∷◌, sym, ◌∙◌}
use Rattle.std.specs.Prelude.{codes}
use Rattle.plain_tree.specs.Types.{plain_type}
use Rattle.plain_tree.specs.Attrs.{plain_entries}
use Rattle.pattern_model.specs.Drafts.{value}
use Rattle.row_drafts.specs.Writes.{behind}
use Rattle.row_drafts.proofs.writer.Writer.insert.Goals as goal

pub returns : goal.returns
returns c = λ next.
    sym (ap (λ ps. behind c.args.self.now (value (codes "llvm.insertvalue") (c.args.into ∷ c.args.value ∷ []) ps (plain_type c.args.t.now) next)) c.in_ok-props.ensures
    ) ∙ sym (ap (λ t. behind c.args.self.now (value (codes "llvm.insertvalue") (c.args.into ∷ c.args.value ∷ []) (plain_entries c.in_ok-props.props) (plain_type t) next)) c.in_ok-made.ensures)
    ∙ c.in_ok-source.ensures next
