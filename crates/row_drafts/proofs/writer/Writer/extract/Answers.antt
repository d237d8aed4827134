use Rattle.std.proofs.Common.{ap, [], ◌∷◌, sym, ◌∙◌}
use Rattle.std.specs.Prelude.{codes}
use Rattle.plain_tree.specs.Types.{plain_type}
use Rattle.pattern_model.specs.Drafts.{value}
use Rattle.row_drafts.specs.Writes.{behind}
use Rattle.row_drafts.proofs.writer.Writer.extract.Goals as goal

pub returns : goal.returns
returns c = λ next.
    sym (ap (λ ps. behind c.args.self.now (value (codes "llvm.extractvalue") (c.args.from ∷ []) ps (plain_type c.args.t) next)) c.in_ok-props.ensures)
    ∙ c.in_ok-source.ensures next
