use Rattle.std.proofs.Common.{ap, List, ℕ, [], sym, ◌∙◌}
use Rattle.std.specs.Prelude.{codes}
use Rattle.tree_model.specs.declared.attr_tree.AttrTree.{AttrTree}
use Rattle.plain_tree.specs.Types.{plain_type}
use Rattle.plain_tree.specs.Attrs.{plain_entries}
use Rattle.pattern_model.specs.Drafts.{value}
use Rattle.row_drafts.specs.Writes.{behind}
use Rattle.row_drafts.proofs.writer.Writer.undef.Goals as goal

pub returns : goal.returns
returns c = λ next.
    sym (ap (λ (es : List (List ℕ × AttrTree)). behind c.args.self.now (value (codes "llvm.mlir.undef") [] (plain_entries es) (plain_type c.args.t.now) next)) c.new.ensures)
    ∙ sym (ap (λ t. behind c.args.self.now (value (codes "llvm.mlir.undef") [] (plain_entries c.new.result) (plain_type t) next)) c.in_ok-made.ensures)
    ∙ c.in_ok-source.ensures next
