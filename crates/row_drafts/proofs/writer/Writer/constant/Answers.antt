use Rattle.std.proofs.Common.{ap, [], sym, ◌∙◌, rules, w64, to_z, of_z}
use Rattle.std.specs.Prelude.{codes}
use Rattle.std.proofs.lemmas.Int.{to_z-of_z}
use Rattle.plain_tree.specs.Types.{plain_type}
use Rattle.pattern_model.specs.Drafts.{constant_value, value}
use Rattle.row_drafts.specs.Writes.{behind}
use Rattle.row_drafts.proofs.writer.Writer.constant.Goals as goal

pub returns : goal.returns
returns c = λ next.
    let number = to_z-of_z w64 c.args.number (search rules) in
    sym (ap (λ ps. behind c.args.self.now (value (codes "llvm.mlir.constant") [] ps (plain_type c.args.t) next))
    (c.in_ok-props.ensures ∙ ap (λ k. constant_value (plain_type k) (to_z w64 (of_z w64 c.args.number))) c.in_ok-kept.ensures ∙ ap (constant_value (plain_type c.args.t)) number))
    ∙ c.in_ok-source.ensures next
