use Rattle.std.proofs.Common.{ap, sym, ◌∙◌, rules, w64}
use Rattle.std.proofs.lemmas.Int.{to_z-of_z}
use Rattle.tree_model.specs.declared.type_tree.TypeTree as type
use Rattle.plain_tree.specs.Types.{plain_type}
use Rattle.plain_tree.proofs.TypeOpens.{plain-Int}
use Rattle.pattern_model.specs.MemrefRows.{constant}
use Rattle.row_drafts.specs.Writes.{behind}
use Rattle.row_drafts.proofs.writer.Writer.number.Goals as goal

pub returns : goal.returns
returns c = λ next.
    sym (ap (λ t. behind c.args.self.now (constant c.args.number t next)) (plain-Int c.args.bits))
    ∙ sym (ap (λ n. behind c.args.self.now (constant n (plain_type (type.Int c.args.bits)) next)) (to_z-of_z w64 c.args.number (search rules)))
    ∙ c.in_ok-source.ensures next
