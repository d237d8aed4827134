use Rattle.std.proofs.Common.{sym, ap, ◌∙◌, Bor}
use Rattle.std.specs.Prelude.{Option}
use Rattle.std.specs.Option.{option_map}
use Rattle.tree_model.specs.declared.type_tree.TypeTree.{TypeTree}
use Rattle.form_code.proofs.SeenLemmas.{type_at_is}
use Rattle.form_code.proofs.seen.operand_type.Goals as goal

pub returns-in-Some : goal.returns-in-Some
returns-in-Some c =
    ap (λ (o : Option (Bor TypeTree)). option_map (λ t. t.now) o) c.in-Some.ensures ∙ sym (type_at_is c.args.seen.now.operands.now c.args.n)

pub returns-in-None : goal.returns-in-None
returns-in-None c =
    ap (λ (o : Option (Bor TypeTree)). option_map (λ t. t.now) o) c.in-None.ensures ∙ sym (type_at_is c.args.seen.now.operands.now c.args.n)
