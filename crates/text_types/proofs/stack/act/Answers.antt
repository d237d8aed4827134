use Rattle.std.proofs.Common.{reverse, map, ap, ◌∙◌, sym, arith, refl}
use Rattle.std.proofs.lemmas.Grind.{common_steps}
use Rattle.term_table.specs.Terms.{term_at}
use Rattle.text_types.specs.declared.action.Action.{Action}
use Rattle.text_types.specs.Items.{acted}
use Rattle.text_types.proofs.StackLaws.{on_ok_is, ok_is, put_is, stands_put, zero_before, grows_refl}
use Rattle.text_types.proofs.stack.act.Goals as goal

pub returns-in_ok-push-in-End-clause-stands : goal.returns-in_ok-push-in-End-clause-stands
returns-in_ok-push-in-End-clause-stands c =
    ok_is c.args.terms.now.nodes.keys (reverse c.push.new.self.items) _ _
    (stands_put c.args.terms.now.nodes.keys c.args.terms.now.nodes.keys 0 (reverse c.args.stack.now.items) (reverse c.push.new.self.items) (term_at c.args.terms.now.nodes.keys 0) (grows_refl c.args.terms.now.nodes.keys) (omega arith) refl c.requires.stack (grind (arith, common_steps)))
    (zero_before c.args.terms.now.nodes.keys (map (term_at c.args.terms.now.nodes.keys) (reverse c.args.stack.now.items)) (map (term_at c.args.terms.now.nodes.keys) (reverse c.args.stack.now.items)) refl
    ∙ ap (λ (a : Action). acted (term_at c.args.terms.now.nodes.keys c.args.alias) a (map (term_at c.args.terms.now.nodes.keys) (reverse c.args.stack.now.items))) (sym c.in-End.is))

pub returns-in-Put-clause-stands : goal.returns-in-Put-clause-stands
returns-in-Put-clause-stands c =
    on_ok_is c.put.result c.put.new.terms.nodes.keys (reverse c.put.new.stack.items) _ _ c.put.ensures.stands
    (put_is c.args.terms.now.nodes.keys c.in-Put.form c.in-Put.value (reverse c.args.stack.now.items)
    ∙ ap (λ (a : Action). acted (term_at c.args.terms.now.nodes.keys c.args.alias) a (map (term_at c.args.terms.now.nodes.keys) (reverse c.args.stack.now.items))) (sym c.in-Put.is))
