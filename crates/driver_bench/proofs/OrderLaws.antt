-- The tables of a pass that is ready are in order.
use Rattle.std.proofs.Common.{◌≡◌, sym, ap, subst, ◌∙◌}
use Rattle.conversion_target.specs.declared.target.Target.{Target}
use Rattle.conversion_target.specs.Targets.{target_of}
use Rattle.legal_graph.specs.declared.graph.Graph.{Graph}
use Rattle.pass_rows.specs.declared.set.PassRows.{PassRows}
use Rattle.pass_targets.specs.Known.{pass_target}
use Rattle.pattern_model.specs.PassTable.{pass_of, patterns_of}
use Rattle.ready_passes.specs.declared.ready.ReadyPass.{ReadyPass}
use Rattle.unit_choices.specs.Orders.{InOrder}

pub ordered : (r : ReadyPass) (rows : PassRows) (target : Target) (graph : Graph) → rows ≡ r.rows → target ≡ r.target → graph ≡ r.graph
    → InOrder graph (target_of target) (patterns_of (pass_of rows.pass))
ordered r rows target graph of_rows of_target of_graph =
    subst (λ (g : Graph). InOrder g (target_of target) (patterns_of (pass_of rows.pass))) (sym of_graph)
    (subst (λ t. InOrder r.graph t (patterns_of (pass_of rows.pass))) (sym (ap target_of of_target ∙ r.target_is))
    (subst (λ p. InOrder r.graph (pass_target r.pass) (patterns_of (pass_of p))) (sym (ap (λ (x : PassRows). x.pass) of_rows ∙ r.rows_are)) r.in_order))
