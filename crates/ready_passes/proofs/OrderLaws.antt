-- The graph of a pass gives the order of its patterns.
use Rattle.std.proofs.Common.{◌≡◌, ℕ, List, map, sym, ap, subst, ◌∙◌}
use Rattle.conversion_model.specs.Targets.{Target}
use Rattle.conversion_model.specs.Rows.{Pattern}
use Rattle.conversion_model.specs.Chosen.{Ranked, order}
use Rattle.legal_graph.specs.declared.graph.Graph.{Graph}
use Rattle.legal_graph.specs.declared.infos.PatternInfo.{PatternInfo}
use Rattle.legal_graph.specs.Graphs.{info_of, order_in_graph}
use Rattle.pipeline_text.specs.declared.pass.PassName.{PassName}
use Rattle.pattern_model.specs.PassTable.{pass_of, patterns_of}
use Rattle.unit_choices.specs.Orders.{InOrder}

abbrev Orders : Graph → Target → List PatternInfo → Type 0
Orders graph target infos = (table : List Pattern) → map info_of table ≡ infos → (name : List ℕ) → order_in_graph graph name ≡ map (λ (r : Ranked). r.place) (order target table name)

pub in_order : (graph : Graph) (said wanted : Target) (rows pass : PassName) (infos : List PatternInfo) → rows ≡ pass → said ≡ wanted
    → infos ≡ map info_of (patterns_of (pass_of rows)) → Orders graph said infos → InOrder graph wanted (patterns_of (pass_of pass))
in_order graph said wanted rows pass infos same target are orders = λ name.
    subst (λ t. order_in_graph graph name ≡ map (λ (r : Ranked). r.place) (order t (patterns_of (pass_of pass)) name)) target
    (orders (patterns_of (pass_of pass)) (sym (are ∙ ap (λ p. map info_of (patterns_of (pass_of p))) same)) name)
