-- Graphs that give the order of patterns.
use Rattle.std.specs.Prelude.{◌≡◌, ℕ, List, map}
use Rattle.conversion_model.specs.Targets.{Target}
use Rattle.conversion_model.specs.Rows.{Pattern}
use Rattle.conversion_model.specs.Chosen.{Ranked, order}
use Rattle.legal_graph.specs.declared.graph.Graph.{Graph}
use Rattle.legal_graph.specs.Graphs.{order_in_graph}

-- the graph gives the places of the patterns of each name in the order in which they are tried
abbrev pub InOrder : Graph → Target → List Pattern → Type 0
InOrder graph target table = (name : List ℕ) → order_in_graph graph name ≡ map (λ (r : Ranked). r.place) (order target table name)
