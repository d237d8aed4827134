-- What a graph says, and of which tables of patterns and which targets it says it.
use Rattle.std.specs.Prelude.{◌≡◌, ℕ, ◌||◌, List, Option}
use Rattle.std.specs.Str.{bytes_eq}
use Rattle.std.specs.HashMap.{get}
use Rattle.std.specs.HashSet.{contains}
use Rattle.conversion_model.specs.Targets.{Target, may_be_legal}
use Rattle.conversion_model.specs.Rows.{Pattern}
use Rattle.legal_graph.specs.declared.graph.Graph.{Graph}
use Rattle.legal_graph.specs.declared.infos.LegalNames.{LegalNames}
use Rattle.legal_graph.specs.declared.infos.PatternInfo.{PatternInfo}
use Rattle.legal_graph.specs.Depths.{is_among, level}
use Rattle.legal_graph.specs.Listed.{listed}

abbrev pub depth_in_graph : Graph → List ℕ → Option ℕ
depth_in_graph g name = level (contains bytes_eq g.legal) (get bytes_eq g.found) name

abbrev pub order_in_graph : Graph → List ℕ → List ℕ
order_in_graph g name = listed g.orders name

-- what a pattern says of itself
abbrev pub info_of : Pattern → PatternInfo
info_of p = record { root = p.root; benefit = p.benefit; products = p.makes; converted = p.is_converted }

-- operations of these names may be legal by the target, and of no others
abbrev pub Allows : Target → LegalNames → Type 0
Allows target names = (name : List ℕ) → may_be_legal target name ≡ (is_among names.always name || is_among names.dynamic name)
