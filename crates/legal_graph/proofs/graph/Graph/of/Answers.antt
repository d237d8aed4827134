use Rattle.std.proofs.Common.{◌≡◌, ℕ, List, sym, ◌∙◌}
use Rattle.std.specs.Str.{bytes_eq}
use Rattle.std.specs.HashMap.{get}
use Rattle.std.specs.HashSet.{contains}
use Rattle.legal_graph.specs.Depths.{level}
use Rattle.legal_graph.specs.Listed.{listed}
use Rattle.legal_graph.proofs.GraphLaws.{all_depths, all_orders}
use Rattle.legal_graph.proofs.graph.Graph.of.Goals as goal

pub returns-clause-depths : goal.returns-clause-depths
returns-clause-depths c = λ target table allows e.
    all_depths target (contains bytes_eq c.in_ok-legal.legal) c.args.infos.now table (level (contains bytes_eq c.in_ok-legal.legal) (get bytes_eq c.in_ok-found.found))
    (λ name. c.in_ok-legal.ensures name ∙ sym (allows name)) e c.in_ok-found.ensures

pub returns-clause-orders : goal.returns-clause-orders
returns-clause-orders c = λ target table allows e.
    let depths = all_depths target (contains bytes_eq c.in_ok-legal.legal) c.args.infos.now table (level (contains bytes_eq c.in_ok-legal.legal) (get bytes_eq c.in_ok-found.found))
    (λ name. c.in_ok-legal.ensures name ∙ sym (allows name)) e c.in_ok-found.ensures in
    all_orders target c.args.infos.now table (level (contains bytes_eq c.in_ok-legal.legal) (get bytes_eq c.in_ok-found.found)) c.as_slice.result.now (listed c.in_ok-orders.orders)
    depths e (c.as_slice.ensures.value ∙ c.in_ok-ranks.ensures) c.in_ok-orders.ensures
