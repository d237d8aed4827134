use Rattle.std.proofs.Common.{rules, ◌≡◌, ℕ, List, ap, length}
use Rattle.std.specs.Str.{bytes_eq}
use Rattle.std.specs.HashMap.{get}
use Rattle.std.specs.HashSet.{contains}
use Rattle.std.specs.Prelude.{false, None}
use Rattle.std.specs.List.{list_any}
use Rattle.legal_graph.proofs.RoundLaws.{first_round, level_found, next_round, settled}
use Rattle.legal_graph.proofs.rounds.depths.Goals as goal

pub rounds-init : goal.rounds-init
rounds-init c =
    first_round (contains bytes_eq c.args.legal.now) (contains bytes_eq c.new.result) c.args.infos.now (get bytes_eq c.new-2.result) (get bytes_eq c.in_ok-found.found)
    (λ q. search rules) (λ q. search rules) c.in_ok-found.ensures

pub returns-then-is_settled : goal.returns-then-is_settled
returns-then-is_settled c =
    settled (contains bytes_eq c.args.legal.now) c.args.infos.now c.rounds.turn (length c.args.infos.now) (get bytes_eq c.rounds.found) (get bytes_eq c.in_ok-next.next)
    c.rounds-test.true c.rounds.invariant (next_round _ c.args.infos.now c.rounds.turn (get bytes_eq c.rounds.found) (get bytes_eq c.in_ok-next.next) c.rounds.invariant c.in_ok-next.ensures)
    (c.is_settled.ensures c.if-is_settled.true)

pub rounds-preserved : goal.rounds-preserved
rounds-preserved c =
    next_round (contains bytes_eq c.args.legal.now) c.args.infos.now c.rounds.turn (get bytes_eq c.rounds.found) (get bytes_eq c.in_ok-next.next) c.rounds.invariant c.in_ok-next.ensures
