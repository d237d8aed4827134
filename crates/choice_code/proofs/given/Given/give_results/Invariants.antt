use Rattle.std.proofs.Common.{◌≡◌, drop, map}
use Rattle.plain_tree.specs.Types.{plain_type}
use Rattle.conversion_model.specs.Chosen.{change_of, give_results}
use Rattle.choice_code.specs.Givens.{joined}
use Rattle.choice_code.proofs.given.Given.give_results.Given as goal

abbrev pub invariant-each : goal.invariant-each
invariant-each l =
    joined l.initial.self (give_results (change_of l.bits l.converted) (map plain_type l.types) l.values l.initial.self.count)
    ≡ joined l.self (give_results (change_of l.bits l.converted) (map plain_type (drop l.place l.types)) (drop l.place l.values) l.self.count)
