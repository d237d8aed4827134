use Rattle.std.proofs.Common.{◌≡◌, map, take}
use Rattle.plain_tree.specs.Types.{plain_type}
use Rattle.unit_choices.proofs.products.result_types.Given as goal

abbrev pub invariant-each : goal.invariant-each
invariant-each l = map plain_type l.all ≡ map (λ v. plain_type v.1) (take l.value-index l.results)
