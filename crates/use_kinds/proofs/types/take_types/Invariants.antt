use Rattle.std.proofs.Common.{◌≡◌, ◌≤◌, ◌++◌, List, length, drop, take}
use Rattle.term_table.specs.Terms.{Term, term_at}
use Rattle.use_kinds.specs.Written.{types_in}
use Rattle.use_kinds.specs.Flat.{Added}
use Rattle.use_kinds.proofs.types.take_types.Given as goal

-- what was taken, and what is left to take
abbrev pub invariant-each : goal.invariant-each
invariant-each l = record {
  within : l.rest ≤ length l.terms.nodes.keys;
  taken : (done : List Term) × Added l.terms.nodes.keys l.fn.items.items l.items.items done
      × (done ++ take l.wanted (types_in (term_at l.terms.nodes.keys l.rest)) ≡ take l.count (types_in (term_at l.terms.nodes.keys l.list)));
  left : drop l.wanted (types_in (term_at l.terms.nodes.keys l.rest)) ≡ drop l.count (types_in (term_at l.terms.nodes.keys l.list));
}

abbrev pub decreases-each : goal.decreases-each
decreases-each l = l.wanted
