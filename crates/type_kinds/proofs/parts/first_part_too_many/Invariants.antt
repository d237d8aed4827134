use Rattle.std.proofs.Common.{◌≡◌, ◌≤◌, drop}
use Rattle.type_kinds.specs.First.{first_in}
use Rattle.type_kinds.specs.Sizes.{sizes_of}
use Rattle.type_kinds.specs.Parts.{count, too_many, first_part}
use Rattle.type_kinds.proofs.FirstIn.{ahead}
use Rattle.type_kinds.proofs.parts.first_part_too_many.Given as goal

-- what is left of the events decides
abbrev pub invariant-each : goal.invariant-each
invariant-each l = record {
  decides : ahead l.index (first_in count too_many (record { sizes = sizes_of l.tally; total = l.total }) (drop l.index l.events)) ≡ first_part l.events;
  amount : l.tally.amount ≤ l.total;
  total : l.total ≤ 16777216;
}
