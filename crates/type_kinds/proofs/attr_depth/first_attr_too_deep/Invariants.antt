use Rattle.std.proofs.Common.{◌≡◌, ◌≤◌, drop}
use Rattle.type_kinds.specs.First.{first_in}
use Rattle.type_kinds.specs.Sizes.{sizes_of}
use Rattle.type_kinds.specs.Depths.{pass_attr, is_deep_attr, first_deep_attr}
use Rattle.type_kinds.proofs.FirstIn.{ahead}
use Rattle.type_kinds.proofs.attr_depth.first_attr_too_deep.Given as goal

-- what is left of the events decides
abbrev pub invariant-each : goal.invariant-each
invariant-each l = record {
  decides : ahead l.index (first_in pass_attr is_deep_attr (record { sizes = sizes_of l.tally; outer = l.outer }) (drop l.index l.events)) ≡ first_deep_attr l.events;
  bound : l.outer ≤ l.index;
}
