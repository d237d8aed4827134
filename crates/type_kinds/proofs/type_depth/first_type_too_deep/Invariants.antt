use Rattle.std.proofs.Common.{◌≡◌, drop, reverse}
use Rattle.type_kinds.specs.First.{first_in}
use Rattle.type_kinds.specs.Sizes.{sizes_of}
use Rattle.type_kinds.specs.Depths.{pass_type, is_deep_type, first_deep_type}
use Rattle.type_kinds.proofs.FirstIn.{ahead}
use Rattle.type_kinds.proofs.type_depth.first_type_too_deep.Given as goal

-- what is left of the events decides
abbrev pub invariant-each : goal.invariant-each
invariant-each l = ahead l.index (first_in pass_type is_deep_type (record { sizes = sizes_of l.tally; outer = reverse l.outer.items }) (drop l.index l.events)) ≡ first_deep_type l.events
