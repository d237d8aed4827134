use Rattle.std.proofs.Common.{◌≡◌, drop, map}
use Rattle.std.specs.Prelude.{flat_map}
use Rattle.text_model.specs.PrintedPlaces.{places_from, places_of_op, places_of_block, places_of_region}
use Rattle.generic_printer.specs.Counters.{with_places}
use Rattle.generic_printer.specs.NamesIn.{counters_in}
use Rattle.generic_printer.proofs.naming.+name_op.Given as goal

abbrev pub invariant-name_regions-loop-region : goal.invariant-name_regions-loop-region
invariant-name_regions-loop-region l = with_places (counters_in l.table) (flat_map (λ ps. ps) (map places_of_region (drop l.region-index l.regions))) ≡ with_places (counters_in l.initial.table) (flat_map (λ ps. ps) (map places_of_region l.regions))

abbrev pub invariant-name_blocks-loop-block : goal.invariant-name_blocks-loop-block
invariant-name_blocks-loop-block l = with_places (counters_in l.table) (places_from l.position (map places_of_block (drop l.block-index l.blocks))) ≡ with_places (counters_in l.initial.table) (places_from 0 (map places_of_block l.blocks))

abbrev pub invariant-name_ops-loop-op : goal.invariant-name_ops-loop-op
invariant-name_ops-loop-op l = with_places (counters_in l.table) (flat_map (λ ps. ps) (map places_of_op (drop l.op-index l.ops))) ≡ with_places (counters_in l.initial.table) (flat_map (λ ps. ps) (map places_of_op l.ops))
