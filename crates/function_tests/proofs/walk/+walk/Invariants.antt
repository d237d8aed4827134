use Rattle.std.proofs.Common.{◌≡◌, map, drop}
use Rattle.std.specs.Option.{option_map}
use Rattle.plain_tree.specs.Ops.{blocks_in, ops_in, plain_op, regions_in}
use Rattle.value_types.specs.Trees.{plain_block, plain_region}
use Rattle.rule_facts.specs.Views.{holder_view}
use Rattle.function_tests.specs.Walks.{Passed, blocks_facts, holder_of, ops_facts, regions_facts, run, seen_by, typed_by}
use Rattle.function_tests.proofs.walk.+walk.Given as goal

abbrev pub invariant-first_in_regions-loop-place : goal.invariant-first_in_regions-loop-place
invariant-first_in_regions-loop-place l =
    run (seen_by l.walk) (Passed l.count) (regions_facts (typed_by l.walk) (holder_of (holder_view l.holder)) l.place (regions_in (map plain_region (drop l.place l.regions))))
    ≡ run (seen_by l.walk) (Passed l.initial.count) (regions_facts (typed_by l.walk) (holder_of (holder_view l.holder)) 0 (regions_in (map plain_region l.regions)))

abbrev pub invariant-first_in_blocks-loop-block : goal.invariant-first_in_blocks-loop-block
invariant-first_in_blocks-loop-block l =
    let whole = blocks_in (map plain_block l.around.blocks.now) in
    run (seen_by l.walk) (Passed l.count) (blocks_facts (typed_by l.walk) (option_map holder_view l.around.holder) whole (blocks_in (map plain_block (drop l.block-index l.blocks))))
    ≡ run (seen_by l.walk) (Passed l.initial.count) (blocks_facts (typed_by l.walk) (option_map holder_view l.around.holder) whole (blocks_in (map plain_block l.blocks)))

abbrev pub invariant-first_in_ops-loop-place : goal.invariant-first_in_ops-loop-place
invariant-first_in_ops-loop-place l =
    let whole = blocks_in (map plain_block l.around.blocks.now) in
    run (seen_by l.walk) (Passed l.count) (ops_facts (typed_by l.walk) (option_map holder_view l.around.holder) whole (ops_in (map plain_op (drop l.place l.ops))))
    ≡ run (seen_by l.walk) (Passed l.initial.count) (ops_facts (typed_by l.walk) (option_map holder_view l.around.holder) whole (ops_in (map plain_op l.ops)))
