-- Trees are alike where their parts are, and lists of alike trees are alike at each place.
use Rattle.std.proofs.Common.{rules}
use Rattle.std.proofs.lemmas.Slice.Zip.{zip_turn}
use Rattle.tree_shape.specs.WithoutNumbers.{op_without_numbers, block_without_numbers, region_without_numbers}
use Rattle.tree_shape.proofs.AlikeLaws.{op_from_parts, op_regions_alike, block_from_parts, block_ops_alike, region_from_parts, region_blocks_alike, map_alike_at}
use Rattle.tree_shape.proofs.alike.+alike.Goals as goal

pub alike_op-returns : goal.alike_op-returns
alike_op-returns t c = (
  (λ h. op_from_parts c.args.a.now c.args.b.now (search rules) (search rules) (search rules) (search rules) (search rules) (search rules) (search rules)),
  (λ e. let parts = op_regions_alike c.args.a.now c.args.b.now e in search rules),
)

pub alike_block-returns : goal.alike_block-returns
alike_block-returns t c = (
  (λ h. block_from_parts c.args.a.now c.args.b.now (search rules) (search rules)),
  (λ e. let parts = block_ops_alike c.args.a.now c.args.b.now e in search rules),
)

pub alike_region-returns : goal.alike_region-returns
alike_region-returns t c = (
  (λ h. region_from_parts c.args.a.now c.args.b.now (search rules)),
  (λ e. let parts = region_blocks_alike c.args.a.now c.args.b.now e in search rules),
)

pub alike_regions-returns-then-not-alike_region : goal.alike_regions-returns-then-not-alike_region
alike_regions-returns-then-not-alike_region t c =
    let turn = zip_turn c.args.a.now c.args.b.now c.loop-r.yielded c.into_iter-r-iterator.result c.loop-r.r-iterator c.next.new.self c.next.result (search rules) (search rules) c.loop-r.yielded_by (c.in-Some.r, c.in-Some.s) c.in-Some.is c.next.ensures.steps in
    ((λ h. search rules), (λ e. let alike = map_alike_at region_without_numbers c.args.a.now c.args.b.now _ c.in-Some.r.now c.in-Some.s.now e turn.0 turn.1 turn.2 turn.3 in search rules))

pub alike_blocks-returns-then-not-alike_block : goal.alike_blocks-returns-then-not-alike_block
alike_blocks-returns-then-not-alike_block t c =
    let turn = zip_turn c.args.a.now c.args.b.now c.loop-v.yielded c.into_iter-v-iterator.result c.loop-v.v-iterator c.next.new.self c.next.result (search rules) (search rules) c.loop-v.yielded_by (c.in-Some.v, c.in-Some.w) c.in-Some.is c.next.ensures.steps in
    ((λ h. search rules), (λ e. let alike = map_alike_at block_without_numbers c.args.a.now c.args.b.now _ c.in-Some.v.now c.in-Some.w.now e turn.0 turn.1 turn.2 turn.3 in search rules))

pub alike_ops-returns-then-not-alike_op : goal.alike_ops-returns-then-not-alike_op
alike_ops-returns-then-not-alike_op t c =
    let turn = zip_turn c.args.a.now c.args.b.now c.loop-o.yielded c.into_iter-o-iterator.result c.loop-o.o-iterator c.next.new.self c.next.result (search rules) (search rules) c.loop-o.yielded_by (c.in-Some.o, c.in-Some.p) c.in-Some.is c.next.ensures.steps in
    ((λ h. search rules), (λ e. let alike = map_alike_at op_without_numbers c.args.a.now c.args.b.now _ c.in-Some.o.now c.in-Some.p.now e turn.0 turn.1 turn.2 turn.3 in search rules))
