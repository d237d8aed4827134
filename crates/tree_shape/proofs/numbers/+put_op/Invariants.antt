use Rattle.std.proofs.Common.{◌≡◌, ◌++◌, take, map}
use Rattle.std.specs.Prelude.{flat_map}
use Rattle.tree_shape.specs.NumbersOf.{values_of_op, values_of_block, values_of_region, labels_of_op, labels_of_block, labels_of_region}
use Rattle.tree_shape.proofs.numbers.+put_op.Given as goal

abbrev pub invariant-put_regions-loop-region : goal.invariant-put_regions-loop-region
invariant-put_regions-loop-region l = record {
  values : l.numbers.values.items ≡ l.initial.numbers.values.items ++ flat_map (λ ns. ns) (map values_of_region (take l.region-index l.regions));
  labels : l.numbers.labels.items ≡ l.initial.numbers.labels.items ++ flat_map (λ ns. ns) (map labels_of_region (take l.region-index l.regions));
}

abbrev pub invariant-put_blocks-loop-block : goal.invariant-put_blocks-loop-block
invariant-put_blocks-loop-block l = record {
  values : l.numbers.values.items ≡ l.initial.numbers.values.items ++ flat_map (λ ns. ns) (map values_of_block (take l.block-index l.blocks));
  labels : l.numbers.labels.items ≡ l.initial.numbers.labels.items ++ flat_map (λ ns. ns) (map labels_of_block (take l.block-index l.blocks));
}

abbrev pub invariant-put_ops-loop-op : goal.invariant-put_ops-loop-op
invariant-put_ops-loop-op l = record {
  values : l.numbers.values.items ≡ l.initial.numbers.values.items ++ flat_map (λ ns. ns) (map values_of_op (take l.op-index l.ops));
  labels : l.numbers.labels.items ≡ l.initial.numbers.labels.items ++ flat_map (λ ns. ns) (map labels_of_op (take l.op-index l.ops));
}
