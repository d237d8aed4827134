use Rattle.std.proofs.Common.{◌≡◌, length, take, map}
use Rattle.tree_shape.specs.WithoutNumbers.{op_without_numbers, block_without_numbers, region_without_numbers}
use Rattle.tree_shape.proofs.alike.+alike.Given as goal

abbrev pub invariant-alike_regions-loop-r : goal.invariant-alike_regions-loop-r
invariant-alike_regions-loop-r l = map region_without_numbers (take (length l.yielded) l.a) ≡ map region_without_numbers (take (length l.yielded) l.b)

abbrev pub invariant-alike_blocks-loop-v : goal.invariant-alike_blocks-loop-v
invariant-alike_blocks-loop-v l = map block_without_numbers (take (length l.yielded) l.a) ≡ map block_without_numbers (take (length l.yielded) l.b)

abbrev pub invariant-alike_ops-loop-o : goal.invariant-alike_ops-loop-o
invariant-alike_ops-loop-o l = map op_without_numbers (take (length l.yielded) l.a) ≡ map op_without_numbers (take (length l.yielded) l.b)
