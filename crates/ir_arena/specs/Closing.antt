-- A test whether each number in a function names something in it.
use Rattle.std.specs.Prelude.{ℕ, List, Bool, ◌&&◌, length, nat_lt}
use Rattle.std.specs.List.{list_all}
use Rattle.flat_model.specs.declared.nodes.OpNode.{OpNode}
use Rattle.flat_model.specs.Flat.{BlockNode, Flat}

-- each number is below the bound
abbrev pub are_below : ℕ → List ℕ → Bool
are_below bound numbers = list_all (λ n. nat_lt n bound) numbers

-- the numbers in a node name something
abbrev pub is_op_within : Flat → OpNode → Bool
is_op_within f node = are_below (length f.types) node.results && are_below (length f.types) node.operands && are_below (length f.regions) node.regions && are_below (length f.blocks) node.successors

abbrev pub is_block_within : Flat → BlockNode → Bool
is_block_within f node = are_below (length f.types) node.args && are_below (length f.ops) node.ops

-- each number in each node names something, and the root is an operation
abbrev pub is_closed : Flat → Bool
is_closed f = list_all (is_op_within f) f.ops && list_all (is_block_within f) f.blocks && list_all (are_below (length f.blocks)) f.regions && nat_lt f.root (length f.ops)
