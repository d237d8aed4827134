-- The node of an operation that is new.
use Rattle.std.specs.Prelude.{ℕ, zero, suc, List, [], ◌∷◌, length}
use Rattle.flat_model.specs.declared.nodes.OpNode.{OpNode}
use Rattle.undo_rewriter.specs.declared.new_op.NewOp.{NewOp}

-- so many numbers in order
abbrev pub numbers_from : ℕ → ℕ → List ℕ
numbers_from start zero = []
numbers_from start (suc count) = start ∷ numbers_from (suc start) count

-- its results are the next values, where there are so many
abbrev pub node_of : ℕ → NewOp → OpNode
node_of values new = record {
  name = new.name;
  results = numbers_from values (length new.results.items);
  operands = new.operands;
  props = new.props;
  attrs = new.attrs;
  regions = [];
  successors = new.successors;
}
