-- Operations of few parts.
use Rattle.std.specs.Prelude.{ℕ, List, []}
use Rattle.tree_model.specs.declared.type_tree.TypeTree.{TypeTree}
use Rattle.tree_model.specs.declared.attr_tree.AttrTree.{AttrTree}
use Rattle.tree_model.specs.declared.op_tree.OpTree.{OpTree, roll-OpTree}

-- an operation without attributes, regions and successors
abbrev pub plain_op : List ℕ → List (ℕ × TypeTree) → List ℕ → List (List ℕ × AttrTree) → OpTree
plain_op name results operands props =
    roll-OpTree (record { name = name; results = results; operands = operands; props = props; attrs = []; regions = []; successors = [] })
