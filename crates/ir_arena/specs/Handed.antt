-- What an operation's node says of its tree, but for results and regions.
use Rattle.std.specs.Prelude.{◌≡◌, ℕ}
use Rattle.std.specs.List.{AllZip}
use Rattle.key_model.specs.declared.handle.Handle.{Handle}
use Rattle.key_model.specs.declared.key.Key.{Key}
use Rattle.tree_model.specs.declared.op_tree.OpTree.{OpTree, out-OpTree}
use Rattle.flat_model.specs.declared.nodes.OpNode.{OpNode}
use Rattle.flat_model.specs.Shows.{EntryShows}

pub record NodeShows (holds : Handle → Key → Type 0) (V L : ℕ → ℕ → Type 0) (node : OpNode) (tree : OpTree) : Type 0 where
  pub name : node.name ≡ (out-OpTree tree).name
  pub operands : AllZip V node.operands (out-OpTree tree).operands
  pub props : AllZip (EntryShows holds) node.props (out-OpTree tree).props
  pub attrs : AllZip (EntryShows holds) node.attrs (out-OpTree tree).attrs
  pub successors : AllZip L node.successors (out-OpTree tree).successors
