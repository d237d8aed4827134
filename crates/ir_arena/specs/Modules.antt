-- Which tree a module shows.
use Rattle.std.specs.List.{AllZip}
use Rattle.key_model.specs.declared.handle.Handle.{Handle}
use Rattle.key_model.specs.declared.key.Key.{Key}
use Rattle.tree_model.specs.declared.op_tree.FuncTree.{FuncTree}
use Rattle.tree_model.specs.declared.op_tree.ModuleTree.{ModuleTree}
use Rattle.flat_model.specs.Shows.{EntryShows, FuncShows}
use Rattle.flat_model.specs.Renamed.{ShowsSame}
use Rattle.ir_arena.specs.Arena.{Arena}
use Rattle.ir_arena.specs.declared.module_cell.Module.{Module}

-- the function of an arena shows the tree
abbrev pub ArenaShows : (Handle → Key → Type 0) → Arena → FuncTree → Type 0
ArenaShows holds a tree = FuncShows holds a.flat tree

-- it shows a tree that is this one but for its numbers
abbrev pub ArenaShowsSame : (Handle → Key → Type 0) → Arena → FuncTree → Type 0
ArenaShowsSame holds a tree = ShowsSame holds a.flat tree

-- a module shows the tree
pub record ModuleShows (holds : Handle → Key → Type 0) (m : Module) (tree : ModuleTree) : Type 0 where
  pub props : AllZip (EntryShows holds) m.props tree.props
  pub attrs : AllZip (EntryShows holds) m.attrs tree.attrs
  pub funcs : AllZip (ArenaShows holds) m.funcs tree.funcs

-- it shows a tree that is this one but for the numbers in its functions
pub record ModuleShowsSame (holds : Handle → Key → Type 0) (m : Module) (tree : ModuleTree) : Type 0 where
  pub props : AllZip (EntryShows holds) m.props tree.props
  pub attrs : AllZip (EntryShows holds) m.attrs tree.attrs
  pub funcs : AllZip (ArenaShowsSame holds) m.funcs tree.funcs
