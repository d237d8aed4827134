-- The module of a file.
use Rattle.std.specs.Prelude.{ℕ, Bool, List, [], ◌∷◌, map, codes, if◌then◌else◌}
use Rattle.std.specs.Str.{bytes_eq}
use Rattle.tree_model.specs.declared.op_tree.OpTree.{OpTree, out-OpTree}
use Rattle.tree_model.specs.declared.op_tree.BlockTree.{BlockTree, out-BlockTree}
use Rattle.tree_model.specs.declared.op_tree.RegionTree.{RegionTree, out-RegionTree}
use Rattle.tree_model.specs.declared.op_tree.FuncTree.{FuncTree}
use Rattle.tree_model.specs.declared.op_tree.ModuleTree.{ModuleTree}
use Rattle.text_events.specs.declared.event.Event.{Event}
use Rattle.text_types.specs.Spelling.{Spelling}
use Rattle.text_scopes.specs.declared.bodies.Class.{Class}
use Rattle.event_trees.specs.Wording.{Wording}
use Rattle.event_trees.specs.Roles.{roles_at}
use Rattle.event_trees.specs.Levels.{levels_of, ops_of}

abbrev pub is_module : OpTree → Bool
is_module o = bytes_eq (out-OpTree o).name (codes "builtin.module")

-- the operations of the first block, none where there is no block
abbrev pub first_ops : List BlockTree → List OpTree
first_ops [] = []
first_ops (b ∷ bs) = (out-BlockTree b).ops

abbrev pub body_of : List RegionTree → List OpTree
body_of [] = []
body_of (r ∷ rs) = first_ops (out-RegionTree r).blocks

abbrev pub funcs_of : List OpTree → List FuncTree
funcs_of ops = map (λ o. record { op = o }) ops

-- operations in a module without attributes
abbrev pub around : List OpTree → ModuleTree
around ops = record { props = []; attrs = []; funcs = funcs_of ops }

-- an operation as a module: its body is the one block of its region
abbrev pub as_module : OpTree → ModuleTree
as_module o = record { props = (out-OpTree o).props; attrs = (out-OpTree o).attrs; funcs = funcs_of (body_of (out-OpTree o).regions) }

-- the module of a file with these operations: where there is one and it is `builtin.module`, that one
abbrev pub module_of : List OpTree → ModuleTree
module_of (o ∷ []) = if is_module o then as_module o else around (o ∷ [])
module_of ops = around ops

-- the module that the events of a text denote
abbrev pub denoted : Spelling → Wording → (ℕ → Class) → List Event → ModuleTree
denoted spelling words class es = module_of (ops_of (levels_of words (roles_at spelling words class es)))
