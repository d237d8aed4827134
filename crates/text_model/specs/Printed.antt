-- The bytes that a module prints as.
use Rattle.std.specs.Prelude.{ℕ, List, [], ◌∷◌, ◌++◌, flat_map, codes}
use Rattle.tree_model.specs.declared.op_tree.FuncTree.{FuncTree}
use Rattle.tree_model.specs.declared.op_tree.ModuleTree.{ModuleTree}
use Rattle.text_model.specs.PrintedNames.{names_of}
use Rattle.text_model.specs.PrintedOps.{op_text, props_text, attrs_text}

-- a function: its operation by its own names, two blanks further in than the module
abbrev pub func_text : FuncTree → List ℕ
func_text f = op_text (names_of f.op) f.op (codes "  ")

-- the one block of a module: the functions, or its label where there are none
abbrev pub funcs_text : List FuncTree → List ℕ
funcs_text [] = codes "^bb0:\n"
funcs_text (f ∷ fs) = flat_map func_text (f ∷ fs)

-- the operation `builtin.module`, without operands and results
abbrev pub module_text : ModuleTree → List ℕ
module_text m =
    codes "\"builtin.module\"()" ++ props_text m.props ++ codes " ({\n" ++ funcs_text m.funcs
    ++ codes "})" ++ attrs_text m.attrs ++ codes " : () -> ()\n"
