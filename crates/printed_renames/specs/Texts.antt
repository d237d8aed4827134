-- Texts of functions that are the same but for numbers.
use Rattle.std.specs.Prelude.{◌≡◌, ℕ}
use Rattle.tree_model.specs.declared.op_tree.FuncTree.{FuncTree}
use Rattle.plain_tree.specs.Ops.{plain_func}
use Rattle.plain_tree.specs.Renamings.{OneToOne, RenOp}
use Rattle.text_model.specs.Printed.{func_text}

-- a function on numbers as a relation
abbrev pub Takes : (ℕ → ℕ) → ℕ → ℕ → Type 0
Takes to m n = to m ≡ n

-- however values and labels are renumbered, one to one: the text stays
abbrev pub OneText : Type 0
OneText = (value label : ℕ → ℕ) (f g : FuncTree) → OneToOne (Takes value) → OneToOne (Takes label) → RenOp (Takes value) (Takes label) (plain_func f) (plain_func g) → func_text f ≡ func_text g
