-- Modules that are the same but for their numbers of values and labels.
use Rattle.std.specs.Prelude.{◌≡◌, ℕ, ◌+◌, List, [], ◌∷◌, ⊤, map}
use Rattle.tree_model.specs.declared.op_tree.ModuleTree.{ModuleTree}
use Rattle.plain_tree.specs.Ops.{Op, plain_func}
use Rattle.plain_tree.specs.Renamings.{OneToOne, RenOp}

-- a function on numbers as a relation
abbrev pub Takes : (ℕ → ℕ) → ℕ → ℕ → Type 0
Takes to m n = to m ≡ n

-- functions in order, from the k-th on: `value k` takes the values of the k-th to those of the other one, `label k` its labels
abbrev pub AreRenamed : (ℕ → ℕ → ℕ) → (ℕ → ℕ → ℕ) → ℕ → List Op → List Op → Type 0
AreRenamed value label k [] [] = ⊤
AreRenamed value label k (f ∷ fs) (g ∷ gs) = RenOp (Takes (value k)) (Takes (label k)) f g × AreRenamed value label (k + 1) fs gs
AreRenamed value label k _ _ = ⊥

-- As many functions in the same order, each the same but for numbers. A function's numbers are taken one to one, each use like its
-- definition, and so are numbers that are used and defined nowhere. Nothing is asked of how often a number is defined. Properties and
-- attributes of the modules themselves may differ.
pub record IsRenamed (value label : ℕ → ℕ → ℕ) (m n : ModuleTree) : Type 0 where
  pub values : (k : ℕ) → OneToOne (Takes (value k))
  pub labels : (k : ℕ) → OneToOne (Takes (label k))
  pub funcs : AreRenamed value label 0 (map plain_func m.funcs) (map plain_func n.funcs)
