-- Branches as trees.
use Rattle.std.specs.Prelude.{ℕ, ◌+◌, List, [], ◌∷◌}
use Rattle.tree_model.specs.declared.type_tree.TypeTree.{TypeTree}
use Rattle.tree_model.specs.declared.attr_tree.AttrTree.{AttrTree}
use Rattle.conversion_model.specs.declared.templates.Source.{Source}
use Rattle.conversion_model.specs.declared.templates.Source.TheVariants.{Operand}
use Rattle.conversion_model.specs.declared.templates.TemplateTree.{TemplateTree}

-- an operand for each type, from the k-th on
abbrev pub operands_from : ℕ → List TypeTree → List Source
operands_from k [] = []
operands_from k (t ∷ ts) = Operand k ∷ operands_from (k + 1) ts

-- one branch with all operands
abbrev pub branch_to : List ℕ → List (List ℕ × AttrTree) → List ℕ → List TypeTree → TemplateTree
branch_to name props successors types = record {
  steps = record { name = name; props = props; sources = operands_from 0 types; successors = successors; makes = [] } ∷ [];
  results = [];
}
