-- Templates of few operations as trees.
use Rattle.std.proofs.Common.{◌≡◌, ℕ, List, [], ◌∷◌, Some, ap}
use Rattle.tree_model.specs.declared.type_tree.TypeTree.{TypeTree}
use Rattle.tree_model.specs.declared.attr_tree.AttrTree.{AttrTree}
use Rattle.plain_tree.specs.Types.{PlainType, plain_type}
use Rattle.plain_tree.specs.Attrs.{plain_entries}
use Rattle.conversion_model.specs.declared.templates.Source.{Source}
use Rattle.conversion_model.specs.declared.templates.Source.TheVariants.{Made}
use Rattle.conversion_model.specs.declared.templates.TemplateTree.{TemplateTree}
use Rattle.conversion_model.specs.Templates.{step_tree}
use Rattle.pattern_model.specs.ArithRows.{one_value}
use Rattle.row_code.specs.Lines.{one_step}
use Rattle.row_code.specs.Shapes.{tree_or_none}

abbrev one_tree : List ℕ → List Source → List (List ℕ × AttrTree) → PlainType → TemplateTree
one_tree name sources props t = record { steps = step_tree (one_step name sources (plain_entries props) t) ∷ []; results = Made 0 ∷ [] }

-- one operation whose value has that type
pub one_is : (name : List ℕ) (sources : List Source) (props : List (List ℕ × AttrTree)) (t : TypeTree) (p : PlainType) → plain_type t ≡ p
    → Some (one_tree name sources props (plain_type t)) ≡ tree_or_none (one_value name sources (Some (plain_entries props)) (p ∷ []))
one_is name sources props t p e = ap (λ q. Some (one_tree name sources props q)) e
