-- Branches as trees are those of the rows.
use Rattle.std.proofs.Common.{◌≡◌, ℕ, ◌+◌, ◌<◌, List, [], ◌∷◌, ◌++◌, append_assoc, drop, length, map, Some, refl, sym, ap, ◌∙◌}
use Rattle.std.specs.Prelude.{codes}
use Rattle.std.proofs.lemmas.List.{drop_more}
use Rattle.tree_model.specs.declared.type_tree.TypeTree as type
use Rattle.tree_model.specs.declared.type_tree.TypeTree.{TypeTree}
use Rattle.tree_model.specs.declared.attr_tree.AttrTree.{AttrTree}
use Rattle.plain_tree.specs.Types.{plain_type}
use Rattle.plain_tree.specs.Attrs.{plain_entries}
use Rattle.plain_tree.proofs.AttrTrip.{entries_trip}
use Rattle.conversion_model.specs.declared.templates.Source.{Source}
use Rattle.conversion_model.specs.declared.templates.Source.TheVariants.{Operand}
use Rattle.conversion_model.specs.declared.templates.TemplateTree.{TemplateTree}
use Rattle.conversion_model.specs.Chosen.{places}
use Rattle.pattern_model.specs.Drafts.{draft, effect, gives}
use Rattle.pattern_model.specs.CfRows.{all_operands, conditional}
use Rattle.row_code.specs.declared.shape.ShapeTree.{ShapeTree}
use Rattle.row_code.specs.Shapes.{shape_of, tree_or_none}
use Rattle.cf_rows.specs.Branches.{branch_to, operands_from}

operands_are : (k : ℕ) (ts : List TypeTree) → operands_from k ts ≡ map Operand (places k (map plain_type ts))
operands_are k [] = refl
operands_are k (t ∷ ts) = ap (λ ss. Operand k ∷ ss) (operands_are (k + 1) ts)

abbrev with_sources : List ℕ → List (List ℕ × AttrTree) → List ℕ → List Source → TemplateTree
with_sources name props successors sources = record {
  steps = record { name = name; props = props; sources = sources; successors = successors; makes = [] } ∷ [];
  results = [];
}

pub plain_branch : (s : ShapeTree) → Some (branch_to (codes "llvm.br") [] (0 ∷ []) s.operands) ≡ tree_or_none (draft (effect (codes "llvm.br") (all_operands (shape_of s)) [] (0 ∷ []) (gives [])))
plain_branch s = ap (λ ss. Some (with_sources (codes "llvm.br") [] (0 ∷ []) ss)) (operands_are 0 s.operands)

pub conditional_branch : (s : ShapeTree) (props : List (List ℕ × AttrTree)) → Some (branch_to (codes "llvm.cond_br") props (0 ∷ 1 ∷ []) s.operands) ≡ tree_or_none (conditional (shape_of s) (Some (plain_entries props)))
conditional_branch s props =
    ap (λ ss. Some (with_sources (codes "llvm.cond_br") props (0 ∷ 1 ∷ []) ss)) (operands_are 0 s.operands)
    ∙ ap (λ ps. Some (with_sources (codes "llvm.cond_br") ps (0 ∷ 1 ∷ []) (all_operands (shape_of s)))) (sym (entries_trip props))

-- one operand more
pub operand_more : (types : List TypeTree) (k : ℕ) (sources more : List Source) → k < length types → more ≡ sources ++ Operand k ∷ []
    → sources ++ operands_from k (drop k types) ≡ operands_from 0 types → more ++ operands_from (k + 1) (drop (k + 1) types) ≡ operands_from 0 types
operand_more types k sources more h e is =
    ap (λ ss. ss ++ operands_from (k + 1) (drop (k + 1) types)) e
    ∙ append_assoc sources (Operand k ∷ []) (operands_from (k + 1) (drop (k + 1) types))
    ∙ sym (ap (λ ts. sources ++ operands_from k ts) (drop_more types k type.Void h))
    ∙ is
