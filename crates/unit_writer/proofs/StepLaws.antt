-- A step of a template and a product of a cut, from their parts.
use Rattle.std.proofs.Common.{◌≡◌, ℕ, List, [], map, sym, ap, subst, ◌∙◌}
use Rattle.plain_tree.specs.Attrs.{Entries, plain_entries}
use Rattle.plain_tree.specs.Types.{PlainType}
use Rattle.plain_tree.specs.Ops.{Op, op, Values, end_of_regions}
use Rattle.conversion_model.specs.declared.templates.Source.{Source}
use Rattle.conversion_model.specs.Templates.{Step, Template, copies, labels_at, named, number_of, numbers, step_op, steps_written, values_made, written}
use Rattle.conversion_model.specs.Rows.{Numbers}
use Rattle.cut_code.specs.Pieces.{label_at, value_at}
use Rattle.cut_code.specs.declared.pieces.CutLabel.{CutLabel}
use Rattle.cut_code.specs.declared.pieces.CutValue.{CutValue}
use Rattle.cut_code.specs.declared.pieces.ProductTree.{ProductTree}
use Rattle.tree_model.specs.declared.type_tree.TypeTree.{TypeTree}
use Rattle.new_numbers.specs.Tables.{Numbering, supply_of}
use Rattle.unit_writer.specs.Names.{Asked, new_results, product_op}
use Rattle.unit_writer.specs.Pages.{op_from}
use Rattle.unit_writer.specs.Writes.{State, WritesLine}
use Rattle.unit_writer.proofs.Going.{asked_on}
use Rattle.unit_writer.proofs.LineLaws.{template_written}

-- an operation without attributes and regions
abbrev of_parts : List ℕ → Entries → Values → List ℕ → List ℕ → Op
of_parts k props rs os ls = op (record { name = k; props = props; attrs = [] }) rs os end_of_regions ls

same_parts : (k k' : List ℕ) (p p' : Entries) (rs rs' : Values) (os os' ls ls' : List ℕ) → k ≡ k' → p ≡ p' → rs ≡ rs' → os ≡ os' → ls ≡ ls' → of_parts k p rs os ls ≡ of_parts k' p' rs' os' ls'
same_parts k k' p p' rs rs' os os' ls ls' a b c d e =
    ap (λ x. of_parts x p rs os ls) a ∙ ap (λ x. of_parts k' x rs os ls) b ∙ ap (λ x. of_parts k' p' x os ls) c ∙ ap (λ x. of_parts k' p' rs' x ls) d ∙ ap (of_parts k' p' rs' os') e

pub step_asked : (t0 t1 t2 : Numbering) (name : Numbering → ℕ → ℕ) (operands labels : List ℕ) (first : ℕ) (s : Step) (o : Op) (k : List ℕ) (props : Entries) (rs : Values) (os ls : List ℕ) (makes : List PlainType) (sources : List Source)
    → o ≡ op_from k props [] rs os [] ls → k ≡ s.name → props ≡ s.props → makes ≡ s.makes → sources ≡ s.sources → ls ≡ labels_at labels s.successors
    → Asked t0 t1 (λ u. values_made (name u) first makes ≡ rs) → Asked t1 t2 (λ u. map (number_of (name u) operands) sources ≡ os)
    → Asked t0 t2 (λ u. step_op (name u) operands labels first s ≡ o)
unfolding op_from
step_asked t0 t1 t2 name operands labels first s o k props rs os ls makes sources is named with_props made from to a b =
    asked_on t0 t1 t2 a b
    (λ u x y.
    same_parts s.name k s.props props (values_made (name u) first s.makes) rs (map (number_of (name u) operands) s.sources) os (labels_at labels s.successors) ls (sym named) (sym with_props)
    (ap (values_made (name u) first) (sym made) ∙ x) (ap (map (number_of (name u) operands)) (sym from) ∙ y) (sym to) ∙ sym is)

pub product_asked : (t0 t1 t2 t3 : Numbering) (n : ℕ) (p : ProductTree) (o : Op) (k : List ℕ) (props : Entries) (rs : Values) (os ls : List ℕ) (results : List (ℕ × TypeTree)) (operands : List CutValue) (successors : List CutLabel)
    → o ≡ op_from k props [] rs os [] ls → k ≡ p.name → props ≡ plain_entries p.props → results ≡ p.results → operands ≡ p.operands → successors ≡ p.successors
    → Asked t0 t1 (λ u. new_results ((supply_of u).row n) results ≡ rs) → Asked t1 t2 (λ u. map (value_at ((supply_of u).row n)) operands ≡ os) → Asked t2 t3 (λ u. map (label_at ((supply_of u).row n)) successors ≡ ls)
    → Asked t0 t3 (λ u. product_op ((supply_of u).row n) p ≡ o)
unfolding op_from
product_asked t0 t1 t2 t3 n p o k props rs os ls results operands successors is named with_props made from to a b c =
    asked_on {P = λ u. (new_results ((supply_of u).row n) results ≡ rs) × (map (value_at ((supply_of u).row n)) operands ≡ os)} t0 t2 t3 (asked_on t0 t1 t2 a b (λ u x y. (x, y))) c
    (λ u w z.
    let new : Numbers = (supply_of u).row n in
    same_parts p.name k (plain_entries p.props) props (new_results new p.results) rs (map (value_at new) p.operands) os (map (label_at new) p.successors) ls (sym named) (sym with_props)
    (ap (new_results new) (sym made) ∙ w.0) (ap (map (value_at new)) (sym from) ∙ w.1) (ap (map (label_at new)) (sym to) ∙ z) ∙ sym is)

-- a template whose lists are passed by themselves
pub template_by : (name new : Numbering → ℕ → ℕ) (rs : Values) (operands labels : List ℕ) (t : Template) (results others : List Source) (steps : List Step) (old mid last : State) → results ≡ t.results → steps ≡ t.steps → others ≡ t.results
    → ((u : Numbering) → name u ≡ named (new u) (numbers rs) results) → WritesLine (λ u rest. steps_written (name u) operands labels 0 steps rest) old mid → WritesLine (λ u rest. copies (name u) operands rs others rest) mid last
    → WritesLine (λ u rest. written (new u) rs operands labels t rest) old last
template_by name new rs operands labels t results others steps old mid last e f g is a b =
    template_written name new rs operands labels t old mid last
    (λ u. is u ∙ ap (named (new u) (numbers rs)) e)
    (subst (λ ss. WritesLine (λ u rest. steps_written (name u) operands labels 0 ss rest) old mid) f a)
    (subst (λ ss. WritesLine (λ u rest. copies (name u) operands rs ss rest) mid last) g b)
