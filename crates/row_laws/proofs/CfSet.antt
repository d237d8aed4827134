-- The rows of cf_lowering are sound.
use Rattle.std.proofs.Common.{◌≡◌, ℕ, List, [], ◌∷◌, length, Option, Some, None, Bool, true, false, refl, sym, ap, ap₂, subst, ◌∙◌}
use Rattle.std.specs.Prelude.{◌+◌, ◌==◌, ◌&&◌, codes, map, if◌then◌else◌}
use Rattle.std.specs.List.{list_all}
use Rattle.std.specs.Option.{option_map, unwrap_or}
use Rattle.std.proofs.lemmas.List.{length-map}
use Rattle.operation_model.specs.Values.{Value}
use Rattle.operation_model.specs.Forms.{Branch, BranchOn, Unknown}
use Rattle.plain_tree.specs.Types.{PlainType, Int, Index, Memref, Func, Ptr, Void, Struct, Array, LlvmFunc, types_in}
use Rattle.plain_tree.specs.ValueTypes.{is_value, is_own, all_own}
use Rattle.plain_tree.specs.Attrs.{Entries, entries_tree, entry}
use Rattle.conversion_model.specs.declared.templates.Source.TheVariants.{Operand}
use Rattle.conversion_model.specs.Types.{new_type, becomes}
use Rattle.conversion_model.specs.Templates.{Step, Template}
use Rattle.conversion_model.specs.Targets.{Shape}
use Rattle.conversion_model.specs.Rows.{Pattern, Straight}
use Rattle.conversion_model.specs.Chosen.{places}
use Rattle.form_model.specs.Properties.{if_some, numbers_in, naturals, counts_of, successor_counts}
use Rattle.form_model.specs.Classes.{class_of, classes, always, branch_on}
use Rattle.pattern_model.specs.ArithRows.{kept_props}
use Rattle.pattern_model.specs.CfRows.{is_branch, has_other_type, conditional, br_row, cond_br_row, cf_set}
use Rattle.rule_model.specs.declared.shapes.Shape.TheVariants as shapes
use Rattle.rule_model.specs.Facts.{Facts}
use Rattle.rule_model.specs.Rows.{shape_of}
use Rattle.rule_model.specs.Rules.{if_registered}
use Rattle.rule_model.specs.Forms.{is_bit, segments, two_counts, is_some_of}
use Rattle.rule_model.specs.Types.{operands_fit, as_counted, bit_and}
use Rattle.rule_model.specs.Parts.{Listed, needs, has_form, attributes_fit}
use Rattle.sound_model.specs.Runs.{items_of, labels_in, form_at, root_form}
use Rattle.sound_model.specs.Soundness.{IsReplaceable, IsFit, facts_with, step_shape, all_changed, RowHolds, RowSound, PatternsSound}
use Rattle.row_laws.proofs.Sources.{no_items, one_item, two_items, all_operands}
use Rattle.row_laws.proofs.Alone.{alone, alone_runs}
use Rattle.row_laws.proofs.Values.{none_is, of_some, when_is, first_holds, second_holds, equal_numbers}
use Rattle.row_laws.proofs.Forms.{form_by, kept_entry, kept_level}
use Rattle.row_laws.proofs.Fits.{same_second}
use Rattle.row_laws.proofs.Lowered.{root_is}

-- an operation that makes no value
abbrev effect_of : List ℕ → Entries → List ℕ → Shape → Step
effect_of name props successors o = record { name = name; props = props; sources = map Operand (places 0 o.operands); successors = successors; makes = [] }

no_values : (args ys : List Value) → length ys ≡ 0 → items_of args ys [] ≡ Some ys
no_values args = no_items (λ ys. items_of args ys [] ≡ Some ys) refl

effect_holds : (bits : ℕ) (table : List Pattern) (o : Shape) (name : List ℕ) (props : Entries) (successors : List ℕ)
    → o.results ≡ [] → ((labels : List ℕ) → length labels ≡ o.successors → labels_in labels successors ≡ Some labels)
    → form_at bits name props (map (becomes bits) o.operands) [] ≡ root_form bits o → IsReplaceable (root_form bits o) o.results
    → IsFit (step_shape (effect_of name props successors o) (map (becomes bits) o.operands))
    → RowHolds bits table (new_type bits) o (alone (effect_of name props successors o) [])
effect_holds bits table o name props successors none labelled form replaceable fit =
    let taken : items_of (map (becomes bits) o.operands) [] (map Operand (places 0 o.operands)) ≡ Some (map (becomes bits) o.operands) = all_operands (map (becomes bits) o.operands) [] o.operands (length-map o.operands _) in
    record {
      replaceable = replaceable;
      steps = ((map (becomes bits) o.operands, taken, λ root. fit), tt);
      does = record {
        types = sym (ap (λ ts. Some (all_changed (new_type bits) ts)) none);
        same = λ args labels next count same places.
            alone_runs bits o (map (becomes bits) o.operands) (effect_of name props successors o) [] args labels next (map (becomes bits) o.operands)
            taken (all_operands args [] o.operands count) (labelled labels places) form (sym (ap length none)) (no_values args);
      };
    }

-- value types become value types
fields_own : (bits : ℕ) (t : PlainType) (b : Bool) → is_own t ≡ true → all_own (types_in (if b then [] else t ∷ t ∷ [])) ≡ true
fields_own bits t true h = refl
fields_own bits t false h = ap₂ (λ x y. x && (y && true)) h h

value_becomes : (bits : ℕ) (t : PlainType) → is_value t ≡ true → is_value (becomes bits t) ≡ true
value_becomes bits (Int w) h = refl
value_becomes bits Index h = refl
value_becomes bits (Memref dims element) h = fields_own bits (Array (length dims) (Int bits)) (length dims == 0) refl
value_becomes bits (Func x y) h = h
value_becomes bits Ptr h = h
value_becomes bits Void h = h
value_becomes bits (Struct x) h = h
value_becomes bits (Array n t) h = h
value_becomes bits (LlvmFunc x y) h = h

values_become : (bits : ℕ) (ts : List PlainType) → list_all is_value ts ≡ true → list_all is_value (map (becomes bits) ts) ≡ true
values_become bits [] h = refl
values_become bits (t ∷ ts) h = ap₂ (λ x y. x && y) (value_becomes bits t (first_holds _ _ h)) (values_become bits ts (second_holds _ _ h))

-- the operands of a branch with a condition
abbrev branch_operands : Option (ℕ × ℕ) → List PlainType → Bool
branch_operands counts ts = list_all is_value ts && as_counted counts ts

counted_become : (bits : ℕ) (counts : Option (ℕ × ℕ)) (ts : List PlainType) → as_counted counts ts ≡ true → as_counted counts (map (becomes bits) ts) ≡ true
counted_become bits None ts h = refl
counted_become bits (Some counts) ts h = ap (λ n. n == counts.0 + counts.1) (length-map ts (becomes bits)) ∙ h

operands_become : (bits : ℕ) (counts : Option (ℕ × ℕ)) (ts : List PlainType) → bit_and (branch_operands counts) ts ≡ true → bit_and (branch_operands counts) (map (becomes bits) ts) ≡ true
operands_become bits counts [] h = h
operands_become bits counts (c ∷ ts) h =
    let rest : branch_operands counts ts ≡ true = second_holds _ _ h in
    ap₂ (λ x y. x && y) (ap (λ t. is_bit (becomes bits t)) (same_second c (Int 1) refl (first_holds _ _ h)))
    (ap₂ (λ x y. x && y) (values_become bits ts (first_holds _ _ rest)) (counted_become bits counts ts (second_holds _ _ rest)))

-- Branches

record IsBranch (n : ℕ) (o : Shape) : Type 0 where
  results : o.results ≡ []
  successors : o.successors ≡ n

branch_is : (n : ℕ) (o : Shape) → is_branch n o ≡ true → IsBranch n o
branch_is n o h = record {
  results = no_items (λ ts. ts ≡ []) refl o.results (equal_numbers _ _ (first_holds _ _ h));
  successors = equal_numbers _ _ (first_holds _ _ (second_holds _ _ h));
}

one_label : (labels : List ℕ) → length labels ≡ 1 → labels_in labels (0 ∷ []) ≡ Some labels
one_label = one_item (λ labels. labels_in labels (0 ∷ []) ≡ Some labels) (λ l. refl)

two_labels : (labels : List ℕ) → length labels ≡ 2 → labels_in labels (0 ∷ 1 ∷ []) ≡ Some labels
two_labels = two_items (λ labels. labels_in labels (0 ∷ 1 ∷ []) ≡ Some labels) (λ l m. refl)

abbrev sizes_name : List ℕ
sizes_name = codes "operandSegmentSizes"

if_counts : (c : Option (ℕ × ℕ)) (results : List PlainType) → results ≡ [] → IsReplaceable (unwrap_or (option_map (λ (counts : ℕ × ℕ). BranchOn counts.0 counts.1) c) Unknown) results
if_counts None results none = tt
if_counts (Some c) results none = none

abbrev sizes_listed : Listed
sizes_listed = needs sizes_name (λ a. is_some_of (two_counts a))

module _ (bits : ℕ) (table : List Pattern) (root : List ℕ) where
  br_sound : class_of root classes ≡ Some (always Branch) → shape_of root ≡ Some shapes.Branch → RowSound bits table root (new_type bits) (Straight (br_row bits))
  br_sound of_root shape o t named fit defined =
      let d : (is_branch 1 o ≡ true) × (Some (alone (effect_of (codes "llvm.br") [] (0 ∷ []) o) []) ≡ Some t) = when_is _ _ t defined in
      let b : IsBranch 1 o = branch_is 1 o d.0 in
      let form_is : root_form bits o ≡ Branch = root_is bits o root (always Branch) named of_root in
      let is : shape_of o.name ≡ Some shapes.Branch = ap shape_of named ∙ shape in
      subst (λ t. RowHolds bits table (new_type bits) o t) (of_some d.1)
      (effect_holds bits table o (codes "llvm.br") [] (0 ∷ []) b.results (λ labels n. one_label labels (n ∙ b.successors))
      (form_by (codes "llvm.br") (always Branch) refl _ ∙ sym form_is)
      (subst (λ f. IsReplaceable f o.results) (sym form_is) b.results)
      (record {
        successors = [];
        regions = [];
        holder = None;
        last = false;
        operands_are = values_become bits o.operands (ap (if_registered (operands_fit (facts_with o fit.successors fit.regions fit.holder fit.last))) (sym is) ∙ fit.operands_are);
        results_are = refl;
        props_are = refl;
      }))

  cond_br_holds : class_of root classes ≡ Some branch_on → shape_of root ≡ Some shapes.BranchOn → (o : Shape) → o.name ≡ root → IsFit o → IsBranch 2 o
      → (es : Entries) → kept_props sizes_name (entry sizes_name o.props) ≡ Some es → RowHolds bits table (new_type bits) o (alone (effect_of (codes "llvm.cond_br") es (0 ∷ 1 ∷ []) o) [])
  cond_br_holds of_root shape o named fit b es kept =
      let form_is : root_form bits o ≡ unwrap_or (option_map (λ (counts : ℕ × ℕ). BranchOn counts.0 counts.1) (counts_of (entries_tree o.props))) Unknown = root_is bits o root branch_on named of_root in
      let is : shape_of o.name ≡ Some shapes.BranchOn = ap shape_of named ∙ shape in
      let f : Facts = facts_with o fit.successors fit.regions fit.holder fit.last in
      let same : entry sizes_name es ≡ entry sizes_name o.props = kept_entry sizes_name o.props es refl kept in
      effect_holds bits table o (codes "llvm.cond_br") es (0 ∷ 1 ∷ []) b.results (λ labels n. two_labels labels (n ∙ b.successors))
      (form_by (codes "llvm.cond_br") branch_on refl _
      ∙ ap (λ l. unwrap_or (option_map (λ (counts : ℕ × ℕ). BranchOn counts.0 counts.1) (if_some (if_some l numbers_in) (λ zs. if_some (naturals zs) successor_counts))) Unknown) (kept_level sizes_name o.props es refl kept)
      ∙ sym form_is)
      (subst (λ f. IsReplaceable f o.results) (sym form_is) (if_counts (counts_of (entries_tree o.props)) o.results b.results))
      (record {
        successors = [];
        regions = [];
        holder = None;
        last = false;
        operands_are = ap (λ a. bit_and (branch_operands (if_some a two_counts)) (map (becomes bits) o.operands)) same ∙ operands_become bits (segments o.props) o.operands (ap (if_registered (operands_fit f)) (sym is) ∙ fit.operands_are);
        results_are = refl;
        props_are = ap (λ a. (has_form f sizes_listed a && true) && true) same ∙ ap (if_registered (attributes_fit f)) (sym is) ∙ fit.props_are;
      })

  record Conditional (o : Shape) (props : Option Entries) (t : Template) : Type 0 where
    entries : Entries
    props_are : props ≡ Some entries
    template : alone (effect_of (codes "llvm.cond_br") entries (0 ∷ 1 ∷ []) o) [] ≡ t

  conditional_is : (o : Shape) (props : Option Entries) (t : Template) → conditional o props ≡ Some t → Conditional o props t
  conditional_is o None t e = absurd (none_is e)
  conditional_is o (Some es) t e = record { entries = es; props_are = refl; template = of_some e }

  cond_br_sound : class_of root classes ≡ Some branch_on → shape_of root ≡ Some shapes.BranchOn → RowSound bits table root (new_type bits) (Straight (cond_br_row bits))
  cond_br_sound of_root shape o t named fit defined =
      let d : (is_branch 2 o ≡ true) × (conditional o (kept_props sizes_name (entry sizes_name o.props)) ≡ Some t) = when_is _ _ t defined in
      let c : Conditional o (kept_props sizes_name (entry sizes_name o.props)) t = conditional_is o _ t d.1 in
      subst (λ t. RowHolds bits table (new_type bits) o t) c.template (cond_br_holds of_root shape o named fit (branch_is 2 o d.0) c.entries c.props_are)

pub cf_sound : (bits : ℕ) (table : List Pattern) → PatternsSound bits table cf_set
cf_sound bits table = (
  br_sound bits table (codes "cf.br") refl refl,
  (
    cond_br_sound bits table (codes "cf.cond_br") refl refl,
    (
      (λ o t named fit defined. br_sound bits table (codes "llvm.br") refl refl o t named fit (when_is (has_other_type o) _ t defined).1),
      (
        (λ o t named fit defined. cond_br_sound bits table (codes "llvm.cond_br") refl refl o t named fit (when_is (has_other_type o) _ t defined).1),
        tt,
      ),
    ),
  ),
)
