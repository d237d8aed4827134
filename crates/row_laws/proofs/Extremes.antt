-- Rows for the greater and the less of two, by a comparison and a choice.
use Rattle.std.proofs.Common.{◌≡◌, ℕ, List, [], ◌∷◌, length, Option, Some, None, Bool, true, false, refl, sym, ap, subst, ◌∙◌}
use Rattle.std.specs.Prelude.{◌==◌, if◌then◌else◌}
use Rattle.std.specs.Option.{option_map, unwrap_or}
use Rattle.number_model.specs.Answers.{Gives}
use Rattle.number_model.specs.Arithmetic.{Binary, Comparison, compares, bit}
use Rattle.operation_model.specs.Values.{Value, Integer}
use Rattle.operation_model.specs.Pures.{TwoNumbers, Compares, Selects, is_set}
use Rattle.operation_model.specs.Doings.{Doing}
use Rattle.operation_model.specs.Doings.{Doing as doing}
use Rattle.operation_model.specs.Forms.{Computes, Unknown}
use Rattle.plain_tree.specs.Types.{PlainType, Int}
use Rattle.plain_tree.specs.Attrs.{entries_tree}
use Rattle.conversion_model.specs.declared.templates.Source.TheVariants.{Made}
use Rattle.conversion_model.specs.Templates.{Template}
use Rattle.conversion_model.specs.Targets.{Shape}
use Rattle.conversion_model.specs.Rows.{Pattern}
use Rattle.form_model.specs.Types.{width}
use Rattle.form_model.specs.Properties.{if_some, comparison_of}
use Rattle.form_model.specs.Classes.{class_of, classes, two, comparison, computes}
use Rattle.pattern_model.specs.Drafts.{predicate}
use Rattle.pattern_model.specs.ArithRows.{pair}
use Rattle.sound_model.specs.Refinement.{Refines}
use Rattle.sound_model.specs.Runs.{form_at, root_form, root_runs, template_runs, counted}
use Rattle.sound_model.specs.Soundness.{IsReplaceable, all_changed, RowHolds, StepsFit}
use Rattle.sound_model.proofs.Refining.{refines_refl}
use Rattle.row_numbers.specs.Sequences.{first_where}
use Rattle.row_numbers.specs.Promises.{ComesFrom}
use Rattle.row_laws.proofs.Sources.{two_items}
use Rattle.row_laws.proofs.Values.{step_of}
use Rattle.row_laws.proofs.Forms.{form_by, width_in, width_in_above}
use Rattle.row_laws.proofs.Lowered.{if_computes, root_is}
use Rattle.row_laws.proofs.Steps.{line_ended, line_on, line_gives, root_computes, root_unknown, OfTwo, of_two, of_gives}

-- the two operations, by their names and the number of the predicate
abbrev pub by_comparison : List ℕ → List ℕ → ℕ → PlainType → Template
by_comparison compare select n t = record { steps = step_of compare pair (predicate n) (Int 1) ∷ step_of select (Made 0 ∷ pair) [] t ∷ []; results = Made 1 ∷ [] }

pub choice_of_integers : (c : Bool) (a b : ℕ) → (if c then Integer a else Integer b) ≡ Integer (if c then a else b)
choice_of_integers true a b = refl
choice_of_integers false a b = refl

-- one result
pub counts_one : (results : List PlainType) (v : Value) (d : Doing) → length results ≡ 1 → counted results (v ∷ []) d ≡ d
counts_one results v d one = ap (λ n. if 1 == n then d else doing.Outside) one

module _ (bits : ℕ) (compare select : List ℕ) (n : ℕ) (c : Comparison) (of_compare : class_of compare classes ≡ Some comparison) (of_select : class_of select classes ≡ Some (computes Selects))
    (is_comparison : comparison_of (entries_tree (predicate n)) ≡ Some c) where
  compare_form : (ts us : List PlainType) → form_at bits compare (predicate n) ts us ≡ unwrap_or (option_map (λ w. Computes (Compares c w)) (width_in bits 0 ts)) Unknown
  compare_form ts us = form_by compare comparison of_compare _ ∙ ap (λ x. unwrap_or (if_some x (λ c. option_map (λ w. Computes (Compares c w)) (width_in bits 0 ts))) Unknown) is_comparison

  select_form : (ts us : List PlainType) → form_at bits select [] ts us ≡ Computes Selects
  select_form ts us = form_by select (computes Selects) of_select _

  runs_at : (w : ℕ) (u v t : PlainType) (a b r : ℕ) (labels : List ℕ) (next : List Value → Doing) → width_in bits 0 (u ∷ v ∷ []) ≡ Some w → first_where c w a b ≡ Gives r
      → template_runs bits (u ∷ v ∷ []) (Integer a ∷ Integer b ∷ []) labels (by_comparison compare select n t) next ≡ next (Integer r ∷ [])
  runs_at w u v t a b r labels next has given =
      line_gives bits (u ∷ v ∷ []) (Integer a ∷ Integer b ∷ []) labels (by_comparison compare select n t) (Integer (bit (compares c w a b)) ∷ (if is_set (bit (compares c w a b)) then Integer a else Integer b) ∷ [])
      ((if is_set (bit (compares c w a b)) then Integer a else Integer b) ∷ []) next
      (line_on refl refl (compare_form (u ∷ v ∷ []) (Int 1 ∷ []) ∙ ap (λ x. unwrap_or (option_map (λ w. Computes (Compares c w)) x) Unknown) has) refl
      (line_on refl refl (select_form (Int 1 ∷ u ∷ v ∷ []) (t ∷ [])) refl line_ended)) refl
      ∙ ap (λ v. next (v ∷ [])) (choice_of_integers (is_set (bit (compares c w a b))) a b ∙ ap Integer (of_gives given))

  runs : (w : ℕ) (types : List PlainType) (t : PlainType) (a b r : ℕ) (labels : List ℕ) (next : List Value → Doing) → length types ≡ 2 → width_in bits 0 types ≡ Some w → first_where c w a b ≡ Gives r
      → template_runs bits types (Integer a ∷ Integer b ∷ []) labels (by_comparison compare select n t) next ≡ next (Integer r ∷ [])
  runs w types t a b r labels next two_types =
      two_items (λ types. width_in bits 0 types ≡ Some w → first_where c w a b ≡ Gives r → template_runs bits types (Integer a ∷ Integer b ∷ []) labels (by_comparison compare select n t) next ≡ next (Integer r ∷ []))
      (λ u v. runs_at w u v t a b r labels next) types two_types

  -- of a root that is the greater or the less of two
  module _ (root : List ℕ) (op : Binary) (of_root : class_of root classes ≡ Some (two op)) (law : ComesFrom op (first_where c)) (h : width bits ≡ Some bits) where
    does_at : (o : Shape) (types : List PlainType) (t : PlainType) (x y : Value) (labels : List ℕ) (next : List Value → Doing) → length o.results ≡ 1 → length types ≡ 2
        → (w : Option ℕ) → width_in bits 0 types ≡ w → root_form bits o ≡ unwrap_or (option_map (λ w. Computes (TwoNumbers op w)) w) Unknown
        → Refines (root_runs bits o (x ∷ y ∷ []) labels next) (template_runs bits types (x ∷ y ∷ []) labels (by_comparison compare select n t) next)
    does_at o types t x y labels next one two_types None has form_is = root_unknown bits o (x ∷ y ∷ []) labels next _ form_is
    does_at o types t x y labels next one two_types (Some w) has form_is = root_computes bits o (TwoNumbers op w) (x ∷ y ∷ []) labels next _ form_is λ ys e. given ys (of_two op w x y ys e)
      where
        given : (ys : List Value) → OfTwo op w x y ys → Refines (counted o.results ys (next ys)) (template_runs bits types (x ∷ y ∷ []) labels (by_comparison compare select n t) next)
        given ys g =
            rw (g.first_is, g.second_is, g.results_are, counts_one o.results (Integer g.result) (next (Integer g.result ∷ [])) one, runs w types t g.first g.second g.result labels next two_types has (law w g.first g.second g.result (width_in_above bits h 0 types w has) g.given))
            (refines_refl (next (Integer g.result ∷ [])))

    pub extreme_holds : (table : List Pattern) (change : PlainType → Option PlainType) (o : Shape) (t : PlainType) → o.name ≡ root → length o.operands ≡ 2 → all_changed change o.results ≡ t ∷ [] → length o.results ≡ 1
        → width_in bits 0 (all_changed change o.operands) ≡ width_in bits 0 o.operands
        → StepsFit table (all_changed change o.operands) (by_comparison compare select n t).steps []
        → RowHolds bits table change o (by_comparison compare select n t)
    extreme_holds table change o t named two_operands result one same_width fit =
        let form_is : root_form bits o ≡ unwrap_or (option_map (λ w. Computes (TwoNumbers op w)) (width_in bits 0 o.operands)) Unknown = root_is bits o root (two op) named of_root in
        record {
          replaceable = subst (λ f. IsReplaceable f o.results) (sym form_is) (if_computes (width_in bits 0 o.operands) (TwoNumbers op) o.results);
          steps = fit;
          does = record {
            types = sym (ap Some result);
            same = λ args labels next h same places.
                two_items (λ args. length args ≡ length (all_changed change o.operands) → Refines (root_runs bits o args labels next) (template_runs bits (all_changed change o.operands) args labels (by_comparison compare select n t) next))
                (λ x y both. does_at o (all_changed change o.operands) t x y labels next one (sym both) (width_in bits 0 o.operands) same_width form_is) args (h ∙ two_operands) same;
          };
        }
