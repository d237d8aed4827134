-- Rows of arith_expand: operations of two numbers by several ones.
use Rattle.std.proofs.Common.{◌≡◌, ℕ, ◌<◌, List, [], ◌∷◌, length, Option, Some, None, true, refl, sym, ap, ap₂, subst, ◌∙◌}
use Rattle.std.specs.Prelude.{codes, pos}
use Rattle.std.specs.Option.{option_map, unwrap_or}
use Rattle.tree_model.specs.declared.type_tree.TypeTree.TheVariants.{outs-Int}
use Rattle.number_model.specs.Numbers.{wrapped}
use Rattle.number_model.specs.Answers.{Gives}
use Rattle.number_model.specs.Arithmetic.{Flags, no_flags, Binary, binary, Comparison}
use Rattle.operation_model.specs.Values.{Value, Integer}
use Rattle.operation_model.specs.Pures.{Known, TwoNumbers, Compares, Selects}
use Rattle.operation_model.specs.Doings.{Doing}
use Rattle.operation_model.specs.Forms.{Computes, Unknown}
use Rattle.plain_tree.specs.Types.{PlainType, Int}
use Rattle.conversion_model.specs.Templates.{Template}
use Rattle.conversion_model.specs.Targets.{Shape}
use Rattle.conversion_model.specs.Rows.{Pattern}
use Rattle.form_model.specs.Types.{width, width_at}
use Rattle.form_model.specs.Properties.{if_some, comparison_at, comparisons}
use Rattle.form_model.specs.Classes.{class_of, classes, two, flagged, comparison, computes}
use Rattle.pattern_model.specs.Drafts.{predicate, constant_value}
use Rattle.rule_model.specs.Forms.{is_number}
use Rattle.sound_model.specs.Refinement.{Refines}
use Rattle.sound_model.specs.Runs.{items_of, form_at, root_form, root_runs, template_runs, counted, types_made}
use Rattle.sound_model.specs.Soundness.{IsReplaceable, all_changed, RowHolds, StepsFit}
use Rattle.sound_model.proofs.Refining.{refines_refl}
use Rattle.row_laws.proofs.Sources.{two_items}
use Rattle.row_laws.proofs.Forms.{form_by, width_in, width_in_above}
use Rattle.row_laws.proofs.Fits.{OfNumbers}
use Rattle.row_laws.proofs.Lowered.{if_computes, root_is}
use Rattle.row_laws.proofs.Steps.{root_computes, root_unknown, OfTwo, of_two}
use Rattle.row_laws.proofs.Extremes.{counts_one}
use Rattle.row_laws.proofs.Constants.{constant_form, known}
use Rattle.row_laws.proofs.ArithSet.{comparison_is}

-- The forms of operations without properties, at a width that is there

module _ (bits w : ℕ) (ts us : List PlainType) (has : width_in bits 0 ts ≡ Some w) where
  pub form_two : (name : List ℕ) (op : Binary) → class_of name classes ≡ Some (two op) → form_at bits name [] ts us ≡ Computes (TwoNumbers op w)
  form_two name op is = form_by name (two op) is _ ∙ ap (λ x. unwrap_or (option_map (λ w. Computes (TwoNumbers op w)) x) Unknown) has

  pub form_flagged : (name : List ℕ) (op : Flags → Binary) → class_of name classes ≡ Some (flagged op) → form_at bits name [] ts us ≡ Computes (TwoNumbers (op no_flags) w)
  form_flagged name op is = form_by name (flagged op) is _ ∙ ap (λ x. unwrap_or (option_map (λ w. Computes (TwoNumbers (op no_flags) w)) x) Unknown) has

  pub form_compared : (n : ℕ) (c : Comparison) → comparison_at n comparisons ≡ Some c → form_at bits (codes "arith.cmpi") (predicate n) ts us ≡ Computes (Compares c w)
  form_compared n c is =
      form_by (codes "arith.cmpi") comparison refl _
      ∙ ap₂ (λ c x. unwrap_or (if_some c (λ c. option_map (λ w. Computes (Compares c w)) x)) Unknown) (comparison_is n ∙ is) has

pub form_selected : (bits : ℕ) (ts us : List PlainType) → form_at bits (codes "arith.select") [] ts us ≡ Computes Selects
form_selected bits ts us = form_by (codes "arith.select") (computes Selects) refl _

pub form_constant : (bits w : ℕ) (t : PlainType) → is_number t ≡ true → width_in bits 0 (t ∷ []) ≡ Some w → (n : ℕ) → form_at bits (codes "arith.constant") (constant_value t (pos n)) [] (t ∷ []) ≡ Computes (Known (Integer (wrapped w (pos n))))
form_constant bits w t h has n = constant_form bits (codes "arith.constant") refl t h (pos n) [] ∙ ap (known (Some (pos n))) has

-- the width of a bit
pub bit_width : (bits : ℕ) (ts : List PlainType) → width_in bits 0 (Int 1 ∷ ts) ≡ Some 1
bit_width bits ts = ap (width_at bits) (outs-Int 1)

-- A row whose root is an operation of two numbers that is as the rules ask
module _ (bits : ℕ) (h : width bits ≡ Some bits) (table : List Pattern) (o : Shape) (c : OfNumbers o) (root : List ℕ) (named : o.name ≡ root) (op : Binary) (of_root : class_of root classes ≡ Some (two op)) (tpl : Template) where
  abbrev pub GivesSame : Type 0
  GivesSame = (w : ℕ) → 0 < w → width_in bits 0 (c.type ∷ []) ≡ Some w → (a b r : ℕ) (labels : List ℕ) (next : List Value → Doing) → binary op w a b ≡ Gives r
      → template_runs bits (c.type ∷ c.type ∷ []) (Integer a ∷ Integer b ∷ []) labels tpl next ≡ next (Integer r ∷ [])

  form_is : root_form bits o ≡ unwrap_or (option_map (λ w. Computes (TwoNumbers op w)) (width_in bits 0 (c.type ∷ []))) Unknown
  form_is = root_is bits o root (two op) named of_root ∙ ap (λ ts. unwrap_or (option_map (λ w. Computes (TwoNumbers op w)) (width_in bits 0 ts)) Unknown) c.operands

  runs : GivesSame → (x y : Value) (labels : List ℕ) (next : List Value → Doing) (p : Option ℕ) → width_in bits 0 (c.type ∷ []) ≡ p → root_form bits o ≡ unwrap_or (option_map (λ w. Computes (TwoNumbers op w)) p) Unknown
      → Refines (root_runs bits o (x ∷ y ∷ []) labels next) (template_runs bits (c.type ∷ c.type ∷ []) (x ∷ y ∷ []) labels tpl next)
  runs gives_it x y labels next None has is = root_unknown bits o (x ∷ y ∷ []) labels next _ is
  runs gives_it x y labels next (Some w) has is = root_computes bits o (TwoNumbers op w) (x ∷ y ∷ []) labels next _ is λ ys e. given ys (of_two op w x y ys e)
    where
      given : (ys : List Value) → OfTwo op w x y ys → Refines (counted o.results ys (next ys)) (template_runs bits (c.type ∷ c.type ∷ []) (x ∷ y ∷ []) labels tpl next)
      given ys g =
          rw (
            g.first_is,
            g.second_is,
            g.results_are,
            counts_one o.results (Integer g.result) (next (Integer g.result ∷ [])) (ap length c.results),
            gives_it w (width_in_above bits h 0 (c.type ∷ []) w has) has g.first g.second g.result labels next g.given,
          )
          (refines_refl (next (Integer g.result ∷ [])))

  pub numbers_hold : GivesSame → StepsFit table (c.type ∷ c.type ∷ []) tpl.steps [] → items_of (c.type ∷ c.type ∷ []) (types_made tpl.steps) tpl.results ≡ Some (c.type ∷ [])
      → RowHolds bits table (λ t. None) o tpl
  numbers_hold gives_it fit result =
      let types_are : all_changed (λ t. None) o.operands ≡ c.type ∷ c.type ∷ [] = ap (all_changed (λ t. None)) c.operands in
      record {
        replaceable = subst (λ f. IsReplaceable f o.results) (sym form_is) (if_computes (width_in bits 0 (c.type ∷ [])) (TwoNumbers op) o.results);
        steps = subst (λ ts. StepsFit table ts tpl.steps []) (sym types_are) fit;
        does = record {
          types = ap (λ ts. items_of ts (types_made tpl.steps) tpl.results) types_are ∙ result ∙ sym (ap (λ ts. Some (all_changed (λ t. None) ts)) c.results);
          same = λ args labels next count same places.
              subst (λ ts. Refines (root_runs bits o args labels next) (template_runs bits ts args labels tpl next)) (sym types_are)
              (two_items (λ args. Refines (root_runs bits o args labels next) (template_runs bits (c.type ∷ c.type ∷ []) args labels tpl next))
              (λ x y. runs gives_it x y labels next (width_in bits 0 (c.type ∷ [])) refl form_is) args (count ∙ ap length c.operands));
        };
      }
