-- The operations that rows of expand make are as the rules ask.
use Rattle.std.proofs.Common.{◌≡◌, ℕ, List, [], ◌∷◌, Some, None, Bool, true, false, refl, sym, ap, ap₂, ◌∙◌, true≢false, arith}
use Rattle.std.specs.Prelude.{◌&&◌, ℤ, pos, codes}
use Rattle.plain_tree.specs.Types.{PlainType, Int, Index, same_type}
use Rattle.plain_tree.specs.ValueTypes.{is_value}
use Rattle.plain_tree.specs.Attrs.{Number, entry}
use Rattle.rule_model.specs.declared.shapes.Shape.TheVariants.{TwoNumbers, FlaggedNumbers}
use Rattle.rule_model.specs.Rows.{shape_of}
use Rattle.rule_model.specs.Rules.{if_registered}
use Rattle.rule_model.specs.Forms.{is_number, is_predicate}
use Rattle.rule_model.specs.Parts.{Listed, has_form, is_value_of}
use Rattle.pattern_model.specs.Drafts.{predicate, constant_value}
use Rattle.sound_model.specs.Soundness.{IsFit, facts_with, step_shape}
use Rattle.row_laws.proofs.Values.{step_of}

same_refl : (t : PlainType) → is_number t ≡ true → same_type t t ≡ true
same_refl (Int w) h = grind arith
same_refl Index h = refl
same_refl _ h = absurd (true≢false (sym h))

both : (x y : Bool) → x ≡ true → y ≡ true → (x && y) ≡ true
both x y h k = ap₂ (λ x y. x && y) h k

-- two operands of one type, and a result of it
pub fit_two : (name : List ℕ) (t : PlainType) → shape_of name ≡ Some TwoNumbers → is_number t ≡ true → IsFit (step_shape (step_of name [] [] t) (t ∷ t ∷ []))
fit_two name t shape h = record {
  successors = [];
  regions = [];
  holder = None;
  last = false;
  operands_are = ap (if_registered _) shape ∙ both (is_number t) (same_type t t) h (same_refl t h);
  results_are = ap (if_registered _) shape ∙ same_refl t h;
  props_are = ap (if_registered _) shape;
}

pub fit_flagged : (name : List ℕ) (t : PlainType) → shape_of name ≡ Some FlaggedNumbers → is_number t ≡ true → IsFit (step_shape (step_of name [] [] t) (t ∷ t ∷ []))
fit_flagged name t shape h = record {
  successors = [];
  regions = [];
  holder = None;
  last = false;
  operands_are = ap (if_registered _) shape ∙ both (is_number t) (same_type t t) h (same_refl t h);
  results_are = ap (if_registered _) shape ∙ same_refl t h;
  props_are = ap (if_registered _) shape;
}

-- a comparison of two of one type
pub fit_compared : (n : ℕ) (t : PlainType) → is_predicate (Number (pos n) (Int 64)) ≡ true → is_number t ≡ true
    → IsFit (step_shape (step_of (codes "arith.cmpi") [] (predicate n) (Int 1)) (t ∷ t ∷ []))
fit_compared n t there h = record {
  successors = [];
  regions = [];
  holder = None;
  last = false;
  operands_are = both (is_number t) (same_type t t) h (same_refl t h);
  results_are = refl;
  props_are = ap (λ x. (x && true) && true) there;
}

-- a constant of a type
abbrev value_listed : Listed
value_listed = record { name = codes "value"; needed = true; form = λ f a. is_value_of f.results a }

kept_type : (t : PlainType) (z : ℤ) → is_number t ≡ true → has_form (facts_with (step_shape (step_of (codes "arith.constant") [] (constant_value t z) t) []) [] [] None false) value_listed (entry (codes "value") (constant_value t z)) ≡ true
kept_type (Int w) z h = same_refl (Int w) h
kept_type Index z h = refl
kept_type _ z h = absurd (true≢false (sym h))

pub fit_constant : (t : PlainType) (z : ℤ) → is_number t ≡ true → IsFit (step_shape (step_of (codes "arith.constant") [] (constant_value t z) t) [])
fit_constant t z h = record {
  successors = [];
  regions = [];
  holder = None;
  last = false;
  operands_are = refl;
  results_are = h;
  props_are = ap (λ x. (x && true) && true) (kept_type t z h);
}

-- a choice between two of one type
value_type : (t : PlainType) → is_number t ≡ true → is_value t ≡ true
value_type (Int w) h = refl
value_type Index h = refl
value_type _ h = absurd (true≢false (sym h))

pub fit_selected : (t : PlainType) → is_number t ≡ true → IsFit (step_shape (step_of (codes "arith.select") [] [] t) (Int 1 ∷ t ∷ t ∷ []))
fit_selected t h = record {
  successors = [];
  regions = [];
  holder = None;
  last = false;
  operands_are = both (is_value t) (same_type t t) (value_type t h) (same_refl t h);
  results_are = same_refl t h;
  props_are = refl;
}
