-- What the rules ask of roots that are taken.
use Rattle.std.proofs.Common.{◌≡◌, ℕ, List, [], ◌∷◌, Option, Some, None, Bool, true, false, refl, sym, ap, ◌∙◌, true≢false}
use Rattle.std.specs.Prelude.{◌&&◌, ℤ, codes}
use Rattle.plain_tree.specs.Types.{PlainType, Int, Index, same_type}
use Rattle.plain_tree.specs.Attrs.{PlainAttr, Number, entry}
use Rattle.conversion_model.specs.Targets.{Shape}
use Rattle.rule_model.specs.declared.shapes.Shape.TheVariants.{NumberConstant, TwoNumbers}
use Rattle.rule_model.specs.Facts.{Facts}
use Rattle.rule_model.specs.Rows.{shape_of}
use Rattle.rule_model.specs.Rules.{if_registered}
use Rattle.rule_model.specs.declared.shapes.Shape.{Shape as FitShape}
use Rattle.rule_model.specs.Forms.{is_number, is_index}
use Rattle.rule_model.specs.Types.{one_of, two_of, as_operand, operands_fit, results_fit}
use Rattle.rule_model.specs.Parts.{attributes_fit, has_form, is_value_of}
use Rattle.sound_model.specs.Soundness.{IsFit, facts_with}
use Rattle.row_laws.proofs.Values.{first_holds, second_holds, equal_numbers}

-- types that are the same, of which one is an integer type or `index`
integer_first : (m : ℕ) (u : PlainType) → same_type (Int m) u ≡ true → Int m ≡ u
integer_first m (Int n) s = ap Int (equal_numbers m n s)
integer_first m _ s = absurd (true≢false (sym s))

index_first : (u : PlainType) → same_type Index u ≡ true → Index ≡ u
index_first Index s = refl
index_first _ s = absurd (true≢false (sym s))

pub same_first : (t u : PlainType) → is_number t ≡ true → same_type t u ≡ true → t ≡ u
same_first (Int m) u h s = integer_first m u s
same_first Index u h s = index_first u s
same_first _ u h s = absurd (true≢false (sym h))

integer_second : (t : PlainType) (n : ℕ) → same_type t (Int n) ≡ true → t ≡ Int n
integer_second (Int m) n s = ap Int (equal_numbers m n s)
integer_second _ n s = absurd (true≢false (sym s))

index_second : (t : PlainType) → same_type t Index ≡ true → t ≡ Index
index_second Index s = refl
index_second _ s = absurd (true≢false (sym s))

pub same_second : (t u : PlainType) → is_number u ≡ true → same_type t u ≡ true → t ≡ u
same_second t (Int n) h s = integer_second t n s
same_second t Index h s = index_second t s
same_second t _ h s = absurd (true≢false (sym h))

-- a constant that is as the rules ask: an integer of the type of the result
pub record IsConstant (o : Shape) : Type 0 where
  pub type : PlainType
  pub value : ℤ
  pub is_number : is_number type ≡ true
  pub results : o.results ≡ type ∷ []
  pub property : entry (codes "value") o.props ≡ Some (Number value type)

-- what the rule on properties asks of a constant
abbrev value_test : List PlainType → Option PlainAttr → Bool
value_test results None = false
value_test results (Some a) = is_value_of results a

constant_of : (o : Shape) (t : PlainType) → o.results ≡ t ∷ [] → is_number t ≡ true → (a : Option PlainAttr) → entry (codes "value") o.props ≡ a → value_test (t ∷ []) a ≡ true → IsConstant o
constant_of o t results number (Some (Number z u)) is test =
    record { type = t; value = z; is_number = number; results = results; property = is ∙ ap (λ t. Some (Number z t)) (same_second u t number test) }
constant_of o t results number _ is test = absurd (true≢false (sym test))

constant_with : (o : Shape) (ts : List PlainType) → o.results ≡ ts → one_of is_number ts ≡ true → value_test ts (entry (codes "value") o.props) ≡ true → IsConstant o
constant_with o (t ∷ []) is fits test = constant_of o t is fits (entry (codes "value") o.props) refl test
constant_with o _ is fits test = absurd (true≢false (sym fits))

tested : (f : Facts) (a : Option PlainAttr) → has_form f (record { name = codes "value"; needed = true; form = λ f a. is_value_of f.results a }) a ≡ value_test f.results a
tested f None = refl
tested f (Some a) = refl

pub is_constant : (o : Shape) → o.name ≡ codes "arith.constant" → IsFit o → IsConstant o
is_constant o named fit =
    let f : Facts = facts_with o fit.successors fit.regions fit.holder fit.last in
    let results : one_of is_number o.results ≡ true = ap (λ n. if_registered (results_fit f) (shape_of n)) (sym named) ∙ fit.results_are in
    let props : attributes_fit f NumberConstant ≡ true = ap (λ n. if_registered (attributes_fit f) (shape_of n)) (sym named) ∙ fit.props_are in
    constant_with o o.results refl results (sym (tested f (entry (codes "value") o.props)) ∙ first_holds _ _ (first_holds _ _ props))

-- an operation of two numbers that is as the rules ask: both operands and the result have one type, of an integer or `index`
pub record OfNumbers (o : Shape) : Type 0 where
  pub type : PlainType
  pub is_number : is_number type ≡ true
  pub operands : o.operands ≡ type ∷ type ∷ []
  pub results : o.results ≡ type ∷ []

numbers_of : (o : Shape) (t u v : PlainType) → o.operands ≡ t ∷ u ∷ [] → o.results ≡ v ∷ [] → (is_number t && same_type t u) ≡ true → same_type t v ≡ true → OfNumbers o
numbers_of o t u v operands results fits result =
    let number : is_number t ≡ true = first_holds _ _ fits in
    record {
      type = t;
      is_number = number;
      operands = operands ∙ ap (λ u. t ∷ u ∷ []) (sym (same_first t u number (second_holds _ _ fits)));
      results = results ∙ ap (λ v. v ∷ []) (sym (same_first t v number result));
    }

numbers_with : (o : Shape) (ts us : List PlainType) → o.operands ≡ ts → o.results ≡ us → two_of is_number ts ≡ true → as_operand 0 ts us ≡ true → OfNumbers o
numbers_with o (t ∷ u ∷ []) (v ∷ []) operands results fits result = numbers_of o t u v operands results fits result
numbers_with o (t ∷ u ∷ []) _ operands results fits result = absurd (true≢false (sym result))
numbers_with o _ us operands results fits result = absurd (true≢false (sym fits))

pub of_numbers : (o : Shape) (name : List ℕ) → o.name ≡ name → shape_of name ≡ Some TwoNumbers → IsFit o → OfNumbers o
of_numbers o name named shape fit =
    let f : Facts = facts_with o fit.successors fit.regions fit.holder fit.last in
    let is : shape_of o.name ≡ Some TwoNumbers = ap shape_of named ∙ shape in
    numbers_with o o.operands o.results refl refl (ap (if_registered (operands_fit f)) (sym is) ∙ fit.operands_are) (ap (if_registered (results_fit f)) (sym is) ∙ fit.results_are)

-- what each rule asks, where the shape of the root is known
module _ (o : Shape) (name : List ℕ) (s : FitShape) (named : o.name ≡ name) (known : shape_of name ≡ Some s) (fit : IsFit o) where
  abbrev pub facts : Facts
  facts = facts_with o fit.successors fit.regions fit.holder fit.last

  is_known : shape_of o.name ≡ Some s
  is_known = ap shape_of named ∙ known

  pub fit_operands : operands_fit facts s ≡ true
  fit_operands = ap (if_registered (operands_fit facts)) (sym is_known) ∙ fit.operands_are

  pub fit_results : results_fit facts s ≡ true
  fit_results = ap (if_registered (results_fit facts)) (sym is_known) ∙ fit.results_are

  pub fit_props : attributes_fit facts s ≡ true
  fit_props = ap (if_registered (attributes_fit facts)) (sym is_known) ∙ fit.props_are

pub index_is : (t : PlainType) → is_index t ≡ true → t ≡ Index
index_is Index h = refl
index_is _ h = absurd (true≢false (sym h))

-- one type that a test holds of
pub one_that : (test : PlainType → Bool) (ts : List PlainType) → one_of test ts ≡ true → (t : PlainType) × (ts ≡ t ∷ []) × (test t ≡ true)
one_that test (t ∷ []) h = (t, refl, h)
one_that test _ h = absurd (true≢false (sym h))
