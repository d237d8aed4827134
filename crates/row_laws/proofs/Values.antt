-- Rows of one operation that makes one value.
use Rattle.std.proofs.Common.{◌≡◌, ℕ, List, [], ◌∷◌, length, Option, Some, None, Bool, true, false, refl, sym, ap, subst, ◌∙◌, true≢false, arith}
use Rattle.std.specs.Prelude.{◌==◌, ◌&&◌, map}
use Rattle.std.specs.Option.{unwrap_or}
use Rattle.std.proofs.lemmas.List.{length-map}
use Rattle.operation_model.specs.Values.{Value}
use Rattle.plain_tree.specs.Types.{PlainType}
use Rattle.plain_tree.specs.Attrs.{Entries}
use Rattle.conversion_model.specs.declared.templates.Source.{Source}
use Rattle.conversion_model.specs.declared.templates.Source.TheVariants.{Operand, Made}
use Rattle.conversion_model.specs.Templates.{Step, Template}
use Rattle.conversion_model.specs.Targets.{Shape}
use Rattle.conversion_model.specs.Rows.{Pattern}
use Rattle.conversion_model.specs.Chosen.{places}
use Rattle.pattern_model.specs.Drafts.{is_plain, when}
use Rattle.pattern_model.specs.ArithRows.{one_value}
use Rattle.sound_model.specs.Runs.{items_of, form_at, root_form}
use Rattle.sound_model.specs.Soundness.{IsReplaceable, is_root, all_changed, RowHolds}
use Rattle.row_laws.proofs.Sources.{one_item, all_operands}
use Rattle.row_laws.proofs.Alone.{alone, alone_runs}

pub of_some : {A : Type 0} {x y : A} → Some x ≡ Some y → x ≡ y
of_some {x = x} e = ap (λ o. unwrap_or o x) e

abbrev IsSome : {A : Type 0} → Option A → Type 0
IsSome None = ⊥
IsSome (Some x) = Unit {0}

pub none_is : {A : Type 0} {x : A} → None ≡ Some x → ⊥
none_is e = subst IsSome (sym e) tt

-- what a row asks holds where it is defined
pub when_is : (b : Bool) (x : Option Template) (t : Template) → when b x ≡ Some t → (b ≡ true) × (x ≡ Some t)
when_is true x t e = (refl, e)
when_is false x t e = absurd (none_is e)

pub first_holds : (x y : Bool) → (x && y) ≡ true → x ≡ true
first_holds true y h = refl
first_holds false y h = h

pub second_holds : (x y : Bool) → (x && y) ≡ true → y ≡ true
second_holds true y h = h
second_holds false y h = absurd (true≢false (sym h))

pub equal_numbers : (m n : ℕ) → (m == n) ≡ true → m ≡ n
equal_numbers m n h = grind arith

-- an operation of so many operands and results, without successors and regions
pub record IsPlain (m n : ℕ) (o : Shape) : Type 0 where
  pub operands : length o.operands ≡ m
  pub results : length o.results ≡ n
  pub successors : o.successors ≡ 0

pub plain_is : (m n : ℕ) (o : Shape) → is_plain m n o ≡ true → IsPlain m n o
plain_is m n o h =
    let rest : ((length o.results == n) && ((o.successors == 0) && (o.regions == 0))) ≡ true = second_holds _ _ h in
    record {
      operands = equal_numbers _ _ (first_holds _ _ h);
      results = equal_numbers _ _ (first_holds _ _ rest);
      successors = equal_numbers _ _ (first_holds _ _ (second_holds _ _ rest));
    }

-- the one operation
abbrev pub step_of : List ℕ → List Source → Entries → PlainType → Step
step_of name sources props t = record { name = name; props = props; sources = sources; successors = []; makes = t ∷ [] }

pub record OneValue (name : List ℕ) (sources : List Source) (props : Option Entries) (ts : List PlainType) (t : Template) : Type 0 where
  pub entries : Entries
  pub type : PlainType
  pub props_are : props ≡ Some entries
  pub types_are : ts ≡ type ∷ []
  pub is : alone (step_of name sources entries type) (Made 0 ∷ []) ≡ t

pub one_value_is : (name : List ℕ) (sources : List Source) (props : Option Entries) (ts : List PlainType) (t : Template) → one_value name sources props ts ≡ Some t → OneValue name sources props ts t
one_value_is name sources None ts t e = absurd (none_is e)
one_value_is name sources (Some props) [] t e = absurd (none_is e)
one_value_is name sources (Some props) (u ∷ []) t e = record { entries = props; type = u; props_are = refl; types_are = refl; is = of_some e }
one_value_is name sources (Some props) (u ∷ v ∷ ts) t e = absurd (none_is e)

-- the one value that is made
the_value : (args ys : List Value) → length ys ≡ 1 → items_of args ys (Made 0 ∷ []) ≡ Some ys
the_value args = one_item (λ ys. items_of args ys (Made 0 ∷ []) ≡ Some ys) (λ y. refl)

-- no labels
no_labels : (n : ℕ) (labels : List ℕ) → n ≡ 0 → length labels ≡ n → Some [] ≡ Some labels
no_labels n [] e h = refl
no_labels n (l ∷ ls) e h = absurd (omega (arith, e, h))

-- a row of one operation of the form of the root, with the operands in order
pub value_holds : (bits : ℕ) (table : List Pattern) (change : PlainType → Option PlainType) (o : Shape) (name : List ℕ) (sources : List Source) (props : Option Entries) (t : Template)
    → one_value name sources props (all_changed change o.results) ≡ Some t
    → length o.results ≡ 1 → o.successors ≡ 0 → sources ≡ map Operand (places 0 o.operands)
    → is_root table name ≡ false → IsReplaceable (root_form bits o) o.results
    → ((es : Entries) → props ≡ Some es → form_at bits name es (all_changed change o.operands) (all_changed change o.results) ≡ root_form bits o)
    → RowHolds bits table change o t
value_holds bits table change o name sources props t defined results successors in_order no_root replaceable forms = go (one_value_is name sources props (all_changed change o.results) t defined)
  where
    taken : items_of (all_changed change o.operands) [] sources ≡ Some (all_changed change o.operands)
    taken = subst (λ ss. items_of (all_changed change o.operands) [] ss ≡ Some (all_changed change o.operands)) (sym in_order) (all_operands (all_changed change o.operands) [] o.operands (length-map o.operands _))

    go : OneValue name sources props (all_changed change o.results) t → RowHolds bits table change o t
    go v = subst (λ t. RowHolds bits table change o t) v.is (record {
      replaceable = replaceable;
      steps = ((all_changed change o.operands, taken, λ root. absurd (true≢false (sym root ∙ no_root))), tt);
      does = record {
        types = sym (ap Some v.types_are);
        same = λ args labels next h same places.
            alone_runs bits o (all_changed change o.operands) (step_of name sources v.entries v.type) (Made 0 ∷ []) args labels next (all_changed change o.operands)
            taken
            (subst (λ ss. items_of args [] ss ≡ Some args) (sym in_order) (all_operands args [] o.operands h))
            (no_labels o.successors labels successors places)
            (ap (form_at bits name v.entries (all_changed change o.operands)) (sym v.types_are) ∙ forms v.entries v.props_are)
            (sym results) (the_value args);
      };
    })
