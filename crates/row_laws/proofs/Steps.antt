-- Steps that compute, one after another.
use Rattle.std.proofs.Common.{◌≡◌, ℕ, List, [], ◌∷◌, ◌++◌, Some, refl, sym, ap, subst, ◌∙◌}
use Rattle.number_model.specs.Answers.{Answer, Gives, with_answer}
use Rattle.number_model.specs.Answers.{Answer as answer}
use Rattle.number_model.specs.Arithmetic.{Binary, binary}
use Rattle.operation_model.specs.Values.{Value, Integer, Pointer, Unset, Aggregate}
use Rattle.operation_model.specs.Pures.{Pure, TwoNumbers, gives, integer}
use Rattle.operation_model.specs.Doings.{Doing, Ends, on}
use Rattle.operation_model.specs.Forms.{Computes, Unknown}
use Rattle.plain_tree.specs.Types.{PlainType}
use Rattle.plain_tree.specs.Attrs.{Entries}
use Rattle.conversion_model.specs.declared.templates.Source.{Source}
use Rattle.conversion_model.specs.Templates.{Step, Template}
use Rattle.conversion_model.specs.Targets.{Shape}
use Rattle.sound_model.specs.Refinement.{Refines, then_on}
use Rattle.sound_model.specs.Runs.{if_there, template_runs, items_of, counted, form_at, root_form, root_runs, steps_run}
use Rattle.row_laws.proofs.Values.{step_of}

-- steps that give one value each: from those made so far to all
pub data Line (bits : ℕ) (types : List PlainType) (args : List Value) : List Step → List PlainType → List Value → List Value → Type 0 where
  line_ended : {made_types : List PlainType} {made : List Value} → Line bits types args [] made_types made made
  line_on : {name : List ℕ} {sources : List Source} {props : Entries} {t : PlainType} {xs : List Step} {made_types : List PlainType} {made all : List Value} {ts : List PlainType} {vs : List Value} {p : Pure} {y : Value}
      → items_of types made_types sources ≡ Some ts → items_of args made sources ≡ Some vs → form_at bits name props ts (t ∷ []) ≡ Computes p → gives p vs ≡ Gives (y ∷ [])
      → Line bits types args xs (made_types ++ t ∷ []) (made ++ y ∷ []) all → Line bits types args (step_of name sources props t ∷ xs) made_types made all

pub line_runs : (bits : ℕ) (types : List PlainType) (args : List Value) (labels : List ℕ) (steps : List Step) (made_types : List PlainType) (made all : List Value) (next : List Value → Doing)
    → Line bits types args steps made_types made all → steps_run bits types args labels steps made_types made next ≡ next all
line_runs bits types args labels _ _ _ _ next line_ended = refl
line_runs bits types args labels _ _ _ _ next (line_on e f g h rest) = rw (e, f, g, h) (line_runs bits types args labels _ _ _ _ next rest)

pub line_gives : (bits : ℕ) (types : List PlainType) (args : List Value) (labels : List ℕ) (t : Template) (all vs : List Value) (next : List Value → Doing)
    → Line bits types args t.steps [] [] all → items_of args all t.results ≡ Some vs → template_runs bits types args labels t next ≡ next vs
line_gives bits types args labels t all vs next line results =
    line_runs bits types args labels t.steps [] [] all (λ made. if_there (items_of args made t.results) next) line ∙ ap (λ o. if_there o next) results

-- a root that computes: what it gives counts, where it gives something
pub root_computes : (bits : ℕ) (o : Shape) (p : Pure) (args : List Value) (labels : List ℕ) (next : List Value → Doing) (d : Doing)
    → root_form bits o ≡ Computes p → ((ys : List Value) → gives p args ≡ Gives ys → Refines (counted o.results ys (next ys)) d) → Refines (root_runs bits o args labels next) d
root_computes bits o p args labels next d e h = rw e (go (gives p args) h)
  where
    go : (a : Answer (List Value)) → ((ys : List Value) → a ≡ Gives ys → Refines (counted o.results ys (next ys)) d)
        → Refines (then_on (on a Ends) (λ ys. counted o.results ys (next ys))) d
    go (Gives ys) h = h ys refl
    go answer.Undefined h = tt
    go answer.Outside h = tt

-- a root without a meaning
pub root_unknown : (bits : ℕ) (o : Shape) (args : List Value) (labels : List ℕ) (next : List Value → Doing) (d : Doing) → root_form bits o ≡ Unknown → Refines (root_runs bits o args labels next) d
root_unknown bits o args labels next d e = rw e tt

-- what two values are of which an operation of two numbers gives something
pub record OfTwo (op : Binary) (w : ℕ) (x y : Value) (ys : List Value) : Type 0 where
  pub first : ℕ
  pub second : ℕ
  pub result : ℕ
  pub first_is : x ≡ Integer first
  pub second_is : y ≡ Integer second
  pub given : binary op w first second ≡ Gives result
  pub results_are : ys ≡ Integer result ∷ []

abbrev IsGiven : {A : Type 0} → Answer A → Type 0
IsGiven (Gives a) = Unit {0}
IsGiven answer.Undefined = ⊥
IsGiven answer.Outside = ⊥

abbrev given_or : {A : Type 0} → A → Answer A → A
given_or d (Gives a) = a
given_or d answer.Undefined = d
given_or d answer.Outside = d

pub undefined_gives : {A : Type 0} {x : A} → answer.Undefined ≡ Gives x → ⊥
undefined_gives e = subst IsGiven (sym e) tt

pub outside_gives : {A : Type 0} {x : A} → answer.Outside ≡ Gives x → ⊥
outside_gives e = subst IsGiven (sym e) tt

pub of_gives : {A : Type 0} {x y : A} → Gives x ≡ Gives y → x ≡ y
of_gives {x = x} e = ap (given_or x) e

of_numbers : (op : Binary) (w a b : ℕ) (ys : List Value) → gives (TwoNumbers op w) (Integer a ∷ Integer b ∷ []) ≡ Gives ys → OfTwo op w (Integer a) (Integer b) ys
of_numbers op w a b ys e = go (binary op w a b) refl e
  where
    go : (r : Answer ℕ) → binary op w a b ≡ r → with_answer integer r ≡ Gives ys → OfTwo op w (Integer a) (Integer b) ys
    go (Gives r) is e = record { first = a; second = b; result = r; first_is = refl; second_is = refl; given = is; results_are = sym (of_gives e) }
    go answer.Undefined is e = absurd (subst IsGiven (sym e) tt)
    go answer.Outside is e = absurd (subst IsGiven (sym e) tt)

pub of_two : (op : Binary) (w : ℕ) (x y : Value) (ys : List Value) → gives (TwoNumbers op w) (x ∷ y ∷ []) ≡ Gives ys → OfTwo op w x y ys
of_two op w (Integer a) (Integer b) ys e = of_numbers op w a b ys e
of_two op w (Integer a) (Pointer b o) ys e = absurd (subst IsGiven (sym e) tt)
of_two op w (Integer a) Unset ys e = absurd (subst IsGiven (sym e) tt)
of_two op w (Integer a) (Aggregate ps) ys e = absurd (subst IsGiven (sym e) tt)
of_two op w (Pointer b o) y ys e = absurd (subst IsGiven (sym e) tt)
of_two op w Unset y ys e = absurd (subst IsGiven (sym e) tt)
of_two op w (Aggregate ps) y ys e = absurd (subst IsGiven (sym e) tt)
