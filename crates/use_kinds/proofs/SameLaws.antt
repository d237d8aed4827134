-- The comparison of terms decides whether they are the same.
use Rattle.std.proofs.Common.{◌≡◌, Bool, true, false, refl, ap, ◌∙◌, sym, rules, ◌↔◌}
use Rattle.std.proofs.lemmas.Bool.Decides.{Decides-eqb}
use Rattle.std.proofs.Common.{Option, Some, None}
use Rattle.std.specs.Prelude.{◌&&◌, ◌==◌, ℕ, IsTrue, nat_le, if◌then◌else◌}
use Rattle.text_kinds.specs.declared.found.Kind.{Kind}
use Rattle.text_kinds.specs.declared.found.Kind.TheVariants as kinds
use denote.Enum.Bare.{same_true, true_same}
use Rattle.term_table.specs.contracts.node.Form.{the_type}
use Rattle.term_table.specs.declared.node.Form.{Form}
use Rattle.term_table.specs.Terms.{Term, nothing, node}
use Rattle.plain_tree.specs.Types.{PlainType}
use Rattle.text_types.specs.Plain.{type_of, term_of}
use Rattle.text_types.proofs.PlainLaws.{type_is}
use Rattle.use_kinds.specs.Same.{same_form, same_term}

all_four : (p q r s : Bool) → (p && q && r && s) ≡ true → (p ≡ true) × (q ≡ true) × (r ≡ true) × (s ≡ true)
all_four true true true true e = (refl, refl, refl, refl)
all_four true true true false e = absurd cc
all_four true true false s e = absurd cc
all_four true false r s e = absurd cc
all_four false q r s e = absurd cc

one_node : (f g : Form) (v w : ℕ) (l m r s : Term) → f ≡ g → v ≡ w → l ≡ m → r ≡ s → node f v l r ≡ node g w m s
one_node f g v w l m r s a b c d = rw (a, b, c, d) refl

pub same_is : (t u : Term) → same_term t u ≡ true → t ≡ u
same_is nothing nothing e = refl
same_is nothing (node g w m s) e = absurd cc
same_is (node f v l r) nothing e = absurd cc
same_is (node f v l r) (node g w m s) e =
    let h = all_four (same_form f g) (v == w) (same_term l m) (same_term r s) e in
    one_node f g v w l m r s (same_true the_type (search rules) f g h.0) ((Decides-eqb v w).0 h.1) (same_is l m h.2) (same_is r s h.3)

same_self : (t : Term) → same_term t t ≡ true
same_self nothing = refl
same_self (node f v l r) = rw (true_same the_type f f refl, (Decides-eqb v v).1 refl, same_self l, same_self r) refl

pub is_same : (t u : Term) → t ≡ u → same_term t u ≡ true
is_same t u e = ap (same_term t) (sym e) ∙ same_self t

pub one_term : (t u : PlainType) → IsTrue (same_term (term_of t) (term_of u)) ↔ (t ≡ u)
one_term t u = (
  λ e. sym (type_is t) ∙ ap type_of (same_is (term_of t) (term_of u) e) ∙ type_is u,
  λ e. is_same (term_of t) (term_of u) (ap term_of e),
)

if_same : (i j : Bool) → i ≡ false → j ≡ true → ◌≡◌ {A = Option Kind} None (if i then Some kinds.ResultIndex else if j then None else Some kinds.UseType)
if_same true j e f = absurd cc
if_same false true e f = refl
if_same false false e f = absurd cc

if_other : (i j : Bool) → i ≡ false → j ≡ false → ◌≡◌ {A = Option Kind} (Some kinds.UseType) (if i then Some kinds.ResultIndex else if j then None else Some kinds.UseType)
if_other true j e f = absurd cc
if_other false true e f = absurd cc
if_other false false e f = refl

not_true : (b : Bool) → (b ≡ true → ⊥) → b ≡ false
not_true true h = absurd (h refl)
not_true false h = refl

pub fault_same : (count index : ℕ) (t u : Term) (r : Bool) → nat_le count index ≡ false → (IsTrue r ↔ (t ≡ u)) → r ≡ true
    → None ≡ (if nat_le count index then Some kinds.ResultIndex else if same_term t u then None else Some kinds.UseType)
fault_same count index t u r below same is = if_same _ _ below (is_same t u (same.0 is))

pub fault_other : (count index : ℕ) (t u : Term) (r : Bool) → nat_le count index ≡ false → (IsTrue r ↔ (t ≡ u)) → r ≡ false
    → Some kinds.UseType ≡ (if nat_le count index then Some kinds.ResultIndex else if same_term t u then None else Some kinds.UseType)
fault_other count index t u r below same is = if_other _ _ below (not_true (same_term t u) (λ e. let own : r ≡ true = same.1 (same_is t u e) in absurd cc))
