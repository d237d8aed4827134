-- The equality of nodes.
use Rattle.std.proofs.Common.{◌≡◌, Bool, true, false, refl, ap, ◌∙◌, rules}
use Rattle.std.specs.Bool.{Decides}
use Rattle.std.proofs.lemmas.Bool.Decides.{Decides-eqb}
use Rattle.std.specs.Prelude.{◌&&◌, ◌==◌, ℕ}
use denote.Enum.Bare.{sameb, same_true, true_same}
use Rattle.term_table.specs.contracts.node.NodePartialEq.TheImpl as node_eq
use Rattle.term_table.specs.contracts.node.Form.{the_type}
use Rattle.term_table.specs.declared.node.Form.{Form}
use Rattle.term_table.specs.declared.node.Node.{Node}

all_four : (p q r s : Bool) → (p && (q && (r && s))) ≡ true → (p ≡ true) × (q ≡ true) × (r ≡ true) × (s ≡ true)
all_four true true true true e = (refl, refl, refl, refl)
all_four true true true false e = absurd cc
all_four true true false s e = absurd cc
all_four true false r s e = absurd cc
all_four false q r s e = absurd cc

abbrev with : Form → ℕ → ℕ → ℕ → Node
with form value left right = record { form = form; value = value; left = left; right = right }

pub one_node : (a b : Node) → a.form ≡ b.form → a.value ≡ b.value → a.left ≡ b.left → a.right ≡ b.right → a ≡ b
one_node a b e f g h =
    ap (λ x. with x a.value a.left a.right) e ∙ ap (λ x. with b.form x a.left a.right) f ∙ ap (λ x. with b.form b.value x a.right) g ∙ ap (λ x. with b.form b.value b.left x) h

-- `==` of nodes
abbrev pub node_equal : Node → Node → Bool
node_equal = (node_eq.eq-value).it

pub node_same : (a b : Node) → Decides (node_equal a b) (a ≡ b)
node_same a b = (
  λ e. let h = all_four (sameb the_type a.form b.form) (a.value == b.value) (a.left == b.left) (a.right == b.right) e in
      one_node a b (same_true the_type (search rules) a.form b.form h.0) ((Decides-eqb a.value b.value).0 h.1) ((Decides-eqb a.left b.left).0 h.2)
      ((Decides-eqb a.right b.right).0 h.3),
  λ e. rw (
    true_same the_type a.form b.form (ap (λ (n : Node). n.form) e),
    (Decides-eqb a.value b.value).1 (ap (λ (n : Node). n.value) e),
    (Decides-eqb a.left b.left).1 (ap (λ (n : Node). n.left) e),
    (Decides-eqb a.right b.right).1 (ap (λ (n : Node). n.right) e),
  ) refl,
)
