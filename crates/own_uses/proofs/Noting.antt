-- The steps of the loops over values and operations.
use Rattle.std.proofs.Common.{◌≡◌, ℕ, suc, ◌+◌, ◌<◌, List, [], ◌∷◌, ◌++◌, drop, length, get_or, Option, Some, None, refl, sym, ap, ◌∙◌, append_assoc, arith}
use Rattle.std.specs.Borrow.{Bor}
use Rattle.std.proofs.Math.Seq.{drop-cons}
use Rattle.tree_model.specs.declared.type_tree.TypeTree.{TypeTree}
use Rattle.tree_model.specs.declared.op_tree.OpTree.{OpTree, out-OpTree}
use Rattle.plain_tree.specs.Ops.{plain_op, plain_values}
use Rattle.rule_model.specs.Words.{numbers, results_of}
use Rattle.first_places.specs.Tables.{with_first, with_firsts}
use Rattle.first_places.proofs.Tables.{firsts_joined}
use Rattle.own_uses.specs.Flat.{if_made, makers_from, makers_of, numbered}
use Rattle.own_uses.specs.Views.{plain_ops}
use Rattle.own_uses.proofs.Layers.{results_at}

pub dropped : {A : Type 0} (xs : List A) (i : ℕ) (x : A) → i < length xs → x ≡ get_or xs i x → drop i xs ≡ x ∷ drop (i + 1) xs
dropped xs i x less at =
    let on : suc i ≡ i + 1 = omega arith in
    drop-cons xs i x less ∙ ap (λ y. y ∷ drop (suc i) xs) (sym at) ∙ ap (λ k. x ∷ drop k xs) on

abbrev Table : Type 0
Table = ℕ → Option ℕ

pub results_on : (f g whole : Table) (n : ℕ) (vs : List (ℕ × TypeTree)) (i : ℕ) (v : ℕ × TypeTree) → i < length vs → v ≡ get_or vs i v → g ≡ with_first f v.0 n
    → with_firsts f (numbered n (numbers (plain_values (drop i vs)))) ≡ whole → with_firsts g (numbered n (numbers (plain_values (drop (i + 1) vs)))) ≡ whole
results_on f g whole n vs i v less at e before =
    ap (λ (h : Table). with_firsts h (numbered n (numbers (plain_values (drop (i + 1) vs))))) e
    ∙ ap (λ us. with_firsts f (numbered n (numbers (plain_values us)))) (sym (dropped vs i v less at)) ∙ before

pub makers_on : (f g whole : Table) (n : ℕ) (os : List (Bor OpTree)) (o : Bor OpTree) (results : List (ℕ × TypeTree)) → n < length os → o ≡ get_or os n o → results ≡ (out-OpTree o.now).results
    → g ≡ with_firsts f (numbered n (numbers (plain_values results)))
    → with_firsts f (makers_from n (plain_ops (drop n os))) ≡ whole → with_firsts g (makers_from (n + 1) (plain_ops (drop (n + 1) os))) ≡ whole
makers_on f g whole n os o results less at er e before =
    let same : numbers (plain_values results) ≡ results_of (plain_op o.now) = ap (λ rs. numbers (plain_values rs)) er ∙ sym (results_at o.now) in
    ap (λ (h : Table). with_firsts h (makers_from (n + 1) (plain_ops (drop (n + 1) os)))) e
    ∙ ap (λ ns. with_firsts (with_firsts f (numbered n ns)) (makers_from (n + 1) (plain_ops (drop (n + 1) os)))) same
    ∙ sym (firsts_joined f (numbered n (results_of (plain_op o.now))) (makers_from (n + 1) (plain_ops (drop (n + 1) os))))
    ∙ ap (λ (xs : List (Bor OpTree)). with_firsts f (makers_from n (plain_ops xs))) (sym (dropped os n o less at)) ∙ before

-- a value is looked up, and its maker put behind
pub made_on : (maker : Table) (row new whole : List ℕ) (vs : List ℕ) (i : ℕ) (o : Option ℕ) → i < length vs → o ≡ maker (get_or vs i 0) → new ≡ row ++ if_made o []
    → row ++ makers_of maker (drop i vs) ≡ whole → new ++ makers_of maker (drop (i + 1) vs) ≡ whole
made_on maker row new whole vs i o less looked e before =
    let on : suc i ≡ i + 1 = omega arith in
    let split : drop i vs ≡ get_or vs i 0 ∷ drop (i + 1) vs = drop-cons vs i 0 less ∙ ap (λ k. get_or vs i 0 ∷ drop k vs) on in
    ap (λ ns. ns ++ makers_of maker (drop (i + 1) vs)) e ∙ append_assoc row (if_made o []) (makers_of maker (drop (i + 1) vs)) ∙ ap (λ ns. row ++ ns) (one o (makers_of maker (drop (i + 1) vs)))
    ∙ ap (λ p. row ++ if_made p (makers_of maker (drop (i + 1) vs))) looked
    ∙ ap (λ us. row ++ makers_of maker us) (sym split) ∙ before
  where
    one : (p : Option ℕ) (rest : List ℕ) → if_made p [] ++ rest ≡ if_made p rest
    one None rest = refl
    one (Some n) rest = refl
