-- Numbers on a stack, over a table that grows.
use Rattle.std.proofs.Common.{◌≡◌, ℕ, ◌≤◌, List, [], ◌∷◌, length, map, refl, sym, ◌∙◌, ap, subst, arith}
use Rattle.term_table.specs.declared.node.Form.{Form}
use Rattle.term_table.specs.declared.node.Node.{Node}
use Rattle.term_table.specs.Terms.{Term, nothing, node, term_at, made_of, Grows}
use Rattle.std.specs.Prelude.{Result, OnOk, ◌++◌, reverse}
use Rattle.std.proofs.lemmas.List.{reverse-append}
use Rattle.term_table.proofs.TableLaws.{zero_is}
use Rattle.text_types.specs.Items.{wrapped, joined}
use Rattle.text_types.specs.Stack.{Within, Stands}

pub within_more : (m n : ℕ) (ks : List ℕ) → m ≤ n → Within m ks → Within n ks
within_more m n [] h w = tt
within_more m n (k ∷ ks) h w = (omega (arith, w.0), within_more m n ks h w.1)

pub kept_all : (old new : List Node) (ks : List ℕ) → Grows old new → Within (length old) ks → map (term_at new) ks ≡ map (term_at old) ks
kept_all old new [] grows w = refl
kept_all old new (k ∷ ks) grows w =
    ap (λ t. t ∷ map (term_at new) ks) (grows.kept k w.0) ∙ ap (λ ts. term_at old k ∷ ts) (kept_all old new ks grows w.1)

-- what stood stands in the longer table
pub stands_on : (old new : List Node) (ks : List ℕ) (ts : List Term) → Grows old new → Stands old ks ts → Stands new ks ts
stands_on old new ks ts grows s = record {
  within = within_more (length old) (length new) ks grows.longer s.within;
  is = kept_all old new ks grows s.within ∙ s.is;
}

pub grows_refl : (nodes : List Node) → Grows nodes nodes
grows_refl nodes = record { longer = omega arith; kept = λ k h. refl }

pub grows_on : (a b c : List Node) → Grows a b → Grows b c → Grows a c
grows_on a b c g h = record { longer = let x = g.longer in let y = h.longer in omega arith; kept = λ k w. h.kept k (let x = g.longer in omega arith) ∙ g.kept k w }

-- a number put before those that stood
pub stands_put : (old new : List Node) (k : ℕ) (ks all : List ℕ) (t : Term) → Grows old new → k ≤ length new → term_at new k ≡ t → Within (length old) ks → all ≡ k ∷ ks
    → Stands new all (t ∷ map (term_at old) ks)
stands_put old new k ks all t grows within is w e =
    let S : List ℕ → Type 0 = λ xs. Stands new xs (t ∷ map (term_at old) ks) in
    subst S (sym e) (record {
      within = (within, within_more (length old) (length new) ks grows.longer w);
      is = ap (λ x. x ∷ map (term_at new) ks) is ∙ ap (λ ts. t ∷ ts) (kept_all old new ks grows w);
    })

pub stands_same : (nodes : List Node) (ks : List ℕ) → Within (length nodes) ks → Stands nodes ks (map (term_at nodes) ks)
stands_same nodes ks w = record { within = w; is = refl }

-- a node with one part, and with none
pub wrap_is : (nodes : List Node) (form : Form) (value k : ℕ) (ks all : List ℕ) → all ≡ k ∷ ks
    → made_of nodes (record { form = form; value = value; left = k; right = 0 }) ∷ map (term_at nodes) ks ≡ wrapped form value (map (term_at nodes) all)
wrap_is nodes form value k ks all e =
    ap (λ t. node form value (term_at nodes k) t ∷ map (term_at nodes) ks) (zero_is nodes) ∙ ap (λ xs. wrapped form value (map (term_at nodes) xs)) (sym e)

pub join_is : (nodes : List Node) (form : Form) (value k l : ℕ) (ks all : List ℕ) → all ≡ k ∷ l ∷ ks
    → made_of nodes (record { form = form; value = value; left = k; right = l }) ∷ map (term_at nodes) ks ≡ joined form value (map (term_at nodes) all)
join_is nodes form value k l ks all e = ap (λ xs. joined form value (map (term_at nodes) xs)) (sym e)

pub put_is : (nodes : List Node) (form : Form) (value : ℕ) (ks : List ℕ)
    → made_of nodes (record { form = form; value = value; left = 0; right = 0 }) ∷ map (term_at nodes) ks ≡ node form value nothing nothing ∷ map (term_at nodes) ks
put_is nodes form value ks = ap (λ t. node form value t t ∷ map (term_at nodes) ks) (zero_is nodes)

-- the same terms, written in another way
pub on_ok_is : {A F : Type 0} (r : Result A F) (nodes : List Node) (ks : List ℕ) (ts us : List Term) → OnOk r (Stands nodes ks ts) → ts ≡ us → OnOk r (Stands nodes ks us)
on_ok_is r nodes ks ts us s e = let P : List Term → Type 0 = λ xs. OnOk r (Stands nodes ks xs) in subst P e s

pub ok_is : (nodes : List Node) (ks : List ℕ) (ts us : List Term) → Stands nodes ks ts → ts ≡ us → Stands nodes ks us
ok_is nodes ks ts us s e = subst (Stands nodes ks) e s

pub zero_before : (nodes : List Node) (ts us : List Term) → ts ≡ us → term_at nodes 0 ∷ ts ≡ nothing ∷ us
zero_before nodes ts us e = ap (λ t. t ∷ ts) (zero_is nodes) ∙ ap (λ xs. nothing ∷ xs) e

-- a list with an item behind it, from its end
pub reversed : {X : Type 0} (xs ys : List X) (x : X) → ys ≡ xs ++ x ∷ [] → reverse ys ≡ x ∷ reverse xs
reversed xs ys x e = ap reverse e ∙ reverse-append xs (x ∷ [])
