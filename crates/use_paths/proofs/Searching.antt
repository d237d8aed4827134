-- Searches that are kept.
use Rattle.std.proofs.Common.{◌≡◌, ℕ, zero, suc, ◌<◌, Bool, true, false, List, [], ◌∷◌, length, get_or, Some, refl, sym, ap, ◌∙◌, subst, true≢false, arith, cond}
use Rattle.std.specs.Prelude.{◌↔◌, nat_eq}
use Rattle.std.specs.Global.{Vec}
use Rattle.std.specs.HashMap.{HashMap, get}
use Rattle.std.proofs.lemmas.Bool.{eqb-true}
use Rattle.rule_model.proofs.Numbers.{some_same}
use Rattle.block_search.specs.Reach.{Reached, followed, rows}
use Rattle.block_search.proofs.Going.{rows_count}
use Rattle.use_paths.specs.Marked.{AreRight, Marked, ReachedWithout}

below : (ms : List Bool) (n : ℕ) → get_or ms n false ≡ true → n < length ms
below [] n h = absurd (true≢false (sym h))
below (m ∷ ms) zero h = omega arith
below (m ∷ ms) (suc n) h = let rest = below ms n h in omega (arith, rest)

pub marked_of : (edges : List (Vec ℕ)) (out : ℕ) (marks : List Bool) → length marks ≡ length edges
    → ((n : ℕ) → n < length edges → (get_or marks n false ≡ true) ↔ Reached (followed (rows edges) out) (0 ∷ []) n) → Marked (rows edges) out marks
marked_of edges out marks size exact = λ n. (λ h. inside n h, λ r. (exact n (let count = rows_count edges in let less = r.0 in omega (arith, count, less))).1 r.1)
  where
    inside : (n : ℕ) → get_or marks n false ≡ true → ReachedWithout (rows edges) out n
    inside n h =
        let less = below marks n h in
        let count = rows_count edges in (omega (arith, count, size, less), (exact n (omega (arith, size, less))).0 h)

pub right_more : {S : Type 0} (edges : List (List ℕ)) (found new : HashMap ℕ (Vec Bool) S) (key : ℕ) (marks : Vec Bool) → AreRight edges found → Marked edges key marks.items
    → ((q : ℕ) → get nat_eq new q ≡ cond (nat_eq key q) (Some marks) (get nat_eq found q)) → AreRight edges new
right_more edges found new key marks right here puts = record { at = λ out ms e. go out ms (nat_eq key out) refl (sym (puts out) ∙ e) }
  where
    go : (out : ℕ) (ms : Vec Bool) (b : Bool) → nat_eq key out ≡ b → cond b (Some marks) (get nat_eq found out) ≡ Some ms → Marked edges out ms.items
    go out ms true e k = subst (λ n. Marked edges n ms.items) (eqb-true key out e) (subst (λ (m : Vec Bool). Marked edges key m.items) (some_same marks ms k) here)
    go out ms false e k = right.at out ms k

pub read_right : {S : Type 0} (edges now : List (Vec ℕ)) (found : HashMap ℕ (Vec Bool) S) (out block : ℕ) (marks : Vec Bool) (ms : List Bool) (b : Bool)
    → AreRight (rows now) found → now ≡ edges → Some marks ≡ get nat_eq found out → b ≡ get_or ms block false → ms ≡ marks.items
    → (b ≡ true) ↔ ReachedWithout (rows edges) out block
read_right edges now found out block marks ms b right same there is items =
    let m : Marked (rows edges) out marks.items = subst (λ es. Marked (rows es) out marks.items) same (right.at out marks (sym there)) in
    let e : b ≡ get_or marks.items block false = is ∙ ap (λ xs. get_or xs block false) items in
    (λ h. (m block).0 (sym e ∙ h), λ r. e ∙ (m block).1 r)
