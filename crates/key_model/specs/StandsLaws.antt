-- Lemmas on handles and the keys that they stand for.
use Rattle.std.specs.Prelude.{◌≡◌, ℕ, zero, suc, ◌≤◌, max, List, [], ◌∷◌, Option, Some, None, slice_get}
use Rattle.std.specs.List.{AllZip}
use Rattle.std.proofs.Common.{sym, ◌∙◌, ap, subst, refl, arith}
use Rattle.std.proofs.lemmas.Option.{same_Some}
use Rattle.key_model.specs.Stands.{IsWithinLevels, StandsFor, Grows, AreClosed}

-- an option that is not None holds something
pub opened : {A : Type 0} (o : Option A) → (o ≡ None → ⊥) → (a : A) × (o ≡ Some a)
opened None f = absurd (f refl)
opened (Some a) f = (a, refl)

-- a fact at each place, from another one
pub zip_map : {A B : Type 0} (R S : A → B → Type 0) → ((x : A) (y : B) → R x y → S x y) → (xs : List A) (ys : List B) → AllZip R xs ys → AllZip S xs ys
zip_map R S f [] [] t = tt
zip_map R S f [] (y ∷ ys) t = t
zip_map R S f (x ∷ xs) [] t = t
zip_map R S f (x ∷ xs) (y ∷ ys) t = (f x y t.0, zip_map R S f xs ys t.1)

-- the same for the items of the first list alone
pub zip_map_in : {A B : Type 0} (R S : A → B → Type 0) (xs : List A) → ((i : ℕ) (x : A) (y : B) → slice_get xs i ≡ Some x → R x y → S x y) → (ys : List B) → AllZip R xs ys → AllZip S xs ys
zip_map_in R S [] f [] t = tt
zip_map_in R S [] f (y ∷ ys) t = t
zip_map_in R S (x ∷ xs) f [] t = t
zip_map_in R S (x ∷ xs) f (y ∷ ys) t = (f 0 x y refl t.0, zip_map_in R S xs (λ i. f (suc i)) ys t.1)

-- two lists that are tied to one list, item by item, are one
pub zip_left : {A B : Type 0} (R S : A → B → Type 0) → ((x z : A) (y : B) → R x y → S z y → x ≡ z) → (xs zs : List A) (ys : List B) → AllZip R xs ys → AllZip S zs ys → xs ≡ zs
zip_left R S f [] [] ys t u = refl
zip_left R S f [] (z ∷ zs) [] t u = absurd u
zip_left R S f [] (z ∷ zs) (y ∷ ys) t u = absurd t
zip_left R S f (x ∷ xs) [] [] t u = absurd t
zip_left R S f (x ∷ xs) [] (y ∷ ys) t u = absurd u
zip_left R S f (x ∷ xs) (z ∷ zs) [] t u = absurd t
zip_left R S f (x ∷ xs) (z ∷ zs) (y ∷ ys) t u = λ i. f x z y t.0 u.0 i ∷ zip_left R S f xs zs ys t.1 u.1 i

pub zip_right : {A B : Type 0} (R S : A → B → Type 0) → ((x : A) (y z : B) → R x y → S x z → y ≡ z) → (xs : List A) (ys zs : List B) → AllZip R xs ys → AllZip S xs zs → ys ≡ zs
zip_right R S f [] [] [] t u = refl
zip_right R S f [] [] (z ∷ zs) t u = absurd u
zip_right R S f [] (y ∷ ys) zs t u = absurd t
zip_right R S f (x ∷ xs) [] zs t u = absurd t
zip_right R S f (x ∷ xs) (y ∷ ys) [] t u = absurd u
zip_right R S f (x ∷ xs) (y ∷ ys) (z ∷ zs) t u = λ i. f x y z t.0 u.0 i ∷ zip_right R S f xs ys zs t.1 u.1 i

module _ {H E K D : Type 0} (head : E → D) (children : E → List H) (head_of : K → D) (parts_of : K → List K) (Home : H → K → Type 0) where
  -- what more levels say too
  pub raised : (table : H → Option E) (m n : ℕ) → m ≤ n → (h : H) (k : K) → IsWithinLevels head children head_of parts_of Home table m h k → IsWithinLevels head children head_of parts_of Home table n h k
  raised table zero n le h k w = absurd w
  raised table (suc m) zero le h k w = let no : ⊥ = omega arith in absurd no
  raised table (suc m) (suc n) le h k w = record { home = w.home; entry = w.entry; is = w.is; same_head = w.same_head; rest = zip_map _ _ (raised table m n (omega arith)) _ _ w.rest }

  -- a handle keeps its key while the table grows
  pub kept_within : (table table' : H → Option E) → Grows table table' → (n : ℕ) (h : H) (k : K) → IsWithinLevels head children head_of parts_of Home table n h k → IsWithinLevels head children head_of parts_of Home table' n h k
  kept_within table table' grows zero h k w = w
  kept_within table table' grows (suc n) h k w = record { home = w.home; entry = w.entry; is = grows h w.entry w.is; same_head = w.same_head; rest = zip_map _ _ (kept_within table table' grows n) _ _ w.rest }

  pub kept : (table table' : H → Option E) → Grows table table' → (h : H) (k : K) → StandsFor head children head_of parts_of Home table h k → StandsFor head children head_of parts_of Home table' h k
  kept table table' grows h k s = record { levels = s.levels; stands = kept_within table table' grows s.levels h k s.stands }

  -- handles and keys in order, with one number of levels for all
  gathered : (table : H → Option E) (hs : List H) (ks : List K) → AllZip (StandsFor head children head_of parts_of Home table) hs ks → (n : ℕ) × AllZip (IsWithinLevels head children head_of parts_of Home table n) hs ks
  gathered table [] [] t = (0, tt)
  gathered table [] (k ∷ ks) t = absurd t
  gathered table (h ∷ hs) [] t = absurd t
  gathered table (h ∷ hs) (k ∷ ks) t =
      let rest = gathered table hs ks t.1 in
      (max t.0.levels rest.0, (raised table t.0.levels (max t.0.levels rest.0) (omega arith) h k t.0.stands, zip_map _ _ (raised table rest.0 (max t.0.levels rest.0) (omega arith)) hs ks rest.1))

  -- a key's handle, from its entry and the handles of its parts
  pub made : (table : H → Option E) (h : H) (k : K) (e : E) → Home h k → table h ≡ Some e → head e ≡ head_of k → AllZip (StandsFor head children head_of parts_of Home table) (children e) (parts_of k) → StandsFor head children head_of parts_of Home table h k
  made table h k e home is same parts =
      let all = gathered table (children e) (parts_of k) parts in
      record { levels = suc all.0; stands = record { home = home; entry = e; is = is; same_head = same; rest = all.1 } }

  module _ (exact_entry : (e f : E) → head e ≡ head f → children e ≡ children f → e ≡ f) (exact_key : (k l : K) → head_of k ≡ head_of l → parts_of k ≡ parts_of l → k ≡ l) where
    -- a handle has one key
    one_key_within : (table : H → Option E) (m n : ℕ) (h : H) (k l : K) → IsWithinLevels head children head_of parts_of Home table m h k → IsWithinLevels head children head_of parts_of Home table n h l → k ≡ l
    one_key_within table zero n h k l a b = absurd a
    one_key_within table (suc m) zero h k l a b = absurd b
    one_key_within table (suc m) (suc n) h k l a b =
        let same : a.entry ≡ b.entry = same_Some a.entry b.entry (sym a.is ∙ b.is) in
        let tied : AllZip (IsWithinLevels head children head_of parts_of Home table m) (children b.entry) (parts_of k) = subst (λ e. AllZip (IsWithinLevels head children head_of parts_of Home table m) (children e) (parts_of k)) same a.rest in
        exact_key k l (sym a.same_head ∙ ap head same ∙ b.same_head) (zip_right _ _ (one_key_within table m n) (children b.entry) (parts_of k) (parts_of l) tied b.rest)

    pub one_key : (table : H → Option E) (h : H) (k l : K) → StandsFor head children head_of parts_of Home table h k → StandsFor head children head_of parts_of Home table h l → k ≡ l
    one_key table h k l a b = one_key_within table a.levels b.levels h k l a.stands b.stands

    -- a key has one handle, where the entries at one home are distinct
    one_handle_within : (table : H → Option E) → ((h g : H) (k : K) (e : E) → Home h k → Home g k → table h ≡ Some e → table g ≡ Some e → h ≡ g) → (m n : ℕ) (h g : H) (k : K) → IsWithinLevels head children head_of parts_of Home table m h k → IsWithinLevels head children head_of parts_of Home table n g k → h ≡ g
    one_handle_within table distinct zero n h g k a b = absurd a
    one_handle_within table distinct (suc m) zero h g k a b = absurd b
    one_handle_within table distinct (suc m) (suc n) h g k a b =
        let same : a.entry ≡ b.entry = exact_entry a.entry b.entry (a.same_head ∙ sym b.same_head) (zip_left _ _ (one_handle_within table distinct m n) (children a.entry) (children b.entry) (parts_of k) a.rest b.rest) in
        distinct h g k b.entry a.home b.home (a.is ∙ ap Some same) b.is

    pub one_handle : (table : H → Option E) → ((h g : H) (k : K) (e : E) → Home h k → Home g k → table h ≡ Some e → table g ≡ Some e → h ≡ g) → (h g : H) (k : K) → StandsFor head children head_of parts_of Home table h k → StandsFor head children head_of parts_of Home table g k → h ≡ g
    one_handle table distinct h g k a b = one_handle_within table distinct a.levels b.levels h g k a.stands b.stands

  -- a key at a handle that had an entry stood there before, where the children of entries had entries
  pub stood_within : (table table' : H → Option E) → Grows table table' → AreClosed children table → (n : ℕ) (h : H) (k : K) (e : E) → table h ≡ Some e → IsWithinLevels head children head_of parts_of Home table' n h k → IsWithinLevels head children head_of parts_of Home table n h k
  stood_within table table' grows closed zero h k e was w = w
  stood_within table table' grows closed (suc n) h k e was w =
      let same : e ≡ w.entry = same_Some e w.entry (sym (grows h e was) ∙ w.is) in
      let is : table h ≡ Some w.entry = was ∙ ap Some same in
      record { home = w.home; entry = w.entry; is = is; same_head = w.same_head; rest = zip_map_in _ _ (children w.entry) (λ i c y at. λ stood. let o = opened (table c) (closed h w.entry i c is at) in stood_within table table' grows closed n c y o.0 o.1 stood) (parts_of k) w.rest }
