-- Rounds: each gives the depths of one level more, and a round that changes nothing is the last.
use Rattle.std.proofs.Common.{◌≡◌, ℕ, zero, suc, ◌+◌, ◌<◌, ◌≤◌, Bool, true, false, List, [], ◌∷◌, Option, Some, None, refl, sym, ◌∙◌, ap, subst, inl, inr, arith, add-one}
use Rattle.std.specs.Prelude.{◌⊎◌, IsTrue, slice_get, if◌then◌else◌}
use Rattle.std.specs.Str.{bytes_eq}
use Rattle.std.proofs.lemmas.Slice.Eq.{bytes_eq-Decides}
use Rattle.std.proofs.Math.Path.{fun_ext}
use Rattle.conversion_model.specs.Chosen.{shallower}
use Rattle.legal_graph.specs.declared.infos.PatternInfo.{PatternInfo}
use Rattle.legal_graph.specs.Depths.{DepthOf, depth_in, least_of, level, own_depth}

-- what is found in one round over the depths of n levels
abbrev pub FoundIn : (List ℕ → Bool) → List PatternInfo → ℕ → DepthOf → Type 0
FoundIn legal infos n found = (q : List ℕ) → found q ≡ least_of (depth_in legal infos n) infos q

-- so these are the depths of one level more
pub level_found : (legal : List ℕ → Bool) (infos : List PatternInfo) (n : ℕ) (found : DepthOf) → FoundIn legal infos n found
    → (q : List ℕ) → level legal found q ≡ depth_in legal infos (n + 1) q
level_found legal infos n found h q = ap (λ d. if legal q then Some 0 else d) (h q) ∙ sym (ap (λ m. depth_in legal infos m q) (add-one n))

-- the first round, over no legal names and no depths
pub first_round : (legal none : List ℕ → Bool) (infos : List PatternInfo) (nothing found : DepthOf)
    → ((q : List ℕ) → none q ≡ false) → ((q : List ℕ) → nothing q ≡ None)
    → ((q : List ℕ) → found q ≡ least_of (level none nothing) infos q) → FoundIn legal infos 0 found
first_round legal none infos nothing found a b h q =
    let same : level none nothing ≡ depth_in legal infos 0 = fun_ext (λ p. ap (λ t. if t then Some 0 else nothing p) (a p) ∙ b p) in
    h q ∙ ap (λ f. least_of f infos q) same

-- a round over these
pub next_round : (legal : List ℕ → Bool) (infos : List PatternInfo) (n : ℕ) (found next : DepthOf) → FoundIn legal infos n found
    → ((q : List ℕ) → next q ≡ least_of (level legal found) infos q) → FoundIn legal infos (n + 1) next
next_round legal infos n found next h is q =
    let same : level legal found ≡ depth_in legal infos (n + 1) = fun_ext (level_found legal infos n found h) in
    is q ∙ ap (λ f. least_of f infos q) same

split : (t : Bool) → (t ≡ true) ⊎ (t ≡ false)
split true = inl refl
split false = inr refl

passed_over : (d : Option ℕ) (t : Bool) (rest : Option ℕ) → t ≡ false → rest ≡ None → (if t then d else rest) ≡ None
passed_over d t rest e is = ap (λ b. if b then d else rest) e ∙ is

-- a name has the same depth by both, or no pattern has it as its root
pub same_or_none : (f g found next : DepthOf) (infos : List PatternInfo)
    → ((k : ℕ) (p : PatternInfo) → slice_get infos k ≡ Some p → found p.root ≡ next p.root)
    → (q : List ℕ) → (found q ≡ next q) ⊎ ((least_of f infos q ≡ None) × (least_of g infos q ≡ None))
same_or_none f g found next [] h q = inr (refl, refl)
same_or_none f g found next (p ∷ ps) h q = elim (split (bytes_eq p.root q)) as (λ _. (found q ≡ next q) ⊎ ((least_of f (p ∷ ps) q ≡ None) × (least_of g (p ∷ ps) q ≡ None))) [
  | inl e ↦ inl (subst (λ r. found r ≡ next r) ((bytes_eq-Decides p.root q).0 e) (h 0 p refl))
  | inr e ↦ elim (same_or_none f g found next ps (λ k. h (suc k)) q) as (λ _. (found q ≡ next q) ⊎ ((least_of f (p ∷ ps) q ≡ None) × (least_of g (p ∷ ps) q ≡ None))) [
    | inl same ↦ inl same
    | inr both ↦ inr (passed_over (shallower (own_depth f p) (least_of f ps q)) (bytes_eq p.root q) (least_of f ps q) e both.0, passed_over (shallower (own_depth g p) (least_of g ps q)) (bytes_eq p.root q) (least_of g ps q) e both.1)
  ]
]

last_or : (i n : ℕ) → i ≤ suc n → (i ≤ n) ⊎ (i ≡ suc n)
last_or zero n h = inl (omega arith)
last_or (suc i) zero h = inr (omega arith)
last_or (suc i) (suc n) h = elim (last_or i n (omega arith)) as (λ _. (suc i ≤ suc n) ⊎ (suc i ≡ suc (suc n))) [ inl a ↦ inl (omega arith) | inr a ↦ inr (omega arith) ]

-- where one level more changes nothing, no further level does
pub stays : (legal : List ℕ → Bool) (infos : List PatternInfo) (k n : ℕ) → depth_in legal infos (suc k) ≡ depth_in legal infos k → k ≤ n
    → depth_in legal infos n ≡ depth_in legal infos k
stays legal infos k zero e h = let is : zero ≡ k = omega arith in ap (depth_in legal infos) is
stays legal infos k (suc n) e h = elim (last_or k n h) as (λ _. depth_in legal infos (suc n) ≡ depth_in legal infos k) [
  | inl below ↦ ap (λ d. level legal (least_of d infos)) (stays legal infos k n e below) ∙ e
  | inr here ↦ sym (ap (depth_in legal infos) here)
]

-- a round over the depths of n levels that finds the same is the last one
pub settled : (legal : List ℕ → Bool) (infos : List PatternInfo) (n most : ℕ) (found next : DepthOf) → n < most
    → FoundIn legal infos n found → FoundIn legal infos (n + 1) next
    → ((k : ℕ) (p : PatternInfo) → slice_get infos k ≡ Some p → found p.root ≡ next p.root)
    → (q : List ℕ) → level legal found q ≡ depth_in legal infos (most + 1) q
settled legal infos n most found next below h g same q =
    let D : ℕ → DepthOf = depth_in legal infos in
    let alike : (p : List ℕ) → found p ≡ next p = λ p. elim (same_or_none (D n) (D (n + 1)) found next infos same p) as (λ _. found p ≡ next p) [
      | inl e ↦ e
      | inr both ↦ h p ∙ both.0 ∙ sym both.1 ∙ sym (g p)
    ] in
    let here : (p : List ℕ) → level legal found p ≡ D (n + 1) p = level_found legal infos n found h in
    let behind : (p : List ℕ) → level legal next p ≡ D (n + 1 + 1) p = level_found legal infos (n + 1) next g in
    let same_level : D (n + 1 + 1) ≡ D (n + 1) = fun_ext (λ p. sym (behind p) ∙ ap (λ d. if legal p then Some 0 else d) (sym (alike p)) ∙ here p) in
    let more : suc (n + 1) ≡ n + 1 + 1 = omega arith in
    let on : D (most + 1) ≡ D (n + 1) = stays legal infos (n + 1) (most + 1) (ap D more ∙ same_level) (omega arith) in
    here q ∙ sym (ap (λ (f : DepthOf). f q) on)
