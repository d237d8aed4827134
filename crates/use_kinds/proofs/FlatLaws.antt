-- What the code keeps, and what it stands for.
use Rattle.std.proofs.Common.{◌≡◌, ℕ, zero, suc, ◌+◌, ◌-◌, ◌≤◌, List, [], ◌∷◌, length, drop, get_or, refl, sym, ◌∙◌, ap, arith}
use native.Mathlib.Numerals.{unary_clauses}
use Rattle.std.specs.Prelude.{min}
use Rattle.std.proofs.lemmas.List.{drop_more, drop_all}
use Rattle.text_grammar.specs.declared.places.Place.{Place}
use Rattle.text_grammar.specs.declared.places.Place.TheVariants as places
use Rattle.text_events.specs.declared.event.Event.{Event}
use Rattle.use_kinds.specs.Written.{passed, signature_behind}
use Rattle.use_kinds.specs.Flat.{signatures_of, left_passed}

-- one event more tells as many events as stand from the function type on
left_is : (p : Place) (here : List Event) (behind : ℕ → List Event) (over : ℕ) → left_passed p (length here) (λ n. length (behind n)) over ≡ length (passed p here behind over)
left_is places.SignatureOpen here behind zero = refl
left_is places.SignatureOpen here behind (suc over) = refl
left_is places.RegionOpen here behind over = refl
left_is places.RegionClose here behind zero = refl
left_is places.RegionClose here behind (suc over) = refl
left_is _ here behind over = refl

-- and only what is told behind it counts
left_same : (p : Place) (left : ℕ) (f g : ℕ → ℕ) (over : ℕ) → ((n : ℕ) → f n ≡ g n) → left_passed p left f over ≡ left_passed p left g over
left_same places.SignatureOpen left f g zero same = refl
left_same places.SignatureOpen left f g (suc over) same = same (suc over)
left_same places.RegionOpen left f g over same = same (suc over)
left_same places.RegionClose left f g zero same = refl
left_same places.RegionClose left f g (suc over) same = same over
left_same _ left f g over same = same over

-- what stands from a function type on is the end of the text
kept_end : (e : Event) (es end : List Event) → (length end ≤ length es) × (drop (length es - length end) es ≡ end)
    → (length end ≤ length (e ∷ es)) × (drop (length (e ∷ es) - length end) (e ∷ es) ≡ end)
kept_end e es end h =
    let s : length (e ∷ es) - length end ≡ suc (length es - length end) = omega (arith, h.0) in
    (omega (arith, h.0), ap (λ n. drop n (e ∷ es)) s ∙ h.1)

ends_case : (p : Place) (e : Event) (es : List Event) (behind : ℕ → List Event) (over : ℕ) → ((n : ℕ) → (length (behind n) ≤ length es) × (drop (length es - length (behind n)) es ≡ behind n))
    → (length (passed p (e ∷ es) behind over) ≤ length (e ∷ es)) × (drop (length (e ∷ es) - length (passed p (e ∷ es) behind over)) (e ∷ es) ≡ passed p (e ∷ es) behind over)
ends_case places.SignatureOpen e es behind zero h = (omega arith, let z : length (e ∷ es) - length (e ∷ es) ≡ 0 = omega arith in ap (λ n. drop n (e ∷ es)) z)
ends_case places.SignatureOpen e es behind (suc over) h = kept_end e es (behind (suc over)) (h (suc over))
ends_case places.RegionOpen e es behind over h = kept_end e es (behind (suc over)) (h (suc over))
ends_case places.RegionClose e es behind zero h = (omega arith, drop_all (length (e ∷ es) - 0) (e ∷ es) (omega arith))
ends_case places.RegionClose e es behind (suc over) h = kept_end e es (behind over) (h over)
ends_case _ e es behind over h = kept_end e es (behind over) (h over)

pub ends : (es : List Event) (over : ℕ) → (length (signature_behind es over) ≤ length es) × (drop (length es - length (signature_behind es over)) es ≡ signature_behind es over)
ends [] over = (omega arith, refl)
ends (e ∷ es) over = ends_case e.place e es (signature_behind es) over (ends es)

module _ (events : List Event) (n i : ℕ) (d : Event) (step : i + 1 ≡ n) (bound : n ≤ length events) where
  rest : drop i events ≡ get_or events i d ∷ drop n events
  rest = drop_more events i d (omega (arith, step)) ∙ ap (λ m. get_or events i d ∷ drop m events) step

  pub level_step : (old new : ℕ → ℕ) (left : ℕ) → ((over : ℕ) → old over ≡ length (signature_behind (drop n events) over)) → left ≡ length (drop i events)
      → ((over : ℕ) → new over ≡ left_passed (get_or events i d).place left old over) → (over : ℕ) → new over ≡ length (signature_behind (drop i events) over)
  level_step old new left stood is passes over =
      let y : Event = get_or events i d in
      passes over ∙ left_same y.place left old (λ m. length (signature_behind (drop n events) m)) over stood
      ∙ ap (λ l. left_passed y.place l (λ m. length (signature_behind (drop n events) m)) over) (is ∙ ap length rest)
      ∙ left_is y.place (y ∷ drop n events) (signature_behind (drop n events)) over ∙ ap (λ es. length (signature_behind es over)) (sym rest)

  pub found_step : (k : ℕ) (ks all : List ℕ) → k ≡ length (signature_behind (drop i events) 0) → ks ≡ signatures_of (drop n events) → all ≡ k ∷ ks → all ≡ signatures_of (drop i events)
  found_step k ks all top so_far is =
      is ∙ ap (λ x. x ∷ ks) (top ∙ ap (λ es. length (signature_behind es 0)) rest) ∙ ap (λ xs. length (signature_behind (get_or events i d ∷ drop n events) 0) ∷ xs) so_far
      ∙ ap signatures_of (sym rest)

-- what is told at a place
pub told_at : (es : List Event) (i : ℕ) → get_or (signatures_of es) i 0 ≡ length (signature_behind (drop i es) 0)
told_at [] zero = refl
told_at [] (suc i) = refl
told_at (e ∷ es) zero = refl
told_at (e ∷ es) (suc i) = told_at es i

-- the end of a text from behind
pub end_from : (es : List Event) (k l : ℕ) → l ≤ length (drop k es) → (l ≤ length es) × (drop (length es - l) es ≡ drop (length (drop k es) - l) (drop k es))
end_from es zero l h = (h, refl)
end_from [] (suc k) l h = (h, refl)
end_from (e ∷ es) (suc k) l h =
    let x = end_from es k l h in
    let s : length (e ∷ es) - l ≡ suc (length es - l) = omega (arith, x.0) in
    (omega (arith, x.0), ap (λ n. drop n (e ∷ es)) s ∙ x.1)

-- the function type of what is read behind an event
pub signature_is : (es : List Event) (k : ℕ) → (get_or (signatures_of es) k 0 ≤ length es) × (drop (length es - get_or (signatures_of es) k 0) es ≡ signature_behind (drop k es) 0)
signature_is es k =
    let told = told_at es k in
    let end = ends (drop k es) 0 in
    let whole = end_from es k (length (signature_behind (drop k es) 0)) end.0 in
    (rw told whole.0, ap (λ l. drop (length es - l) es) told ∙ whole.1 ∙ end.1)

drop_none : (n : ℕ) → drop {A = Event} n [] ≡ []
drop_none zero = refl
drop_none (suc n) = refl

pub next_drop : (es : List Event) (k : ℕ) → drop 1 (drop k es) ≡ drop (k + 1) es
next_drop [] k = ap (drop 1) (drop_none k) ∙ sym (drop_none (k + 1))
next_drop (e ∷ es) zero = refl
next_drop (e ∷ es) (suc k) = let s : suc k + 1 ≡ suc (k + 1) = omega arith in next_drop es k ∙ ap (λ n. drop n (e ∷ es)) (sym s)

empty_is : (es : List Event) → length es ≡ 0 → es ≡ []
empty_is [] h = refl
empty_is (e ∷ es) h = absurd cc

within_end : (es : List Event) (count n : ℕ) → length es ≡ count → drop (min count n) es ≡ drop n es
within_end es zero n h = let none : es ≡ [] = empty_is es h in rw none (drop_none (min 0 n) ∙ sym (drop_none n))
within_end [] (suc count) n h = absurd cc
within_end (e ∷ es) (suc count) zero h = simp unary_clauses refl
within_end (e ∷ es) (suc count) (suc n) h = simp unary_clauses (within_end es count n (omega (arith, h)))

-- where the type of an argument is written
pub argument_at : (es : List Event) (count behind place : ℕ) → length es ≡ count → place ≡ min count (behind + 1) → drop place es ≡ drop 1 (drop behind es)
argument_at es count behind place h e =
    ap (λ n. drop n es) e ∙ within_end es count (behind + 1) h ∙ sym (next_drop es behind)

-- where the function type is written
pub signature_at : (es : List Event) (count behind : ℕ) (signatures : List ℕ) (left place : ℕ) → length es ≡ count → signatures ≡ signatures_of es → left ≡ get_or signatures behind 0
    → place ≡ count - left → drop place es ≡ signature_behind (drop behind es) 0
signature_at es count behind signatures left place same is e f =
    let told : left ≡ get_or (signatures_of es) behind 0 = e ∙ ap (λ ns. get_or ns behind 0) is in
    let p : place ≡ length es - get_or (signatures_of es) behind 0 = f ∙ ap (λ n. n - left) (sym same) ∙ ap (λ n. length es - n) told in
    ap (λ n. drop n es) p ∙ (signature_is es behind).1
