-- Events that are marked and given their places back are as they were.
use Rattle.std.proofs.Common.{◌≡◌, ℕ, zero, suc, ◌+◌, ◌≤◌, List, [], ◌∷◌, ◌++◌, length, take, drop, get_or, set, append_assoc, Option, Some, None, refl, sym, ◌∙◌, ap, arith}
use Rattle.std.specs.Prelude.{slice_get}
use Rattle.std.proofs.lemmas.List.{drop_more, take_more, get_or_append_left, get_or-take, set_at, length-take-le}
use Rattle.text_grammar.specs.declared.places.Place.{Place}
use Rattle.text_events.specs.declared.event.Event.{Event}
use Rattle.text_events.specs.Names.{names_of}
use Rattle.text_events.specs.Source.{events_from, events_of}
use Rattle.text_types.specs.Marks.{marked}
use Rattle.text_refusals.specs.Refusing.{Seen, before, end_seen, events_seen}
use Rattle.text_refusals.specs.Placed.{ArePlaced, at_place, placed}

-- One event more, from the right

with_first : (e : Event) (es : List Event) (ps : List Place) (i : ℕ) → at_place e (slice_get ps i) ∷ placed es (drop (suc i) ps) ≡ placed (e ∷ es) (drop i ps)
with_first e es [] zero = refl
with_first e es [] (suc i) = refl
with_first e es (p ∷ ps) zero = refl
with_first e es (p ∷ ps) (suc i) = with_first e es ps i

pub placed_step : (old now : List Event) (ps : List Place) (n i : ℕ) (d : Event) → i + 1 ≡ n → n ≤ length old → now ≡ take n old ++ placed (drop n old) (drop n ps)
    → (e : Event) → e ≡ at_place (get_or now i d) (slice_get ps i) → set now i e ≡ take i old ++ placed (drop i old) (drop i ps)
placed_step old now ps n i d step bound is e f =
    let y : Event = get_or old i d in
    let tail : List Event = placed (drop n old) (drop n ps) in
    let rest : drop i old ≡ y ∷ drop n old = drop_more old i d (omega (arith, step)) ∙ ap (λ m. y ∷ drop m old) step in
    let same : get_or now i d ≡ y =
    ap (λ es. get_or es i d) is ∙ get_or_append_left (take n old) tail d i (omega (arith, length-take-le n old bound)) ∙ get_or-take n old i d (omega (arith, step)) in
    let more : take n old ≡ take i old ++ y ∷ [] = ap (λ m. take m old) (sym step) ∙ take_more old i d (omega (arith, step)) in
    let whole : now ≡ take i old ++ y ∷ tail = is ∙ ap (λ p. p ++ tail) more ∙ append_assoc (take i old) (y ∷ []) tail in
    let here : e ≡ at_place y (slice_get ps i) = f ∙ ap (λ x. at_place x (slice_get ps i)) same in
    let next : n ≡ suc i = omega (arith, step) in
    ap (λ es. set es i e) whole ∙ set_at (take i old) y tail e i (length-take-le i old (omega (arith, step)))
    ∙ ap (λ x. take i old ++ x ∷ tail) here
    ∙ ap (λ m. take i old ++ at_place y (slice_get ps i) ∷ placed (drop n old) (drop m ps)) next
    ∙ ap (λ es. take i old ++ es) (with_first y (drop n old) ps i)
    ∙ ap (λ es. take i old ++ placed es (drop i ps)) (sym rest)

-- Back

pub placed_back : (es : List Event) (ps : List Place) → ArePlaced es ps → placed (marked es) ps ≡ es
placed_back [] ps h = refl
placed_back (e ∷ es) [] h = absurd h
placed_back (e ∷ es) (p ∷ ps) h = ap (λ q. at_place e (Some q) ∷ placed (marked es) ps) (sym h.0) ∙ ap (λ xs. e ∷ xs) (placed_back es ps h.1)

-- Events as they are made

from_placed : (own : ℕ) (ps : List Place) (names : List ℕ) → ArePlaced (events_from own ps names) ps
from_placed own [] names = tt
from_placed own (p ∷ ps) [] = tt
from_placed own (p ∷ ps) (n ∷ names) = (refl, from_placed (own + 1) ps names)

take_placed : (n : ℕ) (es : List Event) (ps : List Place) → ArePlaced es ps → ArePlaced (take n es) ps
take_placed zero es ps h = tt
take_placed (suc n) [] ps h = tt
take_placed (suc n) (e ∷ es) [] h = absurd h
take_placed (suc n) (e ∷ es) (p ∷ ps) h = (h.0, take_placed n es ps h.1)

seen_placed : (o : Option ℕ) (ps : List Place) (names : List ℕ) → ArePlaced (before o (events_of ps names)) ps
seen_placed None ps names = from_placed 0 ps names
seen_placed (Some n) ps names = take_placed n (events_of ps names) ps (from_placed 0 ps names)

pub placed_so : (text : List ℕ) (s : Seen) (es : List Event) (ps : List Place) → es ≡ events_seen text s → ps ≡ s.places → ArePlaced es ps
placed_so text s es ps e p = rw (e, p) (seen_placed (end_seen s) s.places (names_of text s.words))
