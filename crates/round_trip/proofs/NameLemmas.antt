-- In a printed text two names of values or labels that spell the same are one.
use Rattle.std.proofs.Common.{◌≡◌, ℕ, zero, suc, ◌+◌, Bool, true, false, not, cond, List, [], ◌∷◌, ◌++◌, map, length, Option, Some, None, refl, sym, ap, ◌∙◌, subst, true≢false, arith, append_assoc, length-append}
use Rattle.std.specs.Prelude.{position, slice_get, if◌then◌else◌}
use Rattle.std.specs.List.{position_from}
use Rattle.std.specs.Option.{unwrap_or}
use Rattle.std.proofs.lemmas.Iterator.Adapters.{position_from-zero}
use Rattle.std.proofs.lemmas.Slice.Eq.{bytes_eq-Decides}
use Rattle.mlir_lex.proofs.Lengths.{and-both}
use Rattle.text_grammar.specs.declared.kinds.Kind.{Kind}
use Rattle.text_grammar.specs.declared.kinds.Kind.TheVariants as kinds
use Rattle.text_grammar.specs.declared.places.Place.{Place}
use Rattle.text_grammar.specs.declared.places.Place.TheVariants as places
use Rattle.text_grammar.specs.declared.words.Word.{Word}
use Rattle.text_grammar.specs.Places.{fits_at}
use Rattle.text_events.specs.declared.event.Event.{Event}
use Rattle.text_events.specs.Names.{is_sign, name_of, names_from, spells}
use Rattle.text_events.specs.Source.{events_from, is_own, spelled_of}
use Rattle.text_events.specs.Spelling.{spelled}
use Rattle.event_trees.specs.Wording.{wording_of}
use Rattle.printed_words.specs.Words.{PrintedWord, word_at, words_from}
use Rattle.printed_events.proofs.EventLemmas.{name_spells}
use Rattle.scoped_trees.specs.Laws.{NamesAgree, is_naming}
use Rattle.round_trip.proofs.ClassLemmas.{AllFit}

-- names are no signs, and have the number of what they spell

value_sign : (k : Kind) → fits_at places.ResultName k ≡ true → is_sign k ≡ false
value_sign kinds.Value h = refl
value_sign _ h = absurd (true≢false (sym h))

label_sign : (k : Kind) → fits_at places.BlockLabel k ≡ true → is_sign k ≡ false
label_sign kinds.Label h = refl
label_sign _ h = absurd (true≢false (sym h))

no_sign : (p : Place) (k : Kind) → is_naming p ≡ true → fits_at p k ≡ true → is_sign k ≡ false
no_sign places.ResultName k n h = value_sign k h
no_sign places.ArgName k n h = value_sign k h
no_sign places.UseName k n h = value_sign k h
no_sign places.BlockLabel k n h = label_sign k h
no_sign places.SuccessorName k n h = label_sign k h
no_sign _ k n h = absurd (true≢false (sym n))

not_own : (p : Place) → is_naming p ≡ true → is_own p ≡ false
not_own places.ResultName n = refl
not_own places.ArgName n = refl
not_own places.UseName n = refl
not_own places.BlockLabel n = refl
not_own places.SuccessorName n = refl
not_own _ n = absurd (true≢false (sym n))

-- a word that passes a test is found

not_missed : (p : Word → Bool) (n i : ℕ) (ws : List Word) (w : Word) → slice_get ws i ≡ Some w → p w ≡ true → position_from p n ws ≡ None → ⊥
not_missed p n i [] w there passes none = nothing i w there
  where
    nothing : (i : ℕ) (w : Word) → slice_get [] i ≡ Some w → ⊥
    nothing i w e = cc
not_missed p n zero (v ∷ ws) w there passes none = found (p v) (ap p (some_is v w there) ∙ passes) none
  where
    some_is : (v w : Word) → ◌≡◌ {A = Option Word} (Some v) (Some w) → v ≡ w
    some_is v w e = cc

    found : (t : Bool) → t ≡ true → cond t (Some n) (position_from p (n + 1) ws) ≡ None → ⊥
    found true e none = cc
    found false e none = true≢false (sym e)
not_missed p n (suc i) (v ∷ ws) w there passes none = by_test (p v) none (λ h. not_missed p (n + 1) i ws w there passes h)
  where
    by_test : (t : Bool) → cond t (Some n) (position_from p (n + 1) ws) ≡ None → (position_from p (n + 1) ws ≡ None → ⊥) → ⊥
    by_test true none deep = cc
    by_test false none deep = deep none

in_slice : (xs : List Word) (y : Word) (ys : List Word) → slice_get (xs ++ y ∷ ys) (length xs) ≡ Some y
in_slice [] y ys = refl
in_slice (x ∷ xs) y ys = in_slice xs y ys

module _ (text : List ℕ) (words : List Word) where
  -- the word of a name
  record NamedWord (a : ℕ) : Type 0 where
    word : Word
    index : ℕ
    there : slice_get words index ≡ Some word
    sign : is_sign word.kind ≡ false
    name : a ≡ name_of text words index word

  heads : (e f : Event) (es fs : List Event) → e ∷ es ≡ f ∷ fs → e ≡ f
  heads e f es fs h = cc

  tails : (e f : Event) (es fs : List Event) → e ∷ es ≡ f ∷ fs → es ≡ fs
  tails e f es fs h = cc

  nothing_is : {X : Type 0} (front rest : List Event) (e : Event) → ◌≡◌ {A = List Event} [] (front ++ e ∷ rest) → X
  nothing_is [] rest e h = absurd cc
  nothing_is (f ∷ front) rest e h = absurd cc

  named_from : (ws : List PrintedWord) (before : List Word) (own at : ℕ) (p : Place) (a : ℕ) (front rest : List Event) → words ≡ before ++ words_from at ws → own ≡ length before → AllFit (map (λ w. w.place) ws) (map (λ w. w.kind) ws)
      → is_naming p ≡ true → events_from own (map (λ w. w.place) ws) (names_from text words own (words_from at ws)) ≡ front ++ (record { place = p; name = a } ∷ rest) → NamedWord a
  named_from [] before own at p a front rest all o fit n e = nothing_is front rest (record { place = p; name = a }) e
  named_from (w ∷ ws) before own at p a [] rest all o fit n e =
      let v : Word = word_at (at + length w.gap) w in
      let here = heads _ (record { place = p; name = a }) _ rest e in
      let place : w.place ≡ p = ap (λ (x : Event). x.place) here in
      let other : is_own w.place ≡ false = ap is_own place ∙ not_own p n in
      record {
        word = v;
        index = own;
        there = ap (slice_get words) o ∙ ap (λ xs. slice_get xs (length before)) all ∙ in_slice before v (words_from (at + length w.gap + length w.bytes) ws);
        sign = no_sign p w.kind n (subst (λ (q : Place). fits_at q w.kind ≡ true) place fit.0);
        name = sym (ap (λ (x : Event). x.name) here) ∙ ap (λ b. if b then own else name_of text words own v) other;
      }
  named_from (w ∷ ws) before own at p a (f ∷ front) rest all o fit n e =
      named_from ws (before ++ word_at (at + length w.gap) w ∷ []) (own + 1) (at + length w.gap + length w.bytes) p a front rest
      (all ∙ sym (append_assoc before (word_at (at + length w.gap) w ∷ []) (words_from (at + length w.gap + length w.bytes) ws)))
      (counts own (length before) (length (before ++ word_at (at + length w.gap) w ∷ [])) o (length-append before (word_at (at + length w.gap) w ∷ []))) fit.1 n (tails _ f _ _ e)
    where
      counts : (a b c : ℕ) → a ≡ b → c ≡ b + 1 → a + 1 ≡ c
      counts a b c e f = omega (arith, e, f)

  -- two that spell the same have one number
  one_number : (a b : ℕ) → NamedWord a → NamedWord b → spelled_of text words a ≡ spelled_of text words b → a ≡ b
  one_number a b v w e =
      v.name ∙ named v ∙ by_found (position (spells text (spelled text v.word)) words) refl ∙ ap (λ s. unwrap_or (position (spells text s) words) w.index) same ∙ sym (named w) ∙ sym w.name
    where
      same : spelled text v.word ≡ spelled text w.word
      same = sym (ap (spelled_of text words) v.name ∙ name_spells text words v.index v.word v.there) ∙ e ∙ ap (spelled_of text words) w.name ∙ name_spells text words w.index w.word w.there

      named : {c : ℕ} (u : NamedWord c) → name_of text words u.index u.word ≡ unwrap_or (position (spells text (spelled text u.word)) words) u.index
      named u = ap (λ t. if t then u.index else unwrap_or (position (spells text (spelled text u.word)) words) u.index) u.sign

      own_spells : spells text (spelled text v.word) v.word ≡ true
      own_spells = and-both _ _ (ap not v.sign) ((bytes_eq-Decides (spelled text v.word) (spelled text v.word)).1 refl)

      by_found : (o : Option ℕ) → position (spells text (spelled text v.word)) words ≡ o → unwrap_or (position (spells text (spelled text v.word)) words) v.index ≡ unwrap_or (position (spells text (spelled text v.word)) words) w.index
      by_found (Some k) is = ap (λ o. unwrap_or o v.index) is ∙ sym (ap (λ o. unwrap_or o w.index) is)
      by_found None is = absurd (not_missed (spells text (spelled text v.word)) 0 v.index words v.word v.there own_spells (sym (position_from-zero (spells text (spelled text v.word)) words) ∙ is))

pub names_agree : (text : List ℕ) (ws : List PrintedWord) → AllFit (map (λ w. w.place) ws) (map (λ w. w.kind) ws)
    → NamesAgree (wording_of text (words_from 0 ws)) (events_from 0 (map (λ w. w.place) ws) (names_from text (words_from 0 ws) 0 (words_from 0 ws)))
names_agree text ws fit p q a b front rest other behind n m e f same =
    one_number text (words_from 0 ws) a b (named_from text (words_from 0 ws) ws [] 0 0 p a front rest refl refl fit n e) (named_from text (words_from 0 ws) ws [] 0 0 q b other behind refl refl fit m f) same
