-- What the operations of a printed text are.
use Rattle.std.proofs.Common.{◌≡◌, ℕ, suc, ◌+◌, true, List, [], ◌∷◌, ◌++◌, map, length, get_or, Some, refl, sym, ap, ◌∙◌, subst, arith, append_assoc, length-append}
use Rattle.std.specs.Prelude.{slice_get, if◌then◌else◌}
use Rattle.line_grammar.specs.Grammar.{Reads, done, takes, opens, leaves}
use Rattle.text_grammar.specs.declared.kinds.Kind.{Kind}
use Rattle.text_grammar.specs.declared.kinds.Kind.TheVariants as kinds
use Rattle.text_grammar.specs.declared.places.Place.{Place}
use Rattle.text_grammar.specs.declared.places.Place.TheVariants as places
use Rattle.text_grammar.specs.declared.words.Word.{Word}
use Rattle.text_grammar.specs.Places.{fits_at}
use Rattle.text_grammar.specs.Table.{Wanted, generic}
use Rattle.text_events.specs.declared.event.Event.{Event}
use Rattle.text_events.specs.Names.{name_of, names_from}
use Rattle.text_events.specs.Source.{events_from, is_own, spelled_of, spelled_or}
use Rattle.text_scopes.specs.declared.bodies.Class.TheVariants.{Unknown}
use Rattle.text_scopes.specs.Bodies.{class_in}
use Rattle.text_events.specs.Spelling.{spelled}
use Rattle.text_refusals.specs.Classes.{classes_of, is_text, operation_class, word_class}
use Rattle.printed_words.specs.Words.{PrintedWord, word_at, words_from}

-- each kind fits its place
abbrev pub AllFit : List Place → List Kind → Type 0
AllFit [] ks = Unit {0}
AllFit (p ∷ ps) [] = ⊥
AllFit (p ∷ ps) (k ∷ ks) = (fits_at p k ≡ true) × AllFit ps ks

pub all_fit : {wanted : List Wanted} {ps : List Place} {ks : List Kind} → Reads generic wanted ps ks → AllFit ps ks
all_fit done = tt
all_fit (takes p k f more) = (f, all_fit more)
all_fit (opens n line k has f more) = (f, all_fit more)
all_fit (leaves n e more) = all_fit more

name_text : (k : Kind) → fits_at places.OpName k ≡ true → is_text k ≡ true
name_text kinds.Text h = refl
name_text _ h = h

in_list : {X : Type 0} (xs : List X) (y : X) (ys : List X) (d : X) → get_or (xs ++ y ∷ ys) (length xs) d ≡ y
in_list [] y ys d = refl
in_list (x ∷ xs) y ys d = in_list xs y ys d

in_slice : {X : Type 0} (xs : List X) (y : X) (ys : List X) → slice_get (xs ++ y ∷ ys) (length xs) ≡ Some y
in_slice [] y ys = refl
in_slice (x ∷ xs) y ys = in_slice xs y ys

lengths : (text : List ℕ) (ws : List Word) → length (map (word_class text) ws) ≡ length ws
lengths text [] = refl
lengths text (w ∷ ws) = ap suc (lengths text ws)

-- the class of a string among the words
class_here : (text : List ℕ) (front : List Word) (w : Word) (behind : List Word) → is_text w.kind ≡ true
    → class_in (classes_of text (front ++ w ∷ behind)) (length front) ≡ operation_class (spelled_of text (front ++ w ∷ behind) (length front))
class_here text front w behind is =
    ap (λ cs. get_or cs (length front) Unknown) (maps front)
    ∙ ap (λ n. get_or (map (word_class text) front ++ word_class text w ∷ map (word_class text) behind) n Unknown) (sym (lengths text front))
    ∙ in_list (map (word_class text) front) (word_class text w) (map (word_class text) behind) Unknown
    ∙ ap (λ b. if b then operation_class (spelled text w) else Unknown) is
    ∙ ap (λ o. operation_class (spelled_or text o)) (sym (in_slice front w behind))
  where
    maps : (xs : List Word) → map (word_class text) (xs ++ w ∷ behind) ≡ map (word_class text) xs ++ word_class text w ∷ map (word_class text) behind
    maps [] = refl
    maps (x ∷ xs) = ap (λ cs. word_class text x ∷ cs) (maps xs)

module _ (text : List ℕ) (words : List Word) where
  heads : (e f : Event) (es fs : List Event) → e ∷ es ≡ f ∷ fs → e ≡ f
  heads e f es fs h = cc

  tails : (e f : Event) (es fs : List Event) → e ∷ es ≡ f ∷ fs → es ≡ fs
  tails e f es fs h = cc

  own_name : (place : Place) (own other name : ℕ) → place ≡ places.OpName → name ≡ (if is_own place then own else other) → name ≡ own
  own_name place own other name e n = n ∙ ap (λ p. if is_own p then own else other) e

  pub classes_from : (ws : List PrintedWord) (before : List Word) (own at name : ℕ) (front rest : List Event) → words ≡ before ++ words_from at ws → own ≡ length before → AllFit (map (λ w. w.place) ws) (map (λ w. w.kind) ws)
      → events_from own (map (λ w. w.place) ws) (names_from text words own (words_from at ws)) ≡ front ++ (record { place = places.OpName; name = name } ∷ rest)
      → class_in (classes_of text words) name ≡ operation_class (spelled_of text words name)
  classes_from [] before own at name [] rest all o fit e = absurd (nothing_is _ e)
    where
      nothing_is : (xs : List Event) → ◌≡◌ {A = List Event} [] (record { place = places.OpName; name = name } ∷ xs) → ⊥
      nothing_is xs e = cc
  classes_from [] before own at name (f ∷ front) rest all o fit e = absurd (nothing_is _ e)
    where
      nothing_is : (xs : List Event) → ◌≡◌ {A = List Event} [] (f ∷ xs) → ⊥
      nothing_is xs e = cc
  classes_from (w ∷ ws) before own at name [] rest all o fit e =
      let v : Word = word_at (at + length w.gap) w in
      let next : ℕ = at + length w.gap + length w.bytes in
      let first = heads _ (record { place = places.OpName; name = name }) _ rest e in
      let place : w.place ≡ places.OpName = ap (λ (x : Event). x.place) first in
      let here : name ≡ own = own_name w.place own (name_of text words own (word_at (at + length w.gap) w)) name place (sym (ap (λ (x : Event). x.name) first)) in
      let string : is_text w.kind ≡ true = name_text w.kind (subst (λ (p : Place). fits_at p w.kind ≡ true) place fit.0) in
      ap (λ n. class_in (classes_of text words) n) (here ∙ o)
      ∙ ap (λ ws. class_in (classes_of text ws) (length before)) all
      ∙ class_here text before (word_at (at + length w.gap) w) (words_from (at + length w.gap + length w.bytes) ws) string
      ∙ ap (λ ws. operation_class (spelled_of text ws (length before))) (sym all)
      ∙ ap (λ n. operation_class (spelled_of text words n)) (sym (here ∙ o))
  classes_from (w ∷ ws) before own at name (f ∷ front) rest all o fit e =
      classes_from ws (before ++ word_at (at + length w.gap) w ∷ []) (own + 1) (at + length w.gap + length w.bytes) name front rest
      (all ∙ sym (append_assoc before (word_at (at + length w.gap) w ∷ []) (words_from (at + length w.gap + length w.bytes) ws)))
      (counts own (length before) (length (before ++ word_at (at + length w.gap) w ∷ [])) o (length-append before (word_at (at + length w.gap) w ∷ []))) fit.1 (tails _ f _ _ e)
    where
      counts : (a b c : ℕ) → a ≡ b → c ≡ b + 1 → a + 1 ≡ c
      counts a b c e f = omega (arith, e, f)
