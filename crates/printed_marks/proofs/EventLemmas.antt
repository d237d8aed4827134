-- The events of plain words are not marked.
use Rattle.std.proofs.Common.{◌≡◌, ℕ, Bool, true, false, not, ◌&&◌, List, [], ◌∷◌, refl, sym, ap, ◌∙◌}
use Rattle.std.specs.Prelude.{if◌then◌else◌}
use Rattle.mlir_lex.proofs.Lengths.{and-left, and-right}
use Rattle.text_grammar.specs.declared.places.Place.{Place}
use Rattle.text_grammar.specs.declared.places.Place.TheVariants as places
use Rattle.text_events.specs.declared.event.Event.{Event}
use Rattle.text_types.specs.Spelling.{Spelling}
use Rattle.text_types.specs.Marks.{arrow_next, closed, first_or_false, marked, without_first}
use Rattle.event_trees.specs.Wording.{Wording}
use Rattle.printed_words.specs.Words.{PrintedWord}
use Rattle.printed_terms.specs.Told.{Told, no_words, one_more}
use Rattle.printed_marks.proofs.PlainWords.{Plain, are_plain, arrow_first, is_unwritten, plain_at}

-- no arrow stands behind a closing parenthesis that is open
abbrev no_arrows : List Bool → Bool
no_arrows [] = true
no_arrows (b ∷ bs) = not b && no_arrows bs

not_is : (b : Bool) → not b ≡ true → b ≡ false
not_is true h = sym h
not_is false h = refl

first_false : (bs : List Bool) → no_arrows bs ≡ true → first_or_false bs ≡ false
first_false [] h = refl
first_false (b ∷ bs) h = not_is b (and-left _ _ h)

others_false : (bs : List Bool) → no_arrows bs ≡ true → no_arrows (without_first bs) ≡ true
others_false [] h = refl
others_false (b ∷ bs) h = and-right (not b) _ h

record Unmarked (es : List Event) : Type 0 where
  is : marked es ≡ es
  none : no_arrows (closed es) ≡ true

at_event : (place : Place) (name : ℕ) (es : List Event) (arrow rest : Bool) → arrow_next es ≡ arrow → plain_at place arrow rest ≡ true → (rest ≡ true → Unmarked es)
    → Unmarked (record { place = place; name = name } ∷ es)
at_event places.ResultsClose name es arrow rest next h deep =
    let u = deep (and-right (not arrow) rest h) in
    let lone : arrow_next es ≡ false = next ∙ not_is arrow (and-left (not arrow) rest h) in
    record {
      is = ap (λ b. record { place = if b then places.FunctionClose else places.ResultsClose; name = name } ∷ marked es) lone ∙ ap (λ x. record { place = places.ResultsClose; name = name } ∷ x) u.is;
      none = ap (λ b. not b && no_arrows (closed es)) lone ∙ u.none;
    }
at_event places.ResultsOpen name es arrow rest next h deep =
    let u = deep h in
    record {
      is = ap (λ b. record { place = if b then places.FunctionOpen else places.ResultsOpen; name = name } ∷ marked es) (first_false (closed es) u.none) ∙ ap (λ x. record { place = places.ResultsOpen; name = name } ∷ x) u.is;
      none = others_false (closed es) u.none;
    }
at_event place name es arrow rest next h deep =
    let u = deep (and-right (not (is_unwritten place)) rest h) in
    record { is = ap (λ x. record { place = place; name = name } ∷ x) u.is; none = u.none }

module _ (words : Spelling) (wording : Wording) where
  next_arrow : {ws : List PrintedWord} {es : List Event} → Told words wording ws es → arrow_next es ≡ arrow_first ws
  next_arrow no_words = refl
  next_arrow (one_more w name says more) = refl

  all_unmarked : {ws : List PrintedWord} {es : List Event} → Told words wording ws es → are_plain ws ≡ true → Unmarked es
  all_unmarked no_words h = record { is = refl; none = refl }
  all_unmarked (one_more w name {ws} {es} says more) h = at_event w.place name es (arrow_first ws) (are_plain ws) (next_arrow more) h (λ r. all_unmarked more r)

  pub unmarked : {ws : List PrintedWord} {es : List Event} → Told words wording ws es → Plain ws → marked es ≡ es
  unmarked told p = (all_unmarked told p.plain).is
