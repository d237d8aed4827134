-- Words at places of no alias and no location, of which no closing parenthesis of results stands before an arrow.
use Rattle.std.proofs.Common.{◌≡◌, ℕ, Bool, true, false, not, ◌&&◌, List, [], ◌∷◌, refl, true≢false, sym, ap, ◌∙◌}
use Rattle.text_grammar.specs.declared.kinds.Kind.{Kind}
use Rattle.text_grammar.specs.declared.places.Place.{Place}
use Rattle.text_grammar.specs.declared.places.Place.TheVariants as places
use Rattle.text_types.specs.Marks.{is_arrow}
use Rattle.printed_words.specs.Words.{PrintedWord, word}
use Rattle.printed_marks.proofs.Kept.{is_simple, Kept}

-- whether the arrow of a function type stands first
abbrev pub arrow_first : List PrintedWord → Bool
arrow_first [] = false
arrow_first (w ∷ ws) = is_arrow w.place

-- places of aliases and locations, at which a printer writes nothing
abbrev pub is_unwritten : Place → Bool
is_unwritten places.TypeAliasName = true
is_unwritten places.TypeAliasEquals = true
is_unwritten places.AttrAliasName = true
is_unwritten places.AttrAliasEquals = true
is_unwritten places.TypeAlias = true
is_unwritten places.ElementAlias = true
is_unwritten places.AttrAlias = true
is_unwritten places.LocWord = true
is_unwritten places.LocOpen = true
is_unwritten places.LocUnknown = true
is_unwritten places.LocFile = true
is_unwritten places.LocLineColon = true
is_unwritten places.LocLine = true
is_unwritten places.LocColumnColon = true
is_unwritten places.LocColumn = true
is_unwritten places.LocAlias = true
is_unwritten places.LocClose = true
is_unwritten _ = false

-- a word at this place before others, where an arrow is first among those or not
abbrev pub plain_at : Place → Bool → Bool → Bool
plain_at places.ResultsClose arrow rest = not arrow && rest
plain_at place arrow rest = not (is_unwritten place) && rest

abbrev pub are_plain : List PrintedWord → Bool
are_plain [] = true
are_plain (w ∷ ws) = plain_at w.place (arrow_first ws) (are_plain ws)

-- plain words, of which the first is no arrow
pub record Plain (ws : List PrintedWord) : Type 0 where
  pub plain : are_plain ws ≡ true
  pub front : arrow_first ws ≡ false

-- places at which a word says nothing of this
abbrev pub passes : Place → Bool
passes places.ResultsClose = false
passes places.FunctionArrow = false
passes place = not (is_unwritten place)

-- a word at such a place
pub on : {ws : List PrintedWord} (gap : List ℕ) (place : Place) (kind : Kind) (bytes : List ℕ) → passes place ≡ true → Plain ws → Plain (word gap place kind bytes ∷ ws)
on {ws} gap place kind bytes p h = record { plain = by_place place p; front = no_arrow place p }
  where
    by_place : (place : Place) → passes place ≡ true → plain_at place (arrow_first ws) (are_plain ws) ≡ true
    by_place places.ResultsClose p = absurd (true≢false (sym p))
    by_place places.FunctionArrow p = absurd (true≢false (sym p))
    by_place place p = ap (λ b. b && are_plain ws) p ∙ h.plain

    no_arrow : (place : Place) → passes place ≡ true → is_arrow place ≡ false
    no_arrow places.FunctionArrow p = absurd (true≢false (sym p))
    no_arrow place p = refl

-- a closing parenthesis of results
pub closing : {ws : List PrintedWord} (gap : List ℕ) (kind : Kind) (bytes : List ℕ) → Plain ws → Plain (word gap places.ResultsClose kind bytes ∷ ws)
closing {ws} gap kind bytes h = record { plain = ap (λ b. not b && are_plain ws) h.front ∙ h.plain; front = refl }

-- a word of a type or an attribute is at such a place
passes_simple : (place : Place) → is_simple place ≡ true → passes place ≡ true
passes_simple places.ResultsClose h = absurd (true≢false (sym h))
passes_simple places.FunctionArrow h = absurd (true≢false (sym h))
passes_simple places.TypeAliasName h = absurd (true≢false (sym h))
passes_simple places.TypeAliasEquals h = absurd (true≢false (sym h))
passes_simple places.AttrAliasName h = absurd (true≢false (sym h))
passes_simple places.AttrAliasEquals h = absurd (true≢false (sym h))
passes_simple places.TypeAlias h = absurd (true≢false (sym h))
passes_simple places.ElementAlias h = absurd (true≢false (sym h))
passes_simple places.AttrAlias h = absurd (true≢false (sym h))
passes_simple places.LocWord h = absurd (true≢false (sym h))
passes_simple places.LocOpen h = absurd (true≢false (sym h))
passes_simple places.LocUnknown h = absurd (true≢false (sym h))
passes_simple places.LocFile h = absurd (true≢false (sym h))
passes_simple places.LocLineColon h = absurd (true≢false (sym h))
passes_simple places.LocLine h = absurd (true≢false (sym h))
passes_simple places.LocColumnColon h = absurd (true≢false (sym h))
passes_simple places.LocColumn h = absurd (true≢false (sym h))
passes_simple places.LocAlias h = absurd (true≢false (sym h))
passes_simple places.LocClose h = absurd (true≢false (sym h))
passes_simple _ h = refl

pub plain_kept : Kept Plain
plain_kept = record {
  on = λ ws gap place kind bytes p h. on gap place kind bytes (passes_simple place p) h;
  closing = λ ws gap kind bytes h. closing gap kind bytes h;
  arrow = λ ws gap other kind sort bytes more h. record { plain = h.plain; front = refl };
}
