-- Printed modules have few parts.
use Rattle.std.proofs.Common.{◌≡◌, ◌≤◌, ℕ, suc, ◌+◌, Bool, true, false, not, List, length, Option, Some, None, refl, true≢false, sym, ap, ◌∙◌, arith}
use Rattle.std.specs.Prelude.{nat_le, nat_lt}
use Rattle.std.proofs.lemmas.Bool.Decides.{nat_tests}
use Rattle.mlir_lex.proofs.Lengths.{and-left}
use Rattle.line_grammar.specs.Language.{one_later}
use Rattle.text_grammar.specs.declared.places.Place.{Place}
use Rattle.text_grammar.specs.declared.places.Place.TheVariants as places
use Rattle.text_events.specs.declared.event.Event.{Event}
use Rattle.text_types.specs.Spelling.{Spelling}
use Rattle.text_types.specs.Items.{place_next}
use Rattle.event_trees.specs.Wording.{Wording}
use Rattle.type_kinds.specs.Begins.{begin_at, entry_begin}
use Rattle.type_kinds.specs.First.{first_in}
use Rattle.type_kinds.specs.Parts.{Counted, count, most_parts, none_counted, parts_at, parts_of, too_many}
use Rattle.printed_words.specs.Words.{PrintedWord}
use Rattle.printed_terms.specs.Told.{Told, no_words, one_more}
use Rattle.printed_marks.proofs.PlainWords.{are_plain, arrow_first, is_unwritten, plain_at}
use Rattle.printed_marks.proofs.OpWords.{module_plain}
use Rattle.printed_kinds.specs.Kinds.{PartsAreFew}
use Rattle.printed_kinds.proofs.AliasKinds.{behind_plain}

not_is : (b : Bool) → not b ≡ true → b ≡ false
not_is true h = sym h
not_is false h = refl

-- a plain word stands at a place that is written
is_written : (place : Place) (arrow rest : Bool) → plain_at place arrow rest ≡ true → is_unwritten place ≡ false
is_written places.ResultsClose arrow rest h = refl
is_written place arrow rest h = not_is (is_unwritten place) (and-left (not (is_unwritten place)) rest h)

entry_small : (next : Option Place) (size : ℕ) → nat_le (parts_of (entry_begin next) size) 1 ≡ true
entry_small None size = refl
entry_small (Some p) size = by_place p
  where
    by_place : (p : Place) → nat_le (parts_of (entry_begin (Some p)) size) 1 ≡ true
    by_place places.EntryEquals = refl
    by_place _ = refl

number_small : (minus : Bool) (next : Option Place) (size : ℕ) → nat_le (parts_of (begin_at places.IntegerNumber minus next) size) 1 ≡ true
number_small true next size = refl
number_small false next size = refl

-- where no alias stands a word is at most one part
begin_small : (place : Place) (minus : Bool) (next : Option Place) (size : ℕ) → is_unwritten place ≡ false → nat_le (parts_of (begin_at place minus next) size) 1 ≡ true
begin_small places.TypeAlias minus next size h = absurd (true≢false h)
begin_small places.ElementAlias minus next size h = absurd (true≢false h)
begin_small places.AttrAlias minus next size h = absurd (true≢false h)
begin_small places.IntegerNumber minus next size h = number_small minus next size
begin_small places.EntryName minus next size h = entry_small next size
begin_small _ minus next size h = refl

at_most : (n : ℕ) → nat_le n 1 ≡ true → n ≤ 1
at_most n h = grind (arith, nat_tests)

not_over : (limit n : ℕ) → n ≤ limit → nat_lt limit n ≡ false
not_over limit n h = grind (arith, nat_tests)

here_few : (limit total part more : ℕ) → part ≤ 1 → total + suc more ≤ limit → total + part ≤ limit
here_few limit total part more h k = omega (arith, h, k)

behind_few : (limit total part more : ℕ) → part ≤ 1 → total + suc more ≤ limit → total + part + more ≤ limit
behind_few limit total part more h k = omega (arith, h, k)

module _ (words : Spelling) (wording : Wording) where
  parts_few : {ws : List PrintedWord} {es : List Event} → Told words wording ws es → are_plain ws ≡ true → (s : Counted) → s.total + length es ≤ most_parts → first_in count too_many s es ≡ None
  parts_few no_words h s few = refl
  parts_few (one_more w name {ws} {es} says more) h s few =
      let e : Event = record { place = w.place; name = name } in
      let one : parts_at s (record { place = w.place; name = name }) es ≤ 1 = at_most (parts_at s (record { place = w.place; name = name }) es)
      (begin_small w.place s.sizes.minus (place_next es) (s.sizes.sizes name) (is_written w.place (arrow_first ws) (are_plain ws) h)) in
      ap (λ (b : Bool). elim b as (λ x. Option ℕ) [ true ↦ Some 0 | false ↦ one_later (first_in count too_many (count s (record { place = w.place; name = name }) es) es) ])
      (not_over most_parts (s.total + parts_at s (record { place = w.place; name = name }) es) (here_few most_parts s.total (parts_at s (record { place = w.place; name = name }) es) (length es) one few))
      ∙ ap one_later (parts_few more (behind_plain w.place (arrow_first ws) (are_plain ws) h) (count s (record { place = w.place; name = name }) es)
      (behind_few most_parts s.total (parts_at s (record { place = w.place; name = name }) es) (length es) one few))

none_and : (limit n : ℕ) → n ≤ limit → 0 + n ≤ limit
none_and limit n h = omega (arith, h)

pub parts_are_few : PartsAreFew
parts_are_few words wording m es told few = parts_few words wording told (module_plain m).plain none_counted (none_and most_parts (length es) few)
