-- The language of the generic text is one that the machine reads, and what a whole run says of a text.
use Rattle.std.proofs.Common.{◌≡◌, ℕ, suc, ◌<◌, ◌≤◌, Bool, true, false, List, [], ◌∷◌, ◌++◌, length, take, drop, map, Option, Some, None, refl, sym, ◌∙◌, ap, arith, length-append, length-drop}
use Rattle.std.proofs.lemmas.List.{take-append-drop, take_at, length-map, map-append}
use Rattle.std.specs.Prelude.{is_some, IfSome}
use Rattle.line_grammar.specs.declared.Symbol.{Symbol}
use Rattle.line_grammar.specs.Grammar.{Grammar}
use Rattle.line_grammar.specs.Machine.{next, going, run, whole}
use Rattle.line_grammar.specs.Language.{Event, events, first_at, one_later as plain_later, or_end, ReadsText, EndsText, IsLanguage}
use Rattle.line_grammar.proofs.Texts.{text_none, text_ends, text_only}
use Rattle.line_grammar.proofs.Theorems.{gives_only}
use Rattle.text_grammar.specs.declared.kinds.Kind.{Kind}
use Rattle.text_grammar.specs.declared.places.Place.{Place}
use Rattle.text_grammar.specs.declared.places.Place.TheVariants as places
use Rattle.text_grammar.specs.declared.words.Word.{Word}
use Rattle.text_grammar.specs.Kinds.{every}
use Rattle.text_grammar.specs.Steps.{Looked, kind_of}
use Rattle.text_grammar.specs.Table.{generic}
use Rattle.text_grammar.specs.Text.{start}
use Rattle.text_grammar.proofs.Follow.{follow}
use Rattle.text_grammar.proofs.Generic.{plain, generic_ll}
use Rattle.text_events.specs.declared.ending.EndKind.{EndKind}
use Rattle.text_events.specs.declared.look.Refusal.{Refusal}
use Rattle.text_events.specs.Language.{Named, Before, named, step, stands, ends_at, nothing_before, generic_text}
use Rattle.text_events.specs.Looking.{first_refusal, refused_word, end_of, IsFound, IsRefused, IsBegun, BeginsAt, here_or_later}

-- The language

abbrev token : Kind → Named
token k = record { word = record { kind = k; long = false; start = 0; end = 0 }; name = 0 }

never : (b : Before) (p : Place) (k : Kind) → plain p ≡ true → stands b (p, token k) ≡ false
never b places.OpName k is = refl
never b places.DimensionSize k is = absurd cc
never b places.TypeAlias k is = absurd cc
never b places.ElementAlias k is = absurd cc
never b places.AttrAlias k is = absurd cc
never b places.DottedType k is = absurd cc
never b places.UnsupportedTypeWord k is = absurd cc
never b places.UnsupportedInnerWord k is = absurd cc
never b places.UnsupportedAttrWord k is = absurd cc
never b places.UnsupportedAliasWord k is = absurd cc
never b places.RefusedLayout k is = absurd cc
never b places.RefusedColons k is = absurd cc
never b _ k is = refl

pub generic_language : IsLanguage generic_text every follow plain
generic_language = record {
  ll = generic_ll;
  token = token;
  token_is = λ k. refl;
  never = never;
}

-- Words with their names have the kinds of the words

pub named_kinds : (words : List Word) (names : List ℕ) → length words ≡ length names → map (λ w. w.word.kind) (named words names) ≡ map kind_of words
named_kinds [] names is = refl
named_kinds (w ∷ ws) [] is = absurd cc
named_kinds (w ∷ ws) (n ∷ names) is = ap (λ rest. w.kind ∷ rest) (named_kinds ws names (omega arith))

-- The first refusal is the first event at which the test stands

same_step : (o : Option EndKind) (more : Option Refusal) (later : Option ℕ) → refused_word more ≡ later
    → ◌≡◌ {A = Option ℕ} (refused_word (here_or_later o more)) (elim (is_some o) [ true ↦ Some 0 | false ↦ plain_later later ])
same_step None None later is = ap plain_later is
same_step None (Some r) later is = ap plain_later is
same_step (Some kind) more later is = refl

pub same_word : (b : Before) (es : List (Event Place Named)) → refused_word (first_refusal b es) ≡ first_at step stands b es
same_word b [] = refl
same_word b (e ∷ es) = same_step (ends_at b e) (first_refusal (step b e) es) (first_at step stands (step b e) es) (same_word (step b e) es)

-- What a whole run says

pub record Ran (places : List Place) (is_whole : Bool) (ts : List Named) : Type 0 where
  pub taken : (run generic start (map generic_text.kind ts)).0 ≡ places
  pub is : whole generic (run generic start (map generic_text.kind ts)) ≡ is_whole

pub ran : (places : List Place) (is_whole : Bool) (words : List Word) (names : List ℕ) → length words ≡ length names → Looked places is_whole words
    → Ran places is_whole (named words names)
ran places is_whole words names is looked = record {
  taken = rw (named_kinds words names is) looked.taken;
  is = rw (named_kinds words names is) looked.is;
}

end_is : {places : List Place} {is_whole : Bool} {ts : List Named} (r : Option Refusal) → Ran places is_whole ts → r ≡ first_refusal nothing_before (events places ts)
    → or_end (first_at step stands nothing_before (events places ts)) (whole generic (run generic start (map generic_text.kind ts))) (length places) ≡ end_of r is_whole (length places)
end_is {places = places} {ts = ts} r ran is = rw (is, ran.is, same_word nothing_before (events places ts)) refl

found_case : (o : Option ℕ) (places : List Place) (ts : List Named) → (o ≡ None → ReadsText generic_text places ts) → IsFound o places ts
found_case None places ts h = h refl
found_case (Some n) places ts h = tt

pub found : {places : List Place} {is_whole : Bool} {ts : List Named} (r : Option Refusal) → Ran places is_whole ts → r ≡ first_refusal nothing_before (events places ts)
    → IsFound (end_of r is_whole (length places)) places ts
found {places = places} {is_whole = is_whole} {ts = ts} r ran is =
    found_case (end_of r is_whole (length places)) places ts (λ none. text_none generic_text ts places ran.taken (end_is r ran is ∙ none))

refused_case : (o : Option ℕ) (ts : List Named) → IfSome o (λ n. EndsText generic_text ts (drop n ts)) → IsRefused o ts
refused_case None ts h = tt
refused_case (Some n) ts h = h

pub refused : {places : List Place} {is_whole : Bool} {ts : List Named} (r : Option Refusal) → Ran places is_whole ts → r ≡ first_refusal nothing_before (events places ts)
    → IsRefused (end_of r is_whole (length places)) ts
refused {places = places} {is_whole = is_whole} {ts = ts} r ran is =
    refused_case (end_of r is_whole (length places)) ts (rw (end_is r ran is) at (text_ends generic_language ts places ran.taken))

pub only : {places : List Place} {is_whole : Bool} {ts : List Named} (r : Option Refusal) → Ran places is_whole ts → r ≡ first_refusal nothing_before (events places ts)
    → (ps : List Place) → ReadsText generic_text ps ts → (places ≡ ps) × (end_of r is_whole (length places) ≡ None)
only {places = places} {ts = ts} r ran is ps reads =
    let h = text_only generic_language ts ps places reads ran.taken in (h.0, sym (end_is r ran is) ∙ h.1)

-- The places before the end begin a text

front_step : {P N : Type 0} (n : ℕ) (o : Option (P × List (Symbol P N))) (a b : List (Symbol P N) → List P × Option (List (Symbol P N))) → ((ss : List (Symbol P N)) → take n (a ss).0 ≡ take n (b ss).0)
    → take (suc n) (going o a).0 ≡ take (suc n) (going o b).0
front_step n None a b h = refl
front_step n (Some s) a b h = ap (λ ps. s.0 ∷ ps) (h s.1)

-- whatever stands behind words, their places are the same
same_front : {P N K : Type 0} (g : Grammar P N K) (ss : List (Symbol P N)) (front a b : List K) → take (length front) (run g ss (front ++ a)).0 ≡ take (length front) (run g ss (front ++ b)).0
unfolding run
same_front g ss [] a b = refl
same_front g ss (k ∷ front) a b = front_step (length front) (next g ss k) (λ more. run g more (front ++ a)) (λ more. run g more (front ++ b)) (λ more. same_front g more front a b)

taken_step : {P N : Type 0} (n : ℕ) (o : Option (P × List (Symbol P N))) (a : List (Symbol P N) → List P × Option (List (Symbol P N))) → ((ss : List (Symbol P N)) → length (a ss).0 ≤ n)
    → length (going o a).0 ≤ suc n
taken_step n None a h = omega arith
taken_step n (Some s) a h = let m = h s.1 in omega (arith, m)

taken_at_most : {P N K : Type 0} (g : Grammar P N K) (ss : List (Symbol P N)) (ks : List K) → length (run g ss ks).0 ≤ length ks
unfolding run
taken_at_most g ss [] = omega arith
taken_at_most g ss (k ∷ ks) = taken_step (length ks) (next g ss k) (λ more. run g more ks) (λ more. taken_at_most g more ks)

begun_at : (n : ℕ) (places : List Place) (ts : List Named) → (run generic start (map generic_text.kind ts)).0 ≡ places → EndsText generic_text ts (drop n ts) → n ≤ length ts
    → BeginsAt (take n places) (take n ts)
begun_at n places ts taken ends within =
    (drop n qs, more, rw (same_words, same_places, take-append-drop n qs) reads)
  where
    front : List Named
    front = ends.front

    more : List Named
    more = ends.begun.0

    qs : List Place
    qs = ends.begun.1.0

    reads : ReadsText generic_text qs (front ++ more)
    reads = ends.begun.1.1

    front_len : length front ≡ n
    front_len = let a = ap length ends.is in let b = length-append front (drop n ts) in let c = length-drop n ts in omega (arith, a, b, c, within)

    same_words : take n ts ≡ front
    same_words = ap (take n) ends.is ∙ take_at front (drop n ts) n front_len

    run_more : (run generic start (map generic_text.kind front ++ map generic_text.kind more)).0 ≡ qs
    run_more = rw (map-append generic_text.kind front more) at (gives_only generic_ll qs (map generic_text.kind (front ++ more)) reads.0).0

    run_rest : (run generic start (map generic_text.kind front ++ map generic_text.kind (drop n ts))).0 ≡ places
    run_rest = rw (← map-append generic_text.kind front (drop n ts), ← ends.is) taken

    kinds_len : length (map generic_text.kind front) ≡ n
    kinds_len = length-map front generic_text.kind ∙ front_len

    same_places : take n places ≡ take n qs
    same_places = rw (kinds_len, run_rest, run_more) at
        (same_front generic start (map generic_text.kind front) (map generic_text.kind (drop n ts)) (map generic_text.kind more))

begun_case : (o : Option ℕ) (places : List Place) (ts : List Named) → (run generic start (map generic_text.kind ts)).0 ≡ places → IsRefused o ts → ((n : ℕ) → o ≡ Some n → n ≤ length ts) → IsBegun o places ts
begun_case None places ts taken ends within = tt
begun_case (Some n) places ts taken ends within = begun_at n places ts taken ends (within n refl)

refusal_step : (o : Option EndKind) (more : Option Refusal) (n : ℕ) (r : Refusal) → ((s : Refusal) → more ≡ Some s → s.at < n) → here_or_later o more ≡ Some r → r.at < suc n
refusal_step (Some k) more n r h is = let zero_at : 0 ≡ r.at = cc in omega (arith, zero_at)
refusal_step None None n r h is = absurd cc
refusal_step None (Some s) n r h is = let e : suc s.at ≡ r.at = cc in let b = h s refl in omega (arith, e, b)

refusal_within : (b : Before) (es : List (Event Place Named)) (r : Refusal) → first_refusal b es ≡ Some r → r.at < length es
refusal_within b [] r is = absurd cc
refusal_within b (e ∷ es) r is = refusal_step (ends_at b e) (first_refusal (step b e) es) (length es) r (refusal_within (step b e) es) is

events_at_most : (ps : List Place) (ts : List Named) → length (events ps ts) ≤ length ts
events_at_most [] ts = omega arith
events_at_most (p ∷ ps) [] = omega arith
events_at_most (p ∷ ps) (t ∷ ts) = let h = events_at_most ps ts in omega (arith, h)

end_within : (r : Option Refusal) (is_whole : Bool) (count m n : ℕ) → ((s : Refusal) → r ≡ Some s → s.at ≤ m) → count ≤ m → end_of r is_whole count ≡ Some n → n ≤ m
end_within (Some s) is_whole count m n h within is = let e : s.at ≡ n = cc in let b = h s refl in omega (arith, e, b)
end_within None true count m n h within is = absurd cc
end_within None false count m n h within is = let e : count ≡ n = cc in omega (arith, e, within)

pub begun : {places : List Place} {is_whole : Bool} {ts : List Named} (r : Option Refusal) → Ran places is_whole ts → r ≡ first_refusal nothing_before (events places ts)
    → IsBegun (end_of r is_whole (length places)) places ts
begun {places = places} {is_whole = is_whole} {ts = ts} r ran is =
    let at_most : length places ≤ length ts = rw (ran.taken, length-map ts generic_text.kind) at (taken_at_most generic start (map generic_text.kind ts)) in
    begun_case (end_of r is_whole (length places)) places ts ran.taken (refused r ran is)
    (λ n e. end_within r is_whole (length places) (length ts) n
    (λ s some. let a = refusal_within nothing_before (events places ts) s (sym is ∙ some) in let b = events_at_most places ts in omega (arith, a, b)) at_most e)
