-- The first event at which looking ends, step by step.
use Rattle.std.proofs.Common.{◌≡◌, ℕ, suc, ◌+◌, ◌<◌, ◌≤◌, List, [], ◌∷◌, length, drop, get_or, Option, Some, None, refl, arith, zero-add}
use Rattle.std.proofs.lemmas.List.{drop_all, drop_more}
use Rattle.line_grammar.specs.Language.{Event, events}
use Rattle.text_grammar.specs.declared.places.Place.{Place}
use Rattle.text_grammar.specs.declared.words.Word.{Word}
use Rattle.text_events.specs.declared.ending.EndKind.{EndKind}
use Rattle.text_events.specs.declared.look.Refusal.{Refusal}
use Rattle.text_events.specs.Language.{Named, Before, ends_at, named, step}
use Rattle.text_events.specs.Looking.{first_refusal, here_or_later, one_later}

-- this many events were passed
abbrev pub later : ℕ → Option Refusal → Option Refusal
later n None = None
later n (Some r) = Some (record { at = n + r.at; kind = r.kind })

pub later_zero : (o : Option Refusal) → later 0 o ≡ o
later_zero None = refl
later_zero (Some r) = rw (zero-add r.at) refl

later_one : (n : ℕ) (o : Option Refusal) → later n (one_later o) ≡ later (n + 1) o
later_one n None = refl
later_one n (Some r) = let e : n + suc r.at ≡ n + 1 + r.at = omega arith in rw e refl

-- what is left from a place on
abbrev pub left : ℕ → List Place → List Word → List ℕ → List (Event Place Named)
left i places words names = events (drop i places) (named (drop i words) (drop i names))

one_left : (i : ℕ) (places : List Place) (words : List Word) (names : List ℕ) (p : Place) (w : Word) (n : ℕ) → i < length places → i < length words → i < length names
    → left i places words names ≡ (get_or places i p, record { word = get_or words i w; name = get_or names i n }) ∷ left (i + 1) places words names
one_left i places words names p w n a b c = rw (drop_more places i p a, drop_more words i w b, drop_more names i n c) refl

pub no_words : (i : ℕ) (b : Before) (places : List Place) (words : List Word) (names : List ℕ) → length words ≤ i → later i (first_refusal b (left i places words names)) ≡ None
no_words i b places words names past = rw (drop_all i words past) (no_events (drop i places))
  where
    no_events : (ps : List Place) → later i (first_refusal b (events ps [])) ≡ None
    no_events [] = refl
    no_events (p ∷ ps) = refl

pub no_names : (i : ℕ) (b : Before) (places : List Place) (words : List Word) (names : List ℕ) → length names ≤ i → later i (first_refusal b (left i places words names)) ≡ None
no_names i b places words names past = rw (drop_all i names past) (none_named (drop i words) (drop i places))
  where
    none_named : (ws : List Word) (ps : List Place) → later i (first_refusal b (events ps (named ws []))) ≡ None
    none_named [] [] = refl
    none_named [] (p ∷ ps) = refl
    none_named (w ∷ ws) [] = refl
    none_named (w ∷ ws) (p ∷ ps) = refl

pub no_places : (i : ℕ) (b : Before) (places : List Place) (words : List Word) (names : List ℕ) → length places ≤ i → later i (first_refusal b (left i places words names)) ≡ None
no_places i b places words names past = rw (drop_all i places past) refl

ends_case : (o : Option EndKind) (more : Option Refusal) (i : ℕ) (kind : EndKind) → o ≡ Some kind → later i (here_or_later o more) ≡ Some (record { at = i; kind = kind })
ends_case None more i kind is = absurd cc
ends_case (Some k) more i kind is = let same : k ≡ kind = cc in let e : i + 0 ≡ i = omega arith in rw (same, e) refl

pub ends_here : (i : ℕ) (b : Before) (places : List Place) (words : List Word) (names : List ℕ) (p : Place) (w : Word) (n : ℕ) (kind : EndKind) → i < length places → i < length words → i < length names
    → ends_at b (get_or places i p, record { word = get_or words i w; name = get_or names i n }) ≡ Some kind
    → later i (first_refusal b (left i places words names)) ≡ Some (record { at = i; kind = kind })
ends_here i b places words names p w n kind a c d is =
    rw (one_left i places words names p w n a c d) (ends_case _ _ i kind is)

on_case : (o : Option EndKind) (more : Option Refusal) (i : ℕ) → o ≡ None → later i (here_or_later o more) ≡ later (i + 1) more
on_case None more i is = later_one i more
on_case (Some k) more i is = absurd cc

pub goes_on : (i : ℕ) (b : Before) (places : List Place) (words : List Word) (names : List ℕ) (p : Place) (w : Word) (n : ℕ) → i < length places → i < length words → i < length names
    → ends_at b (get_or places i p, record { word = get_or words i w; name = get_or names i n }) ≡ None
    → later i (first_refusal b (left i places words names))
    ≡ later (i + 1) (first_refusal (step b (get_or places i p, record { word = get_or words i w; name = get_or names i n })) (left (i + 1) places words names))
goes_on i b places words names p w n a c d is = rw (one_left i places words names p w n a c d) (on_case _ _ i is)
