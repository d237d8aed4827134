-- Words in front of others, at places that say nothing of a tree's operations.
use Rattle.std.proofs.Common.{◌≡◌, Bool, true, false, List, ◌∷◌, refl, true≢false, sym}
use Rattle.text_grammar.specs.declared.places.Place.{Place}
use Rattle.text_grammar.specs.declared.places.Place.TheVariants as places
use Rattle.text_events.specs.declared.event.Event.{Event}
use Rattle.text_types.specs.Spelling.{Spelling}
use Rattle.event_trees.specs.Wording.{Wording}
use Rattle.printed_words.specs.Words.{PrintedWord, word}
use Rattle.printed_terms.specs.Told.{Told, one_more}
use Rattle.printed_marks.proofs.Kept.{is_simple, Kept}

-- places that say something of operations
abbrev pub is_loud : Place → Bool
is_loud places.OpName = true
is_loud places.ResultName = true
is_loud places.ResultNumber = true
is_loud places.UseName = true
is_loud places.SuccessorName = true
is_loud places.PropsOpen = true
is_loud places.DictOpen = true
is_loud places.SignatureOpen = true
is_loud places.SignatureColon = true
is_loud places.ArgName = true
is_loud places.BlockLabel = true
is_loud places.BlockColon = true
is_loud places.RegionOpen = true
is_loud places.RegionClose = true
is_loud _ = false

-- events that begin with others at quiet places, and then are these
pub data Passed : List Event → List Event → Type 0 where
  here : (es : List Event) → Passed es es
  past : (e : Event) {es behind : List Event} → is_loud e.place ≡ false → Passed es behind → Passed (e ∷ es) behind

-- the words of this list behind others at quiet places
pub data Front (rest : List PrintedWord) : List PrintedWord → Type 0 where
  whole : Front rest rest
  after : (w : PrintedWord) {ws : List PrintedWord} → is_loud w.place ≡ false → Front rest ws → Front rest (w ∷ ws)

simple_quiet : (place : Place) → is_simple place ≡ true → is_loud place ≡ false
simple_quiet places.OpName h = absurd (true≢false (sym h))
simple_quiet places.ResultName h = absurd (true≢false (sym h))
simple_quiet places.ResultNumber h = absurd (true≢false (sym h))
simple_quiet places.UseName h = absurd (true≢false (sym h))
simple_quiet places.SuccessorName h = absurd (true≢false (sym h))
simple_quiet places.PropsOpen h = absurd (true≢false (sym h))
simple_quiet places.DictOpen h = absurd (true≢false (sym h))
simple_quiet places.SignatureOpen h = absurd (true≢false (sym h))
simple_quiet places.SignatureColon h = absurd (true≢false (sym h))
simple_quiet places.ArgName h = absurd (true≢false (sym h))
simple_quiet places.BlockLabel h = absurd (true≢false (sym h))
simple_quiet places.BlockColon h = absurd (true≢false (sym h))
simple_quiet places.RegionOpen h = absurd (true≢false (sym h))
simple_quiet places.RegionClose h = absurd (true≢false (sym h))
simple_quiet _ h = refl

pub front_kept : (rest : List PrintedWord) → Kept (Front rest)
front_kept rest = record {
  on = λ ws gap place kind bytes s h. after (word gap place kind bytes) (simple_quiet place s) h;
  closing = λ ws gap kind bytes h. after (word gap places.ResultsClose kind bytes) refl h;
  arrow = λ ws gap other kind sort bytes more h. after (word gap places.FunctionClose kind bytes) refl (after (word other places.FunctionArrow sort more) refl h);
}

module _ (words : Spelling) (wording : Wording) where
  -- the events of words behind others
  pub record Behind (rest : List PrintedWord) (es : List Event) : Type 0 where
    pub behind : List Event
    pub told : Told words wording rest behind
    pub passed : Passed es behind

  pub behind_front : {rest ws : List PrintedWord} {es : List Event} → Front rest ws → Told words wording ws es → Behind rest es
  behind_front whole told = record { behind = _; told = told; passed = here _ }
  behind_front (after w q f) (one_more v name says more) = let b = behind_front f more in record { behind = b.behind; told = b.told; passed = past (record { place = w.place; name = name }) q b.passed }
