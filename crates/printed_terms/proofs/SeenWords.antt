-- Events that have printed words, of which, from each on, something is known.
use Rattle.std.proofs.Common.{ℕ, List, [], ◌∷◌}
use Rattle.text_events.specs.declared.event.Event.{Event}
use Rattle.text_types.specs.Spelling.{Spelling}
use Rattle.event_trees.specs.Wording.{Wording}
use Rattle.printed_words.specs.Words.{PrintedWord}
use Rattle.printed_terms.specs.Told.{Told, Told as whole, Says}

pub data Seen (words : Spelling) (wording : Wording) (Is : List Event → Type 0) : List PrintedWord → List Event → Type 0 where
  no_words : Is [] → Seen words wording Is [] []
  one_more : (w : PrintedWord) (name : ℕ) {ws : List PrintedWord} {es : List Event} → Says words wording w.place w.kind w.bytes name → Is (record { place = w.place; name = name } ∷ es) → Seen words wording Is ws es
      → Seen words wording Is (w ∷ ws) (record { place = w.place; name = name } ∷ es)

module _ (words : Spelling) (wording : Wording) (Is : List Event → Type 0) where
  -- what is known of the first of them on
  pub known : {ws : List PrintedWord} {es : List Event} → Seen words wording Is ws es → Is es
  known (no_words is) = is
  known (one_more w name says is more) = is

  pub told : {ws : List PrintedWord} {es : List Event} → Seen words wording Is ws es → Told words wording ws es
  told (no_words is) = whole.no_words
  told (one_more w name says is more) = whole.one_more w name says (told more)

  -- what holds from an event on holds from the next one on
  pub seen : ((e : Event) (es : List Event) → Is (e ∷ es) → Is es) → {ws : List PrintedWord} {es : List Event} → Is es → Told words wording ws es → Seen words wording Is ws es
  seen next is whole.no_words = no_words is
  seen next is (whole.one_more w name says more) = one_more w name says is (seen next (next _ _ is) more)
