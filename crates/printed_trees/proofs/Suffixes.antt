-- The events with which a text ends.
use Rattle.std.proofs.Common.{◌≡◌, suc, List, [], ◌∷◌, ◌++◌, length, refl, sym, ap, ◌∙◌, arith, append_assoc, length-append}
use Rattle.text_events.specs.declared.event.Event.{Event}
use Rattle.text_types.specs.Spelling.{Spelling}
use Rattle.event_trees.specs.Wording.{Wording}
use Rattle.printed_words.specs.Words.{PrintedWord}
use Rattle.printed_terms.specs.Told.{Told, no_words, one_more}

pub record Suffix (all es : List Event) : Type 0 where
  pub front : List Event
  pub is : all ≡ front ++ es

pub next : (all : List Event) (e : Event) (es : List Event) → Suffix all (e ∷ es) → Suffix all es
next all e es s = record { front = s.front ++ e ∷ []; is = s.is ∙ sym (append_assoc s.front (e ∷ []) es) }

same_fronts : (fs gs xs ys : List Event) → fs ++ xs ≡ gs ++ ys → length xs ≡ length ys → xs ≡ ys
same_fronts [] [] xs ys e l = e
same_fronts (f ∷ fs) (g ∷ gs) xs ys e l = same_fronts fs gs xs ys (tails e) l
  where
    tails : f ∷ (fs ++ xs) ≡ g ∷ (gs ++ ys) → fs ++ xs ≡ gs ++ ys
    tails e = cc
same_fronts [] (g ∷ gs) xs ys e l = absurd (omega (arith, l, ap length e, length-append (g ∷ gs) ys))
same_fronts (f ∷ fs) [] xs ys e l = absurd (omega (arith, l, ap length e, length-append (f ∷ fs) xs))

-- two suffixes of one length are one
pub one_suffix : (all xs ys : List Event) → Suffix all xs → Suffix all ys → length xs ≡ length ys → xs ≡ ys
one_suffix all xs ys s t l = same_fronts s.front t.front xs ys (sym s.is ∙ t.is) l

module _ (words : Spelling) (wording : Wording) where
  pub told_length : {ws : List PrintedWord} {es : List Event} → Told words wording ws es → length es ≡ length ws
  told_length no_words = refl
  told_length (one_more w name says more) = ap suc (told_length more)
