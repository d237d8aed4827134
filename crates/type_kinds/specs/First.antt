-- The first event at which a test stands that also sees the events behind it.
use Rattle.std.specs.Prelude.{ℕ, Bool, true, false, List, [], ◌∷◌, Option, Some, None}
use Rattle.line_grammar.specs.Language.{one_later}
use Rattle.text_events.specs.declared.event.Event.{Event}

-- S is what is kept of the events before
abbrev pub first_in : {S : Type 0} → (S → Event → List Event → S) → (S → Event → List Event → Bool) → S → List Event → Option ℕ
first_in step stands s [] = None
first_in step stands s (e ∷ events) = elim (stands s e events) [ true ↦ Some 0 | false ↦ one_later (first_in step stands (step s e events) events) ]
