-- One event more, from the right.
use Rattle.std.proofs.Common.{◌≡◌, ℕ, ◌+◌, ◌≤◌, Bool, List, [], ◌∷◌, ◌++◌, length, take, drop, get_or, set, append_assoc, sym, ◌∙◌, ap, arith}
use Rattle.std.proofs.lemmas.List.{drop_more, take_more, get_or_append_left, get_or-take, set_at, length-take-le}
use Rattle.text_grammar.specs.declared.places.Place.{Place}
use Rattle.text_events.specs.declared.event.Event.{Event}
use Rattle.text_types.specs.Marks.{is_arrow, arrow_next, first_or_false, closed_at, closed, marked_at, marked}

module _ (old now : List Event) (n i : ℕ) (d : Event) (step : i + 1 ≡ n) (bound : n ≤ length old) (is : now ≡ take n old ++ marked (drop n old)) where
  rest : drop i old ≡ get_or old i d ∷ drop n old
  rest = drop_more old i d (omega (arith, step)) ∙ ap (λ m. get_or old i d ∷ drop m old) step

  same_event : get_or now i d ≡ get_or old i d
  same_event =
      ap (λ es. get_or es i d) is ∙ get_or_append_left (take n old) (marked (drop n old)) d i (omega (arith, length-take-le n old bound))
      ∙ get_or-take n old i d (omega (arith, step))

  pub arrow_step : (r : Bool) → r ≡ is_arrow (get_or now i d).place → r ≡ arrow_next (drop i old)
  arrow_step r e = e ∙ ap (λ (x : Event). is_arrow x.place) same_event ∙ ap arrow_next (sym rest)

  pub closed_step : (r cs : List Bool) (arrow : Bool) → r ≡ closed_at (get_or now i d).place arrow cs → cs ≡ closed (drop n old) → arrow ≡ arrow_next (drop n old) → r ≡ closed (drop i old)
  closed_step r cs arrow e f g =
      e ∙ ap (λ (x : Event). closed_at x.place arrow cs) same_event ∙ ap (λ a. closed_at (get_or old i d).place a cs) g
      ∙ ap (λ c. closed_at (get_or old i d).place (arrow_next (drop n old)) c) f ∙ ap closed (sym rest)

  abbrev event : Place → ℕ → Event
  event place name = record { place = place; name = name }

  pub marked_step : (place : Place) (arrow inner : Bool) (cs : List Bool) → place ≡ marked_at (get_or now i d).place arrow inner → arrow ≡ arrow_next (drop n old) → inner ≡ first_or_false cs
      → cs ≡ closed (drop n old) → set now i (event place (get_or now i d).name) ≡ take i old ++ marked (drop i old)
  marked_step place arrow inner cs e f g h =
      let y : Event = get_or old i d in
      let more : take n old ≡ take i old ++ y ∷ [] = ap (λ m. take m old) (sym step) ∙ take_more old i d (omega (arith, step)) in
      let whole : now ≡ take i old ++ y ∷ marked (drop n old) = is ∙ ap (λ p. p ++ marked (drop n old)) more ∙ append_assoc (take i old) (y ∷ []) (marked (drop n old)) in
      let name : (get_or now i d).name ≡ y.name = ap (λ (x : Event). x.name) same_event in
      let new_place : place ≡ marked_at y.place (arrow_next (drop n old)) (first_or_false (closed (drop n old))) =
      e ∙ ap (λ (x : Event). marked_at x.place arrow inner) same_event ∙ ap (λ a. marked_at y.place a inner) f
      ∙ ap (λ b. marked_at y.place (arrow_next (drop n old)) b) (g ∙ ap first_or_false h) in
      ap (λ es. set es i (event place (get_or now i d).name)) whole ∙ set_at (take i old) y (marked (drop n old)) _ i (length-take-le i old (omega (arith, step)))
      ∙ ap (λ m. take i old ++ event place m ∷ marked (drop n old)) name ∙ ap (λ p. take i old ++ event p y.name ∷ marked (drop n old)) new_place
      ∙ ap (λ es. take i old ++ marked es) (sym rest)
