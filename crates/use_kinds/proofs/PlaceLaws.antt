-- What the code says at an event.
use Rattle.std.proofs.Common.{◌≡◌, ℕ, zero, suc, ◌+◌, ◌-◌, ◌≤◌, ◌<◌, List, [], ◌∷◌, length, map, drop, get_or, Option, Some, None, refl, sym, ◌∙◌, ap, arith}
use Rattle.std.proofs.lemmas.List.{drop_more, drop_all, length-drop}
use Rattle.text_events.specs.declared.event.Event.{Event}
use Rattle.term_table.specs.declared.node.Node.{Node}
use Rattle.term_table.specs.Terms.{term_at}
use Rattle.term_table.proofs.TableLaws.{zero_is}
use Rattle.text_types.specs.Spelling.{Spelling}
use Rattle.text_types.specs.Items.{Aliases, begins, begun}
use Rattle.text_kinds.specs.declared.found.Kind.{Kind}
use Rattle.use_kinds.specs.Written.{written_from}
use Rattle.use_kinds.specs.Clashes.{place_from, whole_at, later}

-- the number at an event stands for what begins there
pub number_is : (words : Spelling) (aliases : Aliases) (nodes : List Node) (numbers : List ℕ) (events : List Event) (i : ℕ) → map (term_at nodes) numbers ≡ begun words aliases events
    → term_at nodes (get_or numbers i 0) ≡ begins words aliases (drop i events)
number_is words aliases nodes [] [] zero e = zero_is nodes
number_is words aliases nodes [] [] (suc i) e = zero_is nodes
number_is words aliases nodes (n ∷ ns) [] i e = absurd cc
number_is words aliases nodes [] (x ∷ events) i e = absurd cc
number_is words aliases nodes (n ∷ ns) (x ∷ events) zero e = cc
number_is words aliases nodes (n ∷ ns) (x ∷ events) (suc i) e =
    let rest : map (term_at nodes) ns ≡ begun words aliases events = cc in
    number_is words aliases nodes ns events i rest

-- the place at which the types of a name are written
module _ (words : Spelling) (index : ℕ → ℕ) (aliases : Aliases) (nodes : List Node) (numbers : List ℕ) (es : List Event) (event : ℕ) (d : Event) where
  pub place_is : (written number : ℕ) (o : Option ℕ) → event < length es → map (term_at nodes) numbers ≡ begun words aliases es → written ≤ length es
      → drop written es ≡ written_from (get_or es event d).place (drop (event + 1) es) → number ≡ get_or numbers written 0
      → ((total : ℕ) (from : List Event) → total - length from ≡ written → o ≡ whole_at total (term_at nodes number) from) → o ≡ place_from words index aliases es (drop event es)
  place_is written number o within stands bound from is whole =
      let y : Event = get_or es event d in
      let start : length es - length (drop written es) ≡ written = ap (λ n. length es - n) (length-drop written es) ∙ (let z : length es - (length es - written) ≡ written = omega (arith, bound) in z) in
      let here : term_at nodes number ≡ begins words aliases (written_from y.place (drop (event + 1) es)) =
      ap (term_at nodes) is ∙ number_is words aliases nodes numbers es written stands ∙ ap (begins words aliases) from in
      whole (length es) (drop written es) start ∙ ap (λ t. whole_at (length es) t (drop written es)) here
      ∙ ap (λ xs. whole_at (length es) (begins words aliases (written_from y.place (drop (event + 1) es))) xs) from
      ∙ ap (place_from words index aliases es) (sym (drop_more es event d within))

pub no_place : (words : Spelling) (index : ℕ → ℕ) (aliases : Aliases) (es : List Event) (event : ℕ) → length es ≤ event → None ≡ place_from words index aliases es (drop event es)
no_place words index aliases es event past = ap (place_from words index aliases es) (sym (drop_all event es past))

pub nowhere : (o : Option ℕ) (kind : Option Kind) → None ≡ later o None kind
nowhere None kind = refl
nowhere (Some n) kind = refl
