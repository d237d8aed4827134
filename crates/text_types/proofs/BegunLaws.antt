-- One event more, from the right.
use Rattle.std.proofs.Common.{◌≡◌, ℕ, ◌+◌, ◌-◌, ◌≤◌, List, [], ◌∷◌, length, map, drop, get_or, Option, Some, None, sym, ◌∙◌, ap, subst, arith}
use Rattle.std.specs.Prelude.{reverse, slice_get}
use Rattle.std.proofs.lemmas.List.{drop_more}
use Rattle.text_grammar.specs.declared.places.Place.{Place}
use Rattle.text_events.specs.declared.event.Event.{Event}
use Rattle.term_table.specs.declared.node.Node.{Node}
use Rattle.term_table.specs.Terms.{Term, term_at, Grows}
use Rattle.term_table.proofs.TableLaws.{zero_is}
use Rattle.text_types.specs.declared.alias_numbers.AliasNumbers.{AliasNumbers}
use Rattle.text_types.specs.Spelling.{Spelling}
use Rattle.text_types.specs.Actions.{actions_at}
use Rattle.text_types.specs.Items.{acted_both, items, begun, first_of, place_next}
use Rattle.text_types.specs.Stack.{Within, Stands, AliasesWithin, alias_terms, number_of}
use Rattle.text_types.proofs.StackLaws.{stands_put}

-- what stands last in a list that isn't empty
some_last : {X : Type 0} (x : X) (xs : List X) → slice_get (x ∷ xs) (length xs) ≡ None → ⊥
some_last x [] e = cc
some_last x (y ∷ ys) e = some_last y ys e

pub top_none : (xs : List ℕ) → None ≡ slice_get xs (length xs - 1) → (nodes : List Node) → term_at nodes 0 ≡ first_of (map (term_at nodes) (reverse xs))
top_none [] e nodes = zero_is nodes
top_none (x ∷ xs) e nodes =
    let same : length (x ∷ xs) - 1 ≡ length xs = omega arith in
    absurd (some_last x xs (ap (slice_get (x ∷ xs)) (sym same) ∙ sym e))

module _ (words : Spelling) (old mid new : List Node) (aliases : AliasNumbers) (events : List Event) (n i : ℕ) (d : Event) (step : i + 1 ≡ n) (bound : n ≤ length events) (grows : Grows old mid)
    (within : AliasesWithin (length old) aliases) where
  abbrev env : ℕ → Term
  env = alias_terms old aliases

  rest : drop i events ≡ get_or events i d ∷ drop n events
  rest = drop_more events i d (omega (arith, step)) ∙ ap (λ m. get_or events i d ∷ drop m events) step

  pub next_step : Some (get_or events i d).place ≡ place_next (drop i events)
  next_step = ap place_next (sym rest)

  pub items_step : (next : Option Place) (ks all : List ℕ) → next ≡ place_next (drop n events) → Stands mid ks (items words env (drop n events))
      → Stands new all (acted_both (alias_terms mid aliases (get_or events i d).name) (actions_at words (get_or events i d).place (get_or events i d).name next) (map (term_at mid) ks))
      → Stands new all (items words env (drop i events))
  items_step next ks all e stood stands =
      let y : Event = get_or events i d in
      let alias : alias_terms mid aliases y.name ≡ env y.name = grows.kept (number_of aliases y.name) (within y.name) in
      subst (Stands new all) (
      ap (λ t. acted_both t (actions_at words y.place y.name next) (map (term_at mid) ks)) alias
      ∙ ap (λ p. acted_both (env y.name) (actions_at words y.place y.name p) (map (term_at mid) ks)) e
      ∙ ap (λ ts. acted_both (env y.name) (actions_at words y.place y.name (place_next (drop n events))) ts) stood.is
      ∙ ap (items words env) (sym rest)
      ) stands

  pub begun_step : (k : ℕ) (ks ns all : List ℕ) → Grows mid new → Stands new ks (items words env (drop i events)) → Stands mid ns (begun words env (drop n events)) → all ≡ k ∷ ns
      → ((last : ℕ) → Within last ks → k ≤ last) → ((nodes : List Node) → term_at nodes k ≡ first_of (map (term_at nodes) ks)) → Stands new all (begun words env (drop i events))
  begun_step k ks ns all more stack numbers e top is =
      let here : term_at new k ≡ first_of (items words env (drop i events)) = is new ∙ ap first_of stack.is in
      let whole : Stands new all (first_of (items words env (drop i events)) ∷ map (term_at mid) ns) =
      stands_put mid new k ns all _ more (top (length new) stack.within) here numbers.within e in
      subst (Stands new all) (
      ap (λ ts. first_of (items words env (drop i events)) ∷ ts) numbers.is
      ∙ ap (λ es. first_of (items words env es) ∷ begun words env (drop n events)) rest
      ∙ ap (begun words env) (sym rest)
      ) whole
