-- What each word of a printed text is to names.
use Rattle.std.proofs.Common.{◌≡◌, ℕ, ◌+◌, ◌-◌, Bool, true, false, not, List, ◌∷◌, refl, true≢false, sym, ap, ◌∙◌}
use Rattle.std.specs.Prelude.{◌==◌, if◌then◌else◌}
use Rattle.text_grammar.specs.declared.places.Place.{Place}
use Rattle.text_grammar.specs.declared.places.Place.TheVariants as places
use Rattle.text_events.specs.declared.event.Event.{Event}
use Rattle.text_types.specs.Items.{place_next}
use Rattle.text_scopes.specs.declared.bodies.Body.{Body}
use Rattle.text_scopes.specs.declared.steps.Step.{Step}
use Rattle.text_scopes.specs.declared.steps.Step.TheVariants as steps
use Rattle.text_scopes.specs.Bodies.{behind, opens_body}
use Rattle.text_scopes.specs.Seen.{Turn}
use Rattle.event_trees.specs.declared.counts.Counts.{Counts}
use Rattle.event_trees.specs.Numbers.{begins_operation, counted_at, first_count, is_border, or_anew}
use Rattle.printed_trees.specs.Numbering.{Count, none_counted, past_values}
use Rattle.printed_trees.specs.Roles.{at}
use Rattle.printed_trees.proofs.Fronts.{is_loud}
use Rattle.printed_trees.proofs.Steps.{inside, opened}
use Rattle.scoped_trees.proofs.States.{Moved, Setting, event, st, waits}
use Rattle.scoped_trees.proofs.Runs.{target_at}

-- places that are nothing to names and counts, wherever they stand
abbrev pub is_hushed : Place → Bool
is_hushed places.OpName = false
is_hushed places.ResultName = false
is_hushed places.ResultNumber = false
is_hushed places.UseName = false
is_hushed places.SuccessorName = false
is_hushed places.SignatureColon = false
is_hushed places.ArgName = false
is_hushed places.BlockLabel = false
is_hushed places.BlockColon = false
is_hushed places.RegionOpen = false
is_hushed places.RegionClose = false
is_hushed _ = true

pub quiet_hushed : (p : Place) → is_loud p ≡ false → is_hushed p ≡ true
quiet_hushed places.OpName h = absurd (true≢false h)
quiet_hushed places.ResultName h = absurd (true≢false h)
quiet_hushed places.ResultNumber h = absurd (true≢false h)
quiet_hushed places.UseName h = absurd (true≢false h)
quiet_hushed places.SuccessorName h = absurd (true≢false h)
quiet_hushed places.SignatureColon h = absurd (true≢false h)
quiet_hushed places.ArgName h = absurd (true≢false h)
quiet_hushed places.BlockLabel h = absurd (true≢false h)
quiet_hushed places.BlockColon h = absurd (true≢false h)
quiet_hushed places.RegionOpen h = absurd (true≢false h)
quiet_hushed places.RegionClose h = absurd (true≢false h)
quiet_hushed _ h = refl

-- a body with so many regions open
abbrev pub body_at : ℕ → Bool → Body
body_at within at_module = record { within = within; at_module = at_module }

-- what is counted where results are named
abbrev pub naming : Body → Count → ℕ → Counts
naming body c named = record { body = body; values = c.values; named = named; labels = c.labels }

module _ (g : Setting) where
  -- an event that is this to values and that to labels, before these events
  abbrev pub Moves : Step → Step → Event → Counts → Counts → List Event → Type 0
  Moves s t e c d es = (vs ls : List Turn) → Moved g s t e (st c vs ls (e ∷ es)) (st d ((s, e) ∷ vs) ((t, e) ∷ ls) es)

  pub hushed_moves : (p : Place) (name : ℕ) (es : List Event) (c : Counts) → is_hushed p ≡ true → Moves steps.Stays steps.Stays (event p name) c c es
  hushed_moves places.OpName name es c h = absurd (true≢false (sym h))
  hushed_moves places.ResultName name es c h = absurd (true≢false (sym h))
  hushed_moves places.ResultNumber name es c h = absurd (true≢false (sym h))
  hushed_moves places.UseName name es c h = absurd (true≢false (sym h))
  hushed_moves places.SuccessorName name es c h = absurd (true≢false (sym h))
  hushed_moves places.SignatureColon name es c h = absurd (true≢false (sym h))
  hushed_moves places.ArgName name es c h = absurd (true≢false (sym h))
  hushed_moves places.BlockLabel name es c h = absurd (true≢false (sym h))
  hushed_moves places.BlockColon name es c h = absurd (true≢false (sym h))
  hushed_moves places.RegionOpen name es c h = absurd (true≢false (sym h))
  hushed_moves places.RegionClose name es c h = absurd (true≢false (sym h))
  hushed_moves p name es c h = λ vs ls. record { event_is = refl; counts_is = refl; value_is = refl; label_is = refl; values_is = refl; labels_is = refl }

  pub op_moves : (name : ℕ) (es : List Event) (body : Body) (c : Count) (named : ℕ)
      → Moves steps.Stays steps.Stays (event places.OpName name) (naming body c named) (at (behind g.class body (event places.OpName name)) (past_values c (first_count (waits g es)))) es
  op_moves name es body c named = λ vs ls. record { event_is = refl; counts_is = refl; value_is = refl; label_is = refl; values_is = refl; labels_is = refl }

  pub result_moves : (name : ℕ) (es : List Event) (body : Body) (c : Count) → Moves steps.Defines steps.Stays (event places.ResultName name) (at body c) (naming body c (0 + 1)) es
  result_moves name es body c = λ vs ls. record { event_is = refl; counts_is = refl; value_is = refl; label_is = refl; values_is = refl; labels_is = refl }

  pub count_moves : (name : ℕ) (es : List Event) (body : Body) (c : Count) (named : ℕ) → Moves steps.Stays steps.Stays (event places.ResultNumber name) (naming body c named) (naming body c (named + g.wording.number name - 1)) es
  count_moves name es body c named = λ vs ls. record { event_is = refl; counts_is = refl; value_is = refl; label_is = refl; values_is = refl; labels_is = refl }

  pub use_moves : (name : ℕ) (es : List Event) (c : Counts) → Moves steps.Uses steps.Stays (event places.UseName name) c c es
  use_moves name es c = λ vs ls. record { event_is = refl; counts_is = refl; value_is = refl; label_is = refl; values_is = refl; labels_is = refl }

  target_is : (deep b : Bool) → b ≡ not deep → (if b then steps.Misses else steps.Uses) ≡ target_at deep
  target_is true b h = ap (λ t. if t then steps.Misses else steps.Uses) h
  target_is false b h = ap (λ t. if t then steps.Misses else steps.Uses) h

  pub successor_moves : (deep : Bool) (name : ℕ) (es : List Event) (c : Counts) → (c.body.within == 0) ≡ not deep → Moves steps.Stays (target_at deep) (event places.SuccessorName name) c c es
  successor_moves deep name es c h = λ vs ls. record { event_is = refl; counts_is = refl; value_is = refl; label_is = target_is deep (c.body.within == 0) h; values_is = refl; labels_is = refl }

  pub arg_moves : (name : ℕ) (es : List Event) (body : Body) (c : Count) → Moves steps.Defines steps.Stays (event places.ArgName name) (at body c) (at body (past_values c 1)) es
  arg_moves name es body c = λ vs ls. record { event_is = refl; counts_is = refl; value_is = refl; label_is = refl; values_is = refl; labels_is = refl }

  pub label_moves : (name : ℕ) (es : List Event) (body : Body) (c : Count) → Moves steps.Stays steps.Defines (event places.BlockLabel name) (at body c) (at body (record { values = c.values; labels = c.labels + 1 })) es
  label_moves name es body c = λ vs ls. record { event_is = refl; counts_is = refl; value_is = refl; label_is = refl; values_is = refl; labels_is = refl }

  -- colons in a region of a function
  pub head_moves : (name : ℕ) (es : List Event) (body : Body) (c : Count) → (body.within == 0) ≡ false → Moves steps.Stays steps.Stays (event places.BlockColon name) (at body c) (at body c) es
  head_moves name es body c h = λ vs ls. record {
    event_is = refl;
    counts_is = sym (ap (λ t. record (or_anew (is_border (if t then steps.Ends else steps.Stays)) (at body c)) { body = body }) h);
    value_is = ap (λ t. if t then steps.Ends else steps.Stays) h;
    label_is = refl;
    values_is = refl;
    labels_is = refl;
  }

  pub colon_moves : (name : ℕ) (es : List Event) (body : Body) (c : Count) → (body.within == 0) ≡ false → Moves steps.Stays steps.Stays (event places.SignatureColon name) (at body c) (at body c) es
  colon_moves name es body c h = λ vs ls. record {
    event_is = refl;
    counts_is = sym (ap (λ t. record (or_anew (is_border (if t then steps.Ends else steps.Stays)) (at body c)) { body = body }) h);
    value_is = ap (λ t. if t then steps.Ends else steps.Stays) h;
    label_is = refl;
    values_is = refl;
    labels_is = refl;
  }

  -- the colon of a function
  pub end_moves : (name : ℕ) (es : List Event) (body : Body) (c : Count) → (body.within == 0) ≡ true → Moves steps.Ends steps.Stays (event places.SignatureColon name) (at body c) (at body none_counted) es
  end_moves name es body c h = λ vs ls. record {
    event_is = refl;
    counts_is = sym (ap (λ t. record (or_anew (is_border (if t then steps.Ends else steps.Stays)) (at body c)) { body = body }) h);
    value_is = ap (λ t. if t then steps.Ends else steps.Stays) h;
    label_is = refl;
    values_is = refl;
    labels_is = refl;
  }

  -- regions
  pub open_moves : (name : ℕ) (es : List Event) (within : ℕ) (at_module : Bool) (c : Count) (labelled : Bool) → opens_body (body_at within at_module) ≡ false → begins_operation (place_next es) ≡ labelled
      → Moves steps.Opens steps.Opens (event places.RegionOpen name) (at (body_at within at_module) c) (at (inside within at_module) (opened labelled c)) es
  open_moves name es within at_module c labelled h b = λ vs ls. record {
    event_is = refl;
    counts_is = sym (
        ap (λ t. record (or_anew (is_border (if t then steps.Ends else steps.Opens)) (counted_at g.wording (at (body_at within at_module) c) places.RegionOpen name (first_count (waits g es)) (place_next es))) { body = if t then body_at within at_module else inside within at_module }) h
        ∙ ap (λ t. record (if t then record (at (body_at within at_module) c) { labels = c.labels + 1 } else at (body_at within at_module) c) { body = inside within at_module }) b ∙ by_case labelled);
    value_is = ap (λ t. if t then steps.Ends else steps.Opens) h;
    label_is = refl;
    values_is = refl;
    labels_is = refl;
  }
    where
      by_case : (t : Bool) → record (if t then record (at (body_at within at_module) c) { labels = c.labels + 1 } else at (body_at within at_module) c) { body = inside within at_module } ≡ at (inside within at_module) (opened t c)
      by_case true = refl
      by_case false = refl

  pub close_moves : (name : ℕ) (es : List Event) (within : ℕ) (at_module : Bool) (c : Count) → (within + 1 == 0) ≡ false → within + 1 - 1 ≡ within
      → Moves steps.Closes steps.Closes (event places.RegionClose name) (at (inside within at_module) c) (at (body_at within at_module) c) es
  close_moves name es within at_module c h m = λ vs ls. record {
    event_is = refl;
    counts_is = sym (
        ap (λ t. record (or_anew (is_border (if t then steps.Ends else steps.Closes)) (at (inside within at_module) c)) { body = if t then record { within = 0; at_module = true } else record { within = within + 1 - 1; at_module = at_module } }) h
        ∙ ap (λ k. at (body_at k at_module) c) m);
    value_is = ap (λ t. if t then steps.Ends else steps.Closes) h;
    label_is = refl;
    values_is = refl;
    labels_is = refl;
  }

  -- the region of the module
  pub module_moves : (name : ℕ) (es : List Event) (at_module : Bool) (c : Count) → at_module ≡ true → Moves steps.Ends steps.Opens (event places.RegionOpen name) (at (body_at 0 at_module) c) (at (body_at 0 true) none_counted) es
  module_moves name es true c h = λ vs ls. record { event_is = refl; counts_is = refl; value_is = refl; label_is = refl; values_is = refl; labels_is = refl }
  module_moves name es false c h = absurd (true≢false (sym h))
