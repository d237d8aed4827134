-- What the words that count do, and where the next event stands behind them.
use Rattle.std.proofs.Common.{◌≡◌, ℕ, ◌+◌, ◌-◌, ◌==◌, Bool, true, false, List, refl, ap, ◌∙◌, arith}
use Rattle.std.specs.Prelude.{if◌then◌else◌}
use Rattle.std.proofs.lemmas.Bool.{eqb-true}
use Rattle.text_grammar.specs.declared.places.Place.{Place}
use Rattle.text_grammar.specs.declared.places.Place.TheVariants as places
use Rattle.text_types.specs.Items.{place_next}
use Rattle.text_scopes.specs.declared.bodies.Body.{Body}
use Rattle.text_scopes.specs.declared.bodies.Class.{Class}
use Rattle.text_scopes.specs.declared.steps.Step.TheVariants as steps
use Rattle.text_scopes.specs.Bodies.{is_module, opens_body}
use Rattle.event_trees.specs.declared.counts.Counts.{Counts}
use Rattle.event_trees.specs.Wording.{Wording}
use Rattle.event_trees.specs.Numbers.{begins_operation, first_count, is_border, or_anew}
use Rattle.read_states.specs.Numbering.{Count, none_counted, past_values}
use Rattle.read_states.specs.States.{State, waits}
use Rattle.read_states.proofs.Words.{count_of}
use Rattle.read_states.proofs.Parts.{T}

-- in a region of a function
abbrev pub inside : ℕ → Bool → Body
inside n m = record { within = n + 1; at_module = m }

-- in the body of a module, or of the file
abbrev pub outside_at : Bool → Body
outside_at m = record { within = 0; at_module = m }

pub not_zero : (n : ℕ) → (n + 1 == 0) ≡ false
not_zero n = by_test (n + 1 == 0) refl
  where
    by_test : (b : Bool) → (n + 1 == 0) ≡ b → (n + 1 == 0) ≡ false
    by_test true e = absurd (omega (arith, eqb-true (n + 1) 0 e))
    by_test false e = e

pub inside_closed : (n : ℕ) (m : Bool) → opens_body (inside n m) ≡ false
inside_closed n m = ap (λ b. if b then m else false) (not_zero n)

-- behind the first operation of a region without a label
abbrev pub past_open : Bool → Count → Count
past_open true c = record { values = c.values; labels = c.labels + 1 }
past_open false c = c

anew_count : (t : Bool) (c : Counts) → count_of (or_anew (is_border (if t then steps.Ends else steps.Stays)) c) ≡ (if t then none_counted else count_of c)
anew_count true c = refl
anew_count false c = refl

closes_count : (t : Bool) (c : Counts) → count_of (or_anew (is_border (if t then steps.Ends else steps.Closes)) c) ≡ (if t then none_counted else count_of c)
closes_count true c = refl
closes_count false c = refl

opens_count : (t : Bool) (c : Counts) → count_of (or_anew (is_border (if t then steps.Ends else steps.Opens)) c) ≡ (if t then none_counted else count_of c)
opens_count true c = refl
opens_count false c = refl

begun_count : (t : Bool) (c : Counts) → count_of (if t then record c { labels = c.labels + 1 } else c) ≡ past_open t (count_of c)
begun_count true c = refl
begun_count false c = refl

module _ (words : Wording) (class : ℕ → Class) (numbers : List ℕ) where
  abbrev pub Takes : Place → State → State → Type 0
  Takes p x y = T words class numbers p x y

  abbrev pub body_at : State → Body
  body_at x = x.counts.body

  abbrev pub count_at : State → Count
  count_at x = count_of x.counts

  pub op_count : {x y : State} → Takes places.OpName x y → count_at y ≡ past_values (count_at x) (first_count (waits y))
  op_count m = ap count_of m.counted_so

  pub arg_count : {x y : State} → Takes places.ArgName x y → count_at y ≡ past_values (count_at x) 1
  arg_count m = ap count_of m.counted_so

  pub label_count : {x y : State} → Takes places.BlockLabel x y → count_at y ≡ record { values = x.counts.values; labels = x.counts.labels + 1 }
  label_count m = ap count_of m.counted_so

  pub colon_count : {x y : State} → Takes places.SignatureColon x y → count_at y ≡ (if x.counts.body.within == 0 then none_counted else count_at x)
  colon_count {x} m = ap count_of m.counted_so ∙ anew_count (x.counts.body.within == 0) x.counts

  pub head_count : {x y : State} → Takes places.BlockColon x y → count_at y ≡ (if x.counts.body.within == 0 then none_counted else count_at x)
  head_count {x} m = ap count_of m.counted_so ∙ anew_count (x.counts.body.within == 0) x.counts

  pub close_count : {x y : State} → Takes places.RegionClose x y → count_at y ≡ (if x.counts.body.within == 0 then none_counted else count_at x)
  close_count {x} m = ap count_of m.counted_so ∙ closes_count (x.counts.body.within == 0) x.counts

  pub open_count : {x y : State} → Takes places.RegionOpen x y → count_at y ≡ (if opens_body x.counts.body then none_counted else past_open (begins_operation (place_next y.events)) (count_at x))
  open_count {x} {y} m =
      ap count_of m.counted_so ∙ opens_count (opens_body x.counts.body) (if begins_operation (place_next y.events) then record x.counts { labels = x.counts.labels + 1 } else x.counts)
      ∙ ap (λ c. if opens_body x.counts.body then none_counted else c) (begun_count (begins_operation (place_next y.events)) x.counts)

  -- Where the next event stands

  pub op_body : {x y : State} (m : Takes places.OpName x y) → body_at y ≡ (if x.counts.body.within == 0 then outside_at (is_module (class m.name)) else body_at x)
  op_body m = ap (λ (c : Counts). c.body) m.counted_so

  pub open_body : {x y : State} → Takes places.RegionOpen x y → body_at y ≡ (if opens_body x.counts.body then body_at x else inside x.counts.body.within x.counts.body.at_module)
  open_body m = ap (λ (c : Counts). c.body) m.counted_so

  pub close_body : {x y : State} → Takes places.RegionClose x y
      → body_at y ≡ (if x.counts.body.within == 0 then outside_at true else record { within = x.counts.body.within - 1; at_module = x.counts.body.at_module })
  close_body m = ap (λ (c : Counts). c.body) m.counted_so
