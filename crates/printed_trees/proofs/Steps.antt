-- What one word does to the levels behind it.
use Rattle.std.proofs.Common.{◌≡◌, ℕ, ◌+◌, ◌-◌, Bool, true, false, List, [], ◌∷◌, Option, refl, true≢false, ap, ◌∙◌}
use Rattle.std.specs.Prelude.{◌==◌, if◌then◌else◌}
use Rattle.text_grammar.specs.declared.places.Place.{Place}
use Rattle.text_grammar.specs.declared.places.Place.TheVariants as places
use Rattle.term_table.specs.Terms.{Term, nothing}
use Rattle.text_events.specs.declared.event.Event.{Event}
use Rattle.text_types.specs.Spelling.{Spelling}
use Rattle.text_types.specs.Items.{Aliases, begins, place_next}
use Rattle.text_scopes.specs.declared.bodies.Body.{Body}
use Rattle.text_scopes.specs.declared.bodies.Class.{Class}
use Rattle.text_scopes.specs.declared.steps.Step.TheVariants as steps
use Rattle.text_scopes.specs.Bodies.{behind, opens_body}
use Rattle.event_trees.specs.declared.counts.Counts.{Counts}
use Rattle.event_trees.specs.Wording.{Wording}
use Rattle.event_trees.specs.Numbers.{Left, begins_operation, counted_at, first_count, index_at, is_border, number_at, or_anew}
use Rattle.event_trees.specs.Roles.{Role}
use Rattle.event_trees.specs.Levels.{Levels, closed_over, empty, levels_of, on_first, on_parts, with_arg, with_block, with_op, with_part, with_word}
use Rattle.event_trees.specs.Written.{tells}
use Rattle.printed_trees.specs.Numbering.{Count, none_counted, past_values}
use Rattle.printed_trees.specs.Roles.{at, role_at, roles_from, waits}
use Rattle.printed_trees.proofs.Fronts.{Passed, here, past, is_loud}

-- a word that tells nothing
quiet : (words : Wording) (r : Role) (ls : Levels) → tells r.place ≡ false → with_word words r ls ≡ ls
quiet words r ls e = by_place r.place r.name r.number r.term ls e
  where
    by_place : (place : Place) (name number : ℕ) (term : Term) (ls : Levels) → tells place ≡ false
        → with_word words (record { place = place; name = name; number = number; term = term }) ls ≡ ls
    by_place places.OpName name number term ls e = absurd (true≢false e)
    by_place places.UseName name number term ls e = absurd (true≢false e)
    by_place places.SuccessorName name number term ls e = absurd (true≢false e)
    by_place places.PropsOpen name number term ls e = absurd (true≢false e)
    by_place places.DictOpen name number term ls e = absurd (true≢false e)
    by_place places.SignatureOpen name number term ls e = absurd (true≢false e)
    by_place places.ArgName name number term ls e = absurd (true≢false e)
    by_place places.BlockLabel name number term ls e = absurd (true≢false e)
    by_place places.RegionOpen name number term ls e = absurd (true≢false e)
    by_place places.RegionClose name number term ls e = absurd (true≢false e)
    by_place _ name number term [] e = refl
    by_place _ name number term (l ∷ ls) e = refl

quiet_tells : (place : Place) → is_loud place ≡ false → tells place ≡ false
quiet_tells places.OpName h = absurd (true≢false h)
quiet_tells places.UseName h = absurd (true≢false h)
quiet_tells places.SuccessorName h = absurd (true≢false h)
quiet_tells places.PropsOpen h = absurd (true≢false h)
quiet_tells places.DictOpen h = absurd (true≢false h)
quiet_tells places.SignatureOpen h = absurd (true≢false h)
quiet_tells places.ArgName h = absurd (true≢false h)
quiet_tells places.BlockLabel h = absurd (true≢false h)
quiet_tells places.RegionOpen h = absurd (true≢false h)
quiet_tells places.RegionClose h = absurd (true≢false h)
quiet_tells _ h = refl

-- definitions that are left
abbrev pub left : List (Option ℕ) → List (Option ℕ) → Left
left values labels = record { values = values; labels = labels }

-- operands before those behind
abbrev pub with_operand : ℕ → Levels → Levels
with_operand n ls = on_first (on_parts (with_part places.UseName n nothing)) ls

abbrev pub with_successor : ℕ → Levels → Levels
with_successor n ls = on_first (on_parts (with_part places.SuccessorName n nothing)) ls

-- a body in which a region is open, but for the module's
abbrev pub inside : ℕ → Bool → Body
inside within at_module = record { within = within + 1; at_module = at_module }

-- behind the first operation of a region without a label
abbrev pub opened : Bool → Count → Count
opened true n = record { values = n.values; labels = n.labels + 1 }
opened false n = n

-- before the function type of an operation of the body counting begins anew
abbrev pub typed : Bool → Count → Count
typed true n = none_counted
typed false n = n

-- what is counted where a region opens
abbrev shut : ℕ → Bool → Count → Counts
shut within at_module n = at (record { within = within; at_module = at_module }) n

module _ (words : Spelling) (wording : Wording) (aliases : Aliases) (class : ℕ → Class) (numbers : List ℕ) where
  -- the levels of what is behind
  abbrev pub read : Counts → Left → List Event → Levels
  read c l es = levels_of wording (roles_from words wording aliases class numbers c l es)

  abbrev pub event : Place → ℕ → Event
  event place name = record { place = place; name = name }

  skip_one : (place : Place) (name : ℕ) (es : List Event) (c : Counts) (l : Left) → is_loud place ≡ false → read c l (event place name ∷ es) ≡ read c l es
  skip_one places.OpName name es c l h = absurd (true≢false h)
  skip_one places.ResultName name es c l h = absurd (true≢false h)
  skip_one places.ResultNumber name es c l h = absurd (true≢false h)
  skip_one places.UseName name es c l h = absurd (true≢false h)
  skip_one places.SuccessorName name es c l h = absurd (true≢false h)
  skip_one places.PropsOpen name es c l h = absurd (true≢false h)
  skip_one places.DictOpen name es c l h = absurd (true≢false h)
  skip_one places.SignatureOpen name es c l h = absurd (true≢false h)
  skip_one places.SignatureColon name es c l h = absurd (true≢false h)
  skip_one places.ArgName name es c l h = absurd (true≢false h)
  skip_one places.BlockLabel name es c l h = absurd (true≢false h)
  skip_one places.BlockColon name es c l h = absurd (true≢false h)
  skip_one places.RegionOpen name es c l h = absurd (true≢false h)
  skip_one places.RegionClose name es c l h = absurd (true≢false h)
  skip_one place name es c l h = quiet wording (role_at words wording aliases class numbers c l (event place name) es) (read c l es) (quiet_tells place h)

  pub skip : {es behind : List Event} (c : Counts) (l : Left) → Passed es behind → read c l es ≡ read c l behind
  skip c l (here es) = refl
  skip c l (past e {es} q more) = skip_one e.place e.name es c l q ∙ skip c l more

  abbrev pub waiting_for : List Event → List ℕ
  waiting_for es = waits words wording aliases class numbers es

  waits_one : (place : Place) (name : ℕ) (es : List Event) → is_loud place ≡ false → waiting_for (event place name ∷ es) ≡ waiting_for es
  waits_one places.OpName name es h = absurd (true≢false h)
  waits_one places.SignatureOpen name es h = absurd (true≢false h)
  waits_one place name es h = refl

  pub skip_waits : {es behind : List Event} → Passed es behind → waiting_for es ≡ waiting_for behind
  skip_waits (here es) = refl
  skip_waits (past e {es} q more) = waits_one e.place e.name es q ∙ skip_waits more

  -- results before a name
  pub result_name : (name : ℕ) (es : List Event) (c : Counts) (l : Left) → read c l (event places.ResultName name ∷ es) ≡ read (record c { named = c.named + 1 }) l es
  result_name name es c l = quiet wording (role_at words wording aliases class numbers c l (event places.ResultName name) es) (read (record c { named = c.named + 1 }) l es) refl

  pub result_number : (name : ℕ) (es : List Event) (c : Counts) (l : Left) → read c l (event places.ResultNumber name ∷ es) ≡ read (record c { named = c.named + wording.number name - 1 }) l es
  result_number name es c l = quiet wording (role_at words wording aliases class numbers c l (event places.ResultNumber name) es) (read (record c { named = c.named + wording.number name - 1 }) l es) refl

  -- the name of an operation
  pub op_name : (name : ℕ) (es : List Event) (body : Body) (named : ℕ) (n : Count) (l : Left)
      → read (record { body = body; values = n.values; named = named; labels = n.labels }) l (event places.OpName name ∷ es)
      ≡ on_first (with_op wording name n.values) (read (at (behind class body (event places.OpName name)) (past_values n (first_count (waiting_for es)))) l es)
  op_name name es body named n l = refl

  -- uses
  pub use_name : (name : ℕ) (es : List Event) (c : Counts) (d : Option ℕ) (ds labels : List (Option ℕ)) (v : ℕ) → number_at numbers d + index_at wording es ≡ v
      → read c (left (d ∷ ds) labels) (event places.UseName name ∷ es) ≡ with_operand v (read c (left ds labels) es)
  use_name name es c d ds labels v e = ap (λ m. with_operand m (read c (left ds labels) es)) e

  pub successor_name : (name : ℕ) (es : List Event) (c : Counts) (d : Option ℕ) (values ds : List (Option ℕ)) (v : ℕ) → number_at numbers d ≡ v
      → read c (left values (d ∷ ds)) (event places.SuccessorName name ∷ es) ≡ with_successor v (read c (left values ds) es)
  successor_name name es c d values ds v e = ap (λ m. with_successor m (read c (left values ds) es)) e

  -- dictionaries and the function type
  pub props_open : (name : ℕ) (es : List Event) (c : Counts) (l : Left) (t : Term) → begins words aliases (event places.PropsOpen name ∷ es) ≡ t
      → read c l (event places.PropsOpen name ∷ es) ≡ on_first (on_parts (with_part places.PropsOpen 0 t)) (read c l es)
  props_open name es c l t e = ap (λ x. on_first (on_parts (with_part places.PropsOpen 0 x)) (read c l es)) e

  pub dict_open : (name : ℕ) (es : List Event) (c : Counts) (l : Left) (t : Term) → begins words aliases (event places.DictOpen name ∷ es) ≡ t
      → read c l (event places.DictOpen name ∷ es) ≡ on_first (on_parts (with_part places.DictOpen 0 t)) (read c l es)
  dict_open name es c l t e = ap (λ x. on_first (on_parts (with_part places.DictOpen 0 x)) (read c l es)) e

  pub signature_open : (name : ℕ) (es : List Event) (c : Counts) (l : Left) (t : Term) → begins words aliases (event places.SignatureOpen name ∷ es) ≡ t
      → read c l (event places.SignatureOpen name ∷ es) ≡ on_first (on_parts (with_part places.SignatureOpen 0 t)) (read c l es)
  signature_open name es c l t e = ap (λ x. on_first (on_parts (with_part places.SignatureOpen 0 x)) (read c l es)) e

  pub signature_colon : (name : ℕ) (es : List Event) (body : Body) (n : Count) (l : Left) (outside : Bool) → (body.within == 0) ≡ outside
      → read (at body n) l (event places.SignatureColon name ∷ es) ≡ read (at body (typed outside n)) l es
  signature_colon name es body n l outside e =
      quiet wording (role_at words wording aliases class numbers (at body n) l (event places.SignatureColon name) es) _ refl
      ∙ ap (λ t. read (record (or_anew (is_border (if t then steps.Ends else steps.Stays)) (at body n)) { body = body }) l es) e ∙ by_case outside
    where
      by_case : (t : Bool) → read (record (or_anew (is_border (if t then steps.Ends else steps.Stays)) (at body n)) { body = body }) l es ≡ read (at body (typed t n)) l es
      by_case true = refl
      by_case false = refl

  pub block_colon : (name : ℕ) (es : List Event) (within : ℕ) (at_module : Bool) (n : Count) (l : Left) → (within + 1 == 0) ≡ false
      → read (at (inside within at_module) n) l (event places.BlockColon name ∷ es) ≡ read (at (inside within at_module) n) l es
  block_colon name es within at_module n l e =
      quiet wording (role_at words wording aliases class numbers (at (inside within at_module) n) l (event places.BlockColon name) es) _ refl
      ∙ ap (λ t. read (record (or_anew (is_border (if t then steps.Ends else steps.Stays)) (at (inside within at_module) n)) { body = inside within at_module }) l es) e

  -- in the body it begins anew behind a label
  pub body_colon : (name : ℕ) (es : List Event) (at_module : Bool) (n : Count) (l : Left) → read (at (record { within = 0; at_module = at_module }) n) l (event places.BlockColon name ∷ es) ≡ read (at (record { within = 0; at_module = at_module }) none_counted) l es
  body_colon name es at_module n l =
      quiet wording (role_at words wording aliases class numbers (at (record { within = 0; at_module = at_module }) n) l (event places.BlockColon name) es) (read (at (record { within = 0; at_module = at_module }) none_counted) l es) refl

  -- blocks and their arguments
  pub arg_name : (name : ℕ) (es : List Event) (body : Body) (n : Count) (l : Left) (t : Term) → begins words aliases (event places.ArgName name ∷ es) ≡ t
      → read (at body n) l (event places.ArgName name ∷ es) ≡ on_first (with_arg n.values t) (read (at body (past_values n 1)) l es)
  arg_name name es body n l t e = ap (λ x. on_first (with_arg n.values x) (read (at body (past_values n 1)) l es)) e

  pub block_label : (name : ℕ) (es : List Event) (body : Body) (n : Count) (l : Left)
      → read (at body n) l (event places.BlockLabel name ∷ es) ≡ on_first (with_block n.labels) (read (at body (record { values = n.values; labels = n.labels + 1 })) l es)
  block_label name es body n l = refl

  -- regions
  pub region_open : (name : ℕ) (es : List Event) (within : ℕ) (at_module : Bool) (n : Count) (l : Left) (labelled : Bool) → opens_body (record { within = within; at_module = at_module }) ≡ false → begins_operation (place_next es) ≡ labelled
      → read (at (record { within = within; at_module = at_module }) n) l (event places.RegionOpen name ∷ es) ≡ closed_over n.labels (read (at (inside within at_module) (opened labelled n)) l es)
  region_open name es within at_module n l labelled e b =
      ap (λ t. closed_over n.labels (read (record (or_anew (is_border (if t then steps.Ends else steps.Opens)) (counted_at wording (shut within at_module n) places.RegionOpen name (first_count (waiting_for es)) (place_next es))) { body = if t then record { within = within; at_module = at_module } else inside within at_module }) l es)) e
      ∙ ap (λ t. closed_over n.labels (read (record (if t then record (shut within at_module n) { labels = n.labels + 1 } else shut within at_module n) { body = inside within at_module }) l es)) b ∙ by_case labelled
    where
      by_case : (t : Bool) → closed_over n.labels (read (record (if t then record (shut within at_module n) { labels = n.labels + 1 } else shut within at_module n) { body = inside within at_module }) l es) ≡ closed_over n.labels (read (at (inside within at_module) (opened t n)) l es)
      by_case true = refl
      by_case false = refl

  pub region_close : (name : ℕ) (es : List Event) (within : ℕ) (at_module : Bool) (n : Count) (l : Left) → (within + 1 == 0) ≡ false → within + 1 - 1 ≡ within
      → read (at (inside within at_module) n) l (event places.RegionClose name ∷ es) ≡ empty ∷ read (at (record { within = within; at_module = at_module }) n) l es
  region_close name es within at_module n l e m =
      ap (λ t. empty ∷ read (record (or_anew (is_border (if t then steps.Ends else steps.Closes)) (at (inside within at_module) n)) { body = if t then record { within = 0; at_module = true } else record { within = within + 1 - 1; at_module = at_module } }) l es) e
      ∙ ap (λ k. empty ∷ read (at (record { within = k; at_module = at_module }) n) l es) m
