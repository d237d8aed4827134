-- The walk of `clap` over the words: where it stands behind some uses, and what it comes to.
use Rattle.std.proofs.Common.{◌≡◌, ◌∙◌, List, [], ◌∷◌, ◌++◌, Option, Some, None, Bool, true, false, refl, sym, ap, ap₂, subst}
use Rattle.std.specs.List.{fold}
use Rattle.std.specs.Option.{option_map_or}
use Rattle.std.proofs.lemmas.List.{append-nil}
use Rattle.clap.specs.Kinds.{Kinds, or_else}
use Rattle.clap.specs.Faults.{check_fault, defaults_fault, react_fault, settle_fault, turn_fault, use_fault, walk_fault}
use Rattle.clap.specs.Walk.{Held, Row, Rule, Text, Waiting, Walk, finished, has_row, idle, reacted, settled, used, used_by_id, walked, with_default}
use Rattle.tool_words.specs.Uses.{Use, before, flag, has, is_option}
use Rattle.tool_words.proofs.App.{flag_of, option_of, rules, top}
use Rattle.tool_words.proofs.Names.{id_option}
use Rattle.tool_words.proofs.Rows.{end_rows, finish, has_rows, quiet, rows, used_option}
use Rattle.tool_words.proofs.Judge.{Judge, Refused, first_refused, front, joined, kinds_if, none_if, one_before, or_assoc, pending_before, same_judge, settle_kinds}

abbrev pub pend : Option Use → Option (Text × List Text)
pend None = None
pend (Some u) = Some (u.name, u.value ∷ [])

abbrev pub held : List Use → Option Use → Held
held us p = record { rows = rows us; pending = pend p; skip = 0 }

abbrev pub at : Held → Waiting → Bool → Walk
at h waits trails = record { held = h; waiting = waits; position = 1; is_trailing = trails; stopped = None }

-- what is pending is a use of an option
abbrev pub IsPending : Option Use → Type 0
IsPending None = Unit {0}
IsPending (Some u) = is_option u.name ≡ true

abbrev pub end_fault : Held → Kinds
end_fault h = or_else (settle_fault rules false h) (or_else (defaults_fault (settled rules h).rows rules) (check_fault top (finished rules h) false))

abbrev pub total : Walk → List Text → Kinds
total w ws = or_else (walk_fault top [] w ws) (end_fault (fold (walked rules []) w ws).held)

abbrev pub final : Walk → List Text → List Row
final w ws = finished rules (fold (walked rules []) w ws).held

pub total_end : (w : Walk) → total w [] ≡ end_fault w.held
unfolding walk_fault
total_end w = refl

pub total_step : (w : Walk) (word : Text) (ws : List Text) → total w (word ∷ ws) ≡ or_else (turn_fault top [] w word) (total (walked rules [] w word) ws)
unfolding walk_fault
total_step w word ws = or_assoc (turn_fault top [] w word) (walk_fault top [] (walked rules [] w word) ws) (end_fault (fold (walked rules []) (walked rules [] w word) ws).held)

-- a turn that is known
pub step_is : (w v : Walk) (word : Text) (ws : List Text) (k : Kinds) → turn_fault top [] w word ≡ k → walked rules [] w word ≡ v → total w (word ∷ ws) ≡ or_else k (total v ws)
step_is w v word ws k turn walk = total_step w word ws ∙ ap₂ (λ j x. or_else j (total x ws)) turn walk

pub final_is : (w v : Walk) (word : Text) (ws : List Text) → walked rules [] w word ≡ v → final w (word ∷ ws) ≡ final v ws
final_is w v word ws walk = ap (λ x. final x ws) walk

pub turn_refused : (w : Walk) (word : Text) (ws : List Text) → Refused (turn_fault top [] w word) → Refused (total w (word ∷ ws))
turn_refused w word ws bad = subst Refused (sym (total_step w word ws)) (first_refused _ (total (walked rules [] w word) ws) bad)

-- one use

pub conflict : (b : Bool) → or_else (kinds_if b) [] ≡ kinds_if b
conflict true = refl
conflict false = refl

pub use_option : (name value : Text) (rs : List Row) → use_fault false (option_of name) (value ∷ []) rs ≡ kinds_if (has_row name rs)
use_option name value rs = go (has_row name rs) refl
  where
    go : (b : Bool) → has_row name rs ≡ b → use_fault false (option_of name) (value ∷ []) rs ≡ kinds_if (has_row name rs)
    go true e = rw e refl
    go false e = rw e refl

pub use_flag : (rs : List Row) → use_fault false flag_of [] rs ≡ kinds_if (has_row flag rs)
use_flag rs = go (has_row flag rs) refl
  where
    go : (b : Bool) → has_row flag rs ≡ b → use_fault false flag_of [] rs ≡ kinds_if (has_row flag rs)
    go true e = rw e refl
    go false e = rw e refl

-- what is pending is settled

pub settle_is : (us : List Use) (p : Option Use) → IsPending p → settle_fault rules false (held us p) ≡ settle_kinds us p
settle_is us None option = refl
settle_is us (Some u) option =
    ap (λ (o : Option Rule). option_map_or (λ a. use_fault false a (u.value ∷ []) (rows us)) o []) (id_option u.name option)
    ∙ use_option u.name u.value (rows us) ∙ ap kinds_if (has_rows u.name us)

pub settled_is : (us : List Use) (p : Option Use) → IsPending p → settle_kinds us p ≡ [] → settled rules (held us p) ≡ held (joined us p) None
settled_is us None option e = refl
settled_is us (Some u) option e =
    ap (λ (rs : List Row). record { rows = rs; pending = None; skip = 0 })
    (ap (λ (o : Option Rule). used_by_id o (u.value ∷ []) (rows us)) (id_option u.name option) ∙ used_option u.name u.value option us (none_if (has u.name us) e))

-- the end of the words

ended : (us : List Use) (p : Option Use) → IsPending p → (h : Held) → h ≡ held us p → Judge us (front p (Some [])) (end_fault h) (finished rules h)
ended us p option h is =
    subst (λ (x : Held). Judge us (front p (Some [])) (end_fault x) (finished rules x)) (sym is)
    (subst (λ (k : Kinds). Judge us (front p (Some [])) (or_else k (later (held us p))) (finished rules (held us p))) (sym (settle_is us p option))
    (pending_before us p (Some []) [] (later (held us p)) (finish (joined us p)) (finished rules (held us p)) same
    (refl, ap finish (sym (append-nil (joined us p))))))
  where
    later : Held → Kinds
    later x = or_else (defaults_fault (settled rules x).rows rules) (check_fault top (finished rules x) false)

    same : settle_kinds us p ≡ [] → (later (held us p) ≡ []) × (finished rules (held us p) ≡ finish (joined us p))
    same e = (
      ap (λ (k : Kinds). or_else k []) (quiet (settled rules (held us p)).rows),
      ap (λ (x : Held). fold with_default x.rows rules) (settled_is us p option e) ∙ end_rows (joined us p),
    )

pub at_end : (us : List Use) (p : Option Use) → IsPending p → (waits : Waiting) (trails : Bool)
    → Judge us (front p (Some [])) (total (at (held us p) waits trails) []) (final (at (held us p) waits trails) [])
at_end us p option waits trails =
    subst (λ (k : Kinds). Judge us (front p (Some [])) k (final (at (held us p) waits trails) [])) (sym (total_end (at (held us p) waits trails)))
    (ended us p option (held us p) refl)

-- a use that is made at once

pub used_step : (us : List Use) (p : Option Use) (u : Use) (a : Rule) (values : List Text) (word : Text) (ws : List Text) (x : Option (List Use)) → IsPending p
    → ((rs : List Row) → use_fault false a values rs ≡ kinds_if (has_row u.name rs))
    → ((vs : List Use) → has u.name vs ≡ false → used a values (rows vs) ≡ rows (vs ++ u ∷ []))
    → turn_fault top [] (at (held us p) idle false) word ≡ react_fault rules false a values (held us p)
    → walked rules [] (at (held us p) idle false) word ≡ at (reacted rules a values (held us p)) idle false
    → Judge (joined us p ++ u ∷ []) x (total (at (held (joined us p ++ u ∷ []) None) idle false) ws) (final (at (held (joined us p ++ u ∷ []) None) idle false) ws)
    → Judge us (front p (before (Some u) x)) (total (at (held us p) idle false) (word ∷ ws)) (final (at (held us p) idle false) (word ∷ ws))
used_step us p u a values word ws x option faults adds turn walk behind =
    same_judge us (front p (before (Some u) x)) (or_else (settle_kinds us p) later) _ (final next ws) _ is_total (final_is _ next word ws walk)
    (pending_before us p (before (Some u) x) (or_else (kinds_if (has u.name vs)) (total after ws)) later (final after ws) (final next ws) settles
    (one_before vs u x (total (at (held (vs ++ u ∷ []) None) idle false) ws) (total after ws) (final (at (held (vs ++ u ∷ []) None) idle false) ws) (final after ws) puts behind))
  where
    vs : List Use
    vs = joined us p

    next : Walk
    next = at (reacted rules a values (held us p)) idle false

    after : Walk
    after = at (record { rows = used a values (rows vs); pending = None; skip = 0 }) idle false

    later : Kinds
    later = or_else (use_fault false a values (settled rules (held us p)).rows) (total next ws)

    is_total : total (at (held us p) idle false) (word ∷ ws) ≡ or_else (settle_kinds us p) later
    is_total =
        step_is _ next word ws (react_fault rules false a values (held us p)) turn walk
        ∙ or_assoc (settle_fault rules false (held us p)) (use_fault false a values (settled rules (held us p)).rows) (total next ws)
        ∙ ap (λ (k : Kinds). or_else k later) (settle_is us p option)

    settles : settle_kinds us p ≡ [] → (later ≡ or_else (kinds_if (has u.name vs)) (total after ws)) × (final next ws ≡ final after ws)
    settles e =
        let h = settled_is us p option e in (
          ap (λ (x : Held). or_else (use_fault false a values x.rows) (total (at (record { rows = used a values x.rows; pending = None; skip = 0 }) idle false) ws)) h
              ∙ ap (λ (k : Kinds). or_else k (total after ws)) (faults (rows vs) ∙ ap kinds_if (has_rows u.name vs)),
          ap (λ (x : Held). final (at (record { rows = used a values x.rows; pending = None; skip = 0 }) idle false) ws) h,
        )

    puts : has u.name vs ≡ false → (total after ws ≡ total (at (held (vs ++ u ∷ []) None) idle false) ws) × (final after ws ≡ final (at (held (vs ++ u ∷ []) None) idle false) ws)
    puts e = (
      ap (λ (rs : List Row). total (at (record { rows = rs; pending = None; skip = 0 }) idle false) ws) (adds vs e),
      ap (λ (rs : List Row). final (at (record { rows = rs; pending = None; skip = 0 }) idle false) ws) (adds vs e),
    )
