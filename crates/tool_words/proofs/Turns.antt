-- What each word does to the walk of `clap`.
use Rattle.std.proofs.Common.{◌≡◌, ◌∙◌, ℕ, List, [], ◌∷◌, Option, Some, None, Bool, true, false, refl, sym, ap, ap₂, subst}
use Rattle.std.specs.Prelude.{if◌then◌else◌, nat_lt}
use Rattle.std.specs.List.{after_first, list_any}
use Rattle.std.specs.Option.{option_map_or}
use Rattle.clap.specs.Kinds.{Kinds, or_else}
use Rattle.clap.specs.Faults.{bundle_fault, flag_word_fault, long_fault, settle_fault, step_fault, turn_fault, use_fault}
use Rattle.clap.specs.Walk.{Held, Row, Rule, Step, Text, Waiting, Walk, after_flag, after_step, arg_by_id, arg_by_long, idle, long_met, long_or_other, option, option_word, short_or_plain, trailing, walked}
use Rattle.clap.specs.declared.error.kind.ErrorKind.TheVariants as kind
use Rattle.tool_words.specs.Uses.{is_equals, is_flag, is_option}
use Rattle.tool_words.proofs.App.{flag_of, option_of, rules, top}
use Rattle.tool_words.proofs.Names.{id_option, long_flag, long_none, long_option, same_self}
use Rattle.tool_words.proofs.Judge.{Refused, first_refused, some_refused}
use Rattle.tool_words.proofs.States.{at, final, step_is, total, total_end, turn_refused}
use Rattle.tool_words.proofs.Forms.{IsPlain, long, name_of}

abbrev pub value_at : Text → Option Text
value_at text = if list_any is_equals text then Some (after_first is_equals text) else None

-- a long word, by its rule and its value
abbrev pub met : Held → Waiting → Text → Option Rule → Option Text → Held × Step
met h waits word o v = after_flag rules waits word (long_met rules o v h).0 (long_met rules o v h).1

abbrev pub turned : Held → Waiting → Text → Option Rule → Option Text → Kinds
turned h waits word o v = or_else (long_fault rules false o v h) (step_fault top 1 (met h waits word o v).0 (met h waits word o v).1)

abbrev pub left : Held → Waiting → Text → Option Rule → Option Text → Walk
left h waits word o v = after_step rules word (at h waits false) (met h waits word o v).0 (met h waits word o v).1

turn_idle : (h : Held) (x : ℕ) (xs : List ℕ)
    → turn_fault top [] (at h idle false) (long x xs) ≡ turned h idle (long x xs) (arg_by_long rules (name_of (x ∷ xs))) (value_at (x ∷ xs))
turn_idle h x xs = refl

turn_waits : (h : Held) (id : Text) (x : ℕ) (xs : List ℕ)
    → turn_fault top [] (at h (option id) false) (long x xs) ≡ turned h (option id) (long x xs) (arg_by_long rules (name_of (x ∷ xs))) (value_at (x ∷ xs))
turn_waits h id x xs = refl

walk_idle : (h : Held) (x : ℕ) (xs : List ℕ)
    → walked rules [] (at h idle false) (long x xs) ≡ left h idle (long x xs) (arg_by_long rules (name_of (x ∷ xs))) (value_at (x ∷ xs))
unfolding walked
walk_idle h x xs = refl

pub turn_by : (h : Held) (x : ℕ) (xs : List ℕ) (o : Option Rule) (v : Option Text) → arg_by_long rules (name_of (x ∷ xs)) ≡ o → value_at (x ∷ xs) ≡ v
    → turn_fault top [] (at h idle false) (long x xs) ≡ turned h idle (long x xs) o v
turn_by h x xs o v eo ev = turn_idle h x xs ∙ ap₂ (turned h idle (long x xs)) eo ev

pub walk_by : (h : Held) (x : ℕ) (xs : List ℕ) (o : Option Rule) (v : Option Text) → arg_by_long rules (name_of (x ∷ xs)) ≡ o → value_at (x ∷ xs) ≡ v
    → walked rules [] (at h idle false) (long x xs) ≡ left h idle (long x xs) o v
walk_by h x xs o v eo ev = walk_idle h x xs ∙ ap₂ (left h idle (long x xs)) eo ev

-- what is refused at once

pub unknown : (h : Held) (waits : Waiting) (word : Text) (v : Option Text) → Refused (turned h waits word None v)
unknown h waits word v = some_refused kind.UnknownArgument []

pub flag_with_value : (h : Held) (waits : Waiting) (word v : Text) → Refused (turned h waits word (Some flag_of) (Some v))
flag_with_value h waits word v = some_refused kind.TooManyValues []

-- an option that still waits for its value

abbrev pub waiting : List Row → Text → Held
waiting rs name = record { rows = rs; pending = Some (name, []); skip = 0 }

unfilled : (rs : List Row) (name : Text) → is_option name ≡ true → Refused (settle_fault rules false (waiting rs name))
unfilled rs name o =
    subst Refused (sym (ap (λ (r : Option Rule). option_map_or (λ a. use_fault false a [] rs) r []) (id_option name o))) (some_refused kind.InvalidValue [])

waits_in_vain : (h : Held) (waits : Waiting) (word name : Text) (v : Option Text) → Refused (settle_fault rules false h) → Refused (turned h waits word (arg_by_long rules name) v)
waits_in_vain h waits word name v bad = by_name (is_option name) (is_flag name) refl refl
  where
    flagged : (o : Option Text) → Refused (turned h waits word (Some flag_of) o)
    flagged (Some w) = flag_with_value h waits word w
    flagged None = first_refused _ _ (first_refused (settle_fault rules false h) _ bad)

    optional : (o : Option Text) → Refused (turned h waits word (Some (option_of name)) o)
    optional (Some w) = first_refused _ _ (first_refused (settle_fault rules false h) _ bad)
    optional None = first_refused (settle_fault rules false h) _ bad

    by_name : (a b : Bool) → is_option name ≡ a → is_flag name ≡ b → Refused (turned h waits word (arg_by_long rules name) v)
    by_name true b ea eb = subst (λ (o : Option Rule). Refused (turned h waits word o v)) (sym (long_option name ea)) (optional v)
    by_name false true ea eb = subst (λ (o : Option Rule). Refused (turned h waits word o v)) (sym (long_flag name eb)) (flagged v)
    by_name false false ea eb = subst (λ (o : Option Rule). Refused (turned h waits word o v)) (sym (long_none name ea eb)) (unknown h waits word v)

end_refused : (w : Walk) → Refused (settle_fault rules false w.held) → Refused (total w [])
end_refused w bad = subst Refused (sym (total_end w)) (first_refused (settle_fault rules false w.held) _ bad)

-- behind '--' nothing may stand
pub nothing_trails : (h : Held) (waits : Waiting) (word : Text) (ws : List Text) → Refused (total (at h waits true) (word ∷ ws))
nothing_trails h waits word ws = turn_refused (at h waits true) word ws (some_refused kind.UnknownArgument [])

trails_in_vain : (h : Held) (waits : Waiting) (ws : List Text) → Refused (settle_fault rules false h) → Refused (total (at h waits true) ws)
trails_in_vain h waits [] bad = end_refused (at h waits true) bad
trails_in_vain h waits (word ∷ ws) bad = nothing_trails h waits word ws

end_waits : (h : Held) (id : Text) (ws : List Text) → total (at h (option id) false) ((45 ∷ 45 ∷ []) ∷ ws) ≡ total (at h (option id) true) ws
unfolding walked
end_waits h id ws = step_is (at h (option id) false) (at h (option id) true) (45 ∷ 45 ∷ []) ws [] refl refl

pub end_idle : (h : Held) (ws : List Text) → total (at h idle false) ((45 ∷ 45 ∷ []) ∷ ws) ≡ total (at h idle true) ws
unfolding walked
end_idle h ws = step_is (at h idle false) (at h idle true) (45 ∷ 45 ∷ []) ws [] refl refl

pub end_final : (h : Held) → final (at h idle false) ((45 ∷ 45 ∷ []) ∷ []) ≡ final (at h idle true) []
unfolding walked
end_final h = refl

-- no word, or one that begins with two hyphens, is no value
pub no_value_at_end : (rs : List Row) (name : Text) → is_option name ≡ true → Refused (total (at (waiting rs name) (option name) false) [])
no_value_at_end rs name o = end_refused (at (waiting rs name) (option name) false) (unfilled rs name o)

pub no_value : (rs : List Row) (name : Text) → is_option name ≡ true → (text : List ℕ) (ws : List Text)
    → Refused (total (at (waiting rs name) (option name) false) ((45 ∷ 45 ∷ text) ∷ ws))
no_value rs name o [] ws = subst Refused (sym (end_waits (waiting rs name) name ws)) (trails_in_vain (waiting rs name) (option name) ws (unfilled rs name o))
no_value rs name o (x ∷ xs) ws =
    turn_refused (at (waiting rs name) (option name) false) (long x xs) ws
    (subst Refused (sym (turn_waits (waiting rs name) name x xs)) (waits_in_vain (waiting rs name) (option name) (long x xs) (name_of (x ∷ xs)) (value_at (x ∷ xs)) (unfilled rs name o)))

-- a word that is plain

abbrev plain_met : Held → Waiting → Text → Bool → Option (Text × Option Text) → Held × Step
plain_met h waits word b lo = if b then (h, trailing 1) else long_or_other rules waits word lo h

abbrev plain_turned : Held → Waiting → Text → Bool → Option (Text × Option Text) → Kinds
plain_turned h waits word b lo =
    or_else (if b then [] else flag_word_fault rules false lo word h) (step_fault top 1 (plain_met h waits word b lo).0 (plain_met h waits word b lo).1)

abbrev no_long : Held → Waiting → Text → Option Text → Kinds
no_long h waits word so =
    or_else (option_map_or (λ flags. bundle_fault rules false flags h) so []) (step_fault top 1 (short_or_plain rules waits word so h).0 (short_or_plain rules waits word so h).1)

stray_turn : (h : Held) (word : Text) → IsPlain word → turn_fault top [] (at h idle false) word ≡ kind.UnknownArgument ∷ []
stray_turn h word p = ap₂ (plain_turned h idle word) p.end p.long ∙ ap (no_long h idle word) p.short

pub stray : (h : Held) (word : Text) (ws : List Text) → IsPlain word → Refused (total (at h idle false) (word ∷ ws))
stray h word ws p = turn_refused (at h idle false) word ws (subst Refused (sym (stray_turn h word p)) (some_refused kind.UnknownArgument []))

pub value_turn : (h : Held) (name word : Text) → IsPlain word → turn_fault top [] (at h (option name) false) word ≡ []
value_turn h name word p = ap₂ (plain_turned h (option name) word) p.end p.long ∙ ap (no_long h (option name) word) p.short

plain_walk : (h : Held) (name word : Text) → IsPlain word
    → walked rules [] (at h (option name) false) word
    ≡ at (option_word (arg_by_id rules name) name word h).0 (option_word (arg_by_id rules name) name word h).1 false
unfolding walked
plain_walk h name word p =
    ap₂ (λ b lo. after_step rules word (at h (option name) false) (plain_met h (option name) word b lo).0 (plain_met h (option name) word b lo).1) p.end p.long
    ∙ ap (λ so. after_step rules word (at h (option name) false) (short_or_plain rules (option name) word so h).0 (short_or_plain rules (option name) word so h).1) p.short

pub value_walk : (rs : List Row) (name word : Text) → is_option name ≡ true → IsPlain word
    → walked rules [] (at (waiting rs name) (option name) false) word ≡ at (record { rows = rs; pending = Some (name, word ∷ []); skip = 0 }) idle false
value_walk rs name word o p =
    plain_walk (waiting rs name) name word p
    ∙ ap (λ (r : Option Rule). at (option_word r name word (waiting rs name)).0 (option_word r name word (waiting rs name)).1 false) (id_option name o)
    ∙ ap (λ (b : Bool). at (record { rows = rs; pending = Some (name, word ∷ []); skip = 0 }) (if nat_lt (if b then 1 else 0) 1 then option name else idle) false) (same_self name)
