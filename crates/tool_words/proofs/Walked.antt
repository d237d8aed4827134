-- The walk of `clap` over the words comes to the uses that the words are.
use Rattle.std.proofs.Common.{◌≡◌, ◌∙◌, ℕ, List, [], ◌∷◌, ◌++◌, Option, Some, None, Bool, true, false, refl, sym, ap, ap₂, subst}
use Rattle.std.specs.Prelude.{◌&&◌, not, if◌then◌else◌, option_and_then}
use Rattle.std.specs.List.{after_first, list_any}
use Rattle.clap.specs.Kinds.{or_else}
use Rattle.clap.specs.Faults.{settle_fault, turn_fault}
use Rattle.clap.specs.Walk.{Held, Text, Walk, arg_by_long, idle, option, settled, walked}
use Rattle.tool_words.specs.Uses.{Use, before, begins_with_hyphen, behind_hyphens, flag, is_equals, is_flag, is_option, one_word, used_by, uses_of, with_next}
use Rattle.tool_words.specs.Parsed.{none_is_short}
use Rattle.tool_words.specs.Words.{is_short}
use Rattle.tool_words.proofs.App.{flag_of, option_of, rules, top}
use Rattle.tool_words.proofs.Names.{long_flag, long_none, long_option, no_flag}
use Rattle.tool_words.proofs.Rows.{used_flag, used_option}
use Rattle.tool_words.proofs.Judge.{Judge, Refused, behind_refused, front, front_none, joined, or_none, pending_before, same_judge, settle_kinds}
use Rattle.tool_words.proofs.States.{IsPending, at, at_end, final, held, settle_is, settled_is, step_is, total, turn_refused, use_flag, use_option, used_step}
use Rattle.tool_words.proofs.Forms.{IsPlain, equals_no_flag, equals_no_option, hyphens_are, long, name_of, no_equals, no_hyphen, one_word_is, plain_word, two_words_is, uses_none, uses_one, uses_two, uses_last}
use Rattle.tool_words.proofs.Turns.{end_final, end_idle, flag_with_value, no_value, no_value_at_end, nothing_trails, stray, turn_by, unknown, value_at, value_turn, value_walk, waiting, walk_by}

abbrev Goal : List Use → Option Use → List Text → Type 0
Goal us p ws = Judge us (front p (uses_of ws)) (total (at (held us p) idle false) ws) (final (at (held us p) idle false) ws)

abbrev All : List Text → Type 0
All ws = (us : List Use) (p : Option Use) → IsPending p → Goal us p ws

-- by what the uses are
by_uses : (us : List Use) (p : Option Use) (ws : List Text) (x : Option (List Use)) → uses_of ws ≡ x
    → Judge us (front p x) (total (at (held us p) idle false) ws) (final (at (held us p) idle false) ws) → Goal us p ws
by_uses us p ws x e j = subst (λ y. Judge us (front p y) (total (at (held us p) idle false) ws) (final (at (held us p) idle false) ws)) (sym e) j

refused_words : (us : List Use) (p : Option Use) (ws : List Text) → uses_of ws ≡ None → Refused (total (at (held us p) idle false) ws) → Goal us p ws
refused_words us p ws e bad = by_uses us p ws None e (front_none us p (total (at (held us p) idle false) ws) (final (at (held us p) idle false) ws) bad)

-- '--name=value'
value_case : (x : ℕ) (xs : List ℕ) (ws : List Text) → list_any is_equals (x ∷ xs) ≡ true → is_option (name_of (x ∷ xs)) ≡ true → All ws → All (long x xs ∷ ws)
value_case x xs ws e o all us p pending =
    by_uses us p (long x xs ∷ ws) (before (Some u) (uses_of ws)) (uses_one x xs u ws one)
    (used_step us p u (option_of name) (value ∷ []) (long x xs) ws (uses_of ws) pending (use_option name value) (used_option name value o)
    (turn_by (held us p) x xs (Some (option_of name)) (Some value) (long_option name o) given ∙ or_none _)
    (walk_by (held us p) x xs (Some (option_of name)) (Some value) (long_option name o) given)
    (all (joined us p ++ u ∷ []) None tt))
  where
    name : Text
    name = name_of (x ∷ xs)

    value : Text
    value = after_first is_equals (x ∷ xs)

    u : Use
    u = record { name = name; value = value }

    one : one_word (long x xs) ≡ Some u
    one = one_word_is x xs false true true (equals_no_flag (x ∷ xs) e) e o

    given : value_at (x ∷ xs) ≡ Some value
    given = ap (λ (b : Bool). if b then Some value else None) e

-- a name with '=' that is no option
no_option_case : (x : ℕ) (xs : List ℕ) (ws : List Text) → list_any is_equals (x ∷ xs) ≡ true → is_option (name_of (x ∷ xs)) ≡ false → All (long x xs ∷ ws)
no_option_case x xs ws e o us p pending =
    refused_words us p (long x xs ∷ ws)
    (uses_none (long x xs) ws refl (one_word_is x xs false true false (equals_no_flag (x ∷ xs) e) e o)
    (λ next. two_words_is x xs next false (begins_with_hyphen next) (equals_no_option (x ∷ xs) e) refl))
    (turn_refused (at (held us p) idle false) (long x xs) ws (by_flag (is_flag (name_of (x ∷ xs))) refl))
  where
    value : Text
    value = after_first is_equals (x ∷ xs)

    given : value_at (x ∷ xs) ≡ Some value
    given = ap (λ (b : Bool). if b then Some value else None) e

    by_flag : (b : Bool) → is_flag (name_of (x ∷ xs)) ≡ b → Refused (turn_fault top [] (at (held us p) idle false) (long x xs))
    by_flag true f =
        subst Refused (sym (turn_by (held us p) x xs (Some flag_of) (Some value) (long_flag (name_of (x ∷ xs)) f) given)) (flag_with_value (held us p) idle (long x xs) value)
    by_flag false f =
        subst Refused (sym (turn_by (held us p) x xs None (Some value) (long_none (name_of (x ∷ xs)) o f) given)) (unknown (held us p) idle (long x xs) (Some value))

-- without '=' the name is the whole text, and there is no value
bare_value : (text : Text) → list_any is_equals text ≡ false → value_at text ≡ None
bare_value text e = ap (λ (b : Bool). if b then Some (after_first is_equals text) else None) e

-- the flag
flag_case : (x : ℕ) (xs : List ℕ) (ws : List Text) → list_any is_equals (x ∷ xs) ≡ false → is_flag (x ∷ xs) ≡ true → All ws → All (long x xs ∷ ws)
flag_case x xs ws e f all us p pending =
    by_uses us p (long x xs ∷ ws) (before (Some u) (uses_of ws))
    (uses_one x xs u ws (one_word_is x xs true false (is_option (name_of (x ∷ xs))) f e refl))
    (used_step us p u flag_of [] (long x xs) ws (uses_of ws) pending use_flag used_flag
    (turn_by (held us p) x xs (Some flag_of) None found (bare_value (x ∷ xs) e) ∙ or_none _)
    (walk_by (held us p) x xs (Some flag_of) None found (bare_value (x ∷ xs) e))
    (all (joined us p ++ u ∷ []) None tt))
  where
    u : Use
    u = record { name = flag; value = [] }

    found : arg_by_long rules (name_of (x ∷ xs)) ≡ Some flag_of
    found = long_flag (name_of (x ∷ xs)) (ap is_flag (no_equals (x ∷ xs) e) ∙ f)

-- neither a flag nor an option
unknown_case : (x : ℕ) (xs : List ℕ) (ws : List Text) → list_any is_equals (x ∷ xs) ≡ false → is_flag (x ∷ xs) ≡ false → is_option (x ∷ xs) ≡ false → All (long x xs ∷ ws)
unknown_case x xs ws e f o us p pending =
    refused_words us p (long x xs ∷ ws)
    (uses_none (long x xs) ws refl (one_word_is x xs false false (is_option (name_of (x ∷ xs))) f e refl)
    (λ next. two_words_is x xs next false (begins_with_hyphen next) o refl))
    (turn_refused (at (held us p) idle false) (long x xs) ws
    (subst Refused (sym (turn_by (held us p) x xs None None none (bare_value (x ∷ xs) e))) (unknown (held us p) idle (long x xs) None)))
  where
    same_name : name_of (x ∷ xs) ≡ x ∷ xs
    same_name = no_equals (x ∷ xs) e

    none : arg_by_long rules (name_of (x ∷ xs)) ≡ None
    none = long_none (name_of (x ∷ xs)) (ap is_option same_name ∙ o) (ap is_flag same_name ∙ f)

-- '--name', whose value is the next word

abbrev Waits : ℕ → List ℕ → Type 0
Waits x xs = (list_any is_equals (x ∷ xs) ≡ false) × (is_option (x ∷ xs) ≡ true)

found_option : (x : ℕ) (xs : List ℕ) → Waits x xs → arg_by_long rules (name_of (x ∷ xs)) ≡ Some (option_of (x ∷ xs))
found_option x xs w = ap (arg_by_long rules) (no_equals (x ∷ xs) w.0) ∙ long_option (x ∷ xs) w.1

no_one_word : (x : ℕ) (xs : List ℕ) → Waits x xs → one_word (long x xs) ≡ None
no_one_word x xs w = one_word_is x xs false false (is_option (name_of (x ∷ xs))) (no_flag (x ∷ xs) w.1) w.0 refl

-- the walk behind the name
abbrev named : Held → Text → Walk
named h name = at (waiting (settled rules h).rows name) (option name) false

name_walk : (us : List Use) (p : Option Use) (x : ℕ) (xs : List ℕ) → Waits x xs
    → walked rules [] (at (held us p) idle false) (long x xs) ≡ named (held us p) (x ∷ xs)
name_walk us p x xs w = walk_by (held us p) x xs (Some (option_of (x ∷ xs))) None (found_option x xs w) (bare_value (x ∷ xs) w.0)

name_step : (us : List Use) (p : Option Use) (x : ℕ) (xs : List ℕ) (ws : List Text) → Waits x xs
    → total (at (held us p) idle false) (long x xs ∷ ws) ≡ or_else (settle_fault rules false (held us p)) (total (named (held us p) (x ∷ xs)) ws)
name_step us p x xs ws w =
    step_is _ (named (held us p) (x ∷ xs)) (long x xs) ws (settle_fault rules false (held us p))
    (turn_by (held us p) x xs (Some (option_of (x ∷ xs))) None (found_option x xs w) (bare_value (x ∷ xs) w.0) ∙ or_none _)
    (name_walk us p x xs w)

in_vain : (us : List Use) (p : Option Use) (x : ℕ) (xs : List ℕ) (ws : List Text) → Waits x xs → Refused (total (named (held us p) (x ∷ xs)) ws)
    → Refused (total (at (held us p) idle false) (long x xs ∷ ws))
in_vain us p x xs ws w bad = subst Refused (sym (name_step us p x xs ws w)) (behind_refused (settle_fault rules false (held us p)) _ bad)

last_case : (x : ℕ) (xs : List ℕ) → Waits x xs → All (long x xs ∷ [])
last_case x xs w us p pending =
    refused_words us p (long x xs ∷ []) (uses_last (long x xs) refl (no_one_word x xs w))
    (in_vain us p x xs [] w (no_value_at_end (settled rules (held us p)).rows (x ∷ xs) w.1))

hyphen_case : (x : ℕ) (xs next : List ℕ) (ws : List Text) → Waits x xs → begins_with_hyphen next ≡ true → not (is_short next) ≡ true → All (long x xs ∷ next ∷ ws)
hyphen_case x xs next ws w hyphen short us p pending =
    refused_words us p (long x xs ∷ next ∷ ws)
    (uses_two (long x xs) next ws None (no_one_word x xs w) (two_words_is x xs next true true w.1 hyphen))
    (in_vain us p x xs (next ∷ ws) w (by_text (behind_hyphens next) refl))
  where
    by_text : (o : Option Text) → behind_hyphens next ≡ o → Refused (total (named (held us p) (x ∷ xs)) (next ∷ ws))
    by_text None e = let none = no_hyphen next short e in let bad : true ≡ false = sym hyphen ∙ none in absurd cc
    by_text (Some text) e =
        subst (λ n. Refused (total (named (held us p) (x ∷ xs)) (n ∷ ws))) (sym (hyphens_are next text e))
        (no_value (settled rules (held us p)).rows (x ∷ xs) w.1 text ws)

pair_case : (x : ℕ) (xs next : List ℕ) (ws : List Text) → Waits x xs → begins_with_hyphen next ≡ false → All ws → All (long x xs ∷ next ∷ ws)
pair_case x xs next ws w plain all us p pending =
    by_uses us p (long x xs ∷ next ∷ ws) (before (Some u) (uses_of ws))
    (uses_two (long x xs) next ws (Some u) (no_one_word x xs w) (two_words_is x xs next true false w.1 plain))
    (same_judge us (front p (before (Some u) (uses_of ws))) (or_else (settle_kinds us p) (total behind ws)) _ (final behind ws) _ is_total is_final
    (pending_before us p (before (Some u) (uses_of ws)) (total (at (held vs (Some u)) idle false) ws) (total behind ws) (final (at (held vs (Some u)) idle false) ws) (final behind ws)
    settles (all vs (Some u) w.1)))
  where
    vs : List Use
    vs = joined us p

    u : Use
    u = record { name = x ∷ xs; value = next }

    behind : Walk
    behind = at (record { rows = (settled rules (held us p)).rows; pending = Some (x ∷ xs, next ∷ []); skip = 0 }) idle false

    is_plain : IsPlain next
    is_plain = plain_word next plain

    walks : walked rules [] (named (held us p) (x ∷ xs)) next ≡ behind
    walks = value_walk (settled rules (held us p)).rows (x ∷ xs) next w.1 is_plain

    is_total : total (at (held us p) idle false) (long x xs ∷ next ∷ ws) ≡ or_else (settle_kinds us p) (total behind ws)
    is_total =
        name_step us p x xs (next ∷ ws) w
        ∙ ap₂ or_else (settle_is us p pending)
        (step_is (named (held us p) (x ∷ xs)) behind next ws [] (value_turn (waiting (settled rules (held us p)).rows (x ∷ xs)) (x ∷ xs) next is_plain) walks)

    is_final : final (at (held us p) idle false) (long x xs ∷ next ∷ ws) ≡ final behind ws
    is_final = ap (λ (v : Walk). final v (next ∷ ws)) (name_walk us p x xs w) ∙ ap (λ (v : Walk). final v ws) walks

    settles : settle_kinds us p ≡ [] → (total behind ws ≡ total (at (held vs (Some u)) idle false) ws) × (final behind ws ≡ final (at (held vs (Some u)) idle false) ws)
    settles e =
        let h = settled_is us p pending e in (
          ap (λ (y : Held). total (at (record { rows = y.rows; pending = Some (x ∷ xs, next ∷ []); skip = 0 }) idle false) ws) h,
          ap (λ (y : Held). final (at (record { rows = y.rows; pending = Some (x ∷ xs, next ∷ []); skip = 0 }) idle false) ws) h,
        )

-- what holds two words behind
abbrev Behind : List Text → Type 0
Behind [] = Unit {0}
Behind (next ∷ ws) = All ws

abbrev short_first : List Text → Bool
short_first [] = true
short_first (next ∷ ws) = not (is_short next)

name_case : (x : ℕ) (xs : List ℕ) (ws : List Text) → Waits x xs → Behind ws → short_first ws ≡ true → All (long x xs ∷ ws)
name_case x xs [] w behind short = last_case x xs w
name_case x xs (next ∷ ws) w behind short = go (begins_with_hyphen next) refl
  where
    go : (b : Bool) → begins_with_hyphen next ≡ b → All (long x xs ∷ next ∷ ws)
    go true e = hyphen_case x xs next ws w e short
    go false e = pair_case x xs next ws w e behind

long_case : (x : ℕ) (xs : List ℕ) (ws : List Text) → All ws → Behind ws → short_first ws ≡ true → All (long x xs ∷ ws)
long_case x xs ws all behind short = by_equals (list_any is_equals (x ∷ xs)) refl
  where
    by_name : (a b : Bool) → list_any is_equals (x ∷ xs) ≡ false → is_flag (x ∷ xs) ≡ a → is_option (x ∷ xs) ≡ b → All (long x xs ∷ ws)
    by_name true b e f o = flag_case x xs ws e f all
    by_name false true e f o = name_case x xs ws (e, o) behind short
    by_name false false e f o = unknown_case x xs ws e f o

    with_equals : (b : Bool) → list_any is_equals (x ∷ xs) ≡ true → is_option (name_of (x ∷ xs)) ≡ b → All (long x xs ∷ ws)
    with_equals true e o = value_case x xs ws e o all
    with_equals false e o = no_option_case x xs ws e o

    by_equals : (b : Bool) → list_any is_equals (x ∷ xs) ≡ b → All (long x xs ∷ ws)
    by_equals true e = with_equals (is_option (name_of (x ∷ xs))) e refl
    by_equals false e = by_name (is_flag (x ∷ xs)) (is_option (x ∷ xs)) e refl refl

-- '--'
end_case : (ws : List Text) → All ((45 ∷ 45 ∷ []) ∷ ws)
end_case [] us p pending =
    by_uses us p ((45 ∷ 45 ∷ []) ∷ []) (Some []) refl
    (same_judge us (front p (Some [])) (total (at (held us p) idle true) []) _ (final (at (held us p) idle true) []) _ (end_idle (held us p) []) (end_final (held us p))
    (at_end us p pending idle true))
end_case (word ∷ ws) us p pending =
    refused_words us p ((45 ∷ 45 ∷ []) ∷ word ∷ ws) refl
    (subst Refused (sym (end_idle (held us p) (word ∷ ws))) (nothing_trails (held us p) idle word ws))

stray_case : (word : Text) (ws : List Text) → not (is_short word) ≡ true → behind_hyphens word ≡ None → All (word ∷ ws)
stray_case word ws short none us p pending =
    let plain = plain_word word (no_hyphen word short none) in
    refused_words us p (word ∷ ws)
    (uses_none word ws plain.end (ap (option_and_then used_by) none) (λ next. ap (option_and_then (with_next next)) none))
    (stray (held us p) word ws plain)

word_case : (word : Text) (ws : List Text) → not (is_short word) ≡ true → All ws → Behind ws → short_first ws ≡ true → All (word ∷ ws)
word_case word ws short all behind next = go (behind_hyphens word) refl
  where
    go : (o : Option Text) → behind_hyphens word ≡ o → All (word ∷ ws)
    go None e = stray_case word ws short e
    go (Some []) e = subst (λ w. All (w ∷ ws)) (sym (hyphens_are word [] e)) (end_case ws)
    go (Some (x ∷ xs)) e = subst (λ w. All (w ∷ ws)) (sym (hyphens_are word (x ∷ xs) e)) (long_case x xs ws all behind next)

no_words : All []
no_words us p pending = at_end us p pending idle false

first_of_two : (a b : Bool) → (a && b) ≡ true → a ≡ true
first_of_two true b e = refl
first_of_two false b e = absurd cc

second_of_two : (a b : Bool) → (a && b) ≡ true → b ≡ true
second_of_two true b e = e
second_of_two false b e = absurd cc

-- whatever the words, the walk finds the uses that they are
pub walk_finds : (ws : List Text) → none_is_short ws ≡ true → All ws
walk_finds [] short = no_words
walk_finds (word ∷ []) short = word_case word [] (first_of_two _ _ short) no_words tt refl
walk_finds (word ∷ next ∷ ws) short =
    let rest = second_of_two (not (is_short word)) _ short in
    word_case word (next ∷ ws) (first_of_two _ _ short) (walk_finds (next ∷ ws) rest) (walk_finds ws (second_of_two (not (is_short next)) _ rest))
    (first_of_two _ _ rest)
