-- What each use sees, turn by turn.
use Rattle.std.proofs.Common.{◌≡◌, ℕ, zero, suc, ◌+◌, ◌-◌, ◌<◌, ◌≤◌, Bool, true, false, List, [], ◌∷◌, ◌++◌, length, get_or, take, drop, reverse, map, Option, Some, None, refl, sym, ◌∙◌, ap, arith, append_assoc}
use Rattle.std.specs.Prelude.{is_some, not, if◌then◌else◌}
use Rattle.std.proofs.lemmas.List.{append-nil, drop_all, drop_more, drop-drop, get_or_default, get_or-reverse, length-map, length-reverse, reverse-append, reverse-reverse}
use Rattle.text_events.specs.declared.event.Event.{Event}
use Rattle.text_scopes.specs.declared.steps.Step.{Step}
use Rattle.text_scopes.specs.declared.steps.Step.TheVariants as steps
use Rattle.text_scopes.specs.declared.scopes.Scopes.{Scopes}
use Rattle.text_scopes.specs.Names.{NamesBelow, is_named}
use Rattle.text_scopes.specs.Seen.{Turn, first_undefined, mirror, resolved, seen, stands_for, told, turned, turns}
use Rattle.text_scopes.specs.Sights.{either, first_missing, is_use, join, lacks, read, sights}
use Rattle.text_scopes.specs.Levels.{Stands, from, levels}
use Rattle.text_scopes.proofs.SeenLemmas.{found_seen}
use Rattle.text_scopes.proofs.TurnLemmas.{length_turns, next_turn, turn_at}

-- The turns read from the end

get_or_map : (ts : List Turn) (i : ℕ) (t : Turn) → get_or (map mirror ts) i (mirror t) ≡ mirror (get_or ts i t)
get_or_map [] i t = refl
get_or_map (u ∷ ts) zero t = refl
get_or_map (u ∷ ts) (suc i) t = get_or_map ts i t

pub length_read : (mirrored : Bool) (ts : List Turn) → length (read mirrored ts) ≡ length ts
length_read false ts = refl
length_read true ts = length-reverse (map mirror ts) ∙ length-map ts mirror

pub read_at : (mirrored : Bool) (ss : List Step) (es : List Event) (i at : ℕ) (step s : Step) (e : Event) → length ss ≡ length es → i < length es
    → at ≡ (if mirrored then length es - 1 - i else i) → step ≡ (if mirrored then turned (get_or ss at s) else get_or ss at s)
    → get_or (read mirrored (turns ss es)) i (s, e) ≡ (step, get_or es at e)
read_at false ss es i at step s e same within is are = rw (are, is) (turn_at ss es i s e same within)
read_at true ss es i at step s e same within is are =
    let long : length (turns ss es) ≡ length es = length_turns ss es same in
    let mapped : length (map mirror (turns ss es)) ≡ length es = length-map (turns ss es) mirror ∙ long in
    let inside : i < length (map mirror (turns ss es)) = omega arith in
    let back : i < length (reverse (map mirror (turns ss es))) = omega (arith, length-reverse (map mirror (turns ss es))) in
    let there : length (map mirror (turns ss es)) - 1 - i ≡ at = omega arith in
    let low : at < length es = omega arith in
    get_or_default (reverse (map mirror (turns ss es))) i (s, e) (mirror (s, e)) back
    ∙ get_or-reverse (map mirror (turns ss es)) i (mirror (s, e)) inside
    ∙ ap (λ (n : ℕ). get_or (map mirror (turns ss es)) n (mirror (s, e))) there
    ∙ get_or_map (turns ss es) at (s, e)
    ∙ ap mirror (turn_at ss es at s e same low)
    ∙ ap (pair_with (get_or es at e)) (sym are)
  where
    pair_with : Event → Step → Turn
    pair_with e step = (step, e)

-- a step that names keeps to it, read from the end
pub turned_named : (mirrored : Bool) (step : Step) → is_named (if mirrored then turned step else step) ≡ is_named step
turned_named false step = refl
turned_named true steps.Defines = refl
turned_named true steps.Uses = refl
turned_named true steps.Misses = refl
turned_named true steps.Opens = refl
turned_named true steps.Closes = refl
turned_named true steps.Ends = refl
turned_named true steps.Stays = refl

told_so : (step : Step) (found is : Option ℕ) → (is_named step ≡ true → found ≡ is) → told step found ≡ told step is
told_so steps.Uses found is h = ap (told steps.Uses) (h refl)
told_so steps.Defines found is h = refl
told_so steps.Misses found is h = refl
told_so steps.Opens found is h = refl
told_so steps.Closes found is h = refl
told_so steps.Ends found is h = refl
told_so steps.Stays found is h = refl

-- what is told is what is seen from the next turn
pub sees : (out : Bool) (ts : List Turn) (i : ℕ) (step : Step) (name : ℕ) (scopes : Scopes) (table : List (Option ℕ)) (found : Option ℕ)
    → (is_named step ≡ true → name < length table) → Stands scopes table (levels out (reverse (take i ts))) → found ≡ from scopes.start (get_or table name None)
    → told step found ≡ told step (seen out name 0 (reverse (take i ts)))
sees out ts i step name scopes table found known h is =
    told_so step found (seen out name 0 (reverse (take i ts))) (λ named. found_seen out (reverse (take i ts)) scopes table name found (known named) h is)

-- a name that is defined or used is in the table
pub known : (ss : List Step) (es : List Event) (at count : ℕ) (s : Step) (e : Event) (step : Step) (mirrored : Bool) (table : List (Option ℕ)) → at < length es → NamesBelow count ss es
    → step ≡ (if mirrored then turned (get_or ss at s) else get_or ss at s) → length table ≡ count → is_named step ≡ true → (get_or es at e).name < length table
known ss es at count s e step mirrored table within below is long named =
    let own : is_named (get_or ss at s) ≡ true = sym (turned_named mirrored (get_or ss at s)) ∙ ap is_named (sym is) ∙ named in
    let low : (get_or es at e).name < count = below at s e within own in
    omega (arith, low, long)

pub sights_on : (out : Bool) (ts : List Turn) (i : ℕ) (t : Turn) (step : Step) (e : Event) (found : Option ℕ) (items more whole : List (Option ℕ)) → i < length ts → get_or ts i t ≡ (step, e)
    → told step found ≡ told step (seen out e.name 0 (reverse (take i ts))) → more ≡ items ++ told step found
    → items ++ sights out (reverse (take i ts)) (drop i ts) ≡ whole → more ++ sights out (reverse (take (i + 1) ts)) (drop (i + 1) ts) ≡ whole
sights_on out ts i t step e found items more whole within at is pushed h =
    let next : reverse (take (i + 1) ts) ≡ (step, e) ∷ reverse (take i ts) = next_turn ts i t within ∙ ap (λ (u : Turn). u ∷ reverse (take i ts)) at in
    let left : drop i ts ≡ (step, e) ∷ drop (i + 1) ts = drop_more ts i t within ∙ ap (λ (u : Turn). u ∷ drop (i + 1) ts) at in
    rw (pushed, next, is) (append_assoc items (told step (seen out e.name 0 (reverse (take i ts)))) (sights out ((step, e) ∷ reverse (take i ts)) (drop (i + 1) ts))
    ∙ ap (λ (us : List Turn). items ++ sights out (reverse (take i ts)) us) (sym left) ∙ h)

pub sights_end : (out : Bool) (ts : List Turn) (i : ℕ) (items whole : List (Option ℕ)) → length ts ≤ i → items ++ sights out (reverse (take i ts)) (drop i ts) ≡ whole → items ≡ whole
sights_end out ts i items whole past h =
    sym (append-nil items) ∙ ap (λ (us : List Turn). items ++ sights out (reverse (take i ts)) us) (sym (drop_all i ts past)) ∙ h

-- What is seen from the end

abbrev fronts : Bool → List Turn → List (Option ℕ)
fronts out [] = []
fronts out (t ∷ ts) = told t.0 (seen out t.1.name 0 (map mirror ts)) ++ fronts out ts

reverse_front : (x : Turn) (xs before : List Turn) → reverse (x ∷ xs) ++ before ≡ reverse xs ++ (x ∷ before)
reverse_front x xs before = ap (λ (l : List Turn). l ++ before) (reverse-append (x ∷ []) xs) ∙ append_assoc (reverse xs) (x ∷ []) before

told_turned : (s : Step) (o : Option ℕ) → reverse (told (turned s) o) ≡ told s o
told_turned steps.Defines o = refl
told_turned steps.Uses o = refl
told_turned steps.Misses o = refl
told_turned steps.Opens o = refl
told_turned steps.Closes o = refl
told_turned steps.Ends o = refl
told_turned steps.Stays o = refl

sights_append : (out : Bool) (before xs : List Turn) (t : Turn) → sights out before (xs ++ t ∷ []) ≡ sights out before xs ++ told t.0 (seen out t.1.name 0 (reverse xs ++ before))
sights_append out before [] t = append-nil (told t.0 (seen out t.1.name 0 before))
sights_append out before (x ∷ xs) t =
    ap (λ (os : List (Option ℕ)). told x.0 (seen out x.1.name 0 before) ++ os) (sights_append out (x ∷ before) xs t)
    ∙ sym (append_assoc (told x.0 (seen out x.1.name 0 before)) (sights out (x ∷ before) xs) (told t.0 (seen out t.1.name 0 (reverse xs ++ x ∷ before))))
    ∙ ap (λ (b : List Turn). told x.0 (seen out x.1.name 0 before) ++ sights out (x ∷ before) xs ++ told t.0 (seen out t.1.name 0 b)) (sym (reverse_front x xs before))

sights_back : (out : Bool) (ts : List Turn) → reverse (sights out [] (reverse (map mirror ts))) ≡ fronts out ts
sights_back out [] = refl
sights_back out (t ∷ ts) =
    let m : List Turn = map mirror ts in
    ap (λ (us : List Turn). reverse (sights out [] us)) (reverse-append (mirror t ∷ []) m)
    ∙ ap reverse (sights_append out [] (reverse m) (mirror t))
    ∙ reverse-append (sights out [] (reverse m)) (told (turned t.0) (seen out t.1.name 0 (reverse (reverse m) ++ [])))
    ∙ ap (λ (os : List (Option ℕ)). os ++ reverse (sights out [] (reverse m))) (told_turned t.0 (seen out t.1.name 0 (reverse (reverse m) ++ [])))
    ∙ ap (λ (us : List Turn). told t.0 (seen out t.1.name 0 us) ++ reverse (sights out [] (reverse m))) (append-nil (reverse (reverse m)) ∙ reverse-reverse m)
    ∙ ap (λ (os : List (Option ℕ)). told t.0 (seen out t.1.name 0 m) ++ os) (sights_back out ts)

-- What is behind, and where that is nothing what is ahead

joined : (out : Bool) (before ts : List Turn) (last : ℕ) → length before + length ts - 1 ≡ last → join last (sights out before ts) (fronts out ts) ≡ resolved out before ts
joined out before [] last is = refl
joined out before ((steps.Uses, e) ∷ ts) last is =
    let sum : length before + length ts ≡ last = omega arith in
    ap (λ (n : ℕ). either n (seen out e.name 0 before) (seen out e.name 0 (map mirror ts)) ∷ join last (sights out ((steps.Uses, e) ∷ before) ts) (fronts out ts)) (sym sum)
    ∙ ap (λ (os : List (Option ℕ)). stands_for out e.name before ts ∷ os) (joined out ((steps.Uses, e) ∷ before) ts last (omega arith))
joined out before ((steps.Misses, e) ∷ ts) last is = ap (λ (os : List (Option ℕ)). None ∷ os) (joined out ((steps.Misses, e) ∷ before) ts last (omega arith))
joined out before ((steps.Defines, e) ∷ ts) last is = joined out ((steps.Defines, e) ∷ before) ts last (omega arith)
joined out before ((steps.Opens, e) ∷ ts) last is = joined out ((steps.Opens, e) ∷ before) ts last (omega arith)
joined out before ((steps.Closes, e) ∷ ts) last is = joined out ((steps.Closes, e) ∷ before) ts last (omega arith)
joined out before ((steps.Ends, e) ∷ ts) last is = joined out ((steps.Ends, e) ∷ before) ts last (omega arith)
joined out before ((steps.Stays, e) ∷ ts) last is = joined out ((steps.Stays, e) ∷ before) ts last (omega arith)

pub joined_all : (out : Bool) (ts : List Turn) (last : ℕ) → length ts - 1 ≡ last → join last (sights out [] ts) (reverse (sights out [] (read true ts))) ≡ resolved out [] ts
joined_all out ts last is = ap (join last (sights out [] ts)) (sights_back out ts) ∙ joined out [] ts last (omega arith)

-- The first use without a definition

missing_case : (u l : Bool) (here then_rest else_rest : Option ℕ) → u ≡ true → l ≡ false → (if u then (if l then here else then_rest) else else_rest) ≡ then_rest
missing_case true true here then_rest else_rest is lacking = absurd cc
missing_case true false here then_rest else_rest is lacking = refl
missing_case false l here then_rest else_rest is lacking = absurd cc

missing_other : (u : Bool) (then_rest else_rest : Option ℕ) → u ≡ false → (if u then then_rest else else_rest) ≡ else_rest
missing_other true then_rest else_rest is = absurd cc
missing_other false then_rest else_rest is = refl

missing_step : (ss : List Step) (ds : List (Option ℕ)) (i : ℕ) (s : Step) → i < length ss
    → first_missing (drop i ss) ds i ≡ (if is_use (get_or ss i s) then (if lacks ds then Some i else first_missing (drop (i + 1) ss) (drop 1 ds) (suc i)) else first_missing (drop (i + 1) ss) ds (suc i))
missing_step ss ds i s within = rw (drop_more ss i s within) refl

pub missing_use : (ss : List Step) (ds : List (Option ℕ)) (i next : ℕ) (s : Step) (whole : Option ℕ) → i < length ss → is_use (get_or ss i s) ≡ true → lacks (drop next ds) ≡ false
    → first_missing (drop i ss) (drop next ds) i ≡ whole → first_missing (drop (i + 1) ss) (drop (next + 1) ds) (i + 1) ≡ whole
missing_use ss ds i next s whole within used lacking h =
    let one : i + 1 ≡ suc i = omega arith in
    rw (← drop-drop 1 next ds)
    (ap (first_missing (drop (i + 1) ss) (drop 1 (drop next ds))) one
    ∙ sym (missing_case (is_use (get_or ss i s)) (lacks (drop next ds)) (Some i) (first_missing (drop (i + 1) ss) (drop 1 (drop next ds)) (suc i)) (first_missing (drop (i + 1) ss) (drop next ds) (suc i)) used lacking)
    ∙ sym (missing_step ss (drop next ds) i s within) ∙ h)

pub missing_on : (ss : List Step) (ds : List (Option ℕ)) (i next : ℕ) (s : Step) (whole : Option ℕ) → i < length ss → is_use (get_or ss i s) ≡ false
    → first_missing (drop i ss) (drop next ds) i ≡ whole → first_missing (drop (i + 1) ss) (drop next ds) (i + 1) ≡ whole
missing_on ss ds i next s whole within unused h =
    let one : i + 1 ≡ suc i = omega arith in
    ap (first_missing (drop (i + 1) ss) (drop next ds)) one
    ∙ sym (missing_other (is_use (get_or ss i s)) (if lacks (drop next ds) then Some i else first_missing (drop (i + 1) ss) (drop 1 (drop next ds)) (suc i)) (first_missing (drop (i + 1) ss) (drop next ds) (suc i)) unused)
    ∙ sym (missing_step ss (drop next ds) i s within) ∙ h

abbrev steps_in : List Turn → List Step
steps_in [] = []
steps_in (t ∷ ts) = t.0 ∷ steps_in ts

uses_case : (o : Option ℕ) (os : List (Option ℕ)) (n : ℕ) (a b : Option ℕ) → a ≡ b → (if lacks (o ∷ os) then Some n else a) ≡ (if not (is_some o) then Some n else b)
uses_case None os n a b same = refl
uses_case (Some p) os n a b same = same

missing_all : (out : Bool) (before ts : List Turn) → first_missing (steps_in ts) (resolved out before ts) (length before) ≡ first_undefined out before ts
missing_all out before [] = refl
missing_all out before ((steps.Uses, e) ∷ ts) =
    uses_case (stands_for out e.name before ts) (resolved out ((steps.Uses, e) ∷ before) ts) (length before) _ _ (missing_all out ((steps.Uses, e) ∷ before) ts)
missing_all out before ((steps.Misses, e) ∷ ts) = refl
missing_all out before ((steps.Defines, e) ∷ ts) = missing_all out ((steps.Defines, e) ∷ before) ts
missing_all out before ((steps.Opens, e) ∷ ts) = missing_all out ((steps.Opens, e) ∷ before) ts
missing_all out before ((steps.Closes, e) ∷ ts) = missing_all out ((steps.Closes, e) ∷ before) ts
missing_all out before ((steps.Ends, e) ∷ ts) = missing_all out ((steps.Ends, e) ∷ before) ts
missing_all out before ((steps.Stays, e) ∷ ts) = missing_all out ((steps.Stays, e) ∷ before) ts

pub missing_turns : (out : Bool) (ss : List Step) (es : List Event) → length ss ≡ length es → first_missing ss (resolved out [] (turns ss es)) 0 ≡ first_undefined out [] (turns ss es)
missing_turns out ss es same = ap (λ (us : List Step). first_missing us (resolved out [] (turns ss es)) 0) (sym (steps_turns ss es same)) ∙ missing_all out [] (turns ss es)
  where
    steps_turns : (ss : List Step) (es : List Event) → length ss ≡ length es → steps_in (turns ss es) ≡ ss
    steps_turns [] es same = refl
    steps_turns (s ∷ ss) [] same = absurd (omega arith)
    steps_turns (s ∷ ss) (e ∷ es) same = ap (λ (us : List Step). s ∷ us) (steps_turns ss es (omega arith))

-- The answers of the whole

pub resolved_so : (out : Bool) (ss : List Step) (es : List Event) (last : ℕ) (behind ahead given definitions : List (Option ℕ)) → length ss ≡ length es → last ≡ length es - 1
    → behind ≡ sights out [] (turns ss es) → ahead ≡ sights out [] (read true (turns ss es)) → given ≡ behind → definitions ≡ join last given (reverse ahead)
    → definitions ≡ resolved out [] (turns ss es)
resolved_so out ss es last behind ahead given definitions same end seen_behind seen_ahead is made =
    let long : length (turns ss es) - 1 ≡ last = omega (arith, length_turns ss es same) in
    made ∙ rw (is, seen_behind, seen_ahead) (joined_all out (turns ss es) last long)
