-- Going over the turns one by one.
use Rattle.std.proofs.Common.{◌≡◌, ℕ, zero, suc, ◌+◌, ◌<◌, ◌≤◌, Bool, false, List, [], ◌∷◌, length, get_or, take, drop, reverse, Option, None, refl, sym, ◌∙◌, ap, subst, arith}
use Rattle.std.proofs.lemmas.List.{take_more, reverse-append, length-reverse, length-take-le}
use Rattle.line_grammar.specs.Language.{first_at}
use Rattle.text_events.specs.declared.event.Event.{Event}
use Rattle.text_events.proofs.FirstLemmas.{ahead, goes_on}
use Rattle.text_scopes.specs.declared.steps.Step.{Step}
use Rattle.text_scopes.specs.declared.steps.Step.TheVariants as steps
use Rattle.text_scopes.specs.declared.scopes.Scopes.{Scopes}
use Rattle.text_scopes.specs.Names.{NamesBelow, is_named}
use Rattle.text_scopes.specs.Seen.{Turn, again, passed, seen, turns}
use Rattle.text_scopes.specs.Levels.{Stands, from, levels}
use Rattle.text_scopes.proofs.SeenLemmas.{found_seen}

pub length_turns : (ss : List Step) (es : List Event) → length ss ≡ length es → length (turns ss es) ≡ length es
length_turns [] [] same = refl
length_turns [] (e ∷ es) same = absurd (omega arith)
length_turns (s ∷ ss) [] same = refl
length_turns (s ∷ ss) (e ∷ es) same = let h : length (turns ss es) ≡ length es = length_turns ss es (omega arith) in omega arith

pub turn_at : (ss : List Step) (es : List Event) (i : ℕ) (s : Step) (e : Event) → length ss ≡ length es → i < length es → get_or (turns ss es) i (s, e) ≡ (get_or ss i s, get_or es i e)
turn_at ss [] i s e same within = absurd (omega arith)
turn_at [] (f ∷ es) i s e same within = absurd (omega arith)
turn_at (r ∷ ss) (f ∷ es) zero s e same within = refl
turn_at (r ∷ ss) (f ∷ es) (suc i) s e same within = turn_at ss es i s e (omega arith) (omega arith)

-- the turns before the next one
pub next_turn : (ts : List Turn) (i : ℕ) (t : Turn) → i < length ts → reverse (take (i + 1) ts) ≡ get_or ts i t ∷ reverse (take i ts)
next_turn ts i t within = ap reverse (take_more ts i t within) ∙ reverse-append (take i ts) (get_or ts i t ∷ [])

pub length_before : (ts : List Turn) (i : ℕ) → i ≤ length ts → length (reverse (take i ts)) ≡ i
length_before ts i within = length-reverse (take i ts) ∙ length-take-le i ts within

-- the table stands at the turns behind the next one
pub stands_next : (out : Bool) (ts : List Turn) (i : ℕ) (t : Turn) (step : Step) (e : Event) (old new : Scopes) (table after : List (Option ℕ)) → i < length ts → get_or ts i t ≡ (step, e)
    → ((before : List Turn) (f : Event) → f.name ≡ e.name → length before ≡ i → Stands old table (levels out before) → Stands new after (levels out ((step, f) ∷ before)))
    → Stands old table (levels out (reverse (take i ts))) → Stands new after (levels out (reverse (take (i + 1) ts)))
stands_next out ts i t step e old new table after within at taken h =
    let is : reverse (take (i + 1) ts) ≡ (step, e) ∷ reverse (take i ts) = next_turn ts i t within ∙ ap (λ (u : Turn). u ∷ reverse (take i ts)) at in
    subst (λ (b : List Turn). Stands new after (levels out b)) (sym is) (taken (reverse (take i ts)) e refl (length_before ts i (omega arith)) h)

pub stands_on : (out : Bool) (ss : List Step) (es : List Event) (i : ℕ) (s : Step) (e : Event) (old new : Scopes) (table after : List (Option ℕ)) → length ss ≡ length es → i < length es
    → ((before : List Turn) (f : Event) → f.name ≡ (get_or es i e).name → length before ≡ i → Stands old table (levels out before) → Stands new after (levels out ((get_or ss i s, f) ∷ before)))
    → Stands old table (levels out (reverse (take i (turns ss es)))) → Stands new after (levels out (reverse (take (i + 1) (turns ss es))))
stands_on out ss es i s e old new table after same within taken h =
    let inside : i < length (turns ss es) = omega (arith, length_turns ss es same) in
    stands_next out (turns ss es) i (s, e) (get_or ss i s) (get_or es i e) old new table after inside (turn_at ss es i s e same within) taken h

-- no definition of a name that is seen, and the look goes on
pub looks_on : (out : Bool) (ts : List Turn) (i : ℕ) (t : Turn) (whole : Option ℕ) → i < length ts → again out (reverse (take i ts)) (get_or ts i t) ≡ false
    → ahead i (first_at passed (again out) (reverse (take i ts)) (drop i ts)) ≡ whole → ahead (i + 1) (first_at passed (again out) (reverse (take (i + 1) ts)) (drop (i + 1) ts)) ≡ whole
looks_on out ts i t whole within is h =
    subst (λ (b : List Turn). ahead (i + 1) (first_at passed (again out) b (drop (i + 1) ts)) ≡ whole) (sym (next_turn ts i t within))
    (sym (goes_on passed (again out) (reverse (take i ts)) ts i t within is) ∙ h)

-- what was tested of the next turn is whether it defines a name that is seen
pub tested : (out : Bool) (ss : List Step) (es : List Event) (i : ℕ) (s : Step) (e : Event) (answer : Bool) (found : Option ℕ) (scopes : Scopes) (table : List (Option ℕ)) (count : ℕ)
    → length ss ≡ length es → i < length es → NamesBelow count ss es → length table ≡ count → Stands scopes table (levels out (reverse (take i (turns ss es))))
    → found ≡ from scopes.start (get_or table (get_or es i e).name None)
    → ((outward : Bool) (before : List Turn) (f : Event) → (get_or ss i s ≡ steps.Defines → found ≡ seen outward f.name 0 before) → answer ≡ again outward before (get_or ss i s, f))
    → again out (reverse (take i (turns ss es))) (get_or (turns ss es) i (s, e)) ≡ answer
tested out ss es i s e answer found scopes table count same within below long h is asked =
    let before : List Turn = reverse (take i (turns ss es)) in
    ap (again out before) (turn_at ss es i s e same within)
    ∙ sym (asked out before (get_or es i e) (λ defines. found_seen out before scopes table (get_or es i e).name found
    (let known : (get_or es i e).name < count = below i s e within (ap is_named defines) in omega (arith, known, long)) h is))
