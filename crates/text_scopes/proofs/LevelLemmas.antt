-- A table and its log at each kind of turn.
use Rattle.std.proofs.Common.{◌++◌, reverse, ◌≡◌, ℕ, suc, ◌<◌, ◌==◌, Bool, true, false, List, [], ◌∷◌, length, get_or, set, Option, Some, None, refl, sym, ◌∙◌, subst, ap, arith, ⊎_elim}
use Rattle.std.specs.Prelude.{◌≢◌, ◌⊎◌, if◌then◌else◌}
use Rattle.std.proofs.lemmas.Bool.{cases_eq, eq-eqb}
use Rattle.std.proofs.lemmas.Bool.Decides.{eqb_tells}
use Rattle.std.proofs.lemmas.List.{get_or-set_same, get_or-set_other, set-set, set-get_or, length-set, reverse-append}
use Rattle.text_events.specs.declared.event.Event.{Event}
use Rattle.text_scopes.specs.declared.steps.Step.{Step}
use Rattle.text_scopes.specs.declared.steps.Step.TheVariants as steps
use Rattle.text_scopes.specs.declared.scopes.Scopes.{Scopes}
use Rattle.text_scopes.specs.declared.scopes.Entry.{Entry}
use Rattle.text_scopes.specs.declared.scopes.Entry.TheVariants.{Region, Was}
use Rattle.text_scopes.specs.Seen.{Turn, defined, seen}
use Rattle.text_scopes.specs.Levels.{Agrees, Below, Level, Stands, levels, nothing}

-- a definition

not_same_case : (a b : ℕ) → (a ≡ b → ⊥) → (((a == b) ≡ true) × (a ≡ b)) ⊎ (((a == b) ≡ false) × (a ≢ b)) → (a == b) ≡ false
not_same_case a b differ tells = ⊎_elim (λ yes. absurd (differ yes.1)) (λ no. no.0) tells

not_same : (a b : ℕ) → (a ≡ b → ⊥) → (a == b) ≡ false
not_same a b differ = not_same_case a b differ (eqb_tells a b)

agrees_same : (table : List (Option ℕ)) (name n place : ℕ) (o : Option ℕ) → name < length table → n ≡ name → get_or (set table name (Some place)) n None ≡ defined 0 (name == n) place o
agrees_same table name n place o within same =
    let e : (name == n) ≡ true = eq-eqb name n (sym same) in
    rw (e, same) (get_or-set_same table name (Some place) None within)

agrees_other : (table : List (Option ℕ)) (name n place : ℕ) (o : Option ℕ) → (n ≡ name → ⊥) → get_or table n None ≡ o → get_or (set table name (Some place)) n None ≡ defined 0 (name == n) place o
agrees_other table name n place o differ is =
    let e : (name == n) ≡ false = not_same name n (λ same. differ (sym same)) in
    rw e (get_or-set_other table name n (Some place) None differ ∙ is)

agrees_so : (table : List (Option ℕ)) (name : ℕ) (place : ℕ) (found : ℕ → Option ℕ) → name < length table → Agrees table found
    → Agrees (set table name (Some place)) (λ n. defined 0 (name == n) place (found n))
agrees_so table name place found within agrees n below =
    ⊎_elim
    (λ same. agrees_same table name n place (found n) within same)
    (λ differ. agrees_other table name n place (found n) differ (agrees n (omega (arith, length-set table name (Some place)))))
    (cases_eq n name)

back : (table : List (Option ℕ)) (name : ℕ) (o : Option ℕ) → set (set table name o) name (get_or table name None) ≡ table
back table name o = set-set table name o (get_or table name None) ∙ set-get_or table name None

pub define_stands : (out : Bool) (before : List Turn) (e : Event) (start : ℕ) (log : List Entry) (table : List (Option ℕ)) → e.name < length table
    → Below (Region start ∷ log) table (levels out before)
    → Below (Region start ∷ Was e.name (get_or table e.name None) ∷ log) (set table e.name (Some (length before))) (levels out ((steps.Defines, e) ∷ before))
define_stands out before e start log table within h =
    (h.0, agrees_so table e.name (length before) (λ n. seen true n 0 before) within h.1, (rw (back table e.name (Some (length before))) h.2))

-- a region that begins
pub open_stands : (out : Bool) (before : List Turn) (e : Event) (start : ℕ) (log : List Entry) (table : List (Option ℕ))
    → Below (Region start ∷ log) table (levels out before)
    → Below (Region (if out then start else suc (length before)) ∷ Region start ∷ log) table (levels out ((steps.Opens, e) ∷ before))
open_stands true before e start log table h = (h.0, h.1, h)
open_stands false before e start log table h = (refl, h.1, h)

-- at the outermost
pub bottom_stands : (table : List (Option ℕ)) (ls : ℕ → Level) → Below [] table ls → Below (Region 0 ∷ []) table ls
bottom_stands table ls h = (sym (h.1 0), (λ n below. h.0 n below ∙ sym (h.2 0 n)), (h.0, (λ over. h.1 (suc over)), (λ over name. h.2 (suc over) name)))

-- there is a way to empty the table
abbrev pub Emptied : List Entry → List (Option ℕ) → Type 0
Emptied log table = (ls : ℕ → Level) × Below log table ls

pub emptied_region : (start : ℕ) (log : List Entry) (table : List (Option ℕ)) → Emptied (Region start ∷ log) table → Emptied log table
emptied_region start log table h = ((λ over. h.0 (suc over)), h.1.2)

pub emptied_stands : (table : List (Option ℕ)) → Emptied [] table → Below (Region 0 ∷ []) table (λ over. nothing)
emptied_stands table h = (refl, h.1.0, (h.1.0, (λ over. refl), (λ over name. refl)))

-- The same of what the code changes

moved : (start end : ℕ) (log more : List Entry) (table after : List (Option ℕ)) (ls : ℕ → Level) → end ≡ start → more ≡ log → after ≡ table → Below (Region start ∷ log) table ls → Below (Region end ∷ more) after ls
moved start end log more table after ls e f g h =
    subst (λ s. Below (Region s ∷ more) after ls) (sym e) (subst (λ l. Below (Region start ∷ l) after ls) (sym f) (subst (λ t. Below (Region start ∷ log) t ls) (sym g) h))

pushed : (log items : List Entry) (entry : Entry) → items ≡ log ++ entry ∷ [] → reverse items ≡ entry ∷ reverse log
pushed log items entry e = ap reverse e ∙ reverse-append log (entry ∷ [])

abbrev turn_levels : Bool → Step → Event → List Turn → ℕ → Level
turn_levels out step e before = levels out ((step, e) ∷ before)

pub define_taken : (out : Bool) (step : Step) (name place : ℕ) (old new : Scopes) (table after : List (Option ℕ)) → step ≡ steps.Defines → name < length table
    → new.log.items ≡ old.log.items ++ Was name (get_or table name None) ∷ [] → after ≡ set table name (Some place) → new.start ≡ old.start
    → (before : List Turn) (e : Event) → e.name ≡ name → length before ≡ place → Stands old table (levels out before) → Stands new after (levels out ((step, e) ∷ before))
define_taken out step name place old new table after is within log made start before e named counted h =
    let inside : e.name < length table = omega arith in
    subst (λ s. Stands new after (turn_levels out s e before)) (sym is)
    (moved old.start new.start (Was e.name (get_or table e.name None) ∷ reverse old.log.items) (reverse new.log.items) (set table e.name (Some (length before))) after (levels out ((steps.Defines, e) ∷ before)) start
    (rw named (pushed old.log.items new.log.items (Was name (get_or table name None)) log))
    (rw (named, counted) made)
    (define_stands out before e old.start (reverse old.log.items) table inside h))

pub open_taken : (out : Bool) (step : Step) (place : ℕ) (old new : Scopes) (table : List (Option ℕ)) → step ≡ steps.Opens
    → new.log.items ≡ old.log.items ++ Region old.start ∷ [] → new.start ≡ (if out then old.start else suc place)
    → (before : List Turn) (e : Event) → length before ≡ place → Stands old table (levels out before) → Stands new table (levels out ((step, e) ∷ before))
open_taken out step place old new table is log start before e counted h =
    subst (λ s. Stands new table (turn_levels out s e before)) (sym is)
    (moved (if out then old.start else suc (length before)) new.start (Region old.start ∷ reverse old.log.items) (reverse new.log.items) table table (levels out ((steps.Opens, e) ∷ before))
    (rw counted start)
    (pushed old.log.items new.log.items (Region old.start) log) refl
    (open_stands out before e old.start (reverse old.log.items) table h))
