-- What the matches of `clap` show is what the uses give.
use Rattle.std.proofs.Common.{◌≡◌, ◌∙◌, List, [], ◌∷◌, ◌++◌, Option, Some, None, Bool, true, false, refl, sym, ap, subst, codes}
use Rattle.std.specs.Prelude.{◌||◌, if◌then◌else◌, find, slice_get, option_and_then}
use Rattle.std.specs.Str.{bytes_eq}
use Rattle.std.proofs.lemmas.List.{append-nil}
use Rattle.clap.proofs.WalkLemmas.{first_value-rows, one_text-rows}
use Rattle.clap.specs.Faults.{entered_fault, fault_of, level_fault}
use Rattle.clap.specs.Simple.{built, entered, matches_of}
use Rattle.clap.specs.Walk.{Row, Text, first_of, idle, nothing_held, one_of, rows_of}
use Rattle.clap.specs.Words.{first_value}
use Rattle.clap.specs.declared.parser.matches.Found.{Found}
use Rattle.std.specs.Prelude.{is_some}
use Rattle.tool_words.specs.Uses.{Given, Use, flag, given_by, has, if_once, is_flag, once_behind, uses_of, value_of}
use Rattle.tool_words.specs.Parsed.{Shows, app, none_is_short}
use Rattle.tool_words.proofs.App.{top}
use Rattle.tool_words.proofs.Names.{same}
use Rattle.tool_words.proofs.Rows.{default_row, finish, row_of_use, rows}
use Rattle.tool_words.proofs.Judge.{Judge, JudgeOnce, Refused}
use Rattle.tool_words.proofs.States.{at, final, held, total}
use Rattle.tool_words.proofs.Walked.{walk_finds}

first_rows : (id : Text) (us : List Use) (rest : List Row) → is_flag id ≡ false → find (λ r. bytes_eq r.id id) rest ≡ None → first_of id (rows us ++ rest) ≡ value_of id us
first_rows id [] rest other none = ap (option_and_then (λ (r : Row). slice_get r.values 0)) none
first_rows id (u ∷ us) rest other none = go (first_rows id us rest other none) (bytes_eq u.name id) refl
  where
    go : first_of id (rows us ++ rest) ≡ value_of id us → (b : Bool) → bytes_eq u.name id ≡ b → first_of id (row_of_use u ∷ (rows us ++ rest)) ≡ value_of id (u ∷ us)
    go behind true e =
        let unlike : is_flag u.name ≡ false = subst (λ n. is_flag n ≡ false) (sym (same u.name id e)) other in
        rw e (ap (λ (b : Bool). Some (if b then codes "true" else u.value)) unlike)
    go behind false e = rw e behind

pub first_finish : (id : Text) (us : List Use) → is_flag id ≡ false → first_of id (finish us) ≡ value_of id us
first_finish id us other = go (has flag us)
  where
    missing : find (λ r. bytes_eq r.id id) (default_row ∷ []) ≡ None
    missing = ap (λ (b : Bool). if b then Some default_row else None) other

    go : (b : Bool) → first_of id (if b then rows us else rows us ++ default_row ∷ []) ≡ value_of id us
    go true = ap (first_of id) (sym (append-nil (rows us))) ∙ first_rows id us [] other refl
    go false = first_rows id us (default_row ∷ []) other missing

flag_used : (us : List Use) → has flag us ≡ true → one_of flag (rows us) ≡ Some (codes "true")
flag_used [] e = absurd cc
flag_used (u ∷ us) e = go (flag_used us) (bytes_eq u.name flag) refl e
  where
    go : (has flag us ≡ true → one_of flag (rows us) ≡ Some (codes "true")) → (b : Bool) → bytes_eq u.name flag ≡ b → (b || has flag us) ≡ true
        → one_of flag (row_of_use u ∷ rows us) ≡ Some (codes "true")
    go behind true is h =
        let flagged : is_flag u.name ≡ true = subst (λ n. is_flag n ≡ true) (sym (same u.name flag is)) refl in
        rw is (ap (λ (b : Bool). Some (if b then codes "true" else u.value)) flagged)
    go behind false is h = rw is (behind h)

flag_unused : (us : List Use) → has flag us ≡ false → one_of flag (rows us ++ default_row ∷ []) ≡ Some (codes "false")
flag_unused [] e = refl
flag_unused (u ∷ us) e = go (flag_unused us) (bytes_eq u.name flag) refl e
  where
    go : (has flag us ≡ false → one_of flag (rows us ++ default_row ∷ []) ≡ Some (codes "false")) → (b : Bool) → bytes_eq u.name flag ≡ b → (b || has flag us) ≡ false
        → one_of flag (row_of_use u ∷ (rows us ++ default_row ∷ [])) ≡ Some (codes "false")
    go behind true is h = absurd cc
    go behind false is h = rw is (behind h)

-- what is shown of these rows

same_given : (g h : Given) → g.pipeline ≡ h.pipeline → g.workers ≡ h.workers → g.allowed ≡ h.allowed → g.run ≡ h.run → g.args ≡ h.args → g.fuel ≡ h.fuel → g ≡ h
same_given g h p w a r s f =
    ap (λ x. record g { pipeline = x }) p ∙ ap (λ x. record g { pipeline = h.pipeline; workers = x }) w
    ∙ ap (λ x. record g { pipeline = h.pipeline; workers = h.workers; allowed = x }) a
    ∙ ap (λ x. record h { run = x; args = g.args; fuel = g.fuel }) r ∙ ap (λ x. record h { args = x; fuel = g.fuel }) s ∙ ap (λ x. record h { fuel = x }) f

value_shown : (f : Found) (us : List Use) (id : Text) → is_flag id ≡ false → rows_of f ≡ finish us → first_value f id ≡ value_of id us
value_shown f us id other e = first_value-rows f id ∙ ap (first_of id) e ∙ first_finish id us other

flag_shown : (f : Found) (us : List Use) (g : Given) → Shows f g → rows_of f ≡ finish us → g.allowed ≡ has flag us
flag_shown f us g s e = go (has flag us) refl
  where
    go : (b : Bool) → has flag us ≡ b → g.allowed ≡ has flag us
    go true h =
        s.allowed (one_text-rows f flag ∙ ap (one_of flag) (e ∙ ap (λ (b : Bool). if b then rows us else rows us ++ default_row ∷ []) h) ∙ flag_used us h) ∙ sym h
    go false h =
        s.forbidden (one_text-rows f flag ∙ ap (one_of flag) (e ∙ ap (λ (b : Bool). if b then rows us else rows us ++ default_row ∷ []) h) ∙ flag_unused us h) ∙ sym h

pub shows_given : (f : Found) (us : List Use) (g : Given) → Shows f g → rows_of f ≡ finish us → g ≡ given_by us
shows_given f us g s e =
    same_given g (given_by us)
    (s.pipeline ∙ value_shown f us (codes "pass-pipeline") refl e)
    (s.workers ∙ value_shown f us (codes "workers") refl e)
    (flag_shown f us g s e)
    (s.run ∙ value_shown f us (codes "run") refl e)
    (s.args ∙ value_shown f us (codes "args") refl e)
    (s.fuel ∙ value_shown f us (codes "fuel") refl e)

-- the whole of the words

by_stop : (ws : List Text) (o : Option (Text × List Text))
    → level_fault top [] nothing_held ws (is_some (entered (built app) o)) (entered_fault (built app) o) ≡ total (at (held [] None) idle false) ws
by_stop ws None = refl
by_stop ws (Some p) = refl

faults_are : (ws : List Text) → fault_of app ws ≡ total (at (held [] None) idle false) ws
faults_are ws = by_stop ws _

rows_are : (ws : List Text) → matches_of app ws ≡ final (at (held [] None) idle false) ws
rows_are ws = refl

-- what `clap` says of words that are in form, and of others
abbrev pub Said : List Text → Option (List Use) → Type 0
Said ws (Some us) = (fault_of app ws ≡ []) × (matches_of app ws ≡ finish us)
Said ws None = Refused (fault_of app ws)

pub said : (ws : List Text) → none_is_short ws ≡ true → Said ws (option_and_then if_once (uses_of ws))
said ws short = go (uses_of ws) (walk_finds ws short [] None tt)
  where
    once : (us : List Use) (b : Bool) → JudgeOnce b us (total (at (held [] None) idle false) ws) (final (at (held [] None) idle false) ws)
        → Said ws (if b then Some us else None)
    once us true j = (faults_are ws ∙ j.0, rows_are ws ∙ j.1)
    once us false j = λ e. j (sym (faults_are ws) ∙ e)

    go : (o : Option (List Use)) → Judge [] o (total (at (held [] None) idle false) ws) (final (at (held [] None) idle false) ws) → Said ws (option_and_then if_once o)
    go None j = λ e. j (sym (faults_are ws) ∙ e)
    go (Some us) j = once us (once_behind [] us) j
