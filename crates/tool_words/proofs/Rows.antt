-- Uses as rows of `clap`.
use Rattle.std.proofs.Common.{◌≡◌, ◌∙◌, List, [], ◌∷◌, ◌++◌, Some, None, Bool, true, false, refl, sym, ap, codes, map}
use Rattle.std.specs.Prelude.{◌||◌, if◌then◌else◌}
use Rattle.std.specs.List.{fold}
use Rattle.std.specs.Str.{bytes_eq}
use Rattle.std.proofs.lemmas.List.{map-append, append-nil}
use Rattle.clap.specs.Walk.{Row, Rule, Text, at_row, has_row, more_values, used, with_default, without}
use Rattle.clap.specs.Faults.{default_fault, defaults_fault}
use Rattle.clap.specs.declared.builder.value_parser.Reading.TheVariants.{AsWritten}
use Rattle.clap.specs.declared.parser.matches.ValueSource.TheVariants.{CommandLine, DefaultValue}
use Rattle.tool_words.specs.Uses.{Use, flag, has, is_flag, is_option}
use Rattle.tool_words.proofs.App.{flag_of, option_of, rules}
use Rattle.tool_words.proofs.Names.{no_flag}

abbrev pub shown : Text → Text → Text
shown name value = if is_flag name then codes "true" else value

abbrev pub row_of_use : Use → Row
row_of_use u = record { id = u.name; values = shown u.name u.value ∷ []; count = None; source = Some CommandLine; reading = AsWritten }

abbrev pub rows : List Use → List Row
rows = map row_of_use

pub has_rows : (id : Text) (us : List Use) → has_row id (rows us) ≡ has id us
has_rows id [] = refl
has_rows id (u ∷ us) = ap (λ b. bytes_eq u.name id || b) (has_rows id us)

at_row_new : (id : Text) (change : Row → List Row) (missing rs : List Row) → has_row id rs ≡ false → at_row id change missing rs ≡ rs ++ missing
at_row_new id change missing [] h = refl
at_row_new id change missing (r ∷ rs) h = go (at_row_new id change missing rs) (bytes_eq r.id id) refl h
  where
    go : (has_row id rs ≡ false → at_row id change missing rs ≡ rs ++ missing) → (b : Bool) → bytes_eq r.id id ≡ b → (b || has_row id rs) ≡ false
        → at_row id change missing (r ∷ rs) ≡ r ∷ (rs ++ missing)
    go behind true e g = absurd cc
    go behind false e g =
        ap (λ (c : Bool). if c then change r ++ rs else r ∷ at_row id change missing rs) e ∙ ap (λ xs. r ∷ xs) (behind g)

without_new : (id : Text) (rs : List Row) → has_row id rs ≡ false → without id rs ≡ rs
without_new id rs h = at_row_new id (λ _. []) [] rs h ∙ append-nil rs

-- one more row, of a name that has none
row_put : (u : Use) (m : Row → List Row) (us : List Use) → has u.name us ≡ false
    → at_row u.name m (row_of_use u ∷ []) (without u.name (rows us)) ≡ rows (us ++ u ∷ [])
row_put u m us h =
    let none = has_rows u.name us ∙ h in
    ap (at_row u.name m (row_of_use u ∷ [])) (without_new u.name (rows us) none) ∙ at_row_new u.name m (row_of_use u ∷ []) (rows us) none
    ∙ sym (map-append row_of_use us (u ∷ []))

pub used_option : (name value : Text) → is_option name ≡ true → (us : List Use) → has name us ≡ false
    → used (option_of name) (value ∷ []) (rows us) ≡ rows (us ++ record { name = name; value = value } ∷ [])
used_option name value option us h =
    ap (λ (v : Text). at_row name (more_values CommandLine (value ∷ []))
    (record { id = name; values = v ∷ []; count = None; source = Some CommandLine; reading = AsWritten } ∷ []) (without name (rows us)))
    (sym (ap (λ (b : Bool). if b then codes "true" else value) (no_flag name option)))
    ∙ row_put (record { name = name; value = value }) (more_values CommandLine (value ∷ [])) us h

pub used_flag : (us : List Use) → has flag us ≡ false → used flag_of [] (rows us) ≡ rows (us ++ record { name = flag; value = [] } ∷ [])
used_flag us h = row_put (record { name = flag; value = [] }) (more_values CommandLine (codes "true" ∷ [])) us h

-- the rows at the end, where the flag that is not used has its default

abbrev pub default_row : Row
default_row = record { id = flag; values = codes "false" ∷ []; count = None; source = Some DefaultValue; reading = AsWritten }

abbrev pub finish : List Use → List Row
finish us = if has flag us then rows us else rows us ++ default_row ∷ []

option_stays : (name : Text) (rs : List Row) → with_default rs (option_of name) ≡ rs
option_stays name rs = go (has_row name rs)
  where
    go : (b : Bool) → (if b then rs else rs) ≡ rs
    go true = refl
    go false = refl

flag_put : (us : List Use) → with_default (rows us) flag_of ≡ finish us
flag_put us = go (has flag us) refl
  where
    go : (b : Bool) → has flag us ≡ b → with_default (rows us) flag_of ≡ (if b then rows us else rows us ++ default_row ∷ [])
    go true e = ap (λ (c : Bool). if c then rows us else at_row flag (more_values DefaultValue (codes "false" ∷ [])) (default_row ∷ []) (rows us)) (has_rows flag us ∙ e)
    go false e =
        ap (λ (c : Bool). if c then rows us else at_row flag (more_values DefaultValue (codes "false" ∷ [])) (default_row ∷ []) (rows us)) (has_rows flag us ∙ e)
        ∙ at_row_new flag (more_values DefaultValue (codes "false" ∷ [])) (default_row ∷ []) (rows us) (has_rows flag us ∙ e)

pub end_rows : (us : List Use) → fold with_default (rows us) rules ≡ finish us
end_rows us =
    ap (λ rs. fold with_default (with_default rs (option_of (codes "workers"))) (flag_of ∷ option_of (codes "run") ∷ option_of (codes "args") ∷ option_of (codes "fuel") ∷ []))
    (option_stays (codes "pass-pipeline") (rows us))
    ∙ ap (λ rs. fold with_default (with_default rs flag_of) (option_of (codes "run") ∷ option_of (codes "args") ∷ option_of (codes "fuel") ∷ []))
    (option_stays (codes "workers") (rows us))
    ∙ ap (λ rs. fold with_default rs (option_of (codes "run") ∷ option_of (codes "args") ∷ option_of (codes "fuel") ∷ [])) (flag_put us)
    ∙ ap (λ rs. fold with_default rs (option_of (codes "args") ∷ option_of (codes "fuel") ∷ [])) (option_stays (codes "run") (finish us))
    ∙ ap (λ rs. fold with_default rs (option_of (codes "fuel") ∷ [])) (option_stays (codes "args") (finish us))
    ∙ option_stays (codes "fuel") (finish us)

-- no default is refused

quiet_option : (name : Text) (rs : List Row) → default_fault rs (option_of name) ≡ []
quiet_option name rs = go (has_row name rs) refl
  where
    go : (b : Bool) → has_row name rs ≡ b → default_fault rs (option_of name) ≡ []
    go true e = rw e refl
    go false e = rw e refl

quiet_flag : (rs : List Row) → default_fault rs flag_of ≡ []
quiet_flag rs = go (has_row flag rs) refl
  where
    go : (b : Bool) → has_row flag rs ≡ b → default_fault rs flag_of ≡ []
    go true e = rw e refl
    go false e = rw e refl

quiet_more : (a : Rule) (rest : List Rule) → ((rs : List Row) → default_fault rs a ≡ []) → ((rs : List Row) → defaults_fault rs rest ≡ []) → (rs : List Row)
    → defaults_fault rs (a ∷ rest) ≡ []
unfolding defaults_fault
quiet_more a rest first behind rs = rw (first rs) (behind (with_default rs a))

quiet_none : (rs : List Row) → defaults_fault rs [] ≡ []
unfolding defaults_fault
quiet_none rs = refl

pub quiet : (rs : List Row) → defaults_fault rs rules ≡ []
quiet = quiet_more (option_of (codes "pass-pipeline")) _ (quiet_option (codes "pass-pipeline"))
    (quiet_more (option_of (codes "workers")) _ (quiet_option (codes "workers"))
    (quiet_more flag_of _ quiet_flag
    (quiet_more (option_of (codes "run")) _ (quiet_option (codes "run"))
    (quiet_more (option_of (codes "args")) _ (quiet_option (codes "args"))
    (quiet_more (option_of (codes "fuel")) _ (quiet_option (codes "fuel")) quiet_none)))))
