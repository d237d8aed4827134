-- The names of the options and of the flag, among the rules.
use Rattle.std.proofs.Common.{◌≡◌, ℕ, List, Option, Some, None, Bool, true, false, refl, ◌∙◌, subst, codes}
use Rattle.std.specs.Prelude.{◌||◌, if◌then◌else◌}
use Rattle.std.specs.Str.{bytes_eq}
use Rattle.std.proofs.lemmas.Slice.Eq.{bytes_eq-Decides}
use Rattle.clap.specs.Walk.{Rule, Text, arg_by_id, arg_by_long}
use Rattle.tool_words.specs.Uses.{flag, is_flag, is_option}
use Rattle.tool_words.proofs.App.{rules, option_of, flag_of}

pub same : (a b : List ℕ) → bytes_eq a b ≡ true → a ≡ b
same a b e = (bytes_eq-Decides a b).0 e

pub same_self : (a : List ℕ) → bytes_eq a a ≡ true
same_self a = (bytes_eq-Decides a a).1 refl

-- what holds of the five names of options holds of each
pub by_option : (P : Text → Type 0) → P (codes "pass-pipeline") → P (codes "workers") → P (codes "run") → P (codes "args") → P (codes "fuel")
    → (name : Text) → is_option name ≡ true → P name
by_option P p1 p2 p3 p4 p5 name = go1 (bytes_eq (codes "pass-pipeline") name) refl
  where
    go5 : (b : Bool) → bytes_eq (codes "fuel") name ≡ b → (b || false) ≡ true → P name
    go5 true e h = subst P (same _ name e) p5
    go5 false e h = absurd cc

    go4 : (b : Bool) → bytes_eq (codes "args") name ≡ b → (b || (bytes_eq (codes "fuel") name || false)) ≡ true → P name
    go4 true e h = subst P (same _ name e) p4
    go4 false e h = go5 (bytes_eq (codes "fuel") name) refl h

    go3 : (b : Bool) → bytes_eq (codes "run") name ≡ b → (b || (bytes_eq (codes "args") name || (bytes_eq (codes "fuel") name || false))) ≡ true → P name
    go3 true e h = subst P (same _ name e) p3
    go3 false e h = go4 (bytes_eq (codes "args") name) refl h

    go2 : (b : Bool) → bytes_eq (codes "workers") name ≡ b
        → (b || (bytes_eq (codes "run") name || (bytes_eq (codes "args") name || (bytes_eq (codes "fuel") name || false)))) ≡ true → P name
    go2 true e h = subst P (same _ name e) p2
    go2 false e h = go3 (bytes_eq (codes "run") name) refl h

    go1 : (b : Bool) → bytes_eq (codes "pass-pipeline") name ≡ b
        → (b || (bytes_eq (codes "workers") name || (bytes_eq (codes "run") name || (bytes_eq (codes "args") name || (bytes_eq (codes "fuel") name || false))))) ≡ true
        → P name
    go1 true e h = subst P (same _ name e) p1
    go1 false e h = go2 (bytes_eq (codes "workers") name) refl h

pub long_option : (name : Text) → is_option name ≡ true → arg_by_long rules name ≡ Some (option_of name)
long_option = by_option (λ name. arg_by_long rules name ≡ Some (option_of name)) refl refl refl refl refl

pub id_option : (name : Text) → is_option name ≡ true → arg_by_id rules name ≡ Some (option_of name)
id_option = by_option (λ name. arg_by_id rules name ≡ Some (option_of name)) refl refl refl refl refl

pub no_flag : (name : Text) → is_option name ≡ true → is_flag name ≡ false
no_flag = by_option (λ name. is_flag name ≡ false) refl refl refl refl refl

pub long_flag : (name : Text) → is_flag name ≡ true → arg_by_long rules name ≡ Some flag_of
long_flag name e = subst (λ n. arg_by_long rules n ≡ Some flag_of) (same flag name e) refl

-- what is found by six tests
searched : Bool → Bool → Bool → Bool → Bool → Bool → Option Rule
searched a b c d e f =
    if a || false then Some (option_of (codes "pass-pipeline")) else
    if b || false then Some (option_of (codes "workers")) else
    if c || false then Some flag_of else
    if d || false then Some (option_of (codes "run")) else
    if e || false then Some (option_of (codes "args")) else
    if f || false then Some (option_of (codes "fuel")) else None

nothing : (a b c d e f : Bool) → (a || (b || (d || (e || (f || false))))) ≡ false → c ≡ false → searched a b c d e f ≡ None
unfolding searched
nothing false false false false false false h g = refl
nothing true b c d e f h g = absurd cc
nothing false true c d e f h g = absurd cc
nothing false false true d e f h g = absurd cc
nothing false false false true e f h g = absurd cc
nothing false false false false true f h g = absurd cc
nothing false false false false false true h g = absurd cc

by_tests : (name : Text) → arg_by_long rules name
    ≡ searched (bytes_eq (codes "pass-pipeline") name) (bytes_eq (codes "workers") name) (bytes_eq flag name) (bytes_eq (codes "run") name) (bytes_eq (codes "args") name)
    (bytes_eq (codes "fuel") name)
unfolding searched
by_tests name = refl

pub long_none : (name : Text) → is_option name ≡ false → is_flag name ≡ false → arg_by_long rules name ≡ None
long_none name no_option no_flag = by_tests name ∙ nothing _ _ _ _ _ _ no_option no_flag
