-- Words that `clap` is not given are outside of the command set.
use Rattle.std.proofs.Common.{◌≡◌, ◌∙◌, ℕ, List, [], ◌∷◌, Option, Some, None, Bool, true, false, refl, sym, ap, subst}
use Rattle.std.specs.Prelude.{◌&&◌, not, if◌then◌else◌, is_some, option_and_then, option_map}
use Rattle.std.specs.List.{list_all}
use Rattle.std.specs.Str.{is_utf8}
use Rattle.tool_words.specs.Lists.{all_of, with_first}
use Rattle.tool_words.specs.Parsed.{none_is_short}
use Rattle.tool_words.specs.Reading.{outside_text, settings_read, words_read}
use Rattle.tool_words.specs.Settings.{settings_of}
use Rattle.tool_words.specs.Uses.{Given, Use, before, begins_with_hyphen, behind_hyphens, given, given_by, given_in, if_once, is_end, is_option, one_word, two_words, used_by, uses_of, with_next}
use Rattle.tool_words.specs.Words.{is_short, word_or_none}
use Rattle.tool_words.specs.declared.request.WordsRead.TheVariants.{Refused}
use Rattle.tool_words.proofs.Names.{same}
use Rattle.tool_words.proofs.Forms.{uses_none}

-- a short word is in no use

pub no_hyphens : (word : List ℕ) → is_short word ≡ true → behind_hyphens word ≡ None
no_hyphens word short = go (begins_with_hyphen word) (behind_hyphens word) refl short
  where
    go : (b : Bool) (o : Option (List ℕ)) → behind_hyphens word ≡ o → (b && not (is_some o)) ≡ true → behind_hyphens word ≡ None
    go true None e h = e
    go true (Some text) e h = absurd cc
    go false o e h = absurd cc

hyphen_first : (a b : Bool) → (a && b) ≡ true → a ≡ true
hyphen_first true b e = refl
hyphen_first false b e = absurd cc

no_end : (word : List ℕ) → is_short word ≡ true → is_end word ≡ false
no_end word short = go (is_end word) refl
  where
    go : (b : Bool) → is_end word ≡ b → is_end word ≡ false
    go false e = e
    go true e =
        let bad : is_short (45 ∷ 45 ∷ []) ≡ true = subst (λ w. is_short w ≡ true) (same word (45 ∷ 45 ∷ []) e) short in
        absurd cc

short_first : (word : List ℕ) (ws : List (List ℕ)) → is_short word ≡ true → uses_of (word ∷ ws) ≡ None
short_first word ws short =
    let none = no_hyphens word short in
    uses_none word ws (no_end word short) (ap (option_and_then used_by) none) (λ next. ap (option_and_then (with_next next)) none)

before_none : (o : Option Use) → before o None ≡ None
before_none None = refl
before_none (Some u) = refl

no_second : (a : Bool) → (a && false) ≡ false
no_second true = refl
no_second false = refl

short_value : (word next : List ℕ) → is_short next ≡ true → two_words word next ≡ None
short_value word next short = go (behind_hyphens word)
  where
    go : (o : Option (List ℕ)) → option_and_then (with_next next) o ≡ None
    go None = refl
    go (Some name) =
        ap (λ (b : Bool). if is_option name && not b then Some (record { name = name; value = next }) else None)
        (hyphen_first (begins_with_hyphen next) (not (is_some (behind_hyphens next))) short)
        ∙ ap (λ (b : Bool). if b then Some (record { name = name; value = next }) else None) (no_second (is_option name))

two_ways : (word next : List ℕ) (ws : List (List ℕ)) → uses_of (next ∷ ws) ≡ None → before (two_words word next) (uses_of ws) ≡ None → uses_of (word ∷ next ∷ ws) ≡ None
two_ways word next ws first second = go (one_word word) refl
  where
    go : (o : Option Use) → one_word word ≡ o → uses_of (word ∷ next ∷ ws) ≡ None
    go None e = ap (λ x. if is_some x then before x (uses_of (next ∷ ws)) else before (two_words word next) (uses_of ws)) e ∙ second
    go (Some u) e =
        ap (λ x. if is_some x then before x (uses_of (next ∷ ws)) else before (two_words word next) (uses_of ws)) e ∙ ap (before (Some u)) first

pub short_refused : (ws : List (List ℕ)) → none_is_short ws ≡ false → uses_of ws ≡ None
short_refused [] e = absurd cc
short_refused (word ∷ []) e = go (is_short word) refl e
  where
    go : (b : Bool) → is_short word ≡ b → (not b && true) ≡ false → uses_of (word ∷ []) ≡ None
    go true s h = short_first word [] s
    go false s h = absurd cc
short_refused (word ∷ next ∷ ws) e = go (short_refused (next ∷ ws)) (short_refused ws) (is_short word) refl e
  where
    behind : (none_is_short ws ≡ false → uses_of ws ≡ None) → (b : Bool) → is_short next ≡ b → (not b && none_is_short ws) ≡ false
        → before (two_words word next) (uses_of ws) ≡ None
    behind rest true s h = ap (λ o. before o (uses_of ws)) (short_value word next s)
    behind rest false s h = ap (before (two_words word next)) (rest h) ∙ before_none (two_words word next)

    go : (none_is_short (next ∷ ws) ≡ false → uses_of (next ∷ ws) ≡ None) → (none_is_short ws ≡ false → uses_of ws ≡ None) → (b : Bool) → is_short word ≡ b
        → (not b && none_is_short (next ∷ ws)) ≡ false → uses_of (word ∷ next ∷ ws) ≡ None
    go one two true s h = short_first word (next ∷ ws) s
    go one two false s h = two_ways word next ws (one h) (behind two (is_short next) refl h)

-- the words that `clap` is given

in_turn : (word : List ℕ) (ws : List (List ℕ)) (a b u n : Bool)
    → with_first (if a && b then Some word else None) (if u && n then Some ws else None) ≡ (if (b && u) && (a && n) then Some (word ∷ ws) else None)
in_turn word ws true true true true = refl
in_turn word ws true true true false = refl
in_turn word ws true true false n = refl
in_turn word ws true false u n = refl
in_turn word ws false true true n = refl
in_turn word ws false true false n = refl
in_turn word ws false false u n = refl

all_words : (ws : List (List ℕ)) → all_of word_or_none ws ≡ (if list_all is_utf8 ws && none_is_short ws then Some ws else None)
all_words [] = refl
all_words (word ∷ ws) = ap (with_first (word_or_none word)) (all_words ws) ∙ in_turn word ws (not (is_short word)) (is_utf8 word) (list_all is_utf8 ws) (none_is_short ws)

abbrev Texts : List (List ℕ) → Option (List (List ℕ)) → Type 0
Texts ws None = words_read ws ≡ Refused outside_text
Texts ws (Some ts) = (ts ≡ ws) × (none_is_short ts ≡ true) × (words_read ws ≡ settings_read (option_and_then settings_of (given_in ts)))

by_given : (ws : List (List ℕ)) (g : Option Given) → given ws ≡ g → words_read ws ≡ settings_read (option_and_then settings_of g)
by_given ws g e = ap (λ x. settings_read (option_and_then settings_of x)) e

of_all : (ws : List (List ℕ)) (u n : Bool) → list_all is_utf8 ws ≡ u → none_is_short ws ≡ n → Texts ws (if u && n then Some ws else None)
of_all ws true true eu en = (refl, en, by_given ws (given_in ws) (ap (λ (b : Bool). if b then given_in ws else None) eu))
of_all ws true false eu en =
    by_given ws None (ap (λ (b : Bool). if b then given_in ws else None) eu ∙ ap (λ o. option_map given_by (option_and_then if_once o)) (short_refused ws en))
of_all ws false n eu en = by_given ws None (ap (λ (b : Bool). if b then given_in ws else None) eu)

texts_read : (ws : List (List ℕ)) (o : Option (List (List ℕ))) → o ≡ all_of word_or_none ws → Texts ws o
texts_read ws o e = subst (Texts ws) (sym (e ∙ all_words ws)) (of_all ws (list_all is_utf8 ws) (none_is_short ws) refl refl)

-- what the words are read as, step by step

pub no_texts : (ws : List (List ℕ)) → None ≡ all_of word_or_none ws → words_read ws ≡ Refused outside_text
no_texts ws e = texts_read ws None e

pub texts_short : (ws ts : List (List ℕ)) → Some ts ≡ all_of word_or_none ws → none_is_short ts ≡ true
texts_short ws ts e = (texts_read ws (Some ts) e).1

pub with_all : (ws ts : List (List ℕ)) → Some ts ≡ all_of word_or_none ws → words_read ws ≡ settings_read (option_and_then settings_of (given_in ts))
with_all ws ts e = (texts_read ws (Some ts) e).2
