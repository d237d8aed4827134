-- What words look like, to the definitions and to `clap`.
use Rattle.std.proofs.Common.{rules, ◌≡◌, ◌∙◌, ℕ, ◌+◌, suc, ◌==◌, List, [], ◌∷◌, Option, Some, None, Bool, true, false, refl, sym, ap, ap₂, subst, arith, take}
use Rattle.std.specs.Prelude.{◌&&◌, ◌||◌, not, if◌then◌else◌, is_some, option_and_then}
use Rattle.std.specs.List.{after_first, before_first, list_any, prefix_len}
use Rattle.std.specs.Str.{bytes_eq}
use Rattle.clap.specs.Lexer.{long_of, short_of}
use Rattle.tool_words.specs.Uses.{Use, before, begins_with_hyphen, behind_hyphen, behind_hyphens, flag, is_end, is_equals, is_flag, is_option, one_word, two_words, uses_of}
use Rattle.tool_words.specs.Words.{is_short}
use Rattle.tool_words.proofs.Names.{by_option, same}

-- hyphens

hyphen_is : (word text : List ℕ) → behind_hyphen word ≡ Some text → word ≡ 45 ∷ text
hyphen_is [] text e = absurd cc
hyphen_is (b ∷ bs) text e = go (b == 45) refl e
  where
    go : (c : Bool) → (b == 45) ≡ c → (if c then Some bs else None) ≡ Some text → b ∷ bs ≡ 45 ∷ text
    go true is h =
        let first : b ≡ 45 = search rules in
        let rest : bs ≡ text = cc in ap₂ (λ x xs. x ∷ xs) first rest
    go false is h = absurd cc

pub hyphens_are : (word text : List ℕ) → behind_hyphens word ≡ Some text → word ≡ 45 ∷ 45 ∷ text
hyphens_are word text e = go (behind_hyphen word) refl e
  where
    go : (o : Option (List ℕ)) → behind_hyphen word ≡ o → option_and_then behind_hyphen o ≡ Some text → word ≡ 45 ∷ 45 ∷ text
    go None is h = absurd cc
    go (Some rest) is h = hyphen_is word rest is ∙ ap (λ xs. 45 ∷ xs) (hyphen_is rest text h)

-- a word that is not short and does not begin with two hyphens begins with none
pub no_hyphen : (word : List ℕ) → not (is_short word) ≡ true → behind_hyphens word ≡ None → begins_with_hyphen word ≡ false
no_hyphen word short none = go (begins_with_hyphen word) refl
  where
    go : (b : Bool) → begins_with_hyphen word ≡ b → begins_with_hyphen word ≡ false
    go false e = e
    go true e =
        let bad : not (true && not (is_some {T = List ℕ} None)) ≡ true = subst (λ c. not (c && not (is_some {T = List ℕ} None)) ≡ true) e
        (subst (λ o. not (begins_with_hyphen word && not (is_some o)) ≡ true) none short) in
        absurd cc

-- what is plain to `clap`
pub record IsPlain (word : List ℕ) : Type 0 where
  pub end : bytes_eq word (45 ∷ 45 ∷ []) ≡ false
  pub long : long_of word ≡ None
  pub short : short_of word ≡ None
  pub behind : behind_hyphens word ≡ None

pub plain_word : (word : List ℕ) → begins_with_hyphen word ≡ false → IsPlain word
plain_word [] e = record { end = refl; long = refl; short = refl; behind = refl }
plain_word (b ∷ bs) e = go (b == 45) refl e
  where
    go : (c : Bool) → (b == 45) ≡ c → is_some (if c then Some bs else None) ≡ false → IsPlain (b ∷ bs)
    go true is h = absurd cc
    go false is h = record { end = rw is refl; long = rw is refl; short = rw is refl; behind = rw is refl }

-- what is behind the hyphens

pub equals_no_option : (text : List ℕ) → list_any is_equals text ≡ true → is_option text ≡ false
equals_no_option text e = go (is_option text) refl
  where
    go : (b : Bool) → is_option text ≡ b → is_option text ≡ false
    go false o = o
    go true o =
        let none : list_any is_equals text ≡ false = by_option (λ t. list_any is_equals t ≡ false) refl refl refl refl refl text o in
        let bad : true ≡ false = sym e ∙ none in absurd cc

pub equals_no_flag : (text : List ℕ) → list_any is_equals text ≡ true → is_flag text ≡ false
equals_no_flag text e = go (is_flag text) refl
  where
    go : (b : Bool) → is_flag text ≡ b → is_flag text ≡ false
    go false o = o
    go true o =
        let none : list_any is_equals text ≡ false = subst (λ t. list_any is_equals t ≡ false) (same flag text o) refl in
        let bad : true ≡ false = sym e ∙ none in absurd cc

one_more : (n : ℕ) → 1 + n ≡ suc n
one_more n = omega arith

pub no_equals : (text : List ℕ) → list_any is_equals text ≡ false → before_first is_equals text ≡ text
no_equals [] e = refl
no_equals (b ∷ bs) e = go (no_equals bs) (b == 61) refl e
  where
    go : (list_any is_equals bs ≡ false → before_first is_equals bs ≡ bs) → (c : Bool) → (b == 61) ≡ c → (c || list_any is_equals bs) ≡ false
        → before_first is_equals (b ∷ bs) ≡ b ∷ bs
    go behind true is h = absurd cc
    go behind false is h =
        rw is (ap (λ m. take m (b ∷ bs)) (one_more (prefix_len (λ x. not (is_equals x)) bs)) ∙ ap (λ xs. b ∷ xs) (behind h))

-- the uses of words

abbrev pub long : ℕ → List ℕ → List ℕ
long x xs = 45 ∷ 45 ∷ x ∷ xs

abbrev pub name_of : List ℕ → List ℕ
name_of text = before_first is_equals text

abbrev pub tested : Bool → Bool → Bool → List ℕ → Option Use
tested is equals option text =
    if is then Some (record { name = flag; value = [] }) else
    if equals && option then Some (record { name = name_of text; value = after_first is_equals text }) else None

pub one_word_is : (x : ℕ) (xs : List ℕ) (a b c : Bool) → is_flag (x ∷ xs) ≡ a → list_any is_equals (x ∷ xs) ≡ b → is_option (name_of (x ∷ xs)) ≡ c
    → one_word (long x xs) ≡ tested a b c (x ∷ xs)
one_word_is x xs a b c ea eb ec =
    ap (λ i. tested i (list_any is_equals (x ∷ xs)) (is_option (name_of (x ∷ xs))) (x ∷ xs)) ea ∙ ap₂ (λ i j. tested a i j (x ∷ xs)) eb ec

pub uses_one : (x : ℕ) (xs : List ℕ) (u : Use) (ws : List (List ℕ)) → one_word (long x xs) ≡ Some u → uses_of (long x xs ∷ ws) ≡ before (Some u) (uses_of ws)
uses_one x xs u [] e = ap (λ o. before o (Some [])) e
uses_one x xs u (next ∷ ws) e = ap (λ o. if is_some o then before o (uses_of (next ∷ ws)) else before (two_words (long x xs) next) (uses_of ws)) e

pub uses_two : (word next : List ℕ) (ws : List (List ℕ)) (o : Option Use) → one_word word ≡ None → two_words word next ≡ o
    → uses_of (word ∷ next ∷ ws) ≡ before o (uses_of ws)
uses_two word next ws o one two =
    ap (λ a. if is_some a then before a (uses_of (next ∷ ws)) else before (two_words word next) (uses_of ws)) one ∙ ap (λ a. before a (uses_of ws)) two

pub uses_last : (word : List ℕ) → is_end word ≡ false → one_word word ≡ None → uses_of (word ∷ []) ≡ None
uses_last word end one = ap₂ (λ (b : Bool) o. if b then Some [] else before o (Some [])) end one

pub uses_none : (word : List ℕ) (ws : List (List ℕ)) → is_end word ≡ false → one_word word ≡ None → ((next : List ℕ) → two_words word next ≡ None)
    → uses_of (word ∷ ws) ≡ None
uses_none word [] end one two = uses_last word end one
uses_none word (next ∷ ws) end one two = uses_two word next ws None one (two next)

pub two_words_is : (x : ℕ) (xs next : List ℕ) (a b : Bool) → is_option (x ∷ xs) ≡ a → begins_with_hyphen next ≡ b
    → two_words (long x xs) next ≡ (if a && not b then Some (record { name = x ∷ xs; value = next }) else None)
two_words_is x xs next a b ea eb = ap₂ (λ (i j : Bool). if i && not j then Some (record { name = x ∷ xs; value = next }) else None) ea eb
