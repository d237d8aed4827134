-- No token of a text is the name of an option of a pass that has none.
use Rattle.std.proofs.Common.{◌≡◌, ℕ, ◌+◌, Bool, true, false, not, List, [], ◌∷◌, ◌++◌, Some, refl, arith}
use Rattle.std.specs.Prelude.{if◌then◌else◌, find, unwrap_or}
use Rattle.std.specs.List.{list_all}
use Rattle.std.specs.Str.{bytes_eq}
use Rattle.std.proofs.lemmas.List.Folds.{list_all-append}
use Rattle.pipeline_text.specs.declared.token.Kind.{Kind}
use Rattle.pipeline_text.specs.declared.token.Kind.TheVariants.{OtherWord}
use Rattle.pipeline_text.specs.declared.token.Token.{Token}
use Rattle.pipeline_text.specs.declared.token.Wanted.TheVariants.{NoOption}
use Rattle.pipeline_text.specs.Kinds.{fits}
use Rattle.pipeline_text.specs.Words.{alone, byte_kind, closed, cut, in_word, is_blank, kind_text, tokens_of, word_kind, words}
use Rattle.pipeline_text.specs.Promises.{NoOptionInTexts}
use Rattle.pipeline_text.proofs.Spelled.{both_left, both_right}

is_other : Kind → Bool
is_other k = not (fits NoOption k)

or_later : (k : Kind) (ks : List Kind) (here : Bool) (test : Kind → Bool) → is_other k ≡ true → is_other (unwrap_or (find test ks) OtherWord) ≡ true
    → is_other (unwrap_or (if here then Some k else find test ks) OtherWord) ≡ true
or_later k ks true test h later = h
or_later k ks false test h later = later

found_other : (test : Kind → Bool) (ks : List Kind) → list_all is_other ks ≡ true → is_other (unwrap_or (find test ks) OtherWord) ≡ true
unfolding is_other
found_other test [] all = refl
found_other test (k ∷ ks) all = or_later k ks (test k) test (both_left (is_other k) (list_all is_other ks) all)
    (found_other test ks (both_right (is_other k) (list_all is_other ks) all))

word_other : (w : List ℕ) → is_other (word_kind w) ≡ true
unfolding word_kind is_other
word_other w = found_other (λ k. bytes_eq (kind_text k) w) words refl

byte_other : (b : ℕ) → is_other (byte_kind b) ≡ true
unfolding is_other
byte_other b = grind arith

closed_other : (w : List ℕ) (at : ℕ) → list_all (λ (t : Token). is_other t.kind) (closed w at) ≡ true
closed_other [] at = refl
closed_other (b ∷ w) at = rw (word_other (b ∷ w)) refl

alone_other : (at b : ℕ) (blank : Bool) → is_blank b ≡ blank → list_all (λ (t : Token). is_other t.kind) (alone at b) ≡ true
alone_other at b true e = rw e refl
alone_other at b false e = rw (e, byte_other b) refl

cut_case : (w : List ℕ) (at b : ℕ) (text : List ℕ) (c : Bool) → in_word b ≡ c → ((v : List ℕ) → list_all (λ (t : Token). is_other t.kind) (cut v (at + 1) text) ≡ true)
    → list_all (λ (t : Token). is_other t.kind) (cut w at (b ∷ text)) ≡ true
cut_case w at b text true e rest = rw e (rest (w ++ b ∷ []))
cut_case w at b text false e rest = rw (e, list_all-append, list_all-append, closed_other w at, alone_other at b (is_blank b) refl, rest []) refl

cut_other : (w : List ℕ) (at : ℕ) (text : List ℕ) → list_all (λ (t : Token). is_other t.kind) (cut w at text) ≡ true
cut_other w at [] = closed_other w at
cut_other w at (b ∷ text) = cut_case w at b text (in_word b) refl (λ v. cut_other v (at + 1) text)

pub no_option_in_texts : NoOptionInTexts
unfolding tokens_of is_other
no_option_in_texts = λ text. cut_other [] 0 text
