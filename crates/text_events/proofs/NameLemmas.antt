-- Words without escapes, and the place of the first word that spells the same.
use Rattle.std.proofs.Common.{◌≡◌, ℕ, ◌+◌, ◌<◌, ◌==◌, Bool, true, false, not, ◌&&◌, ◌||◌, List, [], ◌∷◌, ◌++◌, length, take, drop, get_or, Option, None, Some, suc, cond, refl, sym, ◌∙◌, ap, arith, add-zero, zero-add, append_assoc, if◌then◌else◌}
use Rattle.std.specs.Prelude.{position}
use Rattle.std.specs.Option.{unwrap_or}
use Rattle.std.specs.List.{position_from}
use Rattle.std.specs.Str.{bytes_eq}
use Rattle.std.proofs.lemmas.Slice.Eq.{bytes_eq-Decides}
use Rattle.std.proofs.lemmas.Iterator.Adapters.{position_from-zero}
use Rattle.std.proofs.lemmas.List.{take-append-drop, drop_more, length-take-le}
use Rattle.text_grammar.specs.declared.kinds.Kind.TheVariants as kinds
use Rattle.text_grammar.specs.declared.words.Word.{Word}
use Rattle.text_events.specs.Spelling.{unescaped, spelled, core, piece}
use Rattle.text_events.specs.Decoded.{has_escape}
use Rattle.text_events.specs.Names.{spells, name_of, names_from, is_sign}

plain_step : (b : ℕ) (bs escaped : List ℕ) (first rest : Bool) → (rest ≡ false → unescaped bs ≡ bs) → (first || rest) ≡ false
    → (if first then escaped else b ∷ unescaped bs) ≡ b ∷ bs
plain_step b bs escaped true rest h is = absurd cc
plain_step b bs escaped false rest h is = ap (λ more. b ∷ more) (h is)

-- bytes without an escape stand for themselves
pub plain : (bytes : List ℕ) → has_escape bytes ≡ false → unescaped bytes ≡ bytes
plain [] is = refl
plain (b ∷ bs) is = plain_step b bs _ (b == 92) (has_escape bs) (plain bs) is

pub plain_word : (text bytes : List ℕ) (w : Word) → bytes ≡ core w.kind (piece text w) → has_escape bytes ≡ false → bytes ≡ spelled text w
unfolding spelled
plain_word text bytes w is none = sym (rw (← is) (plain bytes none))

-- The place of the first that passes, in two lists

abbrev or_last : Option ℕ → Bool → ℕ → Option ℕ
or_last (Some k) last n = Some k
or_last None last n = cond last (Some n) None

one_more_behind : (first last : Bool) (n k : ℕ) (rest more : Option ℕ) → more ≡ or_last rest last (n + 1 + k)
    → cond first (Some n) more ≡ or_last (cond first (Some n) rest) last (n + suc k)
one_more_behind true last n k rest more is = refl
one_more_behind false last n k rest more is = let moved : n + 1 + k ≡ n + suc k = grind (arith) in is ∙ ap (or_last rest last) moved

behind_from : {X : Type 0} (p : X → Bool) (n : ℕ) (xs : List X) (x : X) → position_from p n (xs ++ x ∷ []) ≡ or_last (position_from p n xs) (p x) (n + length xs)
behind_from p n [] x = rw add-zero refl
behind_from p n (y ∷ ys) x = one_more_behind (p y) (p x) n (length ys) _ _ (behind_from p (n + 1) ys x)

position_behind : {X : Type 0} (p : X → Bool) (xs : List X) (x : X) → position p (xs ++ x ∷ []) ≡ or_last (position p xs) (p x) (length xs)
position_behind p xs x =
    position_from-zero p (xs ++ x ∷ []) ∙ (behind_from p 0 xs x
    ∙ (ap (or_last (position_from p 0 xs) (p x)) (zero-add (length xs)) ∙ ap (λ o. or_last o (p x) (length xs)) (sym (position_from-zero p xs))))

front_step : (first : Bool) (n k : ℕ) (rest more : Option ℕ) → (rest ≡ Some k → more ≡ Some k) → cond first (Some n) rest ≡ Some k → cond first (Some n) more ≡ Some k
front_step true n k rest more h is = is
front_step false n k rest more h is = h is

front_from : {X : Type 0} (p : X → Bool) (n k : ℕ) (xs ys : List X) → position_from p n xs ≡ Some k → position_from p n (xs ++ ys) ≡ Some k
front_from p n k [] ys is = absurd cc
front_from p n k (x ∷ xs) ys is = front_step (p x) n k _ _ (front_from p (n + 1) k xs ys) is

-- it is the first of the front list where one passes there
in_front : {X : Type 0} (p : X → Bool) (k : ℕ) (xs ys : List X) → position p xs ≡ Some k → position p (xs ++ ys) ≡ Some k
in_front p k xs ys is = position_from-zero p (xs ++ ys) ∙ front_from p 0 k xs ys (sym (position_from-zero p xs) ∙ is)

here_step : (first : Bool) (n k : ℕ) (rest more : Option ℕ) → (rest ≡ None → more ≡ Some (n + 1 + k)) → cond first (Some n) rest ≡ None → cond first (Some n) more ≡ Some (n + suc k)
here_step true n k rest more h is = absurd cc
here_step false n k rest more h is = let moved : n + 1 + k ≡ n + suc k = grind (arith) in h is ∙ ap Some moved

first_here : (b : Bool) (n : ℕ) (more : Option ℕ) → b ≡ true → cond b (Some n) more ≡ Some n
first_here true n more is = refl
first_here false n more is = absurd cc

here_from : {X : Type 0} (p : X → Bool) (n : ℕ) (xs ys : List X) (y : X) → p y ≡ true → position_from p n xs ≡ None → position_from p n (xs ++ y ∷ ys) ≡ Some (n + length xs)
here_from p n [] ys y passes is = rw add-zero (first_here (p y) n _ passes)
here_from p n (x ∷ xs) ys y passes is = here_step (p x) n (length xs) _ _ (here_from p (n + 1) xs ys y passes) is

-- it stands behind the front list where none passes there and this one does
at_end : {X : Type 0} (p : X → Bool) (xs ys : List X) (y : X) → p y ≡ true → position p xs ≡ None → position p (xs ++ y ∷ ys) ≡ Some (length xs)
at_end p xs ys y passes is =
    position_from-zero p (xs ++ y ∷ ys) ∙ (here_from p 0 xs ys y passes (sym (position_from-zero p xs) ∙ is) ∙ ap Some (zero-add (length xs)))

-- Names

passes_case : (sign : Bool) (a b : List ℕ) → sign ≡ false → a ≡ b → (not sign && bytes_eq a b) ≡ true
passes_case true a b is same = absurd cc
passes_case false a b is same = (bytes_eq-Decides a b).1 same

passes : (text bytes : List ℕ) (word : Word) → is_sign word.kind ≡ false → bytes ≡ spelled text word → spells text bytes word ≡ true
passes text bytes word is same = passes_case (is_sign word.kind) (spelled text word) bytes is (sym same)

name_case : (sign : Bool) (o : Option ℕ) (i k : ℕ) → sign ≡ false → o ≡ Some k → k ≡ (if sign then i else unwrap_or o i)
name_case true o i k is e = absurd cc
name_case false o i k is e = rw e refl

-- the number of a word that was seen
pub found_name : (text bytes : List ℕ) (words rest : List Word) (word : Word) (k i : ℕ) → is_sign word.kind ≡ false → bytes ≡ spelled text word
    → position (spells text bytes) words ≡ Some k → k ≡ name_of text (words ++ word ∷ rest) i word
found_name text bytes words rest word k i sign same is =
    name_case (is_sign word.kind) (position (spells text (spelled text word)) (words ++ word ∷ rest)) i k sign
    (rw (← same) (in_front (spells text bytes) k words (word ∷ rest) is))

-- and of a new one
pub new_name : (text bytes : List ℕ) (words rest : List Word) (word : Word) (i : ℕ) → is_sign word.kind ≡ false → bytes ≡ spelled text word
    → position (spells text bytes) words ≡ None → i ≡ length words → i ≡ name_of text (words ++ word ∷ rest) i word
new_name text bytes words rest word i sign same is own =
    name_case (is_sign word.kind) (position (spells text (spelled text word)) (words ++ word ∷ rest)) i i sign
    (rw (← same) (at_end (spells text bytes) words rest word (passes text bytes word sign same) is ∙ ap Some (sym own)))

not_last : (o : Option ℕ) (n : ℕ) → o ≡ or_last o false n
not_last None n = refl
not_last (Some k) n = refl

seen_case : (last : Bool) (o : Option ℕ) (k n : ℕ) → (last ≡ true → o ≡ Some k) → o ≡ or_last o last n
seen_case true o k n h = rw (h refl) refl
seen_case false o k n h = not_last o n

same_bytes : (sign : Bool) (a b : List ℕ) → (not sign && bytes_eq a b) ≡ true → a ≡ b
same_bytes true a b is = absurd cc
same_bytes false a b is = (bytes_eq-Decides a b).0 is

-- a word that was seen changes no place
pub found_stands : (text own bytes : List ℕ) (words : List Word) (word : Word) (k : ℕ) (before : Option ℕ) → own ≡ spelled text word
    → position (spells text own) words ≡ Some k → before ≡ position (spells text bytes) words → before ≡ position (spells text bytes) (words ++ word ∷ [])
found_stands text own bytes words word k before same is was =
    was ∙ (seen_case (spells text bytes word) (position (spells text bytes) words) k (length words)
    (λ e. ap (λ b. position (spells text b) words) (sym (same ∙ same_bytes (is_sign word.kind) (spelled text word) bytes e)) ∙ is)
    ∙ sym (position_behind (spells text bytes) words word))

new_case : (sign : Bool) (own bytes word : List ℕ) (before there now : Option ℕ) (n : ℕ) → sign ≡ false → own ≡ word → (own ≡ bytes → there ≡ None) → before ≡ there
    → now ≡ cond (bytes_eq own bytes) (Some n) before → now ≡ or_last there (not sign && bytes_eq word bytes) n
new_case true own bytes word before there now n is same none was put = absurd cc
new_case false own bytes word before there now n is same none was put =
    put ∙ (ap (λ b. cond (bytes_eq b bytes) (Some n) before) same ∙ ap (λ o. cond (bytes_eq word bytes) (Some n) o) was
    ∙ last_case (bytes_eq word bytes) there n (λ e. none (same ∙ (bytes_eq-Decides word bytes).0 e)))
  where
    last_case : (b : Bool) (o : Option ℕ) (m : ℕ) → (b ≡ true → o ≡ None) → cond b (Some m) o ≡ or_last o b m
    last_case true o m h = rw (h refl) refl
    last_case false o m h = not_last o m

-- a new word is put at its place
pub new_stands : (text own bytes : List ℕ) (words : List Word) (word : Word) (before now : Option ℕ) → is_sign word.kind ≡ false → own ≡ spelled text word
    → position (spells text own) words ≡ None → before ≡ position (spells text bytes) words → now ≡ cond (bytes_eq own bytes) (Some (length words)) before
    → now ≡ position (spells text bytes) (words ++ word ∷ [])
new_stands text own bytes words word before now sign same is was put =
    new_case (is_sign word.kind) own bytes (spelled text word) before (position (spells text bytes) words) now (length words) sign same
    (λ e. ap (λ b. position (spells text b) words) (sym e) ∙ is) was put
    ∙ sym (position_behind (spells text bytes) words word)

-- The loop over words

abbrev pub nothing : Word
nothing = record { kind = kinds.Value; long = false; start = 0; end = 0 }

parted : (words : List Word) (i : ℕ) (w : Word) → i < length words → take i words ++ get_or words i w ∷ drop (i + 1) words ≡ words
parted words i w within = ap (λ rest. take i words ++ rest) (sym (drop_more words i w within)) ∙ take-append-drop i words

pub front_len : (words : List Word) (i : ℕ) → i < length words → i ≡ length (take i words)
front_len words i within = sym (length-take-le i words (omega arith))

pub named_one : (text : List ℕ) (words : List Word) (i : ℕ) (w : Word) (n : ℕ) → i < length words
    → n ≡ name_of text (take i words ++ get_or words i w ∷ drop (i + 1) words) i (get_or words i w) → n ≡ name_of text words i (get_or words i w)
named_one text words i w n within is = is ∙ ap (λ all. name_of text all i (get_or words i w)) (parted words i w within)

pub named_more : (text : List ℕ) (words : List Word) (found pushed whole : List ℕ) (i : ℕ) (w : Word) (n : ℕ) → i < length words → n ≡ name_of text words i (get_or words i w)
    → pushed ≡ found ++ n ∷ [] → found ++ names_from text words i (drop i words) ≡ whole → pushed ++ names_from text words (i + 1) (drop (i + 1) words) ≡ whole
named_more text words found pushed whole i w n within is put h =
    rw (put, append_assoc, is) (rw (drop_more words i w within) at h)
