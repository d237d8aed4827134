-- Words that spell the same are the same, where both are strings.
use Rattle.std.proofs.Common.{◌≡◌, ℕ, zero, suc, ◌+◌, ◌<◌, Bool, true, false, not, ◌&&◌, List, [], ◌∷◌, ◌++◌, length, map, take, get_or, Option, Some, None, refl, sym, ◌∙◌, ap, arith, if◌then◌else◌}
use Rattle.std.specs.Prelude.{IfSome, position, slice_get}
use Rattle.std.specs.Option.{unwrap_or}
use Rattle.std.specs.Str.{bytes_eq}
use Rattle.std.proofs.lemmas.Slice.Eq.{bytes_eq-Decides}
use Rattle.std.proofs.lemmas.Option.{get_or_from_slice_get, slice_get-get_or}
use Rattle.std.proofs.lemmas.List.{take_more, map-append}
use Rattle.std.proofs.lemmas.List.Quantifiers.{position-Some}
use Rattle.text_grammar.specs.declared.kinds.Kind.{Kind}
use Rattle.text_grammar.specs.declared.kinds.Kind.TheVariants as kinds
use Rattle.text_grammar.specs.declared.words.Word.{Word}
use Rattle.text_events.specs.Spelling.{spelled}
use Rattle.text_events.specs.Names.{is_sign, name_of, names_from, names_of, spells}
use Rattle.text_scopes.specs.declared.bodies.Class.{Class}
use Rattle.text_refusals.specs.Classes.{is_text, word_class}

-- The number of a word

name_at : (text : List ℕ) (all : List Word) (i : ℕ) (words : List Word) (n k : ℕ) (w : Word) → slice_get (names_from text all i words) n ≡ Some k → slice_get words n ≡ Some w
    → k ≡ name_of text all (i + n) w
name_at text all i [] zero k w h is = absurd cc
name_at text all i [] (suc n) k w h is = absurd cc
name_at text all i (v ∷ ws) zero k w h is =
    let name : name_of text all i v ≡ k = cc in
    let same : v ≡ w = cc in
    let e : i + 0 ≡ i = omega arith in
    sym name ∙ ap (name_of text all i) same ∙ ap (λ j. name_of text all j w) (sym e)
name_at text all i (v ∷ ws) (suc n) k w h is = let e : i + 1 + n ≡ i + suc n = omega arith in name_at text all (i + 1) ws n k w h is ∙ ap (λ j. name_of text all j w) e

-- one that is less than the word's own is the place of a word that spells the same
found_before : (sign : Bool) (o : Option ℕ) (i k : ℕ) → k ≡ (if sign then i else unwrap_or o i) → k < i → o ≡ Some k
found_before true o i k is less = absurd (omega arith)
found_before false None i k is less = absurd (omega arith)
found_before false (Some j) i k is less = ap Some (sym is)

same_bytes : (sign : Bool) (a b : List ℕ) → (not sign && bytes_eq a b) ≡ true → a ≡ b
same_bytes true a b is = absurd cc
same_bytes false a b is = (bytes_eq-Decides a b).0 is

spell_same : (text : List ℕ) (all : List Word) (i k : ℕ) (v w : Word) → k ≡ name_of text all i w → k < i → slice_get all k ≡ Some v → spelled text v ≡ spelled text w
spell_same text all i k v w is less at =
    let found : position (spells text (spelled text w)) all ≡ Some k = found_before (is_sign w.kind) _ i k is less in
    let stands = (position-Some (spells text (spelled text w)) all k v found).1 in
    let here : get_or all k v ≡ v = get_or_from_slice_get all k v v at in
    same_bytes (is_sign v.kind) (spelled text v) (spelled text w) (ap (λ x. spells text (spelled text w) x) (sym here) ∙ stands)

-- What it is

class_same : (text : List ℕ) (v w : Word) → is_text v.kind ≡ true → is_text w.kind ≡ true → spelled text v ≡ spelled text w → word_class text v ≡ word_class text w
class_same text v w a b e = rw (a, b, e) refl

mapped : (text : List ℕ) (words : List Word) (i k : ℕ) (c : Class) (v : Word) → slice_get (map (word_class text) (take i words)) k ≡ Some c → slice_get words k ≡ Some v → c ≡ word_class text v
mapped text [] i zero c v h is = absurd cc
mapped text [] i (suc k) c v h is = absurd cc
mapped text (w ∷ ws) zero zero c v h is = absurd cc
mapped text (w ∷ ws) zero (suc k) c v h is = absurd cc
mapped text (w ∷ ws) (suc i) zero c v h is = let class : word_class text w ≡ c = cc in let same : w ≡ v = cc in sym class ∙ ap (word_class text) same
mapped text (w ∷ ws) (suc i) (suc k) c v h is = mapped text ws i k c v h is

pub as_before : (text : List ℕ) (words : List Word) (names : List ℕ) (classes : List Class) (i k : ℕ) (d v : Word) (c : Class) → names ≡ names_of text words
    → classes ≡ map (word_class text) (take i words) → i < length words → is_text (get_or words i d).kind ≡ true → slice_get names i ≡ Some k → k < i → slice_get words k ≡ Some v
    → is_text v.kind ≡ true → slice_get classes k ≡ Some c → c ≡ word_class text (get_or words i d)
as_before text words names classes i k d v c n cs within own name less at first class =
    let w : Word = get_or words i d in
    let here : slice_get words i ≡ Some w = slice_get-get_or words i d within in
    let z : 0 + i ≡ i = omega arith in
    let is : k ≡ name_of text words i w = name_at text words 0 words i k w (ap (λ ns. slice_get ns i) (sym n) ∙ name) here ∙ ap (λ j. name_of text words j w) z in
    mapped text words i k c v (ap (λ xs. slice_get xs k) (sym cs) ∙ class) at ∙ class_same text v w first own (spell_same text words i k v w is less at)

pub some_before : (text : List ℕ) (words : List Word) (names : List ℕ) (classes : List Class) (i k : ℕ) (d v : Word) (o : Option Class) → names ≡ names_of text words
    → classes ≡ map (word_class text) (take i words) → i < length words → is_text (get_or words i d).kind ≡ true → slice_get names i ≡ Some k → k < i → slice_get words k ≡ Some v
    → is_text v.kind ≡ true → o ≡ slice_get classes k → IfSome o (λ c. c ≡ word_class text (get_or words i d))
some_before text words names classes i k d v None n cs within own name less at first is = tt
some_before text words names classes i k d v (Some c) n cs within own name less at first is = as_before text words names classes i k d v c n cs within own name less at first (sym is)

pub class_next : (text : List ℕ) (words : List Word) (found pushed : List Class) (class : Class) (i : ℕ) (d : Word) → i < length words → found ≡ map (word_class text) (take i words)
    → class ≡ word_class text (get_or words i d) → pushed ≡ found ++ class ∷ [] → pushed ≡ map (word_class text) (take (i + 1) words)
class_next text words found pushed class i d within so_far is put =
    put ∙ ap (λ cs. cs ++ class ∷ []) so_far ∙ ap (λ c. map (word_class text) (take i words) ++ c ∷ []) is
    ∙ sym (map-append (word_class text) (take i words) (get_or words i d ∷ [])) ∙ ap (map (word_class text)) (sym (take_more words i d within))
