-- Of each text something is found: words, and where looking at them ends.
use Rattle.std.proofs.Common.{◌≡◌, ℕ, zero, suc, ◌+◌, ◌-◌, ◌<◌, ◌≤◌, Bool, true, false, List, [], ◌∷◌, length, take, drop, map, Option, Some, None, Result, Ok, Err, refl, arith, length-drop}
use Rattle.std.specs.Prelude.{◌==◌, if◌then◌else◌}
use Rattle.std.proofs.lemmas.List.{length-take-le}
use Rattle.mlir_lex.specs.declared.Token.{Token}
use Rattle.mlir_lex.specs.declared.LexFault.{LexFault}
use Rattle.mlir_lex.specs.Scan.{outcome}
use Rattle.mlir_lex.specs.Text.{next_of}
use Rattle.mlir_lex.proofs.Once.{lexes_some}
use Rattle.line_grammar.specs.Language.{events}
use Rattle.line_grammar.specs.Machine.{run, whole}
use Rattle.text_grammar.specs.declared.cuts.Mode.{Mode}
use Rattle.text_grammar.specs.declared.cuts.Mode.TheVariants.{Plain}
use Rattle.text_grammar.specs.declared.words.Word.{Word}
use Rattle.text_grammar.specs.declared.places.Place.{Place}
use Rattle.text_grammar.specs.Table.{generic}
use Rattle.text_grammar.specs.Text.{start}
use Rattle.text_grammar.specs.Steps.{Looked, kind_of}
use Rattle.text_grammar.specs.Words.{AreWords, IsFirst, WordsFrom, cut_len, mode_behind, part_len, piece_of, word_of}
use Rattle.text_grammar.proofs.WordLemmas.{first_given}
use Rattle.text_events.specs.declared.look.Refusal.{Refusal}
use Rattle.text_events.specs.Language.{named, nothing_before}
use Rattle.text_events.specs.Looking.{first_refusal}
use Rattle.text_events.specs.Names.{names_from, names_of}
use Rattle.text_events.proofs.LanguageLemmas.{begun, found, ran, refused}
use Rattle.text_refusals.specs.Refusing.{Seen, IsSeen}

-- Words

record SomeWords (mode : Mode) (at : ℕ) (text : List ℕ) : Type 0 where
  words : List Word
  fault : Option LexFault
  are : WordsFrom mode at text words fault

not_zero : (n : ℕ) → (n == 0) ≡ false → 0 < n
not_zero zero e = absurd cc
not_zero (suc n) e = omega arith

one_of : (b : Bool) (part piece : ℕ) → (b ≡ false → 0 < part) → 0 < piece → 0 < (if b then piece else part)
one_of true part piece h k = k
one_of false part piece h k = h refl

piece_length : (text : List ℕ) (t : Token) → t.start < t.end → t.end ≤ length text → 0 < length (piece_of text t)
piece_length text t order within =
    let rest : length (drop t.start text) ≡ length text - t.start = length-drop t.start text in
    let all : length (take (t.end - t.start) (drop t.start text)) ≡ t.end - t.start = length-take-le (t.end - t.start) (drop t.start text) (omega (arith, rest, order, within)) in
    omega (arith, all, order)

-- a word has some bytes
end_past : (mode : Mode) (at : ℕ) (text : List ℕ) (t : Token) → t.start < t.end → t.end ≤ length text → at < (word_of mode t.kind (piece_of text t) (at + t.start)).end
unfolding word_of cut_len
end_past mode at text t order within =
    let part = part_len mode t.kind (piece_of text t) in
    let some : 0 < (if part == 0 then length (piece_of text t) else part) = one_of (part == 0) part (length (piece_of text t)) (not_zero part) (piece_length text t order within) in
    omega (arith, some)

shorter : (n fuel : ℕ) (text : List ℕ) → 0 < n → 0 < length text → length text ≤ fuel → suc (length (drop n text)) ≤ fuel
shorter n fuel text h some enough = let e : length (drop n text) ≡ length text - n = length-drop n text in omega (arith, e, h, some, enough)

abbrev Again : ℕ → Type 0
Again fuel = (mode : Mode) (at : ℕ) (text : List ℕ) → suc (length text) ≤ fuel → SomeWords mode at text

from_first : (fuel : ℕ) (mode : Mode) (at : ℕ) (text : List ℕ) (r : Result (Option Token) LexFault) → IsFirst text r → length text ≤ fuel → Again fuel → SomeWords mode at text
unfolding WordsFrom
from_first fuel mode at text (Ok None) gap enough again = record { words = []; fault = None; are = gap }
from_first fuel mode at text (Err fault) (fails, inside) enough again = record {
  words = [];
  fault = Some (record { place = at + fault.place; kind = fault.kind });
  are = record { here = fault; fails = fails; is = refl };
}
from_first fuel mode at text (Ok (Some t)) (behind, begins, order, within) enough again =
    let w : Word = word_of mode t.kind (piece_of text t) (at + t.start) in
    let past : at < w.end = end_past mode at text t order within in
    let rest : SomeWords (mode_behind mode w.kind) w.end (drop (w.end - at) text) =
    again (mode_behind mode w.kind) w.end (drop (w.end - at) text) (shorter (w.end - at) fuel text (omega (arith, past)) (omega (arith, order, within)) enough) in
    record { words = w ∷ rest.words; fault = rest.fault; are = (record { token = t; behind = behind; begins = begins; is = refl }, rest.are) }

words_some : (fuel : ℕ) → (mode : Mode) (at : ℕ) (text : List ℕ) → length text ≤ fuel → SomeWords mode at text
words_some zero mode at text enough =
    from_first zero mode at text (next_of (outcome 0 0 text)) (first_given text (outcome 0 0 text) (next_of (outcome 0 0 text)) (lexes_some text) refl) enough (λ m a x h. absurd (omega (arith, h)))
words_some (suc fuel) mode at text enough =
    from_first (suc fuel) mode at text (next_of (outcome 0 0 text)) (first_given text (outcome 0 0 text) (next_of (outcome 0 0 text)) (lexes_some text) refl) enough
    (λ m a x h. words_some fuel m a x (omega (arith, h)))

cut_some : (text : List ℕ) (some : SomeWords Plain 0 text) → AreWords text some.words some.fault
unfolding AreWords
cut_some text some = some.are

-- What is found

names_length : (text : List ℕ) (all : List Word) (i : ℕ) (words : List Word) → length words ≡ length (names_from text all i words)
names_length text all i [] = refl
names_length text all i (w ∷ ws) = let e : length ws ≡ length (names_from text all (i + 1) ws) = names_length text all (i + 1) ws in omega (arith, e)

looked : (words : List Word) → Looked (run generic start (map kind_of words)).0 (whole generic (run generic start (map kind_of words))) words
looked words = record { taken = refl; is = refl }

seen_at : (text : List ℕ) (words : List Word) (fault : Option LexFault) (places : List Place) (is_whole : Bool) (refusal : Option Refusal) → AreWords text words fault → Looked places is_whole words
    → refusal ≡ first_refusal nothing_before (events places (named words (names_of text words)))
    → IsSeen text (record { words = words; fault = fault; places = places; whole = is_whole; refusal = refusal })
seen_at text words fault places is_whole refusal are form first =
    let r = ran places is_whole words (names_of text words) (names_length text words 0 words) form in
    record { words = are; form = form; refusal = first; found = found refusal r first; refused = refused refusal r first; begun = begun refusal r first }

pub record SomeSeen (text : List ℕ) : Type 0 where
  pub seen : Seen
  pub is : IsSeen text seen

pub seen_some : (text : List ℕ) → SomeSeen text
seen_some text =
    let some : SomeWords Plain 0 text = words_some (length text) Plain 0 text (omega arith) in
    let places : List Place = (run generic start (map kind_of some.words)).0 in
    let refusal : Option Refusal = first_refusal nothing_before (events places (named some.words (names_of text some.words))) in
    record {
      seen = record { words = some.words; fault = some.fault; places = places; whole = whole generic (run generic start (map kind_of some.words)); refusal = refusal };
      is = seen_at text some.words some.fault places (whole generic (run generic start (map kind_of some.words))) refusal (cut_some text some) (looked some.words) refl;
    }
