-- The names of aliases of types and of attributes differ, since the words of the ones begin with `!` and those of the others with `#`.
use Rattle.std.proofs.Common.{◌≡◌, ℕ, zero, suc, ◌+◌, ◌-◌, ◌==◌, Bool, true, false, List, [], ◌∷◌, ◌++◌, map, length, take, drop, Option, Some, None, cond, refl, sym, ap, ◌∙◌, subst, true≢false, arith, append_assoc, length-append}
use Rattle.std.specs.Prelude.{position, slice_get, not, codes, ◌&&◌, ◌||◌, if◌then◌else◌}
use Rattle.std.specs.Option.{unwrap_or}
use Rattle.std.specs.List.{position_from}
use Rattle.std.specs.Str.{bytes_eq}
use Rattle.std.specs.List.{list_all}
use Rattle.mlir_lex.specs.Bytes.{is_digit}
use Rattle.std.proofs.lemmas.Slice.Eq.{bytes_eq-Decides}
use Rattle.std.proofs.lemmas.Iterator.Adapters.{position_from-zero}
use Rattle.std.proofs.lemmas.List.{drop-drop}
use Rattle.std.proofs.lemmas.Bool.{eqb-true}
use Rattle.mlir_lex.specs.declared.LexFault.{LexFault}
use Rattle.mlir_lex.specs.declared.Token.{Token}
use Rattle.mlir_lex.specs.declared.TokenKind.{TokenKind}
use Rattle.mlir_lex.specs.declared.TokenKind.TheVariants as token
use Rattle.mlir_lex.specs.Text.{BeginsWith}
use Rattle.mlir_lex.specs.Tokens.{IsName, IsToken}
use Rattle.text_grammar.specs.declared.cuts.Mode.{Mode}
use Rattle.text_grammar.specs.declared.cuts.Mode.TheVariants.{By, Plain}
use Rattle.text_grammar.specs.declared.kinds.Kind.{Kind}
use Rattle.text_grammar.specs.declared.kinds.Kind.TheVariants as kinds
use Rattle.text_grammar.specs.declared.places.Place.{Place}
use Rattle.text_grammar.specs.declared.places.Place.TheVariants as places
use Rattle.text_grammar.specs.declared.words.Word.{Word}
use Rattle.text_grammar.specs.Places.{fits_at}
use Rattle.text_grammar.specs.Steps.{kind_of}
use Rattle.text_grammar.specs.TokenKinds.{has_dot, is_integer_type, bare_kind, bracket_kind, hash_kind, sign_kind, token_kind, type_kind, type_word}
use Rattle.text_grammar.specs.Words.{AreWords, HasWord, WordsFrom, cut_kind, cut_len, mode_behind, part_kind, part_len, piece_of, word_of}
use Rattle.text_events.specs.declared.event.Event.{Event}
use Rattle.text_events.specs.Names.{is_sign, name_of, names_from, spells}
use Rattle.text_events.specs.Source.{events_from, is_own, spelled_of, spelled_or}
use Rattle.text_events.specs.Spelling.{core, piece, spelled, unescaped}

-- Kinds of words

abbrev pub is_bang : Kind → Bool
is_bang kinds.TypeName = true
is_bang _ = false

abbrev pub is_hash : Kind → Bool
is_hash kinds.HashName = true
is_hash kinds.HashNumber = true
is_hash _ = false

-- one of the two
abbrev is_either : Kind → Bool
is_either k = is_bang k || is_hash k

word_not : (piece : List ℕ) → is_either (type_word piece) ≡ false
unfolding type_word
word_not piece = by_case (bytes_eq piece (codes "i8") || bytes_eq piece (codes "i16") || bytes_eq piece (codes "i32") || bytes_eq piece (codes "i64")) (bytes_eq piece (codes "index") || is_integer_type piece) (bytes_eq piece (codes "memref")) (bytes_eq piece (codes "array")) (bytes_eq piece (codes "ptr") || bytes_eq piece (codes "void")) (bytes_eq piece (codes "struct")) (bytes_eq piece (codes "func"))
  where
    by_case : (a b c d e f g : Bool) → is_either (if a then kinds.WordWidth else if b then kinds.WordInteger else if c then kinds.WordMemref else if d then kinds.WordArray else if e then kinds.WordPlain else if f then kinds.WordStruct else if g then kinds.WordFunction else kinds.Word) ≡ false
    by_case true b c d e f g = refl
    by_case false true c d e f g = refl
    by_case false false true d e f g = refl
    by_case false false false true e f g = refl
    by_case false false false false true f g = refl
    by_case false false false false false true g = refl
    by_case false false false false false false true = refl
    by_case false false false false false false false = refl

bare_not : (piece : List ℕ) → is_either (bare_kind piece) ≡ false
unfolding bare_kind
bare_not piece = by_case (bytes_eq piece (codes "x")) (bytes_eq piece (codes "loc")) (bytes_eq piece (codes "unknown")) (bytes_eq piece (codes "true") || bytes_eq piece (codes "false")) (type_word piece) (word_not piece)
  where
    by_case : (a b c d : Bool) (rest : Kind) → is_either rest ≡ false → is_either (if a then kinds.WordX else if b then kinds.WordLoc else if c then kinds.WordUnknown else if d then kinds.WordBool else rest) ≡ false
    by_case true b c d rest ok = refl
    by_case false true c d rest ok = refl
    by_case false false true d rest ok = refl
    by_case false false false true rest ok = refl
    by_case false false false false rest ok = ok

bracket_not : (piece : List ℕ) → is_either (bracket_kind piece) ≡ false
unfolding bracket_kind
bracket_not piece = by_case (bytes_eq piece (codes "(")) (bytes_eq piece (codes ")")) (bytes_eq piece (codes "[")) (bytes_eq piece (codes "]")) (bytes_eq piece (codes "{")) (bytes_eq piece (codes "}")) (bytes_eq piece (codes "<"))
  where
    by_case : (a b c d e f g : Bool) → is_either (if a then kinds.OpenParen else if b then kinds.CloseParen else if c then kinds.OpenSquare else if d then kinds.CloseSquare else if e then kinds.OpenBrace else if f then kinds.CloseBrace else if g then kinds.Less else kinds.Greater) ≡ false
    by_case true b c d e f g = refl
    by_case false true c d e f g = refl
    by_case false false true d e f g = refl
    by_case false false false true e f g = refl
    by_case false false false false true f g = refl
    by_case false false false false false true g = refl
    by_case false false false false false false true = refl
    by_case false false false false false false false = refl

sign_not : (piece : List ℕ) → is_either (sign_kind piece) ≡ false
unfolding sign_kind
sign_not piece = by_case (bytes_eq piece (codes ",")) (bytes_eq piece (codes ":")) (bytes_eq piece (codes "=")) (bytes_eq piece (codes "?")) (bytes_eq piece (codes "-")) (bytes_eq piece (codes "->")) (bytes_eq piece (codes "::")) (bracket_kind piece) (bracket_not piece)
  where
    by_case : (a b c d e f g : Bool) (rest : Kind) → is_either rest ≡ false → is_either (if a then kinds.Comma else if b then kinds.Colon else if c then kinds.Equals else if d then kinds.Question else if e then kinds.Minus else if f then kinds.Arrow else if g then kinds.DoubleColon else rest) ≡ false
    by_case true b c d e f g rest ok = refl
    by_case false true c d e f g rest ok = refl
    by_case false false true d e f g rest ok = refl
    by_case false false false true e f g rest ok = refl
    by_case false false false false true f g rest ok = refl
    by_case false false false false false true g rest ok = refl
    by_case false false false false false false true rest ok = refl
    by_case false false false false false false false rest ok = ok

hash_no_bang : (piece : List ℕ) → is_bang (hash_kind piece) ≡ false
unfolding hash_kind
hash_no_bang piece = by_case (list_all is_digit (drop 1 piece)) (has_dot piece)
  where
    by_case : (a b : Bool) → is_bang (if a then kinds.HashNumber else if b then kinds.HashDotted else kinds.HashName) ≡ false
    by_case true b = refl
    by_case false true = refl
    by_case false false = refl

type_no_hash : (piece : List ℕ) → is_hash (type_kind piece) ≡ false
unfolding type_kind
type_no_hash piece = by_case (bytes_eq piece (codes "!llvm.ptr") || bytes_eq piece (codes "!llvm.void")) (bytes_eq piece (codes "!llvm.struct")) (bytes_eq piece (codes "!llvm.array")) (bytes_eq piece (codes "!llvm.func")) (has_dot piece)
  where
    by_case : (a b c d e : Bool) → is_hash (if a then kinds.TypePlain else if b then kinds.TypeStruct else if c then kinds.TypeArray else if d then kinds.TypeFunction else if e then kinds.TypeDotted else kinds.TypeName) ≡ false
    by_case true b c d e = refl
    by_case false true c d e = refl
    by_case false false true d e = refl
    by_case false false false true e = refl
    by_case false false false false true = refl
    by_case false false false false false = refl

no_first : (a b : Bool) → (a || b) ≡ false → a ≡ false
no_first true b h = h
no_first false b h = refl

no_second : (a b : Bool) → (a || b) ≡ false → b ≡ false
no_second true b h = absurd (true≢false h)
no_second false b h = h

-- a test that none of the kinds of bare identifiers, signs and other tokens passes
pub record Apart (test : Kind → Bool) : Type 0 where
  pub bare : (piece : List ℕ) → test (bare_kind piece) ≡ false
  pub sign : (piece : List ℕ) → test (sign_kind piece) ≡ false
  pub part : (mode : Mode) → test (part_kind mode) ≡ false
  pub value : test kinds.Value ≡ false
  pub label : test kinds.Label ≡ false
  pub symbol : test kinds.SymbolName ≡ false
  pub text : test kinds.Text ≡ false
  pub number : test kinds.Number ≡ false

part_bang : (mode : Mode) → is_bang (part_kind mode) ≡ false
part_bang By = refl
part_bang _ = refl

part_hash : (mode : Mode) → is_hash (part_kind mode) ≡ false
part_hash By = refl
part_hash _ = refl

apart_bang : Apart is_bang
apart_bang = record { bare = λ piece. no_first (is_bang (bare_kind piece)) (is_hash (bare_kind piece)) (bare_not piece); sign = λ piece. no_first (is_bang (sign_kind piece)) (is_hash (sign_kind piece)) (sign_not piece); part = part_bang; value = refl; label = refl; symbol = refl; text = refl; number = refl }

apart_hash : Apart is_hash
apart_hash = record { bare = λ piece. no_second (is_bang (bare_kind piece)) (is_hash (bare_kind piece)) (bare_not piece); sign = λ piece. no_second (is_bang (sign_kind piece)) (is_hash (sign_kind piece)) (sign_not piece); part = part_hash; value = refl; label = refl; symbol = refl; text = refl; number = refl }

never : {X : Type 0} {b : Bool} → b ≡ false → b ≡ true → X
never f t = absurd (true≢false (sym t ∙ f))

-- what such a word is cut from
token_bang : (tk : TokenKind) (piece : List ℕ) → is_bang (token_kind tk piece) ≡ true → tk ≡ token.TypeName
unfolding token_kind
token_bang token.Bare piece h = never (apart_bang.bare piece) h
token_bang token.ValueName piece h = never apart_bang.value h
token_bang token.BlockName piece h = never apart_bang.label h
token_bang token.AttrName piece h = never (hash_no_bang piece) h
token_bang token.TypeName piece h = refl
token_bang token.SymbolName piece h = never apart_bang.symbol h
token_bang token.Text piece h = never apart_bang.text h
token_bang token.Number piece h = never apart_bang.number h
token_bang token.Sign piece h = never (apart_bang.sign piece) h

token_hash : (tk : TokenKind) (piece : List ℕ) → is_hash (token_kind tk piece) ≡ true → tk ≡ token.AttrName
unfolding token_kind
token_hash token.Bare piece h = never (apart_hash.bare piece) h
token_hash token.ValueName piece h = never apart_hash.value h
token_hash token.BlockName piece h = never apart_hash.label h
token_hash token.AttrName piece h = refl
token_hash token.TypeName piece h = never (type_no_hash piece) h
token_hash token.SymbolName piece h = never apart_hash.symbol h
token_hash token.Text piece h = never apart_hash.text h
token_hash token.Number piece h = never apart_hash.number h
token_hash token.Sign piece h = never (apart_hash.sign piece) h

uncut : (test : Kind → Bool) → Apart test → (mode : Mode) (tk : TokenKind) (piece : List ℕ) → test (cut_kind mode tk piece) ≡ true → test (token_kind tk piece) ≡ true
unfolding cut_kind
uncut test a mode tk piece h = by_test (part_len mode tk piece == 0) h
  where
    by_test : (b : Bool) → test (if b then token_kind tk piece else part_kind mode) ≡ true → test (token_kind tk piece) ≡ true
    by_test true h = h
    by_test false h = never (a.part mode) h

some_len : (mode : Mode) (tk : TokenKind) (b : ℕ) (bs : List ℕ) → (n : ℕ) × (cut_len mode tk (b ∷ bs) ≡ suc n)
unfolding cut_len
some_len mode tk b bs = by_len (part_len mode tk (b ∷ bs))
  where
    by_len : (k : ℕ) → (n : ℕ) × ((if k == 0 then suc (length bs) else k) ≡ suc n)
    by_len zero = (length bs, refl)
    by_len (suc k) = (k, ap (λ (t : Bool). if t then suc (length bs) else suc k) (not_zero k))
      where
        not_zero : (k : ℕ) → (suc k == 0) ≡ false
        not_zero k = by_test (suc k == 0) refl
          where
            by_test : (b : Bool) → (suc k == 0) ≡ b → (suc k == 0) ≡ false
            by_test true e = absurd (omega (arith, eqb-true (suc k) 0 e))
            by_test false e = e

-- its bytes begin with the sign

pub record Signed (sign : ℕ) (bytes : List ℕ) : Type 0 where
  pub more : List ℕ
  pub is : bytes ≡ sign ∷ more

bang_bytes : (tk : TokenKind) (front : List ℕ) → tk ≡ token.TypeName → IsToken tk front → Signed 33 front
unfolding IsToken IsName
bang_bytes token.TypeName front e (s, is, more) = record { more = s; is = is }
bang_bytes token.Bare front e h = absurd cc
bang_bytes token.ValueName front e h = absurd cc
bang_bytes token.BlockName front e h = absurd cc
bang_bytes token.AttrName front e h = absurd cc
bang_bytes token.SymbolName front e h = absurd cc
bang_bytes token.Text front e h = absurd cc
bang_bytes token.Number front e h = absurd cc
bang_bytes token.Sign front e h = absurd cc

hash_bytes : (tk : TokenKind) (front : List ℕ) → tk ≡ token.AttrName → IsToken tk front → Signed 35 front
unfolding IsToken IsName
hash_bytes token.AttrName front e (s, is, more) = record { more = s; is = is }
hash_bytes token.Bare front e h = absurd cc
hash_bytes token.ValueName front e h = absurd cc
hash_bytes token.BlockName front e h = absurd cc
hash_bytes token.TypeName front e h = absurd cc
hash_bytes token.SymbolName front e h = absurd cc
hash_bytes token.Text front e h = absurd cc
hash_bytes token.Number front e h = absurd cc
hash_bytes token.Sign front e h = absurd cc

behind_front : (gap rest : List ℕ) → drop (length gap) (gap ++ rest) ≡ rest
behind_front [] rest = refl
behind_front (b ∷ bs) rest = behind_front bs rest

front_only : (front rest : List ℕ) → take (length front) (front ++ rest) ≡ front
front_only [] rest = refl
front_only (b ∷ bs) rest = ap (λ xs. b ∷ xs) (front_only bs rest)

module _ (text rest behind : List ℕ) (at : ℕ) (t : Token) (mode : Mode) (w : Word) (begins : BeginsWith 0 rest t behind) (there : rest ≡ drop at text) (is : w ≡ word_of mode t.kind (piece_of rest t) (at + t.start)) where
  rest_from : drop t.start rest ≡ begins.piece ++ behind
  rest_from = let e : t.start ≡ length begins.gap = omega (arith, begins.start) in ap (λ n. drop n rest) e ∙ ap (drop (length begins.gap)) begins.whole ∙ behind_front begins.gap (begins.piece ++ behind)

  own_piece : piece_of rest t ≡ begins.piece
  own_piece =
      let n : t.end - t.start ≡ length begins.piece = omega (arith, begins.end) in
      ap (λ n. take n (drop t.start rest)) n ∙ ap (take (length begins.piece)) rest_from ∙ front_only begins.piece behind

  pub kind_is : w.kind ≡ cut_kind mode t.kind begins.piece
  unfolding word_of
  kind_is = ap (λ (x : Word). x.kind) is ∙ ap (cut_kind mode t.kind) own_piece

  pub start_is : w.start ≡ at + t.start
  unfolding word_of
  start_is = ap (λ (x : Word). x.start) is

  pub end_is : w.end ≡ at + t.start + cut_len mode t.kind begins.piece
  unfolding word_of
  end_is = ap (λ (x : Word). x.end) is ∙ ap (λ p. at + t.start + cut_len mode t.kind p) own_piece

  pub signed_word : (sign : ℕ) → Signed sign begins.piece → Signed sign (piece text w)
  signed_word sign s =
      let l = some_len mode t.kind sign s.more in
      let len : cut_len mode t.kind begins.piece ≡ suc l.0 = ap (cut_len mode t.kind) s.is ∙ l.1 in
      let width : w.end - w.start ≡ suc l.0 = omega (arith, start_is, end_is, len) in
      let from : drop w.start text ≡ sign ∷ (s.more ++ behind) = ap (λ n. drop n text) start_is ∙ sym (drop-drop t.start at text) ∙ ap (drop t.start) (sym there) ∙ rest_from ∙ ap (λ xs. xs ++ behind) s.is in
      record { more = take l.0 (s.more ++ behind); is = ap (λ n. take n (drop w.start text)) width ∙ ap (take (suc l.0)) from }

-- what words spell

abbrev pub starts : ℕ → List ℕ → Bool
starts sign [] = false
starts sign (b ∷ bs) = b == sign

bang_spelled : (k : Kind) (bytes : List ℕ) → is_bang k ≡ true → Signed 33 bytes → starts 33 (unescaped (core k bytes)) ≡ true
unfolding core
bang_spelled kinds.TypeName bytes h s = ap (λ xs. starts 33 (unescaped xs)) s.is
bang_spelled _ bytes h s = absurd (true≢false (sym h))

hash_spelled : (k : Kind) (bytes : List ℕ) → is_hash k ≡ true → Signed 35 bytes → starts 33 (unescaped (core k bytes)) ≡ false
unfolding core
hash_spelled kinds.HashName bytes h s = ap (λ xs. starts 33 (unescaped xs)) s.is
hash_spelled kinds.HashNumber bytes h s = ap (λ xs. starts 33 (unescaped xs)) s.is
hash_spelled _ bytes h s = absurd (true≢false (sym h))

-- of a word of a text
pub record Spelt (text : List ℕ) (w : Word) : Type 0 where
  pub bang : is_bang w.kind ≡ true → starts 33 (spelled text w) ≡ true
  pub hash : is_hash w.kind ≡ true → starts 33 (spelled text w) ≡ false

spelt_word : (text rest : List ℕ) (at : ℕ) (mode : Mode) (w : Word) → rest ≡ drop at text → HasWord mode at rest w → Spelt text w
unfolding spelled
spelt_word text rest at mode w there has = record {
  bang = λ h. bang_spelled w.kind (piece text w) h (signed_word text rest has.behind at has.token mode w has.begins there has.is 33
      (bang_bytes has.token.kind has.begins.piece (token_bang has.token.kind has.begins.piece (uncut is_bang apart_bang mode has.token.kind has.begins.piece (sym (ap is_bang (kind_is text rest has.behind at has.token mode w has.begins there has.is)) ∙ h))) has.begins.longest.is));
  hash = λ h. hash_spelled w.kind (piece text w) h (signed_word text rest has.behind at has.token mode w has.begins there has.is 35
      (hash_bytes has.token.kind has.begins.piece (token_hash has.token.kind has.begins.piece (uncut is_hash apart_hash mode has.token.kind has.begins.piece (sym (ap is_hash (kind_is text rest has.behind at has.token mode w has.begins there has.is)) ∙ h))) has.begins.longest.is));
}

abbrev pub AllSpelt : List ℕ → List Word → Type 0
AllSpelt text [] = Unit {0}
AllSpelt text (w ∷ ws) = Spelt text w × AllSpelt text ws

from_words : (text : List ℕ) (ws : List Word) (rest : List ℕ) (at : ℕ) (mode : Mode) (fault : Option LexFault) → rest ≡ drop at text → WordsFrom mode at rest ws fault → AllSpelt text ws
unfolding WordsFrom
from_words text [] rest at mode fault there h = tt
from_words text (w ∷ ws) rest at mode fault there h =
    let has = h.0 in
    let e = end_is text rest has.behind at has.token mode w has.begins there has.is in
    let on : at + (w.end - at) ≡ w.end = omega (arith, e) in
    (spelt_word text rest at mode w there has, from_words text ws (drop (w.end - at) rest) w.end (mode_behind mode w.kind) fault (ap (drop (w.end - at)) there ∙ drop-drop (w.end - at) at text ∙ ap (λ n. drop n text) on) h.1)

pub all_spelt : (text : List ℕ) (ws : List Word) (fault : Option LexFault) → AreWords text ws fault → AllSpelt text ws
unfolding AreWords
all_spelt text ws fault h = from_words text ws text 0 Plain fault refl h

-- Names

record At (test : Word → Bool) (ws : List Word) (n k : ℕ) : Type 0 where
  index : ℕ
  is : k ≡ n + index
  word : Word
  there : slice_get ws index ≡ Some word
  passes : test word ≡ true

found_at : (test : Word → Bool) (ws : List Word) (n k : ℕ) → position_from test n ws ≡ Some k → At test ws n k
found_at test [] n k h = absurd cc
found_at test (w ∷ ws) n k h = by_test (test w) refl h (λ g. found_at test ws (n + 1) k g)
  where
    by_test : (b : Bool) → test w ≡ b → cond b (Some n) (position_from test (n + 1) ws) ≡ Some k → (position_from test (n + 1) ws ≡ Some k → At test ws (n + 1) k) → At test (w ∷ ws) n k
    by_test true e h deep = let same : n ≡ k = cc in record { index = 0; is = omega (arith, same); word = w; there = refl; passes = e }
    by_test false e h deep = let r = deep h in record { index = suc r.index; is = omega (arith, r.is); word = r.word; there = r.there; passes = r.passes }

in_slice : {X : Type 0} (xs : List X) (y : X) (ys : List X) → slice_get (xs ++ y ∷ ys) (length xs) ≡ Some y
in_slice [] y ys = refl
in_slice (x ∷ xs) y ys = in_slice xs y ys

same_bytes : (sign : Bool) (a b : List ℕ) → (not sign && bytes_eq a b) ≡ true → a ≡ b
same_bytes true a b is = absurd cc
same_bytes false a b is = (bytes_eq-Decides a b).0 is

-- the name of a word spells what the word spells
name_spells : (text : List ℕ) (before : List Word) (w : Word) (ws : List Word) (i : ℕ) → i ≡ length before → spelled_of text (before ++ w ∷ ws) (name_of text (before ++ w ∷ ws) i w) ≡ spelled text w
name_spells text before w ws i e = by_sign (is_sign w.kind)
  where
    all : List Word
    all = before ++ w ∷ ws

    own : spelled_of text (before ++ w ∷ ws) i ≡ spelled text w
    own = ap (λ n. spelled_or text (slice_get (before ++ w ∷ ws) n)) e ∙ ap (spelled_or text) (in_slice before w ws)

    by_found : (o : Option ℕ) → position (spells text (spelled text w)) (before ++ w ∷ ws) ≡ o → spelled_of text (before ++ w ∷ ws) (unwrap_or o i) ≡ spelled text w
    by_found None h = own
    by_found (Some k) h =
        let r = found_at (spells text (spelled text w)) (before ++ w ∷ ws) 0 k (sym (position_from-zero (spells text (spelled text w)) (before ++ w ∷ ws)) ∙ h) in
        let at : k ≡ r.index = omega (arith, r.is) in
        ap (λ n. spelled_or text (slice_get (before ++ w ∷ ws) n)) at ∙ ap (spelled_or text) r.there ∙ same_bytes (is_sign r.word.kind) (spelled text r.word) (spelled text w) r.passes

    by_sign : (b : Bool) → spelled_of text (before ++ w ∷ ws) (if b then i else unwrap_or (position (spells text (spelled text w)) (before ++ w ∷ ws)) i) ≡ spelled text w
    by_sign true = own
    by_sign false = by_found (position (spells text (spelled text w)) (before ++ w ∷ ws)) refl

-- Events

-- where an alias of a type has its name
abbrev pub names_type : Place → Bool
names_type places.TypeAlias = true
names_type places.ElementAlias = true
names_type places.TypeAliasName = true
names_type _ = false

-- the test tells names of types from those of attributes
abbrev pub AreApart : (ℕ → Bool) → List Event → Type 0
AreApart test [] = Unit {0}
AreApart test (e ∷ es) = (names_type e.place ≡ true → test e.name ≡ true) × (e.place ≡ places.AttrAliasName → test e.name ≡ false) × AreApart test es

pub type_not_own : (p : Place) → names_type p ≡ true → is_own p ≡ false
type_not_own places.TypeAlias h = refl
type_not_own places.ElementAlias h = refl
type_not_own places.TypeAliasName h = refl
type_not_own _ h = absurd (true≢false (sym h))

type_kinds : (p : Place) (k : Kind) → names_type p ≡ true → fits_at p k ≡ true → is_bang k ≡ true
type_kinds places.TypeAlias kinds.TypeName h f = refl
type_kinds places.TypeAlias _ h f = f
type_kinds places.ElementAlias kinds.TypeName h f = refl
type_kinds places.ElementAlias _ h f = f
type_kinds places.TypeAliasName kinds.TypeName h f = refl
type_kinds places.TypeAliasName _ h f = f
type_kinds _ k h f = absurd (true≢false (sym h))

attr_kinds : (k : Kind) → fits_at places.AttrAliasName k ≡ true → is_hash k ≡ true
attr_kinds kinds.HashName f = refl
attr_kinds kinds.HashNumber f = refl
attr_kinds _ f = f

-- each kind fits its place
abbrev pub AllFit : List Place → List Kind → Type 0
AllFit [] ks = Unit {0}
AllFit (p ∷ ps) [] = ⊥
AllFit (p ∷ ps) (k ∷ ks) = (fits_at p k ≡ true) × AllFit ps ks

pub names_apart : (text : List ℕ) (all ws before : List Word) (i : ℕ) (ps : List Place) → all ≡ before ++ ws → i ≡ length before → AllFit ps (map kind_of ws) → AllSpelt text ws
    → AreApart (λ n. starts 33 (spelled_of text all n)) (events_from i ps (names_from text all i ws))
names_apart text all ws before i [] is own f s = tt
names_apart text all [] before i (p ∷ ps) is own f s = absurd f
names_apart text all (w ∷ ws) before i (p ∷ ps) is own f s = (
  (λ h. ap (λ b. starts 33 (spelled_of text all (if b then i else name_of text all i w))) (type_not_own p h) ∙ ap (starts 33) spelt ∙ s.0.bang (type_kinds p w.kind h f.0)),
  (λ h. ap (λ q. starts 33 (spelled_of text all (if is_own q then i else name_of text all i w))) h ∙ ap (starts 33) spelt ∙ s.0.hash (attr_kinds w.kind (subst (λ (q : Place). fits_at q w.kind ≡ true) h f.0))),
  names_apart text all ws (before ++ w ∷ []) (i + 1) ps (is ∙ sym (append_assoc before (w ∷ []) ws)) next f.1 s.1,
)
  where
    spelt : spelled_of text all (name_of text all i w) ≡ spelled text w
    spelt = ap (λ xs. spelled_of text xs (name_of text xs i w)) is ∙ name_spells text before w ws i own

    next : i + 1 ≡ length (before ++ w ∷ [])
    next = let e : length (before ++ w ∷ []) ≡ length before + 1 = length-append before (w ∷ []) in omega (arith, e, own)
