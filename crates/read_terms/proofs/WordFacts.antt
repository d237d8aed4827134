-- What the words of a text spell, by their kinds.
use Rattle.std.proofs.Common.{◌≡◌, ◌⊎◌, inl, inr, ℕ, ◌+◌, ◌-◌, ◌*◌, ◌%◌, ◌^◌, ◌==◌, ◌<◌, ◌≤◌, ◌&&◌, ◌||◌, Bool, true, false, List, [], ◌∷◌, ◌++◌, length, take, drop, Option, Some, None, refl, sym, ap, ◌∙◌, subst, arith, true≢false}
use Rattle.std.specs.Prelude.{nat_le, codes, slice_get, if◌then◌else◌}
use Rattle.std.specs.Str.{bytes_eq}
use Rattle.std.proofs.Math.Nat.{mod-eq_of_lt}
use Rattle.std.proofs.Math.Seq.{drop-append_seam, take-append_seam}
use Rattle.std.proofs.lemmas.List.{drop-drop}
use Rattle.std.proofs.lemmas.Nat.{pow_below}
use Rattle.std.proofs.lemmas.Bool.Decides.{nat_tests}
use Rattle.std.proofs.lemmas.Slice.Eq.{bytes_eq-Decides}
use Rattle.mlir_lex.specs.Bytes.{is_digit}
use Rattle.mlir_lex.specs.declared.LexFault.{LexFault}
use Rattle.mlir_lex.specs.declared.Token.{Token}
use Rattle.mlir_lex.specs.declared.TokenKind.{TokenKind}
use Rattle.mlir_lex.specs.declared.TokenKind.TheVariants as token
use Rattle.mlir_lex.specs.Tokens.{IsName, IsToken}
use Rattle.mlir_lex.specs.Text.{BeginsWith}
use Rattle.mlir_lex.proofs.Lengths.{and-left, and-right, or-cases}
use Rattle.text_grammar.specs.declared.kinds.Kind.{Kind}
use Rattle.text_grammar.specs.declared.kinds.Kind.TheVariants as kinds
use Rattle.text_grammar.specs.declared.words.Word.{Word}
use Rattle.text_grammar.specs.declared.cuts.Mode.{Mode}
use Rattle.text_grammar.specs.declared.cuts.Mode.TheVariants.{Plain, BehindMemref, Size, By}
use Rattle.text_grammar.specs.TokenKinds.{bare_kind, bracket_kind, digit_value, hash_kind, is_integer_type, is_width as is_width_text, sign_kind, token_kind, type_kind, type_word, value_from}
use Rattle.text_grammar.specs.Words.{AreWords, HasWord, WordsFrom, cut_kind, cut_len, mode_behind, part_kind, part_len, piece_of, word_of}
use Rattle.text_events.specs.Spelling.{core, piece, spelled, unescaped}
use Rattle.text_events.specs.Source.{bytes_of, capped_value, piece_or, width_of}
use Rattle.read_terms.proofs.Terms.{is_width}
use Rattle.read_terms.proofs.Actions.{is_sized, is_wide}

-- Words are tokens, or begin them

pub record Cut (text : List ℕ) (w : Word) : Type 0 where
  pub mode : Mode
  pub form : TokenKind
  pub bytes : List ℕ
  pub behind : List ℕ
  pub is_token : IsToken form bytes
  pub kind_is : w.kind ≡ cut_kind mode form bytes
  pub piece_is : piece text w ≡ take (cut_len mode form bytes) (bytes ++ behind)

abbrev pub AllCut : List ℕ → List Word → Type 0
AllCut text [] = Unit {0}
AllCut text (w ∷ ws) = Cut text w × AllCut text ws

-- the bytes of the first token
token_bytes : (text : List ℕ) (t : Token) (behind : List ℕ) (b : BeginsWith 0 text t behind) → piece_of text t ≡ b.piece
token_bytes text t behind b =
    let s : t.start ≡ length b.gap = let k : t.start ≡ 0 + length b.gap = b.start in omega (arith, k) in
    let n : t.end - t.start ≡ length b.piece = let k : t.end ≡ t.start + length b.piece = b.end in omega (arith, k) in
    ap (λ m. take m (drop t.start text)) n ∙ ap (λ m. take (length b.piece) (drop m text)) s ∙ ap (λ x. take (length b.piece) (drop (length b.gap) x)) b.whole
    ∙ ap (take (length b.piece)) (drop-append_seam b.gap (b.piece ++ behind)) ∙ take-append_seam b.piece behind

token_rest : (text : List ℕ) (t : Token) (behind : List ℕ) (b : BeginsWith 0 text t behind) → drop t.start text ≡ b.piece ++ behind
token_rest text t behind b =
    let s : t.start ≡ length b.gap = let k : t.start ≡ 0 + length b.gap = b.start in omega (arith, k) in
    ap (λ m. drop m text) s ∙ ap (drop (length b.gap)) b.whole ∙ drop-append_seam b.gap (b.piece ++ behind)

word_start : (mode : Mode) (kind : TokenKind) (bytes : List ℕ) (start : ℕ) → (word_of mode kind bytes start).start ≡ start
unfolding word_of
word_start mode kind bytes start = refl

word_end : (mode : Mode) (kind : TokenKind) (bytes : List ℕ) (start : ℕ) → (word_of mode kind bytes start).end ≡ start + cut_len mode kind bytes
unfolding word_of
word_end mode kind bytes start = refl

word_kind : (mode : Mode) (kind : TokenKind) (bytes : List ℕ) (start : ℕ) → (word_of mode kind bytes start).kind ≡ cut_kind mode kind bytes
unfolding word_of
word_kind mode kind bytes start = refl

has_word : (text : List ℕ) (mode : Mode) (place : ℕ) (w : Word) → HasWord mode place (drop place text) w → Cut text w × (place ≤ w.end)
has_word text mode place w h =
    let t : Token = h.token in
    let bytes : List ℕ = h.begins.piece in
    let is : w ≡ word_of mode t.kind bytes (place + t.start) = h.is ∙ ap (λ b. word_of mode t.kind b (place + t.start)) (token_bytes (drop place text) t h.behind h.begins) in
    let start : w.start ≡ place + t.start = ap (λ (v : Word). v.start) is ∙ word_start mode t.kind bytes (place + t.start) in
    let end : w.end ≡ place + t.start + cut_len mode t.kind bytes = ap (λ (v : Word). v.end) is ∙ word_end mode t.kind bytes (place + t.start) in
    let n : w.end - w.start ≡ cut_len mode t.kind bytes = omega (arith, start, end) in
    let rest : drop w.start text ≡ bytes ++ h.behind = ap (λ m. drop m text) start ∙ sym (drop-drop t.start place text) ∙ token_rest (drop place text) t h.behind h.begins in (
      record {
        mode = mode;
        form = t.kind;
        bytes = bytes;
        behind = h.behind;
        is_token = h.begins.longest.is;
        kind_is = ap (λ (v : Word). v.kind) is ∙ word_kind mode t.kind bytes (place + t.start);
        piece_is = ap (λ m. take m (drop w.start text)) n ∙ ap (take (cut_len mode t.kind bytes)) rest;
      },
      omega (arith, end),
    )

cut_from : (text : List ℕ) (ws : List Word) (mode : Mode) (place : ℕ) (fault : Option LexFault) → WordsFrom mode place (drop place text) ws fault → AllCut text ws
unfolding WordsFrom
cut_from text [] mode place fault h = tt
cut_from text (w ∷ ws) mode place fault h =
    let one = has_word text mode place w h.0 in
    let past : place ≤ w.end = one.1 in
    let sum : place + (w.end - place) ≡ w.end = omega (arith, past) in
    let same : drop (w.end - place) (drop place text) ≡ drop w.end text = drop-drop (w.end - place) place text ∙ ap (λ m. drop m text) sum in
    (one.0, cut_from text ws (mode_behind mode w.kind) w.end fault (subst (λ rest. WordsFrom (mode_behind mode w.kind) w.end rest ws fault) same h.1))

pub all_cut : (text : List ℕ) (ws : List Word) (fault : Option LexFault) → AreWords text ws fault → AllCut text ws
unfolding AreWords
all_cut text ws fault h = cut_from text ws Plain 0 fault h

-- Kinds that a test tells from others

neither : (test : Kind → Bool) (b : Bool) (x y : Kind) → test x ≡ false → test y ≡ false → test (if b then x else y) ≡ false
neither test true x y h k = h
neither test false x y h k = k

-- a test that no sign passes
bracket_not : (test : Kind → Bool) → test kinds.OpenParen ≡ false → test kinds.CloseParen ≡ false → test kinds.OpenSquare ≡ false → test kinds.CloseSquare ≡ false → test kinds.OpenBrace ≡ false
    → test kinds.CloseBrace ≡ false → test kinds.Less ≡ false → test kinds.Greater ≡ false → (bytes : List ℕ) → test (bracket_kind bytes) ≡ false
unfolding bracket_kind
bracket_not test a b c d e f g h bytes =
    neither test (bytes_eq bytes (codes "(")) _ _ a (neither test (bytes_eq bytes (codes ")")) _ _ b (neither test (bytes_eq bytes (codes "[")) _ _ c (neither test (bytes_eq bytes (codes "]")) _ _ d
    (neither test (bytes_eq bytes (codes "{")) _ _ e (neither test (bytes_eq bytes (codes "}")) _ _ f (neither test (bytes_eq bytes (codes "<")) _ _ g h))))))

sign_not : (test : Kind → Bool) → test kinds.Comma ≡ false → test kinds.Colon ≡ false → test kinds.Equals ≡ false → test kinds.Question ≡ false → test kinds.Minus ≡ false → test kinds.Arrow ≡ false
    → test kinds.DoubleColon ≡ false → ((bytes : List ℕ) → test (bracket_kind bytes) ≡ false) → (bytes : List ℕ) → test (sign_kind bytes) ≡ false
unfolding sign_kind
sign_not test a b c d e f g h bytes =
    neither test (bytes_eq bytes (codes ",")) _ _ a (neither test (bytes_eq bytes (codes ":")) _ _ b (neither test (bytes_eq bytes (codes "=")) _ _ c (neither test (bytes_eq bytes (codes "?")) _ _ d
    (neither test (bytes_eq bytes (codes "-")) _ _ e (neither test (bytes_eq bytes (codes "->")) _ _ f (neither test (bytes_eq bytes (codes "::")) _ _ g (h bytes)))))))

hash_not : (test : Kind → Bool) → test kinds.HashNumber ≡ false → test kinds.HashDotted ≡ false → test kinds.HashName ≡ false → (bytes : List ℕ) → test (hash_kind bytes) ≡ false
unfolding hash_kind
hash_not test a b c bytes = neither test _ _ _ a (neither test _ _ _ b c)

type_not : (test : Kind → Bool) → test kinds.TypePlain ≡ false → test kinds.TypeStruct ≡ false → test kinds.TypeArray ≡ false → test kinds.TypeFunction ≡ false → test kinds.TypeDotted ≡ false → test kinds.TypeName ≡ false
    → (bytes : List ℕ) → test (type_kind bytes) ≡ false
unfolding type_kind
type_not test a b c d e f bytes = neither test _ _ _ a (neither test _ _ _ b (neither test _ _ _ c (neither test _ _ _ d (neither test _ _ _ e f))))

bare_not : (test : Kind → Bool) → test kinds.WordX ≡ false → test kinds.WordLoc ≡ false → test kinds.WordUnknown ≡ false → test kinds.WordBool ≡ false → ((bytes : List ℕ) → test (type_word bytes) ≡ false)
    → (bytes : List ℕ) → test (bare_kind bytes) ≡ false
unfolding bare_kind
bare_not test a b c d e bytes = neither test _ _ _ a (neither test _ _ _ b (neither test _ _ _ c (neither test _ _ _ d (e bytes))))

type_word_not : (test : Kind → Bool) → test kinds.WordWidth ≡ false → test kinds.WordInteger ≡ false → test kinds.WordMemref ≡ false → test kinds.WordArray ≡ false → test kinds.WordPlain ≡ false
    → test kinds.WordStruct ≡ false → test kinds.WordFunction ≡ false → test kinds.Word ≡ false → (bytes : List ℕ) → test (type_word bytes) ≡ false
unfolding type_word
type_word_not test a b c d e f g h bytes =
    neither test _ _ _ a (neither test _ _ _ b (neither test _ _ _ c (neither test _ _ _ d (neither test _ _ _ e (neither test _ _ _ f (neither test _ _ _ g h))))))

-- a word that passes a test that no part of a token passes is a whole token
pub record Whole (text : List ℕ) (w : Word) (test : Kind → Bool) : Type 0 where
  pub form : TokenKind
  pub bytes : List ℕ
  pub is_token : IsToken form bytes
  pub kind_is : w.kind ≡ token_kind form bytes
  pub piece_is : piece text w ≡ bytes

part_not : (test : Kind → Bool) (mode : Mode) → test kinds.Dimension ≡ false → test kinds.DimensionX ≡ false → test (part_kind mode) ≡ false
part_not test By h k = k
part_not test Plain h k = h
part_not test BehindMemref h k = h
part_not test Size h k = h

whole_word : (text : List ℕ) (w : Word) (test : Kind → Bool) → test kinds.Dimension ≡ false → test kinds.DimensionX ≡ false → test w.kind ≡ true → Cut text w → Whole text w test
unfolding cut_kind cut_len
whole_word text w test h k t c = by_part (part_len c.mode c.form c.bytes == 0) refl
  where
    by_part : (b : Bool) → (part_len c.mode c.form c.bytes == 0) ≡ b → Whole text w test
    by_part true e = record {
      form = c.form;
      bytes = c.bytes;
      is_token = c.is_token;
      kind_is = c.kind_is ∙ ap (λ b. if b then token_kind c.form c.bytes else part_kind c.mode) e;
      piece_is = c.piece_is ∙ ap (λ b. take (if b then length c.bytes else part_len c.mode c.form c.bytes) (c.bytes ++ c.behind)) e ∙ take-append_seam c.bytes c.behind;
    }
    by_part false e =
        absurd (true≢false (sym t ∙ ap test (c.kind_is ∙ ap (λ b. if b then token_kind c.form c.bytes else part_kind c.mode) e) ∙ part_not test c.mode h k))

-- Widths

abbrev pub is_integer_word : Kind → Bool
is_integer_word kinds.WordWidth = true
is_integer_word kinds.WordInteger = true
is_integer_word _ = false

abbrev pub is_width_word : Kind → Bool
is_width_word kinds.WordWidth = true
is_width_word _ = false

-- only a bare identifier passes a test that no other token passes
bare_alone : (test : Kind → Bool) → test kinds.Value ≡ false → test kinds.Label ≡ false → test kinds.SymbolName ≡ false → test kinds.Text ≡ false → test kinds.Number ≡ false
    → ((bytes : List ℕ) → test (hash_kind bytes) ≡ false) → ((bytes : List ℕ) → test (type_kind bytes) ≡ false) → ((bytes : List ℕ) → test (sign_kind bytes) ≡ false)
    → (form : TokenKind) (bytes : List ℕ) → test (token_kind form bytes) ≡ true → test (bare_kind bytes) ≡ true
unfolding token_kind
bare_alone test a b c d e f g h token.Bare bytes t = t
bare_alone test a b c d e f g h token.ValueName bytes t = absurd (true≢false (sym t ∙ a))
bare_alone test a b c d e f g h token.BlockName bytes t = absurd (true≢false (sym t ∙ b))
bare_alone test a b c d e f g h token.AttrName bytes t = absurd (true≢false (sym t ∙ f bytes))
bare_alone test a b c d e f g h token.TypeName bytes t = absurd (true≢false (sym t ∙ g bytes))
bare_alone test a b c d e f g h token.SymbolName bytes t = absurd (true≢false (sym t ∙ c))
bare_alone test a b c d e f g h token.Text bytes t = absurd (true≢false (sym t ∙ d))
bare_alone test a b c d e f g h token.Number bytes t = absurd (true≢false (sym t ∙ e))
bare_alone test a b c d e f g h token.Sign bytes t = absurd (true≢false (sym t ∙ h bytes))

abbrev width_in : List ℕ → Option ℕ
width_in bytes = if bytes_eq bytes (codes "index") then None else Some (capped_value 10 (drop 1 bytes) % 2 ^ 32)

small_width : (k m v : ℕ) → 64 < k → 64 < m → 0 < v → v ≤ 64 → is_width ((if nat_le k v then k - 1 else v) % m) ≡ true
small_width k m v a b c d =
    let e : nat_le k v ≡ false = grind (arith, nat_tests) in
    let less : v < m = omega (arith, b, d) in
    let w : is_width v ≡ true = grind (arith, nat_tests) in
    ap (λ t. is_width ((if t then k - 1 else v) % m)) e ∙ ap is_width (mod-eq_of_lt less) ∙ w

value_small : (v : ℕ) → 0 < v → v ≤ 64 → is_width ((if nat_le (2 ^ 128) v then 2 ^ 128 - 1 else v) % 2 ^ 32) ≡ true
value_small v p q = small_width (2 ^ 128) (2 ^ 32) v (pow_below 6 128 (omega arith)) (pow_below 6 32 (omega arith)) p q

record One (v : ℕ) : Type 0 where
  positive : 0 < v
  few : v ≤ 64

digit_most : (b : ℕ) → is_digit b ≡ true → nat_le b 57 ≡ true
unfolding is_digit
digit_most b h = and-right (nat_le 48 b) _ h

digits_one : (digits : List ℕ) → is_width_text digits ≡ true → One (value_from 10 0 digits)
digits_one [] h = absurd (true≢false (sym h))
digits_one (a ∷ []) h = record { positive = least a h; few = most a h }
  where
    low : (a : ℕ) → (nat_le 49 a && nat_le a 57) ≡ true → digit_value a ≡ a - 48
    low a h = let e : nat_le a 57 ≡ true = and-right (nat_le 49 a) _ h in ap (λ t. if t then a - 48 else if nat_le a 70 then a - 55 else a - 87) e

    least : (a : ℕ) → (nat_le 49 a && nat_le a 57) ≡ true → 0 < 0 * 10 + digit_value a
    least a h = let d : digit_value a ≡ a - 48 = low a h in let e : nat_le 49 a ≡ true = and-left _ _ h in let k : 49 ≤ a = grind (arith, nat_tests) in omega (arith, d, k)

    most : (a : ℕ) → (nat_le 49 a && nat_le a 57) ≡ true → 0 * 10 + digit_value a ≤ 64
    most a h = let d : digit_value a ≡ a - 48 = low a h in let e : nat_le a 57 ≡ true = and-right (nat_le 49 a) _ h in let k : a ≤ 57 = grind (arith, nat_tests) in omega (arith, d, k)
digits_one (a ∷ b ∷ []) h = by_first (or-cases _ _ (and-right (is_digit b) _ h))
  where
    low : (a : ℕ) → nat_le a 57 ≡ true → digit_value a ≡ a - 48
    low a e = ap (λ t. if t then a - 48 else if nat_le a 70 then a - 55 else a - 87) e

    made : (x y : ℕ) → 49 ≤ x → nat_le x 57 ≡ true → nat_le y 57 ≡ true → (x - 48) * 10 + (y - 48) ≤ 64 → One (value_from 10 0 (x ∷ y ∷ []))
    made x y k e f g =
        let d : digit_value x ≡ x - 48 = low x e in
        let c : digit_value y ≡ y - 48 = low y f in
        let v : value_from 10 0 (x ∷ y ∷ []) ≡ (x - 48) * 10 + (y - 48) = ap (λ n. (0 * 10 + n) * 10 + digit_value y) d ∙ ap (λ n. (0 * 10 + (x - 48)) * 10 + n) c ∙ omega arith in
        record { positive = omega (arith, v, k); few = omega (arith, v, g) }

    by_first : ((nat_le 49 a && nat_le a 53) ≡ true) ⊎ (((a == 54) && nat_le b 52) ≡ true) → One (value_from 10 0 (a ∷ b ∷ []))
    by_first (inl f) =
        let least : nat_le 49 a ≡ true = and-left _ _ f in
        let most : nat_le a 53 ≡ true = and-right (nat_le 49 a) _ f in
        let digit : nat_le b 57 ≡ true = digit_most b (and-left _ _ h) in
        let k : 49 ≤ a = grind (arith, nat_tests) in
        let l : a ≤ 53 = grind (arith, nat_tests) in
        let m : b ≤ 57 = grind (arith, nat_tests) in
        let e : nat_le a 57 ≡ true = grind (arith, nat_tests) in
        made a b k e digit (omega (arith, k, l, m))
    by_first (inr f) =
        let is : (a == 54) ≡ true = and-left _ _ f in
        let most : nat_le b 52 ≡ true = and-right (a == 54) _ f in
        let k : a ≡ 54 = grind (arith, nat_tests) in
        let m : b ≤ 52 = grind (arith, nat_tests) in
        let e : nat_le a 57 ≡ true = grind (arith, nat_tests) in
        let digit : nat_le b 57 ≡ true = digit_most b (and-left _ _ h) in
        made a b (omega (arith, k)) e digit (omega (arith, k, m))
digits_one (a ∷ b ∷ c ∷ more) h = absurd (true≢false (sym h))

sized_if : (q : Bool) (v : ℕ) → is_width v ≡ true → is_sized (if q then None else Some v) ≡ true
sized_if true v h = refl
sized_if false v h = h

integer_text : (bytes : List ℕ) → is_integer_type bytes ≡ true → is_sized (width_in bytes) ≡ true
integer_text [] h = absurd (true≢false (sym h))
integer_text (b ∷ digits) h =
    let one : One (value_from 10 0 digits) = digits_one digits (and-right (b == 105) _ h) in
    sized_if (bytes_eq (b ∷ digits) (codes "index")) (capped_value 10 digits % 2 ^ 32) (value_small (value_from 10 0 digits) one.positive one.few)

later_one : (test : Kind → Bool) (b : Bool) (x y : Kind) → test x ≡ false → test (if b then x else y) ≡ true → test y ≡ true
later_one test true x y h k = absurd (true≢false (sym k ∙ h))
later_one test false x y h k = k

width_text : (bytes : List ℕ) → (bytes_eq bytes (codes "i8") || bytes_eq bytes (codes "i16") || bytes_eq bytes (codes "i32") || bytes_eq bytes (codes "i64")) ≡ true → is_wide (width_in bytes) ≡ true
width_text bytes h = by_first (or-cases _ _ h)
  where
    same : (other : List ℕ) → bytes_eq bytes other ≡ true → is_wide (width_in other) ≡ true → is_wide (width_in bytes) ≡ true
    same other e k = subst (λ b. is_wide (width_in b) ≡ true) (sym ((bytes_eq-Decides bytes other).0 e)) k

    by_third : (bytes_eq bytes (codes "i8") ≡ true) ⊎ (bytes_eq bytes (codes "i16") ≡ true) → is_wide (width_in bytes) ≡ true
    by_third (inl e) = same (codes "i8") e refl
    by_third (inr e) = same (codes "i16") e refl

    by_second : ((bytes_eq bytes (codes "i8") || bytes_eq bytes (codes "i16")) ≡ true) ⊎ (bytes_eq bytes (codes "i32") ≡ true) → is_wide (width_in bytes) ≡ true
    by_second (inl e) = by_third (or-cases _ _ e)
    by_second (inr e) = same (codes "i32") e refl

    by_first : ((bytes_eq bytes (codes "i8") || bytes_eq bytes (codes "i16") || bytes_eq bytes (codes "i32")) ≡ true) ⊎ (bytes_eq bytes (codes "i64") ≡ true) → is_wide (width_in bytes) ≡ true
    by_first (inl e) = by_second (or-cases _ _ e)
    by_first (inr e) = same (codes "i64") e refl

wide_sized : (o : Option ℕ) → is_wide o ≡ true → is_sized o ≡ true
wide_sized None h = refl
wide_sized (Some w) h = h

index_text : (bytes : List ℕ) → bytes_eq bytes (codes "index") ≡ true → is_sized (width_in bytes) ≡ true
index_text bytes h = ap (λ b. is_sized (if b then None else Some (capped_value 10 (drop 1 bytes) % 2 ^ 32))) h

-- the kinds behind those of integer types
abbrev behind_integer : List ℕ → Kind
behind_integer bytes = if bytes_eq bytes (codes "memref") then kinds.WordMemref else if bytes_eq bytes (codes "array") then kinds.WordArray else if bytes_eq bytes (codes "ptr") || bytes_eq bytes (codes "void") then kinds.WordPlain else if bytes_eq bytes (codes "struct") then kinds.WordStruct else if bytes_eq bytes (codes "func") then kinds.WordFunction else kinds.Word

abbrev behind_width : List ℕ → Kind
behind_width bytes = if bytes_eq bytes (codes "index") || is_integer_type bytes then kinds.WordInteger else behind_integer bytes

behind_not : (test : Kind → Bool) → test kinds.WordMemref ≡ false → test kinds.WordArray ≡ false → test kinds.WordPlain ≡ false → test kinds.WordStruct ≡ false → test kinds.WordFunction ≡ false → test kinds.Word ≡ false
    → (bytes : List ℕ) → test (behind_integer bytes) ≡ false
behind_not test a b c d e f bytes = neither test _ _ _ a (neither test _ _ _ b (neither test _ _ _ c (neither test _ _ _ d (neither test _ _ _ e f))))

no_integer : (bytes : List ℕ) → is_integer_word (behind_integer bytes) ≡ false
no_integer bytes = behind_not is_integer_word refl refl refl refl refl refl bytes

no_width : (bytes : List ℕ) → is_width_word (behind_width bytes) ≡ false
no_width bytes = neither is_width_word (bytes_eq bytes (codes "index") || is_integer_type bytes) kinds.WordInteger (behind_integer bytes) refl (behind_not is_width_word refl refl refl refl refl refl bytes)

type_left : (test : Kind → Bool) → test kinds.WordX ≡ false → test kinds.WordLoc ≡ false → test kinds.WordUnknown ≡ false → test kinds.WordBool ≡ false
    → (bytes : List ℕ) → test (bare_kind bytes) ≡ true → test (type_word bytes) ≡ true
unfolding bare_kind
type_left test a b c d bytes h = later_one test _ _ _ d (later_one test _ _ _ c (later_one test _ _ _ b (later_one test _ _ _ a h)))

bare_wide : (bytes : List ℕ) → is_width_word (bare_kind bytes) ≡ true → is_wide (width_in bytes) ≡ true
unfolding type_word
bare_wide bytes h =
    by_width (bytes_eq bytes (codes "i8") || bytes_eq bytes (codes "i16") || bytes_eq bytes (codes "i32") || bytes_eq bytes (codes "i64")) refl
    (type_left is_width_word refl refl refl refl bytes h)
  where
    by_width : (b : Bool) → (bytes_eq bytes (codes "i8") || bytes_eq bytes (codes "i16") || bytes_eq bytes (codes "i32") || bytes_eq bytes (codes "i64")) ≡ b
        → is_width_word (if b then kinds.WordWidth else behind_width bytes) ≡ true
        → is_wide (width_in bytes) ≡ true
    by_width true e k = width_text bytes e
    by_width false e k = absurd (true≢false (sym k ∙ no_width bytes))

bare_sized : (bytes : List ℕ) → is_integer_word (bare_kind bytes) ≡ true → is_sized (width_in bytes) ≡ true
unfolding type_word
bare_sized bytes h =
    by_width (bytes_eq bytes (codes "i8") || bytes_eq bytes (codes "i16") || bytes_eq bytes (codes "i32") || bytes_eq bytes (codes "i64")) refl
    (type_left is_integer_word refl refl refl refl bytes h)
  where
    by_text : (bytes_eq bytes (codes "index") ≡ true) ⊎ (is_integer_type bytes ≡ true) → is_sized (width_in bytes) ≡ true
    by_text (inl e) = index_text bytes e
    by_text (inr e) = integer_text bytes e

    by_integer : (b : Bool) → (bytes_eq bytes (codes "index") || is_integer_type bytes) ≡ b
        → is_integer_word (if b then kinds.WordInteger else behind_integer bytes) ≡ true
        → is_sized (width_in bytes) ≡ true
    by_integer true e k = by_text (or-cases _ _ e)
    by_integer false e k = absurd (true≢false (sym k ∙ no_integer bytes))

    by_width : (b : Bool) → (bytes_eq bytes (codes "i8") || bytes_eq bytes (codes "i16") || bytes_eq bytes (codes "i32") || bytes_eq bytes (codes "i64")) ≡ b
        → is_integer_word (if b then kinds.WordWidth else behind_width bytes) ≡ true
        → is_sized (width_in bytes) ≡ true
    by_width true e k = wide_sized (width_in bytes) (width_text bytes e)
    by_width false e k = by_integer (bytes_eq bytes (codes "index") || is_integer_type bytes) refl k

module _ (text : List ℕ) (words : List Word) where
  bytes_here : (i : ℕ) (w : Word) → slice_get words i ≡ Some w → bytes_of text words i ≡ piece text w
  bytes_here i w e = ap (piece_or text) e

  width_here : (i : ℕ) (bytes : List ℕ) → bytes_of text words i ≡ bytes → width_of text words i ≡ width_in bytes
  unfolding width_of
  width_here i bytes e = ap width_in e

  -- an integer type is of 1 to 64 bits
  pub word_sized : (i : ℕ) (w : Word) → slice_get words i ≡ Some w → Cut text w → is_integer_word w.kind ≡ true → is_sized (width_of text words i) ≡ true
  word_sized i w there c h =
      let t = whole_word text w is_integer_word refl refl h c in
      ap is_sized (width_here i t.bytes (bytes_here i w there ∙ t.piece_is))
      ∙ bare_sized t.bytes (bare_alone is_integer_word refl refl refl refl refl (hash_not is_integer_word refl refl refl) (type_not is_integer_word refl refl refl refl refl refl)
      (sign_not is_integer_word refl refl refl refl refl refl refl (bracket_not is_integer_word refl refl refl refl refl refl refl refl)) t.form t.bytes (sym (ap is_integer_word t.kind_is) ∙ h))

  pub word_wide : (i : ℕ) (w : Word) → slice_get words i ≡ Some w → Cut text w → is_width_word w.kind ≡ true → is_wide (width_of text words i) ≡ true
  word_wide i w there c h =
      let t = whole_word text w is_width_word refl refl h c in
      ap is_wide (width_here i t.bytes (bytes_here i w there ∙ t.piece_is))
      ∙ bare_wide t.bytes (bare_alone is_width_word refl refl refl refl refl (hash_not is_width_word refl refl refl) (type_not is_width_word refl refl refl refl refl refl)
      (sign_not is_width_word refl refl refl refl refl refl refl (bracket_not is_width_word refl refl refl refl refl refl refl refl)) t.form t.bytes (sym (ap is_width_word t.kind_is) ∙ h))

-- Signs before names

abbrev pub starts : ℕ → List ℕ → Bool
starts b [] = false
starts b (c ∷ cs) = c == b

abbrev pub is_type_name : Kind → Bool
is_type_name kinds.TypeName = true
is_type_name _ = false

abbrev pub is_hash_name : Kind → Bool
is_hash_name kinds.HashName = true
is_hash_name kinds.HashNumber = true
is_hash_name _ = false

named_so : (sign : ℕ) (bytes : List ℕ) → IsName sign bytes → (s : List ℕ) × (bytes ≡ sign ∷ s)
unfolding IsName
named_so sign bytes h = (h.0, h.1)

type_starts : (form : TokenKind) (bytes : List ℕ) → IsToken form bytes → is_type_name (token_kind form bytes) ≡ true → (s : List ℕ) × (bytes ≡ 33 ∷ s)
unfolding IsToken token_kind
type_starts token.TypeName bytes i t = named_so 33 bytes i
type_starts token.Bare bytes i t = absurd (true≢false (sym t ∙ bare_not is_type_name refl refl refl refl (type_word_not is_type_name refl refl refl refl refl refl refl refl) bytes))
type_starts token.ValueName bytes i t = absurd (true≢false (sym t))
type_starts token.BlockName bytes i t = absurd (true≢false (sym t))
type_starts token.AttrName bytes i t = absurd (true≢false (sym t ∙ hash_not is_type_name refl refl refl bytes))
type_starts token.SymbolName bytes i t = absurd (true≢false (sym t))
type_starts token.Text bytes i t = absurd (true≢false (sym t))
type_starts token.Number bytes i t = absurd (true≢false (sym t))
type_starts token.Sign bytes i t = absurd (true≢false (sym t ∙ sign_not is_type_name refl refl refl refl refl refl refl (bracket_not is_type_name refl refl refl refl refl refl refl refl) bytes))

hash_starts : (form : TokenKind) (bytes : List ℕ) → IsToken form bytes → is_hash_name (token_kind form bytes) ≡ true → (s : List ℕ) × (bytes ≡ 35 ∷ s)
unfolding IsToken token_kind
hash_starts token.AttrName bytes i t = named_so 35 bytes i
hash_starts token.Bare bytes i t = absurd (true≢false (sym t ∙ bare_not is_hash_name refl refl refl refl (type_word_not is_hash_name refl refl refl refl refl refl refl refl) bytes))
hash_starts token.ValueName bytes i t = absurd (true≢false (sym t))
hash_starts token.BlockName bytes i t = absurd (true≢false (sym t))
hash_starts token.TypeName bytes i t = absurd (true≢false (sym t ∙ type_not is_hash_name refl refl refl refl refl refl bytes))
hash_starts token.SymbolName bytes i t = absurd (true≢false (sym t))
hash_starts token.Text bytes i t = absurd (true≢false (sym t))
hash_starts token.Number bytes i t = absurd (true≢false (sym t))
hash_starts token.Sign bytes i t = absurd (true≢false (sym t ∙ sign_not is_hash_name refl refl refl refl refl refl refl (bracket_not is_hash_name refl refl refl refl refl refl refl refl) bytes))

type_core : (k : Kind) (bytes : List ℕ) → is_type_name k ≡ true → core k bytes ≡ bytes
unfolding core
type_core kinds.Text bytes h = absurd (true≢false (sym h))
type_core kinds.SymbolName bytes h = absurd (true≢false (sym h))
type_core _ bytes h = refl

hash_core : (k : Kind) (bytes : List ℕ) → is_hash_name k ≡ true → core k bytes ≡ bytes
unfolding core
hash_core kinds.Text bytes h = absurd (true≢false (sym h))
hash_core kinds.SymbolName bytes h = absurd (true≢false (sym h))
hash_core _ bytes h = refl

pub type_spelled : (text : List ℕ) (w : Word) → Cut text w → is_type_name w.kind ≡ true → starts 33 (spelled text w) ≡ true
unfolding spelled
type_spelled text w c h =
    let t = whole_word text w is_type_name refl refl h c in
    let n = type_starts t.form t.bytes t.is_token (sym (ap is_type_name t.kind_is) ∙ h) in
    ap (λ b. starts 33 (unescaped b)) (type_core w.kind (piece text w) h ∙ t.piece_is ∙ n.1)

pub hash_spelled : (text : List ℕ) (w : Word) → Cut text w → is_hash_name w.kind ≡ true → starts 35 (spelled text w) ≡ true
unfolding spelled
hash_spelled text w c h =
    let t = whole_word text w is_hash_name refl refl h c in
    let n = hash_starts t.form t.bytes t.is_token (sym (ap is_hash_name t.kind_is) ∙ h) in
    ap (λ b. starts 35 (unescaped b)) (hash_core w.kind (piece text w) h ∙ t.piece_is ∙ n.1)
