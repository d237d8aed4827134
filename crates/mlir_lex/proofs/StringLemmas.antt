-- Strings: the inside up to the first byte that may not stand in it, and whether a quote closes it.
use Rattle.std.proofs.Common.{◌≡◌, ◌≢◌, ℕ, ◌+◌, ◌<◌, ◌≤◌, suc, zero, Bool, true, false, ◌&&◌, ◌==◌, cond, List, [], ◌∷◌, ◌++◌, length, drop, refl, sym, ap, ◌∙◌, arith, append_assoc, length-append}
use Rattle.std.proofs.lemmas.Bool.{false≢true}
use Rattle.std.proofs.lemmas.Bool.Decides.{nat_tests}
use Rattle.mlir_lex.specs.Bytes.{is_on_line, is_digit, is_hex_digit, is_plain, is_short_escape}
use Rattle.mlir_lex.specs.Tokens.{IsEscape, short, hexadecimal, IsInside, nothing, plain, escape, IsString}
use Rattle.mlir_lex.specs.Scan.{next_is, begins, pieces, string_piece, escape_len, inside_len, string_len}
use Rattle.mlir_lex.proofs.Runs.{pieces-step, pieces-stop, string_piece-plain, string_piece-escape}
use Rattle.std.proofs.lemmas.List.{drop_at}
use Rattle.mlir_lex.specs.Scan.{closes}
use Rattle.mlir_lex.proofs.Runs.{closes-quote, closes-escaped, closes-pass}
use Rattle.mlir_lex.specs.Text.{IsUnclosed, no_bytes, byte, pair, Closes}
use Rattle.mlir_lex.proofs.Lengths.{Parts, and-left, and-right, eqb-is, eqb-refl, one-answer}

hex-not-short : (c : ℕ) → is_hex_digit c ≡ true → is_short_escape c ≡ false
unfolding is_hex_digit is_digit is_short_escape
hex-not-short c h = grind (arith, nat_tests)

-- an escape has the length that is computed
pub escape-front : (front back : List ℕ) → IsEscape front → escape_len (front ++ back) ≡ length front
unfolding escape_len begins next_is
escape-front front back (short c h) = rw h refl
escape-front front back (hexadecimal c d h k) = rw (hex-not-short c h, h, k) refl

short-parts : (text : List ℕ) → (begins 92 text && next_is is_short_escape (drop 1 text)) ≡ true → Parts text 2 (λ front back. IsEscape front)
unfolding begins next_is
short-parts [] h = absurd (false≢true h)
short-parts (b ∷ []) h = absurd (false≢true (and-right (b == 92) _ h))
short-parts (b ∷ c ∷ cs) h =
    let e = eqb-is b 92 (and-left (b == 92) _ h) in
    record { front = 92 ∷ c ∷ []; back = cs; whole = ap (λ x. x ∷ c ∷ cs) e; len = refl; good = short c (and-right (b == 92) _ h) }

hex-parts : (text : List ℕ) → (begins 92 text && next_is is_hex_digit (drop 1 text) && next_is is_hex_digit (drop 2 text)) ≡ true → Parts text 3 (λ front back. IsEscape front)
unfolding begins next_is
hex-parts [] h = absurd (false≢true h)
hex-parts (b ∷ []) h = absurd (false≢true (and-right (b == 92) _ (and-left _ _ h)))
hex-parts (b ∷ c ∷ []) h = absurd (false≢true (and-right ((b == 92) && is_hex_digit c) _ h))
hex-parts (b ∷ c ∷ d ∷ ds) h =
    let both = and-left ((b == 92) && is_hex_digit c) _ h in
    let e = eqb-is b 92 (and-left (b == 92) _ both) in
    record { front = 92 ∷ c ∷ d ∷ []; back = ds; whole = ap (λ x. x ∷ c ∷ d ∷ ds) e; len = refl; good = hexadecimal c d (and-right (b == 92) _ both) (and-right ((b == 92) && is_hex_digit c) _ h) }

pub escape-parts : (text : List ℕ) → 0 < escape_len text → Parts text (escape_len text) (λ front back. IsEscape front)
unfolding escape_len
escape-parts text h = by_test (begins 92 text && next_is is_short_escape (drop 1 text)) refl (begins 92 text && next_is is_hex_digit (drop 1 text) && next_is is_hex_digit (drop 2 text)) refl h
  where
    by_test : (s : Bool) → (begins 92 text && next_is is_short_escape (drop 1 text)) ≡ s → (t : Bool) → (begins 92 text && next_is is_hex_digit (drop 1 text) && next_is is_hex_digit (drop 2 text)) ≡ t → 0 < cond s 2 (cond t 3 0) → Parts text (cond s 2 (cond t 3 0)) (λ front back. IsEscape front)
    by_test true e t f k = short-parts text e
    by_test false e true f k = hex-parts text f
    by_test false e false f k = absurd (omega (arith, k))

pub escape-not-plain : (front back : List ℕ) → IsEscape front → next_is is_plain (front ++ back) ≡ false
unfolding next_is is_plain is_on_line
escape-not-plain front back (short c h) = refl
escape-not-plain front back (hexadecimal c d h k) = refl

pub escape-some : (front : List ℕ) → IsEscape front → 0 < length front
escape-some front (short c h) = omega arith
escape-some front (hexadecimal c d h k) = omega arith

-- the inside that stands there is the one that is computed
pub inside-front : (front back : List ℕ) → IsInside front → string_piece back ≡ 0 → inside_len (front ++ back) ≡ length front
unfolding inside_len next_is
inside-front front back nothing h = pieces-stop string_piece back h
inside-front front back (plain b bs p more) h = pieces-step string_piece 1 (b ∷ (bs ++ back)) (string_piece-plain (b ∷ (bs ++ back)) p) (omega arith) ∙ omega (arith, inside-front bs back more h)
inside-front front back (escape e bs p more) h =
    let piece : string_piece (e ++ (bs ++ back)) ≡ length e = string_piece-escape (e ++ (bs ++ back)) (escape-not-plain e (bs ++ back) p) ∙ escape-front e (bs ++ back) p in
    let fits : length e ≤ length (e ++ (bs ++ back)) = omega (arith, length-append e (bs ++ back)) in
    let step = pieces-step string_piece (length e) (e ++ (bs ++ back)) piece fits in
    let left : drop (length e) (e ++ (bs ++ back)) ≡ bs ++ back = drop_at e (bs ++ back) (length e) refl in
    let step' = rw left at step in
    rw append_assoc (step' ∙ omega (arith, inside-front bs back more h, length-append e bs))

string_piece-nil : string_piece [] ≡ 0
unfolding string_piece next_is escape_len begins
string_piece-nil = refl

-- what is computed is an inside, and no piece follows it
abbrev pub InsideParts : List ℕ → Type 0
InsideParts text = Parts text (pieces string_piece 0 text) (λ front back. IsInside front × (string_piece back ≡ 0))

no-inside : (text : List ℕ) → string_piece text ≡ 0 → InsideParts text
no-inside text h = record { front = []; back = text; whole = refl; len = sym (pieces-stop string_piece text h); good = (nothing, h) }

plain-inside : (b : ℕ) (bs : List ℕ) → is_plain b ≡ true → InsideParts bs → InsideParts (b ∷ bs)
unfolding next_is
plain-inside b bs h more = record { front = b ∷ more.front; back = more.back; whole = ap (λ x. b ∷ x) more.whole; len = omega (arith, more.len, pieces-step string_piece 1 (b ∷ bs) (string_piece-plain (b ∷ bs) h) (omega arith)); good = (plain b more.front h more.good.0, more.good.1) }

escape-inside : (text e left : List ℕ) → text ≡ e ++ left → IsEscape e → InsideParts left → InsideParts text
escape-inside text e left whole is more =
    let piece : string_piece (e ++ left) ≡ length e = string_piece-escape (e ++ left) (escape-not-plain e left is) ∙ escape-front e left is in
    let step = pieces-step string_piece (length e) (e ++ left) piece (omega (arith, length-append e left)) in
    let there : drop (length e) (e ++ left) ≡ left = drop_at e left (length e) refl in
    let step' = rw there at step in
    let count : pieces string_piece 0 text ≡ length e + pieces string_piece 0 left = ap (pieces string_piece 0) whole ∙ step' in
    record { front = e ++ more.front; back = more.back; whole = whole ∙ ap (λ x. e ++ x) more.whole ∙ sym (append_assoc e more.front more.back); len = omega (arith, count, length-append e more.front, more.len); good = (escape e more.front is more.good.0, more.good.1) }

pub not-plain : (b : ℕ) (bs : List ℕ) → is_plain b ≡ false → next_is is_plain (b ∷ bs) ≡ false
unfolding next_is
not-plain b bs h = h

pub inside-parts : (fuel : ℕ) (text : List ℕ) → length text ≤ fuel → InsideParts text
inside-parts fuel [] h = no-inside [] string_piece-nil
inside-parts zero (b ∷ bs) h = absurd (omega (arith, h))
inside-parts (suc fuel) (b ∷ bs) h = by_plain (is_plain b) refl (escape_len (b ∷ bs)) refl (λ left l. inside-parts fuel left l)
  where
    by_plain : (t : Bool) → is_plain b ≡ t → (n : ℕ) → escape_len (b ∷ bs) ≡ n → ((left : List ℕ) → length left ≤ fuel → InsideParts left) → InsideParts (b ∷ bs)
    by_plain true e n f more = plain-inside b bs e (more bs (omega (arith, h)))
    by_plain false e zero f more = no-inside (b ∷ bs) (string_piece-escape (b ∷ bs) (not-plain b bs e) ∙ f)
    by_plain false e (suc n) f more =
        let parts = escape-parts (b ∷ bs) (omega (arith, f)) in
        escape-inside (b ∷ bs) parts.front parts.back parts.whole parts.good (more parts.back (omega (arith, h, ap length parts.whole, length-append parts.front parts.back, parts.len, f)))

-- a string has the length that is computed
pub begins-34 : (back : List ℕ) → begins 34 (34 ∷ back) ≡ true
unfolding begins
begins-34 back = refl

string-whole : (s back : List ℕ) → (34 ∷ (s ++ 34 ∷ [])) ++ back ≡ 34 ∷ (s ++ 34 ∷ back)
string-whole s back = ap (λ x. 34 ∷ x) (append_assoc s (34 ∷ []) back)

string_piece-quote : (back : List ℕ) → string_piece (34 ∷ back) ≡ 0
unfolding string_piece next_is escape_len begins is_plain is_on_line
string_piece-quote back = refl

string_len-yes : (text : List ℕ) → begins 34 text ≡ true → begins 34 (drop (inside_len (drop 1 text)) (drop 1 text)) ≡ true → string_len text ≡ inside_len (drop 1 text) + 2
unfolding string_len
string_len-yes text h k = rw (h, k) refl

pub string-front : (front back : List ℕ) → IsString front → string_len (front ++ back) ≡ length front
unfolding IsString
string-front front back (s, e, is) =
    let text : front ++ back ≡ 34 ∷ (s ++ 34 ∷ back) = ap (λ x. x ++ back) e ∙ string-whole s back in
    let count = inside-front s (34 ∷ back) is (string_piece-quote back) in
    let left : drop (inside_len (s ++ 34 ∷ back)) (s ++ 34 ∷ back) ≡ 34 ∷ back = drop_at s (34 ∷ back) _ (sym count) in
    let quote : begins 34 (drop (inside_len (s ++ 34 ∷ back)) (s ++ 34 ∷ back)) ≡ true = ap (begins 34) left ∙ begins-34 back in
    ap string_len text ∙ string_len-yes (34 ∷ (s ++ 34 ∷ back)) (begins-34 _) quote ∙ omega (arith, count, ap length e, length-append s (34 ∷ []))

-- and what is computed is one
pub begins-is : (c : ℕ) (text : List ℕ) → begins c text ≡ true → (more : List ℕ) × (text ≡ c ∷ more)
unfolding begins
begins-is c [] h = absurd (false≢true h)
begins-is c (b ∷ bs) h = (bs, ap (λ x. x ∷ bs) (eqb-is b c h))

begins-drop : (n : ℕ) (bs front back : List ℕ) → bs ≡ front ++ back → length front ≡ n → begins 34 (drop n bs) ≡ true → (more : List ℕ) × (back ≡ 34 ∷ more)
begins-drop n bs front back whole len h = begins-is 34 back (sym (ap (λ x. begins 34 x) (ap (drop n) whole ∙ drop_at front back n len)) ∙ h)

string-made : (b : ℕ) (bs : List ℕ) → b ≡ 34 → (parts : InsideParts bs) → (more : List ℕ) × (parts.back ≡ 34 ∷ more) → Parts (b ∷ bs) (inside_len bs + 2) (λ front back. IsString front)
unfolding IsString inside_len
string-made b bs e parts (more, quote) = record {
  front = 34 ∷ (parts.front ++ 34 ∷ []);
  back = more;
  whole = ap (λ x. x ∷ bs) e ∙ ap (λ x. 34 ∷ x) (parts.whole ∙ ap (λ x. parts.front ++ x) quote) ∙ sym (string-whole parts.front more);
  len = omega (arith, length-append parts.front (34 ∷ []), parts.len);
  good = (parts.front, refl, parts.good.0);
}

pub string-parts : (text : List ℕ) → 0 < string_len text → Parts text (string_len text) (λ front back. IsString front)
unfolding string_len begins inside_len
string-parts [] h = absurd (omega (arith, h))
string-parts (b ∷ bs) h = by_test (b == 34) refl (begins 34 (drop (inside_len bs) bs)) refl h
  where
    by_test : (s : Bool) → (b == 34) ≡ s → (t : Bool) → begins 34 (drop (inside_len bs) bs) ≡ t → 0 < cond (s && t) (inside_len bs + 2) 0 → Parts (b ∷ bs) (cond (s && t) (inside_len bs + 2) 0) (λ front back. IsString front)
    by_test true e true f k = let parts = inside-parts (length bs) bs (omega arith) in string-made b bs (eqb-is b 34 e) parts (begins-drop (inside_len bs) bs parts.front parts.back parts.whole parts.len f)
    by_test true e false f k = absurd (omega (arith, k))
    by_test false e t f k = absurd (omega (arith, k))

-- the bytes of a string
plain-not : (b : ℕ) → is_plain b ≡ true → (b ≢ 10) × (b ≢ 34) × (b ≢ 92)
unfolding is_plain is_on_line
plain-not b h = (λ e. grind (arith, nat_tests), λ e. grind (arith, nat_tests), λ e. grind (arith, nat_tests))

pub plain-is : (b : ℕ) → b ≢ 10 → b ≢ 34 → b ≢ 92 → is_plain b ≡ true
unfolding is_plain is_on_line
plain-is b h k l = grind (arith, nat_tests)

pub on_line-not : (b : ℕ) → is_on_line b ≡ true → b ≢ 10
unfolding is_on_line
on_line-not b h e = grind (arith, nat_tests)

pub on_line-is : (b : ℕ) → b ≢ 10 → is_on_line b ≡ true
unfolding is_on_line
on_line-is b h = grind (arith, nat_tests)

hex-plain : (b : ℕ) → is_hex_digit b ≡ true → is_plain b ≡ true
unfolding is_plain is_on_line is_hex_digit is_digit
hex-plain b h = grind (arith, nat_tests)

short-on_line : (b : ℕ) → is_short_escape b ≡ true → is_on_line b ≡ true
unfolding is_on_line is_short_escape
short-on_line b h = grind (arith, nat_tests)

plain-on_line : (b : ℕ) → is_plain b ≡ true → is_on_line b ≡ true
plain-on_line b h = on_line-is b (plain-not b h).0

pub not-eqb : (a b : ℕ) → a ≢ b → (a == b) ≡ false
not-eqb a b h = grind (arith, nat_tests)

-- no quote in an inside closes the string
pub unclosed-inside : (s : List ℕ) → IsInside s → IsUnclosed s
unclosed-inside s nothing = no_bytes
unclosed-inside s (plain b bs h more) = byte b bs h (unclosed-inside bs more)
unclosed-inside s (escape e bs is more) = behind_escape e bs is (unclosed-inside bs more)
  where
    behind_escape : (e bs : List ℕ) → IsEscape e → IsUnclosed bs → IsUnclosed (e ++ bs)
    behind_escape e bs (short c h) more = pair c bs (short-on_line c h) more
    behind_escape e bs (hexadecimal c d h k) more = pair c (d ∷ bs) (plain-on_line c (hex-plain c h)) (byte d bs (hex-plain d k) more)

-- what stands behind them decides
pub closes-unclosed : (front back : List ℕ) → IsUnclosed front → closes false (front ++ back) ≡ closes false back
closes-unclosed front back no_bytes = refl
closes-unclosed front back (byte b bs h more) =
    let not = plain-not b h in
    let e : (b == 92) ≡ false = not-eqb b 92 (not.2) in
    closes-pass b (bs ++ back) not.0 not.1 ∙ ap (λ t. closes t (bs ++ back)) e ∙ closes-unclosed bs back more
closes-unclosed front back (pair b bs h more) =
    closes-pass 92 (b ∷ (bs ++ back)) (λ e. omega (arith, e)) (λ e. omega (arith, e)) ∙ closes-escaped b (bs ++ back) (on_line-not b h) ∙ closes-unclosed bs back more

pub closes-front : (text : List ℕ) → Closes text → closes false text ≡ true
unfolding Closes
closes-front text (front, back, whole, is) = ap (closes false) whole ∙ closes-unclosed front (34 ∷ back) is ∙ closes-quote 34 back refl

abbrev ClosesAfter : Bool → List ℕ → Type 0
ClosesAfter false text = Closes text
ClosesAfter true text = (c : ℕ) × (cs : List ℕ) × (text ≡ c ∷ cs) × (is_on_line c ≡ true) × Closes cs

quote-closes : (b : ℕ) (bs : List ℕ) → b ≡ 34 → Closes (b ∷ bs)
unfolding Closes
quote-closes b bs e = ([], bs, ap (λ x. x ∷ bs) e, no_bytes)

closes-at : (b : ℕ) (bs : List ℕ) → b ≢ 10 → b ≢ 34 → (t : Bool) → (b == 92) ≡ t → ClosesAfter t bs → Closes (b ∷ bs)
unfolding Closes
closes-at b bs h k true e (c, cs, whole, on, (front, back, rest, is)) = (92 ∷ c ∷ front, back, ap (λ x. x ∷ bs) (eqb-is b 92 e) ∙ ap (λ x. 92 ∷ x) (whole ∙ ap (λ x. c ∷ x) rest), pair c front on is)
closes-at b bs h k false e (front, back, rest, is) = (b ∷ front, back, ap (λ x. b ∷ x) rest, byte b front (plain-is b h k (λ q. one-answer (ap (λ x. x == 92) q ∙ eqb-refl 92) e)) is)

pub closes-parts : (escaped : Bool) (text : List ℕ) → closes escaped text ≡ true → ClosesAfter escaped text
unfolding closes
closes-parts true [] h = absurd (false≢true h)
closes-parts false [] h = absurd (false≢true h)
closes-parts true (b ∷ bs) h = by_feed (b == 10) refl h (λ k. closes-parts false bs k)
  where
    by_feed : (t : Bool) → (b == 10) ≡ t → cond t false (closes false bs) ≡ true → (closes false bs ≡ true → Closes bs) → ClosesAfter true (b ∷ bs)
    by_feed true e k more = absurd (false≢true k)
    by_feed false e k more = (b, bs, refl, on_line-is b (λ q. one-answer (ap (λ x. x == 10) q ∙ eqb-refl 10) e), more k)
closes-parts false (b ∷ bs) h = by_test (b == 10) refl (b == 34) refl h (λ k. closes-parts (b == 92) bs k)
  where
    by_test : (t : Bool) → (b == 10) ≡ t → (u : Bool) → (b == 34) ≡ u → cond t false (cond u true (closes (b == 92) bs)) ≡ true → (closes (b == 92) bs ≡ true → ClosesAfter (b == 92) bs) → Closes (b ∷ bs)
    by_test true e u f k more = absurd (false≢true k)
    by_test false e true f k more = quote-closes b bs (eqb-is b 34 f)
    by_test false e false f k more = closes-at b bs (λ q. one-answer (ap (λ x. x == 10) q ∙ eqb-refl 10) e) (λ q. one-answer (ap (λ x. x == 34) q ∙ eqb-refl 34) f) (b == 92) refl (more k)
