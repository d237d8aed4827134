-- White space and comments, and the token that stands behind them.
use Rattle.std.proofs.Common.{◌≡◌, ℕ, ◌+◌, ◌<◌, ◌≤◌, suc, zero, Bool, true, false, ◌&&◌, ◌==◌, cond, List, [], ◌∷◌, ◌++◌, length, drop, Option, Some, None, refl, sym, ap, ◌∙◌, subst, arith, append_assoc, length-append}
use Rattle.std.specs.List.{list_all}
use Rattle.std.proofs.lemmas.List.{drop_at}
use Rattle.std.proofs.lemmas.Bool.{false≢true}
use Rattle.std.proofs.lemmas.Bool.Decides.{nat_tests}
use Rattle.mlir_lex.specs.declared.TokenKind.{TokenKind}
use Rattle.mlir_lex.specs.Bytes.{is_blank, is_on_line, is_digit, is_letter, starts_bare, is_sign}
use Rattle.mlir_lex.specs.Tokens.{IsToken, IsLongest, NoToken}
use Rattle.mlir_lex.specs.Text.{EndsLine, IsGap, no_gap, blank, comment, IsClear}
use Rattle.mlir_lex.specs.Scan.{run, next_is, begins, pieces, gap_piece, comment_len, gap_len, kind_of, kind_at, length_of, length_of_some, token_len}
use Rattle.mlir_lex.proofs.Runs.{run-yes, run-no, run-nil, pieces-step, pieces-stop, gap_piece-blank, gap_piece-comment}
use Rattle.mlir_lex.proofs.Lengths.{Parts, and-left, and-right, eqb-is, run-parts}
use Rattle.mlir_lex.proofs.TokenLemmas.{sign-one, token-kind, token-front, token-parts, token-some}

-- no token begins with white space, and none with a `/`
kind-blank : (b : ℕ) → is_blank b ≡ true → kind_of b ≡ None
unfolding is_blank kind_of starts_bare is_letter is_digit is_sign
kind-blank b h =
    let P : ℕ → Type 0 = λ b. kind_of b ≡ None in
    sign-one P _ b 10 (sign-one P _ b 13 (sign-one P (b == 32) b 9 (λ e. subst P (sym (eqb-is b 32 e)) refl) refl) refl) refl h

kind-slash : (b : ℕ) → b ≡ 47 → kind_of b ≡ None
unfolding kind_of starts_bare is_letter is_digit is_sign
kind-slash b e = rw e refl

pub token-clear : (b : ℕ) (bs : List ℕ) (kind : TokenKind) → kind_of b ≡ Some kind → gap_piece (b ∷ bs) ≡ 0
unfolding gap_piece next_is comment_len begins
token-clear b bs kind e = by_tests (is_blank b) refl (b == 47) refl
  where
    by_tests : (s : Bool) → is_blank b ≡ s → (t : Bool) → (b == 47) ≡ t → cond s 1 (cond (t && begins 47 bs) (2 + run is_on_line (drop 1 bs)) 0) ≡ 0
    by_tests true h t k = let none = kind-blank b h in absurd cc
    by_tests false h true k = let none = kind-slash b (eqb-is b 47 k) in absurd cc
    by_tests false h false k = refl

-- a comment
ends-line : (text : List ℕ) → EndsLine text → next_is is_on_line text ≡ false
unfolding EndsLine next_is is_on_line
ends-line [] h = refl
ends-line (b ∷ bs) h = rw h refl

line-ends : (text : List ℕ) → next_is is_on_line text ≡ false → EndsLine text
unfolding EndsLine next_is is_on_line
line-ends [] h = tt
line-ends (b ∷ bs) h = grind (arith, nat_tests)

run-whole : (p : ℕ → Bool) (front back : List ℕ) → list_all p front ≡ true → next_is p back ≡ false → run p (front ++ back) ≡ length front
unfolding next_is
run-whole p [] [] h k = run-nil p
run-whole p [] (b ∷ bs) h k = run-no p b bs k
run-whole p (b ∷ bs) back h k = omega (arith, run-yes p b (bs ++ back) (and-left _ _ h), run-whole p bs back (and-right (p b) _ h) k)

comment-piece : (line left : List ℕ) → list_all is_on_line line ≡ true → EndsLine left → gap_piece (47 ∷ 47 ∷ (line ++ left)) ≡ suc (suc (length line))
unfolding gap_piece next_is comment_len begins is_blank
comment-piece line left h k = omega (arith, run-whole is_on_line line left h (ends-line left k))

-- what stands before a place where no gap begins has the length that is computed
pub gap-front : (gap rest : List ℕ) → IsGap gap rest → gap_piece rest ≡ 0 → gap_len (gap ++ rest) ≡ length gap
unfolding gap_len next_is
gap-front gap rest (no_gap r) h = pieces-stop gap_piece rest h
gap-front gap rest (blank b bs r is more) h = pieces-step gap_piece 1 (b ∷ (bs ++ rest)) (gap_piece-blank (b ∷ (bs ++ rest)) is) (omega arith) ∙ omega (arith, gap-front bs rest more h)
gap-front gap rest (comment line bs r on ends more) h =
    let step = pieces-step gap_piece (suc (suc (length line))) (47 ∷ 47 ∷ (line ++ (bs ++ rest))) (comment-piece line (bs ++ rest) on ends) (omega (arith, length-append line (bs ++ rest))) in
    let there : drop (length line) (line ++ (bs ++ rest)) ≡ bs ++ rest = drop_at line (bs ++ rest) (length line) refl in
    let step' = rw there at step in
    rw append_assoc (step' ∙ omega (arith, gap-front bs rest more h, length-append line bs))

-- what is computed is a gap, and none follows it
abbrev pub GapParts : List ℕ → Type 0
GapParts text = Parts text (pieces gap_piece 0 text) (λ front back. IsGap front back × (gap_piece back ≡ 0))

no-gap : (text : List ℕ) → gap_piece text ≡ 0 → GapParts text
no-gap text h = record { front = []; back = text; whole = refl; len = sym (pieces-stop gap_piece text h); good = (no_gap text, h) }

blank-gap : (b : ℕ) (bs : List ℕ) → is_blank b ≡ true → GapParts bs → GapParts (b ∷ bs)
unfolding next_is
blank-gap b bs h more = record { front = b ∷ more.front; back = more.back; whole = ap (λ x. b ∷ x) more.whole; len = omega (arith, more.len, pieces-step gap_piece 1 (b ∷ bs) (gap_piece-blank (b ∷ bs) h) (omega arith)); good = (blank b more.front more.back h more.good.0, more.good.1) }

comment-gap : (text line left : List ℕ) → text ≡ 47 ∷ 47 ∷ (line ++ left) → list_all is_on_line line ≡ true → EndsLine left → GapParts left → GapParts text
comment-gap text line left whole on ends more =
    let step = pieces-step gap_piece (suc (suc (length line))) (47 ∷ 47 ∷ (line ++ left)) (comment-piece line left on ends) (omega (arith, length-append line left)) in
    let there : drop (length line) (line ++ left) ≡ left = drop_at line left (length line) refl in
    let step' = rw there at step in
    let count : pieces gap_piece 0 text ≡ suc (suc (length line)) + pieces gap_piece 0 left = ap (pieces gap_piece 0) whole ∙ step' in
    record {
      front = 47 ∷ 47 ∷ (line ++ more.front);
      back = more.back;
      whole = whole ∙ ap (λ x. 47 ∷ 47 ∷ (line ++ x)) more.whole ∙ ap (λ x. 47 ∷ 47 ∷ x) (sym (append_assoc line more.front more.back));
      len = omega (arith, count, length-append line more.front, more.len);
      good = (comment line more.front more.back on (let P : List ℕ → Type 0 = λ x. EndsLine x in subst P more.whole ends) more.good.0, more.good.1);
    }

gap_piece-nil : gap_piece [] ≡ 0
unfolding gap_piece next_is comment_len begins
gap_piece-nil = refl

not-blank : (b : ℕ) (bs : List ℕ) → is_blank b ≡ false → next_is is_blank (b ∷ bs) ≡ false
unfolding next_is
not-blank b bs h = h

comment-none : (text : List ℕ) → (begins 47 text && begins 47 (drop 1 text)) ≡ false → comment_len text ≡ 0
unfolding comment_len
comment-none text h = rw h refl

two-slashes : (b : ℕ) (bs : List ℕ) → (begins 47 (b ∷ bs) && begins 47 bs) ≡ true → (left : List ℕ) × (b ∷ bs ≡ 47 ∷ 47 ∷ left)
unfolding begins
two-slashes b [] h = absurd (false≢true (and-right (b == 47) _ h))
two-slashes b (c ∷ cs) h = (cs, ap (λ x. x ∷ c ∷ cs) (eqb-is b 47 (and-left _ _ h)) ∙ ap (λ x. 47 ∷ x ∷ cs) (eqb-is c 47 (and-right (b == 47) _ h)))

pub gap-parts : (fuel : ℕ) (text : List ℕ) → length text ≤ fuel → GapParts text
gap-parts fuel [] h = no-gap [] gap_piece-nil
gap-parts zero (b ∷ bs) h = absurd (omega (arith, h))
gap-parts (suc fuel) (b ∷ bs) h = by_tests (is_blank b) refl (begins 47 (b ∷ bs) && begins 47 bs) refl (λ left l. gap-parts fuel left l)
  where
    by_tests : (s : Bool) → is_blank b ≡ s → (t : Bool) → (begins 47 (b ∷ bs) && begins 47 bs) ≡ t → ((left : List ℕ) → length left ≤ fuel → GapParts left) → GapParts (b ∷ bs)
    by_tests true e t f more = blank-gap b bs e (more bs (omega (arith, h)))
    by_tests false e false f more = no-gap (b ∷ bs) (gap_piece-comment (b ∷ bs) (not-blank b bs e) ∙ comment-none (b ∷ bs) f)
    by_tests false e true f more =
        let slashes = two-slashes b bs f in
        let line = run-parts is_on_line slashes.0 in
        comment-gap (b ∷ bs) line.front line.back (slashes.1 ∙ ap (λ x. 47 ∷ 47 ∷ x) line.whole) line.good.0 (line-ends line.back line.good.1)
        (more line.back (omega (arith, h, ap length slashes.1, ap length line.whole, length-append line.front line.back)))

-- no gap begins there
pub clear-is : (text : List ℕ) → gap_piece text ≡ 0 → IsClear text
unfolding IsClear next_is
clear-is text h gap rest whole (no_gap r) = refl
clear-is text h gap rest whole (blank b bs r is more) = absurd (omega (arith, h, ap gap_piece whole, gap_piece-blank (b ∷ (bs ++ rest)) is))
clear-is text h gap rest whole (comment line bs r on ends more) =
    let e : gap_piece (47 ∷ 47 ∷ (line ++ (bs ++ rest))) ≡ suc (suc (length line)) = comment-piece line (bs ++ rest) on ends in
    let w : 47 ∷ 47 ∷ (line ++ (bs ++ rest)) ≡ text = ap (λ x. 47 ∷ 47 ∷ x) (sym (append_assoc line bs rest)) ∙ whole in
    absurd (omega (arith, h, ap gap_piece w, e))

pub clear-front : (text : List ℕ) → IsClear text → gap_piece text ≡ 0
unfolding IsClear
clear-front text clear =
    let parts = gap-parts (length text) text (omega arith) in
    let none = clear parts.front parts.back (sym parts.whole) parts.good.0 in
    ap gap_piece (parts.whole ∙ ap (λ x. x ++ parts.back) none) ∙ parts.good.1

-- the token that is computed is the longest
kind-same : (text : List ℕ) (kind other : TokenKind) → kind_at text ≡ Some kind → kind_at text ≡ Some other → other ≡ kind
kind-same text kind other h k = cc

pub longest-is : (text : List ℕ) (kind : TokenKind) (front back : List ℕ) → kind_at text ≡ Some kind → text ≡ front ++ back → length front ≡ length_of kind text → IsToken kind front → IsLongest kind front back
longest-is text kind front back h whole len is = record { is = is; longest = none_longer }
  where
    none_longer : (other : TokenKind) (front' back' : List ℕ) → IsToken other front' → front' ++ back' ≡ front ++ back → length front' ≤ length front
    none_longer other front' back' is' whole' =
        let w : front' ++ back' ≡ text = whole' ∙ sym whole in
        let same = kind-same text kind other h (sym (ap kind_at w) ∙ token-kind other front' back' is') in
        omega (arith, token-front other front' back' is', ap (length_of other) w, ap (λ k. length_of k text) same, len)

-- and the longest is the one that is computed
pub longest-front : (kind : TokenKind) (piece rest : List ℕ) → IsLongest kind piece rest → (kind_at (piece ++ rest) ≡ Some kind) × (length_of kind (piece ++ rest) ≡ length piece) × (0 < length piece)
unfolding kind_at
longest-front kind [] rest l = absurd (omega (arith, token-some kind [] l.is))
longest-front kind (b ∷ bs) rest l =
    let k = token-kind kind (b ∷ bs) rest l.is in
    let le = token-front kind (b ∷ bs) rest l.is in
    let parts = token-parts kind b (bs ++ rest) k (omega (arith, le)) in
    (k, omega (arith, le, parts.len, l.longest kind parts.front parts.back parts.good (sym parts.whole)), omega arith)

-- no token begins there
token-at : (text : List ℕ) (kind : TokenKind) → kind_at text ≡ Some kind → token_len text ≡ length_of kind text
unfolding token_len
token-at text kind h = ap (λ k. length_of_some k text) h

pub no-token-is : (text : List ℕ) → token_len text ≡ 0 → NoToken text
unfolding NoToken
no-token-is text h kind front back is whole =
    let k = sym (ap kind_at whole) ∙ token-kind kind front back is in
    omega (arith, h, token-at text kind k, token-front kind front back is, ap (length_of kind) whole, token-some kind front is)

pub no-token-front : (text : List ℕ) → NoToken text → token_len text ≡ 0
unfolding NoToken token_len kind_at
no-token-front [] none = refl
no-token-front (b ∷ bs) none = by_kind (kind_of b) refl
  where
    by_length : (kind : TokenKind) → kind_of b ≡ Some kind → (n : ℕ) → length_of kind (b ∷ bs) ≡ n → n ≡ 0
    by_length kind e zero f = refl
    by_length kind e (suc n) f = let parts = token-parts kind b bs e (omega (arith, f)) in absurd (none kind parts.front parts.back parts.good (sym parts.whole))

    by_kind : (k : Option TokenKind) → kind_of b ≡ k → length_of_some k (b ∷ bs) ≡ 0
    by_kind None e = refl
    by_kind (Some kind) e = by_length kind e (length_of kind (b ∷ bs)) refl
