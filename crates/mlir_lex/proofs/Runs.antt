-- Runs of bytes, and pieces one behind the other.
use Rattle.std.proofs.Common.{◌≡◌, ◌≢◌, ◌⊎◌, inl, inr, ◌&&◌, not, ◌==◌, ℕ, ◌+◌, ◌<◌, ◌≤◌, suc, zero, Bool, true, false, cond, List, [], ◌∷◌, length, drop, refl, sym, ap, ◌∙◌, arith, zero-add}
use Rattle.std.specs.List.{take_while}
use Rattle.std.proofs.lemmas.List.Sums.{take_while-cons}
use Rattle.std.proofs.lemmas.Bool.{false≢true}
use Rattle.std.proofs.lemmas.Bool.Decides.{nat_tests}
use Rattle.std.proofs.lemmas.List.{drop_all}
use Rattle.mlir_lex.specs.Bytes.{is_blank, is_plain}
use Rattle.mlir_lex.specs.Scan.{run, next_is, begins, pieces, pieces_from, gap_piece, comment_len, string_piece, escape_len, closes}

-- a run goes on with a byte of the class, and ends at any other
pub run-cons : (p : ℕ → Bool) (b : ℕ) (bs : List ℕ) → run p (b ∷ bs) ≡ cond (p b) (suc (run p bs)) 0
unfolding run
run-cons p b bs = ap length (take_while-cons p b bs) ∙ length-cond (p b)
  where
    length-cond : (t : Bool) → length (cond t (b ∷ take_while p bs) []) ≡ cond t (suc (length (take_while p bs))) 0
    length-cond true = refl
    length-cond false = refl

pub run-yes : (p : ℕ → Bool) (b : ℕ) (bs : List ℕ) → p b ≡ true → run p (b ∷ bs) ≡ suc (run p bs)
run-yes p b bs h = run-cons p b bs ∙ ap (λ t. cond t (suc (run p bs)) 0) h

pub run-no : (p : ℕ → Bool) (b : ℕ) (bs : List ℕ) → p b ≡ false → run p (b ∷ bs) ≡ 0
run-no p b bs h = run-cons p b bs ∙ ap (λ t. cond t (suc (run p bs)) 0) h

pub run-nil : (p : ℕ → Bool) → run p [] ≡ 0
unfolding run
run-nil p = refl

pub run-le : (p : ℕ → Bool) (text : List ℕ) → run p text ≤ length text
run-le p [] = omega (arith, run-nil p)
run-le p (b ∷ bs) = by_first (p b) refl (run-le p bs)
  where
    by_first : (t : Bool) → p b ≡ t → run p bs ≤ length bs → run p (b ∷ bs) ≤ length (b ∷ bs)
    by_first true h l = omega (arith, run-yes p b bs h)
    by_first false h l = omega (arith, run-no p b bs h)

-- where a run has a byte, the text begins with one of the class
pub next_is-from_run : (p : ℕ → Bool) (text : List ℕ) → 0 < run p text → next_is p text ≡ true
unfolding next_is
next_is-from_run p [] h = absurd (omega (arith, run-nil p, h))
next_is-from_run p (b ∷ bs) h = by_first (p b) refl
  where
    by_first : (t : Bool) → p b ≡ t → p b ≡ true
    by_first true e = e
    by_first false e = absurd (omega (arith, run-no p b bs e, h))

pub next_is-no_run : (p : ℕ → Bool) (text : List ℕ) → run p text ≡ 0 → next_is p text ≡ false
unfolding next_is
next_is-no_run p [] h = refl
next_is-no_run p (b ∷ bs) h = by_first (p b) refl
  where
    by_first : (t : Bool) → p b ≡ t → p b ≡ false
    by_first false e = e
    by_first true e = absurd (omega (arith, run-yes p b bs e, h))

-- a byte that comes behind n others stands in the text
pub next_is-there : (p : ℕ → Bool) (n : ℕ) (text : List ℕ) → next_is p (drop n text) ≡ true → n < length text
unfolding next_is
next_is-there p zero [] h = absurd (false≢true h)
next_is-there p zero (b ∷ bs) h = omega arith
next_is-there p (suc n) [] h = absurd (false≢true h)
next_is-there p (suc n) (b ∷ bs) h = omega (arith, next_is-there p n bs h)

pub begins-there : (c n : ℕ) (text : List ℕ) → begins c (drop n text) ≡ true → n < length text
unfolding begins
begins-there c zero [] h = absurd (false≢true h)
begins-there c zero (b ∷ bs) h = omega arith
begins-there c (suc n) [] h = absurd (false≢true h)
begins-there c (suc n) (b ∷ bs) h = omega (arith, begins-there c n bs h)

-- what is still to be passed of a piece, and then the pieces behind it
pub pieces-pass : (f : List ℕ → ℕ) (k : ℕ) (text : List ℕ) → k ≤ length text → pieces f k text ≡ k + pieces f 0 (drop k text)
unfolding pieces
pieces-pass f zero text h = sym (zero-add (pieces f 0 text))
pieces-pass f (suc k) [] h = absurd (omega (arith, h))
pieces-pass f (suc k) (b ∷ bs) h = omega (arith, pieces-pass f k bs (omega (arith, h)))

-- the first piece, and then those behind it
pub pieces-step : (f : List ℕ → ℕ) (n : ℕ) (text : List ℕ) → f text ≡ n → n ≤ length text → pieces f 0 text ≡ n + pieces f 0 (drop n text)
unfolding pieces
pieces-step f zero text e h = sym (zero-add (pieces f 0 text))
pieces-step f (suc k) [] e h = absurd (omega (arith, h))
pieces-step f (suc k) (b ∷ bs) e h = ap (λ n. pieces_from n (λ j. pieces f j bs)) e ∙ omega (arith, pieces-pass f k bs (omega (arith, h)))

-- no piece, no bytes
pub pieces-stop : (f : List ℕ → ℕ) (text : List ℕ) → f text ≡ 0 → pieces f 0 text ≡ 0
unfolding pieces
pieces-stop f [] e = refl
pieces-stop f (b ∷ bs) e = ap (λ n. pieces_from n (λ j. pieces f j bs)) e

-- a run of bytes each of which is a piece
pub pieces-run : (f : List ℕ → ℕ) (p : ℕ → Bool) → ((text : List ℕ) → next_is p text ≡ true → f text ≡ 1) → (text : List ℕ) → pieces f 0 text ≡ run p text + pieces f 0 (drop (run p text) text)
unfolding next_is
pieces-run f p one [] = let e = run-nil p in rw e (sym (zero-add (pieces f 0 [])))
pieces-run f p one (b ∷ bs) = by_first (p b) refl (pieces-run f p one bs)
  where
    by_first : (t : Bool) → p b ≡ t → pieces f 0 bs ≡ run p bs + pieces f 0 (drop (run p bs) bs) → pieces f 0 (b ∷ bs) ≡ run p (b ∷ bs) + pieces f 0 (drop (run p (b ∷ bs)) (b ∷ bs))
    by_first true h l = let e = run-yes p b bs h in rw e (omega (arith, pieces-step f 1 (b ∷ bs) (one (b ∷ bs) h) (omega arith)))
    by_first false h l = let e = run-no p b bs h in rw e (sym (zero-add (pieces f 0 (b ∷ bs))))

-- one byte of white space is a piece of a gap
pub gap_piece-blank : (text : List ℕ) → next_is is_blank text ≡ true → gap_piece text ≡ 1
unfolding gap_piece
gap_piece-blank text h = ap (λ t. cond t 1 (comment_len text)) h

pub gap_piece-comment : (text : List ℕ) → next_is is_blank text ≡ false → gap_piece text ≡ comment_len text
unfolding gap_piece
gap_piece-comment text h = ap (λ t. cond t 1 (comment_len text)) h

-- a plain byte is a piece of a string
pub string_piece-plain : (text : List ℕ) → next_is is_plain text ≡ true → string_piece text ≡ 1
unfolding string_piece
string_piece-plain text h = ap (λ t. cond t 1 (escape_len text)) h

pub string_piece-escape : (text : List ℕ) → next_is is_plain text ≡ false → string_piece text ≡ escape_len text
unfolding string_piece
string_piece-escape text h = ap (λ t. cond t 1 (escape_len text)) h

pub pieces-nil : (f : List ℕ → ℕ) (text : List ℕ) (n : ℕ) → length text ≤ n → pieces f 0 (drop n text) ≡ 0
unfolding pieces
pieces-nil f text n h = let e = drop_all n text h in rw e refl

-- behind the pieces no piece begins
pub pieces-end : (f : List ℕ → ℕ) → f [] ≡ 0 → (k : ℕ) (text : List ℕ) → f (drop (pieces f k text) text) ≡ 0
unfolding pieces
pieces-end f e k [] = e
pieces-end f e (suc k) (b ∷ bs) = pieces-end f e k bs
pieces-end f e zero (b ∷ bs) = by_first (f (b ∷ bs)) refl (λ k. pieces-end f e k bs)
  where
    by_first : (n : ℕ) → f (b ∷ bs) ≡ n → ((k : ℕ) → f (drop (pieces f k bs) bs) ≡ 0) → f (drop (pieces_from n (λ j. pieces f j bs)) (b ∷ bs)) ≡ 0
    by_first zero h more = h
    by_first (suc n) h more = more n

-- a quote or a line feed decides, and any other byte leaves it to those behind it
pub closes-feed : (e : Bool) (b : ℕ) (bs : List ℕ) → b ≡ 10 → closes e (b ∷ bs) ≡ false
unfolding closes
closes-feed e b bs h = rw h refl

pub closes-quote : (b : ℕ) (bs : List ℕ) → b ≡ 34 → closes false (b ∷ bs) ≡ true
unfolding closes
closes-quote b bs h = rw h refl

pub closes-escaped : (b : ℕ) (bs : List ℕ) → b ≢ 10 → closes true (b ∷ bs) ≡ closes false bs
unfolding closes
closes-escaped b bs h = let e : (b == 10) ≡ false = grind (arith, nat_tests) in rw e refl

pub closes-pass : (b : ℕ) (bs : List ℕ) → b ≢ 10 → b ≢ 34 → closes false (b ∷ bs) ≡ closes (b == 92) bs
unfolding closes
closes-pass b bs h q =
    let e : (b == 10) ≡ false = grind (arith, nat_tests) in
    let f : (b == 34) ≡ false = grind (arith, nat_tests) in
    rw (e, f) refl

-- the same for the loop: the flag says whether a `\` stands before
pub closes-step : (e : Bool) (b : ℕ) (bs : List ℕ) → b ≢ 10 → ((b ≡ 34) × (e ≡ true)) ⊎ (b ≢ 34) → closes e (b ∷ bs) ≡ closes (b == 92 && not e) bs
closes-step true b bs h q = closes-escaped b bs h ∙ ap (λ t. closes t bs) (no_and (b == 92))
  where
    no_and : (t : Bool) → false ≡ (t && not true)
    no_and true = refl
    no_and false = refl
closes-step false b bs h (inl q) = absurd (false≢true q.1)
closes-step false b bs h (inr q) = closes-pass b bs h q ∙ ap (λ t. closes t bs) (and_true (b == 92))
  where
    and_true : (t : Bool) → t ≡ (t && not false)
    and_true true = refl
    and_true false = refl
