-- The lengths that are computed, and the tokens that they are of.
use Rattle.std.proofs.Common.{◌≡◌, ◌⊎◌, inl, inr, ℕ, ◌+◌, ◌<◌, ◌≤◌, suc, Bool, true, false, ◌&&◌, ◌||◌, ◌==◌, cond, List, [], ◌∷◌, ◌++◌, length, drop, refl, sym, ap, ◌∙◌, subst, arith}
use Rattle.std.specs.List.{list_all}
use Rattle.std.proofs.lemmas.Bool.{false≢true}
use Rattle.std.proofs.lemmas.Bool.Decides.{nat_tests}
use Rattle.mlir_lex.specs.Bytes.{is_word, is_digit, is_hex_digit, is_letter, starts_bare, is_bare_byte, starts_suffix, is_suffix_byte}
use Rattle.mlir_lex.specs.Tokens.{is_run, IsSuffix, IsNumber}
use Rattle.mlir_lex.specs.Scan.{run, next_is, begins, suffix_len, number_len}
use Rattle.mlir_lex.proofs.Runs.{run-yes, run-no, run-nil}

-- the text begins with n bytes that are such
pub record Parts (text : List ℕ) (n : ℕ) (P : List ℕ → List ℕ → Type 0) : Type 0 where
  pub front : List ℕ
  pub back : List ℕ
  pub whole : text ≡ front ++ back
  pub len : length front ≡ n
  pub good : P front back

-- both of two tests
pub and-left : (s t : Bool) → (s && t) ≡ true → s ≡ true
and-left true t h = refl
and-left false t h = absurd (false≢true h)

pub and-right : (s t : Bool) → (s && t) ≡ true → t ≡ true
and-right true t h = h
and-right false t h = absurd (false≢true h)

pub and-both : (s t : Bool) → s ≡ true → t ≡ true → (s && t) ≡ true
and-both true t h k = k
and-both false t h k = h

-- which of two tests passes
pub or-cases : (s t : Bool) → (s || t) ≡ true → (s ≡ true) ⊎ (t ≡ true)
or-cases true t h = inl refl
or-cases false t h = inr h

pub eqb-is : (a b : ℕ) → (a == b) ≡ true → a ≡ b
eqb-is a b h = grind (arith, nat_tests)

pub eqb-refl : (a : ℕ) → (a == a) ≡ true
eqb-refl a = grind (arith, nat_tests)

-- a test has one answer
pub one-answer : {t : Bool} → t ≡ true → t ≡ false → ⊥
one-answer h k = false≢true (sym k ∙ h)

-- the classes of bytes
pub digit-not-bare : (b : ℕ) → is_digit b ≡ true → starts_bare b ≡ false
unfolding is_digit starts_bare is_letter
digit-not-bare b h = grind (arith, nat_tests)

suffix-not-digit : (b : ℕ) → starts_suffix b ≡ true → is_digit b ≡ false
unfolding is_digit starts_suffix is_letter
suffix-not-digit b h = grind (arith, nat_tests)

quote-starts-none : (b : ℕ) → b ≡ 34 → (is_digit b ≡ true) ⊎ (starts_suffix b ≡ true) → ⊥
unfolding is_digit starts_suffix is_letter
quote-starts-none b e (inl h) = false≢true (rw e at h)
quote-starts-none b e (inr h) = false≢true (rw e at h)

pub bare-goes-on : (b : ℕ) → starts_bare b ≡ true → is_bare_byte b ≡ true
unfolding starts_bare is_bare_byte is_digit is_letter
bare-goes-on b h = grind (arith, nat_tests)

suffix-goes-on : (b : ℕ) → starts_suffix b ≡ true → is_suffix_byte b ≡ true
unfolding is_suffix_byte
suffix-goes-on b h = rw h refl

-- a run is as long as a front of the class, or longer
pub run-front : (p : ℕ → Bool) (front back : List ℕ) → list_all p front ≡ true → length front ≤ run p (front ++ back)
run-front p [] back h = omega arith
run-front p (b ∷ bs) back h = omega (arith, run-yes p b (bs ++ back) (and-left _ _ h), run-front p bs back (and-right (p b) _ h))

-- it is a front of the class, and none of the class comes next
pub run-parts : (p : ℕ → Bool) (text : List ℕ) → Parts text (run p text) (λ front back. (list_all p front ≡ true) × (next_is p back ≡ false))
unfolding next_is
run-parts p [] = record { front = []; back = []; whole = refl; len = sym (run-nil p); good = (refl, refl) }
run-parts p (b ∷ bs) = by_first (p b) refl (run-parts p bs)
  where
    by_first : (t : Bool) → p b ≡ t → Parts bs (run p bs) (λ front back. (list_all p front ≡ true) × (next_is p back ≡ false)) → Parts (b ∷ bs) (run p (b ∷ bs)) (λ front back. (list_all p front ≡ true) × (next_is p back ≡ false))
    by_first true h more = record { front = b ∷ more.front; back = more.back; whole = ap (λ x. b ∷ x) more.whole; len = omega (arith, more.len, run-yes p b bs h); good = (and-both _ _ h more.good.0, more.good.1) }
    by_first false h more = record { front = []; back = b ∷ bs; whole = refl; len = sym (run-no p b bs h); good = (refl, h) }

-- the first byte of a run
pub run-first : (p : ℕ → Bool) (b : ℕ) (bs : List ℕ) → p b ≡ true → Parts (b ∷ bs) (run p (b ∷ bs)) (λ front back. is_run p front ≡ true)
unfolding is_run
run-first p b bs h =
    let more = run-parts p bs in
    record { front = b ∷ more.front; back = more.back; whole = ap (λ x. b ∷ x) more.whole; len = omega (arith, more.len, run-yes p b bs h); good = and-both _ _ h more.good.0 }

-- the same behind a byte of another class
pub word-first : (first others : ℕ → Bool) (b : ℕ) (bs : List ℕ) → first b ≡ true → others b ≡ true → Parts (b ∷ bs) (run others (b ∷ bs)) (λ front back. is_word first others front ≡ true)
word-first first others b bs h k =
    let more = run-parts others bs in
    record { front = b ∷ more.front; back = more.back; whole = ap (λ x. b ∷ x) more.whole; len = omega (arith, more.len, run-yes others b bs k); good = and-both _ _ h more.good.0 }

-- one byte more at the front
pub parts-cons : (b : ℕ) (bs : List ℕ) (n : ℕ) (P Q : List ℕ → List ℕ → Type 0) → ((front back : List ℕ) → P front back → Q (b ∷ front) back) → Parts bs n P → Parts (b ∷ bs) (suc n) Q
parts-cons b bs n P Q f more = record { front = b ∷ more.front; back = more.back; whole = ap (λ x. b ∷ x) more.whole; len = omega (arith, more.len); good = f more.front more.back more.good }

pub parts-map : (text : List ℕ) (n : ℕ) (P Q : List ℕ → List ℕ → Type 0) → ((front back : List ℕ) → P front back → Q front back) → Parts text n P → Parts text n Q
parts-map text n P Q f more = record { front = more.front; back = more.back; whole = more.whole; len = more.len; good = f more.front more.back more.good }

-- the suffix: it has the length that is computed, and none is longer
pub suffix-parts : (text : List ℕ) → 0 < suffix_len text → Parts text (suffix_len text) (λ front back. IsSuffix front)
unfolding suffix_len next_is IsSuffix
suffix-parts [] h = absurd (omega (arith, h))
suffix-parts (b ∷ bs) h = by_digit (is_digit b) refl (starts_suffix b) refl h
  where
    by_digit : (s : Bool) → is_digit b ≡ s → (t : Bool) → starts_suffix b ≡ t → 0 < cond s (run is_digit (b ∷ bs)) (cond t (run is_suffix_byte (b ∷ bs)) 0) → Parts (b ∷ bs) (cond s (run is_digit (b ∷ bs)) (cond t (run is_suffix_byte (b ∷ bs)) 0)) (λ front back. IsSuffix front)
    by_digit true e t f h = parts-map _ _ _ _ (λ front back g. inl g) (run-first is_digit b bs e)
    by_digit false e true f h = parts-map _ _ _ _ (λ front back g. inr g) (word-first starts_suffix is_suffix_byte b bs f (suffix-goes-on b f))
    by_digit false e false f h = absurd (omega (arith, h))

pub suffix-front : (front back : List ℕ) → IsSuffix front → (0 < length front) × (length front ≤ suffix_len (front ++ back))
unfolding suffix_len next_is IsSuffix is_run
suffix-front [] back (inl h) = absurd (false≢true h)
suffix-front [] back (inr h) = absurd (false≢true h)
suffix-front (b ∷ bs) back (inl h) = (omega arith, rw (and-left (is_digit b) _ h) (run-front is_digit (b ∷ bs) back h))
suffix-front (b ∷ bs) back (inr h) =
    let f = and-left (starts_suffix b) _ h in
    (omega arith, rw (suffix-not-digit b f, f) (run-front is_suffix_byte (b ∷ bs) back (and-both _ _ (suffix-goes-on b f) (and-right (starts_suffix b) _ h))))

-- a suffix begins with no quote
pub suffix-no-quote : (front back : List ℕ) → IsSuffix front → begins 34 (front ++ back) ≡ false
unfolding IsSuffix is_run begins
suffix-no-quote [] back (inl h) = absurd (false≢true h)
suffix-no-quote [] back (inr h) = absurd (false≢true h)
suffix-no-quote (b ∷ bs) back (inl h) = by_test (b == 34) refl
  where
    by_test : (t : Bool) → (b == 34) ≡ t → t ≡ false
    by_test false e = refl
    by_test true e = absurd (quote-starts-none b (eqb-is b 34 e) (inl (and-left _ _ h)))
suffix-no-quote (b ∷ bs) back (inr h) = by_test (b == 34) refl
  where
    by_test : (t : Bool) → (b == 34) ≡ t → t ≡ false
    by_test false e = refl
    by_test true e = absurd (quote-starts-none b (eqb-is b 34 e) (inr (and-left _ _ h)))

two-cons : (a b c d : ℕ) (s t : List ℕ) → a ≡ b → c ≡ d → s ≡ t → a ∷ c ∷ s ≡ b ∷ d ∷ t
two-cons a b c d s t p q r = cc

-- a number
hexadecimal-parts : (b : ℕ) (bs : List ℕ) → (begins 48 (b ∷ bs) && begins 120 bs && next_is is_hex_digit (drop 1 bs)) ≡ true → Parts (b ∷ bs) (2 + run is_hex_digit (drop 1 bs)) (λ front back. IsNumber front)
unfolding IsNumber begins next_is
hexadecimal-parts b [] h = absurd (false≢true (and-right (begins 48 (b ∷ [])) _ (and-left _ _ h)))
hexadecimal-parts b (c ∷ []) h = absurd (false≢true (and-right (begins 48 (b ∷ c ∷ []) && begins 120 (c ∷ [])) _ h))
hexadecimal-parts b (c ∷ d ∷ ds) h =
    let both = and-left (begins 48 (b ∷ c ∷ d ∷ ds) && begins 120 (c ∷ d ∷ ds)) _ h in
    let is_zero = eqb-is b 48 (and-left (b == 48) _ both) in
    let is_x = eqb-is c 120 (and-right (b == 48) _ both) in
    let more = run-first is_hex_digit d ds (and-right (begins 48 (b ∷ c ∷ d ∷ ds) && begins 120 (c ∷ d ∷ ds)) _ h) in
    record { front = 48 ∷ 120 ∷ more.front; back = more.back; whole = two-cons b 48 c 120 _ _ is_zero is_x more.whole; len = omega (arith, more.len); good = inr (more.front, refl, more.good) }

pub number-parts : (b : ℕ) (bs : List ℕ) → is_digit b ≡ true → Parts (b ∷ bs) (number_len (b ∷ bs)) (λ front back. IsNumber front)
unfolding number_len IsNumber
number-parts b bs h = by_test (begins 48 (b ∷ bs) && begins 120 bs && next_is is_hex_digit (drop 1 bs)) refl
  where
    by_test : (t : Bool) → (begins 48 (b ∷ bs) && begins 120 bs && next_is is_hex_digit (drop 1 bs)) ≡ t → Parts (b ∷ bs) (cond t (2 + run is_hex_digit (drop 1 bs)) (run is_digit (b ∷ bs))) (λ front back. IsNumber front)
    by_test false e = parts-map _ _ _ _ (λ front back g. inl g) (run-first is_digit b bs h)
    by_test true e = hexadecimal-parts b bs e

-- the digits before an `x` are one
digits-le : (b : ℕ) (bs : List ℕ) → begins 120 bs ≡ true → run is_digit (b ∷ bs) ≤ 1
unfolding begins is_digit
digits-le b [] h = absurd (false≢true h)
digits-le b (c ∷ cs) h = by_first (is_digit b) refl (run-no is_digit c cs (let e = eqb-is c 120 h in rw e refl))
  where
    by_first : (t : Bool) → is_digit b ≡ t → run is_digit (c ∷ cs) ≡ 0 → run is_digit (b ∷ c ∷ cs) ≤ 1
    by_first true e k = omega (arith, run-yes is_digit b (c ∷ cs) e)
    by_first false e k = omega (arith, run-no is_digit b (c ∷ cs) e)

digits-front : (text : List ℕ) → run is_digit text ≤ number_len text
unfolding number_len
digits-front [] = omega (arith, run-nil is_digit)
digits-front (b ∷ bs) = by_test (begins 48 (b ∷ bs) && begins 120 bs && next_is is_hex_digit (drop 1 bs)) refl
  where
    by_test : (t : Bool) → (begins 48 (b ∷ bs) && begins 120 bs && next_is is_hex_digit (drop 1 bs)) ≡ t → run is_digit (b ∷ bs) ≤ cond t (2 + run is_hex_digit (drop 1 bs)) (run is_digit (b ∷ bs))
    by_test false e = omega arith
    by_test true e = omega (arith, digits-le b bs (and-right (begins 48 (b ∷ bs)) _ (and-left _ _ e)))

hexadecimal-front : (h back : List ℕ) → is_run is_hex_digit h ≡ true → length (48 ∷ 120 ∷ h) ≤ number_len ((48 ∷ 120 ∷ h) ++ back)
unfolding number_len is_run begins next_is
hexadecimal-front [] back k = absurd (false≢true k)
hexadecimal-front (d ∷ ds) back k = rw (and-left (is_hex_digit d) _ k) (omega (arith, run-front is_hex_digit (d ∷ ds) back k))

pub number-front : (front back : List ℕ) → IsNumber front → length front ≤ number_len (front ++ back)
unfolding IsNumber is_run
number-front [] back (inl h) = omega arith
number-front (b ∷ bs) back (inl h) = omega (arith, run-front is_digit (b ∷ bs) back h, digits-front (b ∷ bs ++ back))
number-front front back (inr (h, e, k)) = let P : List ℕ → Type 0 = λ x. length x ≤ number_len (x ++ back) in subst P (sym e) (hexadecimal-front h back k)
