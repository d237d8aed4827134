-- A number that fits in 64 bits is kept as it is by values of as many bits or more.
use Rattle.std.proofs.Common.{◌≡◌, ℕ, suc, ◌-◌, ◌*◌, ◌%◌, ◌^◌, ◌<◌, ◌≤◌, Bool, true, false, nat_lt, FitsSigned, w64, ◌∙◌, ap, arith}
use Rattle.std.specs.Prelude.{ℤ, pos, negsuc, neg_ℤ, if◌then◌else◌}
use Rattle.std.proofs.lemmas.Int.{ints}
use Rattle.std.proofs.lemmas.Bool.Decides.{nat_tests}
use Rattle.std.proofs.Math.Nat.{mod-eq_of_lt, pow-le-pow_right, pow-suc}
use Rattle.pattern_model.specs.Drafts.{read_signed, wrapped}

at_test : (t : Bool) (a b : ℤ) → t ≡ true → (if t then a else b) ≡ a
at_test t a b e = ap (λ s. if s then a else b) e

off_test : (t : Bool) (a b : ℤ) → t ≡ false → (if t then a else b) ≡ b
off_test t a b e = ap (λ s. if s then a else b) e

half : (bits : ℕ) → 1 ≤ bits → 2 ^ bits ≡ 2 ^ (bits - 1) * 2
half bits h = let is : bits ≡ suc (bits - 1) = omega arith in ap (λ n. 2 ^ n) is ∙ pow-suc 2 (bits - 1)

room : (bits n : ℕ) → 64 ≤ bits → n < 2 ^ 63 → n < 2 ^ (bits - 1)
room bits n h below =
    let up : 63 ≤ bits - 1 = omega arith in
    let two : 0 < 2 = omega arith in
    let more : 2 ^ 63 ≤ 2 ^ (bits - 1) = pow-le-pow_right two up in omega arith

wide_pos : (bits n : ℕ) → 64 ≤ bits → n < 2 ^ 63 → wrapped bits (pos n) ≡ pos n
wide_pos bits n h below =
    let low : n < 2 ^ (bits - 1) = room bits n h below in
    let twice : 2 ^ bits ≡ 2 ^ (bits - 1) * 2 = half bits (omega arith) in
    let same : n % 2 ^ bits ≡ n = mod-eq_of_lt (omega arith) in
    ap (read_signed bits) same ∙ at_test (nat_lt n (2 ^ (bits - 1))) (pos n) (neg_ℤ (pos (2 ^ bits - n))) (grind (arith, nat_tests))

wide_neg : (bits n : ℕ) → 64 ≤ bits → n < 2 ^ 63 → wrapped bits (negsuc n) ≡ negsuc n
wide_neg bits n h below =
    let low : n < 2 ^ (bits - 1) = room bits n h below in
    let twice : 2 ^ bits ≡ 2 ^ (bits - 1) * 2 = half bits (omega arith) in
    let same : n % 2 ^ bits ≡ n = mod-eq_of_lt (omega arith) in
    let rest : 2 ^ bits - (2 ^ bits - 1 - n) ≡ suc n = omega arith in
    let not_low : 2 ^ (bits - 1) ≤ 2 ^ bits - 1 - n = omega arith in
    ap (λ r. read_signed bits (2 ^ bits - 1 - r)) same
    ∙ off_test (nat_lt (2 ^ bits - 1 - n) (2 ^ (bits - 1))) (pos (2 ^ bits - 1 - n)) (neg_ℤ (pos (2 ^ bits - (2 ^ bits - 1 - n)))) (grind (arith, nat_tests))
    ∙ ap (λ r. neg_ℤ (pos r)) rest

pub wide : (bits : ℕ) (z : ℤ) → 64 ≤ bits → FitsSigned w64 z → wrapped bits z ≡ z
wide bits (pos n) h fits = wide_pos bits n h (let below : n < 2 ^ 63 = omega (arith, ints, fits) in below)
wide bits (negsuc n) h fits = wide_neg bits n h (let below : n < 2 ^ 63 = omega (arith, ints, fits) in below)
