-- Each operation gives a number of its width.
use Rattle.std.proofs.Common.{◌≡◌, ℕ, zero, suc, ◌+◌, ◌*◌, ◌/◌, ◌%◌, ◌^◌, ◌<◌, ◌≤◌, min, Bool, true, false, refl, subst, arith}
use Rattle.std.specs.Prelude.{ℤ, pos, negsuc, ◌+ℤ◌, ◌*ℤ◌, ◌==◌}
use Rattle.std.specs.Int.{div_ceil}
use Rattle.std.proofs.Math.Nat.{mod-lt, mod-le, div-le_self, div-add-mod'}
use Rattle.std.proofs.lemmas.Nat.{and_le_l, or_lt, xor_lt}
use Rattle.std.proofs.Math.Pow.{pow_pos}
use Rattle.number_model.specs.Numbers.{unsigned, wrapped}
use Rattle.number_model.specs.Answers.{Answer, Gives, undefined_if}
use Rattle.number_model.specs.Arithmetic.{Flags, breaks, wrapping, divided_unsigned, chosen, Binary, binary, Add, Subtract, Multiply, ShiftLeft, Divide, DivideUnsigned, Remainder, RemainderUnsigned, DivideUp, DivideDown, DivideUpUnsigned, And, Or, Xor, ShiftRight, ShiftRightUnsigned, Greater, GreaterUnsigned, Less, LessUnsigned}
use Rattle.number_model.specs.Promises.{StaysInWidth, Fits, target, ResizesToWidth}
use Rattle.number_model.specs.Arithmetic.{Resize, ExtendSigned, Extend, Truncate, Keep, resize}
use Rattle.std.proofs.Math.Pow.{pow_mono}
use Rattle.number_model.proofs.Ranges.{wide}

abbrev Below : ℕ → Answer ℕ → Type 0
Below m (Gives r) = r < m
Below m _ = Unit {0}

if_defined : (m : ℕ) (b : Bool) (a : Answer ℕ) → Below m a → Below m (undefined_if b a)
if_defined m true a h = tt
if_defined m false a h = h

wrapped_below : (w : ℕ) (z : ℤ) → wrapped w z < 2 ^ w
wrapped_below w (pos n) = mod-lt n (pow_pos w)
wrapped_below w (negsuc n) = omega (arith, pow_pos w)

wrapping_below : (flags : Flags) (w : ℕ) (s u : ℤ) → Below (2 ^ w) (wrapping flags w s u)
wrapping_below flags w s u = if_defined (2 ^ w) (breaks flags w s u) (Gives (wrapped w u)) (wrapped_below w u)

unsigned_below : (w a : ℕ) → unsigned w a < 2 ^ w
unsigned_below w a = mod-lt a (pow_pos w)

-- a quotient that is rounded up is no more than what is divided
ceil_at_most : (a b : ℕ) → 0 < b → div_ceil a b ≤ a
ceil_at_most a b h = go (a % b) refl
  where
    go : (r : ℕ) → a % b ≡ r → a / b + min 1 (a % b) ≤ a
    go zero e = rw e (omega (arith, div-le_self a b))
    go (suc r) e =
        let le : 2 * (a / b) + 1 ≤ a = wide (a / b) b (a % b) a (div-add-mod' a b) (λ z. absurd (omega (arith, e, z))) (mod-lt a h) in
        rw e (omega arith)

divisor : (n : ℕ) → (n == 0) ≡ false → 0 < n
divisor n h = grind arith

ceil_below : (w a b : ℕ) → Below (2 ^ w) (divided_unsigned w div_ceil a b)
ceil_below w a b = go (unsigned w b == 0) refl
  where
    go : (z : Bool) → (unsigned w b == 0) ≡ z → Below (2 ^ w) (undefined_if z (Gives (div_ceil (unsigned w a) (unsigned w b))))
    go true e = tt
    go false e = omega (arith, ceil_at_most (unsigned w a) (unsigned w b) (divisor (unsigned w b) e), unsigned_below w a)

either_below : (m : ℕ) (c : Bool) (a b : ℕ) → a < m → b < m → Below m (chosen c a b)
either_below m true a b h k = h
either_below m false a b h k = k

below : (o : Binary) (w a b : ℕ) → a < 2 ^ w → b < 2 ^ w → Below (2 ^ w) (binary o w a b)
below (Add flags) w a b h k = wrapping_below flags w _ (pos (unsigned w a) +ℤ pos (unsigned w b))
below (Subtract flags) w a b h k = wrapping_below flags w _ _
below (Multiply flags) w a b h k = wrapping_below flags w _ (pos (unsigned w a) *ℤ pos (unsigned w b))
below (ShiftLeft flags) w a b h k = if_defined (2 ^ w) _ (wrapping flags w _ (pos (unsigned w a) *ℤ pos (2 ^ unsigned w b))) (wrapping_below flags w _ (pos (unsigned w a) *ℤ pos (2 ^ unsigned w b)))
below Divide w a b h k = if_defined (2 ^ w) _ (Gives _) (wrapped_below w _)
below DivideUnsigned w a b h k = if_defined (2 ^ w) _ (Gives (unsigned w a / unsigned w b)) (omega (arith, div-le_self (unsigned w a) (unsigned w b), unsigned_below w a))
below Remainder w a b h k = if_defined (2 ^ w) _ (Gives _) (wrapped_below w _)
below RemainderUnsigned w a b h k = if_defined (2 ^ w) _ (Gives (unsigned w a % unsigned w b)) (omega (arith, mod-le (unsigned w a) (unsigned w b), unsigned_below w a))
below DivideUp w a b h k = if_defined (2 ^ w) _ (Gives _) (wrapped_below w _)
below DivideDown w a b h k = if_defined (2 ^ w) _ (Gives _) (wrapped_below w _)
below DivideUpUnsigned w a b h k = ceil_below w a b
below And w a b h k = omega (arith, and_le_l (unsigned w a) (unsigned w b), unsigned_below w a)
below Or w a b h k = or_lt w (unsigned w a) (unsigned w b) (unsigned_below w a) (unsigned_below w b)
below Xor w a b h k = xor_lt w (unsigned w a) (unsigned w b) (unsigned_below w a) (unsigned_below w b)
below ShiftRight w a b h k = if_defined (2 ^ w) _ (Gives _) (wrapped_below w _)
below ShiftRightUnsigned w a b h k = if_defined (2 ^ w) _ (Gives (unsigned w a / 2 ^ unsigned w b)) (omega (arith, div-le_self (unsigned w a) (2 ^ unsigned w b), unsigned_below w a))
below Greater w a b h k = either_below (2 ^ w) _ a b h k
below GreaterUnsigned w a b h k = either_below (2 ^ w) _ a b h k
below Less w a b h k = either_below (2 ^ w) _ a b h k
below LessUnsigned w a b h k = either_below (2 ^ w) _ a b h k

pub stays_in_width : StaysInWidth
stays_in_width o w a b r h k e = subst (Below (2 ^ w)) e (below o w a b h k)

resized_below : (x : Resize) (w a : ℕ) → Fits x w → a < 2 ^ w → Below (2 ^ target x w) (resize x w a)
resized_below (ExtendSigned m) w a f h = wrapped_below m _
resized_below (Extend m) w a f h = omega (arith, unsigned_below w a, pow_mono f)
resized_below (Truncate flags m) w a f h = if_defined (2 ^ m) _ (Gives (unsigned m a)) (unsigned_below m a)
resized_below Keep w a f h = h

pub resizes_to_width : ResizesToWidth
resizes_to_width x w a r f h e = subst (Below (2 ^ target x w)) e (resized_below x w a f h)
