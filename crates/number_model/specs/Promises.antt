-- Laws of the arithmetic.
use Rattle.std.specs.Prelude.{◌≡◌, ◌⊎◌, ℕ, ◌<◌, ◌≤◌, ◌^◌, ⊤, ℤ, pos, ◌+ℤ◌, ◌-ℤ◌, ◌*ℤ◌, int_lt, unsigned_abs}
use Rattle.number_model.specs.Numbers.{signed, wrapped}
use Rattle.number_model.specs.Answers.{Gives}
use Rattle.number_model.specs.Arithmetic.{no_flags, Binary, Add, Subtract, Multiply, Divide, Remainder, DivideUp, DivideDown, binary, Resize, ExtendSigned, Extend, Truncate, Keep, resize}

-- an operation gives a number of its width
abbrev pub StaysInWidth : Type 0
StaysInWidth = (o : Binary) (w a b r : ℕ) → a < 2 ^ w → b < 2 ^ w → binary o w a b ≡ Gives r → r < 2 ^ w

-- the width of what a number of this width becomes
abbrev pub target : Resize → ℕ → ℕ
target (ExtendSigned m) w = m
target (Extend m) w = m
target (Truncate flags m) w = m
target Keep w = w

-- a number is extended to a width that isn't less
abbrev pub Fits : Resize → ℕ → Type 0
Fits (Extend m) w = w ≤ m
Fits _ w = ⊤

abbrev pub ResizesToWidth : Type 0
ResizesToWidth = (x : Resize) (w a r : ℕ) → Fits x w → a < 2 ^ w → resize x w a ≡ Gives r → r < 2 ^ target x w

-- without flags, sums, differences and products are those of the integers, modulo 2 to the width
abbrev pub SumsWrap : Type 0
SumsWrap = (w : ℕ) (x y : ℤ) → binary (Add no_flags) w (wrapped w x) (wrapped w y) ≡ Gives (wrapped w (x +ℤ y))

abbrev pub DifferencesWrap : Type 0
DifferencesWrap = (w : ℕ) (x y : ℤ) → binary (Subtract no_flags) w (wrapped w x) (wrapped w y) ≡ Gives (wrapped w (x -ℤ y))

abbrev pub ProductsWrap : Type 0
ProductsWrap = (w : ℕ) (x y : ℤ) → binary (Multiply no_flags) w (wrapped w x) (wrapped w y) ≡ Gives (wrapped w (x *ℤ y))

-- 0, or below 0 just where the other is
abbrev pub HasSignOf : ℤ → ℤ → Type 0
HasSignOf r a = (r ≡ pos 0) ⊎ (int_lt r (pos 0) ≡ int_lt a (pos 0))

-- q and r are the quotient and the remainder of a by b: a is q times b and r, which is less than b and has the sign of a
pub record IsDivision (a b q r : ℤ) : Type 0 where
  pub sum : q *ℤ b +ℤ r ≡ a
  pub less : unsigned_abs r < unsigned_abs b
  pub sign : HasSignOf r a

abbrev pub DividesTowardsZero : Type 0
DividesTowardsZero =
    (w a b q r : ℕ) → 0 < w → binary Divide w a b ≡ Gives q → binary Remainder w a b ≡ Gives r
    → IsDivision (signed w a) (signed w b) (signed w q) (signed w r)

-- q is a by b rounded up: q times b is a and less than one b more
pub record IsRoundedUp (a b q : ℤ) : Type 0 where
  pub more : ℤ
  pub sum : q *ℤ b ≡ a +ℤ more
  pub less : unsigned_abs more < unsigned_abs b
  pub sign : HasSignOf more b

abbrev pub DividesUp : Type 0
DividesUp = (w a b q : ℕ) → 0 < w → binary DivideUp w a b ≡ Gives q → IsRoundedUp (signed w a) (signed w b) (signed w q)

-- q is a by b rounded down: a is q times b and less than one b more
pub record IsRoundedDown (a b q : ℤ) : Type 0 where
  pub more : ℤ
  pub sum : q *ℤ b +ℤ more ≡ a
  pub less : unsigned_abs more < unsigned_abs b
  pub sign : HasSignOf more b

abbrev pub DividesDown : Type 0
DividesDown = (w a b q : ℕ) → 0 < w → binary DivideDown w a b ≡ Gives q → IsRoundedDown (signed w a) (signed w b) (signed w q)
