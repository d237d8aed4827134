-- Numbers of w bits. A number stands for each number that is equal to it modulo 2^w, so it is read modulo 2^w wherever it is used.
use Rattle.std.specs.Prelude.{ℕ, suc, ◌-◌, ◌%◌, ◌^◌, nat_lt, Bool, false, ℤ, pos, negsuc, if◌then◌else◌}

-- as an unsigned number
abbrev pub unsigned : ℕ → ℕ → ℕ
unsigned w a = a % 2 ^ w

-- a number below 2^w as a signed one: itself where it is below the half, else less 2^w
abbrev pub signed_below : ℕ → ℕ → ℤ
signed_below w a = if nat_lt a (2 ^ (w - 1)) then pos a else negsuc (2 ^ w - suc a)

-- as a signed number
abbrev pub signed : ℕ → ℕ → ℤ
signed w a = signed_below w (unsigned w a)

-- an integer modulo 2^w
abbrev pub wrapped : ℕ → ℤ → ℕ
wrapped w (pos n) = n % 2 ^ w
wrapped w (negsuc n) = 2 ^ w - suc (n % 2 ^ w)

-- whether an integer is a signed number of w bits: from -2^(w-1) to 2^(w-1) - 1
abbrev pub fits_signed : ℕ → ℤ → Bool
fits_signed w (pos n) = nat_lt n (2 ^ (w - 1))
fits_signed w (negsuc n) = nat_lt n (2 ^ (w - 1))

-- whether an integer is an unsigned number of w bits: from 0 to 2^w - 1
abbrev pub fits_unsigned : ℕ → ℤ → Bool
fits_unsigned w (pos n) = nat_lt n (2 ^ w)
fits_unsigned w (negsuc n) = false

-- the least signed number of w bits
abbrev pub least : ℕ → ℤ
least w = negsuc (2 ^ (w - 1) - 1)
