-- The bytes by their part in a text, and bare identifiers. Letters and digits are those of ASCII.
use Rattle.std.specs.Prelude.{ℕ, Bool, false, not, ◌==◌, ◌&&◌, ◌||◌, nat_le, List, [], ◌∷◌}
use Rattle.std.specs.List.{list_all}

-- space, tab, carriage return or line feed
unfoldable pub is_blank : ℕ → Bool
is_blank b = b == 32 || b == 9 || b == 13 || b == 10

-- anything but a line feed
unfoldable pub is_on_line : ℕ → Bool
is_on_line b = not (b == 10)

-- `0` to `9`
unfoldable pub is_digit : ℕ → Bool
is_digit b = nat_le 48 b && nat_le b 57

-- `0` to `9`, `a` to `f` or `A` to `F`
unfoldable pub is_hex_digit : ℕ → Bool
is_hex_digit b = is_digit b || (nat_le 65 b && nat_le b 70) || (nat_le 97 b && nat_le b 102)

-- `a` to `z` or `A` to `Z`
unfoldable pub is_letter : ℕ → Bool
is_letter b = (nat_le 97 b && nat_le b 122) || (nat_le 65 b && nat_le b 90)

-- what a bare identifier begins with: a letter or `_`
unfoldable pub starts_bare : ℕ → Bool
starts_bare b = is_letter b || b == 95

-- what stands in a bare identifier: a letter, a digit or one of `_ $ .`
unfoldable pub is_bare_byte : ℕ → Bool
is_bare_byte b = is_letter b || is_digit b || b == 95 || b == 36 || b == 46

-- a byte of the first class, and then any number of the second
abbrev pub is_word : (ℕ → Bool) → (ℕ → Bool) → List ℕ → Bool
is_word first others [] = false
is_word first others (b ∷ bs) = first b && list_all others bs

-- a bare identifier
abbrev pub is_bare : List ℕ → Bool
is_bare name = is_word starts_bare is_bare_byte name

-- what a suffix that isn't a number begins with: a letter or one of `$ . _ -`
unfoldable pub starts_suffix : ℕ → Bool
starts_suffix b = is_letter b || b == 95 || b == 36 || b == 46 || b == 45

-- what stands in it: a letter, a digit or one of `$ . _ -`
unfoldable pub is_suffix_byte : ℕ → Bool
is_suffix_byte b = starts_suffix b || is_digit b

-- what stands for itself in a string: anything but `"`, `\` and a line feed
unfoldable pub is_plain : ℕ → Bool
is_plain b = is_on_line b && not (b == 34) && not (b == 92)

-- what is an escape behind a `\`: `n`, `t`, `\` or `"`
unfoldable pub is_short_escape : ℕ → Bool
is_short_escape b = b == 110 || b == 116 || b == 92 || b == 34

-- one of `( ) [ ] { } < > , : = ? -`
unfoldable pub is_sign : ℕ → Bool
is_sign b = b == 40 || b == 41 || b == 91 || b == 93 || b == 123 || b == 125 || b == 60 || b == 62 || b == 44 || b == 58 || b == 61 || b == 63 || b == 45
