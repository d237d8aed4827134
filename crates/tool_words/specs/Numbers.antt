-- Numbers as they are written in values.
use Rattle.std.specs.Prelude.{ℕ, ℤ, pos, neg_ℤ, Bool, true, false, ◌&&◌, ◌==◌, ◌^◌, ◌-◌, not, List, [], ◌∷◌, Option, Some, None, option_map, if◌then◌else◌, nat_le}
use Rattle.std.specs.List.{list_all, slice_split}
use Rattle.std.specs.Str.Parse.{digits_value}
use Rattle.tool_words.specs.Lists.{all_of}

abbrev pub is_digit : ℕ → Bool
is_digit b = nat_le 48 b && nat_le b 57

abbrev pub is_empty : List ℕ → Bool
is_empty [] = true
is_empty (b ∷ bs) = false

-- digits, at least one; zeros may lead
abbrev pub is_digits : List ℕ → Bool
is_digits text = not (is_empty text) && list_all is_digit text

-- the number in decimal, where it is not below the one bound and not above the other
abbrev pub number_in : ℕ → ℕ → List ℕ → Option ℕ
number_in least most text =
    if is_digits text && nat_le least (digits_value 10 text) && nat_le (digits_value 10 text) most
    then Some (digits_value 10 text) else None

-- an integer: a number, or one behind '-' (45)
abbrev pub is_negative : List ℕ → Bool
is_negative [] = false
is_negative (b ∷ bs) = b == 45

abbrev pub digits_of : List ℕ → List ℕ
digits_of [] = []
digits_of (b ∷ bs) = if b == 45 then bs else b ∷ bs

abbrev pub negated : ℕ → ℤ
negated n = neg_ℤ (pos n)

-- the integer, from -2^127 to 2^127 - 1
abbrev pub integer_of : List ℕ → Option ℤ
integer_of text =
    if is_negative text then option_map negated (number_in 0 (2 ^ 127) (digits_of text)) else option_map pos (number_in 0 (2 ^ 127 - 1) (digits_of text))

abbrev pub is_comma : ℕ → Bool
is_comma b = b == 44

-- integers with a comma between two; an empty text is the empty list
abbrev pub integers_of : List ℕ → Option (List ℤ)
integers_of text = if is_empty text then Some [] else all_of integer_of (slice_split is_comma text)
