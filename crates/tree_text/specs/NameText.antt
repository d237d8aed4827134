-- The printed text of strings and names.
use Rattle.std.specs.Prelude.{ℕ, ◌+◌, ◌/◌, ◌%◌, Bool, not, ◌&&◌, ◌==◌, nat_lt, nat_le, List, [], ◌∷◌, ◌++◌, if◌then◌else◌, flat_map}
use Rattle.mlir_lex.specs.Bytes.{is_bare}

-- the upper case hexadecimal digit of a number below 16
abbrev pub hex_digit : ℕ → ℕ
hex_digit n = if nat_lt n 10 then 48 + n else 55 + n

-- whether a string has the byte as it is: from blank to `~`, but not `"`
abbrev pub stands_plain : ℕ → Bool
stands_plain b = nat_le 32 b && nat_le b 126 && not (b == 34)

-- a byte in a string: `\` is `\\`, a plain byte is itself, another is `\` and two hexadecimal digits
abbrev pub byte_text : ℕ → List ℕ
byte_text b =
    if b == 92 then 92 ∷ 92 ∷ []
    else (if stands_plain b then b ∷ [] else 92 ∷ hex_digit (b / 16) ∷ hex_digit (b % 16) ∷ [])

-- a string: its bytes between two `"`
abbrev pub string_text : List ℕ → List ℕ
string_text bytes = (34 ∷ []) ++ flat_map byte_text bytes ++ (34 ∷ [])

-- a name: itself where it is a bare identifier, else a string
abbrev pub name_text : List ℕ → List ℕ
name_text name = if is_bare name then name else string_text name
