-- Tables of new numbers: which supply a table stands for, and tables that extend others.
use Rattle.std.specs.Prelude.{◌≡◌, ℕ, zero, suc, ◌+◌, List, [], ◌∷◌, ◌++◌, map, if◌then◌else◌}
use Rattle.conversion_model.specs.Conversion.{Supply}
use Rattle.conversion_model.specs.Fresh.{Place, of_row, of_line, of_function, of_block, same_place}
use Rattle.new_numbers.specs.declared.place.ValuePlace.{ValuePlace}
use Rattle.new_numbers.specs.declared.place.ValuePlace.TheVariants.{OfRow, OfLine, OfFunction, OfBlock}
use Rattle.new_numbers.specs.declared.table.NewNumbers.{NewNumbers}

abbrev pub place_of : ValuePlace → Place
place_of (OfRow n k) = of_row n k
place_of (OfLine n piece k) = of_line n piece k
place_of (OfFunction k) = of_function k
place_of (OfBlock label k) = of_block label k

-- two numbers as one, 2 ^ a * (2 * b + 1), so that no two pairs have the same one
abbrev pub paired : ℕ → ℕ → ℕ
paired zero b = b + b + 1
paired (suc a) b = paired a b + paired a b

-- a place as a number, so that no two places have the same one
abbrev pub coded : Place → ℕ
coded (of_row n k) = paired 0 (paired n k)
coded (of_line n piece k) = paired 1 (paired n (paired piece k))
coded (of_function k) = paired 2 k
coded (of_block label k) = paired 3 (paired label k)

-- the place of a place among those that were asked for; one that wasn't stands behind them, by its code
abbrev pub among : List Place → Place → ℕ
among [] p = coded p
among (q ∷ qs) p = if same_place p q then 0 else among qs p + 1

-- a table: its numbers are counted from a base on, and so are its labels, whose places are those of rows
pub record Numbering : Type 0 where
  pub base : ℕ
  pub values : List Place
  pub label_base : ℕ
  pub labels : List Place

abbrev pub value_in : Numbering → Place → ℕ
value_in t p = t.base + among t.values p

abbrev pub label_in : Numbering → Place → ℕ
label_in t p = t.label_base + among t.labels p

-- the supply that a table stands for: what was asked for has its number, and what wasn't has one behind them
abbrev pub supply_of : Numbering → Supply
supply_of t = record {
  row = λ n. record { value = λ k. value_in t (of_row n k); label = λ k. label_in t (of_row n k) };
  value = λ n piece k. value_in t (of_line n piece k);
  parameter = λ k. value_in t (of_function k);
  argument = λ label k. value_in t (of_block label k);
}

-- more places at the end
pub record Grows (old new : List Place) : Type 0 where
  pub more : List Place
  pub is : new ≡ old ++ more

-- a table extends another one: all that the other one gave stays
pub record Extends (old new : Numbering) : Type 0 where
  pub base : new.base ≡ old.base
  pub values : Grows old.values new.values
  pub label_base : new.label_base ≡ old.label_base
  pub labels : Grows old.labels new.labels

-- the table of code
abbrev pub numbering_of : NewNumbers → Numbering
numbering_of t = record { base = t.base; values = map place_of t.values.keys; label_base = t.label_base; labels = map place_of t.labels.keys }
