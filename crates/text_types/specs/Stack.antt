-- Numbers that stand for terms.
use Rattle.std.specs.Prelude.{◌≡◌, ◌≤◌, ℕ, List, [], ◌∷◌, Option, Some, None, length, map, nat_eq}
use Rattle.std.specs.HashMap.{get}
use Rattle.term_table.specs.declared.node.Node.{Node}
use Rattle.term_table.specs.Terms.{Term, term_at}
use Rattle.text_types.specs.declared.alias_numbers.AliasNumbers.{AliasNumbers}

-- none of the numbers is above the last one of the table
abbrev pub Within : ℕ → List ℕ → Type 0
Within last [] = Unit {0}
Within last (number ∷ numbers) = (number ≤ last) × Within last numbers

-- the numbers stand for these terms
pub record Stands (nodes : List Node) (numbers : List ℕ) (terms : List Term) : Type 0 where
  pub within : Within (length nodes) numbers
  pub is : map (term_at nodes) numbers ≡ terms

abbrev pub or_zero : Option ℕ → ℕ
or_zero None = 0
or_zero (Some n) = n

-- the number of an alias, 0 for none
abbrev pub number_of : AliasNumbers → ℕ → ℕ
number_of aliases name = or_zero (get nat_eq aliases.numbers name)

-- each alias has a number of the table
abbrev pub AliasesWithin : ℕ → AliasNumbers → Type 0
AliasesWithin last aliases = (name : ℕ) → number_of aliases name ≤ last

-- the term of each alias
abbrev pub alias_terms : List Node → AliasNumbers → ℕ → Term
alias_terms nodes aliases name = term_at nodes (number_of aliases name)

-- the first number, 0 for none
abbrev pub first_number : List ℕ → ℕ
first_number [] = 0
first_number (number ∷ numbers) = number
