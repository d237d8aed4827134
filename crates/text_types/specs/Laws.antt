-- What holds of types and their numbers.
use Rattle.std.specs.Prelude.{◌≡◌, ◌≤◌, ◌↔◌, ℕ, length}
use Rattle.plain_tree.specs.Types.{PlainType}
use Rattle.term_table.specs.declared.table.Terms.{Terms}
use Rattle.term_table.specs.Terms.{term_at}
use Rattle.text_types.specs.Plain.{type_of, term_of}

-- in a table two numbers that stand for types are the same exactly where the types are
abbrev pub OneNumberForAType : Type 0
OneNumberForAType = (terms : Terms) (i j : ℕ) (t u : PlainType) → i ≤ length terms.nodes.keys → j ≤ length terms.nodes.keys → term_at terms.nodes.keys i ≡ term_of t
    → term_at terms.nodes.keys j ≡ term_of u → (i ≡ j) ↔ (t ≡ u)

-- a type is that of its term
abbrev pub TypeOfTerm : Type 0
TypeOfTerm = (t : PlainType) → type_of (term_of t) ≡ t
