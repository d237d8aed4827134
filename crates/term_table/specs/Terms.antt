-- Terms, and which number of a table stands for which.
use Rattle.std.specs.Prelude.{◌≡◌, ◌≤◌, ℕ, List, [], ◌∷◌, ◌++◌, Some, length, slice_get, slice_index_or}
use Rattle.term_table.specs.declared.node.Form.{Form}
use Rattle.term_table.specs.declared.node.Node.{Node}

-- nothing, or a node with its form, its value and its two parts
pub data Term : Type 0 where
  nothing : Term
  node : Form → ℕ → Term → Term → Term

-- the term of a number: the first ones are given, and nothing stands for what isn't
abbrev pub at : List Term → ℕ → Term
at terms number = slice_index_or terms number nothing

-- a node's term, where the terms before it are given
abbrev pub term_of : List Term → Node → Term
term_of terms n = node n.form n.value (at terms n.left) (at terms n.right)

-- the terms before, and then those of the nodes
abbrev pub terms_from : List Term → List Node → List Term
terms_from terms [] = terms
terms_from terms (n ∷ nodes) = terms_from (terms ++ term_of terms n ∷ []) nodes

-- the term of each number of a table: 0 stands for nothing, and 1 for the first node
abbrev pub term_at : List Node → ℕ → Term
term_at nodes number = at (terms_from (nothing ∷ []) nodes) number

-- the term of a node over a table
abbrev pub made_of : List Node → Node → Term
made_of nodes n = node n.form n.value (term_at nodes n.left) (term_at nodes n.right)

-- a node's parts are nothing, or nodes before it
abbrev pub PartsBefore : List Node → Type 0
PartsBefore nodes = (k : ℕ) (n : Node) → slice_get nodes k ≡ Some n → (n.left ≤ k) × (n.right ≤ k)

-- each term has one number
abbrev pub OneNumber : List Node → Type 0
OneNumber nodes = (i j : ℕ) → i ≤ length nodes → j ≤ length nodes → term_at nodes i ≡ term_at nodes j → i ≡ j

-- each number of the old table stands for the same term in the new one
pub record Grows (old new : List Node) : Type 0 where
  pub longer : length old ≤ length new
  pub kept : (k : ℕ) → k ≤ length old → term_at new k ≡ term_at old k
