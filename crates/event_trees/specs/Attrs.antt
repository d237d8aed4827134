-- Terms as attributes.
use Rattle.std.specs.Prelude.{ℕ, ◌-◌, ◌^◌, Bool, List, [], ◌∷◌, drop, codes, nat_lt, ℤ, pos, ◌-ℤ◌, if◌then◌else◌}
use Rattle.std.specs.Str.{bytes_eq}
use Rattle.tree_model.specs.declared.attr_tree.AttrTree.{AttrTree}
use Rattle.tree_model.specs.declared.attr_tree.AttrTree as attr
use Rattle.plain_tree.specs.Types.{PlainType, Int, type_tree}
use Rattle.term_table.specs.declared.node.Form.TheVariants as forms
use Rattle.term_table.specs.Terms.{Term, nothing, node}
use Rattle.text_types.specs.Plain.{type_of}
use Rattle.event_trees.specs.Wording.{Wording}
use Rattle.event_trees.specs.Dictionaries.{Entry, sorted}

-- Integers

-- the bits of an integer whose type is this term: `index` has 64, and so has an integer without a type
abbrev pub bits_of : Term → ℕ
bits_of (node forms.Int width _ _) = width
bits_of _ = 64

-- a number without a minus as a signed number of so many bits: from the half on it stands for a negative one
abbrev pub signed : ℕ → ℕ → ℤ
signed bits n = if nat_lt n (2 ^ (bits - 1)) then pos n else pos n -ℤ pos (2 ^ bits)

abbrev pub negative : ℕ → ℤ
negative n = pos 0 -ℤ pos n

-- the type of an integer: i64 where none is written
abbrev pub integer_type : Term → PlainType
integer_type nothing = Int 64
integer_type (node form value left right) = type_of (node form value left right)

-- an integer attribute with this term as its type, without a minus or with one
abbrev pub integer : ℕ → Term → AttrTree
integer n t = attr.Int (signed (bits_of t) n) (type_tree (integer_type t))

abbrev pub minus_integer : ℕ → Term → AttrTree
minus_integer n t = attr.Int (negative n) (type_tree (integer_type t))

-- behind a minus
abbrev pub minus_of : Wording → Term → AttrTree
minus_of words (node forms.Number name t _) = minus_integer (words.number name) t
minus_of words _ = attr.Unit

-- `true` is -1 and `false` is 0, of i1
abbrev pub truth : Bool → AttrTree
truth value = attr.Int (if value then negative 1 else pos 0) (type_tree (Int 1))

-- Lists

-- the numbers of an array whose numbers have so many bits
abbrev pub numbers_of : Wording → ℕ → Term → List ℤ
numbers_of words bits (node forms.Listed name more _) = signed bits (words.number name) ∷ numbers_of words bits more
numbers_of words bits (node forms.ListedMinus _ (node forms.Listed name more _) _) = negative (words.number name) ∷ numbers_of words bits more
numbers_of words bits _ = []

-- the words of a dialect attribute
abbrev pub words_of : Wording → Term → List (List ℕ)
words_of words (node forms.DialectWord name more _) = words.spelled name ∷ words_of words more
words_of words _ = []

abbrev mutual
  -- the attribute of a term; a term of a type is that type
  pub attr_of : Wording → Term → AttrTree
  attr_of words (node forms.Unit _ _ _) = attr.Unit
  attr_of words (node forms.Number name t _) = integer (words.number name) t
  attr_of words (node forms.Minus _ number _) = minus_of words number
  attr_of words (node forms.Bool name _ _) = truth (bytes_eq (words.spelled name) (codes "true"))
  attr_of words (node forms.Text name _ _) = attr.Str (words.spelled name)
  attr_of words (node forms.Items _ items _) = attr.List (items_of words items)
  attr_of words (node forms.Dict _ entries _) = attr.Dict (sorted (entries_of words entries))
  attr_of words (node forms.Symbol name _ _) = attr.Symbol (words.spelled name)
  attr_of words (node forms.Numbers bits numbers _) = attr.Ints bits (numbers_of words bits numbers)
  -- the name of a dialect attribute stands without its `#`
  attr_of words (node forms.Dialect name more _) = attr.Dialect (drop 1 (words.spelled name)) (words_of words more)
  attr_of words t = attr.OfType (type_tree (type_of t))

  -- the members of a list
  pub items_of : Wording → Term → List AttrTree
  items_of words (node forms.Item _ first more) = attr_of words first ∷ items_of words more
  items_of words _ = []

  -- the entries of a dictionary, as they are written
  pub entries_of : Wording → Term → List Entry
  entries_of words (node forms.Entry name value more) = (words.spelled name, attr_of words value) ∷ entries_of words more
  entries_of words _ = []

-- the entries of a dictionary's term, as they are written: none where there is no dictionary
abbrev pub written_of : Wording → Term → List Entry
written_of words (node forms.Dict _ entries _) = entries_of words entries
written_of words _ = []
