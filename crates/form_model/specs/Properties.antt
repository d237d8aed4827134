-- What the properties of an operation tell about its form.
use Rattle.std.specs.Prelude.{ℕ, zero, suc, ◌==◌, List, [], ◌∷◌, Option, Some, None, ℤ, pos, negsuc, codes, if◌then◌else◌}
use Rattle.std.specs.List.{list_any}
use Rattle.std.specs.Str.{bytes_eq}
use Rattle.tree_model.specs.declared.type_tree.TypeTree.{TypeTree}
use Rattle.tree_model.specs.declared.attr_tree.AttrTree.{AttrTree, out-AttrTree}
use Rattle.tree_model.specs.declared.attr_tree.AttrTree.TheOpen.{AttrTree-F}
use Rattle.number_model.specs.Arithmetic.{Flags, no_flags, Comparison, Equal, Unequal, Below, AtMost, Above, AtLeast, BelowUnsigned, AtMostUnsigned, AboveUnsigned, AtLeastUnsigned}

-- the entries of a dictionary
abbrev pub Entries : Type 0
Entries = List (List ℕ × AttrTree)

-- the entry of this name
abbrev pub property : List ℕ → Entries → Option AttrTree
property name [] = None
property name (e ∷ es) = if bytes_eq e.0 name then Some e.1 else property name es

abbrev pub if_some : {A B : Type 0} → Option A → (A → Option B) → Option B
if_some None next = None
if_some (Some a) next = next a

-- the attribute of this name, one level deep
abbrev pub level : List ℕ → Entries → Option (AttrTree-F AttrTree)
level name props = if_some (property name props) (λ a. Some (out-AttrTree a))

abbrev pub integer_in : AttrTree-F AttrTree → Option ℤ
integer_in (AttrTree-F.Int value t) = Some value
integer_in _ = None

-- an integer
abbrev pub integer_of : List ℕ → Entries → Option ℤ
integer_of name props = if_some (level name props) integer_in

abbrev pub numbers_in : AttrTree-F AttrTree → Option (List ℤ)
numbers_in (AttrTree-F.Ints width ns) = Some ns
numbers_in _ = None

-- the numbers of an array
abbrev pub numbers_of : List ℕ → Entries → Option (List ℤ)
numbers_of name props = if_some (level name props) numbers_in

abbrev pub symbol_in : AttrTree-F AttrTree → Option (List ℕ)
symbol_in (AttrTree-F.Symbol name) = Some name
symbol_in _ = None

-- the name of a function
abbrev pub symbol_of : List ℕ → Entries → Option (List ℕ)
symbol_of name props = if_some (level name props) symbol_in

abbrev pub text_in : AttrTree-F AttrTree → Option (List ℕ)
text_in (AttrTree-F.Str text) = Some text
text_in _ = None

-- a text
abbrev pub text_of : List ℕ → Entries → Option (List ℕ)
text_of name props = if_some (level name props) text_in

abbrev pub type_in : AttrTree-F AttrTree → Option TypeTree
type_in (AttrTree-F.OfType t) = Some t
type_in _ = None

-- a type
abbrev pub type_of : List ℕ → Entries → Option TypeTree
type_of name props = if_some (level name props) type_in

abbrev pub flags_in : AttrTree-F AttrTree → Option Flags
flags_in (AttrTree-F.Dialect name words) =
    Some (record { signed = list_any (bytes_eq (codes "nsw")) words; unsigned = list_any (bytes_eq (codes "nuw")) words })
flags_in _ = None

abbrev pub flags_at : Option (AttrTree-F AttrTree) → Option Flags
flags_at None = Some no_flags
flags_at (Some a) = flags_in a

-- the promises: none where the property is missing
abbrev pub flags_of : Entries → Option Flags
flags_of props = flags_at (level (codes "overflowFlags") props)

-- a number that is not negative
abbrev pub natural : ℤ → Option ℕ
natural (pos n) = Some n
natural (negsuc n) = None

abbrev pub and_natural : Option ℕ → Option (List ℕ) → Option (List ℕ)
and_natural (Some n) (Some ns) = Some (n ∷ ns)
and_natural _ _ = None

abbrev pub naturals : List ℤ → Option (List ℕ)
naturals [] = Some []
naturals (z ∷ zs) = and_natural (natural z) (naturals zs)

-- a path of fields and places
abbrev pub position_of : Entries → Option (List ℕ)
position_of props = if_some (numbers_of (codes "position") props) naturals

-- how many operands each successor of a branch with a condition takes
abbrev pub successor_counts : List ℕ → Option (ℕ × ℕ)
successor_counts (c ∷ a ∷ b ∷ []) = if c == 1 then Some (a, b) else None
successor_counts _ = None

abbrev pub counts_of : Entries → Option (ℕ × ℕ)
counts_of props = if_some (numbers_of (codes "operandSegmentSizes") props) (λ zs. if_some (naturals zs) successor_counts)

-- the comparisons by their numbers
abbrev pub comparisons : List Comparison
comparisons =
    Equal ∷ Unequal ∷ Below ∷ AtMost ∷ Above ∷ AtLeast ∷ BelowUnsigned ∷ AtMostUnsigned ∷ AboveUnsigned ∷ AtLeastUnsigned ∷ []

abbrev pub comparison_at : ℕ → List Comparison → Option Comparison
comparison_at n [] = None
comparison_at zero (c ∷ cs) = Some c
comparison_at (suc n) (c ∷ cs) = comparison_at n cs

abbrev pub comparison_of : Entries → Option Comparison
comparison_of props = if_some (integer_of (codes "predicate") props) (λ z. if_some (natural z) (λ n. comparison_at n comparisons))

-- the alignment that a new memref asks for: 1 where it asks for none
abbrev pub alignment_at : Option (AttrTree-F AttrTree) → Option ℕ
alignment_at None = Some 1
alignment_at (Some a) = if_some (integer_in a) natural

abbrev pub alignment_of : Entries → Option ℕ
alignment_of props = alignment_at (level (codes "alignment") props)
