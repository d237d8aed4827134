-- The outermost level of a key, and its parts.
use Rattle.std.specs.Prelude.{◌≡◌, Some, slice_get, ℕ, List, [], ◌∷◌, ◌++◌, map, length}
use Rattle.tree_model.specs.declared.type_tree.TypeTree.{TypeTree, out-TypeTree}
use Rattle.tree_model.specs.declared.type_tree.TypeTree.TheOpen.{TypeTree-F}
use Rattle.tree_model.specs.declared.attr_tree.AttrTree.{AttrTree, out-AttrTree}
use Rattle.tree_model.specs.declared.attr_tree.AttrTree.TheOpen.{AttrTree-F}
use Rattle.key_model.specs.declared.key.Key.{Key}
use Rattle.key_model.specs.declared.key.Key.TheVariants.{OfType, OfAttr}
use Rattle.key_model.specs.declared.entry.Head.{Head}
use Rattle.key_model.specs.declared.entry.Head.TheVariants as head

-- the head of one level of a type
abbrev pub type_head : TypeTree-F TypeTree → Head
type_head (TypeTree-F.Int width) = head.TInt width
type_head TypeTree-F.Index = head.TIndex
type_head (TypeTree-F.Memref dims element) = head.TMemref dims
type_head (TypeTree-F.Func inputs results) = head.TFunc (length inputs)
type_head TypeTree-F.Ptr = head.TPtr
type_head TypeTree-F.Void = head.TVoid
type_head (TypeTree-F.Struct fields) = head.TStruct
type_head (TypeTree-F.Array n element) = head.TArray n
type_head (TypeTree-F.LlvmFunc output inputs) = head.TLlvmFunc

-- the types in one level of a type: an element; inputs and then results; fields; output and then inputs
abbrev pub types_of : TypeTree-F TypeTree → List TypeTree
types_of (TypeTree-F.Int width) = []
types_of TypeTree-F.Index = []
types_of (TypeTree-F.Memref dims element) = element ∷ []
types_of (TypeTree-F.Func inputs results) = inputs ++ results
types_of TypeTree-F.Ptr = []
types_of TypeTree-F.Void = []
types_of (TypeTree-F.Struct fields) = fields
types_of (TypeTree-F.Array n element) = element ∷ []
types_of (TypeTree-F.LlvmFunc output inputs) = output ∷ inputs

-- the names of a dictionary
abbrev pub names_of : List (List ℕ × AttrTree) → List (List ℕ)
names_of entries = map (λ e. e.0) entries

-- the values of a dictionary
abbrev pub values_of : List (List ℕ × AttrTree) → List AttrTree
values_of entries = map (λ e. e.1) entries

-- the head of one level of an attribute
abbrev pub attr_head : AttrTree-F AttrTree → Head
attr_head AttrTree-F.Unit = head.Unit
attr_head (AttrTree-F.Int value t) = head.Int value
attr_head (AttrTree-F.Str text) = head.Str text
attr_head (AttrTree-F.List items) = head.List
attr_head (AttrTree-F.Dict entries) = head.Dict (names_of entries)
attr_head (AttrTree-F.OfType t) = head.OfType
attr_head (AttrTree-F.Symbol name) = head.Symbol name
attr_head (AttrTree-F.Ints width numbers) = head.Ints width numbers
attr_head (AttrTree-F.Dialect name words) = head.Dialect name words

-- the keys in one level of an attribute: the type of an integer, members, values, a type
abbrev pub keys_of : AttrTree-F AttrTree → List Key
keys_of AttrTree-F.Unit = []
keys_of (AttrTree-F.Int value t) = OfType t ∷ []
keys_of (AttrTree-F.Str text) = []
keys_of (AttrTree-F.List items) = map OfAttr items
keys_of (AttrTree-F.Dict entries) = map OfAttr (values_of entries)
keys_of (AttrTree-F.OfType t) = OfType t ∷ []
keys_of (AttrTree-F.Symbol name) = []
keys_of (AttrTree-F.Ints width numbers) = []
keys_of (AttrTree-F.Dialect name words) = []

-- the outermost level of a key
abbrev pub head_of : Key → Head
head_of (OfType t) = type_head (out-TypeTree t)
head_of (OfAttr a) = attr_head (out-AttrTree a)

-- the parts of a key, each a key of its own
abbrev pub parts_of : Key → List Key
parts_of (OfType t) = map OfType (types_of (out-TypeTree t))
parts_of (OfAttr a) = keys_of (out-AttrTree a)

-- the key stands at this place among the parts
abbrev pub IsPartAt : Key → Key → ℕ → Type 0
IsPartAt p k i = slice_get (parts_of k) i ≡ Some p

-- a key stands in another one: it is that one, or stands in a part of it
pub data IsWithin : Key → Key → Type 0 where
  itself : (k : Key) → IsWithin k k
  part : (q p k : Key) (i : ℕ) → IsPartAt p k i → IsWithin q p → IsWithin q k
