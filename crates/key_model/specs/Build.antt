-- The key with a given outermost level and given parts.
use Rattle.std.specs.Prelude.{List, [], ◌∷◌, take, drop, zip}
use Rattle.tree_model.specs.declared.type_tree.TypeTree.{TypeTree, out-TypeTree, roll-TypeTree, roll-out-TypeTree}
use Rattle.tree_model.specs.declared.type_tree.TypeTree as type
use Rattle.tree_model.specs.declared.attr_tree.AttrTree.{AttrTree, out-AttrTree}
use Rattle.tree_model.specs.declared.attr_tree.AttrTree as attr
use Rattle.key_model.specs.declared.key.Key.{Key}
use Rattle.key_model.specs.declared.key.Key.TheVariants.{OfType, OfAttr}
use Rattle.key_model.specs.declared.entry.Head.{Head}
use Rattle.key_model.specs.declared.entry.Head.TheVariants.{TInt, TIndex, TMemref, TFunc, TPtr, TVoid, TStruct, TArray, TLlvmFunc, Unit, Int, Str, List as ListHead, Dict, OfType as TypeHead, Symbol, Ints, Dialect}

-- the types among keys
abbrev pub types_among : List Key → List TypeTree
types_among [] = []
types_among (OfType t ∷ keys) = t ∷ types_among keys
types_among (OfAttr a ∷ keys) = types_among keys

-- the attributes among keys
abbrev pub attrs_among : List Key → List AttrTree
attrs_among [] = []
attrs_among (OfType t ∷ keys) = attrs_among keys
attrs_among (OfAttr a ∷ keys) = a ∷ attrs_among keys

-- the first type, or `index` where there is none
abbrev pub first_type : List TypeTree → TypeTree
first_type [] = type.Index
first_type (t ∷ ts) = t

-- the key with this head and these parts, where they fit; else some key
abbrev pub build : Head → List Key → Key
build (TInt width) parts = OfType (type.Int width)
build TIndex parts = OfType type.Index
build (TMemref dims) parts = OfType (type.Memref dims (first_type (types_among parts)))
build (TFunc inputs) parts = OfType (type.Func (take inputs (types_among parts)) (drop inputs (types_among parts)))
build TPtr parts = OfType type.Ptr
build TVoid parts = OfType type.Void
build TStruct parts = OfType (type.Struct (types_among parts))
build (TArray n) parts = OfType (type.Array n (first_type (types_among parts)))
build TLlvmFunc parts = OfType (type.LlvmFunc (first_type (types_among parts)) (drop 1 (types_among parts)))
build Unit parts = OfAttr attr.Unit
build (Int value) parts = OfAttr (attr.Int value (first_type (types_among parts)))
build (Str text) parts = OfAttr (attr.Str text)
build ListHead parts = OfAttr (attr.List (attrs_among parts))
build (Dict names) parts = OfAttr (attr.Dict (zip names (attrs_among parts)))
build TypeHead parts = OfAttr (attr.OfType (first_type (types_among parts)))
build (Symbol name) parts = OfAttr (attr.Symbol name)
build (Ints width numbers) parts = OfAttr (attr.Ints width numbers)
build (Dialect name words) parts = OfAttr (attr.Dialect name words)
