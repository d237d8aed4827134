-- Texts of types and attributes, written out.
use Rattle.std.specs.Prelude.{◌≡◌, [], ◌∷◌, codes, pos, negsuc}
use Rattle.tree_model.specs.declared.type_tree.Dim.TheVariants.{Fixed, Dynamic}
use Rattle.tree_model.specs.declared.type_tree.TypeTree as type
use Rattle.tree_model.specs.declared.attr_tree.AttrTree as attr
use Rattle.tree_text.specs.TypeText.{type_text}
use Rattle.tree_text.specs.AttrText.{attr_text, dict_text}

-- a function type in a struct: no prefix inside
abbrev pub FunctionInStruct : Type 0
FunctionInStruct = type_text (type.Struct (type.Func (type.Ptr ∷ []) (type.Ptr ∷ []) ∷ [])) ≡ codes "!llvm.struct<((ptr) -> ptr)>"

-- a memref in a struct: no prefix inside
abbrev pub MemrefInStruct : Type 0
MemrefInStruct = type_text (type.Struct (type.Memref (Fixed 4 ∷ Dynamic ∷ []) type.Ptr ∷ [])) ≡ codes "!llvm.struct<(memref<4x?xptr>)>"

-- an array in an array
abbrev pub ArrayInArray : Type 0
ArrayInArray = type_text (type.Array 2 (type.Array 4 (type.Int 8))) ≡ codes "!llvm.array<2 x array<4 x i8>>"

-- a function of the llvm dialect
abbrev pub LlvmFunction : Type 0
LlvmFunction = type_text (type.LlvmFunc type.Void (type.Int 32 ∷ type.Ptr ∷ [])) ≡ codes "!llvm.func<void (i32, ptr)>"

-- a function type that stands in no type of the llvm dialect, with no result
abbrev pub FunctionOutside : Type 0
FunctionOutside = type_text (type.Func (type.Ptr ∷ type.Int 1 ∷ []) []) ≡ codes "(!llvm.ptr, i1) -> ()"

-- a result that is a function type stands in parentheses
abbrev pub FunctionAsResult : Type 0
FunctionAsResult = type_text (type.Func [] (type.Func [] (type.Index ∷ []) ∷ [])) ≡ codes "() -> (() -> index)"

-- an integer of `i1` is a word
abbrev pub BitAttr : Type 0
BitAttr = attr_text (attr.Int (negsuc 0) (type.Int 1)) ≡ codes "true"

-- another integer has its type
abbrev pub IntegerAttr : Type 0
IntegerAttr = attr_text (attr.Int (negsuc 4) (type.Int 32)) ≡ codes "-5 : i32"

-- numbers in an array
abbrev pub IntegersAttr : Type 0
IntegersAttr = attr_text (attr.Ints 32 (pos 1 ∷ negsuc 1 ∷ [])) ≡ codes "array<i32: 1, -2>"

-- an attribute of a dialect
abbrev pub DialectAttr : Type 0
DialectAttr = attr_text (attr.Dialect (codes "arith.overflow") (codes "nsw" ∷ codes "nuw" ∷ [])) ≡ codes "#arith.overflow<nsw, nuw>"

-- an entry that is a unit has a name alone, and a name that is no bare identifier is a string, as is
-- a text of a backslash and a line feed
abbrev pub Entries : Type 0
Entries = dict_text ((codes "a b", attr.Unit) ∷ (codes "c", attr.Str (92 ∷ 10 ∷ [])) ∷ []) ≡ codes "\"a b\", c = \"\\\\\\0A\""
