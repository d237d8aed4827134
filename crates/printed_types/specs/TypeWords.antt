-- The words of a printed type, in front of the words behind it.
use Rattle.std.specs.Prelude.{ℕ, ◌==◌, ◌||◌, Bool, true, false, List, [], ◌∷◌, ◌++◌, codes, decimal, if◌then◌else◌}
use Rattle.tree_model.specs.declared.type_tree.Dim.{Dim}
use Rattle.tree_model.specs.declared.type_tree.Dim.TheVariants.{Fixed, Dynamic}
use Rattle.plain_tree.specs.Types.{PlainType, PlainTypes, Int, Index, Memref, Func, Ptr, Void, Struct, Array, LlvmFunc, end_of_types, more_types}
use Rattle.text_grammar.specs.declared.kinds.Kind.{Kind}
use Rattle.text_grammar.specs.declared.kinds.Kind.TheVariants as kinds
use Rattle.text_grammar.specs.declared.places.Place.{Place}
use Rattle.text_grammar.specs.declared.places.Place.TheVariants as places
use Rattle.printed_words.specs.Words.{PrintedWord, word, sign}

-- the kind of the word of an integer type: the widths of whole bytes that are powers of two have their own
abbrev pub kind_if : Bool → Kind
kind_if true = kinds.WordWidth
kind_if false = kinds.WordInteger

abbrev pub is_byte_width : ℕ → Bool
is_byte_width width = width == 8 || width == 16 || width == 32 || width == 64

abbrev pub int_kind : ℕ → Kind
int_kind width = kind_if (is_byte_width width)

-- a type of the llvm dialect begins with a name, which is led by `!llvm.` but within another one
abbrev pub llvm_word : Bool → List ℕ → (outer inner : Place) → (outer_kind inner_kind : Kind) → List ℕ → PrintedWord
llvm_word true gap outer inner outer_kind inner_kind name = word gap inner inner_kind name
llvm_word false gap outer inner outer_kind inner_kind name = word gap outer outer_kind (codes "!llvm." ++ name)

abbrev pub plain_word : Bool → List ℕ → List ℕ → PrintedWord
plain_word inside gap name = llvm_word inside gap places.LlvmPlain places.InnerPlain kinds.TypePlain kinds.WordPlain name

abbrev pub struct_word : Bool → List ℕ → PrintedWord
struct_word inside gap = llvm_word inside gap places.LlvmStruct places.InnerStruct kinds.TypeStruct kinds.WordStruct (codes "struct")

abbrev pub array_word : Bool → List ℕ → PrintedWord
array_word inside gap = llvm_word inside gap places.LlvmArray places.InnerArray kinds.TypeArray kinds.WordArray (codes "array")

abbrev pub function_word : Bool → List ℕ → PrintedWord
function_word inside gap = llvm_word inside gap places.LlvmFunction places.InnerFunction kinds.TypeFunction kinds.WordFunction (codes "func")

-- the sizes of a memref, each with its `x`
abbrev pub size_bytes : Dim → List ℕ
size_bytes (Fixed n) = decimal n
size_bytes Dynamic = codes "?"

abbrev pub dim_words : List Dim → List PrintedWord → List PrintedWord
dim_words [] rest = rest
dim_words (d ∷ ds) rest = sign places.DimensionSize kinds.Dimension (size_bytes d) ∷ sign places.DimensionBy kinds.DimensionX (codes "x") ∷ dim_words ds rest

abbrev pub is_function : PlainType → Bool
is_function (Func inputs results) = true
is_function _ = false

abbrev mutual
  -- a type behind this white space, within a type of the llvm dialect or elsewhere, where an integer type stands at this place
  pub type_words : Bool → Place → List ℕ → PlainType → List PrintedWord → List PrintedWord
  type_words inside at gap (Int width) rest = word gap at (int_kind width) (codes "i" ++ decimal width) ∷ rest
  type_words inside at gap Index rest = word gap at kinds.WordInteger (codes "index") ∷ rest
  type_words inside at gap (Memref dims element) rest =
      word gap places.MemrefWord kinds.WordMemref (codes "memref") ∷ sign places.MemrefLess kinds.Less (codes "<")
      ∷ dim_words dims (type_words inside places.ElementWord [] element (sign places.MemrefGreater kinds.Greater (codes ">") ∷ rest))
  type_words inside at gap (Func inputs results) rest =
      word gap places.FunctionOpen kinds.OpenParen (codes "(")
      ∷ types_words inside inputs (sign places.FunctionClose kinds.CloseParen (codes ")") ∷ word (codes " ") places.FunctionArrow kinds.Arrow (codes "->") ∷ results_words inside results rest)
  type_words inside at gap Ptr rest = plain_word inside gap (codes "ptr") ∷ rest
  type_words inside at gap Void rest = plain_word inside gap (codes "void") ∷ rest
  type_words inside at gap (Struct fields) rest =
      struct_word inside gap ∷ sign places.StructLess kinds.Less (codes "<") ∷ sign places.StructOpen kinds.OpenParen (codes "(")
      ∷ types_words true fields (sign places.StructClose kinds.CloseParen (codes ")") ∷ sign places.StructGreater kinds.Greater (codes ">") ∷ rest)
  type_words inside at gap (Array n element) rest =
      array_word inside gap ∷ sign places.ArrayLess kinds.Less (codes "<") ∷ sign places.ArrayNumber kinds.Number (decimal n) ∷ word (codes " ") places.ArrayX kinds.WordX (codes "x")
      ∷ type_words true places.IntegerWord (codes " ") element (sign places.ArrayGreater kinds.Greater (codes ">") ∷ rest)
  type_words inside at gap (LlvmFunc output inputs) rest =
      function_word inside gap ∷ sign places.LlvmFunctionLess kinds.Less (codes "<")
      ∷ type_words true places.IntegerWord [] output (word (codes " ") places.ParametersOpen kinds.OpenParen (codes "(")
      ∷ types_words true inputs (sign places.ParametersClose kinds.CloseParen (codes ")") ∷ sign places.LlvmFunctionGreater kinds.Greater (codes ">") ∷ rest))

  -- types with a comma between each two
  pub types_words : Bool → PlainTypes → List PrintedWord → List PrintedWord
  types_words inside end_of_types rest = rest
  types_words inside (more_types t ts) rest = type_words inside places.IntegerWord [] t (more_words inside ts rest)

  -- the types behind the first one
  pub more_words : Bool → PlainTypes → List PrintedWord → List PrintedWord
  more_words inside end_of_types rest = rest
  more_words inside (more_types t ts) rest = sign places.TypeComma kinds.Comma (codes ",") ∷ type_words inside places.IntegerWord (codes " ") t (more_words inside ts rest)

  -- the results of a function type: one that is no function type stands alone, others in parentheses
  pub results_words : Bool → PlainTypes → List PrintedWord → List PrintedWord
  results_words inside end_of_types rest = word (codes " ") places.ResultsOpen kinds.OpenParen (codes "(") ∷ sign places.ResultsClose kinds.CloseParen (codes ")") ∷ rest
  results_words inside (more_types t end_of_types) rest =
      if is_function t then word (codes " ") places.ResultsOpen kinds.OpenParen (codes "(") ∷ type_words inside places.IntegerWord [] t (sign places.ResultsClose kinds.CloseParen (codes ")") ∷ rest)
      else type_words inside places.IntegerWord (codes " ") t rest
  results_words inside (more_types t (more_types u us)) rest =
      word (codes " ") places.ResultsOpen kinds.OpenParen (codes "(")
      ∷ type_words inside places.IntegerWord [] t (sign places.TypeComma kinds.Comma (codes ",") ∷ type_words inside places.IntegerWord (codes " ") u (more_words inside us (sign places.ResultsClose kinds.CloseParen (codes ")") ∷ rest)))
