-- The words of a type are what the grammar calls one.
use Rattle.std.proofs.Common.{◌≡◌, ℕ, ◌==◌, ◌&&◌, ◌||◌, Bool, true, false, List, [], ◌∷◌, ◌++◌, refl, sym}
use Rattle.std.specs.Prelude.{codes, ◌^◌, nat_lt, nat_le, length}
use Rattle.std.specs.List.{list_all}
use Rattle.std.proofs.lemmas.Bool.{false≢true}
use Rattle.mlir_lex.proofs.Lengths.{and-left, and-right}
use Rattle.tree_model.specs.declared.type_tree.Dim.{Dim}
use Rattle.plain_tree.specs.Types.{PlainType, PlainTypes, Int, Index, Memref, Func, Ptr, Void, Struct, Array, LlvmFunc, end_of_types, more_types}
use Rattle.rule_model.specs.Forms.{is_number}
use Rattle.rule_model.specs.Formed.{is_dim, is_formed_type, are_formed_types}
use Rattle.line_grammar.specs.Grammar.{Has}
use Rattle.printed_words.proofs.ReadLemmas.{has_at, took, opened, left, if_read}
use Rattle.text_grammar.specs.declared.kinds.Kind.{Kind}
use Rattle.text_grammar.specs.declared.kinds.Kind.TheVariants as kinds
use Rattle.text_grammar.specs.declared.places.Place.{Place}
use Rattle.text_grammar.specs.declared.places.Place.TheVariants as places
use Rattle.text_grammar.specs.declared.parts.Part.{Part}
use Rattle.text_grammar.specs.declared.parts.Part.TheVariants as parts
use Rattle.text_grammar.specs.Places.{fits_at}
use Rattle.text_grammar.specs.Table.{Wanted, TextLine, lines_of, at, some, struct_rest, array_rest, llvm_function_rest}
use Rattle.printed_words.specs.Words.{PrintedWord, word, sign, AreRead}
use Rattle.printed_types.specs.TypeWords.{type_words, types_words, more_words, results_words, dim_words, llvm_word, int_kind, kind_if, is_function}

-- the parts of the grammar, within a type of the llvm dialect and elsewhere
abbrev pub one_part : Bool → Part
one_part true = parts.InnerType
one_part false = parts.OneType

abbrev pub types_part : Bool → Part
types_part true = parts.InnerTypes
types_part false = parts.Types

abbrev pub more_part : Bool → Part
more_part true = parts.MoreInnerTypes
more_part false = parts.MoreTypes

abbrev pub results_part : Bool → Part
results_part true = parts.InnerResults
results_part false = parts.Results

abbrev element_part : Bool → Part
element_part true = parts.InnerIntegerType
element_part false = parts.IntegerType

abbrev either : Bool → Place → Place → Place
either true outer inner = inner
either false outer inner = outer

-- the line of a type
abbrev pub line_for : Bool → PlainType → TextLine
line_for inside (Int width) = (places.IntegerWord, [])
line_for inside Index = (places.IntegerWord, [])
line_for inside (Memref dims element) = (places.MemrefWord, at places.MemrefLess ∷ some parts.Dimensions ∷ some (element_part inside) ∷ some parts.MemrefEnd ∷ [])
line_for inside (Func inputs results) = (places.FunctionOpen, some (types_part inside) ∷ at places.FunctionClose ∷ at places.FunctionArrow ∷ some (results_part inside) ∷ [])
line_for inside Ptr = (either inside places.LlvmPlain places.InnerPlain, [])
line_for inside Void = (either inside places.LlvmPlain places.InnerPlain, [])
line_for inside (Struct fields) = (either inside places.LlvmStruct places.InnerStruct, struct_rest)
line_for inside (Array n element) = (either inside places.LlvmArray places.InnerArray, array_rest)
line_for inside (LlvmFunc output inputs) = (either inside places.LlvmFunction places.InnerFunction, llvm_function_rest)

-- a part has the line of a type, with some symbols behind
abbrev pub HasLine : Bool → PlainType → List Wanted → Part → Type 0
HasLine inside t more n = Has ((line_for inside t).0, (line_for inside t).1 ++ more) (lines_of n)

pub one_has : (inside : Bool) (t : PlainType) → HasLine inside t [] (one_part inside)
one_has true (Int width) = has_at 0 _ _ refl
one_has true Index = has_at 0 _ _ refl
one_has true (Memref dims element) = has_at 7 _ _ refl
one_has true (Func inputs results) = has_at 13 _ _ refl
one_has true Ptr = has_at 8 _ _ refl
one_has true Void = has_at 8 _ _ refl
one_has true (Struct fields) = has_at 9 _ _ refl
one_has true (Array n element) = has_at 10 _ _ refl
one_has true (LlvmFunc output inputs) = has_at 11 _ _ refl
one_has false (Int width) = has_at 0 _ _ refl
one_has false Index = has_at 0 _ _ refl
one_has false (Memref dims element) = has_at 7 _ _ refl
one_has false (Func inputs results) = has_at 9 _ _ refl
one_has false Ptr = has_at 3 _ _ refl
one_has false Void = has_at 3 _ _ refl
one_has false (Struct fields) = has_at 4 _ _ refl
one_has false (Array n element) = has_at 5 _ _ refl
one_has false (LlvmFunc output inputs) = has_at 6 _ _ refl

pub types_have : (inside : Bool) (t : PlainType) → HasLine inside t (some (more_part inside) ∷ []) (types_part inside)
types_have true (Int width) = has_at 0 _ _ refl
types_have true Index = has_at 0 _ _ refl
types_have true (Memref dims element) = has_at 7 _ _ refl
types_have true (Func inputs results) = has_at 13 _ _ refl
types_have true Ptr = has_at 8 _ _ refl
types_have true Void = has_at 8 _ _ refl
types_have true (Struct fields) = has_at 9 _ _ refl
types_have true (Array n element) = has_at 10 _ _ refl
types_have true (LlvmFunc output inputs) = has_at 11 _ _ refl
types_have false (Int width) = has_at 0 _ _ refl
types_have false Index = has_at 0 _ _ refl
types_have false (Memref dims element) = has_at 7 _ _ refl
types_have false (Func inputs results) = has_at 9 _ _ refl
types_have false Ptr = has_at 3 _ _ refl
types_have false Void = has_at 3 _ _ refl
types_have false (Struct fields) = has_at 4 _ _ refl
types_have false (Array n element) = has_at 5 _ _ refl
types_have false (LlvmFunc output inputs) = has_at 6 _ _ refl

pub results_have : (inside : Bool) (t : PlainType) → is_function t ≡ false → HasLine inside t [] (results_part inside)
results_have true (Int width) h = has_at 0 _ _ refl
results_have true Index h = has_at 0 _ _ refl
results_have true (Memref dims element) h = has_at 7 _ _ refl
results_have inside (Func inputs results) h = absurd (false≢true (sym h))
results_have true Ptr h = has_at 8 _ _ refl
results_have true Void h = has_at 8 _ _ refl
results_have true (Struct fields) h = has_at 9 _ _ refl
results_have true (Array n element) h = has_at 10 _ _ refl
results_have true (LlvmFunc output inputs) h = has_at 11 _ _ refl
results_have false (Int width) h = has_at 0 _ _ refl
results_have false Index h = has_at 0 _ _ refl
results_have false (Memref dims element) h = has_at 7 _ _ refl
results_have false Ptr h = has_at 3 _ _ refl
results_have false Void h = has_at 3 _ _ refl
results_have false (Struct fields) h = has_at 4 _ _ refl
results_have false (Array n element) h = has_at 5 _ _ refl
results_have false (LlvmFunc output inputs) h = has_at 6 _ _ refl

-- Words

kind_fits : (place : Place) (b : Bool) → fits_at place kinds.WordWidth ≡ true → fits_at place kinds.WordInteger ≡ true → fits_at place (kind_if b) ≡ true
kind_fits place true h k = h
kind_fits place false h k = k

pub int_fits : (place : Place) (width : ℕ) → fits_at place kinds.WordWidth ≡ true → fits_at place kinds.WordInteger ≡ true → fits_at place (int_kind width) ≡ true
int_fits place width h k = kind_fits place (width == 8 || width == 16 || width == 32 || width == 64) h k

dims_read : (ds : List Dim) (wanted : List Wanted) (ws : List PrintedWord) → AreRead wanted ws → AreRead (some parts.Dimensions ∷ wanted) (dim_words ds ws)
dims_read [] wanted ws h = left parts.Dimensions refl h
dims_read (d ∷ ds) wanted ws h =
    opened _ parts.Dimensions places.DimensionSize (at places.DimensionBy ∷ some parts.Dimensions ∷ []) kinds.Dimension _ (has_at 0 _ _ refl) refl (took _ places.DimensionBy kinds.DimensionX _ refl (dims_read ds wanted ws h))

-- the element of a memref
pub element_read : (inside : Bool) (gap : List ℕ) (t : PlainType) (wanted : List Wanted) (ws : List PrintedWord) → is_number t ≡ true → AreRead wanted ws → AreRead (some (element_part inside) ∷ wanted) (type_words inside places.ElementWord gap t ws)
element_read true gap (Int width) wanted ws h k = opened _ parts.InnerIntegerType places.ElementWord ([]) (int_kind width) _ (has_at 0 _ _ refl) (int_fits places.ElementWord width refl refl) k
element_read false gap (Int width) wanted ws h k = opened _ parts.IntegerType places.ElementWord ([]) (int_kind width) _ (has_at 0 _ _ refl) (int_fits places.ElementWord width refl refl) k
element_read true gap Index wanted ws h k = opened _ parts.InnerIntegerType places.ElementWord ([]) kinds.WordInteger _ (has_at 0 _ _ refl) refl k
element_read false gap Index wanted ws h k = opened _ parts.IntegerType places.ElementWord ([]) kinds.WordInteger _ (has_at 0 _ _ refl) refl k
element_read inside gap _ wanted ws h k = absurd (false≢true h)

-- a name of the llvm dialect
llvm_opens : (inside : Bool) (gap : List ℕ) (outer inner : Place) (outer_kind inner_kind : Kind) (name : List ℕ) (n : Part) (line wanted : List Wanted) (ws : List PrintedWord)
    → Has (either inside outer inner, line) (lines_of n) → fits_at outer outer_kind ≡ true → fits_at inner inner_kind ≡ true → AreRead (line ++ wanted) ws → AreRead (some n ∷ wanted) (llvm_word inside gap outer inner outer_kind inner_kind name ∷ ws)
llvm_opens true gap outer inner outer_kind inner_kind name n line wanted ws has fo fi h = opened gap n inner line inner_kind _ has fi h
llvm_opens false gap outer inner outer_kind inner_kind name n line wanted ws has fo fi h = opened gap n outer line outer_kind _ has fo h

-- the parentheses of results
abbrev after_part : Bool → Part
after_part true = parts.AfterInnerResults
after_part false = parts.AfterResults

results_open : (inside : Bool) (wanted : List Wanted) (ws : List PrintedWord) → AreRead (some (types_part inside) ∷ at places.ResultsClose ∷ some (after_part inside) ∷ wanted) ws
    → AreRead (some (results_part inside) ∷ wanted) (word (codes " ") places.ResultsOpen kinds.OpenParen (codes "(") ∷ ws)
results_open true wanted ws h = opened _ parts.InnerResults places.ResultsOpen (some parts.InnerTypes ∷ at places.ResultsClose ∷ some parts.AfterInnerResults ∷ []) kinds.OpenParen _ (has_at 13 _ _ refl) refl h
results_open false wanted ws h = opened _ parts.Results places.ResultsOpen (some parts.Types ∷ at places.ResultsClose ∷ some parts.AfterResults ∷ []) kinds.OpenParen _ (has_at 9 _ _ refl) refl h

results_close : (inside : Bool) (wanted : List Wanted) (ws : List PrintedWord) → AreRead wanted ws → AreRead (at places.ResultsClose ∷ some (after_part inside) ∷ wanted) (sign places.ResultsClose kinds.CloseParen (codes ")") ∷ ws)
results_close true wanted ws h = took _ places.ResultsClose kinds.CloseParen _ refl (left parts.AfterInnerResults refl h)
results_close false wanted ws h = took _ places.ResultsClose kinds.CloseParen _ refl (left parts.AfterResults refl h)

no_types : (inside : Bool) (wanted : List Wanted) (ws : List PrintedWord) → AreRead wanted ws → AreRead (some (types_part inside) ∷ wanted) ws
no_types true wanted ws h = left parts.InnerTypes refl h
no_types false wanted ws h = left parts.Types refl h

no_more : (inside : Bool) (wanted : List Wanted) (ws : List PrintedWord) → AreRead wanted ws → AreRead (some (more_part inside) ∷ wanted) ws
no_more true wanted ws h = left parts.MoreInnerTypes refl h
no_more false wanted ws h = left parts.MoreTypes refl h

mutual
  -- by a part that has the line of the type
  pub type_read : (inside : Bool) (gap : List ℕ) (t : PlainType) (n : Part) (more wanted : List Wanted) (ws : List PrintedWord) → is_formed_type t ≡ true → HasLine inside t more n → AreRead (more ++ wanted) ws
      → AreRead (some n ∷ wanted) (type_words inside places.IntegerWord gap t ws)
  type_read inside gap (Int width) n more wanted ws f has h = opened gap n _ _ (int_kind width) _ has (int_fits places.IntegerWord width refl refl) h
  type_read inside gap Index n more wanted ws f has h = opened gap n _ _ kinds.WordInteger _ has refl h
  type_read inside gap (Memref dims element) n more wanted ws f has h =
      let inner : (is_number element && is_formed_type element) ≡ true = and-right (list_all is_dim dims) _ (and-right (nat_le (length dims) 8) _ f) in
      let close : AreRead (some parts.MemrefEnd ∷ more ++ wanted) (sign places.MemrefGreater kinds.Greater (codes ">") ∷ ws) = opened _ parts.MemrefEnd places.MemrefGreater ([]) kinds.Greater _ (has_at 0 _ _ refl) refl h in
      opened gap n _ _ kinds.WordMemref _ has refl (took _ places.MemrefLess kinds.Less _ refl (dims_read dims _ _ (element_read inside [] element _ _ (and-left (is_number element) _ inner) close)))
  type_read inside gap (Func inputs results) n more wanted ws f has h =
      opened gap n _ _ kinds.OpenParen _ has refl
      (types_read inside inputs _ _ (and-left _ _ f) (took _ places.FunctionClose kinds.CloseParen _ refl (took _ places.FunctionArrow kinds.Arrow _ refl (results_read inside results _ ws (and-right (are_formed_types inputs) _ f) h))))
  type_read true gap Ptr n more wanted ws f has h = opened gap n _ _ kinds.WordPlain _ has refl h
  type_read false gap Ptr n more wanted ws f has h = opened gap n _ _ kinds.TypePlain _ has refl h
  type_read true gap Void n more wanted ws f has h = opened gap n _ _ kinds.WordPlain _ has refl h
  type_read false gap Void n more wanted ws f has h = opened gap n _ _ kinds.TypePlain _ has refl h
  type_read inside gap (Struct fields) n more wanted ws f has h =
      llvm_opens inside gap places.LlvmStruct places.InnerStruct kinds.TypeStruct kinds.WordStruct (codes "struct") n (struct_rest ++ more) wanted _ has refl refl
      (took _ places.StructLess kinds.Less _ refl (took _ places.StructOpen kinds.OpenParen _ refl
      (types_read true fields _ _ f (took _ places.StructClose kinds.CloseParen _ refl (took _ places.StructGreater kinds.Greater _ refl h)))))
  type_read inside gap (Array size element) n more wanted ws f has h =
      llvm_opens inside gap places.LlvmArray places.InnerArray kinds.TypeArray kinds.WordArray (codes "array") n (array_rest ++ more) wanted _ has refl refl
      (took _ places.ArrayLess kinds.Less _ refl (took _ places.ArrayNumber kinds.Number _ refl (took _ places.ArrayX kinds.WordX _ refl
      (type_read true (codes " ") element parts.InnerType [] _ _ (and-right (nat_lt size (2 ^ 32)) _ f) (one_has true element) (took _ places.ArrayGreater kinds.Greater _ refl h)))))
  type_read inside gap (LlvmFunc output inputs) n more wanted ws f has h =
      llvm_opens inside gap places.LlvmFunction places.InnerFunction kinds.TypeFunction kinds.WordFunction (codes "func") n (llvm_function_rest ++ more) wanted _ has refl refl
      (took _ places.LlvmFunctionLess kinds.Less _ refl
      (type_read true [] output parts.InnerType [] _ _ (and-left _ _ f) (one_has true output)
      (took _ places.ParametersOpen kinds.OpenParen _ refl (types_read true inputs _ _ (and-right (is_formed_type output) _ f) (took _ places.ParametersClose kinds.CloseParen _ refl (took _ places.LlvmFunctionGreater kinds.Greater _ refl h))))))

  pub types_read : (inside : Bool) (ts : PlainTypes) (wanted : List Wanted) (ws : List PrintedWord) → are_formed_types ts ≡ true → AreRead wanted ws → AreRead (some (types_part inside) ∷ wanted) (types_words inside ts ws)
  types_read inside end_of_types wanted ws f h = no_types inside wanted ws h
  types_read inside (more_types t ts) wanted ws f h =
      type_read inside [] t (types_part inside) (some (more_part inside) ∷ []) wanted (more_words inside ts ws) (and-left _ _ f) (types_have inside t) (more_read inside ts wanted ws (and-right (is_formed_type t) _ f) h)

  pub more_read : (inside : Bool) (ts : PlainTypes) (wanted : List Wanted) (ws : List PrintedWord) → are_formed_types ts ≡ true → AreRead wanted ws → AreRead (some (more_part inside) ∷ wanted) (more_words inside ts ws)
  more_read inside end_of_types wanted ws f h = no_more inside wanted ws h
  more_read true (more_types t ts) wanted ws f h =
      opened _ parts.MoreInnerTypes places.TypeComma (some parts.InnerType ∷ some parts.MoreInnerTypes ∷ []) kinds.Comma _ (has_at 0 _ _ refl) refl
      (type_read true (codes " ") t parts.InnerType [] (some parts.MoreInnerTypes ∷ wanted) (more_words true ts ws) (and-left _ _ f) (one_has true t) (more_read true ts wanted ws (and-right (is_formed_type t) _ f) h))
  more_read false (more_types t ts) wanted ws f h =
      opened _ parts.MoreTypes places.TypeComma (some parts.OneType ∷ some parts.MoreTypes ∷ []) kinds.Comma _ (has_at 0 _ _ refl) refl
      (type_read false (codes " ") t parts.OneType [] (some parts.MoreTypes ∷ wanted) (more_words false ts ws) (and-left _ _ f) (one_has false t) (more_read false ts wanted ws (and-right (is_formed_type t) _ f) h))

  pub results_read : (inside : Bool) (ts : PlainTypes) (wanted : List Wanted) (ws : List PrintedWord) → are_formed_types ts ≡ true → AreRead wanted ws → AreRead (some (results_part inside) ∷ wanted) (results_words inside ts ws)
  results_read inside end_of_types wanted ws f h = results_open inside wanted _ (no_types inside _ _ (results_close inside wanted ws h))
  results_read inside (more_types t end_of_types) wanted ws f h =
      if_read (is_function t) (some (results_part inside) ∷ wanted) _ _
      (λ _. results_open inside wanted _ (type_read inside [] t (types_part inside) (some (more_part inside) ∷ []) _ _ (and-left _ _ f) (types_have inside t) (no_more inside _ _ (results_close inside wanted ws h))))
      (λ no. type_read inside (codes " ") t (results_part inside) [] wanted ws (and-left _ _ f) (results_have inside t no) h)
  results_read inside (more_types t (more_types u us)) wanted ws f h =
      results_open inside wanted _ (type_read inside [] t (types_part inside) (some (more_part inside) ∷ []) _ _ (and-left _ _ f) (types_have inside t)
      (more_read inside (more_types u us) _ _ (and-right (is_formed_type t) _ f) (results_close inside wanted ws h)))
