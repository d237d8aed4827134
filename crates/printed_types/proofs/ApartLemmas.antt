-- The words of a type stand apart.
use Rattle.std.proofs.Common.{◌≡◌, ℕ, ◌<◌, ◌≤◌, ◌^◌, ◌==◌, ◌&&◌, ◌||◌, Bool, true, false, List, [], ◌∷◌, ◌++◌, length, refl, sym, subst, arith}
use Rattle.std.specs.Prelude.{codes, decimal, nat_lt, nat_le, if◌then◌else◌}
use Rattle.std.specs.List.{list_all}
use Rattle.std.proofs.lemmas.Bool.{false≢true}
use Rattle.std.proofs.lemmas.Bool.Decides.{nat_tests}
use Rattle.mlir_lex.proofs.Lengths.{and-left, and-right}
use Rattle.tree_model.specs.declared.type_tree.Dim.{Dim}
use Rattle.tree_model.specs.declared.type_tree.Dim.TheVariants.{Fixed, Dynamic}
use Rattle.plain_tree.specs.Types.{PlainType, PlainTypes, Int, Index, Memref, Func, Ptr, Void, Struct, Array, LlvmFunc, end_of_types, more_types}
use Rattle.rule_model.specs.Forms.{is_number}
use Rattle.rule_model.specs.Formed.{is_dim, is_formed_type, are_formed_types}
use Rattle.text_grammar.specs.declared.kinds.Kind.{Kind}
use Rattle.text_grammar.specs.declared.kinds.Kind.TheVariants as kinds
use Rattle.text_grammar.specs.declared.places.Place.{Place}
use Rattle.text_grammar.specs.declared.places.Place.TheVariants as places
use Rattle.text_grammar.specs.declared.cuts.Mode.{Mode}
use Rattle.text_grammar.specs.declared.cuts.Mode.TheVariants.{Plain, BehindMemref, Size, By}
use Rattle.text_grammar.specs.Words.{mode_behind}
use Rattle.printed_words.specs.Words.{PrintedWord, sign, text_of, are_blanks, is_free, Stands, size, unknown, by, AreApart}
use Rattle.printed_words.proofs.WordLemmas.{apart, free-blank, free-comma, free-close, free-greater, free-less, open-paren, close-paren, less, greater, comma, arrow, may_be_by, bare, type-name, number, decimal-digits, one_blank}
use Rattle.printed_types.specs.TypeWords.{type_words, types_words, more_words, results_words, dim_words, size_bytes, llvm_word, int_kind, kind_if, is_function}
use Rattle.printed_types.proofs.TextLemmas.{type_text}
use Rattle.printed_types.proofs.KindLemmas.{int_kind_is, int_bare, bare_index, kind_index, bare_memref, kind_memref, bare_x, kind_x, LlvmName, name_ptr, name_void, name_struct, name_array, name_func}

-- behind an integer type no dimension is expected
kind-mode : (mode : Mode) (b : Bool) → mode_behind mode (kind_if b) ≡ Plain
kind-mode Plain true = refl
kind-mode Plain false = refl
kind-mode BehindMemref true = refl
kind-mode BehindMemref false = refl
kind-mode Size true = refl
kind-mode Size false = refl
kind-mode By true = refl
kind-mode By false = refl

pub int_mode : (mode : Mode) (width : ℕ) → mode_behind mode (int_kind width) ≡ Plain
int_mode mode width = kind-mode mode (width == 8 || width == 16 || width == 32 || width == 64)

index-mode : (mode : Mode) → mode_behind mode kinds.WordInteger ≡ Plain
index-mode mode = kind-mode mode false

pub lower : (w : ℕ) → (nat_lt 0 w && nat_le w 64) ≡ true → 0 < w
lower w h = let a : nat_lt 0 w ≡ true = and-left _ _ h in grind (arith, nat_tests)

pub upper : (w : ℕ) → (nat_lt 0 w && nat_le w 64) ≡ true → w ≤ 64
upper w h = let a : nat_le w 64 ≡ true = and-right (nat_lt 0 w) _ h in grind (arith, nat_tests)

pub below : (n m : ℕ) → nat_lt n m ≡ true → n < m
below n m h = grind (arith, nat_tests)

-- an integer type, also as the element of a memref
pub number_apart : (inside : Bool) (at : Place) (gap : List ℕ) (t : PlainType) (mode : Mode) (rest : List PrintedWord) (end : List ℕ) → is_number t ≡ true → is_formed_type t ≡ true → may_be_by mode ≡ false → are_blanks gap ≡ true → is_free (text_of rest end) ≡ true
    → AreApart Plain rest end → AreApart mode (type_words inside at gap t rest) end
number_apart inside at gap (Int width) mode rest end n f m blanks free h =
    apart gap at (int_kind width) (codes "i" ++ decimal width) blanks (bare mode (int_kind width) (codes "i" ++ decimal width) (text_of rest end) m (int_bare width (upper width f)) (int_kind_is width (lower width f) (upper width f)) free)
    (subst (λ (x : Mode). AreApart x rest end) (sym (int_mode mode width)) h)
number_apart inside at gap Index mode rest end n f m blanks free h =
    apart gap at kinds.WordInteger (codes "index") blanks (bare mode kinds.WordInteger (codes "index") (text_of rest end) m bare_index kind_index free)
    (subst (λ (x : Mode). AreApart x rest end) (sym (index-mode mode)) h)
number_apart inside at gap _ mode rest end n f m blanks free h = absurd (false≢true n)

-- the dimensions of a memref
size_stands : (d : Dim) (rest : List ℕ) → is_dim d ≡ true → Stands Size kinds.Dimension (size_bytes d) (120 ∷ rest)
size_stands (Fixed n) rest f = let small : n < 2 ^ 63 = below n (2 ^ 63) f in size (decimal n) rest (decimal-digits n (omega arith))
size_stands Dynamic rest f = unknown rest

dims_apart : (ds : List Dim) (ws : List PrintedWord) (end : List ℕ) → list_all is_dim ds ≡ true → AreApart Size ws end → AreApart Size (dim_words ds ws) end
dims_apart [] ws end f h = h
dims_apart (d ∷ ds) ws end f h =
    apart [] places.DimensionSize kinds.Dimension (size_bytes d) refl (size_stands d _ (and-left _ _ f))
    (apart [] places.DimensionBy kinds.DimensionX (codes "x") refl (by _) (dims_apart ds ws end (and-right (is_dim d) _ f) h))

-- a name of the llvm dialect
llvm_apart : (inside : Bool) (gap : List ℕ) (outer inner : Place) (outer_kind inner_kind : Kind) (name : List ℕ) (ws : List PrintedWord) (end : List ℕ) → LlvmName outer_kind inner_kind name → mode_behind Plain outer_kind ≡ Plain → mode_behind Plain inner_kind ≡ Plain
    → are_blanks gap ≡ true → is_free (text_of ws end) ≡ true → AreApart Plain ws end → AreApart Plain (llvm_word inside gap outer inner outer_kind inner_kind name ∷ ws) end
llvm_apart true gap outer inner outer_kind inner_kind name ws end is mo mi blanks free h =
    apart gap inner inner_kind name blanks (bare Plain inner_kind name (text_of ws end) refl is.bare is.inner_is free) (subst (λ (x : Mode). AreApart x ws end) (sym mi) h)
llvm_apart false gap outer inner outer_kind inner_kind name ws end is mo mi blanks free h =
    apart gap outer outer_kind (codes "!llvm." ++ name) blanks (type-name outer_kind (codes "!llvm." ++ name) (text_of ws end) is.led is.outer_is free) (subst (λ (x : Mode). AreApart x ws end) (sym mo) h)

-- a type behind a blank begins with no byte of a name
type_free : (inside : Bool) (t : PlainType) (rest : List PrintedWord) (end : List ℕ) → is_free (text_of (type_words inside places.IntegerWord (codes " ") t rest) end) ≡ true
type_free inside t rest end = rw (type_text inside places.IntegerWord (codes " ") t rest end) (free-blank _)

-- and so do other words behind a comma
more_free : (inside : Bool) (ts : PlainTypes) (rest : List PrintedWord) (end : List ℕ) → is_free (text_of rest end) ≡ true → is_free (text_of (more_words inside ts rest) end) ≡ true
more_free inside end_of_types rest end h = h
more_free inside (more_types t ts) rest end h = free-comma _

if_apart : (b : Bool) (mode : Mode) (xs ys : List PrintedWord) (end : List ℕ) → AreApart mode xs end → AreApart mode ys end → AreApart mode (if b then xs else ys) end
if_apart true mode xs ys end f g = f
if_apart false mode xs ys end f g = g

mutual
  pub type_apart : (inside : Bool) (gap : List ℕ) (t : PlainType) (rest : List PrintedWord) (end : List ℕ) → is_formed_type t ≡ true → are_blanks gap ≡ true → is_free (text_of rest end) ≡ true → AreApart Plain rest end
      → AreApart Plain (type_words inside places.IntegerWord gap t rest) end
  type_apart inside gap (Int width) rest end f blanks free h = number_apart inside places.IntegerWord gap (Int width) Plain rest end refl f refl blanks free h
  type_apart inside gap Index rest end f blanks free h = number_apart inside places.IntegerWord gap Index Plain rest end refl f refl blanks free h
  type_apart inside gap (Memref dims element) rest end f blanks free h =
      let inner : (is_number element && is_formed_type element) ≡ true = and-right (list_all is_dim dims) _ (and-right (nat_le (length dims) 8) _ f) in
      let close : AreApart Plain (sign places.MemrefGreater kinds.Greater (codes ">") ∷ rest) end = apart [] places.MemrefGreater kinds.Greater (codes ">") refl (greater Plain _) h in
      apart gap places.MemrefWord kinds.WordMemref (codes "memref") blanks (bare Plain kinds.WordMemref (codes "memref") _ refl bare_memref kind_memref (free-less _))
      (apart [] places.MemrefLess kinds.Less (codes "<") refl (less BehindMemref _)
      (dims_apart dims _ end (and-left (list_all is_dim dims) _ (and-right (nat_le (length dims) 8) _ f))
      (number_apart inside places.ElementWord [] element Size _ end (and-left (is_number element) _ inner) (and-right (is_number element) _ inner) refl refl (free-greater _) close)))
  type_apart inside gap (Func inputs results) rest end f blanks free h =
      apart gap places.FunctionOpen kinds.OpenParen (codes "(") blanks (open-paren Plain _)
      (types_apart inside inputs _ end (and-left _ _ f) (free-close _)
      (apart [] places.FunctionClose kinds.CloseParen (codes ")") refl (close-paren Plain _)
      (apart (codes " ") places.FunctionArrow kinds.Arrow (codes "->") one_blank (arrow Plain _) (results_apart inside results rest end (and-right (are_formed_types inputs) _ f) free h))))
  type_apart inside gap Ptr rest end f blanks free h = llvm_apart inside gap places.LlvmPlain places.InnerPlain kinds.TypePlain kinds.WordPlain (codes "ptr") rest end name_ptr refl refl blanks free h
  type_apart inside gap Void rest end f blanks free h = llvm_apart inside gap places.LlvmPlain places.InnerPlain kinds.TypePlain kinds.WordPlain (codes "void") rest end name_void refl refl blanks free h
  type_apart inside gap (Struct fields) rest end f blanks free h =
      llvm_apart inside gap places.LlvmStruct places.InnerStruct kinds.TypeStruct kinds.WordStruct (codes "struct") _ end name_struct refl refl blanks (free-less _)
      (apart [] places.StructLess kinds.Less (codes "<") refl (less Plain _)
      (apart [] places.StructOpen kinds.OpenParen (codes "(") refl (open-paren Plain _)
      (types_apart true fields _ end f (free-close _)
      (apart [] places.StructClose kinds.CloseParen (codes ")") refl (close-paren Plain _) (apart [] places.StructGreater kinds.Greater (codes ">") refl (greater Plain _) h)))))
  type_apart inside gap (Array n element) rest end f blanks free h =
      let few : n < 2 ^ 32 = below n (2 ^ 32) (and-left _ _ f) in
      llvm_apart inside gap places.LlvmArray places.InnerArray kinds.TypeArray kinds.WordArray (codes "array") _ end name_array refl refl blanks (free-less _)
      (apart [] places.ArrayLess kinds.Less (codes "<") refl (less Plain _)
      (apart [] places.ArrayNumber kinds.Number (decimal n) refl (number (decimal n) _ (decimal-digits n (omega arith)) (free-blank _))
      (apart (codes " ") places.ArrayX kinds.WordX (codes "x") one_blank (bare Plain kinds.WordX (codes "x") _ refl bare_x kind_x (type_free true element _ end))
      (type_apart true (codes " ") element _ end (and-right (nat_lt n (2 ^ 32)) _ f) one_blank (free-greater _) (apart [] places.ArrayGreater kinds.Greater (codes ">") refl (greater Plain _) h)))))
  type_apart inside gap (LlvmFunc output inputs) rest end f blanks free h =
      llvm_apart inside gap places.LlvmFunction places.InnerFunction kinds.TypeFunction kinds.WordFunction (codes "func") _ end name_func refl refl blanks (free-less _)
      (apart [] places.LlvmFunctionLess kinds.Less (codes "<") refl (less Plain _)
      (type_apart true [] output _ end (and-left _ _ f) refl (free-blank _)
      (apart (codes " ") places.ParametersOpen kinds.OpenParen (codes "(") one_blank (open-paren Plain _)
      (types_apart true inputs _ end (and-right (is_formed_type output) _ f) (free-close _)
      (apart [] places.ParametersClose kinds.CloseParen (codes ")") refl (close-paren Plain _) (apart [] places.LlvmFunctionGreater kinds.Greater (codes ">") refl (greater Plain _) h))))))

  pub types_apart : (inside : Bool) (ts : PlainTypes) (rest : List PrintedWord) (end : List ℕ) → are_formed_types ts ≡ true → is_free (text_of rest end) ≡ true → AreApart Plain rest end → AreApart Plain (types_words inside ts rest) end
  types_apart inside end_of_types rest end f free h = h
  types_apart inside (more_types t ts) rest end f free h =
      type_apart inside [] t (more_words inside ts rest) end (and-left _ _ f) refl (more_free inside ts rest end free) (more_apart inside ts rest end (and-right (is_formed_type t) _ f) free h)

  pub more_apart : (inside : Bool) (ts : PlainTypes) (rest : List PrintedWord) (end : List ℕ) → are_formed_types ts ≡ true → is_free (text_of rest end) ≡ true → AreApart Plain rest end → AreApart Plain (more_words inside ts rest) end
  more_apart inside end_of_types rest end f free h = h
  more_apart inside (more_types t ts) rest end f free h =
      apart [] places.TypeComma kinds.Comma (codes ",") refl (comma Plain _)
      (type_apart inside (codes " ") t (more_words inside ts rest) end (and-left _ _ f) one_blank (more_free inside ts rest end free) (more_apart inside ts rest end (and-right (is_formed_type t) _ f) free h))

  pub results_apart : (inside : Bool) (ts : PlainTypes) (rest : List PrintedWord) (end : List ℕ) → are_formed_types ts ≡ true → is_free (text_of rest end) ≡ true → AreApart Plain rest end → AreApart Plain (results_words inside ts rest) end
  results_apart inside end_of_types rest end f free h =
      apart (codes " ") places.ResultsOpen kinds.OpenParen (codes "(") one_blank (open-paren Plain _) (apart [] places.ResultsClose kinds.CloseParen (codes ")") refl (close-paren Plain _) h)
  results_apart inside (more_types t end_of_types) rest end f free h =
      if_apart (is_function t) Plain _ _ end
      (apart (codes " ") places.ResultsOpen kinds.OpenParen (codes "(") one_blank (open-paren Plain _)
      (type_apart inside [] t _ end (and-left _ _ f) refl (free-close _) (apart [] places.ResultsClose kinds.CloseParen (codes ")") refl (close-paren Plain _) h)))
      (type_apart inside (codes " ") t rest end (and-left _ _ f) one_blank free h)
  results_apart inside (more_types t (more_types u us)) rest end f free h =
      apart (codes " ") places.ResultsOpen kinds.OpenParen (codes "(") one_blank (open-paren Plain _)
      (type_apart inside [] t _ end (and-left _ _ f) refl (free-comma _)
      (more_apart inside (more_types u us) _ end (and-right (is_formed_type t) _ f) (free-close _) (apart [] places.ResultsClose kinds.CloseParen (codes ")") refl (close-paren Plain _) h)))
