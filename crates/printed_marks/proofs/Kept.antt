-- What holds of words and is kept by each word of a type or an attribute before them.
use Rattle.std.proofs.Common.{◌≡◌, ℕ, Bool, true, false, List, ◌∷◌}
use Rattle.std.specs.Prelude.{if◌then◌else◌}
use Rattle.text_grammar.specs.declared.kinds.Kind.{Kind}
use Rattle.text_grammar.specs.declared.places.Place.{Place}
use Rattle.text_grammar.specs.declared.places.Place.TheVariants as places
use Rattle.printed_words.specs.Words.{PrintedWord, word}

-- the places of types and attributes as they are printed
abbrev pub is_inner : Place → Bool
is_inner places.IntegerWord = true
is_inner places.ElementWord = true
is_inner places.LlvmPlain = true
is_inner places.LlvmStruct = true
is_inner places.LlvmArray = true
is_inner places.LlvmFunction = true
is_inner places.InnerPlain = true
is_inner places.InnerStruct = true
is_inner places.InnerArray = true
is_inner places.InnerFunction = true
is_inner places.StructLess = true
is_inner places.StructOpen = true
is_inner places.StructClose = true
is_inner places.StructGreater = true
is_inner places.ArrayLess = true
is_inner places.ArrayNumber = true
is_inner places.ArrayX = true
is_inner places.ArrayGreater = true
is_inner places.LlvmFunctionLess = true
is_inner places.ParametersOpen = true
is_inner places.ParametersClose = true
is_inner places.LlvmFunctionGreater = true
is_inner places.MemrefWord = true
is_inner places.MemrefLess = true
is_inner places.DimensionSize = true
is_inner places.DimensionBy = true
is_inner places.MemrefGreater = true
is_inner places.FunctionOpen = true
is_inner places.FunctionClose = true
is_inner places.FunctionArrow = true
is_inner places.TypeComma = true
is_inner places.ResultsOpen = true
is_inner places.ResultsClose = true
is_inner places.TextAttr = true
is_inner places.IntegerNumber = true
is_inner places.IntegerMinus = true
is_inner places.NumberColon = true
is_inner places.BoolWord = true
is_inner places.ItemsOpen = true
is_inner places.ItemComma = true
is_inner places.ItemsClose = true
is_inner places.AttrDictOpen = true
is_inner places.AttrDictClose = true
is_inner places.Symbol = true
is_inner places.DialectName = true
is_inner places.DialectLess = true
is_inner places.DialectWord = true
is_inner places.DialectComma = true
is_inner places.DialectGreater = true
is_inner places.NumbersWord = true
is_inner places.NumbersLess = true
is_inner places.NumbersWidth = true
is_inner places.NumbersColon = true
is_inner places.ListedNumber = true
is_inner places.ListedMinus = true
is_inner places.NumbersComma = true
is_inner places.NumbersGreater = true
is_inner places.EntryName = true
is_inner places.EntryEquals = true
is_inner places.EntryComma = true
is_inner places.UnsupportedAttrWord = true
is_inner _ = false

-- such a place, but no closing parenthesis of results and no arrow
abbrev pub is_simple : Place → Bool
is_simple places.FunctionArrow = false
is_simple places.ResultsClose = false
is_simple place = is_inner place

pub record Kept (P : List PrintedWord → Type 0) : Type 0 where
  -- a word at a simple place
  pub on : (ws : List PrintedWord) (gap : List ℕ) (place : Place) (kind : Kind) (bytes : List ℕ) → is_simple place ≡ true → P ws → P (word gap place kind bytes ∷ ws)
  -- a closing parenthesis of results
  pub closing : (ws : List PrintedWord) (gap : List ℕ) (kind : Kind) (bytes : List ℕ) → P ws → P (word gap places.ResultsClose kind bytes ∷ ws)
  -- the end of a function type's inputs and its arrow
  pub arrow : (ws : List PrintedWord) (gap other : List ℕ) (kind sort : Kind) (bytes more : List ℕ) → P ws → P (word gap places.FunctionClose kind bytes ∷ word other places.FunctionArrow sort more ∷ ws)

pub either : (P : List PrintedWord → Type 0) (b : Bool) (xs ys : List PrintedWord) → P xs → P ys → P (if b then xs else ys)
either P true xs ys h k = h
either P false xs ys h k = k
