-- What holds of each type's words.
use Rattle.std.specs.Prelude.{◌≡◌, ℕ, Bool, true, false, List, ◌∷◌, ◌++◌}
use Rattle.plain_tree.specs.Types.{PlainType, type_tree}
use Rattle.rule_model.specs.Formed.{is_formed_type}
use Rattle.tree_text.specs.TypeText.{printed, text_at}
use Rattle.text_grammar.specs.declared.places.Place.TheVariants as places
use Rattle.text_grammar.specs.declared.parts.Part.TheVariants as parts
use Rattle.text_grammar.specs.declared.cuts.Mode.TheVariants.{Plain}
use Rattle.text_grammar.specs.Table.{Wanted, some}
use Rattle.printed_words.specs.Words.{PrintedWord, text_of, is_free, are_blanks, AreApart, AreRead}
use Rattle.printed_types.specs.TypeWords.{type_words}

-- the text of a type's words is the type's text
abbrev pub TextOfTypes : Type 0
TextOfTypes = (inside : Bool) (gap : List ℕ) (t : PlainType) (rest : List PrintedWord) (end : List ℕ)
    → text_of (type_words inside places.IntegerWord gap t rest) end ≡ gap ++ (text_at inside (printed (type_tree t)) ++ text_of rest end)

-- before words that stand apart and don't go on with a name, a formed type's words stand apart
abbrev pub TypesStandApart : Type 0
TypesStandApart = (inside : Bool) (gap : List ℕ) (t : PlainType) (rest : List PrintedWord) (end : List ℕ) → is_formed_type t ≡ true → are_blanks gap ≡ true → is_free (text_of rest end) ≡ true → AreApart Plain rest end
    → AreApart Plain (type_words inside places.IntegerWord gap t rest) end

-- outside of types of the llvm dialect, a formed type's words are what the grammar calls a type
abbrev pub TypesAreRead : Type 0
TypesAreRead = (gap : List ℕ) (t : PlainType) (wanted : List Wanted) (rest : List PrintedWord) → is_formed_type t ≡ true → AreRead wanted rest
    → AreRead (some parts.OneType ∷ wanted) (type_words false places.IntegerWord gap t rest)
