-- What holds of each attribute's words, and of those of a dictionary.
use Rattle.std.specs.Prelude.{◌≡◌, ℕ, true, List, ◌∷◌, ◌++◌}
use Rattle.plain_tree.specs.Attrs.{PlainAttr, PlainDict, attr_tree, dict_tree}
use Rattle.tree_text.specs.AttrText.{attr_text, dict_text}
use Rattle.text_grammar.specs.declared.parts.Part.TheVariants as parts
use Rattle.text_grammar.specs.declared.cuts.Mode.TheVariants.{Plain}
use Rattle.text_grammar.specs.Table.{Wanted, some}
use Rattle.printed_words.specs.Words.{PrintedWord, text_of, is_free, are_blanks, AreApart, AreAlwaysApart, AreRead}
use Rattle.printed_attrs.specs.AttrWords.{attr_words, dict_words}
use Rattle.printed_attrs.specs.Readable.{is_readable, is_readable_dict}

-- the text of an attribute's words is the attribute's text
abbrev pub TextOfAttrs : Type 0
TextOfAttrs = (gap : List ℕ) (a : PlainAttr) (rest : List PrintedWord) (end : List ℕ) → text_of (attr_words gap a rest) end ≡ gap ++ (attr_text (attr_tree a) ++ text_of rest end)

abbrev pub TextOfDicts : Type 0
TextOfDicts = (d : PlainDict) (rest : List PrintedWord) (end : List ℕ) → text_of (dict_words d rest) end ≡ dict_text (dict_tree d) ++ text_of rest end

-- before words that stand apart and don't go on with a name, the words of an attribute that a text can have stand apart
abbrev pub AttrsStandApart : Type 0
AttrsStandApart = (gap : List ℕ) (a : PlainAttr) (rest : List PrintedWord) (end : List ℕ) → is_readable a ≡ true → are_blanks gap ≡ true → is_free (text_of rest end) ≡ true → AreApart Plain rest end → AreApart Plain (attr_words gap a rest) end

-- an entry's name may be `memref`, so what follows entries must stand apart behind that too
abbrev pub DictsStandApart : Type 0
DictsStandApart = (d : PlainDict) (rest : List PrintedWord) (end : List ℕ) → is_readable_dict d ≡ true → is_free (text_of rest end) ≡ true → AreAlwaysApart rest end → AreApart Plain (dict_words d rest) end

-- they are what the grammar calls an attribute
abbrev pub AttrsAreRead : Type 0
AttrsAreRead = (gap : List ℕ) (a : PlainAttr) (wanted : List Wanted) (rest : List PrintedWord) → is_readable a ≡ true → AreRead wanted rest → AreRead (some parts.Attr ∷ wanted) (attr_words gap a rest)

-- and entries
abbrev pub DictsAreRead : Type 0
DictsAreRead = (d : PlainDict) (wanted : List Wanted) (rest : List PrintedWord) → is_readable_dict d ≡ true → AreRead wanted rest → AreRead (some parts.Entries ∷ wanted) (dict_words d rest)
