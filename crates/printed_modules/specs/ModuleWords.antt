-- The words of a printed module.
use Rattle.std.specs.Prelude.{◌≡◌, Bool, true, ◌&&◌, List, [], ◌∷◌, map, None, codes}
use Rattle.std.specs.List.{list_all}
use Rattle.plain_tree.specs.Attrs.{dict_in}
use Rattle.plain_tree.specs.Ops.{Op, op_tree, PlainModule, module_tree}
use Rattle.tree_text.specs.NameText.{string_text}
use Rattle.text_model.specs.PrintedNames.{Names, names_of}
use Rattle.text_model.specs.Printed.{module_text}
use Rattle.line_grammar.specs.Grammar.{Reads}
use Rattle.text_grammar.specs.declared.kinds.Kind.TheVariants as kinds
use Rattle.text_grammar.specs.declared.places.Place.{Place}
use Rattle.text_grammar.specs.declared.places.Place.TheVariants as places
use Rattle.text_grammar.specs.Table.{generic}
use Rattle.text_grammar.specs.Text.{start}
use Rattle.text_grammar.specs.Steps.{Looked}
use Rattle.text_grammar.specs.Words.{AreWords}
use Rattle.printed_words.specs.Words.{PrintedWord, word, sign, text_of, words_from}
use Rattle.printed_attrs.specs.Readable.{is_readable_dict}
use Rattle.printed_ops.specs.OpWords.{props_words, attrs_words, op_words, open_word, close_word}
use Rattle.printed_ops.specs.Named.{is_known_op}

-- the names of a function
abbrev pub own_names : Op → Names
own_names f = names_of (op_tree f)

-- functions, each on lines of its own
abbrev pub more_funcs : List Op → List PrintedWord → List PrintedWord
more_funcs [] rest = rest
more_funcs (f ∷ fs) rest = op_words (own_names f) (codes "  ") f (more_funcs fs rest)

-- the body of a module: where it has no function, the label of its block
abbrev pub body_words : List Op → List PrintedWord → List PrintedWord
body_words [] rest = word (codes "\n") places.BlockLabel kinds.Label (codes "^bb0") ∷ sign places.BlockColon kinds.Colon (codes ":") ∷ rest
body_words (f ∷ fs) rest = more_funcs (f ∷ fs) rest

-- a module without operands and results; its text ends with a line feed
abbrev pub module_words : PlainModule → List PrintedWord
module_words m =
    sign places.OpName kinds.Text (string_text (codes "builtin.module")) ∷ sign places.OperandsOpen kinds.OpenParen (codes "(") ∷ sign places.OperandsClose kinds.CloseParen (codes ")")
    ∷ props_words m.props (word (codes " ") places.RegionsOpen kinds.OpenParen (codes "(") ∷ open_word []
    ∷ body_words m.funcs (close_word [] ∷ sign places.RegionsClose kinds.CloseParen (codes ")")
    ∷ attrs_words m.attrs (word (codes " ") places.SignatureColon kinds.Colon (codes ":") ∷ word (codes " ") places.SignatureOpen kinds.OpenParen (codes "(") ∷ sign places.SignatureClose kinds.CloseParen (codes ")")
    ∷ word (codes " ") places.SignatureArrow kinds.Arrow (codes "->") ∷ word (codes " ") places.ResultsOpen kinds.OpenParen (codes "(") ∷ sign places.ResultsClose kinds.CloseParen (codes ")") ∷ [])))

-- a text can have all that stands in the module, and each function has names of all its values and labels
abbrev pub is_known : PlainModule → Bool
is_known m = is_readable_dict (dict_in m.props) && (is_readable_dict (dict_in m.attrs) && list_all (λ f. is_known_op (own_names f) f) m.funcs)

-- Laws

-- the printed text is the text of the words
abbrev pub TextOfModules : Type 0
TextOfModules = (m : PlainModule) → is_known m ≡ true → module_text (module_tree m) ≡ text_of (module_words m) (codes "\n")

-- it is cut into exactly them
abbrev pub ModulesAreCut : Type 0
ModulesAreCut = (m : PlainModule) → is_known m ≡ true → AreWords (module_text (module_tree m)) (words_from 0 (module_words m)) None

-- they are a file of the grammar, at the places at which they were written, and this is what the machine finds
abbrev pub places_of : PlainModule → List Place
places_of m = map (λ w. w.place) (module_words m)

abbrev pub ModulesAreRead : Type 0
ModulesAreRead = (m : PlainModule) → is_known m ≡ true → Reads generic start (places_of m) (map (λ w. w.kind) (module_words m)) × Looked (places_of m) true (words_from 0 (module_words m))
