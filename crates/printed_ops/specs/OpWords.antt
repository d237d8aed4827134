-- The words of a printed operation, by the names of its function, in front of the words behind it. A line feed belongs to the word that it stands before.
use Rattle.std.specs.Prelude.{ℕ, ◌+◌, Bool, true, false, ◌||◌, not, List, [], ◌∷◌, ◌++◌, length, Option, Some, None, codes, decimal, if◌then◌else◌}
use Rattle.tree_model.specs.declared.type_tree.TypeTree.{TypeTree}
use Rattle.plain_tree.specs.Types.{PlainType, PlainTypes, Void, end_of_types, more_types, plain_type}
use Rattle.plain_tree.specs.Attrs.{Entries, dict_in}
use Rattle.plain_tree.specs.Ops.{Op, op, Ops, end_of_ops, more_ops, Regions, end_of_regions, region, Blocks, end_of_blocks, block, Values}
use Rattle.tree_text.specs.NameText.{string_text}
use Rattle.text_model.specs.declared.value_name.ValueName.{ValueName}
use Rattle.text_model.specs.declared.value_name.ValueName.TheVariants.{Argument, Single, Part}
use Rattle.text_model.specs.PrintedNames.{Names}
use Rattle.text_model.specs.PrintedOps.{found_number, found_name, found_label, has_none}
use Rattle.text_grammar.specs.declared.kinds.Kind.TheVariants as kinds
use Rattle.text_grammar.specs.declared.places.Place.TheVariants as places
use Rattle.printed_words.specs.Words.{PrintedWord, word, sign}
use Rattle.printed_types.specs.TypeWords.{type_words, types_words, results_words}
use Rattle.printed_attrs.specs.AttrWords.{dict_words}

-- the results before the name, and the name
abbrev pub lead_words : Names → List ℕ → Values → List ℕ → List PrintedWord → List PrintedWord
lead_words n gap [] name rest = word gap places.OpName kinds.Text name ∷ rest
lead_words n gap (v ∷ []) name rest =
    word gap places.ResultName kinds.Value (found_name (n.name v.0)) ∷ word (codes " ") places.ResultsEquals kinds.Equals (codes "=") ∷ word (codes " ") places.OpName kinds.Text name ∷ rest
lead_words n gap (v ∷ w ∷ vs) name rest =
    word gap places.ResultName kinds.Value (found_number (n.name v.0)) ∷ sign places.ResultColon kinds.Colon (codes ":") ∷ sign places.ResultNumber kinds.Number (decimal (length (v ∷ w ∷ vs)))
    ∷ word (codes " ") places.ResultsEquals kinds.Equals (codes "=") ∷ word (codes " ") places.OpName kinds.Text name ∷ rest

-- an operand: one of several results has its place as a word of its own
abbrev pub use_words : List ℕ → Option ValueName → List PrintedWord → List PrintedWord
use_words gap (Some (Part k j)) rest = word gap places.UseName kinds.Value (codes "%" ++ decimal k) ∷ sign places.UseNumber kinds.HashNumber (codes "#" ++ decimal j) ∷ rest
use_words gap (Some (Argument k)) rest = word gap places.UseName kinds.Value (codes "%arg" ++ decimal k) ∷ rest
use_words gap (Some (Single k)) rest = word gap places.UseName kinds.Value (codes "%" ++ decimal k) ∷ rest
use_words gap None rest = word gap places.UseName kinds.Value (codes "%?") ∷ rest

abbrev pub more_uses : Names → List ℕ → List PrintedWord → List PrintedWord
more_uses n [] rest = rest
more_uses n (v ∷ vs) rest = sign places.UseComma kinds.Comma (codes ",") ∷ use_words (codes " ") (n.name v) (more_uses n vs rest)

abbrev pub uses_words : Names → List ℕ → List PrintedWord → List PrintedWord
uses_words n [] rest = rest
uses_words n (v ∷ vs) rest = use_words [] (n.name v) (more_uses n vs rest)

abbrev pub operands_words : Names → List ℕ → List PrintedWord → List PrintedWord
operands_words n operands rest = sign places.OperandsOpen kinds.OpenParen (codes "(") ∷ uses_words n operands (sign places.OperandsClose kinds.CloseParen (codes ")") ∷ rest)

abbrev pub more_successors : Names → List ℕ → List PrintedWord → List PrintedWord
more_successors n [] rest = rest
more_successors n (l ∷ ls) rest = sign places.SuccessorComma kinds.Comma (codes ",") ∷ word (codes " ") places.SuccessorName kinds.Label (found_label (n.position l)) ∷ more_successors n ls rest

abbrev pub successors_words : Names → List ℕ → List PrintedWord → List PrintedWord
successors_words n [] rest = rest
successors_words n (l ∷ ls) rest =
    sign places.SuccessorsOpen kinds.OpenSquare (codes "[") ∷ sign places.SuccessorName kinds.Label (found_label (n.position l)) ∷ more_successors n ls (sign places.SuccessorsClose kinds.CloseSquare (codes "]") ∷ rest)

-- properties and attributes, where there are any
abbrev pub props_words : Entries → List PrintedWord → List PrintedWord
props_words [] rest = rest
props_words (e ∷ es) rest =
    word (codes " ") places.PropsLess kinds.Less (codes "<") ∷ sign places.PropsOpen kinds.OpenBrace (codes "{")
    ∷ dict_words (dict_in (e ∷ es)) (sign places.PropsClose kinds.CloseBrace (codes "}") ∷ sign places.PropsGreater kinds.Greater (codes ">") ∷ rest)

abbrev pub attrs_words : Entries → List PrintedWord → List PrintedWord
attrs_words [] rest = rest
attrs_words (e ∷ es) rest = word (codes " ") places.DictOpen kinds.OpenBrace (codes "{") ∷ dict_words (dict_in (e ∷ es)) (sign places.DictClose kinds.CloseBrace (codes "}") ∷ rest)

-- the types of operands, where they are known, and of values
abbrev pub known_type : Option TypeTree → PlainType
known_type None = Void
known_type (Some t) = plain_type t

abbrev pub operand_types : Names → List ℕ → PlainTypes
operand_types n [] = end_of_types
operand_types n (v ∷ vs) = more_types (known_type (n.type_of v)) (operand_types n vs)

abbrev pub value_types : Values → PlainTypes
value_types [] = end_of_types
value_types (v ∷ vs) = more_types v.1 (value_types vs)

-- the function type
abbrev pub signature_words : Names → List ℕ → Values → List PrintedWord → List PrintedWord
signature_words n operands results rest =
    word (codes " ") places.SignatureColon kinds.Colon (codes ":") ∷ word (codes " ") places.SignatureOpen kinds.OpenParen (codes "(")
    ∷ types_words false (operand_types n operands) (sign places.SignatureClose kinds.CloseParen (codes ")") ∷ word (codes " ") places.SignatureArrow kinds.Arrow (codes "->") ∷ results_words false (value_types results) rest)

-- the arguments of a block, each with its type
abbrev pub arg_words : Names → List ℕ → (ℕ × PlainType) → List PrintedWord → List PrintedWord
arg_words n gap v rest = word gap places.ArgName kinds.Value (found_name (n.name v.0)) ∷ sign places.ArgColon kinds.Colon (codes ":") ∷ type_words false places.IntegerWord (codes " ") v.1 rest

abbrev pub more_args : Names → Values → List PrintedWord → List PrintedWord
more_args n [] rest = rest
more_args n (v ∷ vs) rest = sign places.ArgComma kinds.Comma (codes ",") ∷ arg_words n (codes " ") v (more_args n vs rest)

abbrev pub args_words : Names → Values → List PrintedWord → List PrintedWord
args_words n [] rest = rest
args_words n (v ∷ vs) rest = sign places.ArgsOpen kinds.OpenParen (codes "(") ∷ arg_words n [] v (more_args n vs (sign places.ArgsClose kinds.CloseParen (codes ")") ∷ rest))

-- the label of the block at a position, on a line of its own
abbrev pub label_words : Names → List ℕ → ℕ → Values → List PrintedWord → List PrintedWord
label_words n indent k args rest = word (10 ∷ indent) places.BlockLabel kinds.Label (codes "^bb" ++ decimal k) ∷ args_words n args (sign places.BlockColon kinds.Colon (codes ":") ∷ rest)

-- whether a region's first block shows its label
abbrev pub no_ops : Ops → Bool
no_ops end_of_ops = true
no_ops (more_ops o os) = false

abbrev pub shows : Names → ℕ → Values → Ops → Bool
shows n label args ops = not (has_none args) || no_ops ops || n.is_target label

-- the braces of a region
abbrev pub open_word : List ℕ → PrintedWord
open_word gap = word gap places.RegionOpen kinds.OpenBrace (codes "{")

abbrev pub close_word : List ℕ → PrintedWord
close_word indent = word (10 ∷ indent) places.RegionClose kinds.CloseBrace (codes "}")

abbrev mutual
  -- an operation, on a line of its own
  pub op_words : Names → List ℕ → Op → List PrintedWord → List PrintedWord
  op_words n indent (op k results operands regions successors) rest =
      lead_words n (10 ∷ indent) results (string_text k.name)
      (operands_words n operands (successors_words n successors (props_words k.props (regions_words n indent regions (attrs_words k.attrs (signature_words n operands results rest))))))

  pub ops_words : Names → List ℕ → Ops → List PrintedWord → List PrintedWord
  ops_words n indent end_of_ops rest = rest
  ops_words n indent (more_ops o os) rest = op_words n indent o (ops_words n indent os rest)

  -- regions in parentheses, where there are any
  pub regions_words : Names → List ℕ → Regions → List PrintedWord → List PrintedWord
  regions_words n indent end_of_regions rest = rest
  regions_words n indent (region blocks more) rest =
      word (codes " ") places.RegionsOpen kinds.OpenParen (codes "(") ∷ open_word [] ∷ blocks_words n indent blocks (close_word indent ∷ more_regions n indent more (sign places.RegionsClose kinds.CloseParen (codes ")") ∷ rest))

  pub more_regions : Names → List ℕ → Regions → List PrintedWord → List PrintedWord
  more_regions n indent end_of_regions rest = rest
  more_regions n indent (region blocks more) rest = sign places.RegionComma kinds.Comma (codes ",") ∷ open_word (codes " ") ∷ blocks_words n indent blocks (close_word indent ∷ more_regions n indent more rest)

  -- the blocks of a region: the first one without its label where nothing needs it
  pub blocks_words : Names → List ℕ → Blocks → List PrintedWord → List PrintedWord
  blocks_words n indent end_of_blocks rest = rest
  blocks_words n indent (block label args ops more) rest =
      if shows n label args ops then label_words n indent 0 args (ops_words n (indent ++ codes "  ") ops (blocks_from n indent 1 more rest))
      else ops_words n (indent ++ codes "  ") ops (blocks_from n indent 1 more rest)

  -- from the block at a position on
  pub blocks_from : Names → List ℕ → ℕ → Blocks → List PrintedWord → List PrintedWord
  blocks_from n indent k end_of_blocks rest = rest
  blocks_from n indent k (block label args ops more) rest = label_words n indent k args (ops_words n (indent ++ codes "  ") ops (blocks_from n indent (k + 1) more rest))
