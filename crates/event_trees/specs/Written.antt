-- Texts in the order of the grammar: the words that an operation is written as, and the tree that it is. Only the words that say something of the tree are told.
use Rattle.std.specs.Prelude.{◌≡◌, ℕ, Bool, true, false, List, [], ◌∷◌, Option, Some, None}
use Rattle.std.specs.List.{filter}
use Rattle.text_grammar.specs.declared.places.Place.{Place}
use Rattle.text_grammar.specs.declared.places.Place.TheVariants as places
use Rattle.tree_model.specs.declared.type_tree.TypeTree.{TypeTree}
use Rattle.tree_model.specs.declared.op_tree.OpTree.{OpTree, roll-OpTree}
use Rattle.tree_model.specs.declared.op_tree.BlockTree.{BlockTree, roll-BlockTree}
use Rattle.tree_model.specs.declared.op_tree.RegionTree.{RegionTree, roll-RegionTree}
use Rattle.plain_tree.specs.Types.{type_tree}
use Rattle.term_table.specs.Terms.{Term, nothing}
use Rattle.text_types.specs.Plain.{type_of}
use Rattle.event_trees.specs.Wording.{Wording}
use Rattle.event_trees.specs.Roles.{Role}
use Rattle.event_trees.specs.Dictionaries.{props_of, attrs_of}
use Rattle.event_trees.specs.Attrs.{written_of}
use Rattle.event_trees.specs.Levels.{levels_of, numbered, ops_of, region_blocks, result_types}

-- arguments, each with its number and the term of its type
abbrev pub Args : Type 0
Args = List (ℕ × Term)

mutual
  -- an operation: its name, the number of its first result, its operands, its successors, its properties, its regions, its attributes and its type
  pub data Op : Type 0 where
    op : ℕ → ℕ → List ℕ → List ℕ → Option Term → Regions → Option Term → Term → Op

  pub data Ops : Type 0 where
    ops_end : Ops
    ops_more : Op → Ops → Ops

  -- each region with the number of a block without a label, the operations of that block, and the blocks with labels
  pub data Regions : Type 0 where
    regions_end : Regions
    regions_more : ℕ → Ops → Blocks → Regions → Regions

  pub data Blocks : Type 0 where
    blocks_end : Blocks
    blocks_more : ℕ → Args → Ops → Blocks → Blocks

-- What is written: in front of what stands behind

abbrev word : Place → ℕ → ℕ → Term → Role
word place name number term = record { place = place; name = name; number = number; term = term }

abbrev pub operand_words : List ℕ → List Role → List Role
operand_words [] rest = rest
operand_words (n ∷ ns) rest = word places.UseName 0 n nothing ∷ operand_words ns rest

abbrev pub successor_words : List ℕ → List Role → List Role
successor_words [] rest = rest
successor_words (n ∷ ns) rest = word places.SuccessorName 0 n nothing ∷ successor_words ns rest

abbrev pub arg_words : Args → List Role → List Role
arg_words [] rest = rest
arg_words (a ∷ more) rest = word places.ArgName 0 a.0 a.1 ∷ arg_words more rest

abbrev pub prop_words : Option Term → List Role → List Role
prop_words None rest = rest
prop_words (Some t) rest = word places.PropsOpen 0 0 t ∷ rest

abbrev pub attr_words : Option Term → List Role → List Role
attr_words None rest = rest
attr_words (Some t) rest = word places.DictOpen 0 0 t ∷ rest

abbrev mutual
  -- name '(' operands ')' '[' successors ']' '<' '{' properties '}' '>' '(' regions ')' '{' attributes '}' ':' type
  pub op_words : Op → List Role → List Role
  op_words (op name number operands successors props regions attrs signature) rest =
      word places.OpName name number nothing
      ∷ operand_words operands (successor_words successors (prop_words props (region_words regions (attr_words attrs (word places.SignatureOpen 0 0 signature ∷ rest)))))

  pub ops_words : Ops → List Role → List Role
  ops_words ops_end rest = rest
  ops_words (ops_more o os) rest = op_words o (ops_words os rest)

  -- '{' operations blocks '}'
  pub region_words : Regions → List Role → List Role
  region_words regions_end rest = rest
  region_words (regions_more label first blocks more) rest =
      word places.RegionOpen 0 label nothing ∷ ops_words first (block_words blocks (word places.RegionClose 0 0 nothing ∷ region_words more rest))

  -- label '(' arguments ')' ':' operations
  pub block_words : Blocks → List Role → List Role
  block_words blocks_end rest = rest
  block_words (blocks_more label args ops more) rest = word places.BlockLabel 0 label nothing ∷ arg_words args (ops_words ops (block_words more rest))

-- What it is: in front of what stands behind

abbrev pub term_or : Option Term → Term
term_or None = nothing
term_or (Some t) = t

abbrev pub arg_trees : Args → List (ℕ × TypeTree)
arg_trees [] = []
arg_trees (a ∷ more) = (a.0, type_tree (type_of a.1)) ∷ arg_trees more

abbrev mutual
  pub tree_of : Wording → Op → OpTree
  tree_of words (op name number operands successors props regions attrs signature) = roll-OpTree (record {
    name = words.spelled name;
    results = numbered number (result_types signature);
    operands = operands;
    props = props_of (words.spelled name) (written_of words (term_or props)) (written_of words (term_or attrs));
    attrs = attrs_of (words.spelled name) (written_of words (term_or attrs));
    regions = region_trees words regions;
    successors = successors;
  })

  pub op_trees : Wording → Ops → List OpTree → List OpTree
  op_trees words ops_end rest = rest
  op_trees words (ops_more o os) rest = tree_of words o ∷ op_trees words os rest

  pub region_trees : Wording → Regions → List RegionTree
  region_trees words regions_end = []
  region_trees words (regions_more label first blocks more) = roll-RegionTree (record { blocks = region_blocks label (op_trees words first []) (block_trees words blocks) }) ∷ region_trees words more

  pub block_trees : Wording → Blocks → List BlockTree
  block_trees words blocks_end = []
  block_trees words (blocks_more label args ops more) = roll-BlockTree (record { label = label; args = arg_trees args; ops = op_trees words ops [] }) ∷ block_trees words more

-- the words that say something of the tree
abbrev pub tells : Place → Bool
tells places.OpName = true
tells places.UseName = true
tells places.SuccessorName = true
tells places.PropsOpen = true
tells places.DictOpen = true
tells places.SignatureOpen = true
tells places.ArgName = true
tells places.BlockLabel = true
tells places.RegionOpen = true
tells places.RegionClose = true
tells _ = false

abbrev pub telling : List Role → List Role
telling roles = filter (λ r. tells r.place) roles

-- a text whose telling words are those as which the operations are written denotes their trees, whatever stands between them
abbrev pub ReadBack : Type 0
ReadBack = (words : Wording) (ops : Ops) (roles : List Role) → telling roles ≡ ops_words ops [] → ops_of (levels_of words roles) ≡ op_trees words ops []
