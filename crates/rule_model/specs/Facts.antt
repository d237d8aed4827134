-- What the rules that are tests look at: an operation with what surrounds it, without any number of a value or label.
use Rattle.std.specs.Prelude.{ℕ, Bool, true, false, List, [], ◌∷◌, map, Option, Some, None, codes}
use Rattle.std.specs.Option.{option_map}
use Rattle.plain_tree.specs.Types.{PlainType}
use Rattle.plain_tree.specs.Attrs.{Entries, PlainAttr, Text, OfType, entry}
use Rattle.plain_tree.specs.Ops.{Op, op, Ops, end_of_ops, more_ops, Regions, end_of_regions, region, Blocks, end_of_blocks, block}
use Rattle.rule_model.specs.Words.{if_some, name_of, types, block_of, is_first}

-- a block of a region: the types of its arguments, and the name of its last operation, none where it is empty
pub record Head : Type 0 where
  pub args : List PlainType
  pub last : Option (List ℕ)

-- a successor: the types of the block's arguments, and whether it is the first of its region
pub record Target : Type 0 where
  pub args : Option (List PlainType)
  pub first : Bool

-- the operation that holds a region, and which of its regions that is
pub record Holder : Type 0 where
  pub name : List ℕ
  pub props : Entries
  pub operands : List PlainType
  pub results : List PlainType
  pub region : ℕ

pub record Facts : Type 0 where
  pub name : List ℕ
  pub props : Entries
  pub operands : List PlainType
  pub results : List PlainType
  pub successors : List Target
  pub regions : List (List Head)
  -- what holds its region: nothing where it is a function
  pub holder : Option Holder
  -- whether no operation stands behind it in its block
  pub last : Bool

-- what others see of a function: the operation's name, and its properties
pub record Declared : Type 0 where
  pub kind : List ℕ
  pub props : Entries

-- the functions of the module, and those in front of the function
pub record Functions : Type 0 where
  pub all : List Declared
  pub earlier : List Declared

-- From the tree

abbrev pub last_name : List ℕ → Ops → List ℕ
last_name name end_of_ops = name
last_name name (more_ops o rest) = last_name (name_of o) rest

abbrev pub last_in : Ops → Option (List ℕ)
last_in end_of_ops = None
last_in (more_ops o rest) = Some (last_name (name_of o) rest)

abbrev pub heads : Blocks → List Head
heads end_of_blocks = []
heads (block label args ops more) = record { args = types args; last = last_in ops } ∷ heads more

abbrev pub regions_heads : Regions → List (List Head)
regions_heads end_of_regions = []
regions_heads (region blocks more) = heads blocks ∷ regions_heads more

abbrev pub target : Blocks → ℕ → Target
target blocks l = record { args = option_map (λ b. types b.args) (block_of l blocks); first = is_first l blocks }

abbrev pub is_end : Ops → Bool
is_end end_of_ops = true
is_end (more_ops o rest) = false

-- of an operation in front of others in a block of these
abbrev pub facts_of : (ℕ → PlainType) → Option Holder → Blocks → Ops → Op → Facts
facts_of type_of holder blocks rest (op k results operands regions successors) = record {
  name = k.name;
  props = k.props;
  operands = map type_of operands;
  results = types results;
  successors = map (target blocks) successors;
  regions = regions_heads regions;
  holder = holder;
  last = is_end rest;
}

-- Functions

abbrev pub declared : Op → Declared
declared (op k results operands regions successors) = record { kind = k.name; props = k.props }

abbrev pub functions : (all earlier : List Op) → Functions
functions all earlier = record { all = map declared all; earlier = map declared earlier }

abbrev pub text_in : PlainAttr → Option (List ℕ)
text_in (Text text) = Some text
text_in _ = None

abbrev pub type_in : PlainAttr → Option PlainType
type_in (OfType t) = Some t
type_in _ = None

-- the name of a function, none where it has none or it is no text
abbrev pub name_in : Entries → Option (List ℕ)
name_in props = if_some (entry (codes "sym_name") props) text_in

-- the type of a function
abbrev pub type_of_function : Entries → Option PlainType
type_of_function props = if_some (entry (codes "function_type") props) type_in
