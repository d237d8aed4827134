-- The operations of a text, from the right: each word adds to what stands behind it in its region.
use Rattle.std.specs.Prelude.{ℕ, ◌+◌, List, [], ◌∷◌}
use Rattle.text_grammar.specs.declared.places.Place.{Place}
use Rattle.text_grammar.specs.declared.places.Place.TheVariants as places
use Rattle.tree_model.specs.declared.type_tree.TypeTree.{TypeTree}
use Rattle.tree_model.specs.declared.op_tree.OpTree.{OpTree, roll-OpTree}
use Rattle.tree_model.specs.declared.op_tree.BlockTree.{BlockTree, roll-BlockTree}
use Rattle.tree_model.specs.declared.op_tree.RegionTree.{RegionTree, roll-RegionTree}
use Rattle.plain_tree.specs.Types.{type_tree, type_trees}
use Rattle.term_table.specs.declared.node.Form.TheVariants as forms
use Rattle.term_table.specs.Terms.{Term, nothing, node}
use Rattle.text_types.specs.Plain.{type_of, types_of}
use Rattle.event_trees.specs.Wording.{Wording}
use Rattle.event_trees.specs.Dictionaries.{props_of, attrs_of}
use Rattle.event_trees.specs.Attrs.{written_of}
use Rattle.event_trees.specs.Roles.{Role}

-- the parts of an operation that stand behind a word in it
pub record Parts : Type 0 where
  pub operands : List ℕ
  pub successors : List ℕ
  pub props : Term
  pub regions : List RegionTree
  pub attrs : Term
  pub signature : Term

abbrev pub no_parts : Parts
no_parts = record { operands = []; successors = []; props = nothing; regions = []; attrs = nothing; signature = nothing }

-- what stands behind a word, in its region
pub record Level : Type 0 where
  -- of the operation in which the word stands
  pub parts : Parts
  -- of the block: its arguments and operations
  pub args : List (ℕ × TypeTree)
  pub ops : List OpTree
  -- of the region: the blocks behind this one
  pub blocks : List BlockTree

abbrev pub empty : Level
empty = record { parts = no_parts; args = []; ops = []; blocks = [] }

-- the same of this region and of each one around it, the innermost first
abbrev pub Levels : Type 0
Levels = List Level

abbrev pub on_first : (Level → Level) → Levels → Levels
on_first f [] = []
on_first f (l ∷ ls) = f l ∷ ls

abbrev pub on_parts : (Parts → Parts) → Level → Level
on_parts f l = record l { parts = f l.parts }

-- Operations

-- values of these types, with numbers from the first one on
abbrev pub numbered : ℕ → List TypeTree → List (ℕ × TypeTree)
numbered n [] = []
numbered n (t ∷ ts) = (n, t) ∷ numbered (n + 1) ts

-- the types of the results of a function type
abbrev pub result_types : Term → List TypeTree
result_types (node forms.Func _ inputs results) = type_trees (types_of results)
result_types _ = []

-- the operation with this name, whose first result has this number and whose parts stand behind the name
abbrev pub op_named : Wording → ℕ → ℕ → Parts → OpTree
op_named words name number p = roll-OpTree (record {
  name = words.spelled name;
  results = numbered number (result_types p.signature);
  operands = p.operands;
  props = props_of (words.spelled name) (written_of words p.props) (written_of words p.attrs);
  attrs = attrs_of (words.spelled name) (written_of words p.attrs);
  regions = p.regions;
  successors = p.successors;
})

-- it comes before the operations behind, and before it no part of an operation has come
abbrev pub with_op : Wording → ℕ → ℕ → Level → Level
with_op words name number l = record l { parts = no_parts; ops = op_named words name number l.parts ∷ l.ops }

-- Blocks and regions

abbrev pub block_labelled : ℕ → Level → BlockTree
block_labelled label l = roll-BlockTree (record { label = label; args = l.args; ops = l.ops })

-- a block begins at its label
abbrev pub with_block : ℕ → Level → Level
with_block label l = record empty { parts = l.parts; blocks = block_labelled label l ∷ l.blocks }

-- operations before the first label are a block
abbrev pub region_blocks : ℕ → List OpTree → List BlockTree → List BlockTree
region_blocks label [] blocks = blocks
region_blocks label (o ∷ os) blocks = roll-BlockTree (record { label = label; args = []; ops = o ∷ os }) ∷ blocks

abbrev pub region_opened : ℕ → Level → RegionTree
region_opened label l = roll-RegionTree (record { blocks = region_blocks label l.ops l.blocks })

-- a region begins: it comes before the regions behind it in its operation
abbrev pub with_region : RegionTree → Level → Level
with_region r l = on_parts (λ p. record p { regions = r ∷ p.regions }) l

abbrev pub closed_over : ℕ → Levels → Levels
closed_over label (inner ∷ outer ∷ ls) = with_region (region_opened label inner) outer ∷ ls
closed_over label ls = ls

-- Words

-- a part of an operation before those behind it: an operand, a successor, or a dictionary or function type, whose term begins here
abbrev pub with_part : Place → ℕ → Term → Parts → Parts
with_part places.UseName number term p = record p { operands = number ∷ p.operands }
with_part places.SuccessorName number term p = record p { successors = number ∷ p.successors }
with_part places.PropsOpen number term p = record p { props = term }
with_part places.DictOpen number term p = record p { attrs = term }
with_part places.SignatureOpen number term p = record p { signature = term }
with_part _ number term p = p

-- an argument before the arguments and operations behind it
abbrev pub with_arg : ℕ → Term → Level → Level
with_arg number term l = record l { args = (number, type_tree (type_of term)) ∷ l.args }

-- a word before what stands behind it in its region
abbrev pub in_level : Wording → Role → Level → Level
in_level words r l = elim r.place [
  | places.OpName ↦ with_op words r.name r.number l
  | places.ArgName ↦ with_arg r.number r.term l
  | places.BlockLabel ↦ with_block r.number l
  | _ ↦ on_parts (with_part r.place r.number r.term) l
]

-- a word before what stands behind it: read from the right, a region begins at its `}` and is whole at its `{`
abbrev pub with_word : Wording → Role → Levels → Levels
with_word words r ls = elim r.place [
  | places.RegionClose ↦ empty ∷ ls
  | places.RegionOpen ↦ closed_over r.number ls
  | _ ↦ on_first (in_level words r) ls
]

-- what stands behind the first word, with it
abbrev pub levels_of : Wording → List Role → Levels
levels_of words [] = empty ∷ []
levels_of words (r ∷ rs) = with_word words r (levels_of words rs)

abbrev pub ops_of : Levels → List OpTree
ops_of [] = []
ops_of (l ∷ ls) = l.ops
