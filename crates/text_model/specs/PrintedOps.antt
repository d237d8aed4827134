-- The printed text of an operation, by the names of the function in which it stands.
use Rattle.std.specs.Prelude.{ℕ, ◌+◌, Bool, true, false, ◌||◌, not, List, [], ◌∷◌, ◌++◌, map, flat_map, length, Option, Some, None, if◌then◌else◌, codes, decimal}
use Rattle.tree_text.specs.Joined.{joined}
use Rattle.tree_text.specs.NameText.{string_text}
use Rattle.tree_text.specs.TypeText.{Printed, printed, plain_type, type_text, signature_text}
use Rattle.tree_text.specs.AttrText.{dict_text}
use Rattle.tree_model.specs.declared.type_tree.TypeTree.{TypeTree}
use Rattle.tree_model.specs.declared.attr_tree.AttrTree.{AttrTree}
use Rattle.tree_model.specs.declared.op_tree.OpTree.{OpTree, fold-OpTree}
use Rattle.tree_model.specs.declared.op_tree.BlockTree.{BlockTree, fold-BlockTree}
use Rattle.tree_model.specs.declared.op_tree.RegionTree.{RegionTree, fold-RegionTree}
use Rattle.tree_model.specs.declared.op_tree.BlockTree.TheOpen.{OpTree-F, BlockTree-F, RegionTree-F}
use Rattle.text_model.specs.declared.value_name.ValueName.{ValueName}
use Rattle.text_model.specs.declared.value_name.ValueName.TheVariants.{Argument, Single, Part}
use Rattle.text_model.specs.PrintedNames.{Names}

-- the number of a value as it is written, which the results of a group share
abbrev pub found_number : Option ValueName → List ℕ
found_number (Some (Argument n)) = codes "%arg" ++ decimal n
found_number (Some (Single n)) = codes "%" ++ decimal n
found_number (Some (Part n k)) = codes "%" ++ decimal n
-- the function defines no such value
found_number None = codes "%?"

-- a value's name as it is written, with its place in its group
abbrev pub found_name : Option ValueName → List ℕ
found_name (Some (Argument n)) = codes "%arg" ++ decimal n
found_name (Some (Single n)) = codes "%" ++ decimal n
found_name (Some (Part n k)) = codes "%" ++ decimal n ++ codes "#" ++ decimal k
found_name None = codes "%?"

-- the type of a value: `?` where the function defines no such value
abbrev pub found_type : Option TypeTree → Printed
found_type None = plain_type (codes "?")
found_type (Some t) = printed t

-- the label of a block: `^bb?` where the function has no such block
abbrev pub found_label : Option ℕ → List ℕ
found_label None = codes "^bb?"
found_label (Some k) = codes "^bb" ++ decimal k

-- what stands before an operation's name: nothing, `%3 = ` or `%3:2 = `
abbrev pub results_lead : Names → List (ℕ × TypeTree) → List ℕ
results_lead n [] = []
results_lead n (v ∷ []) = found_name (n.name v.0) ++ codes " = "
results_lead n (v ∷ w ∷ vs) = found_number (n.name v.0) ++ codes ":" ++ decimal (length (v ∷ w ∷ vs)) ++ codes " = "

-- the operands in parentheses
abbrev pub operands_text : Names → List ℕ → List ℕ
operands_text n operands = codes "(" ++ joined (codes ", ") (map (λ v. found_name (n.name v)) operands) ++ codes ")"

-- the successors in brackets, or nothing
abbrev pub successors_text : Names → List ℕ → List ℕ
successors_text n [] = []
successors_text n (l ∷ ls) = codes "[" ++ joined (codes ", ") (map (λ l. found_label (n.position l)) (l ∷ ls)) ++ codes "]"

-- the properties, or nothing
abbrev pub props_text : List (List ℕ × AttrTree) → List ℕ
props_text [] = []
props_text (e ∷ es) = codes " <{" ++ dict_text (e ∷ es) ++ codes "}>"

-- the attributes, or nothing
abbrev pub attrs_text : List (List ℕ × AttrTree) → List ℕ
attrs_text [] = []
attrs_text (e ∷ es) = codes " {" ++ dict_text (e ∷ es) ++ codes "}"

-- the regions in parentheses, or nothing
abbrev pub regions_text : List (List ℕ) → List ℕ
regions_text [] = []
regions_text (r ∷ rs) = codes " (" ++ joined (codes ", ") (r ∷ rs) ++ codes ")"

-- the function type of an operation: its operands' types and its results'
abbrev pub op_signature : Names → List ℕ → List (ℕ × TypeTree) → List ℕ
op_signature n operands results = signature_text (map (λ v. found_type (n.type_of v)) operands) (map (λ r. printed r.1) results)

-- an argument of a block with its type
abbrev pub argument_text : Names → (ℕ × TypeTree) → List ℕ
argument_text n v = found_name (n.name v.0) ++ codes ": " ++ type_text v.1

-- the arguments of a block in parentheses, or nothing
abbrev pub arguments_text : Names → List (ℕ × TypeTree) → List ℕ
arguments_text n [] = []
arguments_text n (v ∷ vs) = codes "(" ++ joined (codes ", ") (map (argument_text n) (v ∷ vs)) ++ codes ")"

-- the line of the label of the block at a position
abbrev pub label_line : Names → List ℕ → ℕ → List (ℕ × TypeTree) → List ℕ
label_line n indent k arguments = indent ++ codes "^bb" ++ decimal k ++ arguments_text n arguments ++ codes ":\n"

-- a block as it is printed: its label, its arguments, whether it has no operations, and the text of
-- its operations by their indentation
pub record BlockParts : Type 0 where
  pub label : ℕ
  pub arguments : List (ℕ × TypeTree)
  pub is_empty : Bool
  pub body : List ℕ → List ℕ

-- whether a list has no elements
abbrev pub has_none : {A : Type 0} → List A → Bool
has_none [] = true
has_none (x ∷ xs) = false

-- whether a region's first block shows its label: where it has arguments or no operations, or an
-- operation names it as a successor. In a well-formed tree a label is one of a single region.
abbrev pub shows_label : Names → BlockParts → Bool
shows_label n b = not (has_none b.arguments) || b.is_empty || n.is_target b.label

-- the block at a position: its label, and its operations two blanks further in
abbrev pub block_text : Names → List ℕ → ℕ → BlockParts → List ℕ
block_text n indent k b = label_line n indent k b.arguments ++ b.body (indent ++ codes "  ")

-- the blocks from the one at position k on
abbrev pub blocks_from : Names → List ℕ → ℕ → List BlockParts → List ℕ
blocks_from n indent k [] = []
blocks_from n indent k (b ∷ bs) = block_text n indent k b ++ blocks_from n indent (k + 1) bs

-- the first block of a region
abbrev pub first_block : Names → List ℕ → BlockParts → List ℕ
first_block n indent b = if shows_label n b then block_text n indent 0 b else b.body (indent ++ codes "  ")

-- the blocks of a region
abbrev pub blocks_text : Names → List ℕ → List BlockParts → List ℕ
blocks_text n indent [] = []
blocks_text n indent (b ∷ bs) = first_block n indent b ++ blocks_from n indent 1 bs

-- what stands before an operation's regions
unfoldable pub head_text : {A B C : Type 0} → Names → OpTree-F A B C → List ℕ
head_text n o = results_lead n o.results ++ string_text o.name ++ operands_text n o.operands ++ successors_text n o.successors ++ props_text o.props

-- what stands behind them
unfoldable pub tail_text : {A B C : Type 0} → Names → OpTree-F A B C → List ℕ
tail_text n o = attrs_text o.attrs ++ codes " : " ++ op_signature n o.operands o.results ++ codes "\n"

-- a block, an operation and a region, from what is in it
abbrev pub block_step : BlockTree-F BlockParts (List ℕ → List ℕ) (List ℕ → List ℕ) → BlockParts
block_step b = record { label = b.label; arguments = b.args; is_empty = has_none b.ops; body = λ indent. flat_map (λ o. o indent) b.ops }

abbrev pub op_step : Names → OpTree-F BlockParts (List ℕ → List ℕ) (List ℕ → List ℕ) → List ℕ → List ℕ
op_step n o indent = indent ++ head_text n o ++ regions_text (map (λ r. r indent) o.regions) ++ tail_text n o

abbrev pub region_step : Names → RegionTree-F BlockParts (List ℕ → List ℕ) (List ℕ → List ℕ) → List ℕ → List ℕ
region_step n r indent = codes "{\n" ++ blocks_text n indent r.blocks ++ indent ++ codes "}"

-- the lines of an operation, by its indentation
abbrev pub op_text : Names → OpTree → List ℕ → List ℕ
op_text n = fold-OpTree BlockParts (List ℕ → List ℕ) (List ℕ → List ℕ) block_step (op_step n) (region_step n)

-- a block as it is printed
abbrev pub block_parts : Names → BlockTree → BlockParts
block_parts n = fold-BlockTree BlockParts (List ℕ → List ℕ) (List ℕ → List ℕ) block_step (op_step n) (region_step n)

-- a region, by the indentation of its operation
abbrev pub region_text : Names → RegionTree → List ℕ → List ℕ
region_text n = fold-RegionTree BlockParts (List ℕ → List ℕ) (List ℕ → List ℕ) block_step (op_step n) (region_step n)
