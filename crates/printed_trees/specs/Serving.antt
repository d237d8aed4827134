-- The uses of an operation in the order of its text, and definitions that serve them.
use Rattle.std.specs.Prelude.{◌≡◌, ℕ, ◌+◌, List, [], ◌∷◌, Option, Some, None}
use Rattle.plain_tree.specs.Ops.{Op, op, Ops, end_of_ops, more_ops, Regions, end_of_regions, region, Blocks, end_of_blocks, block}
use Rattle.text_model.specs.declared.value_name.ValueName.{ValueName}
use Rattle.text_model.specs.declared.value_name.ValueName.TheVariants.{Argument, Single, Part}
use Rattle.text_model.specs.PrintedNames.{Names}
use Rattle.event_trees.specs.Numbers.{number_at}

-- a use by the index behind its name, and the value that is used
abbrev pub Use : Type 0
Use = ℕ × ℕ

-- the index that is printed behind a name
abbrev pub index_in : Option ValueName → ℕ
index_in (Some (Part k j)) = j
index_in (Some (Argument k)) = 0
index_in (Some (Single k)) = 0
index_in None = 0

abbrev pub operand_uses : Names → List ℕ → List Use → List Use
operand_uses n [] rest = rest
operand_uses n (v ∷ vs) rest = (index_in (n.name v), v) ∷ operand_uses n vs rest

-- the operands of an operation and of all in it, in front of those behind
abbrev mutual
  pub op_uses : Names → Op → List Use → List Use
  op_uses n (op k results operands regions successors) rest = operand_uses n operands (region_uses n regions rest)

  pub ops_uses : Names → Ops → List Use → List Use
  ops_uses n end_of_ops rest = rest
  ops_uses n (more_ops o os) rest = op_uses n o (ops_uses n os rest)

  pub region_uses : Names → Regions → List Use → List Use
  region_uses n end_of_regions rest = rest
  region_uses n (region blocks more) rest = block_uses n blocks (region_uses n more rest)

  pub block_uses : Names → Blocks → List Use → List Use
  block_uses n end_of_blocks rest = rest
  block_uses n (block label args ops more) rest = ops_uses n ops (block_uses n more rest)

abbrev pub successor_targets : List ℕ → List ℕ → List ℕ
successor_targets [] rest = rest
successor_targets (l ∷ ls) rest = l ∷ successor_targets ls rest

-- the labels of its successors
abbrev mutual
  pub op_targets : Op → List ℕ → List ℕ
  op_targets (op k results operands regions successors) rest = successor_targets successors (region_targets regions rest)

  pub ops_targets : Ops → List ℕ → List ℕ
  ops_targets end_of_ops rest = rest
  ops_targets (more_ops o os) rest = op_targets o (ops_targets os rest)

  pub region_targets : Regions → List ℕ → List ℕ
  region_targets end_of_regions rest = rest
  region_targets (region blocks more) rest = block_targets blocks (region_targets more rest)

  pub block_targets : Blocks → List ℕ → List ℕ
  block_targets end_of_blocks rest = rest
  block_targets (block label args ops more) rest = ops_targets ops (block_targets more rest)

-- where these are the numbers at the definitions of a text, each use is of the value that its definition says
abbrev pub Serve : List ℕ → List Use → List (Option ℕ) → Type 0
Serve numbers [] ds = Unit {0}
Serve numbers (u ∷ us) [] = ⊥
Serve numbers (u ∷ us) (d ∷ ds) = (number_at numbers d + u.0 ≡ u.1) × Serve numbers us ds

-- and each successor the label
abbrev pub ServeLabels : List ℕ → List ℕ → List (Option ℕ) → Type 0
ServeLabels numbers [] ds = Unit {0}
ServeLabels numbers (l ∷ ls) [] = ⊥
ServeLabels numbers (l ∷ ls) (d ∷ ds) = (number_at numbers d ≡ l) × ServeLabels numbers ls ds
