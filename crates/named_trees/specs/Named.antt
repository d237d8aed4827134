-- The printed names of a function whose values and labels are numbered in order: each stands for one value, and each label has its place.
use Rattle.std.specs.Prelude.{◌≡◌, ℕ, ◌+◌, true, [], ◌∷◌, Option, Some, None, is_some}
use Rattle.plain_tree.specs.Ops.{Op, op, Ops, end_of_ops, more_ops, Regions, end_of_regions, region, Blocks, end_of_blocks, block, Values}
use Rattle.text_model.specs.declared.value_name.ValueName.{ValueName}
use Rattle.text_model.specs.declared.value_name.ValueName.TheVariants.{Argument, Single, Part}
use Rattle.text_model.specs.PrintedNames.{Names}
use Rattle.printed_modules.specs.ModuleWords.{own_names}
use Rattle.printed_trees.specs.Numbering.{is_numbered, none_counted}
use Rattle.printed_trees.specs.Serving.{index_in}

-- what is printed of a name before its index
abbrev pub shown : Option ValueName → Option ValueName
shown (Some (Part k j)) = Some (Single k)
shown (Some (Argument k)) = Some (Argument k)
shown (Some (Single k)) = Some (Single k)
shown None = None

-- each value that is printed as this one is printed has a number as many above it as its index says
abbrev pub Owns : Names → ℕ → Type 0
Owns n u = (v : ℕ) (name : ValueName) → n.name v ≡ Some name → shown (Some name) ≡ shown (n.name u) → v ≡ u + index_in (Some name)

-- the values are printed as this one
abbrev pub Share : Names → ℕ → Values → Type 0
Share n u [] = Unit {0}
Share n u (w ∷ vs) = (is_some (n.name w.0) ≡ true) × (shown (n.name w.0) ≡ shown (n.name u)) × Share n u vs

-- the results of an operation
abbrev pub ResultsNamed : Names → Values → Type 0
ResultsNamed n [] = Unit {0}
ResultsNamed n (u ∷ us) = Owns n u.0 × Share n u.0 (u ∷ us)

-- the arguments of a block
abbrev pub ArgsNamed : Names → Values → Type 0
ArgsNamed n [] = Unit {0}
ArgsNamed n (u ∷ us) = Owns n u.0 × (is_some (n.name u.0) ≡ true) × ArgsNamed n us

abbrev mutual
  pub OpNamed : Names → Op → Type 0
  OpNamed n (op k results operands regions successors) = ResultsNamed n results × RegionsNamed n regions

  pub OpsNamed : Names → Ops → Type 0
  OpsNamed n end_of_ops = Unit {0}
  OpsNamed n (more_ops o os) = OpNamed n o × OpsNamed n os

  pub RegionsNamed : Names → Regions → Type 0
  RegionsNamed n end_of_regions = Unit {0}
  RegionsNamed n (region blocks more) = BlocksNamed n 0 blocks × RegionsNamed n more

  -- from the block at a position on
  pub BlocksNamed : Names → ℕ → Blocks → Type 0
  BlocksNamed n k end_of_blocks = Unit {0}
  BlocksNamed n k (block label args ops more) = (n.position label ≡ Some k) × ArgsNamed n args × OpsNamed n ops × BlocksNamed n (k + 1) more

-- in a function that is numbered in order
abbrev pub NamesAreOnce : Type 0
NamesAreOnce = (f : Op) → is_numbered none_counted f ≡ true → OpNamed (own_names f) f
