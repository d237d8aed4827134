-- The rules that are tests, region by region.
use Rattle.std.specs.Prelude.{◌≡◌, ℕ, ◌+◌, true, Option, Some, None, ⊤}
use Rattle.plain_tree.specs.Types.{PlainType}
use Rattle.plain_tree.specs.Ops.{Op, op, Ops, end_of_ops, more_ops, Regions, end_of_regions, region, Blocks, end_of_blocks, block}
use Rattle.plain_tree.specs.Values.{types_of}
use Rattle.rule_model.specs.declared.rules.Rule.{Rule}
use Rattle.rule_model.specs.Facts.{Facts, facts_of, Functions, Holder}
use Rattle.rule_model.specs.Rules.{keeps}
use Rattle.rule_model.specs.Sites.{holds}

-- an operation keeps each rule that is a test
abbrev pub KeepsAll : Functions → Facts → Type 0
KeepsAll c f = (q : Rule) → keeps c f q ≡ true

abbrev mutual
  -- an operation in front of others, in a region of these blocks, and those in it
  pub KeptOp : Functions → (ℕ → PlainType) → Option Holder → Blocks → Ops → Op → Type 0
  KeptOp c type_of holder bs rest (op k rs os r ls) =
      KeepsAll c (facts_of type_of holder bs rest (op k rs os r ls)) × KeptRegions c type_of (holds type_of (op k rs os r ls)) 0 r

  pub KeptOps : Functions → (ℕ → PlainType) → Option Holder → Blocks → Ops → Type 0
  KeptOps c type_of holder bs end_of_ops = ⊤
  KeptOps c type_of holder bs (more_ops o rest) = KeptOp c type_of holder bs rest o × KeptOps c type_of holder bs rest

  pub KeptRegions : Functions → (ℕ → PlainType) → (ℕ → Holder) → ℕ → Regions → Type 0
  KeptRegions c type_of holder n end_of_regions = ⊤
  KeptRegions c type_of holder n (region b more) = KeptBlocks c type_of (Some (holder n)) b b × KeptRegions c type_of holder (n + 1) more

  -- the blocks that are left of a region
  pub KeptBlocks : Functions → (ℕ → PlainType) → Option Holder → Blocks → Blocks → Type 0
  KeptBlocks c type_of holder bs end_of_blocks = ⊤
  KeptBlocks c type_of holder bs (block l args ops more) = KeptOps c type_of holder bs ops × KeptBlocks c type_of holder bs more

-- in a function
abbrev pub KeptFunction : Functions → Op → Type 0
KeptFunction c f = KeptOp c (types_of f) None end_of_blocks end_of_ops f
