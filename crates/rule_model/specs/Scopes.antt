-- Rule `Defined` region by region: the same rule, where what stands outside of a region is a predicate on numbers.
use Rattle.std.specs.Prelude.{◌≡◌, ◌⊎◌, ◌↔◌, ℕ, true, false, List, ◌++◌, ⊤}
use Rattle.plain_tree.specs.Ops.{Op, op, Ops, end_of_ops, more_ops, Regions, end_of_regions, region, Blocks, end_of_blocks, block}
use Rattle.rule_model.specs.Words.{has, AllOf, AnyOf, numbers, results_of, binds}
use Rattle.rule_model.specs.Paths.{Either, Reach, Undefined}
use Rattle.rule_model.specs.Sites.{sites}

-- Free uses: as an operand, or in a region, here or deeper, of which no block or operation defines u

abbrev mutual
  pub FreeOp : ℕ → Op → Type 0
  FreeOp u (op k results operands regions successors) = (has u operands ≡ true) ⊎ FreeRegions u regions

  pub FreeOps : ℕ → Ops → Type 0
  FreeOps u end_of_ops = ⊥
  FreeOps u (more_ops o rest) = FreeOp u o ⊎ FreeOps u rest

  pub FreeRegions : ℕ → Regions → Type 0
  FreeRegions u end_of_regions = ⊥
  FreeRegions u (region blocks more) = ((binds u blocks ≡ false) × FreeBlocks u blocks) ⊎ FreeRegions u more

  pub FreeBlocks : ℕ → Blocks → Type 0
  FreeBlocks u end_of_blocks = ⊥
  FreeBlocks u (block label args ops more) = FreeOps u ops ⊎ FreeBlocks u more

-- A use of u at a place of a region: no path of the region comes here without u, or u is defined outside, where `outer` speaks.
abbrev pub DefinedAt : Blocks → (ℕ → Type 0) → ℕ → List ℕ → Ops → ℕ → Type 0
DefinedAt bs outer l bound ops u = Either (binds u bs) (Reach bs u l bound ops → ⊥) (outer u)

abbrev mutual
  -- each use in an operation, where `here` speaks of its place
  pub DefinedOp : (ℕ → Type 0) → Op → Type 0
  DefinedOp here (op k results operands regions successors) = AllOf here operands × DefinedRegions here regions

  pub DefinedOps : Blocks → (ℕ → Type 0) → ℕ → List ℕ → Ops → Type 0
  DefinedOps bs outer l bound end_of_ops = ⊤
  DefinedOps bs outer l bound (more_ops o rest) =
      DefinedOp (DefinedAt bs outer l bound (more_ops o rest)) o × DefinedOps bs outer l (results_of o ++ bound) rest

  pub DefinedRegions : (ℕ → Type 0) → Regions → Type 0
  DefinedRegions outer end_of_regions = ⊤
  DefinedRegions outer (region blocks more) = DefinedBlocks blocks outer blocks × DefinedRegions outer more

  -- the blocks that are left of a region
  pub DefinedBlocks : Blocks → (ℕ → Type 0) → Blocks → Type 0
  DefinedBlocks bs outer end_of_blocks = ⊤
  DefinedBlocks bs outer (block label args ops more) = DefinedOps bs outer label (numbers args) ops × DefinedBlocks bs outer more

-- in a function: outside of it nothing is defined
abbrev pub DefinedFunction : Op → Type 0
DefinedFunction f = DefinedOp (λ u. ⊥) f

-- no operation of a function breaks rule `Defined` exactly where each use is defined region by region
abbrev pub DefinedByRegions : Type 0
DefinedByRegions = (f : Op) → AllOf (λ s. AnyOf (Undefined s.frames) s.operands → ⊥) (sites f) ↔ DefinedFunction f

-- in a region that keeps the rule, an operation that is reached without one of the region's values doesn't use it freely
abbrev pub ReachedWithout : Type 1
ReachedWithout = (bs : Blocks) (outer : ℕ → Type 0) (u l : ℕ) (bound : List ℕ) (o : Op) (rest : Ops)
    → DefinedBlocks bs outer bs → binds u bs ≡ true → Reach bs u l bound (more_ops o rest) → FreeOp u o → ⊥

-- the same, where nothing is defined outside
abbrev pub ReachedWithoutInFunction : Type 0
ReachedWithoutInFunction = (bs : Blocks) (u l : ℕ) (bound : List ℕ) (o : Op) (rest : Ops)
    → DefinedBlocks bs (λ v. ⊥) bs → binds u bs ≡ true → Reach bs u l bound (more_ops o rest) → FreeOp u o → ⊥
