-- What the laws of conversion promise.
use Rattle.std.specs.Prelude.{◌≡◌, ◌↔◌, ℕ, true, false, List, [], ◌∷◌, length, Option, Some, None, ⊤}
use Rattle.std.specs.Bool.{IsTrue}
use Rattle.std.specs.List.{list_any}
use Rattle.plain_tree.specs.Types.{PlainType}
use Rattle.plain_tree.specs.Ops.{Op, op, Ops, end_of_ops, more_ops, Regions, end_of_regions, region, Blocks, end_of_blocks, block}
use Rattle.conversion_model.specs.Conversion.{regions_of}
use Rattle.conversion_model.specs.Types.{is_own, converted_type}
use Rattle.conversion_model.specs.Templates.{Template}
use Rattle.conversion_model.specs.Targets.{Shape}
use Rattle.conversion_model.specs.Chosen.{Leaves, by_template}
use Rattle.conversion_model.specs.Uses.{operations}
use Rattle.conversion_model.specs.Reconciled.{is_cast, is_unused_cast, pair_of, pairs_left_out, reconciled}

-- the own types are those that the table maps to themselves, at each width
abbrev pub OwnTypes : Type 0
OwnTypes = (bits : ℕ) (t : PlainType) → IsTrue (is_own t) ↔ (converted_type bits t ≡ Some t)

-- a converted type is own
abbrev pub ConvertedIsOwn : Type 0
ConvertedIsOwn = (bits : ℕ) (t u : PlainType) → converted_type bits t ≡ Some u → is_own u ≡ true

-- none of these types changes
abbrev pub Unchanged : (PlainType → Option PlainType) → List PlainType → Type 0
Unchanged change [] = ⊤
Unchanged change (t ∷ ts) = (change t ≡ None) × Unchanged change ts

-- where no type of the operands and results changes, a template is taken as by a pattern that changes none: without casts
abbrev pub NoCasts : Type 0
NoCasts = (change : PlainType → Option PlainType) (leaves : Leaves) (o : Shape) (t : Template)
    → Unchanged change o.operands → Unchanged change o.results → by_template change leaves o t ≡ by_template (λ u. None) leaves o t

-- of a function that is reconciled no cast is left without uses
abbrev pub NoUnusedCast : Type 0
NoUnusedCast = (f : Op) → is_cast f ≡ false → list_any (λ o. is_unused_cast (operations (reconciled f)) o.1) (operations (reconciled f)) ≡ false

-- where the first half of reconciling ends, no cast is left that another one undoes
abbrev pub NoPairLeft : Type 0
NoPairLeft = (f : Op) → is_cast f ≡ false → pair_of (pairs_left_out (length (operations f)) f) ≡ None

abbrev mutual
  -- no cast in a tree has regions
  pub BareOp : Op → Type 0
  BareOp (op k results operands regions successors) = BareRegions regions

  pub BareOps : Ops → Type 0
  BareOps end_of_ops = ⊤
  BareOps (more_ops o os) = (is_cast o ≡ true → regions_of o ≡ end_of_regions) × BareOp o × BareOps os

  pub BareRegions : Regions → Type 0
  BareRegions end_of_regions = ⊤
  BareRegions (region blocks more) = BareBlocks blocks × BareRegions more

  pub BareBlocks : Blocks → Type 0
  BareBlocks end_of_blocks = ⊤
  BareBlocks (block label args ops more) = BareOps ops × BareBlocks more

-- in a function that is reconciled no cast is left that another one undoes, where no cast has regions
abbrev pub NoPairBehind : Type 0
NoPairBehind = (f : Op) → is_cast f ≡ false → BareOp f → pair_of (reconciled f) ≡ None
