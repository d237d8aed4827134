-- The operations of a tree with their places, and the first that uses something that is missed there.
use Rattle.std.specs.Prelude.{◌≡◌, ℕ, ◌+◌, List, ◌∷◌, ◌++◌, Option, Some, None, length}
use Rattle.plain_tree.specs.Ops.{Op, op, Ops, end_of_ops, more_ops, Regions, end_of_regions, region, Blocks, end_of_blocks, block}
use Rattle.rule_model.specs.Words.{AnyOf, count_of}
use Rattle.first_places.specs.First.{FirstAt}
use Rattle.use_paths.specs.Levels.{Known, known_of, Missed, Spot, spot_at}

pub record Use : Type 0 where
  pub spots : List Spot
  pub operands : List ℕ

abbrev pub use_at : List Spot → List ℕ → Use
use_at spots operands = record { spots = spots; operands = operands }

abbrev mutual
  -- an operation at its places, and those in it, in front of others
  pub op_uses : List Spot → Op → List Use → List Use
  op_uses spots (op k results operands regions successors) more = use_at spots operands ∷ regions_uses spots regions more

  pub ops_uses : List Spot → Known → ℕ → Ops → List Use → List Use
  ops_uses outer known n end_of_ops more = more
  ops_uses outer known n (more_ops o rest) more = op_uses (spot_at known n (count_of rest + 1) ∷ outer) o (ops_uses outer known n rest more)

  pub regions_uses : List Spot → Regions → List Use → List Use
  regions_uses spots end_of_regions more = more
  regions_uses spots (region blocks rest) more = blocks_uses spots (known_of blocks) blocks (regions_uses spots rest more)

  pub blocks_uses : List Spot → Known → Blocks → List Use → List Use
  blocks_uses outer known end_of_blocks more = more
  blocks_uses outer known (block label args ops rest) more = ops_uses outer known (known.places label) ops (blocks_uses outer known rest more)

abbrev pub Misses : Use → Type 0
Misses u = AnyOf (Missed u.spots) u.operands

-- so many operations were looked at, the first of all that there are, and this is the first of them that misses something
pub record SoFar (count : ℕ) (found : Option ℕ) (ahead whole : List Use) : Type 0 where
  pub before : List Use
  pub is : before ++ ahead ≡ whole
  pub counted : count ≡ length before
  pub first : FirstAt Misses before found

-- the first one up to this one, behind so many
abbrev pub FoundBy : Use → (count : ℕ) (found new : Option ℕ) → Type 0
FoundBy u count (Some n) new = new ≡ Some n
FoundBy u count None None = Misses u → ⊥
FoundBy u count None (Some n) = (n ≡ count) × Misses u

-- of all these operations, in front of any others, these are still ahead
abbrev pub Ahead : (count : ℕ) (found : Option ℕ) (new_count : ℕ) (new_found : Option ℕ) → (all ahead : List Use → List Use) → Type 0
Ahead count found new_count new_found all ahead = (rest whole : List Use) → SoFar count found (all rest) whole → SoFar new_count new_found (ahead rest) whole

-- these operations are passed, in front of any others
abbrev pub Passes : (List Use → List Use) → (count : ℕ) (found : Option ℕ) (new_count : ℕ) (new_found : Option ℕ) → Type 0
Passes uses count found new_count new_found =
    (rest whole : List Use) → SoFar count found (uses rest) whole → SoFar new_count new_found rest whole

-- the same within a block, and within a region: only where in it the innermost place is may change
abbrev pub InBlock : (spots new_spots : List Spot) → (List Spot → Known → ℕ → List Use → List Use) → (count : ℕ) (found : Option ℕ) (new_count : ℕ) (new_found : Option ℕ) → Type 0
InBlock spots new_spots uses count found new_count new_found =
    (known : Known) (n left : ℕ) (outer : List Spot) → spots ≡ spot_at known n left ∷ outer
    → ((new_left : ℕ) × (new_spots ≡ spot_at known n new_left ∷ outer)) × Passes (uses outer known n) count found new_count new_found

abbrev pub InRegion : (spots new_spots : List Spot) → (List Spot → Known → List Use → List Use) → (count : ℕ) (found : Option ℕ) (new_count : ℕ) (new_found : Option ℕ) → Type 0
InRegion spots new_spots uses count found new_count new_found =
    (known : Known) (n left : ℕ) (outer : List Spot) → spots ≡ spot_at known n left ∷ outer
    → ((new_n : ℕ) × (new_left : ℕ) × (new_spots ≡ spot_at known new_n new_left ∷ outer)) × Passes (uses outer known) count found new_count new_found
