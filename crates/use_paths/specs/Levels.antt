-- The places of a use, by numbers: which block of each region around it, and how many operations of the block are left.
use Rattle.std.specs.Prelude.{◌≡◌, ℕ, ◌==◌, nat_lt, nat_le, Bool, false, ◌&&◌, List, [], ◌∷◌, Option, Some, None, length, get_or, if◌then◌else◌, ⊤}
use Rattle.plain_tree.specs.Ops.{Blocks}
use Rattle.rule_model.specs.Words.{count_of}
use Rattle.rule_model.specs.Paths.{Frame}
use Rattle.use_paths.specs.declared.homes.Home.{Home}
use Rattle.use_paths.specs.Blocks.{ends_in, graph, home_in, place_in}
use Rattle.use_paths.specs.Marked.{ReachedWithout}

-- what is known of a region
pub record Known : Type 0 where
  pub places : ℕ → ℕ
  pub homes : ℕ → Option Home
  pub ends : List ℕ
  pub edges : List (List ℕ)

unfoldable pub known_of : Blocks → Known
known_of bs = record { places = place_in bs; homes = home_in bs; ends = ends_in bs; edges = graph bs }

-- a place in a region
pub record Spot : Type 0 where
  pub known : Known
  pub block : ℕ
  pub left : ℕ

abbrev pub spot_at : Known → ℕ → ℕ → Spot
spot_at known block left = record { known = known; block = block; left = left }

-- moves of the innermost place
abbrev pub without_first : List Spot → List Spot
without_first [] = []
without_first (s ∷ outer) = outer

abbrev pub with_block : ℕ → List Spot → List Spot
with_block label [] = []
with_block label (s ∷ outer) = spot_at s.known (s.known.places label) s.left ∷ outer

abbrev pub with_left : ℕ → List Spot → List Spot
with_left left [] = []
with_left left (s ∷ outer) = spot_at s.known s.block left ∷ outer

abbrev pub spot_of : Frame → Spot
spot_of f = record { known = known_of f.blocks; block = place_in f.blocks f.label; left = count_of f.ops }

-- a terminator stands in front of it in the block
abbrev pub is_behind_end : Spot → Bool
is_behind_end s = nat_lt s.left (get_or s.known.ends s.block 0)

-- a definition stands in front of it in the block
abbrev pub is_behind : Home → Spot → Bool
is_behind h s = (h.block == s.block) && nat_le s.left h.left

-- the block that no path without the value goes on from: none, where the value is defined behind the block's end
abbrev pub left_out : Known → Home → ℕ
left_out k h = if nat_lt h.left (get_or k.ends h.block 0) then length k.edges else h.block

-- a path comes there without the value that is defined at its home
abbrev pub Missing : Spot → Home → Type 0
Missing s h =
    (is_behind_end s ≡ false) × (is_behind h s ≡ false) × ReachedWithout s.known.edges (left_out s.known h) s.block

abbrev pub MissingIn : Option Home → Spot → Type 0 → Type 0
MissingIn None s Outer = Outer
MissingIn (Some h) s Outer = Missing s h

-- the same in the first of these regions that defines the value, and where none does
abbrev pub Missed : List Spot → ℕ → Type 0
Missed [] u = ⊤
Missed (s ∷ outer) u = MissingIn (s.known.homes u) s (Missed outer u)
