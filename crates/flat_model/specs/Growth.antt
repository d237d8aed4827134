-- Nodes that are added behind those that are there.
use Rattle.std.specs.Prelude.{◌≡◌, ℕ, ◌<◌, ◌≤◌, length}
use Rattle.key_model.specs.declared.handle.Handle.{Handle}
use Rattle.key_model.specs.declared.key.Key.{Key}
use Rattle.flat_model.specs.Flat.{Flat, op_at, block_at, blocks_at, type_at, IsWithin}

-- what stands goes on standing
pub record Grown (f g : Flat) : Type 0 where
  pub ops : (i : ℕ) → i < length f.ops → op_at g i ≡ op_at f i
  pub blocks : (b : ℕ) → b < length f.blocks → block_at g b ≡ block_at f b
  pub regions : (r : ℕ) → r < length f.regions → blocks_at g r ≡ blocks_at f r
  pub types : (v : ℕ) → v < length f.types → type_at g v ≡ type_at f v
  pub more_ops : length f.ops ≤ length g.ops
  pub more_blocks : length f.blocks ≤ length g.blocks
  pub more_regions : length f.regions ≤ length g.regions
  pub more_types : length f.types ≤ length g.types

-- the same, and the numbers in nodes name something as before
pub record Built (values blocks : ℕ) (f g : Flat) : Type 0 where
  pub grown : Grown f g
  pub within : IsWithin values blocks f → IsWithin values blocks g

-- handles keep their keys
pub record Kept (holds later : Handle → Key → Type 0) : Type 0 where
  pub kept : (h : Handle) (k : Key) → holds h k → later h k
