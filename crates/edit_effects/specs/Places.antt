-- Where operations and blocks stand.
use Rattle.std.specs.Prelude.{◌≡◌, ℕ, ◌<◌, length, get_or, remove}
use Rattle.flat_model.specs.Flat.{Flat, block_at, blocks_at}
use Rattle.edit_model.specs.Writes.{with_ops}

-- the operation stands in the block at that place
pub record StandsAt (f : Flat) (op block at : ℕ) : Type 0 where
  pub inside : block < length f.blocks
  pub place : at < length (block_at f block).ops
  pub is : get_or (block_at f block).ops at 0 ≡ op

-- it stands at one place at most
pub record StandsOnce (f : Flat) (op : ℕ) : Type 0 where
  pub once : (b k c j : ℕ) → StandsAt f op b k → StandsAt f op c j → (b ≡ c) × (k ≡ j)

-- the block stands in the region at that place
pub record BlockStandsAt (f : Flat) (block region at : ℕ) : Type 0 where
  pub inside : region < length f.regions
  pub place : at < length (blocks_at f region)
  pub is : get_or (blocks_at f region) at 0 ≡ block

-- it stands at one place at most
pub record BlockStandsOnce (f : Flat) (block : ℕ) : Type 0 where
  pub once : (r k q j : ℕ) → BlockStandsAt f block r k → BlockStandsAt f block q j → (r ≡ q) × (k ≡ j)

-- the operation was taken out of the block in which it stood, if it stood in one
pub data IsErased (f : Flat) (op : ℕ) (g : Flat) : Type 0 where
  erased_at : (block at : ℕ) → StandsAt f op block at → g ≡ with_ops f block (remove (block_at f block).ops at) → IsErased f op g
  erased_nowhere : ((block at : ℕ) → StandsAt f op block at → ⊥) → g ≡ f → IsErased f op g
