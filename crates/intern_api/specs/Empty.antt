-- Tables without entries.
use Rattle.std.specs.Prelude.{◌≡◌, ℕ, List, [], Option, Some, slice_get, length}
use Rattle.intern_api.specs.declared.shard_table.ShardTable.{ShardTable}

-- so many empty tables, each of its shard and with the cap
pub record AreEmpty (shards made : ℕ) (cap : Option ℕ) (ts : List ShardTable) : Type 0 where
  pub sized : length ts ≡ made
  pub numbered : (k : ℕ) (t : ShardTable) → slice_get ts k ≡ Some t → t.shard ≡ k
  pub of_all : (k : ℕ) (t : ShardTable) → slice_get ts k ≡ Some t → t.shards ≡ shards
  pub capped : (k : ℕ) (t : ShardTable) → slice_get ts k ≡ Some t → t.cap ≡ cap
  pub empty : (k : ℕ) (t : ShardTable) → slice_get ts k ≡ Some t → t.entries.keys ≡ []
