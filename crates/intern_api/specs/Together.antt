-- Tables that make up an interner.
use Rattle.std.specs.Prelude.{◌≡◌, ◌<◌, ℕ, List, Some, slice_get, length}
use Rattle.intern_api.specs.declared.shard_table.ShardTable.{ShardTable}
use Rattle.intern_api.specs.Held.{AreKeys}

-- there is at least one table, table k has shard k of as many shards as there are tables, all caps are
-- equal, and each entry stands for a key over these tables
pub record AreTogether (ts : List ShardTable) : Type 0 where
  pub some : 0 < length ts
  pub numbered : (k : ℕ) (t : ShardTable) → slice_get ts k ≡ Some t → t.shard ≡ k
  pub of_all : (k : ℕ) (t : ShardTable) → slice_get ts k ≡ Some t → t.shards ≡ length ts
  pub capped : (j k : ℕ) (t u : ShardTable) → slice_get ts j ≡ Some t → slice_get ts k ≡ Some u → t.cap ≡ u.cap
  pub keys : AreKeys (length ts) ts
