use Rattle.intern_api.specs.Empty.{AreEmpty}
use Rattle.intern_api.proofs.plain_calls.empty_tables.Given as goal

abbrev pub invariant-loop-shard : goal.invariant-loop-shard
invariant-loop-shard l = AreEmpty l.shards l.shard l.cap l.tables.items
