use Rattle.std.proofs.Common.{◌+◌, sym, subst}
use Rattle.intern_api.specs.Empty.{AreEmpty}
use Rattle.intern_api.proofs.EmptyLaws.{empty_more}
use Rattle.intern_api.proofs.plain_calls.empty_tables.Goals as goal

pub loop-shard-preserved : goal.loop-shard-preserved
loop-shard-preserved c = subst (AreEmpty c.args.shards (c.loop-shard.shard + 1) c.args.cap) (sym c.in_ok-push.ensures.items) (empty_more c.args.shards c.loop-shard.shard c.args.cap c.loop-shard.tables.items c.new.result c.loop-shard.invariant c.new.ensures.shard c.new.ensures.shards c.new.ensures.cap c.new.ensures.empty)
