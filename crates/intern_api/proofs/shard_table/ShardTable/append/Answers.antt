use Rattle.intern_api.proofs.EntriesLaws.{distinct_insert}
use Rattle.intern_api.proofs.shard_table.ShardTable.append.Goals as goal

pub invariant_of-self-clause-distinct : goal.invariant_of-self-clause-distinct
invariant_of-self-clause-distinct c = distinct_insert c.args.self.now.entries.keys c.insert_full.new.self.keys c.args.entry c.insert_full.result c.insert_full.ensures.keys c.insert_full.ensures.err c.args.self.now.distinct c.requires
