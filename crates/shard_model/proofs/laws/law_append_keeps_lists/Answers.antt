use Rattle.shard_model.proofs.ShardLaws.{append_keeps_lists, append_keeps_tables}
use Rattle.shard_model.proofs.laws.law_append_keeps_lists.Goals as goal

pub returns-clause-list : goal.returns-clause-list
returns-clause-list c = append_keeps_lists

pub returns-clause-table : goal.returns-clause-table
returns-clause-table c = append_keeps_tables
