use Rattle.shard_model.proofs.ShardLaws.{append_keeps_parts}
use Rattle.shard_model.proofs.laws.law_parts_stand.Goals as goal

pub returns : goal.returns
returns c = append_keeps_parts
