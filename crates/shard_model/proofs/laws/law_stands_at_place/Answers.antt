use Rattle.shard_model.proofs.ShardLaws.{stands_at_place}
use Rattle.shard_model.proofs.laws.law_stands_at_place.Goals as goal

pub returns : goal.returns
returns c = stands_at_place
