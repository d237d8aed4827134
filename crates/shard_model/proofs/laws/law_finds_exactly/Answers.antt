use Rattle.shard_model.proofs.ShardLaws.{finds_exactly}
use Rattle.shard_model.proofs.laws.law_finds_exactly.Goals as goal

pub returns : goal.returns
returns c = finds_exactly
