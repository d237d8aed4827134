use Rattle.shard_model.proofs.ShardLaws.{one_handle, one_entry, one_key}
use Rattle.shard_model.proofs.laws.law_one_handle.Goals as goal

pub returns-clause-handle : goal.returns-clause-handle
returns-clause-handle c = one_handle

pub returns-clause-entry : goal.returns-clause-entry
returns-clause-entry c = one_entry

pub returns-clause-key : goal.returns-clause-key
returns-clause-key c = one_key
