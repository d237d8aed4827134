use Rattle.shard_model.proofs.ShardLaws.{keys_stay, entries_stay, tables_stay}
use Rattle.shard_model.proofs.laws.law_keys_stay.Goals as goal

pub returns-clause-keys : goal.returns-clause-keys
returns-clause-keys c = keys_stay

pub returns-clause-entries : goal.returns-clause-entries
returns-clause-entries c = entries_stay

pub returns-clause-tables : goal.returns-clause-tables
returns-clause-tables c = tables_stay
