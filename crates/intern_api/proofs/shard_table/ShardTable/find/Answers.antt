use Rattle.std.proofs.Common.{sym}
use Rattle.key_model.specs.Equal.{alike_entry, alike_entry-Decides}
use Rattle.intern_api.proofs.EntriesLaws.{none_any, stands_found}
use Rattle.intern_api.proofs.shard_table.ShardTable.find.Goals as goal

pub returns-in-Some-clause-found : goal.returns-in-Some-clause-found
returns-in-Some-clause-found c = stands_found c.args.self.now.shard c.args.self.now.entries.keys c.args.entry.now c.in-Some.field-0-1.now c.in-Some.place c.at.result c.args.self.now.small c.in-Some.ensures.key c.in-Some.ensures.stored c.at.ensures.shard c.at.ensures.place

pub returns-in-None-clause-absent : goal.returns-in-None-clause-absent
returns-in-None-clause-absent c = none_any alike_entry alike_entry-Decides c.args.entry.now c.args.self.now.entries.keys (sym c.in-None.ensures.found)
