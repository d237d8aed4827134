use Rattle.text_events.proofs.SourceLemmas.{all_named}
use Rattle.text_events.proofs.event_list.events.Goals as goal

pub returns-then-names-index : goal.returns-then-names-index
returns-then-names-index c = all_named c.each.found.items _ _ c.args.names.now c.each.index c.if-names-index.true c.each.invariant
