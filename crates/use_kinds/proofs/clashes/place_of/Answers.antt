use Rattle.std.proofs.Common.{refl, length}
use Rattle.text_grammar.specs.declared.places.Place.TheVariants as places
use Rattle.text_events.specs.declared.event.Event.{Event}
use Rattle.use_kinds.proofs.PlaceLaws.{place_is}
use Rattle.use_kinds.proofs.clashes.place_of.Goals as goal

-- the checker's own event where none stands
abbrev nothing : Event
nothing = record { place = places.OpName; name = 0 }

pub whole_at-requires : goal.whole_at-requires
whole_at-requires c = c.number_at.ensures.within (length c.args.said.terms.now.nodes.keys) c.requires.numbers

pub returns : goal.returns
returns c = λ spelling aliases indexes stands behind.
    place_is spelling indexes aliases c.args.said.terms.now.nodes.keys c.args.said.numbers.now c.args.said.events.now c.args.event nothing c.written_at-written.result c.number_at.result c.whole_at.result
    c.if-event-said.false stands.is c.written_at-written.ensures.within (c.written_at-written.ensures.is c.args.said.events.now refl behind) c.number_at.ensures.is c.whole_at.ensures
