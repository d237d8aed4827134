use Rattle.std.proofs.Common.{◌-◌, ◌∙◌, ap, arith, get_or}
use Rattle.text_grammar.specs.declared.places.Place.TheVariants as places
use Rattle.text_events.specs.declared.event.Event.{Event}
use Rattle.text_refusals.specs.Placed.{at_place}
use Rattle.text_refusals.proofs.PlacedLemmas.{placed_step}
use Rattle.text_refusals.proofs.places.restore.Goals as goal

-- the checker's own event where none stands
abbrev nothing : Event
nothing = record { place = places.OpName; name = 0 }

pub each-preserved : goal.each-preserved
each-preserved c =
    let inv = c.each.invariant in
    record {
      bound = omega arith;
      events = placed_step c.args.events.now c.each.events c.args.places.now c.each.index (c.each.index - 1) nothing (omega arith) inv.bound inv.events c.at_place.result
          (c.at_place.ensures ∙ ap (at_place (get_or c.each.events (c.each.index - 1) nothing)) c.place_from-place.ensures);
    }
