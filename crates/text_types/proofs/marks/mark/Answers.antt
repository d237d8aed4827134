use Rattle.std.proofs.Common.{◌-◌, arith, ◌∙◌, ap, reverse}
use Rattle.text_grammar.specs.declared.places.Place.TheVariants as places
use Rattle.text_events.specs.declared.event.Event.{Event}
use Rattle.text_types.specs.Marks.{first_or_false}
use Rattle.text_types.proofs.MarkLaws.{marked_step, closed_step, arrow_step}
use Rattle.text_types.proofs.marks.mark.Goals as goal

-- the checker's own event where none stands
abbrev nothing : Event
nothing = record { place = places.OpName; name = 0 }

pub each-preserved : goal.each-preserved
each-preserved c =
    let inv = c.each.invariant in
    record {
      bound = omega arith;
      events = marked_step c.args.events.now c.each.events c.each.index (c.each.index - 1) nothing (omega arith) inv.bound inv.events c.marked_at.result c.each.arrow c.innermost-inner.result
          (reverse c.each.closed.items) c.marked_at.ensures inv.arrow (c.innermost-inner.ensures ∙ ap (λ xs. first_or_false (reverse xs)) c.deref.ensures.value) inv.closed;
      closed = closed_step c.args.events.now c.each.events c.each.index (c.each.index - 1) nothing (omega arith) inv.bound inv.events (reverse c.close.new.closed.items) (reverse c.each.closed.items)
          c.each.arrow c.in_ok-close.ensures inv.closed inv.arrow;
      arrow = arrow_step c.args.events.now c.each.events c.each.index (c.each.index - 1) nothing (omega arith) inv.bound inv.events c.is_arrow-arrow.result c.is_arrow-arrow.ensures;
    }
