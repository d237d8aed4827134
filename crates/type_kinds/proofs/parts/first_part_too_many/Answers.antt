use Rattle.std.proofs.Common.{◌+◌, drop, get_or, ap, arith, ◌∙◌}
use Rattle.text_grammar.specs.declared.places.Place.TheVariants as places
use Rattle.text_events.specs.declared.event.Event.{Event}
use Rattle.text_types.specs.Items.{place_next}
use Rattle.type_kinds.specs.Begins.{begin_at}
use Rattle.type_kinds.specs.Sizes.{sizes_of}
use Rattle.type_kinds.specs.Parts.{parts_of, first_part}
use Rattle.type_kinds.proofs.PartLaws.{count_step}
use Rattle.type_kinds.proofs.parts.first_part_too_many.Goals as goal

-- the checker's own event where none stands
abbrev nothing : Event
nothing = record { place = places.OpName; name = 0 }

pub each-preserved : goal.each-preserved
each-preserved c =
    let e : Event = get_or c.args.events.now c.each.index nothing in
    record {
      decides = count_step (sizes_of c.each.tally) (sizes_of c.pass.new.self) c.each.total c.parts_of-parts.result c.args.events.now c.each.index nothing (first_part c.args.events.now)
          c.each-test.true c.each.invariant.decides
          (c.parts_of-parts.ensures ∙ ap (λ b. parts_of b c.size.result) (c.begin_at-begin.ensures ∙ ap (begin_at e.place c.each.tally.minus) c.next_place.ensures)
          ∙ ap (parts_of (begin_at e.place c.each.tally.minus (place_next (drop (c.each.index + 1) c.args.events.now)))) c.size.ensures)
          c.if-total-parts.false c.each.invariant.total c.in_ok-pass.ensures.moved;
      amount = let a = c.in_ok-pass.ensures.amount in let b = c.each.invariant.amount in omega arith;
      total = let a = c.each.invariant.total in let b = c.if-total-parts.false in omega arith;
    }
