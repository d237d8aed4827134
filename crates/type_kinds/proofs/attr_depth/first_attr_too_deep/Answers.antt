use Rattle.std.proofs.Common.{◌+◌, drop, get_or, ap, arith, ◌∙◌, rules}
use Rattle.text_grammar.specs.declared.places.Place.TheVariants as places
use Rattle.text_events.specs.declared.event.Event.{Event}
use Rattle.text_types.specs.Items.{place_next}
use Rattle.type_kinds.specs.Begins.{begin_at}
use Rattle.type_kinds.specs.Sizes.{sizes_of, moved}
use Rattle.type_kinds.specs.Depths.{attr_depth, first_deep_attr}
use Rattle.type_kinds.proofs.DepthLaws.{attr_step}
use Rattle.type_kinds.proofs.attr_depth.first_attr_too_deep.Goals as goal

-- the checker's own event where none stands
abbrev nothing : Event
nothing = record { place = places.OpName; name = 0 }

pub each-preserved : goal.each-preserved
each-preserved c =
    let e : Event = get_or c.args.events.now c.each.index nothing in
    record {
      decides = attr_step (sizes_of c.each.tally) (sizes_of c.pass.new.self) c.each.outer c.lists_behind-outer.result c.attr_depth-depth.result c.args.events.now c.each.index nothing
          (first_deep_attr c.args.events.now) c.each-test.true c.each.invariant.decides
          (c.attr_depth-depth.ensures ∙ ap (λ b. attr_depth b c.each.outer c.size.result) (c.begin_at-begin.ensures ∙ ap (begin_at e.place c.each.tally.minus) c.next_place.ensures)
          ∙ ap (attr_depth (begin_at e.place c.each.tally.minus (place_next (drop (c.each.index + 1) c.args.events.now))) c.each.outer) c.size.ensures)
          c.if-depth-gt-MOST_DEPTH.false (c.in_ok-pass.ensures.moved ∙ ap (moved (sizes_of c.each.tally) e) (search rules)) c.lists_behind-outer.ensures.is;
      bound = let a = c.lists_behind-outer.ensures.within in let b = c.each.invariant.bound in omega arith;
    }
