use Rattle.std.proofs.Common.{◌+◌, ap, ◌∙◌}
use Rattle.std.proofs.lemmas.List.{take_rest}
use Rattle.text_grammar.specs.declared.places.Place.TheVariants as places
use Rattle.text_events.specs.declared.event.Event.{Event}
use Rattle.text_types.specs.Stack.{alias_terms}
use Rattle.type_kinds.specs.Ranges.{number_width, first_out}
use Rattle.type_kinds.proofs.RangeLaws.{range_step}
use Rattle.type_kinds.proofs.ranges.first_out_of_range.Goals as goal

-- the checker's own event where none stands
abbrev nothing : Event
nothing = record { place = places.OpName; name = 0 }

pub each-preserved : goal.each-preserved
each-preserved g c =
    let words = g.S.Spelled.spelling c.args.words.now in
    let aliases = alias_terms c.args.terms.now.nodes.keys c.args.aliases.now in
    record {
      decides = range_step words aliases c.each.width c.listed_width-width.result c.each.minus c.is_minus-minus.result c.is_out.result c.number_width-typed.result c.args.events.now c.each.index nothing
          (first_out words aliases c.args.events.now) c.each-test.true c.each.invariant.decides c.is_out.ensures c.if-is_out.false
          (c.number_width-typed.ensures.is ∙ ap (number_width words aliases) (take_rest c.args.events.now (c.each.index + 1))) c.listed_width-width.ensures.is c.is_minus-minus.ensures;
      narrow = c.listed_width-width.ensures.narrow;
    }
