use Rattle.std.proofs.Common.{length, get_or, refl, ◌∙◌, ◌+◌, ap, arith}
use Rattle.std.proofs.lemmas.List.{take_rest}
use Rattle.text_grammar.specs.declared.places.Place.TheVariants as places
use Rattle.text_events.specs.declared.event.Event.{Event}
use Rattle.term_table.specs.Terms.{term_at}
use Rattle.use_kinds.specs.Written.{count_of, types_at}
use Rattle.use_kinds.specs.Flat.{rows_types, waits}
use Rattle.use_kinds.proofs.TypeLaws.{no_items, no_rows, types_init, within_step, items_step, rows_step, types_step}
use Rattle.use_kinds.proofs.types.types_of.Goals as goal

-- the checker's own event where none stands
abbrev nothing : Event
nothing = record { place = places.OpName; name = 0 }

pub each-init : goal.each-init
each-init g c = record {
  cursor = (omega arith, tt);
  items = no_items (length c.args.terms.now.nodes.keys) c.new-items.result.items c.new-items.ensures.items;
  rows = no_rows (length c.new-items.result.items) c.in_ok-rows.rows.items c.in_ok-rows.ensures.items;
  types = λ aliases stands. types_init (g.S.Spelled.spelling c.args.words.now) aliases c.args.terms.now.nodes.keys c.args.events.now c.new-items.result.items c.in_ok-rows.rows.items c.in_ok-rows.ensures.items;
}

pub take_named-requires-clause-function : goal.take_named-requires-clause-function
take_named-requires-clause-function g c = c.function_number-function.ensures.within (length c.args.terms.now.nodes.keys) c.requires.numbers

pub take_named-requires-clause-argument : goal.take_named-requires-clause-argument
take_named-requires-clause-argument g c = c.number_at-argument.ensures.within (length c.args.terms.now.nodes.keys) c.requires.numbers

pub each-preserved : goal.each-preserved
each-preserved g c =
    let words = g.S.Spelled.spelling c.args.words.now in
    let nodes = c.args.terms.now.nodes.keys in
    let inv = c.each.invariant in
    let e : Event = get_or c.args.events.now c.each.index nothing in
    let function = c.function_number-function.result in
    let argument = c.number_at-argument.result in
    let start = c.in_ok-row_between.ensures.start ∙ c.len-start.ensures ∙ c.each.items.ok.0 in
    let end = c.in_ok-row_between.ensures.end ∙ c.len.ensures ∙ c.take_named.new.items.ok.0 in
    let count = c.count_of-count.ensures ∙ ap (count_of words) (take_rest c.args.events.now (c.each.index + 1)) in
    let types = types_at (waits nodes c.each.cursor) e.place c.count_of-count.result (term_at nodes function) (term_at nodes argument) in
    record {
      cursor = c.in_ok-cursor.ensures.within;
      items = items_step nodes c.each.items.items c.take_named.new.items.items types c.in_ok-cursor.ensures.added inv.items;
      rows = within_step nodes c.each.items.items c.take_named.new.items.items types c.each.rows.items c.push.new.self.items c.in_ok-row_between.field-0 c.in_ok-cursor.ensures.added inv.rows
          end c.in_ok-push.ensures.items;
      types = λ aliases stands.
          types_step words aliases nodes c.args.numbers.now c.args.signatures.now c.args.events.now c.each.index nothing c.each-test.true stands.is c.requires.signatures (waits nodes c.each.cursor)
          (waits nodes c.in_ok-cursor.cursor) c.count_of-count.result function argument types (rows_types nodes c.each.items.items c.each.rows.items)
          (rows_types nodes c.take_named.new.items.items c.push.new.self.items) _ c.function_number-function.ensures.is c.number_at-argument.ensures.is count refl
          c.in_ok-cursor.ensures.left
          (rows_step nodes c.each.items.items c.take_named.new.items.items types c.each.rows.items c.push.new.self.items c.in_ok-row_between.field-0 c.in_ok-cursor.ensures.added inv.rows
          start end c.in_ok-push.ensures.items)
          (inv.types aliases stands);
    }
