use Rattle.std.proofs.Common.{◌≡◌, ◌+◌, vec_len, length, drop, get_or, ap, sym, ◌∙◌, reverse, rules}
use Rattle.std.proofs.lemmas.List.{length-reverse}
use Rattle.text_grammar.specs.declared.places.Place.TheVariants as places
use Rattle.text_events.specs.declared.event.Event.{Event}
use Rattle.text_types.specs.Items.{place_next}
use Rattle.type_kinds.specs.Begins.{begin_at}
use Rattle.type_kinds.specs.Sizes.{sizes_of, moved}
use Rattle.type_kinds.specs.Depths.{type_depth, first_deep_type}
use Rattle.type_kinds.proofs.DepthLaws.{type_step}
use Rattle.type_kinds.proofs.type_depth.first_type_too_deep.Goals as goal

-- the checker's own event where none stands
abbrev nothing : Event
nothing = record { place = places.OpName; name = 0 }

pub each-preserved : goal.each-preserved
each-preserved c =
    let e : Event = get_or c.args.events.now c.each.index nothing in
    type_step (sizes_of c.each.tally) (sizes_of c.pass.new.self) (reverse c.each.outer.items) (reverse c.pass_open.new.outer.items) c.type_depth-depth.result c.args.events.now c.each.index nothing
    (first_deep_type c.args.events.now) c.each-test.true c.each.invariant
    (c.type_depth-depth.ensures ∙ ap (λ b. type_depth b c.len.result c.size.result) (c.begin_at-begin.ensures ∙ ap (begin_at e.place c.each.tally.minus) c.next_place.ensures)
    ∙ ap (λ n. type_depth (begin_at e.place c.each.tally.minus (place_next (drop (c.each.index + 1) c.args.events.now))) n c.size.result) (let long : vec_len c.each.outer ≡ length c.each.outer.items = search rules in c.len.ensures ∙ long ∙ sym (length-reverse c.each.outer.items))
    ∙ ap (type_depth (begin_at e.place c.each.tally.minus (place_next (drop (c.each.index + 1) c.args.events.now))) (length (reverse c.each.outer.items))) c.size.ensures)
    c.if-depth-gt-MOST_DEPTH.false (c.in_ok-pass.ensures.moved ∙ ap (moved (sizes_of c.each.tally) e) (search rules)) c.in_ok-pass_open.ensures
