use Rattle.std.proofs.Common.{ℕ, ◌≤◌, get_or, length, ap, subst, sym, ◌∙◌, reverse}
use Rattle.std.specs.Prelude.{◌&&◌}
use Rattle.text_grammar.specs.declared.places.Place.TheVariants as places
use Rattle.text_events.specs.declared.event.Event.{Event}
use Rattle.term_table.specs.Terms.{term_at}
use Rattle.type_kinds.specs.Counts.{is_signature, is_wrong, first_miscount}
use Rattle.type_kinds.proofs.CountLaws.{number_within, miscount_step, miscount_found}
use Rattle.type_kinds.proofs.type_count.first_type_count.Goals as goal

-- the checker's own event where none stands
abbrev nothing : Event
nothing = record { place = places.OpName; name = 0 }

pub miscounts-requires : goal.miscounts-requires
miscounts-requires g c =
    let P : ℕ → Type 0 = λ n. n ≤ length c.args.terms.now.nodes.keys in
    subst P (sym c.number_at.ensures.is) (number_within (length c.args.terms.now.nodes.keys) c.args.numbers.now c.each.index c.requires)

pub returns-then-miscounts : goal.returns-then-miscounts
returns-then-miscounts g c = λ aliases stands.
    let words = g.S.Spelled.spelling c.args.words.now in
    let nodes = c.args.terms.now.nodes.keys in
    let e : Event = get_or c.args.events.now c.each.index nothing in
    miscount_found words aliases nodes c.args.numbers.now c.args.events.now c.each.index nothing c.each.now (reverse c.each.outer.items) c.miscounts.result c.each-test.true stands
    (c.miscounts.ensures ∙ ap (λ n. is_signature e.place && is_wrong c.each.now (term_at nodes n)) c.number_at.ensures.is)
    (first_miscount words aliases c.args.events.now) (c.each.invariant aliases stands) c.if-miscounts.true

pub each-preserved : goal.each-preserved
each-preserved g c = λ aliases stands.
    let words = g.S.Spelled.spelling c.args.words.now in
    let nodes = c.args.terms.now.nodes.keys in
    let e : Event = get_or c.args.events.now c.each.index nothing in
    miscount_step words aliases nodes c.args.numbers.now c.args.events.now c.each.index nothing c.each.now (reverse c.each.outer.items) c.miscounts.result c.each-test.true stands
    (c.miscounts.ensures ∙ ap (λ n. is_signature e.place && is_wrong c.each.now (term_at nodes n)) c.number_at.ensures.is)
    (first_miscount words aliases c.args.events.now) c.pass_counts.new.now (reverse c.pass_counts.new.outer.items) (c.each.invariant aliases stands) c.if-miscounts.false c.in_ok-pass_counts.ensures
