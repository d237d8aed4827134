use Rattle.std.proofs.Common.{rules, ◌<◌, ◌≤◌, get_or, length, arith}
use Rattle.text_grammar.specs.declared.places.Place.TheVariants as places
use Rattle.text_events.specs.declared.event.Event.{Event}
use Rattle.text_scopes.specs.declared.steps.Step.TheVariants as steps
use Rattle.text_scopes.specs.Seen.{turns}
use Rattle.text_scopes.specs.Sights.{read}
use Rattle.text_scopes.proofs.TurnLemmas.{length_turns, stands_next}
use Rattle.text_scopes.proofs.SightLemmas.{known, length_read, read_at, sees, sights_end, sights_on}
use Rattle.text_scopes.proofs.resolving.sights.Goals as goal

abbrev no_event : Event
no_event = record { place = places.OpName; name = 0 }

pub take-requires-clause-known : goal.take-requires-clause-known
take-requires-clause-known c =
    known c.args.steps.now c.args.events.now c.index_of-index.result c.name_count-names.result steps.Defines no_event c.step_at-step.result c.args.mirrored c.each.table
    c.index_of-index.ensures.bound c.name_count-names.ensures c.step_at-step.ensures (search rules)

pub each-preserved : goal.each-preserved
each-preserved c =
    let ss = c.args.steps.now in
    let es = c.args.events.now in
    let ts = read c.args.mirrored (turns ss es) in
    let i = c.each.passed in
    let at = c.index_of-index.result in
    let step = c.step_at-step.result in
    let e = get_or es at no_event in
    let inside : i < length ts = omega (arith, length_read c.args.mirrored (turns ss es), length_turns ss es c.requires.same) in
    let is = read_at c.args.mirrored ss es i at step steps.Defines no_event c.requires.same c.each-test.true c.index_of-index.ensures.is c.step_at-step.ensures in
    let within = known ss es at c.name_count-names.result steps.Defines no_event step c.args.mirrored c.each.table c.index_of-index.ensures.bound c.name_count-names.ensures c.step_at-step.ensures (search rules) in
    let found = sees c.args.outward ts i step e.name c.each.scopes c.each.table c.find.result within c.each.invariant.0 c.find.ensures in (
      stands_next c.args.outward ts i (steps.Defines, no_event) step e c.each.scopes c.take.new.scopes c.each.table c.take.new.table inside is c.in_ok-take.ensures c.each.invariant.0,
      sights_on c.args.outward ts i (steps.Defines, no_event) step e c.find.result c.each.seen.items c.tell.new.seen.items _ inside is found c.in_ok-tell.ensures c.each.invariant.1,
    )

pub returns : goal.returns
returns c =
    let ts = read c.args.mirrored (turns c.args.steps.now c.args.events.now) in
    let past : length ts ≤ c.each.passed = omega (arith, length_read c.args.mirrored (turns c.args.steps.now c.args.events.now), length_turns c.args.steps.now c.args.events.now c.requires.same) in
    sights_end c.args.outward ts c.each.passed c.each.seen.items _ past c.each.invariant.1
