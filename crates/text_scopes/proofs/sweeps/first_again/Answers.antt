use Rattle.std.proofs.Common.{rules, ◌<◌, length, sym, ◌∙◌, arith}
use Rattle.text_grammar.specs.declared.places.Place.TheVariants as places
use Rattle.text_events.specs.declared.event.Event.{Event}
use Rattle.text_events.proofs.FirstLemmas.{found, nowhere}
use Rattle.text_scopes.specs.declared.steps.Step.TheVariants as steps
use Rattle.text_scopes.specs.Seen.{again, passed, turns}
use Rattle.text_scopes.proofs.TurnLemmas.{looks_on, length_turns, stands_on, tested}
use Rattle.text_scopes.proofs.sweeps.first_again.Goals as goal

abbrev no_event : Event
no_event = record { place = places.OpName; name = 0 }

pub returns-then-is_again : goal.returns-then-is_again
returns-then-is_again c =
    let within : c.each.index < length c.args.events.now = c.each-test.true in
    let inside : c.each.index < length (turns c.args.steps.now c.args.events.now) = omega (arith, length_turns c.args.steps.now c.args.events.now c.requires.same) in
    let is = tested c.args.outward c.args.steps.now c.args.events.now c.each.index steps.Defines no_event c.is_again.result c.find-found.result c.each.scopes c.each.table c.name_count-names.result
    c.requires.same within c.name_count-names.ensures (search rules) c.each.invariant.0 c.find-found.ensures c.is_again.ensures in
    sym (found passed (again c.args.outward) _ (turns c.args.steps.now c.args.events.now) c.each.index (steps.Defines, no_event) inside (is ∙ c.if-is_again.true)) ∙ c.each.invariant.1

pub each-preserved : goal.each-preserved
each-preserved c =
    let within : c.each.index < length c.args.events.now = c.each-test.true in
    let inside : c.each.index < length (turns c.args.steps.now c.args.events.now) = omega (arith, length_turns c.args.steps.now c.args.events.now c.requires.same) in
    let is = tested c.args.outward c.args.steps.now c.args.events.now c.each.index steps.Defines no_event c.is_again.result c.find-found.result c.each.scopes c.each.table c.name_count-names.result
    c.requires.same within c.name_count-names.ensures (search rules) c.each.invariant.0 c.find-found.ensures c.is_again.ensures in (
      stands_on c.args.outward c.args.steps.now c.args.events.now c.each.index steps.Defines no_event c.each.scopes c.take.new.scopes c.each.table c.take.new.table c.requires.same within
          c.in_ok-take.ensures c.each.invariant.0,
      looks_on c.args.outward (turns c.args.steps.now c.args.events.now) c.each.index (steps.Defines, no_event) _ inside (is ∙ c.if-is_again.false) c.each.invariant.1,
    )

pub returns : goal.returns
returns c =
    let e = length_turns c.args.steps.now c.args.events.now c.requires.same in
    sym (nowhere passed (again c.args.outward) _ (turns c.args.steps.now c.args.events.now) c.each.index (omega arith)) ∙ c.each.invariant.1
