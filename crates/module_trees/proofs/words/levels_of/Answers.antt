use Rattle.std.proofs.Common.{◌≡◌, ◌∷◌, [], ◌-◌, reverse, get_or, arith, ap, sym, ◌∙◌}
use Rattle.std.proofs.lemmas.Grind.{common_steps}
use Rattle.text_grammar.specs.declared.places.Place.TheVariants as places
use Rattle.text_events.specs.declared.event.Event.{Event}
use Rattle.event_trees.specs.Levels.{levels_of, with_word}
use Rattle.event_trees.specs.Wording.{wording_of}
use Rattle.module_trees.specs.Views.{role_of}
use Rattle.module_trees.proofs.StepLaws.{none_behind, put_within, roles_step, within_at}
use Rattle.module_trees.proofs.words.levels_of.Goals as goal

-- the checker's own event where none stands
abbrev nothing : Event
nothing = record { place = places.OpName; name = 0 }

pub each-init : goal.each-init
each-init c =
    let put : reverse c.push.new.self.items ≡ c.empty.result ∷ [] = grind (arith, common_steps) in
    record {
      bound = omega arith;
      is = none_behind c.args.terms.now.nodes.keys (wording_of c.args.source.now.text.now c.args.source.now.words.now) c.args.events.now _ _ (reverse c.push.new.self.items) c.empty.result put
          (c.empty.ensures.is c.args.terms.now.nodes.keys);
      within = put_within _ [] (reverse c.push.new.self.items) c.empty.result tt (c.empty.ensures.within _) put;
    }

pub with_word-requires-clause-term : goal.with_word-requires-clause-term
with_word-requires-clause-term c = within_at _ c.args.begun.now (c.each.index - 1) c.requires.within (omega arith)

pub each-preserved : goal.each-preserved
each-preserved c =
    let nodes = c.args.terms.now.nodes.keys in
    let words = wording_of c.args.source.now.text.now c.args.source.now.words.now in
    let e = get_or c.args.events.now (c.each.index - 1) nothing in
    record {
      bound = omega arith;
      is = c.in_ok-with_word.ensures.is
          ∙ ap (with_word words (role_of nodes (record { place = e.place; name = e.name; number = get_or c.args.meant.now (c.each.index - 1) 0; term = get_or c.args.begun.now (c.each.index - 1) 0 }))) c.each.invariant.is
          ∙ sym (ap (levels_of words) (roles_step nodes c.args.events.now c.args.meant.now c.args.begun.now nothing c.each.index (c.each.index - 1) (omega arith) c.each.invariant.bound c.requires.meant c.requires.begun));
      within = c.in_ok-with_word.ensures.within;
    }
