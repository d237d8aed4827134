use Rattle.std.proofs.Common.{◌+◌, get_or, arith, ap, ◌∙◌}
use Rattle.text_grammar.specs.declared.places.Place.TheVariants as places
use Rattle.text_events.specs.declared.event.Event.{Event}
use Rattle.std.proofs.lemmas.List.{take_rest}
use Rattle.text_types.specs.Aliases.{after, aliases_from}
use Rattle.text_types.proofs.StackLaws.{grows_refl, grows_on}
use Rattle.text_types.proofs.AliasLaws.{none_aliases, one_more}
use Rattle.text_types.specs.Stack.{alias_terms}
use Rattle.text_types.proofs.aliases.aliases_at.Goals as goal

-- the checker's own event where none stands
abbrev nothing : Event
nothing = record { place = places.OpName; name = 0 }

pub each-init : goal.each-init
each-init g c = record {
  grows = grows_refl c.args.terms.now.nodes.keys;
  within = λ name. let none = c.new-aliases.ensures name in omega arith;
  decides = ap (λ f. aliases_from (g.S.Spelled.spelling c.args.words.now) f c.args.events.now) (none_aliases c.args.terms.now.nodes.keys c.new-aliases.result c.new-aliases.ensures);
}

pub each-preserved : goal.each-preserved
each-preserved g c =
    let words = g.S.Spelled.spelling c.args.words.now in
    let behind = take_rest c.args.events.now (c.each.index + 1) in
    record {
      grows = grows_on c.args.terms.now.nodes.keys c.each.terms.nodes.keys c.define.new.terms.nodes.keys c.each.invariant.grows c.define.ensures.grows;
      within = c.in_ok-define.ensures.within;
      decides = one_more words (alias_terms c.each.terms.nodes.keys c.each.aliases) (alias_terms c.define.new.terms.nodes.keys c.define.new.aliases) _ c.args.events.now c.each.index nothing
          c.each-test.true c.each.invariant.decides (c.in_ok-define.ensures.aliases ∙ ap (after words (alias_terms c.each.terms.nodes.keys c.each.aliases) (get_or c.args.events.now c.each.index nothing)) behind);
    }
