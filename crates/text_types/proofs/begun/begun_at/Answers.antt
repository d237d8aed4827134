use Rattle.std.proofs.Common.{ℕ, ◌-◌, List, arith, sym, ◌∙◌, ap, subst, map, reverse}
use Rattle.std.proofs.lemmas.Grind.{common_steps}
use Rattle.text_grammar.specs.declared.places.Place.TheVariants as places
use Rattle.text_events.specs.declared.event.Event.{Event}
use Rattle.term_table.specs.Terms.{term_at}
use Rattle.text_types.specs.Items.{first_of}
use Rattle.text_types.specs.Stack.{Within}
use Rattle.text_types.proofs.StackLaws.{grows_on}
use Rattle.text_types.proofs.BegunLaws.{next_step, items_step, begun_step}
use Rattle.text_types.proofs.begun.begun_at.Goals as goal

-- the checker's own event where none stands
abbrev nothing : Event
nothing = record { place = places.OpName; name = 0 }

pub each-preserved : goal.each-preserved
each-preserved g c =
    let inv = c.each.invariant in
    let old = c.args.terms.now.nodes.keys in
    let mid = c.each.terms.nodes.keys in
    let new = c.pass.new.terms.nodes.keys in
    let words = g.S.Spelled.spelling c.args.words.now in
    let stack = items_step words old mid new c.args.aliases.now c.args.events.now c.each.index (c.each.index - 1) nothing (omega arith) inv.bound inv.grows c.requires c.each.next
    (reverse c.each.stack.items) (reverse c.pass.new.stack.items) inv.next inv.stack c.in_ok-pass.ensures.stands in
    record {
      bound = omega arith;
      grows = grows_on old mid new inv.grows c.pass.ensures.grows;
      next = next_step words old mid new c.args.aliases.now c.args.events.now c.each.index (c.each.index - 1) nothing (omega arith) inv.bound inv.grows c.requires;
      stack = stack;
      numbers = begun_step words old mid new c.args.aliases.now c.args.events.now c.each.index (c.each.index - 1) nothing (omega arith) inv.bound inv.grows c.requires c.top.result
          (reverse c.pass.new.stack.items) (reverse c.each.numbers.items) (reverse c.push.new.self.items) c.pass.ensures.grows stack inv.numbers (grind (arith, common_steps))
          (λ last w. c.top.ensures.within last (let P : List ℕ → Type 0 = λ xs. Within last (reverse xs) in subst P (sym c.deref.ensures.value) w))
          (λ nodes. c.top.ensures.is nodes ∙ ap (λ xs. first_of (map (term_at nodes) (reverse xs))) c.deref.ensures.value);
    }
