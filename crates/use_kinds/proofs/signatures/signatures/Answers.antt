use Rattle.std.proofs.Common.{◌-◌, get_or, arith, ap, ◌∙◌, reverse}
use Rattle.std.proofs.lemmas.Grind.{common_steps}
use Rattle.text_grammar.specs.declared.places.Place.TheVariants as places
use Rattle.text_events.specs.declared.event.Event.{Event}
use Rattle.use_kinds.proofs.FlatLaws.{level_step, found_step}
use Rattle.use_kinds.proofs.signatures.signatures.Goals as goal

-- the checker's own event where none stands
abbrev nothing : Event
nothing = record { place = places.OpName; name = 0 }

pub each-preserved : goal.each-preserved
each-preserved c =
    let inv = c.each.invariant in
    let levels = level_step c.args.events.now c.each.index (c.each.index - 1) nothing (omega arith) inv.bound (λ n. get_or (reverse c.each.inner.items) n 0)
    (λ n. get_or (reverse c.pass_region.new.inner.items) n 0) _ inv.levels (grind (arith, common_steps)) c.in_ok-pass_region.ensures in
    record {
      bound = omega arith;
      levels = levels;
      found = found_step c.args.events.now c.each.index (c.each.index - 1) nothing (omega arith) inv.bound c.innermost.result (reverse c.each.found.items) (reverse c.push.new.self.items)
          (c.innermost.ensures ∙ ap (λ xs. get_or (reverse xs) 0 0) c.deref.ensures.value ∙ levels 0) inv.found (grind (arith, common_steps));
    }
