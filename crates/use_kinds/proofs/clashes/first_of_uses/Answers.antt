use Rattle.std.proofs.Common.{sym, ◌∙◌, ap, arith}
use Rattle.text_grammar.specs.declared.places.Place.TheVariants as places
use Rattle.text_events.specs.declared.event.Event.{Event}
use Rattle.text_kinds.specs.Kinds.{sooner}
use Rattle.use_kinds.specs.Clashes.{clash_at}
use Rattle.use_kinds.proofs.ClashLaws.{use_step, other_step}
use Rattle.use_kinds.proofs.clashes.first_of_uses.Goals as goal
use Rattle.use_kinds.proofs.clashes.first_of_uses.Goals.{then-is_use, else-is_use}

-- the checker's own event where none stands
abbrev nothing : Event
nothing = record { place = places.OpName; name = 0 }

pub each-preserved : goal.each-preserved
each-preserved g c =
    let words = g.S.Spelled.spelling c.args.words.now in
    let indexes = g.S.Indexed.indexes c.args.words.now in
    let es = c.args.said.events.now in
    elim c.if-is_use.branch [
      | then-is_use w ↦ record {
        bound = omega arith;
        left = λ aliases says.
            rw (w.first-is, w.next-is) (use_step (clash_at words indexes aliases es) es c.args.definitions.now c.each.index c.each.next nothing c.each.first _ c.each-test.true (c.each.invariant.left aliases says)
            w.sooner-first.result (sym c.is_use.ensures ∙ w.if-is_use.true)
            (w.sooner-first.ensures ∙ ap (sooner c.each.first) (w.clash_at-clash.ensures aliases says ∙ ap (clash_at words indexes aliases es c.each.index) w.next_of.ensures)));
      }
      | else-is_use w ↦ record {
        bound = omega arith;
        left = λ aliases says.
            rw (w.first-is, w.next-is) (other_step (clash_at words indexes aliases es) es c.args.definitions.now c.each.index c.each.next nothing c.each.first _ c.each-test.true (c.each.invariant.left aliases says)
            (sym c.is_use.ensures ∙ w.if-is_use.false));
      }
    ]
