use Rattle.std.proofs.Common.{rules, sym, ◌∙◌}
use Rattle.text_events.proofs.LookLemmas.{no_words, no_names, ends_here, goes_on}
use Rattle.text_events.proofs.look.first_refusal.Goals as goal

pub returns-then-words-index : goal.returns-then-words-index
returns-then-words-index c =
    let h = c.each.invariant in
    sym (no_words c.each.index (record { sizes = c.each.sizes; aliases = h.0 }) c.args.places.now c.args.words.now c.args.names.now c.if-words-index.true) ∙ h.2

pub returns-then-names-index : goal.returns-then-names-index
returns-then-names-index c =
    let h = c.each.invariant in
    sym (no_names c.each.index (record { sizes = c.each.sizes; aliases = h.0 }) c.args.places.now c.args.words.now c.args.names.now c.if-names-index.true) ∙ h.2

pub returns-in-Some : goal.returns-in-Some
returns-in-Some c =
    let h = c.each.invariant in
    sym (ends_here c.each.index (record { sizes = c.each.sizes; aliases = h.0 }) c.args.places.now c.args.words.now c.args.names.now _ _ _ c.in-Some.kind c.each-test.true
    (search rules) (search rules) (sym (c.ends_at.ensures h.0 h.1) ∙ c.in-Some.is)) ∙ h.2

pub each-preserved : goal.each-preserved
each-preserved c =
    let h = c.each.invariant in (
      _,
      c.in_ok-step.ensures h.0 h.1,
      rw c.sizes_behind-sizes.ensures (sym (goes_on c.each.index (record { sizes = c.each.sizes; aliases = h.0 }) c.args.places.now c.args.words.now c.args.names.now _ _ _ c.each-test.true
          (search rules) (search rules) (sym (c.ends_at.ensures h.0 h.1) ∙ c.in_default.is)) ∙ h.2),
    )
