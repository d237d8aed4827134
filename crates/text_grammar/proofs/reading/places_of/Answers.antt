use Rattle.std.proofs.Common.{rules, reverse, sym, ◌∙◌}
use Rattle.text_grammar.specs.Table.{generic}
use Rattle.text_grammar.proofs.ReadLemmas.{one_more, stops, all_read, nothing}
use Rattle.text_grammar.proofs.reading.places_of.Goals as goal

pub loop-word-preserved : goal.loop-word-preserved
loop-word-preserved c =
    one_more generic c.loop-word.places.items _ (reverse c.loop-word.stack.items) (reverse c.take.new.stack.items) c.args.words.now nothing c.loop-word.word-index
    c.in_ok-place.field-0 c.in-Some.place _ c.loop-word-test.true (search rules) (search rules) (search rules) c.loop-word.invariant

pub returns-in-None : goal.returns-in-None
returns-in-None c =
    let h = stops generic c.loop-word.places.items (reverse c.loop-word.stack.items) (reverse c.take.new.stack.items) c.args.words.now nothing c.loop-word.word-index
    c.in_ok-place.field-0 _ c.loop-word-test.true (search rules) (search rules) c.loop-word.invariant in
    record { taken = h.0; is = h.1 }

pub returns : goal.returns
returns c =
    let h = all_read generic c.loop-word.places.items (reverse c.loop-word.stack.items) c.args.words.now c.loop-word.word-index _ c.loop-word-test.false c.loop-word.invariant in
    record { taken = h.0; is = h.1 ∙ sym (search rules) }
