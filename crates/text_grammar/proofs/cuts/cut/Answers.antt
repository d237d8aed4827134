use Rattle.std.proofs.Common.{rules, arith, length-drop}
use Rattle.text_grammar.proofs.WordLemmas.{no_words, next_word, all_words, words_to}
use Rattle.text_grammar.proofs.cuts.cut.Goals as goal

pub each-init : goal.each-init
each-init c = record { so_far = rw c.new-words.ensures.items (no_words c.args.text.now); within = omega arith }

pub each-preserved : goal.each-preserved
each-preserved c =
    let first = rw c.in-Ok-Some.field-0-is at c.in-Ok-Some.ensures in record {
      so_far = rw c.mode_behind-mode.ensures
          (next_word c.args.text.now c.behind-rest.result.now c.each.words.items c.push.new.self.items c.each.mode c.each.at c.word_at-word.result c.each.invariant.so_far
          c.behind-rest.ensures (record { token = c.in-Ok-Some.token; behind = first.0; begins = first.1; is = c.word_at-word.ensures.is })
          (omega (arith, c.word_at-word.ensures.more)) (search rules));
      within = grind (arith, length-drop, c.word_at-word.ensures.bound, c.each.invariant.within, c.behind-rest.ensures);
    }

pub returns-in-Ok-None : goal.returns-in-Ok-None
returns-in-Ok-None c =
    all_words c.args.text.now c.behind-rest.result.now c.each.words.items c.each.mode c.each.at c.each.invariant.so_far c.behind-rest.ensures (rw c.in-Ok-None.field-0-is at c.in-Ok-None.ensures)

pub returns-in-Err : goal.returns-in-Err
returns-in-Err c =
    words_to c.args.text.now c.behind-rest.result.now c.each.words.items c.each.mode c.each.at _ c.in-Err.fault c.each.invariant.so_far c.behind-rest.ensures c.in-Err.ensures.0 (search rules)
