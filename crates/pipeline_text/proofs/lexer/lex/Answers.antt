-- Each byte makes the open word longer, or ends it.
use Rattle.std.proofs.Common.{◌∙◌, sym}
use Rattle.pipeline_text.proofs.Cuts.{none_cut, cut_more, cut_past}
use Rattle.pipeline_text.proofs.lexer.lex.Goals as goal
use Rattle.pipeline_text.proofs.lexer.lex.Goals.{then-not-is_in_word+in_ok-add_byte, else-not-is_in_word}

pub each-init : goal.each-init
each-init c = rw c.new-tokens.ensures (none_cut c.args.text.now)

pub each-preserved : goal.each-preserved
each-preserved c = elim c.if-not-is_in_word.branch [
  | then-not-is_in_word+in_ok-add_byte w ↦ rw (w.tokens-is, w.start-is)
      (cut_past c.each.invariant c.each-test.true (sym c.is_in_word.ensures ∙ w.if-not-is_in_word.true) w.add_byte.new.tokens w.in_ok-add_byte.ensures)
  | else-not-is_in_word w ↦ rw (w.tokens-is, w.start-is) (cut_more c.each.invariant c.each-test.true (sym c.is_in_word.ensures ∙ w.if-not-is_in_word.false))
]
