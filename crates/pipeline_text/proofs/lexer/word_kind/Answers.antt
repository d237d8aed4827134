-- A kind that has another text may be left out.
use Rattle.std.proofs.Common.{◌≡◌, ◌∙◌, sym, ap, ℕ, List, false, get_or}
use Rattle.std.specs.Str.{bytes_eq}
use Rattle.pipeline_text.specs.declared.token.Kind.TheVariants.{Module}
use Rattle.pipeline_text.specs.Words.{kind_text, words}
use Rattle.pipeline_text.proofs.Finds.{find_next}
use Rattle.pipeline_text.proofs.lexer.word_kind.Goals as goal

pub each-preserved : goal.each-preserved
each-preserved c =
    let other : bytes_eq (kind_text (get_or words c.each.kind-index Module)) c.args.word.now ≡ false =
    ap (λ (text : List ℕ). bytes_eq text c.args.word.now) (sym c.kind_text.ensures) ∙ sym c.eq.ensures ∙ c.if-eq.false in
    find_next (λ k. bytes_eq (kind_text k) c.args.word.now) words c.each.kind-index Module c.each-test.true other ∙ c.each.invariant
