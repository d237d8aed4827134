-- The last token stands at the place before the end.
use Rattle.std.proofs.Common.{◌∙◌, sym, ap, Some}
use Rattle.pipeline_text.specs.declared.token.Token.{Token}
use Rattle.pipeline_text.proofs.Places.{last_get}
use Rattle.pipeline_text.proofs.reading.last_kind.Goals as goal

pub returns-in-Some : goal.returns-in-Some
returns-in-Some c = ap (λ (t : Token). Some t.kind) c.in-Some.ensures.item.1
    ∙ sym (last_get c.args.tokens.now c.in-Some.token.now c.in-Some.ensures.item.3.0)
