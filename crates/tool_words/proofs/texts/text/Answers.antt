use Rattle.std.proofs.Common.{rules, ◌≡◌, ◌∙◌, ap, false}
use Rattle.std.specs.Prelude.{option_map}
use Rattle.tool_words.specs.Words.{is_short}
use Rattle.tool_words.proofs.Utf.{text_is}
use Rattle.tool_words.proofs.texts.text.Goals as goal

pub returns : goal.returns
returns c =
    let plain : is_short c.args.word.now ≡ false = search rules in
    ap (option_map (λ s. s.now)) c.ok.ensures.value ∙ text_is _ c.args.word.now c.from_utf8.result c.from_utf8.ensures.cases plain
