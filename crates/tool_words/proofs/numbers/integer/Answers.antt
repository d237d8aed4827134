use Rattle.std.proofs.Common.{rules, ◌≡◌, ◌∙◌, true}
use Rattle.tool_words.proofs.Parse.{integer_parsed}
use Rattle.tool_words.specs.Numbers.{digits_of, is_digits}
use Rattle.tool_words.proofs.numbers.integer.Goals as goal

pub returns : goal.returns
returns c =
    let d : is_digits (digits_of c.args.text.now) ≡ true = search rules in
    c.ok.ensures.value ∙ integer_parsed c.args.text.now c.parse.result c.parse.ensures.value.0 d
