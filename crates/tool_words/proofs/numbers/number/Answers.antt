use Rattle.std.proofs.Common.{rules, ◌≡◌, ◌∙◌, true, None}
use Rattle.std.specs.Result.{result_ok}
use Rattle.tool_words.specs.Numbers.{is_digits}
use Rattle.tool_words.proofs.Parse.{number_unread}
use Rattle.tool_words.proofs.numbers.number.Goals as goal

pub returns-in_err-number : goal.returns-in_err-number
returns-in_err-number c =
    let d : is_digits c.args.text.now ≡ true = search rules in
    let none : result_ok c.parse.result ≡ None = search rules in
    let empty : c.from_residual.result ≡ None = search rules in
    empty ∙ number_unread c.args.least c.args.most c.args.text.now c.parse.result none c.parse.ensures.value.0 d c.ranges.most.fits
