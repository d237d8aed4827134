use Rattle.std.proofs.Common.{rules, ◌≡◌, ◌∙◌, ap₂, codes, false}
use Rattle.std.proofs.lemmas.Result.{IfOk-weaker}
use Rattle.clap.specs.Simple.{with_rule}
use Rattle.clap.specs.Words.{app_of, rule_of}
use Rattle.tool_words.specs.Parsed.{app, flag_rule, option_rule, plain_app}
use Rattle.tool_words.proofs.command.command.Goals as goal

pub returns : goal.returns
returns c =
    let start : app_of c.disable_version_flag.result ≡ plain_app = search rules in
    let pipeline : rule_of c.option.result ≡ option_rule (codes "pass-pipeline") = c.option.ensures.rule in
    let workers : rule_of c.option-2.result ≡ option_rule (codes "workers") = c.option-2.ensures.rule in
    let flag_is : rule_of c.action-flag.result ≡ flag_rule = search rules in
    let local : c.action-flag.result.global ≡ false = search rules in
    let run : rule_of c.option-3.result ≡ option_rule (codes "run") = c.option-3.ensures.rule in
    let args : rule_of c.option-4.result ≡ option_rule (codes "args") = c.option-4.ensures.rule in
    let fuel : rule_of c.option-5.result ≡ option_rule (codes "fuel") = c.option-5.ensures.rule in
    let one = c.in_ok-arg.ensures.shape c.option.ensures.global ∙ ap₂ with_rule start pipeline in
    let two = c.in_ok-arg-2.ensures.shape c.option-2.ensures.global ∙ ap₂ with_rule one workers in
    let three = c.in_ok-arg-3.ensures.shape local ∙ ap₂ with_rule two flag_is in
    let four = c.in_ok-arg-4.ensures.shape c.option-3.ensures.global ∙ ap₂ with_rule three run in
    let five = c.in_ok-arg-5.ensures.shape c.option-4.ensures.global ∙ ap₂ with_rule four args in
    IfOk-weaker c.arg-6.result _ (λ d. app_of d ≡ app) (λ d h. h.shape c.option-5.ensures.global ∙ ap₂ with_rule five fuel) c.arg-6.ensures
