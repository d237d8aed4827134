use Rattle.std.proofs.Common.{ap, ◌∙◌}
use Rattle.row_code.specs.Infos.{texts}
use Rattle.pass_targets.specs.Known.{others}
use Rattle.pass_targets.proofs.TargetLaws.{partial_is}
use Rattle.pass_targets.proofs.build.partial.Goals as goal

pub returns : goal.returns
returns c = partial_is c.new.result (texts c.args.illegal.now) (texts c.args.dynamic.now) c.requires
    (ap (λ n. n.always) c.new.ensures.names ∙ c.in_ok-always.ensures ∙ ap (others (texts c.args.illegal.now) (texts c.args.dynamic.now)) c.all.ensures)
    (ap (λ n. n.dynamic) c.new.ensures.names ∙ c.in_ok-dynamic.ensures)
    (c.new.ensures.rules ∙ c.in_ok-rules.ensures)
    (c.new.ensures.illegal ∙ c.in_ok-illegal.ensures)
