use Rattle.plain_tree.specs.Types.{plain_type}
use Rattle.choice_code.proofs.CastLaws.{changed_is}
use Rattle.choice_code.proofs.casts.changed_type.Goals as goal

pub returns-then-converted : goal.returns-then-converted
returns-then-converted c = changed_is c.args.bits c.args.converted (plain_type c.args.t.now) c.in_ok-changed.changed c.if-converted.true c.in_ok-changed.ensures
