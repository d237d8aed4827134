use Rattle.std.proofs.Common.{subst, sym}
use Rattle.value_code.specs.Models.{value_of}
use Rattle.call_code.specs.Lists.{Spreads}
use Rattle.call_code.proofs.CallLaws.{by_fields, if_ok}
use Rattle.call_code.proofs.spreads.put_argument.Goals as goal

pub returns-in-Some : goal.returns-in-Some
returns-in-Some c =
    if_ok c.put_fields.result
    (λ done put. subst (λ s. Spreads done c.args.all.now c.put_fields.new.all s (value_of c.args.v.now)) (sym c.in-Some.is)
    (by_fields done c.args.all.now c.put_fields.new.all c.in-Some.rank (value_of c.args.v.now) put))
    c.put_fields.ensures
