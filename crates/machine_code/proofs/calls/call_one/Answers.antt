use Rattle.std.proofs.Common.{sym, subst, true≢false, ◌∙◌}
use Rattle.value_code.specs.Models.{values_of}
use Rattle.run_code.specs.Views.{function_of, packing_of}
use Rattle.machine_code.specs.Machines.{Advances}
use Rattle.machine_code.proofs.RunLaws.{one_outside, one_inside}
use Rattle.machine_code.proofs.calls.call_one.Goals as goal

pub returns-in_ok-call_external : goal.returns-in_ok-call_external
returns-in_ok-call_external g c = λ next p cs w r.
    subst (Advances g.M.Memory.Stands c.in_ok-call_external.field-0 c.call_external.new.machine c.args.memory.now next)
    (one_outside g.M.Memory.ask next c.args.f.now (values_of c.args.xs.now) (packing_of c.args.behind.0) c.args.behind.1.now p cs w (c.is_empty.ensures.0 c.if-is_empty.true))
    (c.in_ok-call_external.ensures next p cs w r)

pub returns-in_ok-call_inside : goal.returns-in_ok-call_inside
returns-in_ok-call_inside g c = λ next p cs w r.
    subst (Advances g.M.Memory.Stands c.in_ok-call_inside.field-0 c.call_inside.new.machine c.args.memory.now next)
    (one_inside g.M.Memory.ask next c.args.f.now (values_of c.args.xs.now) (packing_of c.args.behind.0) c.args.behind.1.now p cs w (λ e. true≢false (sym (c.is_empty.ensures.1 e) ∙ c.if-is_empty.false)))
    (c.in_ok-call_inside.ensures next p cs w r)
