use Rattle.std.proofs.Common.{subst}
use Rattle.tree_model.specs.declared.op_tree.FuncTree.{FuncTree}
use Rattle.plain_tree.specs.Ops.{plain_func}
use Rattle.pass_fold.specs.Views.{runs_at, stood_view}
use Rattle.pass_fold.specs.Steps.{RunsLast}
use Rattle.pass_fold.proofs.RunLaws.{function_step, functions_stop}
use Rattle.pass_fold.proofs.functions.run_functions.Goals as goal

pub each-preserved : goal.each-preserved
each-preserved g c = function_step c.args.bits (runs_at c.args.anchor) c.args.uses.now c.each.function c.index-funcs-function.result c.args.funcs.now (stood_view c.each.stood) (stood_view c.run_next.new.stood) c.each-test.true
    (subst (λ (f : FuncTree). RunsLast (runs_at c.args.anchor (plain_func f)) c.args.bits c.each.function c.args.uses.now (plain_func f) (stood_view c.each.stood) (stood_view c.run_next.new.stood)) c.index-funcs-function.is c.in_ok-run_next.ensures)
    c.each.invariant

pub returns : goal.returns
returns g c = functions_stop c.args.bits (runs_at c.args.anchor) c.args.uses.now c.each.function c.args.funcs.now (stood_view c.each.stood) c.each-test.false c.each.invariant
