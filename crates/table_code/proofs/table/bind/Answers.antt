use Rattle.std.proofs.Common.{◌≡◌, ◌≤◌, ◌<◌, length, get_or, Some, refl, sym, ◌∙◌, arith}
use Rattle.std.specs.List.{slice_get}
use Rattle.std.proofs.lemmas.Option.{slice_get_read}
use Rattle.table_code.proofs.TableLaws.{uneven, bound_one, bound_all, get_is}
use Rattle.table_code.proofs.table.bind.Goals as goal

pub returns-then-ids-vs : goal.returns-then-ids-vs
returns-then-ids-vs c = λ env agrees. uneven c.args.ids.now c.args.vs.now env (λ e. omega (arith, e, c.if-ids-vs.true))

pub loop-i-preserved : goal.loop-i-preserved
loop-i-preserved c = λ env agrees.
    let inside : c.loop-i.i < length c.args.vs.now = omega (arith, c.if-ids-vs.false, c.loop-i-test.true) in
    let at : slice_get c.args.vs.now c.loop-i.i ≡ Some c.index-vs-i.result = slice_get_read c.args.vs.now (length c.args.vs.now) c.loop-i.i c.index-vs-i.result refl inside c.index-vs-i.is in
    bound_one c.args.ids.now c.args.vs.now c.loop-i.i c.loop-i.table c.put.new.table env (get_or c.args.ids.now c.loop-i.i 0) c.index-vs-i.result c.in_ok-copy_value.field-0
    (get_is c.args.ids.now c.loop-i.i 0 c.loop-i-test.true) at c.in_ok-copy_value.ensures c.in_ok-put.ensures (c.loop-i.invariant env agrees)

pub returns : goal.returns
returns c = λ env agrees.
    let ids : length c.args.ids.now ≤ c.loop-i.i = omega (arith, c.loop-i-test.false, c.loop-i.auto.i-end) in
    let vs : length c.args.vs.now ≤ c.loop-i.i = omega (arith, c.loop-i-test.false, c.loop-i.auto.i-end, c.if-ids-vs.false) in
    bound_all c.args.ids.now c.args.vs.now c.loop-i.i c.loop-i.table env ids vs (c.loop-i.invariant env agrees)
