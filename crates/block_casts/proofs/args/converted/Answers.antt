use Rattle.std.proofs.Common.{ℕ, List, ◌++◌, ap, refl, arith, map}
use Rattle.std.specs.Option.{option_map}
use Rattle.plain_tree.specs.Types.{plain_type}
use Rattle.plain_tree.specs.Ops.{plain_op, plain_values}
use Rattle.tree_model.specs.declared.op_tree.OpTree.{OpTree}
use Rattle.tree_model.specs.declared.type_tree.TypeTree.{TypeTree}
use Rattle.conversion_model.specs.Conversion.{casts_back, new_arguments}
use Rattle.block_casts.specs.Changed.{in_front}
use Rattle.new_numbers.specs.Tables.{numbering_of, supply_of}
use Rattle.new_numbers.proofs.PlaceLaws.{extends_itself, extends_on}
use Rattle.block_casts.proofs.ChangedLaws.{args_done, args_step, casts_done, casts_step}
use Rattle.block_casts.proofs.args.converted.Goals as goal

pub each-init : goal.each-init
each-init c = (
  refl,
  extends_itself (numbering_of c.args.numbers.now),
  λ u e. ap (λ (xs : List (ℕ × TypeTree)). plain_values xs ++ new_arguments c.args.bits (λ k. (supply_of u).argument c.args.label k) 0 (plain_values c.args.args.now)) c.new.ensures,
  λ u e more. ap (λ (os : List OpTree). in_front (map plain_op os) (casts_back c.args.bits (λ k. (supply_of u).argument c.args.label k) 0 (plain_values c.args.args.now) more)) c.new-2.ensures,
)

pub each-preserved : goal.each-preserved
each-preserved c =
    let t = numbering_of c.each.numbers in
    let u = numbering_of c.put.new.numbers in
    let s = c.in_ok-put.ensures in
    let i = c.each.invariant in (
      omega (arith, c.in_ok-next.ensures, i.0),
      extends_on (numbering_of c.args.numbers.now) t u i.1 s.extends,
      args_step c.args.bits c.args.label c.each.index c.each.arg-index c.in_ok-next.next t u c.args.args.now c.arg-item.result (plain_values c.each.all.args) (plain_values c.put.new.self.args) (option_map plain_type c.in_ok-form.form)
          i.0 c.each-test.true c.arg-item.is c.in_ok-next.ensures c.in_ok-form.ensures s.extends s.args i.2,
      casts_step c.args.bits c.args.label c.each.index c.each.arg-index c.in_ok-next.next t u c.args.args.now c.arg-item.result (map plain_op c.each.all.casts) (map plain_op c.put.new.self.casts) (option_map plain_type c.in_ok-form.form)
          i.0 c.each-test.true c.arg-item.is c.in_ok-next.ensures c.in_ok-form.ensures s.extends s.casts i.3,
    )

pub returns-clause-args : goal.returns-clause-args
returns-clause-args c = args_done c.args.bits c.args.label c.each.index c.each.arg-index (numbering_of c.each.numbers) c.args.args.now (plain_values c.each.all.args) c.each.invariant.0 (omega arith) c.each.invariant.2

pub returns-clause-casts : goal.returns-clause-casts
returns-clause-casts c = casts_done c.args.bits c.args.label c.each.index c.each.arg-index (numbering_of c.each.numbers) c.args.args.now (map plain_op c.each.all.casts) c.each.invariant.0 (omega arith) c.each.invariant.3
