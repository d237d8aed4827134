use Rattle.std.proofs.Common.{◌≡◌, ◌∙◌, ◌-◌, None, nat_eq, sym, arith, rules}
use Rattle.std.specs.HashMap.{get}
use Rattle.unit_writer.proofs.NameLaws.{kept_at_end, kept_before}
use Rattle.unit_writer.proofs.names.kept_values.Goals as goal

pub each-init : goal.each-init
each-init c = (
  omega (arith, c.min-index.ensures),
  omega (arith, c.min-index.ensures),
  λ n.
      let none : get nat_eq c.new-kept.result n ≡ None = search rules in
      none ∙ sym (kept_at_end c.args.results.now c.args.sources.now c.min-index.result n c.min-index.ensures),
)

pub each-preserved : goal.each-preserved
each-preserved c = (
  omega (arith, c.each.invariant.0),
  omega (arith, c.each.invariant.1),
  λ n.
      kept_before c.args.results.now c.args.sources.now c.each.index (c.each.index - 1) c.index-results-index.result _ _ n (omega (arith, c.each-test.true)) (omega (arith, c.each-test.true, c.each.invariant.0)) (omega (arith, c.each-test.true, c.each.invariant.1))
      (c.in_ok-keep.ensures _ _ c.each.invariant.2 n),
)
