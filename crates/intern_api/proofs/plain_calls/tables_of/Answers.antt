use Rattle.std.proofs.Common.{◌≡◌, Some, slice_get, sym, ◌∙◌, ap, subst, length, arith}
use Rattle.intern_api.specs.Held.{AreKeys}
use Rattle.intern_api.proofs.TogetherLaws.{together_few, together_capped}
use Rattle.intern_api.proofs.plain_calls.tables_of.Goals as goal

pub overflow_cast-shards : goal.overflow_cast-shards
overflow_cast-shards c = omega (arith, together_few c.args.list.items c.requires)

pub invariant_of-result-clause-some : goal.invariant_of-result-clause-some
invariant_of-result-clause-some c = omega (arith, c.requires.some)

pub invariant_of-result-clause-few : goal.invariant_of-result-clause-few
invariant_of-result-clause-few c = omega (arith, together_few c.args.list.items c.requires)

pub invariant_of-result-clause-capped : goal.invariant_of-result-clause-capped
invariant_of-result-clause-capped c = together_capped c.args.list.items c.cap_of-cap.result c.requires (λ t at. c.cap_of-cap.ensures t (subst (λ l. slice_get l 0 ≡ Some t) (sym c.as_slice.ensures.value) at))

pub invariant_of-result-clause-keys : goal.invariant_of-result-clause-keys
invariant_of-result-clause-keys c = subst (λ n. AreKeys n c.args.list.items) (sym (ap length c.as_slice.ensures.value) ∙ c.as_slice.ensures.len ∙ sym c.len-shards.ensures) c.requires.keys
