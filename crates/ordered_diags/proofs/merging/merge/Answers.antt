-- The sort moves the lines, and its key is what the order compares.
use Rattle.std.proofs.Common.{rules, ℕ, ◌≡◌}
use Rattle.std.proofs.lemmas.List.Sorted.{answers_always}
use Rattle.ordered_diags.specs.declared.diag.Diag.{Diag}
use Rattle.ordered_diags.proofs.merging.merge.Goals as goal

numbers : Diag → ℕ × ℕ × ℕ
numbers d = (d.function, d.pass, d.sequence)

pub returns : goal.returns
unfolding numbers
returns c = record {
  all = rw (c.from_vec.ensures, ← c.in_ok-all.ensures) c.in_ok-sort_by_key.ensures.permutation;
  in_order = rw c.from_vec.ensures (c.in_ok-sort_by_key.ensures.sorted numbers (answers_always _ (λ a r. r ≡ numbers a.0.now) _ (λ f a r g k. search rules)));
}
