use Rattle.std.proofs.Common.{sym, subst, ◌≤◌, ℕ}
use Rattle.use_kinds.proofs.RowLaws.{number_within}
use Rattle.use_kinds.proofs.rows.number_at.Goals as goal

pub returns-in-Some-clause-within : goal.returns-in-Some-clause-within
returns-in-Some-clause-within c = λ last w.
    let P : ℕ → Type 0 = λ n. n ≤ last in
    subst P (sym (c.in-Some.ensures.lookup.3.1 0)) (number_within last c.args.numbers.now c.args.index w)
