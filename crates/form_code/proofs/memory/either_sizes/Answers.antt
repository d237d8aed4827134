use Rattle.std.proofs.Common.{◌≤◌, ◌++◌, min, length, sym, ap, ◌∙◌, arith, append-nil}
use Rattle.form_code.proofs.Gathering.{no_more_sizes}
use Rattle.form_code.proofs.memory.either_sizes.Goals as goal

pub returns : goal.returns
returns c =
    let ended : min (length c.args.a.now) (length c.args.b.now) ≤ c.loop-i.i = omega (arith, c.min-i-end.ensures) in
    sym (append-nil c.loop-i.sizes)
    ∙ ap (λ l. c.loop-i.sizes ++ l) (sym (no_more_sizes c.args.a.now c.args.b.now c.loop-i.i ended))
    ∙ c.loop-i.invariant
