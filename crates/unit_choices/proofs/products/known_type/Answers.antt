use Rattle.std.proofs.Common.{sym, ◌∙◌}
use Rattle.plain_tree.proofs.TypeOpens.{plain-Void}
use Rattle.unit_choices.proofs.LineLaws.{known_end}
use Rattle.unit_choices.proofs.products.known_type.Goals as goal

pub returns : goal.returns
returns c = plain-Void ∙ sym (known_end c.args.known.now c.args.place c.each.value-index c.each-test.false) ∙ c.each.invariant
