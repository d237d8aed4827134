use Rattle.std.proofs.Common.{refl}
use Rattle.new_numbers.proofs.PlaceLaws.{label_stays}
use Rattle.new_numbers.proofs.table.NewNumbers.label.Goals as goal

pub returns-in_ok-number_behind-in-Ok-clause-label : goal.returns-in_ok-number_behind-in-Ok-clause-label
returns-in_ok-number_behind-in-Ok-clause-label c =
    λ u h. label_stays c.args.self.now.labels.keys c.insert_full.new.self.keys c.args.number c.args.index _ u c.in-Ok.at c.in_ok-number_behind-in-Ok.field-0 c.in-Ok.ensures.keys refl h c.in-Ok.ensures.index c.in_ok-number_behind-in-Ok.ensures
