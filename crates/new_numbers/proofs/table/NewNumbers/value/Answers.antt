use Rattle.std.proofs.Common.{refl}
use Rattle.new_numbers.proofs.PlaceLaws.{value_stays}
use Rattle.new_numbers.proofs.table.NewNumbers.value.Goals as goal

pub returns-in_ok-number_behind-in-Ok-clause-number : goal.returns-in_ok-number_behind-in-Ok-clause-number
returns-in_ok-number_behind-in-Ok-clause-number c =
    λ u h. value_stays c.args.self.now.values.keys c.insert_full.new.self.keys c.args.place _ u c.in-Ok.at c.in_ok-number_behind-in-Ok.field-0 c.in-Ok.ensures.keys refl h c.in-Ok.ensures.index c.in_ok-number_behind-in-Ok.ensures
