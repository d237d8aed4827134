use Rattle.std.proofs.Common.{sym, ◌∙◌}
use Rattle.type_converter.specs.Keys.{key_row}
use Rattle.type_converter.proofs.PairLaws.{found_some}
use Rattle.type_converter.proofs.converter.TypeConverter.find.Goals as goal

pub returns-in-Ok-Some-clause-found : goal.returns-in-Ok-Some-clause-found
returns-in-Ok-Some-clause-found g c = λ k held.
    found_some (g.I.Interner.holds c.intern_some.new.i) (key_row c.args.self.now.bits k) c.in-Ok-Some.new c.intern_some.result
    (sym c.in-Ok-Some.field-0-is ∙ c.in-Ok-Some.ensures.row k held) c.intern_some.ensures.held
