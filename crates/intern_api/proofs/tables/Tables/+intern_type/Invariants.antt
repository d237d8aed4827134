use Rattle.std.proofs.Common.{take, map}
use Rattle.key_model.specs.declared.key.Key.TheVariants.{OfType}
use Rattle.intern_api.specs.Interning.{Gathers}
use Rattle.intern_api.proofs.tables.Tables.+intern_type.Given as goal

abbrev pub invariant-intern_types-loop-t : goal.invariant-intern_types-loop-t
invariant-intern_types-loop-t l = Gathers l.initial.self l.self l.initial.children l.children (map OfType (take l.t-index l.types))
