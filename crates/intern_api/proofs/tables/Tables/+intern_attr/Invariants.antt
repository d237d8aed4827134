use Rattle.std.proofs.Common.{take, map}
use Rattle.key_model.specs.declared.key.Key.TheVariants.{OfAttr}
use Rattle.intern_api.specs.Interning.{Gathers}
use Rattle.intern_api.proofs.tables.Tables.+intern_attr.Given as goal

abbrev pub invariant-intern_attrs-loop-a : goal.invariant-intern_attrs-loop-a
invariant-intern_attrs-loop-a l = Gathers l.initial.self l.self l.initial.children l.children (map OfAttr (take l.a-index l.attrs))

abbrev pub invariant-intern_values-loop-entry : goal.invariant-intern_values-loop-entry
invariant-intern_values-loop-entry l = Gathers l.initial.self l.self l.initial.children l.children (map (λ e. OfAttr e.1) (take l.entry-index l.entries))
