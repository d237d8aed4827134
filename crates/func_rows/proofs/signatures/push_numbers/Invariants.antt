use Rattle.std.proofs.Common.{◌≡◌, ◌++◌, replicate}
use Rattle.tree_model.specs.declared.type_tree.TypeTree as type
use Rattle.func_rows.proofs.signatures.push_numbers.Given as goal

abbrev pub invariant-each : goal.invariant-each
invariant-each l = l.types ≡ l.initial.types ++ replicate l._place (type.Int l.bits)
