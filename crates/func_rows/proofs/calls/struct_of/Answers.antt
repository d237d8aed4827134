use Rattle.std.proofs.Common.{◌∙◌, List, map, ap}
use Rattle.std.proofs.lemmas.List.{take_all}
use Rattle.tree_model.specs.declared.type_tree.TypeTree.{TypeTree}
use Rattle.plain_tree.specs.Types.{Struct, plain_type, types_in}
use Rattle.plain_tree.proofs.TypeOpens.{plain-Struct}
use Rattle.func_rows.proofs.calls.struct_of.Goals as goal

pub returns : goal.returns
returns c = plain-Struct c.each.fields ∙ ap (λ (ts : List TypeTree). Struct (types_in (map plain_type ts))) (c.each.invariant ∙ take_all c.each.t-index c.args.types.now c.each-test.false)
