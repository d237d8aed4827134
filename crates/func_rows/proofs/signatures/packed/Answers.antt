use Rattle.std.proofs.Common.{◌<◌, ◌≤◌, List, length, subst}
use Rattle.tree_model.specs.declared.type_tree.TypeTree.{TypeTree}
use Rattle.func_rows.proofs.FieldLaws.{pack_many, pack_none}
use Rattle.func_rows.proofs.signatures.packed.Goals as goal

pub returns-in-empty : goal.returns-in-empty
returns-in-empty c = pack_none c.args.types (subst (λ (l : List TypeTree). length l < 1) c.as_slice.ensures c.in-empty.len_below)

pub returns-in_default : goal.returns-in_default
returns-in_default c = pack_many c.args.types (subst (λ (l : List TypeTree). 2 ≤ length l) c.as_slice.ensures c.in_default.len_at_least)
