use Rattle.plain_tree.specs.Types.{plain_type}
use Rattle.func_rows.proofs.FieldLaws.{part_made}
use Rattle.func_rows.proofs.parts.memref_part.Goals as goal

pub returns : goal.returns
returns c = part_made c.args.bits (plain_type c.args.t.now) c.args.of.dims.now (plain_type c.args.of.element.now) c.in_ok-takes.takes c.in_ok-gives.gives c.requires c.in_ok-takes.ensures.tree c.in_ok-gives.ensures
