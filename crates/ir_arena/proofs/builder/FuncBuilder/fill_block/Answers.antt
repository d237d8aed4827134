use Rattle.std.proofs.Common.{ap, ◌∙◌, set, map}
use Rattle.std.proofs.lemmas.List.{map-set}
use Rattle.flat_model.specs.Flat.{Flat}
use Rattle.ir_arena.specs.declared.cells.BlockCell.{BlockCell}
use Rattle.ir_arena.specs.Arena.{block_node}
use Rattle.ir_arena.specs.Building.{nodes_of, block_of}
use Rattle.ir_arena.proofs.builder.FuncBuilder.fill_block.Goals as goal

pub returns : goal.returns
returns c = let cs = c.self.inside.build.blocks.items in let d : BlockCell = record { args = c.args.args; ops = c.from_vec-ops.result } in
    ap (λ bs. let f : Flat = record (nodes_of c.self.inside.build) { blocks = bs } in f)
    (map-set block_node cs c.args.block d ∙ ap (λ os. set (map block_node cs) c.args.block (block_of c.args.args.items os)) c.from_vec-ops.ensures)
    ∙ ap (λ (a : Flat). let f : Flat = record a { blocks = set a.blocks c.args.block (block_of c.args.args.items c.args.ops.items) } in f) c.self.view_is
