use Rattle.std.proofs.Common.{◌≡◌, ◌-◌, [], ◌∷◌, ◌++◌, length, map, ap, ◌∙◌, arith}
use Rattle.std.proofs.lemmas.Grind.{common_steps}
use Rattle.tree_model.specs.declared.op_tree.OpTree.{out-OpTree}
use Rattle.plain_tree.specs.Ops.{plain_op, regions_in}
use Rattle.unit_writer.specs.Pages.{region_plain}
use Rattle.unit_writer.specs.Sizes.{regions_sizes}
use Rattle.unit_writer.proofs.SizeLayers.{op_sizes_at, size_put}
use Rattle.unit_writer.proofs.sizes.+walk_op.Goals as goal

pub walk_op-returns : goal.walk_op-returns
walk_op-returns t c =
    let pushed : c.push.new.self.items ≡ c.args.sizes.now.items ++ 0 ∷ [] = grind (arith, common_steps) in
    size_put c.args.sizes.now.items c.walk_regions.new.sizes.items c.put_size.new.sizes.items (regions_in (map region_plain (out-OpTree c.args.op.now).regions)) c.len-place.result c.in_ok-size.size (plain_op c.args.op.now)
    (omega (arith, c.len-place.ensures, c.args.sizes.now.ok.0))
    (c.in_ok-walk_regions.ensures
    ∙ ap (λ ys. ys ++ regions_sizes (regions_in (map region_plain c.as_slice.result.now))) pushed
    ∙ ap (λ rs. (c.args.sizes.now.items ++ 0 ∷ []) ++ regions_sizes (regions_in (map region_plain rs))) c.as_slice.ensures)
    (c.in_ok-size.ensures ∙ ap (λ ys. length ys - c.len-place.result) c.deref.ensures.value) c.put_size.ensures (op_sizes_at c.args.op.now)
