-- A function's frame in the layers of a tree.
use Rattle.std.proofs.Common.{◌≡◌, false, List, refl, sym, ap}
use Rattle.std.specs.Str.{bytes_eq}
use Rattle.std.proofs.lemmas.Grind.{common_steps}
use Rattle.tree_model.specs.declared.op_tree.OpTree.{OpTree, out-OpTree}
use Rattle.plain_tree.specs.Attrs.{plain_entries}
use Rattle.plain_tree.specs.Ops.{Op, op, Regions, Blocks, regions_in, plain_op, plain_values}
use Rattle.conversion_model.specs.Conversion.{regions_of}
use Rattle.conversion_model.specs.Rows.{Frame}
use Rattle.conversion_model.specs.Templates.{copy_name}
use Rattle.conversion_model.specs.Uses.{is_copy}
use Rattle.cut_code.specs.declared.frames.FrameTree.{FrameTree}
use Rattle.unit_slots.specs.Slots.{plain_frame}
use Rattle.unit_writer.specs.Functions.{with_frame}
use Rattle.unit_writer.specs.Pages.{op_from}
use Rattle.unit_writer.proofs.Layers.{op_plain_at}

pub framed_from : (o : OpTree) (f : FrameTree) (rs : List Blocks)
    → op_from f.name (plain_entries f.props) (plain_entries f.attrs) (plain_values (out-OpTree o).results) (out-OpTree o).operands rs (out-OpTree o).successors ≡ with_frame (plain_op o) (plain_frame f) (regions_in rs)
unfolding op_from
framed_from o f rs = sym (ap (λ x. with_frame x (plain_frame f) (regions_in rs)) (op_plain_at o))

pub ruleset frame_layers = (common_steps, framed_from)

pub frame_other : (o : Op) (f : Frame) → bytes_eq f.name copy_name ≡ false → (x : Regions) → is_copy (with_frame o f x) ≡ false
frame_other (op k results operands regions successors) f e x = e

pub frame_left : (o : Op) (f : Frame) (x : Regions) → regions_of (with_frame o f x) ≡ x
frame_left (op k results operands regions successors) f x = refl
