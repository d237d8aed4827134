-- Frames as trees, and framing rows by their places.
use Rattle.std.specs.Prelude.{ℕ, Option, Some, None, map}
use Rattle.plain_tree.specs.Types.{type_tree}
use Rattle.plain_tree.specs.Attrs.{entries_tree}
use Rattle.conversion_model.specs.Templates.{template_tree}
use Rattle.conversion_model.specs.Targets.{Shape}
use Rattle.conversion_model.specs.Rows.{Frame, Part, Pattern, Row, Straight, Cutting, Framing}
use Rattle.cut_code.specs.declared.frames.FrameTree.{FrameTree}
use Rattle.cut_code.specs.declared.frames.PartTree.{PartTree}

abbrev pub part_tree : Part → PartTree
part_tree p = record { takes = map type_tree p.takes; gives = template_tree p.gives }

abbrev pub frame_tree : Frame → FrameTree
frame_tree f = record { name = f.name; props = entries_tree f.props; attrs = entries_tree f.attrs; entry = map part_tree f.entry }

-- the tree of a frame, where there is one
abbrev pub frame_or_none : Option Frame → Option FrameTree
frame_or_none None = None
frame_or_none (Some f) = Some (frame_tree f)

abbrev pub framing : Row → Shape → Option Frame
framing (Straight row) o = None
framing (Cutting row) o = None
framing (Framing row) o = row o

abbrev pub framing_at : ℕ → Option Pattern → Shape → Option Frame
framing_at bits None o = None
framing_at bits (Some p) o = framing (p.row bits) o
