-- What slots say: that they are what the ways of a conversion do with each operation.
use Rattle.std.specs.Prelude.{◌≡◌, ℕ, ◌+◌, List, [], ◌∷◌, map, get_or, Option, Some, None, ⊤}
use Rattle.plain_tree.specs.Types.{PlainType, plain_type}
use Rattle.plain_tree.specs.Attrs.{plain_entries}
use Rattle.plain_tree.specs.Ops.{Op, Regions}
use Rattle.conversion_model.specs.declared.templates.TemplateTree.{TemplateTree}
use Rattle.conversion_model.specs.Templates.{Template}
use Rattle.conversion_model.specs.Targets.{shape_with}
use Rattle.conversion_model.specs.Rows.{Piece, Product, Opens, Held, Stands, Frame, Part}
use Rattle.conversion_model.specs.Choice.{Choice, Frames}
use Rattle.conversion_model.specs.Items.{From, Ways}
use Rattle.conversion_model.specs.Uses.{regions_listed}
use Rattle.conversion_model.specs.Conversion.{Supply, line_by, regions_of}
use Rattle.choice_code.specs.Plain.{plain_template, plain_or_none}
use Rattle.cut_code.specs.declared.frames.FrameTree.{FrameTree}
use Rattle.cut_code.specs.declared.frames.PartTree.{PartTree}
use Rattle.cut_code.specs.Pieces.{pieces_of}
use Rattle.unit_slots.specs.declared.slots.CutTree.{CutTree}
use Rattle.unit_slots.specs.declared.slots.Framing.{Framing}
use Rattle.unit_slots.specs.declared.slots.Slot.{Slot}
use Rattle.unit_slots.specs.declared.slots.Slot.TheVariants.{Keeps, Line, Cuts}
use Rattle.unit_slots.specs.declared.slots.Choices.{Choices}

-- Frames in plain form

abbrev pub plain_part : PartTree → Part
plain_part p = record { takes = map plain_type p.takes; gives = plain_template p.gives }

abbrev pub plain_frame : FrameTree → Frame
plain_frame f = record { name = f.name; props = plain_entries f.props; attrs = plain_entries f.attrs; entry = map plain_part f.entry }

-- a frame with the steps at its function's start, where there is one
abbrev pub plain_framing : Option Framing → Option (Frame × Template)
plain_framing None = None
plain_framing (Some f) = Some (plain_frame f.frame, plain_template f.entry)

-- what a choice makes of the function itself
abbrev pub framing_in : Option Choice → Option (Frame × Template)
framing_in (Some (Frames f entry)) = Some (f, entry)
framing_in _ = None

-- Slots

-- the source operation with a number, and the product at a place among its pieces by the pattern at that place
abbrev pub source_from : ℕ → From
source_from n = record { number = n; piece = 0; path = [] }

abbrev pub product_from : ℕ → ℕ → ℕ → From
product_from n piece place = record { number = n; piece = piece; path = place ∷ [] }

abbrev pub first_line : List (Option TemplateTree) → Option Template
first_line [] = None
first_line (l ∷ ls) = plain_or_none l

abbrev pub later_lines : List (Option TemplateTree) → List (Option TemplateTree)
later_lines [] = []
later_lines (l ∷ ls) = ls

-- each product of the pieces from the k-th on is written as the line at its place, with new numbers
abbrev pub LinesSay : Ways → Supply → ℕ → ℕ → ℕ → List Piece → List (Option TemplateTree) → Type 0
LinesSay w new n place k [] ls = ⊤
LinesSay w new n place k (Product o types ∷ ps) ls =
    (w.line (product_from n k place) (shape_with types o) o ≡ line_by (new.value n k) o (first_line ls)) × LinesSay w new n place (k + 1) ps (later_lines ls)
LinesSay w new n place k (Opens label args ∷ ps) ls = LinesSay w new n place (k + 1) ps (later_lines ls)
LinesSay w new n place k (Held r b ∷ ps) ls = LinesSay w new n place (k + 1) ps (later_lines ls)
LinesSay w new n place k (Stands result value ∷ ps) ls = LinesSay w new n place (k + 1) ps (later_lines ls)

-- the operation with this number isn't cut, and what stands for it over any regions is a template with new numbers, or
-- itself
abbrev pub IsLine : Ways → Supply → ℕ → Op → Option Template → Type 0
IsLine w new n o t = (w.cuts n o ≡ None) × ((kept : Op) → w.line (source_from n) (w.shape o) kept ≡ line_by (new.value n 0) kept t)

abbrev pub IsCut : Ways → Supply → (ℕ → PlainType) → ℕ → Op → ℕ → List Piece → List (Option TemplateTree) → Type 0
IsCut w new type_of n o place ps lines = (w.cuts n o ≡ Some (place, ps)) × LinesSay w new n place 1 ps lines

-- a slot says what is done with the operation with this number
abbrev pub SlotSays : Ways → Supply → (ℕ → PlainType) → ℕ → Op → Slot → Type 0
SlotSays w new type_of n o Keeps = IsLine w new n o None
SlotSays w new type_of n o (Line t) = IsLine w new n o (Some (plain_template t.value))
SlotSays w new type_of n o (Cuts c) = IsCut w new type_of n o c.place (pieces_of (new.row n) type_of c.pieces) c.lines

-- P of each of these operations with its number
abbrev pub EachListed : (ℕ → Op → Type 0) → List (ℕ × Op) → Type 0
EachListed P [] = ⊤
EachListed P (o ∷ os) = P o.0 o.1 × EachListed P os

-- the slots say what is done with each operation in the regions of a function
abbrev pub SlotsSay : Ways → Supply → (ℕ → PlainType) → List Slot → Op → Type 0
SlotsSay w new type_of slots f = EachListed (λ n o. SlotSays w new type_of n o (get_or slots n Keeps)) (regions_listed 1 (regions_of f) [])
