-- Choices of code, and the choice by places of patterns.
use Rattle.std.specs.Prelude.{◌≡◌, ℕ, Bool, List, [], ◌∷◌, map, Option, Some, None, slice_get, if◌then◌else◌, ⊤}
use Rattle.plain_tree.specs.Types.{PlainType}
use Rattle.plain_tree.specs.Ops.{Op}
use Rattle.conversion_model.specs.Targets.{Shape, Target}
use Rattle.conversion_model.specs.Rows.{Numbers, Pattern, Piece}
use Rattle.conversion_model.specs.Chosen.{Leaves, and_then, change_of, or_else}
use Rattle.conversion_model.specs.Choice.{Choice, all_legalised, framed, row_choice}
use Rattle.conversion_model.specs.Choice as choices
use Rattle.cut_code.specs.Frames.{framing}
use Rattle.cut_code.specs.Pieces.{pieces_of}
use Rattle.unit_slots.specs.declared.slots.CutTree.{CutTree}
use Rattle.unit_slots.specs.declared.slots.Framing.{Framing}
use Rattle.unit_slots.specs.Slots.{plain_frame}
use Rattle.choice_code.specs.Plain.{plain_template}
use Rattle.unit_choices.specs.declared.choice_tree.ChoiceTree.{ChoiceTree}
use Rattle.unit_choices.specs.declared.choice_tree.ChoiceTree.TheVariants.{Stays, Line, Cuts, Frames}
use Rattle.unit_choices.specs.Lines.{line_in, plain_lines}
use Rattle.unit_choices.specs.Separate.{NotIn, Without}

-- the choice of code, for new numbers and types of values
abbrev pub choice_of : Numbers → (ℕ → PlainType) → ChoiceTree → Choice
choice_of new type_of Stays = choices.Stays
choice_of new type_of (Line t) = choices.Line (plain_template t)
choice_of new type_of (Cuts c) = choices.Cuts c.place (pieces_of new type_of c.pieces)
choice_of new type_of (Frames f) = choices.Frames (plain_frame f.frame) (plain_template f.entry)

abbrev pub choice_or_none : Numbers → (ℕ → PlainType) → Option ChoiceTree → Option Choice
choice_or_none new type_of None = None
choice_or_none new type_of (Some c) = Some (choice_of new type_of c)

abbrev pub cut_or_none : Numbers → (ℕ → PlainType) → Option CutTree → Option Choice
cut_or_none new type_of None = None
cut_or_none new type_of (Some c) = Some (choices.Cuts c.place (pieces_of new type_of c.pieces))

abbrev pub frame_or_none : Option Framing → Option Choice
frame_or_none None = None
frame_or_none (Some f) = Some (choices.Frames (plain_frame f.frame) (plain_template f.entry))

-- a cut has the lines of its pieces, and takes values that are there from its operation alone
pub record CutStands (target : Target) (leaves : List ℕ → Leaves) (type_of : ℕ → PlainType) (o : Op) (c : CutTree) : Type 0 where
  pub lines : plain_lines c.lines ≡ map (line_in target (leaves (c.place ∷ [])) type_of) c.pieces
  pub own : (x : ℕ) → Without x o → NotIn x c.pieces

abbrev pub CutIs : Target → (List ℕ → Leaves) → (ℕ → PlainType) → Op → Option CutTree → Type 0
CutIs target leaves type_of o None = ⊤
CutIs target leaves type_of o (Some c) = CutStands target leaves type_of o c

abbrev pub ChoiceStands : Target → (List ℕ → Leaves) → (ℕ → PlainType) → Op → Option ChoiceTree → Type 0
ChoiceStands target leaves type_of o None = ⊤
ChoiceStands target leaves type_of o (Some Stays) = ⊤
ChoiceStands target leaves type_of o (Some (Line t)) = ⊤
ChoiceStands target leaves type_of o (Some (Cuts c)) = CutStands target leaves type_of o c
ChoiceStands target leaves type_of o (Some (Frames f)) = ⊤

-- By places

-- the pieces of a cut, where each product is legalised
abbrev pub cut_by : Leaves → ℕ → Option (List Piece) → Option Choice
cut_by leaves place o = and_then o (λ ps. if all_legalised leaves ps then Some (choices.Cuts place ps) else None)

-- the frame of the row at a place
abbrev pub frame_by : ℕ → Leaves → Op → Shape → Option Pattern → Option Choice
frame_by bits leaves o shape None = None
frame_by bits leaves o shape (Some p) = and_then (framing (p.row bits) shape) (framed (change_of bits p.is_converted) leaves o)

-- by the row of a pattern at that place, where there is one
abbrev pub choice_at : ℕ → (List ℕ → Leaves) → Numbers → (ℕ → PlainType) → Op → ℕ → Option Pattern → Option Choice
choice_at bits leaves new type_of o k None = None
choice_at bits leaves new type_of o k (Some p) = row_choice bits p.is_converted (leaves (k ∷ [])) new type_of o k (p.row bits)

-- by the first of these places
abbrev pub choice_by : ℕ → List Pattern → (List ℕ → Leaves) → Numbers → (ℕ → PlainType) → Op → List ℕ → Option Choice
choice_by bits table leaves new type_of o [] = None
choice_by bits table leaves new type_of o (k ∷ ks) = or_else (choice_at bits leaves new type_of o k (slice_get table k)) (choice_by bits table leaves new type_of o ks)
