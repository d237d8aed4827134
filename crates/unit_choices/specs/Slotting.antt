-- What slots are of operations, one after another.
use Rattle.std.specs.Prelude.{◌≡◌, ℕ, ◌+◌, Bool, true, false, not, ◌&&◌, List, [], ◌∷◌, Option, Some, None, is_some, ⊤}
use Rattle.plain_tree.specs.Types.{PlainType}
use Rattle.plain_tree.specs.Ops.{Op}
use Rattle.conversion_model.specs.Templates.{Template}
use Rattle.conversion_model.specs.Targets.{demanded, shape_of}
use Rattle.conversion_model.specs.Conversion.{Pass, Supply, choice_in, ways}
use Rattle.choice_code.specs.Plain.{plain_template}
use Rattle.unit_slots.specs.declared.slots.Slot.{Slot}
use Rattle.unit_slots.specs.declared.slots.Slot.TheVariants.{Keeps, Line, Cuts}
use Rattle.unit_slots.specs.Slots.{SlotSays}
use Rattle.unit_choices.specs.declared.choice_tree.ChoiceTree.{ChoiceTree}
use Rattle.unit_choices.specs.declared.choice_tree.ChoiceTree.TheVariants as chosen
use Rattle.unit_choices.specs.Separate.{Separate}

-- operations with their numbers from n on
abbrev pub numbered : ℕ → List Op → List (ℕ × Op)
numbered n [] = []
numbered n (o ∷ os) = (n, o) ∷ numbered (n + 1) os

-- whether an operation is demanded and not legalised
abbrev pub fails : Pass → ℕ → Supply → (ℕ → PlainType) → ℕ → Op → Bool
fails p bits new type_of n o = demanded p.mode p.target (shape_of type_of o) && not (is_some (choice_in p bits new type_of n o))

-- the slot of an operation, none where it fails
abbrev pub SlotIs : Pass → ℕ → Supply → (ℕ → PlainType) → ℕ → Op → Option Slot → Type 0
SlotIs p bits new type_of n o None = fails p bits new type_of n o ≡ true
SlotIs p bits new type_of n o (Some s) = (fails p bits new type_of n o ≡ false) × SlotSays (ways p bits new type_of) new type_of n o s

-- the new values of each row are apart from those of each of these operations
abbrev pub EachSeparate : Supply → (ℕ → PlainType) → List Op → Type 0
EachSeparate new type_of [] = ⊤
EachSeparate new type_of (o ∷ os) = ((n : ℕ) → Separate (new.row n) type_of o) × EachSeparate new type_of os

-- the line that a slot is, none of a cut
abbrev pub slot_line : Slot → Option (Option Template)
slot_line Keeps = Some None
slot_line (Line t) = Some (Some (plain_template t.value))
slot_line (Cuts c) = None

-- the slot of a choice, where these are the leaves of the operation's shape
abbrev pub SlotFor : Option Template → ChoiceTree → Slot → Type 0
SlotFor leaves chosen.Stays s = slot_line s ≡ Some None
SlotFor leaves (chosen.Line t) s = slot_line s ≡ Some (Some (plain_template t))
SlotFor leaves (chosen.Cuts c) s = s ≡ Cuts c
SlotFor leaves (chosen.Frames f) s = slot_line s ≡ Some leaves
