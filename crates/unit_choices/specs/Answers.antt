-- What the choices of a function say, and what they are where an operation fails.
use Rattle.std.specs.Prelude.{◌≡◌, ℕ, Bool, true, false, List, [], Option, Some, None, Result, Ok, Err, Vec, get_or, if◌then◌else◌}
use Rattle.std.specs.declared.alloc.Global.{Global}
use Rattle.plain_tree.specs.Types.{PlainType}
use Rattle.plain_tree.specs.Ops.{Op}
use Rattle.conversion_model.specs.Targets.{Mode, Target, demanded, name_of, shape_of}
use Rattle.conversion_model.specs.Rows.{Pattern}
use Rattle.conversion_model.specs.Choice.{Choice}
use Rattle.conversion_model.specs.Conversion.{Pass, Supply, Unlegalised, choice_in, first_unlegalised, ways}
use Rattle.conversion_model.specs.Uses.{operations, types_of}
use Rattle.unit_slots.specs.declared.slots.Choices.{Choices}
use Rattle.unit_slots.specs.declared.slots.Framing.{Framing}
use Rattle.unit_slots.specs.declared.slots.Slot.{Slot}
use Rattle.unit_slots.specs.declared.slots.Slot.TheVariants.{Keeps}
use Rattle.unit_slots.specs.Slots.{EachListed, SlotSays, SlotsSay, framing_in, plain_framing}
use Rattle.unit_choices.specs.declared.choice_tree.ChoiceTree.{ChoiceTree}
use Rattle.unit_choices.specs.declared.choice_tree.ChoiceTree.TheVariants.{Stays, Line, Cuts, Frames}
use Rattle.unit_choices.specs.declared.unlegalised.UnlegalisedTree.{UnlegalisedTree}
use Rattle.unit_choices.specs.Slotting.{fails, numbered}

-- a pass of the definitions
abbrev pub pass_of : List Pattern → Target → Mode → Bool → Pass
pass_of table target mode blocks = record { table = table; target = target; mode = mode; blocks = blocks }

abbrev pub unlegalised : UnlegalisedTree → Unlegalised
unlegalised e = record { number = e.number; name = e.name }

-- the choice for a demanded operation
abbrev pub choice_demanded : Pass → ℕ → Supply → (ℕ → PlainType) → ℕ → Op → Option Choice
choice_demanded p bits new type_of n o = if demanded p.mode p.target (shape_of type_of o) then choice_in p bits new type_of n o else None

-- choices say what is done with each operation of a function, of which each demanded one is legalised
pub record Chose (p : Pass) (bits : ℕ) (new : Supply) (f : Op) (c : Choices) : Type 0 where
  pub all : first_unlegalised p bits new (types_of f) (operations f) ≡ None
  pub slots : SlotsSay (ways p bits new (types_of f)) new (types_of f) c.slots.items f
  pub framing : plain_framing c.framing ≡ framing_in (choice_demanded p bits new (types_of f) 0 f)

-- the choices, or the first demanded operation that is not legalised
abbrev pub Chooses : Pass → ℕ → Supply → Op → Result Choices UnlegalisedTree → Type 0
Chooses p bits new f (Ok c) = Chose p bits new f c
Chooses p bits new f (Err e) = first_unlegalised p bits new (types_of f) (operations f) ≡ Some (unlegalised e)

-- Parts

abbrev pub items_or : Result (Vec Slot Global) UnlegalisedTree → Result (List Slot) UnlegalisedTree
items_or (Ok slots) = Ok slots.items
items_or (Err e) = Err e

-- what is chosen for the function itself
abbrev pub FramingIs : Pass → ℕ → Supply → (ℕ → PlainType) → Op → Result (Option Framing) UnlegalisedTree → Type 0
FramingIs p bits new type_of f (Ok framing) = (fails p bits new type_of 0 f ≡ false) × (plain_framing framing ≡ framing_in (choice_demanded p bits new type_of 0 f))
FramingIs p bits new type_of f (Err e) = (fails p bits new type_of 0 f ≡ true) × (unlegalised e ≡ record { number = 0; name = name_of f })

-- the slots of operations from number 1 on
abbrev pub SlotsAre : Pass → ℕ → Supply → (ℕ → PlainType) → List Op → Result (List Slot) UnlegalisedTree → Type 0
SlotsAre p bits new type_of os (Ok slots) =
    (first_unlegalised p bits new type_of (numbered 1 os) ≡ None) × EachListed (λ n o. SlotSays (ways p bits new type_of) new type_of n o (get_or slots n Keeps)) (numbered 1 os)
SlotsAre p bits new type_of os (Err e) = first_unlegalised p bits new type_of (numbered 1 os) ≡ Some (unlegalised e)

-- the frame of a choice
abbrev pub framing_of : ChoiceTree → Option Framing
framing_of Stays = None
framing_of (Line t) = None
framing_of (Cuts c) = None
framing_of (Frames f) = Some f
