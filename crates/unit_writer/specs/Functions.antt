-- What a function is written as.
use Rattle.std.specs.Prelude.{◌≡◌, ℕ, List, [], ◌∷◌, ◌++◌, Option, Some, None, false, length, flat_map, map}
use Rattle.tree_model.specs.declared.type_tree.TypeTree.{TypeTree}
use Rattle.plain_tree.specs.Types.{PlainType}
use Rattle.plain_tree.specs.Ops.{Op, op, Regions, Blocks, PlainBlock, Values, blocks_in, regions_in}
use Rattle.conversion_model.specs.Choice.{Choice}
use Rattle.conversion_model.specs.Conversion.{Supply, framed_regions, function_by, params_from, params_of, regions_of}
use Rattle.conversion_model.specs.Items.{Begins, HeldBlock, Item, Ways, held_regions, items, puts, text_of, whole_items, whole_regions}
use Rattle.conversion_model.specs.Rows.{Frame, Part}
use Rattle.conversion_model.specs.Templates.{Template, numbers, written}
use Rattle.conversion_model.specs.Uses.{blocks_without, copies_in, is_copy, op_without, operations, regions_without}
use Rattle.new_numbers.specs.Tables.{Extends, Numbering, supply_of}
use Rattle.cut_code.specs.declared.frames.PartTree.{PartTree}
use Rattle.unit_slots.specs.declared.slots.Choices.{Choices}
use Rattle.unit_slots.specs.Slots.{SlotsSay, framing_in, plain_framing, plain_part}
use Rattle.unit_writer.specs.Copies.{blocks_pairs, clean, op_pairs, pairs_of, regions_pairs}
use Rattle.unit_writer.specs.Pages.{blocks_before}
use Rattle.unit_writer.specs.Says.{Reading}
use Rattle.unit_writer.specs.Writes.{NotesView, with_regions}

-- a tree was written, without copies, and the copies in it as pairs behind those that there were
pub record WritesTree (Holds : Reading → Type 0) (tree : Reading → Op) (old new : NotesView) (written : Op) : Type 0 where
  pub extends : Extends old.table new.table
  pub op : (m : Reading) → Extends new.table m.table → Holds m → op_without is_copy (tree m) ≡ written
  pub pairs : (m : Reading) → Extends new.table m.table → Holds m → old.pairs ++ op_pairs (tree m) ≡ new.pairs

-- The function that choices make of an old one was written, without copies, and its copies as pairs: for each later table,
-- all ways that the slots say and each choice for the function itself that its framing says.
pub record IsWritten (choices : Choices) (f : Op) (old new : NotesView) (written : Op) : Type 0 where
  pub extends : Extends old.table new.table
  pub op : (u : Numbering) → Extends new.table u → (w : Ways) (type_of : ℕ → PlainType) → SlotsSay w (supply_of u) type_of choices.slots.items f
      → (c : Option Choice) → plain_framing choices.framing ≡ framing_in c → written ≡ op_without is_copy (function_by (supply_of u) f c (held_regions w 1 (regions_of f)))
  pub pairs : (u : Numbering) → Extends new.table u → (w : Ways) (type_of : ℕ → PlainType) → SlotsSay w (supply_of u) type_of choices.slots.items f
      → (c : Option Choice) → plain_framing choices.framing ≡ framing_in c → new.pairs ≡ old.pairs ++ copies_in (operations (function_by (supply_of u) f c (held_regions w 1 (regions_of f))))

-- Frames

-- the function's parts by its framing
abbrev pub with_frame : Op → Frame → Regions → Op
with_frame (op k results operands regions successors) f rs = op (record { name = f.name; props = f.props; attrs = f.attrs }) results operands rs successors

abbrev pub function_with : Supply → Op → Option (Frame × Template) → List (List HeldBlock) → Op
function_with new f None hs = with_regions f (whole_regions hs)
function_with new f (Some p) hs = with_frame f p.0 (framed_regions new p.0 p.1 hs)

-- the types of the parameters that old arguments become
abbrev pub entry_types : List PartTree → List PlainType
entry_types parts = flat_map (λ (part : Part). part.takes) (map plain_part parts)

-- parameters of these types behind others
abbrev pub params_behind : Numbering → List (ℕ × TypeTree) → List PlainType → Values
params_behind u others types = params_from (supply_of u).parameter (length others) types

-- the items of a function's first block with whole blocks behind it
abbrev pub first_items : Frame → Template → PlainBlock → Reading → List HeldBlock → List Item
first_items f entry b m hs = Begins b.label (params_of (supply_of m.table) f)
    ∷ puts (written ((supply_of m.table).value 0 0) b.args (numbers (params_of (supply_of m.table) f)) [] entry []) (items m.ways false 1 b.ops (whole_items hs))

-- a function's first block was written
pub record WritesFirst (Holds : Reading → Type 0) (part : Reading → List HeldBlock → List Item) (old new : NotesView) (bs : List PlainBlock) : Type 0 where
  pub extends : Extends old.table new.table
  pub blocks : (m : Reading) → Extends new.table m.table → Holds m → (hs : List HeldBlock) → (text_of (clean (part m hs))).blocks ≡ blocks_before bs (text_of (clean (whole_items hs))).blocks
  pub pairs : (m : Reading) → Extends new.table m.table → Holds m → (hs : List HeldBlock) → old.pairs ++ pairs_of (part m hs) ≡ new.pairs ++ pairs_of (whole_items hs)

-- blocks were written, without copies, and the copies in them as pairs
pub record WritesText (Holds : Reading → Type 0) (tree : Reading → Blocks) (old new : NotesView) (bs : List PlainBlock) : Type 0 where
  pub extends : Extends old.table new.table
  pub blocks : (m : Reading) → Extends new.table m.table → Holds m → blocks_without is_copy (tree m) ≡ blocks_in bs
  pub pairs : (m : Reading) → Extends new.table m.table → Holds m → old.pairs ++ blocks_pairs (tree m) ≡ new.pairs

-- so were regions
pub record WritesAll (Holds : Reading → Type 0) (tree : Reading → Regions) (old new : NotesView) (rs : List Blocks) : Type 0 where
  pub extends : Extends old.table new.table
  pub regions : (m : Reading) → Extends new.table m.table → Holds m → regions_without is_copy (tree m) ≡ regions_in rs
  pub pairs : (m : Reading) → Extends new.table m.table → Holds m → old.pairs ++ regions_pairs (tree m) ≡ new.pairs
