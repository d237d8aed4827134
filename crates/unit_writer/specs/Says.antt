-- What is known of each operation of a tree, by its number.
use Rattle.std.specs.Prelude.{◌≡◌, ℕ, ◌+◌, List, get_or, Option, Some, None, ⊤}
use Rattle.std.specs.Borrow.{Bor}
use Rattle.plain_tree.specs.Types.{PlainType}
use Rattle.plain_tree.specs.Ops.{Op, op, Ops, end_of_ops, more_ops, Regions, end_of_regions, region, Blocks, end_of_blocks, block}
use Rattle.conversion_model.specs.Items.{Ways, op_size, ops_size, blocks_size}
use Rattle.unit_slots.specs.declared.slots.Slot.{Slot}
use Rattle.unit_slots.specs.declared.slots.Slot.TheVariants.{Keeps}
use Rattle.unit_slots.specs.Slots.{SlotSays, product_from}
use Rattle.conversion_model.specs.Conversion.{Supply, line_by}
use Rattle.conversion_model.specs.Rows.{Piece, Product, Opens, Held, Stands}
use Rattle.conversion_model.specs.Targets.{shape_with}
use Rattle.conversion_model.specs.Templates.{Template}
use Rattle.new_numbers.specs.Tables.{Numbering, supply_of}
use Rattle.unit_writer.specs.declared.guide.Guide.{Guide}

abbrev mutual
  -- P of each operation in a tree with its number, where the first one has number n
  pub EachOpIn : (ℕ → Op → Type 0) → ℕ → Op → Type 0
  EachOpIn P n (op k results operands regions successors) = P n (op k results operands regions successors) × EachRegionIn P (n + 1) regions

  pub EachOpsIn : (ℕ → Op → Type 0) → ℕ → Ops → Type 0
  EachOpsIn P n end_of_ops = ⊤
  EachOpsIn P n (more_ops o os) = EachOpIn P n o × EachOpsIn P (n + op_size o) os

  pub EachRegionIn : (ℕ → Op → Type 0) → ℕ → Regions → Type 0
  EachRegionIn P n end_of_regions = ⊤
  EachRegionIn P n (region blocks more) = EachBlockIn P n blocks × EachRegionIn P (n + blocks_size blocks) more

  pub EachBlockIn : (ℕ → Op → Type 0) → ℕ → Blocks → Type 0
  EachBlockIn P n end_of_blocks = ⊤
  EachBlockIn P n (block label args ops more) = EachOpsIn P n ops × EachBlockIn P (n + ops_size ops) more

-- what slots are read by: a table of new numbers, the ways of a conversion, types of values
pub record Reading : Type 0 where
  pub table : Numbering
  pub ways : Ways
  pub types : ℕ → PlainType

-- the slot of an operation says what is done with it, and its size is known
pub record Said (slots : List Slot) (sizes : List ℕ) (m : Reading) (n : ℕ) (o : Op) : Type 0 where
  pub slot : SlotSays m.ways (supply_of m.table) m.types n o (get_or slots n Keeps)
  pub size : get_or sizes n 0 ≡ op_size o

-- what is known of a piece: a product is written as this line, with new numbers
abbrev pub PieceSays : Ways → Supply → ℕ → ℕ → ℕ → Piece → Option Template → Type 0
PieceSays w new n place k (Product o types) t = w.line (product_from n k place) (shape_with types o) o ≡ line_by (new.value n k) o t
PieceSays w new n place k (Opens label args) t = ⊤
PieceSays w new n place k (Held r b) t = ⊤
PieceSays w new n place k (Stands result value) t = ⊤

abbrev pub slot_or : Option (Bor Slot) → Slot
slot_or None = Keeps
slot_or (Some s) = s.now

-- the same for a guide
abbrev pub said_by : Guide → Reading → ℕ → Op → Type 0
said_by g m n o = Said g.slots.now g.sizes.now m n o
