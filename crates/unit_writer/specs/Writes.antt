-- What is written: that parts of the definition's text, in front of others, stand on a page and in the list of pairs.
use Rattle.std.specs.Prelude.{◌≡◌, ℕ, List, ◌++◌, ⊤}
use Rattle.plain_tree.specs.Ops.{Op, op, Regions, Blocks, end_of_blocks, block, PlainBlock}
use Rattle.conversion_model.specs.Items.{Item, HeldBlock, puts, text_of, whole_items, whole_regions}
use Rattle.conversion_model.specs.Uses.{is_copy, regions_without}
use Rattle.new_numbers.specs.Tables.{Extends, Numbering, numbering_of}
use Rattle.unit_writer.specs.declared.notes.Notes.{Notes}
use Rattle.unit_writer.specs.declared.page.Page.{Page}
use Rattle.unit_writer.specs.Copies.{clean, pairs_of, regions_pairs}
use Rattle.unit_writer.specs.Pages.{PageView, blocks_before, page_blocks, page_view, regions_before}
use Rattle.unit_writer.specs.Says.{Reading}

-- A part was written, which led from an old state to a new one: what comes of the old one with anything behind the part is
-- what comes of the new one with that behind it. This is so for each reading that holds, of each later table.
pub record Comes {S X R : Type 0} (table : S → Numbering) (behind : S → X → R) (Holds : Reading → Type 0) (part : Reading → X → X) (old new : S) : Type 0 where
  pub extends : Extends (table old) (table new)
  pub written : (m : Reading) → Extends (table new) m.table → Holds m → (more : X) → behind old (part m more) ≡ behind new more

-- the copies so far, and the new numbers so far
pub record NotesView : Type 0 where
  pub pairs : List (ℕ × ℕ)
  pub table : Numbering

abbrev pub notes_view : Notes → NotesView
notes_view s = record { pairs = s.pairs.items; table = numbering_of s.numbers }

-- with a page
pub record State : Type 0 where
  pub page : PageView
  pub notes : NotesView

abbrev pub state_of : Page → Notes → State
state_of p s = record { page = page_view p; notes = notes_view s }

abbrev pub table_of : State → Numbering
table_of s = s.notes.table

-- blocks, and copies as pairs
pub record Outcome : Type 0 where
  pub blocks : Blocks
  pub pairs : List (ℕ × ℕ)

-- what comes of a page with items behind it
abbrev pub behind : State → List Item → Outcome
behind s more = record { blocks = page_blocks s.page (text_of (clean more)); pairs = s.notes.pairs ++ pairs_of more }

abbrev pub Writes : (Reading → Type 0) → (Reading → List Item → List Item) → State → State → Type 0
Writes = Comes table_of behind

-- operations in front of items
pub record Line : Type 0 where
  pub ops : List Op
  pub more : List Item

abbrev pub behind_line : State → Line → Outcome
behind_line s x = behind s (puts x.ops x.more)

-- the same for operations, which stand in front of others
abbrev pub WritesLine : (Numbering → List Op → List Op) → State → State → Type 0
WritesLine part = Comes table_of behind_line (λ m. ⊤) (λ m x. record { ops = part m.table x.ops; more = x.more })

-- with blocks
pub record BlocksState : Type 0 where
  pub blocks : List PlainBlock
  pub notes : NotesView

abbrev pub blocks_table : BlocksState → Numbering
blocks_table s = s.notes.table

-- what comes of blocks with whole ones behind them
abbrev pub blocks_behind : BlocksState → List HeldBlock → Outcome
blocks_behind s hs = record { blocks = blocks_before s.blocks (text_of (clean (whole_items hs))).blocks; pairs = s.notes.pairs ++ pairs_of (whole_items hs) }

abbrev pub WritesBlocks : (Reading → Type 0) → (Reading → List HeldBlock → List HeldBlock) → BlocksState → BlocksState → Type 0
WritesBlocks = Comes blocks_table blocks_behind

-- a block by itself
abbrev pub one_block : PlainBlock → Blocks
one_block b = block b.label b.args b.ops end_of_blocks

-- with regions
pub record RegionsState : Type 0 where
  pub regions : List Blocks
  pub notes : NotesView

abbrev pub regions_table : RegionsState → Numbering
regions_table s = s.notes.table

pub record RegionsOutcome : Type 0 where
  pub regions : Regions
  pub pairs : List (ℕ × ℕ)

abbrev pub regions_behind : RegionsState → List (List HeldBlock) → RegionsOutcome
regions_behind s hs = record { regions = regions_before s.regions (regions_without is_copy (whole_regions hs)); pairs = s.notes.pairs ++ regions_pairs (whole_regions hs) }

abbrev pub WritesRegions : (Reading → Type 0) → (Reading → List (List HeldBlock) → List (List HeldBlock)) → RegionsState → RegionsState → Type 0
WritesRegions = Comes regions_table regions_behind

-- an operation over other regions
abbrev pub with_regions : Op → Regions → Op
with_regions (op k results operands regions successors) rs = op k results operands rs successors
