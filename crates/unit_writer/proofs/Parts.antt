-- What is known of lists of code, and the definition's parts for them.
use Rattle.std.proofs.Common.{ℕ, Bool, List, Option, map}
use Rattle.tree_model.specs.declared.op_tree.OpTree.{OpTree}
use Rattle.tree_model.specs.declared.op_tree.BlockTree.{BlockTree}
use Rattle.tree_model.specs.declared.op_tree.RegionTree.{RegionTree}
use Rattle.plain_tree.specs.Ops.{blocks_in, ops_in, regions_in, plain_op}
use Rattle.conversion_model.specs.declared.templates.TemplateTree.{TemplateTree}
use Rattle.conversion_model.specs.Items.{HeldBlock, Item, cut, held_blocks, held_regions, items}
use Rattle.cut_code.specs.Pieces.{pieces_of}
use Rattle.cut_code.specs.declared.pieces.PieceTree.{PieceTree}
use Rattle.new_numbers.specs.Tables.{supply_of}
use Rattle.unit_slots.specs.declared.slots.Slot.{Slot}
use Rattle.unit_slots.specs.Slots.{LinesSay}
use Rattle.unit_writer.specs.Pages.{block_plain, region_plain}
use Rattle.unit_writer.specs.Says.{EachBlockIn, EachOpsIn, EachRegionIn, Reading, Said}

abbrev pub OpsSaid : List Slot → List ℕ → List OpTree → ℕ → Reading → Type 0
OpsSaid slots sizes ops n m = EachOpsIn (Said slots sizes m) n (ops_in (map plain_op ops))

abbrev pub ops_items : Bool → List OpTree → ℕ → Reading → List Item → List Item
ops_items held ops n m more = items m.ways held n (ops_in (map plain_op ops)) more

abbrev pub BlocksSaid : List Slot → List ℕ → List BlockTree → ℕ → Reading → Type 0
BlocksSaid slots sizes bs n m = EachBlockIn (Said slots sizes m) n (blocks_in (map block_plain bs))

abbrev pub blocks_held : List BlockTree → ℕ → Reading → List HeldBlock
blocks_held bs n m = held_blocks m.ways n (blocks_in (map block_plain bs))

abbrev pub RegionsSaid : List Slot → List ℕ → List RegionTree → ℕ → Reading → Type 0
RegionsSaid slots sizes rs n m = EachRegionIn (Said slots sizes m) n (regions_in (map region_plain rs))

abbrev pub regions_held : List RegionTree → ℕ → Reading → List (List HeldBlock)
regions_held rs n m = held_regions m.ways n (regions_in (map region_plain rs))

-- what is left of the pieces of a cut, the next of which is the k-th
abbrev pub PiecesSaid : ℕ → ℕ → (Reading → Type 0) → List PieceTree → List (Option TemplateTree) → ℕ → Reading → Type 0
PiecesSaid n at R pieces lines k m = R m × LinesSay m.ways (supply_of m.table) n at k (pieces_of ((supply_of m.table).row n) m.types pieces) lines

abbrev pub pieces_items : ℕ → ℕ → (Reading → List (List HeldBlock)) → List PieceTree → ℕ → Reading → List Item → List Item
pieces_items n at held pieces k m more = cut m.ways n at (held m) k (pieces_of ((supply_of m.table).row n) m.types pieces) more
