-- Items: the conversion of a tree, operation by operation. A region is made of them afterwards.
use Rattle.std.specs.Prelude.{ℕ, pred, ◌+◌, ◌==◌, Bool, true, false, ◌&&◌, List, [], ◌∷◌, Option, Some, None, if◌then◌else◌}
use Rattle.plain_tree.specs.Ops.{Op, op, Ops, end_of_ops, more_ops, Regions, end_of_regions, region, Blocks, end_of_blocks, block, Values}
use Rattle.conversion_model.specs.Templates.{copy}
use Rattle.conversion_model.specs.Targets.{Shape, shape_with, name_of, goes_with_holder}
use Rattle.conversion_model.specs.Rows.{Piece, Product, Opens, Held, Stands}

abbrev mutual
  -- how many operations there are in an operation, itself among them
  pub op_size : Op → ℕ
  op_size (op k results operands regions successors) = regions_size regions + 1

  pub ops_size : Ops → ℕ
  ops_size end_of_ops = 0
  ops_size (more_ops o os) = op_size o + ops_size os

  pub regions_size : Regions → ℕ
  regions_size end_of_regions = 0
  regions_size (region blocks more) = blocks_size blocks + regions_size more

  pub blocks_size : Blocks → ℕ
  blocks_size end_of_blocks = 0
  blocks_size (block label args ops more) = ops_size ops + blocks_size more

-- an operation, or a block that opens
pub data Item : Type 0 where
  Puts : Op → Item
  Begins : ℕ → Values → Item

-- where an operation comes from: the number of the source operation, and of a product the place among its pieces, from 1
-- on, and the pattern that made it as a path
pub record From : Type 0 where
  pub number : ℕ
  pub piece : ℕ
  pub path : List ℕ

-- what is done: the pieces of a source operation with this number that is cut, and the place of the pattern that cuts it;
-- what stands for an operation of this shape that isn't cut
pub record Ways : Type 0 where
  pub cuts : ℕ → Op → Option (ℕ × List Piece)
  pub line : From → Shape → Op → List Op
  pub shape : Op → Shape

-- a converted block: the items in front of its first scf.yield or scf.condition, and all, each in front of others
pub record HeldBlock : Type 0 where
  pub label : ℕ
  pub args : Values
  pub held : List Item → List Item
  pub whole : List Item → List Item

abbrev pub puts : List Op → List Item → List Item
puts [] more = more
puts (o ∷ os) more = Puts o ∷ puts os more

-- the items of the b-th of these blocks in front of others, none where there is no such block
abbrev pub held_in : ℕ → List HeldBlock → List Item → List Item
held_in b [] more = more
held_in b (h ∷ hs) more = if b == 0 then h.held more else held_in (pred b) hs more

abbrev pub held_at : ℕ → ℕ → List (List HeldBlock) → List Item → List Item
held_at r b [] more = more
held_at r b (hs ∷ regions) more = if r == 0 then held_in b hs more else held_at (pred r) b regions more

-- pieces from the k-th on as items in front of others
abbrev pub cut : Ways → ℕ → ℕ → List (List HeldBlock) → ℕ → List Piece → List Item → List Item
cut w n place hs k [] more = more
cut w n place hs k (Product o types ∷ ps) more =
    puts (w.line (record { number = n; piece = k; path = place ∷ [] }) (shape_with types o) o) (cut w n place hs (k + 1) ps more)
cut w n place hs k (Opens label args ∷ ps) more = Begins label args ∷ cut w n place hs (k + 1) ps more
cut w n place hs k (Held r b ∷ ps) more = held_at r b hs (cut w n place hs (k + 1) ps more)
cut w n place hs k (Stands result value ∷ ps) more = Puts (copy result value) ∷ cut w n place hs (k + 1) ps more

-- a list of items as the operations up to the first block that opens, and the blocks
pub record Text : Type 0 where
  pub ops : Ops
  pub blocks : Blocks

abbrev pub with_item : Item → Text → Text
with_item (Puts o) t = record { ops = more_ops o t.ops; blocks = t.blocks }
with_item (Begins label args) t = record { ops = end_of_ops; blocks = block label args t.ops t.blocks }

abbrev pub text_of : List Item → Text
text_of [] = record { ops = end_of_ops; blocks = end_of_blocks }
text_of (x ∷ xs) = with_item x (text_of xs)

-- the items of whole blocks
abbrev pub whole_items : List HeldBlock → List Item
whole_items [] = []
whole_items (h ∷ hs) = Begins h.label h.args ∷ h.whole (whole_items hs)

abbrev pub whole_regions : List (List HeldBlock) → Regions
whole_regions [] = end_of_regions
whole_regions (hs ∷ rs) = region (text_of (whole_items hs)).blocks (whole_regions rs)

-- an operation that is cut or stands for itself, in front of others
abbrev pub op_at : Ways → ℕ → Op → Op → Option (ℕ × List Piece) → List (List HeldBlock) → List Item → List Item
op_at w n source kept None hs more = puts (w.line (record { number = n; piece = 0; path = [] }) (w.shape source) kept) more
op_at w n source kept (Some c) hs more = cut w n c.0 hs 1 c.1 more

abbrev mutual
  -- the items of operations from number n on, in front of others; where they are held, those in front of the first
  -- scf.yield or scf.condition
  pub items : Ways → Bool → ℕ → Ops → List Item → List Item
  items w held n end_of_ops more = more
  items w held n (more_ops o os) more =
      if held && goes_with_holder (name_of o) then more else op_items w n o (items w held (n + op_size o) os more)

  pub op_items : Ways → ℕ → Op → List Item → List Item
  op_items w n (op k results operands regions successors) more =
      let hs : List (List HeldBlock) = held_regions w (n + 1) regions in
      let source : Op = op k results operands regions successors in
      op_at w n source (op k results operands (whole_regions hs) successors) (w.cuts n source) hs more

  pub held_regions : Ways → ℕ → Regions → List (List HeldBlock)
  held_regions w n end_of_regions = []
  held_regions w n (region blocks more) = held_blocks w n blocks ∷ held_regions w (n + blocks_size blocks) more

  pub held_blocks : Ways → ℕ → Blocks → List HeldBlock
  held_blocks w n end_of_blocks = []
  held_blocks w n (block label args ops more) =
      record { label = label; args = args; held = items w true n ops; whole = items w false n ops } ∷ held_blocks w (n + ops_size ops) more
