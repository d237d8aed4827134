-- A function's blocks and regions by its framing, from lists of code.
use Rattle.std.proofs.Common.{◌≡◌, ℕ, ◌+◌, ◌-◌, ◌≤◌, false, List, [], ◌∷◌, ◌++◌, Option, drop, take, get_or, length, map, refl, sym, ap, subst, ◌∙◌, arith}
use Rattle.std.specs.Prelude.{flat_map}
use Rattle.std.specs.Str.{bytes_eq}
use Rattle.std.proofs.lemmas.List.{take_all}
use Rattle.tree_model.specs.declared.op_tree.BlockTree.{BlockTree}
use Rattle.tree_model.specs.declared.op_tree.RegionTree.{RegionTree}
use Rattle.plain_tree.specs.Types.{PlainType}
use Rattle.plain_tree.specs.Ops.{Op, Ops, Regions, region, Blocks, PlainBlock, Values, blocks_in, regions_in}
use Rattle.conversion_model.specs.Conversion.{framed_blocks, framed_regions, regions_of}
use Rattle.conversion_model.specs.Items.{held_blocks, held_regions, items, ops_size, blocks_size, text_of, whole_regions}
use Rattle.conversion_model.specs.Rows.{Frame, Part}
use Rattle.conversion_model.specs.Templates.{Template, copy_name, numbers, written}
use Rattle.conversion_model.specs.Uses.{is_copy}
use Rattle.new_numbers.specs.Tables.{supply_of}
use Rattle.unit_slots.specs.declared.slots.Choices.{Choices}
use Rattle.unit_slots.specs.declared.slots.Framing.{Framing}
use Rattle.unit_slots.specs.declared.slots.Slot.{Slot}
use Rattle.unit_slots.specs.Slots.{plain_framing}
use Rattle.unit_writer.specs.Functions.{IsWritten, WritesAll, WritesFirst, WritesText, WritesTree, first_items, function_with, params_behind, with_frame}
use Rattle.unit_writer.specs.Names.{Asked}
use Rattle.unit_writer.specs.Pages.{PageView, begun, block_plain, ended, region_plain}
use Rattle.unit_writer.specs.Says.{EachBlockIn, EachOpsIn, EachRegionIn, Reading, Said}
use Rattle.unit_writer.specs.Sizes.{behind_blocks, behind_ops, op_sizes}
use Rattle.unit_writer.specs.Writes.{NotesView, Writes, WritesBlocks, WritesLine, WritesRegions, with_regions}
use Rattle.unit_writer.proofs.FrameLayers.{frame_left, frame_other}
use Rattle.unit_writer.proofs.FunctionLaws.{blocks_framed, first_written, regions_framed, tree_framed, tree_kept, written_by}
use Rattle.unit_writer.proofs.LineLaws.{line_alone}
use Rattle.unit_writer.proofs.SaysLaws.{behind_is, blocks_behind_is}

-- a list that has a first item
pub split : {A : Type 0} (xs rest : List A) (x : A) → 1 ≤ length xs → x ≡ get_or xs 0 x → rest ≡ take (length xs - 1) (drop 1 xs) → xs ≡ x ∷ rest
split [] rest x h is others = absurd (omega (arith, h))
split (y ∷ ys) rest x h is others = ap (λ z. z ∷ ys) (sym is) ∙ ap (λ zs. x ∷ zs) (sym (others ∙ take_all (length (y ∷ ys) - 1) ys (omega arith)))

-- The first block

module _ (slots : List Slot) (sizes : List ℕ) where
  abbrev OpsKnown : Ops → Reading → Type 0
  OpsKnown ops m = EachOpsIn (Said slots sizes m) 1 ops

  pub first_by : (f : Frame) (t : Template) (b : PlainBlock) (n0 n1 n2 n3 : NotesView) (types : List PlainType) (ps args : Values) (operands labels : List ℕ) (ops : Ops) (label : ℕ) (start page page' : PageView) (bs : List PlainBlock)
      → types ≡ flat_map (λ (part : Part). part.takes) f.entry → Asked n0.table n1.table (λ u. params_behind u [] types ≡ ps) → n1.pairs ≡ n0.pairs → label ≡ b.label → args ≡ b.args → operands ≡ numbers ps → labels ≡ [] → ops ≡ b.ops
      → start ≡ begun label ps → bs ≡ ended page'
      → WritesLine (λ u rest. written ((supply_of u).value 0 0) args operands labels t rest) (record { page = start; notes = n1 }) (record { page = page; notes = n2 })
      → Writes (OpsKnown ops) (λ m more. items m.ways false 1 ops more) (record { page = page; notes = n2 }) (record { page = page'; notes = n3 })
      → WritesFirst (OpsKnown b.ops) (first_items f t b) n0 n3 bs
  first_by f t b n0 n1 n2 n3 types ps args operands labels ops label start page page' bs takes asked same here with_args with_numbers none inner began done template rest =
      first_written (OpsKnown b.ops) f t b n0 n1 n2 n3 ps args label page page' bs
      (subst (λ ts. Asked n0.table n1.table (λ u. params_behind u [] ts ≡ ps)) takes asked) same here with_args
      (line_alone (λ u rest. written ((supply_of u).value 0 0) args (numbers ps) [] t rest) (record { page = begun label ps; notes = n1 }) (record { page = page; notes = n2 })
      (subst (λ ls. WritesLine (λ u rest. written ((supply_of u).value 0 0) args (numbers ps) ls t rest) (record { page = begun label ps; notes = n1 }) (record { page = page; notes = n2 })) none
      (subst (λ os. WritesLine (λ u rest. written ((supply_of u).value 0 0) args os labels t rest) (record { page = begun label ps; notes = n1 }) (record { page = page; notes = n2 })) with_numbers
      (subst (λ p. WritesLine (λ u rest. written ((supply_of u).value 0 0) args operands labels t rest) (record { page = p; notes = n1 }) (record { page = page; notes = n2 })) began template))))
      (subst (λ os. Writes (OpsKnown os) (λ m more. items m.ways false 1 os more) (record { page = page; notes = n2 }) (record { page = page'; notes = n3 })) inner rest)
      done

  -- Blocks

  abbrev BlocksKnown : ℕ → List PlainBlock → Reading → Type 0
  BlocksKnown n bs m = EachBlockIn (Said slots sizes m) n (blocks_in bs)

  abbrev blocks_text : Frame → Template → List PlainBlock → Reading → Blocks
  blocks_text f t bs m = framed_blocks (supply_of m.table) f t (held_blocks m.ways 1 (blocks_in bs))

  pub blocks_by : (f : Frame) (t : Template) (xs rest : List BlockTree) (x : BlockTree) (ops : Ops) (number : ℕ) (n0 n1 n2 : NotesView) (bs cs ds : List PlainBlock) → xs ≡ x ∷ rest → ops ≡ (block_plain x).ops → number ≡ behind_ops sizes 1 ops → ds ≡ bs ++ cs
      → WritesFirst (OpsKnown (block_plain x).ops) (first_items f t (block_plain x)) n0 n1 bs
      → WritesBlocks (BlocksKnown number (map block_plain rest)) (λ m more. held_blocks m.ways number (blocks_in (map block_plain rest)) ++ more) (record { blocks = []; notes = n1 }) (record { blocks = cs; notes = n2 })
      → WritesText (BlocksKnown 1 (map block_plain xs)) (blocks_text f t (map block_plain xs)) n0 n2 ds
  blocks_by f t xs rest x ops number n0 n1 n2 bs cs ds parts inner at joined first others =
      subst (λ ys. WritesText (BlocksKnown 1 (map block_plain ys)) (blocks_text f t (map block_plain ys)) n0 n2 ds) (sym parts)
      (blocks_framed (BlocksKnown 1 (map block_plain (x ∷ rest))) (OpsKnown (block_plain x).ops) (BlocksKnown number (map block_plain rest)) f t (block_plain x)
      (λ m. held_blocks m.ways number (blocks_in (map block_plain rest))) (blocks_text f t (map block_plain (x ∷ rest))) n0 n1 n2 bs cs ds
      (λ m h. h.0)
      (λ m h. subst (λ n. BlocksKnown n (map block_plain rest) m) (sym (place m h)) h.1)
      (λ m h. ap (λ n. (text_of (first_items f t (block_plain x) m (held_blocks m.ways n (blocks_in (map block_plain rest))))).blocks) (sym (place m h)))
      joined first others)
    where
      place : (m : Reading) → BlocksKnown 1 (map block_plain (x ∷ rest)) m → number ≡ 1 + ops_size (block_plain x).ops
      place m h = at ∙ ap (behind_ops sizes 1) inner ∙ behind_is slots sizes m 1 (block_plain x).ops h.0

  -- Regions

  abbrev RegionsKnown : ℕ → Regions → Reading → Type 0
  RegionsKnown n rs m = EachRegionIn (Said slots sizes m) n rs

  abbrev regions_text : Frame → Template → Regions → Reading → Regions
  regions_text f t rs m = framed_regions (supply_of m.table) f t (held_regions m.ways 1 rs)

  pub regions_by : (f : Frame) (t : Template) (xs rest : List RegionTree) (x : RegionTree) (first : List PlainBlock) (number : ℕ) (n0 n1 n2 : NotesView) (bs : List PlainBlock) (list rs ds : List Blocks)
      → xs ≡ x ∷ rest → blocks_in first ≡ region_plain x → number ≡ behind_blocks sizes 1 (blocks_in first) → list ≡ blocks_in bs ∷ [] → ds ≡ list ++ rs
      → WritesText (BlocksKnown 1 first) (blocks_text f t first) n0 n1 bs
      → WritesRegions (RegionsKnown number (regions_in (map region_plain rest))) (λ m more. held_regions m.ways number (regions_in (map region_plain rest)) ++ more) (record { regions = []; notes = n1 }) (record { regions = rs; notes = n2 })
      → WritesAll (RegionsKnown 1 (regions_in (map region_plain xs))) (regions_text f t (regions_in (map region_plain xs))) n0 n2 ds
  regions_by f t xs rest x first number n0 n1 n2 bs list rs ds parts inner at made joined text others =
      subst (λ ys. WritesAll (RegionsKnown 1 (regions_in (map region_plain ys))) (regions_text f t (regions_in (map region_plain ys))) n0 n2 ds) (sym parts)
      (regions_framed (RegionsKnown 1 (regions_in (map region_plain (x ∷ rest)))) (BlocksKnown 1 first) (RegionsKnown number (regions_in (map region_plain rest))) (blocks_text f t first)
      (λ m. held_regions m.ways number (regions_in (map region_plain rest))) (regions_text f t (regions_in (map region_plain (x ∷ rest)))) n0 n1 n2 bs (blocks_in bs) rs ds
      (λ m h. here m h)
      (λ m h. subst (λ n. RegionsKnown n (regions_in (map region_plain rest)) m) (sym (place m h)) h.1)
      (λ m h.
      ap (λ blocks. region (framed_blocks (supply_of m.table) f t (held_blocks m.ways 1 blocks)) (whole_regions (held_regions m.ways (1 + blocks_size (region_plain x)) (regions_in (map region_plain rest))))) (sym inner)
      ∙ ap (λ n. region (blocks_text f t first m) (whole_regions (held_regions m.ways n (regions_in (map region_plain rest))))) (sym (place m h)))
      refl (joined ∙ ap (λ ys. ys ++ rs) made) text others)
    where
      here : (m : Reading) → RegionsKnown 1 (regions_in (map region_plain (x ∷ rest))) m → BlocksKnown 1 first m
      here m h = subst (λ blocks. EachBlockIn (Said slots sizes m) 1 blocks) (sym inner) h.0

      place : (m : Reading) → RegionsKnown 1 (regions_in (map region_plain (x ∷ rest))) m → number ≡ 1 + blocks_size (region_plain x)
      place m h = at ∙ ap (behind_blocks sizes 1) inner ∙ blocks_behind_is slots sizes m 1 (region_plain x) h.0

  -- The function

  pub framed_by : (f : Frame) (t : Template) (o q : Op) (regions : Regions) (n0 n1 : NotesView) (rs : List Blocks) → regions ≡ regions_of o → bytes_eq f.name copy_name ≡ false → q ≡ with_frame o f (regions_in rs)
      → WritesAll (RegionsKnown 1 regions) (regions_text f t regions) n0 n1 rs
      → WritesTree (RegionsKnown 1 (regions_of o)) (λ m. with_frame o f (regions_text f t (regions_of o) m)) n0 n1 q
  framed_by f t o q regions n0 n1 rs inner other is w =
      tree_framed (RegionsKnown 1 (regions_of o)) f o q (regions_text f t (regions_of o)) n0 n1 rs (frame_other o f other) (frame_left o f) is
      (subst (λ gs. WritesAll (RegionsKnown 1 gs) (regions_text f t gs) n0 n1 rs) inner w)

  pub kept_by : (o q : Op) (regions : Regions) (n0 n1 : NotesView) (rs : List Blocks) → regions ≡ regions_of o → is_copy o ≡ false → q ≡ with_regions o (regions_in rs)
      → WritesRegions (RegionsKnown 1 regions) (λ m more. held_regions m.ways 1 regions ++ more) (record { regions = []; notes = n0 }) (record { regions = rs; notes = n1 })
      → WritesTree (RegionsKnown 1 (regions_of o)) (λ m. with_regions o (whole_regions (held_regions m.ways 1 (regions_of o)))) n0 n1 q
  kept_by o q regions n0 n1 rs inner other is w =
      tree_kept (RegionsKnown 1 (regions_of o)) o q (λ m. held_regions m.ways 1 (regions_of o)) n0 n1 rs other is
      (subst (λ gs. WritesRegions (RegionsKnown 1 gs) (λ m more. held_regions m.ways 1 gs ++ more) (record { regions = []; notes = n0 }) (record { regions = rs; notes = n1 })) inner w)

pub function_by : (choices : Choices) (f q : Op) (slots : List Slot) (sizes : List ℕ) (framing : Option Framing) (n0 n1 : NotesView) → slots ≡ choices.slots.items → sizes ≡ op_sizes f → choices.framing ≡ framing
    → WritesTree (λ m. EachRegionIn (Said slots sizes m) 1 (regions_of f)) (λ m. function_with (supply_of m.table) f (plain_framing framing) (held_regions m.ways 1 (regions_of f))) n0 n1 q
    → IsWritten choices f n0 n1 q
function_by choices f q slots sizes framing n0 n1 all counted is w =
    written_by choices f sizes n0 n1 q counted
    (subst (λ x. WritesTree (λ m. EachRegionIn (Said choices.slots.items sizes m) 1 (regions_of f)) (λ m. function_with (supply_of m.table) f (plain_framing x) (held_regions m.ways 1 (regions_of f))) n0 n1 q) (sym is)
    (subst (λ ss. WritesTree (λ m. EachRegionIn (Said ss sizes m) 1 (regions_of f)) (λ m. function_with (supply_of m.table) f (plain_framing framing) (held_regions m.ways 1 (regions_of f))) n0 n1 q) all w))
