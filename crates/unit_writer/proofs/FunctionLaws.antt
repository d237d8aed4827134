-- A function, by its framing, from its parts.
use Rattle.std.proofs.Common.{◌≡◌, ℕ, false, List, [], ◌∷◌, ◌++◌, Option, Some, None, refl, sym, ap, ◌∙◌}
use Rattle.std.specs.Prelude.{get_or, ⊤}
use Rattle.std.proofs.lemmas.List.{append_assoc}
use Rattle.plain_tree.specs.Ops.{Op, op, Regions, region, Blocks, block, PlainBlock, Values, blocks_in, regions_in}
use Rattle.conversion_model.specs.Choice.{Choice, Stays, Line, Cuts, Frames}
use Rattle.conversion_model.specs.Conversion.{Supply, function_by, params_of, regions_of}
use Rattle.conversion_model.specs.Items.{Begins, HeldBlock, Item, held_regions, items, puts, text_of, whole_items, whole_regions}
use Rattle.conversion_model.specs.Rows.{Frame}
use Rattle.conversion_model.specs.Templates.{Template, numbers, written}
use Rattle.conversion_model.specs.Uses.{blocks_without, is_copy, op_without, regions_without}
use Rattle.new_numbers.specs.Tables.{Extends, supply_of}
use Rattle.new_numbers.proofs.PlaceLaws.{extends_on}
use Rattle.unit_slots.specs.declared.slots.Choices.{Choices}
use Rattle.unit_slots.specs.declared.slots.Slot.TheVariants.{Keeps}
use Rattle.unit_slots.specs.Slots.{SlotSays, SlotsSay, framing_in, plain_framing}
use Rattle.unit_writer.specs.Copies.{blocks_pairs, clean, op_pairs, pairs_of, regions_pairs}
use Rattle.unit_writer.specs.Functions.{IsWritten, WritesAll, WritesFirst, WritesText, WritesTree, first_items, function_with, with_frame}
use Rattle.unit_writer.specs.Names.{Asked}
use Rattle.unit_writer.specs.Pages.{PageView, begun, blocks_before, ended}
use Rattle.unit_writer.specs.Says.{EachRegionIn, Reading, Said}
use Rattle.unit_writer.specs.Sizes.{op_sizes}
use Rattle.unit_writer.specs.Writes.{NotesView, Outcome, RegionsOutcome, Writes, WritesBlocks, WritesRegions, behind, with_regions}
use Rattle.unit_writer.proofs.Behind.{and_nothing, copy_same, end_behind, own_pairs, regions_left, without_regions}
use Rattle.unit_writer.proofs.ListedLaws.{Sized, copies_are, function_sized, regions_both, regions_known}
use Rattle.unit_writer.proofs.RegionLaws.{region_is, region_pairs}
use Rattle.unit_writer.proofs.TextLaws.{pairs_text, regions_alone, text_clean, whole_first}

-- a choice for the function counts by its framing alone
pub by_framing : (new : Supply) (f : Op) (c : Option Choice) (hs : List (List HeldBlock)) → function_by new f c hs ≡ function_with new f (framing_in c) hs
by_framing new (op k results operands regions successors) None hs = refl
by_framing new (op k results operands regions successors) (Some Stays) hs = refl
by_framing new (op k results operands regions successors) (Some (Line t)) hs = refl
by_framing new (op k results operands regions successors) (Some (Cuts place pieces)) hs = refl
by_framing new (op k results operands regions successors) (Some (Frames f entry)) hs = refl

-- The first block

pub first_written : (H : Reading → Type 0) (f : Frame) (t : Template) (b : PlainBlock) (n0 n1 n2 n3 : NotesView) (ps args : Values) (label : ℕ) (page page' : PageView) (bs : List PlainBlock)
    → Asked n0.table n1.table (λ u. params_of (supply_of u) f ≡ ps) → n1.pairs ≡ n0.pairs → label ≡ b.label → args ≡ b.args
    → Writes (λ m. ⊤) (λ m more. puts (written ((supply_of m.table).value 0 0) args (numbers ps) [] t []) more) (record { page = begun label ps; notes = n1 }) (record { page = page; notes = n2 })
    → Writes H (λ m more. items m.ways false 1 b.ops more) (record { page = page; notes = n2 }) (record { page = page'; notes = n3 }) → bs ≡ ended page'
    → WritesFirst H (first_items f t b) n0 n3 bs
first_written H f t b n0 n1 n2 n3 ps args label page page' bs asked same here with_args template rest done = record {
  extends = extends_on n0.table n1.table n3.table asked.extends (extends_on n1.table n2.table n3.table template.extends rest.extends);
  blocks = λ m e h hs. ap (λ xs. (text_of (clean xs)).blocks) (is m e h hs) ∙ ap (λ (o : Outcome). o.blocks) (all m e h hs) ∙ end_behind page' bs (text_of (clean (whole_items hs))) done (whole_first hs);
  pairs = λ m e h hs. ap (λ xs. n0.pairs ++ pairs_of xs) (is m e h hs) ∙ ap (λ xs. xs ++ pairs_of (to m hs)) (sym same) ∙ ap (λ (o : Outcome). o.pairs) (all m e h hs);
}
  where
    to : Reading → List HeldBlock → List Item
    to m hs = puts (written ((supply_of m.table).value 0 0) args (numbers ps) [] t []) (items m.ways false 1 b.ops (whole_items hs))

    is : (m : Reading) → Extends n3.table m.table → H m → (hs : List HeldBlock) → first_items f t b m hs ≡ Begins label ps ∷ to m hs
    is m e h hs =
        ap (λ vs. Begins b.label vs ∷ puts (written ((supply_of m.table).value 0 0) b.args (numbers vs) [] t []) (items m.ways false 1 b.ops (whole_items hs)))
        (asked.says m.table (extends_on n1.table n3.table m.table (extends_on n1.table n2.table n3.table template.extends rest.extends) e))
        ∙ ap (λ l. Begins l ps ∷ puts (written ((supply_of m.table).value 0 0) b.args (numbers ps) [] t []) (items m.ways false 1 b.ops (whole_items hs))) (sym here)
        ∙ ap (λ vs. Begins label ps ∷ puts (written ((supply_of m.table).value 0 0) vs (numbers ps) [] t []) (items m.ways false 1 b.ops (whole_items hs))) (sym with_args)

    all : (m : Reading) → Extends n3.table m.table → H m → (hs : List HeldBlock) → behind (record { page = begun label ps; notes = n1 }) (to m hs) ≡ behind (record { page = page'; notes = n3 }) (whole_items hs)
    all m e h hs =
        template.written m (extends_on n2.table n3.table m.table rest.extends e) tt (items m.ways false 1 b.ops (whole_items hs)) ∙ rest.written m e h (whole_items hs)

-- Blocks and regions

blocks_two : (bs cs : List PlainBlock) → blocks_before bs (blocks_in cs) ≡ blocks_in (bs ++ cs)
blocks_two [] cs = refl
blocks_two (b ∷ bs) cs = ap (block b.label b.args b.ops) (blocks_two bs cs)

pub blocks_framed : (H K L : Reading → Type 0) (f : Frame) (t : Template) (b : PlainBlock) (part : Reading → List HeldBlock) (tree : Reading → Blocks) (n0 n1 n2 : NotesView) (bs cs ds : List PlainBlock)
    → ((m : Reading) → H m → K m) → ((m : Reading) → H m → L m) → ((m : Reading) → H m → tree m ≡ (text_of (first_items f t b m (part m))).blocks) → ds ≡ bs ++ cs
    → WritesFirst K (first_items f t b) n0 n1 bs → WritesBlocks L (λ m more. part m ++ more) (record { blocks = []; notes = n1 }) (record { blocks = cs; notes = n2 })
    → WritesText H tree n0 n2 ds
blocks_framed H K L f t b part tree n0 n1 n2 bs cs ds to_k to_l is joined first rest = record {
  extends = extends_on n0.table n1.table n2.table first.extends rest.extends;
  blocks = λ m e h.
      let e1 : Extends n1.table m.table = extends_on n1.table n2.table m.table rest.extends e in
      ap (blocks_without is_copy) (is m h)
      ∙ sym (ap (λ (x : _). x.blocks) (text_clean (first_items f t b m (part m))))
      ∙ first.blocks m e1 (to_k m h) (part m)
      ∙ ap (blocks_before bs) (region_is (part m) cs n1 n2 (rest.written m e (to_l m h) []))
      ∙ blocks_two bs cs ∙ ap blocks_in (sym joined);
  pairs = λ m e h.
      let e1 : Extends n1.table m.table = extends_on n1.table n2.table m.table rest.extends e in
      ap (λ x. n0.pairs ++ blocks_pairs x) (is m h)
      ∙ ap (λ xs. n0.pairs ++ xs) (pairs_text (first_items f t b m (part m)))
      ∙ first.pairs m e1 (to_k m h) (part m)
      ∙ region_pairs (part m) cs n1 n2 (rest.written m e (to_l m h) []);
}

pub regions_framed : (H K L : Reading → Type 0) (first : Reading → Blocks) (part : Reading → List (List HeldBlock)) (tree : Reading → Regions) (n0 n1 n2 : NotesView) (bs : List PlainBlock) (r : Blocks) (rs ds : List Blocks)
    → ((m : Reading) → H m → K m) → ((m : Reading) → H m → L m) → ((m : Reading) → H m → tree m ≡ region (first m) (whole_regions (part m))) → r ≡ blocks_in bs → ds ≡ r ∷ rs
    → WritesText K first n0 n1 bs → WritesRegions L (λ m more. part m ++ more) (record { regions = []; notes = n1 }) (record { regions = rs; notes = n2 }) → WritesAll H tree n0 n2 ds
regions_framed H K L first part tree n0 n1 n2 bs r rs ds to_k to_l is made joined text rest = record {
  extends = extends_on n0.table n1.table n2.table text.extends rest.extends;
  regions = λ m e h.
      let e1 : Extends n1.table m.table = extends_on n1.table n2.table m.table rest.extends e in
      ap (regions_without is_copy) (is m h)
      ∙ ap (λ x. region x (regions_without is_copy (whole_regions (part m)))) (text.blocks m e1 (to_k m h) ∙ sym made)
      ∙ ap (region r) (rest_text m e h) ∙ ap regions_in (sym joined);
  pairs = λ m e h.
      let e1 : Extends n1.table m.table = extends_on n1.table n2.table m.table rest.extends e in
      ap (λ x. n0.pairs ++ regions_pairs x) (is m h)
      ∙ sym (append_assoc n0.pairs (blocks_pairs (first m)) (regions_pairs (whole_regions (part m))))
      ∙ ap (λ xs. xs ++ regions_pairs (whole_regions (part m))) (text.pairs m e1 (to_k m h))
      ∙ rest_pairs m e h;
}
  where
    rest_text : (m : Reading) → Extends n2.table m.table → H m → regions_without is_copy (whole_regions (part m)) ≡ regions_in rs
    rest_text m e h =
        ap (λ gs. regions_without is_copy (whole_regions gs)) (sym (and_nothing (part m))) ∙ ap (λ (o : RegionsOutcome). o.regions) (rest.written m e (to_l m h) []) ∙ sym (regions_alone rs)

    rest_pairs : (m : Reading) → Extends n2.table m.table → H m → n1.pairs ++ regions_pairs (whole_regions (part m)) ≡ n2.pairs
    rest_pairs m e h =
        ap (λ gs. n1.pairs ++ regions_pairs (whole_regions gs)) (sym (and_nothing (part m))) ∙ ap (λ (o : RegionsOutcome). o.pairs) (rest.written m e (to_l m h) []) ∙ and_nothing n2.pairs

-- The function

without_framed : (o : Op) (f : Frame) (rs ss : Regions) → regions_without is_copy rs ≡ ss → op_without is_copy (with_frame o f rs) ≡ with_frame o f ss
without_framed (op k results operands regions successors) f rs ss e = ap (λ x. with_frame (op k results operands regions successors) f x) e

pub tree_framed : (H : Reading → Type 0) (f : Frame) (o q : Op) (tree : Reading → Regions) (n0 n1 : NotesView) (rs : List Blocks) → ((x : Regions) → is_copy (with_frame o f x) ≡ false) → ((x : Regions) → regions_of (with_frame o f x) ≡ x)
    → q ≡ with_frame o f (regions_in rs) → WritesAll H tree n0 n1 rs → WritesTree H (λ m. with_frame o f (tree m)) n0 n1 q
tree_framed H f o q tree n0 n1 rs other left is w = record {
  extends = w.extends;
  op = λ m e h. without_framed o f (tree m) (regions_in rs) (w.regions m e h) ∙ sym is;
  pairs = λ m e h. ap (λ xs. n0.pairs ++ xs) (own_pairs (with_frame o f (tree m)) (other (tree m)) ∙ ap regions_pairs (left (tree m))) ∙ w.pairs m e h;
}

pub tree_kept : (H : Reading → Type 0) (o q : Op) (part : Reading → List (List HeldBlock)) (n0 n1 : NotesView) (rs : List Blocks) → is_copy o ≡ false → q ≡ with_regions o (regions_in rs)
    → WritesRegions H (λ m more. part m ++ more) (record { regions = []; notes = n0 }) (record { regions = rs; notes = n1 }) → WritesTree H (λ m. with_regions o (whole_regions (part m))) n0 n1 q
tree_kept H o q part n0 n1 rs other is w = record {
  extends = w.extends;
  op = λ m e h.
      without_regions o (whole_regions (part m)) (regions_in rs)
      (ap (λ gs. regions_without is_copy (whole_regions gs)) (sym (and_nothing (part m))) ∙ ap (λ (x : RegionsOutcome). x.regions) (w.written m e h []) ∙ sym (regions_alone rs)) ∙ sym is;
  pairs = λ m e h.
      ap (λ xs. n0.pairs ++ xs) (own_pairs (with_regions o (whole_regions (part m))) (copy_same o (whole_regions (part m)) ∙ other) ∙ ap regions_pairs (regions_left o (whole_regions (part m))))
      ∙ ap (λ gs. n0.pairs ++ regions_pairs (whole_regions gs)) (sym (and_nothing (part m))) ∙ ap (λ (x : RegionsOutcome). x.pairs) (w.written m e h []) ∙ and_nothing n1.pairs;
}

-- what a function is written as, by all that its slots and its framing say
pub written_by : (choices : Choices) (f : Op) (sizes : List ℕ) (n0 n1 : NotesView) (q : Op) → sizes ≡ op_sizes f
    → WritesTree (λ m. EachRegionIn (Said choices.slots.items sizes m) 1 (regions_of f)) (λ m. function_with (supply_of m.table) f (plain_framing choices.framing) (held_regions m.ways 1 (regions_of f))) n0 n1 q
    → IsWritten choices f n0 n1 q
written_by choices f sizes n0 n1 q counted w = record {
  extends = w.extends;
  op = λ u e ways types says c framing.
      let m : Reading = record { table = u; ways = ways; types = types } in
      sym (w.op m e (known m says)) ∙ ap (op_without is_copy) (same m c framing);
  pairs = λ u e ways types says c framing.
      let m : Reading = record { table = u; ways = ways; types = types } in
      sym (w.pairs m e (known m says)) ∙ ap (λ x. n0.pairs ++ op_pairs x) (same m c framing)
      ∙ ap (λ ps. n0.pairs ++ ps) (sym (copies_are (function_by (supply_of u) f c (held_regions ways 1 (regions_of f)))));
}
  where
    known : (m : Reading) → SlotsSay m.ways (supply_of m.table) m.types choices.slots.items f → EachRegionIn (Said choices.slots.items sizes m) 1 (regions_of f)
    known m says =
        regions_both (λ n o. SlotSays m.ways (supply_of m.table) m.types n o (get_or choices.slots.items n Keeps)) (Sized sizes) (Said choices.slots.items sizes m)
        (λ n o p s. record { slot = p; size = s }) 1 (regions_of f)
        (regions_known (λ n o. SlotSays m.ways (supply_of m.table) m.types n o (get_or choices.slots.items n Keeps)) 1 (regions_of f) [] says).0
        (function_sized sizes f counted)

    same : (m : Reading) (c : Option Choice) → plain_framing choices.framing ≡ framing_in c
        → function_with (supply_of m.table) f (plain_framing choices.framing) (held_regions m.ways 1 (regions_of f)) ≡ function_by (supply_of m.table) f c (held_regions m.ways 1 (regions_of f))
    same m c framing =
        ap (λ p. function_with (supply_of m.table) f p (held_regions m.ways 1 (regions_of f))) framing ∙ sym (by_framing (supply_of m.table) f c (held_regions m.ways 1 (regions_of f)))
