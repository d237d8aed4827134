-- Steps of the walk through regions and kept operations.
use Rattle.std.proofs.Common.{◌≡◌, ℕ, pred, ◌+◌, ◌<◌, ◌≤◌, ◌==◌, true, false, List, [], ◌∷◌, ◌++◌, drop, get_or, length, map, refl, sym, ap, subst, ◌∙◌}
use Rattle.std.specs.Prelude.{if◌then◌else◌}
use Rattle.std.proofs.lemmas.List.{append_assoc, drop_all}
use Rattle.tree_model.specs.declared.op_tree.RegionTree.{RegionTree}
use Rattle.plain_tree.specs.Ops.{Op, Ops, Regions, region, Blocks, block, PlainBlock, Values, blocks_in, regions_in}
use Rattle.conversion_model.specs.Conversion.{regions_of}
use Rattle.conversion_model.specs.Items.{HeldBlock, Item, Puts, blocks_size, held_at, held_blocks, held_in, held_regions, items, text_of, whole_items, whole_regions}
use Rattle.conversion_model.specs.Uses.{is_copy, regions_without}
use Rattle.unit_slots.specs.declared.slots.Slot.{Slot}
use Rattle.unit_writer.specs.Copies.{clean, pairs_of, regions_pairs}
use Rattle.unit_writer.specs.Pages.{PageView, begun, ended, region_plain, regions_before, with_op}
use Rattle.unit_writer.specs.Says.{EachBlockIn, EachOpsIn, EachRegionIn, Reading, Said}
use Rattle.unit_writer.specs.Sizes.{behind_blocks}
use Rattle.unit_writer.specs.Writes.{NotesView, Outcome, RegionsOutcome, RegionsState, State, Writes, WritesBlocks, WritesRegions, behind, blocks_behind, one_block, regions_behind, regions_table, table_of, with_regions}
use Rattle.unit_writer.proofs.Behind.{and_nothing, copy_same, end_behind, put_behind, regions_left, without_regions}
use Rattle.unit_writer.proofs.Going.{Ahead, ahead_as, ahead_ended, ahead_last, ahead_on}
use Rattle.unit_writer.proofs.Parts.{RegionsSaid, regions_held}
use Rattle.unit_writer.proofs.SaysLaws.{blocks_behind_is, front}
use Rattle.unit_writer.proofs.TextLaws.{blocks_alone, regions_alone, regions_pushed, whole_clean, whole_first, whole_pairs}

abbrev both : Regions → List (ℕ × ℕ) → RegionsOutcome
both b p = record { regions = b; pairs = p }

regions_outcome : (b c : Regions) (p q : List (ℕ × ℕ)) → b ≡ c → p ≡ q → both b p ≡ both c q
regions_outcome b c p q e f = ap (λ x. both x p) e ∙ ap (both c) f

-- what whole blocks come to is a region
pub region_is : (hs : List HeldBlock) (bs : List PlainBlock) (s t : NotesView) → blocks_behind (record { blocks = []; notes = s }) (hs ++ []) ≡ blocks_behind (record { blocks = bs; notes = t }) []
    → (text_of (clean (whole_items hs))).blocks ≡ blocks_in bs
region_is hs bs s t e =
    ap (λ gs. (text_of (clean (whole_items gs))).blocks) (sym (and_nothing hs)) ∙ ap (λ (o : Outcome). o.blocks) e ∙ sym (blocks_alone bs)

pub region_pairs : (hs : List HeldBlock) (bs : List PlainBlock) (s t : NotesView) → blocks_behind (record { blocks = []; notes = s }) (hs ++ []) ≡ blocks_behind (record { blocks = bs; notes = t }) []
    → s.pairs ++ pairs_of (whole_items hs) ≡ t.pairs
region_pairs hs bs s t e =
    ap (λ gs. s.pairs ++ pairs_of (whole_items gs)) (sym (and_nothing hs)) ∙ ap (λ (o : Outcome). o.pairs) e ∙ and_nothing t.pairs

-- a region more
one_region : (hs : List HeldBlock) (rest : List (List HeldBlock)) (list : List Blocks) (r : Blocks) (bs : List PlainBlock) (s t : NotesView)
    → blocks_behind (record { blocks = []; notes = s }) (hs ++ []) ≡ blocks_behind (record { blocks = bs; notes = t }) [] → r ≡ blocks_in bs
    → regions_behind (record { regions = list; notes = s }) (hs ∷ rest) ≡ regions_behind (record { regions = list ++ r ∷ []; notes = t }) rest
one_region hs rest list r bs s t e is =
    let others : Regions = regions_without is_copy (whole_regions rest) in
    let more : List (ℕ × ℕ) = regions_pairs (whole_regions rest) in
    regions_outcome (regions_before list (regions_without is_copy (whole_regions (hs ∷ rest)))) (regions_before (list ++ r ∷ []) others) (s.pairs ++ regions_pairs (whole_regions (hs ∷ rest))) (t.pairs ++ more)
    (ap (λ x. regions_before list (region x others)) (whole_clean hs ∙ region_is hs bs s t e ∙ sym is) ∙ sym (regions_pushed list r others))
    (ap (λ x. s.pairs ++ (x ++ more)) (whole_pairs hs) ∙ sym (append_assoc s.pairs (pairs_of (whole_items hs)) more) ∙ ap (λ x. x ++ more) (region_pairs hs bs s t e))

-- A block

pub block_written : (slots : List Slot) (sizes : List ℕ) (n : ℕ) (b : PlainBlock) (ops : Ops) (first page : PageView) (s t : NotesView) (label : ℕ) (args : Values) (bs : List PlainBlock)
    → ops ≡ b.ops → label ≡ b.label → args ≡ b.args → first ≡ begun label args → bs ≡ ended page
    → Writes (λ m. EachOpsIn (Said slots sizes m) n ops) (λ m more. items m.ways false n ops more) (record { page = first; notes = s }) (record { page = page; notes = t })
    → WritesBlocks (λ m. EachBlockIn (Said slots sizes m) n (one_block b)) (λ m more. held_blocks m.ways n (one_block b) ++ more) (record { blocks = []; notes = s }) (record { blocks = bs; notes = t })
block_written slots sizes n b ops first page s t label args bs same here with_args start done w = record {
  extends = w.extends;
  written = λ m e h more.
      let whole : List Item = items m.ways false n b.ops (whole_items more) in
      ap (λ x. record { blocks = block x b.args (text_of (clean whole)).ops (text_of (clean whole)).blocks; pairs = s.pairs ++ pairs_of whole }) (sym here)
      ∙ ap (λ x. record { blocks = block label x (text_of (clean whole)).ops (text_of (clean whole)).blocks; pairs = s.pairs ++ pairs_of whole }) (sym with_args)
      ∙ begun_so.written m e h.0 (whole_items more)
      ∙ ap (λ x. record { blocks = x; pairs = t.pairs ++ pairs_of (whole_items more) }) (end_behind page bs (text_of (clean (whole_items more))) done (whole_first more));
}
  where
    begun_so : Writes (λ m. EachOpsIn (Said slots sizes m) n b.ops) (λ m more. items m.ways false n b.ops more) (record { page = begun label args; notes = s }) (record { page = page; notes = t })
    begun_so =
        subst (λ p. Writes (λ m. EachOpsIn (Said slots sizes m) n b.ops) (λ m more. items m.ways false n b.ops more) (record { page = p; notes = s }) (record { page = page; notes = t })) start
        (subst (λ os. Writes (λ m. EachOpsIn (Said slots sizes m) n os) (λ m more. items m.ways false n os more) (record { page = first; notes = s }) (record { page = page; notes = t })) same w)

module _ (slots : List Slot) (sizes : List ℕ) where
  abbrev P : Reading → ℕ → Op → Type 0
  P m = Said slots sizes m

  module _ (regions : List RegionTree) (i n : ℕ) where
    module _ (x : RegionTree) (within : i < length regions) (is : x ≡ get_or regions i x) where
      region_opened : (m : Reading) → RegionsSaid slots sizes (drop i regions) n m → EachBlockIn (P m) n (region_plain x) × EachRegionIn (P m) (n + blocks_size (region_plain x)) (regions_in (map region_plain (drop (i + 1) regions)))
      region_opened m k = subst (λ rs. EachRegionIn (P m) n (regions_in (map region_plain rs))) (front regions i x within is) k

      region_numbered : (n' : ℕ) → n' ≡ behind_blocks sizes n (region_plain x) → (m : Reading) → RegionsSaid slots sizes (drop i regions) n m → n' ≡ n + blocks_size (region_plain x)
      region_numbered n' number m k = number ∙ blocks_behind_is slots sizes m n (region_plain x) (region_opened m k).0

      regions_rest : (n' : ℕ) → n' ≡ behind_blocks sizes n (region_plain x) → (m : Reading) → RegionsSaid slots sizes (drop i regions) n m → RegionsSaid slots sizes (drop (i + 1) regions) n' m
      regions_rest n' number m k = subst (λ j. EachRegionIn (P m) j (regions_in (map region_plain (drop (i + 1) regions)))) (sym (region_numbered n' number m k)) (region_opened m k).1

      held_split : (n' : ℕ) → n' ≡ behind_blocks sizes n (region_plain x) → (m : Reading) → RegionsSaid slots sizes (drop i regions) n m → regions_held (drop i regions) n m ≡ held_blocks m.ways n (region_plain x) ∷ regions_held (drop (i + 1) regions) n' m
      held_split n' number m k =
          ap (λ rs. held_regions m.ways n (regions_in (map region_plain rs))) (front regions i x within is)
          ∙ ap (λ j. held_blocks m.ways n (region_plain x) ∷ held_regions m.ways j (regions_in (map region_plain (drop (i + 1) regions)))) (sym (region_numbered n' number m k))

    -- whole regions
    module _ (H : Reading → Type 0) (f : Reading → List (List HeldBlock) → List (List HeldBlock)) (old : RegionsState) (list : List Blocks) (notes : NotesView) where
      abbrev pub RegionsAhead : ℕ → ℕ → RegionsState → Type 0
      RegionsAhead j k now = Ahead regions_table regions_behind H f old now (RegionsSaid slots sizes (drop j regions) k) (λ m more. regions_held (drop j regions) k m ++ more)

      pub regions_ended : length regions ≤ i → RegionsAhead i n (record { regions = list; notes = notes }) → WritesRegions H f old (record { regions = list; notes = notes })
      regions_ended h a =
          ahead_ended regions_table regions_behind H (RegionsSaid slots sizes (drop i regions) n) f (λ m more. regions_held (drop i regions) n m ++ more) old (record { regions = list; notes = notes }) a
          (λ m k more. ap (λ rs. held_regions m.ways n (regions_in (map region_plain rs)) ++ more) (drop_all i regions h))

      pub regions_next : (x : RegionTree) → i < length regions → x ≡ get_or regions i x → (inner : Blocks) (bs : List PlainBlock) (r : Blocks) (list' : List Blocks) (after : NotesView) (n' : ℕ)
          → inner ≡ region_plain x → n' ≡ behind_blocks sizes n (region_plain x) → r ≡ blocks_in bs → list' ≡ list ++ r ∷ [] → RegionsAhead i n (record { regions = list; notes = notes })
          → WritesBlocks (λ m. EachBlockIn (P m) n inner) (λ m more. held_blocks m.ways n inner ++ more) (record { blocks = []; notes = notes }) (record { blocks = bs; notes = after })
          → RegionsAhead (i + 1) n' (record { regions = list'; notes = after })
      regions_next x within is inner bs r list' after n' same number made pushed a w =
          subst (λ rs. RegionsAhead (i + 1) n' (record { regions = rs; notes = after })) (sym pushed)
          (ahead_on regions_table regions_behind H (RegionsSaid slots sizes (drop i regions) n) (RegionsSaid slots sizes (drop (i + 1) regions) n') (λ m. EachBlockIn (P m) n (region_plain x))
          f (λ m more. regions_held (drop i regions) n m ++ more) (λ m more. regions_held (drop (i + 1) regions) n' m ++ more) (λ m more. held_blocks m.ways n (region_plain x) ∷ more)
          old (record { regions = list; notes = notes }) (record { regions = list ++ r ∷ []; notes = after }) a
          (record { extends = w.extends; written = λ m e h more. one_region (held_blocks m.ways n (region_plain x)) more list r bs notes after (here.written m e h []) made })
          (λ m k. (region_opened x within is m k).0)
          (regions_rest x within is n' number)
          (λ m k more. ap (λ hs. hs ++ more) (held_split x within is n' number m k)))
        where
          here : WritesBlocks (λ m. EachBlockIn (P m) n (region_plain x)) (λ m more. held_blocks m.ways n (region_plain x) ++ more) (record { blocks = []; notes = notes }) (record { blocks = bs; notes = after })
          here = subst (λ y. WritesBlocks (λ m. EachBlockIn (P m) n y) (λ m more. held_blocks m.ways n y ++ more) (record { blocks = []; notes = notes }) (record { blocks = bs; notes = after })) same w

    -- a block of a region that is held
    module _ (H : Reading → Type 0) (f : Reading → List Item → List Item) (old mid : State) (r b : ℕ) where
      abbrev pub HeldAhead : ℕ → ℕ → ℕ → Type 0
      HeldAhead c j k = Ahead table_of behind H f old mid (RegionsSaid slots sizes (drop j regions) k) (λ m more. held_at c b (regions_held (drop j regions) k m) more)

      pub held_ended : length regions ≤ i → HeldAhead r i n → Writes H f old mid
      held_ended h a =
          ahead_ended table_of behind H (RegionsSaid slots sizes (drop i regions) n) f (λ m more. held_at r b (regions_held (drop i regions) n m) more) old mid a
          (λ m k more. ap (λ rs. held_at r b (held_regions m.ways n (regions_in (map region_plain rs))) more) (drop_all i regions h))

      pub held_next : (x : RegionTree) → i < length regions → x ≡ get_or regions i x → (n' c : ℕ) → n' ≡ behind_blocks sizes n (region_plain x) → (r == 0) ≡ false → c ≡ pred r → HeldAhead r i n → HeldAhead c (i + 1) n'
      held_next x within is n' c number other less a =
          ahead_as table_of behind H (RegionsSaid slots sizes (drop i regions) n) (RegionsSaid slots sizes (drop (i + 1) regions) n') f (λ m more. held_at r b (regions_held (drop i regions) n m) more) (λ m more. held_at c b (regions_held (drop (i + 1) regions) n' m) more) old mid a
          (regions_rest x within is n' number)
          (λ m k more.
          ap (λ hs. held_at r b hs more) (held_split x within is n' number m k)
          ∙ ap (λ t. if t then held_in b (held_blocks m.ways n (region_plain x)) more else held_at (pred r) b (regions_held (drop (i + 1) regions) n' m) more) other
          ∙ ap (λ d. held_at d b (regions_held (drop (i + 1) regions) n' m) more) (sym less))

      pub held_here : (x : RegionTree) → i < length regions → x ≡ get_or regions i x → (inner : Blocks) (new : State) → inner ≡ region_plain x → (r == 0) ≡ true → HeldAhead r i n
          → Writes (λ m. EachBlockIn (P m) n inner) (λ m more. held_in b (held_blocks m.ways n inner) more) mid new → Writes H f old new
      held_here x within is inner new same here a w =
          ahead_last table_of behind H (RegionsSaid slots sizes (drop i regions) n) (λ m. EachBlockIn (P m) n (region_plain x)) f (λ m more. held_at r b (regions_held (drop i regions) n m) more) (λ m more. held_in b (held_blocks m.ways n (region_plain x)) more) old mid new a
          (subst (λ y. Writes (λ m. EachBlockIn (P m) n y) (λ m more. held_in b (held_blocks m.ways n y) more) mid new) same w)
          (λ m k. (region_opened x within is m k).0)
          (λ m k more.
          ap (λ hs. held_at r b hs more) (held_split x within is (behind_blocks sizes n (region_plain x)) refl m k)
          ∙ ap (λ t. if t then held_in b (held_blocks m.ways n (region_plain x)) more else held_at (pred r) b (regions_held (drop (i + 1) regions) (behind_blocks sizes n (region_plain x)) m) more) here)

-- A kept operation

pub kept_written : (H : Reading → Type 0) (part : Reading → List (List HeldBlock)) (o : Op) (rs : List Blocks) (s new : State)
    → is_copy o ≡ false → new.page ≡ with_op s.page (with_regions o (regions_in rs))
    → WritesRegions H (λ m more. part m ++ more) (record { regions = []; notes = s.notes }) (record { regions = rs; notes = new.notes })
    → Writes H (λ m more. Puts (with_regions o (whole_regions (part m))) ∷ more) s new
kept_written H part o rs s new other page w = record {
  extends = w.extends;
  written = λ m e h more.
      let hs : List (List HeldBlock) = part m in
      let all : regions_behind (record { regions = []; notes = s.notes }) (hs ++ []) ≡ regions_behind (record { regions = rs; notes = new.notes }) [] = w.written m e h [] in
      let text : regions_without is_copy (whole_regions hs) ≡ regions_in rs =
      ap (λ gs. regions_without is_copy (whole_regions gs)) (sym (and_nothing hs)) ∙ ap (λ (o : RegionsOutcome). o.regions) all ∙ sym (regions_alone rs) in
      let noted : s.notes.pairs ++ regions_pairs (whole_regions hs) ≡ new.notes.pairs =
      ap (λ gs. s.notes.pairs ++ regions_pairs (whole_regions gs)) (sym (and_nothing hs)) ∙ ap (λ (o : RegionsOutcome). o.pairs) all ∙ and_nothing new.notes.pairs in
      put_behind s new (with_regions o (whole_regions hs)) (with_regions o (regions_in rs)) (regions_pairs (whole_regions hs))
      (copy_same o (whole_regions hs) ∙ other) (without_regions o (whole_regions hs) (regions_in rs) text) (ap regions_pairs (regions_left o (whole_regions hs))) page (sym noted) more;
}

-- with the number of its first inner operation, over the code's regions
pub kept_put : (slots : List Slot) (sizes : List ℕ) (n first : ℕ) (o : Op) (inner : Regions) (rs : List Blocks) (s new : State) → first ≡ n + 1 → inner ≡ regions_of o
    → is_copy o ≡ false → new.page ≡ with_op s.page (with_regions o (regions_in rs))
    → WritesRegions (λ m. EachRegionIn (Said slots sizes m) first inner) (λ m more. held_regions m.ways first inner ++ more) (record { regions = []; notes = s.notes }) (record { regions = rs; notes = new.notes })
    → Writes (λ m. EachRegionIn (Said slots sizes m) (n + 1) (regions_of o)) (λ m more. Puts (with_regions o (whole_regions (held_regions m.ways (n + 1) (regions_of o)))) ∷ more) s new
kept_put slots sizes n first o inner rs s new place same other page w =
    kept_written (λ m. EachRegionIn (Said slots sizes m) (n + 1) (regions_of o)) (λ m. held_regions m.ways (n + 1) (regions_of o)) o rs s new other page
    (subst (λ y. WritesRegions (λ m. EachRegionIn (Said slots sizes m) (n + 1) y) (λ m more. held_regions m.ways (n + 1) y ++ more) (record { regions = []; notes = s.notes }) (record { regions = rs; notes = new.notes })) same
    (subst (λ k. WritesRegions (λ m. EachRegionIn (Said slots sizes m) k inner) (λ m more. held_regions m.ways k inner ++ more) (record { regions = []; notes = s.notes }) (record { regions = rs; notes = new.notes })) place w))
