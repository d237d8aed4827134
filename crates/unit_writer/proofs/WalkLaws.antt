-- Steps of the walk.
use Rattle.std.proofs.Common.{◌≡◌, ℕ, pred, ◌+◌, ◌<◌, ◌≤◌, ◌==◌, Bool, true, false, List, [], ◌∷◌, ◌++◌, drop, get_or, length, map, refl, sym, ap, subst, ◌∙◌}
use Rattle.std.specs.Prelude.{◌&&◌, if◌then◌else◌}
use Rattle.std.proofs.lemmas.List.{drop_all}
use Rattle.tree_model.specs.declared.op_tree.OpTree.{OpTree}
use Rattle.tree_model.specs.declared.op_tree.BlockTree.{BlockTree}
use Rattle.plain_tree.specs.Ops.{Op, Ops, PlainBlock, blocks_in, ops_in, plain_op}
use Rattle.conversion_model.specs.Items.{HeldBlock, Item, held_blocks, held_in, items, op_items, op_size, ops_size, text_of, whole_items}
use Rattle.conversion_model.specs.Targets.{goes_with_holder, name_of}
use Rattle.unit_slots.specs.declared.slots.Slot.{Slot}
use Rattle.unit_writer.specs.Copies.{clean, pairs_of}
use Rattle.unit_writer.specs.Pages.{block_plain, blocks_before}
use Rattle.unit_writer.specs.Says.{EachBlockIn, EachOpIn, EachOpsIn, Reading, Said}
use Rattle.unit_writer.specs.Sizes.{behind_ops}
use Rattle.unit_writer.specs.Writes.{BlocksState, NotesView, Outcome, State, Writes, WritesBlocks, behind, blocks_behind, blocks_table, one_block, table_of}
use Rattle.unit_writer.proofs.Behind.{blocks_joined}
use Rattle.unit_writer.proofs.Going.{Ahead, ahead_as, ahead_ended, ahead_last, ahead_on}
use Rattle.unit_writer.proofs.Parts.{BlocksSaid, OpsSaid, blocks_held, ops_items}
use Rattle.unit_writer.proofs.SaysLaws.{behind_is, front, own}

module _ (slots : List Slot) (sizes : List ℕ) where
  abbrev P : Reading → ℕ → Op → Type 0
  P m = Said slots sizes m

  -- Operations

  module _ (held : Bool) (H : Reading → Type 0) (f : Reading → List Item → List Item) (old mid : State) (ops : List OpTree) (i n : ℕ) where
    pub ops_ended : length ops ≤ i → Ahead table_of behind H f old mid (OpsSaid slots sizes (drop i ops) n) (ops_items held (drop i ops) n) → Writes H f old mid
    ops_ended h a =
        ahead_ended table_of behind H (OpsSaid slots sizes (drop i ops) n) f (ops_items held (drop i ops) n) old mid a
        (λ m k more. ap (λ os. items m.ways held n (ops_in (map plain_op os)) more) (drop_all i ops h))

    module _ (x : OpTree) (within : i < length ops) (is : x ≡ get_or ops i x) where
      pub ops_stopped : (held && goes_with_holder (name_of (plain_op x))) ≡ true → Ahead table_of behind H f old mid (OpsSaid slots sizes (drop i ops) n) (ops_items held (drop i ops) n) → Writes H f old mid
      ops_stopped stops a =
          ahead_ended table_of behind H (OpsSaid slots sizes (drop i ops) n) f (ops_items held (drop i ops) n) old mid a
          (λ m k more.
          ap (λ os. items m.ways held n (ops_in (map plain_op os)) more) (front ops i x within is)
          ∙ ap (λ b. if b then more else op_items m.ways n (plain_op x) (items m.ways held (n + op_size (plain_op x)) (ops_in (map plain_op (drop (i + 1) ops))) more)) stops)

      pub ops_next : (new : State) (n' : ℕ) → (held && goes_with_holder (name_of (plain_op x))) ≡ false → n' ≡ n + get_or sizes n 0
          → Ahead table_of behind H f old mid (OpsSaid slots sizes (drop i ops) n) (ops_items held (drop i ops) n)
          → Writes (λ m. EachOpIn (P m) n (plain_op x)) (λ m more. op_items m.ways n (plain_op x) more) mid new
          → Ahead table_of behind H f old new (OpsSaid slots sizes (drop (i + 1) ops) n') (ops_items held (drop (i + 1) ops) n')
      ops_next new n' goes number a w =
          ahead_on table_of behind H (OpsSaid slots sizes (drop i ops) n) (OpsSaid slots sizes (drop (i + 1) ops) n') (λ m. EachOpIn (P m) n (plain_op x)) f (ops_items held (drop i ops) n) (ops_items held (drop (i + 1) ops) n') (λ m more. op_items m.ways n (plain_op x) more) old mid new a w
          (λ m k. (opened m k).0)
          (λ m k. subst (λ j. EachOpsIn (P m) j (ops_in (map plain_op (drop (i + 1) ops)))) (sym (numbered m k)) (opened m k).1)
          (λ m k more.
          ap (λ os. items m.ways held n (ops_in (map plain_op os)) more) (front ops i x within is)
          ∙ ap (λ b. if b then more else op_items m.ways n (plain_op x) (items m.ways held (n + op_size (plain_op x)) (ops_in (map plain_op (drop (i + 1) ops))) more)) goes
          ∙ ap (λ j. op_items m.ways n (plain_op x) (items m.ways held j (ops_in (map plain_op (drop (i + 1) ops))) more)) (sym (numbered m k)))
        where
          opened : (m : Reading) → OpsSaid slots sizes (drop i ops) n m → EachOpIn (P m) n (plain_op x) × EachOpsIn (P m) (n + op_size (plain_op x)) (ops_in (map plain_op (drop (i + 1) ops)))
          opened m k = subst (λ os. EachOpsIn (P m) n (ops_in (map plain_op os))) (front ops i x within is) k

          numbered : (m : Reading) → OpsSaid slots sizes (drop i ops) n m → n' ≡ n + op_size (plain_op x)
          numbered m k = number ∙ ap (λ j. n + j) (own (P m) n (plain_op x) (opened m k).0).size

  -- Blocks

  -- blocks behind others
  blocks_lifted : (L : Reading → Type 0) (p : Reading → List HeldBlock → List HeldBlock) (bs cs : List PlainBlock) (s t : NotesView)
      → WritesBlocks L p (record { blocks = []; notes = s }) (record { blocks = cs; notes = t }) → WritesBlocks L p (record { blocks = bs; notes = s }) (record { blocks = bs ++ cs; notes = t })
  blocks_lifted L p bs cs s t w = record {
    extends = w.extends;
    written = λ m e h more.
        ap (λ (o : Outcome). record { blocks = blocks_before bs o.blocks; pairs = o.pairs }) (w.written m e h more)
        ∙ ap (λ x. record { blocks = x; pairs = t.pairs ++ pairs_of (whole_items more) }) (sym (blocks_joined bs cs (text_of (clean (whole_items more))).blocks));
  }

  module _ (blocks : List BlockTree) (i n : ℕ) where
    -- the block at a place, and those behind it
    module _ (x : BlockTree) (within : i < length blocks) (is : x ≡ get_or blocks i x) where
      block_opened : (m : Reading) → BlocksSaid slots sizes (drop i blocks) n m → EachOpsIn (P m) n (block_plain x).ops × EachBlockIn (P m) (n + ops_size (block_plain x).ops) (blocks_in (map block_plain (drop (i + 1) blocks)))
      block_opened m k = subst (λ bs. EachBlockIn (P m) n (blocks_in (map block_plain bs))) (front blocks i x within is) k

      block_numbered : (n' : ℕ) → n' ≡ behind_ops sizes n (block_plain x).ops → (m : Reading) → BlocksSaid slots sizes (drop i blocks) n m → n' ≡ n + ops_size (block_plain x).ops
      block_numbered n' number m k = number ∙ behind_is slots sizes m n (block_plain x).ops (block_opened m k).0

      blocks_left : (n' : ℕ) → n' ≡ behind_ops sizes n (block_plain x).ops → (m : Reading) → BlocksSaid slots sizes (drop i blocks) n m → BlocksSaid slots sizes (drop (i + 1) blocks) n' m
      blocks_left n' number m k = subst (λ j. EachBlockIn (P m) j (blocks_in (map block_plain (drop (i + 1) blocks)))) (sym (block_numbered n' number m k)) (block_opened m k).1

      held_split : (n' : ℕ) → n' ≡ behind_ops sizes n (block_plain x).ops → (m : Reading) → BlocksSaid slots sizes (drop i blocks) n m
          → blocks_held (drop i blocks) n m ≡ record { label = (block_plain x).label; args = (block_plain x).args; held = items m.ways true n (block_plain x).ops; whole = items m.ways false n (block_plain x).ops } ∷ blocks_held (drop (i + 1) blocks) n' m
      held_split n' number m k =
          ap (λ bs. held_blocks m.ways n (blocks_in (map block_plain bs))) (front blocks i x within is)
          ∙ ap (λ j. record { label = (block_plain x).label; args = (block_plain x).args; held = items m.ways true n (block_plain x).ops; whole = items m.ways false n (block_plain x).ops } ∷ held_blocks m.ways j (blocks_in (map block_plain (drop (i + 1) blocks)))) (sym (block_numbered n' number m k))

    -- whole blocks
    module _ (H : Reading → Type 0) (f : Reading → List HeldBlock → List HeldBlock) (old : BlocksState) (list : List PlainBlock) (notes : NotesView) where
      abbrev pub BlocksAhead : ℕ → ℕ → BlocksState → Type 0
      BlocksAhead j k now = Ahead blocks_table blocks_behind H f old now (BlocksSaid slots sizes (drop j blocks) k) (λ m more. blocks_held (drop j blocks) k m ++ more)

      pub blocks_ended : length blocks ≤ i → BlocksAhead i n (record { blocks = list; notes = notes }) → WritesBlocks H f old (record { blocks = list; notes = notes })
      blocks_ended h a =
          ahead_ended blocks_table blocks_behind H (BlocksSaid slots sizes (drop i blocks) n) f (λ m more. blocks_held (drop i blocks) n m ++ more) old (record { blocks = list; notes = notes }) a
          (λ m k more. ap (λ bs. held_blocks m.ways n (blocks_in (map block_plain bs)) ++ more) (drop_all i blocks h))

      pub blocks_next : (x : BlockTree) → i < length blocks → x ≡ get_or blocks i x → (cs list' : List PlainBlock) (after : NotesView) (n' : ℕ) → n' ≡ behind_ops sizes n (block_plain x).ops → list' ≡ list ++ cs
          → BlocksAhead i n (record { blocks = list; notes = notes })
          → WritesBlocks (λ m. EachBlockIn (P m) n (one_block (block_plain x))) (λ m more. held_blocks m.ways n (one_block (block_plain x)) ++ more) (record { blocks = []; notes = notes }) (record { blocks = cs; notes = after })
          → BlocksAhead (i + 1) n' (record { blocks = list'; notes = after })
      blocks_next x within is cs list' after n' number pushed a w =
          subst (λ bs. BlocksAhead (i + 1) n' (record { blocks = bs; notes = after })) (sym pushed)
          (ahead_on blocks_table blocks_behind H (BlocksSaid slots sizes (drop i blocks) n) (BlocksSaid slots sizes (drop (i + 1) blocks) n') (λ m. EachBlockIn (P m) n (one_block (block_plain x)))
          f (λ m more. blocks_held (drop i blocks) n m ++ more) (λ m more. blocks_held (drop (i + 1) blocks) n' m ++ more) (λ m more. held_blocks m.ways n (one_block (block_plain x)) ++ more)
          old (record { blocks = list; notes = notes }) (record { blocks = list ++ cs; notes = after }) a
          (blocks_lifted (λ m. EachBlockIn (P m) n (one_block (block_plain x))) (λ m more. held_blocks m.ways n (one_block (block_plain x)) ++ more) list cs notes after w)
          (λ m k. ((block_opened x within is m k).0, tt))
          (blocks_left x within is n' number)
          (λ m k more. ap (λ hs. hs ++ more) (held_split x within is n' number m k)))

    -- a block that is held
    module _ (H : Reading → Type 0) (f : Reading → List Item → List Item) (old mid : State) (b : ℕ) where
      abbrev pub HeldAhead : ℕ → ℕ → ℕ → Type 0
      HeldAhead c j k = Ahead table_of behind H f old mid (BlocksSaid slots sizes (drop j blocks) k) (λ m more. held_in c (blocks_held (drop j blocks) k m) more)

      pub held_ended : length blocks ≤ i → HeldAhead b i n → Writes H f old mid
      held_ended h a =
          ahead_ended table_of behind H (BlocksSaid slots sizes (drop i blocks) n) f (λ m more. held_in b (blocks_held (drop i blocks) n m) more) old mid a
          (λ m k more. ap (λ bs. held_in b (held_blocks m.ways n (blocks_in (map block_plain bs))) more) (drop_all i blocks h))

      pub held_next : (x : BlockTree) → i < length blocks → x ≡ get_or blocks i x → (n' c : ℕ) → n' ≡ behind_ops sizes n (block_plain x).ops → (b == 0) ≡ false → c ≡ pred b → HeldAhead b i n → HeldAhead c (i + 1) n'
      held_next x within is n' c number other less a =
          ahead_as table_of behind H (BlocksSaid slots sizes (drop i blocks) n) (BlocksSaid slots sizes (drop (i + 1) blocks) n') f (λ m more. held_in b (blocks_held (drop i blocks) n m) more) (λ m more. held_in c (blocks_held (drop (i + 1) blocks) n' m) more) old mid a
          (blocks_left x within is n' number)
          (λ m k more.
          ap (λ hs. held_in b hs more) (held_split x within is n' number m k)
          ∙ ap (λ t. if t then items m.ways true n (block_plain x).ops more else held_in (pred b) (blocks_held (drop (i + 1) blocks) n' m) more) other
          ∙ ap (λ d. held_in d (blocks_held (drop (i + 1) blocks) n' m) more) (sym less))

      pub held_here : (x : BlockTree) → i < length blocks → x ≡ get_or blocks i x → (inner : Ops) (new : State) → inner ≡ (block_plain x).ops → (b == 0) ≡ true → HeldAhead b i n
          → Writes (λ m. EachOpsIn (P m) n inner) (λ m more. items m.ways true n inner more) mid new → Writes H f old new
      held_here x within is inner new same here a w =
          ahead_last table_of behind H (BlocksSaid slots sizes (drop i blocks) n) (λ m. EachOpsIn (P m) n (block_plain x).ops) f (λ m more. held_in b (blocks_held (drop i blocks) n m) more) (λ m more. items m.ways true n (block_plain x).ops more) old mid new a
          (subst (λ y. Writes (λ m. EachOpsIn (P m) n y) (λ m more. items m.ways true n y more) mid new) same w)
          (λ m k. (block_opened x within is m k).0)
          (λ m k more.
          ap (λ hs. held_in b hs more) (held_split x within is (behind_ops sizes n (block_plain x).ops) refl m k)
          ∙ ap (λ t. if t then items m.ways true n (block_plain x).ops more else held_in (pred b) (blocks_held (drop (i + 1) blocks) (behind_ops sizes n (block_plain x).ops) m) more) here)
