-- Cells of blocks that are read and written.
use Rattle.std.proofs.Common.{◌≡◌, ℕ, zero, suc, ◌<◌, ◌≤◌, List, [], ◌∷◌, ◌++◌, length, get_or, set, take, map, refl, sym, ap, subst, ◌∙◌, arith}
use Rattle.std.proofs.lemmas.Grind.{common_steps}
use Rattle.std.proofs.lemmas.List.{map-set, map-append, take-map, set-get_or, take_at, get_or-set_same, get_or-set_other, get_or_default, length-map}
use Rattle.std.specs.Prelude.{insert, Result, Ok, Err, OnOk, OnErr}
use Rattle.std.specs.declared.alloc.AllocError.{AllocError}
use Rattle.edit_list.specs.Listed.{Listed}
use Rattle.edit_model.proofs.ClosedLaws.{below_insert, closed_ops, closed_args, closed_blocks}
use Rattle.key_model.specs.declared.handle.Handle.{Handle}
use Rattle.flat_model.specs.declared.nodes.OpNode.{OpNode}
use Rattle.flat_model.specs.Flat.{Flat, BlockNode, no_op, no_block, AllBelow, IsClosed}
use Rattle.edit_model.specs.Writes.{with_ops, with_operand, with_args, with_block, with_blocks}
use Rattle.edit_model.specs.Rooms.{IsRoomier}
use Rattle.ir_arena.specs.declared.cells.BlockCell.{BlockCell}
use Rattle.ir_arena.specs.declared.cells.RegionCell.{RegionCell}
use Rattle.ir_arena.specs.Arena.{block_node, region_blocks, flat_of, rooms_of}

-- the node of a cell that was read
pub shown_block : (cs : List BlockCell) (b : ℕ) (c : BlockCell) → b < length cs → c ≡ get_or cs b c → get_or (map block_node cs) b no_block ≡ block_node c
shown_block [] b c h e = absurd (omega arith)
shown_block (x ∷ cs) zero c h e = ap block_node (sym e)
shown_block (x ∷ cs) (suc b) c h e = shown_block cs b c (omega arith) e

-- a cell that has other operations now
pub ops_written : (ops : List OpNode) (cs : List BlockCell) (rs : List RegionCell) (types : List Handle) (root b : ℕ) (c d : BlockCell) → b < length cs → c ≡ get_or cs b c → d.args ≡ c.args
    → flat_of ops (set cs b d) rs types root ≡ with_ops (flat_of ops cs rs types root) b d.ops.list
ops_written ops cs rs types root b c d h e a = let f : Flat = flat_of ops cs rs types root in
    let n : BlockNode = record { args = d.args.items; ops = d.ops.list } in
    ap (λ bs. record f { blocks = bs }) (map-set block_node cs b d)
    ∙ ap (λ (m : BlockNode). record f { blocks = set f.blocks b (record m { ops = d.ops.list }) }) (ap (λ v. let m : BlockNode = record { args = v.items; ops = c.ops.list } in m) a ∙ sym (shown_block cs b c h e))

room_at : (cs : List BlockCell) (b : ℕ) (c : BlockCell) → b < length cs → c ≡ get_or cs b c → get_or (map (λ x. x.ops.room) cs) b 0 ≡ c.ops.room
room_at [] b c h e = absurd (omega arith)
room_at (x ∷ cs) zero c h e = ap (λ (y : BlockCell). y.ops.room) (sym e)
room_at (x ∷ cs) (suc b) c h e = room_at cs b c (omega arith) e

pub room_read : (cs : List BlockCell) (b : ℕ) (c : BlockCell) → b < length cs → c ≡ get_or cs b c → get_or (map (λ x. x.ops.room) cs) b 0 ≡ c.ops.room
room_read cs b c h e = room_at cs b c h e

roomier_at : (cs : List BlockCell) (b : ℕ) (d : BlockCell) (k : ℕ) → ((c : BlockCell) → c ≡ get_or cs b c → b < length cs → c.ops.room ≤ d.ops.room) → get_or (map (λ x. x.ops.room) cs) k 0 ≤ get_or (map (λ x. x.ops.room) (set cs b d)) k 0
roomier_at [] b d k r = omega arith
roomier_at (x ∷ cs) zero d zero r = r x refl (omega arith)
roomier_at (x ∷ cs) zero d (suc k) r = omega arith
roomier_at (x ∷ cs) (suc b) d zero r = omega arith
roomier_at (x ∷ cs) (suc b) d (suc k) r = roomier_at cs b d k (λ c e h. r c e (omega arith))

pub roomier_set : (cs : List BlockCell) (b : ℕ) (c d : BlockCell) → c ≡ get_or cs b c → b < length cs → c.ops.room ≤ d.ops.room → IsRoomier (map (λ x. x.ops.room) cs) (map (λ x. x.ops.room) (set cs b d))
roomier_set cs b c d e l h = record { room = λ k. roomier_at cs b d k (λ x y m. subst (λ (z : BlockCell). z.ops.room ≤ d.ops.room) (e ∙ get_or_default cs b c x l ∙ sym y) h) }

pub room_written : (cs : List BlockCell) (b : ℕ) (d : BlockCell) → b < length cs → get_or (map (λ x. x.ops.room) (set cs b d)) b 0 ≡ d.ops.room
room_written [] b d h = absurd (omega arith)
room_written (x ∷ cs) zero d h = refl
room_written (x ∷ cs) (suc b) d h = room_written cs b d (omega arith)

-- an operation that was read
pub shown_op : (os : List OpNode) (i : ℕ) (o : OpNode) → i < length os → o ≡ get_or os i o → get_or os i no_op ≡ o
shown_op os i o h e = get_or_default os i no_op o h ∙ sym e

-- a cell whose operations stay below a bound
pub closed_written : (ops : List OpNode) (cs : List BlockCell) (rs : List RegionCell) (types : List Handle) (root b : ℕ) (c : BlockCell) (e : Listed) → b < length cs → c ≡ get_or cs b c
    → IsClosed (flat_of ops cs rs types root) → (AllBelow (length ops) c.ops.list → AllBelow (length ops) e.list)
    → IsClosed (flat_of ops (set cs b (record { args = c.args; ops = e })) rs types root)
closed_written ops cs rs types root b c e h d k g = let f : Flat = flat_of ops cs rs types root in let n : BlockCell = record { args = c.args; ops = e } in
    let l : b < length f.blocks = omega (arith, length-map cs block_node) in
    subst IsClosed (sym (ops_written ops cs rs types root b c n h d refl))
    (closed_ops f b e.list k l (g (subst (λ (m : BlockNode). AllBelow (length ops) m.ops) (shown_block cs b c h d) (k.within.block b l).ops)))

-- a number was put into a list, or it stayed as it was
pub listed_below : (r : Result (Unit {0}) AllocError) (m : ℕ) (old new : Listed) (at x : ℕ) → OnOk r (new.list ≡ insert old.list at x) → OnErr r (new ≡ old) → x < m → AllBelow m old.list → AllBelow m new.list
listed_below (Ok u) m old new at x e d h a = subst (AllBelow m) (sym e) (below_insert m old.list at x a h)
listed_below (Err u) m old new at x e d h a = subst (λ (l : Listed). AllBelow m l.list) (sym d) a

pub operand_written : (ops : List OpNode) (cs : List BlockCell) (rs : List RegionCell) (types : List Handle) (root op at value : ℕ) (n : OpNode) (ys : List ℕ) → op < length ops → n ≡ get_or ops op n
    → ys ≡ set n.operands at value → flat_of (set ops op (record n { operands = ys })) cs rs types root ≡ with_operand (flat_of ops cs rs types root) op at value
operand_written ops cs rs types root op at value n ys h e d = let f : Flat = flat_of ops cs rs types root in
    ap (λ zs. record f { ops = set ops op (record n { operands = zs }) }) d
    ∙ ap (λ (m : OpNode). record f { ops = set ops op (record m { operands = set m.operands at value }) }) (sym (shown_op ops op n h e))

-- a cell that has other arguments now
pub args_written : (ops : List OpNode) (cs : List BlockCell) (rs : List RegionCell) (types : List Handle) (root b : ℕ) (c d : BlockCell) → b < length cs → c ≡ get_or cs b c → d.ops ≡ c.ops
    → flat_of ops (set cs b d) rs types root ≡ with_args (flat_of ops cs rs types root) b d.args.items
args_written ops cs rs types root b c d h e a = let f : Flat = flat_of ops cs rs types root in
    ap (λ bs. record f { blocks = bs }) (map-set block_node cs b d)
    ∙ ap (λ (m : BlockNode). record f { blocks = set f.blocks b (record m { args = d.args.items }) }) (ap (λ (l : Listed). let m : BlockNode = record { args = c.args.items; ops = l.list } in m) a ∙ sym (shown_block cs b c h e))

-- the room of cells, where one is written
pub rooms_written : (cs : List BlockCell) (b : ℕ) (d : BlockCell) → rooms_of (set cs b d) ≡ set (rooms_of cs) b d.ops.room
rooms_written cs b d = map-set (λ c. c.ops.room) cs b d

pub rooms_kept : (cs : List BlockCell) (b : ℕ) (c d : BlockCell) → b < length cs → c ≡ get_or cs b c → d.ops ≡ c.ops → rooms_of (set cs b d) ≡ rooms_of cs
rooms_kept cs b c d h e a = rooms_written cs b d ∙ ap (set (rooms_of cs) b) (ap (λ (l : Listed). l.room) a ∙ sym (room_read cs b c h e)) ∙ set-get_or (rooms_of cs) b 0

pub below_is : (bound : ℕ) (xs ys : List ℕ) → xs ≡ ys → AllBelow bound ys → AllBelow bound xs
below_is bound xs ys e a = subst (AllBelow bound) (sym e) a

-- a cell whose arguments are below a bound
pub closed_args_written : (ops : List OpNode) (cs : List BlockCell) (rs : List RegionCell) (types : List Handle) (root b : ℕ) (c d : BlockCell) → b < length cs → c ≡ get_or cs b c → d.ops ≡ c.ops
    → IsClosed (flat_of ops cs rs types root) → AllBelow (length types) d.args.items → IsClosed (flat_of ops (set cs b d) rs types root)
closed_args_written ops cs rs types root b c d h e a k l = let f : Flat = flat_of ops cs rs types root in
    subst IsClosed (sym (args_written ops cs rs types root b c d h e a)) (closed_args f b d.args.items k (omega (arith, length-map cs block_node)) l)

-- a region that was read, and one that is written
pub shown_region : (rs : List RegionCell) (r : ℕ) (c : RegionCell) → r < length rs → c ≡ get_or rs r c → get_or (map region_blocks rs) r [] ≡ c.blocks.items
shown_region [] r c h e = absurd (omega arith)
shown_region (x ∷ rs) zero c h e = ap region_blocks (sym e)
shown_region (x ∷ rs) (suc r) c h e = shown_region rs r c (omega arith) e

pub region_written : (ops : List OpNode) (cs : List BlockCell) (rs : List RegionCell) (types : List Handle) (root r : ℕ) (d : RegionCell) → flat_of ops cs (set rs r d) types root ≡ with_blocks (flat_of ops cs rs types root) r d.blocks.items
region_written ops cs rs types root r d = let f : Flat = flat_of ops cs rs types root in ap (λ bs. record f { regions = bs }) (map-set region_blocks rs r d)

pub closed_region_written : (ops : List OpNode) (cs : List BlockCell) (rs : List RegionCell) (types : List Handle) (root r : ℕ) (d : RegionCell) → IsClosed (flat_of ops cs rs types root)
    → AllBelow (length (map block_node cs)) d.blocks.items → IsClosed (flat_of ops cs (set rs r d) types root)
closed_region_written ops cs rs types root r d k l = let f : Flat = flat_of ops cs rs types root in
    subst IsClosed (sym (region_written ops cs rs types root r d)) (closed_blocks f r d.blocks.items k l)

-- a block more
pub block_pushed : (ops : List OpNode) (cs : List BlockCell) (rs : List RegionCell) (types : List Handle) (root : ℕ) (d : BlockCell) → d.args.items ≡ [] → d.ops.list ≡ []
    → flat_of ops (cs ++ d ∷ []) rs types root ≡ with_block (flat_of ops cs rs types root)
block_pushed ops cs rs types root d a o = let f : Flat = flat_of ops cs rs types root in
    ap (λ bs. record f { blocks = bs }) (map-append block_node cs (d ∷ [])
    ∙ ap (λ xs. let m : BlockNode = record { args = xs; ops = d.ops.list } in f.blocks ++ m ∷ []) a
    ∙ ap (λ xs. let m : BlockNode = record { args = []; ops = xs } in f.blocks ++ m ∷ []) o)

pub rooms_pushed : (cs : List BlockCell) (d : BlockCell) (n : ℕ) → n ≡ length cs → take n (rooms_of (cs ++ d ∷ [])) ≡ rooms_of cs
rooms_pushed cs d n e = ap (take n) (map-append (λ c. c.ops.room) cs (d ∷ [])) ∙ take_at (rooms_of cs) (d.ops.room ∷ []) n (length-map cs (λ c. c.ops.room) ∙ sym e)

-- fewer blocks
pub blocks_cut : (ops : List OpNode) (cs : List BlockCell) (rs : List RegionCell) (types : List Handle) (root n : ℕ) → let f : Flat = flat_of ops cs rs types root in
    flat_of ops (take n cs) rs types root ≡ record f { blocks = take n f.blocks }
blocks_cut ops cs rs types root n = let f : Flat = flat_of ops cs rs types root in ap (λ bs. record f { blocks = bs }) (sym (take-map block_node n cs))

pub rooms_cut : (cs : List BlockCell) (n : ℕ) → rooms_of (take n cs) ≡ take n (rooms_of cs)
rooms_cut cs n = sym (take-map (λ c. c.ops.room) n cs)

pub ruleset cell_laws = (common_steps, shown_block, shown_op, room_read, room_written, map-set)
