-- Lists taken out of blocks and regions, changed, and put back.
use Rattle.std.proofs.Common.{◌≡◌, ℕ, zero, suc, ◌<◌, ◌≤◌, ◌+◌, ◌-◌, List, [], ◌∷◌, ◌++◌, length, get_or, set, take, drop, sym, ap, subst, ◌∙◌, arith}
use Rattle.std.proofs.lemmas.List.{length-set, length_push, set-set, set-get_or, set_comm, get_or-set_same, get_or-set_other, get_or_append_left, get_or_push, get_or-take, set-append_left, set-append_right, take-set-le, take_at}
use Rattle.flat_model.specs.declared.nodes.OpNode.{OpNode}
use Rattle.flat_model.specs.Flat.{BlockNode, Flat, no_op, no_block, op_at, block_at, blocks_at, AllBelow, IsOpWithin, IsClosed}
use Rattle.edit_model.specs.Writes.{with_ops, with_block, with_blocks, with_node}
use Rattle.edit_effects.specs.Cuts.{with_cut, joined}
use Rattle.ir_arena.specs.Arena.{Arena}

pub arena_is : (a b : Arena) → a.flat ≡ b.flat → a.rooms ≡ b.rooms → a ≡ b
arena_is a b e d = ap (λ f. let x : Arena = record { flat = f; rooms = a.rooms } in x) e ∙ ap (λ rs. let x : Arena = record { flat = b.flat; rooms = rs } in x) d

pub empty_below : (m : ℕ) (xs : List ℕ) → xs ≡ [] → AllBelow m xs
empty_below m xs e = subst (AllBelow m) (sym e) (λ k d l. absurd (omega arith))

tail_below : (m x : ℕ) (xs : List ℕ) → AllBelow m (x ∷ xs) → AllBelow m xs
tail_below m x xs a k d l = a (suc k) d (omega arith)

below_take : (m n : ℕ) (xs : List ℕ) → AllBelow m xs → AllBelow m (take n xs)
below_take m zero xs a k d l = absurd (omega arith)
below_take m (suc n) [] a k d l = absurd (omega arith)
below_take m (suc n) (x ∷ xs) a zero d l = a zero d (omega arith)
below_take m (suc n) (x ∷ xs) a (suc k) d l = below_take m n xs (tail_below m x xs a) k d (omega arith)

below_drop : (m n : ℕ) (xs : List ℕ) → AllBelow m xs → AllBelow m (drop n xs)
below_drop m zero xs a = a
below_drop m (suc n) [] a = a
below_drop m (suc n) (x ∷ xs) a = below_drop m n xs (tail_below m x xs a)

pub below_both : (m : ℕ) (xs ys : List ℕ) → AllBelow m xs → AllBelow m ys → AllBelow m (xs ++ ys)
below_both m [] ys a b k d l = b k d l
below_both m (x ∷ xs) ys a b zero d l = a zero d (omega arith)
below_both m (x ∷ xs) ys a b (suc k) d l = below_both m xs ys (tail_below m x xs a) b k d (omega arith)

pub ops_below : (f : Flat) (block : ℕ) → IsClosed f → block < length f.blocks → AllBelow (length f.ops) (block_at f block).ops
ops_below f block c l = (c.within.block block l).ops

pub front_below : (f : Flat) (block n : ℕ) (xs : List ℕ) → IsClosed f → block < length f.blocks → xs ≡ take n (block_at f block).ops → AllBelow (length f.ops) xs
front_below f block n xs c l e = subst (AllBelow (length f.ops)) (sym e) (below_take (length f.ops) n (block_at f block).ops (ops_below f block c l))

pub back_below : (f : Flat) (block n : ℕ) (xs : List ℕ) → IsClosed f → block < length f.blocks → xs ≡ drop n (block_at f block).ops → AllBelow (length f.ops) xs
back_below f block n xs c l e = subst (AllBelow (length f.ops)) (sym e) (below_drop (length f.ops) n (block_at f block).ops (ops_below f block c l))

pub whole_below : (f : Flat) (block : ℕ) (xs : List ℕ) → IsClosed f → block < length f.blocks → xs ≡ (block_at f block).ops → AllBelow (length f.ops) xs
whole_below f block xs c l e = subst (AllBelow (length f.ops)) (sym e) (ops_below f block c l)

-- a list is taken out of a block, and another put in
pub list_put : (f g h : Flat) (block : ℕ) (empty xs ys : List ℕ) → g ≡ with_ops f block empty → h ≡ with_ops g block ys → ys ≡ xs → block < length f.blocks → h ≡ with_ops f block xs
list_put f g h block empty xs ys e d y l = let n : BlockNode = record (block_at f block) { ops = empty } in
    d ∙ ap (with_ops g block) y ∙ ap (λ (x : Flat). with_ops x block xs) e
    ∙ ap (λ (m : BlockNode). record f { blocks = set (set f.blocks block n) block (record m { ops = xs }) }) (get_or-set_same f.blocks block n no_block l)
    ∙ ap (λ bs. record f { blocks = bs }) (set-set f.blocks block n (record (block_at f block) { ops = xs }))

-- the same list is put back
pub list_back : (f g h : Flat) (block : ℕ) (empty ys : List ℕ) → g ≡ with_ops f block empty → h ≡ with_ops g block ys → ys ≡ (block_at f block).ops → block < length f.blocks → h ≡ f
list_back f g h block empty ys e d y l = list_put f g h block empty (block_at f block).ops ys e d y l ∙ ap (λ bs. record f { blocks = bs }) (set-get_or f.blocks block no_block)

pub rooms_put : (r s t : List ℕ) (block n m : ℕ) → s ≡ set r block n → t ≡ set s block m → m ≡ get_or r block 0 → t ≡ r
rooms_put r s t block n m e d k = d ∙ ap (λ x. set x block m) e ∙ set-set r block n m ∙ ap (set r block) k ∙ set-get_or r block 0

-- what was taken out of a list stays below the bound, with another list in the block
pub taken_below : (f g : Flat) (block n : ℕ) (empty xs ys : List ℕ) → IsClosed f → g ≡ with_ops f block empty → block < length f.blocks → ys ≡ take n xs → xs ≡ (block_at f block).ops → AllBelow (length g.ops) ys
taken_below f g block n empty xs ys c e l y x = subst (λ (h : Flat). AllBelow (length h.ops) ys) (sym e) (front_below f block n ys c l (y ∙ ap (take n) x))

pub same_below : (f g : Flat) (block : ℕ) (empty xs ys : List ℕ) → IsClosed f → g ≡ with_ops f block empty → block < length f.blocks → ys ≡ xs → xs ≡ (block_at f block).ops → AllBelow (length g.ops) ys
same_below f g block empty xs ys c e l y x = subst (λ (h : Flat). AllBelow (length h.ops) ys) (sym e) (whole_below f block ys c l (y ∙ x))

-- what a block more leaves
pub kept_block : (f g : Flat) (block : ℕ) → g ≡ with_block f → block < length f.blocks → block_at g block ≡ block_at f block
kept_block f g block e l = ap (λ (x : Flat). block_at x block) e ∙ get_or_append_left f.blocks (no_block ∷ []) no_block block l

pub more_blocks : (f g : Flat) → g ≡ with_block f → length g.blocks ≡ length f.blocks + 1
more_blocks f g e = ap (λ (x : Flat). length x.blocks) e ∙ length_push f.blocks no_block

pub inside_more : (f g : Flat) (block : ℕ) → g ≡ with_block f → block < length f.blocks → block < length g.blocks
inside_more f g block e l = let n = more_blocks f g e in omega (arith, n, l)

pub place_kept : (f g : Flat) (block at : ℕ) → g ≡ with_block f → block < length f.blocks → at ≤ length (block_at f block).ops → at ≤ length (block_at g block).ops
place_kept f g block at e l h = subst (λ (b : BlockNode). at ≤ length b.ops) (sym (kept_block f g block e l)) h

pub room_kept : (f g : Flat) (before r : List ℕ) (block n : ℕ) → g ≡ with_block f → take n r ≡ before → n ≡ length f.blocks → block < length f.blocks → length (block_at g block).ops ≤ get_or r block 0 → length (block_at f block).ops ≤ get_or before block 0
room_kept f g before r block n e t k l h = let d : get_or before block 0 ≡ get_or r block 0 = ap (λ (rs : List ℕ). get_or rs block 0) (sym t) ∙ get_or-take n r block 0 (omega (arith, k, l)) in
    let o : length (block_at g block).ops ≡ length (block_at f block).ops = ap (λ (b : BlockNode). length b.ops) (kept_block f g block e l) in omega (arith, d, o, h)

-- the new block and what was taken out fit
pub end_inside : (f g h : Flat) (block end : ℕ) (xs : List ℕ) → g ≡ with_block f → h ≡ with_ops g block xs → end ≡ length f.blocks → end < length h.blocks
end_inside f g h block end xs e d k = let n = more_blocks f g e in
    let m : length h.blocks ≡ length g.blocks = ap (λ (x : Flat). length x.blocks) d ∙ length-set g.blocks block (record (block_at g block) { ops = xs }) in omega (arith, n, m, k)

pub rest_below : (f g : Flat) (block at : ℕ) (xs ys : List ℕ) → IsClosed f → g ≡ with_ops f block xs → block < length f.blocks → ys ≡ drop at (block_at f block).ops → AllBelow (length g.ops) ys
rest_below f g block at xs ys c e l y = subst (λ (h : Flat). AllBelow (length h.ops) ys) (sym e) (back_below f block at ys c l y)

-- the new block taken off again
pub dropped_is : (f g h i : Flat) (end : ℕ) → g ≡ with_block f → h ≡ g → i ≡ record h { blocks = take end h.blocks } → end ≡ length f.blocks → i ≡ f
dropped_is f g h i end e d k n = k ∙ ap (λ (x : Flat). record x { blocks = take end x.blocks }) (d ∙ e) ∙ ap (λ bs. record f { blocks = bs }) (take_at f.blocks (no_block ∷ []) end (sym n))

-- a block more, what stood behind taken out of the block, and put into the new one
pub cut_is : (f g h i : Flat) (block at end : ℕ) (back : List ℕ) → g ≡ with_block f → h ≡ with_ops g block (take at (block_at g block).ops) → back ≡ drop at (block_at g block).ops → i ≡ with_ops h end back
    → end ≡ length f.blocks → block < length f.blocks → i ≡ with_cut f block at
cut_is f g h i block at end back e d b k n l = let bs = f.blocks in let xs = (block_at f block).ops in
    let front : BlockNode = record (block_at f block) { ops = take at xs } in let new : BlockNode = record no_block { ops = drop at xs } in
    let s : block_at g block ≡ block_at f block = kept_block f g block e l in
    let cs = set bs block front in let m : length cs ≡ length bs = length-set bs block front in
    let one : h ≡ record f { blocks = cs ++ no_block ∷ [] } =
    d ∙ ap (λ (x : Flat). with_ops x block (take at (block_at x block).ops)) e
    ∙ ap (λ (y : BlockNode). record f { blocks = set (bs ++ no_block ∷ []) block (record y { ops = take at y.ops }) }) (get_or_append_left bs (no_block ∷ []) no_block block l)
    ∙ ap (λ ys. record f { blocks = ys }) (set-append_left bs (no_block ∷ []) block front l) in
    k ∙ ap (λ (x : Flat). with_ops x end back) one ∙ ap (λ ys. let x : Flat = record f { blocks = cs ++ no_block ∷ [] } in with_ops x end ys) (b ∙ ap (λ (y : BlockNode). drop at y.ops) s)
    ∙ ap (λ j. let x : Flat = record f { blocks = cs ++ no_block ∷ [] } in with_ops x j (drop at xs)) n
    ∙ ap (λ (y : BlockNode). record f { blocks = set (cs ++ no_block ∷ []) (length bs) (record y { ops = drop at xs }) }) (get_or_push cs no_block no_block (length bs) m)
    ∙ ap (λ ys. record f { blocks = ys }) (set-append_right cs (no_block ∷ []) (length bs) (length bs) new m (omega arith) ∙ ap (λ j. cs ++ set (no_block ∷ []) j new) (let z : length bs - length bs ≡ 0 = omega arith in z))

-- the room of the lists: that of the new block is the last
pub cut_rooms : (before r s t : List ℕ) (n end m : ℕ) → take n r ≡ before → s ≡ r → t ≡ set s end m → end ≡ n → take n t ≡ before
cut_rooms before r s t n end m b e d k = ap (take n) (d ∙ ap (λ j. set s j m) k ∙ ap (λ x. set x n m) e) ∙ take-set-le n r n m (omega arith) ∙ b

-- the list of one block, where the list of another is taken out
pub other_list : (f g : Flat) (block end : ℕ) (empty front : List ℕ) → g ≡ with_ops f end empty → front ≡ (block_at g block).ops → block < end → front ≡ (block_at f block).ops
other_list f g block end empty front e d l = let taken : BlockNode = record (block_at f end) { ops = empty } in
    d ∙ ap (λ (x : Flat). (block_at x block).ops) e ∙ ap (λ (y : BlockNode). y.ops) (get_or-set_other f.blocks end block taken no_block (λ p. omega (arith, p)))

pub both_below : (f g h : Flat) (block end : ℕ) (empty blank front back xs : List ℕ) → IsClosed f → g ≡ with_ops f end empty → h ≡ with_ops g block blank → front ≡ (block_at g block).ops → back ≡ (block_at f end).ops
    → xs ≡ front ++ back → block < end → end < length f.blocks → AllBelow (length h.ops) xs
both_below f g h block end empty blank front back xs c e d k b j l m =
    let n : length h.ops ≡ length f.ops = ap (λ (x : Flat). length x.ops) d ∙ ap (λ (x : Flat). length x.ops) e in
    subst (λ (w : ℕ). AllBelow w xs) (sym n) (subst (AllBelow (length f.ops)) (sym j)
    (below_both (length f.ops) front back (whole_below f block front c (omega arith) (other_list f g block end empty front e k l)) (whole_below f end back c m b)))

-- the lists of two blocks taken out, and one put back that has both; the second block goes
pub joined_is : (f g h i : Flat) (block end : ℕ) (empty blank both : List ℕ) → g ≡ with_ops f end empty → h ≡ with_ops g block blank → i ≡ with_ops h block both → both ≡ (block_at f block).ops ++ (block_at f end).ops
    → block < end → end < length f.blocks → record i { blocks = take end i.blocks } ≡ joined f block end
joined_is f g h i block end empty blank both e d k b l m =
    let xs = (block_at f block).ops ++ (block_at f end).ops in let taken : BlockNode = record (block_at f end) { ops = empty } in let whole : BlockNode = record (block_at f block) { ops = xs } in
    let inside : block < length g.blocks = let n : length g.blocks ≡ length f.blocks = ap (λ (x : Flat). length x.blocks) e ∙ length-set f.blocks end taken in omega (arith, n) in
    let one : i ≡ with_ops g block xs = list_put g h i block blank xs both d k b inside in
    ap (λ (x : Flat). record x { blocks = take end x.blocks }) (one ∙ ap (λ (x : Flat). with_ops x block xs) e)
    ∙ ap (λ (y : BlockNode). record f { blocks = take end (set (set f.blocks end taken) block (record y { ops = xs })) }) (get_or-set_other f.blocks end block taken no_block (λ p. omega (arith, p)))
    ∙ ap (λ ys. record f { blocks = take end ys }) (set_comm f.blocks end block taken whole (λ p. omega (arith, p)))
    ∙ ap (λ ys. record f { blocks = ys }) (take-set-le end (set f.blocks block whole) end taken (omega arith))

pub joined_rooms : (r s t u v : List ℕ) (block end x y z : ℕ) → s ≡ set r end x → t ≡ set s block y → u ≡ set t block z → z ≡ get_or s block 0 → v ≡ take end u → v ≡ take end r
joined_rooms r s t u v block end x y z e d k h j = j ∙ ap (take end) (rooms_put s t u block y z d k h ∙ e) ∙ take-set-le end r end x (omega arith)

-- the list of a region taken out, and another put in
pub blocks_put : (f g h : Flat) (region : ℕ) (empty xs ys : List ℕ) → g ≡ with_blocks f region empty → h ≡ with_blocks g region ys → ys ≡ xs → h ≡ with_blocks f region xs
blocks_put f g h region empty xs ys e d y = d ∙ ap (with_blocks g region) y ∙ ap (λ (x : Flat). with_blocks x region xs) e ∙ ap (λ rs. record f { regions = rs }) (set-set f.regions region empty xs)

pub blocks_put_back : (f g h : Flat) (region : ℕ) (empty ys : List ℕ) → g ≡ with_blocks f region empty → h ≡ with_blocks g region ys → ys ≡ blocks_at f region → h ≡ f
blocks_put_back f g h region empty ys e d y = blocks_put f g h region empty (blocks_at f region) ys e d y ∙ ap (λ rs. record f { regions = rs }) (set-get_or f.regions region [])

pub blocks_below : (f : Flat) (region : ℕ) → IsClosed f → region < length f.regions → AllBelow (length f.blocks) (blocks_at f region)
blocks_below f region c l = c.within.region region l

pub more_below : (m at : ℕ) (xs ys more : List ℕ) → AllBelow m xs → AllBelow m more → ys ≡ take at xs ++ more ++ drop at xs → AllBelow m ys
more_below m at xs ys more a b e = subst (AllBelow m) (sym e) (below_both m (take at xs ++ more) (drop at xs) (below_both m (take at xs) more (below_take m at xs a) b) (below_drop m at xs a))

pub listed_below : (f g : Flat) (region at : ℕ) (empty xs ys more : List ℕ) → IsClosed f → g ≡ with_blocks f region empty → region < length f.regions → AllBelow (length f.blocks) more → xs ≡ blocks_at f region
    → ys ≡ take at xs ++ more ++ drop at xs → AllBelow (length g.blocks) ys
listed_below f g region at empty xs ys more c e l a x y = subst (λ (h : Flat). AllBelow (length h.blocks) ys) (sym e)
    (more_below (length f.blocks) at (blocks_at f region) ys more (blocks_below f region c l) a (y ∙ ap (λ (zs : List ℕ). take at zs ++ more ++ drop at zs) x))

pub less_below : (m at n : ℕ) (xs ys : List ℕ) → AllBelow m xs → ys ≡ take at xs ++ drop n xs → AllBelow m ys
less_below m at n xs ys a e = subst (AllBelow m) (sym e) (below_both m (take at xs) (drop n xs) (below_take m at xs a) (below_drop m n xs a))

-- a node exchanged, and the one that was there put back
pub node_was_within : (f g : Flat) (op : ℕ) (node was : OpNode) → IsClosed f → op < length f.ops → g ≡ with_node f op node → was ≡ op_at f op → IsOpWithin (length g.types) (length g.blocks) g was
node_was_within f g op node was c l e w = let known : IsOpWithin (length f.types) (length f.blocks) f (op_at f op) = c.within.op op l in
    subst (λ (x : Flat). IsOpWithin (length x.types) (length x.blocks) x was) (sym e)
    (subst (λ (n : OpNode). IsOpWithin (length f.types) (length f.blocks) (with_node f op node) n) (sym w) (record { results = known.results; operands = known.operands; regions = known.regions; successors = known.successors }))

pub node_put_back : (f g h : Flat) (op : ℕ) (node was : OpNode) → g ≡ with_node f op node → h ≡ with_node g op was → was ≡ op_at f op → h ≡ f
node_put_back f g h op node was e d w = d ∙ ap (with_node g op) w ∙ ap (λ (x : Flat). with_node x op (op_at f op)) e ∙ ap (λ os. record f { ops = os }) (set-set f.ops op node (op_at f op) ∙ set-get_or f.ops op no_op)
