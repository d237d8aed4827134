-- What each step's undoing gives.
use Rattle.std.proofs.Common.{◌≡◌, ℕ, suc, ◌<◌, ◌≤◌, ◌+◌, ◌-◌, List, [], ◌∷◌, ◌++◌, length, get_or, set, take, drop, refl, sym, ap, ◌∙◌, arith}
use Rattle.std.specs.Prelude.{insert, remove}
use Rattle.std.proofs.lemmas.List.{length_push, take_at, drop_at, length-take-le, set-set, set-get_or, get_or-set_same, drop_more, take-append-drop, drop-drop, get_or_append_left, get_or_push, set-append_left, length-set, append_assoc, length-append}
use Rattle.key_model.specs.declared.handle.Handle.{Handle}
use Rattle.flat_model.specs.declared.nodes.OpNode.{OpNode}
use Rattle.flat_model.specs.Flat.{BlockNode, Flat, no_op, no_block, op_at, block_at, blocks_at}
use Rattle.undo_rewriter.specs.declared.step.Step.TheVariants.{OpAdded, OpListed, OpUnlisted, OperandSet, ValueAdded, BlockAdded, ArgsSet, BlocksSet, NodeSet, BlockCut, BlocksListed}
use Rattle.std.specs.Prelude.{Vec}
use Rattle.std.specs.declared.alloc.Global.{Global}
use Rattle.edit_model.specs.Writes.{with_ops, with_operand, with_op, with_args, with_block, with_blocks, with_node, with_value}
use Rattle.edit_effects.specs.Cuts.{with_cut}
use Rattle.undo_rewriter.specs.Journal.{undone}

drop-one : (k : ℕ) (xs : List ℕ) → drop 1 (drop k xs) ≡ drop (suc k) xs
drop-one k xs = let e : k + 1 ≡ suc k = omega arith in drop-drop 1 k xs ∙ ap (λ n. drop n xs) e

drop-next : (xs : List ℕ) (k : ℕ) → k < length xs → drop k xs ≡ get_or xs k 0 ∷ drop (suc k) xs
drop-next xs k h = let e : k + 1 ≡ suc k = omega arith in drop_more xs k 0 h ∙ ap (λ n. get_or xs k 0 ∷ drop n xs) e

-- what is put in is taken out again
removed_again : (xs : List ℕ) (at x : ℕ) → at ≤ length xs → remove (insert xs at x) at ≡ xs
removed_again xs at x h = let l : length (take at xs) ≡ at = length-take-le at xs h in
    ap (λ ys. ys ++ drop (suc at) (insert xs at x)) (take_at (take at xs) (x ∷ drop at xs) at l)
    ∙ ap (λ ys. take at xs ++ ys) (sym (drop-one at (insert xs at x)) ∙ ap (drop 1) (drop_at (take at xs) (x ∷ drop at xs) at l))
    ∙ take-append-drop at xs

-- what is taken out is put in again
inserted_again : (xs : List ℕ) (at : ℕ) → at < length xs → insert (remove xs at) at (get_or xs at 0) ≡ xs
inserted_again xs at h = let l : length (take at xs) ≡ at = length-take-le at xs (omega arith) in
    ap (λ ys. ys ++ get_or xs at 0 ∷ drop at (remove xs at)) (take_at (take at xs) (drop (suc at) xs) at l)
    ∙ ap (λ ys. take at xs ++ get_or xs at 0 ∷ ys) (drop_at (take at xs) (drop (suc at) xs) at l)
    ∙ ap (λ ys. take at xs ++ ys) (sym (drop-next xs at h))
    ∙ take-append-drop at xs

block_written : (f : Flat) (block : ℕ) (node : BlockNode) → block < length f.blocks → block_at (record f { blocks = set f.blocks block node }) block ≡ node
block_written f block node h = get_or-set_same f.blocks block node no_block h

-- the operations of a block written twice
ops_twice : (f : Flat) (block : ℕ) (xs ys : List ℕ) → block < length f.blocks → with_ops (with_ops f block xs) block ys ≡ with_ops f block ys
ops_twice f block xs ys h =
    ap (λ (n : BlockNode). record f { blocks = set (set f.blocks block (record (block_at f block) { ops = xs })) block (record n { ops = ys }) }) (block_written f block (record (block_at f block) { ops = xs }) h)
    ∙ ap (λ bs. record f { blocks = bs }) (set-set f.blocks block (record (block_at f block) { ops = xs }) (record (block_at f block) { ops = ys }))

ops_same : (f : Flat) (block : ℕ) → with_ops f block (block_at f block).ops ≡ f
ops_same f block = ap (λ bs. record f { blocks = bs }) (set-get_or f.blocks block no_block)

ops_read : (f : Flat) (block : ℕ) (xs : List ℕ) → block < length f.blocks → (block_at (with_ops f block xs) block).ops ≡ xs
ops_read f block xs h = ap (λ (n : BlockNode). n.ops) (block_written f block (record (block_at f block) { ops = xs }) h)

pub listed_back : (f : Flat) (block at op : ℕ) → block < length f.blocks → at ≤ length (block_at f block).ops
    → undone (OpListed block at) (with_ops f block (insert (block_at f block).ops at op)) ≡ f
listed_back f block at op h k = let xs = (block_at f block).ops in let g : Flat = with_ops f block (insert xs at op) in
    ap (λ ys. with_ops g block (remove ys at)) (ops_read f block (insert xs at op) h)
    ∙ ops_twice f block (insert xs at op) (remove (insert xs at op) at) h
    ∙ ap (λ ys. with_ops f block ys) (removed_again xs at op k) ∙ ops_same f block

pub unlisted_back : (f : Flat) (block at : ℕ) → block < length f.blocks → at < length (block_at f block).ops
    → undone (OpUnlisted block at (get_or (block_at f block).ops at 0)) (with_ops f block (remove (block_at f block).ops at)) ≡ f
unlisted_back f block at h k = let xs = (block_at f block).ops in let x = get_or xs at 0 in let g : Flat = with_ops f block (remove xs at) in
    ap (λ ys. with_ops g block (insert ys at x)) (ops_read f block (remove xs at) h)
    ∙ ops_twice f block (remove xs at) (insert (remove xs at) at x) h
    ∙ ap (λ ys. with_ops f block ys) (inserted_again xs at k) ∙ ops_same f block

operand_at : (f : Flat) (op at value : ℕ) → op < length f.ops → op_at (with_operand f op at value) op ≡ record (op_at f op) { operands = set (op_at f op).operands at value }
operand_at f op at value h = get_or-set_same f.ops op (record (op_at f op) { operands = set (op_at f op).operands at value }) no_op h

pub operand_back : (f : Flat) (op at value : ℕ) → op < length f.ops
    → undone (OperandSet op at (get_or (op_at f op).operands at 0)) (with_operand f op at value) ≡ f
operand_back f op at value h = let xs = (op_at f op).operands in let x = get_or xs at 0 in let n : OpNode = record (op_at f op) { operands = set xs at value } in
    ap (λ (m : OpNode). record f { ops = set (set f.ops op n) op (record m { operands = set m.operands at x }) }) (operand_at f op at value h)
    ∙ ap (λ os. record f { ops = os }) (set-set f.ops op n (record n { operands = set (set xs at value) at x }))
    ∙ ap (λ ys. record f { ops = set f.ops op (record (op_at f op) { operands = ys }) }) (set-set xs at value x ∙ set-get_or xs at 0)
    ∙ ap (λ os. record f { ops = os }) (set-get_or f.ops op no_op)

pub added_back : (f : Flat) (node : OpNode) (types : List Handle) → undone (OpAdded (length f.types)) (with_op f node types) ≡ f
added_back f node types =
    ap (λ os. record f { ops = os; types = take (length f.types) (f.types ++ types) }) (take_at f.ops (node ∷ []) (length (f.ops ++ node ∷ []) - 1) (omega (arith, length_push f.ops node)))
    ∙ ap (λ ts. record f { types = ts }) (take_at f.types types (length f.types) refl)

pub value_back : (f : Flat) (type : Handle) → undone (ValueAdded (length f.types)) (with_value f type) ≡ f
value_back f type = ap (λ ts. record f { types = ts }) (take_at f.types (type ∷ []) (length f.types) refl)

pub block_back : (f : Flat) → undone (BlockAdded (length f.blocks)) (with_block f) ≡ f
block_back f = ap (λ bs. record f { blocks = bs }) (take_at f.blocks (no_block ∷ []) (length f.blocks) refl)

pub args_back : (f : Flat) (block : ℕ) (args : List ℕ) (was : Vec ℕ Global) → was.items ≡ (block_at f block).args → block < length f.blocks → undone (ArgsSet block was) (with_args f block args) ≡ f
args_back f block args was e h = let n : BlockNode = record (block_at f block) { args = args } in
    ap (λ (m : BlockNode). record f { blocks = set (set f.blocks block n) block (record m { args = was.items }) }) (get_or-set_same f.blocks block n no_block h)
    ∙ ap (λ bs. record f { blocks = bs }) (set-set f.blocks block n (record n { args = was.items }))
    ∙ ap (λ xs. record f { blocks = set f.blocks block (record (block_at f block) { args = xs }) }) e
    ∙ ap (λ bs. record f { blocks = bs }) (set-get_or f.blocks block no_block)

pub blocks_back : (f : Flat) (region : ℕ) (blocks : List ℕ) (was : Vec ℕ Global) → was.items ≡ blocks_at f region → undone (BlocksSet region was) (with_blocks f region blocks) ≡ f
blocks_back f region blocks was e =
    ap (λ rs. record f { regions = rs }) (set-set f.regions region blocks was.items)
    ∙ ap (λ xs. record f { regions = set f.regions region xs }) e
    ∙ ap (λ rs. record f { regions = rs }) (set-get_or f.regions region [])

pub node_back : (f : Flat) (op : ℕ) (node : OpNode) → undone (NodeSet op (op_at f op)) (with_node f op node) ≡ f
node_back f op node = ap (λ os. record f { ops = os }) (set-set f.ops op node (op_at f op) ∙ set-get_or f.ops op no_op)

pub cut_back : (f : Flat) (block at : ℕ) → block < length f.blocks → undone (BlockCut block (length f.blocks)) (with_cut f block at) ≡ f
cut_back f block at l = let bs = f.blocks in let n = length bs in let xs = (block_at f block).ops in
    let front : BlockNode = record (block_at f block) { ops = take at xs } in let end : BlockNode = record { args = []; ops = drop at xs } in
    let cs = set bs block front in let m : length cs ≡ n = length-set bs block front in let inside : block < length cs = omega (arith, m) in
    ap (λ (b : BlockNode). record f { blocks = take n (set (cs ++ end ∷ []) block (record b { ops = b.ops ++ (get_or (cs ++ end ∷ []) n no_block).ops })) })
    (get_or_append_left cs (end ∷ []) no_block block inside ∙ get_or-set_same bs block front no_block l)
    ∙ ap (λ (e : BlockNode). record f { blocks = take n (set (cs ++ end ∷ []) block (record (block_at f block) { ops = take at xs ++ e.ops })) }) (get_or_push cs end no_block n m)
    ∙ ap (λ ys. record f { blocks = take n (set (cs ++ end ∷ []) block (record (block_at f block) { ops = ys })) }) (take-append-drop at xs)
    ∙ ap (λ ys. record f { blocks = take n ys }) (set-append_left cs (end ∷ []) block (block_at f block) inside)
    ∙ ap (λ ys. record f { blocks = ys }) (take_at (set cs block (block_at f block)) (end ∷ []) n (length-set cs block (block_at f block) ∙ m)
    ∙ set-set bs block front (block_at f block) ∙ set-get_or bs block no_block)

-- what is put in is taken out again
put_back : (xs more : List ℕ) (at : ℕ) → at ≤ length xs → let ys = take at xs ++ more ++ drop at xs in take at ys ++ drop (at + length more) ys ≡ xs
put_back xs more at h = let l : length (take at xs) ≡ at = length-take-le at xs h in let ys = take at xs ++ more ++ drop at xs in
    ap (λ zs. zs ++ drop (at + length more) ys) (ap (take at) (append_assoc (take at xs) more (drop at xs)) ∙ take_at (take at xs) (more ++ drop at xs) at l)
    ∙ ap (λ zs. take at xs ++ zs) (drop_at (take at xs ++ more) (drop at xs) (at + length more) (omega (arith, l, length-append (take at xs) more)))
    ∙ take-append-drop at xs

pub put_blocks_back : (f : Flat) (region at count : ℕ) (more : List ℕ) → region < length f.regions → at ≤ length (blocks_at f region) → count ≡ length more
    → undone (BlocksListed region at count) (with_blocks f region (take at (blocks_at f region) ++ more ++ drop at (blocks_at f region))) ≡ f
put_blocks_back f region at count more l h e = let bs = blocks_at f region in let ys = take at bs ++ more ++ drop at bs in
    ap (λ zs. record f { regions = set (set f.regions region ys) region (take at zs ++ drop (at + count) zs) }) (get_or-set_same f.regions region ys [] l)
    ∙ ap (λ rs. record f { regions = rs }) (set-set f.regions region ys (take at ys ++ drop (at + count) ys))
    ∙ ap (λ n. record f { regions = set f.regions region (take at ys ++ drop (at + n) ys) }) e
    ∙ ap (λ zs. record f { regions = set f.regions region zs }) (put_back bs more at h)
    ∙ ap (λ rs. record f { regions = rs }) (set-get_or f.regions region [])
