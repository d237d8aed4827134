-- Steps that are kept in a journal.
use Rattle.std.proofs.Common.{◌≡◌, ℕ, suc, ◌<◌, ◌≤◌, ◌+◌, ◌-◌, List, [], ◌∷◌, ◌++◌, length, get_or, set, take, drop, sym, ap, subst, ◌∙◌, arith}
use Rattle.std.specs.Prelude.{insert, remove}
use Rattle.std.proofs.lemmas.Grind.{common_steps}
use Rattle.std.proofs.lemmas.List.{length_push, length-append, length-set, get_or-set_same, get_or_at, length-take-le, length-drop, take-take, get_or_append_left, get_or_push, get_or-take, take-append-drop}
use Rattle.key_model.specs.declared.handle.Handle.{Handle}
use Rattle.flat_model.specs.declared.nodes.NamedAttr.{NamedAttr}
use Rattle.flat_model.specs.declared.nodes.OpNode.{OpNode}
use Rattle.flat_model.specs.Flat.{BlockNode, Flat, no_op, no_block, op_at, block_at, blocks_at, AllBelow, IsOpWithin, IsClosed}
use Rattle.undo_rewriter.specs.declared.step.Step.{Step}
use Rattle.undo_rewriter.specs.declared.step.Step.TheVariants.{Begin, OpAdded, OpListed, OpUnlisted, OperandSet, ValueAdded, BlockAdded, ArgsSet, BlocksSet, NodeSet, BlockCut, BlocksListed, Replaced}
use Rattle.edit_model.specs.Writes.{with_op, with_ops, with_operand, with_args, with_block, with_blocks, with_node, with_value}
use Rattle.edit_effects.specs.Cuts.{with_cut}
use Rattle.std.specs.Prelude.{Vec}
use Rattle.std.specs.declared.alloc.Global.{Global}
use Rattle.undo_rewriter.specs.Journal.{undone, at_mark, edits, IsPossible, IsSound, rooms_before, Edited, KeepsMarks, IsBack}
use Rattle.edit_model.specs.Rooms.{IsRoomier}
use Rattle.ir_arena.specs.Arena.{Arena}
use Rattle.undo_rewriter.proofs.JournalLaws.{sound_after, kept_after, kept_refl, kept_on, kept_same, mark_now}
use Rattle.undo_rewriter.proofs.StepLaws.{listed_back, unlisted_back, operand_back, added_back, value_back, block_back, args_back, blocks_back, node_back, cut_back, put_blocks_back}

pub roomier_same : (a b : List ℕ) → b ≡ a → IsRoomier a b
roomier_same a b e = record { room = λ k. let d : get_or b k 0 ≡ get_or a k 0 = ap (λ xs. get_or xs k 0) e in omega arith }

-- what is said of a step: what it did, that this is taken back, and that it can be
abbrev Done : List ℕ → Step → Flat → Flat → Type 0
Done rooms u f g = (undone u g ≡ f) × IsPossible rooms u g

pub operand_done : (rooms : List ℕ) (f g : Flat) (op at was value : ℕ) → g ≡ with_operand f op at value → was ≡ get_or (op_at f op).operands at 0 → op < length f.ops → at < length (op_at f op).operands
    → Done rooms (OperandSet op at was) f g
operand_done rooms f g op at was value e w h k = let n : OpNode = record (op_at f op) { operands = set (op_at f op).operands at value } in
    subst (λ x. Done rooms (OperandSet op at was) f x) (sym e) (subst (λ x. Done rooms (OperandSet op at x) f (with_operand f op at value)) (sym w) (
      operand_back f op at value h,
      (
        omega (arith, length-set f.ops op n),
        subst (λ (m : OpNode). at < length m.operands) (sym (get_or-set_same f.ops op n no_op h)) (omega (arith, length-set (op_at f op).operands at value)),
      ),
    ))

pub added_done : (rooms : List ℕ) (f g : Flat) (node : OpNode) (types : List Handle) (values : ℕ) → g ≡ with_op f node types → values ≡ length f.types → Done rooms (OpAdded values) f g
added_done rooms f g node types values e d =
    subst (λ x. Done rooms (OpAdded values) f x) (sym e) (subst (λ x. Done rooms (OpAdded x) f (with_op f node types)) (sym d)
    (added_back f node types, (omega (arith, length_push f.ops node), omega (arith, length-append f.types types))))

written_ops : (f : Flat) (block : ℕ) (xs : List ℕ) → block < length f.blocks → block_at (with_ops f block xs) block ≡ record (block_at f block) { ops = xs }
written_ops f block xs h = get_or-set_same f.blocks block (record (block_at f block) { ops = xs }) no_block h

insert_length : (xs : List ℕ) (at x : ℕ) → at ≤ length xs → length (insert xs at x) ≡ length xs + 1
insert_length xs at x h = omega (arith, length-append (take at xs) (x ∷ drop at xs), length-take-le at xs h, length-drop at xs)

remove_length : (xs : List ℕ) (at : ℕ) → at < length xs → length (remove xs at) + 1 ≡ length xs
remove_length xs at h = let l : at ≤ length xs = omega arith in omega (arith, length-append (take at xs) (drop (suc at) xs), length-take-le at xs l, length-drop (suc at) xs)

pub listed_done : (rooms : List ℕ) (f g : Flat) (block at op : ℕ) → g ≡ with_ops f block (insert (block_at f block).ops at op) → block < length f.blocks → at ≤ length (block_at f block).ops
    → Done rooms (OpListed block at) f g
listed_done rooms f g block at op e h k = let xs = (block_at f block).ops in let n : BlockNode = record (block_at f block) { ops = insert xs at op } in
    subst (λ x. Done rooms (OpListed block at) f x) (sym e) (
      listed_back f block at op h k,
      (
        omega (arith, length-set f.blocks block n),
        subst (λ (m : BlockNode). at < length m.ops) (sym (written_ops f block (insert xs at op) h)) (omega (arith, insert_length xs at op k)),
      ),
    )

pub unlisted_done : (rooms : List ℕ) (f g : Flat) (block at op : ℕ) → g ≡ with_ops f block (remove (block_at f block).ops at) → op ≡ get_or (block_at f block).ops at 0 → block < length f.blocks → at < length (block_at f block).ops
    → length (block_at f block).ops ≤ get_or rooms block 0 → Done rooms (OpUnlisted block at op) f g
unlisted_done rooms f g block at op e d h k r = let xs = (block_at f block).ops in let n : BlockNode = record (block_at f block) { ops = remove xs at } in
    subst (λ x. Done rooms (OpUnlisted block at op) f x) (sym e) (subst (λ x. Done rooms (OpUnlisted block at x) f (with_ops f block (remove xs at))) (sym d) (
      unlisted_back f block at h k,
      (
        omega (arith, length-set f.blocks block n),
        subst (λ (m : BlockNode). at ≤ length m.ops) (sym (written_ops f block (remove xs at) h)) (omega (arith, remove_length xs at k)),
        subst (λ (m : BlockNode). length m.ops < get_or rooms block 0) (sym (written_ops f block (remove xs at) h)) (omega (arith, remove_length xs at k)),
      ),
    ))

pub value_done : (rooms : List ℕ) (f g : Flat) (type : Handle) (values : ℕ) → g ≡ with_value f type → values ≡ length f.types → Done rooms (ValueAdded values) f g
value_done rooms f g type values e d = (ap (undone (ValueAdded values)) e ∙ ap (λ n. undone (ValueAdded n) (with_value f type)) d ∙ value_back f type, tt)

pub block_done : (rooms : List ℕ) (f g : Flat) (blocks : ℕ) → g ≡ with_block f → blocks ≡ length f.blocks → Done rooms (BlockAdded blocks) f g
block_done rooms f g blocks e d = (ap (undone (BlockAdded blocks)) e ∙ ap (λ n. undone (BlockAdded n) (with_block f)) d ∙ block_back f, tt)

pub args_done : (rooms : List ℕ) (f g : Flat) (block : ℕ) (args : List ℕ) (was : Vec ℕ Global) → g ≡ with_args f block args → was.items ≡ (block_at f block).args → block < length f.blocks → Done rooms (ArgsSet block was) f g
args_done rooms f g block args was e w h = let n : BlockNode = record (block_at f block) { args = args } in
    subst (λ x. Done rooms (ArgsSet block was) f x) (sym e) (args_back f block args was w h, omega (arith, length-set f.blocks block n))

pub blocks_done : (rooms : List ℕ) (f g : Flat) (region : ℕ) (blocks : List ℕ) (was : Vec ℕ Global) → g ≡ with_blocks f region blocks → was.items ≡ blocks_at f region → region < length f.regions → Done rooms (BlocksSet region was) f g
blocks_done rooms f g region blocks was e w h =
    subst (λ x. Done rooms (BlocksSet region was) f x) (sym e) (blocks_back f region blocks was w, omega (arith, length-set f.regions region blocks))

pub node_done : (rooms : List ℕ) (f g : Flat) (op : ℕ) (node was : OpNode) → g ≡ with_node f op node → was ≡ op_at f op → op < length f.ops → Done rooms (NodeSet op was) f g
node_done rooms f g op node was e w h =
    subst (λ x. Done rooms (NodeSet op was) f x) (sym e) (subst (λ x. Done rooms (NodeSet op x) f (with_node f op node)) (sym w) (node_back f op node, omega (arith, length-set f.ops op node)))

-- what is asked before a cut is taken back
abbrev CanJoin : List ℕ → ℕ → ℕ → Flat → Type 0
CanJoin rooms block end f = (block < end) × (end < length f.blocks) × (length (block_at f block).ops + length (block_at f end).ops ≤ get_or rooms block 0)

pub cut_done : (rooms before : List ℕ) (f g : Flat) (block at end : ℕ) → g ≡ with_cut f block at → end ≡ length f.blocks → block < length f.blocks → at ≤ length (block_at f block).ops
    → take (length f.blocks) rooms ≡ before → length (block_at f block).ops ≤ get_or before block 0 → Done rooms (BlockCut block end) f g
cut_done rooms before f g block at end e d l k t r = let bs = f.blocks in let n = length bs in let xs = (block_at f block).ops in
    let front : BlockNode = record (block_at f block) { ops = take at xs } in let back : BlockNode = record { args = []; ops = drop at xs } in
    let cs = set bs block front in let m : length cs ≡ n = length-set bs block front in let inside : block < length cs = omega (arith, m) in
    let room : get_or before block 0 ≡ get_or rooms block 0 = ap (λ (rs : List ℕ). get_or rs block 0) (sym t) ∙ get_or-take n rooms block 0 l in
    let sum : length (take at xs) + length (drop at xs) ≡ length xs = sym (length-append (take at xs) (drop at xs)) ∙ ap length (take-append-drop at xs) in
    let one : get_or (cs ++ back ∷ []) block no_block ≡ front = get_or_append_left cs (back ∷ []) no_block block inside ∙ get_or-set_same bs block front no_block l in
    let two : get_or (cs ++ back ∷ []) n no_block ≡ back = get_or_push cs back no_block n m in
    subst (λ x. Done rooms (BlockCut block end) f x) (sym e) (subst (λ x. Done rooms (BlockCut block x) f (with_cut f block at)) (sym d) (
      cut_back f block at l,
      (
        l,
        omega (arith, length_push cs back, m),
        subst (λ (b : BlockNode). length b.ops + length (get_or (cs ++ back ∷ []) n no_block).ops ≤ get_or rooms block 0) (sym one)
            (subst (λ (b : BlockNode). length (take at xs) + length b.ops ≤ get_or rooms block 0) (sym two) (omega (arith, sum, room, r))),
      ),
    ))

pub put_blocks_done : (rooms : List ℕ) (f g : Flat) (region at count : ℕ) (more : List ℕ) → g ≡ with_blocks f region (take at (blocks_at f region) ++ more ++ drop at (blocks_at f region)) → region < length f.regions
    → at ≤ length (blocks_at f region) → count ≡ length more → Done rooms (BlocksListed region at count) f g
put_blocks_done rooms f g region at count more e l h c = let bs = blocks_at f region in let ys = take at bs ++ more ++ drop at bs in
    subst (λ x. Done rooms (BlocksListed region at count) f x) (sym e) (
      put_blocks_back f region at count more l h c,
      (
        omega (arith, length-set f.regions region ys),
        subst (λ (zs : List ℕ). at + count ≤ length zs) (sym (get_or-set_same f.regions region ys [] l))
            (omega (arith, c, length-append (take at bs ++ more) (drop at bs), length-append (take at bs) more, length-take-le at bs h)),
      ),
    )

pub node_known : (f : Flat) (op : ℕ) (node : OpNode) → IsClosed (with_node f op node) → op < length f.ops → IsOpWithin (length f.types) (length f.blocks) f node
node_known f op node c h = let b : op < length (set f.ops op node) = omega (arith, length-set f.ops op node) in
    let w : IsOpWithin (length f.types) (length f.blocks) (with_node f op node) node = subst (λ (m : OpNode). IsOpWithin (length f.types) (length f.blocks) (with_node f op node) m) (get_or-set_same f.ops op node no_op h) (c.within.op op b) in
    record { results = w.results; operands = w.operands; regions = w.regions; successors = w.successors }

-- a node with another name and other properties names what is there
pub renamed_within : (f : Flat) (op : ℕ) (node : OpNode) (name : List ℕ) (props : List NamedAttr) → node ≡ record (op_at f op) { name = name; props = props } → IsClosed f → op < length f.ops → IsOpWithin (length f.types) (length f.blocks) f node
renamed_within f op node name props e c l = let w : IsOpWithin (length f.types) (length f.blocks) f (op_at f op) = c.within.op op l in
    subst (λ (n : OpNode). IsOpWithin (length f.types) (length f.blocks) f n) (sym e) (record { results = w.results; operands = w.operands; regions = w.regions; successors = w.successors })

pub args_known : (f : Flat) (block : ℕ) (args : List ℕ) → IsClosed (with_args f block args) → block < length f.blocks → AllBelow (length f.types) args
args_known f block args c h = let n : BlockNode = record (block_at f block) { args = args } in
    let b : block < length (set f.blocks block n) = omega (arith, length-set f.blocks block n) in
    subst (λ (m : BlockNode). AllBelow (length f.types) m.args) (get_or-set_same f.blocks block n no_block h) (c.within.block block b).args

pub blocks_known : (f : Flat) (region : ℕ) (blocks : List ℕ) → IsClosed (with_blocks f region blocks) → region < length f.regions → AllBelow (length f.blocks) blocks
blocks_known f region blocks c h = let b : region < length (set f.regions region blocks) = omega (arith, length-set f.regions region blocks) in
    subst (AllBelow (length f.blocks)) (get_or-set_same f.regions region blocks [] h) (c.within.region region b)

pub replaced_done : (rooms : List ℕ) (a : Arena) (f g : Flat) → a.flat ≡ f → Done rooms (Replaced a) f g
replaced_done rooms a f g e = (e, tt)

-- a step that was done leaves a sound journal, and keeps the marks
pub done_sound : (a b : List ℕ) (us ws : List Step) (u : Step) (f g : Flat) → Done b u f g → ws ≡ us ++ u ∷ [] → IsSound a us f → IsRoomier a (rooms_before u b) → IsClosed f → IsSound b ws g
done_sound a b us ws u f g d e s r c = sound_after a b us ws u f g e s r d.0 d.1 c

pub done_kept : (a b : Edited) (rooms : List ℕ) (u : Step) → Done rooms u a.now b.now → b.journal ≡ a.journal ++ u ∷ [] → KeepsMarks a b
done_kept a b rooms u d e = kept_after a b u e d.0

-- what a closed function had before
pub listed_known : (f : Flat) (block at op : ℕ) → IsClosed (with_ops f block (insert (block_at f block).ops at op)) → block < length f.blocks → at ≤ length (block_at f block).ops → op < length f.ops
listed_known f block at op c h k = let xs = (block_at f block).ops in let n : BlockNode = record (block_at f block) { ops = insert xs at op } in
    let b : block < length (set f.blocks block n) = omega (arith, length-set f.blocks block n) in
    let a : AllBelow (length f.ops) (insert xs at op) = subst (λ (m : BlockNode). AllBelow (length f.ops) m.ops) (written_ops f block (insert xs at op) h) (c.within.block block b).ops in
    subst (λ x. x < length f.ops) (get_or_at (take at xs) op (drop at xs) 0 at (length-take-le at xs k)) (a at 0 (omega (arith, insert_length xs at op k)))

pub operand_known : (f : Flat) (op at value : ℕ) → IsClosed (with_operand f op at value) → op < length f.ops → at < length (op_at f op).operands → value < length f.types
operand_known f op at value c h k = let xs = (op_at f op).operands in let n : OpNode = record (op_at f op) { operands = set xs at value } in
    let b : op < length (set f.ops op n) = omega (arith, length-set f.ops op n) in
    let a : AllBelow (length f.types) (set xs at value) = subst (λ (m : OpNode). AllBelow (length f.types) m.operands) (get_or-set_same f.ops op n no_op h) (c.within.op op b).operands in
    subst (λ x. x < length f.types) (get_or-set_same xs at value 0 k) (a at 0 (omega (arith, length-set xs at value)))

pub edits_few : (us : List Step) → edits us ≤ length us
edits_few [] = omega arith
edits_few (Begin ∷ us) = let e = edits_few us in omega arith
edits_few (OpAdded a ∷ us) = let e = edits_few us in omega arith
edits_few (OpListed a b ∷ us) = let e = edits_few us in omega arith
edits_few (OpUnlisted a b c ∷ us) = let e = edits_few us in omega arith
edits_few (OperandSet a b c ∷ us) = let e = edits_few us in omega arith
edits_few (ValueAdded a ∷ us) = let e = edits_few us in omega arith
edits_few (BlockAdded a ∷ us) = let e = edits_few us in omega arith
edits_few (ArgsSet a b ∷ us) = let e = edits_few us in omega arith
edits_few (BlocksSet a b ∷ us) = let e = edits_few us in omega arith
edits_few (NodeSet a b ∷ us) = let e = edits_few us in omega arith
edits_few (BlockCut a b ∷ us) = let e = edits_few us in omega arith
edits_few (BlocksListed a b c ∷ us) = let e = edits_few us in omega arith
edits_few (Replaced a ∷ us) = let e = edits_few us in omega arith

pub ruleset writer_laws = (common_steps, kept_refl, kept_on, kept_same)

-- the journal after a step was taken back is still the front of the one at the beginning
pub shorter_journal : (us vs ws : List Step) → 0 < length us → vs ≡ take (length us - 1) us → us ≡ take (length us) ws → length us ≤ length ws → (length vs + 1 ≡ length us) × (vs ≡ take (length vs) ws)
shorter_journal us vs ws p e d h =
    let l : length vs ≡ length us - 1 = ap length e ∙ length-take-le (length us - 1) us (omega arith) in (
      omega arith,
      e ∙ ap (take (length us - 1)) d ∙ take-take (length us - 1) (length us) ws (omega arith) ∙ ap (λ k. take k ws) (sym l),
    )

-- brought back to a mark, after steps that keep it
pub rolled_back : (a b c : Edited) → KeepsMarks a b → c.now ≡ at_mark b.journal b.now (length a.journal) → c.journal ≡ take (length a.journal) b.journal → IsBack a c
rolled_back a b c k n j = record { now = n ∙ k.marks (length a.journal) (omega arith) ∙ mark_now a.journal a.now (length a.journal) (omega arith); journal = j ∙ k.front }

pub back_kept : (a c : Edited) → IsBack a c → KeepsMarks a c
back_kept a c b = kept_same a c b.now b.journal

pub ruleset edit_laws = (common_steps, kept_refl, kept_on, rolled_back, back_kept)
