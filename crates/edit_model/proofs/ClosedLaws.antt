-- A function stays closed where what is written names something.
use Rattle.std.proofs.Common.{◌≡◌, ℕ, zero, suc, ◌<◌, ◌≤◌, ◌+◌, List, [], ◌∷◌, ◌++◌, length, get_or, set, arith}
use Rattle.std.specs.Prelude.{insert, remove}
use Rattle.std.proofs.lemmas.List.{length_push, length-append, length-set}
use Rattle.key_model.specs.declared.handle.Handle.{Handle}
use Rattle.flat_model.specs.declared.nodes.OpNode.{OpNode}
use Rattle.flat_model.specs.Flat.{BlockNode, Flat, no_op, no_block, op_at, block_at, blocks_at, AllBelow, IsOpWithin, IsBlockWithin, IsClosed}
use Rattle.flat_model.proofs.PushLaws.{below_more, op_within_more, block_within_more}
use Rattle.edit_model.specs.Writes.{with_ops, with_operand, with_op, with_args, with_blocks, with_node, with_value, with_block}

below_nil : (m : ℕ) → AllBelow m []
below_nil m k d h = absurd (omega arith)

below_next : (m x : ℕ) (xs : List ℕ) → x < m → AllBelow m xs → AllBelow m (x ∷ xs)
below_next m x xs h a zero d l = h
below_next m x xs h a (suc k) d l = a k d (omega arith)

below_rest : (m x : ℕ) (xs : List ℕ) → AllBelow m (x ∷ xs) → AllBelow m xs
below_rest m x xs a k d l = a (suc k) d (omega arith)

pub below_insert : (m : ℕ) (xs : List ℕ) (at x : ℕ) → AllBelow m xs → x < m → AllBelow m (insert xs at x)
below_insert m xs zero x a h = below_next m x xs h a
below_insert m [] (suc at) x a h = below_next m x [] h a
below_insert m (y ∷ xs) (suc at) x a h = below_next m y (insert xs at x) (a 0 0 (omega arith)) (below_insert m xs at x (below_rest m y xs a) h)

pub below_remove : (m : ℕ) (xs : List ℕ) (at : ℕ) → AllBelow m xs → AllBelow m (remove xs at)
below_remove m [] zero a = a
below_remove m [] (suc at) a = a
below_remove m (y ∷ xs) zero a = below_rest m y xs a
below_remove m (y ∷ xs) (suc at) a = below_next m y (remove xs at) (a 0 0 (omega arith)) (below_remove m xs at (below_rest m y xs a))

pub below_set : (m : ℕ) (xs : List ℕ) (at x : ℕ) → AllBelow m xs → x < m → AllBelow m (set xs at x)
below_set m [] at x a h = a
below_set m (y ∷ xs) zero x a h = below_next m x xs h (below_rest m y xs a)
below_set m (y ∷ xs) (suc at) x a h = below_next m y (set xs at x) (a 0 0 (omega arith)) (below_set m xs at x (below_rest m y xs a) h)

-- what holds of each item, and of one that is written
at_set : {X : Type 0} (P : X → Type 0) (xs : List X) (at : ℕ) (x d : X) → ((i : ℕ) → i < length xs → P (get_or xs i d)) → P x → (i : ℕ) → i < length (set xs at x) → P (get_or (set xs at x) i d)
at_set P [] at x d a p i h = absurd (omega arith)
at_set P (y ∷ xs) zero x d a p zero h = p
at_set P (y ∷ xs) zero x d a p (suc i) h = a (suc i) (omega arith)
at_set P (y ∷ xs) (suc at) x d a p zero h = a 0 (omega arith)
at_set P (y ∷ xs) (suc at) x d a p (suc i) h = at_set P xs at x d (λ j k. a (suc j) (omega arith)) p i (omega arith)

pub closed_ops : (f : Flat) (block : ℕ) (xs : List ℕ) → IsClosed f → block < length f.blocks → AllBelow (length f.ops) xs → IsClosed (with_ops f block xs)
closed_ops f block xs c h a = let node : BlockNode = record (block_at f block) { ops = xs } in let g : Flat = with_ops f block xs in
    let e : length g.blocks ≡ length f.blocks = length-set f.blocks block node in
    let v = length f.types in let b = length g.blocks in record {
      within = record {
        op = λ i k. let w : IsOpWithin v (length f.blocks) f (op_at f i) = c.within.op i k in record { results = w.results; operands = w.operands; regions = w.regions; successors = below_more (length f.blocks) b (omega arith) (op_at f i).successors w.successors };
        block = at_set (IsBlockWithin g) f.blocks block node no_block (λ i k. block_within_more f g (omega arith) (omega arith) (block_at f i) (c.within.block i k)) (record { args = (c.within.block block h).args; ops = a });
        region = λ r k. below_more (length f.blocks) b (omega arith) (blocks_at f r) (c.within.region r k);
      };
      root = c.root;
    }

pub closed_operand : (f : Flat) (op at value : ℕ) → IsClosed f → op < length f.ops → value < length f.types → IsClosed (with_operand f op at value)
closed_operand f op at value c h l = let node : OpNode = record (op_at f op) { operands = set (op_at f op).operands at value } in let g : Flat = with_operand f op at value in
    let e : length g.ops ≡ length f.ops = length-set f.ops op node in
    let v = length f.types in let b = length f.blocks in let w : IsOpWithin v b f (op_at f op) = c.within.op op h in record {
      within = record {
        op = at_set (IsOpWithin v b g) f.ops op node no_op (λ i k. op_within_more v b f g (omega arith) (omega arith) (op_at f i) (c.within.op i k))
            (record { results = w.results; operands = below_set v (op_at f op).operands at value w.operands l; regions = w.regions; successors = w.successors });
        block = λ i k. block_within_more f g (omega arith) (omega arith) (block_at f i) (c.within.block i k);
        region = c.within.region;
      };
      root = let r = c.root in omega arith;
    }

-- what holds of each item, and of one more
at_push : {X : Type 0} (P : X → Type 0) (xs : List X) (x d : X) → ((i : ℕ) → i < length xs → P (get_or xs i d)) → P x → (i : ℕ) → i < length (xs ++ x ∷ []) → P (get_or (xs ++ x ∷ []) i d)
at_push P [] x d a p zero h = p
at_push P [] x d a p (suc i) h = absurd (omega arith)
at_push P (y ∷ ys) x d a p zero h = a 0 (omega arith)
at_push P (y ∷ ys) x d a p (suc i) h = at_push P ys x d (λ j k. a (suc j) (omega arith)) p i (omega arith)

pub closed_op : (f : Flat) (node : OpNode) (types : List Handle) → IsClosed f → IsOpWithin (length f.types + length types) (length f.blocks) (record f { types = f.types ++ types }) node → IsClosed (with_op f node types)
closed_op f node types c w = let g : Flat = with_op f node types in let v = length g.types in let b = length f.blocks in
    let t : length g.types ≡ length f.types + length types = length-append f.types types in
    let o : length g.ops ≡ length f.ops + 1 = length_push f.ops node in record {
      within = record {
        op = at_push (IsOpWithin v b g) f.ops node no_op
            (λ i k. let x : IsOpWithin (length f.types) b f (op_at f i) = c.within.op i k in record {
              results = below_more (length f.types) v (omega arith) (op_at f i).results x.results;
              operands = below_more (length f.types) v (omega arith) (op_at f i).operands x.operands;
              regions = x.regions;
              successors = x.successors;
            })
            (record { results = w.results; operands = below_more (length f.types + length types) v (omega arith) node.operands w.operands; regions = w.regions; successors = w.successors });
        block = λ i k. block_within_more f g (omega arith) (omega arith) (block_at f i) (c.within.block i k);
        region = c.within.region;
      };
      root = let r = c.root in omega arith;
    }

-- the numbers of an operation, in more nodes
within_more : (f g : Flat) → length f.types ≤ length g.types → length f.blocks ≤ length g.blocks → length f.regions ≤ length g.regions → (node : OpNode)
    → IsOpWithin (length f.types) (length f.blocks) f node → IsOpWithin (length g.types) (length g.blocks) g node
within_more f g t b r node w = record {
  results = below_more (length f.types) (length g.types) t node.results w.results;
  operands = below_more (length f.types) (length g.types) t node.operands w.operands;
  regions = below_more (length f.regions) (length g.regions) r node.regions w.regions;
  successors = below_more (length f.blocks) (length g.blocks) b node.successors w.successors;
}

pub closed_args : (f : Flat) (block : ℕ) (xs : List ℕ) → IsClosed f → block < length f.blocks → AllBelow (length f.types) xs → IsClosed (with_args f block xs)
closed_args f block xs c h a = let node : BlockNode = record (block_at f block) { args = xs } in let g : Flat = with_args f block xs in
    let e : length g.blocks ≡ length f.blocks = length-set f.blocks block node in record {
      within = record {
        op = λ i k. within_more f g (omega arith) (omega arith) (omega arith) (op_at f i) (c.within.op i k);
        block = at_set (IsBlockWithin g) f.blocks block node no_block (λ i k. block_within_more f g (omega arith) (omega arith) (block_at f i) (c.within.block i k)) (record { args = a; ops = (c.within.block block h).ops });
        region = λ r k. below_more (length f.blocks) (length g.blocks) (omega arith) (blocks_at f r) (c.within.region r k);
      };
      root = c.root;
    }

pub closed_blocks : (f : Flat) (region : ℕ) (xs : List ℕ) → IsClosed f → AllBelow (length f.blocks) xs → IsClosed (with_blocks f region xs)
closed_blocks f region xs c a = let g : Flat = with_blocks f region xs in
    let e : length g.regions ≡ length f.regions = length-set f.regions region xs in record {
      within = record {
        op = λ i k. within_more f g (omega arith) (omega arith) (omega arith) (op_at f i) (c.within.op i k);
        block = λ i k. block_within_more f g (omega arith) (omega arith) (block_at f i) (c.within.block i k);
        region = at_set (AllBelow (length f.blocks)) f.regions region xs [] c.within.region a;
      };
      root = c.root;
    }

pub closed_node : (f : Flat) (op : ℕ) (node : OpNode) → IsClosed f → IsOpWithin (length f.types) (length f.blocks) f node → IsClosed (with_node f op node)
closed_node f op node c w = let g : Flat = with_node f op node in
    let e : length g.ops ≡ length f.ops = length-set f.ops op node in record {
      within = record {
        op = at_set (IsOpWithin (length f.types) (length f.blocks) g) f.ops op node no_op
            (λ i k. within_more f g (omega arith) (omega arith) (omega arith) (op_at f i) (c.within.op i k)) (within_more f g (omega arith) (omega arith) (omega arith) node w);
        block = λ i k. block_within_more f g (omega arith) (omega arith) (block_at f i) (c.within.block i k);
        region = c.within.region;
      };
      root = let r = c.root in omega arith;
    }

pub closed_value : (f : Flat) (type : Handle) → IsClosed f → IsClosed (with_value f type)
closed_value f type c = let g : Flat = with_value f type in
    let e : length g.types ≡ length f.types + 1 = length_push f.types type in record {
      within = record {
        op = λ i k. within_more f g (omega arith) (omega arith) (omega arith) (op_at f i) (c.within.op i k);
        block = λ i k. block_within_more f g (omega arith) (omega arith) (block_at f i) (c.within.block i k);
        region = c.within.region;
      };
      root = c.root;
    }

pub closed_block : (f : Flat) → IsClosed f → IsClosed (with_block f)
closed_block f c = let g : Flat = with_block f in
    let e : length g.blocks ≡ length f.blocks + 1 = length_push f.blocks no_block in record {
      within = record {
        op = λ i k. within_more f g (omega arith) (omega arith) (omega arith) (op_at f i) (c.within.op i k);
        block = at_push (IsBlockWithin g) f.blocks no_block no_block (λ i k. block_within_more f g (omega arith) (omega arith) (block_at f i) (c.within.block i k)) (record { args = below_nil (length f.types); ops = below_nil (length f.ops) });
        region = λ r k. below_more (length f.blocks) (length g.blocks) (omega arith) (blocks_at f r) (c.within.region r k);
      };
      root = c.root;
    }
