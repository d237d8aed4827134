-- A write of nodes is an edit of the tree.
use Rattle.std.proofs.Common.{◌≡◌, ℕ, zero, suc, ◌<◌, inl, inr, List, [], ◌∷◌, ◌++◌, length, set, cond, ◌==◌, refl, sym, ap, subst, ◌∙◌, arith}
use Rattle.std.specs.Prelude.{insert, remove}
use Rattle.std.proofs.lemmas.List.{get_or-set_same, get_or-set_other, get_or_append_left, get_or_push}
use Rattle.std.proofs.lemmas.Bool.{cases_eq, eq-eqb, ne_eqb}
use Rattle.key_model.specs.declared.handle.Handle.{Handle}
use Rattle.flat_model.specs.declared.nodes.NamedAttr.{NamedAttr}
use Rattle.flat_model.specs.declared.nodes.OpNode.{OpNode}
use Rattle.flat_model.specs.Flat.{BlockNode, Flat, no_op, no_block, no_type, op_at, block_at, blocks_at, type_at, AllBelow, IsClosed}
use Rattle.edit_model.specs.Writes.{with_op, with_ops, with_operand, with_args, with_block, with_blocks, with_node, with_value}
use Rattle.edit_effects.specs.HandleTree.{Values, Front, Op, op_of, Ops, ops_end, next_op, regions_end, next_region, Blocks, blocks_end, next_block, values_at, front_of, ops_over, blocks_over, regions_over, tree}
use Rattle.edit_effects.specs.Effects.{Edit, op_edited, ops_edited, regions_edited, blocks_edited, put_in, taken_out, operand_set, op_inserted, op_erased, block_put_in, arg_added, arg_removed, block_added, front_renamed}

-- what an edit has to do with the nodes before and after: fronts and blocks go over into each other; g may have further nodes
pub record Matches (e : Edit) (f g : Flat) : Type 0 where
  pub front : (i : ℕ) → i < length f.ops → e.front (front_of f i (op_at f i)) ≡ front_of g i (op_at g i)
  pub regions : (i : ℕ) → i < length f.ops → (op_at g i).regions ≡ (op_at f i).regions
  pub blocks : (n r : ℕ) → r < length f.regions → e.blocks r (blocks_over (tree n g) g (blocks_at f r)) ≡ blocks_over (tree n g) g (blocks_at g r)
  pub args : (b : ℕ) → b < length f.blocks → e.args b (values_at f (block_at f b).args) ≡ values_at g (block_at g b).args
  pub ops : (n b : ℕ) → b < length f.blocks → e.ops b (ops_over (tree n g) (block_at f b).ops) ≡ ops_over (tree n g) (block_at g b).ops

head_below : (m x : ℕ) (xs : List ℕ) → AllBelow m (x ∷ xs) → x < m
head_below m x xs a = a 0 0 (omega arith)

rest_below : (m x : ℕ) (xs : List ℕ) → AllBelow m (x ∷ xs) → AllBelow m xs
rest_below m x xs a k d l = a (suc k) d (omega arith)

module _ (e : Edit) (f g : Flat) (m : Matches e f g) (c : IsClosed f) where
  ops_match : (s t : ℕ → Op) → ((i : ℕ) → i < length f.ops → op_edited e (s i) ≡ t i) → (is : List ℕ) → AllBelow (length f.ops) is → ops_edited e (ops_over s is) ≡ ops_over t is
  ops_match s t h [] a = refl
  ops_match s t h (i ∷ is) a = ap (λ o. next_op o (ops_edited e (ops_over s is))) (h i (head_below (length f.ops) i is a)) ∙ ap (next_op (t i)) (ops_match s t h is (rest_below (length f.ops) i is a))

  blocks_match : (n : ℕ) (s : ℕ → Op) → ((i : ℕ) → i < length f.ops → op_edited e (s i) ≡ tree n g i) → (bs : List ℕ) → AllBelow (length f.blocks) bs → blocks_edited e (blocks_over s f bs) ≡ blocks_over (tree n g) g bs
  blocks_match n s h [] a = refl
  blocks_match n s h (b ∷ bs) a = let l : b < length f.blocks = head_below (length f.blocks) b bs a in
      ap (λ os. next_block b (e.args b (values_at f (block_at f b).args)) (e.ops b os) (blocks_edited e (blocks_over s f bs))) (ops_match s (tree n g) h (block_at f b).ops (c.within.block b l).ops)
      ∙ ap (λ os. next_block b (e.args b (values_at f (block_at f b).args)) os (blocks_edited e (blocks_over s f bs))) (m.ops n b l)
      ∙ ap (λ vs. next_block b vs (ops_over (tree n g) (block_at g b).ops) (blocks_edited e (blocks_over s f bs))) (m.args b l)
      ∙ ap (next_block b (values_at g (block_at g b).args) (ops_over (tree n g) (block_at g b).ops)) (blocks_match n s h bs (rest_below (length f.blocks) b bs a))

  regions_match : (n : ℕ) (s : ℕ → Op) → ((i : ℕ) → i < length f.ops → op_edited e (s i) ≡ tree n g i) → (rs : List ℕ) → AllBelow (length f.regions) rs → regions_edited e (regions_over s f rs) ≡ regions_over (tree n g) g rs
  regions_match n s h [] a = refl
  regions_match n s h (r ∷ rs) a = let l : r < length f.regions = head_below (length f.regions) r rs a in
      ap (λ bs. next_region r (e.blocks r bs) (regions_edited e (regions_over s f rs))) (blocks_match n s h (blocks_at f r) (c.within.region r l))
      ∙ ap (λ bs. next_region r bs (regions_edited e (regions_over s f rs))) (m.blocks n r l)
      ∙ ap (next_region r (blocks_over (tree n g) g (blocks_at g r))) (regions_match n s h rs (rest_below (length f.regions) r rs a))

  pub edited : (n i : ℕ) → i < length f.ops → op_edited e (tree n f i) ≡ tree n g i
  edited zero i h = ap (λ x. op_of x regions_end) (m.front i h)
  edited (suc n) i h =
      ap (λ x. op_of x (regions_edited e (regions_over (tree n f) f (op_at f i).regions))) (m.front i h)
      ∙ ap (op_of (front_of g i (op_at g i))) (regions_match n (tree n f) (edited n) (op_at f i).regions (c.within.op i h).regions
      ∙ ap (regions_over (tree n g) g) (sym (m.regions i h)))

over_insert : (s : ℕ → Op) (is : List ℕ) (at x : ℕ) → put_in at (s x) (ops_over s is) ≡ ops_over s (insert is at x)
over_insert s is zero x = refl
over_insert s [] (suc at) x = refl
over_insert s (i ∷ is) (suc at) x = ap (next_op (s i)) (over_insert s is at x)

over_remove : (s : ℕ → Op) (is : List ℕ) (at : ℕ) → taken_out at (ops_over s is) ≡ ops_over s (remove is at)
over_remove s [] zero = refl
over_remove s [] (suc at) = refl
over_remove s (i ∷ is) zero = refl
over_remove s (i ∷ is) (suc at) = ap (next_op (s i)) (over_remove s is at)

-- one block has other operations
ops_written : (h : Flat) (block : ℕ) (xs : List ℕ) (change : Ops → Ops) (s : ℕ → Op) → block < length h.blocks → change (ops_over s (block_at h block).ops) ≡ ops_over s xs
    → (b : ℕ) → cond (b == block) (change (ops_over s (block_at h b).ops)) (ops_over s (block_at h b).ops) ≡ ops_over s (block_at (with_ops h block xs) b).ops
ops_written h block xs change s l k b = let n : BlockNode = record (block_at h block) { ops = xs } in elim (cases_eq b block) [
  | inl p ↦ subst (λ (x : ℕ). cond (x == block) (change (ops_over s (block_at h x).ops)) (ops_over s (block_at h x).ops) ≡ ops_over s (block_at (with_ops h block xs) x).ops) (sym p)
      (rw (eq-eqb block block refl, get_or-set_same h.blocks block n no_block l) k)
  | inr d ↦ rw (ne_eqb b block d, get_or-set_other h.blocks block b n no_block d) refl
]

pub args_written : (h : Flat) (block : ℕ) (xs : List ℕ) (b : ℕ) → block < length h.blocks → (block_at (with_ops h block xs) b).args ≡ (block_at h b).args
args_written h block xs b l = let n : BlockNode = record (block_at h block) { ops = xs } in elim (cases_eq b block) [
  | inl p ↦ subst (λ (x : ℕ). (block_at (with_ops h block xs) x).args ≡ (block_at h x).args) (sym p) (ap (λ (m : BlockNode). m.args) (get_or-set_same h.blocks block n no_block l))
  | inr d ↦ ap (λ (m : BlockNode). m.args) (get_or-set_other h.blocks block b n no_block d)
]

pub erased_matches : (f : Flat) (block at : ℕ) → block < length f.blocks → Matches (op_erased block at) f (with_ops f block (remove (block_at f block).ops at))
erased_matches f block at l = let xs = (block_at f block).ops in record {
  front = λ i h. refl;
  regions = λ i h. refl;
  blocks = λ n r h. refl;
  args = λ b h. ap (values_at f) (sym (args_written f block (remove xs at) b l));
  ops = λ n b h. let s = tree n (with_ops f block (remove xs at)) in ops_written f block (remove xs at) (taken_out at) s l (over_remove s xs at) b;
}

pub operand_matches : (f : Flat) (op at value : ℕ) → op < length f.ops → Matches (operand_set op at value) f (with_operand f op at value)
operand_matches f op at value l = let n : OpNode = record (op_at f op) { operands = set (op_at f op).operands at value } in let g : Flat = with_operand f op at value in record {
  front = λ i h. elim (cases_eq i op) [
    | inl p ↦ subst (λ (x : ℕ). cond (x == op) (record (front_of f x (op_at f x)) { operands = set (op_at f x).operands at value }) (front_of f x (op_at f x)) ≡ front_of g x (op_at g x)) (sym p)
        (rw (eq-eqb op op refl, get_or-set_same f.ops op n no_op l) refl)
    | inr d ↦ rw (ne_eqb i op d, get_or-set_other f.ops op i n no_op d) refl
  ];
  regions = λ i h. elim (cases_eq i op) [
    | inl p ↦ subst (λ (x : ℕ). (op_at g x).regions ≡ (op_at f x).regions) (sym p) (ap (λ (m : OpNode). m.regions) (get_or-set_same f.ops op n no_op l))
    | inr d ↦ ap (λ (m : OpNode). m.regions) (get_or-set_other f.ops op i n no_op d)
  ];
  blocks = λ n r h. refl;
  args = λ b h. refl;
  ops = λ k b h. refl;
}

values_same : (f : Flat) (types : List Handle) (vs : List ℕ) → AllBelow (length f.types) vs → values_at (record f { types = f.types ++ types }) vs ≡ values_at f vs
values_same f types [] a = refl
values_same f types (v ∷ vs) a = let g : Flat = record f { types = f.types ++ types } in
    ap (λ t. (v, t) ∷ values_at g vs) (get_or_append_left f.types types no_type v (head_below (length f.types) v vs a)) ∙ ap (λ xs. (v, type_at f v) ∷ xs) (values_same f types vs (rest_below (length f.types) v vs a))

-- a new operation without regions
leaf_tree : (g : Flat) (op : ℕ) (node : OpNode) → op_at g op ≡ node → node.regions ≡ [] → (n : ℕ) → tree n g op ≡ op_of (front_of g op node) regions_end
leaf_tree g op node e r zero = ap (λ m. op_of (front_of g op m) regions_end) e
leaf_tree g op node e r (suc n) = ap (λ (m : OpNode). op_of (front_of g op m) (regions_over (tree n g) g m.regions)) e ∙ ap (λ rs. op_of (front_of g op node) (regions_over (tree n g) g rs)) r

pub inserted_matches : (f : Flat) (block at : ℕ) (node : OpNode) (types : List Handle) → IsClosed f → block < length f.blocks → node.regions ≡ []
    → let g : Flat = with_ops (with_op f node types) block (insert (block_at f block).ops at (length f.ops)) in Matches (op_inserted block at (op_of (front_of g (length f.ops) node) regions_end)) f g
inserted_matches f block at node types c l r = let h : Flat = with_op f node types in let xs = (block_at f block).ops in let new = length f.ops in
    let g : Flat = with_ops h block (insert xs at new) in let o = op_of (front_of g new node) regions_end in record {
      front = λ i k. let e : op_at g i ≡ op_at f i = get_or_append_left f.ops (node ∷ []) no_op i k in
          sym (ap (front_of g i) e ∙ ap (λ vs. let x : Front = record (front_of f i (op_at f i)) { results = vs } in x) (values_same f types (op_at f i).results (c.within.op i k).results));
      regions = λ i k. ap (λ (m : OpNode). m.regions) (get_or_append_left f.ops (node ∷ []) no_op i k);
      blocks = λ n q k. refl;
      args = λ b k. sym (ap (values_at g) (args_written h block (insert xs at new) b l) ∙ values_same f types (block_at f b).args (c.within.block b k).args);
      ops = λ n b k. let s = tree n g in
          ops_written h block (insert xs at new) (put_in at o) s l
          (ap (λ x. put_in at x (ops_over s xs)) (sym (leaf_tree g new node (get_or_push f.ops node no_op new refl) r n)) ∙ over_insert s xs at new) b;
    }

-- the same, where the nodes afterwards are known by an equation
pub operand_effect : (f g : Flat) (op at value : ℕ) → g ≡ with_operand f op at value → IsClosed f → op < length f.ops
    → (n i : ℕ) → i < length f.ops → op_edited (operand_set op at value) (tree n f i) ≡ tree n g i
operand_effect f g op at value e c l n i h = edited (operand_set op at value) f (with_operand f op at value) (operand_matches f op at value l) c n i h ∙ ap (λ x. tree n x i) (sym e)

pub erased_effect : (f g : Flat) (block at : ℕ) → g ≡ with_ops f block (remove (block_at f block).ops at) → IsClosed f → block < length f.blocks
    → (n i : ℕ) → i < length f.ops → op_edited (op_erased block at) (tree n f i) ≡ tree n g i
erased_effect f g block at e c l n i h = edited (op_erased block at) f (with_ops f block (remove (block_at f block).ops at)) (erased_matches f block at l) c n i h ∙ ap (λ x. tree n x i) (sym e)

pub inserted_effect : (f g : Flat) (block at : ℕ) (node : OpNode) (types : List Handle) → g ≡ with_ops (with_op f node types) block (insert (block_at f block).ops at (length f.ops)) → IsClosed f → block < length f.blocks → node.regions ≡ []
    → (n i : ℕ) → i < length f.ops → op_edited (op_inserted block at (op_of (front_of g (length f.ops) node) regions_end)) (tree n f i) ≡ tree n g i
inserted_effect f g block at node types e c l r n i h =
    subst (λ (x : Flat). op_edited (op_inserted block at (op_of (front_of x (length f.ops) node) regions_end)) (tree n f i) ≡ tree n x i) (sym e)
    (edited (op_inserted block at (op_of (front_of (with_ops (with_op f node types) block (insert (block_at f block).ops at (length f.ops))) (length f.ops) node) regions_end)) f
    (with_ops (with_op f node types) block (insert (block_at f block).ops at (length f.ops))) (inserted_matches f block at node types c l r) c n i h)

-- one block has other arguments
args_replaced : (h : Flat) (block : ℕ) (xs : List ℕ) (change : Values → Values) → block < length h.blocks → change (values_at h (block_at h block).args) ≡ values_at h xs
    → (b : ℕ) → cond (b == block) (change (values_at h (block_at h b).args)) (values_at h (block_at h b).args) ≡ values_at h (block_at (with_args h block xs) b).args
args_replaced h block xs change l k b = let n : BlockNode = record (block_at h block) { args = xs } in elim (cases_eq b block) [
  | inl p ↦ subst (λ (x : ℕ). cond (x == block) (change (values_at h (block_at h x).args)) (values_at h (block_at h x).args) ≡ values_at h (block_at (with_args h block xs) x).args) (sym p)
      (rw (eq-eqb block block refl, get_or-set_same h.blocks block n no_block l) k)
  | inr d ↦ rw (ne_eqb b block d, get_or-set_other h.blocks block b n no_block d) refl
]

ops_kept : (h : Flat) (block : ℕ) (xs : List ℕ) (b : ℕ) → block < length h.blocks → (block_at (with_args h block xs) b).ops ≡ (block_at h b).ops
ops_kept h block xs b l = let n : BlockNode = record (block_at h block) { args = xs } in elim (cases_eq b block) [
  | inl p ↦ subst (λ (x : ℕ). (block_at (with_args h block xs) x).ops ≡ (block_at h x).ops) (sym p) (ap (λ (m : BlockNode). m.ops) (get_or-set_same h.blocks block n no_block l))
  | inr d ↦ ap (λ (m : BlockNode). m.ops) (get_or-set_other h.blocks block b n no_block d)
]

values_removed : (f : Flat) (xs : List ℕ) (at : ℕ) → remove (values_at f xs) at ≡ values_at f (remove xs at)
values_removed f [] zero = refl
values_removed f [] (suc at) = refl
values_removed f (x ∷ xs) zero = refl
values_removed f (x ∷ xs) (suc at) = ap (λ vs. (x, type_at f x) ∷ vs) (values_removed f xs at)

values_inserted : (f : Flat) (xs : List ℕ) (at v : ℕ) → insert (values_at f xs) at (v, type_at f v) ≡ values_at f (insert xs at v)
values_inserted f xs zero v = refl
values_inserted f [] (suc at) v = refl
values_inserted f (x ∷ xs) (suc at) v = ap (λ vs. (x, type_at f x) ∷ vs) (values_inserted f xs at v)

pub removed_matches : (f : Flat) (block at : ℕ) → block < length f.blocks → Matches (arg_removed block at) f (with_args f block (remove (block_at f block).args at))
removed_matches f block at l = let xs = (block_at f block).args in let g : Flat = with_args f block (remove xs at) in record {
  front = λ i h. refl;
  regions = λ i h. refl;
  blocks = λ n r h. refl;
  args = λ b h. args_replaced f block (remove xs at) (λ vs. remove vs at) l (values_removed f xs at) b;
  ops = λ n b h. ap (ops_over (tree n g)) (sym (ops_kept f block (remove xs at) b l));
}

-- a value more changes no value that is there
values_stay : (f : Flat) (type : Handle) (vs : List ℕ) → AllBelow (length f.types) vs → values_at (with_value f type) vs ≡ values_at f vs
values_stay f type vs a = values_same f (type ∷ []) vs a

pub added_matches : (f : Flat) (block at : ℕ) (type : Handle) → IsClosed f → block < length f.blocks
    → let g : Flat = with_args (with_value f type) block (insert (block_at f block).args at (length f.types)) in Matches (arg_added block at (length f.types, type)) f g
added_matches f block at type c l = let h : Flat = with_value f type in let xs = (block_at f block).args in let v = length f.types in let g : Flat = with_args h block (insert xs at v) in
    let t : type_at h v ≡ type = get_or_push f.types type no_type v refl in record {
      front = λ i k. sym (ap (λ vs. let x : Front = record (front_of f i (op_at f i)) { results = vs } in x) (values_stay f type (op_at f i).results (c.within.op i k).results));
      regions = λ i k. refl;
      blocks = λ n r k. refl;
      args = λ b k. ap (λ vs. cond (b == block) (insert vs at (v, type)) vs) (sym (values_stay f type (block_at f b).args (c.within.block b k).args))
          ∙ args_replaced h block (insert xs at v) (λ vs. insert vs at (v, type)) l (ap (λ y. insert (values_at h xs) at (v, y)) (sym t) ∙ values_inserted h xs at v) b;
      ops = λ n b k. ap (ops_over (tree n g)) (sym (ops_kept h block (insert xs at v) b l));
    }

pub arg_added_effect : (f g : Flat) (block at : ℕ) (type : Handle) → g ≡ with_args (with_value f type) block (insert (block_at f block).args at (length f.types)) → IsClosed f → block < length f.blocks
    → (n i : ℕ) → i < length f.ops → op_edited (arg_added block at (length f.types, type)) (tree n f i) ≡ tree n g i
arg_added_effect f g block at type e c l n i h = let x : Flat = with_args (with_value f type) block (insert (block_at f block).args at (length f.types)) in
    edited (arg_added block at (length f.types, type)) f x (added_matches f block at type c l) c n i h ∙ ap (λ y. tree n y i) (sym e)

pub arg_removed_effect : (f g : Flat) (block at : ℕ) → g ≡ with_args f block (remove (block_at f block).args at) → IsClosed f → block < length f.blocks
    → (n i : ℕ) → i < length f.ops → op_edited (arg_removed block at) (tree n f i) ≡ tree n g i
arg_removed_effect f g block at e c l n i h = edited (arg_removed block at) f (with_args f block (remove (block_at f block).args at)) (removed_matches f block at l) c n i h ∙ ap (λ x. tree n x i) (sym e)

blocks_inserted : (s : ℕ → Op) (g : Flat) (bs : List ℕ) (at b : ℕ) → block_at g b ≡ no_block → block_put_in at b [] ops_end (blocks_over s g bs) ≡ blocks_over s g (insert bs at b)
blocks_inserted s g bs zero b e = ap (λ (m : BlockNode). next_block b (values_at g m.args) (ops_over s m.ops) (blocks_over s g bs)) (sym e)
blocks_inserted s g [] (suc at) b e = ap (λ (m : BlockNode). next_block b (values_at g m.args) (ops_over s m.ops) blocks_end) (sym e)
blocks_inserted s g (c ∷ bs) (suc at) b e = ap (next_block c (values_at g (block_at g c).args) (ops_over s (block_at g c).ops)) (blocks_inserted s g bs at b e)

-- one region has other blocks
blocks_replaced : (h : Flat) (region : ℕ) (xs : List ℕ) (s : ℕ → Op) (change : Blocks → Blocks) → region < length h.regions → change (blocks_over s h (blocks_at h region)) ≡ blocks_over s h xs
    → (r : ℕ) → cond (r == region) (change (blocks_over s h (blocks_at h r))) (blocks_over s h (blocks_at h r)) ≡ blocks_over s h (blocks_at (with_blocks h region xs) r)
blocks_replaced h region xs s change l k r = elim (cases_eq r region) [
  | inl p ↦ subst (λ (x : ℕ). cond (x == region) (change (blocks_over s h (blocks_at h x))) (blocks_over s h (blocks_at h x)) ≡ blocks_over s h (blocks_at (with_blocks h region xs) x)) (sym p)
      (rw (eq-eqb region region refl, get_or-set_same h.regions region xs [] l) k)
  | inr d ↦ rw (ne_eqb r region d, get_or-set_other h.regions region r xs [] d) refl
]

-- trees look at the blocks that regions name only where they are named
over_blocks : (s : ℕ → Op) (h : Flat) (region : ℕ) (xs bs : List ℕ) → blocks_over s (with_blocks h region xs) bs ≡ blocks_over s h bs
over_blocks s h region xs [] = refl
over_blocks s h region xs (b ∷ bs) = ap (next_block b (values_at h (block_at h b).args) (ops_over s (block_at h b).ops)) (over_blocks s h region xs bs)

pub block_matches : (f : Flat) (region at : ℕ) → region < length f.regions
    → let g : Flat = with_blocks (with_block f) region (insert (blocks_at f region) at (length f.blocks)) in Matches (block_added region at (length f.blocks)) f g
block_matches f region at l = let h : Flat = with_block f in let new = length f.blocks in let xs = insert (blocks_at f region) at new in let g : Flat = with_blocks h region xs in
    let stays : (b : ℕ) → b < length f.blocks → block_at g b ≡ block_at f b = λ b k. get_or_append_left f.blocks (no_block ∷ []) no_block b k in record {
      front = λ i k. refl;
      regions = λ i k. refl;
      blocks = λ n r k. let s = tree n g in
          ap (λ bs. cond (r == region) (block_put_in at new [] ops_end bs) bs) (over_blocks s h region xs (blocks_at f r))
          ∙ blocks_replaced h region xs s (block_put_in at new [] ops_end) l (blocks_inserted s h (blocks_at f region) at new (get_or_push f.blocks no_block no_block new refl)) r
          ∙ sym (over_blocks s h region xs (blocks_at g r));
      args = λ b k. ap (λ (m : BlockNode). values_at f m.args) (sym (stays b k));
      ops = λ n b k. ap (λ (m : BlockNode). ops_over (tree n g) m.ops) (sym (stays b k));
    }

pub renamed_matches : (f : Flat) (op : ℕ) (name : List ℕ) (props : List NamedAttr) → op < length f.ops → Matches (front_renamed op name props) f (with_node f op (record (op_at f op) { name = name; props = props }))
renamed_matches f op name props l = let n : OpNode = record (op_at f op) { name = name; props = props } in let g : Flat = with_node f op n in record {
  front = λ i h. elim (cases_eq i op) [
    | inl p ↦ subst (λ (x : ℕ). cond (x == op) (record (front_of f x (op_at f x)) { name = name; props = props }) (front_of f x (op_at f x)) ≡ front_of g x (op_at g x)) (sym p)
        (rw (eq-eqb op op refl, get_or-set_same f.ops op n no_op l) refl)
    | inr d ↦ rw (ne_eqb i op d, get_or-set_other f.ops op i n no_op d) refl
  ];
  regions = λ i h. elim (cases_eq i op) [
    | inl p ↦ subst (λ (x : ℕ). (op_at g x).regions ≡ (op_at f x).regions) (sym p) (ap (λ (m : OpNode). m.regions) (get_or-set_same f.ops op n no_op l))
    | inr d ↦ ap (λ (m : OpNode). m.regions) (get_or-set_other f.ops op i n no_op d)
  ];
  blocks = λ n r h. refl;
  args = λ b h. refl;
  ops = λ k b h. refl;
}

pub block_added_effect : (f g : Flat) (region at : ℕ) → g ≡ with_blocks (with_block f) region (insert (blocks_at f region) at (length f.blocks)) → IsClosed f → region < length f.regions
    → (n i : ℕ) → i < length f.ops → op_edited (block_added region at (length f.blocks)) (tree n f i) ≡ tree n g i
block_added_effect f g region at e c l n i h = let x : Flat = with_blocks (with_block f) region (insert (blocks_at f region) at (length f.blocks)) in
    edited (block_added region at (length f.blocks)) f x (block_matches f region at l) c n i h ∙ ap (λ y. tree n y i) (sym e)

pub renamed_effect : (f g : Flat) (op : ℕ) (name : List ℕ) (props : List NamedAttr) → g ≡ with_node f op (record (op_at f op) { name = name; props = props }) → IsClosed f → op < length f.ops
    → (n i : ℕ) → i < length f.ops → op_edited (front_renamed op name props) (tree n f i) ≡ tree n g i
renamed_effect f g op name props e c l n i h = let x : Flat = with_node f op (record (op_at f op) { name = name; props = props }) in
    edited (front_renamed op name props) f x (renamed_matches f op name props l) c n i h ∙ ap (λ y. tree n y i) (sym e)
