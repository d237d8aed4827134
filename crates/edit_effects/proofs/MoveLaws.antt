-- Operations taken out by their numbers, and blocks cut in two, as edits of the tree.
use Rattle.std.proofs.Common.{◌≡◌, ℕ, zero, suc, ◌<◌, inl, inr, List, [], ◌∷◌, length, get_or, set, take, drop, refl, sym, ap, subst, ◌∙◌, arith}
use Rattle.std.specs.Prelude.{insert, remove}
use Rattle.std.proofs.lemmas.List.{get_or-set_same, get_or-set_other, get_or_append_left, get_or_push, length-set}
use Rattle.std.proofs.lemmas.Bool.{cases_eq, eq-eqb, ne_eqb}
use Rattle.flat_model.specs.Flat.{BlockNode, Flat, no_block, op_at, block_at, blocks_at, AllBelow, IsClosed}
use Rattle.edit_model.specs.Writes.{with_ops}
use Rattle.edit_effects.specs.HandleTree.{Op, op_of, next_op, regions_end, next_region, Blocks, next_block, values_at, front_of, ops_over, blocks_over, regions_over, tree}
use Rattle.edit_effects.specs.Effects.{Edit, nothing, op_edited, ops_edited, regions_edited, blocks_edited}
use Rattle.edit_effects.specs.Cuts.{with_cut, with_split}
use Rattle.edit_effects.specs.Places.{StandsAt, StandsOnce, BlockStandsAt, BlockStandsOnce, IsErased, erased_at, erased_nowhere}
use Rattle.edit_effects.specs.Moves.{number_of, without, op_gone, ops_before, ops_behind, cut_in, block_split}
use Rattle.edit_effects.proofs.EffectLaws.{Matches, edited, args_written}

-- a tree's root has the number that the tree was made of
tree_number : (n : ℕ) (f : Flat) (i : ℕ) → number_of (tree n f i) ≡ i
tree_number zero f i = refl
tree_number (suc n) f i = refl

module _ (s : ℕ → Op) (named : (i : ℕ) → number_of (s i) ≡ i) (op : ℕ) where
  without_absent : (is : List ℕ) → ((k : ℕ) → k < length is → get_or is k 0 ≡ op → ⊥) → without op (ops_over s is) ≡ ops_over s is
  without_absent [] a = refl
  without_absent (i ∷ is) a = rw (named i, ne_eqb i op (a zero (omega arith))) (ap (next_op (s i)) (without_absent is (λ k l. a (suc k) (omega arith))))

  without_at : (is : List ℕ) (at : ℕ) → at < length is → get_or is at 0 ≡ op → ((k : ℕ) → k < length is → get_or is k 0 ≡ op → k ≡ at) → without op (ops_over s is) ≡ ops_over s (remove is at)
  without_at [] at l e o = absurd (omega arith)
  without_at (i ∷ is) zero l e o = rw (named i, eq-eqb i op e) (without_absent is (λ k m d. let x : suc k ≡ zero = o (suc k) (omega arith) d in omega (arith, x)))
  without_at (i ∷ is) (suc at) l e o = rw (named i, ne_eqb i op (λ d. let x : zero ≡ suc at = o zero (omega arith) d in omega (arith, x)))
      (ap (next_op (s i)) (without_at is at (omega arith) e (λ k m d. let x : suc k ≡ suc at = o (suc k) (omega arith) d in omega (arith, x))))

-- the operation stands nowhere
gone_nowhere : (f : Flat) (op : ℕ) → ((block at : ℕ) → StandsAt f op block at → ⊥) → Matches (op_gone op) f f
gone_nowhere f op a = record {
  front = λ i h. refl;
  regions = λ i h. refl;
  blocks = λ n r h. refl;
  args = λ b h. refl;
  ops = λ n b h. without_absent (tree n f) (tree_number n f) op (block_at f b).ops (λ k l e. a b k (record { inside = h; place = l; is = e }));
}

-- it stands at one place
gone_matches : (f : Flat) (op block at : ℕ) → StandsAt f op block at → StandsOnce f op → Matches (op_gone op) f (with_ops f block (remove (block_at f block).ops at))
gone_matches f op block at s u = let xs = (block_at f block).ops in let g : Flat = with_ops f block (remove xs at) in let m : BlockNode = record (block_at f block) { ops = remove xs at } in record {
  front = λ i h. refl;
  regions = λ i h. refl;
  blocks = λ n r h. refl;
  args = λ b h. ap (values_at f) (sym (args_written f block (remove xs at) b s.inside));
  ops = λ n b h. elim (cases_eq b block) [
    | inl p ↦ subst (λ (x : ℕ). without op (ops_over (tree n g) (block_at f x).ops) ≡ ops_over (tree n g) (block_at g x).ops) (sym p)
        (without_at (tree n g) (tree_number n g) op xs at s.place s.is (λ k l e. (u.once block k block at (record { inside = s.inside; place = l; is = e }) s).1)
        ∙ ap (λ (y : BlockNode). ops_over (tree n g) y.ops) (sym (get_or-set_same f.blocks block m no_block s.inside)))
    | inr d ↦ without_absent (tree n g) (tree_number n g) op (block_at f b).ops (λ k l e. d (u.once b k block at (record { inside = h; place = l; is = e }) s).0)
        ∙ ap (λ (y : BlockNode). ops_over (tree n g) y.ops) (sym (get_or-set_other f.blocks block b m no_block d))
  ];
}

pub gone_effect : (f g : Flat) (op : ℕ) → IsErased f op g → IsClosed f → StandsOnce f op → (n i : ℕ) → i < length f.ops → op_edited (op_gone op) (tree n f i) ≡ tree n g i
gone_effect f g op (erased_at block at s e) c u n i h = edited (op_gone op) f (with_ops f block (remove (block_at f block).ops at)) (gone_matches f op block at s u) c n i h ∙ ap (λ x. tree n x i) (sym e)
gone_effect f g op (erased_nowhere a e) c u n i h = edited (op_gone op) f f (gone_nowhere f op a) c n i h ∙ ap (λ x. tree n x i) (sym e)

-- a change of the blocks of regions alone, that goes over from the nodes before to those after, whatever operations are
pub record Rearranges (change : ℕ → Blocks → Blocks) (f g : Flat) : Type 0 where
  pub front : (i : ℕ) → i < length f.ops → front_of f i (op_at f i) ≡ front_of g i (op_at g i)
  pub regions : (i : ℕ) → i < length f.ops → (op_at g i).regions ≡ (op_at f i).regions
  pub blocks : (s : ℕ → Op) (r : ℕ) → r < length f.regions → change r (blocks_over s f (blocks_at f r)) ≡ blocks_over s g (blocks_at g r)

head_below : (m x : ℕ) (xs : List ℕ) → AllBelow m (x ∷ xs) → x < m
head_below m x xs a = a 0 0 (omega arith)

rest_below : (m x : ℕ) (xs : List ℕ) → AllBelow m (x ∷ xs) → AllBelow m xs
rest_below m x xs a k d l = a (suc k) d (omega arith)

module _ (change : ℕ → Blocks → Blocks) (f g : Flat) (m : Rearranges change f g) (c : IsClosed f) where
  abbrev rearranging : Edit
  rearranging = record nothing { blocks = change }

  ops_go : (s t : ℕ → Op) → ((i : ℕ) → i < length f.ops → op_edited rearranging (s i) ≡ t i) → (is : List ℕ) → AllBelow (length f.ops) is → ops_edited rearranging (ops_over s is) ≡ ops_over t is
  ops_go s t h [] a = refl
  ops_go s t h (i ∷ is) a = ap (λ o. next_op o (ops_edited rearranging (ops_over s is))) (h i (head_below (length f.ops) i is a)) ∙ ap (next_op (t i)) (ops_go s t h is (rest_below (length f.ops) i is a))

  blocks_go : (s t : ℕ → Op) → ((i : ℕ) → i < length f.ops → op_edited rearranging (s i) ≡ t i) → (bs : List ℕ) → AllBelow (length f.blocks) bs → blocks_edited rearranging (blocks_over s f bs) ≡ blocks_over t f bs
  blocks_go s t h [] a = refl
  blocks_go s t h (b ∷ bs) a =
      ap (λ os. next_block b (values_at f (block_at f b).args) os (blocks_edited rearranging (blocks_over s f bs))) (ops_go s t h (block_at f b).ops (c.within.block b (head_below (length f.blocks) b bs a)).ops)
      ∙ ap (next_block b (values_at f (block_at f b).args) (ops_over t (block_at f b).ops)) (blocks_go s t h bs (rest_below (length f.blocks) b bs a))

  regions_go : (s t : ℕ → Op) → ((i : ℕ) → i < length f.ops → op_edited rearranging (s i) ≡ t i) → (rs : List ℕ) → AllBelow (length f.regions) rs → regions_edited rearranging (regions_over s f rs) ≡ regions_over t g rs
  regions_go s t h [] a = refl
  regions_go s t h (r ∷ rs) a = let l : r < length f.regions = head_below (length f.regions) r rs a in
      ap (λ bs. next_region r (change r bs) (regions_edited rearranging (regions_over s f rs))) (blocks_go s t h (blocks_at f r) (c.within.region r l))
      ∙ ap (λ bs. next_region r bs (regions_edited rearranging (regions_over s f rs))) (m.blocks t r l)
      ∙ ap (next_region r (blocks_over t g (blocks_at g r))) (regions_go s t h rs (rest_below (length f.regions) r rs a))

  pub rearranged : (n i : ℕ) → i < length f.ops → op_edited rearranging (tree n f i) ≡ tree n g i
  rearranged zero i h = ap (λ x. op_of x regions_end) (m.front i h)
  rearranged (suc n) i h =
      ap (λ x. op_of x (regions_edited rearranging (regions_over (tree n f) f (op_at f i).regions))) (m.front i h)
      ∙ ap (op_of (front_of g i (op_at g i))) (regions_go (tree n f) (tree n g) (rearranged n) (op_at f i).regions (c.within.op i h).regions
      ∙ ap (regions_over (tree n g) g) (sym (m.regions i h)))

over_take : (s : ℕ → Op) (is : List ℕ) (at : ℕ) → ops_before at (ops_over s is) ≡ ops_over s (take at is)
over_take s is zero = refl
over_take s [] (suc at) = refl
over_take s (i ∷ is) (suc at) = ap (next_op (s i)) (over_take s is at)

over_drop : (s : ℕ → Op) (is : List ℕ) (at : ℕ) → ops_behind at (ops_over s is) ≡ ops_over s (drop at is)
over_drop s is zero = refl
over_drop s [] (suc at) = refl
over_drop s (i ∷ is) (suc at) = over_drop s is at

-- blocks whose nodes are the same in both
same_blocks : (s : ℕ → Op) (f g : Flat) (bs : List ℕ) → g.types ≡ f.types → ((k : ℕ) → k < length bs → block_at g (get_or bs k 0) ≡ block_at f (get_or bs k 0)) → blocks_over s f bs ≡ blocks_over s g bs
same_blocks s f g [] t a = refl
same_blocks s f g (b ∷ bs) t a =
    ap (λ (m : BlockNode). next_block b (values_at f m.args) (ops_over s m.ops) (blocks_over s f bs)) (sym (a zero (omega arith)))
    ∙ ap (λ ts. let h : Flat = record f { types = ts } in next_block b (values_at h (block_at g b).args) (ops_over s (block_at g b).ops) (blocks_over s f bs)) (sym t)
    ∙ ap (next_block b (values_at g (block_at g b).args) (ops_over s (block_at g b).ops)) (same_blocks s f g bs t (λ k l. a (suc k) (omega arith)))

-- a block that isn't among these is cut nowhere
cut_absent : (s : ℕ → Op) (f : Flat) (block at new : ℕ) (bs : List ℕ) → ((k : ℕ) → k < length bs → get_or bs k 0 ≡ block → ⊥) → cut_in block at new (blocks_over s f bs) ≡ blocks_over s f bs
cut_absent s f block at new [] a = refl
cut_absent s f block at new (b ∷ bs) a = rw (ne_eqb b block (a zero (omega arith)))
    (ap (next_block b (values_at f (block_at f b).args) (ops_over s (block_at f b).ops)) (cut_absent s f block at new bs (λ k l. a (suc k) (omega arith))))

-- what the nodes of blocks are after a cut
record IsCut (f g : Flat) (block at new : ℕ) : Type 0 where
  front : block_at g block ≡ record (block_at f block) { ops = take at (block_at f block).ops }
  end : block_at g new ≡ record no_block { ops = drop at (block_at f block).ops }
  others : (b : ℕ) → b < length f.blocks → (b ≡ block → ⊥) → block_at g b ≡ block_at f b
  types : g.types ≡ f.types

-- the block at a place among these, and nowhere else
cut_there : (s : ℕ → Op) (f g : Flat) (block at new : ℕ) → IsCut f g block at new → (bs : List ℕ) (place : ℕ) → place < length bs → get_or bs place 0 ≡ block
    → ((k : ℕ) → k < length bs → get_or bs k 0 ≡ block → k ≡ place) → AllBelow (length f.blocks) bs → cut_in block at new (blocks_over s f bs) ≡ blocks_over s g (insert bs (suc place) new)
cut_there s f g block at new c [] place l e o a = absurd (omega arith)
cut_there s f g block at new c (b ∷ bs) zero l e o a =
    let absent : (k : ℕ) → k < length bs → get_or bs k 0 ≡ block → ⊥ = λ k m d. let x : suc k ≡ zero = o (suc k) (omega arith) d in omega (arith, x) in
    let stays : blocks_over s f bs ≡ blocks_over s g bs = same_blocks s f g bs c.types (λ k m. c.others (get_or bs k 0) (a (suc k) 0 (omega arith)) (absent k m)) in
    let xs = (block_at f block).ops in let vs = values_at f (block_at f block).args in
    let back : Blocks = next_block new [] (ops_over s (drop at xs)) (blocks_over s g bs) in
    rw (eq-eqb b block e)
    (ap (λ x. next_block x (values_at f (block_at f x).args) (ops_before at (ops_over s (block_at f x).ops)) (next_block new [] (ops_behind at (ops_over s (block_at f x).ops)) (cut_in block at new (blocks_over s f bs)))) e
    ∙ ap (λ y. next_block block vs y (next_block new [] (ops_behind at (ops_over s xs)) (cut_in block at new (blocks_over s f bs)))) (over_take s xs at)
    ∙ ap (λ y. next_block block vs (ops_over s (take at xs)) (next_block new [] y (cut_in block at new (blocks_over s f bs)))) (over_drop s xs at)
    ∙ ap (λ y. next_block block vs (ops_over s (take at xs)) (next_block new [] (ops_over s (drop at xs)) y)) (cut_absent s f block at new bs absent ∙ stays)
    ∙ ap (λ ts. let h : Flat = record f { types = ts } in next_block block (values_at h (block_at f block).args) (ops_over s (take at xs)) back) (sym c.types)
    ∙ ap (λ (m : BlockNode). next_block block (values_at g m.args) (ops_over s m.ops) back) (sym c.front)
    ∙ ap (λ (m : BlockNode). next_block block (values_at g (block_at g block).args) (ops_over s (block_at g block).ops) (next_block new (values_at g m.args) (ops_over s m.ops) (blocks_over s g bs))) (sym c.end)
    ∙ ap (λ x. next_block x (values_at g (block_at g x).args) (ops_over s (block_at g x).ops) (next_block new (values_at g (block_at g new).args) (ops_over s (block_at g new).ops) (blocks_over s g bs))) (sym e))
cut_there s f g block at new c (b ∷ bs) (suc place) l e o a =
    let other : b ≡ block → ⊥ = λ d. let x : zero ≡ suc place = o zero (omega arith) d in omega (arith, x) in
    rw (ne_eqb b block other)
    (ap (next_block b (values_at f (block_at f b).args) (ops_over s (block_at f b).ops))
    (cut_there s f g block at new c bs place (omega arith) e (λ k m d. let x : suc k ≡ suc place = o (suc k) (omega arith) d in omega (arith, x)) (rest_below (length f.blocks) b bs a))
    ∙ ap (λ (m : BlockNode). next_block b (values_at f m.args) (ops_over s m.ops) (blocks_over s g (insert bs (suc place) new))) (sym (c.others b (head_below (length f.blocks) b bs a) other))
    ∙ ap (λ ts. let h : Flat = record f { types = ts } in next_block b (values_at h (block_at g b).args) (ops_over s (block_at g b).ops) (blocks_over s g (insert bs (suc place) new))) (sym c.types))

is_cut : (f : Flat) (block at : ℕ) → block < length f.blocks → IsCut f (with_cut f block at) block at (length f.blocks)
is_cut f block at l = let bs = f.blocks in let n = length bs in let xs = (block_at f block).ops in
    let front : BlockNode = record (block_at f block) { ops = take at xs } in let back : BlockNode = record { args = []; ops = drop at xs } in
    let cs = set bs block front in let m : length cs ≡ n = length-set bs block front in record {
      front = get_or_append_left cs (back ∷ []) no_block block (omega (arith, m)) ∙ get_or-set_same bs block front no_block l;
      end = get_or_push cs back no_block n m;
      others = λ b k d. get_or_append_left cs (back ∷ []) no_block b (omega (arith, m)) ∙ get_or-set_other bs block b front no_block d;
      types = refl;
    }

split_rearranges : (f : Flat) (region place block at : ℕ) → IsClosed f → block < length f.blocks → BlockStandsAt f block region place → BlockStandsOnce f block
    → Rearranges (λ r bs. cut_in block at (length f.blocks) bs) f (with_split f region place block at)
split_rearranges f region place block at c l s u = let new = length f.blocks in let g : Flat = with_split f region place block at in let xs = insert (blocks_at f region) (suc place) new in
    let is : IsCut f g block at new = let k = is_cut f block at l in record { front = k.front; end = k.end; others = k.others; types = k.types } in record {
      front = λ i h. refl;
      regions = λ i h. refl;
      blocks = λ t r h. elim (cases_eq r region) [
        | inl p ↦ subst (λ (x : ℕ). cut_in block at new (blocks_over t f (blocks_at f x)) ≡ blocks_over t g (blocks_at g x)) (sym p)
            (cut_there t f g block at new is (blocks_at f region) place s.place s.is (λ k m d. (u.once region k region place (record { inside = s.inside; place = m; is = d }) s).1) (c.within.region region s.inside)
            ∙ ap (blocks_over t g) (sym (get_or-set_same f.regions region xs [] s.inside)))
        | inr d ↦
            let absent : (k : ℕ) → k < length (blocks_at f r) → get_or (blocks_at f r) k 0 ≡ block → ⊥ = λ k m e. d (u.once r k region place (record { inside = h; place = m; is = e }) s).0 in
            cut_absent t f block at new (blocks_at f r) absent
            ∙ same_blocks t f g (blocks_at f r) refl (λ k m. is.others (get_or (blocks_at f r) k 0) (c.within.region r h k 0 m) (absent k m))
            ∙ ap (blocks_over t g) (sym (get_or-set_other f.regions region r xs [] d))
      ];
    }

pub split_effect : (f g : Flat) (region place block at : ℕ) → g ≡ with_split f region place block at → IsClosed f → block < length f.blocks → BlockStandsAt f block region place → BlockStandsOnce f block
    → (n i : ℕ) → i < length f.ops → op_edited (block_split block at (length f.blocks)) (tree n f i) ≡ tree n g i
split_effect f g region place block at e c l s u n i h =
    rearranged (λ r bs. cut_in block at (length f.blocks) bs) f (with_split f region place block at) (split_rearranges f region place block at c l s u) c n i h ∙ ap (λ x. tree n x i) (sym e)
