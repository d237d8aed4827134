-- The tree that a function has, however deep, is its tree with enough levels.
use Rattle.std.proofs.Common.{◌≡◌, ℕ, zero, suc, ◌≤◌, ◌+◌, List, [], ◌∷◌, refl, sym, ap, ◌∙◌, arith}
use Rattle.flat_model.specs.Flat.{Flat, op_at, block_at, blocks_at}
use Rattle.edit_effects.specs.HandleTree.{Op, op_of, Ops, ops_end, next_op, Regions, regions_end, next_region, Blocks, blocks_end, next_block, values_at, ops_over, blocks_over, regions_over, tree}
use Rattle.edit_effects.specs.Shown.{OpIs, OpsAre, RegionsAre, BlocksAre}

abbrev mutual
  -- how many regions there are in a tree
  pub op_size : Op → ℕ
  op_size (op_of front regions) = regions_size regions

  pub ops_size : Ops → ℕ
  ops_size ops_end = 0
  ops_size (next_op o os) = op_size o + ops_size os

  pub regions_size : Regions → ℕ
  regions_size regions_end = 0
  regions_size (next_region r bs more) = suc (blocks_size bs + regions_size more)

  pub blocks_size : Blocks → ℕ
  blocks_size blocks_end = 0
  blocks_size (next_block b args os more) = ops_size os + blocks_size more

module _ (f : Flat) where
  mutual
    -- as many levels as there are regions are enough
    pub is_tree : (n i : ℕ) (t : Op) → OpIs f i t → op_size t ≤ n → tree n f i ≡ t
    is_tree zero i (op_of front regions_end) h s = ap (λ x. op_of x regions_end) (sym h.0)
    is_tree zero i (op_of front (next_region r bs more)) h s = absurd (omega arith)
    is_tree (suc n) i (op_of front regions) h s = ap (λ x. op_of x (regions_over (tree n f) f (op_at f i).regions)) (sym h.0) ∙ ap (op_of front) (are_regions n (op_at f i).regions regions h.1 s)

    are_ops : (n : ℕ) (is : List ℕ) (t : Ops) → OpsAre f is t → ops_size t ≤ n → ops_over (tree n f) is ≡ t
    are_ops n [] ops_end h s = refl
    are_ops n [] (next_op o os) h s = absurd h
    are_ops n (i ∷ is) ops_end h s = absurd h
    are_ops n (i ∷ is) (next_op o os) h s = ap (λ x. next_op x (ops_over (tree n f) is)) (is_tree n i o h.0 (omega arith)) ∙ ap (next_op o) (are_ops n is os h.1 (omega arith))

    are_regions : (n : ℕ) (rs : List ℕ) (t : Regions) → RegionsAre f rs t → regions_size t ≤ suc n → regions_over (tree n f) f rs ≡ t
    are_regions n [] regions_end h s = refl
    are_regions n [] (next_region q bs more) h s = absurd h
    are_regions n (r ∷ rs) regions_end h s = absurd h
    are_regions n (r ∷ rs) (next_region q bs more) h s =
        ap (λ x. next_region x (blocks_over (tree n f) f (blocks_at f r)) (regions_over (tree n f) f rs)) (sym h.0)
        ∙ ap (λ x. next_region q x (regions_over (tree n f) f rs)) (are_blocks n (blocks_at f r) bs h.1 (omega arith))
        ∙ ap (next_region q bs) (are_regions n rs more h.2 (omega arith))

    are_blocks : (n : ℕ) (bs : List ℕ) (t : Blocks) → BlocksAre f bs t → blocks_size t ≤ n → blocks_over (tree n f) f bs ≡ t
    are_blocks n [] blocks_end h s = refl
    are_blocks n [] (next_block c args os more) h s = absurd h
    are_blocks n (b ∷ bs) blocks_end h s = absurd h
    are_blocks n (b ∷ bs) (next_block c args os more) h s =
        ap (λ x. next_block x (values_at f (block_at f b).args) (ops_over (tree n f) (block_at f b).ops) (blocks_over (tree n f) f bs)) (sym h.0)
        ∙ ap (λ x. next_block c x (ops_over (tree n f) (block_at f b).ops) (blocks_over (tree n f) f bs)) (sym h.1)
        ∙ ap (λ x. next_block c args x (blocks_over (tree n f) f bs)) (are_ops n (block_at f b).ops os h.2 (omega arith))
        ∙ ap (next_block c args os) (are_blocks n bs more h.3 (omega arith))
