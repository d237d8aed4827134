-- Which tree with handles a function in nodes has, however deep its regions are.
use Rattle.std.specs.Prelude.{◌≡◌, ℕ, List, [], ◌∷◌}
use Rattle.flat_model.specs.Flat.{Flat, op_at, block_at, blocks_at}
use Rattle.edit_effects.specs.HandleTree.{Op, op_of, Ops, ops_end, next_op, Regions, regions_end, next_region, Blocks, blocks_end, next_block, values_at, front_of}

abbrev mutual
  -- the operation of that number is this tree
  pub OpIs : Flat → ℕ → Op → Type 0
  OpIs f i (op_of front regions) = (front ≡ front_of f i (op_at f i)) × RegionsAre f (op_at f i).regions regions

  pub OpsAre : Flat → List ℕ → Ops → Type 0
  OpsAre f [] ops_end = Unit {0}
  OpsAre f [] (next_op o os) = ⊥
  OpsAre f (i ∷ is) ops_end = ⊥
  OpsAre f (i ∷ is) (next_op o os) = OpIs f i o × OpsAre f is os

  pub RegionsAre : Flat → List ℕ → Regions → Type 0
  RegionsAre f [] regions_end = Unit {0}
  RegionsAre f [] (next_region q bs more) = ⊥
  RegionsAre f (r ∷ rs) regions_end = ⊥
  RegionsAre f (r ∷ rs) (next_region q bs more) = (q ≡ r) × BlocksAre f (blocks_at f r) bs × RegionsAre f rs more

  pub BlocksAre : Flat → List ℕ → Blocks → Type 0
  BlocksAre f [] blocks_end = Unit {0}
  BlocksAre f [] (next_block c args os more) = ⊥
  BlocksAre f (b ∷ bs) blocks_end = ⊥
  BlocksAre f (b ∷ bs) (next_block c args os more) = (c ≡ b) × (args ≡ values_at f (block_at f b).args) × OpsAre f (block_at f b).ops os × BlocksAre f bs more

abbrev mutual
  -- neither of the two regions is among those of the tree
  pub OpLacks : ℕ → ℕ → Op → Type 0
  OpLacks r q (op_of front regions) = RegionsLack r q regions

  pub OpsLack : ℕ → ℕ → Ops → Type 0
  OpsLack r q ops_end = Unit {0}
  OpsLack r q (next_op o os) = OpLacks r q o × OpsLack r q os

  pub RegionsLack : ℕ → ℕ → Regions → Type 0
  RegionsLack r q regions_end = Unit {0}
  RegionsLack r q (next_region s bs more) = (s ≡ r → ⊥) × (s ≡ q → ⊥) × BlocksLack r q bs × RegionsLack r q more

  pub BlocksLack : ℕ → ℕ → Blocks → Type 0
  BlocksLack r q blocks_end = Unit {0}
  BlocksLack r q (next_block b args os more) = OpsLack r q os × BlocksLack r q more
