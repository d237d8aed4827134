use Rattle.std.proofs.Common.{◌≡◌, ℕ, List, ◌∷◌, drop, map}
use Rattle.std.specs.List.{All}
use Rattle.plain_tree.specs.Ops.{blocks_in, ops_in, plain_op, regions_in}
use Rattle.value_types.specs.Trees.{plain_block, plain_region}
use Rattle.use_paths.specs.Levels.{Known, Spot, spot_at}
use Rattle.use_paths.specs.Uses.{Ahead, blocks_uses, ops_uses, regions_uses}
use Rattle.use_paths.specs.Views.{IsRight, spots_in}
use Rattle.use_paths.proofs.walk.+walk_op.Given as goal

abbrev pub invariant-walk_regions-loop-region : goal.invariant-walk_regions-loop-region
invariant-walk_regions-loop-region l = record {
  right : All IsRight l.walk.levels.items;
  kept : spots_in l.walk.levels.items ≡ spots_in l.initial.walk.levels.items;
  ahead : Ahead l.initial.walk.count l.initial.walk.found l.walk.count l.walk.found
      (λ rest. regions_uses (spots_in l.initial.walk.levels.items) (regions_in (map plain_region l.regions)) rest)
      (λ rest. regions_uses (spots_in l.initial.walk.levels.items) (regions_in (map plain_region (drop l.region-index l.regions))) rest);
}

abbrev pub invariant-walk_blocks-loop-block : goal.invariant-walk_blocks-loop-block
invariant-walk_blocks-loop-block l = record {
  right : All IsRight l.walk.levels.items;
  passes : (known : Known) (n left : ℕ) (outer : List Spot) → spots_in l.initial.walk.levels.items ≡ spot_at known n left ∷ outer
      → ((new_n : ℕ) × (new_left : ℕ) × (spots_in l.walk.levels.items ≡ spot_at known new_n new_left ∷ outer))
      × Ahead l.initial.walk.count l.initial.walk.found l.walk.count l.walk.found
      (λ rest. blocks_uses outer known (blocks_in (map plain_block l.blocks)) rest)
      (λ rest. blocks_uses outer known (blocks_in (map plain_block (drop l.block-index l.blocks))) rest);
}

abbrev pub invariant-walk_ops-loop-index : goal.invariant-walk_ops-loop-index
invariant-walk_ops-loop-index l = record {
  right : All IsRight l.walk.levels.items;
  passes : (known : Known) (n left : ℕ) (outer : List Spot) → spots_in l.initial.walk.levels.items ≡ spot_at known n left ∷ outer
      → ((new_left : ℕ) × (spots_in l.walk.levels.items ≡ spot_at known n new_left ∷ outer))
      × Ahead l.initial.walk.count l.initial.walk.found l.walk.count l.walk.found
      (λ rest. ops_uses outer known n (ops_in (map plain_op l.ops)) rest)
      (λ rest. ops_uses outer known n (ops_in (map plain_op (drop l.index l.ops))) rest);
}
