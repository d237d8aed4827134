-- Each layer of a tree, and of the edited tree.
use Rattle.std.proofs.Common.{◌≡◌, ℕ, Bool, true, false, List, [], ◌∷◌, ◌++◌, map, refl, ap, ◌∙◌}
use Rattle.std.specs.Prelude.{if◌then◌else◌}
use Rattle.std.proofs.lemmas.Grind.{common_steps}
use Rattle.tree_model.specs.declared.op_tree.OpTree.{OpTree, out-OpTree, roll-OpTree, fold_out-OpTree}
use Rattle.tree_model.specs.declared.op_tree.BlockTree.{BlockTree, out-BlockTree, roll-BlockTree, fold_out-BlockTree}
use Rattle.tree_model.specs.declared.op_tree.RegionTree.{RegionTree, out-RegionTree, roll-RegionTree, fold_out-RegionTree}
use Rattle.tree_model.specs.declared.op_tree.BlockTree.TheOpen.{OpTree-F, BlockTree-F, RegionTree-F}
use Rattle.tree_model.specs.declared.op_tree.BlockTree.TheFolds.{fold-roll-OpTree, fold-roll-BlockTree, fold-roll-RegionTree}
use Rattle.plain_tree.specs.Attrs.{plain_entries}
use Rattle.plain_tree.specs.Ops.{Op, op, more_ops, region, Blocks, block, PlainBlock, block_at, op_at, region_at, blocks_in, ops_in, regions_in, plain_op, plain_values}
use Rattle.conversion_model.specs.Uses.{op_without, ops_uses, ops_without, regions_uses, regions_without, blocks_uses, blocks_without}
use Rattle.tree_uses.specs.Edited.{block_edited, edited, kept, op_from, plain_block, plain_region, region_edited}

kept_regions : (to : ℕ → ℕ) (test : Op → Bool) (rs : List Blocks) → regions_uses to (regions_without test (regions_in rs)) ≡ regions_in (map (region_edited to test) rs)
unfolding region_edited
kept_regions to test [] = refl
kept_regions to test (r ∷ rs) = ap (region (blocks_uses to (blocks_without test r))) (kept_regions to test rs)

kept_blocks : (to : ℕ → ℕ) (test : Op → Bool) (bs : List PlainBlock) → blocks_uses to (blocks_without test (blocks_in bs)) ≡ blocks_in (map (block_edited to test) bs)
unfolding block_edited
kept_blocks to test [] = refl
kept_blocks to test (b ∷ bs) = ap (block b.label b.args (ops_uses to (ops_without test b.ops))) (kept_blocks to test bs)

kept_one : (to : ℕ → ℕ) (test : Op → Bool) (o : Op) (os : List Op) (b : Bool) → ops_uses to (ops_without test (ops_in os)) ≡ ops_in (kept to test os)
    → ops_uses to (if b then ops_without test (ops_in os) else more_ops (op_without test o) (ops_without test (ops_in os))) ≡ ops_in (if b then kept to test os else edited to test o ∷ kept to test os)
kept_one to test o os true e = e
kept_one to test o os false e = ap (more_ops (edited to test o)) e

kept_ops : (to : ℕ → ℕ) (test : Op → Bool) (os : List Op) → ops_uses to (ops_without test (ops_in os)) ≡ ops_in (kept to test os)
kept_ops to test [] = refl
kept_ops to test (o ∷ os) = kept_one to test o os (test o) (kept_ops to test os)

-- one operation more
one_more : (to : ℕ → ℕ) (test : Op → Bool) (b : Bool) (o : Op) (ks ls : List Op) → (if b then ks ++ ls else edited to test o ∷ (ks ++ ls)) ≡ (if b then ks else edited to test o ∷ ks) ++ ls
one_more to test true o ks ls = refl
one_more to test false o ks ls = refl

pub kept_last : (to : ℕ → ℕ) (test : Op → Bool) (os : List Op) (o : Op) → kept to test (os ++ o ∷ []) ≡ kept to test os ++ kept to test (o ∷ [])
kept_last to test [] o = refl
kept_last to test (p ∷ os) o = ap (λ ks. if test p then ks else edited to test p ∷ ks) (kept_last to test os o) ∙ one_more to test (test p) p (kept to test os) (kept to test (o ∷ []))

pub one_omitted : (to : ℕ → ℕ) (test : Op → Bool) (o : Op) → test o ≡ true → kept to test (o ∷ []) ≡ []
one_omitted to test o e = ap (λ b. if b then [] else edited to test o ∷ []) e

pub one_kept : (to : ℕ → ℕ) (test : Op → Bool) (o : Op) → test o ≡ false → kept to test (o ∷ []) ≡ edited to test o ∷ []
one_kept to test o e = ap (λ b. if b then [] else edited to test o ∷ []) e

pub op_plain_at : (o : OpTree) → plain_op o ≡ op_from (out-OpTree o).name (plain_entries (out-OpTree o).props) (plain_entries (out-OpTree o).attrs) (plain_values (out-OpTree o).results) (out-OpTree o).operands (map plain_region (out-OpTree o).regions) (out-OpTree o).successors
unfolding plain_op plain_region op_from
op_plain_at o = fold_out-OpTree PlainBlock Op Blocks block_at op_at region_at o

-- an edited operation by its parts
pub op_edited_at : (to : ℕ → ℕ) (test : Op → Bool) (o : OpTree) → edited to test (plain_op o)
    ≡ op_from (out-OpTree o).name (plain_entries (out-OpTree o).props) (plain_entries (out-OpTree o).attrs) (plain_values (out-OpTree o).results) (map to (out-OpTree o).operands) (map (region_edited to test) (map plain_region (out-OpTree o).regions)) (out-OpTree o).successors
unfolding op_from
op_edited_at to test o =
    ap (edited to test) (op_plain_at o)
    ∙ ap (λ rs. op (record { name = (out-OpTree o).name; props = plain_entries (out-OpTree o).props; attrs = plain_entries (out-OpTree o).attrs }) (plain_values (out-OpTree o).results) (map to (out-OpTree o).operands) rs (out-OpTree o).successors)
    (kept_regions to test (map plain_region (out-OpTree o).regions))

pub region_edited_at : (to : ℕ → ℕ) (test : Op → Bool) (r : RegionTree) → region_edited to test (plain_region r) ≡ blocks_in (map (block_edited to test) (map plain_block (out-RegionTree r).blocks))
unfolding plain_block plain_region region_edited
region_edited_at to test r =
    ap (λ x. blocks_uses to (blocks_without test x)) (fold_out-RegionTree PlainBlock Op Blocks block_at op_at region_at r)
    ∙ kept_blocks to test (map plain_block (out-RegionTree r).blocks)

pub block_edited_at : (to : ℕ → ℕ) (test : Op → Bool) (b : BlockTree) → block_edited to test (plain_block b) ≡ record { label = (out-BlockTree b).label; args = plain_values (out-BlockTree b).args; ops = ops_in (kept to test (map plain_op (out-BlockTree b).ops)) }
unfolding plain_op plain_block block_edited
block_edited_at to test b =
    ap (λ (x : PlainBlock). record { label = x.label; args = x.args; ops = ops_uses to (ops_without test x.ops) }) (fold_out-BlockTree PlainBlock Op Blocks block_at op_at region_at b)
    ∙ ap (λ os. record { label = (out-BlockTree b).label; args = plain_values (out-BlockTree b).args; ops = os }) (kept_ops to test (map plain_op (out-BlockTree b).ops))

pub op_made : (x : OpTree-F BlockTree OpTree RegionTree) → plain_op (roll-OpTree x)
    ≡ op_from x.name (plain_entries x.props) (plain_entries x.attrs) (plain_values x.results) x.operands (map plain_region x.regions) x.successors
unfolding plain_op plain_region op_from
op_made x = fold-roll-OpTree PlainBlock Op Blocks block_at op_at region_at x

pub block_made : (x : BlockTree-F BlockTree OpTree RegionTree) → plain_block (roll-BlockTree x) ≡ record { label = x.label; args = plain_values x.args; ops = ops_in (map plain_op x.ops) }
unfolding plain_op plain_block
block_made x = fold-roll-BlockTree PlainBlock Op Blocks block_at op_at region_at x

pub region_made : (x : RegionTree-F BlockTree OpTree RegionTree) → plain_region (roll-RegionTree x) ≡ blocks_in (map plain_block x.blocks)
unfolding plain_block plain_region
region_made x = fold-roll-RegionTree PlainBlock Op Blocks block_at op_at region_at x

pub ruleset layers = (common_steps, op_edited_at, region_edited_at, block_edited_at, kept_last)

pub ruleset makers = (common_steps, op_made, block_made, region_made)
