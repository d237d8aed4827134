-- Heads of blocks, and blocks by their labels.
use Rattle.std.proofs.Common.{◌≡◌, ℕ, suc, ◌+◌, ◌-◌, ◌==◌, Bool, true, false, List, [], ◌∷◌, map, length, refl, sym, ap, ◌∙◌, arith}
use Rattle.std.specs.Prelude.{Option, Some, None, if◌then◌else◌}
use Rattle.std.specs.Option.{option_map}
use Rattle.std.specs.List.{slice_get}
use Rattle.std.proofs.Math.Dec.{eqb-suc-zero}
use Rattle.std.proofs.lemmas.Grind.{common_steps}
use Rattle.tree_model.specs.declared.type_tree.TypeTree.{TypeTree}
use Rattle.tree_model.specs.declared.op_tree.BlockTree.{BlockTree, out-BlockTree}
use Rattle.tree_model.specs.declared.op_tree.OpTree.{OpTree, out-OpTree}
use Rattle.tree_model.specs.declared.op_tree.RegionTree.{RegionTree, out-RegionTree}
use Rattle.plain_tree.specs.Types.{plain_type}
use Rattle.plain_tree.specs.Ops.{PlainBlock, blocks_in, ops_in, plain_op, plain_values, regions_in}
use Rattle.rule_model.specs.Words.{block_of, is_first, name_of, types}
use Rattle.rule_model.specs.Facts.{heads, last_in, last_name, regions_heads}
use Rattle.value_types.specs.Trees.{plain_block, plain_region}
use Rattle.value_types.proofs.Layers.{args_in_block, ops_in_block, plain_block_at, plain_op_at, plain_region_at}
use Rattle.function_tests.specs.Heads.{head_at, heads_at, heads_in, place_of}

pub types_plain : (vs : List (ℕ × TypeTree)) → types (plain_values vs) ≡ map (λ v. plain_type v.1) vs
types_plain [] = refl
types_plain (v ∷ vs) = ap (λ ts. plain_type v.1 ∷ ts) (types_plain vs)

-- the last operation's name
name_at : (o : OpTree) → name_of (plain_op o) ≡ (out-OpTree o).name
name_at o = ap name_of (plain_op_at o)

last_from : (o : OpTree) (os : List OpTree) → Some (last_name (name_of (plain_op o)) (ops_in (map plain_op os))) ≡ option_map (λ q. (out-OpTree q).name) (slice_get (o ∷ os) (length os))
last_from o [] = ap Some (name_at o)
last_from o (q ∷ os) = last_from q os

pub last_is : (os : List OpTree) → last_in (ops_in (map plain_op os)) ≡ option_map (λ q. (out-OpTree q).name) (slice_get os (length os - 1))
last_is [] = refl
last_is (o ∷ os) = last_from o os ∙ (let same : length os ≡ length (o ∷ os) - 1 = omega arith in ap (λ n. option_map (λ q. (out-OpTree q).name) (slice_get (o ∷ os) n)) same)

-- heads of blocks and regions
pub heads_of_blocks : (bs : List BlockTree) → heads (blocks_in (map plain_block bs)) ≡ heads_in bs
heads_of_blocks [] = refl
heads_of_blocks (b ∷ bs) = ap (λ hs. head_at (plain_block b) ∷ hs) (heads_of_blocks bs)

pub heads_of_regions : (rs : List RegionTree) → regions_heads (regions_in (map plain_region rs)) ≡ map heads_at rs
heads_of_regions [] = refl
heads_of_regions (r ∷ rs) = ap (λ hs. hs ∷ regions_heads (regions_in (map plain_region rs))) (ap heads (plain_region_at r) ∙ heads_of_blocks (out-RegionTree r).blocks) ∙ ap (λ rest. heads_at r ∷ rest) (heads_of_regions rs)

-- blocks by their labels
label_at : (b : BlockTree) → (plain_block b).label ≡ (out-BlockTree b).label
label_at b = ap (λ (p : PlainBlock). p.label) (plain_block_at b)

abbrev pub found_at : List BlockTree → Option ℕ → Option PlainBlock
found_at bs None = None
found_at bs (Some n) = option_map plain_block (slice_get bs n)

on_one : (b : BlockTree) (bs : List BlockTree) (o : Option ℕ) → found_at bs o ≡ found_at (b ∷ bs) (option_map (λ n. n + 1) o)
on_one b bs None = refl
on_one b bs (Some n) = let same : suc n ≡ n + 1 = omega arith in ap (λ m. option_map plain_block (slice_get (b ∷ bs) m)) same

pub block_found : (l : ℕ) (bs : List BlockTree) → block_of l (blocks_in (map plain_block bs)) ≡ found_at bs (place_of l bs)
block_found l [] = refl
block_found l (b ∷ bs) = ap (λ n. if n == l then Some (plain_block b) else block_of l (blocks_in (map plain_block bs))) (label_at b) ∙ go ((out-BlockTree b).label == l) (block_found l bs)
  where
    go : (c : Bool) → block_of l (blocks_in (map plain_block bs)) ≡ found_at bs (place_of l bs)
        → (if c then Some (plain_block b) else block_of l (blocks_in (map plain_block bs))) ≡ found_at (b ∷ bs) (if c then Some 0 else option_map (λ n. n + 1) (place_of l bs))
    go true e = refl
    go false e = e ∙ on_one b bs (place_of l bs)

abbrev pub at_front : Option ℕ → Bool
at_front None = false
at_front (Some n) = n == 0

pub first_found : (l : ℕ) (bs : List BlockTree) → is_first l (blocks_in (map plain_block bs)) ≡ at_front (place_of l bs)
first_found l [] = refl
first_found l (b ∷ bs) = ap (λ n. n == l) (label_at b) ∙ go ((out-BlockTree b).label == l) (place_of l bs)
  where
    go : (c : Bool) (o : Option ℕ) → c ≡ at_front (if c then Some 0 else option_map (λ n. n + 1) o)
    go true o = refl
    go false None = refl
    go false (Some n) = sym (later n)
      where
        later : (m : ℕ) → (m + 1 == 0) ≡ false
        later m = let e : m + 1 ≡ suc m = omega arith in ap (λ k. k == 0) e ∙ eqb-suc-zero m

pub ruleset layers = (common_steps, types_plain, last_is, args_in_block, ops_in_block, heads_of_blocks, heads_of_regions, plain_op_at)
