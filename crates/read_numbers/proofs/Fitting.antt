-- When what is behind a word is numbered in order: in the innermost region, and in each one around it up to the function.
use Rattle.std.proofs.Common.{◌≡◌, ℕ, zero, suc, ◌+◌, ◌&&◌, Bool, true, false, List, [], ◌∷◌, map, length, refl, sym, ap, subst, arith}
use Rattle.std.specs.Prelude.{not}
use Rattle.std.specs.List.{list_all}
use Rattle.mlir_lex.proofs.Lengths.{and-both, eqb-refl}
use Rattle.tree_model.specs.declared.type_tree.TypeTree.{TypeTree}
use Rattle.tree_model.specs.declared.op_tree.OpTree.{OpTree}
use Rattle.tree_model.specs.declared.op_tree.BlockTree.{BlockTree}
use Rattle.tree_model.specs.declared.op_tree.RegionTree.{RegionTree}
use Rattle.plain_tree.specs.Types.{PlainType}
use Rattle.plain_tree.specs.Ops as trees
use Rattle.plain_tree.specs.Ops.{Op, op, Ops, end_of_ops, more_ops, Regions, end_of_regions, region, Blocks, end_of_blocks, block, Kind, PlainBlock, Values, plain_op, plain_values}
use Rattle.plain_tree.proofs.OpOpens.{block-roll, plain_block, plain_region, region-roll}
use Rattle.event_trees.specs.Levels.{Level, Levels, region_blocks, region_opened}
use Rattle.event_trees.specs.Modules.{first_ops, is_module}
use Rattle.read_states.specs.Numbering.{Count, are_counted, are_numbered, are_numbered_blocks, are_numbered_regions, is_numbered, none_counted, past_blocks, past_ops, past_regions, past_values}
use Rattle.read_states.specs.Levels.{args_in, below, blocks_in, ops_in, regions_in}
use Rattle.read_states.proofs.Counting.{past_open}

abbrev pub regions_of : List RegionTree → Regions
regions_of rs = trees.regions_in (map plain_region rs)

abbrev pub ops_of : List OpTree → Ops
ops_of os = trees.ops_in (map plain_op os)

abbrev pub blocks_of : List BlockTree → Blocks
blocks_of bs = trees.blocks_in (map plain_block bs)

-- a function that is numbered in order
abbrev pub is_fit : OpTree → Bool
is_fit o = is_numbered none_counted (plain_op o) && not (is_module o)

-- those of a body, before a label or behind the first one
pub record Functions (os : List OpTree) (bs : List BlockTree) : Type 0 where
  pub ops_fit : list_all is_fit os ≡ true
  pub first_fit : list_all is_fit (first_ops bs) ≡ true

-- regions, arguments, operations and blocks, numbered one after the other, and what holds behind them
abbrev pub InnerFits : Count → Regions → Values → Ops → Blocks → (Count → Type 0) → Type 0
InnerFits c R A O B rest =
    (are_numbered_regions c R ≡ true)
    × (are_counted (past_regions c R).values A ≡ true)
    × (are_numbered (past_values (past_regions c R) (length A)) O ≡ true)
    × (are_numbered_blocks (past_ops (past_values (past_regions c R) (length A)) O) B ≡ true)
    × rest (past_blocks (past_ops (past_values (past_regions c R) (length A)) O) B)

-- so many regions above the function
abbrev pub FitsOf : ℕ → Count → List RegionTree → List (ℕ × TypeTree) → List OpTree → List BlockTree → Levels → Type 0
FitsOf zero c rs args os bs ks = (are_numbered_regions c (regions_of rs) ≡ true) × Functions os bs
FitsOf (suc n) c rs args os bs ks = InnerFits c (regions_of rs) (plain_values args) (ops_of os) (blocks_of bs) (λ d. FitsOf n d (regions_in ks) (args_in ks) (ops_in ks) (blocks_in ks) (below ks))

abbrev pub FitsAt : ℕ → Count → Levels → Type 0
FitsAt n c k = FitsOf n c (regions_in k) (args_in k) (ops_in k) (blocks_in k) (below k)

-- Counts

pub past_none : (c : Count) → past_values c 0 ≡ c
past_none c = let e : c.values + 0 ≡ c.values = omega arith in ap (λ (v : ℕ). record { values = v; labels = c.labels }) e

past_one : (c : Count) (n : ℕ) → past_values (past_values c 1) n ≡ past_values c (suc n)
past_one c n = let e : c.values + 1 + n ≡ c.values + suc n = omega arith in ap (λ (v : ℕ). record { values = v; labels = c.labels }) e

-- One word more

pub inner_close : (c : Count) (rest : Count → Type 0) → rest c → InnerFits c end_of_regions [] end_of_ops end_of_blocks rest
inner_close c rest h = (refl, refl, refl, refl, subst rest (sym (past_none c)) h)

abbrev BlocksFit : Blocks → (Count → Type 0) → Count → Type 0
BlocksFit B rest d = (are_numbered_blocks d B ≡ true) × rest (past_blocks d B)

abbrev OpsFit : Ops → Blocks → (Count → Type 0) → Count → Type 0
OpsFit O B rest d = (are_numbered d O ≡ true) × (are_numbered_blocks (past_ops d O) B ≡ true) × rest (past_blocks (past_ops d O) B)

pub inner_label : (c : Count) (A : Values) (O : Ops) (B : Blocks) (rest : Count → Type 0) → InnerFits (record { values = c.values; labels = c.labels + 1 }) end_of_regions A O B rest
    → InnerFits c end_of_regions [] end_of_ops (block c.labels A O B) rest
inner_label c A O B rest h =
    let first : are_numbered_blocks c (block c.labels A O B) ≡ true = and-both _ _ (eqb-refl c.labels) (and-both _ _ h.1 (and-both _ _ h.2 h.3)) in
    let moved = subst (BlocksFit (block c.labels A O B) rest) (sym (past_none c)) (first, h.4) in
    (refl, refl, refl, moved.0, moved.1)

pub inner_arg : (c : Count) (t : PlainType) (A : Values) (O : Ops) (B : Blocks) (rest : Count → Type 0) → InnerFits (past_values c 1) end_of_regions A O B rest
    → InnerFits c end_of_regions ((c.values, t) ∷ A) O B rest
inner_arg c t A O B rest h =
    let moved = subst (OpsFit O B rest) (past_one c (length A)) (h.2, h.3, h.4) in
    (refl, and-both _ _ (eqb-refl c.values) h.1, moved.0, moved.1, moved.2)

pub inner_op : (c : Count) (k : Kind) (r : Values) (operands : List ℕ) (R : Regions) (successors : List ℕ) (O : Ops) (B : Blocks) (rest : Count → Type 0)
    → are_counted c.values r ≡ true → InnerFits (past_values c (length r)) R [] O B rest → InnerFits c end_of_regions [] (more_ops (op k r operands R successors) O) B rest
inner_op c k r operands R successors O B rest counted h =
    let behind = subst (OpsFit O B rest) (past_none (past_regions (past_values c (length r)) R)) (h.2, h.3, h.4) in
    let first : is_numbered c (op k r operands R successors) ≡ true = and-both _ _ counted h.0 in
    let moved = subst (OpsFit (more_ops (op k r operands R successors) O) B rest) (sym (past_none c)) (and-both _ _ first behind.0, behind.1, behind.2) in
    (refl, refl, moved.0, moved.1, moved.2)

-- Regions

-- an operation begins a region exactly where there is one in front of its labels
abbrev pub OpensWith : Bool → List OpTree → Type 0
OpensWith true [] = ⊥
OpensWith true (o ∷ os) = Unit {0}
OpensWith false [] = Unit {0}
OpensWith false (o ∷ os) = ⊥

pub opened_blocks : (c : Count) (b : Bool) (os : List OpTree) (bs : List BlockTree) (rest : Count → Type 0) → OpensWith b os → InnerFits (past_open b c) end_of_regions [] (ops_of os) (blocks_of bs) rest
    → BlocksFit (blocks_of (region_blocks c.labels os bs)) rest c
opened_blocks c true [] bs rest opens h = absurd opens
opened_blocks c false (o ∷ os) bs rest opens h = absurd opens
opened_blocks c false [] bs rest opens h = subst (BlocksFit (blocks_of bs) rest) (past_none c) (h.3, h.4)
opened_blocks c true (o ∷ os) bs rest opens h =
    let first : are_numbered_blocks c (block c.labels [] (ops_of (o ∷ os)) (blocks_of bs)) ≡ true = and-both _ _ (eqb-refl c.labels) (and-both true _ refl (and-both _ _ h.2 h.3)) in
    subst (λ (b : PlainBlock). BlocksFit (block b.label b.args b.ops (blocks_of bs)) rest c) (sym (block-roll _)) (first, h.4)

pub region_front : (n : ℕ) (r : RegionTree) (c : Count) (rs : List RegionTree) (args : List (ℕ × TypeTree)) (os : List OpTree) (bs : List BlockTree) (ks : Levels)
    → are_numbered_blocks c (plain_region r) ≡ true → FitsOf n (past_blocks c (plain_region r)) rs args os bs ks → FitsOf n c (r ∷ rs) args os bs ks
region_front zero r c rs args os bs ks h f = (and-both _ _ h f.0, f.1)
region_front (suc n) r c rs args os bs ks h f = (and-both _ _ h f.0, f.1, f.2, f.3, f.4)

-- the region that opens here, in front of the others
pub open_front : (n : ℕ) (c : Count) (b : Bool) (l : Level) (rs : List RegionTree) (args : List (ℕ × TypeTree)) (os : List OpTree) (bs : List BlockTree) (ks : Levels)
    → OpensWith b l.ops → InnerFits (past_open b c) end_of_regions [] (ops_of l.ops) (blocks_of l.blocks) (λ d. FitsOf n d rs args os bs ks) → FitsOf n c (region_opened c.labels l ∷ rs) args os bs ks
open_front n c b l rs args os bs ks opens h =
    let fits = opened_blocks c b l.ops l.blocks (λ d. FitsOf n d rs args os bs ks) opens h in
    let same : plain_region (region_opened c.labels l) ≡ blocks_of (region_blocks c.labels l.ops l.blocks) = region-roll _ in
    region_front n (region_opened c.labels l) c rs args os bs ks (subst (λ (B : Blocks). are_numbered_blocks c B ≡ true) (sym same) fits.0)
    (subst (λ (B : Blocks). FitsOf n (past_blocks c B) rs args os bs ks) (sym same) fits.1)
