-- Each layer of a tree, and of what is made of it.
use Rattle.std.proofs.Common.{◌≡◌, ℕ, List, [], ◌∷◌, map, refl, ap, ◌∙◌}
use Rattle.std.proofs.Math.Path.{fun_ext}
use Rattle.std.proofs.lemmas.Grind.{common_steps}
use Rattle.tree_model.specs.declared.op_tree.BlockTree.{BlockTree, out-BlockTree, fold_out-BlockTree}
use Rattle.tree_model.specs.declared.op_tree.OpTree.{OpTree, out-OpTree, fold_out-OpTree}
use Rattle.tree_model.specs.declared.op_tree.RegionTree.{RegionTree, out-RegionTree, fold_out-RegionTree}
use Rattle.run_code.specs.declared.function.Operation.{Operation, roll-Operation, fold-roll-Operation}
use Rattle.run_code.specs.declared.function.Block.{Block, roll-Block, fold-roll-Block}
use Rattle.run_code.specs.declared.function.Region.{Region, roll-Region, fold-roll-Region}
use Rattle.run_code.specs.declared.function.Block.TheOpen.{Operation-F, Block-F, Region-F}
use Rattle.operation_model.specs.Forms.{Form}
use Rattle.run_code.specs.Views as code
use Rattle.form_model.specs.Codes.{Ops, OpsEnd, Op, Blocks, BlocksEnd, Block as block, Regions, RegionsEnd, Region as region}
use Rattle.form_model.specs.Decoding.{code_of, first_blocks, in_front, block_code, numbers_of, region_code, values_in}
use Rattle.decode_code.specs.CodeBy.{Reading, block_by, block_from, code_by, form_by, op_by, op_from, read, region_blocks, region_by, region_from}

abbrev B : Type 0
B = Blocks → Blocks

abbrev O : Type 0
O = Ops → Ops

abbrev R : Type 0
R = Regions → Regions

-- both crates put lists in front in the same way
same_front : {A : Type 0} (fs : List (A → A)) (rest : A) → code.in_front fs rest ≡ in_front fs rest
same_front [] rest = refl
same_front (f ∷ fs) rest = ap f (same_front fs rest)

pub code_by_at : (r : Reading) (o : OpTree) → code_by r o ≡ op_from (form_by r o) (numbers_of (out-OpTree o).results) (out-OpTree o).operands (out-OpTree o).successors (map (region_by r) (out-OpTree o).regions)
unfolding code_by region_by op_from
code_by_at r o = fold_out-OpTree B O R block_code (op_by r) region_code o

pub block_by_at : (r : Reading) (b : BlockTree) → block_by r b ≡ block_from (out-BlockTree b).label (numbers_of (out-BlockTree b).args) (map (code_by r) (out-BlockTree b).ops)
unfolding block_by code_by block_from
block_by_at r b = fold_out-BlockTree B O R block_code (op_by r) region_code b

pub region_by_at : (r : Reading) (t : RegionTree) → region_by r t ≡ region_from (map (block_by r) (out-RegionTree t).blocks)
unfolding region_by block_by region_from
region_by_at r t = fold_out-RegionTree B O R block_code (op_by r) region_code t

pub op_front_at : (o : Operation-F Block Operation Region) → code.op_in_front (roll-Operation o) ≡ op_from (code.form_of o.form) o.results o.operands o.successors (map code.region_in_front o.regions)
unfolding code.op_in_front code.region_in_front op_from
op_front_at o =
    fold-roll-Operation B O R code.block_code code.op_code code.region_code o
    ∙ fun_ext (λ rest. ap (λ rs. Op (code.form_of o.form) o.results o.operands o.successors rs rest) (same_front (map code.region_in_front o.regions) RegionsEnd))

pub block_front_at : (b : Block-F Block Operation Region) → code.block_in_front (roll-Block b) ≡ block_from b.label b.args (map code.op_in_front b.ops)
unfolding code.block_in_front code.op_in_front block_from
block_front_at b =
    fold-roll-Block B O R code.block_code code.op_code code.region_code b
    ∙ fun_ext (λ more. ap (λ os. block b.label b.args os more) (same_front (map code.op_in_front b.ops) OpsEnd))

pub region_front_at : (t : Region-F Block Operation Region) → code.region_in_front (roll-Region t) ≡ region_from (map code.block_in_front t.blocks)
unfolding code.region_in_front code.block_in_front region_from
region_front_at t =
    fold-roll-Region B O R code.block_code code.op_code code.region_code t
    ∙ fun_ext (λ more. ap (λ bs. region bs more) (same_front (map code.block_in_front t.blocks) BlocksEnd))

code_is : (bits : ℕ) (o : OpTree) → code_of bits (values_in o) o ≡ code_by (read bits o) o
unfolding code_of code_by
code_is bits o = refl

first_of_regions : (form : Form) (rs os ls : List ℕ) (blocks : List B) (more : List R) → first_blocks (op_from form rs os ls (region_from blocks ∷ more) OpsEnd) ≡ in_front blocks BlocksEnd
unfolding op_from region_from
first_of_regions form rs os ls blocks more = refl

-- the blocks of the first region
pub body_at : (bits : ℕ) (o : OpTree) (t : RegionTree) (ts : List RegionTree) → (out-OpTree o).regions ≡ t ∷ ts
    → first_blocks (code_of bits (values_in o) o OpsEnd) ≡ region_blocks bits o t
body_at bits o t ts e =
    let r = read bits o in
    ap (λ f. first_blocks (f OpsEnd)) (code_is bits o ∙ code_by_at r o)
    ∙ ap (λ l. first_blocks (op_from (form_by r o) (numbers_of (out-OpTree o).results) (out-OpTree o).operands (out-OpTree o).successors (map (region_by r) l) OpsEnd)) e
    ∙ ap (λ f. first_blocks (op_from (form_by r o) (numbers_of (out-OpTree o).results) (out-OpTree o).operands (out-OpTree o).successors (f ∷ map (region_by r) ts) OpsEnd)) (region_by_at r t)
    ∙ first_of_regions (form_by r o) (numbers_of (out-OpTree o).results) (out-OpTree o).operands (out-OpTree o).successors (map (block_by r) (out-RegionTree t).blocks) (map (region_by r) ts)

no_first : (form : Form) (rs os ls : List ℕ) → first_blocks (op_from form rs os ls [] OpsEnd) ≡ BlocksEnd
unfolding op_from
no_first form rs os ls = refl

-- no region
pub no_body : (bits : ℕ) (o : OpTree) → (out-OpTree o).regions ≡ [] → first_blocks (code_of bits (values_in o) o OpsEnd) ≡ BlocksEnd
no_body bits o e =
    let r = read bits o in
    ap (λ f. first_blocks (f OpsEnd)) (code_is bits o ∙ code_by_at r o)
    ∙ ap (λ l. first_blocks (op_from (form_by r o) (numbers_of (out-OpTree o).results) (out-OpTree o).operands (out-OpTree o).successors (map (region_by r) l) OpsEnd)) e
    ∙ no_first (form_by r o) (numbers_of (out-OpTree o).results) (out-OpTree o).operands (out-OpTree o).successors

blocks_are : (bs : List Block) → code.blocks_of bs ≡ in_front (map code.block_in_front bs) BlocksEnd
blocks_are [] = refl
blocks_are (b ∷ bs) = ap (code.block_in_front b) (blocks_are bs)

-- blocks that were made one by one
pub blocks_made : (bs : List Block) (r : Reading) (ts : List BlockTree) → map code.block_in_front bs ≡ map (block_by r) ts → code.blocks_of bs ≡ in_front (map (block_by r) ts) BlocksEnd
blocks_made bs r ts e = blocks_are bs ∙ ap (λ fs. in_front fs BlocksEnd) e

pub ruleset layers = (common_steps, code_by_at, block_by_at, region_by_at, blocks_made, body_at, no_body)

pub ruleset makers = (common_steps, op_front_at, block_front_at, region_front_at)
