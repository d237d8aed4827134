-- What each layer of the code stands for.
use Rattle.std.proofs.Common.{◌≡◌, List, [], ◌∷◌, refl, ap, ◌∙◌, map}
use Rattle.form_model.specs.Codes as codes
use Rattle.run_code.specs.declared.function.Operation.{Operation, out-Operation}
use Rattle.run_code.specs.declared.function.Block.{Block, out-Block}
use Rattle.run_code.specs.declared.function.Region.{Region, out-Region}
use Rattle.run_code.specs.declared.function.Block.TheFolds.{fold_out-Operation, fold_out-Block, fold_out-Region}
use Rattle.run_code.specs.Views.{form_of, block_code, op_code, region_code, in_front, op_in_front, block_in_front, region_in_front, ops_of, blocks_of, regions_of}

abbrev B : Type 0
B = codes.Blocks → codes.Blocks

abbrev O : Type 0
O = codes.Ops → codes.Ops

abbrev R : Type 0
R = codes.Regions → codes.Regions

all_ops : (os : List Operation) → in_front (map op_in_front os) codes.OpsEnd ≡ ops_of os
all_ops [] = refl
all_ops (o ∷ os) = ap (op_in_front o) (all_ops os)

all_blocks : (bs : List Block) → in_front (map block_in_front bs) codes.BlocksEnd ≡ blocks_of bs
all_blocks [] = refl
all_blocks (b ∷ bs) = ap (block_in_front b) (all_blocks bs)

all_regions : (rs : List Region) → in_front (map region_in_front rs) codes.RegionsEnd ≡ regions_of rs
all_regions [] = refl
all_regions (r ∷ rs) = ap (region_in_front r) (all_regions rs)

pub op_is : (o : Operation) (rest : codes.Ops)
    → op_in_front o rest ≡ codes.Op (form_of (out-Operation o).form) (out-Operation o).results (out-Operation o).operands (out-Operation o).successors (regions_of (out-Operation o).regions) rest
unfolding op_in_front region_in_front
op_is o rest =
    ap (λ f. f rest) (fold_out-Operation B O R block_code op_code region_code o)
    ∙ ap (λ rs. codes.Op (form_of (out-Operation o).form) (out-Operation o).results (out-Operation o).operands (out-Operation o).successors rs rest) (all_regions (out-Operation o).regions)

pub block_is : (b : Block) (rest : codes.Blocks)
    → block_in_front b rest ≡ codes.Block (out-Block b).label (out-Block b).args (ops_of (out-Block b).ops) rest
unfolding block_in_front op_in_front
block_is b rest =
    ap (λ f. f rest) (fold_out-Block B O R block_code op_code region_code b)
    ∙ ap (λ os. codes.Block (out-Block b).label (out-Block b).args os rest) (all_ops (out-Block b).ops)

pub region_is : (r : Region) (rest : codes.Regions) → region_in_front r rest ≡ codes.Region (blocks_of (out-Region r).blocks) rest
unfolding region_in_front block_in_front
region_is r rest =
    ap (λ f. f rest) (fold_out-Region B O R block_code op_code region_code r)
    ∙ ap (λ bs. codes.Region bs rest) (all_blocks (out-Region r).blocks)
