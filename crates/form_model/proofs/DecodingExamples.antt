-- A worked example of decoding: a tree as a run sees it.
use Rattle.std.proofs.Common.{◌≡◌, ℕ, List, [], ◌∷◌, map, refl, ap, ◌∙◌}
use Rattle.std.specs.Prelude.{codes, pos}
use Rattle.tree_model.specs.declared.type_tree.TypeTree.{TypeTree, out-TypeTree}
use Rattle.tree_model.specs.declared.type_tree.TypeTree as type
use Rattle.tree_model.specs.declared.type_tree.TypeTree.TheVariants.{outs-Int}
use Rattle.tree_model.specs.declared.attr_tree.AttrTree as attr
use Rattle.tree_model.specs.declared.attr_tree.AttrTree.TheVariants as parts
use Rattle.tree_model.specs.declared.op_tree.OpTree.{OpTree, roll-OpTree, fold-roll-OpTree}
use Rattle.tree_model.specs.declared.op_tree.BlockTree.{BlockTree, roll-BlockTree, fold-roll-BlockTree}
use Rattle.tree_model.specs.declared.op_tree.RegionTree.{RegionTree, roll-RegionTree, fold-roll-RegionTree}
use Rattle.tree_model.specs.declared.op_tree.BlockTree.TheOpen.{OpTree-F, BlockTree-F, RegionTree-F}
use Rattle.tree_model.specs.declared.op_tree.BlockTree.TheFolds.{fold-BlockTree, fold-RegionTree}
use Rattle.number_model.specs.Arithmetic.{no_flags, Add}
use Rattle.operation_model.specs.Values.{Integer}
use Rattle.operation_model.specs.Pures.{Known, TwoNumbers}
use Rattle.operation_model.specs.Calling.{Bare}
use Rattle.operation_model.specs.Forms.{Computes, Return}
use Rattle.form_model.specs.Codes.{Ops, OpsEnd, Op, Blocks, BlocksEnd, Block, Regions, RegionsEnd, Region}
use Rattle.form_model.specs.Properties.{Entries}
use Rattle.form_model.specs.Classes.{form_of}
use Rattle.form_model.specs.Decoding.{Values, code_of, block_code, region_code, op_code, in_front}

abbrev block_of : ℕ → Values → BlockTree → Blocks → Blocks
block_of bits values = fold-BlockTree (Blocks → Blocks) (Ops → Ops) (Regions → Regions) block_code (op_code bits values) region_code

abbrev region_of : ℕ → Values → RegionTree → Regions → Regions
region_of bits values = fold-RegionTree (Blocks → Blocks) (Ops → Ops) (Regions → Regions) block_code (op_code bits values) region_code

-- an operation, a block and a region, in front of what stands behind
code_of-op : (bits : ℕ) (values : Values) (o : OpTree-F BlockTree OpTree RegionTree) (rest : Ops)
    → code_of bits values (roll-OpTree o) rest
    ≡ op_code bits values (record { name = o.name; results = o.results; operands = o.operands; props = o.props; attrs = o.attrs; regions = map (region_of bits values) o.regions; successors = o.successors }) rest
unfolding code_of
code_of-op bits values o rest = ap (λ f. f rest) (fold-roll-OpTree (Blocks → Blocks) (Ops → Ops) (Regions → Regions) block_code (op_code bits values) region_code o)

block_of-block : (bits : ℕ) (values : Values) (b : BlockTree-F BlockTree OpTree RegionTree) (more : Blocks)
    → block_of bits values (roll-BlockTree b) more ≡ block_code (record { label = b.label; args = b.args; ops = map (code_of bits values) b.ops }) more
unfolding code_of
block_of-block bits values b more = ap (λ f. f more) (fold-roll-BlockTree (Blocks → Blocks) (Ops → Ops) (Regions → Regions) block_code (op_code bits values) region_code b)

region_of-region : (bits : ℕ) (values : Values) (r : RegionTree-F BlockTree OpTree RegionTree) (more : Regions)
    → region_of bits values (roll-RegionTree r) more ≡ region_code (record { blocks = map (block_of bits values) r.blocks }) more
region_of-region bits values r more = ap (λ f. f more) (fold-roll-RegionTree (Blocks → Blocks) (Ops → Ops) (Regions → Regions) block_code (op_code bits values) region_code r)

abbrev i32 : TypeTree
i32 = type.Int 32

abbrev op : List ℕ → Values → List ℕ → Entries → OpTree
op name results operands props = roll-OpTree (record { name = name; results = results; operands = operands; props = props; attrs = []; regions = []; successors = [] })

-- a function that adds 1 to its argument
abbrev one : OpTree
one = op (codes "arith.constant") ((1, i32) ∷ []) [] ((codes "value", attr.Int (pos 1) i32) ∷ [])

abbrev sum : OpTree
sum = op (codes "arith.addi") ((2, i32) ∷ []) (0 ∷ 1 ∷ []) []

abbrev back : OpTree
back = op (codes "func.return") [] (2 ∷ []) []

abbrev inc : OpTree
inc = roll-OpTree (record {
  name = codes "func.func";
  results = [];
  operands = [];
  props = [];
  attrs = [];
  regions = roll-RegionTree (record { blocks = roll-BlockTree (record { label = 7; args = (0, i32) ∷ []; ops = one ∷ sum ∷ back ∷ [] }) ∷ [] }) ∷ [];
  successors = [];
})

abbrev values : Values
values = (0, i32) ∷ (1, i32) ∷ (2, i32) ∷ []

one_is : (rest : Ops) → code_of 64 values one rest ≡ Op (Computes (Known (Integer 1))) (1 ∷ []) [] [] RegionsEnd rest
one_is rest = code_of-op 64 values _ rest ∙ ap (λ f. Op f (1 ∷ []) [] [] RegionsEnd rest) (unfold form_of in simp (outs-Int, parts.outs-Int) refl)

sum_is : (rest : Ops) → code_of 64 values sum rest ≡ Op (Computes (TwoNumbers (Add no_flags) 32)) (2 ∷ []) (0 ∷ 1 ∷ []) [] RegionsEnd rest
sum_is rest = code_of-op 64 values _ rest ∙ ap (λ f. Op f (2 ∷ []) (0 ∷ 1 ∷ []) [] RegionsEnd rest) (unfold form_of in simp outs-Int refl)

back_is : (rest : Ops) → code_of 64 values back rest ≡ Op (Return Bare) [] (2 ∷ []) [] RegionsEnd rest
back_is rest = code_of-op 64 values _ rest ∙ ap (λ f. Op f [] (2 ∷ []) [] RegionsEnd rest) (unfold form_of in refl)

body_is : (more : Regions) → in_front (map (region_of 64 values) (roll-RegionTree (record { blocks = roll-BlockTree (record { label = 7; args = (0, i32) ∷ []; ops = one ∷ sum ∷ back ∷ [] }) ∷ [] }) ∷ [])) more
    ≡ Region (Block 7 (0 ∷ []) (Op (Computes (Known (Integer 1))) (1 ∷ []) [] [] RegionsEnd (Op (Computes (TwoNumbers (Add no_flags) 32)) (2 ∷ []) (0 ∷ 1 ∷ []) [] RegionsEnd (Op (Return Bare) [] (2 ∷ []) [] RegionsEnd OpsEnd))) BlocksEnd) more
body_is more =
    region_of-region 64 values _ more
    ∙ ap (λ b. Region b more) (block_of-block 64 values _ BlocksEnd ∙ ap (λ ops. Block 7 (0 ∷ []) ops BlocksEnd) (one_is _ ∙ ap (λ ops. Op (Computes (Known (Integer 1))) (1 ∷ []) [] [] RegionsEnd ops) (sum_is _ ∙ ap (λ ops. Op (Computes (TwoNumbers (Add no_flags) 32)) (2 ∷ []) (0 ∷ 1 ∷ []) [] RegionsEnd ops) (back_is OpsEnd))))
