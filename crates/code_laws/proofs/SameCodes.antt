-- The functions of a module are those of its plain form.
use Rattle.std.proofs.Common.{◌≡◌, ℕ, ◌==◌, Bool, true, false, List, [], ◌∷◌, ◌++◌, Some, map, refl, sym, ap, ◌∙◌, append_assoc, append-nil}
use Rattle.std.specs.Prelude.{flat_map, if◌then◌else◌}
use Rattle.std.specs.Option.{unwrap_or}
use Rattle.tree_model.specs.declared.type_tree.TypeTree.{TypeTree}
use Rattle.tree_model.specs.declared.type_tree.TypeTree as type
use Rattle.tree_model.specs.declared.op_tree.OpTree.{OpTree, roll-OpTree, fold-roll-OpTree, out-roll-OpTree}
use Rattle.tree_model.specs.declared.op_tree.BlockTree.{BlockTree, roll-BlockTree, fold-roll-BlockTree}
use Rattle.tree_model.specs.declared.op_tree.RegionTree.{RegionTree, roll-RegionTree, fold-roll-RegionTree}
use Rattle.tree_model.specs.declared.op_tree.BlockTree.TheOpen.{OpTree-F, BlockTree-F, RegionTree-F}
use Rattle.tree_model.specs.declared.op_tree.BlockTree.TheFolds.{fold-BlockTree, fold-RegionTree}
use Rattle.plain_tree.specs.Types.{PlainType, type_tree}
use Rattle.plain_tree.specs.Attrs.{entries_tree}
use Rattle.plain_tree.specs.Ops.{Op, op, Ops, end_of_ops, more_ops, Regions, end_of_regions, region, Blocks, end_of_blocks, block, Values, func_tree, values_tree, op_tree, op_trees, region_trees, block_trees}
use Rattle.plain_tree.specs.Values.{op_values, ops_values, regions_values, blocks_values, type_in, types_of}
use Rattle.form_model.specs.Codes.{Function}
use Rattle.form_model.specs.Codes as code
use Rattle.form_model.specs.Classes.{form_of}
use Rattle.form_model.specs.Decoding.{block_code, code_of, first_blocks, function_of, functions_from, in_front, numbers_of, op_code, operand_types, put_function, region_code, type_among, values_in, values_of_block, values_of_op, values_of_region}
use Rattle.form_model.specs.Decoding.{Values as tree_values}
use Rattle.form_model.specs.Decoding as decoding
use Rattle.code_laws.specs.PlainCodes.{SameCodes, op_codes, ops_codes, regions_codes, blocks_codes, body_of, function_with, numbers_in, plain_function, plain_functions, types_in}

-- Values

numbers_same : (vs : Values) → numbers_of (values_tree vs) ≡ numbers_in vs
numbers_same [] = refl
numbers_same (v ∷ vs) = ap (λ ns. v.0 ∷ ns) (numbers_same vs)

types_same : (vs : Values) → decoding.types_of (values_tree vs) ≡ map type_tree (types_in vs)
types_same [] = refl
types_same (v ∷ vs) = ap (λ ts. type_tree v.1 ∷ ts) (types_same vs)

type_same : (vs : Values) (n : ℕ) → unwrap_or (type_among (values_tree vs) n) type.Void ≡ type_tree (type_in vs n)
type_same [] n = refl
type_same (v ∷ vs) n = go (v.0 == n) (type_same vs n)
  where
    go : (b : Bool) → unwrap_or (type_among (values_tree vs) n) type.Void ≡ type_tree (type_in vs n)
        → unwrap_or (if b then Some (type_tree v.1) else type_among (values_tree vs) n) type.Void ≡ type_tree (if b then v.1 else type_in vs n)
    go true is = refl
    go false is = is

operands_same : (vs : Values) (ns : List ℕ) → operand_types (values_tree vs) ns ≡ map type_tree (map (type_in vs) ns)
operands_same vs [] = refl
operands_same vs (n ∷ ns) = ap (λ t. t ∷ operand_types (values_tree vs) ns) (type_same vs n) ∙ ap (λ ts. type_tree (type_in vs n) ∷ ts) (operands_same vs ns)

values_joined : (vs ws : Values) → values_tree (vs ++ ws) ≡ values_tree vs ++ values_tree ws
values_joined [] ws = refl
values_joined (v ∷ vs) ws = ap (λ zs. (v.0, type_tree v.1) ∷ zs) (values_joined vs ws)

abbrev values_of_blocks : BlockTree → tree_values
values_of_blocks = fold-BlockTree tree_values tree_values tree_values values_of_block values_of_op values_of_region

abbrev values_of_regions : RegionTree → tree_values
values_of_regions = fold-RegionTree tree_values tree_values tree_values values_of_block values_of_op values_of_region

in_op : (x : OpTree-F BlockTree OpTree RegionTree) → values_in (roll-OpTree x) ≡ x.results ++ flat_map (λ vs. vs) (map values_of_regions x.regions)
unfolding values_in
in_op x = fold-roll-OpTree tree_values tree_values tree_values values_of_block values_of_op values_of_region x

in_block : (x : BlockTree-F BlockTree OpTree RegionTree) → values_of_blocks (roll-BlockTree x) ≡ x.args ++ flat_map (λ vs. vs) (map values_in x.ops)
unfolding values_in
in_block x = fold-roll-BlockTree tree_values tree_values tree_values values_of_block values_of_op values_of_region x

in_region : (x : RegionTree-F BlockTree OpTree RegionTree) → values_of_regions (roll-RegionTree x) ≡ flat_map (λ vs. vs) (map values_of_blocks x.blocks)
in_region x = fold-roll-RegionTree tree_values tree_values tree_values values_of_block values_of_op values_of_region x

mutual
  op_values_same : (o : Op) (more : Values) → values_in (op_tree o) ++ values_tree more ≡ values_tree (op_values o more)
  op_values_same (op k results operands regions successors) more =
      ap (λ zs. zs ++ values_tree more) (in_op _) ∙ append_assoc (values_tree results) _ (values_tree more)
      ∙ ap (λ zs. values_tree results ++ zs) (regions_values_same regions more) ∙ sym (values_joined results (regions_values regions more))

  ops_values_same : (os : Ops) (more : Values) → flat_map (λ vs. vs) (map values_in (op_trees os)) ++ values_tree more ≡ values_tree (ops_values os more)
  ops_values_same end_of_ops more = refl
  ops_values_same (more_ops o os) more =
      append_assoc (values_in (op_tree o)) _ (values_tree more) ∙ ap (λ zs. values_in (op_tree o) ++ zs) (ops_values_same os more) ∙ op_values_same o (ops_values os more)

  regions_values_same : (rs : Regions) (more : Values) → flat_map (λ vs. vs) (map values_of_regions (region_trees rs)) ++ values_tree more ≡ values_tree (regions_values rs more)
  regions_values_same end_of_regions more = refl
  regions_values_same (region blocks rest) more =
      ap (λ zs. (zs ++ flat_map (λ vs. vs) (map values_of_regions (region_trees rest))) ++ values_tree more) (in_region _)
      ∙ append_assoc (flat_map (λ vs. vs) (map values_of_blocks (block_trees blocks))) _ (values_tree more)
      ∙ ap (λ zs. flat_map (λ vs. vs) (map values_of_blocks (block_trees blocks)) ++ zs) (regions_values_same rest more) ∙ blocks_values_same blocks (regions_values rest more)

  blocks_values_same : (bs : Blocks) (more : Values) → flat_map (λ vs. vs) (map values_of_blocks (block_trees bs)) ++ values_tree more ≡ values_tree (blocks_values bs more)
  blocks_values_same end_of_blocks more = refl
  blocks_values_same (block label args ops rest) more =
      ap (λ zs. (zs ++ flat_map (λ vs. vs) (map values_of_blocks (block_trees rest))) ++ values_tree more) (in_block _)
      ∙ append_assoc (values_tree args ++ flat_map (λ vs. vs) (map values_in (op_trees ops))) _ (values_tree more)
      ∙ append_assoc (values_tree args) _ _
      ∙ ap (λ zs. values_tree args ++ (flat_map (λ vs. vs) (map values_in (op_trees ops)) ++ zs)) (blocks_values_same rest more)
      ∙ ap (λ zs. values_tree args ++ zs) (ops_values_same ops (blocks_values rest more)) ∙ sym (values_joined args (ops_values ops (blocks_values rest more)))

all_values : (f : Op) → values_in (op_tree f) ≡ values_tree (op_values f [])
all_values f = sym (append-nil (values_in (op_tree f))) ∙ op_values_same f []

-- Operations

module _ (bits : ℕ) (vs : Values) where
  abbrev block_of : BlockTree → code.Blocks → code.Blocks
  block_of = fold-BlockTree (code.Blocks → code.Blocks) (code.Ops → code.Ops) (code.Regions → code.Regions) block_code (op_code bits (values_tree vs)) region_code

  abbrev region_of : RegionTree → code.Regions → code.Regions
  region_of = fold-RegionTree (code.Blocks → code.Blocks) (code.Ops → code.Ops) (code.Regions → code.Regions) block_code (op_code bits (values_tree vs)) region_code

  code_of_op : (o : OpTree-F BlockTree OpTree RegionTree) (rest : code.Ops)
      → code_of bits (values_tree vs) (roll-OpTree o) rest
      ≡ op_code bits (values_tree vs) (record { name = o.name; results = o.results; operands = o.operands; props = o.props; attrs = o.attrs; regions = map region_of o.regions; successors = o.successors }) rest
  unfolding code_of
  code_of_op o rest = ap (λ f. f rest) (fold-roll-OpTree (code.Blocks → code.Blocks) (code.Ops → code.Ops) (code.Regions → code.Regions) block_code (op_code bits (values_tree vs)) region_code o)

  block_of_block : (b : BlockTree-F BlockTree OpTree RegionTree) (more : code.Blocks)
      → block_of (roll-BlockTree b) more ≡ block_code (record { label = b.label; args = b.args; ops = map (code_of bits (values_tree vs)) b.ops }) more
  unfolding code_of
  block_of_block b more = ap (λ f. f more) (fold-roll-BlockTree (code.Blocks → code.Blocks) (code.Ops → code.Ops) (code.Regions → code.Regions) block_code (op_code bits (values_tree vs)) region_code b)

  region_of_region : (r : RegionTree-F BlockTree OpTree RegionTree) (more : code.Regions)
      → region_of (roll-RegionTree r) more ≡ region_code (record { blocks = map block_of r.blocks }) more
  region_of_region r more = ap (λ f. f more) (fold-roll-RegionTree (code.Blocks → code.Blocks) (code.Ops → code.Ops) (code.Regions → code.Regions) block_code (op_code bits (values_tree vs)) region_code r)

  mutual
    op_same : (o : Op) (rest : code.Ops) → code_of bits (values_tree vs) (op_tree o) rest ≡ op_codes bits (type_in vs) o rest
    op_same (op k results operands regions successors) rest =
        code_of_op _ rest
        ∙ ap (λ ts. code.Op (form_of k.name (record { bits = bits; props = entries_tree k.props; operands = ts; results = decoding.types_of (values_tree results) })) (numbers_of (values_tree results)) operands successors (in_front (map region_of (region_trees regions)) code.RegionsEnd) rest) (operands_same vs operands)
        ∙ ap (λ ts. code.Op (form_of k.name (record { bits = bits; props = entries_tree k.props; operands = map type_tree (map (type_in vs) operands); results = ts })) (numbers_of (values_tree results)) operands successors (in_front (map region_of (region_trees regions)) code.RegionsEnd) rest) (types_same results)
        ∙ ap (λ ns. code.Op (form_of k.name (record { bits = bits; props = entries_tree k.props; operands = map type_tree (map (type_in vs) operands); results = map type_tree (types_in results) })) ns operands successors (in_front (map region_of (region_trees regions)) code.RegionsEnd) rest) (numbers_same results)
        ∙ ap (λ rs. code.Op (form_of k.name (record { bits = bits; props = entries_tree k.props; operands = map type_tree (map (type_in vs) operands); results = map type_tree (types_in results) })) (numbers_in results) operands successors rs rest) (regions_same regions)

    ops_same : (os : Ops) → in_front (map (code_of bits (values_tree vs)) (op_trees os)) code.OpsEnd ≡ ops_codes bits (type_in vs) os
    ops_same end_of_ops = refl
    ops_same (more_ops o os) = ap (code_of bits (values_tree vs) (op_tree o)) (ops_same os) ∙ op_same o (ops_codes bits (type_in vs) os)

    regions_same : (rs : Regions) → in_front (map region_of (region_trees rs)) code.RegionsEnd ≡ regions_codes bits (type_in vs) rs
    regions_same end_of_regions = refl
    regions_same (region blocks more) =
        region_of_region _ _ ∙ ap (λ b. code.Region b (in_front (map region_of (region_trees more)) code.RegionsEnd)) (blocks_same blocks)
        ∙ ap (code.Region (blocks_codes bits (type_in vs) blocks)) (regions_same more)

    blocks_same : (bs : Blocks) → in_front (map block_of (block_trees bs)) code.BlocksEnd ≡ blocks_codes bits (type_in vs) bs
    blocks_same end_of_blocks = refl
    blocks_same (block label args ops more) =
        block_of_block _ _ ∙ ap (λ ns. code.Block label ns (in_front (map (code_of bits (values_tree vs)) (op_trees ops)) code.OpsEnd) (in_front (map block_of (block_trees more)) code.BlocksEnd)) (numbers_same args)
        ∙ ap (λ os. code.Block label (numbers_in args) os (in_front (map block_of (block_trees more)) code.BlocksEnd)) (ops_same ops)
        ∙ ap (code.Block label (numbers_in args) (ops_codes bits (type_in vs) ops)) (blocks_same more)

-- Functions

first_same : (bits : ℕ) (types : ℕ → PlainType) (f : Op) → first_blocks (op_codes bits types f code.OpsEnd) ≡ body_of bits types f
first_same bits types (op k results operands end_of_regions successors) = refl
first_same bits types (op k results operands (region blocks more) successors) = refl

function_same : (bits : ℕ) (f : Op) → function_of bits (func_tree f) ≡ plain_function bits f
function_same bits (op k results operands regions successors) =
    let f : Op = op k results operands regions successors in
    ap (λ (x : OpTree-F BlockTree OpTree RegionTree). function_with bits x.props (first_blocks (code_of bits (values_in (op_tree f)) (op_tree f) code.OpsEnd))) (out-roll-OpTree _)
    ∙ ap (λ vs. function_with bits (entries_tree k.props) (first_blocks (code_of bits vs (op_tree f) code.OpsEnd))) (all_values f)
    ∙ ap (λ os. function_with bits (entries_tree k.props) (first_blocks os)) (op_same bits (op_values f []) f code.OpsEnd)
    ∙ ap (function_with bits (entries_tree k.props)) (first_same bits (types_of f) f)

functions_same : (bits : ℕ) (fs : List Op) → functions_from bits (map func_tree fs) ≡ plain_functions bits fs
functions_same bits [] = refl
functions_same bits (f ∷ fs) = ap (λ o. put_function o (functions_from bits (map func_tree fs))) (function_same bits f) ∙ ap (put_function (plain_function bits f)) (functions_same bits fs)

pub same_codes : SameCodes
same_codes bits m = functions_same bits m.funcs
