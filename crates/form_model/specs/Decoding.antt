-- From the tree of a module to its functions as a run sees them.
use Rattle.std.specs.Prelude.{ℕ, ◌==◌, List, [], ◌∷◌, ◌++◌, map, flat_map, length, Option, Some, None, codes, if◌then◌else◌}
use Rattle.std.specs.Option.{option_map, unwrap_or}
use Rattle.tree_model.specs.declared.type_tree.TypeTree.{TypeTree, out-TypeTree}
use Rattle.tree_model.specs.declared.type_tree.TypeTree as type
use Rattle.tree_model.specs.declared.type_tree.TypeTree.TheOpen.{TypeTree-F}
use Rattle.tree_model.specs.declared.op_tree.OpTree.{OpTree, out-OpTree}
use Rattle.tree_model.specs.declared.op_tree.BlockTree.TheOpen.{OpTree-F, BlockTree-F, RegionTree-F}
use Rattle.tree_model.specs.declared.op_tree.BlockTree.TheFolds.{fold-OpTree}
use Rattle.tree_model.specs.declared.op_tree.FuncTree.{FuncTree}
use Rattle.tree_model.specs.declared.op_tree.ModuleTree.{ModuleTree}
use Rattle.operation_model.specs.Calling.{Packing, Bare, Together, packing_of}
use Rattle.form_model.specs.Types.{widths_of, shape_of}
use Rattle.form_model.specs.Properties.{Entries, if_some, type_of, text_of}
use Rattle.form_model.specs.Classes.{form_of}
use Rattle.form_model.specs.Codes.{Ops, OpsEnd, Op, Blocks, BlocksEnd, Block, Regions, RegionsEnd, Region, Face, Function}

-- Types of values

-- values with their types
abbrev pub Values : Type 0
Values = List (ℕ × TypeTree)

abbrev pub values_of_block : BlockTree-F Values Values Values → Values
values_of_block b = b.args ++ flat_map (λ vs. vs) b.ops

abbrev pub values_of_op : OpTree-F Values Values Values → Values
values_of_op o = o.results ++ flat_map (λ vs. vs) o.regions

abbrev pub values_of_region : RegionTree-F Values Values Values → Values
values_of_region r = flat_map (λ vs. vs) r.blocks

-- all values that are defined by an operation and in it
unfoldable pub values_in : OpTree → Values
values_in = fold-OpTree Values Values Values values_of_block values_of_op values_of_region

abbrev pub numbers_of : Values → List ℕ
numbers_of vs = map (λ v. v.0) vs

abbrev pub types_of : Values → List TypeTree
types_of vs = map (λ v. v.1) vs

abbrev pub type_among : Values → ℕ → Option TypeTree
type_among [] n = None
type_among (v ∷ vs) n = if v.0 == n then Some v.1 else type_among vs n

-- the types of operands: one that is defined nowhere counts as one without values
abbrev pub operand_types : Values → List ℕ → List TypeTree
operand_types vs ns = map (λ n. unwrap_or (type_among vs n) type.Void) ns

-- Operations, blocks and regions, each in front of those behind it

abbrev pub in_front : {A : Type 0} → List (A → A) → A → A
in_front [] rest = rest
in_front (f ∷ fs) rest = f (in_front fs rest)

abbrev pub block_code : BlockTree-F (Blocks → Blocks) (Ops → Ops) (Regions → Regions) → Blocks → Blocks
block_code b more = Block b.label (numbers_of b.args) (in_front b.ops OpsEnd) more

abbrev pub region_code : RegionTree-F (Blocks → Blocks) (Ops → Ops) (Regions → Regions) → Regions → Regions
region_code r more = Region (in_front r.blocks BlocksEnd) more

abbrev pub op_code : ℕ → Values → OpTree-F (Blocks → Blocks) (Ops → Ops) (Regions → Regions) → Ops → Ops
op_code bits values o rest =
    Op (form_of o.name (record { bits = bits; props = o.props; operands = operand_types values o.operands; results = types_of o.results }))
    (numbers_of o.results) o.operands o.successors (in_front o.regions RegionsEnd) rest

-- an operation in front of those behind it
unfoldable pub code_of : ℕ → Values → OpTree → Ops → Ops
code_of bits values =
    fold-OpTree (Blocks → Blocks) (Ops → Ops) (Regions → Regions) block_code (op_code bits values) region_code

-- Functions

-- the blocks of the first region of the first operation
abbrev pub first_blocks : Ops → Blocks
first_blocks (Op form rs os ls (Region blocks more) rest) = blocks
first_blocks _ = BlocksEnd

-- what an llvm function with this result shows: nothing for `void`, the fields of a struct of integers, else the one result
abbrev pub llvm_outputs_at : ℕ → TypeTree → TypeTree-F TypeTree → Option (List ℕ)
llvm_outputs_at bits t TypeTree-F.Void = Some []
llvm_outputs_at bits t (TypeTree-F.Struct fields) = widths_of bits fields
llvm_outputs_at bits t _ = widths_of bits (t ∷ [])

abbrev pub llvm_packing_at : TypeTree-F TypeTree → Packing
llvm_packing_at (TypeTree-F.Struct fields) = Together
llvm_packing_at _ = Bare

-- what a function shows and how its arguments are handed over, by its type
pub record Signature : Type 0 where
  pub face : Face
  pub inputs : List TypeTree

abbrev pub signature_at : ℕ → TypeTree-F TypeTree → Option Signature
signature_at bits (TypeTree-F.Func inputs results) =
    Some (record { face = record { inputs = widths_of bits inputs; outputs = widths_of bits results; packing = packing_of (length results) }; inputs = inputs })
signature_at bits (TypeTree-F.LlvmFunc output inputs) =
    Some (record {
      face = record { inputs = widths_of bits inputs; outputs = llvm_outputs_at bits output (out-TypeTree output); packing = llvm_packing_at (out-TypeTree output) };
      inputs = inputs;
    })
signature_at bits _ = None

abbrev pub function_at : ℕ → OpTree → Entries → Option Function
function_at bits o props =
    if_some (text_of (codes "sym_name") props) (λ name. if_some (type_of (codes "function_type") props) (λ t.
    option_map (λ s. record { name = name; face = s.face; shapes = map shape_of s.inputs; body = first_blocks (code_of bits (values_in o) o OpsEnd) })
    (signature_at bits (out-TypeTree t))))

-- a function, where its name and its type stand in its properties
abbrev pub function_of : ℕ → FuncTree → Option Function
function_of bits f = function_at bits f.op (out-OpTree f.op).props

abbrev pub put_function : Option Function → List Function → List Function
put_function None fs = fs
put_function (Some f) fs = f ∷ fs

abbrev pub functions_from : ℕ → List FuncTree → List Function
functions_from bits [] = []
functions_from bits (f ∷ fs) = put_function (function_of bits f) (functions_from bits fs)

-- the functions of a module, where an `index` has so many bits
abbrev pub functions_of : ℕ → ModuleTree → List Function
functions_of bits m = functions_from bits m.funcs
