-- Functions as a run sees them, by recursion over plain trees.
use Rattle.std.specs.Prelude.{◌≡◌, ℕ, List, [], ◌∷◌, map, Option, codes}
use Rattle.std.specs.Option.{option_map}
use Rattle.tree_model.specs.declared.type_tree.TypeTree.{out-TypeTree}
use Rattle.plain_tree.specs.Types.{PlainType}
use Rattle.plain_tree.specs.Attrs.{entries_tree}
use Rattle.plain_tree.specs.Ops.{Op, op, Ops, end_of_ops, more_ops, Regions, end_of_regions, region, Blocks, end_of_blocks, block, Values, PlainModule, module_tree}
use Rattle.plain_tree.specs.Values.{types_of}
use Rattle.form_model.specs.Codes.{Function}
use Rattle.form_model.specs.Codes as code
use Rattle.form_model.specs.Types.{shape_of}
use Rattle.form_model.specs.Properties.{Entries, if_some, text_of, type_of}
use Rattle.form_model.specs.Decoding.{functions_of, put_function, signature_at}
use Rattle.sound_model.specs.Runs.{form_at}

abbrev pub numbers_in : Values → List ℕ
numbers_in vs = map (λ v. v.0) vs

abbrev pub types_in : Values → List PlainType
types_in vs = map (λ v. v.1) vs

abbrev mutual
  -- an operation, where values have these types, in front of others
  pub op_codes : ℕ → (ℕ → PlainType) → Op → code.Ops → code.Ops
  op_codes bits types (op k results operands regions successors) rest =
      code.Op (form_at bits k.name k.props (map types operands) (types_in results)) (numbers_in results) operands successors (regions_codes bits types regions) rest

  pub ops_codes : ℕ → (ℕ → PlainType) → Ops → code.Ops
  ops_codes bits types end_of_ops = code.OpsEnd
  ops_codes bits types (more_ops o os) = op_codes bits types o (ops_codes bits types os)

  pub regions_codes : ℕ → (ℕ → PlainType) → Regions → code.Regions
  regions_codes bits types end_of_regions = code.RegionsEnd
  regions_codes bits types (region blocks more) = code.Region (blocks_codes bits types blocks) (regions_codes bits types more)

  pub blocks_codes : ℕ → (ℕ → PlainType) → Blocks → code.Blocks
  blocks_codes bits types end_of_blocks = code.BlocksEnd
  blocks_codes bits types (block label args ops more) = code.Block label (numbers_in args) (ops_codes bits types ops) (blocks_codes bits types more)

-- the blocks of the first region
abbrev pub first_region : code.Regions → code.Blocks
first_region code.RegionsEnd = code.BlocksEnd
first_region (code.Region blocks more) = blocks

-- a function with these properties and this body
abbrev pub function_with : ℕ → Entries → code.Blocks → Option Function
function_with bits props body =
    if_some (text_of (codes "sym_name") props) (λ name. if_some (type_of (codes "function_type") props) (λ t.
    option_map (λ s. record { name = name; face = s.face; shapes = map shape_of s.inputs; body = body }) (signature_at bits (out-TypeTree t))))

abbrev pub body_of : ℕ → (ℕ → PlainType) → Op → code.Blocks
body_of bits types (op k results operands regions successors) = first_region (regions_codes bits types regions)

abbrev pub props_of : Op → Entries
props_of (op k results operands regions successors) = entries_tree k.props

abbrev pub plain_function : ℕ → Op → Option Function
plain_function bits f = function_with bits (props_of f) (body_of bits (types_of f) f)

abbrev pub plain_functions : ℕ → List Op → List Function
plain_functions bits [] = []
plain_functions bits (f ∷ fs) = put_function (plain_function bits f) (plain_functions bits fs)

-- the functions of a module are those of its plain form
abbrev pub SameCodes : Type 0
SameCodes = (bits : ℕ) (m : PlainModule) → functions_of bits (module_tree m) ≡ plain_functions bits m.funcs
