-- What the types of the code stand for.
use Rattle.std.specs.Prelude.{ℕ, List, [], ◌∷◌, map}
use Rattle.std.specs.Option.{option_map}
use Rattle.number_model.specs.Arithmetic as arithmetic
use Rattle.number_code.specs.Models.{binary_of, comparison_of, flags_of}
use Rattle.operation_model.specs.Calling as calling
use Rattle.operation_model.specs.Pures as pures
use Rattle.operation_model.specs.Forms as forms
use Rattle.operation_model.specs.Straight.{byte_size}
use Rattle.form_model.specs.Codes as codes
use Rattle.value_code.specs.Models.{value_of}
use Rattle.run_code.specs.declared.width.Width.{Width}
use Rattle.run_code.specs.declared.form.Change.{Change}
use Rattle.run_code.specs.declared.form.Change.TheVariants as change
use Rattle.run_code.specs.declared.form.Pure.{Pure}
use Rattle.run_code.specs.declared.form.Pure.TheVariants as pure
use Rattle.run_code.specs.declared.form.Packing.{Packing}
use Rattle.run_code.specs.declared.form.Packing.TheVariants as packing
use Rattle.run_code.specs.declared.form.Layout.{Layout}
use Rattle.run_code.specs.declared.form.Form.{Form}
use Rattle.run_code.specs.declared.form.Form.TheVariants as form
use Rattle.run_code.specs.declared.function.Operation.{Operation}
use Rattle.run_code.specs.declared.function.Block.{Block}
use Rattle.run_code.specs.declared.function.Region.{Region}
use Rattle.run_code.specs.declared.function.Block.TheOpen.{Operation-F, Block-F, Region-F}
use Rattle.run_code.specs.declared.function.Block.TheFolds.{fold-Operation, fold-Block, fold-Region}
use Rattle.run_code.specs.declared.function.Face.{Face}
use Rattle.run_code.specs.declared.function.Function.{Function}

-- Forms

abbrev pub change_of : Change → arithmetic.Resize
change_of (change.ExtendSigned m) = arithmetic.ExtendSigned m.bits
change_of (change.Extend m) = arithmetic.Extend m.bits
change_of (change.Truncate flags m) = arithmetic.Truncate (flags_of flags) m.bits
change_of change.Keep = arithmetic.Keep

abbrev pub pure_of : Pure → pures.Pure
pure_of (pure.Known v) = pures.Known (value_of v)
pure_of (pure.TwoNumbers o w) = pures.TwoNumbers (binary_of o) w.bits
pure_of (pure.Compares c w) = pures.Compares (comparison_of c) w.bits
pure_of (pure.Resizes r w) = pures.Resizes (change_of r) w.bits
pure_of pure.Selects = pures.Selects
pure_of pure.Moves = pures.Moves
pure_of (pure.TakesPart path) = pures.TakesPart path
pure_of (pure.PutsPart path) = pures.PutsPart path
pure_of (pure.MovesPointer w) = pures.MovesPointer (byte_size w.bits)
pure_of (pure.HasSizes bits fixed) = pures.HasSizes bits.bits fixed
pure_of (pure.TakesSize bits rank) = pures.TakesSize bits.bits rank

abbrev pub packing_of : Packing → calling.Packing
packing_of packing.Bare = calling.Bare
packing_of packing.Together = calling.Together

abbrev pub layout_of : Layout → forms.Layout
layout_of l = record { bits = l.bits.bits; sizes = l.sizes; element = l.element.bits; alignment = l.alignment }

abbrev pub form_of : Form → forms.Form
form_of (form.Computes p) = forms.Computes (pure_of p)
form_of form.Branch = forms.Branch
form_of (form.BranchOn a b) = forms.BranchOn a b
form_of (form.Call f shapes p) = forms.Call f.name shapes (packing_of p)
form_of (form.Return p) = forms.Return (packing_of p)
form_of (form.Load w) = forms.Load w.bits
form_of (form.Store w) = forms.Store w.bits
form_of form.Allocate = forms.Allocate
form_of form.AllocateAligned = forms.AllocateAligned
form_of form.Free = forms.Free
form_of (form.NewMemref l) = forms.NewMemref (layout_of l)
form_of form.EndMemref = forms.EndMemref
form_of (form.LoadElement bits w) = forms.LoadElement bits.bits w.bits
form_of (form.StoreElement bits w) = forms.StoreElement bits.bits w.bits
form_of form.If = forms.If
form_of (form.For w) = forms.For w.bits
form_of form.While = forms.While
form_of (form.Switch w cases) = forms.Switch w.bits cases
form_of form.Execute = forms.Execute
form_of form.Yield = forms.Yield
form_of form.Condition = forms.Condition
form_of form.Unknown = forms.Unknown

-- Operations, blocks and regions, each in front of those behind it

abbrev pub in_front : {A : Type 0} → List (A → A) → A → A
in_front [] rest = rest
in_front (f ∷ fs) rest = f (in_front fs rest)

abbrev pub block_code : Block-F (codes.Blocks → codes.Blocks) (codes.Ops → codes.Ops) (codes.Regions → codes.Regions) → codes.Blocks → codes.Blocks
block_code b more = codes.Block b.label b.args (in_front b.ops codes.OpsEnd) more

abbrev pub op_code : Operation-F (codes.Blocks → codes.Blocks) (codes.Ops → codes.Ops) (codes.Regions → codes.Regions) → codes.Ops → codes.Ops
op_code o rest = codes.Op (form_of o.form) o.results o.operands o.successors (in_front o.regions codes.RegionsEnd) rest

abbrev pub region_code : Region-F (codes.Blocks → codes.Blocks) (codes.Ops → codes.Ops) (codes.Regions → codes.Regions) → codes.Regions → codes.Regions
region_code r more = codes.Region (in_front r.blocks codes.BlocksEnd) more

unfoldable pub op_in_front : Operation → codes.Ops → codes.Ops
op_in_front = fold-Operation (codes.Blocks → codes.Blocks) (codes.Ops → codes.Ops) (codes.Regions → codes.Regions) block_code op_code region_code

unfoldable pub block_in_front : Block → codes.Blocks → codes.Blocks
block_in_front = fold-Block (codes.Blocks → codes.Blocks) (codes.Ops → codes.Ops) (codes.Regions → codes.Regions) block_code op_code region_code

unfoldable pub region_in_front : Region → codes.Regions → codes.Regions
region_in_front = fold-Region (codes.Blocks → codes.Blocks) (codes.Ops → codes.Ops) (codes.Regions → codes.Regions) block_code op_code region_code

abbrev pub ops_of : List Operation → codes.Ops
ops_of [] = codes.OpsEnd
ops_of (o ∷ os) = op_in_front o (ops_of os)

abbrev pub blocks_of : List Block → codes.Blocks
blocks_of [] = codes.BlocksEnd
blocks_of (b ∷ bs) = block_in_front b (blocks_of bs)

abbrev pub regions_of : List Region → codes.Regions
regions_of [] = codes.RegionsEnd
regions_of (r ∷ rs) = region_in_front r (regions_of rs)

-- Functions

abbrev pub bits_of : List Width → List ℕ
bits_of ws = map (λ w. w.bits) ws

abbrev pub face_of : Face → codes.Face
face_of f = record { inputs = option_map bits_of f.inputs; outputs = option_map bits_of f.outputs; packing = packing_of f.packing }

abbrev pub function_of : Function → codes.Function
function_of f = record { name = f.name; face = face_of f.face; shapes = f.shapes; body = blocks_of f.blocks }

abbrev pub functions_of : List Function → List codes.Function
functions_of fs = map function_of fs
