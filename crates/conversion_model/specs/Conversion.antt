-- The conversion of one function.
use Rattle.std.specs.Prelude.{ℕ, ◌+◌, Bool, true, false, not, ◌&&◌, List, [], ◌∷◌, flat_map, Option, Some, None, is_some, Result, Ok, Err, if◌then◌else◌, codes}
use Rattle.plain_tree.specs.Types.{PlainType}
use Rattle.plain_tree.specs.Ops.{Op, op, Ops, end_of_ops, more_ops, Regions, end_of_regions, region, Blocks, end_of_blocks, block, Values}
use Rattle.conversion_model.specs.Types.{new_type}
use Rattle.conversion_model.specs.Templates.{Template, numbers, written}
use Rattle.conversion_model.specs.Targets.{Shape, Target, Mode, Partial, Full, demanded, is_legal, name_of, shape_of}
use Rattle.conversion_model.specs.Rows.{Numbers, Piece, Pattern, Frame}
use Rattle.conversion_model.specs.Chosen.{chosen}
use Rattle.conversion_model.specs.Choice.{Choice, Cuts, Frames, choice}
use Rattle.conversion_model.specs.Items.{From, Ways, Begins, HeldBlock, held_regions, puts, text_of, whole_items, whole_regions}
use Rattle.conversion_model.specs.Uses.{copies_left_out, operations, types_of}
use Rattle.conversion_model.specs.Reconciled.{reconciled}

-- a pass over one function: its patterns, its target, its mode, and whether it converts the arguments of blocks
pub record Pass : Type 0 where
  pub table : List Pattern
  pub target : Target
  pub mode : Mode
  pub blocks : Bool

-- new numbers: those of the row of a source operation; the values of what replaces an operation or a product, by the number
-- of the source operation, the product and their places; the parameters of a function; the arguments of a block, by its
-- label and their places
pub record Supply : Type 0 where
  pub row : ℕ → Numbers
  pub value : ℕ → ℕ → ℕ → ℕ
  pub parameter : ℕ → ℕ
  pub argument : ℕ → ℕ → ℕ

-- an operation that is not legalised: its number and its name
pub record Unlegalised : Type 0 where
  pub number : ℕ
  pub name : List ℕ

-- what replaces an operation of the function, none where it isn't legalised
abbrev pub choice_in : Pass → ℕ → Supply → (ℕ → PlainType) → ℕ → Op → Option Choice
choice_in p bits new type_of n o = choice bits p.target p.table (new.row n) type_of o

-- the first demanded operation that is not legalised
abbrev pub first_unlegalised : Pass → ℕ → Supply → (ℕ → PlainType) → List (ℕ × Op) → Option Unlegalised
first_unlegalised p bits new type_of [] = None
first_unlegalised p bits new type_of (o ∷ os) =
    if demanded p.mode p.target (shape_of type_of o.1) && not (is_some (choice_in p bits new type_of o.0 o.1)) then Some (record { number = o.0; name = name_of o.1 })
    else first_unlegalised p bits new type_of os

-- the pieces of a cut
abbrev pub pieces_of : Option Choice → Option (ℕ × List Piece)
pieces_of (Some (Cuts place pieces)) = Some (place, pieces)
pieces_of _ = None

-- the template in an operation's place, with new numbers
abbrev pub line_by : (ℕ → ℕ) → Op → Option Template → List Op
line_by new o None = o ∷ []
line_by new (op k results operands regions successors) (Some t) = written new results operands successors t []

abbrev pub is_source : List ℕ → Bool
is_source [] = true
is_source (place ∷ path) = false

-- what stands for an operation: itself where it is legal, or a source operation that isn't demanded, else the leaves of
-- its chosen derivation
abbrev pub line_of : Pass → ℕ → Supply → From → Shape → Op → List Op
line_of p bits new from shape o =
    if is_source from.path && not (demanded p.mode p.target shape) then o ∷ []
    else if is_legal p.target shape then o ∷ []
    else line_by (new.value from.number from.piece) o (chosen bits p.target p.table from.path shape)

abbrev pub ways : Pass → ℕ → Supply → (ℕ → PlainType) → Ways
ways p bits new type_of = record {
  cuts = λ n o. if demanded p.mode p.target (shape_of type_of o) then pieces_of (choice_in p bits new type_of n o) else None;
  line = line_of p bits new;
  shape = shape_of type_of;
}

-- The function itself

-- parameters of these types, from the k-th on
abbrev pub params_from : (ℕ → ℕ) → ℕ → List PlainType → Values
params_from new k [] = []
params_from new k (t ∷ ts) = (new k, t) ∷ params_from new (k + 1) ts

abbrev pub params_of : Supply → Frame → Values
params_of new f = params_from new.parameter 0 (flat_map (λ part. part.takes) f.entry)

-- the first block with the new parameters, and the steps that give the old arguments from them in front
abbrev pub framed_blocks : Supply → Frame → Template → List HeldBlock → Blocks
framed_blocks new f entry [] = end_of_blocks
framed_blocks new f entry (h ∷ hs) =
    let params : Values = params_of new f in
    (text_of (Begins h.label params ∷ puts (written (new.value 0 0) h.args (numbers params) [] entry []) (h.whole (whole_items hs)))).blocks

abbrev pub framed_regions : Supply → Frame → Template → List (List HeldBlock) → Regions
framed_regions new f entry [] = end_of_regions
framed_regions new f entry (hs ∷ rs) = region (framed_blocks new f entry hs) (whole_regions rs)

abbrev pub function_by : Supply → Op → Option Choice → List (List HeldBlock) → Op
function_by new (op k results operands regions successors) (Some (Frames f entry)) hs =
    op (record { name = f.name; props = f.props; attrs = f.attrs }) results operands (framed_regions new f entry hs) successors
function_by new (op k results operands regions successors) _ hs = op k results operands (whole_regions hs) successors

abbrev pub regions_of : Op → Regions
regions_of (op k results operands regions successors) = regions

-- each demanded operation replaced, all others as they are; copies stand
abbrev pub replacements : Pass → ℕ → Supply → Op → Op
replacements p bits new f =
    let type_of : ℕ → PlainType = types_of f in
    function_by new f (if demanded p.mode p.target (shape_of type_of f) then choice_in p bits new type_of 0 f else None) (held_regions (ways p bits new type_of) 1 (regions_of f))

-- Block arguments

-- an argument with its converted type where its type changes
abbrev pub new_argument : ℕ → (ℕ × PlainType) → Option PlainType → ℕ × PlainType
new_argument new a None = a
new_argument new a (Some u) = (new, u)

abbrev pub new_arguments : ℕ → (ℕ → ℕ) → ℕ → Values → Values
new_arguments bits new k [] = []
new_arguments bits new k (a ∷ args) = new_argument (new k) a (new_type bits a.1) ∷ new_arguments bits new (k + 1) args

abbrev pub cast_op : ℕ → ℕ × PlainType → Op
cast_op from to = op (record { name = codes "builtin.unrealized_conversion_cast"; props = []; attrs = [] }) (to ∷ []) (from ∷ []) end_of_regions []

abbrev pub cast_back : ℕ → (ℕ × PlainType) → Option PlainType → Ops → Ops
cast_back new a None more = more
cast_back new a (Some u) more = more_ops (cast_op new a) more

-- a cast back to each argument whose type changes, in order, in front of others
abbrev pub casts_back : ℕ → (ℕ → ℕ) → ℕ → Values → Ops → Ops
casts_back bits new k [] more = more
casts_back bits new k (a ∷ args) more = cast_back (new k) a (new_type bits a.1) (casts_back bits new (k + 1) args more)

abbrev mutual
  -- the arguments of each block that isn't its region's first, in converted types
  pub op_blocks : ℕ → (ℕ → ℕ → ℕ) → Op → Op
  op_blocks bits new (op k results operands regions successors) = op k results operands (regions_blocks bits new regions) successors

  pub ops_blocks : ℕ → (ℕ → ℕ → ℕ) → Ops → Ops
  ops_blocks bits new end_of_ops = end_of_ops
  ops_blocks bits new (more_ops o os) = more_ops (op_blocks bits new o) (ops_blocks bits new os)

  pub regions_blocks : ℕ → (ℕ → ℕ → ℕ) → Regions → Regions
  regions_blocks bits new end_of_regions = end_of_regions
  regions_blocks bits new (region blocks more) = region (blocks_blocks bits new true blocks) (regions_blocks bits new more)

  pub blocks_blocks : ℕ → (ℕ → ℕ → ℕ) → Bool → Blocks → Blocks
  blocks_blocks bits new is_first end_of_blocks = end_of_blocks
  blocks_blocks bits new true (block label args ops more) = block label args (ops_blocks bits new ops) (blocks_blocks bits new false more)
  blocks_blocks bits new false (block label args ops more) =
      block label (new_arguments bits (new label) 0 args) (casts_back bits (new label) 0 args (ops_blocks bits new ops)) (blocks_blocks bits new false more)

-- The whole

abbrev pub with_blocks : Bool → ℕ → Supply → Op → Op
with_blocks true bits new f = op_blocks bits new.argument f
with_blocks false bits new f = f

abbrev pub finished : Mode → Op → Op
finished Partial f = f
finished Full f = reconciled f

-- the tree behind the conversion: replacements, copies left out, block arguments, in full mode reconciled
abbrev pub converted : Pass → ℕ → Supply → Op → Op
converted p bits new f = finished p.mode (with_blocks p.blocks bits new (copies_left_out (replacements p bits new f)))

abbrev pub or_fails : Op → Option Unlegalised → Result Op Unlegalised
or_fails f None = Ok f
or_fails f (Some e) = Err e

-- the conversion of a function by a pass, where an index has so many bits, with these new numbers
abbrev pub conv : Pass → ℕ → Supply → Op → Result Op Unlegalised
conv p bits new f = or_fails (converted p bits new f) (first_unlegalised p bits new (types_of f) (operations f))
