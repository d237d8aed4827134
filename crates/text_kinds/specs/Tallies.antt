-- What is counted of a text, and what passes a limit.
use Rattle.std.specs.Prelude.{ℕ, ◌+◌, ◌==◌, ◌≤◌, Bool, true, false, not, List, Option, nat_le, nat_lt, if◌then◌else◌}
use Rattle.line_grammar.specs.Language.{first_at}
use Rattle.text_grammar.specs.declared.places.Place.{Place}
use Rattle.text_grammar.specs.declared.places.Place.TheVariants as places
use Rattle.text_events.specs.declared.event.Event.{Event}
use Rattle.text_scopes.specs.declared.bodies.Class.{Class}
use Rattle.text_scopes.specs.Bodies.{behind, is_module, opens_body, outside}
use Rattle.text_kinds.specs.declared.tally.Tally.{Tally}
use Rattle.text_kinds.specs.declared.limits.Limit.{Limit}
use Rattle.text_kinds.specs.declared.limits.Limit.TheVariants as limits
use Rattle.text_kinds.specs.Classes.{is_function}

abbrev pub start : Tally
start = record { body = outside; fresh = false; functions = 0; operations = 0; blocks = 0; operands = 0 }

abbrev pub one_if : Bool → ℕ → ℕ
one_if true n = n + 1
one_if false n = n

-- the name of a function
abbrev pub names_function : (ℕ → Class) → Event → Bool
names_function class e = elim e.place [ places.OpName ↦ is_function (class e.name) | _ ↦ false ]

-- the name of an operation that counts: a module does not
abbrev pub names_operation : (ℕ → Class) → Event → Bool
names_operation class e = elim e.place [ places.OpName ↦ not (is_module (class e.name)) | _ ↦ false ]

-- a block of a function begins: at its label, or where it has none at its first operation, which stands first in a region
abbrev pub begins_block : Tally → Place → Bool
begins_block tally places.BlockLabel = not (tally.body.within == 0)
begins_block tally places.ResultName = if tally.body.within == 0 then false else tally.fresh
begins_block tally places.OpName = if tally.body.within == 0 then false else tally.fresh
begins_block tally _ = false

abbrev pub is_operand : Place → Bool
is_operand places.UseName = true
is_operand _ = false

abbrev pub opens_region : Place → Bool
opens_region places.RegionOpen = true
opens_region _ = false

-- the blocks of a function: all its regions together
abbrev pub blocks_behind : Tally → Place → ℕ
blocks_behind tally places.OpName = if tally.body.within == 0 then 0 else one_if tally.fresh tally.blocks
blocks_behind tally place = one_if (begins_block tally place) tally.blocks

-- the operands of an operation
abbrev pub operands_behind : ℕ → Place → ℕ
operands_behind operands places.OperandsOpen = 0
operands_behind operands places.UseName = operands + 1
operands_behind operands _ = operands

abbrev pub counted : (ℕ → Class) → Tally → Event → Tally
counted class tally e = record {
  body = behind class tally.body e;
  fresh = opens_region e.place;
  functions = one_if (names_function class e) tally.functions;
  operations = one_if (names_operation class e) tally.operations;
  blocks = blocks_behind tally e.place;
  operands = operands_behind tally.operands e.place;
}

-- the depth of a region that begins: the module's has 1, also where the text has no module
abbrev pub region_depth : Tally → ℕ
region_depth tally = if opens_body tally.body then 1 else tally.body.within + 2

-- the event passes the limit
abbrev pub passes : Limit → (ℕ → Class) → Tally → Event → Bool
passes limits.RegionDepth class tally e = if opens_region e.place then nat_lt 64 (region_depth tally) else false
passes limits.Functions class tally e = if names_function class e then nat_le 65536 tally.functions else false
passes limits.Blocks class tally e = if begins_block tally e.place then nat_le 4096 tally.blocks else false
passes limits.Operands class tally e = if is_operand e.place then nat_le 4096 tally.operands else false
passes limits.Operations class tally e = if names_operation class e then nat_le 262144 tally.operations else false

-- the first event that passes the limit
abbrev pub first_over : Limit → (ℕ → Class) → List Event → Option ℕ
first_over limit class es = first_at (counted class) (passes limit class) start es

-- nothing was counted more often than that
pub record Within (n : ℕ) (tally : Tally) : Type 0 where
  pub body : tally.body.within ≤ n
  pub functions : tally.functions ≤ n
  pub operations : tally.operations ≤ n
  pub blocks : tally.blocks ≤ n
  pub operands : tally.operands ≤ n
