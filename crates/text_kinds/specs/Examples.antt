-- Worked examples. The names: 0 is a module, 1 a function, 2 another operation, 3 one that is not known.
use Rattle.std.specs.Prelude.{◌≡◌, ℕ, true, false, List, [], ◌∷◌, Option, Some, None, refl, replicate}
use Rattle.text_grammar.specs.declared.places.Place.{Place}
use Rattle.text_grammar.specs.declared.places.Place.TheVariants as places
use Rattle.text_events.specs.declared.event.Event.{Event}
use Rattle.text_scopes.specs.declared.bodies.Class.{Class}
use Rattle.text_scopes.specs.declared.bodies.Class.TheVariants.{Module, Function, Known}
use Rattle.text_scopes.specs.Bodies.{class_in}
use Rattle.text_kinds.specs.declared.limits.Limit.TheVariants as limits
use Rattle.text_kinds.specs.declared.found.Found.{Found}
use Rattle.text_kinds.specs.declared.found.Kind.{Kind}
use Rattle.text_kinds.specs.declared.found.Kind.TheVariants as kinds
use Rattle.text_kinds.specs.Classes.{first_unknown}
use Rattle.text_kinds.specs.Kinds.{least}
use Rattle.text_kinds.specs.Shapes.{first_misplaced, refused_module}
use Rattle.text_kinds.specs.Tallies.{first_over, passes, start}

abbrev class : ℕ → Class
class = class_in (Module ∷ Function ∷ Known ∷ [])

abbrev event : Place → ℕ → Event
event place name = record { place = place; name = name }

abbrev op : ℕ → List Event → List Event
op name es = event places.OpName name ∷ event places.OperandsOpen 4 ∷ event places.OperandsClose 4 ∷ es

-- ({ and })
abbrev opens : List Event → List Event
opens es = event places.RegionsOpen 4 ∷ event places.RegionOpen 4 ∷ es

abbrev closes : List Event → List Event
closes es = event places.RegionClose 4 ∷ event places.RegionsClose 4 ∷ es

-- : () ->
abbrev typed : List Event → List Event
typed es = event places.SignatureColon 4 ∷ event places.SignatureOpen 4 ∷ event places.SignatureClose 4 ∷ event places.SignatureArrow 4 ∷ es

abbrev no_results : List Event → List Event
no_results es = event places.ResultsOpen 4 ∷ event places.ResultsClose 4 ∷ es

-- Operations that are not known

unknown : first_unknown class false (op 1 (op 3 [])) ≡ Some 3
unknown = refl

unknown_allowed : first_unknown class true (op 1 (op 3 [])) ≡ None
unknown_allowed = refl

-- Limits: the last that fits, and the first that passes

function_fits : passes limits.Functions class (record start { functions = 65535 }) (event places.OpName 1) ≡ false
function_fits = refl

function_passes : passes limits.Functions class (record start { functions = 65536 }) (event places.OpName 1) ≡ true
function_passes = refl

operation_fits : passes limits.Operations class (record start { operations = 262143 }) (event places.OpName 2) ≡ false
operation_fits = refl

operation_passes : passes limits.Operations class (record start { operations = 262144 }) (event places.OpName 2) ≡ true
operation_passes = refl

-- a module is no operation that counts
module_passes_not : passes limits.Operations class (record start { operations = 262144 }) (event places.OpName 0) ≡ false
module_passes_not = refl

operands_fit : first_over limits.Operands class (op 2 (replicate 100 (event places.UseName 5))) ≡ None
operands_fit = refl

operand_passes : passes limits.Operands class (record start { operands = 4096 }) (event places.UseName 5) ≡ true
operand_passes = refl

operand_fits : passes limits.Operands class (record start { operands = 4095 }) (event places.UseName 5) ≡ false
operand_fits = refl

-- regions in a function: it has depth 2, with a module and without one
abbrev regions : ℕ → List Event
regions n = replicate n (event places.RegionOpen 4)

depth_fits : first_over limits.RegionDepth class (event places.OpName 1 ∷ regions 63) ≡ None
depth_fits = refl

depth_passes : first_over limits.RegionDepth class (event places.OpName 1 ∷ regions 64) ≡ Some 64
depth_passes = refl

module_depth : first_over limits.RegionDepth class (event places.OpName 0 ∷ event places.RegionOpen 4 ∷ event places.OpName 1 ∷ regions 64) ≡ Some 66
module_depth = refl

-- Blocks: at a label, and at the first operation of a region without one
block_fits : passes limits.Blocks class (record start { body = record { within = 1; at_module = false }; blocks = 4095 }) (event places.BlockLabel 5) ≡ false
block_fits = refl

block_passes : passes limits.Blocks class (record start { body = record { within = 1; at_module = false }; blocks = 4096 }) (event places.BlockLabel 5) ≡ true
block_passes = refl

first_operation : passes limits.Blocks class (record start { body = record { within = 2; at_module = false }; blocks = 4096; fresh = true }) (event places.ResultName 5) ≡ true
first_operation = refl

second_operation : passes limits.Blocks class (record start { body = record { within = 2; at_module = false }; blocks = 4096 }) (event places.OpName 2) ≡ false
second_operation = refl

-- the module's block does not count
block_of_module : passes limits.Blocks class (record start { body = record { within = 0; at_module = false }; blocks = 4096 }) (event places.BlockLabel 5) ≡ false
block_of_module = refl

-- Operations at the wrong place

function_in_function : first_misplaced class (op 1 (opens (op 1 []))) ≡ Some 5
function_in_function = refl

operation_in_module : first_misplaced class (op 0 (opens (op 1 (typed (no_results (op 2 [])))))) ≡ Some 14
operation_in_module = refl

second_module : first_misplaced class (op 1 (typed (no_results (op 0 [])))) ≡ Some 9
second_module = refl

in_its_place : first_misplaced class (op 0 (opens (op 1 (opens (op 2 (typed (no_results (closes (typed (no_results (closes []))))))))))) ≡ None
in_its_place = refl

-- The module's form

abbrev module_with : List Event → List Event
module_with es = event places.TypeAliasName 5 ∷ op 0 (opens es)

right_form : refused_module class (module_with (op 1 (typed (no_results (closes (typed (no_results []))))))) ≡ None
right_form = refl

empty_region : refused_module class (module_with (closes (typed (no_results [])))) ≡ None
empty_region = refl

no_region : refused_module class (op 0 (typed (no_results []))) ≡ Some 0
no_region = refl

two_regions : refused_module class (module_with (event places.RegionClose 4 ∷ event places.RegionComma 4 ∷ event places.RegionOpen 4 ∷ closes (typed (no_results [])))) ≡ Some 1
two_regions = refl

two_blocks : refused_module class (module_with (op 1 (typed (no_results (event places.BlockLabel 5 ∷ event places.BlockColon 4 ∷ closes (typed (no_results []))))))) ≡ Some 1
two_blocks = refl

with_argument : refused_module class (module_with (event places.BlockLabel 5 ∷ event places.ArgName 6 ∷ closes (typed (no_results [])))) ≡ Some 1
with_argument = refl

with_operand : refused_module class (event places.OpName 0 ∷ event places.UseName 5 ∷ opens (closes (typed (no_results [])))) ≡ Some 0
with_operand = refl

with_result_name : refused_module class (event places.ResultName 5 ∷ op 0 (opens (closes (typed (no_results []))))) ≡ Some 1
with_result_name = refl

-- its result types: decided where they are whole
with_result_type : refused_module class (module_with (closes (typed (event places.IntegerWord 5 ∷ [])))) ≡ Some 1
with_result_type = refl

type_in_part : refused_module class (module_with (closes (typed (event places.MemrefWord 5 ∷ event places.MemrefLess 4 ∷ [])))) ≡ None
type_in_part = refl

types_in_part : refused_module class (module_with (closes (typed (event places.ResultsOpen 4 ∷ event places.IntegerWord 5 ∷ [])))) ≡ None
types_in_part = refl

-- `() -> i1` is one result
function_type : refused_module class (module_with (closes (typed (no_results (event places.FunctionArrow 4 ∷ event places.IntegerWord 5 ∷ []))))) ≡ Some 1
function_type = refl

-- decided at the `)` of its location
location_in_part : refused_module class (op 0 (typed (no_results (event places.LocWord 4 ∷ event places.LocOpen 4 ∷ [])))) ≡ None
location_in_part = refl

location_whole : refused_module class (op 0 (typed (no_results (event places.LocWord 4 ∷ event places.LocOpen 4 ∷ event places.LocUnknown 4 ∷ event places.LocClose 4 ∷ [])))) ≡ Some 0
location_whole = refl

-- not alone
another_operation : refused_module class (module_with (closes (typed (no_results (event places.AttrAliasName 5 ∷ event places.ResultName 6 ∷ []))))) ≡ Some 1
another_operation = refl

-- The refusal that is answered

abbrev found : ℕ → Kind → Option Found
found place kind = Some (record { place = place; kind = kind })

by_place : least (found 7 kinds.Expected ∷ None ∷ found 3 kinds.Operands ∷ []) [] ≡ found 3 kinds.Operands
by_place = refl

by_kind : least (found 3 kinds.Operands ∷ found 3 kinds.TypeCount ∷ found 3 kinds.ResultIndex ∷ []) [] ≡ found 3 kinds.TypeCount
by_kind = refl

uses_last : least (found 7 kinds.Operations ∷ []) (found 3 kinds.UndefinedValue ∷ []) ≡ found 7 kinds.Operations
uses_last = refl

uses_alone : least (None ∷ []) (found 3 kinds.UndefinedBlock ∷ found 3 kinds.UndefinedValue ∷ []) ≡ found 3 kinds.UndefinedValue
uses_alone = refl
