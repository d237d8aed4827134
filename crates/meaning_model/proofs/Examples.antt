-- Worked examples: what whole functions come to, by both forms of S and by L.
use Rattle.std.proofs.Common.{◌≡◌, ℕ, List, [], ◌∷◌, None, Some, refl}
use Rattle.std.specs.Prelude.{map, ℤ, pos, negsuc, codes}
use Rattle.number_model.specs.Numbers.{wrapped}
use Rattle.number_model.specs.Arithmetic.{no_flags, Add, BelowUnsigned, Below}
use Rattle.operation_model.specs.Values.{Integer, Unset}
use Rattle.operation_model.specs.Pures.{Known, TwoNumbers, Compares, Selects}
use Rattle.operation_model.specs.Calling.{Bare}
use Rattle.operation_model.specs.Forms.{Form, Computes, Branch, BranchOn, Call, Return, If, For, While, Switch, Execute, Yield, Condition, Unknown}
use Rattle.form_model.specs.Codes.{Ops, OpsEnd, Op, BlocksEnd, Block, Regions, RegionsEnd, Region, Function}
use Rattle.machine_model.specs.Worlds.{More, Undefined, Outside, ExternalCall}
use Rattle.meaning_model.specs.Buffers.{Heap, no_heap, ask_heap}
use Rattle.meaning_model.specs.Cells.{no_cells, ask_cells}
use Rattle.meaning_model.specs.Meaning.{End, Done, Stops, Result, structured, stepped}

-- Functions of the examples

-- an operation without regions and successors
abbrev pub op : Form → List ℕ → List ℕ → Ops → Ops
op form rs os rest = Op form rs os [] RegionsEnd rest

-- an integer of 32 bits under a number
abbrev pub constant : ℕ → ℤ → Ops → Ops
constant r z rest = op (Computes (Known (Integer (wrapped 32 z)))) (r ∷ []) [] rest

abbrev pub add : ℕ → ℕ → ℕ → Ops → Ops
add r a b rest = op (Computes (TwoNumbers (Add no_flags) 32)) (r ∷ []) (a ∷ b ∷ []) rest

abbrev pub region : List ℕ → Ops → Regions → Regions
region args ops rest = Region (Block 0 args ops BlocksEnd) rest

abbrev pub returns : List ℕ → Ops
returns os = op (Return Bare) [] os OpsEnd

-- a function of integers of 32 bits with these arguments and one result
abbrev pub function : List ℕ → List ℕ → Ops → Function
function widths args ops = record {
  name = codes "f";
  face = record { inputs = Some widths; outputs = Some (32 ∷ []); packing = Bare };
  shapes = map (λ w. None) widths;
  body = Block 0 args ops BlocksEnd;
}

-- what a function comes to with so much fuel: by S, by its machine, and by L with 256 cells
abbrev pub by_s : List Function → List ℤ → ℕ → Result Heap
by_s fs args fuel = structured fs (codes "f") args [] fuel

abbrev pub s_end : List Function → List ℤ → ℕ → End
s_end fs args fuel = (by_s fs args fuel).end

abbrev pub machine_end : List Function → List ℤ → ℕ → End
machine_end fs args fuel = (stepped ask_heap no_heap fs (codes "f") args [] fuel).end

abbrev pub l_end : List Function → List ℤ → ℕ → End
l_end fs args fuel = (stepped ask_cells (no_cells 256) fs (codes "f") args [] fuel).end

-- a loop that begins with 0 and adds 5
abbrev loop_of : ℤ → ℤ → ℤ → List Function
loop_of lower upper by =
    function [] []
    (constant 0 lower (constant 1 upper (constant 2 by (constant 3 (pos 0)
    (Op (For 32) (4 ∷ []) (0 ∷ 1 ∷ 2 ∷ 3 ∷ []) []
    (region (5 ∷ 6 ∷ []) (constant 7 (pos 5) (add 8 6 7 (op Yield [] (8 ∷ []) OpsEnd))) RegionsEnd)
    (returns (4 ∷ []))))))) ∷ []

-- from -2 to 3: by 2 it has three rounds, 15 operations
abbrev loop_by : ℤ → List Function
loop_by by = loop_of (negsuc 1) (pos 3) by

loop_is_done : s_end (loop_by (pos 2)) [] 15 ≡ Done (pos 15 ∷ [])
loop_is_done = refl

loop_by_the_machine : machine_end (loop_by (pos 2)) [] 15 ≡ Done (pos 15 ∷ [])
loop_by_the_machine = refl

loop_wants_fuel : s_end (loop_by (pos 2)) [] 14 ≡ Stops More
loop_wants_fuel = refl

loop_without_a_step : s_end (loop_by (pos 0)) [] 15 ≡ Stops Undefined
loop_without_a_step = refl

loop_wants_fuel_by_the_machine : machine_end (loop_by (pos 2)) [] 14 ≡ Stops More
loop_wants_fuel_by_the_machine = refl

-- a number behind the last round that passes the signed range
loop_that_overflows : s_end (loop_of (pos 1) (pos 3) (pos 2147483647)) [] 15 ≡ Stops Undefined
loop_that_overflows = refl

last_number_in_range : s_end (loop_of (pos 0) (pos 3) (pos 2147483647)) [] 15 ≡ Done (pos 5 ∷ [])
last_number_in_range = refl

loop_without_a_round : s_end (loop_of (pos 3) (pos 3) (pos 1)) [] 6 ≡ Done (pos 0 ∷ [])
loop_without_a_round = refl

-- bounds are signed
loop_below_zero : s_end (loop_of (negsuc 0) (pos 0) (pos 1)) [] 9 ≡ Done (pos 5 ∷ [])
loop_below_zero = refl

-- Choices

-- the greater of two arguments, by a region that yields and one that is taken else
abbrev greater : List Function
greater =
    function (32 ∷ 32 ∷ []) (0 ∷ 1 ∷ [])
    (op (Computes (Compares Below 32)) (2 ∷ []) (0 ∷ 1 ∷ [])
    (Op If (3 ∷ []) (2 ∷ []) [] (region [] (op Yield [] (1 ∷ []) OpsEnd) (region [] (op Yield [] (0 ∷ []) OpsEnd) RegionsEnd))
    (returns (3 ∷ [])))) ∷ []

greater_is_the_second : s_end greater (negsuc 6 ∷ pos 2 ∷ []) 4 ≡ Done (pos 2 ∷ [])
greater_is_the_second = refl

greater_is_the_first : s_end greater (pos 7 ∷ pos 2 ∷ []) 4 ≡ Done (pos 7 ∷ [])
greater_is_the_first = refl

-- an argument is a signed or an unsigned number of its width
unsigned_argument : s_end greater (pos 4294967295 ∷ negsuc 1 ∷ []) 4 ≡ Done (negsuc 0 ∷ [])
unsigned_argument = refl

argument_out_of_range : s_end greater (pos 4294967296 ∷ pos 2 ∷ []) 0 ≡ Stops Outside
argument_out_of_range = refl

too_few_arguments : s_end greater (pos 7 ∷ []) 4 ≡ Stops Outside
too_few_arguments = refl

-- an empty second region gives no values at once
abbrev without_else : List Function
without_else =
    function (1 ∷ []) (0 ∷ [])
    (Op If [] (0 ∷ []) [] (region [] (op Yield [] [] OpsEnd) (Region BlocksEnd RegionsEnd))
    (constant 1 (pos 9) (returns (1 ∷ [])))) ∷ []

taken_region : s_end without_else (pos 1 ∷ []) 4 ≡ Done (pos 9 ∷ [])
taken_region = refl

empty_region : s_end without_else (pos 0 ∷ []) 3 ≡ Done (pos 9 ∷ [])
empty_region = refl

-- the first case that is equal modulo 2 to the width, else the first region
abbrev switched : List Function
switched =
    function (32 ∷ []) (0 ∷ [])
    (Op (Switch 32 (pos 4 ∷ negsuc 0 ∷ [])) (1 ∷ []) (0 ∷ []) []
    (region [] (constant 2 (pos 100) (op Yield [] (2 ∷ []) OpsEnd))
    (region [] (constant 2 (pos 104) (op Yield [] (2 ∷ []) OpsEnd))
    (region [] (constant 2 (pos 99) (op Yield [] (2 ∷ []) OpsEnd)) RegionsEnd)))
    (returns (1 ∷ []))) ∷ []

first_case : s_end switched (pos 4 ∷ []) 4 ≡ Done (pos 104 ∷ [])
first_case = refl

second_case : s_end switched (pos 4294967295 ∷ []) 4 ≡ Done (pos 99 ∷ [])
second_case = refl

no_case : s_end switched (pos 5 ∷ []) 4 ≡ Done (pos 100 ∷ [])
no_case = refl

-- a region of blocks: it counts up to the argument
abbrev blocks_of_a_region : List Function
blocks_of_a_region =
    function (32 ∷ []) (0 ∷ [])
    (Op Execute (9 ∷ []) [] []
    (Region
    (Block 1 [] (constant 1 (pos 0) (Op Branch [] (1 ∷ []) (2 ∷ []) RegionsEnd OpsEnd))
    (Block 2 (2 ∷ []) (op (Computes (Compares BelowUnsigned 32)) (3 ∷ []) (2 ∷ 0 ∷ []) (Op (BranchOn 1 0) [] (3 ∷ 2 ∷ []) (3 ∷ 4 ∷ []) RegionsEnd OpsEnd))
    (Block 3 (4 ∷ []) (constant 5 (pos 1) (add 6 4 5 (Op Branch [] (6 ∷ []) (2 ∷ []) RegionsEnd OpsEnd)))
    (Block 4 [] (op Yield [] (2 ∷ []) OpsEnd) BlocksEnd)))) RegionsEnd)
    (returns (9 ∷ []))) ∷ []

counts_up : s_end blocks_of_a_region (pos 3 ∷ []) 22 ≡ Done (pos 3 ∷ [])
counts_up = refl

counts_up_by_cells : l_end blocks_of_a_region (pos 3 ∷ []) 22 ≡ Done (pos 3 ∷ [])
counts_up_by_cells = refl

-- What was never set

abbrev with_unset : Ops → List Function
with_unset ops = function [] [] (op (Computes (Known Unset)) (0 ∷ []) [] (constant 1 (pos 1) ops)) ∷ []

unset_is_added : s_end (with_unset (add 2 0 1 (returns (2 ∷ [])))) [] 9 ≡ Stops Undefined
unset_is_added = refl

unset_is_returned : s_end (with_unset (returns (0 ∷ []))) [] 9 ≡ Stops Undefined
unset_is_returned = refl

unset_moves : s_end (with_unset (op (Computes Selects) (3 ∷ []) (1 ∷ 1 ∷ 0 ∷ []) (returns (3 ∷ [])))) [] 9 ≡ Done (pos 1 ∷ [])
unset_moves = refl

unset_condition : s_end (with_unset (op (Computes Selects) (3 ∷ []) (0 ∷ 1 ∷ 1 ∷ []) (returns (3 ∷ [])))) [] 9 ≡ Stops Undefined
unset_condition = refl

-- No meaning

abbrev unknown : List Function
unknown = function [] [] (op Unknown (0 ∷ []) [] (returns (0 ∷ []))) ∷ []

unknown_is_outside : s_end unknown [] 1 ≡ Stops Outside
unknown_is_outside = refl

-- fuel comes first
unknown_without_fuel : s_end unknown [] 0 ≡ Stops More
unknown_without_fuel = refl

no_such_function : s_end [] [] 1 ≡ Stops Outside
no_such_function = refl

-- Calls

-- a loop from 0 to 2 round a loop that starts at 0, goes on while below 2, calls `tick` with its number and adds 1
abbrev ticks : List Function
ticks =
    function [] []
    (constant 0 (pos 0) (constant 1 (pos 2) (constant 2 (pos 1)
    (Op (For 32) [] (0 ∷ 1 ∷ 2 ∷ []) []
    (region (3 ∷ [])
    (Op While (4 ∷ []) (0 ∷ []) []
    (region (5 ∷ []) (op (Computes (Compares Below 32)) (6 ∷ []) (5 ∷ 1 ∷ []) (op Condition [] (6 ∷ 5 ∷ []) OpsEnd))
    (region (7 ∷ []) (op (Call (codes "tick") (None ∷ []) Bare) (8 ∷ []) (7 ∷ []) (add 9 7 2 (op Yield [] (9 ∷ []) OpsEnd))) RegionsEnd))
    (op Yield [] [] OpsEnd)) RegionsEnd)
    (returns (0 ∷ [])))))) ∷
    record { name = codes "tick"; face = record { inputs = Some (32 ∷ []); outputs = Some (32 ∷ []); packing = Bare }; shapes = None ∷ []; body = BlocksEnd } ∷ []

abbrev tick : ℤ → ExternalCall
tick z = record { name = codes "tick"; args = z ∷ []; answers = pos 0 ∷ [] }

ticks_are_done : s_end ticks [] 100 ≡ Done (pos 0 ∷ [])
ticks_are_done = refl

ticks_in_order : (by_s ticks [] 100).trace ≡ tick (pos 0) ∷ tick (pos 1) ∷ tick (pos 0) ∷ tick (pos 1) ∷ []
ticks_in_order = refl

first_tick : (by_s ticks [] 9).trace ≡ tick (pos 0) ∷ []
first_tick = refl

-- a function that calls itself without end
abbrev endless : List Function
endless = function [] [] (op (Call (codes "f") [] Bare) (0 ∷ []) [] (returns (0 ∷ []))) ∷ []

endless_wants_fuel : s_end endless [] 50 ≡ Stops More
endless_wants_fuel = refl

endless_by_the_machine : machine_end endless [] 50 ≡ Stops More
endless_by_the_machine = refl
