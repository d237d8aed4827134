-- Laws of the printed text, each by an example that is written out.
use Rattle.std.specs.Prelude.{◌≡◌, ℕ, false, List, [], ◌∷◌, ◌++◌, map, Some, codes}
use Rattle.tree_model.specs.declared.type_tree.TypeTree.{TypeTree}
use Rattle.text_model.specs.declared.value_name.ValueName.TheVariants.{Argument, Single, Part}
use Rattle.text_model.specs.PrintedPlaces.{Place, BlockPlaces, block_places, op_places, region_places, successor_at}
use Rattle.text_model.specs.PrintedNames.{value_name, label_position, names_along}
use Rattle.text_model.specs.PrintedOps.{BlockParts, results_lead, operands_text, region_step}
use Rattle.text_model.specs.Printed.{module_text}

-- an empty module prints as three lines, of 42 bytes
abbrev pub EmptyModuleText : Type 0
EmptyModuleText =
    module_text (record { props = []; attrs = []; funcs = [] }) ≡ codes "\"builtin.module\"() ({\n^bb0:\n}) : () -> ()\n"

-- the places of an operation with results and regions, of a block, and of a region
abbrev pub op_with : List (ℕ × TypeTree) → List (List Place) → List Place
op_with results regions =
    op_places (record { name = []; results = results; operands = []; props = []; attrs = []; regions = regions; successors = [] })

abbrev pub block_with : ℕ → List (ℕ × TypeTree) → List (List Place) → BlockPlaces
block_with label arguments ops = block_places (record { label = label; args = arguments; ops = ops })

abbrev pub region_with : List BlockPlaces → List Place
region_with blocks = region_places (record { blocks = blocks })

-- the operation of value 5, whose region has two blocks: the labels are 11 and 12, the arguments 6
-- and 8, and in the first block stands an operation with the result 7
abbrev pub nested_op : TypeTree → List Place
nested_op t =
    let first = block_with 11 ((6, t) ∷ []) (op_with ((7, t) ∷ []) [] ∷ []) in
    let second = block_with 12 ((8, t) ∷ []) [] in
    op_with ((5, t) ∷ []) (region_with (first ∷ second ∷ []) ∷ [])

-- a function with the arguments 1 and 2, an operation with the results 3 and 4, the operation above,
-- and one with the result 9
abbrev pub nested_func : TypeTree → List Place
nested_func t =
    let group = op_with ((3, t) ∷ (4, t) ∷ []) [] in
    let last = op_with ((9, t) ∷ []) [] in
    op_with [] (region_with (block_with 10 ((1, t) ∷ (2, t) ∷ []) (group ∷ nested_op t ∷ last ∷ []) ∷ []) ∷ [])

-- its values 1 to 9 are `%arg0`, `%arg1`, `%0#0`, `%0#1`, `%1`, `%arg2`, `%2`, `%3` and `%4`: both
-- counts go on in the inner region, and an operation's results come before its regions
abbrev pub NamesOfAFunction : Type 0
NamesOfAFunction =
    (t : TypeTree) → map (value_name (nested_func t)) (1 ∷ 2 ∷ 3 ∷ 4 ∷ 5 ∷ 6 ∷ 7 ∷ 8 ∷ 9 ∷ [])
    ≡ map (λ name. Some name) (Argument 0 ∷ Argument 1 ∷ Part 0 0 ∷ Part 0 1 ∷ Single 1 ∷ Argument 2 ∷ Single 2 ∷ Single 3 ∷ Single 4 ∷ [])

-- its blocks are `^bb0`, and in the inner region `^bb0` and `^bb1`
abbrev pub LabelsOfAFunction : Type 0
LabelsOfAFunction =
    (t : TypeTree) → map (label_position (nested_func t)) (10 ∷ 11 ∷ 12 ∷ []) ≡ map (λ n. Some n) (0 ∷ 0 ∷ 1 ∷ [])

-- the two results of the first operation as it defines them, and as operands beside an argument
abbrev pub UsesOfAGroup : Type 0
UsesOfAGroup =
    (t : TypeTree) → let names = names_along (nested_func t) in
    (results_lead names ((3, t) ∷ (4, t) ∷ []) ≡ codes "%0:2 = ") × (operands_text names (2 ∷ 3 ∷ 4 ∷ []) ≡ codes "(%arg1, %0#0, %0#1)")

-- a region of two blocks in an operation that stands two blanks in: the first label is shown only
-- where an operation names it
abbrev pub two_blocks : List ℕ → List ℕ
two_blocks targets =
    let line = codes "\"a.b\"() : () -> ()\n" in
    let first : BlockParts = record { label = 4; arguments = []; is_empty = false; body = λ indent. indent ++ line } in
    let second : BlockParts = record { label = 5; arguments = []; is_empty = false; body = λ indent. indent ++ line } in
    region_step (names_along (map successor_at targets)) (record { blocks = first ∷ second ∷ [] }) (codes "  ")

abbrev pub LinesOfARegion : Type 0
LinesOfARegion =
    (two_blocks (5 ∷ []) ≡ codes "{\n    \"a.b\"() : () -> ()\n  ^bb1:\n    \"a.b\"() : () -> ()\n  }")
    × (two_blocks (4 ∷ []) ≡ codes "{\n  ^bb0:\n    \"a.b\"() : () -> ()\n  ^bb1:\n    \"a.b\"() : () -> ()\n  }")
