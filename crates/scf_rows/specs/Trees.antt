-- The cuts as trees.
use Rattle.std.specs.Prelude.{ℕ, zero, ◌+◌, ◌*◌, ◌==◌, List, [], ◌∷◌, ◌++◌, length, map, Option, Some, None, ℤ, pos, if◌then◌else◌, codes}
use Rattle.tree_model.specs.declared.type_tree.TypeTree.{TypeTree}
use Rattle.tree_model.specs.declared.type_tree.TypeTree as type
use Rattle.plain_tree.specs.Types.{Index}
use Rattle.plain_tree.specs.Attrs.{Entries, PlainAttr, Numbers, entries_tree}
use Rattle.pattern_model.specs.Drafts.{constant_value, predicate, sizes}
use Rattle.pattern_model.specs.ScfRows.{or_none}
use Rattle.cut_code.specs.declared.pieces.CutValue.{CutValue}
use Rattle.cut_code.specs.declared.pieces.CutValue.TheVariants.{Old, New}
use Rattle.cut_code.specs.declared.pieces.CutLabel.{CutLabel}
use Rattle.cut_code.specs.declared.pieces.CutLabel.TheVariants as labels
use Rattle.cut_code.specs.declared.pieces.PieceTree.{PieceTree}
use Rattle.cut_code.specs.declared.pieces.PieceTree.TheVariants.{Product, Opens, Held, Stands}
use Rattle.cut_code.specs.declared.sketch.BlockSketch.{BlockSketch}
use Rattle.cut_code.specs.declared.sketch.RegionSketch.{RegionSketch}
use Rattle.scf_rows.specs.declared.regions.Alone.{Alone}

-- values with their types
abbrev pub Typed : Type 0
Typed = List (ℕ × TypeTree)

-- a region's one block, where it has one block
abbrev pub only_block : List BlockSketch → Option Alone
only_block (b ∷ []) = Some (record { label = b.label; args = b.args; passed = or_none b.passed })
only_block _ = None

abbrev pub alone : RegionSketch → Option Alone
alone r = only_block r.blocks

abbrev pub with_alone : Option Alone → Option (List Alone) → Option (List Alone)
with_alone (Some a) (Some rest) = Some (a ∷ rest)
with_alone _ _ = None

-- each region's one block, none where a region has not one block
abbrev pub all_alone : List RegionSketch → Option (List Alone)
all_alone [] = Some []
all_alone (r ∷ rs) = with_alone (alone r) (all_alone rs)

-- Products

abbrev pub product_tree : Typed → List ℕ → Typed → List CutValue → Entries → List CutLabel → PieceTree
product_tree known name results operands props successors =
    Product (record { name = name; results = results; operands = operands; props = entries_tree props; successors = successors; known = known })

abbrev pub branch_tree : Typed → List CutValue → CutLabel → PieceTree
branch_tree known passed to = product_tree known (codes "cf.br") [] passed [] (to ∷ [])

abbrev pub conditional_tree : Typed → CutValue → List CutValue → CutLabel → CutLabel → PieceTree
conditional_tree known c passed to other =
    product_tree known (codes "cf.cond_br") [] (c ∷ passed) (sizes (pos 1 ∷ pos (length passed) ∷ pos 0 ∷ [])) (to ∷ other ∷ [])

-- a bit as the k-th new value
abbrev pub compare_tree : Typed → ℕ → CutValue → CutValue → ℕ → PieceTree
compare_tree known k x y n = product_tree known (codes "arith.cmpi") ((k, type.Int 1) ∷ []) (x ∷ y ∷ []) (predicate n) []

abbrev pub old_values : List ℕ → List CutValue
old_values ns = map Old ns

-- the block of a region that holds its operations, and the branch that stands for its yield
abbrev pub yields_trees : CutLabel → ℕ → Alone → List PieceTree
yields_trees rest r a = Opens (labels.Old a.label) a.args ∷ Held r 0 ∷ branch_tree [] (old_values a.passed) rest ∷ []

abbrev pub stand_trees : Typed → List ℕ → List PieceTree
stand_trees (r ∷ rs) (v ∷ vs) = Stands r.0 r.1 v ∷ stand_trees rs vs
stand_trees _ _ = []

-- scf.if

abbrev pub if_one : Typed → ℕ → Option Alone → Option (List PieceTree)
if_one results c None = None
if_one results c (Some a) =
    Some (conditional_tree [] (Old c) [] (labels.Old a.label) (labels.New 0) ∷ (yields_trees (labels.New 0) 0 a ++ Opens (labels.New 0) results ∷ []))

abbrev pub if_two : Typed → ℕ → Option Alone → Option Alone → Option (List PieceTree)
if_two results c (Some a) (Some b) =
    Some (conditional_tree [] (Old c) [] (labels.Old a.label) (labels.Old b.label)
    ∷ (yields_trees (labels.New 0) 0 a ++ (yields_trees (labels.New 0) 1 b ++ Opens (labels.New 0) results ∷ [])))
if_two results c _ _ = None

-- an else region without blocks is none
abbrev pub if_either : Typed → ℕ → Option Alone → List BlockSketch → Option (List PieceTree)
if_either results c first [] = if_one results c first
if_either results c first (b ∷ bs) = if_two results c first (only_block (b ∷ bs))

abbrev pub if_trees : Typed → List ℕ → List RegionSketch → ℕ → Option (List PieceTree)
if_trees results (c ∷ []) (a ∷ b ∷ []) zero = if_either results c (alone a) b.blocks
if_trees results _ _ _ = None

-- scf.for

-- the new values of a loop: the bit of the test, and the next number
abbrev pub loop_values : TypeTree → Typed
loop_values t = (0, type.Int 1) ∷ (1, t) ∷ []

-- the head's branch, and the block of the test
abbrev pub for_head : ℕ → ℕ → List ℕ → ℕ → Typed → (ℕ × TypeTree) → List PieceTree
for_head lower upper initial body args iv =
    branch_tree (loop_values iv.1) (Old lower ∷ old_values initial) (labels.New 0)
    ∷ Opens (labels.New 0) args
    ∷ compare_tree (loop_values iv.1) 0 (Old iv.0) (Old upper) 2
    ∷ conditional_tree (loop_values iv.1) (New 0) [] (labels.Old body) (labels.New 1)
    ∷ []

abbrev pub next_tree : (ℕ × TypeTree) → ℕ → PieceTree
next_tree iv step = product_tree (loop_values iv.1) (codes "arith.addi") ((1, iv.1) ∷ []) (Old iv.0 ∷ Old step ∷ []) [] []

-- the body, and what stands for its yield
abbrev pub for_tail : ℕ → ℕ → (ℕ × TypeTree) → List ℕ → List PieceTree
for_tail step body iv passed =
    Opens (labels.Old body) []
    ∷ Held 0 0
    ∷ next_tree iv step
    ∷ branch_tree (loop_values iv.1) (New 1 ∷ old_values passed) (labels.New 0)
    ∷ Opens (labels.New 1) []
    ∷ []

abbrev pub for_pieces : Typed → ℕ → ℕ → ℕ → List ℕ → ℕ → (ℕ × TypeTree) → Typed → List ℕ → List PieceTree
for_pieces results lower upper step initial body iv accs passed =
    for_head lower upper initial body (iv ∷ accs) iv ++ (for_tail step body iv passed ++ stand_trees results (map (λ a. a.0) accs))

abbrev pub for_args : Typed → ℕ → ℕ → ℕ → List ℕ → ℕ → Typed → List ℕ → Option (List PieceTree)
for_args results lower upper step initial body [] passed = None
for_args results lower upper step initial body (iv ∷ accs) passed = Some (for_pieces results lower upper step initial body iv accs passed)

abbrev pub for_one : Typed → ℕ → ℕ → ℕ → List ℕ → Option Alone → Option (List PieceTree)
for_one results lower upper step initial None = None
for_one results lower upper step initial (Some a) = for_args results lower upper step initial a.label a.args a.passed

abbrev pub for_trees : Typed → List ℕ → List RegionSketch → ℕ → Option (List PieceTree)
for_trees results (lower ∷ upper ∷ step ∷ initial) (a ∷ []) zero = for_one results lower upper step initial (alone a)
for_trees results _ _ _ = None

-- scf.while

abbrev pub while_pieces : Typed → List ℕ → Alone → ℕ → List ℕ → Alone → List PieceTree
while_pieces results initial before c values after =
    branch_tree [] (old_values initial) (labels.Old before.label)
    ∷ Opens (labels.Old before.label) before.args
    ∷ Held 0 0
    ∷ conditional_tree [] (Old c) (old_values values) (labels.Old after.label) (labels.New 0)
    ∷ Opens (labels.Old after.label) after.args
    ∷ Held 1 0
    ∷ branch_tree [] (old_values after.passed) (labels.Old before.label)
    ∷ Opens (labels.New 0) []
    ∷ stand_trees results values

abbrev pub while_passed : Typed → List ℕ → Alone → List ℕ → Alone → Option (List PieceTree)
while_passed results initial before [] after = None
while_passed results initial before (c ∷ values) after = Some (while_pieces results initial before c values after)

abbrev pub while_two : Typed → List ℕ → Option Alone → Option Alone → Option (List PieceTree)
while_two results initial (Some before) (Some after) = while_passed results initial before before.passed after
while_two results initial _ _ = None

abbrev pub while_trees : Typed → List ℕ → List RegionSketch → ℕ → Option (List PieceTree)
while_trees results initial (a ∷ b ∷ []) zero = while_two results initial (alone a) (alone b)
while_trees results initial _ _ = None

-- scf.index_switch

-- the new values of the j-th test: the constant and the bit
abbrev pub test_values : ℕ → Typed
test_values j = (2 * j, type.Index) ∷ (2 * j + 1, type.Int 1) ∷ []

abbrev pub constant_tree : ℕ → ℕ → ℤ → PieceTree
constant_tree k e number = product_tree ((k, type.Index) ∷ (e, type.Int 1) ∷ []) (codes "arith.constant") ((k, type.Index) ∷ []) [] (constant_value Index number) []

abbrev pub test_trees : ℕ → ℕ → ℤ → CutLabel → CutLabel → List PieceTree
test_trees index j number case other =
    constant_tree (2 * j) (2 * j + 1) number
    ∷ compare_tree (test_values j) (2 * j + 1) (Old index) (New (2 * j)) 0
    ∷ conditional_tree (test_values j) (New (2 * j + 1)) [] case other
    ∷ []

-- the test of a case: of the last one with the default, else with the block of the next test
abbrev pub case_test : ℕ → ℕ → ℤ → ℕ → Option ℕ → List PieceTree
case_test index j number case (Some default) = test_trees index j number (labels.Old case) (labels.Old default)
case_test index j number case None = test_trees index j number (labels.Old case) (labels.New (j + 1)) ++ Opens (labels.New (j + 1)) [] ∷ []

-- what stands behind the test of a case: where more cases follow, a new block with their tests
abbrev pub tests_trees : ℕ → ℕ → List ℤ → List Alone → ℕ → List PieceTree
tests_trees index j (number ∷ []) (case ∷ []) default = test_trees index j number (labels.Old case.label) (labels.Old default)
tests_trees index j (number ∷ numbers) (case ∷ cases) default =
    test_trees index j number (labels.Old case.label) (labels.New (j + 1)) ++ (Opens (labels.New (j + 1)) [] ∷ tests_trees index (j + 1) numbers cases default)
tests_trees index j _ _ default = []

abbrev pub case_trees : ℕ → List Alone → List PieceTree
case_trees r [] = []
case_trees r (a ∷ rest) = yields_trees (labels.New 0) r a ++ case_trees (r + 1) rest

abbrev pub head_trees : ℕ → List ℤ → List Alone → ℕ → List PieceTree
head_trees index [] cases default = branch_tree [] [] (labels.Old default) ∷ []
head_trees index (number ∷ numbers) cases default = tests_trees index 0 (number ∷ numbers) cases default

abbrev pub switch_pieces : Typed → ℕ → List ℤ → Alone → List Alone → List PieceTree
switch_pieces results index numbers default cases =
    head_trees index numbers cases default.label ++ (case_trees 1 cases ++ (yields_trees (labels.New 0) 0 default ++ Opens (labels.New 0) results ∷ []))

abbrev pub switch_blocks : Typed → ℕ → List ℤ → Option (List Alone) → Option (List PieceTree)
switch_blocks results index numbers None = None
switch_blocks results index numbers (Some []) = None
switch_blocks results index numbers (Some (default ∷ cases)) = if length numbers == length cases then Some (switch_pieces results index numbers default cases) else None

-- the numbers of the cases
abbrev pub case_numbers : Option PlainAttr → Option (List ℤ)
case_numbers (Some (Numbers width numbers)) = Some numbers
case_numbers _ = None

abbrev pub switch_numbers : Typed → ℕ → Option (List ℤ) → Option (List Alone) → Option (List PieceTree)
switch_numbers results index None blocks = None
switch_numbers results index (Some numbers) blocks = switch_blocks results index numbers blocks

abbrev pub switch_trees : Typed → List ℕ → Option (List ℤ) → List RegionSketch → ℕ → Option (List PieceTree)
switch_trees results (index ∷ []) numbers regions zero = switch_numbers results index numbers (all_alone regions)
switch_trees results _ numbers regions _ = None

-- scf.execute_region

abbrev pub passed_tree : Option (List ℕ) → List PieceTree
passed_tree None = []
passed_tree (Some passed) = branch_tree [] (old_values passed) (labels.New 0) ∷ []

abbrev pub block_trees : ℕ → BlockSketch → List PieceTree
block_trees k b = Opens (labels.Old b.label) b.args ∷ Held 0 k ∷ passed_tree b.passed

abbrev pub held_trees : ℕ → List BlockSketch → List PieceTree
held_trees k [] = []
held_trees k (b ∷ bs) = block_trees k b ++ held_trees (k + 1) bs

abbrev pub execute_blocks : Typed → List BlockSketch → Option (List PieceTree)
execute_blocks results [] = None
execute_blocks results (b ∷ bs) = Some (branch_tree [] [] (labels.Old b.label) ∷ (held_trees 0 (b ∷ bs) ++ Opens (labels.New 0) results ∷ []))

abbrev pub execute_trees : Typed → List ℕ → List RegionSketch → ℕ → Option (List PieceTree)
execute_trees results [] (r ∷ []) zero = execute_blocks results r.blocks
execute_trees results _ _ _ = None
