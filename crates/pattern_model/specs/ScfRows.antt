-- The patterns of scf_lowering: the block is cut behind the operation into head and rest, and region blocks go between.
use Rattle.std.specs.Prelude.{ℕ, false, ◌+◌, ◌*◌, ◌==◌, List, [], ◌∷◌, map, length, Option, Some, None, ℤ, pos, if◌then◌else◌, codes}
use Rattle.plain_tree.specs.Types.{PlainType, Int, Index}
use Rattle.plain_tree.specs.Attrs.{Entries, PlainAttr, Number, entry}
use Rattle.plain_tree.specs.Attrs as attr
use Rattle.plain_tree.specs.Ops.{Op, op, Ops, end_of_ops, more_ops, Regions, end_of_regions, region, Blocks, end_of_blocks, block, Values}
use Rattle.conversion_model.specs.Targets.{name_of, operands_of, goes_with_holder}
use Rattle.conversion_model.specs.Rows.{Pattern, Cutting, Numbers, Piece, Product, Opens, Held, Stands}
use Rattle.pattern_model.specs.Drafts.{predicate, sizes, constant_value}

-- Products

abbrev pub product : (ℕ → PlainType) → List ℕ → Values → List ℕ → Entries → List ℕ → Piece
product type_of name results operands props successors =
    Product (op (record { name = name; props = props; attrs = [] }) results operands end_of_regions successors) (map type_of operands)

abbrev pub branch : (ℕ → PlainType) → List ℕ → ℕ → Piece
branch type_of passed to = product type_of (codes "cf.br") [] passed [] (to ∷ [])

-- a branch on c, with the values passed to the first successor
abbrev pub conditional : (ℕ → PlainType) → ℕ → List ℕ → ℕ → ℕ → Piece
conditional type_of c passed to other =
    product type_of (codes "cf.cond_br") [] (c ∷ passed) (sizes (pos 1 ∷ pos (length passed) ∷ pos 0 ∷ [])) (to ∷ other ∷ [])

-- the types where a new value of that type stands besides
abbrev pub with_type : ℕ → PlainType → (ℕ → PlainType) → ℕ → PlainType
with_type new t type_of n = if n == new then t else type_of n

-- Regions

-- the operands of the first scf.yield or scf.condition among operations, where there is one
abbrev pub passed_by : Ops → Option (List ℕ)
passed_by end_of_ops = None
passed_by (more_ops o os) = if goes_with_holder (name_of o) then Some (operands_of o) else passed_by os

abbrev pub or_none : Option (List ℕ) → List ℕ
or_none None = []
or_none (Some xs) = xs

-- a region's one block
pub record Single : Type 0 where
  pub label : ℕ
  pub args : Values
  pub passed : List ℕ

abbrev pub single : Blocks → Option Single
single (block label args ops end_of_blocks) = Some (record { label = label; args = args; passed = or_none (passed_by ops) })
single _ = None

-- each region's one block, none where a region has not one block
abbrev pub with_single : Option Single → Option (List Single) → Option (List Single)
with_single (Some s) (Some ss) = Some (s ∷ ss)
with_single _ _ = None

abbrev pub singles : Regions → Option (List Single)
singles end_of_regions = Some []
singles (region blocks more) = with_single (single blocks) (singles more)

-- the first block of a region that holds the r-th region's operations, and the branch that stands for its yield
abbrev pub yields_to : (ℕ → PlainType) → ℕ → ℕ → Single → List Piece → List Piece
yields_to type_of rest r s more = Opens s.label s.args ∷ Held r 0 ∷ branch type_of s.passed rest ∷ more

-- Rows

-- scf.if: the head ends by a branch on c to then and else; each yield becomes a branch to rest, whose arguments are the
-- results. Without an else region the second successor is rest.
abbrev pub if_pieces : Numbers → (ℕ → PlainType) → Values → ℕ → Single → Single → List Piece
if_pieces new type_of results c first other =
    conditional type_of c [] first.label other.label
    ∷ yields_to type_of (new.label 0) 0 first (yields_to type_of (new.label 0) 1 other (Opens (new.label 0) results ∷ []))

abbrev pub if_without_else : Numbers → (ℕ → PlainType) → Values → ℕ → Single → List Piece
if_without_else new type_of results c first =
    conditional type_of c [] first.label (new.label 0)
    ∷ yields_to type_of (new.label 0) 0 first (Opens (new.label 0) results ∷ [])

abbrev pub if_of : Numbers → (ℕ → PlainType) → Values → ℕ → Option Single → Option Single → Option (List Piece)
if_of new type_of results c (Some first) (Some other) = Some (if_pieces new type_of results c first other)
if_of new type_of results c _ _ = None

abbrev pub if_alone : Numbers → (ℕ → PlainType) → Values → ℕ → Option Single → Option (List Piece)
if_alone new type_of results c (Some first) = Some (if_without_else new type_of results c first)
if_alone new type_of results c None = None

abbrev pub if_row : Numbers → (ℕ → PlainType) → Op → Option (List Piece)
if_row new type_of (op k results (c ∷ []) (region first (region end_of_blocks end_of_regions)) []) = if_alone new type_of results c (single first)
if_row new type_of (op k results (c ∷ []) (region first (region other end_of_regions)) []) = if_of new type_of results c (single first) (single other)
if_row new type_of _ = None

-- each result stands for the value at its place
abbrev pub stand_for : Values → List ℕ → List Piece
stand_for (r ∷ rs) (v ∷ vs) = Stands r v ∷ stand_for rs vs
stand_for _ _ = []

-- scf.for: the head ends by a branch to cond with the lower bound and the initial values; cond, with the body's arguments,
-- goes on to the body while iv is below the upper bound as signed numbers; the yield becomes iv + step and a branch back.
-- The results are cond's accs.
abbrev pub for_pieces : Numbers → (ℕ → PlainType) → Values → ℕ → ℕ → ℕ → List ℕ → ℕ → (ℕ × PlainType) → Values → List ℕ → List Piece
for_pieces new type_of results lower upper step initial body iv accs passed =
    let cond : ℕ = new.label 0 in
    let rest : ℕ = new.label 1 in
    let below : ℕ = new.value 0 in
    let next : ℕ = new.value 1 in
    let types : ℕ → PlainType = with_type below (Int 1) (with_type next iv.1 type_of) in
    branch types (lower ∷ initial) cond
    ∷ Opens cond (iv ∷ accs)
    ∷ product types (codes "arith.cmpi") ((below, Int 1) ∷ []) (iv.0 ∷ upper ∷ []) (predicate 2) []
    ∷ conditional types below [] body rest
    ∷ Opens body []
    ∷ Held 0 0
    ∷ product types (codes "arith.addi") ((next, iv.1) ∷ []) (iv.0 ∷ step ∷ []) [] []
    ∷ branch types (next ∷ passed) cond
    ∷ Opens rest []
    ∷ stand_for results (map (λ a. a.0) accs)

abbrev pub for_of : Numbers → (ℕ → PlainType) → Values → ℕ → ℕ → ℕ → List ℕ → ℕ → Values → List ℕ → Option (List Piece)
for_of new type_of results lower upper step initial body (iv ∷ accs) passed = Some (for_pieces new type_of results lower upper step initial body iv accs passed)
for_of new type_of results lower upper step initial body [] passed = None

abbrev pub for_row : Numbers → (ℕ → PlainType) → Op → Option (List Piece)
for_row new type_of (op k results (lower ∷ upper ∷ step ∷ initial) (region (block body args ops end_of_blocks) end_of_regions) []) =
    for_of new type_of results lower upper step initial body args (or_none (passed_by ops))
for_row new type_of _ = None

-- scf.while: the head ends by a branch to before; scf.condition becomes a branch on its condition with its values to after
-- or to rest; the yield becomes a branch to before. The results are the condition's values.
abbrev pub while_pieces : Numbers → (ℕ → PlainType) → Values → List ℕ → Single → ℕ → List ℕ → Single → List Piece
while_pieces new type_of results initial before c values after =
    branch type_of initial before.label
    ∷ Opens before.label before.args
    ∷ Held 0 0
    ∷ conditional type_of c values after.label (new.label 0)
    ∷ Opens after.label after.args
    ∷ Held 1 0
    ∷ branch type_of after.passed before.label
    ∷ Opens (new.label 0) []
    ∷ stand_for results values

abbrev pub while_passed : Numbers → (ℕ → PlainType) → Values → List ℕ → Single → List ℕ → Single → Option (List Piece)
while_passed new type_of results initial before (c ∷ values) after = Some (while_pieces new type_of results initial before c values after)
while_passed new type_of results initial before [] after = None

abbrev pub while_of : Numbers → (ℕ → PlainType) → Values → List ℕ → Option Single → Option Single → Option (List Piece)
while_of new type_of results initial (Some before) (Some after) = while_passed new type_of results initial before before.passed after
while_of new type_of results initial _ _ = None

abbrev pub while_row : Numbers → (ℕ → PlainType) → Op → Option (List Piece)
while_row new type_of (op k results initial (region before (region after end_of_regions)) []) = while_of new type_of results initial (single before) (single after)
while_row new type_of _ = None

-- scf.index_switch: for each case j a constant k, a comparison with it, and a branch to the case or to the next test; the
-- last goes on to the default. The first test stands in head; without cases head goes to the default.

-- the test of a case number in one block: label 0 is rest, label j that of the test behind the j-th
abbrev pub test_pieces : Numbers → (ℕ → PlainType) → ℕ → ℕ → ℤ → ℕ → ℕ → List Piece → List Piece
test_pieces new type_of index j number case other more =
    let k : ℕ = new.value (2 * j) in
    let e : ℕ = new.value (2 * j + 1) in
    let types : ℕ → PlainType = with_type k Index (with_type e (Int 1) type_of) in
    product types (codes "arith.constant") ((k, Index) ∷ []) [] (constant_value Index number) []
    ∷ product types (codes "arith.cmpi") ((e, Int 1) ∷ []) (index ∷ k ∷ []) (predicate 0) []
    ∷ conditional types e [] case other
    ∷ more

-- the tests from the j-th on, the first of these in the block that stands open
abbrev pub tests : Numbers → (ℕ → PlainType) → ℕ → ℕ → List ℤ → List Single → ℕ → List Piece → List Piece
tests new type_of index j (number ∷ []) (case ∷ []) default more = test_pieces new type_of index j number case.label default more
tests new type_of index j (number ∷ numbers) (case ∷ cases) default more =
    test_pieces new type_of index j number case.label (new.label (j + 1))
    (Opens (new.label (j + 1)) [] ∷ tests new type_of index (j + 1) numbers cases default more)
tests new type_of index j _ _ default more = more

-- the blocks of the cases, in regions from the r-th on
abbrev pub case_pieces : (ℕ → PlainType) → ℕ → ℕ → List Single → List Piece → List Piece
case_pieces type_of rest r [] more = more
case_pieces type_of rest r (s ∷ ss) more = yields_to type_of rest r s (case_pieces type_of rest (r + 1) ss more)

abbrev pub head_pieces : Numbers → (ℕ → PlainType) → ℕ → List ℤ → List Single → ℕ → List Piece → List Piece
head_pieces new type_of index [] cases default more = branch type_of [] default ∷ more
head_pieces new type_of index numbers cases default more = tests new type_of index 0 numbers cases default more

abbrev pub switch_pieces : Numbers → (ℕ → PlainType) → Values → ℕ → List ℤ → Single → List Single → List Piece
switch_pieces new type_of results index numbers default cases =
    head_pieces new type_of index numbers cases default.label
    (case_pieces type_of (new.label 0) 1 cases (yields_to type_of (new.label 0) 0 default (Opens (new.label 0) results ∷ [])))

abbrev pub switch_blocks : Numbers → (ℕ → PlainType) → Values → ℕ → List ℤ → Option (List Single) → Option (List Piece)
switch_blocks new type_of results index numbers (Some (default ∷ cases)) =
    if length numbers == length cases then Some (switch_pieces new type_of results index numbers default cases) else None
switch_blocks new type_of results index numbers _ = None

abbrev pub switch_cases : Numbers → (ℕ → PlainType) → Values → ℕ → Option PlainAttr → Option (List Single) → Option (List Piece)
switch_cases new type_of results index (Some (attr.Numbers width numbers)) ss = switch_blocks new type_of results index numbers ss
switch_cases new type_of results index _ ss = None

abbrev pub switch_row : Numbers → (ℕ → PlainType) → Op → Option (List Piece)
switch_row new type_of (op k results (index ∷ []) regions []) = switch_cases new type_of results index (entry (codes "cases") k.props) (singles regions)
switch_row new type_of _ = None

-- scf.execute_region: the head ends by a branch to the region's first block; its yields become branches to rest, whose
-- arguments are the results.

-- a block's operations, and where it yields a branch to rest
abbrev pub held_block : (ℕ → PlainType) → ℕ → ℕ → ℕ → Values → Option (List ℕ) → List Piece → List Piece
held_block type_of rest b label args None more = Opens label args ∷ Held 0 b ∷ more
held_block type_of rest b label args (Some passed) more = Opens label args ∷ Held 0 b ∷ branch type_of passed rest ∷ more

abbrev pub held_blocks : (ℕ → PlainType) → ℕ → ℕ → Blocks → List Piece → List Piece
held_blocks type_of rest b end_of_blocks more = more
held_blocks type_of rest b (block label args ops blocks) more =
    held_block type_of rest b label args (passed_by ops) (held_blocks type_of rest (b + 1) blocks more)

abbrev pub execute_row : Numbers → (ℕ → PlainType) → Op → Option (List Piece)
execute_row new type_of (op k results [] (region (block label args ops blocks) end_of_regions) []) = Some (
    branch type_of [] label
    ∷ held_blocks type_of (new.label 0) 0 (block label args ops blocks) (Opens (new.label 0) results ∷ []))
execute_row new type_of _ = None

-- Patterns

abbrev pub cuts : List ℕ → List (List ℕ) → (Numbers → (ℕ → PlainType) → Op → Option (List Piece)) → Pattern
cuts root makes row = record { root = root; makes = makes; benefit = 1; is_converted = false; row = λ bits. Cutting row }

-- the set, in the order of the table
abbrev pub scf_set : List Pattern
scf_set =
    cuts (codes "scf.if") (codes "cf.br" ∷ codes "cf.cond_br" ∷ []) if_row
    ∷ cuts (codes "scf.for") (codes "arith.cmpi" ∷ codes "arith.addi" ∷ codes "cf.br" ∷ codes "cf.cond_br" ∷ []) for_row
    ∷ cuts (codes "scf.while") (codes "cf.br" ∷ codes "cf.cond_br" ∷ []) while_row
    ∷ cuts (codes "scf.index_switch") (codes "arith.constant" ∷ codes "arith.cmpi" ∷ codes "cf.br" ∷ codes "cf.cond_br" ∷ []) switch_row
    ∷ cuts (codes "scf.execute_region") (codes "cf.br" ∷ []) execute_row
    ∷ []
