-- Small words on numbers, values and blocks.
use Rattle.std.specs.Prelude.{ℕ, ◌+◌, ◌==◌, Bool, false, ◌||◌, ◌⊎◌, List, [], ◌∷◌, Option, Some, None, if◌then◌else◌, ⊤}
use Rattle.plain_tree.specs.Types.{PlainType}
use Rattle.plain_tree.specs.Ops.{Op, op, Ops, end_of_ops, more_ops, Blocks, end_of_blocks, block, PlainBlock, Values}

-- whether v is among numbers
abbrev pub has : ℕ → List ℕ → Bool
has v [] = false
has v (n ∷ ns) = (n == v) || has v ns

-- P of one of these, and of each
abbrev pub AnyOf : {A : Type 0} → (A → Type 0) → List A → Type 0
AnyOf P [] = ⊥
AnyOf P (x ∷ xs) = P x ⊎ AnyOf P xs

abbrev pub AllOf : {A : Type 0} → (A → Type 0) → List A → Type 0
AllOf P [] = ⊤
AllOf P (x ∷ xs) = P x × AllOf P xs

abbrev pub if_some : {A B : Type 0} → Option A → (A → Option B) → Option B
if_some None next = None
if_some (Some a) next = next a

-- the numbers of values, and their types
abbrev pub numbers : Values → List ℕ
numbers [] = []
numbers (v ∷ vs) = v.0 ∷ numbers vs

abbrev pub types : Values → List PlainType
types [] = []
types (v ∷ vs) = v.1 ∷ types vs

-- the parts of an operation
abbrev pub name_of : Op → List ℕ
name_of (op k results operands regions successors) = k.name

abbrev pub results_of : Op → List ℕ
results_of (op k results operands regions successors) = numbers results

abbrev pub successors_of : Op → List ℕ
successors_of (op k results operands regions successors) = successors

-- the first block of a region
abbrev pub first_block : Blocks → Option PlainBlock
first_block end_of_blocks = None
first_block (block label args ops more) = Some (record { label = label; args = args; ops = ops })

-- the block with this label
abbrev pub block_of : ℕ → Blocks → Option PlainBlock
block_of l end_of_blocks = None
block_of l (block label args ops more) = if label == l then Some (record { label = label; args = args; ops = ops }) else block_of l more

abbrev pub is_first : ℕ → Blocks → Bool
is_first l end_of_blocks = false
is_first l (block label args ops more) = label == l

-- whether v is the result of one of these operations, itself and not deeper
abbrev pub binds_in_ops : ℕ → Ops → Bool
binds_in_ops v end_of_ops = false
binds_in_ops v (more_ops o rest) = has v (results_of o) || binds_in_ops v rest

-- whether v is defined in a region itself: as an argument of one of its blocks or as a result of an operation of one
abbrev pub binds : ℕ → Blocks → Bool
binds v end_of_blocks = false
binds v (block label args ops more) = has v (numbers args) || (binds_in_ops v ops || binds v more)

-- how many operations these are
abbrev pub count_of : Ops → ℕ
count_of end_of_ops = 0
count_of (more_ops o rest) = count_of rest + 1
