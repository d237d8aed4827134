-- Functions as a run sees them: each operation by its form, each value by its number.
use Rattle.std.specs.Prelude.{ℕ, zero, suc, ◌==◌, List, [], ◌∷◌, Option, Some, None, if◌then◌else◌}
use Rattle.std.specs.Str.{bytes_eq}
use Rattle.operation_model.specs.Values.{Value}
use Rattle.operation_model.specs.Calling.{Shapes, Packing}
use Rattle.operation_model.specs.Forms.{Form}

mutual
  -- operations in order: form, results, operands, labels of successors and regions of the first, and those behind it
  pub data Ops : Type 0 where
    OpsEnd : Ops
    Op : Form → List ℕ → List ℕ → List ℕ → Regions → Ops → Ops

  -- the blocks of a region in order: label, arguments and operations of the first, and those behind it
  pub data Blocks : Type 0 where
    BlocksEnd : Blocks
    Block : ℕ → List ℕ → Ops → Blocks → Blocks

  pub data Regions : Type 0 where
    RegionsEnd : Regions
    Region : Blocks → Regions → Regions

-- the region at a place, an empty one where there is none
abbrev pub region_at : ℕ → Regions → Blocks
region_at i RegionsEnd = BlocksEnd
region_at zero (Region b rs) = b
region_at (suc i) (Region b rs) = region_at i rs

-- a block: its arguments and its operations
pub record Target : Type 0 where
  pub args : List ℕ
  pub ops : Ops

-- the first block
abbrev pub entry : Blocks → Option Target
entry BlocksEnd = None
entry (Block l args ops more) = Some (record { args = args; ops = ops })

-- the block of this label
abbrev pub find_block : ℕ → Blocks → Option Target
find_block l BlocksEnd = None
find_block l (Block k args ops more) = if k == l then Some (record { args = args; ops = ops }) else find_block l more

-- What a function shows where it is the entry or is external: the widths of its parameters and of its results where all of them are
-- integers, and how results are handed over.
pub record Face : Type 0 where
  pub inputs : Option (List ℕ)
  pub outputs : Option (List ℕ)
  pub packing : Packing

-- a function: its name, what it shows, how its arguments are handed over, and its blocks, none where it is external
pub record Function : Type 0 where
  pub name : List ℕ
  pub face : Face
  pub shapes : Shapes
  pub body : Blocks

-- the function of this name
abbrev pub find_function : List ℕ → List Function → Option Function
find_function name [] = None
find_function name (f ∷ fs) = if bytes_eq f.name name then Some f else find_function name fs

-- the values of one call of a function, by their numbers, the newest first
abbrev pub Env : Type 0
Env = List (ℕ × Value)

abbrev pub lookup : ℕ → Env → Option Value
lookup n [] = None
lookup n (e ∷ env) = if e.0 == n then Some e.1 else lookup n env

abbrev pub and_value : Option Value → Option (List Value) → Option (List Value)
and_value (Some v) (Some vs) = Some (v ∷ vs)
and_value _ _ = None

abbrev pub lookups : List ℕ → Env → Option (List Value)
lookups [] env = Some []
lookups (n ∷ ns) env = and_value (lookup n env) (lookups ns env)

-- the values under these numbers, where there are as many of both
abbrev pub bind : List ℕ → List Value → Env → Option Env
bind [] [] env = Some env
bind (n ∷ ns) (v ∷ vs) env = bind ns vs ((n, v) ∷ env)
bind _ _ env = None
