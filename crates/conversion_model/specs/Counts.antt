-- How often numbers are defined, and how often labels stand.
use Rattle.std.specs.Prelude.{ℕ, zero, suc, ◌+◌, ◌==◌, ◌≤◌, ◌&&◌, ◌≡◌, List, [], ◌∷◌, Some, Ok, ⊤, if◌then◌else◌}
use Rattle.plain_tree.specs.Types.{PlainType}
use Rattle.plain_tree.specs.Ops.{Op, op, Ops, end_of_ops, more_ops, Regions, end_of_regions, region, Blocks, end_of_blocks, block, Values}
use Rattle.conversion_model.specs.Templates.{Template, written}
use Rattle.conversion_model.specs.Rows.{Numbers, Piece, Product, Opens, Held, Stands, Row, Straight, Cutting, Framing, Pattern}
use Rattle.conversion_model.specs.Chosen.{made_by}
use Rattle.conversion_model.specs.Reconciled.{results_of}
use Rattle.conversion_model.specs.Conversion.{Pass, Supply, conv, regions_of}
use Rattle.conversion_model.specs.Fresh.{Fresh}

-- 1 where the number is v
abbrev pub hits : ℕ → ℕ → ℕ
hits v n = if n == v then 1 else 0

-- nothing counts
abbrev pub none : ℕ → ℕ
none n = 0

-- what values count for, in all
abbrev pub values_total : (ℕ → ℕ) → Values → ℕ
values_total value [] = 0
values_total value (v ∷ vs) = value v.0 + values_total value vs

abbrev mutual
  -- what the values that are defined in a tree and the labels of its blocks count for, in all
  pub op_total : (ℕ → ℕ) → (ℕ → ℕ) → Op → ℕ
  op_total value label (op k results operands regions successors) = values_total value results + regions_total value label regions

  pub ops_total : (ℕ → ℕ) → (ℕ → ℕ) → Ops → ℕ
  ops_total value label end_of_ops = 0
  ops_total value label (more_ops o os) = op_total value label o + ops_total value label os

  pub regions_total : (ℕ → ℕ) → (ℕ → ℕ) → Regions → ℕ
  regions_total value label end_of_regions = 0
  regions_total value label (region blocks more) = blocks_total value label blocks + regions_total value label more

  pub blocks_total : (ℕ → ℕ) → (ℕ → ℕ) → Blocks → ℕ
  blocks_total value label end_of_blocks = 0
  blocks_total value label (block l args ops more) = label l + (values_total value args + (ops_total value label ops + blocks_total value label more))

abbrev pub list_total : (ℕ → ℕ) → (ℕ → ℕ) → List Op → ℕ
list_total value label [] = 0
list_total value label (o ∷ os) = op_total value label o + list_total value label os

-- how often v is among values
abbrev pub values_count : ℕ → Values → ℕ
values_count v vs = values_total (hits v) vs

-- how often v is defined in a tree
abbrev pub op_count : ℕ → Op → ℕ
op_count v o = op_total (hits v) none o

abbrev pub list_count : ℕ → List Op → ℕ
list_count v os = list_total (hits v) none os

-- how often the label stands in a tree
abbrev pub label_count : ℕ → Op → ℕ
label_count l o = op_total none (hits l) o

-- how often v is among the names from the n-th on, so many
abbrev pub named_count : ℕ → (ℕ → ℕ) → ℕ → ℕ → ℕ
named_count v name n zero = 0
named_count v name n (suc room) = hits v (name n) + named_count v name (n + 1) room

-- a template that is written down defines a number at most as often as the results have it and the new numbers together:
-- each result at most once, and each new number at most once
abbrev pub WrittenOnce : Type 0
WrittenOnce = (v : ℕ) (new : ℕ → ℕ) (results : Values) (operands labels : List ℕ) (t : Template)
    → list_count v (written new results operands labels t []) ≤ values_count v results + named_count v new 0 (made_by t.steps)

-- The whole conversion

-- each number is defined at most once in a function
abbrev pub DefinesOnce : Op → Type 0
DefinesOnce f = (v : ℕ) → op_count v f ≤ 1

-- each label stands at most once in a function
abbrev pub LabelsOnce : Op → Type 0
LabelsOnce f = (l : ℕ) → label_count l f ≤ 1

-- what pieces define and what labels they open count for, in all
abbrev pub pieces_total : (ℕ → ℕ) → (ℕ → ℕ) → List Piece → ℕ
pieces_total value label [] = 0
pieces_total value label (Product o types ∷ ps) = op_total value label o + pieces_total value label ps
pieces_total value label (Opens l args ∷ ps) = label l + (values_total value args + pieces_total value label ps)
pieces_total value label (Held r b ∷ ps) = pieces_total value label ps
pieces_total value label (Stands result value_there ∷ ps) = value result.0 + pieces_total value label ps

-- how often pieces hold the b-th block of the r-th region
abbrev pub held_count : ℕ → ℕ → List Piece → ℕ
held_count r b [] = 0
held_count r b (Product o types ∷ ps) = held_count r b ps
held_count r b (Opens l args ∷ ps) = held_count r b ps
held_count r b (Held q c ∷ ps) = (if (q == r) && (c == b) then 1 else 0) + held_count r b ps
held_count r b (Stands result value ∷ ps) = held_count r b ps

-- what the arguments and labels of the blocks right within an operation count for, in all
abbrev pub block_heads : (ℕ → ℕ) → (ℕ → ℕ) → Blocks → ℕ
block_heads value label end_of_blocks = 0
block_heads value label (block l args ops more) = label l + (values_total value args + block_heads value label more)

abbrev pub region_heads : (ℕ → ℕ) → (ℕ → ℕ) → Regions → ℕ
region_heads value label end_of_regions = 0
region_heads value label (region blocks more) = block_heads value label blocks + region_heads value label more

-- pieces define only results of the operation, arguments of its blocks and new values, open only its blocks' labels and new
-- ones, and hold only its blocks, each at most once
pub record PiecesOnce (new : Numbers) (o : Op) (ps : List Piece) : Type 0 where
  pub room : ℕ
  pub values : (v : ℕ) → pieces_total (hits v) none ps ≤ values_count v (results_of o) + (region_heads (hits v) none (regions_of o) + named_count v new.value 0 room)
  pub labels : (l : ℕ) → pieces_total none (hits l) ps ≤ region_heads none (hits l) (regions_of o) + named_count l new.label 0 room
  pub held : (r b : ℕ) → held_count r b ps ≤ 1

abbrev pub RowOnce : Row → Type 0
RowOnce (Cutting row) = (new : Numbers) (type_of : ℕ → PlainType) (o : Op) (ps : List Piece) → row new type_of o ≡ Some ps → PiecesOnce new o ps
RowOnce (Straight row) = ⊤
RowOnce (Framing row) = ⊤

abbrev pub TableOnce : ℕ → List Pattern → Type 0
TableOnce bits [] = ⊤
TableOnce bits (p ∷ ps) = RowOnce (p.row bits) × TableOnce bits ps

-- a conversion defines each number at most once where the function does and no label stands twice in it, by a pass whose
-- cutting rows do so, with fresh numbers
abbrev pub ConversionOnce : Type 0
ConversionOnce = (p : Pass) (bits : ℕ) (new : Supply) (f g : Op)
    → TableOnce bits p.table → Fresh new f → DefinesOnce f → LabelsOnce f → conv p bits new f ≡ Ok g → DefinesOnce g
