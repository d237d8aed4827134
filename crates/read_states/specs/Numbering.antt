-- Operations whose values and labels have the numbers that reading gives them: they are counted through the function in the order of its text.
use Rattle.std.specs.Prelude.{ℕ, ◌+◌, ◌==◌, ◌&&◌, Bool, true, [], ◌∷◌, length}
use Rattle.plain_tree.specs.Ops.{Op, op, Ops, end_of_ops, more_ops, Regions, end_of_regions, region, Blocks, end_of_blocks, block, Values}

-- the next number of a value, and of a label
pub record Count : Type 0 where
  pub values : ℕ
  pub labels : ℕ

-- at the begin of a function
abbrev pub none_counted : Count
none_counted = record { values = 0; labels = 0 }

-- behind so many values
abbrev pub past_values : Count → ℕ → Count
past_values c n = record { values = c.values + n; labels = c.labels }

-- behind the label and the arguments of a block
abbrev pub past_head : Count → Values → Count
past_head c args = record { values = c.values + length args; labels = c.labels + 1 }

abbrev mutual
  pub past_op : Count → Op → Count
  past_op c (op k results operands regions successors) = past_regions (past_values c (length results)) regions

  pub past_ops : Count → Ops → Count
  past_ops c end_of_ops = c
  past_ops c (more_ops o os) = past_ops (past_op c o) os

  pub past_regions : Count → Regions → Count
  past_regions c end_of_regions = c
  past_regions c (region blocks more) = past_regions (past_blocks c blocks) more

  pub past_blocks : Count → Blocks → Count
  past_blocks c end_of_blocks = c
  past_blocks c (block label args ops more) = past_blocks (past_ops (past_head c args) ops) more

-- values with numbers from this one on
abbrev pub are_counted : ℕ → Values → Bool
are_counted n [] = true
are_counted n (v ∷ vs) = (v.0 == n) && are_counted (n + 1) vs

-- an operation's results come first, then what is in its regions; a block's label and arguments come before its operations
abbrev mutual
  pub is_numbered : Count → Op → Bool
  is_numbered c (op k results operands regions successors) = are_counted c.values results && are_numbered_regions (past_values c (length results)) regions

  pub are_numbered : Count → Ops → Bool
  are_numbered c end_of_ops = true
  are_numbered c (more_ops o os) = is_numbered c o && are_numbered (past_op c o) os

  pub are_numbered_regions : Count → Regions → Bool
  are_numbered_regions c end_of_regions = true
  are_numbered_regions c (region blocks more) = are_numbered_blocks c blocks && are_numbered_regions (past_blocks c blocks) more

  pub are_numbered_blocks : Count → Blocks → Bool
  are_numbered_blocks c end_of_blocks = true
  are_numbered_blocks c (block label args ops more) =
      (label == c.labels) && (are_counted c.values args && (are_numbered (past_head c args) ops && are_numbered_blocks (past_ops (past_head c args) ops) more))
