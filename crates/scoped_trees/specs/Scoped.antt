-- Operations whose uses are in scope: each operand is an argument or a result of the region in which the operation stands, wherever it is in it, or of one around; each successor is a block of that region.
use Rattle.std.specs.Prelude.{ℕ, ◌==◌, ◌&&◌, ◌||◌, Bool, true, false, [], ◌∷◌}
use Rattle.std.specs.List.{list_all}
use Rattle.plain_tree.specs.Ops.{Op, op, Ops, end_of_ops, more_ops, Regions, end_of_regions, region, Blocks, end_of_blocks, block, PlainModule, Values}

-- What a region defines

-- the value is one of these
abbrev pub is_among : ℕ → Values → Bool
is_among v [] = false
is_among v (w ∷ ws) = (w.0 == v) || is_among v ws

abbrev pub results_of : Op → Values
results_of (op k results operands regions successors) = results

-- it is a result of one of the operations, but not of those in them
abbrev pub ops_define : ℕ → Ops → Bool
ops_define v end_of_ops = false
ops_define v (more_ops o os) = is_among v (results_of o) || ops_define v os

-- it is an argument of a block or a result of one of its operations
abbrev pub blocks_define : ℕ → Blocks → Bool
blocks_define v end_of_blocks = false
blocks_define v (block label args ops more) = is_among v args || (ops_define v ops || blocks_define v more)

-- a block has the label
abbrev pub blocks_have : ℕ → Blocks → Bool
blocks_have l end_of_blocks = false
blocks_have l (block label args ops more) = (label == l) || blocks_have l more

-- What is in scope: `known` are the values of the region and of those around it, `labels` the blocks of the region

abbrev mutual
  pub is_scoped : (ℕ → Bool) → (ℕ → Bool) → Op → Bool
  is_scoped known labels (op k results operands regions successors) = list_all known operands && (list_all labels successors && are_scoped_regions known regions)

  pub are_scoped : (ℕ → Bool) → (ℕ → Bool) → Ops → Bool
  are_scoped known labels end_of_ops = true
  are_scoped known labels (more_ops o os) = is_scoped known labels o && are_scoped known labels os

  pub are_scoped_regions : (ℕ → Bool) → Regions → Bool
  are_scoped_regions known end_of_regions = true
  are_scoped_regions known (region blocks more) = are_scoped_blocks (λ v. known v || blocks_define v blocks) (λ l. blocks_have l blocks) blocks && are_scoped_regions known more

  pub are_scoped_blocks : (ℕ → Bool) → (ℕ → Bool) → Blocks → Bool
  are_scoped_blocks known labels end_of_blocks = true
  are_scoped_blocks known labels (block label args ops more) = are_scoped known labels ops && are_scoped_blocks known labels more

-- no name goes over the border of a function: it may use its own results, and has no successors
abbrev pub is_scoped_func : Op → Bool
is_scoped_func f = is_scoped (λ v. is_among v (results_of f)) (λ l. false) f

abbrev pub is_scoped_module : PlainModule → Bool
is_scoped_module m = list_all is_scoped_func m.funcs
