-- Blocks whose arguments have converted types, layer by layer; and what is said for each table that extends another one.
use Rattle.std.specs.Prelude.{ℕ, Bool, true, false, List, [], ◌∷◌, length, ◌==◌, Option, Some, None}
use Rattle.tree_model.specs.declared.op_tree.OpTree.{OpTree, out-OpTree}
use Rattle.plain_tree.specs.Types.{PlainType}
use Rattle.plain_tree.specs.Ops.{Op, Ops, more_ops, Blocks, PlainBlock}
use Rattle.conversion_model.specs.Conversion.{blocks_blocks, cast_op, casts_back, new_arguments, ops_blocks}
use Rattle.new_numbers.specs.Tables.{Extends, Numbering, supply_of}

-- what holds of the numbers of arguments that each table gives that extends this one
abbrev pub Said : Numbering → ((ℕ → ℕ → ℕ) → Type 0) → Type 0
Said t P = (u : Numbering) → Extends t u → P (λ label k. (supply_of u).argument label k)

-- operations in front of others
abbrev pub in_front : List Op → Ops → Ops
in_front [] more = more
in_front (o ∷ os) more = more_ops o (in_front os more)

-- the cast back to an argument, if its type changes
abbrev pub cast_list : ℕ → ℕ × PlainType → Option PlainType → List Op
cast_list new a None = []
cast_list new a (Some u) = cast_op new a ∷ []

-- a block: the first of its region keeps its arguments
unfoldable pub block_changed : ℕ → (ℕ → ℕ → ℕ) → Bool → PlainBlock → PlainBlock
block_changed bits new true b = record { label = b.label; args = b.args; ops = ops_blocks bits new b.ops }
block_changed bits new false b =
    record { label = b.label; args = new_arguments bits (new b.label) 0 b.args; ops = casts_back bits (new b.label) 0 b.args (ops_blocks bits new b.ops) }

-- the blocks of a region, from the first or from a later one on
abbrev pub blocks_changed : ℕ → (ℕ → ℕ → ℕ) → Bool → List PlainBlock → List PlainBlock
blocks_changed bits new is_first [] = []
blocks_changed bits new is_first (b ∷ bs) = block_changed bits new is_first b ∷ blocks_changed bits new false bs

unfoldable pub region_changed : ℕ → (ℕ → ℕ → ℕ) → Blocks → Blocks
region_changed bits new r = blocks_blocks bits new true r

-- whether an operation has no regions
unfoldable pub has_none : OpTree → Bool
has_none o = length (out-OpTree o).regions == 0
