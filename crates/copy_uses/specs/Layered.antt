-- A tree with other operands, layer by layer; and what comes of it where copies were left out before.
use Rattle.std.specs.Prelude.{◌≡◌, ℕ, List}
use Rattle.plain_tree.specs.Ops.{Op, Blocks, PlainBlock}
use Rattle.conversion_model.specs.Uses.{blocks_uses, copies_in, copies_left_out, followed, is_copy, op_uses, op_without, operations, ops_uses}

-- a block, and a region
unfoldable pub block_uses : (ℕ → ℕ) → PlainBlock → PlainBlock
block_uses to b = record { label = b.label; args = b.args; ops = ops_uses to b.ops }

unfoldable pub region_uses : (ℕ → ℕ) → Blocks → Blocks
region_uses to r = blocks_uses to r

-- Where a tree is another one without the copies in it, and pairs are those copies, then the tree with its uses followed is
-- the other one with its copies left out.
abbrev pub CopiesLeftOut : Type 0
CopiesLeftOut = (f written : Op) (pairs : List (ℕ × ℕ)) → written ≡ op_without is_copy f → pairs ≡ copies_in (operations f)
    → op_uses (followed pairs (λ v. v)) written ≡ copies_left_out f
