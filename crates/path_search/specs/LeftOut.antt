-- The graph of the blocks of a region, with one of them left out.
use Rattle.std.specs.Prelude.{◌≡◌, ◌↔◌, ℕ, ◌==◌, Bool, true, false, ◌||◌, List, [], ◌∷◌, Option, Some, None, if◌then◌else◌}
use Rattle.plain_tree.specs.Ops.{Ops, end_of_ops, more_ops, Blocks, PlainBlock}
use Rattle.rule_model.specs.Words.{has, numbers, results_of, first_block, block_of}
use Rattle.rule_model.specs.Paths.{ends, exits, Passed, Reach}
use Rattle.rule_model.specs.Promises.{OnlyIn}
use Rattle.block_search.specs.Reach.{Reached}

abbrev pub is_there : Option PlainBlock → Bool
is_there None = false
is_there (Some b) = true

-- those of these labels that are labels of blocks
abbrev pub there : Blocks → List ℕ → List ℕ
there bs [] = []
there bs (t ∷ ts) = if is_there (block_of t bs) then t ∷ there bs ts else there bs ts

abbrev pub exits_of : Option PlainBlock → List ℕ
exits_of None = []
exits_of (Some b) = exits b.ops

-- where a block goes on, nowhere where it is left out
abbrev pub onward : Blocks → ℕ → ℕ → List ℕ
onward bs home l = if l == home then [] else there bs (exits_of (block_of l bs))

abbrev pub label_of : Option PlainBlock → List ℕ
label_of None = []
label_of (Some b) = b.label ∷ []

-- the first block
abbrev pub entry : Blocks → List ℕ
entry bs = label_of (first_block bs)

-- an operation in front of the first terminator defines v
abbrev pub early : ℕ → Ops → Bool
early v end_of_ops = false
early v (more_ops o rest) = if ends o then false else (if has v (results_of o) then true else early v rest)

-- a block defines v before its end
abbrev pub defines : ℕ → PlainBlock → Bool
defines v b = has v (numbers b.args) || early v b.ops

abbrev pub LeftOutDecides : Type 0
LeftOutDecides = (bs : Blocks) (v home : ℕ) (h : PlainBlock) → block_of home bs ≡ Some h → OnlyIn v home bs → defines v h ≡ true
    → (l : ℕ) (b : PlainBlock) (bound : List ℕ) (ops : Ops) → block_of l bs ≡ Some b → Passed b bound ops → has v bound ≡ false
    → Reach bs v l bound ops ↔ Reached (onward bs home) (entry bs) l
