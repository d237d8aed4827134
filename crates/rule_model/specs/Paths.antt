-- Rule `Defined`: paths of operations through a region on which a value isn't defined.
use Rattle.std.specs.Prelude.{◌≡◌, ℕ, Bool, true, false, List, [], ◌∷◌, ◌++◌, Some, if◌then◌else◌, ⊤}
use Rattle.plain_tree.specs.Ops.{Op, Ops, end_of_ops, more_ops, Blocks, PlainBlock}
use Rattle.rule_model.specs.Words.{has, numbers, name_of, results_of, successors_of, first_block, block_of, binds}
use Rattle.rule_model.specs.Rows.{is_terminator}

-- whether an operation ends the path through its block
abbrev pub ends : Op → Bool
ends o = is_terminator (name_of o)

-- The places that a path from a region's entry reaches without passing the definition of v. A place is the label of its
-- block, what was defined since the block's start, and the operations that are left.
pub data Reach (bs : Blocks) (v : ℕ) : ℕ → List ℕ → Ops → Type 0 where
  -- a path begins at the first block
  enters : (b : PlainBlock) → first_block bs ≡ Some b → has v (numbers b.args) ≡ false → Reach bs v b.label (numbers b.args) b.ops
  -- it passes operations in order, up to the first terminator
  passes : (o : Op) {l : ℕ} {bound : List ℕ} {rest : Ops}
      → Reach bs v l bound (more_ops o rest) → ends o ≡ false → has v (results_of o) ≡ false → Reach bs v l (results_of o ++ bound) rest
  -- and it goes from there to each of the terminator's successors
  jumps : (o : Op) (t : ℕ) (b : PlainBlock) {l : ℕ} {bound : List ℕ} {rest : Ops}
      → Reach bs v l bound (more_ops o rest) → ends o ≡ true → has t (successors_of o) ≡ true → block_of t bs ≡ Some b
      → has v (numbers b.args) ≡ false → Reach bs v t (numbers b.args) b.ops

-- one of two, by a test
abbrev pub Either : Bool → Type 0 → Type 0 → Type 0
Either true P Q = P
Either false P Q = Q

-- a place in a region: its blocks, the label, what was defined since the block's start, and the operations from there on
pub record Frame : Type 0 where
  pub blocks : Blocks
  pub label : ℕ
  pub bound : List ℕ
  pub ops : Ops

-- The places of an operation, and of those that hold it, the innermost first. A use of u there isn't defined: in the region
-- that defines u a path reaches the place without u; and where no operation of that region holds the use it never is.
abbrev pub Undefined : List Frame → ℕ → Type 0
Undefined [] u = ⊤
Undefined (f ∷ outer) u = Either (binds u f.blocks) (Reach f.blocks u f.label f.bound f.ops) (Undefined outer u)

-- Blocks that paths come to

-- where a block goes on: to the successors of its first terminator
abbrev pub exits : Ops → List ℕ
exits end_of_ops = []
exits (more_ops o rest) = if ends o then successors_of o else exits rest

-- a path from the entry comes to the block with the label, whatever it passes
pub data Visits (bs : Blocks) : ℕ → Type 0 where
  begins : (b : PlainBlock) → first_block bs ≡ Some b → Visits bs b.label
  follows : (l t : ℕ) (b c : PlainBlock) → Visits bs l → block_of l bs ≡ Some b → has t (exits b.ops) ≡ true → block_of t bs ≡ Some c → Visits bs t

-- what was defined since the start of a block, and what is left of it, where no terminator was passed
pub data Passed (b : PlainBlock) : List ℕ → Ops → Type 0 where
  at_start : Passed b (numbers b.args) b.ops
  one_on : (o : Op) {bound : List ℕ} {rest : Ops} → Passed b bound (more_ops o rest) → ends o ≡ false → Passed b (results_of o ++ bound) rest
