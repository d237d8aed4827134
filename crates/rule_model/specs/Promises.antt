-- What the laws of the rules promise.
use Rattle.std.specs.Prelude.{◌≡◌, ◌↔◌, ℕ, ◌==◌, true, false, List, [], ◌∷◌, Some}
use Rattle.plain_tree.specs.Ops.{Op, Ops, Blocks, PlainBlock, PlainModule}
use Rattle.plain_tree.specs.Renamings.{RenOp}
use Rattle.rule_model.specs.declared.rules.Rule.{Rule}
use Rattle.rule_model.specs.Words.{binds_in_ops, block_of, has, numbers}
use Rattle.rule_model.specs.Paths.{Frame, Passed, Undefined, Visits}
use Rattle.rule_model.specs.Formed.{Formed}
use Rattle.rule_model.specs.Rules.{Broken, Verified}
use Rattle.rule_model.specs.Search.{answer, IsRight}

-- whatever the search answers is right
abbrev pub SearchIsRight : Type 0
SearchIsRight = (m : PlainModule) → IsRight m (answer m)

-- at most one function, operation and rule is the first that is broken
abbrev pub OneAnswer : Type 0
OneAnswer = (m : PlainModule) (g h n k : ℕ) (r q : Rule) → Broken m g n r → Broken m h k q → (g ≡ h) × (n ≡ k) × (r ≡ q)

-- a formed module is verified exactly where none is the first
abbrev pub NothingIsBroken : Type 0
NothingIsBroken = (m : PlainModule) → Formed m → Verified m ↔ ((g n : ℕ) (r : Rule) → Broken m g n r → ⊥)

-- numbers that go together by a map, which is one-to-one
abbrev pub Maps : (ℕ → ℕ) → ℕ → ℕ → Type 0
Maps to m n = to m ≡ n

abbrev pub IsOneToOne : (ℕ → ℕ) → Type 0
IsOneToOne to = (a b : ℕ) → (to a == to b) ≡ (a == b)

-- functions in order that are the same but for numbers of values and of labels, in each by its own maps
pub data Mapped : List Op → List Op → Type 0 where
  no_mapped : Mapped [] []
  more_mapped : (values labels : ℕ → ℕ) {f g : Op} {fs gs : List Op} → IsOneToOne values → IsOneToOne labels → RenOp (Maps values) (Maps labels) f g → Mapped fs gs → Mapped (f ∷ fs) (g ∷ gs)

pub record MappedModule (m n : PlainModule) : Type 0 where
  pub props : m.props ≡ n.props
  pub attrs : m.attrs ≡ n.attrs
  pub funcs : Mapped m.funcs n.funcs

-- what is verified stays so under a renaming of values and labels
abbrev pub VerifiedRenames : Type 0
VerifiedRenames = (m n : PlainModule) → MappedModule m n → Verified m → Verified n

-- v is defined in no other block of the region
abbrev pub OnlyIn : ℕ → ℕ → Blocks → Type 0
OnlyIn v l bs = (t : ℕ) (c : PlainBlock) → (t == l) ≡ false → block_of t bs ≡ Some c → (has v (numbers c.args) ≡ false) × (binds_in_ops v c.ops ≡ false)

-- In a block that is reached, a use in front of its definition isn't defined: v is defined from this place on and nowhere
-- else, and no terminator stands before.
abbrev pub UseInFront : Type 0
UseInFront = (bs : Blocks) (outer : List Frame) (l v : ℕ) (b : PlainBlock) (bound : List ℕ) (ops : Ops)
    → Visits bs l → block_of l bs ≡ Some b → Passed b bound ops → has v bound ≡ false → binds_in_ops v ops ≡ true → OnlyIn v l bs
    → Undefined (record { blocks = bs; label = l; bound = bound; ops = ops } ∷ outer) v
