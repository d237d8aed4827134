-- New numbers that are apart from each other and from those of a function.
use Rattle.std.specs.Prelude.{◌≡◌, ℕ, ◌==◌, Bool, false, ◌&&◌, List, [], ◌∷◌, ⊤}
use Rattle.plain_tree.specs.Ops.{Op, op, Ops, end_of_ops, more_ops, Regions, end_of_regions, region, Blocks, end_of_blocks, block, Values}
use Rattle.conversion_model.specs.Conversion.{Supply}

-- where a new value is for: the k-th of the row of a source operation; the k-th of what replaces an operation or product;
-- the k-th parameter; the k-th argument of a block
pub data Place : Type 0 where
  of_row : ℕ → ℕ → Place
  of_line : ℕ → ℕ → ℕ → Place
  of_function : ℕ → Place
  of_block : ℕ → ℕ → Place

abbrev pub new_value : Supply → Place → ℕ
new_value new (of_row n k) = (new.row n).value k
new_value new (of_line n piece k) = new.value n piece k
new_value new (of_function k) = new.parameter k
new_value new (of_block label k) = new.argument label k

abbrev pub same_place : Place → Place → Bool
same_place (of_row m j) (of_row n k) = (m == n) && (j == k)
same_place (of_line m p j) (of_line n q k) = (m == n) && ((p == q) && (j == k))
same_place (of_function j) (of_function k) = j == k
same_place (of_block l j) (of_block m k) = (l == m) && (j == k)
same_place _ _ = false

abbrev pub EachOf : (ℕ → Type 0) → List ℕ → Type 0
EachOf P [] = ⊤
EachOf P (n ∷ ns) = P n × EachOf P ns

abbrev pub EachValue : (ℕ → Type 0) → Values → Type 0
EachValue P [] = ⊤
EachValue P (v ∷ vs) = P v.0 × EachValue P vs

abbrev mutual
  -- P of each number of a value in a tree, defined or used, and Q of each label
  pub EachOp : (ℕ → Type 0) → (ℕ → Type 0) → Op → Type 0
  EachOp P Q (op k results operands regions successors) = EachValue P results × EachOf P operands × EachRegion P Q regions × EachOf Q successors

  pub EachOps : (ℕ → Type 0) → (ℕ → Type 0) → Ops → Type 0
  EachOps P Q end_of_ops = ⊤
  EachOps P Q (more_ops o os) = EachOp P Q o × EachOps P Q os

  pub EachRegion : (ℕ → Type 0) → (ℕ → Type 0) → Regions → Type 0
  EachRegion P Q end_of_regions = ⊤
  EachRegion P Q (region blocks more) = EachBlock P Q blocks × EachRegion P Q more

  pub EachBlock : (ℕ → Type 0) → (ℕ → Type 0) → Blocks → Type 0
  EachBlock P Q end_of_blocks = ⊤
  EachBlock P Q (block label args ops more) = Q label × EachValue P args × EachOps P Q ops × EachBlock P Q more

-- a number that no new value has; a label that no new block has
abbrev pub IsOld : Supply → ℕ → Type 0
IsOld new n = (p : Place) → (n == new_value new p) ≡ false

abbrev pub IsOldLabel : Supply → ℕ → Type 0
IsOldLabel new l = (n k : ℕ) → (l == (new.row n).label k) ≡ false

-- new numbers are one-to-one by place, and none is a number of the function
pub record Fresh (new : Supply) (f : Op) : Type 0 where
  pub values : (p q : Place) → (new_value new p == new_value new q) ≡ same_place p q
  pub labels : (m j n k : ℕ) → ((new.row m).label j == (new.row n).label k) ≡ ((m == n) && (j == k))
  pub apart : EachOp (IsOld new) (IsOldLabel new) f

-- values that go together for two supplies: an old one with itself, new ones of one place. So do labels.
pub data SameLabel (new other : Supply) : ℕ → ℕ → Type 0 where
  old_label : (l : ℕ) → IsOldLabel new l → IsOldLabel other l → SameLabel new other l l
  new_label : (n k : ℕ) → SameLabel new other ((new.row n).label k) ((other.row n).label k)

-- places that go together: the same, but for labels that go together
pub data SamePlaces (new other : Supply) : Place → Place → Type 0 where
  same_row : (n k : ℕ) → SamePlaces new other (of_row n k) (of_row n k)
  same_line : (n piece k : ℕ) → SamePlaces new other (of_line n piece k) (of_line n piece k)
  same_function : (k : ℕ) → SamePlaces new other (of_function k) (of_function k)
  same_block : (l m k : ℕ) → SameLabel new other l m → SamePlaces new other (of_block l k) (of_block m k)

pub data SameValue (new other : Supply) : ℕ → ℕ → Type 0 where
  old_number : (n : ℕ) → IsOld new n → IsOld other n → SameValue new other n n
  new_number : (p q : Place) → SamePlaces new other p q → SameValue new other (new_value new p) (new_value other q)
