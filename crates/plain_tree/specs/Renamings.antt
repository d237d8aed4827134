-- Trees that are the same but for numbers of values and labels: R says which values go together, L which labels.
use Rattle.std.specs.Prelude.{ℕ, ◌==◌, ◌≡◌, List, [], ◌∷◌}
use Rattle.plain_tree.specs.Types.{PlainType}
use Rattle.plain_tree.specs.Ops.{Kind, Op, op, Ops, end_of_ops, more_ops, Regions, end_of_regions, region, Blocks, end_of_blocks, block, Values}

pub data RenAll (R : ℕ → ℕ → Type 0) : List ℕ → List ℕ → Type 0 where
  none_all : RenAll R [] []
  more_all : {m n : ℕ} {ms ns : List ℕ} → R m n → RenAll R ms ns → RenAll R (m ∷ ms) (n ∷ ns)

-- values in order, of the same types
pub data RenValues (R : ℕ → ℕ → Type 0) : Values → Values → Type 0 where
  none_values : RenValues R [] []
  more_values : {m n : ℕ} {t : PlainType} {vs ws : Values} → R m n → RenValues R vs ws → RenValues R ((m, t) ∷ vs) ((n, t) ∷ ws)

mutual
  pub data RenOp (R L : ℕ → ℕ → Type 0) : Op → Op → Type 0 where
    ren_op : {k : Kind} {rs ss : Values} {os ps : List ℕ} {r s : Regions} {ls ms : List ℕ}
        → RenValues R rs ss → RenAll R os ps → RenRegions R L r s → RenAll L ls ms → RenOp R L (op k rs os r ls) (op k ss ps s ms)

  pub data RenOps (R L : ℕ → ℕ → Type 0) : Ops → Ops → Type 0 where
    ops_ended : RenOps R L end_of_ops end_of_ops
    ren_more : {o p : Op} {os ps : Ops} → RenOp R L o p → RenOps R L os ps → RenOps R L (more_ops o os) (more_ops p ps)

  pub data RenRegions (R L : ℕ → ℕ → Type 0) : Regions → Regions → Type 0 where
    regions_ended : RenRegions R L end_of_regions end_of_regions
    ren_region : {b c : Blocks} {r s : Regions} → RenBlocks R L b c → RenRegions R L r s → RenRegions R L (region b r) (region c s)

  pub data RenBlocks (R L : ℕ → ℕ → Type 0) : Blocks → Blocks → Type 0 where
    blocks_ended : RenBlocks R L end_of_blocks end_of_blocks
    ren_block : {l m : ℕ} {vs ws : Values} {os ps : Ops} {b c : Blocks}
        → L l m → RenValues R vs ws → RenOps R L os ps → RenBlocks R L b c → RenBlocks R L (block l vs os b) (block m ws ps c)

-- numbers that go together are equal alike
abbrev pub OneToOne : (ℕ → ℕ → Type 0) → Type 0
OneToOne R = (a b c d : ℕ) → R a b → R c d → (a == c) ≡ (b == d)

-- values that go together have the same type
abbrev pub TypesAgree : (ℕ → ℕ → Type 0) → (ℕ → PlainType) → (ℕ → PlainType) → Type 0
TypesAgree R s t = (m n : ℕ) → R m n → s m ≡ t n
