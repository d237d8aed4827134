-- Trees in which operations without regions are replaced by operations one after another.
use Rattle.std.specs.Prelude.{◌≡◌, ◌⊎◌, ◌<◌, ◌≤◌, ℕ, ◌+◌, ◌==◌, nat_lt, Bool, false, true, length, List, [], ◌∷◌, ◌++◌, ⊤, if◌then◌else◌}
use Rattle.plain_tree.specs.Types.{PlainType}
use Rattle.plain_tree.specs.Ops.{Kind, Op, op, Ops, end_of_ops, more_ops, Regions, end_of_regions, region, Blocks, end_of_blocks, block, Values}
use Rattle.rule_model.specs.Words.{AllOf, has, results_of, successors_of}
use Rattle.rule_model.specs.Paths.{ends}
use Rattle.rule_model.specs.Formed.{are_formed_entries, are_formed_values, is_inner_name}
use Rattle.conversion_model.specs.Targets.{operands_of}
use Rattle.conversion_model.specs.Conversion.{regions_of}
use Rattle.conversion_model.specs.Items.{op_size, ops_size, blocks_size}

abbrev pub is_empty : {A : Type 0} → List A → Bool
is_empty [] = true
is_empty (x ∷ xs) = false

-- operations in front of others
abbrev pub put_ops : List Op → Ops → Ops
put_ops [] more = more
put_ops (o ∷ os) more = more_ops o (put_ops os more)

-- the numbers that operations define
abbrev pub bound_by : List Op → List ℕ
bound_by [] = []
bound_by (o ∷ os) = results_of o ++ bound_by os

-- Operations without regions, none a terminator, one after another, in the place of one with these results and operands:
-- each uses those operands and what was made before, and defines those results and numbers that are not old.
abbrev pub Steps : (ℕ → Type 0) → (results operands made : List ℕ) → List Op → Type 0
Steps Old rs os made [] = ⊤
Steps Old rs os made (o ∷ l) =
    (regions_of o ≡ end_of_regions)
    × (ends o ≡ false)
    × AllOf (λ x. (has x os ≡ true) ⊎ (has x made ≡ true)) (operands_of o)
    × AllOf (λ x. Old x → has x rs ≡ true) (results_of o)
    × Steps Old rs os (results_of o ++ made) l

-- such operations for one that is no terminator; they define all of its results
pub record Line (Old : ℕ → Type 0) (o : Op) (l : List Op) : Type 0 where
  pub on : ends o ≡ false
  pub steps : Steps Old (results_of o) (operands_of o) [] l
  pub gives : (x : ℕ) → has x (results_of o) ≡ true → has x (bound_by l) ≡ true

-- such operations for a terminator, with one that goes on to the same blocks as the last
pub record Turn (Old : ℕ → Type 0) (o : Op) (l : List Op) (t : Op) : Type 0 where
  pub steps : Steps Old [] (operands_of o) [] l
  pub bare : regions_of t ≡ end_of_regions
  pub same_end : ends t ≡ ends o
  pub successors : successors_of t ≡ successors_of o
  pub none : results_of t ≡ []
  pub was_none : results_of o ≡ []
  pub operands : AllOf (λ x. (has x (operands_of o) ≡ true) ⊎ (has x (bound_by l) ≡ true)) (operands_of t)

mutual
  -- operations from number n on, of which each stays, with its regions so, or is replaced. G says which operations may
  -- stand for one of a number, H which, with what last one, for a terminator.
  pub data LinedOps (K : ℕ → Op → Type 0) (G : ℕ → Op → List Op → Type 0) (H : ℕ → Op → List Op → Op → Type 0) : ℕ → Ops → Ops → Type 0 where
    lined_end : {n : ℕ} → LinedOps K G H n end_of_ops end_of_ops
    stays : {n : ℕ} {k : Kind} {rs : Values} {os ls : List ℕ} {r s : Regions} {rest more : Ops}
        → K n (op k rs os r ls) → LinedRegions K G H (n + 1) r s → LinedOps K G H (n + op_size (op k rs os r ls)) rest more
        → LinedOps K G H n (more_ops (op k rs os r ls) rest) (more_ops (op k rs os s ls) more)
    swaps : {n : ℕ} {o : Op} (l : List Op) {rest more : Ops} → G n o l → LinedOps K G H (n + op_size o) rest more → LinedOps K G H n (more_ops o rest) (put_ops l more)
    turns : {n : ℕ} {o : Op} (l : List Op) (t : Op) {rest more : Ops} → H n o l t → LinedOps K G H (n + op_size o) rest more
        → LinedOps K G H n (more_ops o rest) (put_ops l (more_ops t more))

  pub data LinedRegions (K : ℕ → Op → Type 0) (G : ℕ → Op → List Op → Type 0) (H : ℕ → Op → List Op → Op → Type 0) : ℕ → Regions → Regions → Type 0 where
    lined_no_region : {n : ℕ} → LinedRegions K G H n end_of_regions end_of_regions
    lined_region : {n : ℕ} {b c : Blocks} {r s : Regions} → LinedBlocks K G H n b c → LinedRegions K G H (n + blocks_size b) r s → LinedRegions K G H n (region b r) (region c s)

  pub data LinedBlocks (K : ℕ → Op → Type 0) (G : ℕ → Op → List Op → Type 0) (H : ℕ → Op → List Op → Op → Type 0) : ℕ → Blocks → Blocks → Type 0 where
    lined_no_block : {n : ℕ} → LinedBlocks K G H n end_of_blocks end_of_blocks
    lined_block : {n l : ℕ} {args : Values} {ops qs : Ops} {b c : Blocks}
        → LinedOps K G H n ops qs → LinedBlocks K G H (n + ops_size ops) b c → LinedBlocks K G H n (block l args ops b) (block l args qs c)

-- the values of a line, by their places
pub record Below (value : ℕ → ℕ) (k x : ℕ) : Type 0 where
  pub place : ℕ
  pub is : x ≡ value place
  pub low : place < k

pub record From (value : ℕ → ℕ) (k x : ℕ) : Type 0 where
  pub place : ℕ
  pub is : x ≡ value place
  pub high : k ≤ place

-- operations one after another that use these operands and new values of lower places, and define those results and new
-- values from the k-th on
abbrev pub Ranks : (value : ℕ → ℕ) → (results operands : List ℕ) → ℕ → List Op → Type 0
Ranks value rs os k [] = ⊤
Ranks value rs os k (o ∷ l) =
    (regions_of o ≡ end_of_regions)
    × AllOf (λ x. (has x os ≡ true) ⊎ Below value k x) (operands_of o)
    × AllOf (λ x. (has x rs ≡ true) ⊎ From value k x) (results_of o)
    × Ranks value rs os (k + length (results_of o)) l

pub record LineRanks (value : ℕ → ℕ) (o : Op) (l : List Op) : Type 0 where
  pub ranks : Ranks value (results_of o) (operands_of o) 0 l

pub record TurnRanks (value : ℕ → ℕ) (o : Op) (l : List Op) (t : Op) : Type 0 where
  pub room : ℕ
  pub ranks : Ranks value [] (operands_of o) 0 l
  pub bare : regions_of t ≡ end_of_regions
  pub none : results_of t ≡ []
  pub operands : AllOf (λ x. (has x (operands_of o) ≡ true) ⊎ Below value room x) (operands_of t)

-- what stands for an operation of a number: itself with its regions as they became, operations one after another, or such
-- with a terminator as the last
pub data Put (K : ℕ → Op → Type 0) (G : ℕ → Op → List Op → Type 0) (H : ℕ → Op → List Op → Op → Type 0) (n : ℕ) (source kept : Op) : List Op → Type 0 where
  put_itself : K n source → Put K G H n source kept (kept ∷ [])
  put_line : (l : List Op) → G n source l → Put K G H n source kept l
  put_turn : (l : List Op) (t : Op) → H n source l t → Put K G H n source kept (l ++ t ∷ [])

-- a number with its type is among values
abbrev pub HasValue : ℕ → PlainType → Values → Type 0
HasValue x t [] = ⊥
HasValue x t (v ∷ vs) = ((v.0 ≡ x) × (v.1 ≡ t)) ⊎ HasValue x t vs

-- the values that an operation and operations define, themselves and not deeper
abbrev pub values_of : Op → Values
values_of (op k rs os r ls) = rs

abbrev pub list_values : List Op → Values
list_values [] = []
list_values (o ∷ os) = values_of o ++ list_values os

-- a new operation is formed, but for its operands: its name, the types of its results, its properties; it has no successors
abbrev pub OneFormed : Op → Type 0
OneFormed (op k rs os r ls) = (is_inner_name k.name ≡ true) × (are_formed_values rs ≡ true) × (are_formed_entries k.props ≡ true) × (are_formed_entries k.attrs ≡ true)

-- what a line keeps of the values of an operation, and that its operations are formed
pub record LineKeeps (o : Op) (l : List Op) : Type 0 where
  pub bare : regions_of o ≡ end_of_regions
  pub values : (x : ℕ) (t : PlainType) → HasValue x t (values_of o) → HasValue x t (list_values l)
  pub formed : AllOf OneFormed l
  pub none : AllOf (λ p. successors_of p ≡ []) l

pub record TurnKeeps (o : Op) (l : List Op) (t : Op) : Type 0 where
  pub bare : regions_of o ≡ end_of_regions
  pub values : values_of o ≡ []
  pub formed : AllOf OneFormed l
  pub none : AllOf (λ p. successors_of p ≡ []) l
  pub last : OneFormed t

-- The operands of the operation with a number

abbrev mutual
  -- of those from number n on
  pub operands_op : ℕ → Op → ℕ → List ℕ
  operands_op n (op k rs os r ls) i = if i == n then os else operands_regions (n + 1) r i

  pub operands_ops : ℕ → Ops → ℕ → List ℕ
  operands_ops n end_of_ops i = []
  operands_ops n (more_ops o os) i = if nat_lt i (n + op_size o) then operands_op n o i else operands_ops (n + op_size o) os i

  pub operands_regions : ℕ → Regions → ℕ → List ℕ
  operands_regions n end_of_regions i = []
  operands_regions n (region b r) i = if nat_lt i (n + blocks_size b) then operands_blocks n b i else operands_regions (n + blocks_size b) r i

  pub operands_blocks : ℕ → Blocks → ℕ → List ℕ
  operands_blocks n end_of_blocks i = []
  operands_blocks n (block l args ops more) i = if nat_lt i (n + ops_size ops) then operands_ops n ops i else operands_blocks (n + ops_size ops) more i
