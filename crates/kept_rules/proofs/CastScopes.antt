-- Where each operation that defines a uses b, b is defined wherever a is.
use Rattle.std.proofs.Common.{◌≡◌, ℕ, ◌+◌, ◌==◌, ◌≤◌, Bool, true, false, List, Some, refl, sym, subst, arith, inl, inr, true≢false}
use Rattle.std.specs.Prelude.{if◌then◌else◌}
use Rattle.std.proofs.lemmas.Option.{none-some}
use Rattle.plain_tree.specs.Ops.{Op, op, Ops, end_of_ops, more_ops, Blocks, end_of_blocks, block, PlainBlock, Values}
use Rattle.rule_model.specs.Words.{binds, binds_in_ops, block_of, first_block, has, numbers, results_of}
use Rattle.rule_model.specs.Paths.{Either, enters, jumps, passes, Reach}
use Rattle.rule_model.specs.Scopes.{DefinedAt, DefinedBlocks, FreeBlocks, FreeOp, FreeOps}
use Rattle.rule_model.proofs.Numbers.{some_same}
use Rattle.rule_model.proofs.ScopeLaws.{reached_without}
use Rattle.conversion_model.specs.Counts.{blocks_total, hits, none, ops_total, regions_total, values_total}
use Rattle.kept_rules.specs.Casts.{UsesFor, UsesForBlocks, UsesForOps}
use Rattle.line_rules.proofs.Words.{clash, not_so, or_cases}
use Rattle.line_rules.proofs.Once.{some_counted, values_counted}
use Rattle.line_rules.proofs.LinedScopes.{free_blocks}

-- Blocks that are found

first_uses : (a b : ℕ) (cs : Blocks) (x : PlainBlock) → UsesForBlocks a b cs → first_block cs ≡ Some x → (has a (numbers x.args) ≡ false) × UsesForOps a b x.ops
first_uses a b end_of_blocks x all e = absurd (none-some x e)
first_uses a b (block l args ops more) x all e =
    subst (λ (y : PlainBlock). (has a (numbers y.args) ≡ false) × UsesForOps a b y.ops) (some_same (record { label = l; args = args; ops = ops }) x e) (all.0, all.1)

block_uses : (a b : ℕ) (cs : Blocks) (t : ℕ) (x : PlainBlock) → UsesForBlocks a b cs → block_of t cs ≡ Some x → (has a (numbers x.args) ≡ false) × UsesForOps a b x.ops
block_uses a b end_of_blocks t x all e = absurd (none-some x e)
block_uses a b (block l args ops more) t x all e = go (l == t) e (block_uses a b more t x all.2)
  where
    go : (y : Bool) → (if y then Some (record { label = l; args = args; ops = ops }) else block_of t more) ≡ Some x
        → (block_of t more ≡ Some x → (has a (numbers x.args) ≡ false) × UsesForOps a b x.ops) → (has a (numbers x.args) ≡ false) × UsesForOps a b x.ops
    go true k later = subst (λ (y : PlainBlock). (has a (numbers y.args) ≡ false) × UsesForOps a b y.ops) (some_same (record { label = l; args = args; ops = ops }) x k) (all.0, all.1)
    go false k later = later k

uses_free : (a b : ℕ) (o : Op) → UsesFor a b o → has a (results_of o) ≡ true → FreeOp b o
uses_free a b (op k rs os r ls) u h = inl (u.0 h)

-- a path without b is one without a
pub reach_through : {bs : Blocks} (a b : ℕ) {l : ℕ} {bound : List ℕ} {ops : Ops} (outer : ℕ → Type 0) → DefinedBlocks bs outer bs → UsesForBlocks a b bs → binds b bs ≡ true → Reach bs b l bound ops → Reach bs a l bound ops × UsesForOps a b ops
reach_through {bs = bs} a b outer d u own (enters x e f) = let s = first_uses a b bs x u e in (enters x e s.0, s.1)
reach_through {bs = bs} a b {l = l} outer d u own (passes o {bound = bound} {rest = rest} r e f) =
    let before = reach_through a b outer d u own r in
    (passes o before.0 e (not_so (has a (results_of o)) (λ h. reached_without bs outer b l bound o rest d own r (uses_free a b o before.1.0 h))), before.1.1)
reach_through {bs = bs} a b outer d u own (jumps o t x r e h is f) =
    let before = reach_through a b outer d u own r in
    let s = block_uses a b bs t x u is in
    (jumps o t x before.0 e h is s.0, s.1)

-- Where a is defined in a region, b is used freely in it

ops_use : (a b : ℕ) (ops : Ops) → UsesForOps a b ops → binds_in_ops a ops ≡ true → FreeOps b ops
ops_use a b end_of_ops u h = absurd (true≢false (sym h))
ops_use a b (more_ops o rest) u h = elim (or_cases (has a (results_of o)) _ h) [ inl e ↦ inl (uses_free a b o u.0 e) | inr e ↦ inr (ops_use a b rest u.1 e) ]

pub blocks_use : (a b : ℕ) (bs : Blocks) → UsesForBlocks a b bs → binds a bs ≡ true → FreeBlocks b bs
blocks_use a b end_of_blocks u h = absurd (true≢false (sym h))
blocks_use a b (block l args ops more) u h = elim (or_cases (has a (numbers args)) _ h) [
  | inl e ↦ clash e u.0
  | inr e ↦ elim (or_cases (binds_in_ops a ops) _ e) [ inl f ↦ inl (ops_use a b ops u.1 f) | inr f ↦ inr (blocks_use a b more u.2 f) ]
]

pub from_either : {R : Type 0} (b : Bool) (P Q : Type 0) → Either b P Q → (b ≡ true → P → R) → (b ≡ false → Q → R) → R
from_either true P Q x f g = f refl x
from_either false P Q x f g = g refl x

pub to_either : (b : Bool) (P Q : Type 0) → (b ≡ true → P) → (b ≡ false → Q) → Either b P Q
to_either true P Q f g = f refl
to_either false P Q f g = g refl

-- wherever a is defined b is, where it is so outside and b isn't defined again within
pub defined_through : (bs : Blocks) (a b : ℕ) (outer : ℕ → Type 0) (l : ℕ) (bound : List ℕ) (ops : Ops) → DefinedBlocks bs outer bs → UsesForBlocks a b bs → (outer a → outer b) → (outer b → binds b bs ≡ false)
    → DefinedAt bs outer l bound ops a → DefinedAt bs outer l bound ops b
defined_through bs a b outer l bound ops d u imp apart h =
    to_either (binds b bs) (Reach bs b l bound ops → ⊥) (outer b)
    (λ own r. from_either (binds a bs) (Reach bs a l bound ops → ⊥) (outer a) h (λ e never. never (reach_through a b outer d u own r).0) (λ e o. clash own (apart (imp o))))
    (λ not_own. from_either (binds a bs) (Reach bs a l bound ops → ⊥) (outer a) h (λ e never. free_blocks bs outer b bs not_own d (blocks_use a b bs u e)) (λ e o. imp o))

-- How often a number is defined deeper in a region

abbrev pub deeper_ops : ℕ → Ops → ℕ
deeper_ops v end_of_ops = 0
deeper_ops v (more_ops (op k rs os r ls) rest) = regions_total (hits v) none r + deeper_ops v rest

abbrev pub deeper_blocks : ℕ → Blocks → ℕ
deeper_blocks v end_of_blocks = 0
deeper_blocks v (block l args ops more) = deeper_ops v ops + deeper_blocks v more

pub some_value : (v : ℕ) (vs : Values) → has v (numbers vs) ≡ true → 1 ≤ values_total (hits v) vs
some_value v vs h = omega (arith, some_counted v (numbers vs) h, values_counted v vs)

deeper_ops_most : (v : ℕ) (ops : Ops) → deeper_ops v ops ≤ ops_total (hits v) none ops
deeper_ops_most v end_of_ops = omega arith
deeper_ops_most v (more_ops (op k rs os r ls) rest) = omega (arith, deeper_ops_most v rest)

pub deeper_most : (v : ℕ) (bs : Blocks) → deeper_blocks v bs ≤ blocks_total (hits v) none bs
deeper_most v end_of_blocks = omega arith
deeper_most v (block l args ops more) = omega (arith, deeper_ops_most v ops, deeper_most v more)

own_ops : (v : ℕ) (ops : Ops) → binds_in_ops v ops ≡ true → 1 + deeper_ops v ops ≤ ops_total (hits v) none ops
own_ops v end_of_ops h = absurd (true≢false (sym h))
own_ops v (more_ops (op k rs os r ls) rest) h = elim (or_cases (has v (numbers rs)) _ h) [
  | inl e ↦ omega (arith, some_value v rs e, deeper_ops_most v rest)
  | inr e ↦ omega (arith, own_ops v rest e)
]

own_more : (v : ℕ) (bs : Blocks) → binds v bs ≡ true → 1 + deeper_blocks v bs ≤ blocks_total (hits v) none bs
own_more v end_of_blocks h = absurd (true≢false (sym h))
own_more v (block l args ops more) h = elim (or_cases (has v (numbers args)) _ h) [
  | inl e ↦ omega (arith, some_value v args e, deeper_ops_most v ops, deeper_most v more)
  | inr e ↦ elim (or_cases (binds_in_ops v ops) _ e) [ inl f ↦ omega (arith, own_ops v ops f, deeper_most v more) | inr f ↦ omega (arith, own_more v more f, deeper_ops_most v ops) ]
]

pub none_bound : (v : ℕ) (bs : Blocks) → blocks_total (hits v) none bs ≡ 0 → binds v bs ≡ false
none_bound v bs e = not_so (binds v bs) (λ h. absurd (omega (arith, own_more v bs h, e)))

-- where v is defined at a place of a region, it isn't defined deeper
pub none_deeper : (v : ℕ) (bs : Blocks) (outer : ℕ → Type 0) (l : ℕ) (bound : List ℕ) (ops : Ops) → blocks_total (hits v) none bs ≤ 1 → (outer v → blocks_total (hits v) none bs ≡ 0) → DefinedAt bs outer l bound ops v → deeper_blocks v bs ≡ 0
none_deeper v bs outer l bound ops once apart h =
    from_either (binds v bs) (Reach bs v l bound ops → ⊥) (outer v) h (λ e never. omega (arith, own_more v bs e, once)) (λ e o. omega (arith, deeper_most v bs, apart o))
