-- Paths of operations, and blocks one after another.
use Rattle.std.proofs.Common.{◌≡◌, ℕ, ◌==◌, Bool, true, false, List, [], ◌∷◌, ◌++◌, refl, sym, ap, subst, ◌∙◌, true≢false, inl, inr}
use Rattle.std.specs.Prelude.{◌||◌, ◌⊎◌, not, Option, Some, None, if◌then◌else◌}
use Rattle.std.proofs.lemmas.Option.{none-some}
use Rattle.std.proofs.lemmas.Bool.{eqb-true, eq-eqb}
use Rattle.plain_tree.specs.Ops.{Op, Ops, end_of_ops, more_ops, Blocks, PlainBlock}
use Rattle.rule_model.specs.Words.{has, numbers, results_of, successors_of, first_block, block_of, binds_in_ops}
use Rattle.rule_model.specs.Paths.{ends, exits, Passed, at_start, one_on, Reach, enters, passes, jumps}
use Rattle.rule_model.specs.Promises.{OnlyIn}
use Rattle.rule_model.proofs.Numbers.{some_same, itself, only_one, or_first, or_second, or_right}
use Rattle.rule_model.proofs.Places.{first_found}
use Rattle.block_search.specs.Reach.{Reached, begins, follows}
use Rattle.block_search.proofs.Marking.{has_joined}
use Rattle.path_search.specs.LeftOut.{defines, early, entry, exits_of, is_there, label_of, LeftOutDecides, onward, there}

-- Blocks that there are

in_there : (bs : Blocks) (t : ℕ) (ts : List ℕ) → is_there (block_of t bs) ≡ true → has t ts ≡ true → has t (there bs ts) ≡ true
in_there bs t [] e h = h
in_there bs t (s ∷ ts) e h = go (s == t) (is_there (block_of s bs)) refl refl h (λ k. in_there bs t ts e k)
  where
    go : (b c : Bool) → (s == t) ≡ b → is_there (block_of s bs) ≡ c → (b || has t ts) ≡ true → (has t ts ≡ true → has t (there bs ts) ≡ true)
        → has t (if c then s ∷ there bs ts else there bs ts) ≡ true
    go true true f g k rest = ap (λ b. b || has t (there bs ts)) f
    go true false f g k rest = absurd (true≢false (sym e ∙ ap (λ n. is_there (block_of n bs)) (sym (eqb-true s t f)) ∙ g))
    go false true f g k rest = or_right (s == t) _ (rest k)
    go false false f g k rest = rest k

of_there : (bs : Blocks) (t : ℕ) (ts : List ℕ) → has t (there bs ts) ≡ true → has t ts ≡ true
of_there bs t [] h = h
of_there bs t (s ∷ ts) h = go (is_there (block_of s bs)) h (λ k. of_there bs t ts k)
  where
    either : (b : Bool) → (b || has t (there bs ts)) ≡ true → (has t (there bs ts) ≡ true → has t ts ≡ true) → (b || has t ts) ≡ true
    either true k rest = refl
    either false k rest = rest k

    go : (c : Bool) → has t (if c then s ∷ there bs ts else there bs ts) ≡ true → (has t (there bs ts) ≡ true → has t ts ≡ true) → has t (s ∷ ts) ≡ true
    go true k rest = either (s == t) k rest
    go false k rest = or_right (s == t) _ (rest k)

is_block : (bs : Blocks) (t : ℕ) (ts : List ℕ) → has t (there bs ts) ≡ true → is_there (block_of t bs) ≡ true
is_block bs t [] h = absurd (true≢false (sym h))
is_block bs t (s ∷ ts) h = go (is_there (block_of s bs)) refl h (λ k. is_block bs t ts k)
  where
    here : (b : Bool) → (s == t) ≡ b → is_there (block_of s bs) ≡ true → (b || has t (there bs ts)) ≡ true → (has t (there bs ts) ≡ true → is_there (block_of t bs) ≡ true)
        → is_there (block_of t bs) ≡ true
    here true f e k rest = ap (λ n. is_there (block_of n bs)) (sym (eqb-true s t f)) ∙ e
    here false f e k rest = rest k

    go : (c : Bool) → is_there (block_of s bs) ≡ c → has t (if c then s ∷ there bs ts else there bs ts) ≡ true → (has t (there bs ts) ≡ true → is_there (block_of t bs) ≡ true)
        → is_there (block_of t bs) ≡ true
    go true e k rest = here (s == t) refl e k rest
    go false e k rest = rest k

-- What is defined so far

bound_joined : (v : ℕ) (ms ns : List ℕ) → has v (ms ++ ns) ≡ false → (has v ms ≡ false) × (has v ns ≡ false)
bound_joined v ms ns e = let f = sym (has_joined v ms ns) ∙ e in (or_first (has v ms) (has v ns) f, or_second (has v ms) (has v ns) f)

-- from a block's start to a place behind which v isn't defined
pass : {bs : Blocks} {b : PlainBlock} {bound : List ℕ} {ops : Ops} (v l : ℕ) → Passed b bound ops → has v bound ≡ false
    → Reach bs v l (numbers b.args) b.ops → Reach bs v l bound ops
pass v l at_start free r = r
pass v l (one_on o {bound = bound} p e) free r =
    let both = bound_joined v (results_of o) bound free in passes o (pass v l p both.1 r) e both.0

-- and back: v is no argument of the block
no_argument : {b : PlainBlock} {bound : List ℕ} {ops : Ops} (v : ℕ) → Passed b bound ops → has v bound ≡ false → has v (numbers b.args) ≡ false
no_argument v at_start free = free
no_argument v (one_on o {bound = bound} p e) free = no_argument v p (bound_joined v (results_of o) bound free).1

-- From blocks to paths

-- a path without v is at the start of the block with this label
abbrev Starts : Blocks → ℕ → ℕ → Type 0
Starts bs v l = (b : PlainBlock) → block_of l bs ≡ Some b → has v (numbers b.args) ≡ false → Reach bs v l (numbers b.args) b.ops

-- from a place of a block that doesn't define v a path goes on to each exit
leave : (bs : Blocks) (v l : ℕ) (bound : List ℕ) (ops : Ops) (t : ℕ) → Reach bs v l bound ops → binds_in_ops v ops ≡ false → has t (exits ops) ≡ true → Starts bs v t
leave bs v l bound end_of_ops t r free h = absurd (true≢false (sym h))
leave bs v l bound (more_ops o rest) t r free h = go (ends o) refl h (λ s k. leave bs v l (results_of o ++ bound) rest t s (or_second (has v (results_of o)) _ free) k)
  where
    go : (e : Bool) → ends o ≡ e → has t (if e then successors_of o else exits rest) ≡ true
        → (Reach bs v l (results_of o ++ bound) rest → has t (exits rest) ≡ true → Starts bs v t) → Starts bs v t
    go true e k later = λ b is none. jumps o t b r e k is none
    go false e k later = later (passes o r e (or_first (has v (results_of o)) _ free)) k

from_exits : (bs : Blocks) (v home m t : ℕ) → OnlyIn v home bs → (m == home) ≡ false → Starts bs v m → (o : Option PlainBlock) → block_of m bs ≡ o
    → has t (exits_of o) ≡ true → Starts bs v t
from_exits bs v home m t only other starts None is h = absurd (true≢false (sym h))
from_exits bs v home m t only other starts (Some c) is h =
    let none = only m c other is in
    leave bs v m (numbers c.args) c.ops t (starts c is none.0) none.1 h

on_from : (bs : Blocks) (v home m l : ℕ) → OnlyIn v home bs → Starts bs v m → has l (onward bs home m) ≡ true → Starts bs v l
on_from bs v home m l only inner h = go (m == home) refl h
  where
    go : (b : Bool) → (m == home) ≡ b → has l (if b then [] else there bs (exits_of (block_of m bs))) ≡ true → Starts bs v l
    go true e k = absurd (true≢false (sym k))
    go false e k = from_exits bs v home m l only e inner (block_of m bs) refl (of_there bs l (exits_of (block_of m bs)) k)

starts : (bs : Blocks) (v home : ℕ) → OnlyIn v home bs → (l : ℕ) → Reached (onward bs home) (entry bs) l → Starts bs v l
starts bs v home only l (begins _ h) = at_first (first_block bs) refl h
  where
    at_first : (o : Option PlainBlock) → first_block bs ≡ o → has l (label_of o) ≡ true → Starts bs v l
    at_first None e k = absurd (true≢false (sym k))
    at_first (Some c) e k = λ b is free.
        let same : c.label ≡ l = eqb-true c.label l (or_false (c.label == l) k) in
        let block_is : Some b ≡ Some c = sym is ∙ sym (ap (λ n. block_of n bs) same) ∙ first_found bs c e in
        let one : b ≡ c = some_same b c block_is in
        subst (λ n. Reach bs v n (numbers b.args) b.ops) same (subst (λ (d : PlainBlock). Reach bs v c.label (numbers d.args) d.ops) (sym one) (enters c e (subst (λ (d : PlainBlock). has v (numbers d.args) ≡ false) one free)))
      where
        or_false : (x : Bool) → (x || false) ≡ true → x ≡ true
        or_false true z = refl
        or_false false z = z
starts bs v home only l (follows m _ r h) = on_from bs v home m l only (starts bs v home only m r) h

-- From paths to blocks

-- a path is at these operations: its block is reached, and what ends the block or defines v is still ahead
record Stands (bs : Blocks) (v home l : ℕ) (ops : Ops) : Type 0 where
  at : PlainBlock
  is : block_of l bs ≡ Some at
  among : Reached (onward bs home) (entry bs) l
  free : has v (numbers at.args) ≡ false
  goes : exits ops ≡ exits at.ops
  ahead : early v ops ≡ early v at.ops

entered : (bs : Blocks) (b : PlainBlock) → first_block bs ≡ Some b → has b.label (entry bs) ≡ true
entered bs b e = ap (λ o. has b.label (label_of o)) e ∙ only_one b.label

exits_on : (o : Op) (rest : Ops) → ends o ≡ false → exits (more_ops o rest) ≡ exits rest
exits_on o rest e = ap (λ b. if b then successors_of o else exits rest) e

exits_off : (o : Op) (rest : Ops) → ends o ≡ true → exits (more_ops o rest) ≡ successors_of o
exits_off o rest e = ap (λ b. if b then successors_of o else exits rest) e

early_on : (v : ℕ) (o : Op) (rest : Ops) → ends o ≡ false → has v (results_of o) ≡ false → early v (more_ops o rest) ≡ early v rest
early_on v o rest e f = ap (λ b. if b then false else (if has v (results_of o) then true else early v rest)) e ∙ ap (λ b. if b then true else early v rest) f

early_off : (v : ℕ) (o : Op) (rest : Ops) → ends o ≡ true → early v (more_ops o rest) ≡ false
early_off v o rest e = ap (λ b. if b then false else (if has v (results_of o) then true else early v rest)) e

-- a block that is left without v isn't the one that defines it
other_block : (bs : Blocks) (v home l : ℕ) (h at : PlainBlock) → block_of home bs ≡ Some h → defines v h ≡ true → block_of l bs ≡ Some at
    → has v (numbers at.args) ≡ false → early v at.ops ≡ false → (l == home) ≡ false
other_block bs v home l h at home_is d is free late = go (l == home) refl
  where
    clash : (c : PlainBlock) → c ≡ h → has v (numbers c.args) ≡ false → early v c.ops ≡ false → ⊥
    clash c e f g = true≢false (sym d ∙ ap (defines v) (sym e) ∙ ap (λ b. b || early v c.ops) f ∙ g)

    go : (b : Bool) → (l == home) ≡ b → (l == home) ≡ false
    go false e = e
    go true e = absurd (clash at (some_same at h (sym is ∙ ap (λ n. block_of n bs) (eqb-true l home e) ∙ home_is)) free late)

stands : {bs : Blocks} {v l : ℕ} {bound : List ℕ} {ops : Ops} (home : ℕ) (h : PlainBlock) → block_of home bs ≡ Some h → defines v h ≡ true
    → Reach bs v l bound ops → Stands bs v home l ops
stands {bs = bs} home h home_is d (enters b e f) = record {
  at = b;
  is = first_found bs b e;
  among = begins b.label (entered bs b e);
  free = f;
  goes = refl;
  ahead = refl;
}
stands {v = v} home h home_is d (passes o {rest = rest} r e f) =
    let s = stands home h home_is d r in
    record {
      at = s.at;
      is = s.is;
      among = s.among;
      free = s.free;
      goes = sym (exits_on o rest e) ∙ s.goes;
      ahead = sym (early_on v o rest e f) ∙ s.ahead;
    }
stands {bs = bs} {v = v} home h home_is d (jumps o t b {l = l} {rest = rest} r e k is f) =
    let s = stands home h home_is d r in
    let other : (l == home) ≡ false = other_block bs v home l h s.at home_is d s.is s.free (sym s.ahead ∙ early_off v o rest e) in
    let within : has t (exits_of (block_of l bs)) ≡ true = ap (λ p. has t (exits_of p)) s.is ∙ ap (has t) (sym s.goes ∙ exits_off o rest e) ∙ k in
    let on : has t (onward bs home l) ≡ true =
    ap (λ b. has t (if b then [] else there bs (exits_of (block_of l bs)))) other ∙ in_there bs t (exits_of (block_of l bs)) (ap is_there is) within in
    record { at = b; is = is; among = follows l t s.among on; free = f; goes = refl; ahead = refl }

pub left_out_decides : LeftOutDecides
left_out_decides bs v home h home_is only d l b bound ops is passed free =
    (λ r. (stands home h home_is d r).among, λ r. pass v l passed free (starts bs v home only l r b is (no_argument v passed free)))
