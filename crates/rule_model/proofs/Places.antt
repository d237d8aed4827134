-- The search decides which places a path reaches.
use Rattle.std.proofs.Common.{◌≡◌, ℕ, ◌+◌, ◌≤◌, ◌==◌, Bool, true, false, List, [], ◌∷◌, ◌++◌, Option, Some, None, refl, sym, ap, ◌∙◌, subst, true≢false, arith}
use Rattle.std.specs.Prelude.{◌&&◌, ◌||◌, not, if◌then◌else◌}
use Rattle.std.proofs.lemmas.Option.{none-some}
use Rattle.std.proofs.lemmas.Bool.{eqb-true, eq-eqb}
use Rattle.plain_tree.specs.Ops.{Op, Ops, end_of_ops, more_ops, Blocks, end_of_blocks, block, PlainBlock}
use Rattle.rule_model.specs.Words.{has, AllOf, numbers, results_of, successors_of, first_block, block_of, count_of}
use Rattle.rule_model.specs.Paths.{ends, Reach, enters, passes, jumps, Frame}
use Rattle.rule_model.specs.Search.{among_reached, leaves, leaves_block, is_open, open_of, nexts, entry_of, stop, is_ahead, and_is, is_reached}
use Rattle.rule_model.proofs.Numbers.{some_same, itself, or_right, and_first, and_second, not_true, only_one}
use Rattle.rule_model.proofs.Reached.{Closed, set_of}
use Rattle.rule_model.proofs.Reached as reached

-- Blocks by their labels

found_first : (l : ℕ) (c : PlainBlock) (o : Option PlainBlock) (b : Bool) → b ≡ true → (if b then Some c else o) ≡ Some c
found_first l c o true e = refl
found_first l c o false e = absurd (true≢false (sym e))

-- the first block of a region is the one with its label
pub first_found : (bs : Blocks) (b : PlainBlock) → first_block bs ≡ Some b → block_of b.label bs ≡ Some b
first_found end_of_blocks b e = absurd (none-some b e)
first_found (block label args ops more) b e =
    let c : PlainBlock = record { label = label; args = args; ops = ops } in
    subst (λ (d : PlainBlock). block_of d.label (block label args ops more) ≡ Some d) (some_same c b e)
    (found_first label c (block_of label more) (label == label) (itself label))

-- Where a path goes on

open_has : (bs : Blocks) (v t : ℕ) (ts : List ℕ) → is_open v (block_of t bs) ≡ true → has t ts ≡ true → has t (open_of bs v ts) ≡ true
open_has bs v t [] o h = h
open_has bs v t (s ∷ ts) o h = go (s == t) (is_open v (block_of s bs)) refl refl h (λ k. open_has bs v t ts o k)
  where
    go : (b c : Bool) → (s == t) ≡ b → is_open v (block_of s bs) ≡ c → (b || has t ts) ≡ true
        → (has t ts ≡ true → has t (open_of bs v ts) ≡ true) → has t (if c then s ∷ open_of bs v ts else open_of bs v ts) ≡ true
    go true true e f k rest = ap (λ b. b || has t (open_of bs v ts)) e
    go true false e f k rest = absurd (true≢false (sym o ∙ ap (λ n. is_open v (block_of n bs)) (sym (eqb-true s t e)) ∙ f))
    go false true e f k rest = or_right (s == t) _ (rest k)
    go false false e f k rest = rest k

open_all : (bs : Blocks) (v : ℕ) (P : ℕ → Type 0) (ts : List ℕ)
    → ((t : ℕ) → has t ts ≡ true → is_open v (block_of t bs) ≡ true → P t) → AllOf P (open_of bs v ts)
open_all bs v P [] each = tt
open_all bs v P (s ∷ ts) each =
    go (is_open v (block_of s bs)) refl (each s (ap (λ b. b || has s ts) (itself s))) (open_all bs v P ts (λ t h o. each t (or_right (s == t) _ h) o))
  where
    go : (c : Bool) → is_open v (block_of s bs) ≡ c → (is_open v (block_of s bs) ≡ true → P s) → AllOf P (open_of bs v ts)
        → AllOf P (if c then s ∷ open_of bs v ts else open_of bs v ts)
    go true e p rest = (p e, rest)
    go false e p rest = rest

-- a path is at a block's start
pub record Arrives (bs : Blocks) (v l : ℕ) : Type 0 where
  pub at : PlainBlock
  pub is : block_of l bs ≡ Some at
  pub path : Reach bs v l (numbers at.args) at.ops

arrive : (bs : Blocks) (v t : ℕ) (o : Option PlainBlock) → block_of t bs ≡ o → is_open v o ≡ true
    → ((b : PlainBlock) → block_of t bs ≡ Some b → has v (numbers b.args) ≡ false → Reach bs v t (numbers b.args) b.ops) → Arrives bs v t
arrive bs v t None e free go = absurd (true≢false (sym free))
arrive bs v t (Some b) e free go = record { at = b; is = e; path = go b e (not_true _ free) }

-- from a place that is reached a path goes on to each block that the search says
leave_by : (bs : Blocks) (v l : ℕ) (bound : List ℕ) (ops : Ops) (t : ℕ) → Reach bs v l bound ops → has t (leaves v ops) ≡ true
    → (b : PlainBlock) → block_of t bs ≡ Some b → has v (numbers b.args) ≡ false → Reach bs v t (numbers b.args) b.ops
leave_by bs v l bound end_of_ops t r h = absurd (true≢false (sym h))
leave_by bs v l bound (more_ops o rest) t r h =
    go (ends o) (has v (results_of o)) refl refl h (λ s k. leave_by bs v l (results_of o ++ bound) rest t s k)
  where
    go : (e d : Bool) → ends o ≡ e → has v (results_of o) ≡ d → has t (if e then successors_of o else (if d then [] else leaves v rest)) ≡ true
        → (Reach bs v l (results_of o ++ bound) rest → has t (leaves v rest) ≡ true → (b : PlainBlock) → block_of t bs ≡ Some b → has v (numbers b.args) ≡ false → Reach bs v t (numbers b.args) b.ops)
        → (b : PlainBlock) → block_of t bs ≡ Some b → has v (numbers b.args) ≡ false → Reach bs v t (numbers b.args) b.ops
    go true d e f k later b is free = jumps o t b r e k is free
    go false true e f k later b is free = absurd (true≢false (sym k))
    go false false e f k later b is free = later (passes o r e f) k b is free

pub all_arrive : (bs : Blocks) (v l : ℕ) → Arrives bs v l → AllOf (Arrives bs v) (nexts bs v l)
all_arrive bs v l a =
    subst (λ o. AllOf (Arrives bs v) (open_of bs v (leaves_block v o))) (sym a.is)
    (open_all bs v (Arrives bs v) (leaves v (a.at).ops) (λ t h o. arrive bs v t (block_of t bs) refl o (leave_by bs v l _ _ t a.path h)))

enter_all : (bs : Blocks) (v : ℕ) (o : Option PlainBlock) → first_block bs ≡ o → AllOf (Arrives bs v) (entry_of v o)
enter_all bs v None e = tt
enter_all bs v (Some b) e = go (has v (numbers b.args)) refl
  where
    go : (d : Bool) → has v (numbers b.args) ≡ d → AllOf (Arrives bs v) (if d then [] else b.label ∷ [])
    go true f = tt
    go false f = (record { at = b; is = first_found bs b e; path = enters b e f }, tt)

pub arrives : (bs : Blocks) (v l : ℕ) → among_reached (nexts bs v) (entry_of v (first_block bs)) l ≡ Some true → Arrives bs v l
arrives bs v l e = reached.is_reached (Arrives bs v) (nexts bs v) (entry_of v (first_block bs)) l (all_arrive bs v) (enter_all bs v (first_block bs) refl) e

-- What holds of each place that is reached: its block is seen, and what ends the path is still ahead

pub record Seen (bs : Blocks) (v : ℕ) (seen : List ℕ) (l : ℕ) (ops : Ops) : Type 0 where
  pub at : PlainBlock
  pub is : block_of l bs ≡ Some at
  pub among : has l seen ≡ true
  pub stops : stop v ops ≡ stop v at.ops
  pub goes : leaves v ops ≡ leaves v at.ops

stop_on : (v : ℕ) (o : Op) (rest : Ops) → ends o ≡ false → has v (results_of o) ≡ false → stop v (more_ops o rest) ≡ stop v rest
stop_on v o rest e f = ap (λ b. if b || has v (results_of o) then count_of rest + 1 else stop v rest) e ∙ ap (λ b. if b then count_of rest + 1 else stop v rest) f

leaves_on : (v : ℕ) (o : Op) (rest : Ops) → ends o ≡ false → has v (results_of o) ≡ false → leaves v (more_ops o rest) ≡ leaves v rest
leaves_on v o rest e f =
    ap (λ b. if b then successors_of o else (if has v (results_of o) then [] else leaves v rest)) e ∙ ap (λ b. if b then [] else leaves v rest) f

leaves_off : (v : ℕ) (o : Op) (rest : Ops) → ends o ≡ true → leaves v (more_ops o rest) ≡ successors_of o
leaves_off v o rest e = ap (λ b. if b then successors_of o else (if has v (results_of o) then [] else leaves v rest)) e

entry_has : (v : ℕ) (b : PlainBlock) (o : Option PlainBlock) → o ≡ Some b → has v (numbers b.args) ≡ false → has b.label (entry_of v o) ≡ true
entry_has v b o e f = ap (λ p. has b.label (entry_of v p)) e ∙ ap (λ d. has b.label (if d then [] else b.label ∷ [])) f ∙ only_one b.label

open_at : (v : ℕ) (b : PlainBlock) (o : Option PlainBlock) → o ≡ Some b → has v (numbers b.args) ≡ false → is_open v o ≡ true
open_at v b o e f = ap (is_open v) e ∙ ap not f

pub all_seen : {bs : Blocks} {v l : ℕ} {bound : List ℕ} {ops : Ops} (seen : List ℕ)
    → Closed (nexts bs v) (entry_of v (first_block bs)) seen → Reach bs v l bound ops → Seen bs v seen l ops
all_seen {bs = bs} {v = v} seen c (enters b e f) = record {
  at = b;
  is = first_found bs b e;
  among = c.begins b.label (entry_has v b (first_block bs) e f);
  stops = refl;
  goes = refl;
}
all_seen {bs = bs} {v = v} seen c (passes o {l = l} {rest = rest} r e f) =
    let s = all_seen seen c r in
    record {
      at = s.at;
      is = s.is;
      among = s.among;
      stops = sym (stop_on v o rest e f) ∙ s.stops;
      goes = sym (leaves_on v o rest e f) ∙ s.goes;
    }
all_seen {bs = bs} {v = v} seen c (jumps o t b {l = l} {rest = rest} r e h is f) =
    let s = all_seen seen c r in
    let there : has t (leaves_block v (block_of l bs)) ≡ true =
    ap (λ p. has t (leaves_block v p)) s.is ∙ ap (has t) (sym s.goes ∙ leaves_off v o rest e) ∙ h in
    record {
      at = b;
      is = is;
      among = c.stays l t s.among (open_has bs v t (leaves_block v (block_of l bs)) (open_at v b (block_of t bs) is f) there);
      stops = refl;
      goes = refl;
    }

-- Where operations lie in a block

-- what was defined since the start of a block, and what is left of it
pub data Along (b : PlainBlock) : List ℕ → Ops → Type 0 where
  at_start : Along b (numbers b.args) b.ops
  one_on : (o : Op) {bound : List ℕ} {rest : Ops} → Along b bound (more_ops o rest) → Along b (results_of o ++ bound) rest

stop_count : (v : ℕ) (ops : Ops) → stop v ops ≤ count_of ops
stop_count v end_of_ops = omega arith
stop_count v (more_ops o rest) = go (ends o || has v (results_of o)) (stop_count v rest)
  where
    go : (b : Bool) → stop v rest ≤ count_of rest → (if b then count_of rest + 1 else stop v rest) ≤ count_of rest + 1
    go true h = omega arith
    go false h = omega (arith, h)

stop_one : (v : ℕ) (o : Op) (rest : Ops) → stop v rest ≤ stop v (more_ops o rest)
stop_one v o rest = go (ends o || has v (results_of o)) (stop_count v rest)
  where
    go : (b : Bool) → stop v rest ≤ count_of rest → stop v rest ≤ (if b then count_of rest + 1 else stop v rest)
    go true h = omega (arith, h)
    go false h = omega arith

stop_along : {b : PlainBlock} {bound : List ℕ} {ops : Ops} (v : ℕ) → Along b bound ops → stop v ops ≤ stop v b.ops
stop_along v at_start = omega arith
stop_along v (one_on o {rest = rest} a) = omega (arith, stop_one v o rest, stop_along v a)

-- where nothing ended the path so far, a path goes on to here
pub along : {bs : Blocks} {b : PlainBlock} {bound : List ℕ} {ops : Ops} (v l : ℕ)
    → Along b bound ops → Reach bs v l (numbers b.args) b.ops → stop v b.ops ≡ stop v ops → Reach bs v l bound ops
along v l at_start r e = r
along {bs = bs} {b = b} v l (one_on o {bound = bound} {rest = rest} a) r e =
    go (ends o) (has v (results_of o)) refl refl (λ h. along v l a r h) (stop_along v a) (stop_count v rest)
  where
    go : (c d : Bool) → ends o ≡ c → has v (results_of o) ≡ d → (stop v b.ops ≡ stop v (more_ops o rest) → Reach bs v l bound (more_ops o rest))
        → (if c || d then count_of rest + 1 else stop v rest) ≤ stop v b.ops → stop v rest ≤ count_of rest → Reach bs v l (results_of o ++ bound) rest
    go false false p q path h k = passes o (path (e ∙ sym (stop_on v o rest p q))) p q
    go false true p q path h k = absurd (omega (arith, h, k, e))
    go true d p q path h k = absurd (omega (arith, h, k, e))

-- a place is where it says
pub record InPlace (f : Frame) : Type 0 where
  pub at : PlainBlock
  pub is : block_of f.label f.blocks ≡ Some at
  pub along : Along at f.bound f.ops

both : (o : Option Bool) (b d : Bool) → and_is o b ≡ Some d → (a : Bool) × (o ≡ Some a) × ((a && b) ≡ d)
both None b d e = absurd (none-some d e)
both (Some a) b d e = (a, refl, some_same _ _ e)

reaches_at : (f : Frame) (v : ℕ) (a b : PlainBlock) → Some a ≡ Some b → Along b f.bound f.ops → Reach f.blocks v f.label (numbers a.args) a.ops
    → (stop v b.ops == stop v f.ops) ≡ true → Reach f.blocks v f.label f.bound f.ops
reaches_at f v a b e along_b r s =
    along v f.label along_b (subst (λ (c : PlainBlock). Reach f.blocks v f.label (numbers c.args) c.ops) (some_same a b e) r) (eqb-true _ _ s)

pub reaches : (f : Frame) (v : ℕ) → InPlace f → is_reached f v ≡ Some true → Reach f.blocks v f.label f.bound f.ops
reaches f v i e =
    let (a, o, h) = both _ (is_ahead v f.ops (block_of f.label f.blocks)) true e in
    let arrived : Arrives f.blocks v f.label = arrives f.blocks v f.label (o ∙ ap Some (and_first a _ h)) in
    reaches_at f v arrived.at i.at (sym arrived.is ∙ i.is) i.along arrived.path
    (ap (is_ahead v f.ops) (sym i.is) ∙ and_second a _ h)

both_false : (a b : Bool) → (a && b) ≡ false → a ≡ true → b ≡ true → ⊥
both_false true b e p q = true≢false (sym q ∙ e)
both_false false b e p q = true≢false (sym p)

pub reaches_not : (f : Frame) (v : ℕ) → is_reached f v ≡ Some false → Reach f.blocks v f.label f.bound f.ops → ⊥
reaches_not f v e r =
    let (a, o, h) = both _ (is_ahead v f.ops (block_of f.label f.blocks)) false e in
    let (seen, c, n) = set_of (nexts f.blocks v) (entry_of v (first_block f.blocks)) f.label a o in
    let s = all_seen seen c r in
    both_false a _ h (sym n ∙ s.among) (ap (is_ahead v f.ops) s.is ∙ eq-eqb _ _ (sym s.stops))
