-- In a block that is reached, a use in front of its definition isn't defined.
use Rattle.std.proofs.Common.{◌≡◌, ℕ, ◌==◌, Bool, true, false, List, [], ◌∷◌, ◌++◌, Some, refl, sym, ap, ◌∙◌, subst, inl, inr, true≢false}
use Rattle.std.specs.Prelude.{◌||◌, ◌⊎◌, if◌then◌else◌}
use Rattle.std.proofs.lemmas.Option.{none-some}
use Rattle.std.proofs.lemmas.Bool.{eqb-true}
use Rattle.plain_tree.specs.Ops.{Ops, end_of_ops, more_ops, Blocks, end_of_blocks, block, PlainBlock}
use Rattle.rule_model.specs.Words.{binds, binds_in_ops, block_of, has, numbers, results_of, successors_of}
use Rattle.rule_model.specs.Paths.{at_start, begins, Either, ends, enters, exits, follows, jumps, one_on, Passed, passes, Reach, Visits}
use Rattle.rule_model.specs.Promises.{OnlyIn, UseInFront}
use Rattle.rule_model.proofs.Numbers.{or_first, or_right, or_second, some_same}
use Rattle.rule_model.proofs.Places.{Arrives, first_found}

none_in_sum : (v : ℕ) (ms ns : List ℕ) → has v (ms ++ ns) ≡ false → (has v ms ≡ false) × (has v ns ≡ false)
none_in_sum v [] ns e = (refl, e)
none_in_sum v (m ∷ ms) ns e =
    let rest = none_in_sum v ms ns (or_second (m == v) _ e) in
    (ap (λ b. b || has v ms) (or_first (m == v) _ e) ∙ rest.0, rest.1)

-- what was not defined since the block's start is no argument of it
not_an_argument : {b : PlainBlock} {bound : List ℕ} {ops : Ops} (v : ℕ) → Passed b bound ops → has v bound ≡ false → has v (numbers b.args) ≡ false
not_an_argument v at_start free = free
not_an_argument v (one_on o {bound = bound} p e) free = not_an_argument v p (none_in_sum v (results_of o) bound free).1

-- a path goes on from the block's start to the place
pass : {bs : Blocks} {b : PlainBlock} {bound : List ℕ} {ops : Ops} (v l : ℕ) → Passed b bound ops → has v bound ≡ false
    → Reach bs v l (numbers b.args) b.ops → Reach bs v l bound ops
pass v l at_start free r = r
pass v l (one_on o {bound = bound} p e) free r =
    let both = none_in_sum v (results_of o) bound free in
    passes o (pass v l p both.1 r) e both.0

-- and through a block that doesn't define v
through : (bs : Blocks) (v l t : ℕ) (c : PlainBlock) (bound : List ℕ) (ops : Ops) → Reach bs v l bound ops → binds_in_ops v ops ≡ false
    → has t (exits ops) ≡ true → block_of t bs ≡ Some c → has v (numbers c.args) ≡ false → Reach bs v t (numbers c.args) c.ops
through bs v l t c bound end_of_ops r none h is free = absurd (true≢false (sym h))
through bs v l t c bound (more_ops o rest) r none h is free =
    go (ends o) refl h (λ s k. through bs v l t c (results_of o ++ bound) rest s (or_second (has v (results_of o)) _ none) k is free)
  where
    go : (e : Bool) → ends o ≡ e → has t (if e then successors_of o else exits rest) ≡ true
        → (Reach bs v l (results_of o ++ bound) rest → has t (exits rest) ≡ true → Reach bs v t (numbers c.args) c.ops) → Reach bs v t (numbers c.args) c.ops
    go true e k later = jumps o t c r e k is free
    go false e k later = later (passes o r e (or_first _ _ none)) k

-- Each block that is visited is reached without v, or the block of v itself is

module _ (bs : Blocks) (l v : ℕ) (b : PlainBlock) (home : block_of l bs ≡ Some b) (free : has v (numbers b.args) ≡ false) (only : OnlyIn v l bs) where
  free_args : (t : ℕ) (c : PlainBlock) → block_of t bs ≡ Some c → has v (numbers c.args) ≡ false
  free_args t c is = go (t == l) refl
    where
      go : (d : Bool) → (t == l) ≡ d → has v (numbers c.args) ≡ false
      go false e = (only t c e is).0
      go true e =
          subst (λ (x : PlainBlock). has v (numbers x.args) ≡ false) (some_same b c (sym home ∙ ap (λ n. block_of n bs) (sym (eqb-true t l e)) ∙ is)) free

  arrived : (m : ℕ) → Visits bs m → Arrives bs v m ⊎ Arrives bs v l
  arrived m (begins c e) = inl (record { at = c; is = first_found bs c e; path = enters c e (free_args c.label c (first_found bs c e)) })
  arrived m (follows k t c d before is h there) = elim (arrived k before) [
    | inr a ↦ inr a
    | inl a ↦ go (k == l) refl a
  ]
    where
      go : (x : Bool) → (k == l) ≡ x → Arrives bs v k → Arrives bs v t ⊎ Arrives bs v l
      go true e a = inr (subst (Arrives bs v) (eqb-true k l e) a)
      go false e a =
          let at : PlainBlock = a.at in
          let same : at ≡ c = some_same at c (sym a.is ∙ is) in
          let path : Reach bs v k (numbers c.args) c.ops = subst (λ (x : PlainBlock). Reach bs v k (numbers x.args) x.ops) same a.path in
          inl (record { at = d; is = there; path = through bs v k t d (numbers c.args) c.ops path (only k c e is).1 h there (free_args t d there) })

  at_home : Visits bs l → Reach bs v l (numbers b.args) b.ops
  at_home visits = elim (arrived l visits) [ inl a ↦ here a | inr a ↦ here a ]
    where
      here : Arrives bs v l → Reach bs v l (numbers b.args) b.ops
      here a =
          let at : PlainBlock = a.at in
          subst (λ (x : PlainBlock). Reach bs v l (numbers x.args) x.ops) (some_same at b (sym a.is ∙ home)) a.path

-- Where v is defined in a block, it is in the region

binds_behind : {b : PlainBlock} {bound : List ℕ} {ops : Ops} (v : ℕ) → Passed b bound ops → binds_in_ops v ops ≡ true → binds_in_ops v b.ops ≡ true
binds_behind v at_start e = e
binds_behind v (one_on o p f) e = binds_behind v p (or_right (has v (results_of o)) _ e)

or_left : (a b : Bool) → a ≡ true → (a || b) ≡ true
or_left true b e = refl
or_left false b e = absurd (true≢false (sym e))

binds_there : (bs : Blocks) (l v : ℕ) (b : PlainBlock) → block_of l bs ≡ Some b → binds_in_ops v b.ops ≡ true → binds v bs ≡ true
binds_there end_of_blocks l v b is e = absurd (none-some b is)
binds_there (block label args ops more) l v b is e = go (label == l) is (λ k. binds_there more l v b k e)
  where
    go : (x : Bool) → (if x then Some (record { label = label; args = args; ops = ops }) else block_of l more) ≡ Some b
        → (block_of l more ≡ Some b → binds v more ≡ true) → (has v (numbers args) || (binds_in_ops v ops || binds v more)) ≡ true
    go true k rest =
        or_right (has v (numbers args)) _ (or_left (binds_in_ops v ops) _ (ap (λ (x : PlainBlock). binds_in_ops v x.ops) (some_same (record { label = label; args = args; ops = ops }) b k) ∙ e))
    go false k rest = or_right (has v (numbers args)) _ (or_right (binds_in_ops v ops) _ (rest k))

either_first : (b : Bool) (P Q : Type 0) → b ≡ true → P → Either b P Q
either_first true P Q e p = p
either_first false P Q e p = absurd (true≢false (sym e))

pub use_in_front : UseInFront
use_in_front bs outer l v b bound ops visits home passed free behind only =
    either_first (binds v bs) _ _ (binds_there bs l v b home (binds_behind v passed behind))
    (pass v l passed free (at_home bs l v b home (not_an_argument v passed free) only visits))
