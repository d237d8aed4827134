-- Rule `OwnUse` is kept where operations are replaced by others one after another.
use Rattle.std.proofs.Common.{◌≡◌, ℕ, ◌<◌, true, List, sym, ap, ◌∙◌, arith}
use Rattle.plain_tree.specs.Ops.{Op}
use Rattle.rule_model.specs.Words.{has}
use Rattle.rule_model.specs.Chains.{by_way_of, Chain, op_used, uses}

-- New values by the number of the operation that they are for and their places; at gives the operands of that operation.
module _ (f : Op) (Old : ℕ → Type 0) (value : ℕ → ℕ → ℕ) (at : ℕ → List ℕ) where
  -- how one value uses another in the new tree: an old one an old one that it used; an old one a new one, where it used all
  -- operands of the operation; a new one an operand of the operation, or a new one before it
  pub data Edge : ℕ → ℕ → Type 0 where
    old_old : {v u : ℕ} → Old v → Old u → has u (op_used v f) ≡ true → Edge v u
    old_new : {v u : ℕ} (n j : ℕ) → Old v → u ≡ value n j → ((x : ℕ) → has x (at n) ≡ true → has x (op_used v f) ≡ true) → Edge v u
    new_old : {v u : ℕ} (n k : ℕ) → v ≡ value n k → Old u → has u (at n) ≡ true → Edge v u
    new_new : {v u : ℕ} (n k j : ℕ) → v ≡ value n k → u ≡ value n j → j < k → Edge v u

  pub data Path (E : ℕ → ℕ → Type 0) : ℕ → ℕ → Type 0 where
    one : {v u : ℕ} → E v u → Path E v u
    then_on : {v w : ℕ} (u : ℕ) → E v u → Path E u w → Path E v w

  data Target (w : ℕ) : Type 0 where
    old_target : Old w → Target w
    new_target : (n j : ℕ) → w ≡ value n j → Target w

  -- h came to the target in the old tree
  abbrev To : (w : ℕ) → Target w → ℕ → Type 0
  To w (old_target o) h = Chain f h w
  To w (new_target n j e) h = (x : ℕ) → has x (at n) ≡ true → Chain f h x

  abbrev Direct : (w : ℕ) → Target w → ℕ → ℕ → Type 0
  Direct w (old_target o) n k = has w (at n) ≡ true
  Direct w (new_target m j e) n k = (n ≡ m) × (j < k)

  data Way (w : ℕ) (t : Target w) : ℕ → Type 0 where
    from_old : {u : ℕ} → Old u → To w t u → Way w t u
    from_new : {u : ℕ} (n k h : ℕ) → u ≡ value n k → has h (at n) ≡ true → To w t h → Way w t u
    direct : {u : ℕ} (n k : ℕ) → u ≡ value n k → Direct w t n k → Way w t u

  module _ (apart : (v n k : ℕ) → Old v → v ≡ value n k → ⊥) (unique : (n k m j : ℕ) → value n k ≡ value m j → (n ≡ m) × (k ≡ j)) where
    extend : (w : ℕ) (t : Target w) (v u : ℕ) → has u (op_used v f) ≡ true → To w t u → To w t v
    extend w (old_target o) v u e c = by_way_of u e c
    extend w (new_target n j is) v u e c = λ x h. by_way_of u e (c x h)

    first : (w : ℕ) (t : Target w) (v : ℕ) → Edge v w → Way w t v
    first w (old_target o) v (old_old a b e) = from_old a (uses e)
    first w (old_target o) v (old_new n j a is e) = absurd (apart w n j o is)
    first w (old_target o) v (new_old n k is b e) = direct n k is e
    first w (old_target o) v (new_new n k j is to less) = absurd (apart w n j o to)
    first w (new_target m i it) v (old_old a b e) = absurd (apart w m i b it)
    first w (new_target m i it) v (old_new n j a is e) = from_old a (λ x h. uses (e x (ap (λ y. has x (at y)) (unique n j m i (sym is ∙ it)).0 ∙ h)))
    first w (new_target m i it) v (new_old n k is b e) = absurd (apart w m i b it)
    first w (new_target m i it) v (new_new n k j is to less) =
        let same = unique n j m i (sym to ∙ it) in
        direct n k is (same.0, omega (arith, same.1, less))

    straight : (w : ℕ) (t : Target w) (v n k : ℕ) → ((x : ℕ) → has x (at n) ≡ true → has x (op_used v f) ≡ true) → Direct w t n k → To w t v
    straight w (old_target o) v n k e d = uses (e w d)
    straight w (new_target m j is) v n k e d = λ x h. uses (e x (ap (λ y. has x (at y)) d.0 ∙ h))

    lower : (w : ℕ) (t : Target w) (n k m j : ℕ) → n ≡ m → j < k → Direct w t m j → Direct w t n k
    lower w (old_target o) n k m j same less d = ap (λ y. has w (at y)) same ∙ d
    lower w (new_target i l is) n k m j same less d = (same ∙ d.0, omega (arith, d.1, less))

    step : (w : ℕ) (t : Target w) (v u : ℕ) → Edge v u → Way w t u → Way w t v
    step w t v u (old_old a b e) (from_old o c) = from_old a (extend w t v u e c)
    step w t v u (old_old a b e) (from_new n k h is own c) = absurd (apart u n k b is)
    step w t v u (old_old a b e) (direct n k is d) = absurd (apart u n k b is)
    step w t v u (old_new n j a is e) (from_old o c) = absurd (apart u n j o is)
    step w t v u (old_new n j a is e) (from_new m k h it own c) = from_old a (extend w t v h (e h (ap (λ y. has h (at y)) (unique n j m k (sym is ∙ it)).0 ∙ own)) c)
    step w t v u (old_new n j a is e) (direct m k it d) =
        let same = unique n j m k (sym is ∙ it) in
        from_old a (straight w t v m k (λ x h. e x (ap (λ y. has x (at y)) same.0 ∙ h)) d)
    step w t v u (new_old n k is b e) (from_old o c) = from_new n k u is e c
    step w t v u (new_old n k is b e) (from_new m j h it own c) = absurd (apart u m j b it)
    step w t v u (new_old n k is b e) (direct m j it d) = absurd (apart u m j b it)
    step w t v u (new_new n k j is to less) (from_old o c) = absurd (apart u n j o to)
    step w t v u (new_new n k j is to less) (from_new m i h it own c) = from_new n k h is (ap (λ y. has h (at y)) (unique n j m i (sym to ∙ it)).0 ∙ own) c
    step w t v u (new_new n k j is to less) (direct m i it d) =
        let same = unique n j m i (sym to ∙ it) in
        direct n k is (lower w t n k m i same.0 (omega (arith, same.1, less)) d)

    way : {v w : ℕ} (t : Target w) → Path Edge v w → Way w t v
    way {v = v} {w = w} t (one e) = first w t v e
    way {v = v} {w = w} t (then_on u e p) = step w t v u e (way t p)

    source : (v u : ℕ) → Edge v u → Target v
    source v u (old_old a b e) = old_target a
    source v u (old_new n j a is e) = old_target a
    source v u (new_old n k is b e) = new_target n k is
    source v u (new_new n k j is to less) = new_target n k is

    begins : (v w : ℕ) → Path Edge v w → Target v
    begins v w (one e) = source v w e
    begins v w (then_on u e p) = source v u e

    no_way : (v : ℕ) (t : Target v) → ((w : ℕ) → Chain f w w → ⊥) → Way v t v → ⊥
    no_way v (old_target o) never (from_old a c) = never v c
    no_way v (old_target o) never (from_new n k h is own c) = apart v n k o is
    no_way v (old_target o) never (direct n k is d) = apart v n k o is
    no_way v (new_target m j it) never (from_old a c) = apart v m j a it
    no_way v (new_target m j it) never (from_new n k h is own c) = never h (c h (ap (λ y. has h (at y)) (unique m j n k (sym it ∙ is)).0 ∙ own))
    no_way v (new_target m j it) never (direct n k is d) = absurd (omega (arith, (unique m j n k (sym it ∙ is)).1, d.1))

    -- no value uses itself in the new tree where none did in the old one
    pub no_cycle : (v : ℕ) → ((w : ℕ) → Chain f w w → ⊥) → Path Edge v v → ⊥
    no_cycle v never p = no_way v (begins v v p) never (way (begins v v p) p)
