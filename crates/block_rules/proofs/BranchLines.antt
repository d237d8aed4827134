-- What is written for a branch keeps rules `Defined` and `OwnUse` and is formed.
use Rattle.std.proofs.Common.{◌≡◌, ℕ, ◌+◌, ◌==◌, ◌≤◌, true, List, [], ◌∷◌, Option, Some, None, refl, sym, ap, ◌∙◌, subst, map, arith, inl, inr}
use Rattle.std.specs.Prelude.{◌||◌, ◌&&◌, ◌⊎◌}
use Rattle.plain_tree.specs.Types.{PlainType}
use Rattle.plain_tree.specs.Ops.{Op, end_of_regions}
use Rattle.rule_model.specs.Words.{AllOf, has, successors_of}
use Rattle.rule_model.proofs.Numbers.{itself}
use Rattle.conversion_model.specs.Types.{becomes, new_type, or_same}
use Rattle.block_rules.specs.Branches.{converted_operands, either_number, fronts, next, put_cast}
use Rattle.conversion_model.specs.Conversion.{regions_of}
use Rattle.conversion_model.specs.Targets.{shape_of as of_shape}
use Rattle.line_rules.specs.Fits.{Fits}
use Rattle.line_rules.specs.Lines.{Below, bound_by, HasValue, list_values, OneFormed, Ranks, Steps}
use Rattle.fitting_rows.specs.Typed.{cast_shape}
use Rattle.line_rules.proofs.Words.{or_right}
use Rattle.fitting_rows.proofs.FitShapes.{becomes_own, casts_fit, Good, good_own, Width}
use Rattle.fitting_rows.proofs.SourceFits.{GoodType}

module _ (bits : ℕ) (T : ℕ → PlainType) (new : ℕ → ℕ) where
  fronts_at : ℕ → List ℕ → List Op
  fronts_at n os = fronts bits T new n os

  -- how many new values there are behind
  abbrev pub room : ℕ → List ℕ → ℕ
  room n [] = n
  room n (x ∷ os) = room (next n (new_type bits (T x))) os

  room_more : (n : ℕ) (os : List ℕ) → n ≤ room n os
  room_more n [] = omega arith
  room_more n (x ∷ os) = go (new_type bits (T x)) (λ m. room_more m os)
    where
      go : (c : Option PlainType) → ((m : ℕ) → m ≤ room m os) → n ≤ room (next n c) os
      go None f = omega (arith, f (n + 0))
      go (Some u) f = omega (arith, f (n + 1))

  pub fronts_steps : (Old : ℕ → Type 0) (all os made : List ℕ) (n : ℕ) → ((x j : ℕ) → Old x → x ≡ new j → ⊥) → ((x : ℕ) → has x os ≡ true → has x all ≡ true) → Steps Old [] all made (fronts bits T new n os)
  fronts_steps Old all [] made n fresh inside = tt
  fronts_steps Old all (x ∷ os) made n fresh inside =
      go (new_type bits (T x)) (λ m made2. fronts_steps Old all os made2 m fresh (λ y h. inside y (or_right (x == y) _ h)))
    where
      go : (c : Option PlainType) → ((m : ℕ) (made2 : List ℕ) → Steps Old [] all made2 (fronts bits T new m os)) → Steps Old [] all made (put_cast (new n) x c (fronts bits T new (next n c) os))
      go None f = f (n + 0) made
      go (Some u) f = (refl, refl, (inl (inside x (ap (λ b. b || has x os) (itself x))), tt), (λ old. absurd (fresh (new n) n old refl), tt), f (n + 1) (new n ∷ made))

  pub fronts_ranks : (all os : List ℕ) (n : ℕ) → ((x : ℕ) → has x os ≡ true → has x all ≡ true) → Ranks new [] all n (fronts bits T new n os)
  fronts_ranks all [] n inside = tt
  fronts_ranks all (x ∷ os) n inside = go (new_type bits (T x)) (λ m. fronts_ranks all os m (λ y h. inside y (or_right (x == y) _ h)))
    where
      go : (c : Option PlainType) → ((m : ℕ) → Ranks new [] all m (fronts bits T new m os)) → Ranks new [] all n (put_cast (new n) x c (fronts bits T new (next n c) os))
      go None f = subst (λ m. Ranks new [] all m (fronts bits T new (n + 0) os)) (zero_more n) (f (n + 0))
        where
          zero_more : (m : ℕ) → m + 0 ≡ m
          zero_more m = omega arith
      go (Some u) f = (refl, (inl (inside x (ap (λ b. b || has x os) (itself x))), tt), (inr (record { place = n; is = refl; high = omega arith }), tt), f (n + 1))

  pub operands_low : (all os : List ℕ) (n : ℕ) → ((x : ℕ) → has x os ≡ true → has x all ≡ true) → AllOf (λ x. (has x all ≡ true) ⊎ Below new (room n os) x) (converted_operands bits T new n os)
  operands_low all [] n inside = tt
  operands_low all (x ∷ os) n inside = go (new_type bits (T x)) (λ m. operands_low all os m (λ y h. inside y (or_right (x == y) _ h)))
    where
      go : (c : Option PlainType) → ((m : ℕ) → AllOf (λ y. (has y all ≡ true) ⊎ Below new (room m os) y) (converted_operands bits T new m os))
          → AllOf (λ y. (has y all ≡ true) ⊎ Below new (room (next n c) os) y) (either_number (new n) x c ∷ converted_operands bits T new (next n c) os)
      go None f = (inl (inside x (ap (λ b. b || has x os) (itself x))), f (n + 0))
      go (Some u) f = (inr (record { place = n; is = refl; low = omega (arith, room_more (n + 1) os) }), f (n + 1))

  pub operands_bound : (all os : List ℕ) (n : ℕ) → ((x : ℕ) → has x os ≡ true → has x all ≡ true) → AllOf (λ x. (has x all ≡ true) ⊎ (has x (bound_by (fronts bits T new n os)) ≡ true)) (converted_operands bits T new n os)
  operands_bound all [] n inside = tt
  operands_bound all (x ∷ os) n inside = go (new_type bits (T x)) (λ m. operands_bound all os m (λ y h. inside y (or_right (x == y) _ h)))
    where
      later : (ys : List ℕ) (l : List ℕ) → AllOf (λ y. (has y all ≡ true) ⊎ (has y l ≡ true)) ys → AllOf (λ y. (has y all ≡ true) ⊎ (has y (new n ∷ l) ≡ true)) ys
      later [] l f = tt
      later (y ∷ ys) l f = (elim f.0 [ inl a ↦ inl a | inr a ↦ inr (or_right (new n == y) _ a) ], later ys l f.1)

      go : (c : Option PlainType) → ((m : ℕ) → AllOf (λ y. (has y all ≡ true) ⊎ (has y (bound_by (fronts bits T new m os)) ≡ true)) (converted_operands bits T new m os))
          → AllOf (λ y. (has y all ≡ true) ⊎ (has y (bound_by (put_cast (new n) x c (fronts bits T new (next n c) os))) ≡ true)) (either_number (new n) x c ∷ converted_operands bits T new (next n c) os)
      go None f = (inl (inside x (ap (λ b. b || has x os) (itself x))), f (n + 0))
      go (Some u) f =
          (inr (ap (λ b. b || has (new n) (bound_by (fronts bits T new (n + 1) os))) (itself (new n))), later (converted_operands bits T new (n + 1) os) (bound_by (fronts bits T new (n + 1) os)) (f (n + 1)))

  -- the type behind a change is good
  changed_good : (w : Width bits) (t u : PlainType) → GoodType t → new_type bits t ≡ Some u → Good u
  changed_good w t u g e = subst Good (ap (or_same t) e) (good_own (becomes bits t) (becomes_own bits t w (record { value = g.0; formed = g.1 })))

  pub fronts_formed : (w : Width bits) (os : List ℕ) (n : ℕ) → ((x : ℕ) → has x os ≡ true → GoodType (T x)) → AllOf OneFormed (fronts bits T new n os)
  fronts_formed w [] n good = tt
  fronts_formed w (x ∷ os) n good = go (new_type bits (T x)) refl (λ m. fronts_formed w os m (λ y h. good y (or_right (x == y) _ h)))
    where
      go : (c : Option PlainType) → new_type bits (T x) ≡ c → ((m : ℕ) → AllOf OneFormed (fronts bits T new m os)) → AllOf OneFormed (put_cast (new n) x c (fronts bits T new (next n c) os))
      go None e f = f (n + 0)
      go (Some u) e f =
          ((refl, ap (λ b. b && true) (changed_good w (T x) u (good x (ap (λ b. b || has x os) (itself x))) e).formed, refl, refl), f (n + 1))

  pub fronts_stay : (os : List ℕ) (n : ℕ) → AllOf (λ p. successors_of p ≡ []) (fronts bits T new n os)
  fronts_stay [] n = tt
  fronts_stay (x ∷ os) n = go (new_type bits (T x)) (λ m. fronts_stay os m)
    where
      go : (c : Option PlainType) → ((m : ℕ) → AllOf (λ p. successors_of p ≡ []) (fronts bits T new m os)) → AllOf (λ p. successors_of p ≡ []) (put_cast (new n) x c (fronts bits T new (next n c) os))
      go None f = f (n + 0)
      go (Some u) f = (refl, f (n + 1))

  pub fronts_bare : (os : List ℕ) (n : ℕ) → AllOf (λ p. regions_of p ≡ end_of_regions) (fronts bits T new n os)
  fronts_bare [] n = tt
  fronts_bare (x ∷ os) n = go (new_type bits (T x)) (λ m. fronts_bare os m)
    where
      go : (c : Option PlainType) → ((m : ℕ) → AllOf (λ p. regions_of p ≡ end_of_regions) (fronts bits T new m os)) → AllOf (λ p. regions_of p ≡ end_of_regions) (put_cast (new n) x c (fronts bits T new (next n c) os))
      go None f = f (n + 0)
      go (Some u) f = (refl, f (n + 1))

  -- the casts fit, and the operands behind them have converted types, wherever the values have their types
  pub fronts_fit : (w : Width bits) (S : ℕ → PlainType) (os : List ℕ) (n : ℕ) → ((x : ℕ) → has x os ≡ true → S x ≡ T x) → ((x : ℕ) → has x os ≡ true → GoodType (T x)) → AllOf (λ p. Fits (of_shape S p)) (fronts bits T new n os)
  fronts_fit w S [] n agree good = tt
  fronts_fit w S (x ∷ os) n agree good = go (new_type bits (T x)) refl (λ m. fronts_fit w S os m (λ y h. agree y (or_right (x == y) _ h)) (λ y h. good y (or_right (x == y) _ h)))
    where
      here : has x (x ∷ os) ≡ true
      here = ap (λ b. b || has x os) (itself x)

      go : (c : Option PlainType) → new_type bits (T x) ≡ c → ((m : ℕ) → AllOf (λ p. Fits (of_shape S p)) (fronts bits T new m os)) → AllOf (λ p. Fits (of_shape S p)) (put_cast (new n) x c (fronts bits T new (next n c) os))
      go None e f = f (n + 0)
      go (Some u) e f = let g = good x here in (subst (λ t. Fits (cast_shape t u)) (sym (agree x here)) (casts_fit bits (T x) w (record { value = g.0; formed = g.1 }) u e).0, f (n + 1))

  pub operands_made : (S : ℕ → PlainType) (os : List ℕ) (n : ℕ) → ((x : ℕ) → has x os ≡ true → S x ≡ T x) → ((x : ℕ) (t : PlainType) → HasValue x t (list_values (fronts bits T new n os)) → S x ≡ t)
      → map S (converted_operands bits T new n os) ≡ map (becomes bits) (map T os)
  operands_made S [] n agree inside = refl
  operands_made S (x ∷ os) n agree inside = go (new_type bits (T x)) inside (λ m. operands_made S os m (λ y h. agree y (or_right (x == y) _ h)))
    where
      go : (c : Option PlainType) → ((y : ℕ) (t : PlainType) → HasValue y t (list_values (put_cast (new n) x c (fronts bits T new (next n c) os))) → S y ≡ t)
          → ((m : ℕ) → ((y : ℕ) (t : PlainType) → HasValue y t (list_values (fronts bits T new m os)) → S y ≡ t) → map S (converted_operands bits T new m os) ≡ map (becomes bits) (map T os))
          → map S (either_number (new n) x c ∷ converted_operands bits T new (next n c) os) ≡ or_same (T x) c ∷ map (becomes bits) (map T os)
      go None known f = ap (λ t. t ∷ map S (converted_operands bits T new (n + 0) os)) (agree x (ap (λ b. b || has x os) (itself x))) ∙ ap (λ l. T x ∷ l) (f (n + 0) known)
      go (Some u) known f = ap (λ t. t ∷ map S (converted_operands bits T new (n + 1) os)) (known (new n) u (inl (refl, refl))) ∙ ap (λ l. u ∷ l) (f (n + 1) (λ y t h. known y t (inr h)))
