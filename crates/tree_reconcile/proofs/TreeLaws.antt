-- Trees that are edited twice, and trees of which nothing is left out.
use Rattle.std.proofs.Common.{◌≡◌, ℕ, Bool, true, false, List, [], ◌∷◌, map, refl, ap, ◌∙◌, true≢false}
use Rattle.std.specs.Prelude.{◌||◌, if◌then◌else◌}
use Rattle.plain_tree.specs.Ops.{Op, op, Ops, end_of_ops, more_ops, Regions, end_of_regions, region, Blocks, end_of_blocks, block}
use Rattle.conversion_model.specs.Uses.{op_uses, op_without, ops_uses, ops_without, regions_uses, regions_without, blocks_uses, blocks_without}
use Rattle.conversion_model.proofs.Sizes.{op_inside, ops_any, regions_any, blocks_any}
use Rattle.tree_uses.specs.Edited.{edited}

pub map_twice : (g h : ℕ → ℕ) (vs : List ℕ) → map g (map h vs) ≡ map (λ v. g (h v)) vs
map_twice g h [] = refl
map_twice g h (v ∷ vs) = ap (λ xs. g (h v) ∷ xs) (map_twice g h vs)

pub map_same : (vs : List ℕ) → map (λ v. v) vs ≡ vs
map_same [] = refl
map_same (v ∷ vs) = ap (λ xs. v ∷ xs) (map_same vs)

-- Edited twice

module _ (g h : ℕ → ℕ) (t u : Op → Bool) (same : (o : Op) → u (edited h t o) ≡ u o) where
  abbrev either_of : Op → Bool
  either_of p = t p || u p

  abbrev both : ℕ → ℕ
  both v = g (h v)

  first_kept : (o : Op) (os : Ops) (c : Bool) → op_uses g (op_without u (edited h t o)) ≡ edited both either_of o
      → ops_uses g (ops_without u (ops_uses h (ops_without t os))) ≡ ops_uses both (ops_without either_of os)
      → ops_uses g (if c then ops_without u (ops_uses h (ops_without t os)) else more_ops (op_without u (edited h t o)) (ops_without u (ops_uses h (ops_without t os))))
      ≡ ops_uses both (if c then ops_without either_of os else more_ops (op_without either_of o) (ops_without either_of os))
  first_kept o os true a b = b
  first_kept o os false a b = ap (λ x. more_ops x (ops_uses g (ops_without u (ops_uses h (ops_without t os))))) a ∙ ap (more_ops (edited both either_of o)) b

  either_kept : (o : Op) (os : Ops) (b : Bool) → op_uses g (op_without u (edited h t o)) ≡ edited both either_of o
      → ops_uses g (ops_without u (ops_uses h (ops_without t os))) ≡ ops_uses both (ops_without either_of os)
      → ops_uses g (ops_without u (ops_uses h (if b then ops_without t os else more_ops (op_without t o) (ops_without t os))))
      ≡ ops_uses both (if b || u o then ops_without either_of os else more_ops (op_without either_of o) (ops_without either_of os))
  either_kept o os true a b = b
  either_kept o os false a b =
      ap (λ c. ops_uses g (if c then ops_without u (ops_uses h (ops_without t os)) else more_ops (op_without u (edited h t o)) (ops_without u (ops_uses h (ops_without t os))))) (same o)
      ∙ first_kept o os (u o) a b

  mutual
    pub op_twice : (o : Op) → edited g u (edited h t o) ≡ edited (λ v. g (h v)) (λ p. t p || u p) o
    op_twice (op k results operands rs successors) =
        ap (λ vs. op k results vs (regions_uses g (regions_without u (regions_uses h (regions_without t rs)))) successors) (map_twice g h operands)
        ∙ ap (λ r. op k results (map both operands) r successors) (regions_twice rs)

    regions_twice : (rs : Regions) → regions_uses g (regions_without u (regions_uses h (regions_without t rs))) ≡ regions_uses both (regions_without either_of rs)
    regions_twice end_of_regions = refl
    regions_twice (region bs more) =
        ap (λ x. region x (regions_uses g (regions_without u (regions_uses h (regions_without t more))))) (blocks_twice bs)
        ∙ ap (region (blocks_uses both (blocks_without either_of bs))) (regions_twice more)

    blocks_twice : (bs : Blocks) → blocks_uses g (blocks_without u (blocks_uses h (blocks_without t bs))) ≡ blocks_uses both (blocks_without either_of bs)
    blocks_twice end_of_blocks = refl
    blocks_twice (block label args os more) =
        ap (λ x. block label args x (blocks_uses g (blocks_without u (blocks_uses h (blocks_without t more))))) (ops_twice os)
        ∙ ap (block label args (ops_uses both (ops_without either_of os))) (blocks_twice more)

    ops_twice : (os : Ops) → ops_uses g (ops_without u (ops_uses h (ops_without t os))) ≡ ops_uses both (ops_without either_of os)
    ops_twice end_of_ops = refl
    ops_twice (more_ops o os) = either_kept o os (t o) (op_twice o) (ops_twice os)

-- Nothing left out

or_false : (a b : Bool) → (a || b) ≡ false → (a ≡ false) × (b ≡ false)
or_false true b e = absurd (true≢false e)
or_false false b e = (refl, e)

module _ (t : Op → Bool) where
  kept_whole : (o : Op) (os : Ops) (b : Bool) → b ≡ false → edited (λ v. v) t o ≡ o → ops_uses (λ v. v) (ops_without t os) ≡ os
      → ops_uses (λ v. v) (if b then ops_without t os else more_ops (op_without t o) (ops_without t os)) ≡ more_ops o os
  kept_whole o os true none a b = absurd (true≢false none)
  kept_whole o os false none a b = ap (λ x. more_ops x (ops_uses (λ v. v) (ops_without t os))) a ∙ ap (more_ops o) b

  mutual
    pub op_whole : (o : Op) → op_inside t o ≡ false → edited (λ v. v) t o ≡ o
    op_whole (op k results operands rs successors) none =
        ap (λ vs. op k results vs (regions_uses (λ v. v) (regions_without t rs)) successors) (map_same operands)
        ∙ ap (λ r. op k results operands r successors) (regions_whole rs none)

    regions_whole : (rs : Regions) → regions_any t rs ≡ false → regions_uses (λ v. v) (regions_without t rs) ≡ rs
    regions_whole end_of_regions none = refl
    regions_whole (region bs more) none =
        let parts = or_false (blocks_any t bs) (regions_any t more) none in
        ap (λ x. region x (regions_uses (λ v. v) (regions_without t more))) (blocks_whole bs parts.0) ∙ ap (region bs) (regions_whole more parts.1)

    blocks_whole : (bs : Blocks) → blocks_any t bs ≡ false → blocks_uses (λ v. v) (blocks_without t bs) ≡ bs
    blocks_whole end_of_blocks none = refl
    blocks_whole (block label args os more) none =
        let parts = or_false (ops_any t os) (blocks_any t more) none in
        ap (λ x. block label args x (blocks_uses (λ v. v) (blocks_without t more))) (ops_whole os parts.0) ∙ ap (block label args os) (blocks_whole more parts.1)

    ops_whole : (os : Ops) → ops_any t os ≡ false → ops_uses (λ v. v) (ops_without t os) ≡ os
    ops_whole end_of_ops none = refl
    ops_whole (more_ops o os) none =
        let parts = or_false (t o) (op_inside t o || ops_any t os) none in
        let rest = or_false (op_inside t o) (ops_any t os) parts.1 in
        kept_whole o os (t o) parts.0 (op_whole o rest.0) (ops_whole os rest.1)

-- Each operand itself

mutual
  pub op_same : (o : Op) → op_uses (λ v. v) o ≡ o
  op_same (op k results operands rs successors) =
      ap (λ vs. op k results vs (regions_uses (λ v. v) rs) successors) (map_same operands) ∙ ap (λ r. op k results operands r successors) (regions_same rs)

  regions_same : (rs : Regions) → regions_uses (λ v. v) rs ≡ rs
  regions_same end_of_regions = refl
  regions_same (region bs more) = ap (λ x. region x (regions_uses (λ v. v) more)) (blocks_same bs) ∙ ap (region bs) (regions_same more)

  blocks_same : (bs : Blocks) → blocks_uses (λ v. v) bs ≡ bs
  blocks_same end_of_blocks = refl
  blocks_same (block label args os more) =
      ap (λ x. block label args x (blocks_uses (λ v. v) more)) (ops_same os) ∙ ap (block label args os) (blocks_same more)

  ops_same : (os : Ops) → ops_uses (λ v. v) os ≡ os
  ops_same end_of_ops = refl
  ops_same (more_ops o os) = ap (λ x. more_ops x (ops_uses (λ v. v) os)) (op_same o) ∙ ap (more_ops o) (ops_same os)
