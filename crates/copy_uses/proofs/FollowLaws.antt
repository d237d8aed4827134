-- Pairs that are followed one after another.
use Rattle.std.proofs.Common.{◌≡◌, ℕ, ◌+◌, ◌<◌, ◌≤◌, ◌==◌, true, List, [], ◌∷◌, drop, length, get_or, refl, sym, ap, ◌∙◌}
use Rattle.std.proofs.Math.Path.{fun_ext}
use Rattle.std.proofs.lemmas.List.{drop_all, drop_more, map-id, nil_from_length}
use Rattle.std.proofs.lemmas.Bool.Decides.{Decides-eqb}
use Rattle.plain_tree.specs.Ops.{Op, op, Ops, end_of_ops, more_ops, Regions, end_of_regions, region, Blocks, end_of_blocks, block}
use Rattle.conversion_model.specs.Uses.{blocks_uses, followed, is_copy, op_uses, op_without, ops_uses, regions_uses, replaced}
use Rattle.copy_uses.specs.Layered.{CopiesLeftOut}

-- one pair more: what stood for each value before, and what stands for it now
pair_step : (c : ℕ × ℕ) (left : List (ℕ × ℕ)) (old new : ℕ → ℕ) (v : ℕ) → ((n : ℕ) → new n ≡ replaced c.0 (old c.1) (old n))
    → followed left new (new v) ≡ followed (c ∷ left) old (old v)
pair_step c left old new v h = ap (λ (f : ℕ → ℕ). followed left f (f v)) (fun_ext h)

pub pair_followed : (pairs : List (ℕ × ℕ)) (i : ℕ) (d : ℕ × ℕ) (old new all : ℕ → ℕ) → i < length pairs
    → ((n : ℕ) → new n ≡ replaced (get_or pairs i d).0 (old (get_or pairs i d).1) (old n))
    → ((v : ℕ) → followed (drop i pairs) old (old v) ≡ all v) → (v : ℕ) → followed (drop (i + 1) pairs) new (new v) ≡ all v
pair_followed pairs i d old new all below h before v =
    pair_step (get_or pairs i d) (drop (i + 1) pairs) old new v h ∙ ap (λ cs. followed cs old (old v)) (sym (drop_more pairs i d below)) ∙ before v

pub all_followed : (pairs : List (ℕ × ℕ)) (i : ℕ) (now all : ℕ → ℕ) → length pairs ≤ i → ((v : ℕ) → followed (drop i pairs) now (now v) ≡ all v) → now ≡ all
all_followed pairs i now all over before = fun_ext (λ v. sym (ap (λ cs. followed cs now (now v)) (drop_all i pairs over)) ∙ before v)

-- a tree in which each value stands for itself

abbrev itself : ℕ → ℕ
itself v = v

mutual
  op_itself : (o : Op) → op_uses itself o ≡ o
  op_itself (op k results operands regions successors) =
      ap (λ ns. op k results ns (regions_uses itself regions) successors) (map-id operands) ∙ ap (λ rs. op k results operands rs successors) (regions_itself regions)

  ops_itself : (os : Ops) → ops_uses itself os ≡ os
  ops_itself end_of_ops = refl
  ops_itself (more_ops o os) = ap (λ p. more_ops p (ops_uses itself os)) (op_itself o) ∙ ap (more_ops o) (ops_itself os)

  regions_itself : (rs : Regions) → regions_uses itself rs ≡ rs
  regions_itself end_of_regions = refl
  regions_itself (region blocks more) = ap (λ bs. region bs (regions_uses itself more)) (blocks_itself blocks) ∙ ap (region blocks) (regions_itself more)

  blocks_itself : (bs : Blocks) → blocks_uses itself bs ≡ bs
  blocks_itself end_of_blocks = refl
  blocks_itself (block label args ops more) =
      ap (λ os. block label args os (blocks_uses itself more)) (ops_itself ops) ∙ ap (block label args ops) (blocks_itself more)

pub none_followed : (pairs : List (ℕ × ℕ)) (o : Op) → true ≡ (length pairs == 0) → o ≡ op_uses (followed pairs (λ v. v)) o
none_followed pairs o none =
    let is : pairs ≡ [] = nil_from_length pairs ((Decides-eqb (length pairs) 0).0 (sym none)) in
    sym (ap (λ ps. op_uses (followed ps (λ v. v)) o) is ∙ op_itself o)

pub copies_left : CopiesLeftOut
copies_left f written pairs tree e = ap (op_uses (followed pairs (λ v. v))) tree ∙ ap (λ ps. op_uses (followed ps (λ v. v)) (op_without is_copy f)) e
