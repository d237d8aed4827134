-- The values of each layer of a tree, and the types of values one after another.
use Rattle.std.proofs.Common.{◌≡◌, ℕ, ◌==◌, Bool, true, false, [], ◌∷◌, ◌++◌, map, refl, ap, ◌∙◌}
use Rattle.std.specs.Prelude.{flat_map, Option, Some, None, is_some, if◌then◌else◌}
use Rattle.std.proofs.Math.Path.{fun_ext}
use Rattle.std.proofs.lemmas.Bool.Decides.{Decides-eqb}
use Rattle.std.proofs.lemmas.Grind.{common_steps}
use Rattle.tree_model.specs.declared.type_tree.TypeTree.{TypeTree}
use Rattle.tree_model.specs.declared.op_tree.BlockTree.{BlockTree, out-BlockTree, fold_out-BlockTree}
use Rattle.tree_model.specs.declared.op_tree.OpTree.{OpTree, out-OpTree, fold_out-OpTree}
use Rattle.tree_model.specs.declared.op_tree.RegionTree.{RegionTree, out-RegionTree, fold_out-RegionTree}
use Rattle.form_model.specs.Decoding.{Values, values_of_block, values_of_op, values_of_region, values_in, type_among}
use Rattle.decode_code.specs.TypesIn.{at_start, values_in_block, values_in_region, with_first, with_types}

pub values_in_op_at : (o : OpTree) → values_in o ≡ (out-OpTree o).results ++ flat_map (λ vs. vs) (map values_in_region (out-OpTree o).regions)
unfolding values_in values_in_region
values_in_op_at o = fold_out-OpTree Values Values Values values_of_block values_of_op values_of_region o

pub values_in_block_at : (b : BlockTree) → values_in_block b ≡ (out-BlockTree b).args ++ flat_map (λ vs. vs) (map values_in (out-BlockTree b).ops)
unfolding values_in values_in_block
values_in_block_at b = fold_out-BlockTree Values Values Values values_of_block values_of_op values_of_region b

pub values_in_region_at : (r : RegionTree) → values_in_region r ≡ flat_map (λ vs. vs) (map values_in_block (out-RegionTree r).blocks)
unfolding values_in_region values_in_block
values_in_region_at r = fold_out-RegionTree Values Values Values values_of_block values_of_op values_of_region r

pub with_types-append : (f : ℕ → Option TypeTree) (xs ys : Values) → with_types f (xs ++ ys) ≡ with_types (with_types f xs) ys
with_types-append f [] ys = refl
with_types-append f (x ∷ xs) ys = with_types-append (with_first f x.0 x.1) xs ys

-- the first of two that is there
abbrev first_of : Option TypeTree → Option TypeTree → Option TypeTree
first_of (Some t) o = Some t
first_of None o = o

first_step : (a b : Option TypeTree) (same : Bool) (t : TypeTree) (rest : Option TypeTree) → (same ≡ true → b ≡ a)
    → first_of (if is_some b then a else (if same then Some t else a)) rest ≡ first_of a (if same then Some t else rest)
first_step (Some x) (Some y) true t rest h = refl
first_step (Some x) None true t rest h = let e = h refl in absurd (cc)
first_step (Some x) (Some y) false t rest h = refl
first_step (Some x) None false t rest h = refl
first_step None (Some y) true t rest h = let e = h refl in absurd (cc)
first_step None None true t rest h = refl
first_step None (Some y) false t rest h = refl
first_step None None false t rest h = refl

types_are : (vs : Values) (f : ℕ → Option TypeTree) (n : ℕ) → with_types f vs n ≡ first_of (f n) (type_among vs n)
types_are [] f n = nothing_more (f n)
  where
    nothing_more : (a : Option TypeTree) → a ≡ first_of a None
    nothing_more (Some x) = refl
    nothing_more None = refl
types_are (v ∷ vs) f n =
    types_are vs (with_first f v.0 v.1) n
    ∙ first_step (f n) (f v.0) (v.0 == n) v.1 (type_among vs n) (λ h. ap f ((Decides-eqb v.0 n).0 h))

-- all values from the start on
pub types_from_start : (vs : Values) → with_types at_start vs ≡ type_among vs
types_from_start vs = fun_ext (λ n. types_are vs at_start n)

pub ruleset layers = (common_steps, values_in_op_at, values_in_block_at, values_in_region_at, with_types-append, types_from_start)
