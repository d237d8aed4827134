-- The values of each layer of a tree, and the types of values one after another.
use Rattle.std.proofs.Common.{◌≡◌, ℕ, ◌==◌, Bool, true, false, [], ◌∷◌, ◌++◌, map, refl, sym, ap, ◌∙◌}
use Rattle.std.specs.Prelude.{Option, Some, None, is_some, unwrap_or, if◌then◌else◌}
use Rattle.std.proofs.Math.Path.{fun_ext}
use Rattle.std.proofs.lemmas.Bool.Decides.{Decides-eqb}
use Rattle.std.proofs.lemmas.Grind.{common_steps}
use Rattle.tree_model.specs.declared.op_tree.BlockTree.{BlockTree, out-BlockTree, fold_out-BlockTree}
use Rattle.tree_model.specs.declared.op_tree.OpTree.{OpTree, out-OpTree, fold_out-OpTree}
use Rattle.tree_model.specs.declared.op_tree.RegionTree.{RegionTree, out-RegionTree, fold_out-RegionTree}
use Rattle.plain_tree.specs.Types.{PlainType, Void}
use Rattle.plain_tree.specs.Attrs.{plain_entries}
use Rattle.plain_tree.specs.Ops.{Op, op, Ops, end_of_ops, more_ops, Regions, end_of_regions, region, Blocks, end_of_blocks, block, PlainBlock, Values, block_at, op_at, region_at, blocks_in, ops_in, regions_in, plain_op, plain_values}
use Rattle.plain_tree.specs.Values.{op_values, ops_values, regions_values, blocks_values, type_in}
use Rattle.value_types.specs.Trees.{plain_block, plain_region}
use Rattle.value_types.specs.Views.{at_start, with_first, with_types}

-- One layer of a tree

pub plain_op_at : (o : OpTree) → plain_op o
    ≡ op (record { name = (out-OpTree o).name; props = plain_entries (out-OpTree o).props; attrs = plain_entries (out-OpTree o).attrs })
    (plain_values (out-OpTree o).results) (out-OpTree o).operands (regions_in (map plain_region (out-OpTree o).regions)) (out-OpTree o).successors
unfolding plain_op plain_region
plain_op_at o = fold_out-OpTree PlainBlock Op Blocks block_at op_at region_at o

pub plain_block_at : (b : BlockTree) → plain_block b
    ≡ record { label = (out-BlockTree b).label; args = plain_values (out-BlockTree b).args; ops = ops_in (map plain_op (out-BlockTree b).ops) }
unfolding plain_op plain_block
plain_block_at b = fold_out-BlockTree PlainBlock Op Blocks block_at op_at region_at b

pub plain_region_at : (r : RegionTree) → plain_region r ≡ blocks_in (map plain_block (out-RegionTree r).blocks)
unfolding plain_region plain_block
plain_region_at r = fold_out-RegionTree PlainBlock Op Blocks block_at op_at region_at r

pub values_in_op : (o : OpTree) (more : Values) → op_values (plain_op o) more ≡ plain_values (out-OpTree o).results ++ regions_values (regions_in (map plain_region (out-OpTree o).regions)) more
values_in_op o more = ap (λ p. op_values p more) (plain_op_at o)

pub args_in_block : (b : BlockTree) → (plain_block b).args ≡ plain_values (out-BlockTree b).args
args_in_block b = ap (λ (p : PlainBlock). p.args) (plain_block_at b)

pub ops_in_block : (b : BlockTree) → (plain_block b).ops ≡ ops_in (map plain_op (out-BlockTree b).ops)
ops_in_block b = ap (λ (p : PlainBlock). p.ops) (plain_block_at b)

-- Values one after another

pub types_joined : (f : ℕ → Option PlainType) (xs ys : Values) → with_types f (xs ++ ys) ≡ with_types (with_types f xs) ys
types_joined f [] ys = refl
types_joined f (x ∷ xs) ys = types_joined (with_first f x.0 x.1) xs ys

mutual
  pub types_of_op : (f : ℕ → Option PlainType) (o : Op) (more : Values) → with_types f (op_values o more) ≡ with_types (with_types f (op_values o [])) more
  types_of_op f (op k results operands regions successors) more =
      types_joined f results (regions_values regions more)
      ∙ types_of_regions (with_types f results) regions more
      ∙ ap (λ g. with_types g more) (sym (types_joined f results (regions_values regions [])))

  pub types_of_ops : (f : ℕ → Option PlainType) (os : Ops) (more : Values) → with_types f (ops_values os more) ≡ with_types (with_types f (ops_values os [])) more
  types_of_ops f end_of_ops more = refl
  types_of_ops f (more_ops o os) more =
      types_of_op f o (ops_values os more)
      ∙ types_of_ops (with_types f (op_values o [])) os more
      ∙ ap (λ g. with_types g more) (sym (types_of_op f o (ops_values os [])))

  pub types_of_regions : (f : ℕ → Option PlainType) (rs : Regions) (more : Values) → with_types f (regions_values rs more) ≡ with_types (with_types f (regions_values rs [])) more
  types_of_regions f end_of_regions more = refl
  types_of_regions f (region blocks rest) more =
      types_of_blocks f blocks (regions_values rest more)
      ∙ types_of_regions (with_types f (blocks_values blocks [])) rest more
      ∙ ap (λ g. with_types g more) (sym (types_of_blocks f blocks (regions_values rest [])))

  pub types_of_blocks : (f : ℕ → Option PlainType) (bs : Blocks) (more : Values) → with_types f (blocks_values bs more) ≡ with_types (with_types f (blocks_values bs [])) more
  types_of_blocks f end_of_blocks more = refl
  types_of_blocks f (block label args ops rest) more =
      types_joined f args (ops_values ops (blocks_values rest more))
      ∙ types_of_ops (with_types f args) ops (blocks_values rest more)
      ∙ types_of_blocks (with_types (with_types f args) (ops_values ops [])) rest more
      ∙ ap (λ g. with_types g more) (sym (types_joined f args (ops_values ops (blocks_values rest [])) ∙ types_of_ops (with_types f args) ops (blocks_values rest [])))

-- All values from the start on

-- the first of two that is there
abbrev first_of : Option PlainType → Option PlainType → Option PlainType
first_of (Some t) o = Some t
first_of None o = o

first_step : (a b : Option PlainType) (same : Bool) (t : PlainType) (rest : Option PlainType) → (same ≡ true → b ≡ a)
    → first_of (if is_some b then a else (if same then Some t else a)) rest ≡ first_of a (if same then Some t else rest)
first_step (Some x) (Some y) true t rest h = refl
first_step (Some x) None true t rest h = let e = h refl in absurd (cc)
first_step (Some x) (Some y) false t rest h = refl
first_step (Some x) None false t rest h = refl
first_step None (Some y) true t rest h = let e = h refl in absurd (cc)
first_step None None true t rest h = refl
first_step None (Some y) false t rest h = refl
first_step None None false t rest h = refl

abbrev among : Values → ℕ → Option PlainType
among [] n = None
among (v ∷ vs) n = if v.0 == n then Some v.1 else among vs n

types_are : (vs : Values) (f : ℕ → Option PlainType) (n : ℕ) → with_types f vs n ≡ first_of (f n) (among vs n)
types_are [] f n = nothing_more (f n)
  where
    nothing_more : (a : Option PlainType) → a ≡ first_of a None
    nothing_more (Some x) = refl
    nothing_more None = refl
types_are (v ∷ vs) f n =
    types_are vs (with_first f v.0 v.1) n
    ∙ first_step (f n) (f v.0) (v.0 == n) v.1 (among vs n) (λ h. ap f ((Decides-eqb v.0 n).0 h))

or_void : (vs : Values) (n : ℕ) → unwrap_or (among vs n) Void ≡ type_in vs n
or_void [] n = refl
or_void (v ∷ vs) n = go (v.0 == n) (or_void vs n)
  where
    go : (b : Bool) → unwrap_or (among vs n) Void ≡ type_in vs n → unwrap_or (if b then Some v.1 else among vs n) Void ≡ (if b then v.1 else type_in vs n)
    go true e = refl
    go false e = e

from_start : (vs : Values) → (λ n. unwrap_or (with_types at_start vs n) Void) ≡ type_in vs
from_start vs = fun_ext (λ n. ap (λ o. unwrap_or o Void) (types_are vs at_start n) ∙ or_void vs n)

-- a table that began empty and then had these values
abbrev or_void_at : (ℕ → Option PlainType) → ℕ → PlainType
or_void_at h = λ n. unwrap_or (h n) Void

pub table_is : (f g : ℕ → Option PlainType) (vs : Values) → g ≡ at_start → f ≡ with_types g vs → (λ n. unwrap_or (f n) Void) ≡ type_in vs
table_is f g vs start e =
    let whole : f ≡ with_types at_start vs = e ∙ ap (λ (h : ℕ → Option PlainType). with_types h vs) start in
    ap (λ (h : ℕ → Option PlainType). or_void_at h) whole ∙ from_start vs

pub ruleset layers = (common_steps, values_in_op, args_in_block, ops_in_block, plain_region_at, types_joined, types_of_op, types_of_blocks, types_of_ops)
