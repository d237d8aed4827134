-- The line of a tree by its parts.
use Rattle.std.proofs.Common.{◌≡◌, ◌==◌, suc, List, [], ◌∷◌, length, map, refl, sym, ap, ◌∙◌}
use Rattle.std.specs.Prelude.{codes}
use Rattle.std.specs.Str.{bytes_eq}
use Rattle.std.proofs.lemmas.Grind.{common_steps}
use Rattle.std.proofs.Math.Dec.{eqb-suc-zero}
use Rattle.tree_model.specs.declared.op_tree.OpTree.{OpTree, out-OpTree}
use Rattle.plain_tree.specs.Ops.{Blocks, plain_op, plain_values, regions_in}
use Rattle.conversion_model.specs.Conversion.{regions_of}
use Rattle.tree_uses.specs.Edited.{op_from, plain_region}
use Rattle.tree_uses.proofs.Layers.{op_plain_at}
use Rattle.tree_reconcile.specs.Lines.{has_no_regions, has_none_at, is_bare, is_bare_at, line_at, line_of}

pub line_at_is : (o : OpTree) → line_at o ≡ record { is_cast = bytes_eq (out-OpTree o).name (codes "builtin.unrealized_conversion_cast"); results = plain_values (out-OpTree o).results; operands = (out-OpTree o).operands }
unfolding line_at op_from
line_at_is o = ap line_of (op_plain_at o)

none_if_empty : (rs : List Blocks) → has_no_regions (regions_in rs) ≡ (length rs == 0)
none_if_empty [] = refl
none_if_empty (r ∷ rs) = sym (eqb-suc-zero (length rs))

as_many : {A B : Type 0} (f : A → B) (xs : List A) → length (map f xs) ≡ length xs
as_many f [] = refl
as_many f (x ∷ xs) = ap suc (as_many f xs)

pub has_none_at_is : (o : OpTree) → has_none_at o ≡ (length (out-OpTree o).regions == 0)
unfolding has_none_at op_from
has_none_at_is o =
    ap (λ x. has_no_regions (regions_of x)) (op_plain_at o) ∙ none_if_empty (map plain_region (out-OpTree o).regions)
    ∙ ap (λ n. n == 0) (as_many plain_region (out-OpTree o).regions)

pub bare_is : (o : OpTree) → is_bare_at o ≡ is_bare (plain_op o)
unfolding has_none_at line_at
bare_is o = refl

pub ruleset layers = (common_steps, line_at_is, has_none_at_is)
