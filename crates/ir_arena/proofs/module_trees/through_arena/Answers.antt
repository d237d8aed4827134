use Rattle.std.proofs.Common.{◌≡◌, arith, sym, subst}
use Rattle.std.proofs.lemmas.Grind.{common_steps}
use Rattle.tree_shape.specs.Same.{Same}
use Rattle.ir_arena.proofs.module_trees.through_arena.Goals as goal

pub returns : goal.returns
returns g c = let s = c.in_ok-func.ensures.shows in
    let e : c.in_ok-tree.tree ≡ s.0 = grind (arith, common_steps, c.to_tree.ensures.tree s.0 s.1.1) in
    subst (Same c.args.tree.now) (sym e) s.1.0
