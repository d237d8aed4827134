-- Lists of values with the same types have the same types at each place.
use Rattle.std.proofs.Common.{ℕ, ap, rules}
use Rattle.std.proofs.lemmas.Slice.Zip.{zip_turn}
use Rattle.tree_model.specs.declared.type_tree.TypeTree.{TypeTree}
use Rattle.tree_shape.proofs.AlikeLaws.{map_alike_at}
use Rattle.tree_shape.proofs.alike.alike_values.Goals as goal

pub returns-then-not-same_type : goal.returns-then-not-same_type
returns-then-not-same_type c =
    let turn = zip_turn c.args.a.now c.args.b.now c.loop-v.yielded c.into_iter-v-iterator.result c.loop-v.v-iterator c.next.new.self c.next.result (search rules) (search rules) c.loop-v.yielded_by (c.in-Some.v, c.in-Some.w) c.in-Some.is c.next.ensures.steps in
    ((λ h. search rules), (λ e. let alike = ap (λ (v : ℕ × TypeTree). v.1) (map_alike_at (λ (v : ℕ × TypeTree). (0, v.1)) c.args.a.now c.args.b.now _ c.in-Some.v.now c.in-Some.w.now e turn.0 turn.1 turn.2 turn.3) in search rules))
