use Rattle.std.proofs.Common.{◌+◌, ◌∙◌, ◌∷◌, [], List, ℕ, ap, length}
use Rattle.std.specs.Prelude.{slice_get}
use Rattle.std.proofs.lemmas.List.{length-map}
use Rattle.conversion_model.specs.Chosen.{Leaves}
use Rattle.conversion_target.specs.Targets.{target_of}
use Rattle.legal_graph.specs.declared.infos.PatternInfo.{PatternInfo}
use Rattle.legal_graph.specs.Graphs.{info_of, order_in_graph}
use Rattle.row_code.specs.Shapes.{shape_of}
use Rattle.choice_code.specs.Choosing.{by_place}
use Rattle.choice_code.proofs.OrderLaws.{leaves_are}
use Rattle.choice_code.proofs.paths.row_leaves.Goals as goal

pub returns : goal.returns
returns g c =
    let table = g.R.Rows.table c.args.pass.now.set.now in
    c.in_ok-found.ensures
    ∙ ap (λ (leaves : List ℕ → Leaves). by_place c.args.pass.now.bits table leaves [] (shape_of c.args.shape.now) c.args.place)
    (leaves_are c.args.pass.now.bits (target_of c.args.pass.now.target.now) table (order_in_graph c.args.pass.now.graph.now) c.in_ok-room.room c.requires
    (c.in_ok-room.ensures ∙ ap (λ (is : List PatternInfo). length is + 1) c.infos.ensures ∙ ap (λ n. n + 1) (length-map table info_of)))
