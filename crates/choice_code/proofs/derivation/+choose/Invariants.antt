use Rattle.std.proofs.Common.{◌≡◌, ◌+◌, ◌*◌, drop, map}
use Rattle.conversion_model.specs.Chosen.{Ending, products}
use Rattle.conversion_target.specs.Targets.{target_of}
use Rattle.legal_graph.specs.Graphs.{order_in_graph}
use Rattle.row_code.specs.Shapes.{shape_of}
use Rattle.choice_code.specs.Choosing.{by_places, chosen_by}
use Rattle.choice_code.specs.Drafts.{behind, done_of, state_of}
use Rattle.choice_code.specs.Plain.{plain_step}
use Rattle.choice_code.proofs.derivation.+choose.Given as goal

abbrev pub decreases-chosen_within : goal.decreases-chosen_within
decreases-chosen_within g l = 6 * l.room

abbrev pub decreases-product : goal.decreases-product
decreases-product g l = 6 * l.room + 1

abbrev pub decreases-products : goal.decreases-products
decreases-products g l = 6 * l.room + 2

abbrev pub decreases-by_template : goal.decreases-by_template
decreases-by_template g l = 6 * l.room + 3

abbrev pub decreases-by_pattern : goal.decreases-by_pattern
decreases-by_pattern g l = 6 * l.room + 4

abbrev pub decreases-first_of : goal.decreases-first_of
decreases-first_of g l = 6 * l.room + 5

abbrev pub invariant-first_of-each : goal.invariant-first_of-each
invariant-first_of-each g l =
    let table = g.R.Rows.table l.pass.set.now in
    let leaves = chosen_by l.pass.bits (target_of l.pass.target.now) table (order_in_graph l.pass.graph.now) l.room in
    by_places l.pass.bits table leaves l.path (shape_of l.shape) (drop l.place-index l.places) ≡ by_places l.pass.bits table leaves l.path (shape_of l.shape) l.places

abbrev pub invariant-products-each : goal.invariant-products-each
invariant-products-each g l =
    let table = g.R.Rows.table l.pass.set.now in
    let leaves = chosen_by l.pass.bits (target_of l.pass.target.now) table (order_in_graph l.pass.graph.now) l.room l.path in
    (last : Ending) → behind (done_of l.initial.draft) (products leaves last (map plain_step l.steps) (state_of l.initial.draft))
    ≡ behind (done_of l.draft) (products leaves last (map plain_step (drop l.step-index l.steps)) (state_of l.draft))
