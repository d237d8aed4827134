use Rattle.std.proofs.Common.{◌+◌, ◌∙◌, drop, map, sym, None, arith}
use Rattle.std.proofs.lemmas.Grind.{common_steps}
use Rattle.std.specs.Prelude.{if◌then◌else◌}
use Rattle.conversion_model.specs.Chosen.{Ending, Leaves, change_of, products}
use Rattle.conversion_target.specs.Targets.{target_of}
use Rattle.legal_graph.specs.Graphs.{order_in_graph}
use Rattle.row_code.specs.Shapes.{shape_of}
use Rattle.choice_code.specs.Choosing.{chosen_by}
use Rattle.choice_code.specs.Drafts.{done_of, going_on, state_of}
use Rattle.choice_code.specs.Plain.{plain_or_none, plain_step}
use Rattle.choice_code.proofs.ChoiceLaws.{bad_is, good_is, last_of, pattern_is, product_next, products_ended, results_are, template_is}
use Rattle.choice_code.proofs.derivation.+choose.Goals as goal

pub by_pattern-returns : goal.by_pattern-returns
by_pattern-returns g t c =
    let table = g.R.Rows.table c.args.pass.now.set.now in
    pattern_is c.args.pass.now.bits table (chosen_by c.args.pass.now.bits (target_of c.args.pass.now.target.now) table (order_in_graph c.args.pass.now.graph.now) c.args.room)
    c.args.path.now c.as_slice.result.now (shape_of c.args.shape.now) c.args.place c.infos.result.now c.in-Some.row c.in_ok-row.field-0 c.is_converted-converted.result (plain_or_none c.in_ok-found.found)
    (sym c.contains.ensures.value ∙ c.if-contains.false) c.in_ok-row.ensures c.in-Some.is (c.as_slice.ensures.value ∙ c.in_ok-path.ensures) c.infos.ensures c.is_converted-converted.ensures c.in_ok-found.ensures

pub by_template-returns-then-not-branch : goal.by_template-returns-then-not-branch
by_template-returns-then-not-branch g t c =
    let leaves : Leaves = chosen_by c.args.pass.now.bits (target_of c.args.pass.now.target.now) (g.R.Rows.table c.args.pass.now.set.now) (order_in_graph c.args.pass.now.graph.now) c.args.room c.args.path.now in
    sym (template_is (change_of c.args.pass.now.bits c.args.converted) leaves c.args.shape.now c.args.row.now c.as_slice.result.now c.as_slice-2.result.now c.new-draft.result c.take_operands.new.self
    (λ last. if c.in_ok-products.field-0 then going_on c.products.new.draft last else None)
    c.as_slice.ensures c.as_slice-2.ensures c.new-draft.ensures.steps c.new-draft.ensures.state c.in_ok-take_operands.ensures c.in_ok-products.ensures
    ∙ bad_is c.in_ok-products.field-0 (going_on c.products.new.draft (last_of (change_of c.args.pass.now.bits c.args.converted) c.args.shape.now c.args.row.now)) None (grind (arith, common_steps)))

pub by_template-returns : goal.by_template-returns
by_template-returns g t c =
    let leaves : Leaves = chosen_by c.args.pass.now.bits (target_of c.args.pass.now.target.now) (g.R.Rows.table c.args.pass.now.set.now) (order_in_graph c.args.pass.now.graph.now) c.args.room c.args.path.now in
    c.in_ok-whole.ensures
    ∙ results_are (change_of c.args.pass.now.bits c.args.converted) c.args.shape.now c.args.row.now c.products.new.draft c.as_slice-results.result.now c.as_slice-3.result.now c.as_slice-results.ensures c.as_slice-3.ensures
    ∙ sym (template_is (change_of c.args.pass.now.bits c.args.converted) leaves c.args.shape.now c.args.row.now c.as_slice.result.now c.as_slice-2.result.now c.new-draft.result c.take_operands.new.self
    (λ last. if c.in_ok-products.field-0 then going_on c.products.new.draft last else None)
    c.as_slice.ensures c.as_slice-2.ensures c.new-draft.ensures.steps c.new-draft.ensures.state c.in_ok-take_operands.ensures c.in_ok-products.ensures
    ∙ good_is c.in_ok-products.field-0 (going_on c.products.new.draft (last_of (change_of c.args.pass.now.bits c.args.converted) c.args.shape.now c.args.row.now)) None (grind (arith, common_steps)))

pub products-returns-then-not-branch : goal.products-returns-then-not-branch
products-returns-then-not-branch g t c = λ last.
    let leaves : Leaves = chosen_by c.args.pass.now.bits (target_of c.args.pass.now.target.now) (g.R.Rows.table c.args.pass.now.set.now) (order_in_graph c.args.pass.now.graph.now) c.args.room c.args.path.now in
    let rest : Ending = products leaves last (map plain_step (drop (c.each.step-index + 1) c.args.steps.now)) in
    c.each.invariant last
    ∙ product_next leaves c.args.steps.now c.each.step-index c.step-item.result (done_of c.each.draft) (state_of c.each.draft) c.each-test.true c.step-item.is last
    ∙ c.in_ok-product.ensures rest
    ∙ bad_is c.in_ok-product.field-0 (going_on c.product.new.draft rest) None (grind (arith, common_steps))

pub products-each-preserved : goal.products-each-preserved
products-each-preserved g t c = λ last.
    let leaves : Leaves = chosen_by c.args.pass.now.bits (target_of c.args.pass.now.target.now) (g.R.Rows.table c.args.pass.now.set.now) (order_in_graph c.args.pass.now.graph.now) c.args.room c.args.path.now in
    let rest : Ending = products leaves last (map plain_step (drop (c.each.step-index + 1) c.args.steps.now)) in
    c.each.invariant last
    ∙ product_next leaves c.args.steps.now c.each.step-index c.step-item.result (done_of c.each.draft) (state_of c.each.draft) c.each-test.true c.step-item.is last
    ∙ c.in_ok-product.ensures rest
    ∙ good_is c.in_ok-product.field-0 (going_on c.product.new.draft rest) None (grind (arith, common_steps))

pub products-returns : goal.products-returns
products-returns g t c = λ last.
    let leaves : Leaves = chosen_by c.args.pass.now.bits (target_of c.args.pass.now.target.now) (g.R.Rows.table c.args.pass.now.set.now) (order_in_graph c.args.pass.now.graph.now) c.args.room c.args.path.now in
    c.each.invariant last ∙ products_ended leaves c.args.steps.now c.each.step-index (done_of c.each.draft) (state_of c.each.draft) c.each-test.false last
