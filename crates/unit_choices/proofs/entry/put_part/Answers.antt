use Rattle.std.proofs.Common.{◌≡◌, ℕ, ◌+◌, ◌∙◌, List, Option, ap, length, map, sym, arith}
use Rattle.std.proofs.lemmas.Grind.{common_steps}
use Rattle.std.proofs.lemmas.List.{length-map}
use Rattle.tree_model.specs.declared.type_tree.TypeTree.{TypeTree}
use Rattle.plain_tree.specs.Types.{plain_type}
use Rattle.conversion_model.specs.declared.templates.StepTree.{StepTree}
use Rattle.conversion_model.specs.Chosen.{Ending, Leaves, change_of, chosen, here, products}
use Rattle.conversion_model.specs.Choice.{at_part, first_result, give_part}
use Rattle.conversion_target.specs.Targets.{target_of}
use Rattle.choice_code.specs.Drafts.{behind, done_of, state_of}
use Rattle.choice_code.specs.Plain.{plain_step}
use Rattle.unit_choices.specs.declared.entry.Entry.{Entry}
use Rattle.unit_choices.proofs.EntryLaws.{part_fails, part_given}
use Rattle.unit_choices.proofs.entry.put_part.Goals as goal

pub returns-then-not-branch : goal.returns-then-not-branch
returns-then-not-branch g c = λ rest.
    let leaves : Leaves = chosen c.args.pass.now.bits (target_of c.args.pass.now.target.now) (g.R.Rows.table c.args.pass.now.set.now) c.args.path.now in
    let d : Entry = c.args.entry.now in
    let last : Ending = λ s. give_part (change_of c.args.pass.now.bits c.args.converted (plain_type c.args.t.now)) (plain_type c.args.t.now) (first_result (map (here s) c.args.part.now.gives.results))
    (rest (d.base + length (map plain_type c.args.part.now.takes))) s.count in
    part_fails leaves last d c.begin.new.self (at_part d.base (map plain_type c.args.part.now.takes) d.draft.count) (map plain_step c.args.part.now.gives.steps) c.products_on.new.draft c.in_ok-products_on.field-0
    (c.in_ok-begin.ensures.state ∙ ap (λ (ts : List TypeTree). at_part d.base (map plain_type ts) d.draft.count) c.as_slice.ensures) c.in_ok-begin.ensures.done c.in_ok-begin.ensures.results
    (sym (ap (λ (ss : List StepTree). behind (done_of c.begin.new.self.draft) (products leaves last (map plain_step ss) (state_of c.begin.new.self.draft))) c.as_slice-steps.ensures) ∙ c.in_ok-products_on.ensures last)
    (grind (arith, common_steps))

pub returns : goal.returns
returns g c = λ rest.
    let leaves : Leaves = chosen c.args.pass.now.bits (target_of c.args.pass.now.target.now) (g.R.Rows.table c.args.pass.now.set.now) c.args.path.now in
    let d : Entry = c.args.entry.now in
    part_given leaves (change_of c.args.pass.now.bits c.args.converted (plain_type c.args.t.now)) (plain_type c.args.t.now) d c.begin.new.self
    (record { draft = c.products_on.new.draft; results = c.begin.new.self.results; base = c.begin.new.self.base }) c.give.new.self
    (map plain_step c.args.part.now.gives.steps) c.args.part.now.gives.results (map plain_type c.args.part.now.takes) c.first_result-value.result c.in_ok-products_on.field-0
    (c.in_ok-begin.ensures.state ∙ ap (λ (ts : List TypeTree). at_part d.base (map plain_type ts) d.draft.count) c.as_slice.ensures) c.in_ok-begin.ensures.done c.in_ok-begin.ensures.results
    (λ last. sym (ap (λ (ss : List StepTree). behind (done_of c.begin.new.self.draft) (products leaves last (map plain_step ss) (state_of c.begin.new.self.draft))) c.as_slice-steps.ensures) ∙ c.in_ok-products_on.ensures last)
    (grind (arith, common_steps)) (grind (arith, common_steps)) (grind (arith, common_steps))
    c.in_ok-give.ensures.given
    (c.in_ok-give.ensures.base ∙ c.in_ok-begin.ensures.base ∙ ap (λ (ts : List TypeTree). d.base + length ts) c.as_slice.ensures ∙ ap (λ n. d.base + n) (sym (length-map c.args.part.now.takes plain_type)))
    rest
