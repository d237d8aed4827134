use Rattle.std.proofs.Common.{◌≡◌, ℕ, ◌+◌, ◌∙◌, List, Option, None, ap, drop, length, map, sym, arith}
use Rattle.std.proofs.lemmas.Grind.{common_steps}
use Rattle.plain_tree.specs.Types.{plain_type}
use Rattle.conversion_model.specs.Templates.{Template}
use Rattle.conversion_model.specs.Chosen.{Leaves, change_of, chosen}
use Rattle.conversion_model.specs.Choice.{entry_leaves}
use Rattle.conversion_target.specs.Targets.{target_of}
use Rattle.unit_slots.specs.Slots.{plain_part}
use Rattle.unit_choices.specs.Entries.{begun, goes_on}
use Rattle.unit_choices.proofs.EntryLaws.{bad_one, good_one, part_next}
use Rattle.unit_choices.proofs.entry.entry_steps.Goals as goal

pub returns-then-not-branch : goal.returns-then-not-branch
returns-then-not-branch g c =
    let leaves : Leaves = chosen c.args.pass.now.bits (target_of c.args.pass.now.target.now) (g.R.Rows.table c.args.pass.now.set.now) c.args.path.now in
    let rest : ℕ → ℕ → Option Template = λ base n. entry_leaves (change_of c.args.pass.now.bits c.args.converted) leaves (map (λ v. plain_type v.1) (drop (c.each.place + 1) c.args.args.now)) base (map plain_part (drop (c.each.place + 1) c.args.parts.now)) n in
    sym (sym c.each.invariant
    ∙ ap (begun c.each.entry) (part_next (change_of c.args.pass.now.bits c.args.converted) leaves c.args.args.now c.args.parts.now c.each.place c.each.entry.base c.each.entry.draft.count c.index-args-place.result c.in-Some.part.now
    c.each-test.true c.in-Some.ensures.lookup.3.0 c.index-args-place.is (c.in-Some.ensures.lookup.3.1 c.in-Some.part.now))
    ∙ c.in_ok-put_part.ensures rest
    ∙ bad_one c.in_ok-put_part.field-0 (goes_on c.put_part.new.entry rest) None (grind (arith, common_steps)))

pub each-preserved : goal.each-preserved
each-preserved g c =
    let leaves : Leaves = chosen c.args.pass.now.bits (target_of c.args.pass.now.target.now) (g.R.Rows.table c.args.pass.now.set.now) c.args.path.now in
    let rest : ℕ → ℕ → Option Template = λ base n. entry_leaves (change_of c.args.pass.now.bits c.args.converted) leaves (map (λ v. plain_type v.1) (drop (c.each.place + 1) c.args.args.now)) base (map plain_part (drop (c.each.place + 1) c.args.parts.now)) n in
    sym (ap (begun c.each.entry) (part_next (change_of c.args.pass.now.bits c.args.converted) leaves c.args.args.now c.args.parts.now c.each.place c.each.entry.base c.each.entry.draft.count c.index-args-place.result c.in-Some.part.now
    c.each-test.true c.in-Some.ensures.lookup.3.0 c.index-args-place.is (c.in-Some.ensures.lookup.3.1 c.in-Some.part.now))
    ∙ c.in_ok-put_part.ensures rest
    ∙ good_one c.in_ok-put_part.field-0 (goes_on c.put_part.new.entry rest) None (grind (arith, common_steps)))
    ∙ c.each.invariant
