use Rattle.std.proofs.Common.{◌≡◌, drop, map}
use Rattle.plain_tree.specs.Types.{plain_type}
use Rattle.conversion_model.specs.Chosen.{change_of, chosen}
use Rattle.conversion_model.specs.Choice.{entry_leaves}
use Rattle.conversion_target.specs.Targets.{target_of}
use Rattle.unit_slots.specs.Slots.{plain_part}
use Rattle.unit_choices.specs.Entries.{begun}
use Rattle.unit_choices.proofs.entry.entry_steps.Given as goal

abbrev pub invariant-each : goal.invariant-each
invariant-each g l =
    let leaves = chosen l.pass.bits (target_of l.pass.target.now) (g.R.Rows.table l.pass.set.now) l.path in
    begun l.entry (entry_leaves (change_of l.pass.bits l.converted) leaves (map (λ v. plain_type v.1) (drop l.place l.args)) l.entry.base (map plain_part (drop l.place l.parts)) l.entry.draft.count)
    ≡ entry_leaves (change_of l.pass.bits l.converted) leaves (map (λ v. plain_type v.1) l.args) 0 (map plain_part l.parts) 0
