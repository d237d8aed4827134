use Rattle.std.proofs.Common.{◌≡◌, ◌+◌, Bool, length}
use Rattle.conversion_model.specs.Conversion.{Supply}
use Rattle.conversion_target.specs.Targets.{target_of}
use Rattle.tree_walk.specs.Walks.{plain_ops}
use Rattle.value_types.specs.Views.{type_at}
use Rattle.unit_views.specs.Modes.{mode_of}
use Rattle.unit_choices.specs.Answers.{pass_of}
use Rattle.unit_choices.specs.Memos.{Remembers}
use Rattle.unit_choices.specs.Slotting.{EachSeparate}
use Rattle.unit_choices.proofs.SlotLaws.{SoFar}
use Rattle.unit_choices.proofs.slotting.slots.Given as goal

abbrev pub invariant-each : goal.invariant-each
invariant-each g l =
    (length l.slots.items ≡ l.place + 1)
    × Remembers l.pass.bits (target_of l.pass.target.now) (g.S.Rows.table l.pass.set.now) (mode_of l.mode) l.memo.items
    × ((blocks : Bool) (new : Supply) → EachSeparate new (type_at l.types) (plain_ops l.ops)
    → SoFar (pass_of (g.S.Rows.table l.pass.set.now) (target_of l.pass.target.now) (mode_of l.mode) blocks) l.pass.bits new (type_at l.types) (plain_ops l.ops) l.place l.slots.items)
