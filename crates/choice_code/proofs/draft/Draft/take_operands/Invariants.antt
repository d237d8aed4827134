use Rattle.std.proofs.Common.{◌≡◌, drop, map}
use Rattle.plain_tree.specs.Types.{plain_type}
use Rattle.conversion_model.specs.Chosen.{Ending, change_of, take_operands}
use Rattle.choice_code.specs.Drafts.{behind, done_of, state_of}
use Rattle.choice_code.proofs.draft.Draft.take_operands.Given as goal

abbrev pub invariant-each : goal.invariant-each
invariant-each l = (next : Ending)
    → behind (done_of l.initial.self) (take_operands (change_of l.bits l.converted) next 0 (map plain_type l.types) (state_of l.initial.self))
    ≡ behind (done_of l.self) (take_operands (change_of l.bits l.converted) next l.place (map plain_type (drop l.place l.types)) (state_of l.self))
