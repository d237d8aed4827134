use Rattle.std.proofs.Common.{◌≡◌, map, take}
use Rattle.plain_tree.specs.Types.{plain_type}
use Rattle.conversion_model.specs.Chosen.{type_here}
use Rattle.choice_code.specs.Drafts.{state_of}
use Rattle.choice_code.proofs.draft.Draft.types_here.Given as goal

abbrev pub invariant-each : goal.invariant-each
invariant-each l = map plain_type l.types ≡ map (type_here (state_of l.self)) (take l.source-index l.sources)
