use Rattle.std.proofs.Common.{◌≡◌, map, take}
use Rattle.conversion_model.specs.Chosen.{here}
use Rattle.choice_code.specs.Drafts.{state_of}
use Rattle.choice_code.proofs.draft.Draft.all_here.Given as goal

abbrev pub invariant-each : goal.invariant-each
invariant-each l = l.found ≡ map (here (state_of l.self)) (take l.source-index l.sources)
