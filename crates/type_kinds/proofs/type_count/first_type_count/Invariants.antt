use Rattle.std.proofs.Common.{◌≡◌, drop, reverse}
use Rattle.text_types.specs.Items.{Aliases, begun}
use Rattle.text_types.specs.Stack.{Stands}
use Rattle.type_kinds.specs.First.{first_in}
use Rattle.type_kinds.specs.Counts.{held, pass_counts, miscounts, first_miscount}
use Rattle.type_kinds.proofs.FirstIn.{ahead}
use Rattle.type_kinds.proofs.type_count.first_type_count.Given as goal

-- what is left of the events decides
abbrev pub invariant-each : goal.invariant-each
invariant-each g l =
    (aliases : Aliases) → Stands l.terms.nodes.keys l.numbers (begun (g.S.Spelled.spelling l.words) aliases l.events)
    → ahead l.index (first_in (pass_counts (g.S.Spelled.spelling l.words)) (miscounts (g.S.Spelled.spelling l.words) aliases) (held l.now (reverse l.outer.items)) (drop l.index l.events))
    ≡ first_miscount (g.S.Spelled.spelling l.words) aliases l.events
