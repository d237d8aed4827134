use Rattle.std.proofs.Common.{◌≡◌, ◌≤◌, drop}
use Rattle.text_types.specs.Stack.{alias_terms}
use Rattle.type_kinds.specs.First.{first_in}
use Rattle.type_kinds.specs.Ranges.{pass_listed, is_out, first_out}
use Rattle.type_kinds.proofs.FirstIn.{ahead}
use Rattle.type_kinds.proofs.ranges.first_out_of_range.Given as goal

-- what is left of the events decides
abbrev pub invariant-each : goal.invariant-each
invariant-each g l = record {
  decides :
      ahead l.index (first_in (pass_listed (g.S.Spelled.spelling l.words)) (is_out (g.S.Spelled.spelling l.words) (alias_terms l.terms.nodes.keys l.aliases)) (record { width = l.width; minus = l.minus }) (drop l.index l.events))
      ≡ first_out (g.S.Spelled.spelling l.words) (alias_terms l.terms.nodes.keys l.aliases) l.events;
  narrow : l.width ≤ 64;
}
