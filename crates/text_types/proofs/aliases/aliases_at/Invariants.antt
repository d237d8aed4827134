use Rattle.std.proofs.Common.{◌≡◌, length, drop}
use Rattle.term_table.specs.Terms.{Grows}
use Rattle.text_types.specs.Aliases.{aliases_from, aliases_of}
use Rattle.text_types.specs.Stack.{AliasesWithin, alias_terms}
use Rattle.text_types.proofs.aliases.aliases_at.Given as goal

-- what is left of the events decides
abbrev pub invariant-each : goal.invariant-each
invariant-each g l = record {
  grows : Grows l.fn.terms.nodes.keys l.terms.nodes.keys;
  within : AliasesWithin (length l.terms.nodes.keys) l.aliases;
  decides : aliases_from (g.S.Spelled.spelling l.words) (alias_terms l.terms.nodes.keys l.aliases) (drop l.index l.events) ≡ aliases_of (g.S.Spelled.spelling l.words) l.events;
}
