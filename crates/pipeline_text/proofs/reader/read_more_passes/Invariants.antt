-- The passes found, before those that are still to be read, are all of them.
use Rattle.std.proofs.Common.{[], ◌∷◌, ◌-◌, length}
use Rattle.grammar_model.specs.Syntax.{many, with_front, ◌▸◌}
use Rattle.grammar_model.specs.Ahead.{IsAhead}
use Rattle.pipeline_text.specs.declared.token.Level.TheVariants.{Nested}
use Rattle.pipeline_text.specs.declared.token.Wanted.TheVariants.{Comma}
use Rattle.pipeline_text.specs.Kinds.{fits}
use Rattle.pipeline_text.specs.Grammar.{pass_part}
use Rattle.pipeline_text.proofs.reader.read_more_passes.Given as goal

abbrev pub invariant-each : goal.invariant-each
invariant-each l = IsAhead (fits Comma ▸ pass_part Nested) l.found (length l.tokens - l.counter) l.rest
    (with_front (l.fn.first ∷ []) ((many (fits Comma ▸ pass_part Nested)).read l.tokens))
