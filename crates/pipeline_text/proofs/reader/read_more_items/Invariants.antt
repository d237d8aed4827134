-- The stages found, before those that are still to be read, are all of them.
use Rattle.std.proofs.Common.{[], ◌∷◌, ◌-◌, length}
use Rattle.grammar_model.specs.Syntax.{many, with_front, ◌▸◌}
use Rattle.grammar_model.specs.Ahead.{IsAhead}
use Rattle.pipeline_text.specs.declared.token.Wanted.TheVariants.{Comma}
use Rattle.pipeline_text.specs.Kinds.{fits}
use Rattle.pipeline_text.specs.Grammar.{item_part}
use Rattle.pipeline_text.proofs.reader.read_more_items.Given as goal

abbrev pub invariant-each : goal.invariant-each
invariant-each l = IsAhead (fits Comma ▸ item_part) l.found (length l.tokens - l.counter) l.rest
    (with_front (l.fn.first ∷ []) ((many (fits Comma ▸ item_part)).read l.tokens))
