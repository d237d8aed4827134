-- The pipeline of a text as a function: what the grammar reads, or the place and the kind of the first token that does not fit.
use Rattle.std.specs.Prelude.{ℕ, ◌-◌, List, length, take, Result, Ok, Err}
use Rattle.grammar_model.specs.Expected.{whole_of}
use Rattle.pipeline_text.specs.declared.pass.Pipeline.{Pipeline}
use Rattle.pipeline_text.specs.declared.pass.Stage.{Stage}
use Rattle.pipeline_text.specs.declared.refusal.PipelineKind.{PipelineKind}
use Rattle.pipeline_text.specs.declared.token.Token.{Token}
use Rattle.pipeline_text.specs.Grammar.{pipeline}
use Rattle.pipeline_text.specs.Words.{tokens_of}
use Rattle.pipeline_text.specs.Reading.{first_kind, last_kind, place_of, wrong}

-- why a text is refused, where the tokens of rest are left
abbrev pub refused_at : List ℕ → List Token → List Token → ℕ × PipelineKind
refused_at text tokens rest =
    (place_of text rest, wrong (last_kind (take (length tokens - length rest) tokens)) (first_kind rest))

abbrev pub pipeline_from : List ℕ → Result (List Stage) (List Token) → Result Pipeline (ℕ × PipelineKind)
pipeline_from text (Ok stages) = Ok (record { stages = stages })
pipeline_from text (Err rest) = Err (refused_at text (tokens_of text) rest)

unfoldable pub pipeline_of : List ℕ → Result Pipeline (ℕ × PipelineKind)
pipeline_of text = pipeline_from text (whole_of pipeline (tokens_of text))
