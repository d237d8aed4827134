-- What holds of all words that are read.
use Rattle.std.specs.Prelude.{◌≡◌, ◌≤◌, ◌↔◌, ℕ, List, Option, Some, None, Ok, Err, ⊤}
use Rattle.pipeline_text.specs.declared.pass.Pipeline.{Pipeline}
use Rattle.pipeline_text.specs.declared.refusal.PipelineKind.{PipelineKind}
use Rattle.pipeline_text.specs.Reading.{IsRefused, ReadsAs}
use Rattle.tool_words.specs.declared.request.WordsRead.{WordsRead}
use Rattle.tool_words.specs.declared.request.WordsRead.TheVariants.{Asked, Refused}
use Rattle.tool_words.specs.declared.request.RunWords.{RunWords}
use Rattle.tool_words.specs.Pipelines.{pipeline_of}

abbrev pub RunHasLittleFuel : Option RunWords → Type 0
RunHasLittleFuel None = ⊤
RunHasLittleFuel (Some run) = run.fuel ≤ 1000000

-- a run that is asked for has no more than 1000000 units of fuel
abbrev pub HasLittleFuel : WordsRead → Type 0
HasLittleFuel (Asked request) = RunHasLittleFuel request.run
HasLittleFuel (Refused text) = ⊤

-- the pipeline of a text is what the text reads as, and its refusal is the text's
pub record IsPipelineOf (text : List ℕ) : Type 0 where
  pub reads : (p : Pipeline) → (pipeline_of text ≡ Ok p) ↔ ReadsAs text p.stages
  pub refuses : (place : ℕ) (kind : PipelineKind) → (pipeline_of text ≡ Err (place, kind)) ↔ IsRefused text place kind
