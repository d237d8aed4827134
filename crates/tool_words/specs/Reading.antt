-- What the words of a command line are read as.
use Rattle.std.specs.Prelude.{ℕ, List, ◌++◌, Option, Some, None, Result, Ok, Err, codes, if◌then◌else◌, nat_lt}
use Rattle.std.specs.Fmt.{decimal}
use Rattle.pipeline_text.specs.declared.pass.Pipeline.{Pipeline}
use Rattle.pipeline_text.specs.declared.refusal.PipelineKind.{PipelineKind}
use Rattle.pipeline_text.specs.declared.refusal.PipelineKind.TheVariants.{Expected, UnknownPass, WrongAnchor, UnknownOption, BadValue}
use Rattle.tool_words.specs.declared.request.WordsRead.{WordsRead}
use Rattle.tool_words.specs.declared.request.WordsRead.TheVariants.{Asked, Refused}
use Rattle.tool_words.specs.Settings.{Settings, settings_in}
use Rattle.tool_words.specs.Pipelines.{pipeline_of}

abbrev pub outside_text : List ℕ
outside_text = codes "usage: the words are not in the command set"

abbrev pub workers_text : List ℕ
workers_text = codes "usage: more than one worker needs run_tool"

abbrev pub kind_text : PipelineKind → List ℕ
kind_text Expected = codes "Expected"
kind_text UnknownPass = codes "UnknownPass"
kind_text WrongAnchor = codes "WrongAnchor"
kind_text UnknownOption = codes "UnknownOption"
kind_text BadValue = codes "BadValue"

abbrev pub pipeline_refused : ℕ × PipelineKind → List ℕ
pipeline_refused p = codes "usage: pipeline at " ++ decimal p.0 ++ codes ": " ++ kind_text p.1

-- behind a pipeline text that is one: only one worker is asked for
abbrev pub with_pipeline : Settings → Pipeline → WordsRead
with_pipeline s p =
    if nat_lt 1 s.workers then Refused workers_text else Asked (record { pipeline = p; allowed = s.allowed; run = s.run })

abbrev pub pipeline_read : Settings → Result Pipeline (ℕ × PipelineKind) → WordsRead
pipeline_read s (Ok p) = with_pipeline s p
pipeline_read s (Err refused) = Refused (pipeline_refused refused)

-- behind words of the command set: the text of the pipeline is read
abbrev pub settings_read : Option Settings → WordsRead
settings_read None = Refused outside_text
settings_read (Some s) = pipeline_read s (pipeline_of s.pipeline)

-- what the words ask for, or the text with which they are refused: first by the command set, then by the pipeline, then by the workers
abbrev pub words_read : List (List ℕ) → WordsRead
words_read words = settings_read (settings_in words)
