-- The table of replies: what the program answers to words and an input.
use Rattle.std.specs.Prelude.{◌≡◌, ℕ, ◌^◌, ◌<◌, ◌≤◌, List, length, codes}
use Rattle.text_kinds.specs.declared.found.Kind.{Kind}
use Rattle.tree_model.specs.declared.op_tree.ModuleTree.{ModuleTree}
use Rattle.plain_tree.specs.Ops.{plain_module}
use Rattle.ir_verifier.specs.declared.broken.BrokenRule.{BrokenRule}
use Rattle.tree_reading.specs.Reading.{Reads, ReadsNot}
use Rattle.lowered_module.specs.declared.lowered.LoweredModule.{LoweredModule}
use Rattle.lowered_module.specs.Lowered.{IsLowered, lowered_view}
use Rattle.tool_words.specs.declared.request.Request.{Request}
use Rattle.tool_words.specs.declared.request.WordsRead.TheVariants.{Refused as WordsRefused}
use Rattle.tool_words.specs.Reading.{words_read}
use Rattle.tool_cli.specs.declared.status.Status.TheVariants.{Usage, Limit}
use Rattle.tool_cli.specs.Asking.{AsksFor}
use Rattle.tool_cli.specs.Behind.{lowered}
use Rattle.tool_cli.specs.Refusals.{broken, refused}
use Rattle.tool_cli.specs.Told.{Reply, refusal}
use Rattle.tool_cli.specs.Verdicts.{BreaksRule, KeepsRules}

-- the greatest length of an input, in bytes
abbrev pub input_limit : ℕ
input_limit = 2 ^ 24

-- the replies to these words and this input, a row for each
pub data Out (words : List (List ℕ)) (bytes : List ℕ) : Reply → Type 0 where
  -- the words are refused
  no_words : (text : List ℕ) → words_read words ≡ WordsRefused text → Out words bytes (refusal Usage text)
  -- the input is too long
  long_input : (request : Request) → AsksFor words request → input_limit < length bytes
      → Out words bytes (refusal Limit (codes "limit: input 16777216"))
  -- the text is no module
  no_module : (request : Request) (place : ℕ) (kind : Kind) → AsksFor words request → length bytes ≤ input_limit → ReadsNot bytes request.allowed place kind
      → Out words bytes (refused place kind)
  -- the module breaks a rule
  unverified : (request : Request) (source : ModuleTree) (rule : BrokenRule) → AsksFor words request → length bytes ≤ input_limit → Reads bytes request.allowed source
      → BreaksRule (plain_module source) rule → Out words bytes (broken source rule)
  -- the module behind the pipeline, or the lines on runs
  a_module : (request : Request) (source : ModuleTree) (behind : LoweredModule) → AsksFor words request → length bytes ≤ input_limit → Reads bytes request.allowed source
      → KeepsRules (plain_module source) → IsLowered request.pipeline (plain_module source) (lowered_view behind) → Out words bytes (lowered request source behind)
