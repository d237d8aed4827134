-- What is written behind a pipeline.
use Rattle.std.specs.Prelude.{◌≡◌, ℕ, ◌==◌, List, ◌++◌, Option, Some, None, if◌then◌else◌}
use Rattle.tree_model.specs.declared.op_tree.ModuleTree.{ModuleTree}
use Rattle.plain_tree.specs.Ops.{plain_module}
use Rattle.pipeline_text.specs.declared.pass.Pipeline.{Pipeline}
use Rattle.pattern_model.specs.Fold.{width}
use Rattle.text_model.specs.Printed.{module_text}
use Rattle.lowered_module.specs.declared.lowered.LoweredModule.{LoweredModule}
use Rattle.lowered_module.specs.Lowered.{IsLowered, lowered_view}
use Rattle.run_report.specs.Reports as reports
use Rattle.run_report.specs.Reports.{lowered_text, source_text}
use Rattle.tool_words.specs.declared.request.Request.{Request}
use Rattle.tool_words.specs.declared.request.RunWords.{RunWords}
use Rattle.tool_cli.specs.Told.{Reply, ran}

-- how many bits an index has in a run: 32 where it has so many in the pipeline, else 64
abbrev pub index_bits : Pipeline → ℕ
index_bits p = if width p.stages == 32 then 32 else 64

-- the run that is asked for
abbrev pub run_of : Request → RunWords → reports.Request
run_of request run = record { name = run.name; args = run.args; fuel = run.fuel; bits = index_bits request.pipeline }

-- the text for `out`: the module behind the pipeline, printed; where a run is asked for, the lines on a run of the module that was read, and
-- on one of the module behind
abbrev pub text_on : Option RunWords → Request → ModuleTree → LoweredModule → List ℕ
text_on None request source behind = module_text behind.module_behind
text_on (Some run) request source behind = source_text (run_of request run) source ++ lowered_text (run_of request run) behind.module_behind

-- with the lines on what failed
abbrev pub lowered_for : Option RunWords → Request → ModuleTree → LoweredModule → Reply
lowered_for run request source behind = ran (text_on run request source behind) behind.lines behind.failed

abbrev pub lowered : Request → ModuleTree → LoweredModule → Reply
lowered request source behind = lowered_for request.run request source behind

-- a reply tells what the pipeline makes of the module
pub record Lowers (run : Option RunWords) (request : Request) (source : ModuleTree) (reply : Reply) : Type 0 where
  pub behind : LoweredModule
  pub is_lowered : IsLowered request.pipeline (plain_module source) (lowered_view behind)
  pub told : reply ≡ lowered_for run request source behind
