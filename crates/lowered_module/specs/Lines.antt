-- The lines on what failed in a pipeline.
use Rattle.std.specs.Prelude.{ℕ, List, [], ◌++◌, Option, Some, None, codes, flat_map, slice_get, unwrap_or}
use Rattle.plain_tree.specs.Ops.{Op}
use Rattle.rule_model.specs.Facts.{name_in}
use Rattle.pipeline_text.specs.Passes.{pass_text}
use Rattle.pattern_model.specs.ModuleStep.{props_of}
use Rattle.pattern_model.specs.Fold.{Failure}
use Rattle.ordered_diags.specs.Failures as told
use Rattle.ordered_diags.specs.Failures.{lines_of}
use Rattle.ordered_diags.specs.declared.diag.Diag.{Diag}

-- the name of a function, an empty one where it has none or it is no text
abbrev pub function_name : Option Op → List ℕ
function_name None = []
function_name (Some f) = unwrap_or (name_in (props_of f)) []

-- what the lines on a failure say, where these are the functions
abbrev pub said : List Op → Failure → told.Failure
said funcs e = record {
  function = e.function;
  pass = e.position;
  function_name = function_name (slice_get funcs e.function);
  pass_name = pass_text e.pass;
  operation = e.number;
  operation_name = e.name;
  patterns = e.patterns;
}

-- the lines on failures, one failure behind another
abbrev pub all_lines : List Op → List Failure → List Diag
all_lines funcs es = flat_map (λ e. lines_of (said funcs e)) es

-- lines as text, each with its line feed
abbrev pub lines_text : List Diag → List ℕ
lines_text ds = flat_map (λ (d : Diag). d.text ++ codes "\n") ds
