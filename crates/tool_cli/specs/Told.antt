-- A reply: what is written, and the status.
use Rattle.std.specs.Prelude.{ℕ, Bool, true, false, List, [], ◌++◌, codes}
use Rattle.tool_cli.specs.declared.status.Status.{Status}
use Rattle.tool_cli.specs.declared.status.Status.TheVariants.{Ok, PassFailed}

-- the text for `out`, the text for `diag`, and the status
pub record Reply : Type 0 where
  pub out : List ℕ
  pub diag : List ℕ
  pub status : Status

-- nothing on `out`, and one line on `diag`
abbrev pub refusal : Status → List ℕ → Reply
refusal status text = record { out = []; diag = text ++ codes "\n"; status = status }

-- the status behind a pipeline: whether a pass failed
abbrev pub status_behind : Bool → Status
status_behind true = PassFailed
status_behind false = Ok

-- the module behind a pipeline on `out`, the lines on what failed on `diag`, and whether a pass failed
abbrev pub ran : List ℕ → List ℕ → Bool → Reply
ran text lines failed = record { out = text; diag = lines; status = status_behind failed }
