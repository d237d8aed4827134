-- What is printed on runs of all that a pipeline may make of a module.
use Rattle.std.specs.Prelude.{◌≡◌}
use Rattle.pipeline_text.specs.declared.pass.Pipeline.{Pipeline}
use Rattle.plain_tree.specs.Ops.{PlainModule, plain_module}
use Rattle.lowered_module.specs.declared.lowered.LoweredModule.{LoweredModule}
use Rattle.lowered_module.specs.Lowered.{IsLowered, lowered_view}
use Rattle.llvm_only.specs.Llvm.{is_all_llvm}
use Rattle.run_report.specs.Reports.{Request, lowered_text}

-- the same answer to whether all operations are llvm ones, and the same text on any run
pub record SameReport (a b : LoweredModule) : Type 0 where
  pub all_llvm : is_all_llvm (plain_module a.module_behind) ≡ is_all_llvm (plain_module b.module_behind)
  pub text : (q : Request) → lowered_text q a.module_behind ≡ lowered_text q b.module_behind

abbrev pub OneReport : Type 0
OneReport = (p : Pipeline) (m : PlainModule) (a b : LoweredModule) → IsLowered p m (lowered_view a) → IsLowered p m (lowered_view b) → SameReport a b
