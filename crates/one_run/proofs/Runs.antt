-- Lowered modules that are the same but for numbers have the same runs.
use Rattle.std.proofs.Common.{◌≡◌, map, sym, ap, subst}
use Rattle.pipeline_text.specs.declared.pass.Pipeline.{Pipeline}
use Rattle.plain_tree.specs.Ops.{PlainModule, plain_func}
use Rattle.fold_renames.proofs.FoldRenames.{AllAlike, FoldsAlike, folds_alike}
use Rattle.lowered_module.specs.declared.lowered.LoweredModule.{LoweredModule}
use Rattle.lowered_module.specs.Lowered.{IsLowered, Lowered, lowered_view}
use Rattle.run_renames.proofs.RenamedModules.{same_run}
use Rattle.one_run.specs.Runs.{OneRun}

-- function by function, what a pipeline makes of a module is the same but for numbers
pub lowered_alike : (p : Pipeline) (m : PlainModule) (a b : LoweredModule) → IsLowered p m (lowered_view a) → IsLowered p m (lowered_view b) → AllAlike (map plain_func a.module_behind.funcs) (map plain_func b.module_behind.funcs)
lowered_alike p m a b here there =
    let both : FoldsAlike here.fold there.fold = folds_alike p m here.fold there.fold here.folds there.folds in
    let of_a : map plain_func a.module_behind.funcs ≡ here.fold.module_behind.funcs = ap (λ (l : Lowered). l.module_behind.funcs) here.is in
    let of_b : map plain_func b.module_behind.funcs ≡ there.fold.module_behind.funcs = ap (λ (l : Lowered). l.module_behind.funcs) there.is in
    subst (λ fs. AllAlike fs (map plain_func b.module_behind.funcs)) (sym of_a) (subst (λ gs. AllAlike here.fold.module_behind.funcs gs) (sym of_b) both.funcs)

pub one_run : OneRun
one_run p m a b here there = same_run a.module_behind b.module_behind (lowered_alike p m a b here there)
