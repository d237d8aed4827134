-- What two folds of one pipeline over one module have in common.
use Rattle.std.specs.Prelude.{◌≡◌, map}
use Rattle.pipeline_text.specs.declared.pass.Pipeline.{Pipeline}
use Rattle.plain_tree.specs.Ops.{Kind, Op, op, PlainModule}
use Rattle.pattern_model.specs.Fold.{Folded}
use Rattle.fold_model.specs.FreshFolds.{IsFold}

abbrev pub kind_in : Op → Kind
kind_in (op k results operands regions successors) = k

-- the same failures, the same properties and attributes, and functions of the same kinds
pub record SameOutcome (r s : Folded) : Type 0 where
  pub failures : r.failures ≡ s.failures
  pub props : r.module_behind.props ≡ s.module_behind.props
  pub attrs : r.module_behind.attrs ≡ s.module_behind.attrs
  pub kinds : map kind_in r.module_behind.funcs ≡ map kind_in s.module_behind.funcs

abbrev pub OneOutcome : Type 0
OneOutcome = (p : Pipeline) (m : PlainModule) (r s : Folded) → IsFold p m r → IsFold p m s → SameOutcome r s
