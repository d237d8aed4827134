-- What stands in code, in plain form.
use Rattle.std.specs.Prelude.{Bool, true, map, Option, Some, None}
use Rattle.std.specs.Str.{bytes_eq}
use Rattle.tree_model.specs.declared.op_tree.OpTree.{OpTree}
use Rattle.plain_tree.specs.Ops.{Op, plain_func, plain_module, plain_op}
use Rattle.conversion_model.specs.Targets.{name_of}
use Rattle.pipeline_text.specs.declared.pass.Anchor.{Anchor}
use Rattle.pattern_model.specs.Fold.{Failure, Folded, Ran, Stood, anchor_name}
use Rattle.pass_fold.specs.declared.failure.FailureTree.{FailureTree}
use Rattle.pass_fold.specs.declared.running.RanTree.{RanTree}
use Rattle.pass_fold.specs.declared.functions.StoodTree.{StoodTree}
use Rattle.pass_fold.specs.declared.stages.FoldedTree.{FoldedTree}

abbrev pub failure_view : FailureTree → Failure
failure_view e = record { function = e.function; position = e.position; pass = e.pass; number = e.number; name = e.name; patterns = e.patterns }

abbrev pub failure_or_none : Option FailureTree → Option Failure
failure_or_none None = None
failure_or_none (Some e) = Some (failure_view e)

-- a function that was made, or the one that there was
abbrev pub made_or : Op → Option OpTree → Op
made_or f None = f
made_or f (Some g) = plain_op g

-- a function behind passes, where it was this one before them
abbrev pub ran_view : Op → RanTree → Ran
ran_view f r = record { func = made_or f r.made; failed = failure_or_none r.failed }

abbrev pub stood_view : StoodTree → Stood
stood_view s = record { funcs = map plain_func s.funcs; failures = map failure_view s.failures }

abbrev pub folded_view : FoldedTree → Folded
folded_view r = record { module_behind = plain_module r.module_behind; failures = map failure_view r.failures }

-- whether the functions of an anchor are run: those of its name, or all where there is none
abbrev pub runs_at : Option Anchor → Op → Bool
runs_at None f = true
runs_at (Some anchor) f = bytes_eq (name_of f) (anchor_name anchor)
