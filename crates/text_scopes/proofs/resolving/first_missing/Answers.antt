use Rattle.std.proofs.Common.{◌∙◌, sym, arith}
use Rattle.text_scopes.specs.declared.steps.Step.TheVariants as steps
use Rattle.text_scopes.proofs.SightLemmas.{missing_on, missing_use}
use Rattle.text_scopes.proofs.resolving.first_missing.Goals as goal
use Rattle.text_scopes.proofs.resolving.first_missing.Goals.{then-is_use+else-lacks, else-is_use}

pub loop-index-preserved : goal.loop-index-preserved
loop-index-preserved c =
    elim c.if-is_use.branch [
      | then-is_use+else-lacks w ↦
          (rw w.next-is (missing_use c.args.steps.now c.args.definitions.now c.loop-index.index c.loop-index.next steps.Defines _ c.loop-index-test.true (sym c.is_use.ensures ∙ w.if-is_use.true) (sym w.lacks.ensures ∙ w.if-lacks.false) c.loop-index.invariant.0), omega arith)
      | else-is_use w ↦
          (rw w.next-is (missing_on c.args.steps.now c.args.definitions.now c.loop-index.index c.loop-index.next steps.Defines _ c.loop-index-test.true (sym c.is_use.ensures ∙ w.if-is_use.false) c.loop-index.invariant.0), omega arith)
    ]
