-- What a pass makes of a function.
use Rattle.std.specs.Prelude.{◌≡◌, ℕ, Result, Ok, Err}
use Rattle.tree_model.specs.declared.op_tree.OpTree.{OpTree}
use Rattle.plain_tree.specs.Ops.{Op, plain_op}
use Rattle.conversion_model.specs.Conversion.{Supply, Unlegalised}
use Rattle.conversion_model.specs.Fresh.{Fresh}
use Rattle.pipeline_text.specs.declared.pass.PassName.{PassName}
use Rattle.pattern_model.specs.PassTable.{pass_tree}
use Rattle.pass_fold.specs.declared.passes.IllegalOp.{IllegalOp}

abbrev pub illegal : IllegalOp → Unlegalised
illegal e = record { number = e.number; name = e.name }

-- a function as it is made, or the operation for which there is no way
abbrev pub made : Result OpTree IllegalOp → Result Op Unlegalised
made (Ok g) = Ok (plain_op g)
made (Err e) = Err (illegal e)

-- what a pass makes of a function with some new numbers that are fresh for it
pub record PassMakes (pass : PassName) (bits : ℕ) (f : Op) (r : Result Op Unlegalised) : Type 0 where
  pub new : Supply
  pub fresh : Fresh new f
  pub is : pass_tree pass bits new f ≡ r
