use Rattle.std.specs.Prelude.{codes}
use Rattle.plain_tree.proofs.TypeOpens.{plain-Ptr}
use Rattle.row_drafts.proofs.Values.{same_value}
use Rattle.memref_rows.proofs.calls.pointer_call.Goals as goal

pub returns : goal.returns
returns c = λ next. same_value c.args.writer.now (codes "llvm.call") c.args.sources.now _ _ _ _ c.in_ok-props.ensures plain-Ptr next _ (c.in_ok-pointer.ensures next)
