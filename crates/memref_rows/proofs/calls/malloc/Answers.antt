use Rattle.std.proofs.Common.{◌∙◌, ◌∷◌, []}
use Rattle.std.specs.Prelude.{codes}
use Rattle.plain_tree.specs.Types.{Ptr}
use Rattle.pattern_model.specs.Drafts.{value}
use Rattle.pattern_model.specs.MemrefRows.{callee}
use Rattle.memref_rows.proofs.calls.malloc.Goals as goal

pub returns : goal.returns
returns c = λ next.
    c.in_ok-wide.ensures (λ v_wide. value (codes "llvm.call") (v_wide ∷ []) (callee (codes "malloc")) Ptr next)
    ∙ c.in_ok-pointer.ensures next
