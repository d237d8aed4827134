use Rattle.std.proofs.Common.{◌∙◌, rules}
use Rattle.std.specs.Prelude.{negsuc, ◌+ℤ◌, codes}
use Rattle.conversion_model.specs.Types.{number_type}
use Rattle.pattern_model.specs.MemrefRows.{two}
use Rattle.row_drafts.proofs.Values.{same_number}
use Rattle.memref_rows.proofs.calls.rounded.Goals as goal

pub returns : goal.returns
returns c = λ next.
    let h = same_number c.args.writer.now c.number.new.self (number_type c.args.bits) _ (c.args.alignment +ℤ negsuc 0) c.in_ok-less.less (search rules) c.in_ok-less.ensures in
    h (λ v_less. two (codes "llvm.add") c.args.bytes v_less (number_type c.args.bits) λ v_sum. two (codes "llvm.udiv") v_sum c.args.kept (number_type c.args.bits) λ v_times. two (codes "llvm.mul") v_times c.args.kept (number_type c.args.bits) next)
    ∙ c.in_ok-sum.ensures (λ v_sum. two (codes "llvm.udiv") v_sum c.args.kept (number_type c.args.bits) λ v_times. two (codes "llvm.mul") v_times c.args.kept (number_type c.args.bits) next)
    ∙ c.in_ok-times.ensures (λ v_times. two (codes "llvm.mul") v_times c.args.kept (number_type c.args.bits) next)
    ∙ c.in_ok-whole.ensures next
