use Rattle.std.proofs.Common.{◌≡◌, ◌∙◌, ◌∷◌, [], rules, w64}
use Rattle.std.specs.Prelude.{codes}
use Rattle.std.proofs.lemmas.Int.{to_z-of_z}
use Rattle.plain_tree.specs.Types.{Ptr}
use Rattle.conversion_model.specs.declared.templates.Source.{Source}
use Rattle.conversion_model.specs.Types.{number_type}
use Rattle.pattern_model.specs.Drafts.{Draft, value}
use Rattle.pattern_model.specs.MemrefRows.{callee, widened}
use Rattle.row_drafts.specs.Writes.{behind}
use Rattle.row_drafts.proofs.Values.{same_number}
use Rattle.memref_rows.specs.Parts.{rounded}
use Rattle.std.proofs.Common.{subst}
use Rattle.memref_rows.proofs.calls.aligned_alloc.Goals as goal

pub returns : goal.returns
returns c = λ next.
    let e = to_z-of_z w64 c.args.alignment (search rules) in
    let h = same_number c.args.writer.now c.number.new.self (number_type c.args.bits) _ c.args.alignment c.in_ok-kept.kept (e) c.in_ok-kept.ensures in
    let k = subst (λ n. (next : Source → Draft) → behind c.number.new.self (rounded c.args.bits n c.in_ok-kept.kept c.args.bytes next) ≡ behind c.rounded.new.writer (next c.in_ok-whole.whole)) e c.in_ok-whole.ensures in
    h (λ v_kept. rounded c.args.bits c.args.alignment v_kept c.args.bytes λ v_whole. widened (codes "llvm.zext") c.args.bits v_kept λ v_l. widened (codes "llvm.zext") c.args.bits v_whole λ v_v. value (codes "llvm.call") (v_l ∷ v_v ∷ []) (callee (codes "aligned_alloc")) Ptr next)
    ∙ k (λ v_whole. widened (codes "llvm.zext") c.args.bits c.in_ok-kept.kept λ v_l. widened (codes "llvm.zext") c.args.bits v_whole λ v_v. value (codes "llvm.call") (v_l ∷ v_v ∷ []) (callee (codes "aligned_alloc")) Ptr next)
    ∙ c.in_ok-kept-2.ensures (λ v_l. widened (codes "llvm.zext") c.args.bits c.in_ok-whole.whole λ v_v. value (codes "llvm.call") (v_l ∷ v_v ∷ []) (callee (codes "aligned_alloc")) Ptr next)
    ∙ c.in_ok-whole-2.ensures (λ v_v. value (codes "llvm.call") (c.in_ok-kept-2.kept ∷ v_v ∷ []) (callee (codes "aligned_alloc")) Ptr next)
    ∙ c.in_ok-pointer.ensures next
