use Rattle.std.proofs.Common.{◌≡◌, ◌∙◌, List}
use Rattle.plain_tree.specs.Types.{plain_type}
use Rattle.conversion_model.specs.declared.templates.Source.{Source}
use Rattle.pattern_model.specs.Drafts.{Draft}
use Rattle.pattern_model.specs.MemrefRows.{inserted}
use Rattle.row_drafts.specs.Writes.{behind}
use Rattle.memref_rows.specs.Parts.{with_pointers}
use Rattle.std.proofs.Common.{subst}
use Rattle.memref_rows.proofs.descriptor.describe.Goals as goal

pub returns : goal.returns
returns c = λ next.
    let h = subst (λ (ss : List Source). (next : Source → Draft) → behind c.with_pointers.new.writer (inserted 3 (plain_type c.args.t.now) 0 ss c.in_ok-based.based next) ≡ behind c.insert_all.new.writer (next c.in_ok-sized.sized)) c.as_slice.ensures c.in_ok-sized.ensures in
    let k = subst (λ (ss : List Source). (next : Source → Draft) → behind c.insert_all.new.writer (inserted 4 (plain_type c.args.t.now) 0 ss c.in_ok-sized.sized next) ≡ behind c.insert_all-2.new.writer (next c.in_ok-made.made)) c.as_slice-2.ensures c.in_ok-made.ensures in
    c.in_ok-offset.ensures (λ v_offset. with_pointers (plain_type c.args.t.now) c.args.pointer v_offset λ v_based. inserted 3 (plain_type c.args.t.now) 0 c.args.layout.now.sizes v_based λ v_sized. inserted 4 (plain_type c.args.t.now) 0 c.args.layout.now.strides v_sized next)
    ∙ c.in_ok-based.ensures (λ v_based. inserted 3 (plain_type c.args.t.now) 0 c.args.layout.now.sizes v_based λ v_sized. inserted 4 (plain_type c.args.t.now) 0 c.args.layout.now.strides v_sized next)
    ∙ h (λ v_sized. inserted 4 (plain_type c.args.t.now) 0 c.args.layout.now.strides v_sized next)
    ∙ k next
