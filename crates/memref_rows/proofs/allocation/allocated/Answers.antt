use Rattle.std.proofs.Common.{◌≡◌, ◌∙◌, ◌∷◌, [], List, Some, length, sym, ap}
use Rattle.plain_tree.specs.Types.{PlainType, plain_type}
use Rattle.conversion_model.specs.declared.templates.Source.{Source}
use Rattle.conversion_model.specs.Types.{descriptor}
use Rattle.pattern_model.specs.Drafts.{Draft, gives}
use Rattle.pattern_model.specs.MemrefRows.{allocated}
use Rattle.row_drafts.specs.Writes.{behind}
use Rattle.memref_rows.specs.Parts.{call_by, described_as}
use Rattle.std.proofs.Common.{subst}
use Rattle.memref_rows.proofs.allocation.allocated.Goals as goal

pub returns : goal.returns
returns c =
    let t : PlainType = descriptor c.args.bits (length c.in_ok-layout.layout.sizes) in
    let h = subst (λ u. (next : Source → Draft) → behind c.allocate.new.writer (described_as c.args.bits u c.in_ok-layout.layout.sizes c.in_ok-layout.layout.strides c.in_ok-pointer.pointer next) ≡ behind c.describe.new.writer (next c.in_ok-made.made)) (c.requires ∙ ap (descriptor c.args.bits) (sym c.in_ok-layout.ensures.count)) c.in_ok-made.ensures in
    ap Some (c.finish.ensures ∙ ap (λ (rs : List Source). behind c.describe.new.writer (gives rs)) c.in_ok-results.ensures
    ∙ sym (c.in_ok-layout.ensures.part (λ l. call_by c.args.by c.args.bits l.bytes λ p. described_as c.args.bits (descriptor c.args.bits (length l.sizes)) l.sizes l.strides p (λ m. gives (m ∷ [])))
    ∙ c.in_ok-pointer.ensures (λ p. described_as c.args.bits t c.in_ok-layout.layout.sizes c.in_ok-layout.layout.strides p (λ m. gives (m ∷ [])))
    ∙ h (λ m. gives (m ∷ [])))
    ∙ c.new-writer.ensures (allocated c.args.bits (call_by c.args.by c.args.bits) c.args.of.dims.now (plain_type c.args.of.element.now)))
