use Rattle.std.proofs.Common.{◌∙◌, ◌∷◌, [], List, Some, sym, ap}
use Rattle.std.specs.Prelude.{codes}
use Rattle.conversion_model.specs.declared.templates.Source.{Source}
use Rattle.pattern_model.specs.Drafts.{effect, gives}
use Rattle.pattern_model.specs.MemrefRows.{callee}
use Rattle.row_drafts.specs.Writes.{behind}
use Rattle.row_drafts.proofs.Values.{same_effect}
use Rattle.memref_rows.specs.Rows.{freed_draft}
use Rattle.memref_rows.proofs.sizes.freed.Goals as goal

pub returns : goal.returns
returns c =
    ap Some (c.finish.ensures ∙ ap (λ (rs : List Source). behind c.effect.new.self (gives rs)) c.new.ensures
    ∙ sym (c.in_ok-pointer.ensures (λ p. effect (codes "llvm.call") (p ∷ []) (callee (codes "free")) [] (gives []))
    ∙ same_effect c.extract_pointer.new.self (codes "llvm.call") (c.in_ok-pointer.pointer ∷ []) _ _ c.in_ok-props.ensures (gives []) _ (c.in_ok-effect.ensures (gives [])))
    ∙ c.new-writer.ensures (freed_draft))
