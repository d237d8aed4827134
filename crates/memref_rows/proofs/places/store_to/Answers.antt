use Rattle.std.proofs.Common.{◌∙◌, ◌∷◌, [], List, Some, sym, ap}
use Rattle.std.specs.Prelude.{codes}
use Rattle.plain_tree.specs.Types.{plain_type}
use Rattle.plain_tree.specs.Attrs.{plain_entries}
use Rattle.conversion_model.specs.declared.templates.Source.{Source}
use Rattle.conversion_model.specs.declared.templates.Source.TheVariants.{Operand}
use Rattle.pattern_model.specs.Drafts.{effect, gives}
use Rattle.row_drafts.specs.Writes.{behind}
use Rattle.row_drafts.proofs.Values.{same_effect}
use Rattle.memref_rows.specs.Rows.{stored}
use Rattle.memref_rows.proofs.places.store_to.Goals as goal

pub returns : goal.returns
returns c =
    ap Some (c.finish.ensures ∙ ap (λ (rs : List Source). behind c.effect.new.self (gives rs)) c.new-2.ensures
    ∙ sym (c.in_ok-place.ensures (λ g. effect (codes "llvm.store") (Operand 0 ∷ g ∷ []) [] [] (gives []))
    ∙ same_effect c.element_place.new.writer (codes "llvm.store") (Operand 0 ∷ c.in_ok-place.place ∷ []) _ [] (ap plain_entries c.new.ensures) (gives []) _ (c.in_ok-effect.ensures (gives [])))
    ∙ c.new-writer.ensures (stored c.args.bits c.args.of.dims.now (plain_type c.args.of.element.now)))
