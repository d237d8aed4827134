use Rattle.std.proofs.Common.{◌≡◌, ◌∙◌, ◌∷◌, [], List, Some, sym, ap}
use Rattle.std.specs.Prelude.{codes}
use Rattle.plain_tree.specs.Types.{plain_type}
use Rattle.plain_tree.specs.Attrs.{plain_entries}
use Rattle.conversion_model.specs.declared.templates.Source.{Source}
use Rattle.conversion_model.specs.Types.{becomes}
use Rattle.pattern_model.specs.Drafts.{Draft, gives, value}
use Rattle.row_drafts.specs.Writes.{behind}
use Rattle.row_drafts.proofs.Values.{same_value}
use Rattle.memref_rows.specs.Rows.{loaded}
use Rattle.memref_rows.proofs.places.load_from.Goals as goal

pub returns : goal.returns
returns c =
    let h : (next : Source → Draft) → behind c.element_place.new.writer (value (codes "llvm.load") (c.in_ok-place.place ∷ []) [] (becomes c.args.bits (plain_type c.args.of.element.now)) next) ≡ behind c.value.new.self (next c.in_ok-value.value) =
    λ next. same_value c.element_place.new.writer (codes "llvm.load") (c.in_ok-place.place ∷ []) _ [] _ _ (ap plain_entries c.new.ensures) c.in_ok-t.ensures.plain next _ (c.in_ok-value.ensures next) in
    ap Some (c.finish.ensures ∙ ap (λ (rs : List Source). behind c.value.new.self (gives rs)) c.in_ok-results.ensures
    ∙ sym (c.in_ok-place.ensures (λ v_place. value (codes "llvm.load") (v_place ∷ []) [] (becomes c.args.bits (plain_type c.args.of.element.now)) λ v_value. gives (v_value ∷ []))
    ∙ h (λ v_value. gives (v_value ∷ [])))
    ∙ c.new-writer.ensures (loaded c.args.bits c.args.of.dims.now (plain_type c.args.of.element.now)))
