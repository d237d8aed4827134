use Rattle.std.proofs.Common.{◌≡◌, ◌∙◌, ◌∷◌, [], List, sym, ap, subst}
use Rattle.conversion_model.specs.declared.templates.Source.{Source}
use Rattle.pattern_model.specs.Drafts.{Draft, gives}
use Rattle.pattern_model.specs.FuncRows.{arguments, called, fields_at, func_set_without_cast, cast_pattern, packed_in, parameters_at, return_by, returned, unpacked}
use Rattle.pattern_model.specs.FuncRows as rows
use Rattle.row_drafts.specs.Writes.{behind}
use Rattle.func_rows.specs.Parts.{from_fields_as}
use Rattle.func_rows.proofs.parts.described.Goals as goal

pub returns : goal.returns
returns c =
    let h = subst (λ u. (next : Source → Draft) → behind c.new-writer.result (from_fields_as u c.args.dims.now next) ≡ behind c.from_fields.new.writer (next c.in_ok-made.made)) c.requires c.in_ok-made.ensures in
    c.finish.ensures ∙ ap (λ (rs : List Source). behind c.from_fields.new.writer (gives rs)) c.in_ok-results.ensures
    ∙ sym (h (λ m. gives (m ∷ [])))
    ∙ c.new-writer.ensures (rows.from_fields c.args.bits c.args.dims.now)
