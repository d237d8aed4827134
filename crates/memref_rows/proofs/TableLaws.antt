-- The table of code is the table of the definitions.
use Rattle.std.proofs.Common.{◌≡◌, ℕ, List, map, Option, Some, None, sym, ap, ◌∙◌}
use Rattle.std.specs.Prelude.{slice_get, option_map}
use Rattle.std.proofs.lemmas.Option.{slice_get-map}
use Rattle.conversion_model.specs.Targets.{Shape}
use Rattle.conversion_model.specs.declared.templates.TemplateTree.{TemplateTree}
use Rattle.pattern_model.specs.MemrefRows.{memref_set}
use Rattle.row_code.specs.Straight.{straight_at}
use Rattle.row_code.specs.Shapes.{tree_or_none}
use Rattle.memref_rows.specs.declared.table.Entry.{Entry}
use Rattle.memref_rows.specs.Table.{form_row, pattern_at}

-- the row of a line of the table
pub row_here : (rows : List Entry) (bits k : ℕ) (e : Entry) (o : Shape) (t : Option TemplateTree) → map pattern_at rows ≡ memref_set → slice_get rows k ≡ Some e
    → t ≡ tree_or_none (form_row e.form bits o) → t ≡ tree_or_none (straight_at bits (slice_get memref_set k) o)
row_here rows bits k e o t table at is =
    let here : slice_get memref_set k ≡ Some (pattern_at e) = ap (λ ps. slice_get ps k) (sym table) ∙ slice_get-map pattern_at rows k ∙ ap (option_map pattern_at) at in
    is ∙ sym (ap (λ p. tree_or_none (straight_at bits p o)) here)

pub no_row : (rows : List Entry) (bits k : ℕ) (o : Shape) → map pattern_at rows ≡ memref_set → slice_get rows k ≡ None → None ≡ tree_or_none (straight_at bits (slice_get memref_set k) o)
no_row rows bits k o table at =
    let here : slice_get memref_set k ≡ None = ap (λ ps. slice_get ps k) (sym table) ∙ slice_get-map pattern_at rows k ∙ ap (option_map pattern_at) at in
    sym (ap (λ p. tree_or_none (straight_at bits p o)) here)
