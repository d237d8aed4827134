-- The tables of code are the tables of the definitions.
use Rattle.std.proofs.Common.{◌≡◌, ℕ, List, map, Option, Some, None, sym, ap, ◌∙◌}
use Rattle.std.specs.Prelude.{slice_get, option_map}
use Rattle.std.proofs.lemmas.Option.{slice_get-map}
use Rattle.conversion_model.specs.Rows.{Pattern}
use Rattle.conversion_model.specs.Targets.{Shape}
use Rattle.conversion_model.specs.declared.templates.TemplateTree.{TemplateTree}
use Rattle.row_code.specs.Straight.{straight, straight_at}
use Rattle.row_code.specs.Shapes.{tree_or_none}
use Rattle.cut_code.specs.declared.frames.FrameTree.{FrameTree}
use Rattle.cut_code.specs.Frames.{frame_or_none, framing, framing_at}
use Rattle.func_rows.specs.declared.table.Entry.{Entry}
use Rattle.func_rows.specs.Table.{form_row, pattern_at}

here : (set : List Pattern) (rows : List Entry) (k : ℕ) → map pattern_at rows ≡ set → slice_get set k ≡ option_map pattern_at (slice_get rows k)
here set rows k table = ap (λ ps. slice_get ps k) (sym table) ∙ slice_get-map pattern_at rows k

-- the row of a line of the table
pub row_here : (set : List Pattern) (rows : List Entry) (bits k : ℕ) (e : Entry) (o : Shape) (t : Option TemplateTree) → map pattern_at rows ≡ set → slice_get rows k ≡ Some e
    → t ≡ tree_or_none (straight (form_row e.form bits) o) → t ≡ tree_or_none (straight_at bits (slice_get set k) o)
row_here set rows bits k e o t table at is = is ∙ sym (ap (λ p. tree_or_none (straight_at bits p o)) (here set rows k table ∙ ap (option_map pattern_at) at))

pub no_row : (set : List Pattern) (rows : List Entry) (bits k : ℕ) (o : Shape) → map pattern_at rows ≡ set → slice_get rows k ≡ None → None ≡ tree_or_none (straight_at bits (slice_get set k) o)
no_row set rows bits k o table at = sym (ap (λ p. tree_or_none (straight_at bits p o)) (here set rows k table ∙ ap (option_map pattern_at) at))

pub frame_here : (set : List Pattern) (rows : List Entry) (bits k : ℕ) (e : Entry) (o : Shape) (t : Option FrameTree) → map pattern_at rows ≡ set → slice_get rows k ≡ Some e
    → t ≡ frame_or_none (framing (form_row e.form bits) o) → t ≡ frame_or_none (framing_at bits (slice_get set k) o)
frame_here set rows bits k e o t table at is = is ∙ sym (ap (λ p. frame_or_none (framing_at bits p o)) (here set rows k table ∙ ap (option_map pattern_at) at))

pub no_frame : (set : List Pattern) (rows : List Entry) (bits k : ℕ) (o : Shape) → map pattern_at rows ≡ set → slice_get rows k ≡ None → None ≡ frame_or_none (framing_at bits (slice_get set k) o)
no_frame set rows bits k o table at = sym (ap (λ p. frame_or_none (framing_at bits p o)) (here set rows k table ∙ ap (option_map pattern_at) at))
