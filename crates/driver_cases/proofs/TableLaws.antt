-- The patterns of a sample are straight.
use Rattle.std.proofs.Common.{◌≡◌, ℕ, List, [], ◌∷◌, map, Option, Some, None, refl, sym, ap, ◌∙◌}
use Rattle.std.specs.Prelude.{slice_get, option_map}
use Rattle.std.proofs.lemmas.Option.{slice_get-map}
use Rattle.plain_tree.specs.Types.{PlainType}
use Rattle.plain_tree.specs.Ops.{Op}
use Rattle.conversion_model.specs.Targets.{Shape}
use Rattle.conversion_model.specs.Renamings.{always, TableRenames}
use Rattle.unit_choices.specs.Separate.{TakesOwn}
use Rattle.unit_choices.proofs.RenameLaws.{takes_own}
use Rattle.conversion_model.specs.Rows.{Numbers}
use Rattle.conversion_model.specs.declared.templates.TemplateTree.{TemplateTree}
use Rattle.cut_code.specs.Frames.{framing_at}
use Rattle.cut_code.specs.Pieces.{cutting_at}
use Rattle.row_code.specs.Straight.{straight_at}
use Rattle.row_code.specs.Shapes.{tree_or_none}
use Rattle.driver_cases.specs.declared.rows.Entry.{Entry}
use Rattle.driver_cases.specs.Table.{info_at, lines_row, pattern_at}
use Rattle.legal_graph.specs.Graphs.{info_of}

at_place : (rows : List Entry) (k : ℕ) → slice_get (map pattern_at rows) k ≡ option_map pattern_at (slice_get rows k)
at_place rows k = slice_get-map pattern_at rows k

-- the row of a pattern
pub row_here : (rows : List Entry) (bits k : ℕ) (e : Entry) (o : Shape) (t : Option TemplateTree) → slice_get rows k ≡ Some e
    → t ≡ tree_or_none (lines_row e.converted e.lines.now bits o) → t ≡ tree_or_none (straight_at bits (slice_get (map pattern_at rows) k) o)
row_here rows bits k e o t at is = is ∙ sym (ap (λ p. tree_or_none (straight_at bits p o)) (at_place rows k ∙ ap (option_map pattern_at) at))

pub no_row : (rows : List Entry) (bits k : ℕ) (o : Shape) → slice_get rows k ≡ None → None ≡ tree_or_none (straight_at bits (slice_get (map pattern_at rows) k) o)
no_row rows bits k o at = sym (ap (λ p. tree_or_none (straight_at bits p o)) (at_place rows k ∙ ap (option_map pattern_at) at))

cut_by : (found : Option Entry) (bits : ℕ) (new : Numbers) (type_of : ℕ → PlainType) (o : Op) → cutting_at bits (option_map pattern_at found) new type_of o ≡ None
cut_by None bits new type_of o = refl
cut_by (Some e) bits new type_of o = refl

-- none of them cuts, and none frames
pub no_cut : (rows : List Entry) (bits k : ℕ) (new : Numbers) (type_of : ℕ → PlainType) (o : Op) → None ≡ cutting_at bits (slice_get (map pattern_at rows) k) new type_of o
no_cut rows bits k new type_of o = sym (ap (λ p. cutting_at bits p new type_of o) (at_place rows k) ∙ cut_by (slice_get rows k) bits new type_of o)

frame_by : (found : Option Entry) (bits : ℕ) (o : Shape) → framing_at bits (option_map pattern_at found) o ≡ None
frame_by None bits o = refl
frame_by (Some e) bits o = refl

pub no_frame : (rows : List Entry) (bits k : ℕ) (o : Shape) → None ≡ framing_at bits (slice_get (map pattern_at rows) k) o
no_frame rows bits k o = sym (ap (λ p. framing_at bits p o) (at_place rows k) ∙ frame_by (slice_get rows k) bits o)

pub infos_are : (rows : List Entry) → map info_at rows ≡ map info_of (map pattern_at rows)
infos_are [] = refl
infos_are (e ∷ es) = ap (λ is. info_at e ∷ is) (infos_are es)

-- so they take no values but those of their operation
renames : (bits : ℕ) (rows : List Entry) → TableRenames bits (map pattern_at rows)
renames bits [] = always
renames bits (e ∷ es) = (always, renames bits es)

pub own : (bits : ℕ) (rows : List Entry) → TakesOwn bits (map pattern_at rows)
own bits rows = takes_own bits (map pattern_at rows) (renames bits rows)
