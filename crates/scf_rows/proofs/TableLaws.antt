-- The table of code is the table of the definitions.
use Rattle.std.proofs.Common.{◌≡◌, ℕ, zero, suc, List, map, Option, Some, None, refl, sym, ap, ◌∙◌}
use Rattle.std.specs.Prelude.{slice_get, option_map}
use Rattle.std.proofs.lemmas.Option.{slice_get-map}
use Rattle.plain_tree.specs.Types.{PlainType}
use Rattle.plain_tree.specs.Attrs.{plain_entries}
use Rattle.plain_tree.specs.Ops.{Op}
use Rattle.conversion_model.specs.Rows.{Numbers}
use Rattle.conversion_model.specs.Targets.{Shape}
use Rattle.pattern_model.specs.ScfRows.{scf_set}
use Rattle.row_code.specs.Straight.{straight_at}
use Rattle.row_code.specs.Shapes.{tree_or_none}
use Rattle.cut_code.specs.Pieces.{cutting_at, pieces_or_none}
use Rattle.cut_code.specs.Sketches.{sketch_of, sketch_view}
use Rattle.cut_code.specs.declared.pieces.PieceTree.{PieceTree}
use Rattle.cut_code.specs.declared.sketch.OpSketch.{OpSketch}
use Rattle.scf_rows.specs.declared.table.Entry.{Entry}
use Rattle.scf_rows.specs.declared.table.Form.{Form}
use Rattle.scf_rows.specs.declared.table.Form.TheVariants.{If, For, While, Switch, Execute}
use Rattle.scf_rows.specs.Forms.{form_trees}
use Rattle.scf_rows.specs.Table.{form_row, pattern_at}
use Rattle.scf_rows.proofs.MadeLaws.{execute_made, for_made, if_made, switch_made, while_made}
use Rattle.scf_rows.proofs.SeenLaws.{execute_by, execute_is, for_by, for_is, if_by, if_is, switch_by, switch_is, while_by, while_is}

-- no row is straight
pub no_line : (bits k : ℕ) (o : Shape) → None ≡ tree_or_none (straight_at bits (slice_get scf_set k) o)
no_line bits zero o = refl
no_line bits (suc zero) o = refl
no_line bits (suc (suc zero)) o = refl
no_line bits (suc (suc (suc zero))) o = refl
no_line bits (suc (suc (suc (suc zero)))) o = refl
no_line bits (suc (suc (suc (suc (suc k))))) o = refl

-- the cut of a form is its row's, for each operation with that sketch
form_is : (new : Numbers) (type_of : ℕ → PlainType) (form : Form) (s : OpSketch) (o : Op) → sketch_of o ≡ sketch_view s → pieces_or_none new type_of (form_trees form s) ≡ form_row form new type_of o
form_is new type_of If s o e = sym (if_is new type_of o ∙ ap (if_by new type_of) e ∙ if_made new type_of s.results s.operands s.regions s.successors)
form_is new type_of For s o e = sym (for_is new type_of o ∙ ap (for_by new type_of) e ∙ for_made new type_of s.results s.operands s.regions s.successors)
form_is new type_of While s o e = sym (while_is new type_of o ∙ ap (while_by new type_of) e ∙ while_made new type_of s.results s.operands s.regions s.successors)
form_is new type_of Switch s o e = sym (switch_is new type_of o ∙ ap (switch_by new type_of) e ∙ switch_made new type_of s.results s.operands (plain_entries s.props) s.regions s.successors)
form_is new type_of Execute s o e = sym (execute_is new type_of o ∙ ap (execute_by new type_of) e ∙ execute_made new type_of s.results s.operands s.regions s.successors)

here : (rows : List Entry) (k : ℕ) → map pattern_at rows ≡ scf_set → slice_get scf_set k ≡ option_map pattern_at (slice_get rows k)
here rows k table = ap (λ ps. slice_get ps k) (sym table) ∙ slice_get-map pattern_at rows k

-- the cut of a line of the table
pub cut_here : (rows : List Entry) (bits k : ℕ) (e : Entry) (s : OpSketch) (ps : Option (List PieceTree)) → map pattern_at rows ≡ scf_set → slice_get rows k ≡ Some e → ps ≡ form_trees e.form s
    → (o : Op) → sketch_of o ≡ sketch_view s → (new : Numbers) (type_of : ℕ → PlainType) → pieces_or_none new type_of ps ≡ cutting_at bits (slice_get scf_set k) new type_of o
cut_here rows bits k e s ps table at is o same new type_of =
    ap (pieces_or_none new type_of) is ∙ form_is new type_of e.form s o same
    ∙ sym (ap (λ p. cutting_at bits p new type_of o) (here rows k table ∙ ap (option_map pattern_at) at))

pub no_cut : (rows : List Entry) (bits k : ℕ) → map pattern_at rows ≡ scf_set → slice_get rows k ≡ None
    → (o : Op) (new : Numbers) (type_of : ℕ → PlainType) → None ≡ cutting_at bits (slice_get scf_set k) new type_of o
no_cut rows bits k table at o new type_of = sym (ap (λ p. cutting_at bits p new type_of o) (here rows k table ∙ ap (option_map pattern_at) at))
