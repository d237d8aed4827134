-- Single parts that are written: templates, products, blocks that open.
use Rattle.std.proofs.Common.{◌≡◌, ℕ, false, List, [], ◌∷◌, Option, Some, None, sym, ap, ◌∙◌}
use Rattle.std.specs.Prelude.{⊤}
use Rattle.tree_model.specs.declared.op_tree.OpTree.{OpTree, out-OpTree}
use Rattle.plain_tree.specs.Ops.{Op, Values, end_of_regions, plain_op, plain_values}
use Rattle.conversion_model.specs.Conversion.{line_by, regions_of}
use Rattle.conversion_model.specs.Items.{Begins, Item, puts}
use Rattle.conversion_model.specs.Templates.{Template, written}
use Rattle.conversion_model.specs.Uses.{is_copy, op_without}
use Rattle.new_numbers.specs.Tables.{Extends, Numbering, supply_of}
use Rattle.new_numbers.proofs.PlaceLaws.{extends_on}
use Rattle.unit_writer.specs.Names.{Asked}
use Rattle.unit_writer.specs.Pages.{op_from, with_block, with_op}
use Rattle.unit_writer.specs.Writes.{State, Writes, WritesLine, behind}
use Rattle.unit_writer.proofs.Behind.{begin_behind}
use Rattle.unit_writer.proofs.Layers.{op_plain_at}
use Rattle.unit_writer.proofs.LineLaws.{put_asked}

line_at : (o : OpTree) (new : ℕ → ℕ) (t : Template) → line_by new (plain_op o) (Some t) ≡ written new (plain_values (out-OpTree o).results) (out-OpTree o).operands (out-OpTree o).successors t []
unfolding op_from
line_at o new t = ap (λ x. line_by new x (Some t)) (op_plain_at o)

-- a template in the place of an operation with these parts
pub line_put : (o : OpTree) (n k : ℕ) (t : Template) (rs : Values) (operands labels : List ℕ) (old new : State) → rs ≡ plain_values (out-OpTree o).results → operands ≡ (out-OpTree o).operands → labels ≡ (out-OpTree o).successors
    → WritesLine (λ u rest. written ((supply_of u).value n k) rs operands labels t rest) old new
    → Writes (λ m. ⊤) (λ m more. puts (line_by ((supply_of m.table).value n k) (plain_op o) (Some t)) more) old new
line_put o n k t rs operands labels old new results same targets w = record {
  extends = w.extends;
  written = λ m e h more.
      let by : ℕ → ℕ = (supply_of m.table).value n k in
      ap (λ os. behind old (puts os more))
      (line_at o by t
      ∙ ap (λ x. written by x (out-OpTree o).operands (out-OpTree o).successors t []) (sym results)
      ∙ ap (λ x. written by rs x (out-OpTree o).successors t []) (sym same)
      ∙ ap (λ x. written by rs operands x t []) (sym targets))
      ∙ w.written m e tt (record { ops = []; more = more });
}

-- states with the same page and the same pairs
same_behind : (old mid : State) → mid.page ≡ old.page → mid.notes.pairs ≡ old.notes.pairs → (more : List Item) → behind old more ≡ behind mid more
same_behind old mid page noted more =
    ap (λ p. behind (record { page = p; notes = old.notes }) more) (sym page)
    ∙ ap (λ ps. behind (record { page = mid.page; notes = record { pairs = ps; table = old.notes.table } }) more) (sym noted)

-- a product whose numbers were asked for, in the place of which a line is written
pub product_line : (n k : ℕ) (part : Numbering → Op) (o : Op) (s t : Option Template) (old mid new : State) → s ≡ t → Asked old.notes.table mid.notes.table (λ u. part u ≡ o)
    → mid.page ≡ old.page → mid.notes.pairs ≡ old.notes.pairs
    → Writes (λ m. ⊤) (λ m more. puts (line_by ((supply_of m.table).value n k) o t) more) mid new
    → Writes (λ m. ⊤) (λ m more. puts (line_by ((supply_of m.table).value n k) (part m.table) s) more) old new
product_line n k part o s t old mid new line asked page noted w = record {
  extends = extends_on old.notes.table mid.notes.table new.notes.table asked.extends w.extends;
  written = λ m e h more.
      let before : Extends mid.notes.table m.table = extends_on mid.notes.table new.notes.table m.table w.extends e in
      let by : ℕ → ℕ = (supply_of m.table).value n k in
      ap (λ x. behind old (puts (line_by by (part m.table) x) more)) line
      ∙ ap (λ x. behind old (puts (line_by by x t) more)) (asked.says m.table before)
      ∙ same_behind old mid page noted (puts (line_by by o t) more)
      ∙ w.written m e tt more;
}

-- a product that stands for itself
pub product_own : (n k : ℕ) (part : Numbering → Op) (o : Op) (s : Option Template) (old new : State) → s ≡ None
    → ((u : Numbering) → op_without is_copy (part u) ≡ part u) → ((u : Numbering) → regions_of (part u) ≡ end_of_regions) → is_copy o ≡ false
    → Asked old.notes.table new.notes.table (λ u. part u ≡ o) → new.page ≡ with_op old.page o → new.notes.pairs ≡ old.notes.pairs
    → Writes (λ m. ⊤) (λ m more. puts (line_by ((supply_of m.table).value n k) (part m.table) s) more) old new
product_own n k part o s old new line bare none other asked page noted = record {
  extends = asked.extends;
  written = λ m e h more.
      ap (λ x. behind old (puts (line_by ((supply_of m.table).value n k) (part m.table) x) more)) line
      ∙ (put_asked old new part o bare none other asked page noted).written m e tt (record { ops = []; more = more });
}

-- a block that opens, whose label was asked for
pub opens_put : (part : Numbering → ℕ) (label : ℕ) (vs args : Values) (old new : State) → Asked old.notes.table new.notes.table (λ u. part u ≡ label) → vs ≡ args
    → new.page ≡ with_block old.page label args → new.notes.pairs ≡ old.notes.pairs
    → Writes (λ m. ⊤) (λ m more. Begins (part m.table) vs ∷ more) old new
opens_put part label vs args old new asked same page noted = record {
  extends = asked.extends;
  written = λ m e h more.
      ap (λ x. behind old (Begins x vs ∷ more)) (asked.says m.table e)
      ∙ ap (λ x. behind old (Begins label x ∷ more)) same
      ∙ begin_behind old new label args page noted more;
}
