-- Operations that are cut, and the parts of a cut that products and opening blocks are.
use Rattle.std.proofs.Common.{◌≡◌, ℕ, ◌+◌, List, [], ◌∷◌, Option, get_or, sym, ap, subst, ◌∙◌}
use Rattle.std.specs.Prelude.{⊤}
use Rattle.tree_model.specs.declared.type_tree.TypeTree.{TypeTree}
use Rattle.plain_tree.specs.Ops.{Op, Values, plain_values}
use Rattle.conversion_model.specs.Conversion.{line_by, regions_of}
use Rattle.conversion_model.specs.Items.{Begins, HeldBlock, cut, held_regions, op_items, puts}
use Rattle.conversion_model.specs.declared.templates.TemplateTree.{TemplateTree}
use Rattle.conversion_model.specs.Templates.{Template}
use Rattle.cut_code.specs.Pieces.{label_at, piece_of, pieces_of}
use Rattle.cut_code.specs.declared.pieces.CutLabel.{CutLabel}
use Rattle.cut_code.specs.declared.pieces.PieceTree.{PieceTree}
use Rattle.cut_code.specs.declared.pieces.PieceTree.TheVariants.{Product, Opens}
use Rattle.cut_code.specs.declared.pieces.ProductTree.{ProductTree}
use Rattle.new_numbers.specs.Tables.{supply_of}
use Rattle.unit_slots.specs.declared.slots.CutTree.{CutTree}
use Rattle.unit_slots.specs.declared.slots.Slot.{Slot}
use Rattle.unit_slots.specs.declared.slots.Slot.TheVariants.{Cuts, Keeps}
use Rattle.unit_slots.specs.Slots.{LinesSay}
use Rattle.unit_writer.specs.Names.{product_op}
use Rattle.unit_writer.specs.Says.{EachOpIn, EachRegionIn, PieceSays, Reading, Said}
use Rattle.unit_writer.specs.Writes.{State, Writes, behind, table_of}
use Rattle.unit_writer.proofs.Going.{comes_as}
use Rattle.unit_writer.proofs.PieceLaws.{op_cut, same_values}

-- an operation that is cut, over the code's lists of its pieces and of their lines
pub op_cut_by : (slots : List Slot) (sizes : List ℕ) (n : ℕ) (o : Op) (old new : State) (s : Slot) (c : CutTree) (pieces : List PieceTree) (lines : List (Option TemplateTree))
    → s ≡ get_or slots n Keeps → s ≡ Cuts c → pieces ≡ c.pieces → lines ≡ c.lines
    → Writes (λ m. EachRegionIn (Said slots sizes m) (n + 1) (regions_of o) × LinesSay m.ways (supply_of m.table) n c.place 1 (pieces_of ((supply_of m.table).row n) m.types pieces) lines)
    (λ m more. cut m.ways n c.place (held_regions m.ways (n + 1) (regions_of o)) 1 (pieces_of ((supply_of m.table).row n) m.types pieces) more) old new
    → Writes (λ m. EachOpIn (Said slots sizes m) n o) (λ m more. op_items m.ways n o more) old new
op_cut_by slots sizes n o old new s c pieces lines is cuts same too w =
    op_cut slots sizes n o old new s c is cuts
    (subst (λ ps. Writes (λ m. EachRegionIn (Said slots sizes m) (n + 1) (regions_of o) × LinesSay m.ways (supply_of m.table) n c.place 1 (pieces_of ((supply_of m.table).row n) m.types ps) c.lines)
    (λ m more. cut m.ways n c.place (held_regions m.ways (n + 1) (regions_of o)) 1 (pieces_of ((supply_of m.table).row n) m.types ps) more) old new) same
    (subst (λ ls. Writes (λ m. EachRegionIn (Said slots sizes m) (n + 1) (regions_of o) × LinesSay m.ways (supply_of m.table) n c.place 1 (pieces_of ((supply_of m.table).row n) m.types pieces) ls)
    (λ m more. cut m.ways n c.place (held_regions m.ways (n + 1) (regions_of o)) 1 (pieces_of ((supply_of m.table).row n) m.types pieces) more) old new) too w))

module _ (n at k : ℕ) (H : Reading → Type 0) (held : Reading → List (List HeldBlock)) (x : PieceTree) (line : Option Template) (old new : State) where
  abbrev PieceKnown : PieceTree → Reading → Type 0
  PieceKnown y m = H m × PieceSays m.ways (supply_of m.table) n at k (piece_of ((supply_of m.table).row n) m.types y) line

  abbrev pub PieceWrites : PieceTree → Type 0
  PieceWrites y = Writes (PieceKnown y) (λ m more. cut m.ways n at (held m) k (piece_of ((supply_of m.table).row n) m.types y ∷ []) more) old new

  pub product_piece : (p : ProductTree) → x ≡ Product p → Writes (λ m. ⊤) (λ m more. puts (line_by ((supply_of m.table).value n k) (product_op ((supply_of m.table).row n) p) line) more) old new → PieceWrites x
  product_piece p is w =
      subst PieceWrites (sym is)
      (comes_as table_of behind (PieceKnown (Product p)) (λ m. ⊤) (λ m more. cut m.ways n at (held m) k (piece_of ((supply_of m.table).row n) m.types (Product p) ∷ []) more)
      (λ m more. puts (line_by ((supply_of m.table).value n k) (product_op ((supply_of m.table).row n) p) line) more) old new w (λ m h. tt) (λ m h more. ap (λ os. puts os more) h.1))

  pub opens_piece : (label : CutLabel) (args : List (ℕ × TypeTree)) (vs : Values) → x ≡ Opens label args → vs ≡ plain_values args
      → Writes (λ m. ⊤) (λ m more. Begins (label_at ((supply_of m.table).row n) label) vs ∷ more) old new → PieceWrites x
  opens_piece label args vs is same w =
      subst PieceWrites (sym is)
      (comes_as table_of behind (PieceKnown (Opens label args)) (λ m. ⊤) (λ m more. cut m.ways n at (held m) k (piece_of ((supply_of m.table).row n) m.types (Opens label args) ∷ []) more)
      (λ m more. Begins (label_at ((supply_of m.table).row n) label) vs ∷ more) old new w (λ m h. tt)
      (λ m h more. ap (λ y. Begins (label_at ((supply_of m.table).row n) label) y ∷ more) (same_values args ∙ sym same)))
