-- Steps of the walk through the pieces of a cut, and what the slots say.
use Rattle.std.proofs.Common.{◌≡◌, ℕ, zero, suc, ◌+◌, ◌<◌, ◌≤◌, List, [], ◌∷◌, Option, Some, None, drop, get_or, length, refl, sym, ap, subst, ◌∙◌, arith}
use Rattle.std.specs.Prelude.{⊤}
use Rattle.std.specs.declared.alloc.Global.{Global}
use Rattle.std.specs.declared.rc.Rc.{Rc}
use Rattle.std.proofs.lemmas.List.{drop_all}
use Rattle.plain_tree.specs.Types.{plain_type}
use Rattle.plain_tree.specs.Ops.{Op, op, Regions, plain_values}
use Rattle.tree_model.specs.declared.type_tree.TypeTree.{TypeTree}
use Rattle.choice_code.specs.Plain.{plain_template}
use Rattle.conversion_model.specs.declared.templates.TemplateTree.{TemplateTree}
use Rattle.conversion_model.specs.Conversion.{Supply, line_by, regions_of}
use Rattle.conversion_model.specs.Items.{HeldBlock, Item, Puts, Ways, cut, held_regions, op_at, op_items, puts, whole_regions}
use Rattle.conversion_model.specs.Rows.{Piece, Product, Opens, Held, Stands}
use Rattle.conversion_model.specs.Templates.{Template}
use Rattle.cut_code.specs.Pieces.{piece_of, pieces_of}
use Rattle.cut_code.specs.Sketches as sketches
use Rattle.cut_code.specs.declared.pieces.PieceTree.{PieceTree}
use Rattle.new_numbers.specs.Tables.{supply_of}
use Rattle.unit_slots.specs.declared.slots.Slot.{Slot}
use Rattle.unit_slots.specs.declared.slots.Slot.TheVariants.{Keeps, Line, Cuts}
use Rattle.unit_slots.specs.declared.slots.CutTree.{CutTree}
use Rattle.unit_slots.specs.Slots.{LinesSay, SlotSays, first_line, later_lines, source_from}
use Rattle.unit_writer.specs.Says.{EachOpIn, EachRegionIn, PieceSays, Reading, Said}
use Rattle.unit_writer.specs.Writes.{State, Writes, behind, table_of, with_regions}
use Rattle.unit_writer.proofs.Going.{Ahead, ahead_ended, ahead_on, comes_as}
use Rattle.unit_writer.proofs.Parts.{PiecesSaid, pieces_items}
use Rattle.unit_writer.proofs.SaysLaws.{front, inside, own}

-- An operation by its slot

op_items_at : (w : Ways) (n : ℕ) (o : Op) (more : List Item)
    → op_items w n o more ≡ op_at w n o (with_regions o (whole_regions (held_regions w (n + 1) (regions_of o)))) (w.cuts n o) (held_regions w (n + 1) (regions_of o)) more
op_items_at w n (op k results operands regions successors) more = refl

line_same : (new : ℕ → ℕ) (o : Op) (rs : Regions) (t : Template) → line_by new (with_regions o rs) (Some t) ≡ line_by new o (Some t)
line_same new (op k results operands regions successors) rs t = refl

module _ (slots : List Slot) (sizes : List ℕ) (n : ℕ) (o : Op) (old new : State) where
  abbrev P : Reading → ℕ → Op → Type 0
  P m = Said slots sizes m

  abbrev hs : Reading → List (List HeldBlock)
  hs m = held_regions m.ways (n + 1) (regions_of o)

  abbrev kept : Reading → Op
  kept m = with_regions o (whole_regions (hs m))

  said_at : (s : Slot) → s ≡ get_or slots n Keeps → (m : Reading) → EachOpIn (P m) n o → SlotSays m.ways (supply_of m.table) m.types n o s
  said_at s is m h = subst (SlotSays m.ways (supply_of m.table) m.types n o) (sym is) (own (P m) n o h).slot

  uncut : (m : Reading) (more : List Item) → m.ways.cuts n o ≡ None → op_items m.ways n o more ≡ puts (m.ways.line (source_from n) (m.ways.shape o) (kept m)) more
  uncut m more none = op_items_at m.ways n o more ∙ ap (λ c. op_at m.ways n o (kept m) c (hs m) more) none

  pub op_kept : (s : Slot) → s ≡ get_or slots n Keeps → s ≡ Keeps
      → Writes (λ m. EachRegionIn (P m) (n + 1) (regions_of o)) (λ m more. Puts (kept m) ∷ more) old new
      → Writes (λ m. EachOpIn (P m) n o) (λ m more. op_items m.ways n o more) old new
  op_kept s is keeps w =
      comes_as table_of behind (λ m. EachOpIn (P m) n o) (λ m. EachRegionIn (P m) (n + 1) (regions_of o)) (λ m more. op_items m.ways n o more) (λ m more. Puts (kept m) ∷ more) old new w
      (λ m h. inside (P m) n o h)
      (λ m h more.
      let says = subst (SlotSays m.ways (supply_of m.table) m.types n o) keeps (said_at s is m h) in
      uncut m more says.0 ∙ ap (λ os. puts os more) (says.1 (kept m)))

  pub op_line : (s : Slot) (l : Rc TemplateTree Global) (t : TemplateTree) → s ≡ get_or slots n Keeps → s ≡ Line l → t ≡ l.value
      → Writes (λ m. ⊤) (λ m more. puts (line_by ((supply_of m.table).value n 0) o (Some (plain_template t))) more) old new
      → Writes (λ m. EachOpIn (P m) n o) (λ m more. op_items m.ways n o more) old new
  op_line s l t is line same w =
      comes_as table_of behind (λ m. EachOpIn (P m) n o) (λ m. ⊤) (λ m more. op_items m.ways n o more) (λ m more. puts (line_by ((supply_of m.table).value n 0) o (Some (plain_template t))) more) old new w
      (λ m h. tt)
      (λ m h more.
      let says = subst (SlotSays m.ways (supply_of m.table) m.types n o) line (said_at s is m h) in
      uncut m more says.0
      ∙ ap (λ os. puts os more) (says.1 (kept m) ∙ line_same ((supply_of m.table).value n 0) o (whole_regions (hs m)) (plain_template l.value))
      ∙ ap (λ x. puts (line_by ((supply_of m.table).value n 0) o (Some (plain_template x))) more) (sym same))

  abbrev pub CutSaid : CutTree → Reading → Type 0
  CutSaid c m = EachRegionIn (P m) (n + 1) (regions_of o) × LinesSay m.ways (supply_of m.table) n c.place 1 (pieces_of ((supply_of m.table).row n) m.types c.pieces) c.lines

  pub op_cut : (s : Slot) (c : CutTree) → s ≡ get_or slots n Keeps → s ≡ Cuts c
      → Writes (CutSaid c) (λ m more. cut m.ways n c.place (hs m) 1 (pieces_of ((supply_of m.table).row n) m.types c.pieces) more) old new
      → Writes (λ m. EachOpIn (P m) n o) (λ m more. op_items m.ways n o more) old new
  op_cut s c is cuts w =
      comes_as table_of behind (λ m. EachOpIn (P m) n o) (CutSaid c) (λ m more. op_items m.ways n o more) (λ m more. cut m.ways n c.place (hs m) 1 (pieces_of ((supply_of m.table).row n) m.types c.pieces) more) old new w
      (λ m h. (inside (P m) n o h, (subst (SlotSays m.ways (supply_of m.table) m.types n o) cuts (said_at s is m h)).1))
      (λ m h more.
      let says = subst (SlotSays m.ways (supply_of m.table) m.types n o) cuts (said_at s is m h) in
      op_items_at m.ways n o more ∙ ap (λ q. op_at m.ways n o (kept m) q (hs m) more) says.0)

-- Pieces

cut_first : (w : Ways) (n place : ℕ) (hs : List (List HeldBlock)) (k : ℕ) (p : Piece) (ps : List Piece) (more : List Item)
    → cut w n place hs k (p ∷ ps) more ≡ cut w n place hs k (p ∷ []) (cut w n place hs (k + 1) ps more)
cut_first w n place hs k (Product o types) ps more = refl
cut_first w n place hs k (Opens label args) ps more = refl
cut_first w n place hs k (Held r b) ps more = refl
cut_first w n place hs k (Stands result value) ps more = refl

first_said : (w : Ways) (new : Supply) (n place k : ℕ) (p : Piece) (ps : List Piece) (ls : List (Option TemplateTree)) → LinesSay w new n place k (p ∷ ps) ls
    → PieceSays w new n place k p (first_line ls) × LinesSay w new n place (k + 1) ps (later_lines ls)
first_said w new n place k (Product o types) ps ls h = h
first_said w new n place k (Opens label args) ps ls h = (tt, h)
first_said w new n place k (Held r b) ps ls h = (tt, h)
first_said w new n place k (Stands result value) ps ls h = (tt, h)

none_dropped : (i : ℕ) → drop {A = Option TemplateTree} i [] ≡ []
none_dropped zero = refl
none_dropped (suc i) = refl

later_dropped : (ls : List (Option TemplateTree)) (i : ℕ) → later_lines (drop i ls) ≡ drop (i + 1) ls
later_dropped [] i = ap later_lines (none_dropped i) ∙ sym (none_dropped (i + 1))
later_dropped (l ∷ ls) zero = refl
later_dropped (l ∷ ls) (suc i) = let e : suc i + 1 ≡ suc (i + 1) = omega arith in later_dropped ls i ∙ sym (ap (λ j. drop j (l ∷ ls)) e)

module _ (n at : ℕ) (R : Reading → Type 0) (held : Reading → List (List HeldBlock)) (H : Reading → Type 0) (f : Reading → List Item → List Item) (old mid : State)
    (pieces : List PieceTree) (lines : List (Option TemplateTree)) (i : ℕ) where
  pub pieces_ended : length pieces ≤ i → Ahead table_of behind H f old mid (PiecesSaid n at R (drop i pieces) (drop i lines) (i + 1)) (pieces_items n at held (drop i pieces) (i + 1)) → Writes H f old mid
  pieces_ended h a =
      ahead_ended table_of behind H (PiecesSaid n at R (drop i pieces) (drop i lines) (i + 1)) f (pieces_items n at held (drop i pieces) (i + 1)) old mid a
      (λ m k more. ap (λ ps. cut m.ways n at (held m) (i + 1) (pieces_of ((supply_of m.table).row n) m.types ps) more) (drop_all i pieces h))

  pub pieces_next : (x : PieceTree) → i < length pieces → x ≡ get_or pieces i x → (new : State) (k : ℕ) (line : Option Template) → k ≡ i + 1 → line ≡ first_line (drop i lines)
      → Ahead table_of behind H f old mid (PiecesSaid n at R (drop i pieces) (drop i lines) (i + 1)) (pieces_items n at held (drop i pieces) (i + 1))
      → Writes (λ m. R m × PieceSays m.ways (supply_of m.table) n at k (piece_of ((supply_of m.table).row n) m.types x) line) (λ m more. cut m.ways n at (held m) k (piece_of ((supply_of m.table).row n) m.types x ∷ []) more) mid new
      → Ahead table_of behind H f old new (PiecesSaid n at R (drop (i + 1) pieces) (drop (i + 1) lines) (i + 1 + 1)) (pieces_items n at held (drop (i + 1) pieces) (i + 1 + 1))
  pieces_next x within is new k line place said a w =
      ahead_on table_of behind H (PiecesSaid n at R (drop i pieces) (drop i lines) (i + 1)) (PiecesSaid n at R (drop (i + 1) pieces) (drop (i + 1) lines) (i + 1 + 1)) (λ m. R m × PieceSays m.ways (supply_of m.table) n at k (piece_of ((supply_of m.table).row n) m.types x) line) f (pieces_items n at held (drop i pieces) (i + 1)) (pieces_items n at held (drop (i + 1) pieces) (i + 1 + 1))
      (λ m more. cut m.ways n at (held m) k (piece_of ((supply_of m.table).row n) m.types x ∷ []) more) old mid new a w
      (λ m h. (
        h.0,
        subst (λ j. PieceSays m.ways (supply_of m.table) n at j (piece_of ((supply_of m.table).row n) m.types x) line) (sym place)
            (subst (PieceSays m.ways (supply_of m.table) n at (i + 1) (piece_of ((supply_of m.table).row n) m.types x)) (sym said) (opened m h).0),
      ))
      (λ m h. (h.0, subst (λ ls. LinesSay m.ways (supply_of m.table) n at (i + 1 + 1) (pieces_of ((supply_of m.table).row n) m.types (drop (i + 1) pieces)) ls) (later_dropped lines i) (opened m h).1))
      (λ m h more.
      ap (λ ps. cut m.ways n at (held m) (i + 1) (pieces_of ((supply_of m.table).row n) m.types ps) more) (front pieces i x within is)
      ∙ cut_first m.ways n at (held m) (i + 1) (piece_of ((supply_of m.table).row n) m.types x) (pieces_of ((supply_of m.table).row n) m.types (drop (i + 1) pieces)) more
      ∙ ap (λ j. cut m.ways n at (held m) j (piece_of ((supply_of m.table).row n) m.types x ∷ []) (pieces_items n at held (drop (i + 1) pieces) (i + 1 + 1) m more)) (sym place))
    where
      opened : (m : Reading) → PiecesSaid n at R (drop i pieces) (drop i lines) (i + 1) m → PieceSays m.ways (supply_of m.table) n at (i + 1) (piece_of ((supply_of m.table).row n) m.types x) (first_line (drop i lines)) × LinesSay m.ways (supply_of m.table) n at (i + 1 + 1) (pieces_of ((supply_of m.table).row n) m.types (drop (i + 1) pieces)) (later_lines (drop i lines))
      opened m h =
          first_said m.ways (supply_of m.table) n at (i + 1) (piece_of ((supply_of m.table).row n) m.types x) (pieces_of ((supply_of m.table).row n) m.types (drop (i + 1) pieces)) (drop i lines)
          (subst (λ ps. LinesSay m.ways (supply_of m.table) n at (i + 1) (pieces_of ((supply_of m.table).row n) m.types ps) (drop i lines)) (front pieces i x within is) h.1)

pub same_values : (vs : List (ℕ × TypeTree)) → sketches.plain_values vs ≡ plain_values vs
same_values [] = refl
same_values (v ∷ vs) = ap (λ rest. (v.0, plain_type v.1) ∷ rest) (same_values vs)
