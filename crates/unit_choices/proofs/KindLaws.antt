-- The three kinds of rows, and the choice by places.
use Rattle.std.proofs.Common.{◌≡◌, ℕ, ◌+◌, ◌<◌, ◌≤◌, Bool, true, false, List, [], ◌∷◌, drop, get_or, length, map, Option, Some, None, refl, sym, ap, subst, ◌∙◌, arith}
use Rattle.std.specs.Prelude.{slice_get, if◌then◌else◌}
use Rattle.std.specs.List.{list_all}
use Rattle.std.proofs.lemmas.List.{drop_more, drop_all}
use Rattle.plain_tree.specs.Types.{PlainType}
use Rattle.plain_tree.specs.Ops.{Op, op}
use Rattle.conversion_model.specs.Templates.{Template}
use Rattle.conversion_model.specs.Targets.{Shape, Target, is_legal, name_of, shape_of}
use Rattle.conversion_model.specs.Rows.{Numbers, Pattern, Piece, Row, Straight, Cutting, Framing}
use Rattle.conversion_model.specs.Chosen.{Leaves, Ranked, and_then, by_row, change_of, chosen, or_else, order}
use Rattle.conversion_model.specs.Choice.{Choice, Stays, Line, Cuts, all_legalised, choice, first_choice, framed, row_choice}
use Rattle.choice_code.specs.Choosing.{by_row_at}
use Rattle.choice_code.proofs.OrderLaws.{AllAt, all_at}
use Rattle.cut_code.specs.declared.pieces.PieceTree.{PieceTree}
use Rattle.cut_code.specs.Frames.{framing}
use Rattle.cut_code.specs.Pieces.{cutting, cutting_at, pieces_of}
use Rattle.unit_choices.specs.Choosing.{choice_at, choice_by, cut_by, frame_by}
use Rattle.unit_choices.specs.Lines.{is_done, line_in, lines_in}
use Rattle.unit_choices.specs.Separate.{NotIn, Separate}
use Rattle.unit_choices.proofs.LineLaws.{done_same}

or_none : (a : Option Choice) → a ≡ or_else a None
or_none None = refl
or_none (Some c) = refl

row_kinds : (bits : ℕ) (converted : Bool) (leaves : Leaves) (new : Numbers) (type_of : ℕ → PlainType) (o : Op) (place : ℕ) (row : Row)
    → row_choice bits converted leaves new type_of o place row
    ≡ or_else (and_then (by_row bits converted leaves (shape_of type_of o) row) (λ t. Some (Line t))) (or_else (cut_by leaves place (cutting row new type_of o)) (and_then (framing row (shape_of type_of o)) (framed (change_of bits converted) leaves o)))
row_kinds bits converted leaves new type_of o place (Straight row) = or_none (and_then (by_row bits converted leaves (shape_of type_of o) (Straight row)) (λ t. Some (Line t)))
row_kinds bits converted leaves new type_of o place (Cutting row) = or_none (cut_by leaves place (row new type_of o))
row_kinds bits converted leaves new type_of o place (Framing row) = refl

kinds : (bits : ℕ) (leaves : List ℕ → Leaves) (new : Numbers) (type_of : ℕ → PlainType) (o : Op) (place : ℕ) (p : Option Pattern)
    → choice_at bits leaves new type_of o place p
    ≡ or_else (and_then (by_row_at bits (leaves (place ∷ [])) (shape_of type_of o) p) (λ t. Some (Line t))) (or_else (cut_by (leaves (place ∷ [])) place (cutting_at bits p new type_of o)) (frame_by bits (leaves (place ∷ [])) o (shape_of type_of o) p))
kinds bits leaves new type_of o place None = refl
kinds bits leaves new type_of o place (Some p) = row_kinds bits p.is_converted (leaves (place ∷ [])) new type_of o place (p.row bits)

-- by a straight row
pub at_line : (bits : ℕ) (leaves : List ℕ → Leaves) (new : Numbers) (type_of : ℕ → PlainType) (o : Op) (place : ℕ) (p : Option Pattern) (s : Shape) (t : Template)
    → s ≡ shape_of type_of o → Some t ≡ by_row_at bits (leaves (place ∷ [])) s p → Some (Line t) ≡ choice_at bits leaves new type_of o place p
at_line bits leaves new type_of o place p s t seen e =
    sym (kinds bits leaves new type_of o place p
    ∙ ap (λ x. or_else (and_then x (λ t. Some (Line t))) (or_else (cut_by (leaves (place ∷ [])) place (cutting_at bits p new type_of o)) (frame_by bits (leaves (place ∷ [])) o (shape_of type_of o) p)))
    (sym (e ∙ ap (λ q. by_row_at bits (leaves (place ∷ [])) q p) seen)))

not_line : (bits : ℕ) (leaves : List ℕ → Leaves) (new : Numbers) (type_of : ℕ → PlainType) (o : Op) (place : ℕ) (p : Option Pattern) (s : Shape)
    → s ≡ shape_of type_of o → None ≡ by_row_at bits (leaves (place ∷ [])) s p
    → choice_at bits leaves new type_of o place p ≡ or_else (cut_by (leaves (place ∷ [])) place (cutting_at bits p new type_of o)) (frame_by bits (leaves (place ∷ [])) o (shape_of type_of o) p)
not_line bits leaves new type_of o place p s seen e =
    kinds bits leaves new type_of o place p
    ∙ ap (λ x. or_else (and_then x (λ t. Some (Line t))) (or_else (cut_by (leaves (place ∷ [])) place (cutting_at bits p new type_of o)) (frame_by bits (leaves (place ∷ [])) o (shape_of type_of o) p)))
    (sym (e ∙ ap (λ q. by_row_at bits (leaves (place ∷ [])) q p) seen))

-- by a row that cuts
pub at_cut : (bits : ℕ) (leaves : List ℕ → Leaves) (new : Numbers) (type_of : ℕ → PlainType) (o : Op) (place : ℕ) (p : Option Pattern) (s : Shape) (c : Choice)
    → s ≡ shape_of type_of o → None ≡ by_row_at bits (leaves (place ∷ [])) s p → Some c ≡ cut_by (leaves (place ∷ [])) place (cutting_at bits p new type_of o)
    → Some c ≡ choice_at bits leaves new type_of o place p
at_cut bits leaves new type_of o place p s c seen e is =
    sym (not_line bits leaves new type_of o place p s seen e ∙ ap (λ x. or_else x (frame_by bits (leaves (place ∷ [])) o (shape_of type_of o) p)) (sym is))

-- by a row that frames, or by none
pub at_frame : (bits : ℕ) (leaves : List ℕ → Leaves) (new : Numbers) (type_of : ℕ → PlainType) (o : Op) (place : ℕ) (p : Option Pattern) (s : Shape) (c : Option Choice)
    → s ≡ shape_of type_of o → None ≡ by_row_at bits (leaves (place ∷ [])) s p → None ≡ cut_by (leaves (place ∷ [])) place (cutting_at bits p new type_of o)
    → c ≡ frame_by bits (leaves (place ∷ [])) o s p → c ≡ choice_at bits leaves new type_of o place p
at_frame bits leaves new type_of o place p s c seen e missing is =
    is ∙ ap (λ q. frame_by bits (leaves (place ∷ [])) o q p) seen
    ∙ sym (not_line bits leaves new type_of o place p s seen e ∙ ap (λ x. or_else x (frame_by bits (leaves (place ∷ [])) o (shape_of type_of o) p)) (sym missing))

-- Places one after another

pub by_hit : (bits : ℕ) (table : List Pattern) (leaves : List ℕ → Leaves) (new : Numbers) (type_of : ℕ → PlainType) (o : Op) (places : List ℕ) (i k : ℕ) (c : Choice) → i < length places → k ≡ get_or places i k
    → Some c ≡ choice_at bits leaves new type_of o k (slice_get table k) → Some c ≡ choice_by bits table leaves new type_of o (drop i places)
by_hit bits table leaves new type_of o places i k c h at e =
    sym (ap (choice_by bits table leaves new type_of o) (drop_more places i k h ∙ ap (λ j. j ∷ drop (i + 1) places) (sym at))
    ∙ ap (λ x. or_else x (choice_by bits table leaves new type_of o (drop (i + 1) places))) (sym e))

pub by_miss : (bits : ℕ) (table : List Pattern) (leaves : List ℕ → Leaves) (new : Numbers) (type_of : ℕ → PlainType) (o : Op) (places : List ℕ) (i k : ℕ) → i < length places → k ≡ get_or places i k
    → None ≡ choice_at bits leaves new type_of o k (slice_get table k) → choice_by bits table leaves new type_of o (drop i places) ≡ choice_by bits table leaves new type_of o (drop (i + 1) places)
by_miss bits table leaves new type_of o places i k h at e =
    ap (choice_by bits table leaves new type_of o) (drop_more places i k h ∙ ap (λ j. j ∷ drop (i + 1) places) (sym at))
    ∙ ap (λ x. or_else x (choice_by bits table leaves new type_of o (drop (i + 1) places))) (sym e)

pub by_end : (bits : ℕ) (table : List Pattern) (leaves : List ℕ → Leaves) (new : Numbers) (type_of : ℕ → PlainType) (o : Op) (places : List ℕ) (i : ℕ) → length places ≤ i → choice_by bits table leaves new type_of o (drop i places) ≡ None
by_end bits table leaves new type_of o places i h = ap (choice_by bits table leaves new type_of o) (drop_all i places h)

ranks_same : (bits : ℕ) (table : List Pattern) (leaves : List ℕ → Leaves) (new : Numbers) (type_of : ℕ → PlainType) (o : Op) (rs : List Ranked) → AllAt table rs
    → choice_by bits table leaves new type_of o (map (λ (r : Ranked). r.place) rs) ≡ first_choice bits leaves new type_of o rs
ranks_same bits table leaves new type_of o [] all = refl
ranks_same bits table leaves new type_of o (r ∷ rs) all =
    ap (λ p. or_else (choice_at bits leaves new type_of o r.place p) (choice_by bits table leaves new type_of o (map (λ (r : Ranked). r.place) rs))) all.0
    ∙ ap (or_else (choice_at bits leaves new type_of o r.place (Some r.pattern))) (ranks_same bits table leaves new type_of o rs all.1)

name_seen : (type_of : ℕ → PlainType) (o : Op) → (shape_of type_of o).name ≡ name_of o
name_seen type_of (op k results operands regions successors) = refl

-- an operation that is legal stays
pub legal_stays : (bits : ℕ) (target : Target) (table : List Pattern) (new : Numbers) (type_of : ℕ → PlainType) (o : Op) (s : Shape) → s ≡ shape_of type_of o → is_legal target s ≡ true
    → Some Stays ≡ choice bits target table new type_of o
legal_stays bits target table new type_of o s seen e =
    sym (ap (λ b. if b then Some Stays else first_choice bits (chosen bits target table) new type_of o (order target table (name_of o))) (ap (is_legal target) (sym seen) ∙ e))

-- of another one the places in order say what is chosen
pub places_say : (bits : ℕ) (target : Target) (table : List Pattern) (new : Numbers) (type_of : ℕ → PlainType) (o : Op) (s : Shape) (places : List ℕ) (c : Option Choice) → s ≡ shape_of type_of o → is_legal target s ≡ false
    → places ≡ map (λ (r : Ranked). r.place) (order target table s.name) → c ≡ choice_by bits table (chosen bits target table) new type_of o places
    → c ≡ choice bits target table new type_of o
places_say bits target table new type_of o s places c seen e at is =
    let named : s.name ≡ name_of o = ap (λ (q : Shape). q.name) seen ∙ name_seen type_of o in
    is
    ∙ ap (choice_by bits table (chosen bits target table) new type_of o) (at ∙ ap (λ name. map (λ (r : Ranked). r.place) (order target table name)) named)
    ∙ ranks_same bits table (chosen bits target table) new type_of o (order target table (name_of o)) (all_at target table (name_of o))
    ∙ sym (ap (λ b. if b then Some Stays else first_choice bits (chosen bits target table) new type_of o (order target table (name_of o))) (ap (is_legal target) (sym seen) ∙ e))

-- Cuts

both_lines : (b : Bool) (xs ls : List (Option Template)) → Some ls ≡ (if b then Some xs else None) → (b ≡ true) × (ls ≡ xs)
both_lines true xs ls e = let same : ls ≡ xs = cc in (refl, same)
both_lines false xs ls e = absurd (cc)

no_lines : (b : Bool) (xs : List (Option Template)) → None ≡ (if b then Some xs else None) → b ≡ false
no_lines true xs e = absurd (cc)
no_lines false xs e = refl

pub lines_are : (target : Target) (leaves : Leaves) (type_of : ℕ → PlainType) (ps : List PieceTree) (ls : List (Option Template)) → Some ls ≡ lines_in target leaves type_of ps → ls ≡ map (line_in target leaves type_of) ps
lines_are target leaves type_of ps ls e = (both_lines (list_all (is_done leaves type_of) ps) (map (line_in target leaves type_of) ps) ls e).1

-- each product is legalised
pub cut_done : (target : Target) (leaves : Leaves) (place : ℕ) (new : Numbers) (type_of : ℕ → PlainType) (o : Op) (ps : List PieceTree) (ls : List (Option Template)) (pieces : Option (List Piece))
    → Separate new type_of o → ((k : ℕ) → NotIn (new.value k) ps) → Some (pieces_of new type_of ps) ≡ pieces → Some ls ≡ lines_in target leaves type_of ps
    → Some (Cuts place (pieces_of new type_of ps)) ≡ cut_by leaves place pieces
cut_done target leaves place new type_of o ps ls pieces apart own is e =
    sym (ap (cut_by leaves place) (sym is)
    ∙ ap (λ b. if b then Some (Cuts place (pieces_of new type_of ps)) else None)
    (done_same leaves new type_of ps apart.one apart.untyped own ∙ (both_lines (list_all (is_done leaves type_of) ps) (map (line_in target leaves type_of) ps) ls e).0))

-- one isn't
pub cut_fails : (target : Target) (leaves : Leaves) (place : ℕ) (new : Numbers) (type_of : ℕ → PlainType) (o : Op) (ps : List PieceTree) (pieces : Option (List Piece))
    → Separate new type_of o → ((k : ℕ) → NotIn (new.value k) ps) → Some (pieces_of new type_of ps) ≡ pieces → None ≡ lines_in target leaves type_of ps
    → None ≡ cut_by leaves place pieces
cut_fails target leaves place new type_of o ps pieces apart own is e =
    sym (ap (cut_by leaves place) (sym is)
    ∙ ap (λ b. if b then Some (Cuts place (pieces_of new type_of ps)) else None)
    (done_same leaves new type_of ps apart.one apart.untyped own ∙ no_lines (list_all (is_done leaves type_of) ps) (map (line_in target leaves type_of) ps) e))

-- there are no pieces
pub cut_none : (leaves : Leaves) (place : ℕ) (pieces : Option (List Piece)) → None ≡ pieces → None ≡ cut_by leaves place pieces
cut_none leaves place pieces e = ap (cut_by leaves place) e
