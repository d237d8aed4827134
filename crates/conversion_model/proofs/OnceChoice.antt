-- The pieces of a cut are those of a row of the table.
use Rattle.std.proofs.Common.{◌≡◌, ℕ, ◌+◌, Bool, true, false, List, [], ◌∷◌, Option, Some, None, refl, sym, ap, subst, true≢false}
use Rattle.std.specs.Prelude.{is_some, ⊤, if◌then◌else◌}
use Rattle.plain_tree.specs.Types.{PlainType}
use Rattle.plain_tree.specs.Ops.{Op}
use Rattle.conversion_model.specs.Templates.{Template}
use Rattle.conversion_model.specs.Targets.{Target, is_legal, name_of, shape_of}
use Rattle.conversion_model.specs.Rows.{Row, Straight, Cutting, Framing, Pattern, Numbers, Piece, Frame}
use Rattle.conversion_model.specs.Chosen.{Leaves, Ranked, and_then, or_else, by_row, change_of, chosen, depth, goes_before, has_root, in_order, order, pattern_depth, put_in, ranked}
use Rattle.conversion_model.specs.Choice.{Choice, Stays, Line, Cuts, Frames, all_legalised, choice, entry_leaves, first_choice, frame_shape, framed, row_choice}
use Rattle.conversion_model.specs.Conversion.{pieces_of}
use Rattle.conversion_model.specs.Counts.{PiecesOnce, RowOnce, TableOnce}

abbrev CutOnce : Numbers → Op → Choice → Type 0
CutOnce new o Stays = ⊤
CutOnce new o (Line t) = ⊤
CutOnce new o (Cuts place ps) = PiecesOnce new o ps
CutOnce new o (Frames f t) = ⊤

abbrev pub ChoiceOnce : Numbers → Op → Option Choice → Type 0
ChoiceOnce new o None = ⊤
ChoiceOnce new o (Some c) = CutOnce new o c

line_once : (new : Numbers) (o : Op) (x : Option Template) → ChoiceOnce new o (and_then x (λ t. Some (Line t)))
line_once new o None = tt
line_once new o (Some t) = tt

cut_by : (new : Numbers) (o : Op) (place : ℕ) (ps : List Piece) (b : Bool) → PiecesOnce new o ps → ChoiceOnce new o (if b then Some (Cuts place ps) else None)
cut_by new o place ps true once = once
cut_by new o place ps false once = tt

cut_once : (new : Numbers) (o : Op) (place : ℕ) (leaves : Leaves) (x : Option (List Piece)) → ((ps : List Piece) → x ≡ Some ps → PiecesOnce new o ps)
    → ChoiceOnce new o (and_then x (λ ps. if all_legalised leaves ps then Some (Cuts place ps) else None))
cut_once new o place leaves None once = tt
cut_once new o place leaves (Some ps) once = cut_by new o place ps (all_legalised leaves ps) (once ps refl)

entry_once : (new : Numbers) (o : Op) (f : Frame) (same x : Option Template) → ChoiceOnce new o (and_then same (λ s. and_then x (λ entry. Some (Frames f entry))))
entry_once new o f None x = tt
entry_once new o f (Some s) None = tt
entry_once new o f (Some s) (Some t) = tt

frame_once : (new : Numbers) (o : Op) (change : PlainType → Option PlainType) (leaves : Leaves) (x : Option Frame) → ChoiceOnce new o (and_then x (framed change leaves o))
frame_once new o change leaves None = tt
frame_once new o change leaves (Some f) = entry_once new o f (leaves (frame_shape f)) (entry_leaves change leaves _ 0 f.entry 0)

row_once : (bits : ℕ) (converted : Bool) (leaves : Leaves) (new : Numbers) (type_of : ℕ → PlainType) (o : Op) (place : ℕ) (row : Row) → RowOnce row
    → ChoiceOnce new o (row_choice bits converted leaves new type_of o place row)
row_once bits converted leaves new type_of o place (Straight row) once = line_once new o (by_row bits converted leaves (shape_of type_of o) (Straight row))
row_once bits converted leaves new type_of o place (Cutting row) once = cut_once new o place leaves (row new type_of o) (once new type_of o)
row_once bits converted leaves new type_of o place (Framing row) once = frame_once new o (change_of bits converted) leaves (row (shape_of type_of o))

abbrev RanksOnce : ℕ → List Ranked → Type 0
RanksOnce bits [] = ⊤
RanksOnce bits (r ∷ rs) = RowOnce (r.pattern.row bits) × RanksOnce bits rs

put_by : (bits : ℕ) (p q : Ranked) (some qs : List Ranked) (b : Bool) → RowOnce (p.pattern.row bits) → RowOnce (q.pattern.row bits) → RanksOnce bits some → RanksOnce bits qs → RanksOnce bits (if b then q ∷ some else p ∷ q ∷ qs)
put_by bits p q some qs true pr qr sr rest = (qr, sr)
put_by bits p q some qs false pr qr sr rest = (pr, (qr, rest))

put_once : (bits : ℕ) (p : Ranked) (qs : List Ranked) → RowOnce (p.pattern.row bits) → RanksOnce bits qs → RanksOnce bits (put_in p qs)
put_once bits p [] pr rest = (pr, tt)
put_once bits p (q ∷ qs) pr rest = put_by bits p q (put_in p qs) qs (goes_before q p) pr rest.0 (put_once bits p qs pr rest.1) rest.1

order_once : (bits : ℕ) (rs : List Ranked) → RanksOnce bits rs → RanksOnce bits (in_order rs)
order_once bits [] all = tt
order_once bits (r ∷ rs) all = put_once bits r (in_order rs) all.0 (order_once bits rs all.1)

ranked_by : (bits : ℕ) (r : Ranked) (rs : List Ranked) (b : Bool) → RowOnce (r.pattern.row bits) → RanksOnce bits rs → RanksOnce bits (if b then r ∷ rs else rs)
ranked_by bits r rs true pr rest = (pr, rest)
ranked_by bits r rs false pr rest = rest

ranked_once : (bits : ℕ) (d : Pattern → Option ℕ) (name : List ℕ) (place : ℕ) (ps : List Pattern) → TableOnce bits ps → RanksOnce bits (ranked d name place ps)
ranked_once bits d name place [] all = tt
ranked_once bits d name place (p ∷ ps) all = ranked_by bits (record { pattern = p; place = place; depth = d p }) (ranked d name (place + 1) ps) (has_root name p) all.0 (ranked_once bits d name (place + 1) ps all.1)

or_once : (new : Numbers) (o : Op) (x y : Option Choice) → ChoiceOnce new o x → ChoiceOnce new o y → ChoiceOnce new o (or_else x y)
or_once new o None y first other = other
or_once new o (Some c) y first other = first

first_once : (bits : ℕ) (leaves : List ℕ → Leaves) (new : Numbers) (type_of : ℕ → PlainType) (o : Op) (rs : List Ranked) → RanksOnce bits rs → ChoiceOnce new o (first_choice bits leaves new type_of o rs)
first_once bits leaves new type_of o [] all = tt
first_once bits leaves new type_of o (r ∷ rs) all =
    or_once new o (row_choice bits r.pattern.is_converted (leaves (r.place ∷ [])) new type_of o r.place (r.pattern.row bits)) (first_choice bits leaves new type_of o rs)
    (row_once bits r.pattern.is_converted (leaves (r.place ∷ [])) new type_of o r.place (r.pattern.row bits) all.0)
    (first_once bits leaves new type_of o rs all.1)

stays_once : (new : Numbers) (o : Op) (x : Option Choice) (b : Bool) → ChoiceOnce new o x → ChoiceOnce new o (if b then Some Stays else x)
stays_once new o x true once = tt
stays_once new o x false once = once

choice_once : (bits : ℕ) (target : Target) (table : List Pattern) (new : Numbers) (type_of : ℕ → PlainType) (o : Op) → TableOnce bits table → ChoiceOnce new o (choice bits target table new type_of o)
choice_once bits target table new type_of o all =
    stays_once new o (first_choice bits (chosen bits target table) new type_of o (order target table (name_of o))) (is_legal target (shape_of type_of o))
    (first_once bits (chosen bits target table) new type_of o (order target table (name_of o))
    (order_once bits (ranked (pattern_depth (depth target table)) (name_of o) 0 table) (ranked_once bits (pattern_depth (depth target table)) (name_of o) 0 table all)))

abbrev pieces_or : List Piece → Option (ℕ × List Piece) → List Piece
pieces_or other None = other
pieces_or other (Some c) = c.1

none_there : {P : Type 0} (c : ℕ × List Piece) → None ≡ Some c → P
none_there c is = absurd (true≢false (sym (ap (λ (o : Option (ℕ × List Piece)). is_some o) is)))

pieces_once : (new : Numbers) (o : Op) (x : Option Choice) (c : ℕ × List Piece) → ChoiceOnce new o x → pieces_of x ≡ Some c → PiecesOnce new o c.1
pieces_once new o None c once is = none_there c is
pieces_once new o (Some Stays) c once is = none_there c is
pieces_once new o (Some (Line t)) c once is = none_there c is
pieces_once new o (Some (Cuts place ps)) c once is = subst (λ qs. PiecesOnce new o qs) (ap (pieces_or []) is) once
pieces_once new o (Some (Frames f t)) c once is = none_there c is

if_once : (new : Numbers) (o : Op) (b : Bool) (x : Option Choice) (c : ℕ × List Piece) → ChoiceOnce new o x → (if b then pieces_of x else None) ≡ Some c → PiecesOnce new o c.1
if_once new o true x c once is = pieces_once new o x c once is
if_once new o false x c once is = none_there c is

-- what cuts an operation in a pass
pub way_once : (bits : ℕ) (target : Target) (table : List Pattern) (new : Numbers) (type_of : ℕ → PlainType) (o : Op) (b : Bool) (c : ℕ × List Piece) → TableOnce bits table
    → (if b then pieces_of (choice bits target table new type_of o) else None) ≡ Some c → PiecesOnce new o c.1
way_once bits target table new type_of o b c all is = if_once new o b (choice bits target table new type_of o) c (choice_once bits target table new type_of o all) is
