-- Renaming: what replaces an operation.
use Rattle.std.proofs.Common.{◌≡◌, ℕ, ◌+◌, Bool, true, false, List, [], ◌∷◌, Option, Some, None, refl, ap, ◌∙◌, subst, map}
use Rattle.std.specs.Prelude.{◌&&◌, is_some, if◌then◌else◌}
use Rattle.plain_tree.specs.Types.{PlainType}
use Rattle.plain_tree.specs.Ops.{Op}
use Rattle.conversion_model.specs.Templates.{Template}
use Rattle.conversion_model.specs.Targets.{Target, is_legal, name_of, shape_of, shape_with}
use Rattle.conversion_model.specs.Rows.{Row, Straight, Cutting, Framing, Pattern, Numbers, Piece, Frame}
use Rattle.conversion_model.specs.Chosen.{Leaves, Ranked, and_then, or_else, by_row, change_of, chosen, depth, goes_before, has_root, in_order, order, pattern_depth, put_in, ranked}
use Rattle.conversion_model.specs.Choice.{Choice, Stays, Line, Cuts, Frames, all_legalised, choice, entry_leaves, first_arguments, first_choice, frame_shape, framed, row_choice}
use Rattle.conversion_model.specs.Renamings.{RenOp, ren_op, regions_ended, ren_region, blocks_ended, ren_block, RenPieces, pieces_ended, ren_product, ren_opens, ren_held, ren_stands, RenCut, no_cut, ren_cut, RenNumbers, RowRenames, TableRenames, Anything, always, OneToOne, TypesAgree}
use Rattle.conversion_model.proofs.RenamedTypes.{name_same, shape_same, shapes, value_types}

pub data RenChoice (R L : ℕ → ℕ → Type 0) : Option Choice → Option Choice → Type 0 where
  no_choice : RenChoice R L None None
  ren_stays : RenChoice R L (Some Stays) (Some Stays)
  ren_line : {t : Template} → RenChoice R L (Some (Line t)) (Some (Line t))
  ren_cuts : {place : ℕ} {xs ys : List Piece} → RenPieces R L xs ys → RenChoice R L (Some (Cuts place xs)) (Some (Cuts place ys))
  ren_frames : {f : Frame} {t : Template} → RenChoice R L (Some (Frames f t)) (Some (Frames f t))

pub legalised_same : {R L : ℕ → ℕ → Type 0} {xs ys : List Piece} (leaves : Leaves) → RenPieces R L xs ys → all_legalised leaves xs ≡ all_legalised leaves ys
legalised_same leaves pieces_ended = refl
legalised_same leaves (ren_product {p = p} {types = types} {xs = xs} o rest) =
    ap (λ s. is_some (leaves s) && all_legalised leaves xs) (shape_same types o) ∙ ap (λ b. is_some (leaves (shape_with types p)) && b) (legalised_same leaves rest)
legalised_same leaves (ren_opens l vs rest) = legalised_same leaves rest
legalised_same leaves (ren_held rest) = legalised_same leaves rest
legalised_same leaves (ren_stands r v rest) = legalised_same leaves rest

line_choice : {R L : ℕ → ℕ → Type 0} (x : Option Template) → RenChoice R L (and_then x (λ t. Some (Line t))) (and_then x (λ t. Some (Line t)))
line_choice None = no_choice
line_choice (Some t) = ren_line

abbrev cut_if : Leaves → ℕ → List Piece → Option Choice
cut_if leaves place ps = if all_legalised leaves ps then Some (Cuts place ps) else None

cut_by : {R L : ℕ → ℕ → Type 0} {xs ys : List Piece} (place : ℕ) (b : Bool) → RenPieces R L xs ys → RenChoice R L (if b then Some (Cuts place xs) else None) (if b then Some (Cuts place ys) else None)
cut_by place true rest = ren_cuts rest
cut_by place false rest = no_choice

cut_choice : {R L : ℕ → ℕ → Type 0} {x y : Option (List Piece)} (leaves : Leaves) (place : ℕ) → RenCut R L x y → RenChoice R L (and_then x (cut_if leaves place)) (and_then y (cut_if leaves place))
cut_choice leaves place no_cut = no_choice
cut_choice {R = R} {L = L} leaves place (ren_cut {xs = xs} {ys = ys} ps) =
    subst (λ b. RenChoice R L (cut_if leaves place xs) (if b then Some (Cuts place ys) else None)) (legalised_same leaves ps) (cut_by place (all_legalised leaves xs) ps)

first_types : {R L : ℕ → ℕ → Type 0} {o p : Op} → RenOp R L o p → map (λ (v : ℕ × PlainType). v.1) (first_arguments o) ≡ map (λ (v : ℕ × PlainType). v.1) (first_arguments p)
first_types (ren_op vs os regions_ended ls) = refl
first_types (ren_op vs os (ren_region blocks_ended r) ls) = refl
first_types (ren_op vs os (ren_region (ren_block l args ops more) r) ls) = value_types args

entry_choice : {R L : ℕ → ℕ → Type 0} (f : Frame) (x : Option Template) → RenChoice R L (and_then x (λ entry. Some (Frames f entry))) (and_then x (λ entry. Some (Frames f entry)))
entry_choice f None = no_choice
entry_choice f (Some t) = ren_frames

framed_by : {R L : ℕ → ℕ → Type 0} (f : Frame) (same : Option Template) (x y : Option Template) → x ≡ y
    → RenChoice R L (and_then same (λ s. and_then x (λ entry. Some (Frames f entry)))) (and_then same (λ s. and_then y (λ entry. Some (Frames f entry))))
framed_by f None x y e = no_choice
framed_by {R = R} {L = L} f (Some t) x y e = subst (λ z. RenChoice R L (and_then x (λ entry. Some (Frames f entry))) (and_then z (λ entry. Some (Frames f entry)))) e (entry_choice f x)

frame_choice : {R L : ℕ → ℕ → Type 0} {o p : Op} (change : PlainType → Option PlainType) (leaves : Leaves) (x : Option Frame) → RenOp R L o p → RenChoice R L (and_then x (framed change leaves o)) (and_then x (framed change leaves p))
frame_choice change leaves None r = no_choice
frame_choice change leaves (Some f) r = framed_by f (leaves (frame_shape f)) _ _ (ap (λ ts. entry_leaves change leaves ts 0 f.entry 0) (first_types r))

pub row_choice_ren : {R L : ℕ → ℕ → Type 0} {o p : Op} (bits : ℕ) (converted : Bool) (leaves : Leaves) (a b : Numbers) (s t : ℕ → PlainType) (place : ℕ) (row : Row)
    → OneToOne R → RenNumbers R L a b → TypesAgree R s t → RenOp R L o p → RowRenames row → RenChoice R L (row_choice bits converted leaves a s o place row) (row_choice bits converted leaves b t p place row)
row_choice_ren {R = R} {L = L} {o = o} bits converted leaves a b s t place (Straight row) one new agree r renames =
    subst (λ z. RenChoice R L (row_choice bits converted leaves a s o place (Straight row)) (and_then (by_row bits converted leaves z (Straight row)) (λ u. Some (Line u)))) (shapes s t agree r)
    (line_choice (by_row bits converted leaves (shape_of s o) (Straight row)))
row_choice_ren {R = R} {L = L} {o = o} {p = p} bits converted leaves a b s t place (Cutting row) one new agree r renames = cut_choice leaves place (renames R L a b s t o p one new agree r)
row_choice_ren {R = R} {L = L} {o = o} {p = p} bits converted leaves a b s t place (Framing row) one new agree r renames =
    subst (λ z. RenChoice R L (row_choice bits converted leaves a s o place (Framing row)) (and_then (row z) (framed (change_of bits converted) leaves p))) (shapes s t agree r)
    (frame_choice (change_of bits converted) leaves (row (shape_of s o)) r)

-- All patterns of an order are of the table

abbrev RanksRename : ℕ → List Ranked → Type 1
RanksRename bits [] = Anything
RanksRename bits (r ∷ rs) = RowRenames (r.pattern.row bits) × RanksRename bits rs

put_by : (bits : ℕ) (p q : Ranked) (some qs : List Ranked) (b : Bool) → RowRenames (p.pattern.row bits) → RowRenames (q.pattern.row bits) → RanksRename bits some → RanksRename bits qs → RanksRename bits (if b then q ∷ some else p ∷ q ∷ qs)
put_by bits p q some qs true pr qr sr rest = (qr, sr)
put_by bits p q some qs false pr qr sr rest = (pr, (qr, rest))

put_renames : (bits : ℕ) (p : Ranked) (qs : List Ranked) → RowRenames (p.pattern.row bits) → RanksRename bits qs → RanksRename bits (put_in p qs)
put_renames bits p [] pr rest = (pr, always)
put_renames bits p (q ∷ qs) pr rest = put_by bits p q (put_in p qs) qs (goes_before q p) pr rest.0 (put_renames bits p qs pr rest.1) rest.1

order_renames : (bits : ℕ) (rs : List Ranked) → RanksRename bits rs → RanksRename bits (in_order rs)
order_renames bits [] all = always
order_renames bits (r ∷ rs) all = put_renames bits r (in_order rs) all.0 (order_renames bits rs all.1)

ranked_by : (bits : ℕ) (r : Ranked) (rs : List Ranked) (b : Bool) → RowRenames (r.pattern.row bits) → RanksRename bits rs → RanksRename bits (if b then r ∷ rs else rs)
ranked_by bits r rs true pr rest = (pr, rest)
ranked_by bits r rs false pr rest = rest

ranked_renames : (bits : ℕ) (d : Pattern → Option ℕ) (name : List ℕ) (place : ℕ) (ps : List Pattern) → TableRenames bits ps → RanksRename bits (ranked d name place ps)
ranked_renames bits d name place [] all = always
ranked_renames bits d name place (p ∷ ps) all = ranked_by bits (record { pattern = p; place = place; depth = d p }) (ranked d name (place + 1) ps) (has_root name p) all.0 (ranked_renames bits d name (place + 1) ps all.1)

pub ordered_renames : (bits : ℕ) (target : Target) (table : List Pattern) (name : List ℕ) → TableRenames bits table → RanksRename bits (order target table name)
ordered_renames bits target table name all = order_renames bits _ (ranked_renames bits (pattern_depth (depth target table)) name 0 table all)

or_ren : {R L : ℕ → ℕ → Type 0} {x y z w : Option Choice} → RenChoice R L x y → RenChoice R L z w → RenChoice R L (or_else x z) (or_else y w)
or_ren no_choice other = other
or_ren ren_stays other = ren_stays
or_ren ren_line other = ren_line
or_ren (ren_cuts ps) other = ren_cuts ps
or_ren ren_frames other = ren_frames

pub first_ren : {R L : ℕ → ℕ → Type 0} {o p : Op} (bits : ℕ) (leaves : List ℕ → Leaves) (a b : Numbers) (s t : ℕ → PlainType) (rs : List Ranked)
    → OneToOne R → RenNumbers R L a b → TypesAgree R s t → RenOp R L o p → RanksRename bits rs → RenChoice R L (first_choice bits leaves a s o rs) (first_choice bits leaves b t p rs)
first_ren bits leaves a b s t [] one new agree r all = no_choice
first_ren bits leaves a b s t (q ∷ qs) one new agree r all =
    or_ren (row_choice_ren bits q.pattern.is_converted (leaves (q.place ∷ [])) a b s t q.place (q.pattern.row bits) one new agree r all.0) (first_ren bits leaves a b s t qs one new agree r all.1)

stays_or : {R L : ℕ → ℕ → Type 0} {x y : Option Choice} (b : Bool) → RenChoice R L x y → RenChoice R L (if b then Some Stays else x) (if b then Some Stays else y)
stays_or true other = ren_stays
stays_or false other = other

-- what replaces operations that go together goes together
pub choice_ren : {R L : ℕ → ℕ → Type 0} {o p : Op} (bits : ℕ) (target : Target) (table : List Pattern) (a b : Numbers) (s t : ℕ → PlainType)
    → OneToOne R → RenNumbers R L a b → TypesAgree R s t → TableRenames bits table → RenOp R L o p → RenChoice R L (choice bits target table a s o) (choice bits target table b t p)
choice_ren {R = R} {L = L} {o = o} {p = p} bits target table a b s t one new agree all r =
    subst (λ z. RenChoice R L (choice bits target table a s o) (if is_legal target z then Some Stays else first_choice bits (chosen bits target table) b t p (order target table (name_of p)))) (shapes s t agree r)
    (stays_or (is_legal target (shape_of s o))
    (subst (λ name. RenChoice R L (first_choice bits (chosen bits target table) a s o (order target table (name_of o))) (first_choice bits (chosen bits target table) b t p (order target table name))) (name_same r)
    (first_ren bits (chosen bits target table) a b s t (order target table (name_of o)) one new agree r (ordered_renames bits target table (name_of o) all))))
