-- More room for a derivation changes nothing; so a line that is chosen is the leaves of the chosen derivation.
use Rattle.std.proofs.Common.{◌≡◌, ℕ, zero, suc, ◌+◌, ◌<◌, ◌≤◌, Bool, true, false, List, [], ◌∷◌, ◌||◌, length, map, Option, Some, None, refl, sym, ap, subst, ◌∙◌, arith, eq-or-lt_of_le, inl, inr, ◌⊎◌}
use Rattle.std.specs.Prelude.{◌==◌, slice_get, if◌then◌else◌}
use Rattle.std.specs.List.{list_any}
use Rattle.std.proofs.lemmas.Bool.Decides.{Decides-eqb}
use Rattle.std.proofs.Math.Path.{fun_ext}
use Rattle.plain_tree.specs.Types.{PlainType}
use Rattle.plain_tree.specs.Ops.{Op, op}
use Rattle.conversion_model.specs.Templates.{Template}
use Rattle.conversion_model.specs.Targets.{Shape, Target, is_legal, name_of, shape_of}
use Rattle.conversion_model.specs.Rows.{Pattern, Row, Straight, Cutting, Framing, Numbers, Piece, Frame}
use Rattle.conversion_model.specs.Chosen.{Leaves, Ranked, and_then, by_first, by_row, change_of, chosen, chosen_within, itself, or_else, order}
use Rattle.choice_code.proofs.OrderLaws.{AllAt, all_at}
use Rattle.unit_choices.specs.Lines.{own_or_leaves}
use Rattle.conversion_model.specs.Choice.{Choice, Stays, Line, Cuts, Frames, all_legalised, choice, entry_leaves, first_arguments, first_choice, frame_shape, framed, row_choice}

-- Places that are left

abbrev on : List ℕ → ℕ → Bool
on path k = list_any (λ place. place == k) path

abbrev off : Bool → ℕ
off true = 0
off false = 1

-- how many places below n are not on the path
abbrev free : ℕ → List ℕ → ℕ
free zero path = 0
free (suc n) path = off (on path n) + free n path

off_less : (b c : Bool) → off (b || c) ≤ off c
off_less true true = omega arith
off_less true false = omega arith
off_less false true = omega arith
off_less false false = omega arith

off_taken : (b c : Bool) → b ≡ true → c ≡ false → off (b || c) < off c
off_taken true false h k = omega arith
off_taken true true h k = cc
off_taken false c h k = cc

free_less : (n p : ℕ) (path : List ℕ) → free n (p ∷ path) ≤ free n path
free_less zero p path = omega arith
free_less (suc n) p path =
    let here : off ((p == n) || on path n) ≤ off (on path n) = off_less (p == n) (on path n) in
    let below : free n (p ∷ path) ≤ free n path = free_less n p path in
    omega (arith, here, below)

free_at : (n p : ℕ) (path : List ℕ) → p ≡ n → on path p ≡ false → free (suc n) (p ∷ path) < free (suc n) path
free_at n p path e o =
    let here : off ((p == n) || on path n) < off (on path n) = off_taken (p == n) (on path n) ((Decides-eqb p n).1 e) (ap (on path) (sym e) ∙ o) in
    let below : free n (p ∷ path) ≤ free n path = free_less n p path in
    omega (arith, here, below)

-- a place on the path that wasn't there leaves fewer
free_taken : (n p : ℕ) (path : List ℕ) → p < n → on path p ≡ false → free n (p ∷ path) < free n path
free_taken zero p path h o = absurd (omega (arith, h))
free_taken (suc n) p path h o = go (eq-or-lt_of_le (omega (arith, h))) (free_taken n p path)
  where
    go : (p ≡ n) ⊎ (p < n) → (p < n → on path p ≡ false → free n (p ∷ path) < free n path) → free (suc n) (p ∷ path) < free (suc n) path
    go (inl e) ih = free_at n p path e o
    go (inr lt) ih =
        let here : off ((p == n) || on path n) ≤ off (on path n) = off_less (p == n) (on path n) in
        let below : free n (p ∷ path) < free n path = ih lt o in
        omega (arith, here, below)

free_all : (n : ℕ) → free n [] ≤ n
free_all zero = omega arith
free_all (suc n) = let below : free n [] ≤ n = free_all n in omega (arith, below)

-- Room

-- each pattern stands below n in the table
abbrev pub AllBelow : ℕ → List Ranked → Type 0
AllBelow n [] = Unit {0}
AllBelow n (r ∷ rs) = (r.place < n) × AllBelow n rs

by_place_same : (b : Bool) (x y : Option Template) (a c : Option Template) → (b ≡ false → a ≡ c) → x ≡ y → (if b then x else or_else a x) ≡ (if b then y else or_else c y)
by_place_same true x y a c h e = e
by_place_same false x y a c h e = ap (λ z. or_else z x) (h refl) ∙ ap (or_else c) e

first_same : (bits n : ℕ) (leaves more : List ℕ → Leaves) (path : List ℕ) (o : Shape) (rs : List Ranked) → AllBelow n rs
    → ((p : ℕ) → p < n → on path p ≡ false → leaves (p ∷ path) ≡ more (p ∷ path)) → by_first bits leaves path o rs ≡ by_first bits more path o rs
first_same bits n leaves more path o [] all h = refl
first_same bits n leaves more path o (r ∷ rs) all h =
    by_place_same (on path r.place) (by_first bits leaves path o rs) (by_first bits more path o rs)
    (by_row bits r.pattern.is_converted (leaves (r.place ∷ path)) o (r.pattern.row bits)) (by_row bits r.pattern.is_converted (more (r.place ∷ path)) o (r.pattern.row bits))
    (λ free. ap (λ (l : Leaves). by_row bits r.pattern.is_converted l o (r.pattern.row bits)) (h r.place all.0 free))
    (first_same bits n leaves more path o rs all.1 h)

-- two rooms for all places that are left come to the same
pub room_same : (bits : ℕ) (target : Target) (order : List ℕ → List Ranked) (n : ℕ) → ((name : List ℕ) → AllBelow n (order name))
    → (room more : ℕ) (path : List ℕ) → free n path < room → free n path < more → chosen_within bits target order room path ≡ chosen_within bits target order more path
room_same bits target order n below zero more path h k = absurd (omega (arith, h))
room_same bits target order n below (suc room) zero path h k = absurd (omega (arith, k))
room_same bits target order n below (suc room) (suc more) path h k = fun_ext (λ o.
    ap (λ found. if is_legal target o then Some (itself o) else found)
    (first_same bits n (chosen_within bits target order room) (chosen_within bits target order more) path o (order o.name) (below o.name)
    (λ p lt o. room_same bits target order n below room more (p ∷ path) (less room p path h lt o) (less more p path k lt o))))
  where
    less : (room p : ℕ) (path : List ℕ) → free n path < suc room → p < n → on path p ≡ false → free n (p ∷ path) < room
    less room p path h lt o = let taken : free n (p ∷ path) < free n path = free_taken n p path lt o in omega (arith, taken, h)

-- the leaves on a path of one pattern are the same with one level less
pub one_less : (bits : ℕ) (target : Target) (order : List ℕ → List Ranked) (n : ℕ) → ((name : List ℕ) → AllBelow n (order name))
    → (p : ℕ) → p < n → chosen_within bits target order (n + 1) (p ∷ []) ≡ chosen_within bits target order n (p ∷ [])
one_less bits target order n below p lt =
    let taken : free n (p ∷ []) < free n [] = free_taken n p [] lt refl in
    let all : free n [] ≤ n = free_all n in
    room_same bits target order n below (n + 1) n (p ∷ []) (omega (arith, taken, all)) (omega (arith, taken, all))

-- Lines

-- where a choice is a line, or there is none, the leaves are that
abbrev pub Agrees : Option Choice → Option Template → Type 0
Agrees None x = x ≡ None
Agrees (Some (Line t)) x = x ≡ Some t
Agrees (Some Stays) x = ⊥
Agrees (Some (Cuts place ps)) x = Unit {0}
Agrees (Some (Frames f entry)) x = Unit {0}

or_agrees : (a b : Option Choice) (x y : Option Template) → Agrees a x → Agrees b y → Agrees (or_else a b) (or_else x y)
or_agrees None b x y h k = subst (λ (z : Option Template). Agrees b (or_else z y)) (sym h) k
or_agrees (Some (Line t)) b x y h k = ap (λ (z : Option Template). or_else z y) h
or_agrees (Some Stays) b x y h k = absurd h
or_agrees (Some (Cuts place ps)) b x y h k = tt
or_agrees (Some (Frames f entry)) b x y h k = tt

line_agrees : (x : Option Template) → Agrees (and_then x (λ t. Some (Line t))) x
line_agrees None = refl
line_agrees (Some t) = refl

cut_agrees : (place : ℕ) (leaves : Leaves) (o : Option (List Piece)) → Agrees (and_then o (λ ps. if all_legalised leaves ps then Some (Cuts place ps) else None)) None
cut_agrees place leaves None = refl
cut_agrees place leaves (Some ps) = go (all_legalised leaves ps)
  where
    go : (b : Bool) → Agrees (if b then Some (Cuts place ps) else None) None
    go true = tt
    go false = refl

entry_agrees : (f : Frame) (x : Option Template) → Agrees (and_then x (λ entry. Some (Frames f entry))) None
entry_agrees f None = refl
entry_agrees f (Some entry) = tt

frame_agrees : (f : Frame) (same x : Option Template) → Agrees (and_then same (λ t. and_then x (λ entry. Some (Frames f entry)))) None
frame_agrees f None x = refl
frame_agrees f (Some t) x = entry_agrees f x

framing_agrees : (change : PlainType → Option PlainType) (leaves : Leaves) (o : Op) (f : Option Frame) → Agrees (and_then f (framed change leaves o)) None
framing_agrees change leaves o None = refl
framing_agrees change leaves o (Some f) =
    frame_agrees f (leaves (frame_shape f)) (entry_leaves change leaves (map (λ v. v.1) (first_arguments o)) 0 f.entry 0)

row_agrees : (bits : ℕ) (converted : Bool) (leaves : Leaves) (new : Numbers) (type_of : ℕ → PlainType) (o : Op) (place : ℕ) (row : Row)
    → Agrees (row_choice bits converted leaves new type_of o place row) (by_row bits converted leaves (shape_of type_of o) row)
row_agrees bits converted leaves new type_of o place (Straight row) = line_agrees (by_row bits converted leaves (shape_of type_of o) (Straight row))
row_agrees bits converted leaves new type_of o place (Cutting row) = cut_agrees place leaves (row new type_of o)
row_agrees bits converted leaves new type_of o place (Framing row) = framing_agrees (change_of bits converted) leaves o (row (shape_of type_of o))

first_agrees : (bits n : ℕ) (leaves more : List ℕ → Leaves) (new : Numbers) (type_of : ℕ → PlainType) (o : Op) (rs : List Ranked) → AllBelow n rs
    → ((p : ℕ) → p < n → leaves (p ∷ []) ≡ more (p ∷ [])) → Agrees (first_choice bits leaves new type_of o rs) (by_first bits more [] (shape_of type_of o) rs)
first_agrees bits n leaves more new type_of o [] all h = refl
first_agrees bits n leaves more new type_of o (r ∷ rs) all h =
    or_agrees (row_choice bits r.pattern.is_converted (leaves (r.place ∷ [])) new type_of o r.place (r.pattern.row bits)) (first_choice bits leaves new type_of o rs)
    (by_row bits r.pattern.is_converted (more (r.place ∷ [])) (shape_of type_of o) (r.pattern.row bits)) (by_first bits more [] (shape_of type_of o) rs)
    (subst (λ (l : Leaves). Agrees (row_choice bits r.pattern.is_converted (leaves (r.place ∷ [])) new type_of o r.place (r.pattern.row bits)) (by_row bits r.pattern.is_converted l (shape_of type_of o) (r.pattern.row bits)))
    (h r.place all.0) (row_agrees bits r.pattern.is_converted (leaves (r.place ∷ [])) new type_of o r.place (r.pattern.row bits)))
    (first_agrees bits n leaves more new type_of o rs all.1 h)

-- what a choice means for the leaves of an operation, where it is legal itself or not
abbrev pub Means : Option Choice → Option Template → Option Template → Type 0
Means None own leaves = Unit {0}
Means (Some Stays) own leaves = own ≡ None
Means (Some (Line t)) own leaves = own ≡ Some t
Means (Some (Cuts place ps)) own leaves = Unit {0}
Means (Some (Frames f entry)) own leaves = own ≡ leaves

agrees_means : (a : Option Choice) (x : Option Template) → Agrees a x → Means a x x
agrees_means None x h = tt
agrees_means (Some Stays) x h = absurd h
agrees_means (Some (Line t)) x h = h
agrees_means (Some (Cuts place ps)) x h = tt
agrees_means (Some (Frames f entry)) x h = refl

legal_means : (b : Bool) (own found : Option Template) (a : Option Choice) → Agrees a found → Means (if b then Some Stays else a) (if b then None else (if b then own else found)) (if b then own else found)
legal_means true own found a h = refl
legal_means false own found a h = agrees_means a found h

-- where the choice for an operation is a line, it is the leaves of the chosen derivation
pub choice_means : (bits : ℕ) (target : Target) (table : List Pattern) (new : Numbers) (type_of : ℕ → PlainType) (o : Op) → ((name : List ℕ) → AllBelow (length table) (order target table name))
    → Means (choice bits target table new type_of o) (own_or_leaves target (chosen bits target table []) (shape_of type_of o)) (chosen bits target table [] (shape_of type_of o))
choice_means bits target table new type_of (op k results operands regions successors) below =
    let o : Op = op k results operands regions successors in
    let n : ℕ = length table in
    let suc_n : n + 1 ≡ suc n = omega arith in
    subst (λ room. Means (choice bits target table new type_of o) (own_or_leaves target (chosen_within bits target (order target table) room []) (shape_of type_of o)) (chosen_within bits target (order target table) room [] (shape_of type_of o))) (sym suc_n)
    (legal_means (is_legal target (shape_of type_of o)) (Some (itself (shape_of type_of o))) (by_first bits (chosen_within bits target (order target table) n) [] (shape_of type_of o) (order target table k.name))
    (first_choice bits (chosen bits target table) new type_of o (order target table k.name))
    (first_agrees bits n (chosen bits target table) (chosen_within bits target (order target table) n) new type_of o (order target table k.name) (below k.name) (one_less bits target (order target table) n below)))

-- each pattern of an order stands in the table
at_below : (table : List Pattern) (k : ℕ) (p : Pattern) → slice_get table k ≡ Some p → k < length table
at_below [] k p e = cc
at_below (q ∷ table) zero p e = omega arith
at_below (q ∷ table) (suc k) p e = let below : k < length table = at_below table k p e in omega (arith, below)

all_below : (table : List Pattern) (rs : List Ranked) → AllAt table rs → AllBelow (length table) rs
all_below table [] h = tt
all_below table (r ∷ rs) h = (at_below table r.place r.pattern h.0, all_below table rs h.1)

pub order_below : (target : Target) (table : List Pattern) (name : List ℕ) → AllBelow (length table) (order target table name)
order_below target table name = all_below table (order target table name) (all_at target table name)
