-- A pass of straight rows cuts no operation.
use Rattle.std.proofs.Common.{◌≡◌, ℕ, ◌+◌, Bool, true, false, List, [], ◌∷◌, Option, Some, None, refl}
use Rattle.std.specs.Prelude.{⊤, if◌then◌else◌}
use Rattle.plain_tree.specs.Types.{PlainType}
use Rattle.plain_tree.specs.Ops.{Op}
use Rattle.rule_model.specs.Words.{AllOf}
use Rattle.conversion_model.specs.Templates.{Template}
use Rattle.conversion_model.specs.Targets.{is_legal, name_of, shape_of, Target}
use Rattle.conversion_model.specs.Rows.{Cutting, Framing, Numbers, Pattern, Row, Straight}
use Rattle.conversion_model.specs.Chosen.{and_then, by_row, chosen, depth, has_root, Leaves, or_else, order, pattern_depth, Ranked, ranked}
use Rattle.conversion_model.specs.Choice.{Choice, choice, first_choice, Line, row_choice, Stays}
use Rattle.conversion_model.specs.Conversion.{pieces_of}
use Rattle.fitting_rows.proofs.TypedChoice.{order_all, ranked_by}

abbrev pub IsStraight : Row → Type 0
IsStraight (Straight row) = ⊤
IsStraight (Cutting row) = ⊥
IsStraight (Framing row) = ⊥

abbrev pub AllStraight : ℕ → List Pattern → Type 0
AllStraight bits ps = AllOf (λ (p : Pattern). IsStraight (p.row bits)) ps

abbrev Uncut : Option Choice → Type 0
Uncut x = pieces_of x ≡ None

row_uncut : (bits : ℕ) (converted : Bool) (leaves : Leaves) (new : Numbers) (type_of : ℕ → PlainType) (o : Op) (place : ℕ) (row : Row) → IsStraight row → Uncut (row_choice bits converted leaves new type_of o place row)
row_uncut bits converted leaves new type_of o place (Straight row) s = go (by_row bits converted leaves (shape_of type_of o) (Straight row))
  where
    go : (x : Option Template) → Uncut (and_then x (λ t. Some (Line t)))
    go None = refl
    go (Some t) = refl
row_uncut bits converted leaves new type_of o place (Cutting row) s = absurd s
row_uncut bits converted leaves new type_of o place (Framing row) s = absurd s

or_uncut : (x y : Option Choice) → Uncut x → Uncut y → Uncut (or_else x y)
or_uncut None y a b = b
or_uncut (Some c) y a b = a

first_uncut : (bits : ℕ) (leaves : List ℕ → Leaves) (new : Numbers) (type_of : ℕ → PlainType) (o : Op) (rs : List Ranked) → AllOf (λ (r : Ranked). IsStraight (r.pattern.row bits)) rs → Uncut (first_choice bits leaves new type_of o rs)
first_uncut bits leaves new type_of o [] all = refl
first_uncut bits leaves new type_of o (r ∷ rs) all =
    or_uncut (row_choice bits r.pattern.is_converted (leaves (r.place ∷ [])) new type_of o r.place (r.pattern.row bits)) (first_choice bits leaves new type_of o rs)
    (row_uncut bits r.pattern.is_converted (leaves (r.place ∷ [])) new type_of o r.place (r.pattern.row bits) all.0) (first_uncut bits leaves new type_of o rs all.1)

ranked_straight : (bits : ℕ) (d : Pattern → Option ℕ) (name : List ℕ) (place : ℕ) (ps : List Pattern) → AllStraight bits ps → AllOf (λ (r : Ranked). IsStraight (r.pattern.row bits)) (ranked d name place ps)
ranked_straight bits d name place [] all = tt
ranked_straight bits d name place (p ∷ ps) all =
    ranked_by (λ (r : Ranked). IsStraight (r.pattern.row bits)) (record { pattern = p; place = place; depth = d p }) (ranked d name (place + 1) ps) (has_root name p) (λ e. all.0) (ranked_straight bits d name (place + 1) ps all.1)

pub choice_uncut : (bits : ℕ) (target : Target) (table : List Pattern) (new : Numbers) (type_of : ℕ → PlainType) (o : Op) → AllStraight bits table → Uncut (choice bits target table new type_of o)
choice_uncut bits target table new type_of o all = go (is_legal target (shape_of type_of o))
  where
    go : (b : Bool) → Uncut (if b then Some Stays else first_choice bits (chosen bits target table) new type_of o (order target table (name_of o)))
    go true = refl
    go false =
        first_uncut bits (chosen bits target table) new type_of o (order target table (name_of o))
        (order_all (λ (r : Ranked). IsStraight (r.pattern.row bits)) (ranked (pattern_depth (depth target table)) (name_of o) 0 table) (ranked_straight bits (pattern_depth (depth target table)) (name_of o) 0 table all))

pub if_uncut : (b : Bool) (x : Option Choice) → Uncut x → (if b then pieces_of x else None) ≡ None
if_uncut true x u = u
if_uncut false x u = refl
