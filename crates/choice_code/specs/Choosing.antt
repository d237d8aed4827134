-- The chosen derivation by places of patterns.
use Rattle.std.specs.Prelude.{ℕ, zero, suc, ◌==◌, List, [], ◌∷◌, Option, Some, None, slice_get, if◌then◌else◌}
use Rattle.std.specs.List.{list_any}
use Rattle.conversion_model.specs.Templates.{Template}
use Rattle.conversion_model.specs.Targets.{Shape, Target, is_legal}
use Rattle.conversion_model.specs.Rows.{Pattern}
use Rattle.conversion_model.specs.Chosen.{Leaves, by_row, itself, or_else}

-- by the row of a pattern, where there is one
abbrev pub by_row_at : ℕ → Leaves → Shape → Option Pattern → Option Template
by_row_at bits leaves o None = None
by_row_at bits leaves o (Some p) = by_row bits p.is_converted leaves o (p.row bits)

-- by the pattern at a place that isn't on the path
abbrev pub by_place : ℕ → List Pattern → (List ℕ → Leaves) → List ℕ → Shape → ℕ → Option Template
by_place bits table leaves path o k = if list_any (λ place. place == k) path then None else by_row_at bits (leaves (k ∷ path)) o (slice_get table k)

-- by the first of these places
abbrev pub by_places : ℕ → List Pattern → (List ℕ → Leaves) → List ℕ → Shape → List ℕ → Option Template
by_places bits table leaves path o [] = None
by_places bits table leaves path o (k ∷ ks) = or_else (by_place bits table leaves path o k) (by_places bits table leaves path o ks)

-- the leaves of the chosen derivation of at most so many levels; order gives the places of the patterns of a name
abbrev pub chosen_by : ℕ → Target → List Pattern → (List ℕ → List ℕ) → ℕ → List ℕ → Leaves
chosen_by bits target table order zero path o = None
chosen_by bits target table order (suc room) path o =
    if is_legal target o then Some (itself o) else by_places bits table (chosen_by bits target table order room) path o (order o.name)
