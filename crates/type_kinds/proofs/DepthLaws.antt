-- One event more of the depths.
use Rattle.std.proofs.Common.{◌≡◌, ℕ, ◌+◌, ◌<◌, ◌≤◌, Bool, List, length, drop, get_or, Option, sym, ◌∙◌, ap, nat_lt, max}
use Rattle.text_events.specs.declared.event.Event.{Event}
use Rattle.type_kinds.specs.First.{first_in}
use Rattle.type_kinds.specs.Sizes.{Sizes, moved}
use Rattle.type_kinds.specs.Depths.{most_depth, TypesOpen, type_depth_at, pass_type, is_deep_type, open_behind, ListsOpen, attr_depth_at, pass_attr, is_deep_attr, lists_behind}
use Rattle.type_kinds.proofs.FirstIn.{ahead, next_turn, not_below}

abbrev pub types : Sizes → List Bool → TypesOpen
types sizes outer = record { sizes = sizes; outer = outer }

abbrev pub lists : Sizes → ℕ → ListsOpen
lists sizes outer = record { sizes = sizes; outer = outer }

pub type_step : (sizes more : Sizes) (outer new : List Bool) (depth : ℕ) (es : List Event) (i : ℕ) (e : Event) (whole : Option ℕ) → i < length es
    → ahead i (first_in pass_type is_deep_type (types sizes outer) (drop i es)) ≡ whole → depth ≡ type_depth_at (types sizes outer) (get_or es i e) (drop (i + 1) es) → depth ≤ most_depth
    → more ≡ moved sizes (get_or es i e) (max sizes.amount depth) → new ≡ open_behind (get_or es i e).place outer
    → ahead (i + 1) (first_in pass_type is_deep_type (types more new) (drop (i + 1) es)) ≡ whole
type_step sizes more outer new depth es i e whole within so_far is few moves opens =
    next_turn pass_type is_deep_type (types sizes outer) (types more new) es i e whole within so_far
    (ap (nat_lt most_depth) (sym is) ∙ not_below most_depth depth few)
    (ap (λ m. types m new) (moves ∙ ap (λ n. moved sizes (get_or es i e) (max sizes.amount n)) is) ∙ ap (types (moved sizes (get_or es i e) (max sizes.amount (type_depth_at (types sizes outer) (get_or es i e) (drop (i + 1) es))))) opens)

pub attr_step : (sizes more : Sizes) (outer new : ℕ) (depth : ℕ) (es : List Event) (i : ℕ) (e : Event) (whole : Option ℕ) → i < length es
    → ahead i (first_in pass_attr is_deep_attr (lists sizes outer) (drop i es)) ≡ whole → depth ≡ attr_depth_at (lists sizes outer) (get_or es i e) (drop (i + 1) es) → depth ≤ most_depth
    → more ≡ moved sizes (get_or es i e) (max sizes.amount depth) → new ≡ lists_behind (get_or es i e).place outer
    → ahead (i + 1) (first_in pass_attr is_deep_attr (lists more new) (drop (i + 1) es)) ≡ whole
attr_step sizes more outer new depth es i e whole within so_far is few moves opens =
    next_turn pass_attr is_deep_attr (lists sizes outer) (lists more new) es i e whole within so_far
    (ap (nat_lt most_depth) (sym is) ∙ not_below most_depth depth few)
    (ap (λ m. lists m new) (moves ∙ ap (λ n. moved sizes (get_or es i e) (max sizes.amount n)) is) ∙ ap (lists (moved sizes (get_or es i e) (max sizes.amount (attr_depth_at (lists sizes outer) (get_or es i e) (drop (i + 1) es))))) opens)
