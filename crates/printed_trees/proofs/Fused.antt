-- Roles in one pass.
use Rattle.std.proofs.Common.{◌≡◌, ℕ, List, [], ◌∷◌, refl, ap}
use Rattle.text_events.specs.declared.event.Event.{Event}
use Rattle.text_types.specs.Spelling.{Spelling}
use Rattle.text_types.specs.Items.{Aliases, begun, place_next}
use Rattle.text_scopes.specs.declared.bodies.Class.{Class}
use Rattle.event_trees.specs.declared.counts.Counts.{Counts}
use Rattle.event_trees.specs.Wording.{Wording}
use Rattle.event_trees.specs.Numbers.{Left, counted, first_count, left_at, meant_from, numbers_from, result_counts}
use Rattle.event_trees.specs.Roles.{roles_of}
use Rattle.printed_trees.specs.Roles.{role_at, roles_from, waits}

module _ (words : Spelling) (wording : Wording) (aliases : Aliases) (class : ℕ → Class) (numbers : List ℕ) where
  pub fused : (c : Counts) (left : Left) (es : List Event)
      → roles_of es (meant_from wording numbers left es (numbers_from wording class c es (result_counts es (begun words aliases es)))) (begun words aliases es) ≡ roles_from words wording aliases class numbers c left es
  fused c left [] = refl
  fused c left (e ∷ es) =
      ap (λ rs. role_at words wording aliases class numbers c left e es ∷ rs) (fused (counted wording class c e (first_count (waits words wording aliases class numbers es)) (place_next es)) (left_at e.place left) es)
