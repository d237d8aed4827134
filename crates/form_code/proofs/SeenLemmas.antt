-- Types at a place.
use Rattle.std.proofs.Common.{◌≡◌, ℕ, zero, suc, List, [], ◌∷◌, map, refl, Bor}
use Rattle.std.specs.Option.{option_map}
use Rattle.std.specs.List.{slice_get}
use Rattle.tree_model.specs.declared.type_tree.TypeTree.{TypeTree}
use Rattle.form_model.specs.Classes.{type_at}

pub type_at_is : (ts : List (Bor TypeTree)) (n : ℕ) → type_at n (map (λ t. t.now) ts) ≡ option_map (λ t. t.now) (slice_get ts n)
type_at_is [] n = refl
type_at_is (t ∷ ts) zero = refl
type_at_is (t ∷ ts) (suc n) = type_at_is ts n
