-- Lists that are gathered from the front, where one step may give none.
use Rattle.std.proofs.Common.{◌≡◌, ℕ, zero, suc, ◌≤◌, min, List, [], ◌∷◌, ◌++◌, length, map, drop, refl, ap, append_assoc, arith}
use Rattle.tree_model.specs.declared.type_tree.Dim.{Dim}
use Rattle.std.specs.Prelude.{Option, Some, None}
use Rattle.std.specs.Option.{option_map}
use Rattle.form_model.specs.Types.{and_width, fixed_size}
use Rattle.form_model.specs.Classes.{either_sizes}
use Rattle.form_model.specs.Properties.{and_natural}

-- a list in front of another that may be none
abbrev pub behind : List ℕ → Option (List ℕ) → Option (List ℕ)
behind xs o = option_map (λ ys. xs ++ ys) o

pub behind_nothing : (o : Option (List ℕ)) → behind [] o ≡ o
behind_nothing None = refl
behind_nothing (Some ys) = refl

pub behind_width : (xs : List ℕ) (w : ℕ) (o : Option (List ℕ)) → behind (xs ++ w ∷ []) o ≡ behind xs (and_width (Some w) o)
behind_width xs w None = refl
behind_width xs w (Some ys) = ap Some (append_assoc xs (w ∷ []) ys)

pub behind_natural : (xs : List ℕ) (n : ℕ) (o : Option (List ℕ)) → behind (xs ++ n ∷ []) o ≡ behind xs (and_natural (Some n) o)
behind_natural xs n None = refl
behind_natural xs n (Some ys) = ap Some (append_assoc xs (n ∷ []) ys)

-- behind the end of one of two lists of dimensions
pub no_more_sizes : (a b : List Dim) (i : ℕ) → min (length a) (length b) ≤ i → either_sizes (map fixed_size (drop i a)) (map fixed_size (drop i b)) ≡ []
no_more_sizes [] b zero h = refl
no_more_sizes [] b (suc i) h = refl
no_more_sizes (x ∷ a) [] zero h = refl
no_more_sizes (x ∷ a) (y ∷ b) zero h = absurd (omega arith)
no_more_sizes (x ∷ a) [] (suc i) h = ends (map fixed_size (drop i a))
  where
    ends : (xs : List (Option ℕ)) → either_sizes xs [] ≡ []
    ends [] = refl
    ends (x ∷ xs) = refl
no_more_sizes (x ∷ a) (y ∷ b) (suc i) h = let less : min (length a) (length b) ≤ i = omega arith in no_more_sizes a b i less
