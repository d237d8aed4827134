-- Renamings one after another.
use Rattle.std.proofs.Common.{◌≡◌, List, [], ◌∷◌, ℕ, ◌<◌, length, get_or, map, ap, refl, ◌∙◌, arith}
use Rattle.std.proofs.lemmas.List.{map-id, length-map, ext_get_or, get_or-map}
use Rattle.tree_shape.specs.Renaming.{Renames, OneToOne}

pub map_twice : (f g : ℕ → ℕ) (xs : List ℕ) → map (λ n. g (f n)) xs ≡ map g (map f xs)
map_twice f g [] = refl
map_twice f g (x ∷ xs) = ap (λ ys. g (f x) ∷ ys) (map_twice f g xs)

pub renames_itself : (xs : List ℕ) → Renames xs xs
renames_itself xs = ((λ n. n), map-id xs)

pub renames_on : (xs ys zs : List ℕ) → Renames xs ys → Renames ys zs → Renames xs zs
renames_on xs ys zs r s = ((λ n. s.0 (r.0 n)), map_twice r.0 s.0 xs ∙ ap (map s.0) r.1 ∙ s.1)

pub one_to_one_itself : (xs : List ℕ) → OneToOne xs xs
one_to_one_itself xs = (renames_itself xs, renames_itself xs)

pub one_to_one_on : (xs ys zs : List ℕ) → OneToOne xs ys → OneToOne ys zs → OneToOne xs zs
one_to_one_on xs ys zs r s = (renames_on xs ys zs r.0 s.0, renames_on zs ys xs s.1 r.1)

-- a renaming that gives the right number at each place
pub renames_by_place : (rename : ℕ → ℕ) (xs ys : List ℕ) → length xs ≡ length ys → ((k : ℕ) → k < length xs → rename (get_or xs k 0) ≡ get_or ys k 0) → map rename xs ≡ ys
renames_by_place rename xs ys e h =
    ext_get_or 0 (map rename xs) ys (length-map xs rename ∙ e)
    (λ k p. let q : k < length xs = grind (arith, p, length-map xs rename) in get_or-map rename xs k 0 0 q ∙ h k q)
