-- Lists that are taken from their ends.
use Rattle.std.proofs.Common.{◌≡◌, List, ◌++◌, reverse, sym, ap, ◌∙◌}
use Rattle.std.proofs.lemmas.List.{reverse-append, reverse-reverse}

-- what was taken, last first, stands behind what was there
pub taken_behind : {X : Type 0} (front list all : List X) → reverse all ≡ list ++ reverse front → all ≡ front ++ reverse list
taken_behind front list all e =
    sym (reverse-reverse all) ∙ ap (λ xs. reverse xs) e ∙ reverse-append list (reverse front) ∙ ap (λ xs. xs ++ reverse list) (reverse-reverse front)
