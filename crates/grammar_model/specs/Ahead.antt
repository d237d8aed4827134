-- What a loop over pieces keeps.
use Rattle.std.specs.Prelude.{◌≡◌, ℕ, List, Result}
use Rattle.grammar_model.specs.Syntax.{Syntax, many_at, with_front}

-- the pieces found, before what is read from rest in n turns, are what is read from the start
pub record IsAhead {W K X : Type 0} {kind : W → K} (s : Syntax kind X) (found : List X) (n : ℕ) (rest : List W) (whole : Result (List X × List W) (List W)) : Type 0 where
  pub same : with_front found (many_at kind s.starts s.read n rest) ≡ whole
