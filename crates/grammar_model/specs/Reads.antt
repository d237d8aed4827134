-- What makes a grammar's `read` the reading of what its `Written` describes, one token ahead.
use Rattle.std.specs.Prelude.{◌≡◌, Bool, true, false, List, [], ◌∷◌, ◌++◌, Result, Ok, Err, ⊤}
use Rattle.grammar_model.specs.Syntax.{Syntax, begins}

-- the next tokens are the same, or both end
abbrev pub SameFirst : {W : Type 0} → List W → List W → Type 0
SameFirst [] [] = ⊤
SameFirst [] (u ∷ us) = ⊥
SameFirst (t ∷ ts) [] = ⊥
SameFirst (t ∷ ts) (u ∷ us) = t ≡ u

-- a value was read and rest is left; the tokens before it and the next one alone decide that
pub record Took {W K X : Type 0} {kind : W → K} (s : Syntax kind X) (ts : List W) (x : X) (rest : List W) : Type 0 where
  pub front : List W
  pub whole : ts ≡ front ++ rest
  pub written : s.Written x front
  pub decided : (other : List W) → SameFirst rest other → s.read (front ++ other) ≡ Ok (x, other)

-- rest is left from the first token that does not fit: what is before it begins a value; it and the next one alone decide that
pub record Stopped {W K X : Type 0} {kind : W → K} (s : Syntax kind X) (ts rest : List W) : Type 0 where
  pub front : List W
  pub whole : ts ≡ front ++ rest
  pub piece : X
  pub more : List W
  pub goes_on : s.Written piece (front ++ more)
  pub decided : (other : List W) → SameFirst rest other → s.read (front ++ other) ≡ Err other

abbrev pub Reads : {W K X : Type 0} {kind : W → K} → Syntax kind X → List W → Result (X × List W) (List W) → Type 0
Reads s ts (Ok x) = Took s ts x.0 x.1
Reads s ts (Err rest) = Stopped s ts rest

-- no tokens where the grammar may have none, or the first is of the set
abbrev pub Opens : {W K : Type 0} → (W → K) → Bool → (K → Bool) → List W → Type 0
Opens kind empty p [] = empty ≡ true
Opens kind empty p (t ∷ ts) = p (kind t) ≡ true

pub record IsSyntax {W K X : Type 0} {kind : W → K} (s : Syntax kind X) : Type 0 where
  -- what is read is written so, and what is refused cannot go on
  pub reads : (ts : List W) → Reads s ts (s.read ts)
  -- what is written is read again, where what stands behind it cannot make it longer
  pub again : (x : X) (front rest : List W) → s.Written x front → begins kind s.goes rest ≡ false → s.read (front ++ rest) ≡ Ok (x, rest)
  -- what is written begins as the grammar says
  pub first : (x : X) (front : List W) → s.Written x front → Opens kind s.empty s.starts front
  -- there is some value
  pub one : X
  pub one_text : List W
  pub one_written : s.Written one one_text
