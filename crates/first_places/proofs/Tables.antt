-- Tables that begin empty have what was put in first.
use Rattle.std.proofs.Common.{◌≡◌, ℕ, ◌+◌, ◌==◌, Bool, true, false, List, [], ◌∷◌, ◌++◌, Option, Some, None, refl, sym, ap, ◌∙◌}
use Rattle.std.specs.Prelude.{is_some, if◌then◌else◌}
use Rattle.std.proofs.lemmas.Bool.Decides.{Decides-eqb}
use Rattle.first_places.specs.Tables.{nothing_yet, with_first, with_firsts}

abbrev pub first_of : {A : Type 0} → Option A → Option A → Option A
first_of (Some a) o = Some a
first_of None o = o

-- what stands first beside a number
abbrev pub among : {A : Type 0} → List (ℕ × A) → ℕ → Option A
among [] n = None
among (p ∷ ps) n = if p.0 == n then Some p.1 else among ps n

first_step : {A : Type 0} (a b : Option A) (same : Bool) (x : A) (rest : Option A) → (same ≡ true → b ≡ a)
    → first_of (if is_some b then a else (if same then Some x else a)) rest ≡ first_of a (if same then Some x else rest)
first_step (Some y) (Some z) true x rest h = refl
first_step (Some y) None true x rest h = let e = h refl in absurd (cc)
first_step (Some y) (Some z) false x rest h = refl
first_step (Some y) None false x rest h = refl
first_step None (Some z) true x rest h = let e = h refl in absurd (cc)
first_step None None true x rest h = refl
first_step None (Some z) false x rest h = refl
first_step None None false x rest h = refl

nothing_more : {A : Type 0} (a : Option A) → a ≡ first_of a None
nothing_more (Some x) = refl
nothing_more None = refl

looked_up : {A : Type 0} (ps : List (ℕ × A)) (f : ℕ → Option A) (n : ℕ) → with_firsts f ps n ≡ first_of (f n) (among ps n)
looked_up [] f n = nothing_more (f n)
looked_up (p ∷ ps) f n =
    looked_up ps (with_first f p.0 p.1) n
    ∙ first_step (f n) (f p.0) (p.0 == n) p.1 (among ps n) (λ h. ap f ((Decides-eqb p.0 n).0 h))

pub from_nothing : {A : Type 0} (ps : List (ℕ × A)) (n : ℕ) → with_firsts nothing_yet ps n ≡ among ps n
from_nothing ps n = looked_up ps nothing_yet n

pub among_joined : {A : Type 0} (ps qs : List (ℕ × A)) (n : ℕ) → among (ps ++ qs) n ≡ first_of (among ps n) (among qs n)
among_joined [] qs n = refl
among_joined (p ∷ ps) qs n = go (p.0 == n) (among_joined ps qs n)
  where
    go : (b : Bool) → among (ps ++ qs) n ≡ first_of (among ps n) (among qs n)
        → (if b then Some p.1 else among (ps ++ qs) n) ≡ first_of (if b then Some p.1 else among ps n) (among qs n)
    go true e = refl
    go false e = e

-- Lists of pairs, as with_firsts takes them

pub firsts_joined : {A : Type 0} (f : ℕ → Option A) (ps qs : List (ℕ × A)) → with_firsts f (ps ++ qs) ≡ with_firsts (with_firsts f ps) qs
firsts_joined f [] qs = refl
firsts_joined f (p ∷ ps) qs = firsts_joined (with_first f p.0 p.1) ps qs
