-- Turns in which each region that begins ends, and what looks across them find.
use Rattle.std.specs.Prelude.{◌≡◌, ◌⊎◌, ℕ, zero, suc, ◌+◌, Bool, true, false, List, [], ◌∷◌, ◌++◌, length, map, Some, is_some}
use Rattle.text_events.specs.declared.event.Event.{Event}
use Rattle.text_scopes.specs.declared.steps.Step.{Step}
use Rattle.text_scopes.specs.declared.steps.Step.TheVariants as steps
use Rattle.text_scopes.specs.Seen.{Turn, mirror, seen, stands_for}

-- turns that open and close nothing; where definitions aren't allowed, they define nothing
abbrev pub is_flat : Bool → Step → Bool
is_flat definitions steps.Opens = false
is_flat definitions steps.Closes = false
is_flat definitions steps.Ends = false
is_flat definitions steps.Defines = definitions
is_flat definitions _ = true

-- turns in which each region that begins ends, and no scope does: outside of these regions there are definitions or none
pub data Level : Bool → List Turn → Type 0 where
  level_end : (definitions : Bool) → Level definitions []
  level_step : (definitions : Bool) (s : Step) (e : Event) {ts : List Turn} → is_flat definitions s ≡ true → Level definitions ts → Level definitions ((s, e) ∷ ts)
  level_nest : (definitions : Bool) (e f : Event) {inner ts : List Turn} → Level true inner → Level definitions ts → Level definitions ((steps.Opens, e) ∷ (inner ++ (steps.Closes, f) ∷ ts))

-- the turns before, behind these
abbrev pub pass : List Turn → List Turn → List Turn
pass before [] = before
pass before (t ∷ ts) = pass (t ∷ before) ts

-- a definition of the name is seen looking back, and looking ahead
abbrev pub Back : Bool → ℕ → List Turn → Type 0
Back out name before = is_some (seen out name 0 before) ≡ true

abbrev pub Ahead : Bool → ℕ → List Turn → Type 0
Ahead out name ahead = is_some (seen out name 0 (map mirror ahead)) ≡ true

-- from one of the two
abbrev pub Near : Bool → ℕ → List Turn → List Turn → Type 0
Near out name before ahead = Back out name before ⊎ Ahead out name ahead

-- What is found: R is what holds of a definition's name and its place among all turns

-- where a look goes on
abbrev pub When : Bool → Type 0 → Type 0
When true P = P
When false P = Unit {0}

-- of each definition that a look back may find
abbrev pub RightBack : Bool → (ℕ → ℕ → Type 0) → ℕ → List Turn → Type 0
RightBack out R over [] = Unit {0}
RightBack out R zero ((steps.Defines, e) ∷ ts) = R e.name (length ts) × RightBack out R zero ts
RightBack out R (suc over) ((steps.Defines, e) ∷ ts) = RightBack out R (suc over) ts
RightBack out R over ((steps.Closes, e) ∷ ts) = RightBack out R (suc over) ts
RightBack out R zero ((steps.Opens, e) ∷ ts) = When out (RightBack out R zero ts)
RightBack out R (suc over) ((steps.Opens, e) ∷ ts) = RightBack out R over ts
RightBack out R over ((steps.Ends, e) ∷ ts) = Unit {0}
RightBack out R over ((_, e) ∷ ts) = RightBack out R over ts

-- and of each that a look ahead may find, from this place on
abbrev pub RightAhead : Bool → (ℕ → ℕ → Type 0) → ℕ → ℕ → List Turn → Type 0
RightAhead out R over at [] = Unit {0}
RightAhead out R zero at ((steps.Defines, e) ∷ ts) = R e.name at × RightAhead out R zero (suc at) ts
RightAhead out R (suc over) at ((steps.Defines, e) ∷ ts) = RightAhead out R (suc over) (suc at) ts
RightAhead out R over at ((steps.Opens, e) ∷ ts) = RightAhead out R (suc over) (suc at) ts
RightAhead out R zero at ((steps.Closes, e) ∷ ts) = When out (RightAhead out R zero (suc at) ts)
RightAhead out R (suc over) at ((steps.Closes, e) ∷ ts) = RightAhead out R over (suc at) ts
RightAhead out R over at ((steps.Ends, e) ∷ ts) = Unit {0}
RightAhead out R over at ((_, e) ∷ ts) = RightAhead out R over (suc at) ts

-- Laws

-- moving across such turns, what is near stays near, and what is right stays right
abbrev pub Across : Type 0
Across = (out : Bool) (name : ℕ) (definitions : Bool) (xs before ahead : List Turn) → Level definitions xs → Near out name before (xs ++ ahead) → Near out name (pass before xs) ahead

-- looks for values leave a region, so what is near outside is near inside
abbrev pub Into : Type 0
Into = (name : ℕ) (e f : Event) (before inner ahead : List Turn) → Level true inner → Near true name before ((steps.Opens, e) ∷ (inner ++ (steps.Closes, f) ∷ ahead)) → Near true name ((steps.Opens, e) ∷ before) (inner ++ (steps.Closes, f) ∷ ahead)

-- what a use stands for, where a definition is near
abbrev pub FoundIsRight : Type 0
FoundIsRight = (out : Bool) (name : ℕ) (truth : ℕ → ℕ → Bool) (before ahead : List Turn)
    → RightBack out (λ n place. truth n place ≡ true) 0 before → RightAhead out (λ n place. truth n place ≡ true) 0 (length before + 1) ahead → Near out name before ahead
    → (place : ℕ) × (stands_for out name before ahead ≡ Some place) × (truth name place ≡ true)
