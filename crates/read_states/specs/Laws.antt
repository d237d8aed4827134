-- What operations leave, and what stands behind a module.
use Rattle.std.specs.Prelude.{◌≡◌, ◌⊎◌, ℕ, ◌+◌, Bool, List}
use Rattle.text_scopes.specs.declared.bodies.Class.{Class}
use Rattle.text_kinds.specs.declared.shape.Phase.TheVariants.{Typed, Behind}
use Rattle.event_trees.specs.Wording.{Wording}
use Rattle.text_forms.specs.Forms.{IsFile, IsOps}
use Rattle.read_states.specs.Levels.{below, ops_in}
use Rattle.read_states.specs.States.{Move, State, read, waits}

-- the levels around the region are as they were, and so are the function types that wait
abbrev pub OperationsLeave : Type 0
OperationsLeave = (words : Wording) (class : ℕ → Class) (numbers : List ℕ) (x y : State) → IsOps (Move words class numbers) x y
    → (below (read words class numbers x) ≡ below (read words class numbers y)) × (waits x ≡ waits y)

-- in a region of a function the next event stands where the operations began
abbrev pub OperationsStay : Type 0
OperationsStay = (words : Wording) (class : ℕ → Class) (numbers : List ℕ) (n : ℕ) (at_module : Bool) (x y : State) → IsOps (Move words class numbers) x y
    → x.counts.body ≡ record { within = n + 1; at_module = at_module } → y.counts.body ≡ record { within = n + 1; at_module = at_module }

-- behind the arrow of a module's type the file has no more operations
abbrev pub NothingBehind : Type 0
NothingBehind = (words : Wording) (class : ℕ → Class) (numbers : List ℕ) (x y : State) → IsFile (Move words class numbers) x y → (x.shape.phase ≡ Typed) ⊎ (x.shape.phase ≡ Behind)
    → ops_in (read words class numbers x) ≡ ops_in (read words class numbers y)
