-- When one doing keeps to another, and one doing behind another.
use Rattle.std.specs.Prelude.{◌≡◌, List, ⊤}
use Rattle.operation_model.specs.Values.{Value}
use Rattle.operation_model.specs.Doings.{Doing, Ends, Asks, Calls, Jumps, Returns, Undefined, Outside}

-- The second keeps to the first: it ends with the same values, asks the same, calls and returns the same and goes to the same
-- block, and keeps to it behind every answer. Where the first is undefined or outside of what has a meaning, it may do anything.
abbrev pub Refines : Doing → Doing → Type 0
Refines (Ends ys) d = d ≡ Ends ys
Refines (Asks q k) d = (next : List Value → Doing) × (d ≡ Asks q next) × ((ys : List Value) → Refines (k ys) (next ys))
Refines (Calls f xs k) d = (next : List Value → Doing) × (d ≡ Calls f xs next) × ((ys : List Value) → Refines (k ys) (next ys))
Refines (Jumps l ys) d = d ≡ Jumps l ys
Refines (Returns ys) d = d ≡ Returns ys
Refines Undefined d = ⊤
Refines Outside d = ⊤

-- on with what a call has returned: an operation makes one call at most, and doesn't return behind it
abbrev pub settled_then : Doing → (List Value → Doing) → Doing
settled_then (Ends ys) next = next ys
settled_then (Asks q k) next = Asks q (λ ys. settled_then (k ys) next)
settled_then (Calls f xs k) next = Outside
settled_then (Jumps l ys) next = Jumps l ys
settled_then (Returns ys) next = Outside
settled_then Undefined next = Undefined
settled_then Outside next = Outside

-- one operation's doing, and what follows with its results
abbrev pub then_on : Doing → (List Value → Doing) → Doing
then_on (Ends ys) next = next ys
then_on (Asks q k) next = Asks q (λ ys. then_on (k ys) next)
then_on (Calls f xs k) next = Calls f xs (λ ys. settled_then (k ys) next)
then_on (Jumps l ys) next = Jumps l ys
then_on (Returns ys) next = Returns ys
then_on Undefined next = Undefined
then_on Outside next = Outside
