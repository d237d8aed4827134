-- Which values of the definition a table stands for.
use Rattle.std.specs.Prelude.{◌≡◌, ℕ, Bool, true, false, List, ◌++◌, Option, Some, None}
use Rattle.std.specs.Option.{option_map}
use Rattle.std.specs.List.{slice_get}
use Rattle.operation_model.specs.Values as model
use Rattle.form_model.specs.Codes.{Env, lookup}
use Rattle.value_code.specs.declared.value.Value.{Value}
use Rattle.value_code.specs.Models.{value_of, values_of}

abbrev pub held : Option (Option Value) → Option model.Value
held (Some (Some v)) = Some (value_of v)
held _ = None

-- the value of a number
abbrev pub value_at : ℕ → List (Option Value) → Option model.Value
value_at n table = held (slice_get table n)

-- each number has the value that it has in the environment
abbrev pub Agrees : List (Option Value) → Env → Type 0
Agrees table env = (n : ℕ) → value_at n table ≡ lookup n env

abbrev pub list_of : Option (List Value) → Option (List model.Value)
list_of o = option_map values_of o

-- the values were bound, or there were not as many
abbrev pub Binds : Bool → List (Option Value) → Option Env → Type 0
Binds true table bound = (env : Env) × (bound ≡ Some env) × Agrees table env
Binds false table bound = bound ≡ None

-- what was found, before what is still to be found
abbrev pub before : List Value → Option (List model.Value) → Option (List model.Value)
before done rest = option_map (λ vs. values_of done ++ vs) rest
