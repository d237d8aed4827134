-- Of two rules that are broken first, the sooner one.
use Rattle.std.specs.Prelude.{ℕ, nat_lt, Option, Some, None, if◌then◌else◌}
use Rattle.rule_model.specs.declared.rules.Rule.{Rule}

-- a rule that is broken at the operation with this number, or none
abbrev pub Found : Type 0
Found = Option (record { 0 : ℕ; 1 : Rule })

-- the one at the operation in front; at one operation the first of the two
abbrev pub sooner : Found → Found → Found
sooner None b = b
sooner (Some a) None = Some a
sooner (Some a) (Some b) = if nat_lt b.0 a.0 then Some b else Some a

-- a rule at the operation with this number
abbrev pub at_place : Rule → Option ℕ → Found
at_place r None = None
at_place r (Some n) = Some (record { 0 = n; 1 = r })
