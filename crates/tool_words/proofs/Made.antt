-- What is made of each item of a list, in a loop.
use Rattle.std.proofs.Common.{List, ◌++◌, Option}
use Rattle.std.specs.Prelude.{option_map}

-- what was made, before what is made of the items that are left
abbrev pub with_front : {Y : Type 0} → List Y → Option (List Y) → Option (List Y)
with_front front rest = option_map (λ ys. front ++ ys) rest
