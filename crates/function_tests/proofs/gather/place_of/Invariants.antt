use Rattle.std.proofs.Common.{◌≡◌, ◌+◌, drop}
use Rattle.std.specs.Option.{option_map}
use Rattle.function_tests.specs.Heads.{place_of}
use Rattle.function_tests.proofs.gather.place_of.Given as goal

abbrev pub invariant-loop-place : goal.invariant-loop-place
invariant-loop-place l = option_map (λ n. l.place + n) (place_of l.label (drop l.place l.blocks)) ≡ place_of l.label l.blocks
