use Rattle.std.proofs.Common.{◌≡◌, ◌+◌, ◌-◌, ◌≤◌, length, drop}
use Rattle.mlir_lex.specs.Scan.{pieces, string_piece}
use Rattle.mlir_lex.proofs.scan.inside_len.Given as goal

-- what is passed and what is still to be passed are the whole
abbrev pub invariant-steps : goal.invariant-steps
invariant-steps l = (l.at ≤ length l.text) × (l.at + pieces string_piece 0 (drop l.at l.text) ≡ pieces string_piece 0 l.text)

abbrev pub decreases-steps : goal.decreases-steps
decreases-steps l = length l.text - l.at
