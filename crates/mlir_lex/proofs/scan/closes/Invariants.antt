use Rattle.std.proofs.Common.{◌≡◌, drop, false}
use Rattle.mlir_lex.specs.Scan.{closes}
use Rattle.mlir_lex.proofs.scan.closes.Given as goal

-- what is left decides
abbrev pub invariant-bytes : goal.invariant-bytes
invariant-bytes l = closes l.escaped (drop l.b-index l.text) ≡ closes false l.text
