use Rattle.std.proofs.Common.{◌≡◌, ◌+◌, drop}
use Rattle.std.specs.List.{prefix_len}
use Rattle.mlir_lex.specs.Bytes.{is_digit}
use Rattle.text_grammar.proofs.cuts.digits_len.Given as goal

-- all so far are digits
abbrev pub invariant-loop-index : goal.invariant-loop-index
invariant-loop-index l = l.index + prefix_len is_digit (drop l.index l.piece) ≡ prefix_len is_digit l.piece
