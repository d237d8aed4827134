use Rattle.std.proofs.Common.{◌≡◌, ◌++◌, drop, map}
use Rattle.plain_tree.specs.Ops.{Ops, plain_op, plain_values}
use Rattle.conversion_model.specs.Conversion.{casts_back, new_arguments}
use Rattle.new_numbers.specs.Tables.{Extends, numbering_of}
use Rattle.block_casts.specs.Changed.{Said, in_front}
use Rattle.block_casts.proofs.args.converted.Given as goal

-- what is made of the arguments so far, before what the others come to
abbrev pub invariant-each : goal.invariant-each
invariant-each l =
    (l.index ≡ l.arg-index) × Extends (numbering_of l.initial.numbers) (numbering_of l.numbers)
    × Said (numbering_of l.numbers) (λ n. plain_values l.all.args ++ new_arguments l.bits (n l.label) l.index (plain_values (drop l.index l.args)) ≡ new_arguments l.bits (n l.label) 0 (plain_values l.args))
    × Said (numbering_of l.numbers) (λ n. (more : Ops) → in_front (map plain_op l.all.casts) (casts_back l.bits (n l.label) l.index (plain_values (drop l.index l.args)) more) ≡ casts_back l.bits (n l.label) 0 (plain_values l.args) more)
