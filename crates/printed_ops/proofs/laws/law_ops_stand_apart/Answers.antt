use Rattle.printed_ops.proofs.ApartLemmas.{op_apart}
use Rattle.printed_ops.proofs.laws.law_ops_stand_apart.Goals as goal

pub returns : goal.returns
returns c = λ n indent o rest end next f blanks line h. op_apart n indent o rest end f blanks (record { next = next; is = line }) h
