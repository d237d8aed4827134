use Rattle.std.proofs.Common.{refl}
use Rattle.pattern_model.proofs.laws.law_tables.Goals as goal

pub returns : goal.returns
returns c = record { scf = refl; expand = refl; arith = refl; cf = refl; memref = refl; func = refl; count = refl }
