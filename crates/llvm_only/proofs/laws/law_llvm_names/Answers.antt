use Rattle.std.proofs.Common.{refl}
use Rattle.op_catalog.specs.Table.{place_of}
use Rattle.llvm_only.proofs.laws.law_llvm_names.Goals as goal

pub returns : goal.returns
unfolding place_of
returns c = refl
