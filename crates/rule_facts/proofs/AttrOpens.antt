-- The plain form of each attribute that is written out.
use Rattle.std.proofs.lemmas.Grind.{common_steps}
use Rattle.plain_tree.proofs.AttrOpens.{plain-Unit, plain-Int, plain-Str, plain-List, plain-Dict, plain-OfType, plain-Symbol, plain-Ints, plain-Dialect}
use Rattle.plain_tree.proofs.TypeOpens.{plain-Int as type-Int, plain-Index, plain-Memref, plain-Func, plain-Ptr, plain-Void, plain-Struct, plain-Array, plain-LlvmFunc}
use Rattle.rule_facts.proofs.PartLemmas.{at_fields, types_again}

pub ruleset opens = (common_steps, plain-Unit, plain-Int, plain-Str, plain-List, plain-Dict, plain-OfType, plain-Symbol, plain-Ints, plain-Dialect)

pub ruleset type_opens = (type-Int, plain-Index, plain-Memref, plain-Func, plain-Ptr, plain-Void, plain-Struct, plain-Array, plain-LlvmFunc, at_fields, types_again)
