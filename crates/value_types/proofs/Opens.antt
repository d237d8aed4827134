-- The plain form of each type that is written out.
use Rattle.plain_tree.proofs.TypeOpens.{plain-Int, plain-Index, plain-Memref, plain-Func, plain-Ptr, plain-Void, plain-Struct, plain-Array, plain-LlvmFunc}

pub ruleset opens = (plain-Int, plain-Index, plain-Memref, plain-Func, plain-Ptr, plain-Void, plain-Struct, plain-Array, plain-LlvmFunc)
