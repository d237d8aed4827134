-- What each kind of type is, one level deep.
use Rattle.std.proofs.lemmas.Grind.{common_steps}
use Rattle.tree_model.specs.declared.type_tree.TypeTree.TheVariants.{outs-Int, outs-Index, outs-Memref, outs-Func, outs-Ptr, outs-Void, outs-Struct, outs-Array, outs-LlvmFunc}

pub ruleset layers = (common_steps, outs-Int, outs-Index, outs-Memref, outs-Func, outs-Ptr, outs-Void, outs-Struct, outs-Array, outs-LlvmFunc)
