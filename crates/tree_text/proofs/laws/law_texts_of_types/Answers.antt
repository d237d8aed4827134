use Rattle.tree_text.proofs.TextLaws.{function_in_struct, memref_in_struct, array_in_array, llvm_function, function_outside, function_as_result}
use Rattle.tree_text.proofs.laws.law_texts_of_types.Goals as goal

pub returns-clause-function_in_struct : goal.returns-clause-function_in_struct
returns-clause-function_in_struct c = function_in_struct

pub returns-clause-memref_in_struct : goal.returns-clause-memref_in_struct
returns-clause-memref_in_struct c = memref_in_struct

pub returns-clause-array_in_array : goal.returns-clause-array_in_array
returns-clause-array_in_array c = array_in_array

pub returns-clause-llvm_function : goal.returns-clause-llvm_function
returns-clause-llvm_function c = llvm_function

pub returns-clause-function_outside : goal.returns-clause-function_outside
returns-clause-function_outside c = function_outside

pub returns-clause-function_as_result : goal.returns-clause-function_as_result
returns-clause-function_as_result c = function_as_result
