-- Examples of rules `Signature`, `Symbol`, `Reserved` and `ValueType`.
use Rattle.std.specs.Prelude.{◌≡◌, refl, [], ◌∷◌, pos, codes}
use Rattle.plain_tree.specs.Types.{Int, Index, Memref, Func, Ptr, Void, Struct, LlvmFunc, types_in}
use Rattle.plain_tree.specs.Attrs.{Number, Text, OfType, Symbol, Dialect}
use Rattle.plain_tree.specs.Ops.{op, ops_in, region, end_of_regions, end_of_blocks, block}
use Rattle.rule_model.specs.declared.rules.Rule.TheVariants as rule
use Rattle.rule_model.specs.Search.{answer, FirstBroken, NothingBroken}
use Rattle.rule_model.proofs.Trees.{plain, holds, one_block, func, llvm_func, module_of, in_body}

-- function types are of value types
function_of_functions : answer (module_of (func (codes "f") (Func (types_in []) (types_in []) ∷ []) [] end_of_blocks ∷ [])) ≡ FirstBroken 0 0 rule.Signature
function_of_functions = refl

-- of an llvm.func of llvm value types
llvm_function_of_an_index : answer (module_of (llvm_func (codes "f") (Index ∷ []) Void end_of_blocks ∷ [])) ≡ FirstBroken 0 0 rule.Signature
llvm_function_of_an_index = refl

-- the result may be void, parameters may not
llvm_function_of_void : answer (module_of (llvm_func (codes "f") (Void ∷ []) Void end_of_blocks ∷ [])) ≡ FirstBroken 0 0 rule.Signature
llvm_function_of_void = refl

-- a return gives the results of its function
returns_nothing :
    answer (module_of (func (codes "f") [] (Int 32 ∷ [])
    (one_block 0 [] (plain (codes "func.return") [] [] [] ∷ [])) ∷ []))
    ≡ FirstBroken 0 1 rule.Signature
returns_nothing = refl

-- none for void
llvm_returns_nothing : answer (module_of (llvm_func (codes "f") [] Void (one_block 0 [] (plain (codes "llvm.return") [] [] [] ∷ [])) ∷ [])) ≡ NothingBroken
llvm_returns_nothing = refl

-- a name stands earlier in the module
name_twice : answer (module_of (func (codes "f") [] [] end_of_blocks ∷ llvm_func (codes "f") [] Void end_of_blocks ∷ [])) ≡ FirstBroken 1 0 rule.Symbol
name_twice = refl

callee_not_there :
    answer (module_of (func (codes "f") [] []
    (one_block 0 [] (plain (codes "func.call") [] [] ((codes "callee", Symbol (codes "g")) ∷ []) ∷ plain (codes "func.return") [] [] [] ∷ [])) ∷ []))
    ≡ FirstBroken 0 1 rule.Symbol
callee_not_there = refl

callee_of_the_other_kind :
    answer (module_of (func (codes "f") [] []
    (one_block 0 [] (plain (codes "func.call") [] [] ((codes "callee", Symbol (codes "g")) ∷ []) ∷ plain (codes "func.return") [] [] [] ∷ []))
    ∷ llvm_func (codes "g") [] Void end_of_blocks ∷ []))
    ≡ FirstBroken 0 1 rule.Symbol
callee_of_the_other_kind = refl

callee_of_another_type :
    answer (module_of (func (codes "f") [] []
    (one_block 0 [] (plain (codes "func.call") [] [] ((codes "callee", Symbol (codes "g")) ∷ []) ∷ plain (codes "func.return") [] [] [] ∷ []))
    ∷ func (codes "g") [] (Int 32 ∷ []) end_of_blocks ∷ []))
    ≡ FirstBroken 0 1 rule.Symbol
callee_of_another_type = refl

-- the callee is the first function of the name
callee_is_the_first_of_its_name :
    answer (module_of (func (codes "f") [] []
    (one_block 0 [] (plain (codes "func.call") [] [] ((codes "callee", Symbol (codes "g")) ∷ []) ∷ plain (codes "func.return") [] [] [] ∷ []))
    ∷ func (codes "g") [] [] end_of_blocks
    ∷ func (codes "g") [] (Int 32 ∷ []) end_of_blocks ∷ []))
    ≡ FirstBroken 2 0 rule.Symbol
callee_is_the_first_of_its_name = refl

-- a callee without a type has another type
callee_without_a_type :
    answer (module_of (func (codes "f") [] []
    (one_block 0 [] (plain (codes "func.call") [] [] ((codes "callee", Symbol (codes "g")) ∷ []) ∷ plain (codes "func.return") [] [] [] ∷ []))
    ∷ holds (codes "func.func") [] [] ((codes "sym_name", Text (codes "g")) ∷ [])
    (region end_of_blocks end_of_regions) ∷ []))
    ≡ FirstBroken 0 1 rule.Symbol
callee_without_a_type = refl

-- an llvm.call has one result at most
llvm_call_with_two_results :
    answer (module_of (llvm_func (codes "f") [] Void
    (one_block 0 [] (plain (codes "llvm.call") ((0, Int 32) ∷ (1, Int 32) ∷ []) [] ((codes "callee", Symbol (codes "f")) ∷ []) ∷ plain (codes "llvm.return") [] [] [] ∷ [])) ∷ []))
    ≡ FirstBroken 0 1 rule.Symbol
llvm_call_with_two_results = refl

-- a function with the name of an allocator is its declaration
malloc_as_a_func : answer (module_of (func (codes "malloc") (Int 64 ∷ []) (Ptr ∷ []) end_of_blocks ∷ [])) ≡ FirstBroken 0 0 rule.Reserved
malloc_as_a_func = refl

free_of_another_type : answer (module_of (llvm_func (codes "free") (Int 64 ∷ []) Void end_of_blocks ∷ [])) ≡ FirstBroken 0 0 rule.Reserved
free_of_another_type = refl

malloc_with_a_body :
    answer (module_of (llvm_func (codes "malloc") (Int 64 ∷ []) Ptr
    (one_block 0 ((0, Int 64) ∷ []) (plain (codes "t.x") [] [] [] ∷ [])) ∷ []))
    ≡ FirstBroken 0 0 rule.Reserved
malloc_with_a_body = refl

-- linkage and other properties may stand
declarations :
    answer (module_of (llvm_func (codes "malloc") (Int 64 ∷ []) Ptr end_of_blocks
    ∷ holds (codes "llvm.func") [] [] ((codes "function_type", OfType (LlvmFunc Void (types_in (Ptr ∷ [])))) ∷ (codes "linkage", Dialect (codes "llvm.linkage") (codes "internal" ∷ [])) ∷ (codes "sym_name", Text (codes "free")) ∷ [])
    (region end_of_blocks end_of_regions) ∷ op (record { name = codes "llvm.func"; props = ((codes "function_type", OfType (LlvmFunc Ptr (types_in (Int 64 ∷ Int 64 ∷ [])))) ∷ (codes "sym_name", Text (codes "aligned_alloc")) ∷ []); attrs = ((codes "x", Number (pos 1) (Int 64)) ∷ []) }) [] []
    (region end_of_blocks end_of_regions) [] ∷ []))
    ≡ NothingBroken
declarations = refl

-- a result of an unregistered operation that is no value type
result_that_is_no_value : in_body (plain (codes "t.f") ((8, Func (types_in []) (types_in [])) ∷ []) [] [] ∷ []) ≡ FirstBroken 0 1 rule.ValueType
result_that_is_no_value = refl

-- and an argument of any block right within it
argument_that_is_no_value :
    in_body (holds (codes "t.r") [] [] [] (region
    (block 1 [] (ops_in (plain (codes "t.x") [] [] [] ∷ []))
    (block 2 ((8, Struct (types_in (Index ∷ []))) ∷ []) (ops_in (plain (codes "t.x") [] [] [] ∷ [])) end_of_blocks)) end_of_regions) ∷ [])
    ≡ FirstBroken 0 1 rule.ValueType
argument_that_is_no_value = refl

-- a cast takes and gives any number of values
cast_of_anything : in_body (plain (codes "builtin.unrealized_conversion_cast") ((8, Index) ∷ (9, Memref [] (Int 32)) ∷ []) (0 ∷ 4 ∷ 5 ∷ []) [] ∷ []) ≡ NothingBroken
cast_of_anything = refl
