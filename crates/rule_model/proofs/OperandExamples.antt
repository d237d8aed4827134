-- Examples of rules `Operands` and `Results`.
use Rattle.std.specs.Prelude.{◌≡◌, refl, [], ◌∷◌, pos, codes}
use Rattle.tree_model.specs.declared.type_tree.Dim.TheVariants.{Fixed, Dynamic}
use Rattle.plain_tree.specs.Types.{Int, Index, Memref, Func, Ptr, Struct, Array, types_in}
use Rattle.plain_tree.specs.Attrs.{Number, Symbol, Numbers}
use Rattle.plain_tree.specs.Ops.{ops_in, region, end_of_regions, end_of_blocks, block}
use Rattle.rule_model.specs.declared.rules.Rule.TheVariants as rule
use Rattle.rule_model.specs.Search.{FirstBroken, NothingBroken}
use Rattle.rule_model.proofs.Trees.{plain, ends, holds, one_block, in_body, in_blocks}

-- two numbers of different types
sum_of_two_types : in_body (plain (codes "arith.addi") ((8, Int 32) ∷ []) (0 ∷ 6 ∷ []) [] ∷ []) ≡ FirstBroken 0 1 rule.Operands
sum_of_two_types = refl

-- the result has another type
sum_to_another_type : in_body (plain (codes "arith.addi") ((8, Int 64) ∷ []) (0 ∷ 1 ∷ []) [] ∷ []) ≡ FirstBroken 0 1 rule.Results
sum_to_another_type = refl

-- operands come before results
both_wrong : in_body (plain (codes "arith.addi") ((8, Int 64) ∷ []) (0 ∷ []) [] ∷ []) ≡ FirstBroken 0 1 rule.Operands
both_wrong = refl

pointers_are_no_numbers : in_body (plain (codes "arith.addi") ((8, Ptr) ∷ []) (5 ∷ 5 ∷ []) [] ∷ []) ≡ FirstBroken 0 1 rule.Operands
pointers_are_no_numbers = refl

-- `index` is a number for arith
indices_add : in_body (plain (codes "arith.addi") ((8, Index) ∷ []) (3 ∷ 3 ∷ []) [] ∷ []) ≡ NothingBroken
indices_add = refl

-- but not for llvm
indices_do_not_add_in_llvm : in_body (plain (codes "llvm.add") ((8, Index) ∷ []) (3 ∷ 3 ∷ []) [] ∷ []) ≡ FirstBroken 0 1 rule.Operands
indices_do_not_add_in_llvm = refl

-- arith.select takes any value, llvm.select values of llvm
memrefs_are_selected : in_body (plain (codes "arith.select") ((8, Memref (Fixed 2 ∷ Dynamic ∷ []) (Int 32)) ∷ []) (2 ∷ 4 ∷ 4 ∷ []) [] ∷ []) ≡ NothingBroken
memrefs_are_selected = refl

memrefs_are_not_selected_in_llvm :
    in_body (plain (codes "llvm.select") ((8, Memref (Fixed 2 ∷ Dynamic ∷ []) (Int 32)) ∷ []) (2 ∷ 4 ∷ 4 ∷ []) [] ∷ [])
    ≡ FirstBroken 0 1 rule.Operands
memrefs_are_not_selected_in_llvm = refl

-- the relation of the two types is asked of the result
extended_to_the_same_width : in_body (plain (codes "arith.extsi") ((8, Int 64) ∷ []) (6 ∷ []) [] ∷ []) ≡ FirstBroken 0 1 rule.Results
extended_to_the_same_width = refl

cut_of_a_bit : in_body (plain (codes "arith.trunci") ((8, Int 1) ∷ []) (2 ∷ []) [] ∷ []) ≡ FirstBroken 0 1 rule.Results
cut_of_a_bit = refl

index_cast_of_two_integers : in_body (plain (codes "arith.index_cast") ((8, Int 64) ∷ []) (0 ∷ []) [] ∷ []) ≡ FirstBroken 0 1 rule.Results
index_cast_of_two_integers = refl

-- the result of a constant is a number
constant_pointer : in_body (plain (codes "arith.constant") ((8, Ptr) ∷ []) [] ((codes "value", Number (pos 1) (Int 32)) ∷ []) ∷ []) ≡ FirstBroken 0 1 rule.Results
constant_pointer = refl

-- as many sizes as the memref has dynamic ones, whatever the property says
alloc_without_its_size :
    in_body (plain (codes "memref.alloc") ((8, Memref (Dynamic ∷ []) (Int 32)) ∷ []) [] ((codes "operandSegmentSizes", Numbers 32 (pos 0 ∷ pos 0 ∷ [])) ∷ []) ∷ [])
    ≡ FirstBroken 0 1 rule.Operands
alloc_without_its_size = refl

alloc_of_no_memref :
    in_body (plain (codes "memref.alloc") ((8, Int 32) ∷ []) (3 ∷ []) ((codes "operandSegmentSizes", Numbers 32 (pos 1 ∷ pos 0 ∷ [])) ∷ []) ∷ [])
    ≡ FirstBroken 0 1 rule.Results
alloc_of_no_memref = refl

-- an index for each dimension
load_with_one_index : in_body (plain (codes "memref.load") ((8, Int 32) ∷ []) (4 ∷ 3 ∷ []) [] ∷ []) ≡ FirstBroken 0 1 rule.Operands
load_with_one_index = refl

store_of_another_type : in_body (plain (codes "memref.store") [] (6 ∷ 4 ∷ 3 ∷ 3 ∷ []) [] ∷ []) ≡ FirstBroken 0 1 rule.Operands
store_of_another_type = refl

-- memref.dim wants rank 1 or more
dim_of_rank_0 :
    in_body (plain (codes "memref.dim") ((8, Index) ∷ []) (9 ∷ 3 ∷ []) [] ∷ plain (codes "memref.alloc") ((9, Memref [] (Int 32)) ∷ []) [] ((codes "operandSegmentSizes", Numbers 32 (pos 0 ∷ pos 0 ∷ [])) ∷ []) ∷ [])
    ≡ FirstBroken 0 1 rule.Operands
dim_of_rank_0 = refl

-- a fixed dimension may become a dynamic one, but not another number
cast_to_another_size : in_body (plain (codes "memref.cast") ((8, Memref (Fixed 3 ∷ Dynamic ∷ []) (Int 32)) ∷ []) (4 ∷ []) [] ∷ []) ≡ FirstBroken 0 1 rule.Results
cast_to_another_size = refl

cast_to_dynamic : in_body (plain (codes "memref.cast") ((8, Memref (Dynamic ∷ Fixed 7 ∷ []) (Int 32)) ∷ []) (4 ∷ []) [] ∷ []) ≡ NothingBroken
cast_to_dynamic = refl

-- the bounds and the step of a loop have one type
loop_over_two_types :
    in_body (holds (codes "scf.for") [] (3 ∷ 6 ∷ 3 ∷ []) [] (region
    (one_block 1 ((8, Index) ∷ []) (plain (codes "scf.yield") [] [] [] ∷ [])) end_of_regions) ∷ [])
    ≡ FirstBroken 0 1 rule.Operands
loop_over_two_types = refl

loop_that_gives_too_much :
    in_body (holds (codes "scf.for") ((8, Int 32) ∷ []) (3 ∷ 3 ∷ 3 ∷ []) [] (region
    (one_block 1 ((9, Index) ∷ []) (plain (codes "scf.yield") [] [] [] ∷ [])) end_of_regions) ∷ [])
    ≡ FirstBroken 0 1 rule.Results
loop_that_gives_too_much = refl

-- results of scf.if are value types
function_as_a_result :
    in_body (holds (codes "scf.if") ((8, Func (types_in []) (types_in [])) ∷ []) (2 ∷ []) [] (region
    (one_block 1 [] (plain (codes "scf.yield") [] (0 ∷ []) [] ∷ [])) (region
    (one_block 2 [] (plain (codes "scf.yield") [] (0 ∷ []) [] ∷ [])) end_of_regions)) ∷ [])
    ≡ FirstBroken 0 1 rule.Results
function_as_a_result = refl

-- a yield passes on what the operation that holds it gives, and is answered at its own number
yield_of_too_much :
    in_body (holds (codes "scf.if") ((8, Int 32) ∷ []) (2 ∷ []) [] (region
    (one_block 1 [] (plain (codes "scf.yield") [] (0 ∷ 0 ∷ []) [] ∷ [])) (region
    (one_block 2 [] (plain (codes "scf.yield") [] (1 ∷ []) [] ∷ [])) end_of_regions)) ∷ [])
    ≡ FirstBroken 0 2 rule.Operands
yield_of_too_much = refl

condition_without_its_bit :
    in_body (holds (codes "scf.while") [] [] [] (region
    (one_block 1 [] (plain (codes "scf.condition") [] (0 ∷ []) [] ∷ [])) (region
    (one_block 2 [] (plain (codes "scf.yield") [] [] [] ∷ [])) end_of_regions)) ∷ [])
    ≡ FirstBroken 0 2 rule.Operands
condition_without_its_bit = refl

-- the result of llvm.extractvalue has the type that is found at the path
part_of_another_type :
    in_body (plain (codes "llvm.extractvalue") ((8, Int 32) ∷ []) (7 ∷ []) ((codes "position", Numbers 64 (pos 1 ∷ pos 1 ∷ [])) ∷ []) ∷ [])
    ≡ FirstBroken 0 1 rule.Results
part_of_another_type = refl

part_put_of_another_type :
    in_body (plain (codes "llvm.insertvalue") ((8, Struct (types_in (Int 32 ∷ Array 2 (Int 64) ∷ []))) ∷ []) (7 ∷ 0 ∷ []) ((codes "position", Numbers 64 (pos 1 ∷ [])) ∷ []) ∷ [])
    ≡ FirstBroken 0 1 rule.Operands
part_put_of_another_type = refl

-- what a call takes is asked by rule Symbol
call_with_wrong_operands : in_body (plain (codes "func.call") [] (0 ∷ []) ((codes "callee", Symbol (codes "f")) ∷ []) ∷ []) ≡ FirstBroken 0 1 rule.Symbol
call_with_wrong_operands = refl

-- a branch passes values; how many and of which types is asked by rule Successors
branch_passes_a_function :
    in_blocks
    (block 0 ((0, Int 32) ∷ (1, Int 1) ∷ []) (ops_in (plain (codes "t.f") ((2, Func (types_in []) (types_in [])) ∷ []) [] [] ∷ ends (codes "cf.br") (2 ∷ []) (1 ∷ []) [] ∷ []))
    (block 1 ((3, Func (types_in []) (types_in [])) ∷ []) (ops_in (plain (codes "func.return") [] [] [] ∷ [])) end_of_blocks))
    ≡ FirstBroken 0 0 rule.ValueType
branch_passes_a_function = refl

branch_passes_two_kinds :
    in_blocks
    (block 0 ((0, Int 32) ∷ (1, Int 1) ∷ []) (ops_in (ends (codes "cf.br") (0 ∷ []) (1 ∷ []) [] ∷ []))
    (block 1 ((2, Int 1) ∷ []) (ops_in (plain (codes "func.return") [] [] [] ∷ [])) end_of_blocks))
    ≡ FirstBroken 0 1 rule.Successors
branch_passes_two_kinds = refl

-- a cond_br takes 1 + a + b operands where its sizes have their form
sizes_do_not_add_up :
    in_blocks
    (block 0 ((0, Int 32) ∷ (1, Int 1) ∷ []) (ops_in (ends (codes "cf.cond_br") (1 ∷ 0 ∷ []) (1 ∷ 2 ∷ []) ((codes "operandSegmentSizes", Numbers 32 (pos 1 ∷ pos 0 ∷ pos 0 ∷ [])) ∷ []) ∷ []))
    (block 1 ((2, Int 32) ∷ []) (ops_in (plain (codes "func.return") [] [] [] ∷ []))
    (block 2 [] (ops_in (plain (codes "func.return") [] [] [] ∷ [])) end_of_blocks)))
    ≡ FirstBroken 0 1 rule.Operands
sizes_do_not_add_up = refl

sizes_of_another_form :
    in_blocks
    (block 0 ((0, Int 32) ∷ (1, Int 1) ∷ []) (ops_in (ends (codes "cf.cond_br") (1 ∷ 0 ∷ []) (1 ∷ 2 ∷ []) ((codes "operandSegmentSizes", Numbers 32 (pos 2 ∷ pos 0 ∷ [])) ∷ []) ∷ []))
    (block 1 ((2, Int 32) ∷ []) (ops_in (plain (codes "func.return") [] [] [] ∷ []))
    (block 2 [] (ops_in (plain (codes "func.return") [] [] [] ∷ [])) end_of_blocks)))
    ≡ FirstBroken 0 1 rule.Attribute
sizes_of_another_form = refl
