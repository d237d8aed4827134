-- Examples of rules `Regions` and `Attribute`.
use Rattle.std.specs.Prelude.{◌≡◌, refl, [], ◌∷◌, pos, codes}
use Rattle.tree_model.specs.declared.type_tree.Dim.TheVariants.{Dynamic}
use Rattle.plain_tree.specs.Types.{Int, Index, Memref, Func, Ptr, types_in}
use Rattle.plain_tree.specs.Attrs.{Unit, Number, Text, Attrs, Dict, OfType, Numbers, Dialect, attrs_in, dict_in}
use Rattle.plain_tree.specs.Ops.{op, ops_in, region, end_of_regions, end_of_blocks, block}
use Rattle.rule_model.specs.declared.rules.Rule.TheVariants as rule
use Rattle.rule_model.specs.Search.{answer, FirstBroken, NothingBroken}
use Rattle.rule_model.proofs.Trees.{plain, ends, holds, one_block, func, module_of, in_body}

region_of_a_sum : in_body (holds (codes "arith.addi") ((8, Int 32) ∷ []) (0 ∷ 0 ∷ []) [] (region end_of_blocks end_of_regions) ∷ []) ≡ FirstBroken 0 1 rule.Regions
region_of_a_sum = refl

-- scf.if has two regions, of which the second may be empty
if_without_else :
    in_body (holds (codes "scf.if") [] (2 ∷ []) [] (region
    (one_block 1 [] (plain (codes "scf.yield") [] [] [] ∷ [])) end_of_regions) ∷ [])
    ≡ FirstBroken 0 1 rule.Regions
if_without_else = refl

if_with_empty_else :
    in_body (holds (codes "scf.if") [] (2 ∷ []) [] (region
    (one_block 1 [] (plain (codes "scf.yield") [] [] [] ∷ []))
    (region end_of_blocks end_of_regions)) ∷ [])
    ≡ NothingBroken
if_with_empty_else = refl

-- but not where there are results
if_with_empty_else_and_results :
    in_body (holds (codes "scf.if") ((8, Int 32) ∷ []) (2 ∷ []) [] (region
    (one_block 1 [] (plain (codes "scf.yield") [] (0 ∷ []) [] ∷ []))
    (region end_of_blocks end_of_regions)) ∷ [])
    ≡ FirstBroken 0 1 rule.Regions
if_with_empty_else_and_results = refl

if_with_an_argument :
    in_body (holds (codes "scf.if") [] (2 ∷ []) [] (region
    (one_block 1 ((8, Int 32) ∷ []) (plain (codes "scf.yield") [] [] [] ∷ []))
    (region end_of_blocks end_of_regions)) ∷ [])
    ≡ FirstBroken 0 1 rule.Regions
if_with_an_argument = refl

-- one block a region
if_with_two_blocks :
    in_body (holds (codes "scf.if") [] (2 ∷ []) [] (region
    (block 1 [] (ops_in (ends (codes "cf.br") [] (2 ∷ []) [] ∷ []))
    (block 2 [] (ops_in (plain (codes "scf.yield") [] [] [] ∷ [])) end_of_blocks))
    (region end_of_blocks end_of_regions)) ∷ [])
    ≡ FirstBroken 0 1 rule.Regions
if_with_two_blocks = refl

-- the arguments of a loop are its number and the values that are carried
loop_without_its_number :
    in_body (holds (codes "scf.for") [] (3 ∷ 3 ∷ 3 ∷ []) [] (region
    (one_block 1 [] (plain (codes "scf.yield") [] [] [] ∷ [])) end_of_regions) ∷ [])
    ≡ FirstBroken 0 1 rule.Regions
loop_without_its_number = refl

-- a region for the default and one for each case
switch_with_too_few_cases :
    in_body (holds (codes "scf.index_switch") [] (3 ∷ []) ((codes "cases", Numbers 64 (pos 1 ∷ pos 2 ∷ [])) ∷ []) (region
    (one_block 1 [] (plain (codes "scf.yield") [] [] [] ∷ [])) end_of_regions) ∷ [])
    ≡ FirstBroken 0 1 rule.Regions
switch_with_too_few_cases = refl

-- cases are distinct; otherwise the number of regions counts as met
switch_with_equal_cases :
    in_body (holds (codes "scf.index_switch") [] (3 ∷ []) ((codes "cases", Numbers 64 (pos 1 ∷ pos 1 ∷ [])) ∷ []) (region
    (one_block 1 [] (plain (codes "scf.yield") [] [] [] ∷ [])) end_of_regions) ∷ [])
    ≡ FirstBroken 0 1 rule.Attribute
switch_with_equal_cases = refl

-- scf.execute_region has a block at least
execute_without_blocks : in_body (holds (codes "scf.execute_region") [] [] [] (region end_of_blocks end_of_regions) ∷ []) ≡ FirstBroken 0 1 rule.Regions
execute_without_blocks = refl

execute_of_two_blocks :
    in_body (holds (codes "scf.execute_region") [] [] [] (region
    (block 1 [] (ops_in (ends (codes "cf.br") [] (2 ∷ []) [] ∷ []))
    (block 2 [] (ops_in (plain (codes "scf.yield") [] [] [] ∷ [])) end_of_blocks)) end_of_regions) ∷ [])
    ≡ NothingBroken
execute_of_two_blocks = refl

-- the first block of a function has the inputs as arguments
arguments_without_inputs :
    answer (module_of (func (codes "f") [] []
    (one_block 0 ((0, Int 32) ∷ []) (plain (codes "func.return") [] [] [] ∷ [])) ∷ []))
    ≡ FirstBroken 0 0 rule.Regions
arguments_without_inputs = refl

-- what rule Regions would ask by a property of another form counts as met
wrong_type_of_function :
    answer (module_of (holds (codes "llvm.func") [] [] ((codes "function_type", OfType (Func (types_in []) (types_in []))) ∷ (codes "sym_name", Text (codes "f")) ∷ [])
    (region end_of_blocks end_of_regions) ∷ []))
    ≡ FirstBroken 0 0 rule.Attribute
wrong_type_of_function = refl

-- the value of a constant has its type
constant_of_another_type :
    in_body (plain (codes "arith.constant") ((8, Int 32) ∷ []) [] ((codes "value", Number (pos 1) (Int 64)) ∷ []) ∷ [])
    ≡ FirstBroken 0 1 rule.Attribute
constant_of_another_type = refl

-- llvm.mlir.constant may have a value of `index`
constant_of_llvm_by_an_index : in_body (plain (codes "llvm.mlir.constant") ((8, Int 32) ∷ []) [] ((codes "value", Number (pos 1) Index) ∷ []) ∷ []) ≡ NothingBroken
constant_of_llvm_by_an_index = refl

constant_without_value : in_body (plain (codes "arith.constant") ((8, Int 32) ∷ []) [] [] ∷ []) ≡ FirstBroken 0 1 rule.Attribute
constant_without_value = refl

-- the sizes are right, their number in the property is wrong
alloc_with_another_count :
    in_body (plain (codes "memref.alloc") ((8, Memref (Dynamic ∷ []) (Int 32)) ∷ []) (3 ∷ []) ((codes "operandSegmentSizes", Numbers 32 (pos 0 ∷ pos 0 ∷ [])) ∷ []) ∷ [])
    ≡ FirstBroken 0 1 rule.Attribute
alloc_with_another_count = refl

-- an alignment is a power of two up to 4096, an integer of any type
alignment_of_12 :
    in_body (plain (codes "memref.alloc") ((8, Memref [] (Int 32)) ∷ []) [] ((codes "alignment", Number (pos 12) (Int 32)) ∷ (codes "operandSegmentSizes", Numbers 32 (pos 0 ∷ pos 0 ∷ [])) ∷ []) ∷ [])
    ≡ FirstBroken 0 1 rule.Attribute
alignment_of_12 = refl

alignment_of_4096 :
    in_body (plain (codes "memref.alloc") ((8, Memref [] (Int 32)) ∷ []) [] ((codes "alignment", Number (pos 4096) (Int 16)) ∷ (codes "operandSegmentSizes", Numbers 32 (pos 0 ∷ pos 0 ∷ [])) ∷ []) ∷ [])
    ≡ NothingBroken
alignment_of_4096 = refl

-- nontemporal is an integer of i1
nontemporal_of_i32 :
    in_body (plain (codes "memref.load") ((8, Int 32) ∷ []) (4 ∷ 3 ∷ 3 ∷ []) ((codes "nontemporal", Number (pos 1) (Int 32)) ∷ []) ∷ [])
    ≡ FirstBroken 0 1 rule.Attribute
nontemporal_of_i32 = refl

-- flags have one word or more
flags_without_a_word :
    in_body (plain (codes "arith.addi") ((8, Int 32) ∷ []) (0 ∷ 0 ∷ []) ((codes "overflowFlags", Dialect (codes "arith.overflow") []) ∷ []) ∷ [])
    ≡ FirstBroken 0 1 rule.Attribute
flags_without_a_word = refl

-- in any number and order
flags_twice :
    in_body (plain (codes "arith.addi") ((8, Int 32) ∷ []) (0 ∷ 0 ∷ []) ((codes "overflowFlags", Dialect (codes "arith.overflow") (codes "nuw" ∷ codes "nsw" ∷ codes "nuw" ∷ [])) ∷ []) ∷ [])
    ≡ NothingBroken
flags_twice = refl

flags_of_the_other_dialect :
    in_body (plain (codes "arith.addi") ((8, Int 32) ∷ []) (0 ∷ 0 ∷ []) ((codes "overflowFlags", Dialect (codes "llvm.overflow") (codes "none" ∷ [])) ∷ []) ∷ [])
    ≡ FirstBroken 0 1 rule.Attribute
flags_of_the_other_dialect = refl

predicate_10 :
    in_body (plain (codes "arith.cmpi") ((8, Int 1) ∷ []) (0 ∷ 0 ∷ []) ((codes "predicate", Number (pos 10) (Int 64)) ∷ []) ∷ [])
    ≡ FirstBroken 0 1 rule.Attribute
predicate_10 = refl

predicate_of_i32 :
    in_body (plain (codes "arith.cmpi") ((8, Int 1) ∷ []) (0 ∷ 0 ∷ []) ((codes "predicate", Number (pos 1) (Int 32)) ∷ []) ∷ [])
    ≡ FirstBroken 0 1 rule.Attribute
predicate_of_i32 = refl

-- a path that finds no part has another form
path_to_nothing :
    in_body (plain (codes "llvm.extractvalue") ((8, Int 32) ∷ []) (7 ∷ []) ((codes "position", Numbers 64 (pos 1 ∷ pos 2 ∷ [])) ∷ []) ∷ [])
    ≡ FirstBroken 0 1 rule.Attribute
path_to_nothing = refl

empty_path : in_body (plain (codes "llvm.extractvalue") ((8, Int 32) ∷ []) (7 ∷ []) ((codes "position", Numbers 64 []) ∷ []) ∷ []) ≡ FirstBroken 0 1 rule.Attribute
empty_path = refl

index_0_of_a_pointer :
    in_body (plain (codes "llvm.getelementptr") ((8, Ptr) ∷ []) (5 ∷ 6 ∷ []) ((codes "elem_type", OfType (Int 8)) ∷ (codes "rawConstantIndices", Numbers 32 (pos 0 ∷ [])) ∷ []) ∷ [])
    ≡ FirstBroken 0 1 rule.Attribute
index_0_of_a_pointer = refl

-- a property unsignedCmp is refused, whatever it is; as an attribute it means nothing
unsigned_loop :
    in_body (holds (codes "scf.for") [] (3 ∷ 3 ∷ 3 ∷ []) ((codes "unsignedCmp", Unit) ∷ []) (region
    (one_block 1 ((8, Index) ∷ []) (plain (codes "scf.yield") [] [] [] ∷ [])) end_of_regions) ∷ [])
    ≡ FirstBroken 0 1 rule.Attribute
unsigned_loop = refl

unsigned_loop_by_attribute :
    in_body (op (record { name = codes "scf.for"; props = []; attrs = ((codes "unsignedCmp", Unit) ∷ []) }) [] (3 ∷ 3 ∷ 3 ∷ []) (region
    (one_block 1 ((8, Index) ∷ []) (plain (codes "scf.yield") [] [] [] ∷ [])) end_of_regions) [] ∷ [])
    ≡ NothingBroken
unsigned_loop_by_attribute = refl

unsigned_elsewhere : in_body (plain (codes "arith.addi") ((8, Int 32) ∷ []) (0 ∷ 0 ∷ []) ((codes "unsignedCmp", Unit) ∷ []) ∷ []) ≡ NothingBroken
unsigned_elsewhere = refl

-- arg_attrs is a list of dictionaries of any length
arguments_of_dictionaries :
    answer (module_of (holds (codes "func.func") [] [] ((codes "arg_attrs", Attrs (attrs_in (Dict (dict_in []) ∷ Dict (dict_in ((codes "a", Unit) ∷ [])) ∷ []))) ∷ (codes "function_type", OfType (Func (types_in []) (types_in []))) ∷ (codes "sym_name", Text (codes "f")) ∷ [])
    (region end_of_blocks end_of_regions) ∷ []))
    ≡ NothingBroken
arguments_of_dictionaries = refl

arguments_of_numbers :
    answer (module_of (holds (codes "func.func") [] [] ((codes "arg_attrs", Attrs (attrs_in (Number (pos 1) (Int 64) ∷ []))) ∷ (codes "function_type", OfType (Func (types_in []) (types_in []))) ∷ (codes "sym_name", Text (codes "f")) ∷ [])
    (region end_of_blocks end_of_regions) ∷ []))
    ≡ FirstBroken 0 0 rule.Attribute
arguments_of_numbers = refl

function_without_a_name :
    answer (module_of (holds (codes "func.func") [] [] ((codes "function_type", OfType (Func (types_in []) (types_in []))) ∷ [])
    (region end_of_blocks end_of_regions) ∷ []))
    ≡ FirstBroken 0 0 rule.Attribute
function_without_a_name = refl
