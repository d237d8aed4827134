-- Examples of rules `Successors` and `Terminator`.
use Rattle.std.specs.Prelude.{◌≡◌, refl, [], ◌∷◌, pos, codes}
use Rattle.plain_tree.specs.Types.{Int}
use Rattle.plain_tree.specs.Attrs.{Number, Numbers}
use Rattle.plain_tree.specs.Ops.{op, ops_in, region, end_of_regions, end_of_blocks, block}
use Rattle.rule_model.specs.declared.rules.Rule.TheVariants as rule
use Rattle.rule_model.specs.Search.{answer, FirstBroken, NothingBroken}
use Rattle.rule_model.proofs.Trees.{plain, ends, holds, one_block, func, module_of, in_body, in_blocks}

-- a known operation that is no branch has no successor
successor_of_a_constant :
    in_blocks
    (block 0 ((0, Int 32) ∷ (1, Int 1) ∷ []) (ops_in (op (record { name = codes "arith.constant"; props = ((codes "value", Number (pos 1) (Int 32)) ∷ []); attrs = [] }) ((2, Int 32) ∷ []) [] end_of_regions (1 ∷ []) ∷ plain (codes "func.return") [] [] [] ∷ []))
    (block 1 [] (ops_in (plain (codes "func.return") [] [] [] ∷ [])) end_of_blocks))
    ≡ FirstBroken 0 1 rule.Successors
successor_of_a_constant = refl

successor_of_a_return :
    in_blocks
    (block 0 ((0, Int 32) ∷ (1, Int 1) ∷ []) (ops_in (ends (codes "func.return") [] (1 ∷ []) [] ∷ []))
    (block 1 [] (ops_in (plain (codes "func.return") [] [] [] ∷ [])) end_of_blocks))
    ≡ FirstBroken 0 1 rule.Successors
successor_of_a_return = refl

-- nor has an unregistered one
successor_of_an_unregistered_one :
    in_blocks
    (block 0 ((0, Int 32) ∷ (1, Int 1) ∷ []) (ops_in (ends (codes "t.x") [] (1 ∷ []) [] ∷ []))
    (block 1 [] (ops_in (plain (codes "func.return") [] [] [] ∷ [])) end_of_blocks))
    ≡ FirstBroken 0 1 rule.Successors
successor_of_an_unregistered_one = refl

two_successors_of_br :
    in_blocks
    (block 0 ((0, Int 32) ∷ (1, Int 1) ∷ []) (ops_in (ends (codes "cf.br") [] (1 ∷ 1 ∷ []) [] ∷ []))
    (block 1 [] (ops_in (plain (codes "func.return") [] [] [] ∷ [])) end_of_blocks))
    ≡ FirstBroken 0 1 rule.Successors
two_successors_of_br = refl

-- each successor takes its own operands
parted_the_wrong_way :
    in_blocks
    (block 0 ((0, Int 32) ∷ (1, Int 1) ∷ []) (ops_in (ends (codes "cf.cond_br") (1 ∷ 0 ∷ []) (1 ∷ 2 ∷ []) ((codes "operandSegmentSizes", Numbers 32 (pos 1 ∷ pos 0 ∷ pos 1 ∷ [])) ∷ []) ∷ []))
    (block 1 ((2, Int 32) ∷ []) (ops_in (plain (codes "func.return") [] [] [] ∷ []))
    (block 2 [] (ops_in (plain (codes "func.return") [] [] [] ∷ [])) end_of_blocks)))
    ≡ FirstBroken 0 1 rule.Successors
parted_the_wrong_way = refl

-- no branch leads to the first block of a region
back_to_the_first_block : in_blocks (one_block 0 ((0, Int 32) ∷ (1, Int 1) ∷ []) (ends (codes "cf.br") (0 ∷ 1 ∷ []) (0 ∷ []) [] ∷ [])) ≡ FirstBroken 0 1 rule.Successors
back_to_the_first_block = refl

-- case 1: a block ends by a known operation that is no terminator
ends_by_no_terminator :
    in_blocks
    (one_block 0 ((0, Int 32) ∷ (1, Int 1) ∷ []) (plain (codes "arith.addi") ((2, Int 32) ∷ []) (0 ∷ 0 ∷ []) [] ∷ []))
    ≡ FirstBroken 0 0 rule.Terminator
ends_by_no_terminator = refl

-- case 1: an empty block
empty_block : answer (module_of (func (codes "f") [] [] (one_block 0 [] []) ∷ [])) ≡ FirstBroken 0 0 rule.Terminator
empty_block = refl

-- case 1 is asked of unregistered operations too
empty_block_in_an_unregistered_one : in_body (holds (codes "t.r") [] [] [] (region (one_block 1 [] []) end_of_regions) ∷ []) ≡ FirstBroken 0 1 rule.Terminator
empty_block_in_an_unregistered_one = refl

-- an unregistered operation may end a block
ends_by_an_unregistered_one : in_blocks (one_block 0 ((0, Int 32) ∷ (1, Int 1) ∷ []) (plain (codes "t.x") [] [] [] ∷ [])) ≡ NothingBroken
ends_by_an_unregistered_one = refl

-- case 2: but not in scf.if
if_ends_by_an_unregistered_one :
    in_body (holds (codes "scf.if") [] (2 ∷ []) [] (region
    (one_block 1 [] (plain (codes "t.x") [] [] [] ∷ []))
    (region end_of_blocks end_of_regions)) ∷ [])
    ≡ FirstBroken 0 1 rule.Terminator
if_ends_by_an_unregistered_one = refl

-- case 2: the first region of scf.while ends by scf.condition
while_ends_by_a_yield :
    in_body (holds (codes "scf.while") [] [] [] (region
    (one_block 1 [] (plain (codes "scf.yield") [] [] [] ∷ [])) (region
    (one_block 2 [] (plain (codes "scf.yield") [] [] [] ∷ [])) end_of_regions)) ∷ [])
    ≡ FirstBroken 0 1 rule.Terminator
while_ends_by_a_yield = refl

-- case 3: a terminator in the middle of a block
return_in_the_middle :
    in_blocks
    (one_block 0 ((0, Int 32) ∷ (1, Int 1) ∷ []) (plain (codes "func.return") [] [] [] ∷ plain (codes "func.return") [] [] [] ∷ []))
    ≡ FirstBroken 0 1 rule.Terminator
return_in_the_middle = refl

-- case 4: a terminator where it may not stand
yield_in_a_function : answer (module_of (func (codes "f") [] [] (one_block 0 [] (plain (codes "scf.yield") [] [] [] ∷ [])) ∷ [])) ≡ FirstBroken 0 1 rule.Terminator
yield_in_a_function = refl

-- case 4
return_of_the_other_kind : answer (module_of (func (codes "f") [] [] (one_block 0 [] (plain (codes "llvm.return") [] [] [] ∷ [])) ∷ [])) ≡ FirstBroken 0 1 rule.Terminator
return_of_the_other_kind = refl

-- case 4
return_in_a_region :
    in_body (holds (codes "t.r") [] [] [] (region
    (one_block 1 [] (plain (codes "func.return") [] [] [] ∷ [])) end_of_regions) ∷ [])
    ≡ FirstBroken 0 2 rule.Terminator
return_in_a_region = refl

-- case 2 is answered at the holder, before the condition itself
condition_in_the_second_region :
    in_body (holds (codes "scf.while") [] [] [] (region
    (one_block 1 [] (plain (codes "scf.condition") [] (2 ∷ []) [] ∷ [])) (region
    (one_block 2 [] (plain (codes "scf.condition") [] (2 ∷ []) [] ∷ [])) end_of_regions)) ∷ [])
    ≡ FirstBroken 0 1 rule.Terminator
condition_in_the_second_region = refl

-- a yield in no region of its own is asked for no operands, and may not stand there
yield_in_an_unregistered_one :
    in_body (holds (codes "scf.if") [] (2 ∷ []) [] (region
    (one_block 1 [] (holds (codes "t.r") [] [] [] (region
    (one_block 2 [] (plain (codes "scf.yield") [] (0 ∷ []) [] ∷ [])) end_of_regions) ∷ plain (codes "scf.yield") [] [] [] ∷ []))
    (region end_of_blocks end_of_regions)) ∷ [])
    ≡ FirstBroken 0 3 rule.Terminator
yield_in_an_unregistered_one = refl

-- a branch may stand in any region of blocks
branch_in_an_execute_region :
    in_body (holds (codes "scf.execute_region") [] [] [] (region
    (block 1 [] (ops_in (ends (codes "cf.br") [] (2 ∷ []) [] ∷ []))
    (block 2 [] (ops_in (plain (codes "scf.yield") [] [] [] ∷ [])) end_of_blocks)) end_of_regions) ∷ [])
    ≡ NothingBroken
branch_in_an_execute_region = refl
