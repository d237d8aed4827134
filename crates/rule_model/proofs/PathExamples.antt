-- Examples of rules `Defined` and `OwnUse`.
use Rattle.std.specs.Prelude.{◌≡◌, refl, [], ◌∷◌, pos, codes}
use Rattle.plain_tree.specs.Types.{Int}
use Rattle.plain_tree.specs.Attrs.{Number, Numbers}
use Rattle.plain_tree.specs.Ops.{ops_in, region, end_of_regions, end_of_blocks, block}
use Rattle.rule_model.specs.declared.rules.Rule.TheVariants as rule
use Rattle.rule_model.specs.Search.{answer, FirstBroken, NothingBroken}
use Rattle.rule_model.proofs.Trees.{plain, ends, holds, one_block, func, module_of, in_body, in_blocks}

-- a definition in one of two predecessors
one_of_two_ways :
    answer (module_of (func (codes "f") (Int 1 ∷ []) (Int 32 ∷ [])
    (block 0 ((0, Int 1) ∷ []) (ops_in (ends (codes "cf.cond_br") (0 ∷ []) (1 ∷ 2 ∷ []) ((codes "operandSegmentSizes", Numbers 32 (pos 1 ∷ pos 0 ∷ pos 0 ∷ [])) ∷ []) ∷ []))
    (block 1 [] (ops_in (plain (codes "arith.constant") ((1, Int 32) ∷ []) [] ((codes "value", Number (pos 1) (Int 32)) ∷ []) ∷ ends (codes "cf.br") [] (2 ∷ []) [] ∷ []))
    (block 2 [] (ops_in (plain (codes "func.return") [] (1 ∷ []) [] ∷ [])) end_of_blocks))) ∷ []))
    ≡ FirstBroken 0 4 rule.Defined
one_of_two_ways = refl

-- an argument of the block is defined on each way
both_ways_by_an_argument :
    answer (module_of (func (codes "f") (Int 1 ∷ []) (Int 32 ∷ [])
    (block 0 ((0, Int 1) ∷ []) (ops_in (ends (codes "cf.cond_br") (0 ∷ []) (1 ∷ 2 ∷ []) ((codes "operandSegmentSizes", Numbers 32 (pos 1 ∷ pos 0 ∷ pos 0 ∷ [])) ∷ []) ∷ []))
    (block 1 [] (ops_in (plain (codes "arith.constant") ((1, Int 32) ∷ []) [] ((codes "value", Number (pos 1) (Int 32)) ∷ []) ∷ ends (codes "cf.br") (1 ∷ []) (3 ∷ []) [] ∷ []))
    (block 2 [] (ops_in (plain (codes "arith.constant") ((2, Int 32) ∷ []) [] ((codes "value", Number (pos 2) (Int 32)) ∷ []) ∷ ends (codes "cf.br") (2 ∷ []) (3 ∷ []) [] ∷ []))
    (block 3 ((3, Int 32) ∷ []) (ops_in (plain (codes "func.return") [] (3 ∷ []) [] ∷ [])) end_of_blocks)))) ∷ []))
    ≡ NothingBroken
both_ways_by_an_argument = refl

-- a use that nothing reaches
unreached_use :
    answer (module_of (func (codes "f") [] []
    (block 0 [] (ops_in (plain (codes "func.return") [] [] [] ∷ []))
    (block 1 [] (ops_in (ends (codes "cf.br") (0 ∷ []) (2 ∷ []) [] ∷ []))
    (block 2 ((0, Int 32) ∷ []) (ops_in (plain (codes "func.return") [] [] [] ∷ [])) end_of_blocks))) ∷ []))
    ≡ NothingBroken
unreached_use = refl

-- but no value uses itself, even there
own_use_unreached :
    answer (module_of (func (codes "f") [] []
    (block 0 [] (ops_in (plain (codes "func.return") [] [] [] ∷ []))
    (block 1 [] (ops_in (plain (codes "arith.addi") ((0, Int 32) ∷ []) (0 ∷ 0 ∷ []) [] ∷ ends (codes "cf.br") (1 ∷ []) (2 ∷ []) [] ∷ []))
    (block 2 ((1, Int 32) ∷ []) (ops_in (plain (codes "func.return") [] [] [] ∷ [])) end_of_blocks))) ∷ []))
    ≡ FirstBroken 0 2 rule.OwnUse
own_use_unreached = refl

-- where it is reached, rule Defined comes first
own_use_reached :
    answer (module_of (func (codes "f") [] []
    (one_block 0 [] (plain (codes "arith.addi") ((0, Int 32) ∷ []) (0 ∷ 0 ∷ []) [] ∷ plain (codes "func.return") [] [] [] ∷ [])) ∷ []))
    ≡ FirstBroken 0 1 rule.Defined
own_use_reached = refl

-- over two operations
own_use_over_two :
    answer (module_of (func (codes "f") [] []
    (block 0 [] (ops_in (plain (codes "func.return") [] [] [] ∷ []))
    (block 1 [] (ops_in (plain (codes "arith.addi") ((0, Int 32) ∷ []) (1 ∷ 1 ∷ []) [] ∷ ends (codes "cf.br") [] (2 ∷ []) [] ∷ []))
    (block 2 [] (ops_in (plain (codes "arith.addi") ((1, Int 32) ∷ []) (0 ∷ 0 ∷ []) [] ∷ ends (codes "cf.br") [] (1 ∷ []) [] ∷ [])) end_of_blocks))) ∷ []))
    ≡ FirstBroken 0 2 rule.OwnUse
own_use_over_two = refl

-- a use in the regions of the operation itself is answered at the operation, which has the lower number
own_use_in_a_region :
    in_body (holds (codes "t.x") ((8, Int 32) ∷ []) [] [] (region
    (one_block 1 [] (plain (codes "t.x") [] (8 ∷ []) [] ∷ [])) end_of_regions) ∷ [])
    ≡ FirstBroken 0 1 rule.OwnUse
own_use_in_a_region = refl

-- a use in front of its definition in a block
use_in_front : in_body (plain (codes "t.x") [] (8 ∷ []) [] ∷ plain (codes "t.y") ((8, Int 32) ∷ []) [] [] ∷ []) ≡ FirstBroken 0 1 rule.Defined
use_in_front = refl

-- and in a region of an operation in front of it
use_in_front_in_a_region : in_body (holds (codes "t.x") [] [] [] (region (one_block 1 [] (plain (codes "t.x") [] (8 ∷ []) [] ∷ [])) end_of_regions) ∷ plain (codes "t.y") ((8, Int 32) ∷ []) [] [] ∷ []) ≡ FirstBroken 0 2 rule.Defined
use_in_front_in_a_region = refl

-- a region sees what stands in front of its holder
use_in_a_region_behind : in_body (plain (codes "t.y") ((8, Int 32) ∷ []) [] [] ∷ holds (codes "t.x") [] [] [] (region (one_block 1 [] (plain (codes "t.x") [] (8 ∷ []) [] ∷ [])) end_of_regions) ∷ []) ≡ NothingBroken
use_in_a_region_behind = refl

-- what stands behind a terminator is not reached, so the terminator itself is the first to break a rule
use_behind_a_terminator : in_blocks (one_block 0 ((0, Int 32) ∷ (1, Int 1) ∷ []) (plain (codes "func.return") [] [] [] ∷ plain (codes "t.x") [] (2 ∷ []) [] ∷ plain (codes "t.y") ((2, Int 32) ∷ []) [] [] ∷ plain (codes "func.return") [] [] [] ∷ [])) ≡ FirstBroken 0 1 rule.Terminator
use_behind_a_terminator = refl

-- a definition in a block that nothing reaches is no definition for a use that is reached
defined_where_nothing_comes :
    in_blocks
    (block 0 ((0, Int 32) ∷ (1, Int 1) ∷ []) (ops_in (plain (codes "t.x") [] (2 ∷ []) [] ∷ plain (codes "func.return") [] [] [] ∷ []))
    (block 1 [] (ops_in (plain (codes "t.y") ((2, Int 32) ∷ []) [] [] ∷ plain (codes "func.return") [] [] [] ∷ [])) end_of_blocks))
    ≡ FirstBroken 0 1 rule.Defined
defined_where_nothing_comes = refl

-- a value of a loop is defined in front of the loop or in it before its use
defined_round_a_loop :
    in_blocks
    (block 0 ((0, Int 32) ∷ (1, Int 1) ∷ []) (ops_in (ends (codes "cf.br") [] (1 ∷ []) [] ∷ []))
    (block 1 [] (ops_in (ends (codes "cf.cond_br") (1 ∷ []) (2 ∷ 3 ∷ []) ((codes "operandSegmentSizes", Numbers 32 (pos 1 ∷ pos 0 ∷ pos 0 ∷ [])) ∷ []) ∷ []))
    (block 2 [] (ops_in (plain (codes "t.x") [] (2 ∷ []) [] ∷ plain (codes "t.y") ((2, Int 32) ∷ []) [] [] ∷ ends (codes "cf.br") [] (1 ∷ []) [] ∷ []))
    (block 3 [] (ops_in (plain (codes "func.return") [] [] [] ∷ [])) end_of_blocks))))
    ≡ FirstBroken 0 3 rule.Defined
defined_round_a_loop = refl

defined_on_the_only_way :
    in_blocks
    (block 0 ((0, Int 32) ∷ (1, Int 1) ∷ []) (ops_in (ends (codes "cf.br") [] (1 ∷ []) [] ∷ []))
    (block 1 [] (ops_in (plain (codes "t.y") ((2, Int 32) ∷ []) [] [] ∷ ends (codes "cf.cond_br") (1 ∷ []) (2 ∷ 3 ∷ []) ((codes "operandSegmentSizes", Numbers 32 (pos 1 ∷ pos 0 ∷ pos 0 ∷ [])) ∷ []) ∷ []))
    (block 2 [] (ops_in (plain (codes "t.x") [] (2 ∷ []) [] ∷ ends (codes "cf.br") [] (1 ∷ []) [] ∷ []))
    (block 3 [] (ops_in (plain (codes "t.x") [] (2 ∷ []) [] ∷ plain (codes "func.return") [] [] [] ∷ [])) end_of_blocks))))
    ≡ NothingBroken
defined_on_the_only_way = refl
