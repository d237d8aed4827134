-- A conditional lowered: the function `pick`, whose scf.if yields one of two arguments, and its two ways on.
use Rattle.std.specs.Prelude.{◌≡◌, refl, [], ◌∷◌, pos, Ok, codes}
use Rattle.plain_tree.specs.Types.{Int}
use Rattle.plain_tree.specs.Attrs.{Number}
use Rattle.plain_tree.specs.Ops.{Op, ops_in, region, end_of_regions, end_of_blocks, block}
use Rattle.pipeline_text.specs.declared.pass.PassName.TheVariants.{ConvertScfToCf}
use Rattle.pattern_model.specs.PassTable.{pass_tree}
use Rattle.pattern_model.proofs.Trees.{plain, ends, holds, one_block, func, segments, counted_up}

abbrev pick : Op
pick = func (codes "pick") (Int 1 ∷ Int 32 ∷ Int 32 ∷ []) (Int 32 ∷ []) (one_block 0 ((0, Int 1) ∷ (1, Int 32) ∷ (2, Int 32) ∷ []) (
    holds (codes "scf.if") ((3, Int 32) ∷ []) (0 ∷ [])
    (region (one_block 1 [] (ends (codes "scf.yield") (1 ∷ []) [] [] ∷ []))
    (region (one_block 2 [] (ends (codes "scf.yield") (2 ∷ []) [] [] ∷ [])) end_of_regions))
    ∷ ends (codes "func.return") (3 ∷ []) [] [] ∷ []))

-- head branches on the condition; each yield becomes a branch to rest, whose argument is the result
pick_cut : pass_tree ConvertScfToCf 64 counted_up pick ≡ Ok (func (codes "pick") (Int 1 ∷ Int 32 ∷ Int 32 ∷ []) (Int 32 ∷ []) (
    block 0 ((0, Int 1) ∷ (1, Int 32) ∷ (2, Int 32) ∷ []) (ops_in (ends (codes "cf.cond_br") (0 ∷ []) (1 ∷ 2 ∷ []) (segments (pos 1 ∷ pos 0 ∷ pos 0 ∷ [])) ∷ []))
    (block 1 [] (ops_in (ends (codes "cf.br") (1 ∷ []) (2000 ∷ []) [] ∷ []))
    (block 2 [] (ops_in (ends (codes "cf.br") (2 ∷ []) (2000 ∷ []) [] ∷ []))
    (block 2000 ((3, Int 32) ∷ []) (ops_in (ends (codes "func.return") (3 ∷ []) [] [] ∷ [])) end_of_blocks)))))
pick_cut = refl

abbrev one_way : Op
one_way = func (codes "one") (Int 1 ∷ []) [] (one_block 0 ((0, Int 1) ∷ []) (
    holds (codes "scf.if") [] (0 ∷ [])
    (region (one_block 1 [] (ends (codes "scf.yield") [] [] [] ∷ []))
    (region end_of_blocks end_of_regions))
    ∷ ends (codes "func.return") [] [] [] ∷ []))

-- without an else region the second successor is rest
one_way_cut : pass_tree ConvertScfToCf 64 counted_up one_way ≡ Ok (func (codes "one") (Int 1 ∷ []) [] (
    block 0 ((0, Int 1) ∷ []) (ops_in (ends (codes "cf.cond_br") (0 ∷ []) (1 ∷ 2000 ∷ []) (segments (pos 1 ∷ pos 0 ∷ pos 0 ∷ [])) ∷ []))
    (block 1 [] (ops_in (ends (codes "cf.br") [] (2000 ∷ []) [] ∷ []))
    (block 2000 [] (ops_in (ends (codes "func.return") [] [] [] ∷ [])) end_of_blocks))))
one_way_cut = refl

abbrev loop : Op
loop = func (codes "loop") (Int 64 ∷ Int 64 ∷ Int 64 ∷ Int 32 ∷ []) (Int 32 ∷ []) (one_block 0 ((0, Int 64) ∷ (1, Int 64) ∷ (2, Int 64) ∷ (3, Int 32) ∷ []) (
    holds (codes "scf.for") ((6, Int 32) ∷ []) (0 ∷ 1 ∷ 2 ∷ 3 ∷ [])
    (region (one_block 1 ((4, Int 64) ∷ (5, Int 32) ∷ []) (plain (codes "t.step") ((7, Int 32) ∷ []) (5 ∷ []) [] ∷ ends (codes "scf.yield") (7 ∷ []) [] [] ∷ [])) end_of_regions)
    ∷ ends (codes "func.return") (6 ∷ []) [] [] ∷ []))

-- a loop: the results are cond's accs, so the return names the argument of cond
loop_cut : pass_tree ConvertScfToCf 64 counted_up loop ≡ Ok (func (codes "loop") (Int 64 ∷ Int 64 ∷ Int 64 ∷ Int 32 ∷ []) (Int 32 ∷ []) (
    block 0 ((0, Int 64) ∷ (1, Int 64) ∷ (2, Int 64) ∷ (3, Int 32) ∷ []) (ops_in (ends (codes "cf.br") (0 ∷ 3 ∷ []) (2000 ∷ []) [] ∷ []))
    (block 2000 ((4, Int 64) ∷ (5, Int 32) ∷ []) (ops_in (
    plain (codes "arith.cmpi") ((2000, Int 1) ∷ []) (4 ∷ 1 ∷ []) ((codes "predicate", Number (pos 2) (Int 64)) ∷ [])
    ∷ ends (codes "cf.cond_br") (2000 ∷ []) (1 ∷ 2001 ∷ []) (segments (pos 1 ∷ pos 0 ∷ pos 0 ∷ [])) ∷ []))
    (block 1 [] (ops_in (
    plain (codes "t.step") ((7, Int 32) ∷ []) (5 ∷ []) []
    ∷ plain (codes "arith.addi") ((2001, Int 64) ∷ []) (4 ∷ 2 ∷ []) []
    ∷ ends (codes "cf.br") (2001 ∷ 7 ∷ []) (2000 ∷ []) [] ∷ []))
    (block 2001 [] (ops_in (ends (codes "func.return") (5 ∷ []) [] [] ∷ [])) end_of_blocks)))))
loop_cut = refl
