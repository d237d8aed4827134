-- scf.while, scf.index_switch and scf.execute_region cut.
use Rattle.std.specs.Prelude.{ℕ, ◌≡◌, refl, [], ◌∷◌, pos, Ok, codes}
use Rattle.plain_tree.specs.Types.{Int, Index}
use Rattle.plain_tree.specs.Attrs.{Entries, Number, Numbers}
use Rattle.plain_tree.specs.Ops.{Op, op, ops_in, region, end_of_regions, end_of_blocks, block}
use Rattle.pipeline_text.specs.declared.pass.PassName.TheVariants.{ConvertScfToCf}
use Rattle.pattern_model.specs.PassTable.{pass_tree}
use Rattle.pattern_model.proofs.Trees.{plain, ends, holds, one_block, func, segments, counted_up}

abbrev turning : Op
turning = func (codes "turning") (Int 32 ∷ []) [] (one_block 0 ((0, Int 32) ∷ []) (
    holds (codes "scf.while") ((1, Int 8) ∷ []) (0 ∷ [])
    (region (one_block 1 ((2, Int 32) ∷ []) (
    plain (codes "t.ask") ((3, Int 1) ∷ (4, Int 8) ∷ []) (2 ∷ []) [] ∷ ends (codes "scf.condition") (3 ∷ 4 ∷ []) [] [] ∷ []))
    (region (one_block 2 ((5, Int 8) ∷ []) (
    plain (codes "t.step") ((6, Int 32) ∷ []) (5 ∷ []) [] ∷ ends (codes "scf.yield") (6 ∷ []) [] [] ∷ [])) end_of_regions))
    ∷ plain (codes "t.use") [] (1 ∷ []) [] ∷ ends (codes "func.return") [] [] [] ∷ []))

-- the results are the condition's values
turning_cut : pass_tree ConvertScfToCf 64 counted_up turning ≡ Ok (func (codes "turning") (Int 32 ∷ []) [] (
    block 0 ((0, Int 32) ∷ []) (ops_in (ends (codes "cf.br") (0 ∷ []) (1 ∷ []) [] ∷ []))
    (block 1 ((2, Int 32) ∷ []) (ops_in (plain (codes "t.ask") ((3, Int 1) ∷ (4, Int 8) ∷ []) (2 ∷ []) [] ∷ ends (codes "cf.cond_br") (3 ∷ 4 ∷ []) (2 ∷ 2000 ∷ []) (segments (pos 1 ∷ pos 1 ∷ pos 0 ∷ [])) ∷ []))
    (block 2 ((5, Int 8) ∷ []) (ops_in (plain (codes "t.step") ((6, Int 32) ∷ []) (5 ∷ []) [] ∷ ends (codes "cf.br") (6 ∷ []) (1 ∷ []) [] ∷ []))
    (block 2000 [] (ops_in (plain (codes "t.use") [] (4 ∷ []) [] ∷ ends (codes "func.return") [] [] [] ∷ [])) end_of_blocks)))))
turning_cut = refl

abbrev choosing : Op
choosing = func (codes "choosing") (Index ∷ Int 8 ∷ []) (Int 8 ∷ []) (one_block 0 ((0, Index) ∷ (1, Int 8) ∷ []) (
    op (record { name = codes "scf.index_switch"; props = (codes "cases", Numbers 64 (pos 5 ∷ pos 7 ∷ [])) ∷ []; attrs = [] }) ((2, Int 8) ∷ []) (0 ∷ [])
    (region (one_block 1 [] (ends (codes "scf.yield") (1 ∷ []) [] [] ∷ []))
    (region (one_block 2 [] (plain (codes "t.five") ((3, Int 8) ∷ []) [] [] ∷ ends (codes "scf.yield") (3 ∷ []) [] [] ∷ []))
    (region (one_block 3 [] (plain (codes "t.seven") ((4, Int 8) ∷ []) [] [] ∷ ends (codes "scf.yield") (4 ∷ []) [] [] ∷ [])) end_of_regions))) []
    ∷ ends (codes "func.return") (2 ∷ []) [] [] ∷ []))

abbrev case_number : ℕ → Entries
case_number n = (codes "value", Number (pos n) Index) ∷ []

abbrev equal : Entries
equal = (codes "predicate", Number (pos 0) (Int 64)) ∷ []

abbrev to_case : Entries
to_case = segments (pos 1 ∷ pos 0 ∷ pos 0 ∷ [])

-- the first test stands in head, the second behind it, then the cases, then the default
choosing_cut : pass_tree ConvertScfToCf 64 counted_up choosing ≡ Ok (func (codes "choosing") (Index ∷ Int 8 ∷ []) (Int 8 ∷ []) (
    block 0 ((0, Index) ∷ (1, Int 8) ∷ []) (ops_in (
    plain (codes "arith.constant") ((2000, Index) ∷ []) [] (case_number 5) ∷ plain (codes "arith.cmpi") ((2001, Int 1) ∷ []) (0 ∷ 2000 ∷ []) equal ∷ ends (codes "cf.cond_br") (2001 ∷ []) (2 ∷ 2001 ∷ []) to_case ∷ []))
    (block 2001 [] (ops_in (
    plain (codes "arith.constant") ((2002, Index) ∷ []) [] (case_number 7) ∷ plain (codes "arith.cmpi") ((2003, Int 1) ∷ []) (0 ∷ 2002 ∷ []) equal ∷ ends (codes "cf.cond_br") (2003 ∷ []) (3 ∷ 1 ∷ []) to_case ∷ []))
    (block 2 [] (ops_in (plain (codes "t.five") ((3, Int 8) ∷ []) [] [] ∷ ends (codes "cf.br") (3 ∷ []) (2000 ∷ []) [] ∷ []))
    (block 3 [] (ops_in (plain (codes "t.seven") ((4, Int 8) ∷ []) [] [] ∷ ends (codes "cf.br") (4 ∷ []) (2000 ∷ []) [] ∷ []))
    (block 1 [] (ops_in (ends (codes "cf.br") (1 ∷ []) (2000 ∷ []) [] ∷ []))
    (block 2000 ((2, Int 8) ∷ []) (ops_in (ends (codes "func.return") (2 ∷ []) [] [] ∷ [])) end_of_blocks)))))))
choosing_cut = refl

abbrev without_cases : Op
without_cases = func (codes "none") (Index ∷ []) [] (one_block 0 ((0, Index) ∷ []) (
    op (record { name = codes "scf.index_switch"; props = (codes "cases", Numbers 64 []) ∷ []; attrs = [] }) [] (0 ∷ [])
    (region (one_block 1 [] (ends (codes "scf.yield") [] [] [] ∷ [])) end_of_regions) []
    ∷ ends (codes "func.return") [] [] [] ∷ []))

without_cases_cut : pass_tree ConvertScfToCf 64 counted_up without_cases ≡ Ok (func (codes "none") (Index ∷ []) [] (
    block 0 ((0, Index) ∷ []) (ops_in (ends (codes "cf.br") [] (1 ∷ []) [] ∷ []))
    (block 1 [] (ops_in (ends (codes "cf.br") [] (2000 ∷ []) [] ∷ []))
    (block 2000 [] (ops_in (ends (codes "func.return") [] [] [] ∷ [])) end_of_blocks))))
without_cases_cut = refl

abbrev inner : Op
inner = func (codes "inner") (Int 1 ∷ []) (Int 8 ∷ []) (one_block 0 ((0, Int 1) ∷ []) (
    holds (codes "scf.execute_region") ((1, Int 8) ∷ []) []
    (region (block 1 [] (ops_in (ends (codes "cf.cond_br") (0 ∷ []) (2 ∷ 3 ∷ []) to_case ∷ []))
    (block 2 [] (ops_in (plain (codes "t.one") ((2, Int 8) ∷ []) [] [] ∷ ends (codes "scf.yield") (2 ∷ []) [] [] ∷ []))
    (block 3 [] (ops_in (plain (codes "t.two") ((3, Int 8) ∷ []) [] [] ∷ ends (codes "scf.yield") (3 ∷ []) [] [] ∷ [])) end_of_blocks))) end_of_regions)
    ∷ ends (codes "func.return") (1 ∷ []) [] [] ∷ []))

-- a region of blocks: those that yield branch to rest, the others stand as they are
inner_cut : pass_tree ConvertScfToCf 64 counted_up inner ≡ Ok (func (codes "inner") (Int 1 ∷ []) (Int 8 ∷ []) (
    block 0 ((0, Int 1) ∷ []) (ops_in (ends (codes "cf.br") [] (1 ∷ []) [] ∷ []))
    (block 1 [] (ops_in (ends (codes "cf.cond_br") (0 ∷ []) (2 ∷ 3 ∷ []) to_case ∷ []))
    (block 2 [] (ops_in (plain (codes "t.one") ((2, Int 8) ∷ []) [] [] ∷ ends (codes "cf.br") (2 ∷ []) (2000 ∷ []) [] ∷ []))
    (block 3 [] (ops_in (plain (codes "t.two") ((3, Int 8) ∷ []) [] [] ∷ ends (codes "cf.br") (3 ∷ []) (2000 ∷ []) [] ∷ []))
    (block 2000 ((1, Int 8) ∷ []) (ops_in (ends (codes "func.return") (1 ∷ []) [] [] ∷ [])) end_of_blocks))))))
inner_cut = refl
