-- The steps of the loops that note where values and labels are.
use Rattle.std.proofs.Common.{◌≡◌, ℕ, suc, ◌+◌, ◌-◌, ◌<◌, List, ◌∷◌, ◌++◌, drop, length, get_or, map, Option, sym, ap, ◌∙◌, length-drop, arith}
use Rattle.std.proofs.Math.Seq.{drop-cons}
use Rattle.tree_model.specs.declared.type_tree.TypeTree.{TypeTree}
use Rattle.tree_model.specs.declared.op_tree.OpTree.{OpTree, out-OpTree}
use Rattle.tree_model.specs.declared.op_tree.BlockTree.{BlockTree, out-BlockTree}
use Rattle.plain_tree.specs.Ops.{Ops, blocks_in, ops_in, plain_op, plain_values}
use Rattle.value_types.specs.Trees.{plain_block}
use Rattle.value_types.proofs.Layers.{args_in_block, ops_in_block}
use Rattle.rule_model.specs.Words.{count_of, numbers, results_of}
use Rattle.use_paths.specs.declared.homes.Home.{Home}
use Rattle.use_paths.specs.Blocks.{all_at, homes_from, labels_from, op_homes}
use Rattle.first_places.specs.Tables.{with_first, with_firsts}
use Rattle.use_paths.proofs.Layers.{count_of_ops, label_in_block, results_at}
use Rattle.first_places.proofs.Tables.{firsts_joined}

pub dropped : {A : Type 0} (xs : List A) (i : ℕ) (x : A) → i < length xs → x ≡ get_or xs i x → drop i xs ≡ x ∷ drop (i + 1) xs
dropped xs i x less at =
    let on : suc i ≡ i + 1 = omega arith in
    drop-cons xs i x less ∙ ap (λ y. y ∷ drop (suc i) xs) (sym at) ∙ ap (λ k. x ∷ drop k xs) on

abbrev Table : Type 0
Table = ℕ → Option Home

pub values_on : (f g whole : Table) (home : Home) (vs : List (ℕ × TypeTree)) (i : ℕ) (v : ℕ × TypeTree) → i < length vs → v ≡ get_or vs i v → g ≡ with_first f v.0 home
    → with_firsts f (all_at home (numbers (plain_values (drop i vs)))) ≡ whole → with_firsts g (all_at home (numbers (plain_values (drop (i + 1) vs)))) ≡ whole
values_on f g whole home vs i v less at e before =
    ap (λ (h : Table). with_firsts h (all_at home (numbers (plain_values (drop (i + 1) vs))))) e
    ∙ ap (λ us. with_firsts f (all_at home (numbers (plain_values us)))) (sym (dropped vs i v less at)) ∙ before

abbrev home_by : ℕ → ℕ → Home
home_by block left = record { block = block; left = left }

pub ops_on : (f g whole : Table) (place i left : ℕ) (os : List OpTree) (o : OpTree) (results : List (ℕ × TypeTree)) → i < length os → o ≡ get_or os i o → left ≡ length os - i - 1
    → results ≡ (out-OpTree o).results → g ≡ with_firsts f (all_at (home_by place left) (numbers (plain_values results)))
    → with_firsts f (op_homes place (ops_in (map plain_op (drop i os)))) ≡ whole → with_firsts g (op_homes place (ops_in (map plain_op (drop (i + 1) os)))) ≡ whole
ops_on f g whole place i left os o results less at size er e before =
    let rest : Ops = ops_in (map plain_op (drop (i + 1) os)) in
    let count : left ≡ count_of rest =
    let a = count_of_ops (drop (i + 1) os) in
    let b = length-drop (i + 1) os in omega (arith, a, b, size, less) in
    let same : numbers (plain_values results) ≡ results_of (plain_op o) = ap (λ rs. numbers (plain_values rs)) er ∙ sym (results_at o) in
    ap (λ (h : Table). with_firsts h (op_homes place rest)) e
    ∙ ap (λ n. with_firsts (with_firsts f (all_at (home_by place n) (numbers (plain_values results)))) (op_homes place rest)) count
    ∙ ap (λ ns. with_firsts (with_firsts f (all_at (home_by place (count_of rest)) ns)) (op_homes place rest)) same
    ∙ sym (firsts_joined f (all_at (home_by place (count_of rest)) (results_of (plain_op o))) (op_homes place rest))
    ∙ ap (λ (xs : List OpTree). with_firsts f (op_homes place (ops_in (map plain_op xs)))) (sym (dropped os i o less at)) ∙ before

pub block_on : (f g h : Table) (b : BlockTree) (place left : ℕ) (args : List (ℕ × TypeTree)) (ops : List OpTree) → left ≡ length (out-BlockTree b).ops → args ≡ (out-BlockTree b).args
    → ops ≡ (out-BlockTree b).ops → g ≡ with_firsts f (all_at (home_by place left) (numbers (plain_values args))) → h ≡ with_firsts g (op_homes place (ops_in (map plain_op ops)))
    → h ≡ with_firsts (with_firsts f (all_at (home_by place (count_of (plain_block b).ops)) (numbers (plain_block b).args))) (op_homes place (plain_block b).ops)
block_on f g h b place left args ops el ea eo e k =
    let body : ops_in (map plain_op ops) ≡ (plain_block b).ops = ap (λ (os : List OpTree). ops_in (map plain_op os)) eo ∙ sym (ops_in_block b) in
    let count : left ≡ count_of (plain_block b).ops = el ∙ sym (count_of_ops (out-BlockTree b).ops) ∙ ap count_of (sym (ops_in_block b)) in
    let front : numbers (plain_values args) ≡ numbers (plain_block b).args = ap (λ vs. numbers (plain_values vs)) ea ∙ ap numbers (sym (args_in_block b)) in
    k ∙ ap (λ (t : Table). with_firsts t (op_homes place (ops_in (map plain_op ops)))) e
    ∙ ap (λ (os : Ops). with_firsts (with_firsts f (all_at (home_by place left) (numbers (plain_values args)))) (op_homes place os)) body
    ∙ ap (λ n. with_firsts (with_firsts f (all_at (home_by place n) (numbers (plain_values args)))) (op_homes place (plain_block b).ops)) count
    ∙ ap (λ ns. with_firsts (with_firsts f (all_at (home_by place (count_of (plain_block b).ops)) ns)) (op_homes place (plain_block b).ops)) front

pub blocks_on : (f g whole : Table) (n : ℕ) (bs : List BlockTree) (b : BlockTree) → n < length bs → b ≡ get_or bs n b
    → g ≡ with_firsts (with_firsts f (all_at (home_by n (count_of (plain_block b).ops)) (numbers (plain_block b).args))) (op_homes n (plain_block b).ops)
    → with_firsts f (homes_from n (blocks_in (map plain_block (drop n bs)))) ≡ whole → with_firsts g (homes_from (n + 1) (blocks_in (map plain_block (drop (n + 1) bs)))) ≡ whole
blocks_on f g whole n bs b less at e before =
    let rest : List (ℕ × Home) = homes_from (n + 1) (blocks_in (map plain_block (drop (n + 1) bs))) in
    let front : List (ℕ × Home) = all_at (home_by n (count_of (plain_block b).ops)) (numbers (plain_block b).args) in
    let body : List (ℕ × Home) = op_homes n (plain_block b).ops in
    ap (λ (h : Table). with_firsts h rest) e ∙ sym (firsts_joined (with_firsts f front) body rest) ∙ sym (firsts_joined f front (body ++ rest))
    ∙ ap (λ (xs : List BlockTree). with_firsts f (homes_from n (blocks_in (map plain_block xs)))) (sym (dropped bs n b less at)) ∙ before

abbrev Places : Type 0
Places = ℕ → Option ℕ

pub labels_on : (f g whole : Places) (n : ℕ) (bs : List BlockTree) (b : BlockTree) → n < length bs → b ≡ get_or bs n b → g ≡ with_first f (out-BlockTree b).label n
    → with_firsts f (labels_from n (blocks_in (map plain_block (drop n bs)))) ≡ whole → with_firsts g (labels_from (n + 1) (blocks_in (map plain_block (drop (n + 1) bs)))) ≡ whole
labels_on f g whole n bs b less at e before =
    let rest : List (ℕ × ℕ) = labels_from (n + 1) (blocks_in (map plain_block (drop (n + 1) bs))) in
    ap (λ (h : Places). with_firsts h rest) e
    ∙ ap (λ l. with_firsts (with_first f l n) rest) (sym (label_in_block b))
    ∙ ap (λ (xs : List BlockTree). with_firsts f (labels_from n (blocks_in (map plain_block xs)))) (sym (dropped bs n b less at)) ∙ before
