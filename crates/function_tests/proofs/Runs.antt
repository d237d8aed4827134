-- What is found among operations one after another.
use Rattle.std.proofs.Common.{◌≡◌, ℕ, suc, ◌+◌, ◌-◌, ◌<◌, ◌≤◌, ◌==◌, Bool, List, [], ◌∷◌, ◌++◌, map, drop, length, get_or, refl, sym, ap, ◌∙◌, arith}
use Rattle.std.specs.Prelude.{Option, Some, None}
use Rattle.std.proofs.Math.Dec.{eqb-suc-zero}
use Rattle.std.proofs.lemmas.Bool.{eqb-true, eq-eqb}
use Rattle.std.proofs.lemmas.Bool.Decides.{Decides-eqb, same_from_decides}
use Rattle.std.proofs.lemmas.Grind.{common_steps}
use Rattle.std.proofs.lemmas.List.{drop_more, length-drop}
use Rattle.tree_model.specs.declared.attr_tree.AttrTree.{AttrTree}
use Rattle.tree_model.specs.declared.type_tree.TypeTree.{TypeTree}
use Rattle.tree_model.specs.declared.op_tree.OpTree.{OpTree, out-OpTree}
use Rattle.tree_model.specs.declared.op_tree.RegionTree.{RegionTree}
use Rattle.plain_tree.specs.Types.{PlainType, plain_type}
use Rattle.plain_tree.specs.Attrs.{Entries, plain_entries}
use Rattle.plain_tree.specs.Ops.{Blocks, Kind, Op, op, Regions, Values, ops_in, plain_op, plain_values, regions_in}
use Rattle.rule_model.specs.declared.rules.Rule.{Rule}
use Rattle.rule_model.specs.Words.{types}
use Rattle.rule_model.specs.Facts.{Facts, Functions, Holder, is_end}
use Rattle.rule_tests.specs.Firsts.{all_tests, first_of}
use Rattle.value_types.specs.Trees.{plain_region}
use Rattle.value_types.proofs.Layers.{ops_in_block, plain_op_at, plain_region_at}
use Rattle.function_tests.specs.Walks.{Breaks, Found, Passed, answered, facts_at, op_facts, ops_facts, regions_facts, run, told}
use Rattle.function_tests.proofs.Heads.{types_plain}

pub run_joined : (c : Functions) (found : Found) (fs gs : List Facts) → run c found (fs ++ gs) ≡ run c (run c found fs) gs
run_joined c (Breaks n r) fs gs = refl
run_joined c (Passed n) [] gs = refl
run_joined c (Passed n) (f ∷ fs) gs = run_joined c (told (first_of c f all_tests) n) fs gs

-- An operation of a tree, and those in its regions

abbrev holder_with : List ℕ → Entries → List PlainType → List PlainType → ℕ → Holder
holder_with name props operands results n = record { name = name; props = props; operands = operands; results = results; region = n }

opened : (c : Functions) (t : ℕ → PlainType) (h : Option Holder) (bs : Blocks) (last : Bool) (n : ℕ) (k : Kind) (results : Values) (operands : List ℕ) (regions : Regions) (successors : List ℕ) (p : Op)
    → p ≡ op k results operands regions successors → (r : Option Rule) → r ≡ first_of c (facts_at t h bs last p) all_tests
    → run c (Passed n) (op_facts t h bs last p) ≡ run c (told r n) (regions_facts t (holder_with k.name k.props (map t operands) (types results)) 0 regions)
opened c t h bs last n k results operands regions successors p e r f =
    let o : Op = op k results operands regions successors in
    ap (λ q. run c (Passed n) (op_facts t h bs last q)) e
    ∙ ap (λ m. run c (told m n) (regions_facts t (holder_with k.name k.props (map t operands) (types results)) 0 regions)) (ap (λ q. first_of c (facts_at t h bs last q) all_tests) (sym e) ∙ sym f)

pub in_op : (c : Functions) (t : ℕ → PlainType) (h : Option Holder) (bs : Blocks) (last : Bool) (n : ℕ) (o : OpTree) (operands results : List PlainType) (r : Option Rule)
    → r ≡ first_of c (facts_at t h bs last (plain_op o)) all_tests → operands ≡ map t (out-OpTree o).operands → results ≡ map (λ v. plain_type v.1) (out-OpTree o).results
    → run c (Passed n) (op_facts t h bs last (plain_op o))
    ≡ run c (told r n) (regions_facts t (holder_with (out-OpTree o).name (plain_entries (out-OpTree o).props) operands results) 0 (regions_in (map plain_region (out-OpTree o).regions)))
in_op c t h bs last n o operands results r e f g =
    opened c t h bs last n _ _ _ _ _ (plain_op o) (plain_op_at o) r e
    ∙ ap (λ x. run c (told r n) (regions_facts t (holder_with (out-OpTree o).name (plain_entries (out-OpTree o).props) x (types (plain_values (out-OpTree o).results))) 0 (regions_in (map plain_region (out-OpTree o).regions)))) (sym f)
    ∙ ap (λ x. run c (told r n) (regions_facts t (holder_with (out-OpTree o).name (plain_entries (out-OpTree o).props) operands x) 0 (regions_in (map plain_region (out-OpTree o).regions)))) (types_plain (out-OpTree o).results ∙ sym g)

-- what is found in the regions, by parts of an operation
abbrev in_regions : Functions → (ℕ → PlainType) → ℕ → List ℕ → List PlainType → List PlainType → List (List ℕ × AttrTree) → List RegionTree → Found
in_regions c t n name operands results props regions =
    run c (Passed n) (regions_facts t (holder_with name (plain_entries props) operands results) 0 (regions_in (map plain_region regions)))

-- one that keeps the tests: its parts, and what was told of its operands and results
pub op_passed : (c : Functions) (t : ℕ → PlainType) (h : Option Holder) (bs : Blocks) (last : Bool) (n : ℕ) (o : OpTree)
    (os : List ℕ) (vs : List (ℕ × TypeTree)) (props : List (List ℕ × AttrTree)) (regions : List RegionTree) (operands results held_operands held_results : List PlainType)
    (r : Option Rule) (m : ℕ) (x : Found)
    → os ≡ (out-OpTree o).operands → vs ≡ (out-OpTree o).results → props ≡ (out-OpTree o).props → regions ≡ (out-OpTree o).regions
    → operands ≡ map t os → results ≡ map (λ v. plain_type v.1) vs → held_operands ≡ operands → held_results ≡ results
    → r ≡ first_of c (facts_at t h bs last (plain_op o)) all_tests → r ≡ None → m ≡ n + 1
    → x ≡ in_regions c t m (out-OpTree o).name held_operands held_results props regions
    → x ≡ run c (Passed n) (op_facts t h bs last (plain_op o))
op_passed c t h bs last n o os vs props regions operands results held_operands held_results r m x of_os of_vs of_props of_regions e f he hf first none more is =
    let name = (out-OpTree o).name in
    let rest : Found → Found = λ found. run c found (regions_facts t (holder_with name (plain_entries (out-OpTree o).props) operands results) 0 (regions_in (map plain_region (out-OpTree o).regions))) in
    is
    ∙ ap (λ k. in_regions c t k name held_operands held_results props regions) more
    ∙ ap (λ ts. in_regions c t (n + 1) name ts held_results props regions) he
    ∙ ap (λ ts. in_regions c t (n + 1) name operands ts props regions) hf
    ∙ ap (λ ps. in_regions c t (n + 1) name operands results ps regions) of_props
    ∙ ap (in_regions c t (n + 1) name operands results (out-OpTree o).props) of_regions
    ∙ sym (ap (λ q. rest (told q n)) none)
    ∙ sym (in_op c t h bs last n o operands results r first (e ∙ ap (map t) of_os) (f ∙ ap (map (λ (v : ℕ × TypeTree). plain_type v.1)) of_vs))

-- Operations in order

is_none_left : (ops : List OpTree) → is_end (ops_in (map plain_op ops)) ≡ (length ops == 0)
is_none_left [] = refl
is_none_left (o ∷ ops) = let more : length (o ∷ ops) ≡ suc (length ops) = omega arith in sym (ap (λ n. n == 0) more ∙ eqb-suc-zero (length ops))

two_tests : (n k : ℕ) → k ≤ n → (n - k == 0) ≡ (k == n)
two_tests n k most = same_from_decides (n - k == 0) (k == n) (Decides-eqb (n - k) 0) (λ h. omega (arith, eqb-true k n h), λ e. eq-eqb k n (omega (arith, e, most)))

last_one : (ops : List OpTree) (i : ℕ) → i < length ops → is_end (ops_in (map plain_op (drop (i + 1) ops))) ≡ (i + 1 == length ops)
last_one ops i less =
    is_none_left (drop (i + 1) ops) ∙ ap (λ n. n == 0) (length-drop (i + 1) ops) ∙ two_tests (length ops) (i + 1) (omega (arith, less))

pub one_op : (c : Functions) (t : ℕ → PlainType) (h : Option Holder) (bs : Blocks) (ops : List OpTree) (i : ℕ) (d : OpTree) (n : ℕ) → i < length ops
    → run c (Passed n) (ops_facts t h bs (ops_in (map plain_op (drop i ops))))
    ≡ run c (run c (Passed n) (op_facts t h bs (i + 1 == length ops) (plain_op (get_or ops i d)))) (ops_facts t h bs (ops_in (map plain_op (drop (i + 1) ops))))
one_op c t h bs ops i d n less =
    let here = plain_op (get_or ops i d) in
    let rest = ops_facts t h bs (ops_in (map plain_op (drop (i + 1) ops))) in
    ap (λ os. run c (Passed n) (ops_facts t h bs (ops_in (map plain_op os)))) (drop_more ops i d less)
    ∙ run_joined c (Passed n) (op_facts t h bs (is_end (ops_in (map plain_op (drop (i + 1) ops)))) here) rest
    ∙ ap (λ b. run c (run c (Passed n) (op_facts t h bs b here)) rest) (last_one ops i less)

-- what was found at the operation at a place, where what is found from there on is known
after : (c : Functions) (t : ℕ → PlainType) (h : Option Holder) (bs : Blocks) (ops : List OpTree) (i : ℕ) (o : OpTree) (n m : ℕ) (x y : Option Rule) (whole : Found)
    → i < length ops → o ≡ get_or ops i o → answered x m ≡ run c (Passed n) (op_facts t h bs (i + 1 == length ops) (plain_op o)) → x ≡ y
    → run c (Passed n) (ops_facts t h bs (ops_in (map plain_op (drop i ops)))) ≡ whole
    → run c (answered y m) (ops_facts t h bs (ops_in (map plain_op (drop (i + 1) ops)))) ≡ whole
after c t h bs ops i o n m x y whole less at e is before =
    let rest = ops_facts t h bs (ops_in (map plain_op (drop (i + 1) ops))) in
    ap (λ r. run c (answered r m) rest) (sym is)
    ∙ ap (λ f. run c f rest) (e ∙ ap (λ q. run c (Passed n) (op_facts t h bs (i + 1 == length ops) (plain_op q))) at)
    ∙ sym (one_op c t h bs ops i o n less)
    ∙ before

pub one_broke : (c : Functions) (t : ℕ → PlainType) (h : Option Holder) (bs : Blocks) (ops : List OpTree) (i : ℕ) (o : OpTree) (n m : ℕ) (x : Option Rule) (r : Rule) (whole : Found)
    → i < length ops → o ≡ get_or ops i o → answered x m ≡ run c (Passed n) (op_facts t h bs (i + 1 == length ops) (plain_op o)) → x ≡ Some r
    → run c (Passed n) (ops_facts t h bs (ops_in (map plain_op (drop i ops)))) ≡ whole → Breaks m r ≡ whole
one_broke c t h bs ops i o n m x r whole less at e is before = after c t h bs ops i o n m x (Some r) whole less at e is before

pub one_kept : (c : Functions) (t : ℕ → PlainType) (h : Option Holder) (bs : Blocks) (ops : List OpTree) (i : ℕ) (o : OpTree) (n m : ℕ) (x : Option Rule) (whole : Found)
    → i < length ops → o ≡ get_or ops i o → answered x m ≡ run c (Passed n) (op_facts t h bs (i + 1 == length ops) (plain_op o)) → x ≡ None
    → run c (Passed n) (ops_facts t h bs (ops_in (map plain_op (drop i ops)))) ≡ whole
    → run c (Passed m) (ops_facts t h bs (ops_in (map plain_op (drop (i + 1) ops)))) ≡ whole
one_kept c t h bs ops i o n m x whole less at e is before = after c t h bs ops i o n m x None whole less at e is before

pub ruleset layers = (common_steps, run_joined, ops_in_block, plain_op_at, plain_region_at)
