-- Each layer of a tree whose blocks have arguments in converted types.
use Rattle.std.proofs.Common.{◌≡◌, ℕ, ◌==◌, Bool, true, false, List, [], ◌∷◌, ◌++◌, length, map, reverse, refl, sym, ap, ◌∙◌, true≢false}
use Rattle.std.specs.Prelude.{◌&&◌}
use Rattle.std.specs.List.{list_all}
use Rattle.std.proofs.lemmas.Bool.Decides.{Decides-eqb}
use Rattle.std.proofs.lemmas.List.{append_assoc, nil_from_length, reverse-append}
use Rattle.std.proofs.lemmas.Grind.{common_steps}
use Rattle.tree_model.specs.declared.op_tree.OpTree.{OpTree, out-OpTree}
use Rattle.tree_model.specs.declared.op_tree.BlockTree.{BlockTree, out-BlockTree, fold_out-BlockTree}
use Rattle.tree_model.specs.declared.op_tree.RegionTree.{RegionTree, out-RegionTree, fold_out-RegionTree}
use Rattle.plain_tree.specs.Attrs.{plain_entries}
use Rattle.plain_tree.specs.Ops.{Op, op, Ops, more_ops, region, Blocks, block, PlainBlock, Values, block_at, op_at, region_at, blocks_in, ops_in, regions_in, plain_op, plain_values}
use Rattle.conversion_model.specs.Conversion.{blocks_blocks, casts_back, new_arguments, op_blocks, ops_blocks, regions_blocks}
use Rattle.tree_uses.specs.Edited.{op_from, plain_block, plain_region}
use Rattle.tree_uses.proofs.Layers.{op_plain_at}
use Rattle.new_numbers.specs.Tables.{Extends, Numbering, supply_of}
use Rattle.new_numbers.proofs.PlaceLaws.{extends_itself, extends_on}
use Rattle.block_casts.proofs.ChangedLaws.{ops_front}
use Rattle.block_casts.specs.Changed.{Said, block_changed, blocks_changed, has_none, in_front, region_changed}

changed_regions : (bits : ℕ) (new : ℕ → ℕ → ℕ) (rs : List Blocks) → regions_blocks bits new (regions_in rs) ≡ regions_in (map (region_changed bits new) rs)
unfolding region_changed
changed_regions bits new [] = refl
changed_regions bits new (r ∷ rs) = ap (region (blocks_blocks bits new true r)) (changed_regions bits new rs)

changed_blocks : (bits : ℕ) (new : ℕ → ℕ → ℕ) (is_first : Bool) (bs : List PlainBlock) → blocks_blocks bits new is_first (blocks_in bs) ≡ blocks_in (blocks_changed bits new is_first bs)
unfolding block_changed
changed_blocks bits new true [] = refl
changed_blocks bits new false [] = refl
changed_blocks bits new true (b ∷ bs) = ap (block b.label b.args (ops_blocks bits new b.ops)) (changed_blocks bits new false bs)
changed_blocks bits new false (b ∷ bs) =
    ap (block b.label (new_arguments bits (new b.label) 0 b.args) (casts_back bits (new b.label) 0 b.args (ops_blocks bits new b.ops))) (changed_blocks bits new false bs)

changed_ops : (bits : ℕ) (new : ℕ → ℕ → ℕ) (os : List Op) → ops_blocks bits new (ops_in os) ≡ ops_in (map (op_blocks bits new) os)
changed_ops bits new [] = refl
changed_ops bits new (o ∷ os) = ap (more_ops (op_blocks bits new o)) (changed_ops bits new os)

pub op_blocks_at : (bits : ℕ) (new : ℕ → ℕ → ℕ) (o : OpTree) → op_blocks bits new (plain_op o)
    ≡ op_from (out-OpTree o).name (plain_entries (out-OpTree o).props) (plain_entries (out-OpTree o).attrs) (plain_values (out-OpTree o).results) (out-OpTree o).operands (map (region_changed bits new) (map plain_region (out-OpTree o).regions)) (out-OpTree o).successors
unfolding op_from
op_blocks_at bits new o =
    ap (op_blocks bits new) (op_plain_at o)
    ∙ ap (λ rs. op (record { name = (out-OpTree o).name; props = plain_entries (out-OpTree o).props; attrs = plain_entries (out-OpTree o).attrs }) (plain_values (out-OpTree o).results) (out-OpTree o).operands rs (out-OpTree o).successors)
    (changed_regions bits new (map plain_region (out-OpTree o).regions))

pub region_blocks_at : (bits : ℕ) (new : ℕ → ℕ → ℕ) (r : RegionTree) → region_changed bits new (plain_region r) ≡ blocks_in (blocks_changed bits new true (map plain_block (out-RegionTree r).blocks))
unfolding plain_block plain_region region_changed
region_blocks_at bits new r =
    ap (blocks_blocks bits new true) (fold_out-RegionTree PlainBlock Op Blocks block_at op_at region_at r)
    ∙ changed_blocks bits new true (map plain_block (out-RegionTree r).blocks)

block_plain_at : (b : BlockTree) → plain_block b ≡ record { label = (out-BlockTree b).label; args = plain_values (out-BlockTree b).args; ops = ops_in (map plain_op (out-BlockTree b).ops) }
unfolding plain_op plain_block
block_plain_at b = fold_out-BlockTree PlainBlock Op Blocks block_at op_at region_at b

-- a region's first block, and a later one
pub first_block_at : (bits : ℕ) (new : ℕ → ℕ → ℕ) (b : BlockTree)
    → block_changed bits new true (plain_block b) ≡ record { label = (out-BlockTree b).label; args = plain_values (out-BlockTree b).args; ops = ops_in (map (op_blocks bits new) (map plain_op (out-BlockTree b).ops)) }
unfolding block_changed
first_block_at bits new b =
    ap (block_changed bits new true) (block_plain_at b)
    ∙ ap (λ (os : Ops). record { label = (out-BlockTree b).label; args = plain_values (out-BlockTree b).args; ops = os }) (changed_ops bits new (map plain_op (out-BlockTree b).ops))

pub later_block_at : (bits : ℕ) (new : ℕ → ℕ → ℕ) (b : BlockTree)
    → block_changed bits new false (plain_block b) ≡ record {
      label = (out-BlockTree b).label;
      args = new_arguments bits (new (out-BlockTree b).label) 0 (plain_values (out-BlockTree b).args);
      ops = casts_back bits (new (out-BlockTree b).label) 0 (plain_values (out-BlockTree b).args) (ops_in (map (op_blocks bits new) (map plain_op (out-BlockTree b).ops)));
    }
unfolding block_changed
later_block_at bits new b =
    ap (block_changed bits new false) (block_plain_at b)
    ∙ ap (λ (os : Ops). record {
      label = (out-BlockTree b).label;
      args = new_arguments bits (new (out-BlockTree b).label) 0 (plain_values (out-BlockTree b).args);
      ops = casts_back bits (new (out-BlockTree b).label) 0 (plain_values (out-BlockTree b).args) os;
    }) (changed_ops bits new (map plain_op (out-BlockTree b).ops))

-- one block more, of those that are left last first
pub block_step : (bits : ℕ) (is_first : Bool) (t u : Numbering) (made after all : List PlainBlock) (left rest : List BlockTree) (y : BlockTree) (x : PlainBlock) → left ≡ rest ++ y ∷ [] → Extends t u
    → after ≡ made ++ x ∷ [] → Said u (λ n. x ≡ block_changed bits n is_first (plain_block y)) → Said t (λ n. made ++ blocks_changed bits n is_first (map plain_block (reverse left)) ≡ blocks_changed bits n true all)
    → Said u (λ n. after ++ blocks_changed bits n false (map plain_block (reverse rest)) ≡ blocks_changed bits n true all)
block_step bits is_first t u made after all left rest y x last extends put said was = λ v e.
    let n : ℕ → ℕ → ℕ = λ label k. (supply_of v).argument label k in
    ap (λ xs. xs ++ blocks_changed bits n false (map plain_block (reverse rest))) put
    ∙ append_assoc made (x ∷ []) (blocks_changed bits n false (map plain_block (reverse rest)))
    ∙ ap (λ z. made ++ z ∷ blocks_changed bits n false (map plain_block (reverse rest))) (said v e)
    ∙ ap (λ ys. made ++ blocks_changed bits n is_first (map plain_block ys)) (sym (ap reverse last ∙ reverse-append rest (y ∷ [])))
    ∙ was v (extends_on t u v extends e)

-- an operation without regions stays as it is

pub has_none_is : (o : OpTree) → has_none o ≡ (length (out-OpTree o).regions == 0)
unfolding has_none
has_none_is o = refl

none_if : (rs : List RegionTree) → (length rs == 0) ≡ true → rs ≡ []
none_if rs e = nil_from_length rs ((Decides-eqb (length rs) 0).0 e)

one_stays : (bits : ℕ) (new : ℕ → ℕ → ℕ) (o : OpTree) → has_none o ≡ true → op_blocks bits new (plain_op o) ≡ plain_op o
unfolding has_none
one_stays bits new o e =
    let none : (out-OpTree o).regions ≡ [] = none_if (out-OpTree o).regions e in
    let over : List Blocks → Op = λ rs. op_from (out-OpTree o).name (plain_entries (out-OpTree o).props) (plain_entries (out-OpTree o).attrs) (plain_values (out-OpTree o).results) (out-OpTree o).operands rs (out-OpTree o).successors in
    op_blocks_at bits new o ∙ ap (λ rs. over (map (region_changed bits new) (map plain_region rs))) none ∙ sym (ap (λ rs. over (map plain_region rs)) none) ∙ sym (op_plain_at o)

both_of : (a b : Bool) → (a && b) ≡ true → (a ≡ true) × (b ≡ true)
both_of true b e = (refl, e)
both_of false b e = absurd (true≢false (sym e))

pub all_stay : (bits : ℕ) (new : ℕ → ℕ → ℕ) (os : List OpTree) → list_all has_none os ≡ true → map plain_op os ≡ map (op_blocks bits new) (map plain_op os)
all_stay bits new [] e = refl
all_stay bits new (o ∷ os) e =
    let tests = both_of (has_none o) (list_all has_none os) e in
    ap (λ p. p ∷ map plain_op os) (sym (one_stays bits new o tests.0)) ∙ ap (λ ps. op_blocks bits new (plain_op o) ∷ ps) (all_stay bits new os tests.1)

-- by parts
pub later_parts : (bits : ℕ) (n : ℕ → ℕ → ℕ) (b : BlockTree) (p : PlainBlock) (args : Values) (casts ops all : List Op)
    → p ≡ record { label = (out-BlockTree b).label; args = args; ops = ops_in all } → all ≡ casts ++ ops → args ≡ new_arguments bits (n (out-BlockTree b).label) 0 (plain_values (out-BlockTree b).args)
    → ((more : Ops) → in_front casts more ≡ casts_back bits (n (out-BlockTree b).label) 0 (plain_values (out-BlockTree b).args) more) → ops ≡ map (op_blocks bits n) (map plain_op (out-BlockTree b).ops)
    → p ≡ block_changed bits n false (plain_block b)
later_parts bits n b p args casts ops all made join values front inner =
    made
    ∙ ap (λ (x : Values). record { label = (out-BlockTree b).label; args = x; ops = ops_in all }) values
    ∙ ap (λ (x : Ops). record { label = (out-BlockTree b).label; args = new_arguments bits (n (out-BlockTree b).label) 0 (plain_values (out-BlockTree b).args); ops = x })
    (ap ops_in join ∙ ops_front casts ops ∙ front (ops_in ops) ∙ ap (λ os. casts_back bits (n (out-BlockTree b).label) 0 (plain_values (out-BlockTree b).args) (ops_in os)) inner)
    ∙ sym (later_block_at bits n b)

pub ruleset layers = (common_steps, op_blocks_at, region_blocks_at, first_block_at, later_block_at, ops_front, extends_itself, has_none_is, all_stay)
