-- The test whether each number names something says just that.
use Rattle.std.proofs.Common.{◌≡◌, ℕ, zero, suc, ◌<◌, Bool, true, false, ◌&&◌, List, [], ◌∷◌, length, get_or, nat_lt, refl, sym, ◌∙◌, arith}
use Rattle.std.specs.List.{list_all}
use Rattle.std.proofs.lemmas.Grind.{common_steps}
use Rattle.std.proofs.lemmas.List.Folds.{list_all-append, list_all-map}
use Rattle.std.proofs.lemmas.Bool.{ltb-true, lt-ltb, and_from, true≢false}
use Rattle.flat_model.specs.declared.nodes.OpNode.{OpNode}
use Rattle.flat_model.specs.Flat.{BlockNode, Flat, no_op, no_block, AllBelow, IsOpWithin, IsBlockWithin, IsClosed}
use Rattle.ir_arena.specs.Closing.{are_below, is_op_within, is_block_within, is_closed}

pub ruleset closing_laws = (common_steps, list_all-append, list_all-map)

both : (a b : Bool) → (a && b) ≡ true → (a ≡ true) × (b ≡ true)
both true true e = (refl, refl)
both true false e = absurd (true≢false (sym e))
both false b e = absurd (true≢false (sym e))

-- what holds of each item that passes a test, where all do
of_each : {X : Type 0} (test : X → Bool) (P : X → Type 0) → ((x : X) → test x ≡ true → P x) → (xs : List X) → list_all test xs ≡ true → (i : ℕ) (d : X) → i < length xs → P (get_or xs i d)
of_each test P f [] e i d h = absurd (omega arith)
of_each test P f (x ∷ xs) e zero d h = f x (both (test x) (list_all test xs) e).0
of_each test P f (x ∷ xs) e (suc i) d h = of_each test P f xs (both (test x) (list_all test xs) e).1 i d (omega arith)

-- each item passes a test, where what it tests holds of each
each_passes : {X : Type 0} (test : X → Bool) (P : X → Type 0) → ((x : X) → P x → test x ≡ true) → (xs : List X) (d : X) → ((i : ℕ) → i < length xs → P (get_or xs i d)) → list_all test xs ≡ true
each_passes test P f [] d a = refl
each_passes test P f (x ∷ xs) d a = and_from (test x) (list_all test xs) (f x (a zero (omega arith))) (each_passes test P f xs d (λ i h. a (suc i) (omega arith)))

below_from : (m : ℕ) (xs : List ℕ) → are_below m xs ≡ true → AllBelow m xs
below_from m xs e = of_each (λ n. nat_lt n m) (λ n. n < m) (λ n t. ltb-true n m t) xs e

below_passes : (m : ℕ) (xs : List ℕ) → AllBelow m xs → are_below m xs ≡ true
below_passes m xs a = each_passes (λ n. nat_lt n m) (λ n. n < m) (λ n t. lt-ltb n m t) xs 0 (λ i h. a i 0 h)

op_from : (f : Flat) (node : OpNode) → is_op_within f node ≡ true → IsOpWithin (length f.types) (length f.blocks) f node
op_from f node e = let r = are_below (length f.types) node.results in let o = are_below (length f.types) node.operands in let g = are_below (length f.regions) node.regions in
    let s = are_below (length f.blocks) node.successors in let a = both (r && o && g) s e in let b = both (r && o) g a.0 in let c = both r o b.0 in record {
      results = below_from (length f.types) node.results c.0;
      operands = below_from (length f.types) node.operands c.1;
      regions = below_from (length f.regions) node.regions b.1;
      successors = below_from (length f.blocks) node.successors a.1;
    }

op_passes : (f : Flat) (node : OpNode) → IsOpWithin (length f.types) (length f.blocks) f node → is_op_within f node ≡ true
op_passes f node w = let r = are_below (length f.types) node.results in let o = are_below (length f.types) node.operands in let g = are_below (length f.regions) node.regions in
    and_from (r && o && g) (are_below (length f.blocks) node.successors)
    (and_from (r && o) g (and_from r o (below_passes (length f.types) node.results w.results) (below_passes (length f.types) node.operands w.operands))
    (below_passes (length f.regions) node.regions w.regions))
    (below_passes (length f.blocks) node.successors w.successors)

block_from : (f : Flat) (node : BlockNode) → is_block_within f node ≡ true → IsBlockWithin f node
block_from f node e = let a = both (are_below (length f.types) node.args) (are_below (length f.ops) node.ops) e in
    record { args = below_from (length f.types) node.args a.0; ops = below_from (length f.ops) node.ops a.1 }

block_passes : (f : Flat) (node : BlockNode) → IsBlockWithin f node → is_block_within f node ≡ true
block_passes f node w = and_from (are_below (length f.types) node.args) (are_below (length f.ops) node.ops) (below_passes (length f.types) node.args w.args) (below_passes (length f.ops) node.ops w.ops)

pub closed_from : (f : Flat) → is_closed f ≡ true → IsClosed f
closed_from f e = let o = list_all (is_op_within f) f.ops in let b = list_all (is_block_within f) f.blocks in let r = list_all (are_below (length f.blocks)) f.regions in
    let x = both (o && b && r) (nat_lt f.root (length f.ops)) e in let y = both (o && b) r x.0 in let z = both o b y.0 in record {
      within = record {
        op = λ i h. of_each (is_op_within f) (IsOpWithin (length f.types) (length f.blocks) f) (op_from f) f.ops z.0 i no_op h;
        block = λ i h. of_each (is_block_within f) (IsBlockWithin f) (block_from f) f.blocks z.1 i no_block h;
        region = λ i h. of_each (are_below (length f.blocks)) (AllBelow (length f.blocks)) (below_from (length f.blocks)) f.regions y.1 i [] h;
      };
      root = ltb-true f.root (length f.ops) x.1;
    }

closed_passes : (f : Flat) → IsClosed f → is_closed f ≡ true
closed_passes f c = let o = list_all (is_op_within f) f.ops in let b = list_all (is_block_within f) f.blocks in let r = list_all (are_below (length f.blocks)) f.regions in
    and_from (o && b && r) (nat_lt f.root (length f.ops)) (and_from (o && b) r (and_from o b
    (each_passes (is_op_within f) (IsOpWithin (length f.types) (length f.blocks) f) (op_passes f) f.ops no_op c.within.op)
    (each_passes (is_block_within f) (IsBlockWithin f) (block_passes f) f.blocks no_block c.within.block))
    (each_passes (are_below (length f.blocks)) (AllBelow (length f.blocks)) (below_passes (length f.blocks)) f.regions [] c.within.region))
    (lt-ltb f.root (length f.ops) c.root)

pub not_closed : (f : Flat) → is_closed f ≡ false → IsClosed f → ⊥
not_closed f e c = true≢false (sym (closed_passes f c) ∙ e)
