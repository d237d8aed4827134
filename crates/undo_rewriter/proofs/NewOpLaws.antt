-- Numbers in order, and the node of an operation that is new.
use Rattle.std.proofs.Common.{◌≡◌, ℕ, zero, suc, ◌≤◌, ◌+◌, List, [], ◌∷◌, ◌++◌, length, sym, ap, subst, ◌∙◌, arith}
use Rattle.std.proofs.lemmas.Grind.{common_steps}
use Rattle.std.proofs.lemmas.List.{length-append}
use Rattle.flat_model.specs.declared.nodes.OpNode.{OpNode}
use Rattle.flat_model.specs.Flat.{Flat, AllBelow, IsOpWithin}
use Rattle.flat_model.proofs.PushLaws.{below_more}
use Rattle.undo_rewriter.specs.declared.new_op.NewOp.{NewOp}
use Rattle.undo_rewriter.specs.NewOps.{numbers_from, node_of}

-- one number more
pub numbers_push : (start count : ℕ) → numbers_from start (suc count) ≡ numbers_from start count ++ (start + count) ∷ []
numbers_push start zero = let e : start ≡ start + 0 = omega arith in ap (λ n. n ∷ []) e
numbers_push start (suc count) = let e : suc start + count ≡ start + suc count = omega arith in
    ap (λ ns. start ∷ ns) (numbers_push (suc start) count) ∙ ap (λ n. (start ∷ numbers_from (suc start) count) ++ n ∷ []) e

pub numbers_next : (start index : ℕ) (list more : List ℕ) (number : ℕ) → list ≡ numbers_from start index → number ≡ start + index → more ≡ list ++ number ∷ [] → more ≡ numbers_from start (index + 1)
numbers_next start index list more number e d m = let k : suc index ≡ index + 1 = omega arith in
    m ∙ ap (λ ns. ns ++ number ∷ []) e ∙ ap (λ n. numbers_from start index ++ n ∷ []) d ∙ sym (numbers_push start index) ∙ ap (numbers_from start) k

pub ruleset number_laws = (common_steps, numbers_next)

numbers_below : (start count bound : ℕ) → start + count ≤ bound → AllBelow bound (numbers_from start count)
numbers_below start zero bound h k d l = absurd (omega arith)
numbers_below start (suc count) bound h zero d l = omega arith
numbers_below start (suc count) bound h (suc k) d l = numbers_below (suc start) count bound (omega arith) k d (omega arith)

none_below : (bound : ℕ) → AllBelow bound []
none_below bound k d l = absurd (omega arith)

pub node_is : (values : ℕ) (new : NewOp) (results regions : List ℕ) → results ≡ numbers_from values (length new.results.items) → regions ≡ []
    → let node : OpNode = record { name = new.name; results = results; operands = new.operands; props = new.props; attrs = new.attrs; regions = regions; successors = new.successors } in node ≡ node_of values new
node_is values new results regions e d =
    ap (λ rs. let node : OpNode = record { name = new.name; results = results; operands = new.operands; props = new.props; attrs = new.attrs; regions = rs; successors = new.successors } in node) d
    ∙ ap (λ rs. let node : OpNode = record { name = new.name; results = rs; operands = new.operands; props = new.props; attrs = new.attrs; regions = []; successors = new.successors } in node) e

-- what a new operation's node names is there
pub node_within : (f : Flat) (new : NewOp) (node : OpNode) (values : ℕ) → values ≡ length f.types → node ≡ node_of values new → AllBelow (length f.types) new.operands → AllBelow (length f.blocks) new.successors
    → IsOpWithin (length f.types + length new.results.items) (length f.blocks) (record f { types = f.types ++ new.results.items }) node
node_within f new node values v e o s = let g : Flat = record f { types = f.types ++ new.results.items } in let count = length f.types + length new.results.items in
    let t : length g.types ≡ count = length-append f.types new.results.items in
    subst (IsOpWithin count (length f.blocks) g) (sym e) (record {
      results = numbers_below values (length new.results.items) (length g.types) (omega arith);
      operands = below_more (length f.types) count (omega arith) new.operands o;
      regions = none_below (length f.regions);
      successors = s;
    })
