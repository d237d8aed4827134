-- Nodes of a function that is closed.
use Rattle.std.proofs.Common.{◌≡◌, ℕ, ◌<◌, List, length, get_or, sym, subst}
use Rattle.std.proofs.lemmas.Grind.{common_steps}
use Rattle.flat_model.specs.Flat.{AllBelow, IsClosed, op_at, block_at, blocks_at}
use Rattle.ir_arena.specs.Arena.{Arena}

pub ruleset reader_laws = common_steps

pub operands_known : (a : Arena) (i : ℕ) (xs : List ℕ) → IsClosed a.flat → i < length a.flat.ops → xs ≡ (op_at a.flat i).operands → AllBelow (length a.flat.types) xs
operands_known a i xs c h e = subst (AllBelow (length a.flat.types)) (sym e) (c.within.op i h).operands

pub results_known : (a : Arena) (i : ℕ) (xs : List ℕ) → IsClosed a.flat → i < length a.flat.ops → xs ≡ (op_at a.flat i).results → AllBelow (length a.flat.types) xs
results_known a i xs c h e = subst (AllBelow (length a.flat.types)) (sym e) (c.within.op i h).results

pub regions_known : (a : Arena) (i : ℕ) (xs : List ℕ) → IsClosed a.flat → i < length a.flat.ops → xs ≡ (op_at a.flat i).regions → AllBelow (length a.flat.regions) xs
regions_known a i xs c h e = subst (AllBelow (length a.flat.regions)) (sym e) (c.within.op i h).regions

pub successors_known : (a : Arena) (i : ℕ) (xs : List ℕ) → IsClosed a.flat → i < length a.flat.ops → xs ≡ (op_at a.flat i).successors → AllBelow (length a.flat.blocks) xs
successors_known a i xs c h e = subst (AllBelow (length a.flat.blocks)) (sym e) (c.within.op i h).successors

pub args_known : (a : Arena) (i : ℕ) (xs : List ℕ) → IsClosed a.flat → i < length a.flat.blocks → xs ≡ (block_at a.flat i).args → AllBelow (length a.flat.types) xs
args_known a i xs c h e = subst (AllBelow (length a.flat.types)) (sym e) (c.within.block i h).args

pub blocks_known : (a : Arena) (i : ℕ) (xs : List ℕ) → IsClosed a.flat → i < length a.flat.regions → xs ≡ blocks_at a.flat i → AllBelow (length a.flat.blocks) xs
blocks_known a i xs c h e = subst (AllBelow (length a.flat.blocks)) (sym e) (c.within.region i h)

pub op_known : (a : Arena) (i k x : ℕ) → IsClosed a.flat → i < length a.flat.blocks → k < length (block_at a.flat i).ops → x ≡ get_or (block_at a.flat i).ops k 0 → x < length a.flat.ops
op_known a i k x c h l e = subst (λ y. y < length a.flat.ops) (sym e) ((c.within.block i h).ops k 0 l)
