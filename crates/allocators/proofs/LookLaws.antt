-- What calls name, and the names of functions, by their trees.
use Rattle.std.proofs.Common.{◌≡◌, ℕ, Bool, List, [], ◌∷◌, map, refl, ap}
use Rattle.std.specs.Prelude.{◌&&◌, ◌||◌, codes}
use Rattle.std.specs.List.{list_any}
use Rattle.std.specs.Str.{bytes_eq}
use Rattle.tree_model.specs.declared.op_tree.OpTree.{OpTree, out-OpTree, fold_out-OpTree}
use Rattle.tree_model.specs.declared.op_tree.RegionTree.{RegionTree}
use Rattle.tree_model.specs.declared.op_tree.BlockTree.TheFolds.{fold-RegionTree}
use Rattle.plain_tree.specs.Attrs.{entry, plain_entries}
use Rattle.plain_tree.specs.Ops.{Op, op, Blocks, PlainBlock, block_at, op_at, region_at, regions_in, plain_op, plain_values}
use Rattle.pattern_model.specs.ModuleStep.{calls, is_symbol, is_text}
use Rattle.allocators.specs.Looks.{is_named}

abbrev plain_region : RegionTree → Blocks
plain_region = fold-RegionTree PlainBlock Op Blocks block_at op_at region_at

layer : (o : OpTree) → plain_op o
    ≡ op (record { name = (out-OpTree o).name; props = plain_entries (out-OpTree o).props; attrs = plain_entries (out-OpTree o).attrs }) (plain_values (out-OpTree o).results) (out-OpTree o).operands (regions_in (map plain_region (out-OpTree o).regions)) (out-OpTree o).successors
unfolding plain_op
layer o = fold_out-OpTree PlainBlock Op Blocks block_at op_at region_at o

pub calls_at : (name : List ℕ) (o : OpTree) → calls name (plain_op o) ≡ (bytes_eq (out-OpTree o).name (codes "llvm.call") && is_symbol name (entry (codes "callee") (plain_entries (out-OpTree o).props)))
calls_at name o = ap (calls name) (layer o)

pub named_at : (name : List ℕ) (o : OpTree) → is_named name (plain_op o) ≡ is_text name (entry (codes "sym_name") (plain_entries (out-OpTree o).props))
named_at name o = ap (is_named name) (layer o)

pub any_second : (p : Op → Bool) (xs : List (ℕ × Op)) → list_any p (map (λ (x : ℕ × Op). x.1) xs) ≡ list_any (λ (x : ℕ × Op). p x.1) xs
any_second p [] = refl
any_second p (x ∷ xs) = ap (λ b. p x.1 || b) (any_second p xs)

pub ruleset looks = (calls_at, named_at, any_second)
