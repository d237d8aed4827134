-- The module that is read is in bytes.
use Rattle.std.proofs.Common.{◌≡◌, ◌&&◌, Bool, true, false, List, [], ◌∷◌, map, refl, sym, ap, ◌∙◌}
use Rattle.std.specs.Prelude.{if◌then◌else◌}
use Rattle.std.specs.List.{list_all}
use Rattle.mlir_lex.proofs.Lengths.{and-both, and-left, and-right}
use Rattle.tree_model.specs.declared.op_tree.OpTree.{OpTree, out-OpTree, roll-out-OpTree}
use Rattle.tree_model.specs.declared.op_tree.BlockTree.{BlockTree, out-BlockTree, roll-out-BlockTree}
use Rattle.tree_model.specs.declared.op_tree.RegionTree.{RegionTree, out-RegionTree, roll-out-RegionTree}
use Rattle.plain_tree.specs.Attrs.{plain_entries}
use Rattle.plain_tree.specs.Ops.{blocks_in, ops_in, plain_func, plain_module, plain_op, regions_in}
use Rattle.plain_tree.proofs.OpOpens.{block-roll, plain-roll, plain_block, plain_region, region-roll}
use Rattle.printed_attrs.specs.Readable.{are_bytes}
use Rattle.event_trees.specs.Levels.{Levels, levels_of, ops_of}
use Rattle.event_trees.specs.Modules.{around, as_module, body_of, first_ops, funcs_of, is_module, module_of}
use Rattle.event_trees.specs.Roles.{roles_at}
use Rattle.spelled_reading.specs.Bytes.{are_ops_in_bytes, are_blocks_in_bytes, are_regions_in_bytes, is_op_in_bytes, is_kind_in_bytes}
use Rattle.spelled_reading.specs.Bytes.{is_module_in_bytes}
use Rattle.spelled_reading.specs.Bytes.{ReadIsInBytes}
use Rattle.spelled_reading.proofs.Trees.{AllFine, levels_fine, op_fine}

funcs_fine : (os : List OpTree) → list_all op_fine os ≡ true → list_all is_op_in_bytes (map plain_func (funcs_of os)) ≡ true
funcs_fine [] h = refl
funcs_fine (o ∷ os) h = and-both _ _ (and-left _ _ h) (funcs_fine os (and-right (op_fine o) _ h))

all_of : (os : List OpTree) → are_ops_in_bytes (ops_in (map plain_op os)) ≡ true → list_all op_fine os ≡ true
all_of [] h = refl
all_of (o ∷ os) h = and-both _ _ (and-left _ _ h) (all_of os (and-right (op_fine o) _ h))

block_ops : (b : BlockTree) → are_ops_in_bytes (plain_block b).ops ≡ true → list_all op_fine (out-BlockTree b).ops ≡ true
block_ops b h = all_of (out-BlockTree b).ops (sym (ap (λ x. are_ops_in_bytes x.ops) (ap plain_block (sym (roll-out-BlockTree b)) ∙ block-roll (out-BlockTree b))) ∙ h)

first_all : (bs : List BlockTree) → are_blocks_in_bytes (blocks_in (map plain_block bs)) ≡ true → list_all op_fine (first_ops bs) ≡ true
first_all [] h = refl
first_all (b ∷ bs) h = block_ops b (and-left _ _ h)

body_all : (rs : List RegionTree) → are_regions_in_bytes (regions_in (map plain_region rs)) ≡ true → list_all op_fine (body_of rs) ≡ true
body_all [] h = refl
body_all (r ∷ rs) h = first_all (out-RegionTree r).blocks (sym (ap are_blocks_in_bytes (ap plain_region (sym (roll-out-RegionTree r)) ∙ region-roll (out-RegionTree r))) ∙ and-left _ _ h)

around_bytes : (os : List OpTree) → list_all op_fine os ≡ true → is_module_in_bytes (plain_module (around os)) ≡ true
around_bytes os h = funcs_fine os h

itself_bytes : (o : OpTree) → op_fine o ≡ true → is_module o ≡ true → is_module_in_bytes (plain_module (as_module o)) ≡ true
itself_bytes o h m =
    let opened : (is_kind_in_bytes (record { name = (out-OpTree o).name; props = plain_entries (out-OpTree o).props; attrs = plain_entries (out-OpTree o).attrs }) && are_regions_in_bytes (regions_in (map plain_region (out-OpTree o).regions))) ≡ true =
    sym (ap is_op_in_bytes (ap plain_op (sym (roll-out-OpTree o)) ∙ plain-roll (out-OpTree o))) ∙ h in
    and-both _ _ (and-right (are_bytes (out-OpTree o).name) _ (and-left _ _ opened))
    (funcs_fine (body_of (out-OpTree o).regions) (body_all (out-OpTree o).regions (and-right (is_kind_in_bytes (record { name = (out-OpTree o).name; props = plain_entries (out-OpTree o).props; attrs = plain_entries (out-OpTree o).attrs })) _ opened)))

module_bytes : (os : List OpTree) → list_all op_fine os ≡ true → is_module_in_bytes (plain_module (module_of os)) ≡ true
module_bytes [] h = refl
module_bytes (o ∷ []) h = by_test (is_module o) refl
  where
    by_test : (b : Bool) → is_module o ≡ b → is_module_in_bytes (plain_module (if b then as_module o else around (o ∷ []))) ≡ true
    by_test true is = itself_bytes o (and-left _ _ h) is
    by_test false is = around_bytes (o ∷ []) h
module_bytes (o ∷ p ∷ os) h = around_bytes (o ∷ p ∷ os) h

ops_all : (ls : Levels) → AllFine ls → list_all op_fine (ops_of ls) ≡ true
ops_all [] f = refl
ops_all (l ∷ ls) f = f.0.ops

pub read_is_in_bytes : ReadIsInBytes
read_is_in_bytes words wording class es spell = module_bytes (ops_of (levels_of wording (roles_at words wording class es))) (ops_all (levels_of wording (roles_at words wording class es)) (levels_fine wording spell (roles_at words wording class es)))
