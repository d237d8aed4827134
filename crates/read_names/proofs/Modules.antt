-- The operations of the module that is read have names of the text.
use Rattle.std.proofs.Common.{◌≡◌, ℕ, ◌&&◌, Bool, true, false, List, [], ◌∷◌, map, refl, sym, ap, ◌∙◌}
use Rattle.std.specs.Prelude.{if◌then◌else◌}
use Rattle.std.specs.List.{list_all}
use Rattle.mlir_lex.proofs.Lengths.{and-both, and-left, and-right}
use Rattle.tree_model.specs.declared.op_tree.OpTree.{OpTree, out-OpTree, roll-out-OpTree}
use Rattle.tree_model.specs.declared.op_tree.BlockTree.{BlockTree, out-BlockTree, roll-out-BlockTree}
use Rattle.tree_model.specs.declared.op_tree.RegionTree.{RegionTree, out-RegionTree, roll-out-RegionTree}
use Rattle.plain_tree.specs.Ops.{blocks_in, ops_in, plain_func, plain_module, plain_op, regions_in}
use Rattle.plain_tree.proofs.OpOpens.{block-roll, plain-roll, plain_block, plain_region, region-roll}
use Rattle.event_trees.specs.Levels.{Levels, levels_of, ops_of}
use Rattle.event_trees.specs.Modules.{around, as_module, body_of, first_ops, funcs_of, is_module, module_of}
use Rattle.event_trees.specs.Roles.{roles_at, roles_of, terms_at}
use Rattle.term_table.specs.Terms.{Term}
use Rattle.text_events.specs.declared.event.Event.{Event}
use Rattle.read_names.specs.Passing.{blocks_pass, op_passes, ops_pass, regions_pass}
use Rattle.read_names.specs.Laws.{NamesAreKept, OfNames}
use Rattle.read_names.proofs.Trees.{AllFine, OfRoles, levels_fine}

module _ (test : List ℕ → Bool) where
  abbrev fine : OpTree → Bool
  fine o = op_passes test (plain_op o)

  funcs_fine : (os : List OpTree) → list_all fine os ≡ true → list_all (op_passes test) (map plain_func (funcs_of os)) ≡ true
  funcs_fine [] h = refl
  funcs_fine (o ∷ os) h = and-both _ _ (and-left _ _ h) (funcs_fine os (and-right (fine o) _ h))

  all_of : (os : List OpTree) → ops_pass test (ops_in (map plain_op os)) ≡ true → list_all fine os ≡ true
  all_of [] h = refl
  all_of (o ∷ os) h = and-both _ _ (and-left _ _ h) (all_of os (and-right (fine o) _ h))

  block_ops : (b : BlockTree) → ops_pass test (plain_block b).ops ≡ true → list_all fine (out-BlockTree b).ops ≡ true
  block_ops b h = all_of (out-BlockTree b).ops (sym (ap (λ x. ops_pass test x.ops) (ap plain_block (sym (roll-out-BlockTree b)) ∙ block-roll (out-BlockTree b))) ∙ h)

  first_all : (bs : List BlockTree) → blocks_pass test (blocks_in (map plain_block bs)) ≡ true → list_all fine (first_ops bs) ≡ true
  first_all [] h = refl
  first_all (b ∷ bs) h = block_ops b (and-left _ _ h)

  body_all : (rs : List RegionTree) → regions_pass test (regions_in (map plain_region rs)) ≡ true → list_all fine (body_of rs) ≡ true
  body_all [] h = refl
  body_all (r ∷ rs) h = first_all (out-RegionTree r).blocks (sym (ap (blocks_pass test) (ap plain_region (sym (roll-out-RegionTree r)) ∙ region-roll (out-RegionTree r))) ∙ and-left _ _ h)

  around_passes : (os : List OpTree) → list_all fine os ≡ true → list_all (op_passes test) (plain_module (around os)).funcs ≡ true
  around_passes os h = funcs_fine os h

  itself_passes : (o : OpTree) → fine o ≡ true → list_all (op_passes test) (plain_module (as_module o)).funcs ≡ true
  itself_passes o h =
      let opened : (test (out-OpTree o).name && regions_pass test (regions_in (map plain_region (out-OpTree o).regions))) ≡ true = sym (ap (op_passes test) (ap plain_op (sym (roll-out-OpTree o)) ∙ plain-roll (out-OpTree o))) ∙ h in
      funcs_fine (body_of (out-OpTree o).regions) (body_all (out-OpTree o).regions (and-right (test (out-OpTree o).name) _ opened))

  module_passes : (os : List OpTree) → list_all fine os ≡ true → list_all (op_passes test) (plain_module (module_of os)).funcs ≡ true
  module_passes [] h = refl
  module_passes (o ∷ []) h = by_test (is_module o)
    where
      by_test : (b : Bool) → list_all (op_passes test) (plain_module (if b then as_module o else around (o ∷ []))).funcs ≡ true
      by_test true = itself_passes o (and-left _ _ h)
      by_test false = around_passes (o ∷ []) h
  module_passes (o ∷ p ∷ os) h = around_passes (o ∷ p ∷ os) h

  ops_all : (ls : Levels) → AllFine test ls → list_all fine (ops_of ls) ≡ true
  ops_all [] f = refl
  ops_all (l ∷ ls) f = f.0.ops

roles_named : (Q : ℕ → Type 0) (es : List Event) (ns : List ℕ) (ts : List Term) → OfNames Q es → OfRoles Q (roles_of es ns ts)
roles_named Q [] ns ts h = tt
roles_named Q (e ∷ es) [] ts h = tt
roles_named Q (e ∷ es) (n ∷ ns) [] h = tt
roles_named Q (e ∷ es) (n ∷ ns) (t ∷ ts) h = (h.0, roles_named Q es ns ts h.1)

pub names_are_kept : NamesAreKept
names_are_kept words wording class es test h =
    module_passes test (ops_of (levels_of wording (roles_at words wording class es)))
    (ops_all test (levels_of wording (roles_at words wording class es))
    (levels_fine test wording (roles_at words wording class es) (roles_named (λ name. test (wording.spelled name) ≡ true) es _ (terms_at words es) h)))
