-- The module that is read has formed types and numbers that fit.
use Rattle.std.proofs.Common.{◌≡◌, ℕ, ◌&&◌, Bool, true, false, List, [], ◌∷◌, map, refl, sym, ap, ◌∙◌, subst}
use Rattle.std.specs.Prelude.{if◌then◌else◌}
use Rattle.std.specs.List.{list_all}
use Rattle.mlir_lex.proofs.Lengths.{and-both, and-left, and-right}
use Rattle.tree_model.specs.declared.op_tree.OpTree.{OpTree, out-OpTree, roll-out-OpTree}
use Rattle.tree_model.specs.declared.op_tree.BlockTree.{BlockTree, out-BlockTree, roll-out-BlockTree}
use Rattle.tree_model.specs.declared.op_tree.RegionTree.{RegionTree, out-RegionTree, roll-out-RegionTree}
use Rattle.plain_tree.specs.Attrs.{plain_entries}
use Rattle.plain_tree.specs.Ops.{blocks_in, ops_in, plain_func, plain_module, plain_op, plain_values, regions_in}
use Rattle.plain_tree.proofs.OpOpens.{block-roll, plain-roll, plain_block, plain_region, region-roll}
use Rattle.rule_model.specs.Formed.{are_formed_values}
use Rattle.event_trees.specs.Wording.{Wording}
use Rattle.event_trees.specs.Levels.{Levels, levels_of, ops_of}
use Rattle.event_trees.specs.Modules.{around, as_module, body_of, denoted, first_ops, funcs_of, is_module, module_of}
use Rattle.event_trees.specs.Roles.{roles_at, roles_of}
use Rattle.text_events.specs.declared.event.Event.{Event}
use Rattle.text_scopes.specs.declared.bodies.Class.{Class}
use Rattle.text_types.specs.Spelling.{Spelling}
use Rattle.text_types.specs.Aliases.{aliases_of}
use Rattle.text_types.specs.Items.{Aliases, begins, begun}
use Rattle.text_types.specs.Marks.{arrow_next, closed, first_or_false, marked}
use Rattle.read_terms.specs.Standing.{blocks_stand, op_stands, ops_stand, regions_stand}
use Rattle.read_terms.specs.Fitting.{is_fit_here, is_fit_module}
use Rattle.read_terms.proofs.Terms.{fine}
use Rattle.read_terms.proofs.Steps.{EnvFine}
use Rattle.read_terms.proofs.Readings.{TermsTold, same_telling}
use Rattle.read_terms.proofs.Trees.{AllFine, RolesFine, levels_fine, op_fine}

funcs_fine : (os : List OpTree) → list_all op_fine os ≡ true → list_all (op_stands is_fit_here are_formed_values) (map plain_func (funcs_of os)) ≡ true
funcs_fine [] h = refl
funcs_fine (o ∷ os) h = and-both _ _ (and-left _ _ h) (funcs_fine os (and-right (op_fine o) _ h))

all_of : (os : List OpTree) → ops_stand is_fit_here are_formed_values (ops_in (map plain_op os)) ≡ true → list_all op_fine os ≡ true
all_of [] h = refl
all_of (o ∷ os) h = and-both _ _ (and-left _ _ h) (all_of os (and-right (op_fine o) _ h))

block_ops : (b : BlockTree) → ops_stand is_fit_here are_formed_values (plain_block b).ops ≡ true → list_all op_fine (out-BlockTree b).ops ≡ true
block_ops b h = all_of (out-BlockTree b).ops (sym (ap (λ x. ops_stand is_fit_here are_formed_values x.ops) (ap plain_block (sym (roll-out-BlockTree b)) ∙ block-roll (out-BlockTree b))) ∙ h)

first_all : (bs : List BlockTree) → blocks_stand is_fit_here are_formed_values (blocks_in (map plain_block bs)) ≡ true → list_all op_fine (first_ops bs) ≡ true
first_all [] h = refl
first_all (b ∷ bs) h = block_ops b (and-left _ _ (and-right (are_formed_values (plain_block b).args) _ h))

body_all : (rs : List RegionTree) → regions_stand is_fit_here are_formed_values (regions_in (map plain_region rs)) ≡ true → list_all op_fine (body_of rs) ≡ true
body_all [] h = refl
body_all (r ∷ rs) h = first_all (out-RegionTree r).blocks (sym (ap (blocks_stand is_fit_here are_formed_values) (ap plain_region (sym (roll-out-RegionTree r)) ∙ region-roll (out-RegionTree r))) ∙ and-left _ _ h)

around_fits : (os : List OpTree) → list_all op_fine os ≡ true → is_fit_module (plain_module (around os)) ≡ true
around_fits os h = funcs_fine os h

itself_fits : (o : OpTree) → op_fine o ≡ true → is_fit_module (plain_module (as_module o)) ≡ true
itself_fits o h =
    let opened : (is_fit_here (record { name = (out-OpTree o).name; props = plain_entries (out-OpTree o).props; attrs = plain_entries (out-OpTree o).attrs }) (plain_values (out-OpTree o).results)
    && regions_stand is_fit_here are_formed_values (regions_in (map plain_region (out-OpTree o).regions))) ≡ true =
    sym (ap (op_stands is_fit_here are_formed_values) (ap plain_op (sym (roll-out-OpTree o)) ∙ plain-roll (out-OpTree o))) ∙ h in
    and-both _ _ (and-right (are_formed_values (plain_values (out-OpTree o).results)) _ (and-left _ _ opened))
    (funcs_fine (body_of (out-OpTree o).regions) (body_all (out-OpTree o).regions
    (and-right (is_fit_here (record { name = (out-OpTree o).name; props = plain_entries (out-OpTree o).props; attrs = plain_entries (out-OpTree o).attrs }) (plain_values (out-OpTree o).results)) _ opened)))

module_fits : (os : List OpTree) → list_all op_fine os ≡ true → is_fit_module (plain_module (module_of os)) ≡ true
module_fits [] h = refl
module_fits (o ∷ []) h = by_test (is_module o)
  where
    by_test : (b : Bool) → is_fit_module (plain_module (if b then as_module o else around (o ∷ []))) ≡ true
    by_test true = itself_fits o (and-left _ _ h)
    by_test false = around_fits (o ∷ []) h
module_fits (o ∷ p ∷ os) h = around_fits (o ∷ p ∷ os) h

ops_all : (words : Wording) (ls : Levels) → AllFine words ls → list_all op_fine (ops_of ls) ≡ true
ops_all words [] f = refl
ops_all words (l ∷ ls) f = f.0.ops

-- the roles of events
roles_fine : (words : Spelling) (wording : Wording) (final : Aliases) (es : List Event) (ns : List ℕ) → words.number ≡ wording.number → EnvFine words final → TermsTold words final (marked es)
    → RolesFine wording (roles_of es ns (begun words final (marked es)))
roles_fine words wording final [] ns same env t = tt
roles_fine words wording final (e ∷ es) [] same env t = tt
roles_fine words wording final (e ∷ es) (n ∷ ns) same env t =
    (λ h. subst (λ (f : ℕ → ℕ). fine f (begins words final (marked (e ∷ es))) ≡ true) same (t.0 (same_telling e.place (arrow_next es) (first_or_false (closed es)) ∙ h) env), roles_fine words wording final es ns same env t.1)

pub events_fit : (words : Spelling) (wording : Wording) (class : ℕ → Class) (es : List Event) → words.number ≡ wording.number → EnvFine words (aliases_of words (marked es)) → TermsTold words (aliases_of words (marked es)) (marked es)
    → is_fit_module (plain_module (denoted words wording class es)) ≡ true
events_fit words wording class es same env t =
    module_fits (ops_of (levels_of wording (roles_at words wording class es)))
    (ops_all wording (levels_of wording (roles_at words wording class es)) (levels_fine wording (roles_at words wording class es) (roles_fine words wording (aliases_of words (marked es)) es _ same env t)))
