-- The operations of a file: functions, or a module alone.
use Rattle.std.proofs.Common.{◌≡◌, ◌⊎◌, inl, inr, ℕ, ◌==◌, Bool, true, false, List, [], ◌∷◌, map, refl, sym, ap, ◌∙◌, subst}
use Rattle.std.specs.Prelude.{codes, if◌then◌else◌}
use Rattle.std.specs.Str.{bytes_eq}
use Rattle.std.specs.List.{list_all}
use Rattle.mlir_lex.proofs.Lengths.{and-both, and-left, and-right}
use Rattle.text_grammar.specs.declared.places.Place.{Place}
use Rattle.text_grammar.specs.declared.places.Place.TheVariants as places
use Rattle.tree_model.specs.declared.op_tree.OpTree.{OpTree, out-OpTree, out-roll-OpTree}
use Rattle.plain_tree.specs.Ops.{plain_func, plain_module}
use Rattle.text_scopes.specs.declared.bodies.Class.{Class}
use Rattle.text_scopes.specs.Bodies as bodies
use Rattle.event_trees.specs.Wording.{Wording}
use Rattle.event_trees.specs.Levels.{Levels, op_named}
use Rattle.event_trees.specs.Modules.{around, as_module, body_of, funcs_of, is_module, module_of}
use Rattle.read_states.specs.Numbering.{is_numbered, none_counted}
use Rattle.text_forms.specs.Forms.{IsBody, IsFile, IsNames, file_alias, file_op, no_file}
use Rattle.read_states.specs.States.{State}
use Rattle.read_states.specs.Levels.{first, ops_in, regions_in}
use Rattle.read_states.proofs.Words.{alias_plain, alike_join, levels, op_levels, plain_alike}
use Rattle.read_states.proofs.Parts.{T, loc_alike, names_alike, still_alike}
use Rattle.read_states.proofs.Forms.{body_typed}
use Rattle.read_states.proofs.Counting.{op_body, outside_at}
use Rattle.read_numbers.proofs.Fitting.{is_fit}
use Rattle.text_forms.proofs.Carried.{body_carried, loc_carried, names_carried, still_carried}
use Rattle.read_states.proofs.Stages.{Before, alias_before, file_after, loc_before, module_after, module_named, names_before, still_before}
use Rattle.read_numbers.proofs.Functions.{Begun, Listed, Ready, begun_moved, function_behind, function_listed, listed_alike, module_body, not_a_module, ready_alike}

-- an operation alone, which is a module with such functions
pub record OneModule (os : List OpTree) : Type 0 where
  pub it : OpTree
  pub is : os ≡ it ∷ []
  pub module_is : is_module it ≡ true
  pub fits : list_all is_fit (body_of (out-OpTree it).regions) ≡ true

abbrev pub FileFits : List OpTree → Type 0
FileFits os = (list_all is_fit os ≡ true) ⊎ OneModule os

module _ (words : Wording) (class : ℕ → Class) (numbers : List ℕ) where
  abbrev Takes : Place → State → State → Type 0
  Takes p x y = T words class numbers p x y

  abbrev k : State → Levels
  k x = levels words class numbers x

  abbrev here : State → Type 0
  here x = Begun words class numbers x

  moved_on : (p : Place) (x y : State) → Takes p x y → here x → here y
  moved_on = begun_moved words class numbers

  -- behind the first operation
  file_listed : {x y : State} → IsFile Takes x y → Ready words class numbers x → here x → Listed words class numbers y → Listed words class numbers x
  file_listed (no_file x) r b l = l
  file_listed (file_op names m rest more) r b l =
      let h = not_a_module words class numbers names m r b in
      function_listed words class numbers names m rest h r
      (file_listed more (function_behind words class numbers names m rest h r) (body_carried Takes here moved_on rest (moved_on _ _ _ m (names_carried Takes here moved_on names b))) l)
  file_listed (file_alias p h m s o more) r b l =
      let a = alike_join words class numbers (plain_alike words class numbers (alias_plain p h) m) (alike_join words class numbers (still_alike words class numbers s) (loc_alike words class numbers o)) in
      listed_alike words class numbers a (file_listed more (ready_alike words class numbers a r) (loc_carried Takes here moved_on o (still_carried Takes here moved_on s (moved_on _ _ _ m b))) l)

  one_module : {x a b c y : State} → IsNames Takes x a → (m : Takes places.OpName a b) → IsBody Takes b c → IsFile Takes c y → bodies.is_module (class m.name) ≡ true → Ready words class numbers x → Before x.shape
      → ops_in (k y) ≡ [] → regions_in (k y) ≡ [] → OneModule (ops_in (k x))
  one_module {x} {a} {b} {c} names m rest more h r before none clean =
      let alone = file_after words class numbers more (module_after words class numbers rest (module_named words class numbers m h (names_before words class numbers names before))) in
      let there : b.counts.body ≡ outside_at true =
      op_body words class numbers m ∙ ap (λ n. if n == 0 then outside_at (bodies.is_module (class m.name)) else a.counts.body) (ready_alike words class numbers (names_alike words class numbers names) r).within ∙ ap outside_at h in
      record {
        it = op_named words m.name a.counts.values (first (k b)).parts;
        is = (names_alike words class numbers names).same.ops ∙ ap ops_in (op_levels words class numbers m)
            ∙ ap (λ os. op_named words m.name a.counts.values (first (k b)).parts ∷ os) ((body_typed words class numbers rest).ops_is ∙ alone.same.ops ∙ none);
        module_is = ap (λ o. bytes_eq o.name (codes "builtin.module")) (out-roll-OpTree _) ∙ sym (m.told refl) ∙ h;
        fits = ap (λ o. list_all is_fit (body_of o.regions)) (out-roll-OpTree _) ∙ module_body words class numbers rest there m.begun_so (alone.same.regions ∙ clean);
      }

  pub file_fits : {x y : State} → IsFile Takes x y → Ready words class numbers x → Before x.shape → Listed words class numbers y → ops_in (k y) ≡ [] → FileFits (ops_in (k x))
  file_fits (no_file x) r before l none = inl (ap (list_all is_fit) none)
  file_fits (file_alias p h m s o more) r before l none =
      let a = alike_join words class numbers (plain_alike words class numbers (alias_plain p h) m) (alike_join words class numbers (still_alike words class numbers s) (loc_alike words class numbers o)) in
      subst FileFits (sym a.same.ops)
      (file_fits more (ready_alike words class numbers a r) (loc_before words class numbers o (still_before words class numbers s (alias_before words class numbers p h m before))) l none)
  file_fits (file_op {x} names m rest more) r before l none = by_class (bodies.is_module (class m.name)) refl
    where
      by_class : (b : Bool) → bodies.is_module (class m.name) ≡ b → FileFits (ops_in (k x))
      by_class true h = inr (one_module names m rest more h r before none l.regions)
      by_class false h =
          inl (function_listed words class numbers names m rest h r
          (file_listed more (function_behind words class numbers names m rest h r) (body_carried Takes here moved_on rest m.begun_so) l)).functions.ops_fit

-- The module of the file

funcs_numbered : (os : List OpTree) → list_all is_fit os ≡ true → list_all (is_numbered none_counted) (map plain_func (funcs_of os)) ≡ true
funcs_numbered [] h = refl
funcs_numbered (o ∷ os) h = and-both _ _ (and-left _ _ (and-left _ _ h)) (funcs_numbered os (and-right (is_fit o) _ h))

pub module_numbered : (os : List OpTree) → FileFits os → list_all (is_numbered none_counted) (plain_module (module_of os)).funcs ≡ true
module_numbered [] (inl h) = refl
module_numbered (o ∷ []) (inl h) =
    let other : is_module o ≡ false = Rattle.rule_model.proofs.Numbers.not_true (is_module o) (and-right (is_numbered none_counted (Rattle.plain_tree.specs.Ops.plain_op o)) _ (and-left _ _ h)) in
    ap (λ b. list_all (is_numbered none_counted) (plain_module (if b then as_module o else around (o ∷ []))).funcs) other ∙ funcs_numbered (o ∷ []) h
module_numbered (o ∷ p ∷ os) (inl h) = funcs_numbered (o ∷ p ∷ os) h
module_numbered os (inr m) =
    ap (λ xs. list_all (is_numbered none_counted) (plain_module (module_of xs)).funcs) m.is
    ∙ ap (λ b. list_all (is_numbered none_counted) (plain_module (if b then as_module m.it else around (m.it ∷ []))).funcs) m.module_is ∙ funcs_numbered (body_of (out-OpTree m.it).regions) m.fits
