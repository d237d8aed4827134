-- From functions to modules.
use Rattle.std.proofs.Common.{◌≡◌, ℕ, true, List, [], ◌∷◌, ◌++◌, refl, sym, ap, ◌∙◌, subst, map}
use Rattle.std.specs.Prelude.{Ok}
use Rattle.std.specs.List.{list_all}
use Rattle.pipeline_text.specs.declared.pass.PassName.{PassName}
use Rattle.plain_tree.specs.Ops.{Op, op}
use Rattle.plain_tree.specs.Values.{op_values}
use Rattle.rule_model.specs.Words.{numbers}
use Rattle.rule_model.specs.Facts.{Declared, declared, functions, Functions}
use Rattle.rule_model.specs.Formed.{are_formed_entries, are_once, is_formed_function, is_function_name, op_labels}
use Rattle.rule_model.specs.Rules.{SoundFrom, SoundFunction}
use Rattle.rule_model.proofs.Numbers.{and_first, and_second}
use Rattle.conversion_model.specs.Conversion.{Supply}
use Rattle.conversion_model.specs.Counts.{DefinesOnce, LabelsOnce}
use Rattle.conversion_model.specs.Fresh.{Fresh}
use Rattle.pattern_model.specs.PassTable.{pass_tree}
use Rattle.fitting_rows.specs.Widths.{IsWidth}
use Rattle.kept_rules.specs.Promises.{left_so, made_so, none_replaced, PassKeepsVerified, Replaced}
use Rattle.line_rules.proofs.SameTypes.{and_true}
use Rattle.line_rules.proofs.Once.{defines_once, labels_once}
use Rattle.line_rules.proofs.KeptSites.{Parts, parts_of, sound_by}

-- what is kept of a function
pub record Kept (c : Functions) (f g : Op) : Type 0 where
  pub formed : is_formed_function g ≡ true
  pub parts : Parts c g
  pub declared_same : declared g ≡ declared f

-- the pass keeps it
abbrev pub FunctionKept : PassName → ℕ → Type 0
FunctionKept name bits = (new : Supply) (c : Functions) (f g : Op) → Fresh new f → is_formed_function f ≡ true → Parts c f → pass_tree name bits new f ≡ Ok g → Kept c f g

pub formed_once : (f : Op) → is_formed_function f ≡ true → DefinesOnce f
formed_once (op k rs os r ls) e = defines_once (op k rs os r ls) (and_first (are_once (numbers (op_values (op k rs os r ls) []))) _ (and_second (is_function_name k.name) _ e))

pub formed_labels : (f : Op) → is_formed_function f ≡ true → LabelsOnce f
formed_labels (op k rs os r ls) e =
    labels_once (op k rs os r ls) (and_first (are_once (op_labels (op k rs os r ls))) _ (and_second (are_once (numbers (op_values (op k rs os r ls) []))) _ (and_second (is_function_name k.name) _ e)))

joined_declared : (xs ys : List Op) → map declared (xs ++ ys) ≡ map declared xs ++ map declared ys
joined_declared [] ys = refl
joined_declared (x ∷ xs) ys = ap (λ l. declared x ∷ l) (joined_declared xs ys)

pub one_more : (xs ys : List Op) (f g : Op) → map declared xs ≡ map declared ys → declared f ≡ declared g → map declared (xs ++ f ∷ []) ≡ map declared (ys ++ g ∷ [])
one_more xs ys f g e d = joined_declared xs (f ∷ []) ∙ ap (λ l. l ++ declared f ∷ []) e ∙ ap (λ x. map declared ys ++ x ∷ []) d ∙ sym (joined_declared ys (g ∷ []))

abbrev functions_of : List Declared → List Declared → Functions
functions_of all earlier = record { all = all; earlier = earlier }

pub same_functions : (all others before after : List Op) → map declared others ≡ map declared all → map declared after ≡ map declared before → functions others after ≡ functions all before
same_functions all others before after a b = ap (λ x. functions_of x (map declared after)) a ∙ ap (λ x. functions_of (map declared all) x) b

pub replaced_declared : {name : PassName} {bits : ℕ} (all : List Op) {fs gs : List Op} → FunctionKept name bits → Replaced name bits fs gs → (earlier : List Op) → SoundFrom all earlier fs → list_all is_formed_function fs ≡ true → map declared gs ≡ map declared fs
replaced_declared all kept none_replaced earlier sound formed = refl
replaced_declared all kept (left_so f d) earlier sound formed = ap (λ l. declared f ∷ l) (replaced_declared all kept d (earlier ++ f ∷ []) sound.1 (and_second (is_formed_function f) _ formed))
replaced_declared all kept (made_so new f g {fs = fs} {gs = gs} fresh is d) earlier sound formed =
    let k = kept new (functions all earlier) f g fresh (and_first (is_formed_function f) _ formed) (parts_of (functions all earlier) f sound.0) is in
    ap (λ x. x ∷ map declared gs) k.declared_same ∙ ap (λ l. declared f ∷ l) (replaced_declared all kept d (earlier ++ f ∷ []) sound.1 (and_second (is_formed_function f) _ formed))

replaced_sound : {name : PassName} {bits : ℕ} (all others before after : List Op) {fs gs : List Op} → FunctionKept name bits → map declared others ≡ map declared all → map declared after ≡ map declared before → Replaced name bits fs gs
    → SoundFrom all before fs → list_all is_formed_function fs ≡ true → SoundFrom others after gs × (list_all is_formed_function gs ≡ true)
replaced_sound all others before after kept a b none_replaced sound formed = (tt, refl)
replaced_sound all others before after kept a b (left_so f d) sound formed =
    let rest = replaced_sound all others (before ++ f ∷ []) (after ++ f ∷ []) kept a (one_more after before f f b refl) d sound.1 (and_second (is_formed_function f) _ formed) in
    ((subst (λ c. SoundFunction c f) (sym (same_functions all others before after a b)) sound.0, rest.0), and_true (is_formed_function f) _ (and_first (is_formed_function f) _ formed) rest.1)
replaced_sound all others before after kept a b (made_so new f g fresh is d) sound formed =
    let k = kept new (functions all before) f g fresh (and_first (is_formed_function f) _ formed) (parts_of (functions all before) f sound.0) is in
    let rest = replaced_sound all others (before ++ f ∷ []) (after ++ g ∷ []) kept a (one_more after before g f b k.declared_same) d sound.1 (and_second (is_formed_function f) _ formed) in
    ((subst (λ c. SoundFunction c g) (sym (same_functions all others before after a b)) (sound_by (functions all before) g k.parts), rest.0), and_true (is_formed_function g) _ k.formed rest.1)

pub keeps_verified : (name : PassName) → ((bits : ℕ) → IsWidth bits → FunctionKept name bits) → PassKeepsVerified name
keeps_verified name kept bits m funcs w d v =
    let formed = and_second (are_formed_entries m.attrs) _ (and_second (are_formed_entries m.props) _ v.0) in
    let both = replaced_sound m.funcs funcs [] [] (kept bits w) (replaced_declared m.funcs (kept bits w) d [] v.1 formed) refl d v.1 formed in (
      and_true (are_formed_entries m.props) _ (and_first (are_formed_entries m.props) _ v.0)
          (and_true (are_formed_entries m.attrs) _ (and_first (are_formed_entries m.attrs) _ (and_second (are_formed_entries m.props) _ v.0)) both.1),
      both.0,
    )
