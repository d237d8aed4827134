-- convert-cf-to-llvm keeps modules verified.
use Rattle.block_rules.specs.Branches.{cf_target}
use Rattle.std.proofs.Common.{◌≡◌, ℕ, ◌==◌, Bool, true, false, List, [], ◌∷◌, Option, Some, None, refl, sym, ap, ◌∙◌, subst, inl, inr, true≢false}
use Rattle.std.specs.Prelude.{◌&&◌, not, is_some, Ok, Err, if◌then◌else◌}
use Rattle.std.specs.Str.{bytes_eq}
use Rattle.std.specs.List.{list_all}
use Rattle.pipeline_text.specs.declared.pass.PassName.TheVariants.{ConvertCfToLlvm}
use Rattle.plain_tree.specs.Types.{PlainType}
use Rattle.plain_tree.specs.Ops.{Op, op, Regions}
use Rattle.plain_tree.specs.Values.{op_values, regions_values, types_of}
use Rattle.rule_model.specs.Words.{has, numbers}
use Rattle.rule_model.specs.Rows.{shape_of}
use Rattle.rule_model.specs.Formed.{are_formed_regions, are_once, is_formed_function, is_formed_here, is_function_name, regions_labels}
use Rattle.rule_model.specs.Sites.{holds}
use Rattle.rule_model.proofs.Numbers.{and_first, and_second, itself}
use Rattle.conversion_model.specs.Templates.{copy_name}
use Rattle.conversion_model.specs.Targets.{demanded, is_illegal_at, name_of as op_name, Partial, shape_of as of_shape}
use Rattle.conversion_model.specs.Items.{held_regions, whole_regions}
use Rattle.conversion_model.specs.Uses.{copies_left_out, operations}
use Rattle.conversion_model.specs.Conversion.{choice_in, conv, converted, first_unlegalised, function_by, op_blocks, or_fails, regions_blocks, regions_of, replacements, Supply, Unlegalised, ways}
use Rattle.conversion_model.specs.Fresh.{EachOp, Fresh, IsOld, IsOldLabel, of_block, of_line}
use Rattle.conversion_model.specs.Counts.{DefinesOnce}
use Rattle.conversion_model.proofs.OnceConversion.{conversion_once}
use Rattle.pattern_model.proofs.PassOnce.{passes_define_once}
use Rattle.line_rules.specs.Lines.{HasValue, Line, LinedRegions, LineKeeps, Turn, TurnKeeps, operands_regions}
use Rattle.fitting_rows.specs.Widths.{IsWidth}
use Rattle.kept_rules.specs.Promises.{PassKeepsVerified}
use Rattle.block_rules.proofs.BlockFormed.{blocks_keep_formed, regions_stay}
use Rattle.block_rules.proofs.BlockScopes.{function_blocks}
use Rattle.block_rules.proofs.BlockUses.{blocks_own}
use Rattle.block_rules.proofs.BranchTurns.{BranchTurns, cf_pass, is_branch_form, NoLines, put_here, Stays, Turns, uncut, way}
use Rattle.fitting_rows.proofs.FitShapes.{Width, width_of}
use Rattle.fitting_rows.proofs.GoodValues.{function_good}
use Rattle.line_rules.proofs.LinedChains.{lined_own}
use Rattle.line_rules.proofs.LinedFormed.{all_true, lined_formed, regions_formed}
use Rattle.line_rules.proofs.LinedItems.{whole_lined}
use Rattle.line_rules.proofs.LineLaws.{new_apart, new_unique}
use Rattle.line_rules.proofs.LinedScopes.{lined_defined}
use Rattle.line_rules.proofs.LinedValues.{regions_kept}
use Rattle.kept_rules.proofs.Modules.{formed_labels, formed_once, FunctionKept, Kept, keeps_verified}
use Rattle.line_rules.proofs.NoCopies.{none_left_out}
use Rattle.line_rules.proofs.Numbered.{numbered}
use Rattle.line_rules.proofs.Once.{once_defined, type_of_value, type_once, value_among, value_cases, value_left, value_right}
use Rattle.line_rules.proofs.PutAll.{put_regions}
use Rattle.fitting_rows.proofs.SourceFits.{GoodType}
use Rattle.kept_rules.proofs.StraightLaws.{function_name}
use Rattle.kept_rules.proofs.StraightPass.{no_copy_regions}
use Rattle.block_rules.proofs.TurnedNumbers.{function_each, turn_at, turn_keeps, turn_kept, turn_ranks}
use Rattle.block_rules.proofs.TurnedTests.{function_tests}

-- no argument of a block is a value of a line
line_no_argument : (new : Supply) (f : Op) → Fresh new f → (n j l k : ℕ) → new.value n 0 j ≡ new.argument l k → ⊥
line_no_argument new f fresh n j l k e = true≢false (sym (ap (λ x. x == new.argument l k) e ∙ itself (new.argument l k)) ∙ fresh.values (of_line n 0 j) (of_block l k))

old_no_argument : (new : Supply) (x l k : ℕ) → IsOld new x → x ≡ new.argument l k → ⊥
old_no_argument new x l k old e = true≢false (sym (ap (λ y. x == y) (sym e) ∙ itself x) ∙ old (of_block l k))

-- what isn't legalised doesn't depend on whether blocks are converted
same_failures : (bits : ℕ) (new : Supply) (T : ℕ → PlainType) (os : List (ℕ × Op)) → first_unlegalised (cf_pass false) bits new T os ≡ first_unlegalised (cf_pass true) bits new T os
same_failures bits new T [] = refl
same_failures bits new T (o ∷ os) =
    ap (λ (x : Option Unlegalised). if demanded Partial cf_target (of_shape T o.1) && not (is_some (choice_in (cf_pass true) bits new T o.0 o.1)) then Some (record { number = o.0; name = op_name o.1 }) else x) (same_failures bits new T os)

converted_is : (g h : Op) (x : Option Unlegalised) → or_fails h x ≡ Ok g → h ≡ g
converted_is g h None e = ap (λ r. elim r as (λ x. Op) [ Ok a ↦ a | Err b ↦ h ]) e
converted_is g h (Some u) e = absurd (true≢false (sym (ap (λ r. elim r as (λ x. Bool) [ Ok a ↦ true | Err b ↦ false ]) e)))

other_converted : (g h i : Op) (x : Option Unlegalised) → or_fails h x ≡ Ok g → or_fails i x ≡ Ok i
other_converted g h i None e = refl
other_converted g h i (Some u) e = absurd (true≢false (sym (ap (λ r. elim r as (λ x. Bool) [ Ok a ↦ true | Err b ↦ false ]) e)))

-- and the replacements define each number once
replaced_once : (bits : ℕ) (new : Supply) (f g : Op) → Fresh new f → is_formed_function f ≡ true → conv (cf_pass true) bits new f ≡ Ok g → DefinesOnce (copies_left_out (replacements (cf_pass true) bits new f))
replaced_once bits new f g fresh e is =
    conversion_once (cf_pass false) bits new f (converted (cf_pass false) bits new f) (tt, (tt, (tt, (tt, tt)))) fresh (formed_once f e) (formed_labels f e)
    (ap (or_fails (converted (cf_pass false) bits new f)) (same_failures bits new (types_of f) (operations f))
    ∙ other_converted g (converted (cf_pass true) bits new f) (converted (cf_pass false) bits new f) (first_unlegalised (cf_pass true) bits new (types_of f) (operations f)) is)

-- a function is no copy, no branch, and stays
no_frame : (bits : ℕ) (new : Supply) (f : Op) (b : Bool) → b ≡ false
    → function_by new f (if b then choice_in (cf_pass true) bits new (types_of f) 0 f else None) (held_regions (ways (cf_pass true) bits new (types_of f)) 1 (regions_of f))
    ≡ function_by new f None (held_regions (ways (cf_pass true) bits new (types_of f)) 1 (regions_of f))
no_frame bits new f b e = ap (λ x. function_by new f (if x then choice_in (cf_pass true) bits new (types_of f) 0 f else None) (held_regions (ways (cf_pass true) bits new (types_of f)) 1 (regions_of f))) e

pub cf_kept : (bits : ℕ) → IsWidth bits → FunctionKept ConvertCfToLlvm bits
cf_kept bits width new c (op k rs os r ls) g fresh e parts conv_is =
    let f : Op = op k rs os r ls in
    let w : Width bits = width_of bits width in
    let T : ℕ → PlainType = types_of f in
    let was : List ℕ = numbers (op_values f []) in
    let at : ℕ → List ℕ = operands_regions 1 r in
    let name = and_first (is_function_name k.name) _ e in
    let p1 = and_second (is_function_name k.name) _ e in
    let p2 = and_second (are_once was) _ p1 in
    let p3 = and_second (are_once (regions_labels r)) _ p2 in
    let here = and_first (is_formed_here was [] k rs os ls) _ p3 in
    let inside = and_second (is_formed_here was [] k rs os ls) _ p3 in
    let good : (x : ℕ) → has x was ≡ true → GoodType (T x) = λ x a. function_good c T was k rs os ls r x (T x) parts.tests here inside (type_of_value (op_values f []) x a) in
    let K : ℕ → Op → Type 0 = Stays bits w new T at was good in
    let G : ℕ → Op → List Op → Type 0 = NoLines bits w new T at was good in
    let H : ℕ → Op → List Op → Op → Type 0 = Turns bits w new T at was good in
    let s : Regions = whole_regions (held_regions (ways (cf_pass true) bits new T) 1 r) in
    let h : Op = op k rs os s ls in
    let lined : LinedRegions K G H 1 r s =
    whole_lined (way bits w new T at was good) K G H (uncut bits w new T at was good) 1 r
    (put_regions (way bits w new T at was good) K G H (uncut bits w new T at was good) T at was (put_here bits w new T at was good) c (holds T f) 0 1 r (numbered 1 r) parts.tests.1 inside) in
    let value : ℕ → ℕ → ℕ = λ n. new.value n 0 in
    let no_line : (n : ℕ) (o : Op) (l : List Op) → G n o l → ⊥ = λ n o l x. x in
    let turn : (n : ℕ) (o : Op) (l : List Op) (t : Op) → H n o l t → BranchTurns bits T value at n o l t = λ n o l t x. x in
    let line_of : (n : ℕ) (o : Op) (l : List Op) → G n o l → Line (IsOld new) o l = λ n o l x. absurd x in
    let turn_of : (n : ℕ) (o : Op) (l : List Op) (t : Op) → H n o l t → Turn (IsOld new) o l t = λ n o l t x. turn_kept bits T value at (IsOld new) n o l t (λ y j. new_apart new y n j) x in
    let line_keeps : (n : ℕ) (o : Op) (l : List Op) → G n o l → LineKeeps o l = λ n o l x. absurd x in
    let keeps_of : (n : ℕ) (o : Op) (l : List Op) (t : Op) → H n o l t → TurnKeeps o l t = λ n o l t x. turn_keeps bits T value at w n o l t x in
    let kept : (x : ℕ) (t : PlainType) → HasValue x t (op_values f []) → HasValue x t (op_values h []) = λ x t v.
    elim (value_cases x t rs (regions_values r []) v) [
      | inl a ↦ value_left x t rs (regions_values s []) a
      | inr a ↦ value_right x t rs (regions_values s []) (regions_kept K G H line_keeps keeps_of x t [] [] lined (λ z. z) a)
    ] in
    let kept_number : (x : ℕ) → has x was ≡ true → has x (numbers (op_values h [])) ≡ true = λ x a. value_among (op_values h []) x (T x) (kept x (T x) (type_of_value (op_values f []) x a)) in
    let formed_inside : are_formed_regions (numbers (op_values h [])) s ≡ true =
    regions_formed (IsOld new) K G H line_of turn_of line_keeps keeps_of was (numbers (op_values h [])) [] lined kept_number (λ x t v. value_among (op_values h []) x t (value_right x t rs (regions_values s []) v)) inside in
    let whole : copies_left_out h ≡ h = none_left_out h (function_name (λ n. bytes_eq n copy_name ≡ false) refl refl k.name name, no_copy_regions (numbers (op_values h [])) s formed_inside) in
    let same_h : copies_left_out (replacements (cf_pass true) bits new f) ≡ h =
    ap copies_left_out (no_frame bits new f (is_illegal_at (of_shape T f) (cf_target k.name)) (function_name (λ n. is_illegal_at (of_shape T f) (cf_target n) ≡ false) refl refl k.name name)) ∙ whole in
    let same : g ≡ op_blocks bits new.argument h =
    sym (converted_is g (converted (cf_pass true) bits new f) (first_unlegalised (cf_pass true) bits new T (operations f)) conv_is) ∙ ap (op_blocks bits new.argument) same_h in
    let once_h : DefinesOnce h = subst DefinesOnce same_h (replaced_once bits new f g fresh e conv_is) in
    let once : DefinesOnce (op_blocks bits new.argument h) = subst DefinesOnce same (passes_define_once ConvertCfToLlvm bits new f g fresh (formed_once f e) (formed_labels f e) conv_is) in
    let behind : Regions = regions_blocks bits new.argument s in
    let S : ℕ → PlainType = types_of (op k rs os behind ls) in
    let inside_all : (x : ℕ) (t : PlainType) → HasValue x t (op_values (op k rs os behind ls) []) → S x ≡ t = λ x t v. type_once (op_values (op k rs os behind ls) []) x t (once_defined (op k rs os behind ls) once) v in
    let agree : (x : ℕ) → has x was ≡ true → S x ≡ T x = λ x a.
    inside_all x (T x) (elim (value_cases x (T x) rs (regions_values s []) (kept x (T x) (type_of_value (op_values f []) x a))) [
      | inl b ↦ value_left x (T x) rs (regions_values behind []) b
      | inr b ↦ value_right x (T x) rs (regions_values behind []) (regions_stay bits new.argument w x (T x) s [] [] (λ z. z) b)
    ]) in
    let Apart : ℕ → Type 0 = λ x. (l j : ℕ) → x ≡ new.argument l j → ⊥ in
    let AnyLabel : ℕ → Type 0 = λ x. Unit {0} in
    let each : EachOp Apart AnyLabel h =
    function_each bits T value at (IsOld new) (IsOldLabel new) Apart AnyLabel (λ x old l j. old_no_argument new x l j old) (λ x old. tt) (λ n j l i. line_no_argument new f fresh n j l i) K G H no_line turn k rs os ls lined fresh.apart in
    let formed_h : is_formed_function h ≡ true = lined_formed (IsOld new) K G H line_of turn_of line_keeps keeps_of k rs os ls lined once_h e in
    subst (Kept c f) (sym same) (record {
      formed = blocks_keep_formed bits new h width once formed_h;
      parts = record {
        tests = function_tests bits w new.argument value T S at K G H (λ n o x. x) no_line turn c k rs os ls was (function_name (λ n. is_branch_form (shape_of n) ≡ false) refl refl k.name name) lined agree
            (λ x t v. inside_all x t (value_right x t rs (regions_values behind []) v)) (all_true (λ v. has v was) os (and_first (list_all (λ v. has v was) os) _ here)) inside parts.tests;
        scopes = function_blocks bits new.argument Apart AnyLabel (λ x l j apart is. apart l j is) k rs os ls s each (lined_defined (IsOld new) (IsOldLabel new) K G H line_of turn_of k rs os ls lined fresh.apart parts.scopes);
        none_own = blocks_own bits new.argument Apart AnyLabel (λ x l j apart is. apart l j is) h each
            (lined_own f (IsOld new) (IsOldLabel new) value at K G H (λ n o l x. absurd x) (λ n o l x. absurd x) (λ n o l t x. turn_ranks bits T value at n o l t x) (λ n o l t x. turn_at bits T value at n o l t x)
            k rs os ls refl lined fresh.apart (λ v n j old is. new_apart new v n j old is) (new_unique new f fresh) parts.none_own);
      };
      declared_same = refl;
    })

pub cf_verified : PassKeepsVerified ConvertCfToLlvm
cf_verified = keeps_verified ConvertCfToLlvm cf_kept
