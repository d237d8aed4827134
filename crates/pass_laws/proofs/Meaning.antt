-- The passes keep the meaning.
use Rattle.std.proofs.Common.{◌≡◌, ℕ, Bool, true, false, List, [], ◌∷◌, ◌++◌, Ok, refl, sym, ap, ◌∙◌, subst, true≢false}
use Rattle.std.specs.Prelude.{bytes_eq}
use Rattle.std.specs.List.{list_all}
use Rattle.std.proofs.lemmas.Slice.Eq.{bytes_eq-Decides}
use Rattle.pipeline_text.specs.declared.pass.PassName.{PassName}
use Rattle.pipeline_text.specs.declared.pass.PassName.TheVariants.{ArithExpand, ConvertArithToLlvm, ConvertCfToLlvm}
use Rattle.plain_tree.specs.Ops.{Op, PlainModule, module_tree}
use Rattle.form_model.specs.Decoding.{functions_of}
use Rattle.conversion_model.specs.Templates.{copy_name}
use Rattle.conversion_model.specs.Targets.{Shape, Target, Partial, is_legal, is_legal_at}
use Rattle.conversion_model.specs.Conversion.{Pass, Supply, conv}
use Rattle.conversion_model.specs.Counts.{DefinesOnce, LabelsOnce, RowOnce, TableOnce}
use Rattle.conversion_model.specs.Rows.{Row, Straight, Cutting, Framing, Pattern}
use Rattle.conversion_model.specs.Fresh.{Fresh}
use Rattle.pattern_model.specs.ExpandRows.{expand_set}
use Rattle.pattern_model.specs.ArithRows.{arith_set}
use Rattle.pattern_model.specs.CfRows.{cf_set}
use Rattle.pattern_model.specs.OperationNames.{arith_names, cf_names, llvm_branches}
use Rattle.pattern_model.specs.PassTable.{expand_roots, partial_pass, partial_target, pass_tree}
use Rattle.conversion_model.proofs.OnceConversion.{conversion_once}
use Rattle.rule_model.specs.Facts.{functions}
use Rattle.rule_model.specs.Formed.{are_formed_entries, is_formed_function}
use Rattle.rule_model.specs.Rules.{SoundFrom, Verified}
use Rattle.sound_model.specs.Soundness.{RowsSound}
use Rattle.sound_model.specs.Agreement.{AgreeFunctions, AgreesS}
use Rattle.code_laws.specs.PlainCodes.{plain_function, plain_functions}
use Rattle.code_laws.proofs.SameCodes.{same_codes}
use Rattle.sim_laws.proofs.Changed.{FunctionsChanged, changed_agree, ended_functions}
use Rattle.row_laws.proofs.Sets.{arith_rows, cf_rows, expand_rows}
use Rattle.pass_laws.specs.Promises.{ConversionsKeep, Converted, KeepsMeaning, Passed, converts, left, none_converted, no_functions, passes, stays, with_functions}
use Rattle.pass_laws.proofs.Counted.{and_left, and_right}
use Rattle.pass_laws.proofs.Functions.{function_changed, put_stays}
use Rattle.pass_laws.proofs.PlainRows.{arith_plain, cf_plain, expand_plain}
use Rattle.conversion_laws.specs.PlainRows.{AllOf, IsStraightRow, KnowsNoCopy, PatternPlain, StraightTable}

-- By any partial pass of sound straight rows

row_once : (row : Row) → IsStraightRow row → RowOnce row
row_once (Straight row) s = tt
row_once (Cutting row) s = absurd s
row_once (Framing row) s = absurd s

table_once : (bits : ℕ) (table : List Pattern) → StraightTable bits table → TableOnce bits table
table_once bits [] straight = tt
table_once bits (p ∷ ps) straight = (row_once (p.row bits) straight.0, table_once bits ps straight.1)

module _ (p : Pass) (bits : ℕ) (mode : p.mode ≡ Partial) (straight : StraightTable bits p.table) (rows_sound : RowsSound bits p.table) (rows_plain : AllOf (PatternPlain bits) p.table) (no_copies : KnowsNoCopy p.target) where
  once : (new : Supply) (f g : Op) → Fresh new f → DefinesOnce f → LabelsOnce f → conv p bits new f ≡ Ok g → DefinesOnce g
  once new f g fresh numbers labels is = conversion_once p bits new f g (table_once bits p.table straight) fresh numbers labels is

  functions_changed : (all earlier : List Op) {fs gs : List Op} → list_all is_formed_function fs ≡ true → SoundFrom all earlier fs → Converted p bits fs gs → FunctionsChanged (plain_functions bits fs) (plain_functions bits gs)
  functions_changed all earlier formed sound none_converted = ended_functions
  functions_changed all earlier formed sound (left {f = f} {fs = fs} {gs = gs} more) =
      put_stays (plain_function bits f) (plain_functions bits fs) (plain_functions bits gs) (functions_changed all (earlier ++ f ∷ []) (and_right (is_formed_function f) _ formed) sound.1 more)
  functions_changed all earlier formed sound (converts {f = f} {g = g} {fs = fs} {gs = gs} new fresh is more) =
      function_changed p bits mode straight rows_sound rows_plain no_copies once (functions all earlier) new f g fresh (and_left (is_formed_function f) _ formed) sound.0 is (plain_functions bits fs) (plain_functions bits gs)
      (functions_changed all (earlier ++ f ∷ []) (and_right (is_formed_function f) _ formed) sound.1 more)

  converted_keeps : (m : PlainModule) (funcs : List Op) → Verified m → Converted p bits m.funcs funcs → AgreesS bits m (with_functions m funcs)
  converted_keeps m funcs verified converted =
      let formed = and_right (are_formed_entries m.attrs) _ (and_right (are_formed_entries m.props) _ verified.0) in
      subst (λ fs. AgreeFunctions fs (functions_of bits (module_tree (with_functions m funcs)))) (sym (same_codes bits m))
      (subst (AgreeFunctions (plain_functions bits m.funcs)) (sym (same_codes bits (with_functions m funcs)))
      (changed_agree (plain_functions bits m.funcs) (plain_functions bits funcs) (functions_changed m.funcs [] formed verified.1 converted)))

pub conversions_keep : ConversionsKeep
conversions_keep p bits mode straight rows_sound rows_plain no_copies m funcs verified converted = converted_keeps p bits mode straight rows_sound rows_plain no_copies m funcs verified converted

-- a pass that is the conversion by such a table
as_converted : (name : PassName) (p : Pass) (bits : ℕ) → ((new : Supply) (f : Op) → pass_tree name bits new f ≡ conv p bits new f) → {fs gs : List Op} → Passed name bits fs gs → Converted p bits fs gs
as_converted name p bits tree_is no_functions = none_converted
as_converted name p bits tree_is (stays more) = left (as_converted name p bits tree_is more)
as_converted name p bits tree_is (passes {f = f} new fresh is more) = converts new fresh (sym (tree_is new f) ∙ is) (as_converted name p bits tree_is more)

keeps_by : (name : PassName) (p : Pass) (bits : ℕ) → ((new : Supply) (f : Op) → pass_tree name bits new f ≡ conv p bits new f) → p.mode ≡ Partial → StraightTable bits p.table → RowsSound bits p.table → AllOf (PatternPlain bits) p.table → KnowsNoCopy p.target
    → (m : PlainModule) (funcs : List Op) → Verified m → Passed name bits m.funcs funcs → AgreesS bits m (with_functions m funcs)
keeps_by name p bits tree_is mode straight rows_sound rows_plain no_copies m funcs verified passed =
    converted_keeps p bits mode straight rows_sound rows_plain no_copies m funcs verified (as_converted name p bits tree_is passed)

-- a target that doesn't know copies
bare_by : (target : Target) → ((o : Shape) → is_legal_at o (target copy_name) ≡ false) → (o : Shape) → is_legal target o ≡ true → bytes_eq o.name copy_name ≡ false
bare_by target unknown o legal = go (bytes_eq o.name copy_name) refl
  where
    go : (b : Bool) → bytes_eq o.name copy_name ≡ b → b ≡ false
    go true is = absurd (true≢false (sym legal ∙ ap (λ n. is_legal_at o (target n)) ((bytes_eq-Decides o.name copy_name).0 is) ∙ unknown o))
    go false is = refl

pub expand_keeps : KeepsMeaning ArithExpand
expand_keeps bits width =
    keeps_by ArithExpand (partial_pass expand_set expand_roots [] false) bits (λ new f. refl) refl (tt, (tt, (tt, (tt, (tt, tt))))) (expand_rows.alone bits width) (expand_plain bits) (bare_by (partial_target expand_roots []) (λ o. refl))

straight_arith : (bits : ℕ) → StraightTable bits arith_set
straight_arith bits = (tt, (tt, (tt, (tt, (tt, (tt, (tt, (tt, (tt, (tt, (tt, (tt, (tt, (tt, (tt, (tt, (tt, (tt, (tt, (tt, (tt, (tt, (tt, (tt, (tt, tt)))))))))))))))))))))))))

pub arith_keeps : KeepsMeaning ConvertArithToLlvm
arith_keeps bits width =
    keeps_by ConvertArithToLlvm (partial_pass arith_set arith_names [] false) bits (λ new f. refl) refl (straight_arith bits) (arith_rows.alone bits width) (arith_plain bits) (bare_by (partial_target arith_names []) (λ o. refl))

pub cf_keeps : KeepsMeaning ConvertCfToLlvm
cf_keeps bits width =
    keeps_by ConvertCfToLlvm (partial_pass cf_set cf_names llvm_branches true) bits (λ new f. refl) refl (tt, (tt, (tt, (tt, tt)))) (cf_rows.alone bits width) (cf_plain bits) (bare_by (partial_target cf_names llvm_branches) (λ o. refl))
