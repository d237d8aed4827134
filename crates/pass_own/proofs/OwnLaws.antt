-- The rows of each pass look at numbers only as at names: of rows that don't cut nothing is asked, and the five that cut have
-- their laws.
use Rattle.std.proofs.Common.{◌≡◌, ℕ, Bool, true, false, List, [], ◌∷◌, ◌++◌, refl, sym, true≢false}
use Rattle.std.specs.Prelude.{◌&&◌}
use Rattle.pipeline_text.specs.declared.pass.PassName.{PassName}
use Rattle.pipeline_text.specs.declared.pass.PassName.TheVariants.{ConvertScfToCf, ArithExpand, ConvertArithToLlvm, ConvertCfToLlvm, ConvertFuncToLlvm, FinalizeMemrefToLlvm, ReconcileUnrealizedCasts, FullConvertToLlvm}
use Rattle.conversion_model.specs.Rows.{Pattern, Row, Straight, Cutting, Framing}
use Rattle.conversion_model.specs.Renamings.{always, RowRenames, TableRenames}
use Rattle.pattern_model.specs.ScfRows.{scf_set}
use Rattle.pattern_model.specs.ExpandRows.{expand_set}
use Rattle.pattern_model.specs.ArithRows.{arith_set}
use Rattle.pattern_model.specs.CfRows.{cf_set}
use Rattle.pattern_model.specs.MemrefRows.{memref_set}
use Rattle.pattern_model.specs.FuncRows.{func_set, func_set_without_cast}
use Rattle.pattern_model.specs.PassTable.{pass_of, patterns_of}
use Rattle.pattern_model.proofs.ScfRenames.{if_renames, for_renames, while_renames, switch_renames, execute_renames}
use Rattle.unit_choices.proofs.RenameLaws.{takes_own}
use Rattle.pass_own.specs.Passes.{PassesTakeOwn}

-- Rows that don't cut

abbrev is_whole : Row → Bool
is_whole (Straight row) = true
is_whole (Cutting row) = false
is_whole (Framing row) = true

abbrev are_whole : ℕ → List Pattern → Bool
are_whole bits [] = true
are_whole bits (p ∷ ps) = is_whole (p.row bits) && are_whole bits ps

whole_row : (row : Row) → is_whole row ≡ true → RowRenames row
whole_row (Straight row) e = always
whole_row (Cutting row) e = absurd (true≢false (sym e))
whole_row (Framing row) e = always

both : (a b : Bool) → (a && b) ≡ true → (a ≡ true) × (b ≡ true)
both true true e = (refl, refl)
both true false e = absurd (true≢false (sym e))
both false b e = absurd (true≢false (sym e))

whole_rows : (bits : ℕ) (ps : List Pattern) → are_whole bits ps ≡ true → TableRenames bits ps
whole_rows bits [] e = always
whole_rows bits (p ∷ ps) e = let h = both (is_whole (p.row bits)) (are_whole bits ps) e in (whole_row (p.row bits) h.0, whole_rows bits ps h.1)

-- Those that do, in front of others

scf_renames : (bits : ℕ) (ps : List Pattern) → are_whole bits ps ≡ true → TableRenames bits (scf_set ++ ps)
scf_renames bits ps e = (if_renames, (for_renames, (while_renames, (switch_renames, (execute_renames, whole_rows bits ps e)))))

pass_renames : (name : PassName) (bits : ℕ) → TableRenames bits (patterns_of (pass_of name))
pass_renames ConvertScfToCf bits = scf_renames bits [] refl
pass_renames ArithExpand bits = whole_rows bits expand_set refl
pass_renames ConvertArithToLlvm bits = whole_rows bits arith_set refl
pass_renames ConvertCfToLlvm bits = whole_rows bits cf_set refl
pass_renames ConvertFuncToLlvm bits = whole_rows bits func_set_without_cast refl
pass_renames FinalizeMemrefToLlvm bits = whole_rows bits memref_set refl
pass_renames ReconcileUnrealizedCasts bits = always
pass_renames FullConvertToLlvm bits = scf_renames bits (expand_set ++ arith_set ++ cf_set ++ memref_set ++ func_set) refl

pub passes_take_own : PassesTakeOwn
passes_take_own name bits = takes_own bits (patterns_of (pass_of name)) (pass_renames name bits)
