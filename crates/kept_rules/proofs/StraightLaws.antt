-- arith-expand and convert-arith-to-llvm keep modules verified.
use Rattle.std.proofs.Common.{◌≡◌, ℕ, Bool, true, false, List, refl, sym, subst}
use Rattle.std.specs.Prelude.{◌||◌, codes}
use Rattle.std.specs.Str.{bytes_eq}
use Rattle.std.proofs.lemmas.Slice.Eq.{bytes_eq-Decides}
use Rattle.pipeline_text.specs.declared.pass.PassName.TheVariants.{ArithExpand, ConvertArithToLlvm}
use Rattle.rule_model.specs.declared.shapes.Shape.TheVariants.{CompareNumbers, FlaggedNumbers, IndexCast, NarrowNumber, NumberConstant, SelectValues, TwoNumbers, Widen}
use Rattle.rule_model.specs.Words.{AllOf}
use Rattle.rule_model.specs.Formed.{is_function_name}
use Rattle.pattern_model.specs.ArithRows.{arith_set}
use Rattle.pattern_model.specs.ExpandRows.{expand_set}
use Rattle.pattern_model.specs.OperationNames.{arith_names, is_among}
use Rattle.pattern_model.specs.PassTable.{expand_roots}
use Rattle.pattern_model.proofs.PassOnce.{passes_define_once}
use Rattle.fitting_rows.specs.Widths.{IsWidth}
use Rattle.kept_rules.specs.Promises.{PassKeepsVerified}
use Rattle.kept_rules.proofs.Modules.{formed_labels, formed_once, FunctionKept, keeps_verified}
use Rattle.fitting_rows.proofs.FitShapes.{width_of}
use Rattle.fitting_rows.proofs.FitExpand.{expand_fits}
use Rattle.fitting_rows.proofs.FitArith.{arith_fits}
use Rattle.fitting_rows.proofs.SourceFits.{CalcName}
use Rattle.kept_rules.proofs.StraightPass.{straight_kept}
use Rattle.fitting_rows.proofs.Uncut.{AllStraight}

-- the name of a function is one of two
pub function_name : (P : List ℕ → Type 0) → P (codes "func.func") → P (codes "llvm.func") → (name : List ℕ) → is_function_name name ≡ true → P name
function_name P f l name e = go (bytes_eq name (codes "func.func")) refl e
  where
    go : (b : Bool) → bytes_eq name (codes "func.func") ≡ b → (b || bytes_eq name (codes "llvm.func")) ≡ true → P name
    go true same h = subst P (sym ((bytes_eq-Decides name (codes "func.func")).0 same)) f
    go false other h = subst P (sym ((bytes_eq-Decides name (codes "llvm.func")).0 h)) l

expand_calc : AllOf CalcName expand_roots
expand_calc = (
  record { form = TwoNumbers; known = refl; calc = refl },
  (
    record { form = TwoNumbers; known = refl; calc = refl },
    (
      record { form = TwoNumbers; known = refl; calc = refl },
      (
        record { form = TwoNumbers; known = refl; calc = refl },
        (record { form = TwoNumbers; known = refl; calc = refl }, tt),
      ),
    ),
  ),
)

expand_straight : (bits : ℕ) → AllStraight bits expand_set
expand_straight bits = (tt, (tt, (tt, (tt, (tt, tt)))))

pub expand_kept : (bits : ℕ) → IsWidth bits → FunctionKept ArithExpand bits
expand_kept bits w new c f g fresh formed parts is = straight_kept bits expand_set expand_roots (expand_fits bits) (expand_straight bits) expand_calc (function_name (λ n. is_among expand_roots n ≡ false) refl refl)
    new c f g fresh formed parts (passes_define_once ArithExpand bits new f g fresh (formed_once f formed) (formed_labels f formed) is) is

pub expand_verified : PassKeepsVerified ArithExpand
expand_verified = keeps_verified ArithExpand expand_kept

arith_calc : AllOf CalcName arith_names
arith_calc = (
  record { form = NumberConstant; known = refl; calc = refl },
  (
    record { form = FlaggedNumbers; known = refl; calc = refl },
    (
      record { form = FlaggedNumbers; known = refl; calc = refl },
      (
        record { form = FlaggedNumbers; known = refl; calc = refl },
        (
          record { form = FlaggedNumbers; known = refl; calc = refl },
          (
            record { form = TwoNumbers; known = refl; calc = refl },
            (
              record { form = TwoNumbers; known = refl; calc = refl },
              (
                record { form = TwoNumbers; known = refl; calc = refl },
                (
                  record { form = TwoNumbers; known = refl; calc = refl },
                  (
                    record { form = TwoNumbers; known = refl; calc = refl },
                    (
                      record { form = TwoNumbers; known = refl; calc = refl },
                      (
                        record { form = TwoNumbers; known = refl; calc = refl },
                        (
                          record { form = TwoNumbers; known = refl; calc = refl },
                          (
                            record { form = TwoNumbers; known = refl; calc = refl },
                            (
                              record { form = TwoNumbers; known = refl; calc = refl },
                              (
                                record { form = TwoNumbers; known = refl; calc = refl },
                                (
                                  record { form = TwoNumbers; known = refl; calc = refl },
                                  (
                                    record { form = TwoNumbers; known = refl; calc = refl },
                                    (
                                      record { form = TwoNumbers; known = refl; calc = refl },
                                      (
                                        record { form = TwoNumbers; known = refl; calc = refl },
                                        (
                                          record { form = TwoNumbers; known = refl; calc = refl },
                                          (
                                            record { form = CompareNumbers; known = refl; calc = refl },
                                            (
                                              record { form = SelectValues; known = refl; calc = refl },
                                              (
                                                record { form = Widen; known = refl; calc = refl },
                                                (
                                                  record { form = Widen; known = refl; calc = refl },
                                                  (
                                                    record { form = NarrowNumber; known = refl; calc = refl },
                                                    (
                                                      record { form = IndexCast; known = refl; calc = refl },
                                                      (
                                                        record { form = IndexCast; known = refl; calc = refl },
                                                        tt,
                                                      ),
                                                    ),
                                                  ),
                                                ),
                                              ),
                                            ),
                                          ),
                                        ),
                                      ),
                                    ),
                                  ),
                                ),
                              ),
                            ),
                          ),
                        ),
                      ),
                    ),
                  ),
                ),
              ),
            ),
          ),
        ),
      ),
    ),
  ),
)

arith_straight : (bits : ℕ) → AllStraight bits arith_set
arith_straight bits = (tt, (tt, (tt, (tt, (tt, (tt, (tt, (tt, (tt, (tt, (tt, (tt, (tt, (tt, (tt, (tt, (tt, (tt, (tt, (tt, (tt, (tt, (tt, (tt, (tt, tt)))))))))))))))))))))))))

pub arith_kept : (bits : ℕ) → IsWidth bits → FunctionKept ConvertArithToLlvm bits
arith_kept bits w new c f g fresh formed parts is = straight_kept bits arith_set arith_names (arith_fits bits (width_of bits w)) (arith_straight bits) arith_calc (function_name (λ n. is_among arith_names n ≡ false) refl refl)
    new c f g fresh formed parts (passes_define_once ConvertArithToLlvm bits new f g fresh (formed_once f formed) (formed_labels f formed) is) is

pub arith_verified : PassKeepsVerified ConvertArithToLlvm
arith_verified = keeps_verified ConvertArithToLlvm arith_kept
