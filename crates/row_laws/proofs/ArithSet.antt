-- The rows of arith_lowering are sound.
use Rattle.std.proofs.Common.{◌≡◌, ℕ, List, [], ◌∷◌, length, Some, true, false, refl, sym, ap, subst, ◌∙◌, true≢false}
use Rattle.std.specs.Prelude.{codes, pos}
use Rattle.std.proofs.lemmas.List.{length-map}
use Rattle.number_model.specs.Arithmetic.{Flags, Binary, Add, Subtract, Multiply, ShiftLeft, Divide, DivideUnsigned, Remainder, RemainderUnsigned, And, Or, Xor, ShiftRight, ShiftRightUnsigned, Greater, GreaterUnsigned, Less, LessUnsigned, ExtendSigned, Extend, Comparison, Above, AboveUnsigned, Below, BelowUnsigned}
use Rattle.plain_tree.specs.Types.{PlainType, Int}
use Rattle.plain_tree.specs.Attrs.{entries_tree}
use Rattle.conversion_model.specs.Types.{new_type}
use Rattle.conversion_model.specs.Templates.{Template}
use Rattle.conversion_model.specs.Rows.{Pattern, Straight}
use Rattle.form_model.specs.Types.{width}
use Rattle.form_model.specs.Properties.{if_some, natural, comparison_of, comparison_at, comparisons}
use Rattle.form_model.specs.Classes.{class_of, classes, two, flagged}
use Rattle.pattern_model.specs.Drafts.{is_plain, predicate}
use Rattle.pattern_model.specs.ArithRows.{all_types, extreme_row, extreme_types, arith_set}
use Rattle.pattern_model.specs.ArithRows.{flagged as flagged_pattern, binary as binary_pattern}
use Rattle.sound_model.specs.Soundness.{is_root, RowHolds, StepsFit, RowSound, PatternSound, PatternsSound}
use Rattle.row_numbers.specs.Sequences.{first_where}
use Rattle.row_numbers.specs.Promises.{ComesFrom}
use Rattle.row_numbers.proofs.Extremes.{extremes}
use Rattle.row_laws.proofs.Sources.{two_items}
use Rattle.row_laws.proofs.Values.{none_is, of_some, when_is, IsPlain, plain_is}
use Rattle.row_laws.proofs.Forms.{width_in_becomes}
use Rattle.row_laws.proofs.Lowered.{binary_sound, flagged_sound, cmpi_sound, select_sound, extended_sound, trunci_sound}
use Rattle.row_laws.proofs.Extremes.{by_comparison, extreme_holds}
use Rattle.row_laws.proofs.Casts.{index_cast_sound}
use Rattle.row_laws.proofs.Constants.{constant_sound, integer_is}

-- the numbers of predicates
pub comparison_is : (n : ℕ) → comparison_of (entries_tree (predicate n)) ≡ comparison_at n comparisons
comparison_is n = ap (λ z. if_some z (λ z. if_some (natural z) (λ n. comparison_at n comparisons))) (integer_is (codes "predicate") (predicate n) (pos n) (Int 64) refl)

-- no step has a root of the table as name
no_roots_fit : (table : List Pattern) (compare select : List ℕ) (n : ℕ) (t : PlainType) (types : List PlainType) → is_root table compare ≡ false → is_root table select ≡ false → length types ≡ 2
    → StepsFit table types (by_comparison compare select n t).steps []
no_roots_fit table compare select n t types of_compare of_select =
    two_items (λ types. StepsFit table types (by_comparison compare select n t).steps [])
    (λ u v. ((u ∷ v ∷ [], refl, λ root. absurd (true≢false (sym root ∙ of_compare))), ((_, refl, λ root. absurd (true≢false (sym root ∙ of_select))), tt))) types

record Extreme (n : ℕ) (ts : List PlainType) (t : Template) : Type 0 where
  type : PlainType
  types_are : ts ≡ type ∷ []
  is : by_comparison (codes "llvm.icmp") (codes "llvm.select") n type ≡ t

extreme_is : (n : ℕ) (ts : List PlainType) (t : Template) → extreme_types n ts ≡ Some t → Extreme n ts t
extreme_is n (u ∷ []) t e = record { type = u; types_are = refl; is = of_some e }
extreme_is n _ t e = absurd (none_is e)

module _ (bits : ℕ) (h : width bits ≡ Some bits) (table : List Pattern) (no_compare : is_root table (codes "llvm.icmp") ≡ false) (no_select : is_root table (codes "llvm.select") ≡ false) where
  extreme_sound : (root : List ℕ) (op : Binary) (n : ℕ) (c : Comparison) → class_of root classes ≡ Some (two op) → comparison_at n comparisons ≡ Some c → ComesFrom op (first_where c)
      → RowSound bits table root (new_type bits) (Straight (extreme_row n bits))
  extreme_sound root op n c of_root is law o t named fit defined =
      let d : (is_plain 2 1 o ≡ true) × (extreme_types n (all_types bits o.results) ≡ Some t) = when_is _ _ t defined in
      let p : IsPlain 2 1 o = plain_is 2 1 o d.0 in
      let e : Extreme n (all_types bits o.results) t = extreme_is n (all_types bits o.results) t d.1 in
      subst (λ t. RowHolds bits table (new_type bits) o t) e.is
      (extreme_holds bits (codes "llvm.icmp") (codes "llvm.select") n c refl refl (comparison_is n ∙ is) root op of_root law h table (new_type bits) o e.type named p.operands e.types_are p.results
      (width_in_becomes bits h 0 o.operands) (no_roots_fit table _ _ n e.type (all_types bits o.operands) no_compare no_select (length-map o.operands _ ∙ p.operands)))

-- none of the names that the rows make is a root
pub record NoRoots (table : List Pattern) : Type 0 where
  pub constant : is_root table (codes "llvm.mlir.constant") ≡ false
  pub add : is_root table (codes "llvm.add") ≡ false
  pub sub : is_root table (codes "llvm.sub") ≡ false
  pub mul : is_root table (codes "llvm.mul") ≡ false
  pub sdiv : is_root table (codes "llvm.sdiv") ≡ false
  pub udiv : is_root table (codes "llvm.udiv") ≡ false
  pub srem : is_root table (codes "llvm.srem") ≡ false
  pub urem : is_root table (codes "llvm.urem") ≡ false
  pub bits_and : is_root table (codes "llvm.and") ≡ false
  pub bits_or : is_root table (codes "llvm.or") ≡ false
  pub xor : is_root table (codes "llvm.xor") ≡ false
  pub shl : is_root table (codes "llvm.shl") ≡ false
  pub ashr : is_root table (codes "llvm.ashr") ≡ false
  pub lshr : is_root table (codes "llvm.lshr") ≡ false
  pub icmp : is_root table (codes "llvm.icmp") ≡ false
  pub select : is_root table (codes "llvm.select") ≡ false
  pub sext : is_root table (codes "llvm.sext") ≡ false
  pub zext : is_root table (codes "llvm.zext") ≡ false
  pub trunc : is_root table (codes "llvm.trunc") ≡ false

module _ (bits : ℕ) (h : width bits ≡ Some bits) (table : List Pattern) (no : NoRoots table) where
  flags : (root name : List ℕ) (op : Flags → Binary) → class_of root classes ≡ Some (flagged op) → class_of name classes ≡ Some (flagged op) → is_root table name ≡ false → PatternSound bits table (flagged_pattern root name)
  flags root name op of_root of_name free = flagged_sound bits h table root name free op of_root of_name

  plain : (root name : List ℕ) (op : Binary) → class_of root classes ≡ Some (two op) → class_of name classes ≡ Some (two op) → is_root table name ≡ false → PatternSound bits table (binary_pattern root name)
  plain root name op of_root of_name free = binary_sound bits h table root name free op of_root of_name

  pub arith_sound : PatternsSound bits table arith_set
  arith_sound = (
    constant_sound bits h table no.constant,
    (
      flags (codes "arith.addi") (codes "llvm.add") Add refl refl no.add,
      (
        flags (codes "arith.subi") (codes "llvm.sub") Subtract refl refl no.sub,
        (
          flags (codes "arith.muli") (codes "llvm.mul") Multiply refl refl no.mul,
          (
            plain (codes "arith.divsi") (codes "llvm.sdiv") Divide refl refl no.sdiv,
            (
              plain (codes "arith.divui") (codes "llvm.udiv") DivideUnsigned refl refl no.udiv,
              (
                plain (codes "arith.remsi") (codes "llvm.srem") Remainder refl refl no.srem,
                (
                  plain (codes "arith.remui") (codes "llvm.urem") RemainderUnsigned refl refl no.urem,
                  (
                    plain (codes "arith.andi") (codes "llvm.and") And refl refl no.bits_and,
                    (
                      plain (codes "arith.ori") (codes "llvm.or") Or refl refl no.bits_or,
                      (
                        plain (codes "arith.xori") (codes "llvm.xor") Xor refl refl no.xor,
                        (
                          flags (codes "arith.shli") (codes "llvm.shl") ShiftLeft refl refl no.shl,
                          (
                            plain (codes "arith.shrsi") (codes "llvm.ashr") ShiftRight refl refl no.ashr,
                            (
                              plain (codes "arith.shrui") (codes "llvm.lshr") ShiftRightUnsigned refl refl no.lshr,
                              (
                                cmpi_sound bits h table no.icmp,
                                (
                                  select_sound bits h table no.select,
                                  (
                                    extended_sound bits h table (codes "arith.extsi") (codes "llvm.sext") no.sext (λ w m. ExtendSigned m) refl refl,
                                    (
                                      extended_sound bits h table (codes "arith.extui") (codes "llvm.zext") no.zext (λ w m. Extend m) refl refl,
                                      (
                                        trunci_sound bits h table no.trunc,
                                        (
                                          index_cast_sound bits h table (codes "arith.index_cast") (codes "llvm.sext") ExtendSigned refl refl no.sext no.trunc,
                                          (
                                            index_cast_sound bits h table (codes "arith.index_castui") (codes "llvm.zext") Extend refl refl no.zext no.trunc,
                                            (
                                              extreme_sound bits h table no.icmp no.select (codes "arith.maxsi") Greater 4 Above refl refl extremes.greater,
                                              (
                                                extreme_sound bits h table no.icmp no.select (codes "arith.maxui") GreaterUnsigned 8 AboveUnsigned refl refl extremes.greater_unsigned,
                                                (
                                                  extreme_sound bits h table no.icmp no.select (codes "arith.minsi") Less 2 Below refl refl extremes.less,
                                                  (
                                                    extreme_sound bits h table no.icmp no.select (codes "arith.minui") LessUnsigned 6 BelowUnsigned refl refl extremes.less_unsigned,
                                                    tt,
                                                  ),
                                                ),
                                              ),
                                            ),
                                          ),
                                        ),
                                      ),
                                    ),
                                  ),
                                ),
                              ),
                            ),
                          ),
                        ),
                      ),
                    ),
                  ),
                ),
              ),
            ),
          ),
        ),
      ),
    ),
  )
