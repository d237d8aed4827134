-- A function in whose regions operations are replaced by lines keeps the rules.
use Rattle.std.proofs.Common.{◌≡◌, ℕ, ◌==◌, true, List, [], refl, sym, ap, ◌∙◌, inl, inr, true≢false}
use Rattle.std.specs.Prelude.{◌&&◌}
use Rattle.std.proofs.lemmas.Bool.{eqb-true}
use Rattle.plain_tree.specs.Types.{PlainType}
use Rattle.plain_tree.specs.Ops.{Op, op}
use Rattle.plain_tree.specs.Values.{op_values, regions_values, types_of}
use Rattle.rule_model.specs.Words.{numbers}
use Rattle.rule_model.specs.Formed.{are_once, is_formed_here, is_function_name, regions_labels}
use Rattle.rule_model.proofs.Numbers.{and_first, and_second, itself}
use Rattle.conversion_model.specs.Conversion.{Supply}
use Rattle.conversion_model.specs.Fresh.{Fresh, IsOld, IsOldLabel, of_line}
use Rattle.line_rules.specs.Lines.{HasValue}
use Rattle.line_rules.specs.Promises.{AnyStays, FittingLine, KeepingLine, KeepingTurn, LinesKeepDefined, LinesKeepFormed, LinesKeepOwn, LinesKeepTests, NoTurn, OldLine, OldTurn, RankedLine, RankedTurn}
use Rattle.line_rules.specs.Lines.{operands_regions}
use Rattle.line_rules.proofs.LinedChains.{lined_own}
use Rattle.line_rules.proofs.LinedFormed.{lined_formed}
use Rattle.line_rules.proofs.LinedScopes.{lined_defined}
use Rattle.line_rules.proofs.LinedTests.{lined_tests}
use Rattle.line_rules.proofs.LinedValues.{regions_kept}
use Rattle.line_rules.proofs.Once.{once_defined, type_of_value, type_once, value_cases, value_left, value_right}

-- New values

pub new_apart : (new : Supply) (v n k : ℕ) → IsOld new v → v ≡ new.value n 0 k → ⊥
new_apart new v n k old e = true≢false (sym (ap (λ x. v == x) (sym e) ∙ itself v) ∙ old (of_line n 0 k))

pub new_unique : (new : Supply) (f : Op) → Fresh new f → (n k m j : ℕ) → new.value n 0 k ≡ new.value m 0 j → (n ≡ m) × (k ≡ j)
new_unique new f fresh n k m j e =
    let same : ((n == m) && ((0 == 0) && (k == j))) ≡ true = sym (fresh.values (of_line n 0 k) (of_line m 0 j)) ∙ ap (λ x. x == new.value m 0 j) e ∙ itself (new.value m 0 j) in
    (eqb-true n m (and_first (n == m) _ same), eqb-true k j (and_second (n == m) (k == j) same))

pub lines_defined : LinesKeepDefined
lines_defined new k rs os ls r s lined fresh d = lined_defined (IsOld new) (IsOldLabel new) AnyStays (OldLine new) (OldTurn new) (λ n o l x. x) (λ n o l t x. x) k rs os ls lined fresh.apart d

pub lines_formed : LinesKeepFormed
lines_formed new k rs os ls r s lined once e = lined_formed (IsOld new) AnyStays (KeepingLine new) (KeepingTurn new) (λ n o l x. x.0) (λ n o l t x. x.0) (λ n o l x. x.1) (λ n o l t x. x.1) k rs os ls lined once e

pub lines_own : LinesKeepOwn
lines_own new k rs os ls r s lined fresh never =
    lined_own (op k rs os r ls) (IsOld new) (IsOldLabel new) (λ n j. new.value n 0 j) (operands_regions 1 r) AnyStays (RankedLine new r) (RankedTurn new r) (λ n o l x. x.0) (λ n o l x. x.1) (λ n o l t x. x.0) (λ n o l t x. x.1)
    k rs os ls refl lined fresh.apart (λ v n j old is. new_apart new v n j old is) (new_unique new (op k rs os r ls) fresh) never

pub lines_tests : LinesKeepTests
lines_tests new c k rs os ls r s lined once e kept =
    let f : Op = op k rs os r ls in
    let h : Op = op k rs os s ls in
    let was : List ℕ = numbers (op_values f []) in
    let T : ℕ → PlainType = types_of f in
    let p2 = and_second (are_once was) _ (and_second (is_function_name k.name) _ e) in
    let p3 = and_second (are_once (regions_labels r)) _ p2 in
    let value : (x : ℕ) (t : PlainType) → HasValue x t (op_values f []) → HasValue x t (op_values h []) = λ x t v.
    elim (value_cases x t rs (regions_values r []) v) [
      | inl a ↦ value_left x t rs (regions_values s []) a
      | inr a ↦ value_right x t rs (regions_values s []) (regions_kept AnyStays (FittingLine new f) NoTurn (λ n o l y. y.1) (λ n o l z y. absurd y) x t [] [] lined (λ z. z) a)
    ] in
    lined_tests (IsOld new) T (types_of h) AnyStays (FittingLine new f) NoTurn (λ n o l y. y.0) (λ n o l y. y.1) (λ n o l y. y.2) (λ n o l t y. y) c k rs os ls was lined
    (λ x a. type_once (op_values h []) x (T x) (once_defined h once) (value x (T x) (type_of_value (op_values f []) x a)))
    (λ x t v. type_once (op_values h []) x t (once_defined h once) (value_right x t rs (regions_values s []) v)) (and_first (is_formed_here was [] k rs os ls) _ p3) (and_second (is_formed_here was [] k rs os ls) _ p3) kept
