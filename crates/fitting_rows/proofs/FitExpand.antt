-- The patterns of arith_expand make operations that fit.
use Rattle.std.proofs.Common.{◌≡◌, ℕ, true, false, List, [], ◌∷◌, Option, Some, None, refl, sym, ap, ◌∙◌, subst, true≢false}
use Rattle.std.specs.Prelude.{codes, pos}
use Rattle.std.proofs.lemmas.Option.{none-some}
use Rattle.plain_tree.specs.Types.{PlainType, Int, Index, Memref, Func, Ptr, Void, Struct, Array, LlvmFunc}
use Rattle.plain_tree.specs.Attrs.{Entries, Number}
use Rattle.rule_model.specs.declared.shapes.Shape.TheVariants.{FlaggedNumbers, TwoNumbers}
use Rattle.rule_model.specs.Words.{AllOf}
use Rattle.conversion_model.specs.Templates.{Template}
use Rattle.conversion_model.specs.Targets.{Shape}
use Rattle.conversion_model.specs.Rows.{Straight}
use Rattle.conversion_model.specs.Chosen.{and_then, by_row, by_template, change_of, has_root, Leaves}
use Rattle.pattern_model.specs.Drafts.{constant_value, predicate, wrapped}
use Rattle.rule_model.specs.Rows.{shape_of}
use Rattle.rule_model.specs.Forms.{is_predicate}
use Rattle.rule_model.specs.Types.{operands_fit, results_fit}
use Rattle.rule_model.specs.Formed.{are_formed_entries, is_inner_name, is_number_of}
use Rattle.pattern_model.specs.ExpandRows.{ceildivsi_row, ceildivui_row, expand_set, expands, extreme_draft, floordivsi_row, maxsi_row, minsi_row, ceildivui_draft, rounded}
use Rattle.fitting_rows.specs.Typed.{CastsFit, RowTyped, Typed, LeavesTyped, PatternTyped, TableTyped}
use Rattle.line_rules.specs.Fits.{facts_alone, Fits}
use Rattle.fitting_rows.proofs.TypedTemplates.{by_template_typed}
use Rattle.line_rules.proofs.SameTypes.{and_true, same_self}
use Rattle.fitting_rows.proofs.FitShapes.{fit_compare, fit_constant, fit_flagged, fit_select, fit_two, good_num, integer_formed, Num, num_bit, shape_with}
use Rattle.fitting_rows.proofs.FitViews.{Binary, binary, form_is, view_two}

no_casts : (bits : ℕ) (ts : List PlainType) → AllOf (CastsFit Fits (change_of bits false)) ts
no_casts bits [] = tt
no_casts bits (t ∷ ts) = (λ u e. absurd (none-some u e), no_casts bits ts)

-- a constant of a number type, where the number is one of `index`
number_constant : (n : ℕ) (t : PlainType) → is_number_of Index (pos n) ≡ true → Num t → Fits (shape_with (codes "arith.constant") [] (t ∷ []) (constant_value t (pos n)))
number_constant n (Int w) small k = fit_constant (codes "arith.constant") (Int w) (Number (wrapped w (pos n)) (Int w)) refl refl k (same_self (Int w)) (integer_formed w (pos n) k.formed)
number_constant n Index small k = fit_constant (codes "arith.constant") Index (Number (pos n) Index) refl refl k refl (and_true (is_number_of Index (pos n)) true small refl)
number_constant n (Memref ds t) small k = absurd (true≢false (sym k.number))
number_constant n (Func a b) small k = absurd (true≢false (sym k.number))
number_constant n Ptr small k = absurd (true≢false (sym k.number))
number_constant n Void small k = absurd (true≢false (sym k.number))
number_constant n (Struct a) small k = absurd (true≢false (sym k.number))
number_constant n (Array m t) small k = absurd (true≢false (sym k.number))
number_constant n (LlvmFunc a b) small k = absurd (true≢false (sym k.number))

abbrev binary_shape : List ℕ → PlainType → Entries → Entries → Shape
binary_shape name t props attrs = record { name = name; operands = t ∷ t ∷ []; results = t ∷ []; props = props; attrs = attrs; successors = 0; regions = 0 }

-- the template of a row of two numbers
abbrev Expanded : ℕ → (PlainType → Template) → Type 0
Expanded bits d = (name : List ℕ) (t : PlainType) (props attrs : Entries) → Num t → RowTyped Fits (change_of bits false) (binary_shape name t props attrs) (d t)

expanded : (bits : ℕ) (d : PlainType → Template) → Expanded bits d → (row : Shape → Option Template) → ((name : List ℕ) (t : PlainType) (props attrs : Entries) → row (binary_shape name t props attrs) ≡ Some (d t))
    → (leaves : Leaves) (o : Shape) (t : Template) → LeavesTyped Fits leaves → Binary Num o → by_row bits false leaves o (Straight row) ≡ Some t → Typed Fits o t
expanded bits d typed row is leaves _ r leaf (binary name t props attrs n) e =
    by_template_typed Fits (change_of bits false) leaves (binary_shape name t props attrs) (d t) r leaf (typed name t props attrs n) (no_casts bits (t ∷ t ∷ [])) (no_casts bits (t ∷ []))
    (sym (ap (λ x. and_then x (by_template (change_of bits false) leaves (binary_shape name t props attrs))) (is name t props attrs)) ∙ e)

two_numbers : (o : Shape) (root : List ℕ) → has_root o.name (expands root [] (λ s. None)) ≡ true → shape_of root ≡ Some TwoNumbers → Fits o → Binary Num o
two_numbers o root e known f =
    let same = form_is o root TwoNumbers e known f in
    view_two o.name o.operands o.results o.props o.attrs o.successors o.regions
    (subst (λ s. operands_fit (facts_alone o) s ≡ true) same f.operands) (subst (λ s. results_fit (facts_alone o) s ≡ true) same f.results) f.operands_formed f.ends_here f.bare

extreme_typed : (bits n : ℕ) → is_predicate (Number (pos n) (Int 64)) ≡ true → are_formed_entries (predicate n) ≡ true → Expanded bits (λ t. extreme_draft n t 0)
extreme_typed bits n known formed name t props attrs k = record {
  steps = (
    record { types = t ∷ t ∷ []; are = refl; fits = fit_compare (codes "arith.cmpi") t (Number (pos n) (Int 64)) refl refl k known formed },
    (record { types = Int 1 ∷ t ∷ t ∷ []; are = refl; fits = fit_select (codes "arith.select") t refl refl (good_num t k) }, tt),
  );
  results = refl;
  at_end = refl;
  ones = (refl, (refl, tt));
}

pub maxsi_fits : (bits : ℕ) (makes : List (List ℕ)) → PatternTyped Fits bits (expands (codes "arith.maxsi") makes maxsi_row)
maxsi_fits bits makes leaves o r leaf root f e = expanded bits (λ t. extreme_draft 4 t 0) (extreme_typed bits 4 refl refl) maxsi_row (λ name t props attrs. refl) leaves o r leaf (two_numbers o (codes "arith.maxsi") root refl f) e

pub minsi_fits : (bits : ℕ) (makes : List (List ℕ)) → PatternTyped Fits bits (expands (codes "arith.minsi") makes minsi_row)
minsi_fits bits makes leaves o r leaf root f e = expanded bits (λ t. extreme_draft 2 t 0) (extreme_typed bits 2 refl refl) minsi_row (λ name t props attrs. refl) leaves o r leaf (two_numbers o (codes "arith.minsi") root refl f) e

unsigned_typed : (bits : ℕ) → Expanded bits (λ t. ceildivui_draft t 0)
unsigned_typed bits name t props attrs k = record {
  steps = (
    record { types = []; are = refl; fits = number_constant 0 t refl k },
    (
      record { types = []; are = refl; fits = number_constant 1 t refl k },
      (
        record { types = t ∷ t ∷ []; are = refl; fits = fit_compare (codes "arith.cmpi") t (Number (pos 0) (Int 64)) refl refl k refl refl },
        (
          record { types = t ∷ t ∷ []; are = refl; fits = fit_flagged (codes "arith.subi") t refl refl k },
          (
            record { types = t ∷ t ∷ []; are = refl; fits = fit_two (codes "arith.divui") t refl refl k },
            (
              record { types = t ∷ t ∷ []; are = refl; fits = fit_flagged (codes "arith.addi") t refl refl k },
              (record { types = Int 1 ∷ t ∷ t ∷ []; are = refl; fits = fit_select (codes "arith.select") t refl refl (good_num t k) }, tt),
            ),
          ),
        ),
      ),
    ),
  );
  results = refl;
  at_end = refl;
  ones = (refl, (refl, (refl, (refl, (refl, (refl, (refl, tt)))))));
}

pub ceildivui_fits : (bits : ℕ) (makes : List (List ℕ)) → PatternTyped Fits bits (expands (codes "arith.ceildivui") makes ceildivui_row)
ceildivui_fits bits makes leaves o r leaf root f e = expanded bits (λ t. ceildivui_draft t 0) (unsigned_typed bits) ceildivui_row (λ name t props attrs. refl) leaves o r leaf (two_numbers o (codes "arith.ceildivui") root refl f) e

rounded_typed : (bits signs : ℕ) (last : List ℕ) → is_predicate (Number (pos signs) (Int 64)) ≡ true → are_formed_entries (predicate signs) ≡ true → shape_of last ≡ Some FlaggedNumbers → is_inner_name last ≡ true → Expanded bits (λ t. rounded signs last t 0)
rounded_typed bits signs last known formed flagged inner name t props attrs k = record {
  steps = (
    record { types = t ∷ t ∷ []; are = refl; fits = fit_two (codes "arith.divsi") t refl refl k },
    (
      record { types = t ∷ t ∷ []; are = refl; fits = fit_flagged (codes "arith.muli") t refl refl k },
      (
        record { types = t ∷ t ∷ []; are = refl; fits = fit_compare (codes "arith.cmpi") t (Number (pos 1) (Int 64)) refl refl k refl refl },
        (
          record { types = []; are = refl; fits = number_constant 0 t refl k },
          (
            record { types = t ∷ t ∷ []; are = refl; fits = fit_compare (codes "arith.cmpi") t (Number (pos 2) (Int 64)) refl refl k refl refl },
            (
              record { types = t ∷ t ∷ []; are = refl; fits = fit_compare (codes "arith.cmpi") t (Number (pos 2) (Int 64)) refl refl k refl refl },
              (
                record { types = Int 1 ∷ Int 1 ∷ []; are = refl; fits = fit_compare (codes "arith.cmpi") (Int 1) (Number (pos signs) (Int 64)) refl refl num_bit known formed },
                (
                  record { types = Int 1 ∷ Int 1 ∷ []; are = refl; fits = fit_two (codes "arith.andi") (Int 1) refl refl num_bit },
                  (
                    record { types = []; are = refl; fits = number_constant 1 t refl k },
                    (
                      record { types = t ∷ t ∷ []; are = refl; fits = fit_flagged last t flagged inner k },
                      (record { types = Int 1 ∷ t ∷ t ∷ []; are = refl; fits = fit_select (codes "arith.select") t refl refl (good_num t k) }, tt),
                    ),
                  ),
                ),
              ),
            ),
          ),
        ),
      ),
    ),
  );
  results = refl;
  at_end = refl;
  ones = (refl, (refl, (refl, (refl, (refl, (refl, (refl, (refl, (refl, (refl, (refl, tt)))))))))));
}

pub ceildivsi_fits : (bits : ℕ) (makes : List (List ℕ)) → PatternTyped Fits bits (expands (codes "arith.ceildivsi") makes ceildivsi_row)
ceildivsi_fits bits makes leaves o r leaf root f e =
    expanded bits (λ t. rounded 0 (codes "arith.addi") t 0) (rounded_typed bits 0 (codes "arith.addi") refl refl refl refl) ceildivsi_row (λ name t props attrs. refl) leaves o r leaf (two_numbers o (codes "arith.ceildivsi") root refl f) e

pub floordivsi_fits : (bits : ℕ) (makes : List (List ℕ)) → PatternTyped Fits bits (expands (codes "arith.floordivsi") makes floordivsi_row)
floordivsi_fits bits makes leaves o r leaf root f e =
    expanded bits (λ t. rounded 1 (codes "arith.subi") t 0) (rounded_typed bits 1 (codes "arith.subi") refl refl refl refl) floordivsi_row (λ name t props attrs. refl) leaves o r leaf (two_numbers o (codes "arith.floordivsi") root refl f) e

-- all of them
pub expand_fits : (bits : ℕ) → TableTyped Fits bits expand_set
expand_fits bits = (ceildivsi_fits bits [], (ceildivui_fits bits [], (floordivsi_fits bits [], (maxsi_fits bits [], (minsi_fits bits [], tt)))))
