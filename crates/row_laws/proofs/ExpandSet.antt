-- The rows of arith_expand are sound.
use Rattle.std.proofs.Common.{◌≡◌, ℕ, ◌<◌, List, [], ◌∷◌, Some, None, true, false, refl, sym, ap, subst, ◌∙◌}
use Rattle.std.specs.Prelude.{codes, pos, ◌*ℤ◌, ◌-ℤ◌, ◌+ℤ◌, bit_and, if◌then◌else◌}
use Rattle.number_model.specs.Numbers.{unsigned, wrapped}
use Rattle.number_model.specs.Answers.{Answer, Gives, and_then, with_answer}
use Rattle.number_model.specs.Answers.{Answer as answer}
use Rattle.number_model.specs.Arithmetic.{Flags, no_flags, Binary, binary, Add, Subtract, Multiply, Divide, DivideUnsigned, DivideUp, DivideDown, DivideUpUnsigned, And, Greater, Less, Comparison, Equal, Unequal, Above, Below}
use Rattle.operation_model.specs.Values.{Value, Integer}
use Rattle.operation_model.specs.Pures.{integer, is_set}
use Rattle.operation_model.specs.Doings.{Doing}
use Rattle.plain_tree.specs.Types.{PlainType, Int}
use Rattle.conversion_model.specs.Templates.{Template}
use Rattle.conversion_model.specs.Rows.{Pattern, Straight}
use Rattle.conversion_model.specs.Chosen.{change_of}
use Rattle.form_model.specs.Types.{width}
use Rattle.form_model.specs.Properties.{comparison_at, comparisons}
use Rattle.form_model.specs.Classes.{class_of, classes, two, flagged}
use Rattle.pattern_model.specs.Drafts.{Draft, is_plain, when}
use Rattle.pattern_model.specs.ExpandRows.{of_type, rounded, ceildivui_draft, extreme_draft, expand_set}
use Rattle.plain_tree.specs.Attrs.{Number}
use Rattle.rule_model.specs.declared.shapes.Shape.TheVariants.{FlaggedNumbers, TwoNumbers}
use Rattle.rule_model.specs.Rows.{shape_of}
use Rattle.rule_model.specs.Forms.{is_number, is_predicate}
use Rattle.sound_model.specs.Soundness.{StepsFit, RowHolds, RowSound, PatternsSound}
use Rattle.row_laws.proofs.StepFits.{fit_two, fit_flagged, fit_compared, fit_constant, fit_selected}
use Rattle.sound_model.specs.Runs.{items_of, types_made, template_runs}
use Rattle.row_numbers.specs.Sequences.{constant, compared, selected, up_unsigned, first_where}
use Rattle.row_numbers.proofs.Extremes.{extremes}
use Rattle.row_numbers.proofs.Quotients.{roundings}
use Rattle.row_numbers.specs.Sequences.{rounded as rounded_numbers}
use Rattle.row_laws.proofs.Values.{of_some, when_is}
use Rattle.row_laws.proofs.Fits.{OfNumbers, of_numbers}
use Rattle.row_laws.proofs.Forms.{width_in}
use Rattle.row_laws.proofs.Steps.{line_ended, line_on, line_gives, of_gives, undefined_gives, outside_gives}
use Rattle.row_laws.proofs.Extremes.{choice_of_integers}
use Rattle.row_laws.proofs.Expanded.{form_two, form_flagged, form_compared, form_selected, form_constant, bit_width, numbers_hold}

-- what is given by an answer and what follows
record InTurn (x : Answer ℕ) (next : ℕ → Answer ℕ) (r : ℕ) : Type 0 where
  value : ℕ
  first : x ≡ Gives value
  then_given : next value ≡ Gives r

in_turn : (x : Answer ℕ) (next : ℕ → Answer ℕ) (r : ℕ) → and_then x next ≡ Gives r → InTurn x next r
in_turn (Gives a) next r e = record { value = a; first = refl; then_given = e }
in_turn answer.Undefined next r e = absurd (undefined_gives e)
in_turn answer.Outside next r e = absurd (outside_gives e)

-- whether the step on is taken, from the product of quotient and divisor
abbrev gate : Comparison → ℕ → ℕ → ℕ → ℕ → ℕ
gate signs w a b m = bit_and (unsigned 1 (compared Unequal w a m)) (unsigned 1 (compared signs 1 (compared Below w a (constant w 0)) (compared Below w b (constant w 0))))

abbrev product : ℕ → ℕ → ℕ → ℕ
product w q b = wrapped w (pos (unsigned w q) *ℤ pos (unsigned w b))

-- what follows the quotient
abbrev behind : Comparison → Binary → ℕ → ℕ → ℕ → ℕ → Answer ℕ
behind signs step w a b q = and_then (binary step w q (constant w 1)) (λ p. Gives (selected (gate signs w a b (product w q b)) p q))

abbrev one_less : ℕ → ℕ → ℕ
one_less w a = wrapped w (pos (unsigned w a) -ℤ pos (unsigned w (constant w 1)))

abbrev one_more : ℕ → ℕ → ℕ
one_more w q = wrapped w (pos (unsigned w q) +ℤ pos (unsigned w (constant w 1)))

module _ (bits w : ℕ) (t : PlainType) (number : is_number t ≡ true) (has : width_in bits 0 (t ∷ []) ≡ Some w) (labels : List ℕ) (next : List Value → Doing) where
  -- the quotient towards zero and the step on from it
  rounded_line : (signs : ℕ) (c : Comparison) (name : List ℕ) (step : Flags → Binary) → comparison_at signs comparisons ≡ Some c → class_of name classes ≡ Some (flagged step)
      → (a b q p : ℕ) → binary Divide w a b ≡ Gives q → binary (step no_flags) w q (constant w 1) ≡ Gives p
      → template_runs bits (t ∷ t ∷ []) (Integer a ∷ Integer b ∷ []) labels (rounded signs name t 0) next ≡ next (Integer (selected (gate c w a b (product w q b)) p q) ∷ [])
  rounded_line signs c name step is of_name a b q p quotient step_on =
      line_gives bits (t ∷ t ∷ []) (Integer a ∷ Integer b ∷ []) labels (rounded signs name t 0) _ ((if is_set (gate c w a b (product w q b)) then Integer p else Integer q) ∷ []) next
      (line_on refl refl (form_two bits w (t ∷ t ∷ []) (t ∷ []) has (codes "arith.divsi") Divide refl) (ap (with_answer integer) quotient)
      (line_on refl refl (form_flagged bits w (t ∷ t ∷ []) (t ∷ []) has (codes "arith.muli") Multiply refl) refl
      (line_on refl refl (form_compared bits w (t ∷ t ∷ []) (Int 1 ∷ []) has 1 Unequal refl) refl
      (line_on refl refl (form_constant bits w t number has 0) refl
      (line_on refl refl (form_compared bits w (t ∷ t ∷ []) (Int 1 ∷ []) has 2 Below refl) refl
      (line_on refl refl (form_compared bits w (t ∷ t ∷ []) (Int 1 ∷ []) has 2 Below refl) refl
      (line_on refl refl (form_compared bits 1 (Int 1 ∷ Int 1 ∷ []) (Int 1 ∷ []) (bit_width bits (Int 1 ∷ [])) signs c is) refl
      (line_on refl refl (form_two bits 1 (Int 1 ∷ Int 1 ∷ []) (Int 1 ∷ []) (bit_width bits (Int 1 ∷ [])) (codes "arith.andi") And refl) refl
      (line_on refl refl (form_constant bits w t number has 1) refl
      (line_on refl refl (form_flagged bits w (t ∷ t ∷ []) (t ∷ []) has name step of_name) (ap (with_answer integer) step_on)
      (line_on refl refl (form_selected bits (Int 1 ∷ t ∷ t ∷ []) (t ∷ [])) refl
      line_ended))))))))))) refl
      ∙ ap (λ v. next (v ∷ [])) (choice_of_integers (is_set (gate c w a b (product w q b))) p q)

  rounded_runs : (signs : ℕ) (c : Comparison) (name : List ℕ) (step : Flags → Binary) → comparison_at signs comparisons ≡ Some c → class_of name classes ≡ Some (flagged step)
      → (a b r : ℕ) → rounded_numbers c (step no_flags) w a b ≡ Gives r
      → template_runs bits (t ∷ t ∷ []) (Integer a ∷ Integer b ∷ []) labels (rounded signs name t 0) next ≡ next (Integer r ∷ [])
  rounded_runs signs c name step is of_name a b r given = go (in_turn (binary Divide w a b) (behind c (step no_flags) w a b) r given)
    where
      ends : (q : ℕ) → binary Divide w a b ≡ Gives q → InTurn (binary (step no_flags) w q (constant w 1)) (λ p. Gives (selected (gate c w a b (product w q b)) p q)) r
          → template_runs bits (t ∷ t ∷ []) (Integer a ∷ Integer b ∷ []) labels (rounded signs name t 0) next ≡ next (Integer r ∷ [])
      ends q first p = rounded_line signs c name step is of_name a b q p.value first p.first ∙ ap (λ n. next (Integer n ∷ [])) (of_gives p.then_given)

      go : InTurn (binary Divide w a b) (behind c (step no_flags) w a b) r → template_runs bits (t ∷ t ∷ []) (Integer a ∷ Integer b ∷ []) labels (rounded signs name t 0) next ≡ next (Integer r ∷ [])
      go q = ends q.value q.first (in_turn (binary (step no_flags) w q.value (constant w 1)) (λ p. Gives (selected (gate c w a b (product w q.value b)) p q.value)) r q.then_given)

  -- one more than the quotient of one less
  up_unsigned_line : (a b q : ℕ) → binary DivideUnsigned w (one_less w a) b ≡ Gives q
      → template_runs bits (t ∷ t ∷ []) (Integer a ∷ Integer b ∷ []) labels (ceildivui_draft t 0) next ≡ next (Integer (selected (compared Equal w a (constant w 0)) (constant w 0) (one_more w q)) ∷ [])
  up_unsigned_line a b q quotient =
      line_gives bits (t ∷ t ∷ []) (Integer a ∷ Integer b ∷ []) labels (ceildivui_draft t 0) _ ((if is_set (compared Equal w a (constant w 0)) then Integer (constant w 0) else Integer (one_more w q)) ∷ []) next
      (line_on refl refl (form_constant bits w t number has 0) refl
      (line_on refl refl (form_constant bits w t number has 1) refl
      (line_on refl refl (form_compared bits w (t ∷ t ∷ []) (Int 1 ∷ []) has 0 Equal refl) refl
      (line_on refl refl (form_flagged bits w (t ∷ t ∷ []) (t ∷ []) has (codes "arith.subi") Subtract refl) refl
      (line_on refl refl (form_two bits w (t ∷ t ∷ []) (t ∷ []) has (codes "arith.divui") DivideUnsigned refl) (ap (with_answer integer) quotient)
      (line_on refl refl (form_flagged bits w (t ∷ t ∷ []) (t ∷ []) has (codes "arith.addi") Add refl) refl
      (line_on refl refl (form_selected bits (Int 1 ∷ t ∷ t ∷ []) (t ∷ [])) refl
      line_ended))))))) refl
      ∙ ap (λ v. next (v ∷ [])) (choice_of_integers (is_set (compared Equal w a (constant w 0))) (constant w 0) (one_more w q))

  up_unsigned_runs : (a b r : ℕ) → up_unsigned w a b ≡ Gives r → template_runs bits (t ∷ t ∷ []) (Integer a ∷ Integer b ∷ []) labels (ceildivui_draft t 0) next ≡ next (Integer r ∷ [])
  up_unsigned_runs a b r given = go (in_turn (binary DivideUnsigned w (one_less w a) b) (λ q. Gives (selected (compared Equal w a (constant w 0)) (constant w 0) (one_more w q))) r given)
    where
      go : InTurn (binary DivideUnsigned w (one_less w a) b) (λ q. Gives (selected (compared Equal w a (constant w 0)) (constant w 0) (one_more w q))) r
          → template_runs bits (t ∷ t ∷ []) (Integer a ∷ Integer b ∷ []) labels (ceildivui_draft t 0) next ≡ next (Integer r ∷ [])
      go q = up_unsigned_line a b q.value q.first ∙ ap (λ n. next (Integer n ∷ [])) (of_gives q.then_given)

-- the greater or the less of two
extreme_runs : (bits w : ℕ) (t : PlainType) → width_in bits 0 (t ∷ []) ≡ Some w → (labels : List ℕ) (next : List Value → Doing) (n : ℕ) (c : Comparison) → comparison_at n comparisons ≡ Some c
    → (a b r : ℕ) → first_where c w a b ≡ Gives r → template_runs bits (t ∷ t ∷ []) (Integer a ∷ Integer b ∷ []) labels (extreme_draft n t 0) next ≡ next (Integer r ∷ [])
extreme_runs bits w t has labels next n c is a b r given =
    line_gives bits (t ∷ t ∷ []) (Integer a ∷ Integer b ∷ []) labels (extreme_draft n t 0) _ ((if is_set (compared c w a b) then Integer a else Integer b) ∷ []) next
    (line_on refl refl (form_compared bits w (t ∷ t ∷ []) (Int 1 ∷ []) has n c is) refl
    (line_on refl refl (form_selected bits (Int 1 ∷ t ∷ t ∷ []) (t ∷ [])) refl
    line_ended)) refl
    ∙ ap (λ v. next (v ∷ [])) (choice_of_integers (is_set (compared c w a b)) a b) ∙ ap (λ n. next (Integer n ∷ [])) (of_gives given)

-- Each operation that the rows make is as the rules ask
module _ (table : List Pattern) (t : PlainType) (number : is_number t ≡ true) where
  rounded_fit : (signs : ℕ) (name : List ℕ) → is_predicate (Number (pos signs) (Int 64)) ≡ true → shape_of name ≡ Some FlaggedNumbers → StepsFit table (t ∷ t ∷ []) (rounded signs name t 0).steps []
  rounded_fit signs name there shape = (
    (t ∷ t ∷ [], refl, λ root. fit_two (codes "arith.divsi") t refl number),
    (
      (t ∷ t ∷ [], refl, λ root. fit_flagged (codes "arith.muli") t refl number),
      (
        (t ∷ t ∷ [], refl, λ root. fit_compared 1 t refl number),
        (
          ([], refl, λ root. fit_constant t (pos 0) number),
          (
            (t ∷ t ∷ [], refl, λ root. fit_compared 2 t refl number),
            (
              (t ∷ t ∷ [], refl, λ root. fit_compared 2 t refl number),
              (
                (Int 1 ∷ Int 1 ∷ [], refl, λ root. fit_compared signs (Int 1) there refl),
                (
                  (Int 1 ∷ Int 1 ∷ [], refl, λ root. fit_two (codes "arith.andi") (Int 1) refl refl),
                  (
                    ([], refl, λ root. fit_constant t (pos 1) number),
                    (
                      (t ∷ t ∷ [], refl, λ root. fit_flagged name t shape number),
                      (
                        (Int 1 ∷ t ∷ t ∷ [], refl, λ root. fit_selected t number),
                        tt,
                      ),
                    ),
                  ),
                ),
              ),
            ),
          ),
        ),
      ),
    ),
  )

  up_unsigned_fit : StepsFit table (t ∷ t ∷ []) (ceildivui_draft t 0).steps []
  up_unsigned_fit = (
    ([], refl, λ root. fit_constant t (pos 0) number),
    (
      ([], refl, λ root. fit_constant t (pos 1) number),
      (
        (t ∷ t ∷ [], refl, λ root. fit_compared 0 t refl number),
        (
          (t ∷ t ∷ [], refl, λ root. fit_flagged (codes "arith.subi") t refl number),
          (
            (t ∷ t ∷ [], refl, λ root. fit_two (codes "arith.divui") t refl number),
            (
              (t ∷ t ∷ [], refl, λ root. fit_flagged (codes "arith.addi") t refl number),
              (
                (Int 1 ∷ t ∷ t ∷ [], refl, λ root. fit_selected t number),
                tt,
              ),
            ),
          ),
        ),
      ),
    ),
  )

  extreme_fit : (n : ℕ) → is_predicate (Number (pos n) (Int 64)) ≡ true → StepsFit table (t ∷ t ∷ []) (extreme_draft n t 0).steps []
  extreme_fit n there = (
    (t ∷ t ∷ [], refl, λ root. fit_compared n t there number),
    (
      (Int 1 ∷ t ∷ t ∷ [], refl, λ root. fit_selected t number),
      tt,
    ),
  )

-- The rows

-- the template of a row by the type of the result
of_type_is : (d : PlainType → Draft) (ts : List PlainType) (t : PlainType) (tpl : Template) → ts ≡ t ∷ [] → of_type d ts ≡ Some tpl → d t 0 ≡ tpl
of_type_is d ts t tpl is defined = of_some (sym (ap (of_type d) is) ∙ defined)

module _ (bits : ℕ) (h : width bits ≡ Some bits) (table : List Pattern) where
  -- a row of an operation of two numbers
  of_draft : (root : List ℕ) (op : Binary) → class_of root classes ≡ Some (two op) → shape_of root ≡ Some TwoNumbers → (d : PlainType → Draft)
      → ((t : PlainType) → is_number t ≡ true → StepsFit table (t ∷ t ∷ []) (d t 0).steps [])
      → ((t : PlainType) → items_of (t ∷ t ∷ []) (types_made (d t 0).steps) (d t 0).results ≡ Some (t ∷ []))
      → ((w : ℕ) (t : PlainType) → 0 < w → is_number t ≡ true → width_in bits 0 (t ∷ []) ≡ Some w → (labels : List ℕ) (next : List Value → Doing) (a b r : ℕ) → binary op w a b ≡ Gives r
      → template_runs bits (t ∷ t ∷ []) (Integer a ∷ Integer b ∷ []) labels (d t 0) next ≡ next (Integer r ∷ []))
      → RowSound bits table root (change_of bits false) (Straight (λ o. when (is_plain 2 1 o) (of_type d o.results)))
  of_draft root op of_root shape d fits result runs o tpl named fit defined =
      let c : OfNumbers o = of_numbers o root named shape fit in
      let x : (is_plain 2 1 o ≡ true) × (of_type d o.results ≡ Some tpl) = when_is _ _ tpl defined in
      subst (λ tpl. RowHolds bits table (λ t. None) o tpl) (of_type_is d o.results c.type tpl c.results x.1)
      (numbers_hold bits h table o c root named op of_root (d c.type 0)
      (λ w above has a b r labels next given. runs w c.type above c.is_number has labels next a b r given) (fits c.type c.is_number) (result c.type))

  pub expand_sound : PatternsSound bits table expand_set
  expand_sound = (
    of_draft (codes "arith.ceildivsi") DivideUp refl refl (rounded 0 (codes "arith.addi"))
        (λ t number. rounded_fit table t number 0 (codes "arith.addi") refl refl) (λ t. refl)
        (λ w t above number has labels next a b r given. rounded_runs bits w t number has labels next 0 Equal (codes "arith.addi") Add refl refl a b r (roundings.upward w a b r above given)),
    (
      of_draft (codes "arith.ceildivui") DivideUpUnsigned refl refl ceildivui_draft
          (λ t number. up_unsigned_fit table t number) (λ t. refl)
          (λ w t above number has labels next a b r given. up_unsigned_runs bits w t number has labels next a b r (roundings.upward_unsigned w a b r above given)),
      (
        of_draft (codes "arith.floordivsi") DivideDown refl refl (rounded 1 (codes "arith.subi"))
            (λ t number. rounded_fit table t number 1 (codes "arith.subi") refl refl) (λ t. refl)
            (λ w t above number has labels next a b r given. rounded_runs bits w t number has labels next 1 Unequal (codes "arith.subi") Subtract refl refl a b r (roundings.downward w a b r above given)),
        (
          of_draft (codes "arith.maxsi") Greater refl refl (extreme_draft 4)
              (λ t number. extreme_fit table t number 4 refl) (λ t. refl)
              (λ w t above number has labels next a b r given. extreme_runs bits w t has labels next 4 Above refl a b r (extremes.greater w a b r above given)),
          (
            of_draft (codes "arith.minsi") Less refl refl (extreme_draft 2)
                (λ t number. extreme_fit table t number 2 refl) (λ t. refl)
                (λ w t above number has labels next a b r given. extreme_runs bits w t has labels next 2 Below refl a b r (extremes.less w a b r above given)),
            tt,
          ),
        ),
      ),
    ),
  )
