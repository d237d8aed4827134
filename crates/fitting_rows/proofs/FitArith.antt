-- The patterns of arith_lowering make operations that fit.
use Rattle.std.proofs.Common.{◌≡◌, ℕ, ◌==◌, Bool, true, false, List, [], ◌∷◌, Option, Some, None, refl, sym, ap, ◌∙◌, subst, length, arith, true≢false}
use Rattle.std.specs.Prelude.{not, nat_lt, codes, pos, ℤ, if◌then◌else◌}
use Rattle.std.specs.Str.{bytes_eq}
use Rattle.std.proofs.lemmas.Option.{none-some}
use Rattle.std.proofs.lemmas.Bool.{eqb-false, eqb-true, lt-ltb, ltb-false}
use Rattle.std.proofs.lemmas.Slice.Eq.{bytes_eq-Decides}
use Rattle.plain_tree.specs.Types.{PlainType, Int, Index, Memref, Func, Ptr, Void, Struct, Array, LlvmFunc}
use Rattle.plain_tree.specs.Attrs.{Entries, PlainAttr, Number, Dialect, entry}
use Rattle.rule_model.specs.declared.shapes.Shape.{Shape as Form}
use Rattle.rule_model.specs.declared.shapes.Shape.TheVariants.{CompareNumbers, FlaggedIntegers, FlaggedNumbers, IndexCast, NarrowNumber, NumberConstant, SelectValues, TwoIntegers, TwoNumbers, Widen}
use Rattle.rule_model.specs.Words.{AllOf}
use Rattle.rule_model.specs.Rows.{shape_of}
use Rattle.rule_model.specs.Forms.{is_flags, is_integer, is_integer_of, is_number, is_predicate}
use Rattle.rule_model.specs.Facts.{Facts}
use Rattle.rule_model.specs.Types.{operands_fit, results_fit, index_and_integer, narrower, one_of, wider}
use Rattle.rule_model.specs.Parts.{arith_flags, attributes_fit, has_form, is_value_of, Listed, predicate}
use Rattle.rule_model.specs.Formed.{are_formed_entries, is_formed_property, is_formed_type, is_inner_name}
use Rattle.rule_model.proofs.Numbers.{and_first, and_second, some_same}
use Rattle.conversion_model.specs.declared.templates.Source.TheVariants.{Operand, Made}
use Rattle.conversion_model.specs.Types.{becomes, new_type}
use Rattle.conversion_model.specs.Templates.{Template}
use Rattle.conversion_model.specs.Targets.{Shape}
use Rattle.conversion_model.specs.Rows.{Straight}
use Rattle.conversion_model.specs.Chosen.{and_then, by_row, by_template, cast, Leaves}
use Rattle.pattern_model.specs.Drafts.{constant_value, draft, gives, value, wrapped}
use Rattle.pattern_model.specs.ArithRows.{arith_set, binary, constant_props, constant_row, cmpi_row, extended, extreme, flag_props, flagged, kept_props, lowers, one_value, pair, resizes, select_row, trunci_row}
use Rattle.fitting_rows.specs.Typed.{CastsFit, Typed, LeavesTyped, PatternTyped, TableTyped}
use Rattle.line_rules.specs.Fits.{facts_alone, Fits}
use Rattle.fitting_rows.proofs.TypedTemplates.{by_template_typed}
use Rattle.line_rules.proofs.SameTypes.{and_true, equal_type, same_self}
use Rattle.fitting_rows.proofs.FitShapes.{becomes_own, bits_num, casts_fit, fit_cast, Good, good_bit, good_num, integer_formed, Num, number_formed, shape_with, Width}
use Rattle.fitting_rows.proofs.FitIntegers.{becomes_whole, fit_flagged_none, fit_flagged_words, fit_icmp, fit_integer_constant, fit_integers, fit_select_own, fit_trunc, fit_trunc_words, fit_widen, flags_prop, Whole}
use Rattle.fitting_rows.proofs.FitViews.{Binary, binary as two_and_one, Compared, compared, Constant, constant, form_is, Holds, Selected, selected, Unary, unary, view_compared, view_constant, view_selected, view_two, view_unary}

abbrev shape_of_two : List ℕ → PlainType → Entries → Entries → Shape
shape_of_two name t props attrs = record { name = name; operands = t ∷ t ∷ []; results = t ∷ []; props = props; attrs = attrs; successors = 0; regions = 0 }

-- An attribute of an operation that fits

entry_formed : (name : List ℕ) (es : Entries) (a : PlainAttr) → are_formed_entries es ≡ true → entry name es ≡ Some a → is_formed_property name a ≡ true
entry_formed name [] a e is = absurd (none-some a is)
entry_formed name (x ∷ es) a e is = go (bytes_eq x.0 name) refl is (λ k. entry_formed name es a (and_second (is_formed_property x.0 x.1) _ (and_second (not _) _ e)) k)
  where
    go : (b : Bool) → bytes_eq x.0 name ≡ b → (if b then Some x.1 else entry name es) ≡ Some a → (entry name es ≡ Some a → is_formed_property name a ≡ true) → is_formed_property name a ≡ true
    go true same k later =
        subst (λ n. is_formed_property n a ≡ true) ((bytes_eq-Decides x.0 name).0 same)
        (subst (λ c. is_formed_property x.0 c ≡ true) (some_same x.1 a k) (and_first (is_formed_property x.0 x.1) _ (and_second (not _) _ e)))
    go false same k later = later k

-- an attribute that may be missing has its form
abbrev has_form_of : (PlainAttr → Bool) → Option PlainAttr → Bool
has_form_of form None = true
has_form_of form (Some a) = form a

may_form : (f : Facts) (x : Option PlainAttr) → has_form f arith_flags x ≡ true → has_form_of (is_flags (codes "arith.overflow")) x ≡ true
may_form f None h = refl
may_form f (Some a) h = h

-- the entry of one property
pub one_entry : (name : List ℕ) (es : Entries) (a : PlainAttr) → are_formed_entries es ≡ true → entry name es ≡ Some a → are_formed_entries ((name, a) ∷ []) ≡ true
one_entry name es a e is = and_true (is_formed_property name a) true (entry_formed name es a e is) refl

abbrev shape_compared : List ℕ → PlainType → Entries → Entries → Shape
shape_compared name t props attrs = record { name = name; operands = t ∷ t ∷ []; results = Int 1 ∷ []; props = props; attrs = attrs; successors = 0; regions = 0 }

abbrev shape_selected : List ℕ → PlainType → Entries → Entries → Shape
shape_selected name t props attrs = record { name = name; operands = Int 1 ∷ t ∷ t ∷ []; results = t ∷ []; props = props; attrs = attrs; successors = 0; regions = 0 }

abbrev shape_unary : List ℕ → PlainType → PlainType → Entries → Entries → Shape
shape_unary name t u props attrs = record { name = name; operands = t ∷ []; results = u ∷ []; props = props; attrs = attrs; successors = 0; regions = 0 }

abbrev shape_constant : List ℕ → PlainType → Entries → Entries → Shape
shape_constant name t props attrs = record { name = name; operands = []; results = t ∷ []; props = props; attrs = attrs; successors = 0; regions = 0 }

abbrev shape_named : List ℕ → List PlainType → List PlainType → Shape
shape_named name operands results = record { name = name; operands = operands; results = results; props = []; attrs = []; successors = 0; regions = 0 }

-- the property of comparisons
abbrev predicate_listed : Listed
predicate_listed = predicate

-- the property of constants
abbrev value_listed : Listed
value_listed = record { name = codes "value"; needed = true; form = λ f a. is_value_of f.results a }

whole_constant : (t : PlainType) (z : ℤ) → Whole t → Fits (shape_with (codes "llvm.mlir.constant") [] (t ∷ []) (constant_value t z))
whole_constant (Int n) z k = fit_integer_constant (codes "llvm.mlir.constant") (Int n) (Number (wrapped n z) (Int n)) refl refl k (same_self (Int n)) (integer_formed n z k.formed)
whole_constant Index z k = absurd (true≢false (sym k.integer))
whole_constant (Memref ds t) z k = absurd (true≢false (sym k.integer))
whole_constant (Func a b) z k = absurd (true≢false (sym k.integer))
whole_constant Ptr z k = absurd (true≢false (sym k.integer))
whole_constant Void z k = absurd (true≢false (sym k.integer))
whole_constant (Struct a) z k = absurd (true≢false (sym k.integer))
whole_constant (Array m t) z k = absurd (true≢false (sym k.integer))
whole_constant (LlvmFunc a b) z k = absurd (true≢false (sym k.integer))

value_form : (f : Facts) (t : PlainType) → f.results ≡ t ∷ [] → (x : Option PlainAttr) → has_form f value_listed x ≡ true → (a : PlainAttr) → x ≡ Some a → is_integer_of t a ≡ true
value_form f t one None h a is = absurd (none-some a is)
value_form f t one (Some b) h a is = ap (is_integer_of t) (sym (some_same b a is)) ∙ ap (λ ts. is_value_of ts b) (sym one) ∙ h

one_type : (test : PlainType → Bool) (ts : List PlainType) → one_of test ts ≡ true → length ts ≡ 1
one_type test [] e = absurd (true≢false (sym e))
one_type test (t ∷ []) e = omega arith
one_type test (t ∷ u ∷ ts) e = absurd (true≢false (sym e))

-- Operations of two numbers

module _ (bits : ℕ) (w : Width bits) where
  two_casts : (t : PlainType) → Good t → AllOf (CastsFit Fits (new_type bits)) (t ∷ t ∷ [])
  two_casts t g = (casts_fit bits t w g, (casts_fit bits t w g, tt))

  one_cast : (t : PlainType) → Good t → AllOf (CastsFit Fits (new_type bits)) (t ∷ [])
  one_cast t g = (casts_fit bits t w g, tt)

  two_view : (o : Shape) (s : Form) → (f : Fits o) → f.form ≡ s → (operands_fit (facts_alone o) s ≡ true → results_fit (facts_alone o) s ≡ true → Binary Num o) → Binary Num o
  two_view o s f same view = view (subst (λ x. operands_fit (facts_alone o) x ≡ true) same f.operands) (subst (λ x. results_fit (facts_alone o) x ≡ true) same f.results)

  binary_row_fits : (name : List ℕ) → shape_of name ≡ Some TwoIntegers → is_inner_name name ≡ true → (leaves : Leaves) (o : Shape) (r : Template) → LeavesTyped Fits leaves → Binary Num o
      → by_row bits true leaves o ((binary [] name).row bits) ≡ Some r → Typed Fits o r
  binary_row_fits name known inner leaves _ r leaf (two_and_one n t props attrs k) e =
      by_template_typed Fits (new_type bits) leaves (shape_of_two n t props attrs) (value name pair [] (becomes bits t) (λ x. gives (x ∷ [])) 0) r leaf
      (record {
        steps = (record { types = becomes bits t ∷ becomes bits t ∷ []; are = refl; fits = fit_integers name (becomes bits t) known inner (becomes_whole bits t w k) }, tt);
        results = refl;
        at_end = refl;
        ones = (refl, tt);
      })
      (two_casts t (good_num t k)) (one_cast t (good_num t k)) e

  binary_fits : (root name : List ℕ) → shape_of root ≡ Some TwoNumbers → shape_of name ≡ Some TwoIntegers → is_inner_name name ≡ true → PatternTyped Fits bits (binary root name)
  binary_fits root name is known inner leaves o r leaf e f = binary_row_fits name known inner leaves o r leaf
      (two_view o TwoNumbers f (form_is o root TwoNumbers e is f) (λ a b. view_two o.name o.operands o.results o.props o.attrs o.successors o.regions a b f.operands_formed f.ends_here f.bare))

  -- with flags
  flagged_row_fits : (name n : List ℕ) (t : PlainType) (props attrs : Entries) (x : Option PlainAttr) → shape_of name ≡ Some FlaggedIntegers → is_inner_name name ≡ true → Num t
      → ((a : PlainAttr) → x ≡ Some a → is_flags (codes "arith.overflow") a ≡ true) → (leaves : Leaves) (r : Template) → LeavesTyped Fits leaves
      → and_then (one_value name pair (flag_props x) (becomes bits t ∷ [])) (by_template (new_type bits) leaves (shape_of_two n t props attrs)) ≡ Some r → Typed Fits (shape_of_two n t props attrs) r
  flagged_row_fits name n t props attrs None known inner k flags leaves r leaf e =
      by_template_typed Fits (new_type bits) leaves (shape_of_two n t props attrs) (value name pair [] (becomes bits t) (λ x. gives (x ∷ [])) 0) r leaf
      (record {
        steps = (record { types = becomes bits t ∷ becomes bits t ∷ []; are = refl; fits = fit_flagged_none name (becomes bits t) known inner (becomes_whole bits t w k) }, tt);
        results = refl;
        at_end = refl;
        ones = (refl, tt);
      })
      (two_casts t (good_num t k)) (one_cast t (good_num t k)) e
  flagged_row_fits name n t props attrs (Some (Dialect d words)) known inner k flags leaves r leaf e = go (bytes_eq d (codes "arith.overflow")) e
    where
      go : (b : Bool) → and_then (one_value name pair (if b then Some (flags_prop words) else None) (becomes bits t ∷ [])) (by_template (new_type bits) leaves (shape_of_two n t props attrs)) ≡ Some r → Typed Fits (shape_of_two n t props attrs) r
      go false f = absurd (none-some r f)
      go true f =
          by_template_typed Fits (new_type bits) leaves (shape_of_two n t props attrs) (value name pair (flags_prop words) (becomes bits t) (λ x. gives (x ∷ [])) 0) r leaf
          (record {
            steps = (record { types = becomes bits t ∷ becomes bits t ∷ []; are = refl; fits = fit_flagged_words name (becomes bits t) words known inner (becomes_whole bits t w k) (and_second (bytes_eq d (codes "arith.overflow")) _ (flags (Dialect d words) refl)) }, tt);
            results = refl;
            at_end = refl;
            ones = (refl, tt);
          })
          (two_casts t (good_num t k)) (one_cast t (good_num t k)) f
  flagged_row_fits name n t props attrs (Some a) known inner k flags leaves r leaf e = absurd (true≢false (sym (flags a refl)))

  flags_of : (form : PlainAttr → Bool) (x : Option PlainAttr) → has_form_of form x ≡ true → (a : PlainAttr) → x ≡ Some a → form a ≡ true
  flags_of form None e a is = absurd (none-some a is)
  flags_of form (Some b) e a is = ap form (sym (some_same b a is)) ∙ e

  flagged_view : (name : List ℕ) → shape_of name ≡ Some FlaggedIntegers → is_inner_name name ≡ true → (leaves : Leaves) (o : Shape) (r : Template) → LeavesTyped Fits leaves → Binary Num o → attributes_fit (facts_alone o) FlaggedNumbers ≡ true
      → by_row bits true leaves o ((flagged [] name).row bits) ≡ Some r → Typed Fits o r
  flagged_view name known inner leaves _ r leaf (two_and_one n t props attrs k) attributes e =
      flagged_row_fits name n t props attrs (entry (codes "overflowFlags") props) known inner k
      (flags_of (is_flags (codes "arith.overflow")) (entry (codes "overflowFlags") props) (may_form (facts_alone (shape_of_two n t props attrs)) (entry (codes "overflowFlags") props) (and_first _ _ (and_first _ _ attributes)))) leaves r leaf e

  flagged_fits : (root name : List ℕ) → shape_of root ≡ Some FlaggedNumbers → shape_of name ≡ Some FlaggedIntegers → is_inner_name name ≡ true → PatternTyped Fits bits (flagged root name)
  flagged_fits root name is known inner leaves o r leaf e f =
      let same = form_is o root FlaggedNumbers e is f in
      flagged_view name known inner leaves o r leaf
      (two_view o FlaggedNumbers f same (λ a b. view_two o.name o.operands o.results o.props o.attrs o.successors o.regions a b f.operands_formed f.ends_here f.bare))
      (subst (λ s. attributes_fit (facts_alone o) s ≡ true) same f.attributes)

  -- comparisons
  cmpi_by : (n : List ℕ) (t : PlainType) (props attrs : Entries) (x : Option PlainAttr) → entry (codes "predicate") props ≡ x → Num t → are_formed_entries props ≡ true
      → ((a : PlainAttr) → x ≡ Some a → is_predicate a ≡ true) → (leaves : Leaves) (r : Template) → LeavesTyped Fits leaves
      → and_then (one_value (codes "llvm.icmp") pair (kept_props (codes "predicate") x) (Int 1 ∷ [])) (by_template (new_type bits) leaves (shape_compared n t props attrs)) ≡ Some r → Typed Fits (shape_compared n t props attrs) r
  cmpi_by n t props attrs None is k formed known leaves r leaf e = absurd (none-some r e)
  cmpi_by n t props attrs (Some a) is k formed known leaves r leaf e =
      by_template_typed Fits (new_type bits) leaves (shape_compared n t props attrs) (value (codes "llvm.icmp") pair ((codes "predicate", a) ∷ []) (Int 1) (λ x. gives (x ∷ [])) 0) r leaf
      (record {
        steps = (record { types = becomes bits t ∷ becomes bits t ∷ []; are = refl; fits = fit_icmp (codes "llvm.icmp") (becomes bits t) a refl refl (becomes_whole bits t w k) (known a refl) (one_entry (codes "predicate") props a formed is) }, tt);
        results = refl;
        at_end = refl;
        ones = (refl, tt);
      })
      (two_casts t (good_num t k)) (one_cast (Int 1) good_bit) e

  needed_form : (f : Facts) (x : Option PlainAttr) → has_form f predicate_listed x ≡ true → (a : PlainAttr) → x ≡ Some a → is_predicate a ≡ true
  needed_form f None h a is = absurd (none-some a is)
  needed_form f (Some b) h a is = ap is_predicate (sym (some_same b a is)) ∙ h

  cmpi_view : (leaves : Leaves) (o : Shape) (r : Template) → LeavesTyped Fits leaves → Compared o → attributes_fit (facts_alone o) CompareNumbers ≡ true → are_formed_entries o.props ≡ true
      → by_row bits true leaves o (Straight (cmpi_row bits)) ≡ Some r → Typed Fits o r
  cmpi_view leaves _ r leaf (compared n t props attrs k) attributes formed e =
      cmpi_by n t props attrs (entry (codes "predicate") props) refl k formed (needed_form (facts_alone (shape_compared n t props attrs)) (entry (codes "predicate") props) (and_first _ _ (and_first _ _ attributes))) leaves r leaf e

  cmpi_fits : PatternTyped Fits bits (lowers (codes "arith.cmpi") (codes "llvm.icmp" ∷ []) cmpi_row)
  cmpi_fits leaves o r leaf e f =
      let same = form_is o (codes "arith.cmpi") CompareNumbers e refl f in
      cmpi_view leaves o r leaf
      (view_compared o.name o.operands o.results o.props o.attrs o.successors o.regions (subst (λ s. operands_fit (facts_alone o) s ≡ true) same f.operands) (subst (λ s. results_fit (facts_alone o) s ≡ true) same f.results) f.operands_formed f.ends_here f.bare)
      (subst (λ s. attributes_fit (facts_alone o) s ≡ true) same f.attributes) f.props

  -- select
  select_view : (leaves : Leaves) (o : Shape) (r : Template) → LeavesTyped Fits leaves → Selected o → by_row bits true leaves o (Straight (select_row bits)) ≡ Some r → Typed Fits o r
  select_view leaves _ r leaf (selected n t props attrs g) e =
      by_template_typed Fits (new_type bits) leaves (shape_selected n t props attrs) (value (codes "llvm.select") (Operand 0 ∷ Operand 1 ∷ Operand 2 ∷ []) [] (becomes bits t) (λ x. gives (x ∷ [])) 0) r leaf
      (record {
        steps = (record { types = Int 1 ∷ becomes bits t ∷ becomes bits t ∷ []; are = refl; fits = fit_select_own (codes "llvm.select") (becomes bits t) refl refl (becomes_own bits t w g) }, tt);
        results = refl;
        at_end = refl;
        ones = (refl, tt);
      })
      (casts_fit bits (Int 1) w good_bit, two_casts t g) (one_cast t g) e

  select_fits : PatternTyped Fits bits (lowers (codes "arith.select") (codes "llvm.select" ∷ []) select_row)
  select_fits leaves o r leaf e f =
      let same = form_is o (codes "arith.select") SelectValues e refl f in
      select_view leaves o r leaf
      (view_selected o.name o.operands o.results o.props o.attrs o.successors o.regions (subst (λ s. operands_fit (facts_alone o) s ≡ true) same f.operands) (subst (λ s. results_fit (facts_alone o) s ≡ true) same f.results) f.operands_formed f.ends_here f.bare)

  -- constants
  constant_by : (n : List ℕ) (t : PlainType) (props attrs : Entries) (x : Option PlainAttr) → Num t → ((a : PlainAttr) → x ≡ Some a → is_integer_of t a ≡ true) → (leaves : Leaves) (r : Template) → LeavesTyped Fits leaves
      → and_then (one_value (codes "llvm.mlir.constant") [] (constant_props bits x) (becomes bits t ∷ [])) (by_template (new_type bits) leaves (shape_constant n t props attrs)) ≡ Some r → Typed Fits (shape_constant n t props attrs) r
  constant_by n t props attrs None k known leaves r leaf e = absurd (none-some r e)
  constant_by n t props attrs (Some (Number z u)) k known leaves r leaf e =
      by_template_typed Fits (new_type bits) leaves (shape_constant n t props attrs) (value (codes "llvm.mlir.constant") [] (constant_value (becomes bits u) z) (becomes bits t) (λ x. gives (x ∷ [])) 0) r leaf
      (record {
        steps = (record { types = []; are = refl; fits = subst (λ v. Fits (step_of (constant_value (becomes bits v) z))) (sym (equal_type u t (known (Number z u) refl))) (whole_constant (becomes bits t) z (becomes_whole bits t w k)) }, tt);
        results = refl;
        at_end = refl;
        ones = (refl, tt);
      })
      tt (one_cast t (good_num t k)) e
    where
      step_of : Entries → Shape
      step_of p = record { name = codes "llvm.mlir.constant"; operands = []; results = becomes bits t ∷ []; props = p; attrs = []; successors = 0; regions = 0 }
  constant_by n t props attrs (Some a) k known leaves r leaf e = absurd (none-some r e)

  constant_view : (leaves : Leaves) (o : Shape) (r : Template) → LeavesTyped Fits leaves → Constant o → attributes_fit (facts_alone o) NumberConstant ≡ true → by_row bits true leaves o (Straight (constant_row bits)) ≡ Some r → Typed Fits o r
  constant_view leaves _ r leaf (constant n t props attrs k) attributes e =
      constant_by n t props attrs (entry (codes "value") props) k (value_form (facts_alone (shape_constant n t props attrs)) t refl (entry (codes "value") props) (and_first _ _ (and_first _ _ attributes))) leaves r leaf e

  constant_fits : PatternTyped Fits bits (lowers (codes "arith.constant") (codes "llvm.mlir.constant" ∷ []) constant_row)
  constant_fits leaves o r leaf e f =
      let same = form_is o (codes "arith.constant") NumberConstant e refl f in
      constant_view leaves o r leaf
      (view_constant o.name o.operands o.results o.props o.attrs o.successors o.regions (subst (λ s. operands_fit (facts_alone o) s ≡ true) same f.operands) (subst (λ s. results_fit (facts_alone o) s ≡ true) same f.results) f.results_formed f.ends_here f.bare)
      (subst (λ s. attributes_fit (facts_alone o) s ≡ true) same f.attributes)

  -- to more bits
  extended_by : (name n : List ℕ) (t u : PlainType) (props attrs : Entries) → shape_of name ≡ Some Widen → is_inner_name name ≡ true → Holds wider t u → is_formed_type t ≡ true → is_formed_type u ≡ true → (leaves : Leaves) (r : Template) → LeavesTyped Fits leaves
      → by_row bits true leaves (shape_unary n t u props attrs) ((extended [] name).row bits) ≡ Some r → Typed Fits (shape_unary n t u props attrs) r
  extended_by name n (Int a) (Int b) props attrs known inner less from to leaves r leaf e =
      by_template_typed Fits (new_type bits) leaves (shape_unary n (Int a) (Int b) props attrs) (value name (Operand 0 ∷ []) [] (Int b) (λ x. gives (x ∷ [])) 0) r leaf
      (record { steps = (record { types = Int a ∷ []; are = refl; fits = fit_widen name a b known inner from to less }, tt); results = refl; at_end = refl; ones = (refl, tt) })
      (one_cast (Int a) (record { value = refl; formed = from })) (one_cast (Int b) (record { value = refl; formed = to })) e
  extended_by name n _ _ props attrs known inner less from to leaves r leaf e = absurd (true≢false (sym less))

  extended_view : (name : List ℕ) → shape_of name ≡ Some Widen → is_inner_name name ≡ true → (leaves : Leaves) (o : Shape) (r : Template) → LeavesTyped Fits leaves → Unary (Holds wider) o → by_row bits true leaves o ((extended [] name).row bits) ≡ Some r → Typed Fits o r
  extended_view name known inner leaves _ r leaf (unary n t u props attrs less from to) e = extended_by name n t u props attrs known inner less from to leaves r leaf e

  one_operand : (o : Shape) (s : Form) (f : Fits o) (test : List PlainType → List PlainType → Bool) → f.form ≡ s → (operands_fit (facts_alone o) s ≡ true → length o.operands ≡ 1) → (results_fit (facts_alone o) s ≡ true → test o.operands o.results ≡ true) → Unary (Holds test) o
  one_operand o s f test same one holds =
      view_unary test o.name o.operands o.results o.props o.attrs o.successors o.regions (one (subst (λ x. operands_fit (facts_alone o) x ≡ true) same f.operands)) f.one
      (holds (subst (λ x. results_fit (facts_alone o) x ≡ true) same f.results)) f.operands_formed f.results_formed f.ends_here f.bare

  extended_fits : (root name : List ℕ) → shape_of root ≡ Some Widen → shape_of name ≡ Some Widen → is_inner_name name ≡ true → PatternTyped Fits bits (extended root name)
  extended_fits root name is known inner leaves o r leaf e f = extended_view name known inner leaves o r leaf (one_operand o Widen f wider (form_is o root Widen e is f) (one_type is_integer o.operands) (λ h. h))

  -- to fewer bits
  trunci_by : (n : List ℕ) (t u : PlainType) (props attrs : Entries) (x : Option PlainAttr) → Holds narrower t u → is_formed_type t ≡ true → is_formed_type u ≡ true → ((a : PlainAttr) → x ≡ Some a → is_flags (codes "arith.overflow") a ≡ true)
      → (leaves : Leaves) (r : Template) → LeavesTyped Fits leaves → and_then (one_value (codes "llvm.trunc") (Operand 0 ∷ []) (flag_props x) (becomes bits u ∷ [])) (by_template (new_type bits) leaves (shape_unary n t u props attrs)) ≡ Some r → Typed Fits (shape_unary n t u props attrs) r
  trunci_by n (Int a) (Int b) props attrs None less from to flags leaves r leaf e =
      by_template_typed Fits (new_type bits) leaves (shape_unary n (Int a) (Int b) props attrs) (value (codes "llvm.trunc") (Operand 0 ∷ []) [] (Int b) (λ x. gives (x ∷ [])) 0) r leaf
      (record { steps = (record { types = Int a ∷ []; are = refl; fits = fit_trunc a b from to less }, tt); results = refl; at_end = refl; ones = (refl, tt) })
      (one_cast (Int a) (record { value = refl; formed = from })) (one_cast (Int b) (record { value = refl; formed = to })) e
  trunci_by n (Int a) (Int b) props attrs (Some (Dialect d words)) less from to flags leaves r leaf e = go (bytes_eq d (codes "arith.overflow")) e
    where
      go : (c : Bool) → and_then (one_value (codes "llvm.trunc") (Operand 0 ∷ []) (if c then Some (flags_prop words) else None) (Int b ∷ [])) (by_template (new_type bits) leaves (shape_unary n (Int a) (Int b) props attrs)) ≡ Some r → Typed Fits (shape_unary n (Int a) (Int b) props attrs) r
      go false f = absurd (none-some r f)
      go true f =
          by_template_typed Fits (new_type bits) leaves (shape_unary n (Int a) (Int b) props attrs) (value (codes "llvm.trunc") (Operand 0 ∷ []) (flags_prop words) (Int b) (λ x. gives (x ∷ [])) 0) r leaf
          (record { steps = (record { types = Int a ∷ []; are = refl; fits = fit_trunc_words a b words from to less (and_second (bytes_eq d (codes "arith.overflow")) _ (flags (Dialect d words) refl)) }, tt); results = refl; at_end = refl; ones = (refl, tt) })
          (one_cast (Int a) (record { value = refl; formed = from })) (one_cast (Int b) (record { value = refl; formed = to })) f
  trunci_by n (Int a) (Int b) props attrs (Some x) less from to flags leaves r leaf e = absurd (true≢false (sym (flags x refl)))
  trunci_by n _ _ props attrs x less from to flags leaves r leaf e = absurd (true≢false (sym less))

  trunci_view : (leaves : Leaves) (o : Shape) (r : Template) → LeavesTyped Fits leaves → Unary (Holds narrower) o → attributes_fit (facts_alone o) NarrowNumber ≡ true → by_row bits true leaves o (Straight (trunci_row bits)) ≡ Some r → Typed Fits o r
  trunci_view leaves _ r leaf (unary n t u props attrs less from to) attributes e =
      trunci_by n t u props attrs (entry (codes "overflowFlags") props) less from to
      (flags_of (is_flags (codes "arith.overflow")) (entry (codes "overflowFlags") props) (may_form (facts_alone (shape_unary n t u props attrs)) (entry (codes "overflowFlags") props) (and_first _ _ (and_first _ _ attributes)))) leaves r leaf e

  trunci_fits : PatternTyped Fits bits (lowers (codes "arith.trunci") (codes "llvm.trunc" ∷ []) trunci_row)
  trunci_fits leaves o r leaf e f =
      let same = form_is o (codes "arith.trunci") NarrowNumber e refl f in
      trunci_view leaves o r leaf (one_operand o NarrowNumber f narrower same (one_type is_integer o.operands) (λ h. h)) (subst (λ s. attributes_fit (facts_alone o) s ≡ true) same f.attributes)

  -- the greater or the less of two
  extreme_view : (n : ℕ) → is_predicate (Number (pos n) (Int 64)) ≡ true → are_formed_entries ((codes "predicate", Number (pos n) (Int 64)) ∷ []) ≡ true → (leaves : Leaves) (o : Shape) (r : Template) → LeavesTyped Fits leaves → Binary Num o
      → by_row bits true leaves o ((extreme [] n).row bits) ≡ Some r → Typed Fits o r
  extreme_view n known formed leaves _ r leaf (two_and_one name t props attrs k) e =
      by_template_typed Fits (new_type bits) leaves (shape_of_two name t props attrs)
      (value (codes "llvm.icmp") pair ((codes "predicate", Number (pos n) (Int 64)) ∷ []) (Int 1) (λ c. value (codes "llvm.select") (c ∷ pair) [] (becomes bits t) (λ x. gives (x ∷ []))) 0) r leaf
      (record {
        steps = (
          record { types = becomes bits t ∷ becomes bits t ∷ []; are = refl; fits = fit_icmp (codes "llvm.icmp") (becomes bits t) (Number (pos n) (Int 64)) refl refl (becomes_whole bits t w k) known formed },
          (record { types = Int 1 ∷ becomes bits t ∷ becomes bits t ∷ []; are = refl; fits = fit_select_own (codes "llvm.select") (becomes bits t) refl refl (becomes_own bits t w (good_num t k)) }, tt),
        );
        results = refl;
        at_end = refl;
        ones = (refl, (refl, tt));
      })
      (two_casts t (good_num t k)) (one_cast t (good_num t k)) e

  extreme_fits : (root : List ℕ) (n : ℕ) → shape_of root ≡ Some TwoNumbers → is_predicate (Number (pos n) (Int 64)) ≡ true → are_formed_entries ((codes "predicate", Number (pos n) (Int 64)) ∷ []) ≡ true → PatternTyped Fits bits (extreme root n)
  extreme_fits root n is known formed leaves o r leaf e f = go (two_view o TwoNumbers f (form_is o root TwoNumbers e is f) (λ a b. view_two o.name o.operands o.results o.props o.attrs o.successors o.regions a b f.operands_formed f.ends_here f.bare))
    where
      go : Binary Num o → by_row bits true leaves o ((extreme root n).row bits) ≡ Some r → Typed Fits o r
      go view = extreme_view n known formed leaves o r leaf view

  -- between `index` and integers
  resize_name : (name : List ℕ) → shape_of name ≡ Some Widen → is_inner_name name ≡ true → (m n : ℕ) → is_formed_type (Int m) ≡ true → is_formed_type (Int n) ≡ true → (m == n) ≡ false → (b : Bool) → nat_lt m n ≡ b
      → Fits (shape_named (if b then name else codes "llvm.trunc") (Int m ∷ []) (Int n ∷ []))
  resize_name name known inner m n from to other true less = fit_widen name m n known inner from to less
  resize_name name known inner m n from to other false less = fit_trunc m n from to (lt-ltb n m (omega (arith, ltb-false m n less, eqb-false m n other)))

  abbrev cast_alone : PlainType → Template
  cast_alone t = record { steps = cast (Operand 0) t ∷ []; results = Made 0 ∷ [] }

  resizes_by : (name n : List ℕ) (t u : PlainType) (props attrs : Entries) → shape_of name ≡ Some Widen → is_inner_name name ≡ true → Holds index_and_integer t u → is_formed_type t ≡ true → is_formed_type u ≡ true → (leaves : Leaves) (r : Template) → LeavesTyped Fits leaves
      → by_row bits true leaves (shape_unary n t u props attrs) ((resizes [] name).row bits) ≡ Some r → Typed Fits (shape_unary n t u props attrs) r
  resizes_by name n Index (Int m) props attrs known inner between from to leaves r leaf e = go (bits == m) refl e
    where
      go : (b : Bool) → (bits == m) ≡ b
          → and_then (if b then draft (gives (Operand 0 ∷ [])) else draft (value (if nat_lt bits m then name else codes "llvm.trunc") (Operand 0 ∷ []) [] (Int m) λ x. gives (x ∷ []))) (by_template (new_type bits) leaves (shape_unary n Index (Int m) props attrs)) ≡ Some r
          → Typed Fits (shape_unary n Index (Int m) props attrs) r
      go true is f = subst (λ x. Typed Fits (shape_unary n Index (Int m) props attrs) x) (some_same (cast_alone (Int bits)) r f) (record {
        steps = (record { types = Index ∷ []; are = refl; fits = fit_cast Index (Int bits) (record { value = refl; formed = refl }) (good_num (Int bits) (bits_num bits w)) }, tt);
        results_are = ap (λ k. Some (Int k ∷ [])) (eqb-true bits m is);
        at_end = refl;
      })
      go false is f =
          by_template_typed Fits (new_type bits) leaves (shape_unary n Index (Int m) props attrs) (value (if nat_lt bits m then name else codes "llvm.trunc") (Operand 0 ∷ []) [] (Int m) (λ x. gives (x ∷ [])) 0) r leaf
          (record { steps = (record { types = Int bits ∷ []; are = refl; fits = resize_name name known inner bits m (number_formed bits w) to is (nat_lt bits m) refl }, tt); results = refl; at_end = refl; ones = (refl, tt) })
          (one_cast Index (record { value = refl; formed = refl })) (one_cast (Int m) (record { value = refl; formed = to })) f
  resizes_by name n (Int m) Index props attrs known inner between from to leaves r leaf e = go (m == bits) refl e
    where
      go : (b : Bool) → (m == bits) ≡ b
          → and_then (if b then draft (gives (Operand 0 ∷ [])) else draft (value (if nat_lt m bits then name else codes "llvm.trunc") (Operand 0 ∷ []) [] (Int bits) λ x. gives (x ∷ []))) (by_template (new_type bits) leaves (shape_unary n (Int m) Index props attrs)) ≡ Some r
          → Typed Fits (shape_unary n (Int m) Index props attrs) r
      go true is f = subst (λ x. Typed Fits (shape_unary n (Int m) Index props attrs) x) (some_same (cast_alone Index) r f) (record {
        steps = (record { types = Int m ∷ []; are = refl; fits = fit_cast (Int m) Index (record { value = refl; formed = from }) (record { value = refl; formed = refl }) }, tt);
        results_are = refl;
        at_end = refl;
      })
      go false is f =
          by_template_typed Fits (new_type bits) leaves (shape_unary n (Int m) Index props attrs) (value (if nat_lt m bits then name else codes "llvm.trunc") (Operand 0 ∷ []) [] (Int bits) (λ x. gives (x ∷ [])) 0) r leaf
          (record { steps = (record { types = Int m ∷ []; are = refl; fits = resize_name name known inner m bits from (number_formed bits w) is (nat_lt m bits) refl }, tt); results = refl; at_end = refl; ones = (refl, tt) })
          (one_cast (Int m) (record { value = refl; formed = from })) (one_cast Index (record { value = refl; formed = refl })) f
  resizes_by name n _ _ props attrs known inner between from to leaves r leaf e = absurd (true≢false (sym between))

  resizes_view : (name : List ℕ) → shape_of name ≡ Some Widen → is_inner_name name ≡ true → (leaves : Leaves) (o : Shape) (r : Template) → LeavesTyped Fits leaves → Unary (Holds index_and_integer) o → by_row bits true leaves o ((resizes [] name).row bits) ≡ Some r → Typed Fits o r
  resizes_view name known inner leaves _ r leaf (unary n t u props attrs between from to) e = resizes_by name n t u props attrs known inner between from to leaves r leaf e

  resizes_fits : (root name : List ℕ) → shape_of root ≡ Some IndexCast → shape_of name ≡ Some Widen → is_inner_name name ≡ true → PatternTyped Fits bits (resizes root name)
  resizes_fits root name is known inner leaves o r leaf e f = resizes_view name known inner leaves o r leaf (one_operand o IndexCast f index_and_integer (form_is o root IndexCast e is f) (one_type is_number o.operands) (λ h. h))

  -- all of them
  pub arith_fits : TableTyped Fits bits arith_set
  arith_fits = (
    constant_fits,
    (
      flagged_fits (codes "arith.addi") (codes "llvm.add") refl refl refl,
      (
        flagged_fits (codes "arith.subi") (codes "llvm.sub") refl refl refl,
        (
          flagged_fits (codes "arith.muli") (codes "llvm.mul") refl refl refl,
          (
            binary_fits (codes "arith.divsi") (codes "llvm.sdiv") refl refl refl,
            (
              binary_fits (codes "arith.divui") (codes "llvm.udiv") refl refl refl,
              (
                binary_fits (codes "arith.remsi") (codes "llvm.srem") refl refl refl,
                (
                  binary_fits (codes "arith.remui") (codes "llvm.urem") refl refl refl,
                  (
                    binary_fits (codes "arith.andi") (codes "llvm.and") refl refl refl,
                    (
                      binary_fits (codes "arith.ori") (codes "llvm.or") refl refl refl,
                      (
                        binary_fits (codes "arith.xori") (codes "llvm.xor") refl refl refl,
                        (
                          flagged_fits (codes "arith.shli") (codes "llvm.shl") refl refl refl,
                          (
                            binary_fits (codes "arith.shrsi") (codes "llvm.ashr") refl refl refl,
                            (
                              binary_fits (codes "arith.shrui") (codes "llvm.lshr") refl refl refl,
                              (
                                cmpi_fits,
                                (
                                  select_fits,
                                  (
                                    extended_fits (codes "arith.extsi") (codes "llvm.sext") refl refl refl,
                                    (
                                      extended_fits (codes "arith.extui") (codes "llvm.zext") refl refl refl,
                                      (
                                        trunci_fits,
                                        (
                                          resizes_fits (codes "arith.index_cast") (codes "llvm.sext") refl refl refl,
                                          (
                                            resizes_fits (codes "arith.index_castui") (codes "llvm.zext") refl refl refl,
                                            (
                                              extreme_fits (codes "arith.maxsi") 4 refl refl refl,
                                              (
                                                extreme_fits (codes "arith.maxui") 8 refl refl refl,
                                                (
                                                  extreme_fits (codes "arith.minsi") 2 refl refl refl,
                                                  (extreme_fits (codes "arith.minui") 6 refl refl refl, tt),
                                                ),
                                              ),
                                            ),
                                          ),
                                        ),
                                      ),
                                    ),
                                  ),
                                ),
                              ),
                            ),
                          ),
                        ),
                      ),
                    ),
                  ),
                ),
              ),
            ),
          ),
        ),
      ),
    ),
  )
