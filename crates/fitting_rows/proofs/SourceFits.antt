-- An operation of a verified function that only computes fits.
use Rattle.std.proofs.Common.{◌≡◌, ℕ, zero, suc, ◌==◌, Bool, true, false, List, [], ◌∷◌, Option, Some, refl, sym, ap, ◌∙◌, subst, length, map, arith, true≢false}
use Rattle.std.specs.Prelude.{◌&&◌, ◌||◌}
use Rattle.std.specs.List.{list_all}
use Rattle.std.specs.Str.{bytes_eq}
use Rattle.std.proofs.lemmas.Slice.Eq.{bytes_eq-Decides}
use Rattle.plain_tree.specs.Types.{PlainType, Index, Int}
use Rattle.plain_tree.specs.ValueTypes.{is_value}
use Rattle.plain_tree.specs.Ops.{Kind, op, Ops, Regions, end_of_regions, region, Blocks, Values}
use Rattle.rule_model.specs.declared.rules.Rule.TheVariants as rule
use Rattle.rule_model.specs.declared.shapes.Shape.{Shape as Form}
use Rattle.rule_model.specs.declared.shapes.Shape.TheVariants.{NumberConstant, FlaggedNumbers, TwoNumbers, CompareNumbers, SelectValues, Widen, NarrowNumber, IndexCast, IntegerConstant, FlaggedIntegers, TwoIntegers, CompareIntegers, SelectOwn, NarrowInteger}
use Rattle.rule_model.specs.Words.{AllOf, has, types}
use Rattle.rule_model.specs.Rows.{shape_of}
use Rattle.rule_model.specs.Facts.{Facts, facts_of, Functions, Holder, is_end, regions_heads, target}
use Rattle.rule_model.specs.Types.{as_operand, narrower, one_of, operands_fit, results_fit, wider, index_and_integer}
use Rattle.rule_model.specs.Parts.{attributes_fit, no_regions, regions_fit}
use Rattle.rule_model.specs.Control.{no_successors, successors_fit}
use Rattle.rule_model.specs.Rules.{if_registered, keeps}
use Rattle.rule_model.specs.Formed.{are_formed_entries, are_formed_values, is_formed_here, is_formed_op, is_formed_type, is_inner_name}
use Rattle.rule_model.proofs.Numbers.{and_first, and_second, has_of, itself}
use Rattle.conversion_model.specs.Targets.{Shape, shape_of as of_shape}
use Rattle.pattern_model.specs.OperationNames.{is_among}
use Rattle.line_rules.specs.Fits.{Fits, is_line}
use Rattle.line_rules.specs.Kept.{KeepsAll}
use Rattle.line_rules.proofs.LineTests.{alone, facts_in}
use Rattle.line_rules.proofs.LinedFormed.{all_true, true_all}

-- the shapes of operations with one result that only compute
abbrev pub is_calc : Form → Bool
is_calc NumberConstant = true
is_calc FlaggedNumbers = true
is_calc TwoNumbers = true
is_calc CompareNumbers = true
is_calc SelectValues = true
is_calc Widen = true
is_calc NarrowNumber = true
is_calc IndexCast = true
is_calc IntegerConstant = true
is_calc FlaggedIntegers = true
is_calc TwoIntegers = true
is_calc CompareIntegers = true
is_calc SelectOwn = true
is_calc NarrowInteger = true
is_calc _ = false

pub calc_line : (s : Form) → is_calc s ≡ true → is_line s ≡ true
calc_line NumberConstant e = refl
calc_line FlaggedNumbers e = refl
calc_line TwoNumbers e = refl
calc_line CompareNumbers e = refl
calc_line SelectValues e = refl
calc_line Widen e = refl
calc_line NarrowNumber e = refl
calc_line IndexCast e = refl
calc_line IntegerConstant e = refl
calc_line FlaggedIntegers e = refl
calc_line TwoIntegers e = refl
calc_line CompareIntegers e = refl
calc_line SelectOwn e = refl
calc_line NarrowInteger e = refl
calc_line _ e = absurd (true≢false (sym e))

-- a name of such an operation
pub record CalcName (name : List ℕ) : Type 0 where
  pub form : Form
  pub known : shape_of name ≡ Some form
  pub calc : is_calc form ≡ true

pub among_of : (P : List ℕ → Type 0) (names : List (List ℕ)) (name : List ℕ) → AllOf P names → is_among names name ≡ true → P name
among_of P [] name all e = absurd (true≢false (sym e))
among_of P (n ∷ names) name all e = go (bytes_eq n name) refl e (among_of P names name all.1)
  where
    go : (b : Bool) → bytes_eq n name ≡ b → (b || is_among names name) ≡ true → (is_among names name ≡ true → P name) → P name
    go true same f rest = subst P ((bytes_eq-Decides n name).0 same) all.0
    go false other f rest = rest f

-- results that are one

one_at : (n : ℕ) (ts us : List PlainType) → as_operand n ts us ≡ true → length us ≡ 1
one_at zero (t ∷ ts) (u ∷ []) e = omega arith
one_at (suc n) (t ∷ ts) us e = one_at n ts us e
one_at n _ _ e = absurd (true≢false (sym e))

one_type : (test : PlainType → Bool) (ts : List PlainType) → one_of test ts ≡ true → length ts ≡ 1
one_type test [] e = absurd (true≢false (sym e))
one_type test (t ∷ []) e = omega arith
one_type test (t ∷ u ∷ ts) e = absurd (true≢false (sym e))

one_wider : (ts us : List PlainType) → wider ts us ≡ true → length us ≡ 1
one_wider (Int n ∷ []) (Int m ∷ []) e = omega arith
one_wider _ _ e = absurd (true≢false (sym e))

one_narrower : (ts us : List PlainType) → narrower ts us ≡ true → length us ≡ 1
one_narrower (Int n ∷ []) (Int m ∷ []) e = omega arith
one_narrower _ _ e = absurd (true≢false (sym e))

one_cast : (ts us : List PlainType) → index_and_integer ts us ≡ true → length us ≡ 1
one_cast (Index ∷ []) (Int m ∷ []) e = omega arith
one_cast (Int n ∷ []) (Index ∷ []) e = omega arith
one_cast _ _ e = absurd (true≢false (sym e))

one_result : (f : Facts) (s : Form) → is_calc s ≡ true → results_fit f s ≡ true → length f.results ≡ 1
one_result f NumberConstant c e = one_type _ f.results e
one_result f FlaggedNumbers c e = one_at 0 f.operands f.results e
one_result f TwoNumbers c e = one_at 0 f.operands f.results e
one_result f CompareNumbers c e = one_type _ f.results e
one_result f SelectValues c e = one_at 1 f.operands f.results e
one_result f Widen c e = one_wider f.operands f.results e
one_result f NarrowNumber c e = one_narrower f.operands f.results e
one_result f IndexCast c e = one_cast f.operands f.results e
one_result f IntegerConstant c e = one_type _ f.results e
one_result f FlaggedIntegers c e = one_at 0 f.operands f.results e
one_result f TwoIntegers c e = one_at 0 f.operands f.results e
one_result f CompareIntegers c e = one_type _ f.results e
one_result f SelectOwn c e = one_at 1 f.operands f.results e
one_result f NarrowInteger c e = one_narrower f.operands f.results e
one_result f _ c e = absurd (true≢false (sym c))

-- no regions and no successors

calc_regions : (f : Facts) (s : Form) → is_calc s ≡ true → regions_fit f s ≡ true → no_regions f.regions ≡ true
calc_regions f NumberConstant c e = e
calc_regions f FlaggedNumbers c e = e
calc_regions f TwoNumbers c e = e
calc_regions f CompareNumbers c e = e
calc_regions f SelectValues c e = e
calc_regions f Widen c e = e
calc_regions f NarrowNumber c e = e
calc_regions f IndexCast c e = e
calc_regions f IntegerConstant c e = e
calc_regions f FlaggedIntegers c e = e
calc_regions f TwoIntegers c e = e
calc_regions f CompareIntegers c e = e
calc_regions f SelectOwn c e = e
calc_regions f NarrowInteger c e = e
calc_regions f _ c e = absurd (true≢false (sym c))

calc_successors : (f : Facts) (s : Form) → is_calc s ≡ true → successors_fit f (Some s) ≡ true → no_successors f.successors ≡ true
calc_successors f NumberConstant c e = e
calc_successors f FlaggedNumbers c e = e
calc_successors f TwoNumbers c e = e
calc_successors f CompareNumbers c e = e
calc_successors f SelectValues c e = e
calc_successors f Widen c e = e
calc_successors f NarrowNumber c e = e
calc_successors f IndexCast c e = e
calc_successors f IntegerConstant c e = e
calc_successors f FlaggedIntegers c e = e
calc_successors f TwoIntegers c e = e
calc_successors f CompareIntegers c e = e
calc_successors f SelectOwn c e = e
calc_successors f NarrowInteger c e = e
calc_successors f _ c e = absurd (true≢false (sym c))

pub bare_of : (r : Regions) → no_regions (regions_heads r) ≡ true → r ≡ end_of_regions
bare_of end_of_regions e = refl
bare_of (region b r) e = absurd (true≢false (sym e))

none_of : (bs : Blocks) (ls : List ℕ) → no_successors (map (target bs) ls) ≡ true → ls ≡ []
none_of bs [] e = refl
none_of bs (l ∷ ls) e = absurd (true≢false (sym e))

types_map : (vs : Values) → types vs ≡ map (λ (v : ℕ × PlainType). v.1) vs
types_map [] = refl
types_map (v ∷ vs) = ap (λ ts. v.1 ∷ ts) (types_map vs)

formed_map : (vs : Values) → are_formed_values vs ≡ list_all is_formed_type (map (λ (v : ℕ × PlainType). v.1) vs)
formed_map [] = refl
formed_map (v ∷ vs) = ap (λ b. is_formed_type v.1 && b) (formed_map vs)

map_true : (test : PlainType → Bool) (T : ℕ → PlainType) (os : List ℕ) → ((x : ℕ) → has x os ≡ true → test (T x) ≡ true) → list_all test (map T os) ≡ true
map_true test T os each = true_all test (map T os) (all_map os (λ x h. h))
  where
    here : (n : ℕ) (ns : List ℕ) → has n (n ∷ ns) ≡ true
    here n ns = ap (λ b. b || has n ns) (itself n)

    later : (a : Bool) {b : Bool} → b ≡ true → (a || b) ≡ true
    later true e = refl
    later false e = e

    all_map : (ns : List ℕ) → ((x : ℕ) → has x ns ≡ true → has x os ≡ true) → AllOf (λ t. test t ≡ true) (map T ns)
    all_map [] f = tt
    all_map (n ∷ ns) f = (each n (f n (here n ns)), all_map ns (λ x h. f x (later (n == x) h)))

-- a value type that is formed
abbrev pub GoodType : PlainType → Type 0
GoodType t = (is_value t ≡ true) × (is_formed_type t ≡ true)

-- the facts of an operation without regions and successors
bare_facts : (T : ℕ → PlainType) (h : Option Holder) (bs : Blocks) (rest : Ops) (k : Kind) (rs : Values) (os : List ℕ) → facts_of T h bs rest (op k rs os end_of_regions []) ≡ facts_in (of_shape T (op k rs os end_of_regions [])) h (is_end rest)
bare_facts T h bs rest k rs os = ap (λ ts. with_results ts) (types_map rs)
  where
    with_results : List PlainType → Facts
    with_results ts = record { name = k.name; props = k.props; operands = map T os; results = ts; successors = []; regions = []; holder = h; last = is_end rest }

bare_fits : (c : Functions) (T : ℕ → PlainType) (h : Option Holder) (bs : Blocks) (rest : Ops) (was labels : List ℕ) (k : Kind) (rs : Values) (os : List ℕ) → CalcName k.name → KeepsAll c (facts_of T h bs rest (op k rs os end_of_regions []))
    → is_formed_op was labels (op k rs os end_of_regions []) ≡ true → ((x : ℕ) → has x was ≡ true → GoodType (T x)) → Fits (of_shape T (op k rs os end_of_regions []))
bare_fits c T h bs rest was labels k rs os n kept formed good =
    let o : Shape = of_shape T (op k rs os end_of_regions []) in
    let facts : Facts = facts_in o h (is_end rest) in
    let same = alone c o h (is_end rest) n.form (calc_line n.form n.calc) in
    let tests : KeepsAll c facts = λ q. subst (λ f. keeps c f q ≡ true) (bare_facts T h bs rest k rs os) (kept q) in
    let results : results_fit facts n.form ≡ true = ap (if_registered (results_fit facts)) (sym n.known) ∙ tests rule.Results in
    let here = and_first (is_formed_here was labels k rs os []) _ (and_second (is_inner_name k.name) _ formed) in
    let behind = and_second (list_all (λ l. has l labels) []) _ (and_second (list_all (λ v. has v was) os) _ here) in
    let defined : AllOf (λ x. has x was ≡ true) os = all_true (λ v. has v was) os (and_first (list_all (λ v. has v was) os) _ here) in
    record {
      form = n.form;
      known = n.known;
      line = calc_line n.form n.calc;
      name = and_first (is_inner_name k.name) _ formed;
      operands = sym same.operands ∙ (ap (if_registered (operands_fit facts)) (sym n.known) ∙ tests rule.Operands);
      results = sym same.results ∙ results;
      attributes = sym same.attributes ∙ (ap (if_registered (attributes_fit facts)) (sym n.known) ∙ tests rule.Attribute);
      operand_values = map_true is_value T os (λ x h2. (good x (has_of (λ y. has y was ≡ true) x os defined h2)).0);
      operands_formed = map_true is_formed_type T os (λ x h2. (good x (has_of (λ y. has y was ≡ true) x os defined h2)).1);
      result_values = and_first (list_all is_value o.results) _ (tests rule.ValueType);
      results_formed = sym (formed_map rs) ∙ and_first (are_formed_values rs) _ behind;
      props = and_first (are_formed_entries k.props) _ (and_second (are_formed_values rs) _ behind);
      one = one_result facts n.form n.calc results;
      bare = refl;
      ends_here = refl;
    }

-- an operation with such a name fits
pub source_fits : (c : Functions) (T : ℕ → PlainType) (h : Option Holder) (bs : Blocks) (rest : Ops) (was labels : List ℕ) (k : Kind) (rs : Values) (os ls : List ℕ) (r : Regions) → CalcName k.name → KeepsAll c (facts_of T h bs rest (op k rs os r ls))
    → is_formed_op was labels (op k rs os r ls) ≡ true → ((x : ℕ) → has x was ≡ true → GoodType (T x)) → Fits (of_shape T (op k rs os r ls))
source_fits c T h bs rest was labels k rs os ls r n kept formed good =
    let facts : Facts = facts_of T h bs rest (op k rs os r ls) in
    let no_region : r ≡ end_of_regions = bare_of r (calc_regions facts n.form n.calc (ap (if_registered (regions_fit facts)) (sym n.known) ∙ kept rule.Regions)) in
    let no_label : ls ≡ [] = none_of bs ls (calc_successors facts n.form n.calc (ap (successors_fit facts) (sym n.known) ∙ kept rule.Successors)) in
    subst (λ x. Fits (of_shape T (op k rs os x ls))) (sym no_region) (subst (λ x. Fits (of_shape T (op k rs os end_of_regions x))) (sym no_label)
    (bare_fits c T h bs rest was labels k rs os n
    (subst (λ x. KeepsAll c (facts_of T h bs rest (op k rs os end_of_regions x))) no_label (subst (λ x. KeepsAll c (facts_of T h bs rest (op k rs os x ls))) no_region kept))
    (subst (λ x. is_formed_op was labels (op k rs os end_of_regions x) ≡ true) no_label (subst (λ x. is_formed_op was labels (op k rs os x ls) ≡ true) no_region formed)) good))
