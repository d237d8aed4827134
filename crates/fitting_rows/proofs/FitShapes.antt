-- Operations that fit, one shape after another.
use Rattle.std.proofs.Common.{◌≡◌, ℕ, zero, suc, ◌+◌, ◌-◌, ◌*◌, ◌^◌, ◌%◌, ◌==◌, ◌<◌, ◌≤◌, Bool, true, false, List, [], ◌∷◌, Some, refl, sym, ap, subst, length, inl, inr, arith, true≢false}
use Rattle.std.specs.Prelude.{◌&&◌, nat_lt, nat_le, codes, pos, negsuc, ℤ, neg_ℤ, if◌then◌else◌}
use Rattle.std.specs.List.{list_all}
use Rattle.std.proofs.Math.Nat.{mod-lt, two-pow-succ}
use Rattle.std.proofs.Math.Pow.{pow_pos}
use Rattle.std.proofs.lemmas.Bool.{le-leb, lt-ltb, leb-true, ltb-true, ltb-false}
use Rattle.tree_model.specs.declared.type_tree.Dim.{Dim}
use Rattle.plain_tree.specs.Types.{PlainType, Int, Index, Memref, Func, Ptr, Void, Struct, Array, LlvmFunc, same_type, types_in}
use Rattle.plain_tree.specs.ValueTypes.{is_own, is_value}
use Rattle.plain_tree.specs.Attrs.{Entries, PlainAttr, Number}
use Rattle.rule_model.specs.declared.shapes.Shape.TheVariants.{Recast, NumberConstant, FlaggedNumbers, TwoNumbers, CompareNumbers, SelectValues}
use Rattle.rule_model.specs.Rows.{shape_of}
use Rattle.rule_model.specs.Forms.{is_number, is_integer_of, is_predicate}
use Rattle.rule_model.specs.Formed.{are_formed_entries, is_formed_type, is_inner_name, is_signed}
use Rattle.rule_model.proofs.Numbers.{and_first}
use Rattle.conversion_model.specs.Types.{becomes, new_type, or_same}
use Rattle.conversion_model.specs.Targets.{Shape}
use Rattle.pattern_model.specs.Drafts.{constant_value, wrapped}
use Rattle.fitting_rows.specs.Typed.{cast_shape, CastsFit}
use Rattle.line_rules.specs.Fits.{Fits}
use Rattle.fitting_rows.specs.Widths.{IsWidth}
use Rattle.line_rules.proofs.SameTypes.{and_true, same_self}

-- Types

-- a value type that is formed
pub record Good (t : PlainType) : Type 0 where
  pub value : is_value t ≡ true
  pub formed : is_formed_type t ≡ true

number_value : (t : PlainType) → is_number t ≡ true → is_value t ≡ true
number_value (Int w) e = refl
number_value Index e = refl
number_value (Memref ds t) e = refl
number_value Ptr e = refl
number_value (Func a b) e = absurd (true≢false (sym e))
number_value Void e = absurd (true≢false (sym e))
number_value (Struct a) e = absurd (true≢false (sym e))
number_value (Array n t) e = absurd (true≢false (sym e))
number_value (LlvmFunc a b) e = absurd (true≢false (sym e))

-- a number that is formed
pub record Num (t : PlainType) : Type 0 where
  pub number : is_number t ≡ true
  pub formed : is_formed_type t ≡ true

pub good_num : (t : PlainType) → Num t → Good t
good_num t n = record { value = number_value t n.number; formed = n.formed }

pub good_bit : Good (Int 1)
good_bit = record { value = refl; formed = refl }

pub num_bit : Num (Int 1)
num_bit = record { number = refl; formed = refl }

abbrev pub AllGood : List PlainType → Type 0
AllGood ts = (list_all is_value ts ≡ true) × (list_all is_formed_type ts ≡ true)

pub no_good : AllGood []
no_good = (refl, refl)

pub good_more : (t : PlainType) (ts : List PlainType) → Good t → AllGood ts → AllGood (t ∷ ts)
good_more t ts g all = (and_true (is_value t) (list_all is_value ts) g.value all.0, and_true (is_formed_type t) (list_all is_formed_type ts) g.formed all.1)

-- a shape with these names, types and properties
abbrev pub shape_with : List ℕ → List PlainType → List PlainType → Entries → Shape
shape_with name operands results props = record { name = name; operands = operands; results = results; props = props; attrs = []; successors = 0; regions = 0 }

-- What each shape asks, met

pub fit_two : (name : List ℕ) (t : PlainType) → shape_of name ≡ Some TwoNumbers → is_inner_name name ≡ true → Num t → Fits (shape_with name (t ∷ t ∷ []) (t ∷ []) [])
fit_two name t known inner n =
    let g = good_num t n in
    let pair = good_more t (t ∷ []) g (good_more t [] g no_good) in
    let one = good_more t [] g no_good in
    record {
      form = TwoNumbers;
      known = known;
      line = refl;
      name = inner;
      operands = and_true (is_number t) (same_type t t) n.number (same_self t);
      results = same_self t;
      attributes = refl;
      operand_values = pair.0;
      operands_formed = pair.1;
      result_values = one.0;
      results_formed = one.1;
      props = refl;
      one = refl;
      bare = refl;
      ends_here = refl;
    }

pub fit_flagged : (name : List ℕ) (t : PlainType) → shape_of name ≡ Some FlaggedNumbers → is_inner_name name ≡ true → Num t → Fits (shape_with name (t ∷ t ∷ []) (t ∷ []) [])
fit_flagged name t known inner n =
    let g = good_num t n in
    let pair = good_more t (t ∷ []) g (good_more t [] g no_good) in
    let one = good_more t [] g no_good in
    record {
      form = FlaggedNumbers;
      known = known;
      line = refl;
      name = inner;
      operands = and_true (is_number t) (same_type t t) n.number (same_self t);
      results = same_self t;
      attributes = refl;
      operand_values = pair.0;
      operands_formed = pair.1;
      result_values = one.0;
      results_formed = one.1;
      props = refl;
      one = refl;
      bare = refl;
      ends_here = refl;
    }

-- a predicate
abbrev pub predicate_prop : PlainAttr → Entries
predicate_prop a = (codes "predicate", a) ∷ []

pub two_true : (a : Bool) → a ≡ true → (a && true) ≡ true
two_true a e = and_true a true e refl

pub fit_compare : (name : List ℕ) (t : PlainType) (a : PlainAttr) → shape_of name ≡ Some CompareNumbers → is_inner_name name ≡ true → Num t → is_predicate a ≡ true → are_formed_entries (predicate_prop a) ≡ true
    → Fits (shape_with name (t ∷ t ∷ []) (Int 1 ∷ []) (predicate_prop a))
fit_compare name t a known inner n predicate formed =
    let g = good_num t n in
    let pair = good_more t (t ∷ []) g (good_more t [] g no_good) in
    record {
      form = CompareNumbers;
      known = known;
      line = refl;
      name = inner;
      operands = and_true (is_number t) (same_type t t) n.number (same_self t);
      results = refl;
      attributes = two_true (is_predicate a && true) (two_true (is_predicate a) predicate);
      operand_values = pair.0;
      operands_formed = pair.1;
      result_values = refl;
      results_formed = refl;
      props = formed;
      one = refl;
      bare = refl;
      ends_here = refl;
    }

pub fit_select : (name : List ℕ) (t : PlainType) → shape_of name ≡ Some SelectValues → is_inner_name name ≡ true → Good t → Fits (shape_with name (Int 1 ∷ t ∷ t ∷ []) (t ∷ []) [])
fit_select name t known inner g =
    let all = good_more (Int 1) (t ∷ t ∷ []) good_bit (good_more t (t ∷ []) g (good_more t [] g no_good)) in
    let one = good_more t [] g no_good in
    record {
      form = SelectValues;
      known = known;
      line = refl;
      name = inner;
      operands = and_true (is_value t) (same_type t t) g.value (same_self t);
      results = same_self t;
      attributes = refl;
      operand_values = all.0;
      operands_formed = all.1;
      result_values = one.0;
      results_formed = one.1;
      props = refl;
      one = refl;
      bare = refl;
      ends_here = refl;
    }

-- a constant's value
abbrev pub value_prop : PlainAttr → Entries
value_prop a = (codes "value", a) ∷ []

pub fit_constant : (name : List ℕ) (t : PlainType) (a : PlainAttr) → shape_of name ≡ Some NumberConstant → is_inner_name name ≡ true → Num t → is_integer_of t a ≡ true → are_formed_entries (value_prop a) ≡ true
    → Fits (shape_with name [] (t ∷ []) (value_prop a))
fit_constant name t a known inner n value formed =
    let one = good_more t [] (good_num t n) no_good in
    record {
      form = NumberConstant;
      known = known;
      line = refl;
      name = inner;
      operands = refl;
      results = n.number;
      attributes = two_true (is_integer_of t a && true) (two_true (is_integer_of t a) value);
      operand_values = refl;
      operands_formed = refl;
      result_values = one.0;
      results_formed = one.1;
      props = formed;
      one = refl;
      bare = refl;
      ends_here = refl;
    }

-- Numbers kept in bits

two_halves : (w : ℕ) → 0 < w → 2 ^ w ≡ 2 ^ (w - 1) + 2 ^ (w - 1)
two_halves zero h = absurd (omega arith)
two_halves (suc w) h = subst (λ k. 2 ^ suc w ≡ 2 ^ k + 2 ^ k) (omega arith) (two-pow-succ w)

neg_signed : (w k : ℕ) → 2 * k ≤ 2 ^ w → is_signed w (neg_ℤ (pos k)) ≡ true
neg_signed w zero h = lt-ltb (2 * 0) (2 ^ w) (omega (arith, pow_pos w))
neg_signed w (suc k) h = le-leb (2 * (k + 1)) (2 ^ w) (omega (arith, h))

read_by : (w n : ℕ) (b : Bool) → nat_lt n (2 ^ (w - 1)) ≡ b → 0 < w → n < 2 ^ w → is_signed w (if b then pos n else neg_ℤ (pos (2 ^ w - n))) ≡ true
read_by w n true e h less = lt-ltb (2 * n) (2 ^ w) (omega (arith, two_halves w h, ltb-true n (2 ^ (w - 1)) e))
read_by w n false e h less = neg_signed w (2 ^ w - n) (omega (arith, two_halves w h, ltb-false n (2 ^ (w - 1)) e))

wrapped_signed : (w : ℕ) (z : ℤ) → 0 < w → is_signed w (wrapped w z) ≡ true
wrapped_signed w (pos n) h = read_by w (n % (2 ^ w)) (nat_lt (n % (2 ^ w)) (2 ^ (w - 1))) refl h (mod-lt n (pow_pos w))
wrapped_signed w (negsuc n) h =
    read_by w (2 ^ w - 1 - (n % (2 ^ w))) (nat_lt (2 ^ w - 1 - (n % (2 ^ w))) (2 ^ (w - 1))) refl h (omega (arith, pow_pos w))

-- the property of a constant of a number type
abbrev kept_value : PlainType → ℤ → PlainAttr
kept_value (Int w) n = Number (wrapped w n) (Int w)
kept_value t n = Number n t

width_above : (w : ℕ) → is_formed_type (Int w) ≡ true → 0 < w
width_above w e = ltb-true 0 w (and_first (nat_lt 0 w) (nat_le w 64) e)

pub integer_formed : (w : ℕ) (z : ℤ) → is_formed_type (Int w) ≡ true → are_formed_entries (constant_value (Int w) z) ≡ true
integer_formed w z e = two_true (is_formed_type (Int w) && is_signed w (wrapped w z)) (and_true (is_formed_type (Int w)) (is_signed w (wrapped w z)) e (wrapped_signed w z (width_above w e)))

-- Widths

pub record Width (bits : ℕ) : Type 0 where
  pub low : 0 < bits
  pub high : bits ≤ 64

pub width_of : (bits : ℕ) → IsWidth bits → Width bits
width_of bits (inl e) = record { low = omega (arith, e); high = omega (arith, e) }
width_of bits (inr e) = record { low = omega (arith, e); high = omega (arith, e) }

pub number_formed : (bits : ℕ) → Width bits → is_formed_type (Int bits) ≡ true
number_formed bits w = and_true (nat_lt 0 bits) (nat_le bits 64) (lt-ltb 0 bits w.low) (le-leb bits 64 w.high)

pub bits_num : (bits : ℕ) → Width bits → Num (Int bits)
bits_num bits w = record { number = refl; formed = number_formed bits w }

-- an own type that is formed
pub record Own (t : PlainType) : Type 0 where
  pub own : is_own t ≡ true
  pub formed : is_formed_type t ≡ true

own_value : (t : PlainType) → is_own t ≡ true → is_value t ≡ true
own_value (Int w) e = refl
own_value Ptr e = refl
own_value (Struct fields) e = e
own_value (Array n t) e = e
own_value Index e = absurd (true≢false (sym e))
own_value (Memref ds t) e = absurd (true≢false (sym e))
own_value (Func a b) e = absurd (true≢false (sym e))
own_value Void e = absurd (true≢false (sym e))
own_value (LlvmFunc a b) e = absurd (true≢false (sym e))

pub good_own : (t : PlainType) → Own t → Good t
good_own t o = record { value = own_value t o.own; formed = o.formed }

-- the fields of a memref's descriptor, by whether its rank is 0
abbrev fields_by : ℕ → ℕ → Bool → List PlainType
fields_by bits rank b = Ptr ∷ Ptr ∷ Int bits ∷ (if b then [] else Array rank (Int bits) ∷ Array rank (Int bits) ∷ [])

pub fields_own : (bits rank : ℕ) (b : Bool) → Width bits → rank ≤ 8 → Own (Struct (types_in (fields_by bits rank b)))
fields_own bits rank true w small = record { own = refl; formed = two_true (is_formed_type (Int bits)) (number_formed bits w) }
fields_own bits rank false w small =
    let short : nat_lt rank (2 ^ 32) ≡ true = lt-ltb rank (2 ^ 32) (omega (arith, small)) in
    let array : is_formed_type (Array rank (Int bits)) ≡ true = and_true (nat_lt rank (2 ^ 32)) (is_formed_type (Int bits)) short (number_formed bits w) in
    record {
      own = refl;
      formed = and_true (is_formed_type (Int bits)) (is_formed_type (Array rank (Int bits)) && (is_formed_type (Array rank (Int bits)) && true)) (number_formed bits w)
          (and_true (is_formed_type (Array rank (Int bits))) (is_formed_type (Array rank (Int bits)) && true) array (two_true (is_formed_type (Array rank (Int bits))) array));
    }

-- what a value type becomes is own
pub becomes_own : (bits : ℕ) (t : PlainType) → Width bits → Good t → Own (becomes bits t)
becomes_own bits (Int n) w g = record { own = refl; formed = g.formed }
becomes_own bits Index w g = record { own = refl; formed = number_formed bits w }
becomes_own bits (Memref dims element) w g = fields_own bits (length dims) (length dims == 0) w (leb-true (length dims) 8 (and_first (nat_le (length dims) 8) _ g.formed))
becomes_own bits (Func a b) w g = absurd (true≢false (sym g.value))
becomes_own bits Ptr w g = record { own = refl; formed = refl }
becomes_own bits Void w g = absurd (true≢false (sym g.value))
becomes_own bits (Struct fields) w g = record { own = g.value; formed = g.formed }
becomes_own bits (Array n t) w g = record { own = g.value; formed = g.formed }
becomes_own bits (LlvmFunc a b) w g = absurd (true≢false (sym g.value))

-- Casts

pub fit_cast : (t u : PlainType) → Good t → Good u → Fits (cast_shape t u)
fit_cast t u g h =
    let from = good_more t [] g no_good in
    let to = good_more u [] h no_good in
    record {
      form = Recast;
      known = refl;
      line = refl;
      name = refl;
      operands = refl;
      results = refl;
      attributes = refl;
      operand_values = from.0;
      operands_formed = from.1;
      result_values = to.0;
      results_formed = to.1;
      props = refl;
      one = refl;
      bare = refl;
      ends_here = refl;
    }

pub casts_fit : (bits : ℕ) (t : PlainType) → Width bits → Good t → CastsFit Fits (new_type bits) t
casts_fit bits t w g u e =
    let h : Good u = subst Good (ap (or_same t) e) (good_own (becomes bits t) (becomes_own bits t w g)) in
    (fit_cast t u g h, fit_cast u t h g)

-- what a formed memref becomes is formed
pub fields_formed : (bits : ℕ) (dims : List Dim) (element : PlainType) → Width bits → is_formed_type (Memref dims element) ≡ true → is_formed_type (becomes bits (Memref dims element)) ≡ true
fields_formed bits dims element w e = (fields_own bits (length dims) (length dims == 0) w (leb-true (length dims) 8 (and_first (nat_le (length dims) 8) _ e))).formed
