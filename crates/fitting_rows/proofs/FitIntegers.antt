-- Operations of the llvm dialect that fit.
use Rattle.std.proofs.Common.{◌≡◌, ℕ, Bool, true, false, List, [], ◌∷◌, Some, refl, sym, true≢false}
use Rattle.std.specs.Prelude.{◌&&◌, ◌||◌, nat_lt, codes}
use Rattle.plain_tree.specs.Types.{PlainType, Int, Index, Memref, Func, Ptr, Void, Struct, Array, LlvmFunc, same_type}
use Rattle.plain_tree.specs.ValueTypes.{is_own}
use Rattle.plain_tree.specs.Attrs.{Entries, PlainAttr, Dialect}
use Rattle.rule_model.specs.declared.shapes.Shape.TheVariants.{CompareIntegers, FlaggedIntegers, IntegerConstant, NarrowInteger, SelectOwn, TwoIntegers, Widen}
use Rattle.rule_model.specs.Rows.{shape_of}
use Rattle.rule_model.specs.Forms.{are_flags, is_integer, is_integer_of, is_predicate}
use Rattle.rule_model.specs.Formed.{are_formed_entries, is_formed_type, is_inner_name}
use Rattle.conversion_model.specs.Types.{becomes}
use Rattle.line_rules.specs.Fits.{Fits}
use Rattle.line_rules.proofs.SameTypes.{and_true, same_self}
use Rattle.fitting_rows.proofs.FitShapes.{good_bit, good_more, good_own, no_good, Num, number_formed, Own, predicate_prop, shape_with, two_true, value_prop, Width}

-- an integer type that is formed
pub record Whole (t : PlainType) : Type 0 where
  pub integer : is_integer t ≡ true
  pub formed : is_formed_type t ≡ true

integer_own : (t : PlainType) → is_integer t ≡ true → is_own t ≡ true
integer_own (Int w) e = refl
integer_own Index e = absurd (true≢false (sym e))
integer_own (Memref ds t) e = absurd (true≢false (sym e))
integer_own (Func a b) e = absurd (true≢false (sym e))
integer_own Ptr e = refl
integer_own Void e = absurd (true≢false (sym e))
integer_own (Struct a) e = absurd (true≢false (sym e))
integer_own (Array n t) e = absurd (true≢false (sym e))
integer_own (LlvmFunc a b) e = absurd (true≢false (sym e))

pub own_whole : (t : PlainType) → Whole t → Own t
own_whole t w = record { own = integer_own t w.integer; formed = w.formed }

pub whole_bit : Whole (Int 1)
whole_bit = record { integer = refl; formed = refl }

-- a number becomes an integer
pub becomes_whole : (bits : ℕ) (t : PlainType) → Width bits → Num t → Whole (becomes bits t)
becomes_whole bits (Int n) w k = record { integer = refl; formed = k.formed }
becomes_whole bits Index w k = record { integer = refl; formed = number_formed bits w }
becomes_whole bits (Memref ds t) w k = absurd (true≢false (sym k.number))
becomes_whole bits (Func a b) w k = absurd (true≢false (sym k.number))
becomes_whole bits Ptr w k = absurd (true≢false (sym k.number))
becomes_whole bits Void w k = absurd (true≢false (sym k.number))
becomes_whole bits (Struct a) w k = absurd (true≢false (sym k.number))
becomes_whole bits (Array n t) w k = absurd (true≢false (sym k.number))
becomes_whole bits (LlvmFunc a b) w k = absurd (true≢false (sym k.number))

pub fit_integers : (name : List ℕ) (t : PlainType) → shape_of name ≡ Some TwoIntegers → is_inner_name name ≡ true → Whole t → Fits (shape_with name (t ∷ t ∷ []) (t ∷ []) [])
fit_integers name t known inner n =
    let g = good_own t (own_whole t n) in
    let pair = good_more t (t ∷ []) g (good_more t [] g no_good) in
    let one = good_more t [] g no_good in
    record {
      form = TwoIntegers;
      known = known;
      line = refl;
      name = inner;
      operands = and_true (is_integer t) (same_type t t) n.integer (same_self t);
      results = same_self t;
      attributes = refl;
      operand_values = pair.0;
      operands_formed = pair.1;
      result_values = one.0;
      results_formed = one.1;
      props = refl;
      one = refl;
      bare = refl;
      ends_here = refl;
    }

-- flags of the llvm dialect, or none
abbrev pub flags_prop : List (List ℕ) → Entries
flags_prop words = (codes "overflowFlags", Dialect (codes "llvm.overflow") words) ∷ []

pub fit_flagged_none : (name : List ℕ) (t : PlainType) → shape_of name ≡ Some FlaggedIntegers → is_inner_name name ≡ true → Whole t → Fits (shape_with name (t ∷ t ∷ []) (t ∷ []) [])
fit_flagged_none name t known inner n =
    let g = good_own t (own_whole t n) in
    let pair = good_more t (t ∷ []) g (good_more t [] g no_good) in
    let one = good_more t [] g no_good in
    record {
      form = FlaggedIntegers;
      known = known;
      line = refl;
      name = inner;
      operands = and_true (is_integer t) (same_type t t) n.integer (same_self t);
      results = same_self t;
      attributes = refl;
      operand_values = pair.0;
      operands_formed = pair.1;
      result_values = one.0;
      results_formed = one.1;
      props = refl;
      one = refl;
      bare = refl;
      ends_here = refl;
    }

pub fit_flagged_words : (name : List ℕ) (t : PlainType) (words : List (List ℕ)) → shape_of name ≡ Some FlaggedIntegers → is_inner_name name ≡ true → Whole t → are_flags words ≡ true → Fits (shape_with name (t ∷ t ∷ []) (t ∷ []) (flags_prop words))
fit_flagged_words name t words known inner n flags =
    let g = good_own t (own_whole t n) in
    let pair = good_more t (t ∷ []) g (good_more t [] g no_good) in
    let one = good_more t [] g no_good in
    record {
      form = FlaggedIntegers;
      known = known;
      line = refl;
      name = inner;
      operands = and_true (is_integer t) (same_type t t) n.integer (same_self t);
      results = same_self t;
      attributes = two_true (are_flags words && true) (two_true (are_flags words) flags);
      operand_values = pair.0;
      operands_formed = pair.1;
      result_values = one.0;
      results_formed = one.1;
      props = refl;
      one = refl;
      bare = refl;
      ends_here = refl;
    }

pub fit_icmp : (name : List ℕ) (t : PlainType) (a : PlainAttr) → shape_of name ≡ Some CompareIntegers → is_inner_name name ≡ true → Whole t → is_predicate a ≡ true → are_formed_entries (predicate_prop a) ≡ true
    → Fits (shape_with name (t ∷ t ∷ []) (Int 1 ∷ []) (predicate_prop a))
fit_icmp name t a known inner n predicate formed =
    let g = good_own t (own_whole t n) in
    let pair = good_more t (t ∷ []) g (good_more t [] g no_good) in
    record {
      form = CompareIntegers;
      known = known;
      line = refl;
      name = inner;
      operands = and_true (is_integer t) (same_type t t) n.integer (same_self t);
      results = refl;
      attributes = two_true (is_predicate a && true) (two_true (is_predicate a) predicate);
      operand_values = pair.0;
      operands_formed = pair.1;
      result_values = refl;
      results_formed = refl;
      props = formed;
      one = refl;
      bare = refl;
      ends_here = refl;
    }

pub fit_select_own : (name : List ℕ) (t : PlainType) → shape_of name ≡ Some SelectOwn → is_inner_name name ≡ true → Own t → Fits (shape_with name (Int 1 ∷ t ∷ t ∷ []) (t ∷ []) [])
fit_select_own name t known inner o =
    let g = good_own t o in
    let all = good_more (Int 1) (t ∷ t ∷ []) good_bit (good_more t (t ∷ []) g (good_more t [] g no_good)) in
    let one = good_more t [] g no_good in
    record {
      form = SelectOwn;
      known = known;
      line = refl;
      name = inner;
      operands = and_true (is_own t) (same_type t t) o.own (same_self t);
      results = same_self t;
      attributes = refl;
      operand_values = all.0;
      operands_formed = all.1;
      result_values = one.0;
      results_formed = one.1;
      props = refl;
      one = refl;
      bare = refl;
      ends_here = refl;
    }

pub fit_integer_constant : (name : List ℕ) (t : PlainType) (a : PlainAttr) → shape_of name ≡ Some IntegerConstant → is_inner_name name ≡ true → Whole t → is_integer_of t a ≡ true → are_formed_entries (value_prop a) ≡ true
    → Fits (shape_with name [] (t ∷ []) (value_prop a))
fit_integer_constant name t a known inner n value formed =
    let one = good_more t [] (good_own t (own_whole t n)) no_good in
    record {
      form = IntegerConstant;
      known = known;
      line = refl;
      name = inner;
      operands = refl;
      results = n.integer;
      attributes = two_true ((is_integer_of t a || is_integer_of Index a) && true) (two_true (is_integer_of t a || is_integer_of Index a) (either_way (is_integer_of t a) (is_integer_of Index a) value));
      operand_values = refl;
      operands_formed = refl;
      result_values = one.0;
      results_formed = one.1;
      props = formed;
      one = refl;
      bare = refl;
      ends_here = refl;
    }
  where
    either_way : (b c : Bool) → b ≡ true → (b || c) ≡ true
    either_way true c e = refl
    either_way false c e = absurd (true≢false (sym e))

pub fit_widen : (name : List ℕ) (m n : ℕ) → shape_of name ≡ Some Widen → is_inner_name name ≡ true → is_formed_type (Int m) ≡ true → is_formed_type (Int n) ≡ true → nat_lt m n ≡ true → Fits (shape_with name (Int m ∷ []) (Int n ∷ []) [])
fit_widen name m n known inner from to less = record {
  form = Widen;
  known = known;
  line = refl;
  name = inner;
  operands = refl;
  results = less;
  attributes = refl;
  operand_values = refl;
  operands_formed = two_true (is_formed_type (Int m)) from;
  result_values = refl;
  results_formed = two_true (is_formed_type (Int n)) to;
  props = refl;
  one = refl;
  bare = refl;
  ends_here = refl;
}

pub fit_trunc : (m n : ℕ) → is_formed_type (Int m) ≡ true → is_formed_type (Int n) ≡ true → nat_lt n m ≡ true → Fits (shape_with (codes "llvm.trunc") (Int m ∷ []) (Int n ∷ []) [])
fit_trunc m n from to less = record {
  form = NarrowInteger;
  known = refl;
  line = refl;
  name = refl;
  operands = refl;
  results = less;
  attributes = refl;
  operand_values = refl;
  operands_formed = two_true (is_formed_type (Int m)) from;
  result_values = refl;
  results_formed = two_true (is_formed_type (Int n)) to;
  props = refl;
  one = refl;
  bare = refl;
  ends_here = refl;
}

pub fit_trunc_words : (m n : ℕ) (words : List (List ℕ)) → is_formed_type (Int m) ≡ true → is_formed_type (Int n) ≡ true → nat_lt n m ≡ true → are_flags words ≡ true → Fits (shape_with (codes "llvm.trunc") (Int m ∷ []) (Int n ∷ []) (flags_prop words))
fit_trunc_words m n words from to less flags = record {
  form = NarrowInteger;
  known = refl;
  line = refl;
  name = refl;
  operands = refl;
  results = less;
  attributes = two_true (are_flags words && true) (two_true (are_flags words) flags);
  operand_values = refl;
  operands_formed = two_true (is_formed_type (Int m)) from;
  result_values = refl;
  results_formed = two_true (is_formed_type (Int n)) to;
  props = refl;
  one = refl;
  bare = refl;
  ends_here = refl;
}
