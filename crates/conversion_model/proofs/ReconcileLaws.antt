-- Behind reconciliation no cast is left that another one undoes, and none without uses.
use Rattle.std.proofs.Common.{◌≡◌, ℕ, zero, suc, ◌≤◌, ◌==◌, Bool, true, false, List, [], ◌∷◌, Option, Some, None, refl, sym, ap, ◌∙◌, subst, length, arith, true≢false}
use Rattle.std.specs.Prelude.{◌||◌, ◌&&◌, not, codes, T, if◌then◌else◌}
use Rattle.std.specs.List.{list_any}
use Rattle.std.specs.Str.{bytes_eq}
use Rattle.std.proofs.lemmas.List.Folds.{list_any-append}
use Rattle.std.proofs.Math.Bool.{or-false}
use Rattle.std.proofs.Math.Dec.{eqb_refl}
use Rattle.plain_tree.specs.Types.{PlainType}
use Rattle.plain_tree.specs.Ops.{Op, op}
use Rattle.conversion_model.specs.Items.{op_size}
use Rattle.conversion_model.specs.Uses.{operations, op_uses, op_without, replaced, types_of}
use Rattle.conversion_model.specs.Reconciled.{Cast, cast_in, casts_in, first_pair, is_cast, is_cast_of, is_unused_cast, is_used, pair_of, pair_or, pairs_left_out, results_of, stands_for, unused_left_out, without_pair}
use Rattle.conversion_model.specs.Promises.{NoPairLeft, NoUnusedCast}
use Rattle.conversion_model.proofs.Sizes.{op_any_listed, op_count, op_fewer, op_inside, op_less, op_uses_size}

-- the number of operations of a function, as the list has them
pub listed_size : (f : Op) → length (operations f) ≡ op_size f
listed_size f = omega (arith, op_count 0 f [])

-- A pair that is found is a cast of the text

truth : (b : Bool) → T b → b ≡ true
truth true t = refl
truth false t = absurd t

pub same_number : (m n : ℕ) → m ≡ n → (m == n) ≡ true
same_number m n same = subst (λ k. (m == k) ≡ true) same (truth (m == m) (eqb_refl m))

or-true : (b : Bool) → (b || true) ≡ true
or-true true = refl
or-true false = refl

abbrev result_of : Option (ℕ × ℕ) → ℕ → ℕ
result_of None n = n
result_of (Some p) n = p.0

pair_there : (c : Cast) (o : Option ℕ) (rest : Option (ℕ × ℕ)) (p : ℕ × ℕ) (others : Bool) → pair_or c o rest ≡ Some p → (rest ≡ Some p → others ≡ true) → ((c.result == p.0) || others) ≡ true
pair_there c None rest p others is behind = ap (λ b. (c.result == p.0) || b) (behind is) ∙ or-true (c.result == p.0)
pair_there c (Some v) rest p others is behind = ap (λ b. b || others) (same_number c.result p.0 (ap (λ o. result_of o 0) is))

first_there : (all cs : List Cast) (p : ℕ × ℕ) → first_pair all cs ≡ Some p → list_any (λ (c : Cast). c.result == p.0) cs ≡ true
first_there all [] p is = absurd (true≢false (sym (ap (λ (o : Option (ℕ × ℕ)). is_there o) is)))
  where
    is_there : Option (ℕ × ℕ) → Bool
    is_there None = false
    is_there (Some p) = true
first_there all (c ∷ cs) p is = pair_there c (stands_for c all) (first_pair all cs) p (list_any (λ (d : Cast). d.result == p.0) cs) is (first_there all cs p)

one_cast : (n : ℕ) (b : Bool) (c : Cast) → list_any (λ (d : Cast). d.result == n) (if b then c ∷ [] else []) ≡ (b && (c.result == n))
one_cast n true c = or-false (c.result == n)
one_cast n false c = refl

cast_there : (type_of : ℕ → PlainType) (n : ℕ) (o : Op) → list_any (λ (d : Cast). d.result == n) (cast_in type_of o) ≡ is_cast_of n o
cast_there type_of n (op k [] operands regions successors) = refl
cast_there type_of n (op k (r ∷ []) [] regions successors) = refl
cast_there type_of n (op k (r ∷ []) (v ∷ []) regions successors) =
    one_cast n (bytes_eq k.name (codes "builtin.unrealized_conversion_cast")) (record { operand = v; from = type_of v; result = r.0; to = r.1 })
cast_there type_of n (op k (r ∷ []) (v ∷ w ∷ vs) regions successors) = refl
cast_there type_of n (op k (r ∷ q ∷ rs) operands regions successors) = refl

casts_there : (type_of : ℕ → PlainType) (n : ℕ) (os : List (ℕ × Op)) → list_any (λ (d : Cast). d.result == n) (casts_in type_of os) ≡ list_any (λ o. is_cast_of n o.1) os
casts_there type_of n [] = refl
casts_there type_of n (o ∷ os) =
    list_any-append (λ (d : Cast). d.result == n) (cast_in type_of o.1) (casts_in type_of os)
    ∙ ap (λ b. b || list_any (λ (d : Cast). d.result == n) (casts_in type_of os)) (cast_there type_of n o.1)
    ∙ ap (λ b. is_cast_of n o.1 || b) (casts_there type_of n os)

-- The function itself is no cast

root_is_none : (n : ℕ) (f : Op) → is_cast f ≡ false → is_cast_of n f ≡ false
root_is_none n (op k [] operands regions successors) h = refl
root_is_none n (op k (r ∷ []) [] regions successors) h = refl
root_is_none n (op k (r ∷ []) (v ∷ []) regions successors) h = ap (λ b. b && (r.0 == n)) h
root_is_none n (op k (r ∷ []) (v ∷ w ∷ vs) regions successors) h = refl
root_is_none n (op k (r ∷ q ∷ rs) operands regions successors) h = refl

pub cast_without : (test : Op → Bool) (f : Op) → is_cast (op_without test f) ≡ is_cast f
cast_without test (op k results operands regions successors) = refl

pub cast_uses : (to : ℕ → ℕ) (f : Op) → is_cast (op_uses to f) ≡ is_cast f
cast_uses to (op k results operands regions successors) = refl

-- what holds of a listed operation, but not of the function itself, holds of one inside
inside : (test : Op → Bool) (f : Op) → test f ≡ false → list_any (λ o. test o.1) (operations f) ≡ true → op_inside test f ≡ true
inside test f not_root is = sym (ap (λ b. b || (op_inside test f || false)) not_root ∙ or-false (op_inside test f)) ∙ sym (op_any_listed test 0 f []) ∙ is

-- Each step leaves out an operation

pair_fewer : (f : Op) (p : ℕ × ℕ) → is_cast f ≡ false → pair_of f ≡ Some p → suc (op_size (without_pair p f)) ≤ op_size f
pair_fewer f p root is =
    let there : list_any (λ o. is_cast_of p.0 o.1) (operations f) ≡ true = sym (casts_there (types_of f) p.0 (operations f)) ∙ first_there (casts_in (types_of f) (operations f)) (casts_in (types_of f) (operations f)) p is in
    omega (arith, op_uses_size (replaced p.0 p.1) (op_without (is_cast_of p.0) f), op_fewer (is_cast_of p.0) f (inside (is_cast_of p.0) f (root_is_none p.0 f root) there))

pair_root : (f : Op) (p : ℕ × ℕ) → is_cast f ≡ false → is_cast (without_pair p f) ≡ false
pair_root f p root = cast_uses (replaced p.0 p.1) (op_without (is_cast_of p.0) f) ∙ cast_without (is_cast_of p.0) f ∙ root

not_empty : {P : Type 0} (f : Op) → op_size f ≤ 0 → P
not_empty (op k results operands regions successors) small = absurd (omega (arith, small))

by_pair : (room : ℕ) (f : Op) (o : Option (ℕ × ℕ)) → pair_of f ≡ o → ((p : ℕ × ℕ) → pair_of f ≡ Some p → pair_of (pairs_left_out room (without_pair p f)) ≡ None)
    → pair_of (elim o [ None ↦ f | Some p ↦ pairs_left_out room (without_pair p f) ]) ≡ None
by_pair room f None is more = is
by_pair room f (Some p) is more = more p is

pub pairs_end : (room : ℕ) (f : Op) → is_cast f ≡ false → op_size f ≤ room → pair_of (pairs_left_out room f) ≡ None
pairs_end zero f root small = not_empty f small
pairs_end (suc room) f root small =
    by_pair room f (pair_of f) refl (λ p is. pairs_end room (without_pair p f) (pair_root f p root) (omega (arith, small, pair_fewer f p root is)))

pub no_pair_left : NoPairLeft
no_pair_left f root = pairs_end (length (operations f)) f root (omega (arith, listed_size f))

-- What the first half leaves: no more operations, and the function is no cast

pairs_kept_by : (room : ℕ) (f : Op) (o : Option (ℕ × ℕ)) → ((p : ℕ × ℕ) → op_size (pairs_left_out room (without_pair p f)) ≤ op_size f)
    → op_size (elim o [ None ↦ f | Some p ↦ pairs_left_out room (without_pair p f) ]) ≤ op_size f
pairs_kept_by room f None more = omega arith
pairs_kept_by room f (Some p) more = more p

pair_no_more : (p : ℕ × ℕ) (f : Op) → op_size (without_pair p f) ≤ op_size f
pair_no_more p f = omega (arith, op_uses_size (replaced p.0 p.1) (op_without (is_cast_of p.0) f), op_less (is_cast_of p.0) f)

pub pairs_no_more : (room : ℕ) (f : Op) → op_size (pairs_left_out room f) ≤ op_size f
pairs_no_more zero f = omega arith
pairs_no_more (suc room) f = pairs_kept_by room f (pair_of f) (λ p. omega (arith, pairs_no_more room (without_pair p f), pair_no_more p f))

pairs_root_by : (room : ℕ) (f : Op) (o : Option (ℕ × ℕ)) → is_cast f ≡ false → ((p : ℕ × ℕ) → is_cast (pairs_left_out room (without_pair p f)) ≡ false)
    → is_cast (elim o [ None ↦ f | Some p ↦ pairs_left_out room (without_pair p f) ]) ≡ false
pairs_root_by room f None root more = root
pairs_root_by room f (Some p) root more = more p

pub pairs_root : (room : ℕ) (f : Op) → is_cast f ≡ false → is_cast (pairs_left_out room f) ≡ false
pairs_root zero f root = root
pairs_root (suc room) f root = pairs_root_by room f (pair_of f) root (λ p. pairs_root room (without_pair p f) (pair_root f p root))

-- The second half

abbrev has_unused : Op → Bool
has_unused f = list_any (λ o. is_unused_cast (operations f) o.1) (operations f)

abbrev used_after : ℕ → Op → Bool → Op
used_after room f b = elim b [ false ↦ f | true ↦ unused_left_out room (op_without (is_unused_cast (operations f)) f) ]

by_unused : (room : ℕ) (f : Op) (b : Bool) → has_unused f ≡ b
    → (has_unused f ≡ true → has_unused (unused_left_out room (op_without (is_unused_cast (operations f)) f)) ≡ false) → has_unused (used_after room f b) ≡ false
by_unused room f false is more = is
by_unused room f true is more = more is

unused_fewer : (f : Op) → is_cast f ≡ false → has_unused f ≡ true → suc (op_size (op_without (is_unused_cast (operations f)) f)) ≤ op_size f
unused_fewer f root is =
    let os : List (ℕ × Op) = operations f in
    op_fewer (is_unused_cast os) f (inside (is_unused_cast os) f (ap (λ b. b && not (list_any (λ (r : ℕ × PlainType). is_used os r.0) (results_of f))) root) is)

pub unused_end : (room : ℕ) (f : Op) → is_cast f ≡ false → op_size f ≤ room → has_unused (unused_left_out room f) ≡ false
unused_end zero f root small = not_empty f small
unused_end (suc room) f root small =
    by_unused room f (has_unused f) refl (λ is.
    unused_end room (op_without (is_unused_cast (operations f)) f) (cast_without (is_unused_cast (operations f)) f ∙ root) (omega (arith, small, unused_fewer f root is)))

pub no_unused_cast : NoUnusedCast
no_unused_cast f root =
    unused_end (length (operations f)) (pairs_left_out (length (operations f)) f) (pairs_root (length (operations f)) f root)
    (omega (arith, listed_size f, pairs_no_more (length (operations f)) f))
