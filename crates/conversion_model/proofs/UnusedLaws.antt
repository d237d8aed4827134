-- Where casts without uses are left out no cast comes to be undone by another one.
use Rattle.std.proofs.Common.{◌≡◌, ℕ, zero, suc, ◌+◌, ◌==◌, Bool, true, false, List, [], ◌∷◌, ◌++◌, Option, Some, None, refl, sym, ap, ◌∙◌, subst, length, true≢false}
use Rattle.std.specs.Prelude.{◌||◌, ◌&&◌, not, codes, if◌then◌else◌}
use Rattle.std.specs.List.{list_any}
use Rattle.std.specs.Str.{bytes_eq}
use Rattle.std.proofs.lemmas.Bool.{eqb-true}
use Rattle.plain_tree.specs.Types.{PlainType}
use Rattle.plain_tree.specs.Ops.{Op, op, Ops, end_of_ops, more_ops, Regions, end_of_regions, region, Blocks, end_of_blocks, block, Values}
use Rattle.conversion_model.specs.Targets.{operands_of}
use Rattle.conversion_model.specs.Items.{op_size, ops_size, blocks_size}
use Rattle.conversion_model.specs.Conversion.{regions_of}
use Rattle.conversion_model.specs.Uses.{op_listed, ops_listed, regions_listed, blocks_listed, op_uses, ops_uses, regions_uses, blocks_uses, op_values, ops_values, regions_values, blocks_values, op_without, ops_without, regions_without, blocks_without, operations, replaced, type_in, types_of}
use Rattle.conversion_model.specs.Reconciled.{Cast, cast_in, casts_in, first_pair, is_cast, is_cast_of, is_unused_cast, is_used, pair_of, pair_or, pairs_left_out, results_of, stands_for, undoes, unused_left_out, without_pair}
use Rattle.conversion_model.specs.Promises.{BareOp, BareOps, BareRegions, BareBlocks, NoPairBehind}
use Rattle.conversion_model.proofs.ReconcileLaws.{no_pair_left, same_number}

-- What has no casts with regions keeps none

uses_bare : (to : ℕ → ℕ) (o : Op) → (is_cast o ≡ true → regions_of o ≡ end_of_regions) → is_cast (op_uses to o) ≡ true → regions_of (op_uses to o) ≡ end_of_regions
uses_bare to (op k results operands regions successors) bare is = ap (regions_uses to) (bare is)

without_bare : (test : Op → Bool) (o : Op) → (is_cast o ≡ true → regions_of o ≡ end_of_regions) → is_cast (op_without test o) ≡ true → regions_of (op_without test o) ≡ end_of_regions
without_bare test (op k results operands regions successors) bare is = ap (regions_without test) (bare is)

mutual
  op_uses_bare : (to : ℕ → ℕ) (o : Op) → BareOp o → BareOp (op_uses to o)
  op_uses_bare to (op k results operands regions successors) b = regions_uses_bare to regions b

  ops_uses_bare : (to : ℕ → ℕ) (o : Ops) → BareOps o → BareOps (ops_uses to o)
  ops_uses_bare to end_of_ops b = b
  ops_uses_bare to (more_ops o os) b = (uses_bare to o b.0, op_uses_bare to o b.1, ops_uses_bare to os b.2)

  regions_uses_bare : (to : ℕ → ℕ) (o : Regions) → BareRegions o → BareRegions (regions_uses to o)
  regions_uses_bare to end_of_regions b = b
  regions_uses_bare to (region blocks more) b = (blocks_uses_bare to blocks b.0, regions_uses_bare to more b.1)

  blocks_uses_bare : (to : ℕ → ℕ) (o : Blocks) → BareBlocks o → BareBlocks (blocks_uses to o)
  blocks_uses_bare to end_of_blocks b = b
  blocks_uses_bare to (block label args ops more) b = (ops_uses_bare to ops b.0, blocks_uses_bare to more b.1)

bare_by : (o : Op) (os : Ops) (b : Bool) → (is_cast o ≡ true → regions_of o ≡ end_of_regions) → BareOp o → BareOps os → BareOps (if b then os else more_ops o os)
bare_by o os true r p q = q
bare_by o os false r p q = (r, p, q)

mutual
  op_without_bare : (test : Op → Bool) (o : Op) → BareOp o → BareOp (op_without test o)
  op_without_bare test (op k results operands regions successors) b = regions_without_bare test regions b

  ops_without_bare : (test : Op → Bool) (o : Ops) → BareOps o → BareOps (ops_without test o)
  ops_without_bare test end_of_ops b = b
  ops_without_bare test (more_ops o os) b = bare_by (op_without test o) (ops_without test os) (test o) (without_bare test o b.0) (op_without_bare test o b.1) (ops_without_bare test os b.2)

  regions_without_bare : (test : Op → Bool) (o : Regions) → BareRegions o → BareRegions (regions_without test o)
  regions_without_bare test end_of_regions b = b
  regions_without_bare test (region blocks more) b = (blocks_without_bare test blocks b.0, regions_without_bare test more b.1)

  blocks_without_bare : (test : Op → Bool) (o : Blocks) → BareBlocks o → BareBlocks (blocks_without test o)
  blocks_without_bare test end_of_blocks b = b
  blocks_without_bare test (block label args ops more) b = (ops_without_bare test ops b.0, blocks_without_bare test more b.1)

-- Types of values that are not results of what is left out

abbrev hit : ℕ → ℕ × PlainType → Bool
hit v r = r.0 == v

-- what is left out is a cast, and v is none of its results
abbrev Spares : (Op → Bool) → ℕ → Type 0
Spares test v = (o : Op) → test o ≡ true → (is_cast o ≡ true) × (list_any (hit v) (results_of o) ≡ false)

front_same : (results xs ys : Values) (v : ℕ) → type_in xs v ≡ type_in ys v → type_in (results ++ xs) v ≡ type_in (results ++ ys) v
front_same [] xs ys v same = same
front_same (r ∷ rs) xs ys v same = ap (λ t. if r.0 == v then r.1 else t) (front_same rs xs ys v same)

or_false : (a b : Bool) → (a || b) ≡ false → (a ≡ false) × (b ≡ false)
or_false true b is = absurd (true≢false is)
or_false false b is = (refl, is)

front_skipped : (results ys : Values) (v : ℕ) → list_any (hit v) results ≡ false → type_in (results ++ ys) v ≡ type_in ys v
front_skipped [] ys v none = refl
front_skipped (r ∷ rs) ys v none =
    let parts = or_false (r.0 == v) (list_any (hit v) rs) none in
    ap (λ b. if b then r.1 else type_in (rs ++ ys) v) parts.0 ∙ front_skipped rs ys v parts.1

left_out_type : (o : Op) (xs ys : Values) (v : ℕ) → regions_of o ≡ end_of_regions → list_any (hit v) (results_of o) ≡ false → type_in xs v ≡ type_in ys v → type_in xs v ≡ type_in (op_values o ys) v
left_out_type (op k results operands regions successors) xs ys v bare none same =
    same ∙ sym (front_skipped results ys v none) ∙ sym (ap (λ r. type_in (results ++ regions_values r ys) v) bare)

type_by : (test : Op → Bool) (o : Op) (os : Ops) (xs ys : Values) (v : ℕ) (b : Bool) → test o ≡ b → Spares test v → (is_cast o ≡ true → regions_of o ≡ end_of_regions)
    → type_in (ops_values (ops_without test os) xs) v ≡ type_in (ops_values os ys) v → type_in (op_values (op_without test o) (ops_values (ops_without test os) xs)) v ≡ type_in (op_values o (ops_values os ys)) v
    → type_in (ops_values (if b then ops_without test os else more_ops (op_without test o) (ops_without test os)) xs) v ≡ type_in (op_values o (ops_values os ys)) v
type_by test o os xs ys v true is spares bare rest kept = left_out_type o (ops_values (ops_without test os) xs) (ops_values os ys) v (bare (spares o is).0) (spares o is).1 rest
type_by test o os xs ys v false is spares bare rest kept = kept

mutual
  op_type : (test : Op → Bool) (o : Op) (xs ys : Values) (v : ℕ) → Spares test v → BareOp o → type_in xs v ≡ type_in ys v → type_in (op_values (op_without test o) xs) v ≡ type_in (op_values o ys) v
  op_type test (op k results operands regions successors) xs ys v spares bare same =
      front_same results (regions_values (regions_without test regions) xs) (regions_values regions ys) v (regions_type test regions xs ys v spares bare same)

  ops_type : (test : Op → Bool) (o : Ops) (xs ys : Values) (v : ℕ) → Spares test v → BareOps o → type_in xs v ≡ type_in ys v → type_in (ops_values (ops_without test o) xs) v ≡ type_in (ops_values o ys) v
  ops_type test end_of_ops xs ys v spares bare same = same
  ops_type test (more_ops o os) xs ys v spares bare same =
      let rest = ops_type test os xs ys v spares bare.2 same in
      type_by test o os xs ys v (test o) refl spares bare.0 rest (op_type test o (ops_values (ops_without test os) xs) (ops_values os ys) v spares bare.1 rest)

  regions_type : (test : Op → Bool) (o : Regions) (xs ys : Values) (v : ℕ) → Spares test v → BareRegions o → type_in xs v ≡ type_in ys v → type_in (regions_values (regions_without test o) xs) v ≡ type_in (regions_values o ys) v
  regions_type test end_of_regions xs ys v spares bare same = same
  regions_type test (region blocks more) xs ys v spares bare same =
      blocks_type test blocks (regions_values (regions_without test more) xs) (regions_values more ys) v spares bare.0 (regions_type test more xs ys v spares bare.1 same)

  blocks_type : (test : Op → Bool) (o : Blocks) (xs ys : Values) (v : ℕ) → Spares test v → BareBlocks o → type_in xs v ≡ type_in ys v → type_in (blocks_values (blocks_without test o) xs) v ≡ type_in (blocks_values o ys) v
  blocks_type test end_of_blocks xs ys v spares bare same = same
  blocks_type test (block label args ops more) xs ys v spares bare same =
      front_same args (ops_values (ops_without test ops) (blocks_values (blocks_without test more) xs)) (ops_values ops (blocks_values more ys)) v
      (ops_type test ops (blocks_values (blocks_without test more) xs) (blocks_values more ys) v spares bare.0 (blocks_type test more xs ys v spares bare.1 same))

-- The list of operations

-- some of the operations, in order, each with what is left of its regions
data Some_of (test : Op → Bool) : List (ℕ × Op) → List (ℕ × Op) → Type 0 where
  some_end : Some_of test [] []
  some_keep : {m n : ℕ} {o : Op} {xs ys : List (ℕ × Op)} → Some_of test xs ys → Some_of test ((m, op_without test o) ∷ xs) ((n, o) ∷ ys)
  some_skip : {n : ℕ} {o : Op} {xs ys : List (ℕ × Op)} → Some_of test xs ys → Some_of test xs ((n, o) ∷ ys)

left_out_listed : (test : Op → Bool) (n : ℕ) (o : Op) (xs ys : List (ℕ × Op)) → regions_of o ≡ end_of_regions → Some_of test xs ys → Some_of test xs (op_listed n o ys)
left_out_listed test n (op k results operands regions successors) xs ys bare rest =
    some_skip (subst (λ r. Some_of test xs (regions_listed (n + 1) r ys)) (sym bare) rest)

listed_by : (test : Op → Bool) (m n : ℕ) (o : Op) (os : Ops) (xs ys : List (ℕ × Op)) (b : Bool) → test o ≡ b → ((p : Op) → test p ≡ true → is_cast p ≡ true) → (is_cast o ≡ true → regions_of o ≡ end_of_regions)
    → ((k : ℕ) → Some_of test (ops_listed k (ops_without test os) xs) ys) → ((k : ℕ) → Some_of test (op_listed m (op_without test o) (ops_listed k (ops_without test os) xs)) (op_listed n o ys))
    → Some_of test (ops_listed m (if b then ops_without test os else more_ops (op_without test o) (ops_without test os)) xs) (op_listed n o ys)
listed_by test m n o os xs ys true is casts bare rest kept = left_out_listed test n o (ops_listed m (ops_without test os) xs) ys (bare (casts o is)) (rest m)
listed_by test m n o os xs ys false is casts bare rest kept = kept (m + op_size (op_without test o))

mutual
  op_some : (test : Op → Bool) (m n : ℕ) (o : Op) (xs ys : List (ℕ × Op)) → ((p : Op) → test p ≡ true → is_cast p ≡ true) → BareOp o → Some_of test xs ys → Some_of test (op_listed m (op_without test o) xs) (op_listed n o ys)
  op_some test m n (op k results operands regions successors) xs ys casts bare rest =
      some_keep {o = op k results operands regions successors} (regions_some test (m + 1) (n + 1) regions xs ys casts bare rest)

  ops_some : (test : Op → Bool) (m n : ℕ) (o : Ops) (xs ys : List (ℕ × Op)) → ((p : Op) → test p ≡ true → is_cast p ≡ true) → BareOps o → Some_of test xs ys → Some_of test (ops_listed m (ops_without test o) xs) (ops_listed n o ys)
  ops_some test m n end_of_ops xs ys casts bare rest = rest
  ops_some test m n (more_ops o os) xs ys casts bare rest =
      listed_by test m n o os xs (ops_listed (n + op_size o) os ys) (test o) refl casts bare.0
      (λ k. ops_some test k (n + op_size o) os xs ys casts bare.2 rest)
      (λ k. op_some test m n o (ops_listed k (ops_without test os) xs) (ops_listed (n + op_size o) os ys) casts bare.1 (ops_some test k (n + op_size o) os xs ys casts bare.2 rest))

  regions_some : (test : Op → Bool) (m n : ℕ) (o : Regions) (xs ys : List (ℕ × Op)) → ((p : Op) → test p ≡ true → is_cast p ≡ true) → BareRegions o → Some_of test xs ys → Some_of test (regions_listed m (regions_without test o) xs) (regions_listed n o ys)
  regions_some test m n end_of_regions xs ys casts bare rest = rest
  regions_some test m n (region blocks more) xs ys casts bare rest =
      blocks_some test m n blocks (regions_listed (m + blocks_size (blocks_without test blocks)) (regions_without test more) xs) (regions_listed (n + blocks_size blocks) more ys) casts bare.0
      (regions_some test (m + blocks_size (blocks_without test blocks)) (n + blocks_size blocks) more xs ys casts bare.1 rest)

  blocks_some : (test : Op → Bool) (m n : ℕ) (o : Blocks) (xs ys : List (ℕ × Op)) → ((p : Op) → test p ≡ true → is_cast p ≡ true) → BareBlocks o → Some_of test xs ys → Some_of test (blocks_listed m (blocks_without test o) xs) (blocks_listed n o ys)
  blocks_some test m n end_of_blocks xs ys casts bare rest = rest
  blocks_some test m n (block label args ops more) xs ys casts bare rest =
      ops_some test m n ops (blocks_listed (m + ops_size (ops_without test ops)) (blocks_without test more) xs) (blocks_listed (n + ops_size ops) more ys) casts bare.0
      (blocks_some test (m + ops_size (ops_without test ops)) (n + ops_size ops) more xs ys casts bare.1 rest)

-- Casts

data Fewer : List Cast → List Cast → Type 0 where
  fewer_end : Fewer [] []
  fewer_keep : {c : Cast} {xs ys : List Cast} → Fewer xs ys → Fewer (c ∷ xs) (c ∷ ys)
  fewer_skip : {c : Cast} {xs ys : List Cast} → Fewer xs ys → Fewer xs (c ∷ ys)

both_front : (cs : List Cast) {xs ys : List Cast} → Fewer xs ys → Fewer (cs ++ xs) (cs ++ ys)
both_front [] rest = rest
both_front (c ∷ cs) rest = fewer_keep (both_front cs rest)

one_front : (cs : List Cast) {xs ys : List Cast} → Fewer xs ys → Fewer xs (cs ++ ys)
one_front [] rest = rest
one_front (c ∷ cs) rest = fewer_skip (one_front cs rest)

or-first : (a b : Bool) → a ≡ true → (a || b) ≡ true
or-first true b is = refl
or-first false b is = absurd (true≢false (sym is))

or-second : (a b : Bool) → b ≡ true → (a || b) ≡ true
or-second true b is = refl
or-second false b is = is

here_true : (v : ℕ) (vs : List ℕ) → (v == v) ≡ true → list_any (λ u. u == v) (v ∷ vs) ≡ true
here_true v vs is = or-first (v == v) (list_any (λ u. u == v) vs) is

cast_same : (test : Op → Bool) (s t : ℕ → PlainType) (o : Op) → ((v : ℕ) → list_any (λ u. u == v) (operands_of o) ≡ true → s v ≡ t v) → cast_in s (op_without test o) ≡ cast_in t o
cast_same test s t (op k [] operands regions successors) agree = refl
cast_same test s t (op k (r ∷ []) [] regions successors) agree = refl
cast_same test s t (op k (r ∷ []) (v ∷ []) regions successors) agree =
    ap (λ u. if bytes_eq k.name (codes "builtin.unrealized_conversion_cast") then record { operand = v; from = u; result = r.0; to = r.1 } ∷ [] else []) (agree v (here_true v [] (same_number v v refl)))
cast_same test s t (op k (r ∷ []) (v ∷ w ∷ vs) regions successors) agree = refl
cast_same test s t (op k (r ∷ q ∷ rs) operands regions successors) agree = refl

casts_fewer : (test : Op → Bool) (s t : ℕ → PlainType) {xs ys : List (ℕ × Op)} → Some_of test xs ys → ((v : ℕ) → is_used ys v ≡ true → s v ≡ t v) → Fewer (casts_in s xs) (casts_in t ys)
casts_fewer test s t some_end agree = fewer_end
casts_fewer test s t (some_keep {o = o} {xs = xs} {ys = ys} rest) agree =
    subst (λ cs. Fewer (cs ++ casts_in s xs) (cast_in t o ++ casts_in t ys)) (sym (cast_same test s t o (λ v is. agree v (or-first _ (is_used ys v) is))))
    (both_front (cast_in t o) (casts_fewer test s t rest (λ v is. agree v (or-second (list_any (λ u. u == v) (operands_of o)) (is_used ys v) is))))
casts_fewer test s t (some_skip {o = o} {ys = ys} rest) agree =
    one_front (cast_in t o) (casts_fewer test s t rest (λ v is. agree v (or-second (list_any (λ u. u == v) (operands_of o)) (is_used ys v) is)))

-- Of fewer casts none is undone where none was

abbrev there : {A : Type 0} → Option A → Bool
there None = false
there (Some x) = true

none_if : {A : Type 0} (b : Bool) (x : A) (rest : Option A) → (if b then Some x else rest) ≡ None → (b ≡ false) × (rest ≡ None)
none_if true x rest is = absurd (true≢false (ap there is))
none_if false x rest is = (refl, is)

stands_fewer : (c : Cast) {xs ys : List Cast} → Fewer xs ys → stands_for c ys ≡ None → stands_for c xs ≡ None
stands_fewer c fewer_end none = none
stands_fewer c (fewer_keep {c = d} {xs = xs} {ys = ys} rest) none =
    let parts = none_if (undoes c d) d.operand (stands_for c ys) none in
    ap (λ b. if b then Some d.operand else stands_for c xs) parts.0 ∙ stands_fewer c rest parts.1
stands_fewer c (fewer_skip {c = d} {ys = ys} rest) none = stands_fewer c rest (none_if (undoes c d) d.operand (stands_for c ys) none).1

none_pair : (c : Cast) (x : Option ℕ) (rest : Option (ℕ × ℕ)) → pair_or c x rest ≡ None → (x ≡ None) × (rest ≡ None)
none_pair c None rest is = (refl, is)
none_pair c (Some v) rest is = absurd (true≢false (ap there is))

first_fewer : {all some xs ys : List Cast} → Fewer some all → Fewer xs ys → first_pair all ys ≡ None → first_pair some xs ≡ None
first_fewer whole fewer_end none = none
first_fewer {all = all} {some = some} whole (fewer_keep {c = c} {xs = xs} {ys = ys} rest) none =
    let parts = none_pair c (stands_for c all) (first_pair all ys) none in
    ap (λ x. pair_or c x (first_pair some xs)) (stands_fewer c whole parts.0) ∙ first_fewer whole rest parts.1
first_fewer {all = all} whole (fewer_skip {c = c} {ys = ys} rest) none = first_fewer whole rest (none_pair c (stands_for c all) (first_pair all ys) none).1

-- Casts without uses

and_first : (a b : Bool) → (a && b) ≡ true → (a ≡ true) × (b ≡ true)
and_first true b is = (refl, is)
and_first false b is = absurd (true≢false (sym is))

not_true : (b : Bool) → not b ≡ true → b ≡ false
not_true true is = absurd (true≢false (sym is))
not_true false is = refl

unused_not : (os : List (ℕ × Op)) (v : ℕ) → is_used os v ≡ true → (rs : Values) → list_any (λ (r : ℕ × PlainType). is_used os r.0) rs ≡ false → list_any (hit v) rs ≡ false
unused_not os v used [] none = refl
unused_not os v used (r ∷ rs) none =
    let parts = or_false (is_used os r.0) (list_any (λ (q : ℕ × PlainType). is_used os q.0) rs) none in
    other (r.0 == v) refl parts.0 (unused_not os v used rs parts.1)
  where
    other : (b : Bool) → (r.0 == v) ≡ b → is_used os r.0 ≡ false → list_any (hit v) rs ≡ false → (b || list_any (hit v) rs) ≡ false
    other true is unused rest = absurd (true≢false (sym used ∙ sym (ap (is_used os) (eqb-true r.0 v is)) ∙ unused))
    other false is unused rest = rest

spares_used : (os : List (ℕ × Op)) (v : ℕ) → is_used os v ≡ true → Spares (is_unused_cast os) v
spares_used os v used o is =
    let parts = and_first (is_cast o) (not (list_any (λ (r : ℕ × PlainType). is_used os r.0) (results_of o))) is in
    (parts.0, unused_not os v used (results_of o) (not_true (list_any (λ (r : ℕ × PlainType). is_used os r.0) (results_of o)) parts.1))

step_keeps : (f : Op) → BareOp f → pair_of f ≡ None → pair_of (op_without (is_unused_cast (operations f)) f) ≡ None
step_keeps f bare none =
    let os : List (ℕ × Op) = operations f in
    let test : Op → Bool = is_unused_cast os in
    let some = op_some test 0 0 f [] [] (λ p is. (and_first (is_cast p) (not (list_any (λ (r : ℕ × PlainType). is_used os r.0) (results_of p))) is).0) bare some_end in
    let fewer : Fewer (casts_in (types_of (op_without test f)) (operations (op_without test f))) (casts_in (types_of f) os) =
    casts_fewer test (types_of (op_without test f)) (types_of f) some (λ v used. op_type test f [] [] v (spares_used os v used) bare refl) in
    first_fewer fewer fewer none

kept_by : (room : ℕ) (f : Op) (b : Bool) → pair_of f ≡ None → pair_of (unused_left_out room (op_without (is_unused_cast (operations f)) f)) ≡ None
    → pair_of (elim b [ false ↦ f | true ↦ unused_left_out room (op_without (is_unused_cast (operations f)) f) ]) ≡ None
kept_by room f false none more = none
kept_by room f true none more = more

pub unused_keeps : (room : ℕ) (f : Op) → BareOp f → pair_of f ≡ None → pair_of (unused_left_out room f) ≡ None
unused_keeps zero f bare none = none
unused_keeps (suc room) f bare none =
    kept_by room f (list_any (λ o. is_unused_cast (operations f) o.1) (operations f)) none
    (unused_keeps room (op_without (is_unused_cast (operations f)) f) (op_without_bare (is_unused_cast (operations f)) f bare) (step_keeps f bare none))

pairs_bare_by : (room : ℕ) (f : Op) (o : Option (ℕ × ℕ)) → BareOp f → ((p : ℕ × ℕ) → BareOp (pairs_left_out room (without_pair p f))) → BareOp (elim o [ None ↦ f | Some p ↦ pairs_left_out room (without_pair p f) ])
pairs_bare_by room f None bare more = bare
pairs_bare_by room f (Some p) bare more = more p

pairs_bare : (room : ℕ) (f : Op) → BareOp f → BareOp (pairs_left_out room f)
pairs_bare zero f bare = bare
pairs_bare (suc room) f bare =
    pairs_bare_by room f (pair_of f) bare (λ p. pairs_bare room (without_pair p f) (op_uses_bare (replaced p.0 p.1) (op_without (is_cast_of p.0) f) (op_without_bare (is_cast_of p.0) f bare)))

pub no_pair_behind : NoPairBehind
no_pair_behind f root bare =
    unused_keeps (length (operations f)) (pairs_left_out (length (operations f)) f) (pairs_bare (length (operations f)) f bare) (no_pair_left f root)
