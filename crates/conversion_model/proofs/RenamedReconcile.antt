-- Renaming: reconciliation.
use Rattle.std.proofs.Common.{◌≡◌, ℕ, zero, suc, ◌==◌, Bool, true, false, List, [], ◌∷◌, ◌++◌, Option, Some, None, refl, sym, ap, ◌∙◌, subst, length}
use Rattle.std.specs.Prelude.{◌||◌, ◌&&◌, not, codes, if◌then◌else◌}
use Rattle.std.specs.List.{list_any}
use Rattle.std.specs.Str.{bytes_eq}
use Rattle.plain_tree.specs.Types.{PlainType, same_type}
use Rattle.plain_tree.specs.Ops.{Op, op, Values}
use Rattle.conversion_model.specs.Targets.{operands_of}
use Rattle.conversion_model.specs.Uses.{operations, replaced, types_of}
use Rattle.conversion_model.specs.Reconciled.{Cast, cast_in, casts_in, first_pair, is_cast_of, is_unused_cast, is_used, pair_of, pair_or, pairs_left_out, reconciled, stands_for, undoes, unused_left_out, without_pair}
use Rattle.conversion_model.specs.Renamings.{RenAll, none_all, more_all, RenValues, none_values, more_values, RenOp, ren_op, OneToOne, TypesAgree}
use Rattle.conversion_model.proofs.RenamedTypes.{operands_ren, op_sizes, types_agree}
use Rattle.conversion_model.proofs.RenamedUses.{RenListed, listed_ended, more_listed, op_uses_ren, op_without_ren, operations_ren, replaced_ren, TestsAgree}
use Rattle.conversion_model.proofs.ReconcileLaws.{listed_size}

pub record RenCast (R : ℕ → ℕ → Type 0) (c d : Cast) : Type 0 where
  pub operand : R c.operand d.operand
  pub from : c.from ≡ d.from
  pub result : R c.result d.result
  pub to : c.to ≡ d.to

pub data RenCasts (R : ℕ → ℕ → Type 0) : List Cast → List Cast → Type 0 where
  casts_ended : RenCasts R [] []
  more_casts : {c d : Cast} {cs ds : List Cast} → RenCast R c d → RenCasts R cs ds → RenCasts R (c ∷ cs) (d ∷ ds)

by_name : {R : ℕ → ℕ → Type 0} {c d : Cast} {cs ds : List Cast} (b : Bool) → RenCast R c d → RenCasts R cs ds → RenCasts R ((if b then c ∷ [] else []) ++ cs) ((if b then d ∷ [] else []) ++ ds)
by_name true c more = more_casts c more
by_name false c more = more

cast_joined : {R L : ℕ → ℕ → Type 0} {o p : Op} {cs ds : List Cast} (s t : ℕ → PlainType) → TypesAgree R s t → RenOp R L o p → RenCasts R cs ds → RenCasts R (cast_in s o ++ cs) (cast_in t p ++ ds)
cast_joined s t agree (ren_op none_values os r ls) more = more
cast_joined s t agree (ren_op (more_values v none_values) none_all r ls) more = more
cast_joined s t agree (ren_op {k = k} (more_values v none_values) (more_all {m = m} {n = n} u none_all) r ls) more =
    by_name (bytes_eq k.name (codes "builtin.unrealized_conversion_cast")) (record { operand = u; from = agree m n u; result = v; to = refl }) more
cast_joined s t agree (ren_op (more_values v none_values) (more_all u (more_all w us)) r ls) more = more
cast_joined s t agree (ren_op (more_values v (more_values w vs)) os r ls) more = more

casts_ren : {R L : ℕ → ℕ → Type 0} {os ps : List (ℕ × Op)} (s t : ℕ → PlainType) → TypesAgree R s t → RenListed R L os ps → RenCasts R (casts_in s os) (casts_in t ps)
casts_ren s t agree listed_ended = casts_ended
casts_ren s t agree (more_listed r rest) = cast_joined s t agree r (casts_ren s t agree rest)

both_same : (a b c d e f : Bool) → a ≡ b → c ≡ d → e ≡ f → (a && (c && not e)) ≡ (b && (d && not f))
both_same a b c d e f p q r = ap (λ x. x && (c && not e)) p ∙ ap (λ x. b && (x && not e)) q ∙ ap (λ x. b && (d && not x)) r

undoes_same : {R : ℕ → ℕ → Type 0} (c c' d d' : Cast) → OneToOne R → RenCast R c c' → RenCast R d d' → undoes c d ≡ undoes c' d'
undoes_same c c' d d' one r s =
    both_same (d.result == c.operand) (d'.result == c'.operand) (same_type d.from c.to) (same_type d'.from c'.to) (d.operand == c.result) (d'.operand == c'.result)
    (one d.result d'.result c.operand c'.operand s.result r.operand)
    (ap (λ t. same_type t c.to) s.from ∙ ap (λ t. same_type d'.from t) r.to)
    (one d.operand d'.operand c.result c'.result s.operand r.result)

pub data RenMaybe (R : ℕ → ℕ → Type 0) : Option ℕ → Option ℕ → Type 0 where
  no_value : RenMaybe R None None
  a_value : {m n : ℕ} → R m n → RenMaybe R (Some m) (Some n)

maybe_by : {R : ℕ → ℕ → Type 0} {x y : Option ℕ} (m n : ℕ) (b c : Bool) → b ≡ c → R m n → RenMaybe R x y → RenMaybe R (if b then Some m else x) (if c then Some n else y)
maybe_by {R = R} {x = x} {y = y} m n b c same r other = subst (λ d. RenMaybe R (if b then Some m else x) (if d then Some n else y)) same (at b)
  where
    at : (b : Bool) → RenMaybe R (if b then Some m else x) (if b then Some n else y)
    at true = a_value r
    at false = other

stands_ren : {R : ℕ → ℕ → Type 0} {ds es : List Cast} (c c' : Cast) → OneToOne R → RenCast R c c' → RenCasts R ds es → RenMaybe R (stands_for c ds) (stands_for c' es)
stands_ren c c' one r casts_ended = no_value
stands_ren c c' one r (more_casts {c = d} {d = e} s rest) = maybe_by d.operand e.operand (undoes c d) (undoes c' e) (undoes_same c c' d e one r s) s.operand (stands_ren c c' one r rest)

pub data RenPair (R : ℕ → ℕ → Type 0) : Option (ℕ × ℕ) → Option (ℕ × ℕ) → Type 0 where
  no_pair : RenPair R None None
  a_pair : {p q : ℕ × ℕ} → R p.0 q.0 → R p.1 q.1 → RenPair R (Some p) (Some q)

pair_or_ren : {R : ℕ → ℕ → Type 0} {v w : Option ℕ} {x y : Option (ℕ × ℕ)} (c d : Cast) → RenCast R c d → RenMaybe R v w → RenPair R x y → RenPair R (pair_or c v x) (pair_or d w y)
pair_or_ren c d r no_value other = other
pair_or_ren c d r (a_value v) other = a_pair r.result v

first_ren : {R : ℕ → ℕ → Type 0} {all every cs ds : List Cast} → OneToOne R → RenCasts R all every → RenCasts R cs ds → RenPair R (first_pair all cs) (first_pair every ds)
first_ren one all casts_ended = no_pair
first_ren one all (more_casts {c = c} {d = d} r rest) = pair_or_ren c d r (stands_ren c d one r all) (first_ren one all rest)

pub pair_of_ren : {R L : ℕ → ℕ → Type 0} {f g : Op} → OneToOne R → RenOp R L f g → RenPair R (pair_of f) (pair_of g)
pair_of_ren {f = f} {g = g} one r = let all = casts_ren (types_of f) (types_of g) (types_agree one r) (operations_ren r) in first_ren one all all

cast_of_same : {R L : ℕ → ℕ → Type 0} (m n : ℕ) → OneToOne R → R m n → TestsAgree R L (is_cast_of m) (is_cast_of n)
cast_of_same m n one s (op k [] os r ls) p (ren_op none_values vs rr ll) = refl
cast_of_same m n one s o p (ren_op (more_values v none_values) none_all rr ll) = refl
cast_of_same m n one s o p (ren_op {k = k} (more_values {m = a} {n = b} v none_values) (more_all u none_all) rr ll) =
    ap (λ x. bytes_eq k.name (codes "builtin.unrealized_conversion_cast") && x) (one a b m n v s)
cast_of_same m n one s o p (ren_op (more_values v none_values) (more_all u (more_all w us)) rr ll) = refl
cast_of_same m n one s o p (ren_op (more_values v (more_values w vs)) os rr ll) = refl

without_ren : {R L : ℕ → ℕ → Type 0} {f g : Op} (p q : ℕ × ℕ) → OneToOne R → R p.0 q.0 → R p.1 q.1 → RenOp R L f g → RenOp R L (without_pair p f) (without_pair q g)
without_ren p q one from to r =
    op_uses_ren (replaced p.0 p.1) (replaced q.0 q.1) (replaced_ren one from to) (op_without_ren (is_cast_of p.0) (is_cast_of q.0) (cast_of_same p.0 q.0 one from) r)

pairs_by : {R L : ℕ → ℕ → Type 0} {f g : Op} {x y : Option (ℕ × ℕ)} (room : ℕ) → RenPair R x y → RenOp R L f g
    → ((p q : ℕ × ℕ) → R p.0 q.0 → R p.1 q.1 → RenOp R L (pairs_left_out room (without_pair p f)) (pairs_left_out room (without_pair q g)))
    → RenOp R L (elim x [ None ↦ f | Some p ↦ pairs_left_out room (without_pair p f) ]) (elim y [ None ↦ g | Some p ↦ pairs_left_out room (without_pair p g) ])
pairs_by room no_pair r more = r
pairs_by room (a_pair {p = p} {q = q} from to) r more = more p q from to

pairs_ren : {R L : ℕ → ℕ → Type 0} (room : ℕ) {f g : Op} → OneToOne R → RenOp R L f g → RenOp R L (pairs_left_out room f) (pairs_left_out room g)
pairs_ren zero one r = r
pairs_ren (suc room) one r = pairs_by room (pair_of_ren one r) r (λ p q from to. pairs_ren room one (without_ren p q one from to r))

-- Casts without uses

used_here : {R : ℕ → ℕ → Type 0} {ms ns : List ℕ} (m n : ℕ) → OneToOne R → R m n → RenAll R ms ns → list_any (λ v. v == m) ms ≡ list_any (λ v. v == n) ns
used_here m n one s none_all = refl
used_here m n one s (more_all {m = a} {n = b} {ms = ms} r rest) = ap (λ x. x || list_any (λ v. v == m) ms) (one a b m n r s) ∙ ap (λ x. (b == n) || x) (used_here m n one s rest)

used_same : {R L : ℕ → ℕ → Type 0} {os ps : List (ℕ × Op)} (m n : ℕ) → OneToOne R → R m n → RenListed R L os ps → is_used os m ≡ is_used ps n
used_same m n one s listed_ended = refl
used_same m n one s (more_listed {p = p} {os = os} r rest) =
    ap (λ x. x || is_used os m) (used_here m n one s (operands_ren r)) ∙ ap (λ x. list_any (λ v. v == n) (operands_of p) || x) (used_same m n one s rest)

results_used : {R L : ℕ → ℕ → Type 0} {os ps : List (ℕ × Op)} {vs ws : Values} → OneToOne R → RenListed R L os ps → RenValues R vs ws
    → list_any (λ (r : ℕ × PlainType). is_used os r.0) vs ≡ list_any (λ (r : ℕ × PlainType). is_used ps r.0) ws
results_used one all none_values = refl
results_used {os = os} {ps = ps} one all (more_values {m = m} {n = n} {vs = vs} r rest) =
    ap (λ x. x || list_any (λ (r : ℕ × PlainType). is_used os r.0) vs) (used_same m n one r all) ∙ ap (λ x. is_used ps n || x) (results_used one all rest)

unused_same : {R L : ℕ → ℕ → Type 0} {os ps : List (ℕ × Op)} → OneToOne R → RenListed R L os ps → TestsAgree R L (is_unused_cast os) (is_unused_cast ps)
unused_same one all o p (ren_op {k = k} vs uses r ls) = ap (λ b. bytes_eq k.name (codes "builtin.unrealized_conversion_cast") && not b) (results_used one all vs)

any_same : {R L : ℕ → ℕ → Type 0} {os ps : List (ℕ × Op)} (s t : Op → Bool) → TestsAgree R L s t → RenListed R L os ps → list_any (λ (o : ℕ × Op). s o.1) os ≡ list_any (λ (o : ℕ × Op). t o.1) ps
any_same s t agree listed_ended = refl
any_same s t agree (more_listed {o = o} {p = p} {os = os} r rest) = ap (λ b. b || list_any (λ (o : ℕ × Op). s o.1) os) (agree o p r) ∙ ap (λ b. t p || b) (any_same s t agree rest)

unused_by : {R L : ℕ → ℕ → Type 0} {f g x y : Op} (b c : Bool) → b ≡ c → RenOp R L f g → RenOp R L x y → RenOp R L (elim b [ false ↦ f | true ↦ x ]) (elim c [ false ↦ g | true ↦ y ])
unused_by {R = R} {L = L} {f = f} {g = g} {x = x} {y = y} b c same r s = subst (λ d. RenOp R L (elim b [ false ↦ f | true ↦ x ]) (elim d [ false ↦ g | true ↦ y ])) same (at b)
  where
    at : (b : Bool) → RenOp R L (elim b [ false ↦ f | true ↦ x ]) (elim b [ false ↦ g | true ↦ y ])
    at true = s
    at false = r

unused_ren : {R L : ℕ → ℕ → Type 0} (room : ℕ) {f g : Op} → OneToOne R → RenOp R L f g → RenOp R L (unused_left_out room f) (unused_left_out room g)
unused_ren zero one r = r
unused_ren (suc room) {f = f} {g = g} one r =
    let all = operations_ren r in
    unused_by (list_any (λ o. is_unused_cast (operations f) o.1) (operations f)) (list_any (λ o. is_unused_cast (operations g) o.1) (operations g))
    (any_same (is_unused_cast (operations f)) (is_unused_cast (operations g)) (unused_same one all) all) r
    (unused_ren room one (op_without_ren (is_unused_cast (operations f)) (is_unused_cast (operations g)) (unused_same one all) r))

-- functions that go together go together when they are reconciled
pub reconciled_ren : {R L : ℕ → ℕ → Type 0} {f g : Op} → OneToOne R → RenOp R L f g → RenOp R L (reconciled f) (reconciled g)
reconciled_ren {R = R} {L = L} {f = f} {g = g} one r =
    subst (λ n. RenOp R L (reconciled f) (unused_left_out n (pairs_left_out n g))) (listed_size f ∙ op_sizes r ∙ sym (listed_size g))
    (unused_ren (length (operations f)) one (pairs_ren (length (operations f)) one r))
