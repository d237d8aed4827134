-- How values use each other where operations are replaced by others one after another.
use Rattle.std.proofs.Common.{◌≡◌, ℕ, ◌+◌, Bool, true, false, List, [], ◌∷◌, ◌++◌, refl, sym, ap, ◌∙◌, inl, inr, length, arith, true≢false}
use Rattle.std.specs.Prelude.{◌⊎◌, if◌then◌else◌}
use Rattle.plain_tree.specs.Ops.{Kind, Op, op, Ops, more_ops, Regions, end_of_regions, Blocks, Values}
use Rattle.rule_model.specs.Words.{AllOf, has, numbers, results_of}
use Rattle.rule_model.specs.Chains.{blocks_operands, blocks_used, by_way_of, Chain, op_operands, op_used, ops_operands, ops_used, regions_operands, regions_used, uses}
use Rattle.rule_model.proofs.Numbers.{has_of}
use Rattle.conversion_model.specs.Targets.{operands_of}
use Rattle.conversion_model.specs.Conversion.{regions_of}
use Rattle.conversion_model.specs.Fresh.{EachBlock, EachOp, EachOps, EachRegion, EachValue}
use Rattle.line_rules.specs.Lines.{Below, From, LinedBlocks, LinedOps, LinedRegions, LineRanks, lined_block, lined_end, lined_no_block, lined_no_region, lined_region, put_ops, Ranks, stays, swaps, TurnRanks, turns}
use Rattle.line_rules.proofs.Words.{has_cases, has_left, has_right}
use Rattle.line_rules.proofs.LinedScopes.{each_all, each_operands}
use Rattle.line_rules.proofs.LinedUses.{Edge, new_new, new_old, no_cycle, old_new, old_old, one, Path, then_on}

bare_operands : (u : ℕ) (p : Op) → regions_of p ≡ end_of_regions → has u (op_operands p) ≡ true → has u (operands_of p) ≡ true
bare_operands u (op k rs os r ls) bare h = elim (has_cases u os (regions_operands r) h) [
  | inl e ↦ e
  | inr e ↦ absurd (true≢false (sym e ∙ ap (λ x. has u (regions_operands x)) bare))
]

pub operand_in : (u : ℕ) (o : Op) → has u (operands_of o) ≡ true → has u (op_operands o) ≡ true
operand_in u (op k rs os r ls) h = has_left u os (regions_operands r) h

-- what a result uses, and what regions use
pub if_has : (v u : ℕ) (b : Bool) (xs : List ℕ) → has u (if b then xs else []) ≡ true → (b ≡ true) × (has u xs ≡ true)
if_has v u true xs h = (refl, h)
if_has v u false xs h = absurd (true≢false (sym h))

pub has_if : (u : ℕ) (b : Bool) (xs : List ℕ) → b ≡ true → has u xs ≡ true → has u (if b then xs else []) ≡ true
has_if u true xs e h = h
has_if u false xs e h = absurd (true≢false (sym e))

bare_used : (v u : ℕ) (p : Op) → regions_of p ≡ end_of_regions → has u (op_used v p) ≡ true → (has v (results_of p) ≡ true) × (has u (operands_of p) ≡ true)
bare_used v u (op k rs os r ls) bare h = elim (has_cases u (if has v (numbers rs) then os ++ regions_operands r else []) (regions_used v r) h) [
  | inl e ↦ let both = if_has v u (has v (numbers rs)) (os ++ regions_operands r) e in (both.0, bare_operands u (op k rs os r ls) bare both.1)
  | inr e ↦ absurd (true≢false (sym e ∙ ap (λ x. has u (regions_used v x)) bare))
]

pub result_uses : (v u : ℕ) (o : Op) → has v (results_of o) ≡ true → has u (operands_of o) ≡ true → has u (op_used v o) ≡ true
result_uses v u (op k rs os r ls) e h = has_left u (if has v (numbers rs) then os ++ regions_operands r else []) (regions_used v r) (has_if u (has v (numbers rs)) (os ++ regions_operands r) e (has_left u os (regions_operands r) h))

pub each_result : (P : ℕ → Type 0) (vs : Values) → EachValue P vs → AllOf P (numbers vs)
each_result P [] all = tt
each_result P (v ∷ vs) all = (all.0, each_result P vs all.1)

pub each_results : (P Q : ℕ → Type 0) (o : Op) → EachOp P Q o → AllOf P (results_of o)
each_results P Q (op k rs os r ls) all = each_result P rs all.0

module _ (f : Op) (Old OldLabel : ℕ → Type 0) (value : ℕ → ℕ → ℕ) (at : ℕ → List ℕ) (K : ℕ → Op → Type 0) (G : ℕ → Op → List Op → Type 0) (H : ℕ → Op → List Op → Op → Type 0)
    (line : (n : ℕ) (o : Op) (l : List Op) → G n o l → LineRanks (value n) o l) (line_at : (n : ℕ) (o : Op) (l : List Op) → G n o l → at n ≡ operands_of o)
    (turn : (n : ℕ) (o : Op) (l : List Op) (t : Op) → H n o l t → TurnRanks (value n) o l t) (turn_at : (n : ℕ) (o : Op) (l : List Op) (t : Op) → H n o l t → at n ≡ operands_of o) where
  -- an operand in the new tree: an old one that was one, or a new one where all operands of the operation were
  data Opnd (xs : List ℕ) (u : ℕ) : Type 0 where
    old_opnd : Old u → has u xs ≡ true → Opnd xs u
    new_opnd : (n j : ℕ) → u ≡ value n j → ((x : ℕ) → has x (at n) ≡ true → has x xs ≡ true) → Opnd xs u

  widen : (xs ys : List ℕ) (u : ℕ) → ((x : ℕ) → has x xs ≡ true → has x ys ≡ true) → Opnd xs u → Opnd ys u
  widen xs ys u to (old_opnd o h) = old_opnd o (to u h)
  widen xs ys u to (new_opnd n j is all) = new_opnd n j is (λ x h. to x (all x h))

  -- operands of an operation for o, of those of o and of new values below the k-th
  abbrev Mixed : ℕ → ℕ → Op → Op → Type 0
  Mixed n k o p = AllOf (λ x. (has x (operands_of o) ≡ true) ⊎ Below (value n) k x) (operands_of p)

  step_opnd : (n k u : ℕ) (o p : Op) → at n ≡ operands_of o → AllOf Old (operands_of o) → Mixed n k o p → has u (operands_of p) ≡ true → Opnd (operands_of o) u
  step_opnd n k u o p is old all h = elim (has_of (λ x. (has x (operands_of o) ≡ true) ⊎ Below (value n) k x) u (operands_of p) all h) [
    | inl e ↦ old_opnd (has_of Old u (operands_of o) old e) e
    | inr b ↦ new_opnd n b.place b.is (λ x k. ap (λ ys. has x ys) (sym is) ∙ k)
  ]

  line_opnds : (n k u : ℕ) (o : Op) (rs : List ℕ) (l : List Op) (tail : Ops) → at n ≡ operands_of o → AllOf Old (operands_of o) → Ranks (value n) rs (operands_of o) k l
      → has u (ops_operands (put_ops l tail)) ≡ true → Opnd (operands_of o) u ⊎ (has u (ops_operands tail) ≡ true)
  line_opnds n k u o rs [] tail is old r h = inr h
  line_opnds n k u o rs (p ∷ l) tail is old r h = elim (has_cases u (op_operands p) (ops_operands (put_ops l tail)) h) [
    | inl e ↦ inl (step_opnd n k u o p is old r.1 (bare_operands u p r.0 e))
    | inr e ↦ line_opnds n (k + length (results_of p)) u o rs l tail is old r.3 e
  ]

  front : (o : Op) (rest : Ops) (x : ℕ) → has x (operands_of o) ≡ true → has x (ops_operands (more_ops o rest)) ≡ true
  front o rest x h = has_left x (op_operands o) (ops_operands rest) (operand_in x o h)

  mutual
    ops_opnds : {n : ℕ} {os ps : Ops} (u : ℕ) → LinedOps K G H n os ps → EachOps Old OldLabel os → has u (ops_operands ps) ≡ true → Opnd (ops_operands os) u
    ops_opnds u lined_end each h = absurd (true≢false (sym h))
    ops_opnds u (stays {k = k} {rs = rs} {os = os} {ls = ls} {r = r} {s = s} {rest = rest} {more = more} _ x y) each h =
        elim (has_cases u (os ++ regions_operands s) (ops_operands more) h) [
          | inl e ↦ elim (has_cases u os (regions_operands s) e) [
            | inl a ↦ old_opnd (has_of Old u os (each_all Old os each.0.1) a) (has_left u (os ++ regions_operands r) (ops_operands rest) (has_left u os (regions_operands r) a))
            | inr a ↦ widen (regions_operands r) ((os ++ regions_operands r) ++ ops_operands rest) u
                (λ z b. has_left z (os ++ regions_operands r) (ops_operands rest) (has_right z os (regions_operands r) b)) (regions_opnds u x each.0.2 a)
          ]
          | inr e ↦ widen (ops_operands rest) ((os ++ regions_operands r) ++ ops_operands rest) u (λ z b. has_right z (os ++ regions_operands r) (ops_operands rest) b) (ops_opnds u y each.1 e)
        ]
    ops_opnds u (swaps {n = n} {o = o} l {rest = rest} {more = more} g y) each h =
        elim (line_opnds n 0 u o (results_of o) l more (line_at n o l g) (each_operands Old OldLabel o each.0) (line n o l g).ranks h) [
          | inl a ↦ widen (operands_of o) (ops_operands (more_ops o rest)) u (front o rest) a
          | inr a ↦ widen (ops_operands rest) (ops_operands (more_ops o rest)) u (λ z b. has_right z (op_operands o) (ops_operands rest) b) (ops_opnds u y each.1 a)
        ]
    ops_opnds u (turns {n = n} {o = o} l t {rest = rest} {more = more} g y) each h =
        elim (line_opnds n 0 u o [] l (more_ops t more) (turn_at n o l t g) (each_operands Old OldLabel o each.0) (turn n o l t g).ranks h) [
          | inl a ↦ widen (operands_of o) (ops_operands (more_ops o rest)) u (front o rest) a
          | inr a ↦ elim (has_cases u (op_operands t) (ops_operands more) a) [
            | inl b ↦ widen (operands_of o) (ops_operands (more_ops o rest)) u (front o rest)
                (step_opnd n (turn n o l t g).room u o t (turn_at n o l t g) (each_operands Old OldLabel o each.0) (turn n o l t g).operands (bare_operands u t (turn n o l t g).bare b))
            | inr b ↦ widen (ops_operands rest) (ops_operands (more_ops o rest)) u (λ z c. has_right z (op_operands o) (ops_operands rest) c) (ops_opnds u y each.1 b)
          ]
        ]

    regions_opnds : {n : ℕ} {rs ss : Regions} (u : ℕ) → LinedRegions K G H n rs ss → EachRegion Old OldLabel rs → has u (regions_operands ss) ≡ true → Opnd (regions_operands rs) u
    regions_opnds u lined_no_region each h = absurd (true≢false (sym h))
    regions_opnds u (lined_region {b = b} {c = c} {r = r} {s = s} x y) each h = elim (has_cases u (blocks_operands c) (regions_operands s) h) [
      | inl e ↦ widen (blocks_operands b) (blocks_operands b ++ regions_operands r) u (λ z k. has_left z (blocks_operands b) (regions_operands r) k) (blocks_opnds u x each.0 e)
      | inr e ↦ widen (regions_operands r) (blocks_operands b ++ regions_operands r) u (λ z k. has_right z (blocks_operands b) (regions_operands r) k) (regions_opnds u y each.1 e)
    ]

    blocks_opnds : {n : ℕ} {bs cs : Blocks} (u : ℕ) → LinedBlocks K G H n bs cs → EachBlock Old OldLabel bs → has u (blocks_operands cs) ≡ true → Opnd (blocks_operands bs) u
    blocks_opnds u lined_no_block each h = absurd (true≢false (sym h))
    blocks_opnds u (lined_block {ops = ops} {qs = qs} {b = b} {c = c} x y) each h = elim (has_cases u (ops_operands qs) (blocks_operands c) h) [
      | inl e ↦ widen (ops_operands ops) (ops_operands ops ++ blocks_operands b) u (λ z k. has_left z (ops_operands ops) (blocks_operands b) k) (ops_opnds u x each.2 e)
      | inr e ↦ widen (blocks_operands b) (ops_operands ops ++ blocks_operands b) u (λ z k. has_right z (ops_operands ops) (blocks_operands b) k) (blocks_opnds u y each.3 e)
    ]

  -- Uses

  abbrev Way : ℕ → ℕ → Type 0
  Way v u = Edge f Old value at v u

  abbrev Into : (ℕ → List ℕ) → Type 0
  Into used = (v u : ℕ) → has u (used v) ≡ true → has u (op_used v f) ≡ true

  step_edge : (n k v u : ℕ) (o p : Op) (rs : List ℕ) → at n ≡ operands_of o → AllOf Old (operands_of o) → AllOf Old (results_of o) → Into (λ w. op_used w o)
      → ((x : ℕ) → has x rs ≡ true → has x (results_of o) ≡ true) → Mixed n k o p → AllOf (λ x. (has x rs ≡ true) ⊎ From (value n) k x) (results_of p)
      → has v (results_of p) ≡ true → has u (operands_of p) ≡ true → Way v u
  step_edge n k v u o p rs is old olds into own mixed made hv hu =
      elim (has_of (λ x. (has x rs ≡ true) ⊎ From (value n) k x) v (results_of p) made hv) [
        | inl a ↦ elim (has_of (λ x. (has x (operands_of o) ≡ true) ⊎ Below (value n) k x) u (operands_of p) mixed hu) [
          | inl b ↦ old_old (has_of Old v (results_of o) olds (own v a)) (has_of Old u (operands_of o) old b) (into v u (result_uses v u o (own v a) b))
          | inr b ↦ old_new n b.place (has_of Old v (results_of o) olds (own v a)) b.is (λ x h. into v x (result_uses v x o (own v a) (ap (λ ys. has x ys) (sym is) ∙ h)))
        ]
        | inr a ↦ elim (has_of (λ x. (has x (operands_of o) ≡ true) ⊎ Below (value n) k x) u (operands_of p) mixed hu) [
          | inl b ↦ new_old n a.place a.is (has_of Old u (operands_of o) old b) (ap (λ ys. has u ys) is ∙ b)
          | inr b ↦ new_new n a.place b.place a.is b.is (omega (arith, a.high, b.low))
        ]
      ]

  line_edges : (n k v u : ℕ) (o : Op) (rs : List ℕ) (l : List Op) (tail : Ops) → at n ≡ operands_of o → AllOf Old (operands_of o) → AllOf Old (results_of o) → Into (λ w. op_used w o)
      → ((x : ℕ) → has x rs ≡ true → has x (results_of o) ≡ true) → Ranks (value n) rs (operands_of o) k l → has u (ops_used v (put_ops l tail)) ≡ true → Way v u ⊎ (has u (ops_used v tail) ≡ true)
  line_edges n k v u o rs [] tail is old olds into own r h = inr h
  line_edges n k v u o rs (p ∷ l) tail is old olds into own r h = elim (has_cases u (op_used v p) (ops_used v (put_ops l tail)) h) [
    | inl e ↦ let both = bare_used v u p r.0 e in inl (step_edge n k v u o p rs is old olds into own r.1 r.2 both.0 both.1)
    | inr e ↦ line_edges n (k + length (results_of p)) v u o rs l tail is old olds into own r.3 e
  ]

  op_edges : {n : ℕ} (v u : ℕ) (k : Kind) (rs : Values) (os ls : List ℕ) {r s : Regions} → LinedRegions K G H n r s → EachOp Old OldLabel (op k rs os r ls) → Into (λ w. op_used w (op k rs os r ls))
      → (Into (λ w. regions_used w r) → has u (regions_used v s) ≡ true → Way v u) → has u (op_used v (op k rs os s ls)) ≡ true → Way v u
  op_edges v u k rs os ls {r = r} {s = s} x each into inner h =
      elim (has_cases u (if has v (numbers rs) then os ++ regions_operands s else []) (regions_used v s) h) [
        | inl a ↦ let own = if_has v u (has v (numbers rs)) (os ++ regions_operands s) a in elim (has_cases u os (regions_operands s) own.1) [
          | inl b ↦ old_old (has_of Old v (numbers rs) (each_result Old rs each.0) own.0) (has_of Old u os (each_all Old os each.1) b) (into v u (within v u own.0 (has_left u os (regions_operands r) b)))
          | inr b ↦ elim (regions_opnds u x each.2 b) [
            | old_opnd o c ↦ old_old (has_of Old v (numbers rs) (each_result Old rs each.0) own.0) o (into v u (within v u own.0 (has_right u os (regions_operands r) c)))
            | new_opnd m j is all ↦ old_new m j (has_of Old v (numbers rs) (each_result Old rs each.0) own.0) is (λ z c. into v z (within v z own.0 (has_right z os (regions_operands r) (all z c))))
          ]
        ]
        | inr a ↦ inner (λ w z b. into w z (has_right z (if has w (numbers rs) then os ++ regions_operands r else []) (regions_used w r) b)) a
      ]
    where
      within : (w z : ℕ) → has w (numbers rs) ≡ true → has z (os ++ regions_operands r) ≡ true → has z (op_used w (op k rs os r ls)) ≡ true
      within w z e b = has_left z (if has w (numbers rs) then os ++ regions_operands r else []) (regions_used w r) (has_if z (has w (numbers rs)) (os ++ regions_operands r) e b)

  mutual
    ops_edges : {n : ℕ} {os ps : Ops} (v u : ℕ) → LinedOps K G H n os ps → EachOps Old OldLabel os → Into (λ w. ops_used w os) → has u (ops_used v ps) ≡ true → Way v u
    ops_edges v u lined_end each into h = absurd (true≢false (sym h))
    ops_edges v u (stays {k = k} {rs = rs} {os = os} {ls = ls} {r = r} {s = s} {rest = rest} {more = more} _ x y) each into h =
        elim (has_cases u (op_used v (op k rs os s ls)) (ops_used v more) h) [
          | inl e ↦ op_edges v u k rs os ls x each.0 (λ w z a. into w z (has_left z (op_used w (op k rs os r ls)) (ops_used w rest) a)) (regions_edges v u x each.0.2) e
          | inr e ↦ ops_edges v u y each.1 (λ w z a. into w z (has_right z (op_used w (op k rs os r ls)) (ops_used w rest) a)) e
        ]
    ops_edges v u (swaps {n = n} {o = o} l {rest = rest} {more = more} g y) each into h =
        elim (line_edges n 0 v u o (results_of o) l more (line_at n o l g) (each_operands Old OldLabel o each.0) (each_results Old OldLabel o each.0)
        (λ w z a. into w z (has_left z (op_used w o) (ops_used w rest) a)) (λ z a. a) (line n o l g).ranks h) [
          | inl a ↦ a
          | inr a ↦ ops_edges v u y each.1 (λ w z b. into w z (has_right z (op_used w o) (ops_used w rest) b)) a
        ]
    ops_edges v u (turns {n = n} {o = o} l t {rest = rest} {more = more} g y) each into h =
        elim (line_edges n 0 v u o [] l (more_ops t more) (turn_at n o l t g) (each_operands Old OldLabel o each.0) (each_results Old OldLabel o each.0)
        (λ w z a. into w z (has_left z (op_used w o) (ops_used w rest) a)) (λ z a. absurd (true≢false (sym a))) (turn n o l t g).ranks h) [
          | inl a ↦ a
          | inr a ↦ elim (has_cases u (op_used v t) (ops_used v more) a) [
            | inl b ↦ absurd (true≢false (sym (bare_used v u t (turn n o l t g).bare b).0 ∙ ap (λ xs. has v xs) (turn n o l t g).none))
            | inr b ↦ ops_edges v u y each.1 (λ w z c. into w z (has_right z (op_used w o) (ops_used w rest) c)) b
          ]
        ]

    regions_edges : {n : ℕ} {rs ss : Regions} (v u : ℕ) → LinedRegions K G H n rs ss → EachRegion Old OldLabel rs → Into (λ w. regions_used w rs) → has u (regions_used v ss) ≡ true → Way v u
    regions_edges v u lined_no_region each into h = absurd (true≢false (sym h))
    regions_edges v u (lined_region {b = b} {c = c} {r = r} {s = s} x y) each into h = elim (has_cases u (blocks_used v c) (regions_used v s) h) [
      | inl e ↦ blocks_edges v u x each.0 (λ w z a. into w z (has_left z (blocks_used w b) (regions_used w r) a)) e
      | inr e ↦ regions_edges v u y each.1 (λ w z a. into w z (has_right z (blocks_used w b) (regions_used w r) a)) e
    ]

    blocks_edges : {n : ℕ} {bs cs : Blocks} (v u : ℕ) → LinedBlocks K G H n bs cs → EachBlock Old OldLabel bs → Into (λ w. blocks_used w bs) → has u (blocks_used v cs) ≡ true → Way v u
    blocks_edges v u lined_no_block each into h = absurd (true≢false (sym h))
    blocks_edges v u (lined_block {ops = ops} {qs = qs} {b = b} {c = c} x y) each into h = elim (has_cases u (ops_used v qs) (blocks_used v c) h) [
      | inl e ↦ ops_edges v u x each.2 (λ w z a. into w z (has_left z (ops_used w ops) (blocks_used w b) a)) e
      | inr e ↦ blocks_edges v u y each.3 (λ w z a. into w z (has_right z (ops_used w ops) (blocks_used w b) a)) e
    ]

  edges : {n : ℕ} (k : Kind) (rs : Values) (os ls : List ℕ) {r s : Regions} → f ≡ op k rs os r ls → LinedRegions K G H n r s → EachOp Old OldLabel (op k rs os r ls) → (v u : ℕ) → has u (op_used v (op k rs os s ls)) ≡ true → Way v u
  edges k rs os ls is x each v u h =
      op_edges v u k rs os ls x each (λ w z e. ap (λ o. has z (op_used w o)) is ∙ e) (regions_edges v u x each.2) h

  path_of : {g : Op} {v w : ℕ} → ((a b : ℕ) → has b (op_used a g) ≡ true → Way a b) → Chain g v w → Path f Old value at Way v w
  path_of {v = v} {w = w} each (uses h) = one (each v w h)
  path_of {v = v} each (by_way_of u h c) = then_on u (each v u h) (path_of each c)

  -- a function in whose regions operations are replaced keeps rule `OwnUse`
  pub lined_own : {n : ℕ} (k : Kind) (rs : Values) (os ls : List ℕ) {r s : Regions} → f ≡ op k rs os r ls → LinedRegions K G H n r s → EachOp Old OldLabel (op k rs os r ls)
      → ((v n k : ℕ) → Old v → v ≡ value n k → ⊥) → ((n k m j : ℕ) → value n k ≡ value m j → (n ≡ m) × (k ≡ j)) → ((w : ℕ) → Chain f w w → ⊥) → (v : ℕ) → Chain (op k rs os s ls) v v → ⊥
  lined_own k rs os ls is x each apart unique never v c = no_cycle f Old value at apart unique v never (path_of (edges k rs os ls is x each) c)
