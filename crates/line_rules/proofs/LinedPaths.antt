-- Paths of a region in which operations are replaced by others one after another.
use Rattle.std.proofs.Common.{◌≡◌, ℕ, ◌+◌, ◌==◌, Bool, true, false, List, [], ◌∷◌, ◌++◌, Some, refl, sym, ap, ◌∙◌, subst, inl, inr, true≢false}
use Rattle.std.specs.Prelude.{◌||◌, ◌⊎◌, if◌then◌else◌}
use Rattle.std.proofs.lemmas.Option.{none-some}
use Rattle.plain_tree.specs.Ops.{Kind, Op, op, Ops, more_ops, Regions, end_of_regions, Blocks, PlainBlock, Values}
use Rattle.rule_model.specs.Words.{AllOf, binds, binds_in_ops, block_of, first_block, has, numbers, results_of}
use Rattle.rule_model.specs.Paths.{ends}
use Rattle.rule_model.specs.Scopes.{FreeBlocks, FreeOp, FreeOps, FreeRegions}
use Rattle.rule_model.proofs.Numbers.{has_of, some_same}
use Rattle.conversion_model.specs.Targets.{operands_of}
use Rattle.conversion_model.specs.Conversion.{regions_of}
use Rattle.line_rules.specs.Lines.{bound_by, Line, LinedBlocks, LinedOps, LinedRegions, lined_block, lined_end, lined_no_block, lined_no_region, lined_region, put_ops, stays, Steps, swaps, Turn, turns}
use Rattle.line_rules.proofs.Words.{binds_put, by_test, clash, has_cases, has_neither, none_first, none_second, not_so, or_first, or_second, same_test}
use Rattle.line_rules.proofs.Follows.{Alike, binds_it, both, both_end, makes, Near, passed, Started, starts_near}

-- free uses of an operation without regions are its operands
pub bare_free : (v : ℕ) (p : Op) → regions_of p ≡ end_of_regions → FreeOp v p → has v (operands_of p) ≡ true
bare_free v (op k rs os r ls) bare (inl h) = h
bare_free v (op k rs os r ls) bare (inr h) = absurd (subst (λ x. FreeRegions v x) bare h)

pub free_operand : (v : ℕ) (o : Op) → has v (operands_of o) ≡ true → FreeOp v o
free_operand v (op k rs os r ls) h = inl h

-- what a step uses of the numbers that it didn't make
pub step_uses : (v : ℕ) (os made : List ℕ) (p : Op) → regions_of p ≡ end_of_regions → AllOf (λ x. (has x os ≡ true) ⊎ (has x made ≡ true)) (operands_of p)
    → has v made ≡ false → FreeOp v p → has v os ≡ true
step_uses v os made p bare all none free = elim (has_of (λ x. (has x os ≡ true) ⊎ (has x made ≡ true)) v (operands_of p) all (bare_free v p bare free)) [
  | inl h ↦ h
  | inr h ↦ clash h none
]

-- old numbers that steps define are results
pub steps_old : (Old : ℕ → Type 0) (v : ℕ) (rs os made : List ℕ) (l : List Op) → Old v → Steps Old rs os made l → has v (bound_by l) ≡ true → has v rs ≡ true
steps_old Old v rs os made [] old s h = absurd (true≢false (sym h))
steps_old Old v rs os made (p ∷ l) old s h = elim (has_cases v (results_of p) (bound_by l) h) [
  | inl e ↦ has_of (λ x. Old x → has x rs ≡ true) v (results_of p) s.3 e old
  | inr e ↦ steps_old Old v rs os (results_of p ++ made) l old s.4 e
]

pub near_steps : (Old : ℕ → Type 0) (v : ℕ) (o : Op) (rest tail : Ops) (rs made : List ℕ) (l : List Op) → Steps Old rs (operands_of o) made l → has v made ≡ false
    → (has v (bound_by l) ≡ false → Near v (FreeOp v) (more_ops o rest) tail) → Near v (FreeOp v) (more_ops o rest) (put_ops l tail)
near_steps Old v o rest tail rs made [] s none behind = behind refl
near_steps Old v o rest tail rs made (p ∷ l) s none behind =
    by_test (has v (results_of p)) (λ e. binds_it s.1 e free)
    (λ e. makes s.1 free (near_steps Old v o rest tail rs (results_of p ++ made) l s.4 (has_neither v (results_of p) made e none) (λ f. behind (has_neither v (results_of p) (bound_by l) e f))))
  where
    free : FreeOp v p → FreeOp v o
    free h = free_operand v o (step_uses v (operands_of o) made p s.0 s.2 none h)

module _ (Old : ℕ → Type 0) (K : ℕ → Op → Type 0) (G : ℕ → Op → List Op → Type 0) (H : ℕ → Op → List Op → Op → Type 0)
    (line : (n : ℕ) (o : Op) (l : List Op) → G n o l → Line Old o l) (turn : (n : ℕ) (o : Op) (l : List Op) (t : Op) → H n o l t → Turn Old o l t) where
  -- what a line defines of old numbers
  pub line_binds : (v n : ℕ) (o : Op) (l : List Op) → Old v → G n o l → has v (bound_by l) ≡ has v (results_of o)
  line_binds v n o l old g =
      let x = line n o l g in
      same_test (has v (bound_by l)) (has v (results_of o)) (steps_old Old v (results_of o) (operands_of o) [] l old x.steps) (x.gives v)

  pub turn_binds : (v n : ℕ) (o : Op) (l : List Op) (t : Op) → Old v → H n o l t → has v (bound_by l) ≡ false
  turn_binds v n o l t old h = not_so (has v (bound_by l)) (λ e. true≢false (sym (steps_old Old v [] (operands_of o) [] l old (turn n o l t h).steps e)))

  mutual
    pub ops_bind : (v : ℕ) {n : ℕ} {os ps : Ops} → Old v → LinedOps K G H n os ps → binds_in_ops v ps ≡ binds_in_ops v os
    ops_bind v old lined_end = refl
    ops_bind v old (stays {rs = rs} _ r d) = ap (λ b. has v (numbers rs) || b) (ops_bind v old d)
    ops_bind v old (swaps {n = n} {o = o} l {rest = rest} {more = more} g d) =
        binds_put v l more ∙ ap (λ b. b || binds_in_ops v more) (line_binds v n o l old g) ∙ ap (λ b. has v (results_of o) || b) (ops_bind v old d)
    ops_bind v old (turns {n = n} {o = o} l t {rest = rest} {more = more} h d) =
        binds_put v l (more_ops t more) ∙ ap (λ b. b || (has v (results_of t) || binds_in_ops v more)) (turn_binds v n o l t old h)
        ∙ ap (λ xs. has v xs || binds_in_ops v more) ((turn n o l t h).none ∙ sym (turn n o l t h).was_none) ∙ ap (λ b. has v (results_of o) || b) (ops_bind v old d)

    pub blocks_bind : (v : ℕ) {n : ℕ} {bs cs : Blocks} → Old v → LinedBlocks K G H n bs cs → binds v cs ≡ binds v bs
    blocks_bind v old lined_no_block = refl
    blocks_bind v old (lined_block {args = args} {ops = ops} {c = c} d rest) =
        ap (λ b. has v (numbers args) || (b || binds v c)) (ops_bind v old d) ∙ ap (λ b. has v (numbers args) || (binds_in_ops v ops || b)) (blocks_bind v old rest)

  -- uses of steps, where v isn't defined by them
  steps_free : (v : ℕ) (o : Op) (rs made : List ℕ) (l : List Op) (tail : Ops) → Steps Old rs (operands_of o) made l → has v made ≡ false → has v (bound_by l) ≡ false
      → FreeOps v (put_ops l tail) → FreeOp v o ⊎ FreeOps v tail
  steps_free v o rs made [] tail s none after free = inr free
  steps_free v o rs made (p ∷ l) tail s none after (inl free) = inl (free_operand v o (step_uses v (operands_of o) made p s.0 s.2 none free))
  steps_free v o rs made (p ∷ l) tail s none after (inr free) =
      steps_free v o rs (results_of p ++ made) l tail s.4 (has_neither v (results_of p) made (none_first v (results_of p) (bound_by l) after) none) (none_second v (results_of p) (bound_by l) after) free

  turn_free : (v n : ℕ) (o : Op) (l : List Op) (t : Op) → Old v → H n o l t → FreeOp v t → FreeOp v o
  turn_free v n o l t old h free =
      let x = turn n o l t h in
      free_operand v o (step_uses v (operands_of o) (bound_by l) t x.bare x.operands (turn_binds v n o l t old h) free)

  mutual
    -- free uses of the new tree are free uses of the old one
    pub ops_free : (v : ℕ) {n : ℕ} {os ps : Ops} → Old v → LinedOps K G H n os ps → binds_in_ops v ps ≡ false → FreeOps v ps → FreeOps v os
    ops_free v old lined_end none free = free
    ops_free v old (stays {rs = rs} _ r d) none (inl (inl h)) = inl (inl h)
    ops_free v old (stays {rs = rs} _ r d) none (inl (inr h)) = inl (inr (regions_free v old r h))
    ops_free v old (stays {rs = rs} _ r d) none (inr h) = inr (ops_free v old d (or_second (has v (numbers rs)) _ none) h)
    ops_free v old (swaps {n = n} {o = o} l {more = more} g d) none free =
        let apart = sym (binds_put v l more) ∙ none in
        elim (steps_free v o (results_of o) [] l more (line n o l g).steps refl (or_first (has v (bound_by l)) _ apart) free) [
          | inl h ↦ inl h
          | inr h ↦ inr (ops_free v old d (or_second (has v (bound_by l)) _ apart) h)
        ]
    ops_free v old (turns {n = n} {o = o} l t {more = more} h d) none free =
        let apart = or_second (has v (bound_by l)) _ (sym (binds_put v l (more_ops t more)) ∙ none) in
        elim (steps_free v o [] [] l (more_ops t more) (turn n o l t h).steps refl (turn_binds v n o l t old h) free) [
          | inl k ↦ inl k
          | inr k ↦ elim k [
            | inl a ↦ inl (turn_free v n o l t old h a)
            | inr a ↦ inr (ops_free v old d (or_second (has v (results_of t)) _ apart) a)
          ]
        ]

    pub regions_free : (v : ℕ) {n : ℕ} {rs ss : Regions} → Old v → LinedRegions K G H n rs ss → FreeRegions v ss → FreeRegions v rs
    regions_free v old lined_no_region free = free
    regions_free v old (lined_region b r) (inl h) = inl (sym (blocks_bind v old b) ∙ h.0, blocks_free v old b h.0 h.1)
    regions_free v old (lined_region b r) (inr h) = inr (regions_free v old r h)

    pub blocks_free : (v : ℕ) {n : ℕ} {bs cs : Blocks} → Old v → LinedBlocks K G H n bs cs → binds v cs ≡ false → FreeBlocks v cs → FreeBlocks v bs
    blocks_free v old lined_no_block none free = free
    blocks_free v old (lined_block {args = args} {qs = qs} d rest) none (inl h) = inl (ops_free v old d (or_first (binds_in_ops v qs) _ (or_second (has v (numbers args)) _ none)) h)
    blocks_free v old (lined_block {args = args} {qs = qs} d rest) none (inr h) = inr (blocks_free v old rest (or_second (binds_in_ops v qs) _ (or_second (has v (numbers args)) _ none)) h)

  stays_free : (v n : ℕ) (k : Kind) (rs : Values) (os ls : List ℕ) {r s : Regions} → Old v → LinedRegions K G H n r s → FreeOp v (op k rs os s ls) → FreeOp v (op k rs os r ls)
  stays_free v n k rs os ls old d (inl h) = inl h
  stays_free v n k rs os ls old d (inr h) = inr (regions_free v old d h)

  -- the new operations follow the old ones
  pub ops_near : (v : ℕ) {n : ℕ} {os ps : Ops} → Old v → LinedOps K G H n os ps → Near v (FreeOp v) os ps
  ops_near v old lined_end = both_end
  ops_near v old (stays {n = n} {k = k} {rs = rs} {os = os} {ls = ls} {r = r} {s = s} _ x d) =
      by_test (ends (op k rs os r ls)) (λ e. both refl refl (λ f. clash e f) (stays_free v (n + 1) k rs os ls old x) (ops_near v old d))
      (λ e. by_test (has v (numbers rs)) (λ f. binds_it e f (stays_free v (n + 1) k rs os ls old x)) (λ f. both refl refl (λ g. f) (stays_free v (n + 1) k rs os ls old x) (ops_near v old d)))
  ops_near v old (swaps {n = n} {o = o} l {rest = rest} {more = more} g d) =
      near_steps Old v o rest more (results_of o) [] l (line n o l g).steps refl
      (λ none. passed (line n o l g).on (not_so (has v (results_of o)) (λ e. clash ((line n o l g).gives v e) none)) (ops_near v old d))
  ops_near v old (turns {n = n} {o = o} l t {rest = rest} {more = more} h d) =
      near_steps Old v o rest (more_ops t more) [] [] l (turn n o l t h).steps refl
      (λ none. both (turn n o l t h).same_end (turn n o l t h).successors (λ e. ap (λ xs. has v xs) (turn n o l t h).was_none) (turn_free v n o l t old h) (ops_near v old d))

  abbrev block_with : ℕ → Values → Ops → PlainBlock
  block_with l args ops = record { label = l; args = args; ops = ops }

  first_started : (v : ℕ) {n : ℕ} {bs cs : Blocks} → Old v → LinedBlocks K G H n bs cs → (c : PlainBlock) → first_block cs ≡ Some c → has v (numbers c.args) ≡ false → Started v (FreeOp v) (first_block bs) c
  first_started v old lined_no_block c e = absurd (none-some c e)
  first_started v old (lined_block {l = l} {args = args} {ops = ops} {qs = qs} d rest) c e =
      subst (λ (x : PlainBlock). has v (numbers x.args) ≡ false → Started v (FreeOp v) (Some (block_with l args ops)) x) (some_same (block_with l args qs) c e)
      (λ f. record { at = block_with l args ops; is = refl; starts = starts_near f (ops_near v old d) })

  each_started : (v : ℕ) {n : ℕ} {bs cs : Blocks} → Old v → LinedBlocks K G H n bs cs → (t : ℕ) (c : PlainBlock) → block_of t cs ≡ Some c → has v (numbers c.args) ≡ false → Started v (FreeOp v) (block_of t bs) c
  each_started v old lined_no_block t c e = absurd (none-some c e)
  each_started v old (lined_block {l = l} {args = args} {ops = ops} {qs = qs} {b = b} {c = c} d rest) t x e = go (l == t) e (each_started v old rest t x)
    where
      go : (y : Bool) → (if y then Some (block_with l args qs) else block_of t c) ≡ Some x
          → (block_of t c ≡ Some x → has v (numbers x.args) ≡ false → Started v (FreeOp v) (block_of t b) x) → has v (numbers x.args) ≡ false
          → Started v (FreeOp v) (if y then Some (block_with l args ops) else block_of t b) x
      go true k later =
          subst (λ (z : PlainBlock). has v (numbers z.args) ≡ false → Started v (FreeOp v) (Some (block_with l args ops)) z) (some_same (block_with l args qs) x k)
          (λ f. record { at = block_with l args ops; is = refl; starts = starts_near f (ops_near v old d) })
      go false k later = later k

  pub alike : (v : ℕ) {n : ℕ} {bs cs : Blocks} → Old v → LinedBlocks K G H n bs cs → Alike bs cs v (FreeOp v)
  alike v old d = record { first = first_started v old d; each = each_started v old d }
