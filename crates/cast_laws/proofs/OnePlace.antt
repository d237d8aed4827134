-- The one place of a region behind the definition of a number that is defined once.
use Rattle.std.proofs.Common.{◌≡◌, ℕ, ◌+◌, ◌==◌, ◌≤◌, Bool, true, false, List, ◌++◌, Option, Some, None, refl, ap, ◌∙◌, subst, arith}
use Rattle.std.specs.Prelude.{if◌then◌else◌}
use Rattle.std.proofs.lemmas.Option.{none-some}
use Rattle.std.proofs.lemmas.Bool.{eqb-true}
use Rattle.plain_tree.specs.Ops.{Op, op, Ops, end_of_ops, more_ops, Blocks, end_of_blocks, block, PlainBlock}
use Rattle.rule_model.specs.Words.{block_of, has, numbers, results_of}
use Rattle.rule_model.specs.Paths.{Passed, at_start, one_on}
use Rattle.rule_model.proofs.Numbers.{some_same}
use Rattle.conversion_model.specs.Counts.{blocks_total, hits, none, op_total, ops_total, values_total}
use Rattle.line_rules.proofs.Words.{not_so}
use Rattle.kept_rules.proofs.CastScopes.{some_value}

-- a place in a region: the label of its block, what was defined since the block's start, and the operations ahead
pub record Point : Type 0 where
  pub label : ℕ
  pub bound : List ℕ
  pub ops : Ops

abbrev first_some : Option Point → Option Point → Option Point
first_some (Some p) other = Some p
first_some None other = other

module _ (v : ℕ) where
  -- behind the first definition of v
  abbrev ops_point : ℕ → List ℕ → Ops → Option Point
  ops_point l bound end_of_ops = None
  ops_point l bound (more_ops o rest) = if has v (results_of o) then Some (record { label = l; bound = results_of o ++ bound; ops = rest }) else ops_point l (results_of o ++ bound) rest

  abbrev block_point : ℕ → List ℕ → Ops → Option Point
  block_point l args ops = if has v args then Some (record { label = l; bound = args; ops = ops }) else ops_point l args ops

  abbrev pub point_of : Blocks → Option Point
  point_of end_of_blocks = None
  point_of (block l args ops more) = first_some (block_point l (numbers args) ops) (point_of more)

  values_none : (vs : _) → values_total (hits v) vs ≡ 0 → has v (numbers vs) ≡ false
  values_none vs e = not_so (has v (numbers vs)) (λ h. absurd (omega (arith, some_value v vs h, e)))

  results_none : (o : Op) → op_total (hits v) none o ≡ 0 → has v (results_of o) ≡ false
  results_none (op k rs os r ls) e = values_none rs (omega (arith, e))

  results_count : (o : Op) → has v (results_of o) ≡ true → 1 ≤ op_total (hits v) none o
  results_count (op k rs os r ls) h = omega (arith, some_value v rs h)

  no_point : (l : ℕ) (bound : List ℕ) (ops : Ops) → ops_total (hits v) none ops ≡ 0 → ops_point l bound ops ≡ None
  no_point l bound end_of_ops e = refl
  no_point l bound (more_ops o rest) e =
      ap (λ b. if b then Some (record { label = l; bound = results_of o ++ bound; ops = rest }) else ops_point l (results_of o ++ bound) rest) (results_none o (omega (arith, e)))
      ∙ no_point l (results_of o ++ bound) rest (omega (arith, e))

  -- In a block

  record Along (l : ℕ) (b : PlainBlock) (bound : List ℕ) (ops : Ops) : Type 0 where
    not_before : has v (numbers b.args) ≡ false
    same : ops_point l (numbers b.args) b.ops ≡ ops_point l bound ops
    fewer : ops_total (hits v) none ops ≤ ops_total (hits v) none b.ops

  along : (l : ℕ) (b : PlainBlock) {bound : List ℕ} {ops : Ops} → Passed b bound ops → 1 ≤ ops_total (hits v) none ops → values_total (hits v) b.args + ops_total (hits v) none b.ops ≤ 1 → Along l b bound ops
  along l b at_start some once = record { not_before = values_none b.args (omega (arith, some, once)); same = refl; fewer = omega arith }
  along l b (one_on o {bound = bound} {rest = rest} p e) some once =
      let a = along l b p (omega (arith, some)) once in record {
        not_before = a.not_before;
        same = a.same ∙ ap (λ c. if c then Some (record { label = l; bound = results_of o ++ bound; ops = rest }) else ops_point l (results_of o ++ bound) rest) (results_none o (omega (arith, a.fewer, some, once)));
        fewer = omega (arith, a.fewer);
      }

  -- In blocks

  block_count : (bs : Blocks) (t : ℕ) (b : PlainBlock) → block_of t bs ≡ Some b → values_total (hits v) b.args + ops_total (hits v) none b.ops ≤ blocks_total (hits v) none bs
  block_count end_of_blocks t b e = absurd (none-some b e)
  block_count (block l args ops more) t b e = go (l == t) e (λ k. block_count more t b k)
    where
      go : (x : Bool) → (if x then Some (record { label = l; args = args; ops = ops }) else block_of t more) ≡ Some b
          → (block_of t more ≡ Some b → values_total (hits v) b.args + ops_total (hits v) none b.ops ≤ blocks_total (hits v) none more)
          → values_total (hits v) b.args + ops_total (hits v) none b.ops ≤ 0 + (values_total (hits v) args + (ops_total (hits v) none ops + blocks_total (hits v) none more))
      go true k later =
          subst (λ (c : PlainBlock). values_total (hits v) c.args + ops_total (hits v) none c.ops ≤ 0 + (values_total (hits v) args + (ops_total (hits v) none ops + blocks_total (hits v) none more)))
          (some_same (record { label = l; args = args; ops = ops }) b k) (omega arith)
      go false k later = omega (arith, later k)

  -- where a block has it, the region's place is the block's
  found_point : (bs : Blocks) (t : ℕ) (b : PlainBlock) (p : Point) → block_of t bs ≡ Some b → blocks_total (hits v) none bs ≤ 1 → 1 ≤ values_total (hits v) b.args + ops_total (hits v) none b.ops → block_point t (numbers b.args) b.ops ≡ Some p
      → point_of bs ≡ Some p
  found_point end_of_blocks t b p e once some is = absurd (none-some b e)
  found_point (block l args ops more) t b p e once some is = go (l == t) refl e (λ k. found_point more t b p k (omega (arith, once)) some is) (block_count more t b)
    where
      go : (x : Bool) → (l == t) ≡ x → (if x then Some (record { label = l; args = args; ops = ops }) else block_of t more) ≡ Some b → (block_of t more ≡ Some b → point_of more ≡ Some p)
          → (block_of t more ≡ Some b → values_total (hits v) b.args + ops_total (hits v) none b.ops ≤ blocks_total (hits v) none more) → first_some (block_point l (numbers args) ops) (point_of more) ≡ Some p
      go true same k later count =
          ap (λ o. first_some o (point_of more))
          (ap (λ n. block_point n (numbers args) ops) (eqb-true l t same) ∙ ap (λ (c : PlainBlock). block_point t (numbers c.args) c.ops) (some_same (record { label = l; args = args; ops = ops }) b k) ∙ is)
      go false other k later count =
          ap (λ o. first_some o (point_of more))
          (ap (λ c. if c then Some (record { label = l; bound = numbers args; ops = ops }) else ops_point l (numbers args) ops) (values_none args (omega (arith, once, some, count k)))
          ∙ no_point l (numbers args) ops (omega (arith, once, some, count k)))
          ∙ later k

  -- the place behind an operation that defines v
  pub behind_point : (bs : Blocks) (t : ℕ) (b : PlainBlock) (o : Op) {bound : List ℕ} {rest : Ops} → block_of t bs ≡ Some b → Passed b bound (more_ops o rest) → blocks_total (hits v) none bs ≤ 1 → has v (results_of o) ≡ true
      → point_of bs ≡ Some (record { label = t; bound = results_of o ++ bound; ops = rest })
  behind_point bs t b o {bound = bound} {rest = rest} e passed once own =
      let some = results_count o own in
      let all = block_count bs t b e in
      let a = along t b passed (omega (arith, some)) (omega (arith, all, once)) in
      found_point bs t b (record { label = t; bound = results_of o ++ bound; ops = rest }) e once (omega (arith, a.fewer, some))
      (ap (λ c. if c then Some (record { label = t; bound = numbers b.args; ops = b.ops }) else ops_point t (numbers b.args) b.ops) a.not_before
      ∙ a.same
      ∙ ap (λ c. if c then Some (record { label = t; bound = results_of o ++ bound; ops = rest }) else ops_point t (results_of o ++ bound) rest) own)

  -- the start of a block whose arguments have v
  pub start_point : (bs : Blocks) (t : ℕ) (b : PlainBlock) → block_of t bs ≡ Some b → blocks_total (hits v) none bs ≤ 1 → has v (numbers b.args) ≡ true → point_of bs ≡ Some (record { label = t; bound = numbers b.args; ops = b.ops })
  start_point bs t b e once own =
      found_point bs t b (record { label = t; bound = numbers b.args; ops = b.ops }) e once (omega (arith, some_value v b.args own))
      (ap (λ c. if c then Some (record { label = t; bound = numbers b.args; ops = b.ops }) else ops_point t (numbers b.args) b.ops) own)
