-- What is numbered in order is numbered once.
use Rattle.std.proofs.Common.{◌≡◌, ℕ, suc, ◌+◌, ◌==◌, ◌&&◌, ◌<◌, Bool, true, false, List, [], ◌∷◌, ◌++◌, length, refl, sym, ap, ◌∙◌, subst, arith, append_assoc}
use Rattle.std.specs.Prelude.{◌||◌, not}
use Rattle.std.specs.List.{list_all}
use Rattle.std.proofs.lemmas.Bool.{eqb-true}
use Rattle.mlir_lex.proofs.Lengths.{and-both, and-left, and-right}
use Rattle.plain_tree.specs.Ops.{Op, op, Ops, end_of_ops, more_ops, Regions, end_of_regions, region, Blocks, end_of_blocks, block, Values}
use Rattle.plain_tree.specs.Values.{blocks_values, op_values, ops_values, regions_values}
use Rattle.rule_model.specs.Words.{has, numbers}
use Rattle.rule_model.specs.Formed.{are_once, blocks_labels, op_labels, ops_labels, regions_labels}
use Rattle.first_places.specs.Numbering.{is_numbered_once}
use Rattle.read_states.specs.Numbering.{Count, are_counted, are_numbered, are_numbered_blocks, are_numbered_regions, is_numbered, none_counted, past_blocks, past_head, past_op, past_ops, past_regions, past_values}

-- Numbers one after the other

abbrev rises : ℕ → List ℕ → Bool
rises n [] = true
rises n (m ∷ ms) = (m == n) && rises (n + 1) ms

not_lower : (n m : ℕ) (ms : List ℕ) → m < n → rises n ms ≡ true → has m ms ≡ false
not_lower n m [] less h = refl
not_lower n m (l ∷ ms) less h = by_test (l == m) refl (not_lower (n + 1) m ms (omega (arith, less)) (and-right (l == n) _ h))
  where
    by_test : (b : Bool) → (l == m) ≡ b → has m ms ≡ false → (b || has m ms) ≡ false
    by_test true same rest = absurd (omega (arith, less, eqb-true l m same, eqb-true l n (and-left _ _ h)))
    by_test false other rest = rest

rising_once : (n : ℕ) (ms : List ℕ) → rises n ms ≡ true → are_once ms ≡ true
rising_once n [] h = refl
rising_once n (m ∷ ms) h =
    let is : m ≡ n = eqb-true m n (and-left _ _ h) in
    let more : rises (n + 1) ms ≡ true = and-right (m == n) _ h in
    and-both _ _ (ap not (not_lower (n + 1) m ms (omega (arith, is)) more)) (rising_once (n + 1) ms more)

counted_rises : (n : ℕ) (vs : Values) → are_counted n vs ≡ true → rises n (numbers vs) ≡ true
counted_rises n [] h = refl
counted_rises n (v ∷ vs) h = and-both _ _ (and-left _ _ h) (counted_rises (n + 1) vs (and-right (v.0 == n) _ h))

-- Values

counted_on : (n : ℕ) (vs us : Values) → are_counted n vs ≡ true → are_counted (n + length vs) us ≡ true → are_counted n (vs ++ us) ≡ true
counted_on n [] us h k = let e : n + 0 ≡ n = omega arith in subst (λ m. are_counted m us ≡ true) e k
counted_on n (v ∷ vs) us h k =
    let e : n + suc (length vs) ≡ n + 1 + length vs = omega arith in
    and-both _ _ (and-left _ _ h) (counted_on (n + 1) vs us (and-right (v.0 == n) _ h) (subst (λ m. are_counted m us ≡ true) e k))

mutual
  op_counted : (c : Count) (o : Op) (more : Values) → is_numbered c o ≡ true → are_counted (past_op c o).values more ≡ true → are_counted c.values (op_values o more) ≡ true
  op_counted c (op k results operands regions successors) more h m =
      counted_on c.values results (regions_values regions more) (and-left _ _ h) (regions_counted (past_values c (length results)) regions more (and-right (are_counted c.values results) _ h) m)

  ops_counted : (c : Count) (os : Ops) (more : Values) → are_numbered c os ≡ true → are_counted (past_ops c os).values more ≡ true → are_counted c.values (ops_values os more) ≡ true
  ops_counted c end_of_ops more h m = m
  ops_counted c (more_ops o os) more h m = op_counted c o (ops_values os more) (and-left _ _ h) (ops_counted (past_op c o) os more (and-right (is_numbered c o) _ h) m)

  regions_counted : (c : Count) (rs : Regions) (more : Values) → are_numbered_regions c rs ≡ true → are_counted (past_regions c rs).values more ≡ true → are_counted c.values (regions_values rs more) ≡ true
  regions_counted c end_of_regions more h m = m
  regions_counted c (region bs rs) more h m = blocks_counted c bs (regions_values rs more) (and-left _ _ h) (regions_counted (past_blocks c bs) rs more (and-right (are_numbered_blocks c bs) _ h) m)

  blocks_counted : (c : Count) (bs : Blocks) (more : Values) → are_numbered_blocks c bs ≡ true → are_counted (past_blocks c bs).values more ≡ true → are_counted c.values (blocks_values bs more) ≡ true
  blocks_counted c end_of_blocks more h m = m
  blocks_counted c (block label args ops bs) more h m =
      let rest = and-right (label == c.labels) _ h in
      let inner = and-right (are_counted c.values args) _ rest in
      counted_on c.values args (ops_values ops (blocks_values bs more)) (and-left _ _ rest)
      (ops_counted (past_head c args) ops (blocks_values bs more) (and-left _ _ inner) (blocks_counted (past_ops (past_head c args) ops) bs more (and-right (are_numbered (past_head c args) ops) _ inner) m))

-- Labels

mutual
  op_rises : (c : Count) (o : Op) (more : List ℕ) → is_numbered c o ≡ true → rises (past_op c o).labels more ≡ true → rises c.labels (op_labels o ++ more) ≡ true
  op_rises c (op k results operands regions successors) more h m = regions_rise (past_values c (length results)) regions more (and-right (are_counted c.values results) _ h) m

  ops_rise : (c : Count) (os : Ops) (more : List ℕ) → are_numbered c os ≡ true → rises (past_ops c os).labels more ≡ true → rises c.labels (ops_labels os ++ more) ≡ true
  ops_rise c end_of_ops more h m = m
  ops_rise c (more_ops o os) more h m =
      ap (rises c.labels) (append_assoc (op_labels o) (ops_labels os) more) ∙ op_rises c o (ops_labels os ++ more) (and-left _ _ h) (ops_rise (past_op c o) os more (and-right (is_numbered c o) _ h) m)

  regions_rise : (c : Count) (rs : Regions) (more : List ℕ) → are_numbered_regions c rs ≡ true → rises (past_regions c rs).labels more ≡ true → rises c.labels (regions_labels rs ++ more) ≡ true
  regions_rise c end_of_regions more h m = m
  regions_rise c (region bs rs) more h m =
      ap (rises c.labels) (append_assoc (blocks_labels bs) (regions_labels rs) more)
      ∙ blocks_rise c bs (regions_labels rs ++ more) (and-left _ _ h) (regions_rise (past_blocks c bs) rs more (and-right (are_numbered_blocks c bs) _ h) m)

  blocks_rise : (c : Count) (bs : Blocks) (more : List ℕ) → are_numbered_blocks c bs ≡ true → rises (past_blocks c bs).labels more ≡ true → rises c.labels (blocks_labels bs ++ more) ≡ true
  blocks_rise c end_of_blocks more h m = m
  blocks_rise c (block label args ops bs) more h m =
      let rest = and-right (label == c.labels) _ h in
      let inner = and-right (are_counted c.values args) _ rest in
      and-both _ _ (and-left _ _ h) (
      ap (rises (c.labels + 1)) (append_assoc (ops_labels ops) (blocks_labels bs) more)
      ∙ ops_rise (past_head c args) ops (blocks_labels bs ++ more) (and-left _ _ inner) (blocks_rise (past_ops (past_head c args) ops) bs more (and-right (are_numbered (past_head c args) ops) _ inner) m))

-- Functions

append_none : (ns : List ℕ) → ns ++ [] ≡ ns
append_none [] = refl
append_none (n ∷ ns) = ap (λ ms. n ∷ ms) (append_none ns)

pub numbered_once : (o : Op) → is_numbered none_counted o ≡ true → is_numbered_once o ≡ true
numbered_once o h =
    and-both _ _ (rising_once 0 (numbers (op_values o [])) (counted_rises 0 (op_values o []) (op_counted none_counted o [] h refl)))
    (rising_once 0 (op_labels o) (sym (ap (rises 0) (append_none (op_labels o))) ∙ op_rises none_counted o [] h refl))

pub all_once : (os : List Op) → list_all (is_numbered none_counted) os ≡ true → list_all is_numbered_once os ≡ true
all_once [] h = refl
all_once (o ∷ os) h = and-both _ _ (numbered_once o (and-left _ _ h)) (all_once os (and-right (is_numbered none_counted o) _ h))
