-- Values and labels that stand once in a function, in each of its regions.
use Rattle.std.proofs.Common.{◌≡◌, ℕ, ◌+◌, ◌==◌, ◌≤◌, Bool, true, false, List, [], ◌∷◌, ◌++◌, refl, sym, ap, ◌∙◌, subst, arith, true≢false}
use Rattle.std.specs.Prelude.{◌||◌, ◌&&◌, not, if◌then◌else◌}
use Rattle.std.proofs.lemmas.Bool.{eqb-true, eq-eqb}
use Rattle.plain_tree.specs.Ops.{Op, op, Ops, end_of_ops, more_ops, Regions, end_of_regions, region, Blocks, end_of_blocks, block, Values}
use Rattle.plain_tree.specs.Values.{blocks_values, op_values, ops_values, regions_values}
use Rattle.rule_model.specs.Words.{has, numbers, results_of}
use Rattle.rule_model.specs.Formed.{are_once, blocks_labels, op_labels, ops_labels, own_labels, regions_labels}
use Rattle.first_places.specs.Numbering.{is_numbered_once}
use Rattle.rule_model.specs.Search.{op_apart, ops_apart, regions_apart, blocks_apart}
use Rattle.rule_model.proofs.Numbers.{and_first, and_second, itself, not_true}

abbrev pub hit : Bool → ℕ
hit true = 1
hit false = 0

-- how often v is among numbers
abbrev pub count_in : ℕ → List ℕ → ℕ
count_in v [] = 0
count_in v (n ∷ ns) = hit (n == v) + count_in v ns

none_counted : (v : ℕ) (ns : List ℕ) → has v ns ≡ false → count_in v ns ≡ 0
none_counted v [] e = refl
none_counted v (n ∷ ns) e = go (n == v) e (none_counted v ns)
  where
    go : (b : Bool) → (b || has v ns) ≡ false → (has v ns ≡ false → count_in v ns ≡ 0) → hit b + count_in v ns ≡ 0
    go true f rest = absurd (true≢false f)
    go false f rest = omega (arith, rest f)

pub some_counted : (v : ℕ) (ns : List ℕ) → has v ns ≡ true → 1 ≤ count_in v ns
some_counted v [] e = absurd (true≢false (sym e))
some_counted v (n ∷ ns) e = go (n == v) e (some_counted v ns)
  where
    go : (b : Bool) → (b || has v ns) ≡ true → (has v ns ≡ true → 1 ≤ count_in v ns) → 1 ≤ hit b + count_in v ns
    go true f rest = omega arith
    go false f rest = omega (arith, rest f)

once_counted : (v : ℕ) (ns : List ℕ) → are_once ns ≡ true → count_in v ns ≤ 1
once_counted v [] e = omega arith
once_counted v (n ∷ ns) e = go (n == v) refl (once_counted v ns (and_second (not (has n ns)) _ e))
  where
    go : (b : Bool) → (n == v) ≡ b → count_in v ns ≤ 1 → hit b + count_in v ns ≤ 1
    go true same rest = omega (arith, none_counted v ns (subst (λ m. has m ns ≡ false) (eqb-true n v same) (not_true (has n ns) (and_first (not (has n ns)) _ e))))
    go false other rest = omega (arith, rest)

pub count_joined : (v : ℕ) (ms ns : List ℕ) → count_in v (ms ++ ns) ≡ count_in v ms + count_in v ns
count_joined v [] ns = omega arith
count_joined v (m ∷ ms) ns = let rest = count_joined v ms ns in omega (arith, rest)

-- Labels

not_here : (v : ℕ) (ns : List ℕ) → count_in v ns ≤ 0 → has v ns ≡ false
not_here v ns less = go (has v ns) refl
  where
    go : (b : Bool) → has v ns ≡ b → has v ns ≡ false
    go true e = absurd (omega (arith, some_counted v ns e, less))
    go false e = e

both : (a b : Bool) → a ≡ true → b ≡ true → (a && b) ≡ true
both true b e f = f
both false b e f = e

own_at_most : (v : ℕ) (bs : Blocks) → count_in v (own_labels bs) ≤ count_in v (blocks_labels bs)
own_at_most v end_of_blocks = omega arith
own_at_most v (block label args ops more) =
    let rest = own_at_most v more in
    let sum = count_joined v (ops_labels ops) (blocks_labels more) in
    omega (arith, rest, sum)

mutual
  op_is_apart : (o : Op) → ((v : ℕ) → count_in v (op_labels o) ≤ 1) → op_apart o ≡ true
  op_is_apart (op k results operands regions successors) once = regions_are_apart regions once

  ops_are_apart : (os : Ops) → ((v : ℕ) → count_in v (ops_labels os) ≤ 1) → ops_apart os ≡ true
  ops_are_apart end_of_ops once = refl
  ops_are_apart (more_ops o os) once =
      both (op_apart o) (ops_apart os)
      (op_is_apart o (λ v. let sum = count_joined v (op_labels o) (ops_labels os) in omega (arith, sum, once v)))
      (ops_are_apart os (λ v. let sum = count_joined v (op_labels o) (ops_labels os) in omega (arith, sum, once v)))

  regions_are_apart : (rs : Regions) → ((v : ℕ) → count_in v (regions_labels rs) ≤ 1) → regions_apart rs ≡ true
  regions_are_apart end_of_regions once = refl
  regions_are_apart (region bs more) once =
      both (blocks_apart bs) (regions_apart more)
      (blocks_are_apart bs (λ v. let sum = count_joined v (blocks_labels bs) (regions_labels more) in omega (arith, sum, once v)))
      (regions_are_apart more (λ v. let sum = count_joined v (blocks_labels bs) (regions_labels more) in omega (arith, sum, once v)))

  blocks_are_apart : (bs : Blocks) → ((v : ℕ) → count_in v (blocks_labels bs) ≤ 1) → blocks_apart bs ≡ true
  blocks_are_apart end_of_blocks once = refl
  blocks_are_apart (block label args ops more) once =
      both (not (has label (own_labels more))) (ops_apart ops && blocks_apart more)
      (ap not (not_here label (own_labels more) (alone label (own_at_most label more) (itself label) (count_joined label (ops_labels ops) (blocks_labels more)) (once label))))
      (both (ops_apart ops) (blocks_apart more)
      (ops_are_apart ops (λ v. inner v (count_joined v (ops_labels ops) (blocks_labels more)) (once v)))
      (blocks_are_apart more (λ v. outer v (count_joined v (ops_labels ops) (blocks_labels more)) (once v))))
    where
      alone : (v : ℕ) → count_in v (own_labels more) ≤ count_in v (blocks_labels more) → (label == v) ≡ true
          → count_in v (ops_labels ops ++ blocks_labels more) ≡ count_in v (ops_labels ops) + count_in v (blocks_labels more)
          → hit (label == v) + count_in v (ops_labels ops ++ blocks_labels more) ≤ 1 → count_in v (own_labels more) ≤ 0
      alone v less same sum one =
          let it : hit (label == v) ≡ 1 = ap hit same in
          omega (arith, less, it, sum, one)

      inner : (v : ℕ) → count_in v (ops_labels ops ++ blocks_labels more) ≡ count_in v (ops_labels ops) + count_in v (blocks_labels more)
          → hit (label == v) + count_in v (ops_labels ops ++ blocks_labels more) ≤ 1 → count_in v (ops_labels ops) ≤ 1
      inner v sum one = omega (arith, sum, one)

      outer : (v : ℕ) → count_in v (ops_labels ops ++ blocks_labels more) ≡ count_in v (ops_labels ops) + count_in v (blocks_labels more)
          → hit (label == v) + count_in v (ops_labels ops ++ blocks_labels more) ≤ 1 → count_in v (blocks_labels more) ≤ 1
      outer v sum one = omega (arith, sum, one)

-- Values

-- the values that operations of a region, and the region itself, define
abbrev pub own_results : Ops → List ℕ
own_results end_of_ops = []
own_results (more_ops o os) = results_of o ++ own_results os

abbrev pub own_values : Blocks → List ℕ
own_values end_of_blocks = []
own_values (block label args ops more) = numbers args ++ (own_results ops ++ own_values more)

numbers_joined : (us vs : Values) → numbers (us ++ vs) ≡ numbers us ++ numbers vs
numbers_joined [] vs = refl
numbers_joined (u ∷ us) vs = ap (λ ns. u.0 ∷ ns) (numbers_joined us vs)

pub values_joined : (v : ℕ) (us vs : Values) → count_in v (numbers (us ++ vs)) ≡ count_in v (numbers us) + count_in v (numbers vs)
values_joined v us vs = ap (count_in v) (numbers_joined us vs) ∙ count_joined v (numbers us) (numbers vs)

-- how often v is defined
abbrev pub times : ℕ → Values → ℕ
times v vs = count_in v (numbers vs)

mutual
  pub behind_op : (v : ℕ) (o : Op) (more : Values) → times v more ≤ times v (op_values o more)
  behind_op v (op k results operands regions successors) more =
      let sum = values_joined v results (regions_values regions more) in
      let rest = behind_regions v regions more in
      omega (arith, sum, rest)

  pub behind_ops : (v : ℕ) (os : Ops) (more : Values) → times v more ≤ times v (ops_values os more)
  behind_ops v end_of_ops more = omega arith
  behind_ops v (more_ops o os) more =
      let here = behind_op v o (ops_values os more) in
      let rest = behind_ops v os more in
      omega (arith, here, rest)

  pub behind_regions : (v : ℕ) (rs : Regions) (more : Values) → times v more ≤ times v (regions_values rs more)
  behind_regions v end_of_regions more = omega arith
  behind_regions v (region bs rs) more =
      let here = behind_blocks v bs (regions_values rs more) in
      let rest = behind_regions v rs more in
      omega (arith, here, rest)

  pub behind_blocks : (v : ℕ) (bs : Blocks) (more : Values) → times v more ≤ times v (blocks_values bs more)
  behind_blocks v end_of_blocks more = omega arith
  behind_blocks v (block label args ops bs) more =
      let sum = values_joined v args (ops_values ops (blocks_values bs more)) in
      let here = behind_ops v ops (blocks_values bs more) in
      let rest = behind_blocks v bs more in
      omega (arith, sum, here, rest)

results_counted : (v : ℕ) (os : Ops) (more : Values) → count_in v (own_results os) + times v more ≤ times v (ops_values os more)
results_counted v end_of_ops more = omega arith
results_counted v (more_ops (op k results operands regions successors) os) more =
    let own = count_joined v (numbers results) (own_results os) in
    let sum = values_joined v results (regions_values regions (ops_values os more)) in
    let inner = behind_regions v regions (ops_values os more) in
    let rest = results_counted v os more in
    omega (arith, own, sum, inner, rest)

pub own_counted : (v : ℕ) (bs : Blocks) (more : Values) → count_in v (own_values bs) + times v more ≤ times v (blocks_values bs more)
own_counted v end_of_blocks more = omega arith
own_counted v (block label args ops bs) more =
    let own = count_joined v (numbers args) (own_results ops ++ own_values bs) in
    let inner = count_joined v (own_results ops) (own_values bs) in
    let sum = values_joined v args (ops_values ops (blocks_values bs more)) in
    let here = results_counted v ops (blocks_values bs more) in
    let rest = own_counted v bs more in
    omega (arith, own, inner, sum, here, rest)

pub args_first : (v : ℕ) (args : Values) (more : Values) → times v more ≤ times v (args ++ more)
args_first v args more = let sum = values_joined v args more in omega (arith, sum)

-- A function that numbers each value and each block once

pub record Once (f : Op) : Type 0 where
  pub values : (v : ℕ) → times v (op_values f []) ≤ 1
  pub apart : op_apart f ≡ true

pub numbered_once : (f : Op) → is_numbered_once f ≡ true → Once f
numbered_once f numbered = record {
  values = λ v. once_counted v (numbers (op_values f [])) (and_first (are_once (numbers (op_values f []))) _ numbered);
  apart = op_is_apart f (λ v. once_counted v (op_labels f) (and_second (are_once (numbers (op_values f []))) _ numbered));
}
