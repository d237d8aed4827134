-- The operation that makes a value.
use Rattle.std.proofs.Common.{◌≡◌, ℕ, zero, suc, ◌+◌, ◌==◌, ◌<◌, ◌≤◌, Bool, true, false, List, [], ◌∷◌, ◌++◌, map, length, get_or, Option, Some, None, refl, sym, ap, ◌∙◌, true≢false, arith}
use Rattle.std.specs.Prelude.{◌||◌, if◌then◌else◌}
use Rattle.std.proofs.lemmas.Option.{none-some}
use Rattle.std.proofs.lemmas.Bool.{eqb-true}
use Rattle.plain_tree.specs.Ops.{Op, op, Ops, end_of_ops, more_ops, Regions, end_of_regions, region, Blocks, end_of_blocks, block, Values}
use Rattle.plain_tree.specs.Values.{blocks_values, op_values, ops_values, regions_values}
use Rattle.rule_model.specs.Words.{has, numbers, results_of}
use Rattle.rule_model.proofs.Numbers.{itself, or_right, some_same}
use Rattle.first_places.proofs.Once.{args_first, count_in, count_joined, some_counted, times, values_joined}
use Rattle.first_places.proofs.Tables.{among, among_joined, first_of, from_nothing}
use Rattle.own_uses.specs.Flat.{blocks_all, if_made, maker_in, makers_from, makers_of, numbered, op_all, ops_all, regions_all, row_for, row_of}

-- the operation of a number
abbrev pub nth : List Op → ℕ → Option Op
nth [] k = None
nth (o ∷ os) zero = Some o
nth (o ∷ os) (suc k) = nth os k

abbrev pub maker_from : ℕ → ℕ → List Op → Option ℕ
maker_from v n [] = None
maker_from v n (o ∷ os) = if has v (results_of o) then Some n else maker_from v (n + 1) os

-- The table has it

among_numbered : (n : ℕ) (vs : List ℕ) (v : ℕ) → among (numbered n vs) v ≡ (if has v vs then Some n else None)
among_numbered n [] v = refl
among_numbered n (u ∷ us) v = go (u == v) (among_numbered n us v)
  where
    go : (b : Bool) → among (numbered n us) v ≡ (if has v us then Some n else None)
        → (if b then Some n else among (numbered n us) v) ≡ (if b || has v us then Some n else None)
    go true e = refl
    go false e = e

among_makers : (n : ℕ) (os : List Op) (v : ℕ) → among (makers_from n os) v ≡ maker_from v n os
among_makers n [] v = refl
among_makers n (o ∷ os) v =
    among_joined (numbered n (results_of o)) (makers_from (n + 1) os) v
    ∙ ap (λ a. first_of a (among (makers_from (n + 1) os) v)) (among_numbered n (results_of o) v)
    ∙ go (has v (results_of o)) (among_makers (n + 1) os v)
  where
    go : (b : Bool) → among (makers_from (n + 1) os) v ≡ maker_from v (n + 1) os
        → first_of (if b then Some n else None) (among (makers_from (n + 1) os) v) ≡ (if b then Some n else maker_from v (n + 1) os)
    go true e = refl
    go false e = e

pub maker_is : (os : List Op) (v : ℕ) → maker_in os v ≡ maker_from v 0 os
maker_is os v = from_nothing (makers_from 0 os) v ∙ among_makers 0 os v

-- What it says

pub record Made (os : List Op) (v n q : ℕ) : Type 0 where
  pub place : ℕ
  pub by : Op
  pub number : q ≡ n + place
  pub at : nth os place ≡ Some by
  pub makes : has v (results_of by) ≡ true

pub made : (v n : ℕ) (os : List Op) (q : ℕ) → maker_from v n os ≡ Some q → Made os v n q
made v n [] q e = absurd (none-some q e)
made v n (o ∷ os) q e = go (has v (results_of o)) refl e (λ k. made v (n + 1) os q k)
  where
    go : (b : Bool) → has v (results_of o) ≡ b → (if b then Some n else maker_from v (n + 1) os) ≡ Some q → (maker_from v (n + 1) os ≡ Some q → Made os v (n + 1) q) → Made (o ∷ os) v n q
    go true f k rest = record {
      place = 0;
      by = o;
      number = let same = some_same n q k in omega (arith, same);
      at = refl;
      makes = f;
    }
    go false f k rest =
        let m = rest k in
        record {
          place = suc m.place;
          by = m.by;
          number = let number = m.number in omega (arith, number);
          at = m.at;
          makes = m.makes;
        }

-- the results of all these
abbrev pub all_results : List Op → List ℕ
all_results [] = []
all_results (o ∷ os) = results_of o ++ all_results os

counted_at : (v : ℕ) (os : List Op) (k : ℕ) (o : Op) → nth os k ≡ Some o → has v (results_of o) ≡ true → 1 ≤ count_in v (all_results os)
counted_at v [] k o at h = absurd (none-some o at)
counted_at v (p ∷ os) zero o at h =
    let here = some_counted v (results_of p) (ap (λ x. has v (results_of x)) (some_same p o at) ∙ h) in
    let sum = count_joined v (results_of p) (all_results os) in
    omega (arith, here, sum)
counted_at v (p ∷ os) (suc k) o at h =
    let there = counted_at v os k o at h in
    let sum = count_joined v (results_of p) (all_results os) in
    omega (arith, there, sum)

pub maker_at : (v n : ℕ) (os : List Op) (k : ℕ) (o : Op) → count_in v (all_results os) ≤ 1 → nth os k ≡ Some o → has v (results_of o) ≡ true → maker_from v n os ≡ Some (n + k)
maker_at v n [] k o once at h = absurd (none-some o at)
maker_at v n (p ∷ os) zero o once at h =
    let same : has v (results_of p) ≡ true = ap (λ x. has v (results_of x)) (some_same p o at) ∙ h in
    let zero_on : n ≡ n + 0 = omega arith in
    ap (λ b. if b then Some n else maker_from v (n + 1) os) same ∙ ap Some zero_on
maker_at v n (p ∷ os) (suc k) o once at h =
    go (has v (results_of p)) refl (counted_at v os k o at h) (count_joined v (results_of p) (all_results os)) (λ less. maker_at v (n + 1) os k o less at h)
  where
    go : (b : Bool) → has v (results_of p) ≡ b → 1 ≤ count_in v (all_results os) → count_in v (results_of p ++ all_results os) ≡ count_in v (results_of p) + count_in v (all_results os)
        → (count_in v (all_results os) ≤ 1 → maker_from v (n + 1) os ≡ Some (n + 1 + k)) → (if b then Some n else maker_from v (n + 1) os) ≡ Some (n + suc k)
    go true f there sum rest = let here = some_counted v (results_of p) f in absurd (omega (arith, here, there, sum, once))
    go false f there sum rest =
        let on : n + 1 + k ≡ n + suc k = omega arith in
        rest (omega (arith, sum, once)) ∙ ap Some on

-- Rows of the graph

pub row_at : (maker : ℕ → Option ℕ) (os : List Op) (k : ℕ) (o : Op) → nth os k ≡ Some o → get_or (map (row_of maker) os) k [] ≡ row_of maker o
row_at maker [] k o at = absurd (none-some o at)
row_at maker (p ∷ os) zero o at = ap (row_of maker) (some_same p o at)
row_at maker (p ∷ os) (suc k) o at = row_at maker os k o at

pub nth_within : (os : List Op) (k : ℕ) (o : Op) → nth os k ≡ Some o → k < length os
nth_within [] k o at = absurd (none-some o at)
nth_within (p ∷ os) zero o at = omega arith
nth_within (p ∷ os) (suc k) o at = let rest = nth_within os k o at in omega (arith, rest)

pub of_makers : (maker : ℕ → Option ℕ) (q : ℕ) (us : List ℕ) → has q (makers_of maker us) ≡ true → (u : ℕ) × (has u us ≡ true) × (maker u ≡ Some q)
of_makers maker q [] h = absurd (true≢false (sym h))
of_makers maker q (u ∷ us) h = go (maker u) refl h (λ k. of_makers maker q us k)
  where
    on : ((w : ℕ) × (has w us ≡ true) × (maker w ≡ Some q)) → (w : ℕ) × (has w (u ∷ us) ≡ true) × (maker w ≡ Some q)
    on r = (r.0, or_right (u == r.0) _ r.1, r.2)

    either : (n : ℕ) → maker u ≡ Some n → (b : Bool) → (n == q) ≡ b → (b || has q (makers_of maker us)) ≡ true
        → (has q (makers_of maker us) ≡ true → (w : ℕ) × (has w us ≡ true) × (maker w ≡ Some q)) → (w : ℕ) × (has w (u ∷ us) ≡ true) × (maker w ≡ Some q)
    either n e true f k rest = (u, ap (λ b. b || has u us) (itself u), e ∙ ap Some (eqb-true n q f))
    either n e false f k rest = on (rest k)

    go : (o : Option ℕ) → maker u ≡ o → has q (if_made o (makers_of maker us)) ≡ true
        → (has q (makers_of maker us) ≡ true → (w : ℕ) × (has w us ≡ true) × (maker w ≡ Some q)) → (w : ℕ) × (has w (u ∷ us) ≡ true) × (maker w ≡ Some q)
    go None e k rest = on (rest k)
    go (Some n) e k rest = either n e (n == q) refl k rest

pub to_makers : (maker : ℕ → Option ℕ) (q u : ℕ) (us : List ℕ) → has u us ≡ true → maker u ≡ Some q → has q (makers_of maker us) ≡ true
to_makers maker q u [] h e = absurd (true≢false (sym h))
to_makers maker q u (w ∷ us) h e = go (w == u) refl h (λ k. to_makers maker q u us k e)
  where
    behind : (o : Option ℕ) → has q (makers_of maker us) ≡ true → has q (if_made o (makers_of maker us)) ≡ true
    behind None k = k
    behind (Some n) k = or_right (n == q) _ k

    go : (b : Bool) → (w == u) ≡ b → (b || has u us) ≡ true → (has u us ≡ true → has q (makers_of maker us) ≡ true) → has q (if_made (maker w) (makers_of maker us)) ≡ true
    go true f k rest =
        ap (λ o. has q (if_made o (makers_of maker us))) (ap maker (eqb-true w u f) ∙ e) ∙ ap (λ b. b || has q (makers_of maker us)) (itself q)
    go false f k rest = behind (maker w) (rest k)

pub row_makers : (maker : ℕ → Option ℕ) (vs used : List ℕ) (q : ℕ) → has q (row_for maker vs used) ≡ true → has q (makers_of maker used) ≡ true
row_makers maker [] used q h = absurd (true≢false (sym h))
row_makers maker (v ∷ vs) used q h = h

pub makers_row : (maker : ℕ → Option ℕ) (vs used : List ℕ) (v q : ℕ) → has v vs ≡ true → has q (makers_of maker used) ≡ true → has q (row_for maker vs used) ≡ true
makers_row maker [] used v q here h = absurd (true≢false (sym here))
makers_row maker (u ∷ vs) used v q here h = h

-- Each result stands once

mutual
  results_op : (v : ℕ) (o : Op) (more : List Op) (vs : Values) → count_in v (all_results (op_all o more)) + times v vs ≤ times v (op_values o vs) + count_in v (all_results more)
  results_op v (op k results operands regions successors) more vs =
      let sum = count_joined v (numbers results) (all_results (regions_all regions more)) in
      let values = values_joined v results (regions_values regions vs) in
      let inner = results_regions v regions more vs in
      omega (arith, sum, values, inner)

  results_ops : (v : ℕ) (os : Ops) (more : List Op) (vs : Values) → count_in v (all_results (ops_all os more)) + times v vs ≤ times v (ops_values os vs) + count_in v (all_results more)
  results_ops v end_of_ops more vs = omega arith
  results_ops v (more_ops o os) more vs =
      let here = results_op v o (ops_all os more) (ops_values os vs) in
      let rest = results_ops v os more vs in
      omega (arith, here, rest)

  results_regions : (v : ℕ) (rs : Regions) (more : List Op) (vs : Values) → count_in v (all_results (regions_all rs more)) + times v vs ≤ times v (regions_values rs vs) + count_in v (all_results more)
  results_regions v end_of_regions more vs = omega arith
  results_regions v (region bs rs) more vs =
      let here = results_blocks v bs (regions_all rs more) (regions_values rs vs) in
      let rest = results_regions v rs more vs in
      omega (arith, here, rest)

  results_blocks : (v : ℕ) (bs : Blocks) (more : List Op) (vs : Values) → count_in v (all_results (blocks_all bs more)) + times v vs ≤ times v (blocks_values bs vs) + count_in v (all_results more)
  results_blocks v end_of_blocks more vs = omega arith
  results_blocks v (block label args ops bs) more vs =
      let sum = args_first v args (ops_values ops (blocks_values bs vs)) in
      let here = results_ops v ops (blocks_all bs more) (blocks_values bs vs) in
      let rest = results_blocks v bs more vs in
      omega (arith, sum, here, rest)

pub results_once : (v : ℕ) (f : Op) → times v (op_values f []) ≤ 1 → count_in v (all_results (op_all f [])) ≤ 1
results_once v f once = let less = results_op v f [] [] in omega (arith, less, once)
