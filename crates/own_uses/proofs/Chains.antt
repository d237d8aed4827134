-- Chains of values, and paths in the graph of operations.
use Rattle.std.proofs.Common.{◌≡◌, ℕ, zero, suc, ◌+◌, ◌==◌, ◌<◌, ◌≤◌, Bool, true, false, List, [], ◌∷◌, ◌++◌, length, get_or, Some, refl, sym, ap, ◌∙◌, subst, append_assoc, true≢false, inl, inr, arith}
use Rattle.std.specs.Prelude.{◌⊎◌, ◌↔◌, ◌||◌, if◌then◌else◌}
use Rattle.std.proofs.lemmas.List.{append-nil, length-map}
use Rattle.std.proofs.lemmas.Option.{none-some}
use Rattle.std.proofs.lemmas.Bool.{eqb-true}
use Rattle.plain_tree.specs.Ops.{Op, op, Ops, end_of_ops, more_ops, Regions, end_of_regions, region, Blocks, end_of_blocks, block}
use Rattle.rule_model.specs.Words.{AnyOf, has, numbers, results_of}
use Rattle.rule_model.specs.Chains.{blocks_used, by_way_of, Chain, op_operands, op_used, ops_used, regions_operands, regions_used, uses}
use Rattle.rule_model.proofs.Numbers.{itself, or_right, some_same}
use Rattle.block_search.specs.Reach.{Reached, begins, followed, follows}
use Rattle.block_search.proofs.Marking.{in_either, in_first, in_second}
use Rattle.first_places.proofs.Once.{count_in}
use Rattle.own_uses.specs.Flat.{blocks_all, graph, maker_in, op_all, ops_all, regions_all, row_of}
use Rattle.own_uses.specs.Ranks.{OnCycle}
use Rattle.own_uses.proofs.Makers.{all_results, Made, made, maker_at, maker_from, maker_is, makers_row, nth, nth_within, of_makers, row_at, row_makers, to_makers}

-- What a value uses, over the list of operations

abbrev pub used_by : ℕ → List Op → List ℕ
used_by v [] = []
used_by v (o ∷ os) = (if has v (results_of o) then op_operands o else []) ++ used_by v os

mutual
  used_op : (v : ℕ) (o : Op) (more : List Op) → used_by v (op_all o more) ≡ op_used v o ++ used_by v more
  used_op v (op k results operands regions successors) more =
      let own : List ℕ = if has v (numbers results) then operands ++ regions_operands regions else [] in
      ap (λ us. own ++ us) (used_regions v regions more) ∙ sym (append_assoc own (regions_used v regions) (used_by v more))

  used_ops : (v : ℕ) (os : Ops) (more : List Op) → used_by v (ops_all os more) ≡ ops_used v os ++ used_by v more
  used_ops v end_of_ops more = refl
  used_ops v (more_ops o os) more =
      used_op v o (ops_all os more) ∙ ap (λ us. op_used v o ++ us) (used_ops v os more) ∙ sym (append_assoc (op_used v o) (ops_used v os) (used_by v more))

  used_regions : (v : ℕ) (rs : Regions) (more : List Op) → used_by v (regions_all rs more) ≡ regions_used v rs ++ used_by v more
  used_regions v end_of_regions more = refl
  used_regions v (region bs rs) more =
      used_blocks v bs (regions_all rs more) ∙ ap (λ us. blocks_used v bs ++ us) (used_regions v rs more) ∙ sym (append_assoc (blocks_used v bs) (regions_used v rs) (used_by v more))

  used_blocks : (v : ℕ) (bs : Blocks) (more : List Op) → used_by v (blocks_all bs more) ≡ blocks_used v bs ++ used_by v more
  used_blocks v end_of_blocks more = refl
  used_blocks v (block label args ops bs) more =
      used_ops v ops (blocks_all bs more) ∙ ap (λ us. ops_used v ops ++ us) (used_blocks v bs more) ∙ sym (append_assoc (ops_used v ops) (blocks_used v bs) (used_by v more))

used_is : (v : ℕ) (f : Op) → used_by v (op_all f []) ≡ op_used v f
used_is v f = used_op v f [] ∙ append-nil (op_used v f)

-- an operation with the result v uses w
record Uses (os : List Op) (v w : ℕ) : Type 0 where
  place : ℕ
  by : Op
  at : nth os place ≡ Some by
  makes : has v (results_of by) ≡ true
  takes : has w (op_operands by) ≡ true

used_at : (v w : ℕ) (os : List Op) → has w (used_by v os) ≡ true → Uses os v w
used_at v w [] h = absurd (true≢false (sym h))
used_at v w (o ∷ os) h =
    go (has v (results_of o)) refl (in_either w (if has v (results_of o) then op_operands o else []) (used_by v os) h) (λ k. used_at v w os k)
  where
    later : Uses os v w → Uses (o ∷ os) v w
    later u = record { place = suc u.place; by = u.by; at = u.at; makes = u.makes; takes = u.takes }

    go : (b : Bool) → has v (results_of o) ≡ b → (has w (if b then op_operands o else []) ≡ true) ⊎ (has w (used_by v os) ≡ true)
        → (has w (used_by v os) ≡ true → Uses os v w) → Uses (o ∷ os) v w
    go true e (inl k) rest = record { place = 0; by = o; at = refl; makes = e; takes = k }
    go false e (inl k) rest = absurd (true≢false (sym k))
    go b e (inr k) rest = later (rest k)

at_used : (v w : ℕ) (os : List Op) (k : ℕ) (o : Op) → nth os k ≡ Some o → has v (results_of o) ≡ true → has w (op_operands o) ≡ true → has w (used_by v os) ≡ true
at_used v w [] k o at makes takes = absurd (none-some o at)
at_used v w (p ∷ os) zero o at makes takes =
    let same : has v (results_of p) ≡ true = ap (λ x. has v (results_of x)) (some_same p o at) ∙ makes in
    in_first w (if has v (results_of p) then op_operands p else []) (used_by v os)
    (ap (λ b. has w (if b then op_operands p else [])) same ∙ ap (λ x. has w (op_operands x)) (some_same p o at) ∙ takes)
at_used v w (p ∷ os) (suc k) o at makes takes =
    in_second w (if has v (results_of p) then op_operands p else []) (used_by v os) (at_used v w os k o at makes takes)

-- Paths

abbrev next : List Op → ℕ → List ℕ
next os = followed (graph os) (length (graph os))

on_row : (edges : List (List ℕ)) (m q : ℕ) → has q (followed edges (length edges) m) ≡ true → has q (get_or edges m []) ≡ true
on_row edges m q h = go (m == length edges) h
  where
    go : (b : Bool) → has q (if b then [] else get_or edges m []) ≡ true → has q (get_or edges m []) ≡ true
    go true k = absurd (true≢false (sym k))
    go false k = k

row_on : (edges : List (List ℕ)) (m q : ℕ) → m < length edges → has q (get_or edges m []) ≡ true → has q (followed edges (length edges) m) ≡ true
row_on edges m q less h = go (m == length edges) refl
  where
    go : (b : Bool) → (m == length edges) ≡ b → has q (if b then [] else get_or edges m []) ≡ true
    go true e = let same = eqb-true m (length edges) e in absurd (omega (arith, same, less))
    go false e = h

joined : (go : ℕ → List ℕ) (starts row : List ℕ) (m q : ℕ) → Reached go starts m → ((k : ℕ) → has k row ≡ true → has k (go m) ≡ true) → Reached go row q → Reached go starts q
joined go starts row m q first on (begins _ h) = follows m q first (on q h)
joined go starts row m q first on (follows j _ r h) = follows j q (joined go starts row m j first on r) h

longer : {f : Op} {v u : ℕ} (w : ℕ) → Chain f v u → has w (op_used u f) ≡ true → Chain f v w
longer {u = u} w (uses h) e = by_way_of u h (uses e)
longer w (by_way_of x h rest) e = by_way_of x h (longer w rest e)

-- an operation with the result v, which uses something
record User (os : List Op) (v : ℕ) : Type 0 where
  place : ℕ
  by : Op
  at : nth os place ≡ Some by
  makes : has v (results_of by) ≡ true

user_of : (f : Op) (v u : ℕ) → Chain f v u → User (op_all f []) v
user_of f v u (uses h) = let x = used_at v u (op_all f []) (ap (has u) (used_is v f) ∙ h) in record { place = x.place; by = x.by; at = x.at; makes = x.makes }
user_of f v u (by_way_of w h rest) = let x = used_at v w (op_all f []) (ap (has w) (used_is v f) ∙ h) in record { place = x.place; by = x.by; at = x.at; makes = x.makes }

-- each result of an operation leads to a result of the q-th one
record Leads (f o : Op) (q : ℕ) : Type 0 where
  value : ℕ
  to : Op
  at : nth (op_all f []) q ≡ Some to
  makes : has value (results_of to) ≡ true
  chain : (v : ℕ) → has v (results_of o) ≡ true → Chain f v value

module _ (f : Op) (once : (v : ℕ) → count_in v (all_results (op_all f [])) ≤ 1) where
  -- the makers of what an operation uses follow it
  follows_by : (p : ℕ) (o : Op) (v w q : ℕ) → nth (op_all f []) p ≡ Some o → has v (results_of o) ≡ true → has w (op_used v f) ≡ true → maker_from w 0 (op_all f []) ≡ Some q
      → has q (get_or (graph (op_all f [])) p []) ≡ true
  follows_by p o v w q at makes used made_at =
      let u = used_at v w (op_all f []) (ap (has w) (used_is v f) ∙ used) in
      let one = maker_at v 0 (op_all f []) u.place u.by (once v) u.at u.makes in
      let two = maker_at v 0 (op_all f []) p o (once v) at makes in
      let same : 0 + u.place ≡ 0 + p = some_same (0 + u.place) (0 + p) (sym one ∙ two) in
      let place : u.place ≡ p = omega (arith, same) in
      let by : u.by ≡ o = some_same u.by o (sym u.at ∙ ap (nth (op_all f [])) place ∙ at) in
      let takes : has w (op_operands o) ≡ true = ap (λ x. has w (op_operands x)) (sym by) ∙ u.takes in
      ap (has q) (row_at (maker_in (op_all f [])) (op_all f []) p o at)
      ∙ makers_row (maker_in (op_all f [])) (results_of o) (op_operands o) v q makes
      (to_makers (maker_in (op_all f [])) q w (op_operands o) takes (maker_is (op_all f []) w ∙ made_at))

  within : (p : ℕ) (o : Op) → nth (op_all f []) p ≡ Some o → p < length (graph (op_all f []))
  within p o at = let less = nth_within (op_all f []) p o at in let size = length-map (op_all f []) (row_of (maker_in (op_all f []))) in omega (arith, less, size)

  -- what a chain leads to is reached
  chain_path : (v u p q : ℕ) (o : Op) → Chain f v u → nth (op_all f []) p ≡ Some o → has v (results_of o) ≡ true → maker_from u 0 (op_all f []) ≡ Some q
      → Reached (next (op_all f [])) (get_or (graph (op_all f [])) p []) q
  chain_path v u p q o (uses h) at makes made_at = begins q (follows_by p o v u q at makes h made_at)
  chain_path v u p q o (by_way_of w h rest) at makes made_at =
      let user = user_of f w u rest in
      let place : maker_from w 0 (op_all f []) ≡ Some (0 + user.place) = maker_at w 0 (op_all f []) user.place user.by (once w) user.at user.makes in
      let zero_on : 0 + user.place ≡ user.place = omega arith in
      joined (next (op_all f [])) (get_or (graph (op_all f [])) p []) (get_or (graph (op_all f [])) user.place []) user.place q
      (begins user.place (follows_by p o v w user.place at makes h (place ∙ ap Some zero_on)))
      (λ k on. row_on (graph (op_all f [])) user.place k (within user.place user.by user.at) on)
      (chain_path w u user.place q user.by rest user.at user.makes made_at)

  -- the maker of something that an operation with results uses
  maker_used : (p q : ℕ) (o : Op) → nth (op_all f []) p ≡ Some o → has q (get_or (graph (op_all f [])) p []) ≡ true → (u : ℕ) × (has u (op_operands o) ≡ true) × Made (op_all f []) u 0 q
  maker_used p q o at h =
      let row : has q (row_of (maker_in (op_all f [])) o) ≡ true = ap (has q) (sym (row_at (maker_in (op_all f [])) (op_all f []) p o at)) ∙ h in
      let (u, takes, by) = of_makers (maker_in (op_all f [])) q (op_operands o) (row_makers (maker_in (op_all f [])) (results_of o) (op_operands o) q row) in
      (u, takes, made u 0 (op_all f []) q (sym (maker_is (op_all f []) u) ∙ by))

  leads_by : (p q : ℕ) (o : Op) → nth (op_all f []) p ≡ Some o → (u : ℕ) → has u (op_operands o) ≡ true → Made (op_all f []) u 0 q
      → (v : ℕ) → has v (results_of o) ≡ true → has u (op_used v f) ≡ true
  leads_by p q o at u takes m v makes = ap (has u) (sym (used_is v f)) ∙ at_used v u (op_all f []) p o at makes takes

  at_place : (u q : ℕ) (m : Made (op_all f []) u 0 q) → nth (op_all f []) q ≡ Some m.by
  at_place u q m = let number = m.number in let same : q ≡ m.place = omega (arith, number) in ap (nth (op_all f [])) same ∙ m.at

  -- and what is reached is led to
  path_chain : (p q : ℕ) (o : Op) → Reached (next (op_all f [])) (get_or (graph (op_all f [])) p []) q → nth (op_all f []) p ≡ Some o → Leads f o q
  path_chain p q o (begins _ h) at =
      let (u, takes, m) = maker_used p q o at h in
      record {
        value = u;
        to = m.by;
        at = at_place u q m;
        makes = m.makes;
        chain = λ v makes. uses (leads_by p q o at u takes m v makes);
      }
  path_chain p q o (follows m _ r h) at =
      let inner = path_chain p m o r at in
      let (u, takes, made_at) = maker_used m q inner.to inner.at (on_row (graph (op_all f [])) m q h) in
      record {
        value = u;
        to = made_at.by;
        at = at_place u q made_at;
        makes = made_at.makes;
        chain = λ v makes. longer u (inner.chain v makes) (leads_by m q inner.to inner.at u takes made_at inner.value inner.makes);
      }

  any_own : (vs : List ℕ) → AnyOf (λ v. Chain f v v) vs → (v : ℕ) × (has v vs ≡ true) × Chain f v v
  any_own [] h = absurd h
  any_own (v ∷ vs) (inl c) = (v, ap (λ b. b || has v vs) (itself v), c)
  any_own (v ∷ vs) (inr h) = let r = any_own vs h in (r.0, or_right (v == r.0) _ r.1, r.2)

  own_any : (v : ℕ) (vs : List ℕ) → has v vs ≡ true → Chain f v v → AnyOf (λ u. Chain f u u) vs
  own_any v [] h c = absurd (true≢false (sym h))
  own_any v (u ∷ us) h c = go (u == v) refl h (λ k. own_any v us k c)
    where
      go : (b : Bool) → (u == v) ≡ b → (b || has v us) ≡ true → (has v us ≡ true → AnyOf (λ w. Chain f w w) us) → Chain f u u ⊎ AnyOf (λ w. Chain f w w) us
      go true e k rest = inl (subst (λ w. Chain f w w) (sym (eqb-true u v e)) c)
      go false e k rest = inr (rest k)

  -- a result of an operation uses itself exactly where the operation is on a cycle
  pub own_cycle : (p : ℕ) (o : Op) → nth (op_all f []) p ≡ Some o → AnyOf (λ v. Chain f v v) (results_of o) ↔ OnCycle (graph (op_all f [])) p
  own_cycle p o at = (there, back)
    where
      there : AnyOf (λ v. Chain f v v) (results_of o) → OnCycle (graph (op_all f [])) p
      there h =
          let (v, makes, c) = any_own (results_of o) h in
          let place = maker_at v 0 (op_all f []) p o (once v) at makes in
          let zero_on : 0 + p ≡ p = omega arith in
          chain_path v v p p o c at makes (place ∙ ap Some zero_on)

      back : OnCycle (graph (op_all f [])) p → AnyOf (λ v. Chain f v v) (results_of o)
      back r =
          let l = path_chain p p o r at in
          let same : l.to ≡ o = some_same l.to o (sym l.at ∙ at) in
          let makes : has l.value (results_of o) ≡ true = ap (λ x. has l.value (results_of x)) (sym same) ∙ l.makes in
          own_any l.value (results_of o) makes (l.chain l.value makes)
