-- The names of a function, place by place.
use Rattle.std.proofs.Common.{◌≡◌, ℕ, zero, suc, ◌+◌, ◌==◌, ◌≤◌, ◌&&◌, ◌||◌, Bool, true, false, cond, List, [], ◌∷◌, ◌++◌, length, Option, Some, None, refl, sym, ap, ◌∙◌, subst, true≢false, arith, append_assoc}
use Rattle.std.specs.Prelude.{find, flat_map, is_some, option_map, position, count_by}
use Rattle.std.specs.List.{list_any, position_from}
use Rattle.std.proofs.lemmas.List.{append-nil}
use Rattle.std.proofs.lemmas.Iterator.Adapters.{position_from-zero}
use Rattle.mlir_lex.proofs.Lengths.{and-left, and-right, eqb-is, eqb-refl}
use Rattle.tree_model.specs.declared.type_tree.TypeTree.{TypeTree}
use Rattle.plain_tree.specs.Types.{PlainType, type_tree}
use Rattle.plain_tree.specs.Ops.{Op, op, Ops, end_of_ops, more_ops, Regions, end_of_regions, region, Blocks, end_of_blocks, block, Values, op_tree, values_tree}
use Rattle.text_model.specs.declared.value_name.ValueName.{ValueName}
use Rattle.text_model.specs.declared.value_name.ValueName.TheVariants.{Part}
use Rattle.text_model.specs.PrintedPlaces.{Place, argument_at, single_at, group_at, successor_at, block_at, places_of_op}
use Rattle.text_model.specs.PrintedNames.{Names, blocks_at, defines, is_other, label_position, name_at, names_along, value_name}
use Rattle.printed_trees.specs.Numbering.{Count, are_counted, are_numbered, are_numbered_blocks, are_numbered_regions, is_numbered, none_counted, past_blocks, past_head, past_op, past_ops, past_regions, past_values}
use Rattle.printed_trees.specs.Serving.{index_in}
use Rattle.named_trees.specs.Named.{ArgsNamed, BlocksNamed, NamesAreOnce, OpNamed, OpsNamed, Owns, RegionsNamed, ResultsNamed, Share, shown}
use Rattle.named_trees.proofs.PlaceLaws.{first_name, in_order, owned, shown_alike, some_at}
use Rattle.named_trees.proofs.PlaceLists.{arg_at, args_front, blocks_front, op_front, ops_front, places_are, regions_front, results_front, successors_front}

-- Lists

none_more : (t : Place → Bool) (xs : List Place) (y : Place) → list_any t xs ≡ false → t y ≡ false → list_any t (xs ++ y ∷ []) ≡ false
none_more t [] y h k = ap (λ b. b || false) k
none_more t (x ∷ xs) y h k = by_test (t x) h (λ d. none_more t xs y d k)
  where
    by_test : (b : Bool) → (b || list_any t xs) ≡ false → (list_any t xs ≡ false → list_any t (xs ++ y ∷ []) ≡ false) → (b || list_any t (xs ++ y ∷ [])) ≡ false
    by_test true h deep = absurd (true≢false h)
    by_test false h deep = deep h

find_both : (t : (ℕ × ℕ) → Bool) (xs ys : List (ℕ × ℕ)) → find t xs ≡ None → find t (xs ++ ys) ≡ find t ys
find_both t [] ys h = refl
find_both t (x ∷ xs) ys h = by_test (t x) h (λ d. find_both t xs ys d)
  where
    by_test : (b : Bool) → cond b (Some x) (find t xs) ≡ None → (find t xs ≡ None → find t (xs ++ ys) ≡ find t ys) → cond b (Some x) (find t (xs ++ ys)) ≡ find t ys
    by_test true h deep = absurd (some_none x h)
      where
        some_none : (x : ℕ × ℕ) → ◌≡◌ {A = Option (ℕ × ℕ)} (Some x) None → ⊥
        some_none x e = cc
    by_test false h deep = deep h

blocks_append : (xs ys : List Place) → flat_map blocks_at (xs ++ ys) ≡ flat_map blocks_at xs ++ flat_map blocks_at ys
blocks_append [] ys = refl
blocks_append (x ∷ xs) ys = ap (λ zs. blocks_at x ++ zs) (blocks_append xs ys) ∙ sym (append_assoc (blocks_at x) (flat_map blocks_at xs) (flat_map blocks_at ys))

differ : (a b : ℕ) → (a ≡ b → ⊥) → (a == b) ≡ false
differ a b no_same = by_test (a == b) refl
  where
    by_test : (t : Bool) → (a == b) ≡ t → t ≡ false
    by_test true is = absurd (no_same (eqb-is a b is))
    by_test false is = refl

-- values that are numbered from m on define no later number
not_beyond : (m q : ℕ) (vs : Values) → are_counted m vs ≡ true → m + length vs ≤ q → list_any (λ x. x.0 == q) (values_tree vs) ≡ false
not_beyond m q [] c h = refl
not_beyond m q (v ∷ vs) c h =
    let own : v.0 ≡ m = eqb-is v.0 m (and-left _ _ c) in
    ap (λ b. b || list_any (λ x. x.0 == q) (values_tree vs)) (differ v.0 q (λ same. less (length vs) own same h)) ∙ not_beyond (m + 1) q vs (and-right (v.0 == m) _ c) (more (length vs) h)
  where
    less : (n : ℕ) → v.0 ≡ m → v.0 ≡ q → m + suc n ≤ q → ⊥
    less n a b h = omega (arith, a, b, h)

    more : (n : ℕ) → m + suc n ≤ q → m + 1 + n ≤ q
    more n h = omega (arith, h)

is_member : (xs : Values) (w : ℕ × PlainType) (ws : Values) → list_any (λ x. x.0 == w.0) (values_tree (xs ++ w ∷ ws)) ≡ true
is_member [] w ws = ap (λ b. b || list_any (λ x. x.0 == w.0) (values_tree ws)) (eqb-refl w.0)
is_member (x ∷ xs) w ws = by_test (x.0 == w.0) (is_member xs w ws)
  where
    by_test : (b : Bool) → list_any (λ x. x.0 == w.0) (values_tree (xs ++ w ∷ ws)) ≡ true → (b || list_any (λ x. x.0 == w.0) (values_tree (xs ++ w ∷ ws))) ≡ true
    by_test true h = refl
    by_test false h = h

at_least : (m : ℕ) (xs : Values) (w : ℕ × PlainType) (ws : Values) → are_counted m (xs ++ w ∷ ws) ≡ true → m ≤ w.0
at_least m [] w ws c = let e : w.0 ≡ m = eqb-is w.0 m (and-left _ _ c) in omega (arith, e)
at_least m (x ∷ xs) w ws c = let h = at_least (m + 1) xs w ws (and-right (x.0 == m) _ c) in omega (arith, h)

module _ (P : List Place) where
  abbrev names : Names
  names = names_along P

  -- so far gone through the places, with so much counted
  record Walked (c : Count) (rest : List Place) : Type 0 where
    pre : List Place
    is : P ≡ pre ++ rest
    values : (q : ℕ) → c.values ≤ q → list_any (defines q) pre ≡ false
    labels : (q : ℕ) → c.labels ≤ q → find (λ b. b.0 == q) (flat_map blocks_at pre) ≡ None

  pushed : (c d : Count) (p : Place) (rest : List Place) → Walked c (p ∷ rest) → c.values ≤ d.values → c.labels ≤ d.labels → ((q : ℕ) → d.values ≤ q → defines q p ≡ false) → ((q : ℕ) → d.labels ≤ q → find (λ b. b.0 == q) (blocks_at p) ≡ None) → Walked d rest
  pushed c d p rest w v l nv nl = record {
    pre = w.pre ++ p ∷ [];
    is = w.is ∙ sym (append_assoc w.pre (p ∷ []) rest);
    values = λ q h. none_more (defines q) w.pre p (w.values q (later c.values d.values q v h)) (nv q h);
    labels = λ q h. ap (find (λ b. b.0 == q)) (blocks_append w.pre (p ∷ [])) ∙ find_both (λ b. b.0 == q) (flat_map blocks_at w.pre) (flat_map blocks_at (p ∷ [])) (w.labels q (later c.labels d.labels q l h))
        ∙ ap (find (λ b. b.0 == q)) (append-nil (blocks_at p)) ∙ nl q h;
  }
    where
      later : (a b q : ℕ) → a ≤ b → b ≤ q → a ≤ q
      later a b q h k = omega (arith, h, k)

  -- the name of a value that a place defines first
  name_here : (c : Count) (p : Place) (rest : List Place) (w : Walked c (p ∷ rest)) (u : ℕ) → c.values ≤ u → defines u p ≡ true → names.name u ≡ name_at u w.pre p
  name_here c p rest w u h d = ap (λ ps. value_name ps u) w.is ∙ first_name w.pre p rest u (w.values u h) d

  owns_here : (c : Count) (p : Place) (rest : List Place) (w : Walked c (p ∷ rest)) (u : ℕ) → c.values ≤ u → defines u p ≡ true
      → ((v : ℕ) (name : ValueName) → defines v p ≡ true → name_at v w.pre p ≡ Some name → v ≡ u + index_in (Some name)) → Owns names u
  owns_here c p rest w u h d index = λ v name e same.
      let k = owned w.pre p rest u v name (w.values u h) d (sym (ap (λ ps. value_name ps v) w.is) ∙ e) (same ∙ ap (λ ps. shown (value_name ps u)) w.is) in
      index v name k.defined k.named

  some_here : (c : Count) (p : Place) (rest : List Place) (w : Walked c (p ∷ rest)) (u : ℕ) → c.values ≤ u → defines u p ≡ true → is_some (names.name u) ≡ true
  some_here c p rest w u h d = ap is_some (name_here c p rest w u h d) ∙ some_at w.pre p u d

  alike_here : (c : Count) (p : Place) (rest : List Place) (w : Walked c (p ∷ rest)) (u v : ℕ) → c.values ≤ u → defines u p ≡ true → c.values ≤ v → defines v p ≡ true → shown (names.name v) ≡ shown (names.name u)
  alike_here c p rest w u v h d k e = ap shown (name_here c p rest w v k e) ∙ shown_alike w.pre p v u e d ∙ sym (ap shown (name_here c p rest w u h d))

  -- one value
  one_index : (pre : List Place) (x : ℕ × TypeTree) (p : Place) (u v : ℕ) (name : ValueName) → u ≡ x.0 → (x.0 == v || false) ≡ true → index_in (Some name) ≡ 0 → v ≡ u + index_in (Some name)
  one_index pre x p u v name e d i = let same : x.0 ≡ v = eqb-is x.0 v (left_or (x.0 == v) d) in sums x.0 (index_in (Some name)) e same i
    where
      left_or : (b : Bool) → (b || false) ≡ true → b ≡ true
      left_or true h = refl
      left_or false h = h

      sums : (a i : ℕ) → u ≡ a → a ≡ v → i ≡ 0 → v ≡ u + i
      sums a i e f g = omega (arith, e, f, g)

  single_index : (pre : List Place) (x : ℕ × TypeTree) (u v : ℕ) (name : ValueName) → u ≡ x.0 → defines v (single_at x) ≡ true → name_at v pre (single_at x) ≡ Some name → v ≡ u + index_in (Some name)
  single_index pre x u v name e d n = one_index pre x (single_at x) u v name e d (ap index_in (sym n))

  argument_index : (pre : List Place) (x : ℕ × TypeTree) (u v : ℕ) (name : ValueName) → u ≡ x.0 → defines v (argument_at x) ≡ true → name_at v pre (argument_at x) ≡ Some name → v ≡ u + index_in (Some name)
  argument_index pre x u v name e d n = one_index pre x (argument_at x) u v name e d (ap index_in (sym n))

  group_index : (pre : List Place) (vs : Values) (u v : ℕ) (name : ValueName) → are_counted u vs ≡ true → name_at v pre (group_at (values_tree vs)) ≡ Some name → v ≡ u + index_in (Some name)
  group_index pre vs u v name c n = by_position (position (λ w. w.0 == v) (values_tree vs)) (sym (position_from-zero (λ w. w.0 == v) (values_tree vs))) n
    where
      sums : (j : ℕ) → v + 0 ≡ u + j → v ≡ u + j
      sums j h = omega (arith, h)

      by_position : (o : Option ℕ) → position_from (λ w. w.0 == v) 0 (values_tree vs) ≡ o → option_map (Part (count_by is_other pre)) o ≡ Some name → v ≡ u + index_in (Some name)
      by_position None is e = absurd (none_is name e)
        where
          none_is : (x : ValueName) → ◌≡◌ {A = Option ValueName} None (Some x) → ⊥
          none_is x e = cc
      by_position (Some j) is e = sums j (in_order u 0 v j vs c is) ∙ ap (λ i. u + i) (ap index_in e)

  -- Results
  shares : (c : Count) (rest : List Place) (vs : Values) (w : Walked c (group_at (values_tree vs) ∷ rest)) → are_counted c.values vs ≡ true → defines c.values (group_at (values_tree vs)) ≡ true → (xs ws : Values) → vs ≡ xs ++ ws → Share names c.values ws
  shares c rest vs w counted first xs [] e = tt
  shares c rest vs w counted first xs (x ∷ ws) e =
      let member : defines x.0 (group_at (values_tree vs)) ≡ true = ap (λ ys. list_any (λ y. y.0 == x.0) (values_tree ys)) e ∙ is_member xs x ws in
      let least : c.values ≤ x.0 = at_least c.values xs x ws (ap (are_counted c.values) (sym e) ∙ counted) in
      (some_here c (group_at (values_tree vs)) rest w x.0 least member, alike_here c (group_at (values_tree vs)) rest w c.values x.0 (same c.values) first least member, shares c rest vs w counted first (xs ++ x ∷ []) ws (e ∙ sym (append_assoc xs (x ∷ []) ws)))
    where
      same : (n : ℕ) → n ≤ n
      same n = omega arith

  record ResultsWalk (c : Count) (vs : Values) (rest : List Place) : Type 0 where
    named : ResultsNamed names vs
    walked : Walked (past_values c (length vs)) rest

  least_is : (n : ℕ) → n ≤ n
  least_is n = omega arith

  more_is : (m n : ℕ) → m ≤ m + n
  more_is m n = omega arith

  results_walk : (c : Count) (vs : Values) (rest : List Place) → are_counted c.values vs ≡ true → Walked c (results_front vs rest) → ResultsWalk c vs rest
  results_walk c [] rest counted w = record { named = tt; walked = subst (λ (n : ℕ). Walked (record { values = n; labels = c.labels }) rest) (none c.values) w }
    where
      none : (n : ℕ) → n ≡ n + 0
      none n = omega arith
  results_walk c (v ∷ []) rest counted w =
      let p : Place = single_at (v.0, type_tree v.1) in
      let own : v.0 ≡ c.values = eqb-is v.0 c.values (and-left _ _ counted) in
      let least : c.values ≤ v.0 = omega (arith, own) in
      let first : defines v.0 (single_at (v.0, type_tree v.1)) ≡ true = ap (λ b. b || false) (eqb-refl v.0) in
      record {
        named = (owns_here c (single_at (v.0, type_tree v.1)) rest w v.0 least first (λ u name d n. single_index w.pre (v.0, type_tree v.1) v.0 u name refl d n), (some_here c (single_at (v.0, type_tree v.1)) rest w v.0 least first, refl, tt));
        walked = pushed c (past_values c 1) (single_at (v.0, type_tree v.1)) rest w (more_is c.values 1) (least_is c.labels) (λ q h. not_beyond c.values q (v ∷ []) counted h) (λ q h. refl);
      }
  results_walk c (v ∷ x ∷ vs) rest counted w =
      let own : v.0 ≡ c.values = eqb-is v.0 c.values (and-left _ _ counted) in
      let first : defines v.0 (group_at (values_tree (v ∷ x ∷ vs))) ≡ true = is_member [] v (x ∷ vs) in
      let start : defines c.values (group_at (values_tree (v ∷ x ∷ vs))) ≡ true = subst (λ (n : ℕ). defines n (group_at (values_tree (v ∷ x ∷ vs))) ≡ true) own first in
      record {
        named = subst (λ (n : ℕ). Owns names n × Share names n (v ∷ x ∷ vs)) (sym own)
            (owns_here c (group_at (values_tree (v ∷ x ∷ vs))) rest w c.values (least_is c.values) start (λ u name d n. group_index w.pre (v ∷ x ∷ vs) c.values u name counted n), shares c rest (v ∷ x ∷ vs) w counted start [] (v ∷ x ∷ vs) refl);
        walked = pushed c (past_values c (length (v ∷ x ∷ vs))) (group_at (values_tree (v ∷ x ∷ vs))) rest w (more_is c.values (length (v ∷ x ∷ vs))) (least_is c.labels) (λ q h. not_beyond c.values q (v ∷ x ∷ vs) counted h) (λ q h. refl);
      }

  successors_walk : (c : Count) (ls : List ℕ) (rest : List Place) → Walked c (successors_front ls rest) → Walked c rest
  successors_walk c [] rest w = w
  successors_walk c (l ∷ ls) rest w = successors_walk c ls rest (pushed c c (successor_at l) (successors_front ls rest) w (least_is c.values) (least_is c.labels) (λ q h. refl) (λ q h. refl))

  -- Arguments
  record ArgsWalk (c : Count) (vs : Values) (rest : List Place) : Type 0 where
    named : ArgsNamed names vs
    walked : Walked (past_values c (length vs)) rest

  arg_defines : (k q : ℕ) (x : ℕ × TypeTree) → defines q (arg_at k x) ≡ (x.0 == q || false)
  arg_defines zero q x = refl
  arg_defines (suc k) q x = refl

  arg_blocks : (k : ℕ) (x : ℕ × TypeTree) → blocks_at (arg_at k x) ≡ []
  arg_blocks zero x = refl
  arg_blocks (suc k) x = refl

  arg_index : (k : ℕ) (pre : List Place) (x : ℕ × TypeTree) (u v : ℕ) (name : ValueName) → u ≡ x.0 → defines v (arg_at k x) ≡ true → name_at v pre (arg_at k x) ≡ Some name → v ≡ u + index_in (Some name)
  arg_index zero pre x u v name e d n = argument_index pre x u v name e d n
  arg_index (suc k) pre x u v name e d n = single_index pre x u v name e d n

  args_walk : (c : Count) (k : ℕ) (vs : Values) (rest : List Place) → are_counted c.values vs ≡ true → Walked c (args_front k vs rest) → ArgsWalk c vs rest
  args_walk c k [] rest counted w = record { named = tt; walked = subst (λ (n : ℕ). Walked (record { values = n; labels = c.labels }) rest) (none c.values) w }
    where
      none : (n : ℕ) → n ≡ n + 0
      none n = omega arith
  args_walk c k (v ∷ vs) rest counted w =
      let own : v.0 ≡ c.values = eqb-is v.0 c.values (and-left _ _ counted) in
      let least : c.values ≤ v.0 = omega (arith, own) in
      let first : defines v.0 (arg_at k (v.0, type_tree v.1)) ≡ true = arg_defines k v.0 (v.0, type_tree v.1) ∙ ap (λ b. b || false) (eqb-refl v.0) in
      let next : Walked (past_values c 1) (args_front k vs rest) =
      pushed c (past_values c 1) (arg_at k (v.0, type_tree v.1)) (args_front k vs rest) w (more_is c.values 1) (least_is c.labels)
      (λ q h. arg_defines k q (v.0, type_tree v.1) ∙ not_beyond c.values q (v ∷ []) (one counted) h) (λ q h. ap (find (λ b. b.0 == q)) (arg_blocks k (v.0, type_tree v.1))) in
      let more = args_walk (past_values c 1) k vs rest (and-right (v.0 == c.values) _ counted) next in
      record {
        named = (
          owns_here c (arg_at k (v.0, type_tree v.1)) (args_front k vs rest) w v.0 least first (λ u name d n. arg_index k w.pre (v.0, type_tree v.1) v.0 u name refl d n),
          some_here c (arg_at k (v.0, type_tree v.1)) (args_front k vs rest) w v.0 least first,
          more.named,
        );
        walked = subst (λ (n : ℕ). Walked (record { values = n; labels = c.labels }) rest) (sums c.values (length vs)) more.walked;
      }
    where
      sums : (m n : ℕ) → m + 1 + n ≡ m + suc n
      sums m n = omega arith

      one : (v.0 == c.values && are_counted (c.values + 1) vs) ≡ true → (v.0 == c.values && true) ≡ true
      one h = ap (λ b. b && true) (and-left _ _ h)

  -- Labels
  label_here : (c : Count) (k label : ℕ) (rest : List Place) → Walked c (block_at k label ∷ rest) → c.labels ≤ label → names.position label ≡ Some k
  label_here c k label rest w h =
      ap (λ ps. label_position ps label) w.is
      ∙ ap (λ bs. option_map (λ b. b.1) (find (λ b. b.0 == label) bs)) (blocks_append w.pre (block_at k label ∷ rest))
      ∙ ap (option_map (λ b. b.1)) (find_both (λ b. b.0 == label) (flat_map blocks_at w.pre) ((label, k) ∷ flat_map blocks_at rest) (w.labels label h))
      ∙ ap (λ t. option_map (λ (b : ℕ × ℕ). b.1) (cond t (Some (label, k)) (find (λ b. b.0 == label) (flat_map blocks_at rest)))) (eqb-refl label)

  -- Operations
  record OpWalk (c : Count) (o : Op) (rest : List Place) : Type 0 where
    named : OpNamed names o
    walked : Walked (past_op c o) rest

  record OpsWalk (c : Count) (os : Ops) (rest : List Place) : Type 0 where
    named : OpsNamed names os
    walked : Walked (past_ops c os) rest

  record RegionsWalk (c : Count) (rs : Regions) (rest : List Place) : Type 0 where
    named : RegionsNamed names rs
    walked : Walked (past_regions c rs) rest

  record BlocksWalk (k : ℕ) (c : Count) (bs : Blocks) (rest : List Place) : Type 0 where
    named : BlocksNamed names k bs
    walked : Walked (past_blocks c bs) rest

  mutual
    op_walk : (o : Op) (c : Count) (rest : List Place) → is_numbered c o ≡ true → Walked c (op_front o rest) → OpWalk c o rest
    op_walk (op k results operands regions successors) c rest h w =
        let r = results_walk c results _ (and-left _ _ h) w in
        let s = successors_walk (past_values c (length results)) successors _ r.walked in
        let m = regions_walk regions (past_values c (length results)) rest (and-right (are_counted c.values results) _ h) s in
        record { named = (r.named, m.named); walked = m.walked }

    ops_walk : (os : Ops) (c : Count) (rest : List Place) → are_numbered c os ≡ true → Walked c (ops_front os rest) → OpsWalk c os rest
    ops_walk end_of_ops c rest h w = record { named = tt; walked = w }
    ops_walk (more_ops o os) c rest h w =
        let one = op_walk o c (ops_front os rest) (and-left _ _ h) w in
        let more = ops_walk os (past_op c o) rest (and-right (is_numbered c o) _ h) one.walked in
        record { named = (one.named, more.named); walked = more.walked }

    regions_walk : (rs : Regions) (c : Count) (rest : List Place) → are_numbered_regions c rs ≡ true → Walked c (regions_front rs rest) → RegionsWalk c rs rest
    regions_walk end_of_regions c rest h w = record { named = tt; walked = w }
    regions_walk (region blocks rs) c rest h w =
        let one = blocks_walk blocks 0 c (regions_front rs rest) (and-left _ _ h) w in
        let more = regions_walk rs (past_blocks c blocks) rest (and-right (are_numbered_blocks c blocks) _ h) one.walked in
        record { named = (one.named, more.named); walked = more.walked }

    blocks_walk : (bs : Blocks) (k : ℕ) (c : Count) (rest : List Place) → are_numbered_blocks c bs ≡ true → Walked c (blocks_front k bs rest) → BlocksWalk k c bs rest
    blocks_walk end_of_blocks k c rest h w = record { named = tt; walked = w }
    blocks_walk (block label args ops more) k c rest h w =
        let own : label ≡ c.labels = eqb-is label c.labels (and-left _ _ h) in
        let rest_of : (are_counted c.values args && (are_numbered (past_head c args) ops && are_numbered_blocks (past_ops (past_head c args) ops) more)) ≡ true = and-right (label == c.labels) _ h in
        let both : (are_numbered (past_head c args) ops && are_numbered_blocks (past_ops (past_head c args) ops) more) ≡ true = and-right (are_counted c.values args) _ rest_of in
        let least : c.labels ≤ label = omega (arith, own) in
        let next : Count = record { values = c.values; labels = c.labels + 1 } in
        let begun : Walked (record { values = c.values; labels = c.labels + 1 }) (args_front k args (ops_front ops (blocks_front (k + 1) more rest))) =
        pushed c (record { values = c.values; labels = c.labels + 1 }) (block_at k label) _ w (least_is c.values) (more_is c.labels 1) (λ q h. refl) (λ q h. other q label own h) in
        let a = args_walk (record { values = c.values; labels = c.labels + 1 }) k args _ (and-left _ _ rest_of) begun in
        let o = ops_walk ops (past_head c args) _ (and-left _ _ both) a.walked in
        let m = blocks_walk more (k + 1) (past_ops (past_head c args) ops) rest (and-right (are_numbered (past_head c args) ops) _ both) o.walked in
        record { named = (label_here c k label _ w least, a.named, o.named, m.named); walked = m.walked }
      where
        other : (q l : ℕ) → l ≡ c.labels → c.labels + 1 ≤ q → ◌≡◌ {A = Option (ℕ × ℕ)} (cond {A = Option (ℕ × ℕ)} (l == q) (Some (l, k)) None) None
        other q l e h = ap (λ b. cond {A = Option (ℕ × ℕ)} b (Some (l, k)) None) (differ l q (λ same. apart q l e h same))
          where
            apart : (q l : ℕ) → l ≡ c.labels → c.labels + 1 ≤ q → l ≡ q → ⊥
            apart q l e h s = omega (arith, e, h, s)

pub names_are_once : NamesAreOnce
names_are_once f h =
    (op_walk (places_of_op (op_tree f)) f none_counted [] h (record { pre = []; is = sym (append-nil (places_of_op (op_tree f))) ∙ places_are f []; values = λ q k. refl; labels = λ q k. refl })).named
