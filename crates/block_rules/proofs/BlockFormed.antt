-- A function whose blocks get arguments in converted types is formed.
use Rattle.std.proofs.Common.{◌≡◌, ℕ, ◌+◌, Bool, true, false, List, [], ◌∷◌, ◌++◌, Option, Some, None, refl, sym, ap, ◌∙◌, subst, inl, inr}
use Rattle.std.specs.Prelude.{◌⊎◌}
use Rattle.std.specs.List.{list_all}
use Rattle.plain_tree.specs.Types.{PlainType, Int, Index, Memref, Func, Ptr, Void, Struct, Array, LlvmFunc}
use Rattle.plain_tree.specs.Ops.{Kind, op, Ops, end_of_ops, more_ops, Regions, end_of_regions, region, Blocks, end_of_blocks, block, Values}
use Rattle.plain_tree.specs.Values.{blocks_values, op_values, ops_values, regions_values, type_in}
use Rattle.rule_model.specs.Words.{has, numbers}
use Rattle.rule_model.specs.Formed.{are_formed_blocks, are_formed_ops, are_formed_regions, are_formed_values, are_once, blocks_labels, is_formed_function, is_formed_here, is_formed_op, is_formed_type, is_function_name, is_inner_name, ops_labels, own_labels, regions_labels}
use Rattle.rule_model.proofs.Numbers.{and_first, and_second}
use Rattle.conversion_model.specs.Types.{becomes, new_type, or_same}
use Rattle.conversion_model.specs.Conversion.{blocks_blocks, cast_back, cast_op, casts_back, new_argument, new_arguments, ops_blocks, regions_blocks}
use Rattle.conversion_model.specs.Counts.{DefinesOnce}
use Rattle.line_rules.specs.Lines.{HasValue}
use Rattle.block_rules.specs.Promises.{BlocksKeepFormed}
use Rattle.fitting_rows.proofs.FitShapes.{fields_formed, number_formed, Width, width_of}
use Rattle.line_rules.proofs.LinedFormed.{all_to, all_true, formed_one, true_all}
use Rattle.line_rules.proofs.LinedValues.{behind_blocks, behind_ops, behind_regions}
use Rattle.line_rules.proofs.Once.{once_defined, type_of_value, value_among, value_cases, value_left, value_right}
use Rattle.line_rules.proofs.SameTypes.{and_true}

-- a formed type becomes one
becomes_formed : (bits : ℕ) (t : PlainType) → Width bits → is_formed_type t ≡ true → is_formed_type (becomes bits t) ≡ true
becomes_formed bits (Int n) w e = e
becomes_formed bits Index w e = number_formed bits w
becomes_formed bits (Memref dims element) w e = fields_formed bits dims element w e
becomes_formed bits (Func a b) w e = e
becomes_formed bits Ptr w e = e
becomes_formed bits Void w e = e
becomes_formed bits (Struct fields) w e = e
becomes_formed bits (Array n t) w e = e
becomes_formed bits (LlvmFunc a b) w e = e

module _ (bits : ℕ) (arg : ℕ → ℕ → ℕ) (w : Width bits) where
  args_formed : (l k : ℕ) (args : Values) → are_formed_values args ≡ true → are_formed_values (new_arguments bits (arg l) k args) ≡ true
  args_formed l k [] e = refl
  args_formed l k (a ∷ args) e = go (new_type bits a.1) refl (args_formed l (k + 1) args (and_second (is_formed_type a.1) _ e))
    where
      go : (c : Option PlainType) → new_type bits a.1 ≡ c → are_formed_values (new_arguments bits (arg l) (k + 1) args) ≡ true → are_formed_values (new_argument (arg l k) a c ∷ new_arguments bits (arg l) (k + 1) args) ≡ true
      go None f rest = and_true (is_formed_type a.1) _ (and_first (is_formed_type a.1) _ e) rest
      go (Some t) f rest = and_true (is_formed_type t) _ (subst (λ u. is_formed_type u ≡ true) (ap (or_same a.1) f) (becomes_formed bits a.1 w (and_first (is_formed_type a.1) _ e))) rest

  -- Labels stay

  front_labels : (l k : ℕ) (args : Values) (qs : Ops) → ops_labels (casts_back bits (arg l) k args qs) ≡ ops_labels qs
  front_labels l k [] qs = refl
  front_labels l k (a ∷ args) qs = go (new_type bits a.1) (front_labels l (k + 1) args qs)
    where
      go : (c : Option PlainType) → ops_labels (casts_back bits (arg l) (k + 1) args qs) ≡ ops_labels qs → ops_labels (cast_back (arg l k) a c (casts_back bits (arg l) (k + 1) args qs)) ≡ ops_labels qs
      go None e = e
      go (Some t) e = e

  mutual
    ops_labels_stay : (os : Ops) → ops_labels (ops_blocks bits arg os) ≡ ops_labels os
    ops_labels_stay end_of_ops = refl
    ops_labels_stay (more_ops (op k rs os r ls) rest) = ap (λ ns. ns ++ ops_labels (ops_blocks bits arg rest)) (regions_labels_stay r) ∙ ap (λ ns. regions_labels r ++ ns) (ops_labels_stay rest)

    regions_labels_stay : (rs : Regions) → regions_labels (regions_blocks bits arg rs) ≡ regions_labels rs
    regions_labels_stay end_of_regions = refl
    regions_labels_stay (region b r) = ap (λ ns. ns ++ regions_labels (regions_blocks bits arg r)) (blocks_labels_stay true b) ∙ ap (λ ns. blocks_labels b ++ ns) (regions_labels_stay r)

    blocks_labels_stay : (first : Bool) (bs : Blocks) → blocks_labels (blocks_blocks bits arg first bs) ≡ blocks_labels bs
    blocks_labels_stay first end_of_blocks = refl
    blocks_labels_stay true (block l args ops b) = ap (λ ns. l ∷ (ns ++ blocks_labels (blocks_blocks bits arg false b))) (ops_labels_stay ops) ∙ ap (λ ns. l ∷ (ops_labels ops ++ ns)) (blocks_labels_stay false b)
    blocks_labels_stay false (block l args ops b) =
        ap (λ ns. l ∷ (ns ++ blocks_labels (blocks_blocks bits arg false b))) (front_labels l 0 args (ops_blocks bits arg ops) ∙ ops_labels_stay ops) ∙ ap (λ ns. l ∷ (ops_labels ops ++ ns)) (blocks_labels_stay false b)

  own_labels_stay : (first : Bool) (bs : Blocks) → own_labels (blocks_blocks bits arg first bs) ≡ own_labels bs
  own_labels_stay first end_of_blocks = refl
  own_labels_stay true (block l args ops b) = ap (λ ns. l ∷ ns) (own_labels_stay false b)
  own_labels_stay false (block l args ops b) = ap (λ ns. l ∷ ns) (own_labels_stay false b)

  -- Values stay: an argument that changed is the result of its cast

  pub front_value : (x : ℕ) (t : PlainType) (l k : ℕ) (args : Values) (qs : Ops) (more : Values) → HasValue x t args → HasValue x t (new_arguments bits (arg l) k args) ⊎ HasValue x t (ops_values (casts_back bits (arg l) k args qs) more)
  front_value x t l k [] qs more h = absurd h
  front_value x t l k (a ∷ args) qs more h = go (new_type bits a.1) h (front_value x t l (k + 1) args qs more)
    where
      go : (c : Option PlainType) → ((a.0 ≡ x) × (a.1 ≡ t)) ⊎ HasValue x t args
          → (HasValue x t args → HasValue x t (new_arguments bits (arg l) (k + 1) args) ⊎ HasValue x t (ops_values (casts_back bits (arg l) (k + 1) args qs) more))
          → HasValue x t (new_argument (arg l k) a c ∷ new_arguments bits (arg l) (k + 1) args) ⊎ HasValue x t (ops_values (cast_back (arg l k) a c (casts_back bits (arg l) (k + 1) args qs)) more)
      go None (inl e) rest = inl (inl e)
      go None (inr e) rest = elim (rest e) [ inl y ↦ inl (inr y) | inr y ↦ inr y ]
      go (Some u) (inl e) rest = inr (inl e)
      go (Some u) (inr e) rest = elim (rest e) [ inl y ↦ inl (inr y) | inr y ↦ inr (inr y) ]

  pub behind_front : (x : ℕ) (t : PlainType) (l k : ℕ) (args : Values) (qs : Ops) (more : Values) → HasValue x t (ops_values qs more) → HasValue x t (ops_values (casts_back bits (arg l) k args qs) more)
  behind_front x t l k [] qs more h = h
  behind_front x t l k (a ∷ args) qs more h = go (new_type bits a.1) (behind_front x t l (k + 1) args qs more h)
    where
      go : (c : Option PlainType) → HasValue x t (ops_values (casts_back bits (arg l) (k + 1) args qs) more) → HasValue x t (ops_values (cast_back (arg l k) a c (casts_back bits (arg l) (k + 1) args qs)) more)
      go None e = e
      go (Some u) e = inr e

  mutual
    ops_stay : (x : ℕ) (t : PlainType) (os : Ops) (more others : Values) → (HasValue x t more → HasValue x t others) → HasValue x t (ops_values os more) → HasValue x t (ops_values (ops_blocks bits arg os) others)
    ops_stay x t end_of_ops more others f h = f h
    ops_stay x t (more_ops (op k rs os r ls) rest) more others f h = elim (value_cases x t rs (regions_values r (ops_values rest more)) h) [
      | inl a ↦ value_left x t rs (regions_values (regions_blocks bits arg r) (ops_values (ops_blocks bits arg rest) others)) a
      | inr a ↦ value_right x t rs (regions_values (regions_blocks bits arg r) (ops_values (ops_blocks bits arg rest) others))
          (regions_stay x t r (ops_values rest more) (ops_values (ops_blocks bits arg rest) others) (ops_stay x t rest more others f) a)
    ]

    pub regions_stay : (x : ℕ) (t : PlainType) (rs : Regions) (more others : Values) → (HasValue x t more → HasValue x t others) → HasValue x t (regions_values rs more) → HasValue x t (regions_values (regions_blocks bits arg rs) others)
    regions_stay x t end_of_regions more others f h = f h
    regions_stay x t (region b r) more others f h = blocks_stay x t true b (regions_values r more) (regions_values (regions_blocks bits arg r) others) (regions_stay x t r more others f) h

    blocks_stay : (x : ℕ) (t : PlainType) (first : Bool) (bs : Blocks) (more others : Values) → (HasValue x t more → HasValue x t others) → HasValue x t (blocks_values bs more) → HasValue x t (blocks_values (blocks_blocks bits arg first bs) others)
    blocks_stay x t first end_of_blocks more others f h = f h
    blocks_stay x t true (block l args ops b) more others f h = elim (value_cases x t args (ops_values ops (blocks_values b more)) h) [
      | inl a ↦ value_left x t args (ops_values (ops_blocks bits arg ops) (blocks_values (blocks_blocks bits arg false b) others)) a
      | inr a ↦ value_right x t args (ops_values (ops_blocks bits arg ops) (blocks_values (blocks_blocks bits arg false b) others))
          (ops_stay x t ops (blocks_values b more) (blocks_values (blocks_blocks bits arg false b) others) (blocks_stay x t false b more others f) a)
    ]
    blocks_stay x t false (block l args ops b) more others f h =
        let behind : Values = blocks_values (blocks_blocks bits arg false b) others in
        elim (value_cases x t args (ops_values ops (blocks_values b more)) h) [
          | inl a ↦ elim (front_value x t l 0 args (ops_blocks bits arg ops) behind a) [
            | inl y ↦ value_left x t (new_arguments bits (arg l) 0 args) (ops_values (casts_back bits (arg l) 0 args (ops_blocks bits arg ops)) behind) y
            | inr y ↦ value_right x t (new_arguments bits (arg l) 0 args) (ops_values (casts_back bits (arg l) 0 args (ops_blocks bits arg ops)) behind) y
          ]
          | inr a ↦ value_right x t (new_arguments bits (arg l) 0 args) (ops_values (casts_back bits (arg l) 0 args (ops_blocks bits arg ops)) behind)
              (behind_front x t l 0 args (ops_blocks bits arg ops) behind (ops_stay x t ops (blocks_values b more) behind (blocks_stay x t false b more others f) a))
        ]

  -- Tests

  front_formed : (l k : ℕ) (args : Values) (qs : Ops) (defined labels : List ℕ) → are_formed_values args ≡ true → ((x : ℕ) (t : PlainType) → HasValue x t (new_arguments bits (arg l) k args) → has x defined ≡ true)
      → are_formed_ops defined labels qs ≡ true → are_formed_ops defined labels (casts_back bits (arg l) k args qs) ≡ true
  front_formed l k [] qs defined labels e inside f = f
  front_formed l k (a ∷ args) qs defined labels e inside f =
      go (new_type bits a.1) inside (λ others. front_formed l (k + 1) args qs defined labels (and_second (is_formed_type a.1) _ e) others f)
    where
      go : (c : Option PlainType) → ((x : ℕ) (t : PlainType) → HasValue x t (new_argument (arg l k) a c ∷ new_arguments bits (arg l) (k + 1) args) → has x defined ≡ true)
          → (((x : ℕ) (t : PlainType) → HasValue x t (new_arguments bits (arg l) (k + 1) args) → has x defined ≡ true) → are_formed_ops defined labels (casts_back bits (arg l) (k + 1) args qs) ≡ true)
          → are_formed_ops defined labels (cast_back (arg l k) a c (casts_back bits (arg l) (k + 1) args qs)) ≡ true
      go None known rest = rest (λ x t h. known x t (inr h))
      go (Some u) known rest =
          and_true (is_formed_op defined labels (cast_op (arg l k) a)) _
          (formed_one defined labels (cast_op (arg l k) a) refl (refl, and_true (is_formed_type a.1) true (and_first (is_formed_type a.1) _ e) refl, refl, refl) (known (arg l k) u (inl (refl, refl)), tt) refl)
          (rest (λ x t h. known x t (inr h)))

  mutual
    ops_formed : (was defined labels : List ℕ) (os : Ops) (more : Values) → ((x : ℕ) → has x was ≡ true → has x defined ≡ true)
        → ((x : ℕ) (t : PlainType) → HasValue x t (ops_values (ops_blocks bits arg os) more) → has x defined ≡ true) → are_formed_ops was labels os ≡ true → are_formed_ops defined labels (ops_blocks bits arg os) ≡ true
    ops_formed was defined labels end_of_ops more kept inside e = refl
    ops_formed was defined labels (more_ops (op k rs os r ls) rest) more kept inside e =
        let here : is_formed_op was labels (op k rs os r ls) ≡ true = and_first (is_formed_op was labels (op k rs os r ls)) _ e in
        let parts = and_second (is_inner_name k.name) _ here in
        let own = and_first (is_formed_here was labels k rs os ls) _ parts in
        let s : Regions = regions_blocks bits arg r in
        let after : Values = ops_values (ops_blocks bits arg rest) more in
        and_true (is_formed_op defined labels (op k rs os s ls)) _
        (and_true (is_inner_name k.name) _ (and_first (is_inner_name k.name) _ here)
        (and_true (is_formed_here defined labels k rs os ls) _
        (and_true (list_all (λ v. has v defined) os) _
        (true_all (λ v. has v defined) os (all_to (λ x. has x was ≡ true) (λ x. has x defined ≡ true) os kept (all_true (λ v. has v was) os (and_first (list_all (λ v. has v was) os) _ own))))
        (and_second (list_all (λ v. has v was) os) _ own))
        (regions_formed was defined r after kept (λ x t h. inside x t (value_right x t rs (regions_values s after) h)) (and_second (is_formed_here was labels k rs os ls) _ parts))))
        (ops_formed was defined labels rest more kept (λ x t h. inside x t (value_right x t rs (regions_values s after) (behind_regions x t s after h))) (and_second (is_formed_op was labels (op k rs os r ls)) _ e))

    regions_formed : (was defined : List ℕ) (rs : Regions) (more : Values) → ((x : ℕ) → has x was ≡ true → has x defined ≡ true)
        → ((x : ℕ) (t : PlainType) → HasValue x t (regions_values (regions_blocks bits arg rs) more) → has x defined ≡ true) → are_formed_regions was rs ≡ true → are_formed_regions defined (regions_blocks bits arg rs) ≡ true
    regions_formed was defined end_of_regions more kept inside e = refl
    regions_formed was defined (region b r) more kept inside e =
        let c : Blocks = blocks_blocks bits arg true b in
        let after : Values = regions_values (regions_blocks bits arg r) more in
        and_true (are_formed_blocks defined (own_labels c) c) _
        (subst (λ ls. are_formed_blocks defined ls c ≡ true) (sym (own_labels_stay true b))
        (blocks_formed was defined (own_labels b) true b after kept inside (and_first (are_formed_blocks was (own_labels b) b) _ e)))
        (regions_formed was defined r more kept (λ x t h. inside x t (behind_blocks x t c after h)) (and_second (are_formed_blocks was (own_labels b) b) _ e))

    blocks_formed : (was defined labels : List ℕ) (first : Bool) (bs : Blocks) (more : Values) → ((x : ℕ) → has x was ≡ true → has x defined ≡ true)
        → ((x : ℕ) (t : PlainType) → HasValue x t (blocks_values (blocks_blocks bits arg first bs) more) → has x defined ≡ true) → are_formed_blocks was labels bs ≡ true → are_formed_blocks defined labels (blocks_blocks bits arg first bs) ≡ true
    blocks_formed was defined labels first end_of_blocks more kept inside e = refl
    blocks_formed was defined labels true (block l args ops b) more kept inside e =
        let parts = and_second (are_formed_values args) _ e in
        let qs : Ops = ops_blocks bits arg ops in
        let after : Values = blocks_values (blocks_blocks bits arg false b) more in
        and_true (are_formed_values args) _ (and_first (are_formed_values args) _ e)
        (and_true (are_formed_ops defined labels qs) _
        (ops_formed was defined labels ops after kept (λ x t h. inside x t (value_right x t args (ops_values qs after) h)) (and_first (are_formed_ops was labels ops) _ parts))
        (blocks_formed was defined labels false b more kept (λ x t h. inside x t (value_right x t args (ops_values qs after) (behind_ops x t qs after h))) (and_second (are_formed_ops was labels ops) _ parts)))
    blocks_formed was defined labels false (block l args ops b) more kept inside e =
        let formed : are_formed_values args ≡ true = and_first (are_formed_values args) _ e in
        let parts = and_second (are_formed_values args) _ e in
        let news : Values = new_arguments bits (arg l) 0 args in
        let qs : Ops = casts_back bits (arg l) 0 args (ops_blocks bits arg ops) in
        let after : Values = blocks_values (blocks_blocks bits arg false b) more in
        and_true (are_formed_values news) _ (args_formed l 0 args formed)
        (and_true (are_formed_ops defined labels qs) _
        (front_formed l 0 args (ops_blocks bits arg ops) defined labels formed (λ x t h. inside x t (value_left x t news (ops_values qs after) h))
        (ops_formed was defined labels ops after kept (λ x t h. inside x t (value_right x t news (ops_values qs after) (behind_front x t l 0 args (ops_blocks bits arg ops) after h))) (and_first (are_formed_ops was labels ops) _ parts)))
        (blocks_formed was defined labels false b more kept (λ x t h. inside x t (value_right x t news (ops_values qs after) (behind_ops x t qs after h))) (and_second (are_formed_ops was labels ops) _ parts)))

  function_formed : (k : Kind) (rs : Values) (os ls : List ℕ) (r : Regions) → DefinesOnce (op k rs os (regions_blocks bits arg r) ls) → is_formed_function (op k rs os r ls) ≡ true → is_formed_function (op k rs os (regions_blocks bits arg r) ls) ≡ true
  function_formed k rs os ls r once e =
      let s : Regions = regions_blocks bits arg r in
      let was : List ℕ = numbers (op_values (op k rs os r ls) []) in
      let defined : List ℕ = numbers (op_values (op k rs os s ls) []) in
      let kept : (x : ℕ) → has x was ≡ true → has x defined ≡ true = λ x h.
      value_among (op_values (op k rs os s ls) []) x (type_in (op_values (op k rs os r ls) []) x)
      (elim (value_cases x (type_in (op_values (op k rs os r ls) []) x) rs (regions_values r []) (type_of_value (op_values (op k rs os r ls) []) x h)) [
        | inl a ↦ value_left x _ rs (regions_values s []) a
        | inr a ↦ value_right x _ rs (regions_values s []) (regions_stay x _ r [] [] (λ z. z) a)
      ]) in
      let p1 = and_second (is_function_name k.name) _ e in
      let p2 = and_second (are_once was) _ p1 in
      let p3 = and_second (are_once (regions_labels r)) _ p2 in
      let own = and_first (is_formed_here was [] k rs os ls) _ p3 in
      and_true (is_function_name k.name) _ (and_first (is_function_name k.name) _ e)
      (and_true (are_once defined) _ (once_defined (op k rs os s ls) once)
      (and_true (are_once (regions_labels s)) _ (ap are_once (regions_labels_stay r) ∙ and_first (are_once (regions_labels r)) _ p2)
      (and_true (is_formed_here defined [] k rs os ls) _
      (and_true (list_all (λ v. has v defined) os) _
      (true_all (λ v. has v defined) os (all_to (λ x. has x was ≡ true) (λ x. has x defined ≡ true) os kept (all_true (λ v. has v was) os (and_first (list_all (λ v. has v was) os) _ own))))
      (and_second (list_all (λ v. has v was) os) _ own))
      (regions_formed was defined r [] kept (λ x t h. value_among (op_values (op k rs os s ls) []) x t (value_right x t rs (regions_values s []) h)) (and_second (is_formed_here was [] k rs os ls) _ p3)))))

pub blocks_keep_formed : BlocksKeepFormed
blocks_keep_formed bits new (op k rs os r ls) width once e = function_formed bits new.argument (width_of bits width) k rs os ls r once e
