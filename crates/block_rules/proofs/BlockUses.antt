-- Rule `OwnUse` is kept where the arguments of blocks get their converted types.
use Rattle.std.proofs.Common.{◌≡◌, ℕ, ◌+◌, ◌==◌, Bool, true, false, List, [], ◌∷◌, ◌++◌, Option, Some, None, sym, ap, ◌∙◌, inl, inr, true≢false}
use Rattle.std.specs.Prelude.{◌⊎◌, if◌then◌else◌}
use Rattle.std.proofs.lemmas.Bool.{eqb-true}
use Rattle.plain_tree.specs.Types.{PlainType}
use Rattle.plain_tree.specs.Ops.{Kind, Op, op, Ops, end_of_ops, more_ops, Regions, end_of_regions, region, Blocks, end_of_blocks, block, Values}
use Rattle.rule_model.specs.Words.{has, numbers}
use Rattle.rule_model.specs.Chains.{blocks_operands, blocks_used, by_way_of, Chain, op_used, ops_operands, ops_used, regions_operands, regions_used, uses}
use Rattle.rule_model.proofs.Numbers.{has_of, itself as self_equal}
use Rattle.conversion_model.specs.Types.{new_type}
use Rattle.conversion_model.specs.Conversion.{blocks_blocks, cast_back, cast_op, casts_back, op_blocks, ops_blocks, regions_blocks, Supply}
use Rattle.conversion_model.specs.Fresh.{EachBlock, EachOp, EachOps, EachRegion, EachValue, IsOld, IsOldLabel, of_block}
use Rattle.block_rules.specs.Promises.{BlocksKeepDefined, BlocksKeepOwn}
use Rattle.line_rules.proofs.Words.{has_cases, has_left, has_right, or_cases}
use Rattle.line_rules.proofs.LinedChains.{each_result, has_if, if_has}
use Rattle.block_rules.proofs.BlockScopes.{function_blocks}

module _ (bits : ℕ) (arg : ℕ → ℕ → ℕ) (Old OldLabel : ℕ → Type 0) (fresh : (x l k : ℕ) → Old x → x ≡ arg l k → ⊥) where
  -- a new argument
  pub record New (x : ℕ) : Type 0 where
    pub label : ℕ
    pub place : ℕ
    pub is : x ≡ arg label place

  -- an old use, or a new argument
  abbrev Or : ℕ → List ℕ → Type 0
  Or x xs = (has x xs ≡ true) ⊎ New x

  or_to : (x : ℕ) (xs ys : List ℕ) → (has x xs ≡ true → has x ys ≡ true) → Or x xs → Or x ys
  or_to x xs ys f (inl h) = inl (f h)
  or_to x xs ys f (inr n) = inr n

  front_operands : (x l k : ℕ) (args : Values) (qs : Ops) → has x (ops_operands (casts_back bits (arg l) k args qs)) ≡ true → Or x (ops_operands qs)
  front_operands x l k [] qs h = inl h
  front_operands x l k (a ∷ args) qs h = go (new_type bits a.1) h (front_operands x l (k + 1) args qs)
    where
      go : (c : Option PlainType) → has x (ops_operands (cast_back (arg l k) a c (casts_back bits (arg l) (k + 1) args qs))) ≡ true → (has x (ops_operands (casts_back bits (arg l) (k + 1) args qs)) ≡ true → Or x (ops_operands qs)) → Or x (ops_operands qs)
      go None f rest = rest f
      go (Some t) f rest = elim (or_cases (arg l k == x) _ f) [ inl e ↦ inr (record { label = l; place = k; is = sym (eqb-true (arg l k) x e) }) | inr e ↦ rest e ]

  mutual
    ops_new : (x : ℕ) (os : Ops) → has x (ops_operands (ops_blocks bits arg os)) ≡ true → Or x (ops_operands os)
    ops_new x end_of_ops h = inl h
    ops_new x (more_ops (op k rs os r ls) rest) h = elim (has_cases x (os ++ regions_operands (regions_blocks bits arg r)) (ops_operands (ops_blocks bits arg rest)) h) [
      | inl a ↦ elim (has_cases x os (regions_operands (regions_blocks bits arg r)) a) [
        | inl b ↦ inl (has_left x (os ++ regions_operands r) (ops_operands rest) (has_left x os (regions_operands r) b))
        | inr b ↦ or_to x (regions_operands r) ((os ++ regions_operands r) ++ ops_operands rest) (λ c. has_left x (os ++ regions_operands r) (ops_operands rest) (has_right x os (regions_operands r) c)) (regions_new x r b)
      ]
      | inr a ↦ or_to x (ops_operands rest) ((os ++ regions_operands r) ++ ops_operands rest) (λ c. has_right x (os ++ regions_operands r) (ops_operands rest) c) (ops_new x rest a)
    ]

    regions_new : (x : ℕ) (rs : Regions) → has x (regions_operands (regions_blocks bits arg rs)) ≡ true → Or x (regions_operands rs)
    regions_new x end_of_regions h = inl h
    regions_new x (region b r) h = elim (has_cases x (blocks_operands (blocks_blocks bits arg true b)) (regions_operands (regions_blocks bits arg r)) h) [
      | inl a ↦ or_to x (blocks_operands b) (blocks_operands b ++ regions_operands r) (λ c. has_left x (blocks_operands b) (regions_operands r) c) (blocks_new x true b a)
      | inr a ↦ or_to x (regions_operands r) (blocks_operands b ++ regions_operands r) (λ c. has_right x (blocks_operands b) (regions_operands r) c) (regions_new x r a)
    ]

    blocks_new : (x : ℕ) (first : Bool) (bs : Blocks) → has x (blocks_operands (blocks_blocks bits arg first bs)) ≡ true → Or x (blocks_operands bs)
    blocks_new x first end_of_blocks h = inl h
    blocks_new x true (block l args ops b) h = elim (has_cases x (ops_operands (ops_blocks bits arg ops)) (blocks_operands (blocks_blocks bits arg false b)) h) [
      | inl a ↦ or_to x (ops_operands ops) (ops_operands ops ++ blocks_operands b) (λ c. has_left x (ops_operands ops) (blocks_operands b) c) (ops_new x ops a)
      | inr a ↦ or_to x (blocks_operands b) (ops_operands ops ++ blocks_operands b) (λ c. has_right x (ops_operands ops) (blocks_operands b) c) (blocks_new x false b a)
    ]
    blocks_new x false (block l args ops b) h = elim (has_cases x (ops_operands (casts_back bits (arg l) 0 args (ops_blocks bits arg ops))) (blocks_operands (blocks_blocks bits arg false b)) h) [
      | inl a ↦ elim (front_operands x l 0 args (ops_blocks bits arg ops) a) [
        | inl d ↦ or_to x (ops_operands ops) (ops_operands ops ++ blocks_operands b) (λ c. has_left x (ops_operands ops) (blocks_operands b) c) (ops_new x ops d)
        | inr d ↦ inr d
      ]
      | inr a ↦ or_to x (blocks_operands b) (ops_operands ops ++ blocks_operands b) (λ c. has_right x (ops_operands ops) (blocks_operands b) c) (blocks_new x false b a)
    ]

  -- what a value uses: it is old, and it used that before, or it uses a new argument

  record Use (v x : ℕ) (was : List ℕ) : Type 0 where
    old : Old v
    used : Or x was

  use_to : (v x : ℕ) (xs ys : List ℕ) → (has x xs ≡ true → has x ys ≡ true) → Use v x xs → Use v x ys
  use_to v x xs ys f u = record { old = u.old; used = or_to x xs ys f u.used }

  front_used : (v x l k : ℕ) (args : Values) (qs : Ops) → EachValue Old args → has x (ops_used v (casts_back bits (arg l) k args qs)) ≡ true → (Old v × New x) ⊎ (has x (ops_used v qs) ≡ true)
  front_used v x l k [] qs each h = inr h
  front_used v x l k (a ∷ args) qs each h = go (new_type bits a.1) h (front_used v x l (k + 1) args qs each.1)
    where
      go : (c : Option PlainType) → has x (ops_used v (cast_back (arg l k) a c (casts_back bits (arg l) (k + 1) args qs))) ≡ true
          → (has x (ops_used v (casts_back bits (arg l) (k + 1) args qs)) ≡ true → (Old v × New x) ⊎ (has x (ops_used v qs) ≡ true)) → (Old v × New x) ⊎ (has x (ops_used v qs) ≡ true)
      go None f rest = rest f
      go (Some t) f rest = elim (has_cases x (op_used v (cast_op (arg l k) a)) (ops_used v (casts_back bits (arg l) (k + 1) args qs)) f) [
        | inl e ↦ elim (has_cases x (if has v (a.0 ∷ []) then arg l k ∷ [] else []) [] e) [
          | inl y ↦ let own = if_has v x (has v (a.0 ∷ [])) (arg l k ∷ []) y in
              inl (has_of Old v (a.0 ∷ []) (each.0, tt) own.0, record { label = l; place = k; is = one_only (arg l k) x own.1 })
          | inr y ↦ absurd (true≢false (sym y))
        ]
        | inr e ↦ rest e
      ]
        where
          one_only : (n y : ℕ) → has y (n ∷ []) ≡ true → y ≡ n
          one_only n y f2 = elim (or_cases (n == y) false f2) [ inl e ↦ sym (eqb-true n y e) | inr e ↦ absurd (true≢false (sym e)) ]

  op_use : (v x : ℕ) (k : Kind) (rs : Values) (os ls : List ℕ) (r : Regions) → EachValue Old rs → (has x (regions_used v (regions_blocks bits arg r)) ≡ true → Use v x (regions_used v r))
      → has x (op_used v (op_blocks bits arg (op k rs os r ls))) ≡ true → Use v x (op_used v (op k rs os r ls))
  op_use v x k rs os ls r each inner h = elim (has_cases x (if has v (numbers rs) then os ++ regions_operands (regions_blocks bits arg r) else []) (regions_used v (regions_blocks bits arg r)) h) [
    | inl a ↦
        let own = if_has v x (has v (numbers rs)) (os ++ regions_operands (regions_blocks bits arg r)) a in
        let into : has x (os ++ regions_operands r) ≡ true → has x (op_used v (op k rs os r ls)) ≡ true = λ c.
        has_left x (if has v (numbers rs) then os ++ regions_operands r else []) (regions_used v r) (has_if x (has v (numbers rs)) (os ++ regions_operands r) own.0 c) in
        record {
          old = has_of Old v (numbers rs) (each_result Old rs each) own.0;
          used = elim (has_cases x os (regions_operands (regions_blocks bits arg r)) own.1) [
            | inl b ↦ inl (into (has_left x os (regions_operands r) b))
            | inr b ↦ or_to x (regions_operands r) (op_used v (op k rs os r ls)) (λ c. into (has_right x os (regions_operands r) c)) (regions_new x r b)
          ];
        }
    | inr a ↦ use_to v x (regions_used v r) (op_used v (op k rs os r ls)) (λ c. has_right x (if has v (numbers rs) then os ++ regions_operands r else []) (regions_used v r) c) (inner a)
  ]

  mutual
    ops_use : (v x : ℕ) (os : Ops) → EachOps Old OldLabel os → has x (ops_used v (ops_blocks bits arg os)) ≡ true → Use v x (ops_used v os)
    ops_use v x end_of_ops each h = absurd (true≢false (sym h))
    ops_use v x (more_ops (op k rs os r ls) rest) each h = elim (has_cases x (op_used v (op_blocks bits arg (op k rs os r ls))) (ops_used v (ops_blocks bits arg rest)) h) [
      | inl a ↦ use_to v x (op_used v (op k rs os r ls)) (op_used v (op k rs os r ls) ++ ops_used v rest) (λ c. has_left x (op_used v (op k rs os r ls)) (ops_used v rest) c) (op_use v x k rs os ls r each.0.0 (regions_use v x r each.0.2) a)
      | inr a ↦ use_to v x (ops_used v rest) (op_used v (op k rs os r ls) ++ ops_used v rest) (λ c. has_right x (op_used v (op k rs os r ls)) (ops_used v rest) c) (ops_use v x rest each.1 a)
    ]

    regions_use : (v x : ℕ) (rs : Regions) → EachRegion Old OldLabel rs → has x (regions_used v (regions_blocks bits arg rs)) ≡ true → Use v x (regions_used v rs)
    regions_use v x end_of_regions each h = absurd (true≢false (sym h))
    regions_use v x (region b r) each h = elim (has_cases x (blocks_used v (blocks_blocks bits arg true b)) (regions_used v (regions_blocks bits arg r)) h) [
      | inl a ↦ use_to v x (blocks_used v b) (blocks_used v b ++ regions_used v r) (λ c. has_left x (blocks_used v b) (regions_used v r) c) (blocks_use v x true b each.0 a)
      | inr a ↦ use_to v x (regions_used v r) (blocks_used v b ++ regions_used v r) (λ c. has_right x (blocks_used v b) (regions_used v r) c) (regions_use v x r each.1 a)
    ]

    blocks_use : (v x : ℕ) (first : Bool) (bs : Blocks) → EachBlock Old OldLabel bs → has x (blocks_used v (blocks_blocks bits arg first bs)) ≡ true → Use v x (blocks_used v bs)
    blocks_use v x first end_of_blocks each h = absurd (true≢false (sym h))
    blocks_use v x true (block l args ops b) each h = elim (has_cases x (ops_used v (ops_blocks bits arg ops)) (blocks_used v (blocks_blocks bits arg false b)) h) [
      | inl a ↦ use_to v x (ops_used v ops) (ops_used v ops ++ blocks_used v b) (λ c. has_left x (ops_used v ops) (blocks_used v b) c) (ops_use v x ops each.2 a)
      | inr a ↦ use_to v x (blocks_used v b) (ops_used v ops ++ blocks_used v b) (λ c. has_right x (ops_used v ops) (blocks_used v b) c) (blocks_use v x false b each.3 a)
    ]
    blocks_use v x false (block l args ops b) each h = elim (has_cases x (ops_used v (casts_back bits (arg l) 0 args (ops_blocks bits arg ops))) (blocks_used v (blocks_blocks bits arg false b)) h) [
      | inl a ↦ elim (front_used v x l 0 args (ops_blocks bits arg ops) each.1 a) [
        | inl d ↦ record { old = d.0; used = inr d.1 }
        | inr d ↦ use_to v x (ops_used v ops) (ops_used v ops ++ blocks_used v b) (λ c. has_left x (ops_used v ops) (blocks_used v b) c) (ops_use v x ops each.2 d)
      ]
      | inr a ↦ use_to v x (blocks_used v b) (ops_used v ops ++ blocks_used v b) (λ c. has_right x (ops_used v ops) (blocks_used v b) c) (blocks_use v x false b each.3 a)
    ]

  -- Chains

  edge : (f : Op) (v x : ℕ) → EachOp Old OldLabel f → has x (op_used v (op_blocks bits arg f)) ≡ true → Use v x (op_used v f)
  edge (op k rs os r ls) v x each h = op_use v x k rs os ls r each.0 (regions_use v x r each.2) h

  starts_old : (f : Op) (v w : ℕ) → EachOp Old OldLabel f → Chain (op_blocks bits arg f) v w → Old v
  starts_old f v w each (uses h) = (edge f v w each h).old
  starts_old f v w each (by_way_of u h c) = (edge f v u each h).old

  chain_was : (f : Op) {v w : ℕ} → EachOp Old OldLabel f → Chain (op_blocks bits arg f) v w → Chain f v w ⊎ New w
  chain_was f {v = v} {w = w} each (uses h) = elim (edge f v w each h).used [ inl a ↦ inl (uses a) | inr n ↦ inr n ]
  chain_was f {v = v} {w = w} each (by_way_of u h c) = elim (edge f v u each h).used [
    | inl a ↦ elim (chain_was f each c) [ inl d ↦ inl (by_way_of u a d) | inr n ↦ inr n ]
    | inr n ↦ absurd (fresh u n.label n.place (starts_old f u w each c) n.is)
  ]

  pub blocks_own : (f : Op) → EachOp Old OldLabel f → ((v : ℕ) → Chain f v v → ⊥) → (v : ℕ) → Chain (op_blocks bits arg f) v v → ⊥
  blocks_own f each never v c = elim (chain_was f each c) [ inl d ↦ never v d | inr n ↦ fresh v n.label n.place (starts_old f v v each c) n.is ]

-- With a supply of fresh numbers

argument_apart : (new : Supply) (x l k : ℕ) → IsOld new x → x ≡ new.argument l k → ⊥
argument_apart new x l k old e = true≢false (sym (ap (λ y. x == y) (sym e) ∙ self_equal x) ∙ old (of_block l k))

pub blocks_keep_defined : BlocksKeepDefined
blocks_keep_defined bits new (op k rs os r ls) fresh d = function_blocks bits new.argument (IsOld new) (IsOldLabel new) (argument_apart new) k rs os ls r fresh.apart d

pub blocks_keep_own : BlocksKeepOwn
blocks_keep_own bits new f fresh never = blocks_own bits new.argument (IsOld new) (IsOldLabel new) (argument_apart new) f fresh.apart never
