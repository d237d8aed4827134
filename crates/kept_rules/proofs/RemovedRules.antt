-- The other rules are kept where operations are left out whose results aren't used.
use Rattle.std.proofs.Common.{◌≡◌, ℕ, ◌+◌, ◌==◌, Bool, true, false, List, [], ◌∷◌, ◌++◌, Option, Some, None, refl, sym, ap, ◌∙◌, subst, map, inl, inr, true≢false}
use Rattle.std.specs.Prelude.{◌||◌, if◌then◌else◌}
use Rattle.std.specs.List.{list_all}
use Rattle.std.specs.Option.{option_map}
use Rattle.plain_tree.specs.Types.{PlainType}
use Rattle.plain_tree.specs.Ops.{Kind, Op, op, Ops, end_of_ops, more_ops, Regions, end_of_regions, region, Blocks, end_of_blocks, block, PlainBlock, Values}
use Rattle.plain_tree.specs.Values.{blocks_values, op_values, ops_values, regions_values, type_in}
use Rattle.rule_model.specs.declared.rules.Rule.TheVariants as rule
use Rattle.rule_model.specs.Words.{block_of, has, is_first, numbers, types}
use Rattle.rule_model.specs.Chains.{blocks_operands, blocks_used, by_way_of, Chain, op_operands, op_used, ops_operands, ops_used, regions_operands, regions_used, uses}
use Rattle.rule_model.specs.Control.{ends_well}
use Rattle.rule_model.specs.Facts.{facts_of, Functions, Head, heads, Holder, is_end, last_in, last_name, regions_heads, Target, target}
use Rattle.rule_model.specs.Formed.{are_formed_blocks, are_formed_ops, are_formed_regions, are_formed_values, are_once, blocks_labels, is_formed_function, is_formed_here, is_formed_op, is_function_name, is_inner_name, op_labels, ops_labels, own_labels, regions_labels}
use Rattle.rule_model.specs.Rules.{keeps}
use Rattle.rule_model.specs.Sites.{holds}
use Rattle.rule_model.proofs.Numbers.{all_of, and_first, and_second, has_of, itself}
use Rattle.conversion_model.specs.Counts.{DefinesOnce}
use Rattle.conversion_model.specs.Conversion.{regions_of}
use Rattle.conversion_model.specs.Uses.{blocks_without, op_without, ops_without, regions_without}
use Rattle.line_rules.specs.Lines.{HasValue}
use Rattle.kept_rules.specs.Casts.{MayLeave, MayLeaveBlocks, MayLeaveOps, MayLeaveRegions}
use Rattle.line_rules.specs.Kept.{KeptBlocks, KeptOp, KeptOps, KeptRegions}
use Rattle.line_rules.proofs.Words.{clash, has_cases, has_left, has_right}
use Rattle.line_rules.proofs.SameTypes.{and_true}
use Rattle.line_rules.proofs.Once.{once_defined, type_of_value, value_among, value_cases, value_left, value_right}
use Rattle.line_rules.proofs.LinedChains.{has_if, if_has}
use Rattle.line_rules.proofs.LinedFormed.{all_true, true_all}
use Rattle.line_rules.proofs.LinedTests.{facts_with}
use Rattle.line_rules.proofs.LinedValues.{bare_value}
use Rattle.kept_rules.proofs.RemovedScopes.{if_either}

-- Own uses: there are only fewer

module _ (test : Op → Bool) where
  mutual
    op_operands_less : (x : ℕ) (o : Op) → has x (op_operands (op_without test o)) ≡ true → has x (op_operands o) ≡ true
    op_operands_less x (op k rs os r ls) h = elim (has_cases x os (regions_operands (regions_without test r)) h) [
      | inl a ↦ has_left x os (regions_operands r) a
      | inr a ↦ has_right x os (regions_operands r) (regions_operands_less x r a)
    ]

    ops_operands_less : (x : ℕ) (os : Ops) → has x (ops_operands (ops_without test os)) ≡ true → has x (ops_operands os) ≡ true
    ops_operands_less x end_of_ops h = h
    ops_operands_less x (more_ops o os) h =
        if_either (λ y. has x (ops_operands y) ≡ true → has x (ops_operands (more_ops o os)) ≡ true) (test o) (ops_without test os) (more_ops (op_without test o) (ops_without test os))
        (λ e g. has_right x (op_operands o) (ops_operands os) (ops_operands_less x os g))
        (λ e g. elim (has_cases x (op_operands (op_without test o)) (ops_operands (ops_without test os)) g) [
          | inl a ↦ has_left x (op_operands o) (ops_operands os) (op_operands_less x o a)
          | inr a ↦ has_right x (op_operands o) (ops_operands os) (ops_operands_less x os a)
        ]) h

    regions_operands_less : (x : ℕ) (rs : Regions) → has x (regions_operands (regions_without test rs)) ≡ true → has x (regions_operands rs) ≡ true
    regions_operands_less x end_of_regions h = h
    regions_operands_less x (region b r) h = elim (has_cases x (blocks_operands (blocks_without test b)) (regions_operands (regions_without test r)) h) [
      | inl a ↦ has_left x (blocks_operands b) (regions_operands r) (blocks_operands_less x b a)
      | inr a ↦ has_right x (blocks_operands b) (regions_operands r) (regions_operands_less x r a)
    ]

    blocks_operands_less : (x : ℕ) (bs : Blocks) → has x (blocks_operands (blocks_without test bs)) ≡ true → has x (blocks_operands bs) ≡ true
    blocks_operands_less x end_of_blocks h = h
    blocks_operands_less x (block l args ops more) h = elim (has_cases x (ops_operands (ops_without test ops)) (blocks_operands (blocks_without test more)) h) [
      | inl a ↦ has_left x (ops_operands ops) (blocks_operands more) (ops_operands_less x ops a)
      | inr a ↦ has_right x (ops_operands ops) (blocks_operands more) (blocks_operands_less x more a)
    ]

  mutual
    pub op_used_less : (v x : ℕ) (o : Op) → has x (op_used v (op_without test o)) ≡ true → has x (op_used v o) ≡ true
    op_used_less v x (op k rs os r ls) h =
        elim (has_cases x (if has v (numbers rs) then os ++ regions_operands (regions_without test r) else []) (regions_used v (regions_without test r)) h) [
          | inl a ↦ let own = if_has v x (has v (numbers rs)) (os ++ regions_operands (regions_without test r)) a in
              has_left x (if has v (numbers rs) then os ++ regions_operands r else []) (regions_used v r) (has_if x (has v (numbers rs)) (os ++ regions_operands r) own.0 (op_operands_less x (op k rs os r ls) own.1))
          | inr a ↦ has_right x (if has v (numbers rs) then os ++ regions_operands r else []) (regions_used v r) (regions_used_less v x r a)
        ]

    ops_used_less : (v x : ℕ) (os : Ops) → has x (ops_used v (ops_without test os)) ≡ true → has x (ops_used v os) ≡ true
    ops_used_less v x end_of_ops h = h
    ops_used_less v x (more_ops o os) h =
        if_either (λ y. has x (ops_used v y) ≡ true → has x (ops_used v (more_ops o os)) ≡ true) (test o) (ops_without test os) (more_ops (op_without test o) (ops_without test os))
        (λ e g. has_right x (op_used v o) (ops_used v os) (ops_used_less v x os g))
        (λ e g. elim (has_cases x (op_used v (op_without test o)) (ops_used v (ops_without test os)) g) [
          | inl a ↦ has_left x (op_used v o) (ops_used v os) (op_used_less v x o a)
          | inr a ↦ has_right x (op_used v o) (ops_used v os) (ops_used_less v x os a)
        ]) h

    regions_used_less : (v x : ℕ) (rs : Regions) → has x (regions_used v (regions_without test rs)) ≡ true → has x (regions_used v rs) ≡ true
    regions_used_less v x end_of_regions h = h
    regions_used_less v x (region b r) h = elim (has_cases x (blocks_used v (blocks_without test b)) (regions_used v (regions_without test r)) h) [
      | inl a ↦ has_left x (blocks_used v b) (regions_used v r) (blocks_used_less v x b a)
      | inr a ↦ has_right x (blocks_used v b) (regions_used v r) (regions_used_less v x r a)
    ]

    blocks_used_less : (v x : ℕ) (bs : Blocks) → has x (blocks_used v (blocks_without test bs)) ≡ true → has x (blocks_used v bs) ≡ true
    blocks_used_less v x end_of_blocks h = h
    blocks_used_less v x (block l args ops more) h = elim (has_cases x (ops_used v (ops_without test ops)) (blocks_used v (blocks_without test more)) h) [
      | inl a ↦ has_left x (ops_used v ops) (blocks_used v more) (ops_used_less v x ops a)
      | inr a ↦ has_right x (ops_used v ops) (blocks_used v more) (blocks_used_less v x more a)
    ]

  chain_less : (f : Op) {v w : ℕ} → Chain (op_without test f) v w → Chain f v w
  chain_less f {v = v} {w = w} (uses h) = uses (op_used_less v w f h)
  chain_less f {v = v} (by_way_of u h c) = by_way_of u (op_used_less v u f h) (chain_less f c)

  pub cut_own : (f : Op) → ((v : ℕ) → Chain f v v → ⊥) → (v : ℕ) → Chain (op_without test f) v v → ⊥
  cut_own f never v c = never v (chain_less f c)

abbrev head_of : List PlainType → Option (List ℕ) → Head
head_of args last = record { args = args; last = last }

-- a block that ends well isn't empty
from_start : (os : Ops) → ends_well (last_in os) ≡ true → ends_well (Some (last_name [] os)) ≡ true
from_start end_of_ops e = absurd (true≢false (sym e))
from_start (more_ops o rest) e = e

abbrev holder_with : Kind → List PlainType → List PlainType → ℕ → Holder
holder_with k operands results n = record { name = k.name; props = k.props; operands = operands; results = results; region = n }

abbrev args_at : Option PlainBlock → Option (List PlainType)
args_at o = option_map (λ (b : PlainBlock). types b.args) o

abbrev target_of : Option (List PlainType) → Bool → Target
target_of args first = record { args = args; first = first }

all_same : (S T : ℕ → PlainType) (os : List ℕ) → ((x : ℕ) → has x os ≡ true → S x ≡ T x) → map S os ≡ map T os
all_same S T [] same = refl
all_same S T (o ∷ os) same =
    ap (λ t. t ∷ map S os) (same o (here o os)) ∙ ap (λ ts. T o ∷ ts) (all_same S T os (λ x h. same x (later (o == x) h)))
  where
    here : (n : ℕ) (ns : List ℕ) → has n (n ∷ ns) ≡ true
    here n ns = ap (λ b. b || has n ns) (itself n)

    later : (a : Bool) {b : Bool} → b ≡ true → (a || b) ≡ true
    later true e = refl
    later false e = e

module _ (test : Op → Bool) (Used : ℕ → Type 0) where
  -- Values that are used stay

  mutual
    ops_kept : (x : ℕ) (t : PlainType) (more others : Values) (os : Ops) → Used x → MayLeaveOps test Used os → (HasValue x t more → HasValue x t others) → HasValue x t (ops_values os more) → HasValue x t (ops_values (ops_without test os) others)
    ops_kept x t more others end_of_ops u m f h = f h
    ops_kept x t more others (more_ops (op k rs os r ls) rest) u m f h =
        if_either (λ y. HasValue x t (ops_values y others)) (test (op k rs os r ls)) (ops_without test rest) (more_ops (op_without test (op k rs os r ls)) (ops_without test rest))
        (λ e. elim (bare_value x t (op k rs os r ls) (ops_values rest more) (m.0 e).bare h) [ inl a ↦ clash (value_among rs x t a) ((m.0 e).unused x u) | inr a ↦ ops_kept x t more others rest u m.2 f a ])
        (λ e. elim (value_cases x t rs (regions_values r (ops_values rest more)) h) [
          | inl a ↦ value_left x t rs (regions_values (regions_without test r) (ops_values (ops_without test rest) others)) a
          | inr a ↦ value_right x t rs (regions_values (regions_without test r) (ops_values (ops_without test rest) others))
              (regions_kept x t (ops_values rest more) (ops_values (ops_without test rest) others) r u m.1.1 (ops_kept x t more others rest u m.2 f) a)
        ])

    pub regions_kept : (x : ℕ) (t : PlainType) (more others : Values) (rs : Regions) → Used x → MayLeaveRegions test Used rs → (HasValue x t more → HasValue x t others) → HasValue x t (regions_values rs more) → HasValue x t (regions_values (regions_without test rs) others)
    regions_kept x t more others end_of_regions u m f h = f h
    regions_kept x t more others (region b r) u m f h = blocks_kept x t (regions_values r more) (regions_values (regions_without test r) others) b u m.0 (regions_kept x t more others r u m.1 f) h

    blocks_kept : (x : ℕ) (t : PlainType) (more others : Values) (bs : Blocks) → Used x → MayLeaveBlocks test Used bs → (HasValue x t more → HasValue x t others) → HasValue x t (blocks_values bs more) → HasValue x t (blocks_values (blocks_without test bs) others)
    blocks_kept x t more others end_of_blocks u m f h = f h
    blocks_kept x t more others (block l args ops b) u m f h = elim (value_cases x t args (ops_values ops (blocks_values b more)) h) [
      | inl a ↦ value_left x t args (ops_values (ops_without test ops) (blocks_values (blocks_without test b) others)) a
      | inr a ↦ value_right x t args (ops_values (ops_without test ops) (blocks_values (blocks_without test b) others))
          (ops_kept x t (blocks_values b more) (blocks_values (blocks_without test b) others) ops u m.0 (blocks_kept x t more others b u m.1 f) a)
    ]

  -- Labels stay

  bare_labels : (o : Op) → regions_of o ≡ end_of_regions → op_labels o ≡ []
  bare_labels (op k rs os r ls) bare = ap regions_labels bare

  mutual
    ops_labels_kept : (os : Ops) → MayLeaveOps test Used os → ops_labels (ops_without test os) ≡ ops_labels os
    ops_labels_kept end_of_ops m = refl
    ops_labels_kept (more_ops (op k rs os r ls) rest) m =
        if_either (λ y. ops_labels y ≡ regions_labels r ++ ops_labels rest) (test (op k rs os r ls)) (ops_without test rest) (more_ops (op_without test (op k rs os r ls)) (ops_without test rest))
        (λ e. ops_labels_kept rest m.2 ∙ ap (λ ns. ns ++ ops_labels rest) (sym (bare_labels (op k rs os r ls) (m.0 e).bare)))
        (λ e. ap (λ ns. ns ++ ops_labels (ops_without test rest)) (regions_labels_kept r m.1.1) ∙ ap (λ ns. regions_labels r ++ ns) (ops_labels_kept rest m.2))

    regions_labels_kept : (rs : Regions) → MayLeaveRegions test Used rs → regions_labels (regions_without test rs) ≡ regions_labels rs
    regions_labels_kept end_of_regions m = refl
    regions_labels_kept (region b r) m = ap (λ ns. ns ++ regions_labels (regions_without test r)) (blocks_labels_kept b m.0) ∙ ap (λ ns. blocks_labels b ++ ns) (regions_labels_kept r m.1)

    blocks_labels_kept : (bs : Blocks) → MayLeaveBlocks test Used bs → blocks_labels (blocks_without test bs) ≡ blocks_labels bs
    blocks_labels_kept end_of_blocks m = refl
    blocks_labels_kept (block l args ops b) m = ap (λ ns. l ∷ (ns ++ blocks_labels (blocks_without test b))) (ops_labels_kept ops m.0) ∙ ap (λ ns. l ∷ (ops_labels ops ++ ns)) (blocks_labels_kept b m.1)

  own_labels_kept : (bs : Blocks) → own_labels (blocks_without test bs) ≡ own_labels bs
  own_labels_kept end_of_blocks = refl
  own_labels_kept (block l args ops b) = ap (λ ns. l ∷ ns) (own_labels_kept b)

  -- The function stays formed

  operands_formed : (was defined os : List ℕ) → ((x : ℕ) → Used x → has x was ≡ true → has x defined ≡ true) → ((x : ℕ) → has x os ≡ true → Used x) → list_all (λ v. has v was) os ≡ true → list_all (λ v. has v defined) os ≡ true
  operands_formed was defined os keep used e =
      true_all (λ v. has v defined) os (all_of (λ x. has x defined ≡ true) os (λ x h. keep x (used x h) (has_of (λ y. has y was ≡ true) x os (all_true (λ v. has v was) os e) h)))

  one_formed : (was defined labels : List ℕ) (k : Kind) (rs : Values) (os ls : List ℕ) (r : Regions) → ((x : ℕ) → Used x → has x was ≡ true → has x defined ≡ true) → ((x : ℕ) → has x os ≡ true → Used x)
      → (are_formed_regions was r ≡ true → are_formed_regions defined (regions_without test r) ≡ true) → is_formed_op was labels (op k rs os r ls) ≡ true → is_formed_op defined labels (op_without test (op k rs os r ls)) ≡ true
  one_formed was defined labels k rs os ls r keep used inner e =
      let parts = and_second (is_inner_name k.name) _ e in
      let own = and_first (is_formed_here was labels k rs os ls) _ parts in
      and_true (is_inner_name k.name) _ (and_first (is_inner_name k.name) _ e)
      (and_true (is_formed_here defined labels k rs os ls) _
      (and_true (list_all (λ v. has v defined) os) _ (operands_formed was defined os keep used (and_first (list_all (λ v. has v was) os) _ own)) (and_second (list_all (λ v. has v was) os) _ own))
      (inner (and_second (is_formed_here was labels k rs os ls) _ parts)))

  mutual
    ops_formed : (was defined labels : List ℕ) (os : Ops) → ((x : ℕ) → Used x → has x was ≡ true → has x defined ≡ true) → MayLeaveOps test Used os → are_formed_ops was labels os ≡ true → are_formed_ops defined labels (ops_without test os) ≡ true
    ops_formed was defined labels end_of_ops keep m e = refl
    ops_formed was defined labels (more_ops (op k rs os r ls) rest) keep m e =
        if_either (λ y. are_formed_ops defined labels y ≡ true) (test (op k rs os r ls)) (ops_without test rest) (more_ops (op_without test (op k rs os r ls)) (ops_without test rest))
        (λ f. ops_formed was defined labels rest keep m.2 (and_second (is_formed_op was labels (op k rs os r ls)) _ e))
        (λ f. and_true (is_formed_op defined labels (op_without test (op k rs os r ls))) _ (one_formed was defined labels k rs os ls r keep m.1.0 (regions_formed was defined r keep m.1.1) (and_first (is_formed_op was labels (op k rs os r ls)) _ e))
        (ops_formed was defined labels rest keep m.2 (and_second (is_formed_op was labels (op k rs os r ls)) _ e)))

    regions_formed : (was defined : List ℕ) (rs : Regions) → ((x : ℕ) → Used x → has x was ≡ true → has x defined ≡ true) → MayLeaveRegions test Used rs → are_formed_regions was rs ≡ true → are_formed_regions defined (regions_without test rs) ≡ true
    regions_formed was defined end_of_regions keep m e = refl
    regions_formed was defined (region b r) keep m e =
        and_true (are_formed_blocks defined (own_labels (blocks_without test b)) (blocks_without test b)) _
        (subst (λ ns. are_formed_blocks defined ns (blocks_without test b) ≡ true) (sym (own_labels_kept b)) (blocks_formed was defined (own_labels b) b keep m.0 (and_first (are_formed_blocks was (own_labels b) b) _ e)))
        (regions_formed was defined r keep m.1 (and_second (are_formed_blocks was (own_labels b) b) _ e))

    blocks_formed : (was defined labels : List ℕ) (bs : Blocks) → ((x : ℕ) → Used x → has x was ≡ true → has x defined ≡ true) → MayLeaveBlocks test Used bs → are_formed_blocks was labels bs ≡ true → are_formed_blocks defined labels (blocks_without test bs) ≡ true
    blocks_formed was defined labels end_of_blocks keep m e = refl
    blocks_formed was defined labels (block l args ops b) keep m e =
        let parts = and_second (are_formed_values args) _ e in
        and_true (are_formed_values args) _ (and_first (are_formed_values args) _ e)
        (and_true (are_formed_ops defined labels (ops_without test ops)) _ (ops_formed was defined labels ops keep m.0 (and_first (are_formed_ops was labels ops) _ parts))
        (blocks_formed was defined labels b keep m.1 (and_second (are_formed_ops was labels ops) _ parts)))

  pub cut_kept : (k : Kind) (rs : Values) (os ls : List ℕ) (r : Regions) (x : ℕ) (t : PlainType) → Used x → MayLeave test Used (op k rs os r ls) → HasValue x t (op_values (op k rs os r ls) []) → HasValue x t (op_values (op_without test (op k rs os r ls)) [])
  cut_kept k rs os ls r x t u m h = elim (value_cases x t rs (regions_values r []) h) [
    | inl a ↦ value_left x t rs (regions_values (regions_without test r) []) a
    | inr a ↦ value_right x t rs (regions_values (regions_without test r) []) (regions_kept x t [] [] r u m.1 (λ z. z) a)
  ]

  pub cut_formed : (k : Kind) (rs : Values) (os ls : List ℕ) (r : Regions) → MayLeave test Used (op k rs os r ls) → DefinesOnce (op_without test (op k rs os r ls)) → is_formed_function (op k rs os r ls) ≡ true → is_formed_function (op_without test (op k rs os r ls)) ≡ true
  cut_formed k rs os ls r m once e =
      let was : List ℕ = numbers (op_values (op k rs os r ls) []) in
      let defined : List ℕ = numbers (op_values (op_without test (op k rs os r ls)) []) in
      let keep : (x : ℕ) → Used x → has x was ≡ true → has x defined ≡ true = λ x u h.
      value_among (op_values (op_without test (op k rs os r ls)) []) x (type_in (op_values (op k rs os r ls) []) x) (cut_kept k rs os ls r x (type_in (op_values (op k rs os r ls) []) x) u m (type_of_value (op_values (op k rs os r ls) []) x h)) in
      let p1 = and_second (is_function_name k.name) _ e in
      let p2 = and_second (are_once was) _ p1 in
      let p3 = and_second (are_once (regions_labels r)) _ p2 in
      let own = and_first (is_formed_here was [] k rs os ls) _ p3 in
      and_true (is_function_name k.name) _ (and_first (is_function_name k.name) _ e)
      (and_true (are_once defined) _ (once_defined (op_without test (op k rs os r ls)) once)
      (and_true (are_once (regions_labels (regions_without test r))) _ (ap are_once (regions_labels_kept r m.1) ∙ and_first (are_once (regions_labels r)) _ p2)
      (and_true (is_formed_here defined [] k rs os ls) _
      (and_true (list_all (λ v. has v defined) os) _ (operands_formed was defined os keep m.0 (and_first (list_all (λ v. has v was) os) _ own)) (and_second (list_all (λ v. has v was) os) _ own))
      (regions_formed was defined r keep m.1 (and_second (is_formed_here was [] k rs os ls) _ p3)))))

  -- The tests

  -- the last operation of a block stays
  last_kept : (before after : List ℕ) (os : Ops) → MayLeaveOps test Used os → (ends_well (Some before) ≡ true → before ≡ after) → ends_well (Some (last_name before os)) ≡ true → last_name after (ops_without test os) ≡ last_name before os
  last_kept before after end_of_ops m same e = sym (same e)
  last_kept before after (more_ops (op k rs os r ls) rest) m same e =
      if_either (λ y. last_name after y ≡ last_name k.name rest) (test (op k rs os r ls)) (ops_without test rest) (more_ops (op_without test (op k rs os r ls)) (ops_without test rest))
      (λ f. last_kept k.name after rest m.2 (λ g. clash g (m.0 f).not_last) e)
      (λ f. last_kept k.name k.name rest m.2 (λ g. refl) e)

  ended_kept : (before : List ℕ) (os : Ops) → MayLeaveOps test Used os → ends_well (Some (last_name before os)) ≡ true → is_end (ops_without test os) ≡ is_end os
  ended_kept before end_of_ops m e = refl
  ended_kept before (more_ops (op k rs os r ls) rest) m e =
      if_either (λ y. is_end y ≡ false) (test (op k rs os r ls)) (ops_without test rest) (more_ops (op_without test (op k rs os r ls)) (ops_without test rest))
      (λ f. go rest (ended_kept k.name rest m.2 e) e (m.0 f).not_last)
      (λ f. refl)
    where
      go : (xs : Ops) → is_end (ops_without test xs) ≡ is_end xs → ends_well (Some (last_name k.name xs)) ≡ true → ends_well (Some k.name) ≡ false → is_end (ops_without test xs) ≡ false
      go end_of_ops a b c = clash b c
      go (more_ops o xs) a b c = a

  block_end : (os : Ops) → MayLeaveOps test Used os → ends_well (last_in os) ≡ true → last_in (ops_without test os) ≡ last_in os
  block_end end_of_ops m e = refl
  block_end (more_ops (op k rs os r ls) rest) m e =
      if_either (λ y. last_in y ≡ Some (last_name k.name rest)) (test (op k rs os r ls)) (ops_without test rest) (more_ops (op_without test (op k rs os r ls)) (ops_without test rest))
      (λ f. go (ops_without test rest) (last_kept k.name k.name rest m.2 (λ g. refl) e) e (m.0 f).not_last)
      (λ f. ap Some (last_kept k.name k.name rest m.2 (λ g. refl) e))
    where
      go : (y : Ops) → last_name k.name y ≡ last_name k.name rest → ends_well (Some (last_name k.name rest)) ≡ true → ends_well (Some k.name) ≡ false → last_in y ≡ Some (last_name k.name rest)
      go end_of_ops a b c = clash b (ap (λ n. ends_well (Some n)) (sym a) ∙ c)
      go (more_ops o xs) a b c = ap Some a

  heads_kept : (bs : Blocks) → MayLeaveBlocks test Used bs → list_all (λ (h : Head). ends_well h.last) (heads bs) ≡ true → heads (blocks_without test bs) ≡ heads bs
  heads_kept end_of_blocks m e = refl
  heads_kept (block l args ops more) m e =
      ap (λ x. head_of (types args) x ∷ heads (blocks_without test more)) (block_end ops m.0 (and_first (ends_well (last_in ops)) _ e)) ∙ ap (λ xs. head_of (types args) (last_in ops) ∷ xs) (heads_kept more m.1 (and_second (ends_well (last_in ops)) _ e))

  regions_heads_kept : (rs : Regions) → MayLeaveRegions test Used rs → list_all (λ hs. list_all (λ (h : Head). ends_well h.last) hs) (regions_heads rs) ≡ true → regions_heads (regions_without test rs) ≡ regions_heads rs
  regions_heads_kept end_of_regions m e = refl
  regions_heads_kept (region b r) m e =
      ap (λ x. x ∷ regions_heads (regions_without test r)) (heads_kept b m.0 (and_first (list_all (λ (h : Head). ends_well h.last) (heads b)) _ e))
      ∙ ap (λ xs. heads b ∷ xs) (regions_heads_kept r m.1 (and_second (list_all (λ (h : Head). ends_well h.last) (heads b)) _ e))

  args_kept : (l : ℕ) (bs : Blocks) → args_at (block_of l (blocks_without test bs)) ≡ args_at (block_of l bs)
  args_kept l end_of_blocks = refl
  args_kept l (block m args ops more) = go (m == l) (args_kept l more)
    where
      go : (x : Bool) → args_at (block_of l (blocks_without test more)) ≡ args_at (block_of l more)
          → args_at (if x then Some (record { label = m; args = args; ops = ops_without test ops }) else block_of l (blocks_without test more)) ≡ args_at (if x then Some (record { label = m; args = args; ops = ops }) else block_of l more)
      go true e = refl
      go false e = e

  first_kept : (l : ℕ) (bs : Blocks) → is_first l (blocks_without test bs) ≡ is_first l bs
  first_kept l end_of_blocks = refl
  first_kept l (block m args ops more) = refl

  targets_kept : (bs : Blocks) (ls : List ℕ) → map (target (blocks_without test bs)) ls ≡ map (target bs) ls
  targets_kept bs [] = refl
  targets_kept bs (l ∷ ls) =
      ap (λ x. target_of x (is_first l (blocks_without test bs)) ∷ map (target (blocks_without test bs)) ls) (args_kept l bs)
      ∙ ap (λ x. target_of (args_at (block_of l bs)) x ∷ map (target (blocks_without test bs)) ls) (first_kept l bs) ∙ ap (λ ts. target bs l ∷ ts) (targets_kept bs ls)

  module _ (S T : ℕ → PlainType) (same : (x : ℕ) → Used x → S x ≡ T x) where
    facts_cut : (h : Option Holder) (bs : Blocks) (rest more : Ops) (k : Kind) (rs : Values) (os ls : List ℕ) (r s : Regions) → ((x : ℕ) → has x os ≡ true → Used x) → regions_heads s ≡ regions_heads r → is_end more ≡ is_end rest
        → facts_of S h (blocks_without test bs) more (op k rs os s ls) ≡ facts_of T h bs rest (op k rs os r ls)
    facts_cut h bs rest more k rs os ls r s used heads_same end =
        ap (λ x. facts_with k x (types rs) (map (target (blocks_without test bs)) ls) (regions_heads s) h (is_end more)) (all_same S T os (λ x a. same x (used x a)))
        ∙ ap (λ x. facts_with k (map T os) (types rs) x (regions_heads s) h (is_end more)) (targets_kept bs ls)
        ∙ ap (λ x. facts_with k (map T os) (types rs) (map (target bs) ls) x h (is_end more)) heads_same
        ∙ ap (λ x. facts_with k (map T os) (types rs) (map (target bs) ls) (regions_heads r) h x) end

    mutual
      ops_tests : (c : Functions) (h : Option Holder) (bs : Blocks) (before : List ℕ) (os : Ops) → MayLeaveOps test Used os → ends_well (Some (last_name before os)) ≡ true → KeptOps c T h bs os → KeptOps c S h (blocks_without test bs) (ops_without test os)
      ops_tests c h bs before end_of_ops m e kept = tt
      ops_tests c h bs before (more_ops (op k rs os r ls) rest) m e kept =
          if_either (λ y. KeptOps c S h (blocks_without test bs) y) (test (op k rs os r ls)) (ops_without test rest) (more_ops (op_without test (op k rs os r ls)) (ops_without test rest))
          (λ f. ops_tests c h bs k.name rest m.2 e kept.1)
          (λ f. (
            (
              λ q. subst (λ x. keeps c x q ≡ true) (sym (facts_cut h bs rest (ops_without test rest) k rs os ls r (regions_without test r) m.1.0 (regions_heads_kept r m.1.1 (and_first _ _ (kept.0.0 rule.Terminator))) (ended_kept k.name rest m.2 e))) (kept.0.0 q),
              regions_tests c (holds T (op k rs os r ls)) (holds S (op_without test (op k rs os r ls))) 0 r (λ i. ap (λ x. holder_with k x (types rs) i) (all_same S T os (λ x a. same x (m.1.0 x a)))) m.1.1 (and_first _ _ (kept.0.0 rule.Terminator)) kept.0.1,
            ),
            ops_tests c h bs k.name rest m.2 e kept.1,
          ))

      regions_tests : (c : Functions) (hold other : ℕ → Holder) (n : ℕ) (rs : Regions) → ((i : ℕ) → other i ≡ hold i) → MayLeaveRegions test Used rs → list_all (λ hs. list_all (λ (h : Head). ends_well h.last) hs) (regions_heads rs) ≡ true → KeptRegions c T hold n rs
          → KeptRegions c S other n (regions_without test rs)
      regions_tests c hold other n end_of_regions e m w kept = tt
      regions_tests c hold other n (region b r) e m w kept = (
        subst (λ x. KeptBlocks c S (Some x) (blocks_without test b) (blocks_without test b)) (sym (e n)) (blocks_tests c (Some (hold n)) b b m.0 (and_first (list_all (λ (h : Head). ends_well h.last) (heads b)) _ w) kept.0),
        regions_tests c hold other (n + 1) r e m.1 (and_second (list_all (λ (h : Head). ends_well h.last) (heads b)) _ w) kept.1,
      )

      blocks_tests : (c : Functions) (h : Option Holder) (bs cs : Blocks) → MayLeaveBlocks test Used cs → list_all (λ (d : Head). ends_well d.last) (heads cs) ≡ true → KeptBlocks c T h bs cs → KeptBlocks c S h (blocks_without test bs) (blocks_without test cs)
      blocks_tests c h bs end_of_blocks m w kept = tt
      blocks_tests c h bs (block l args ops more) m w kept = (ops_tests c h bs [] ops m.0 (from_start ops (and_first (ends_well (last_in ops)) _ w)) kept.0, blocks_tests c h bs more m.1 (and_second (ends_well (last_in ops)) _ w) kept.1)

    pub cut_tests : (c : Functions) (k : Kind) (rs : Values) (os ls : List ℕ) (r : Regions) → MayLeave test Used (op k rs os r ls) → KeptOp c T None end_of_blocks end_of_ops (op k rs os r ls) → KeptOp c S None end_of_blocks end_of_ops (op_without test (op k rs os r ls))
    cut_tests c k rs os ls r m kept = (
      λ q. subst (λ x. keeps c x q ≡ true) (sym (facts_cut None end_of_blocks end_of_ops end_of_ops k rs os ls r (regions_without test r) m.0 (regions_heads_kept r m.1 (and_first _ _ (kept.0 rule.Terminator))) refl)) (kept.0 q),
      regions_tests c (holds T (op k rs os r ls)) (holds S (op_without test (op k rs os r ls))) 0 r (λ i. ap (λ x. holder_with k x (types rs) i) (all_same S T os (λ x a. same x (m.0 x a)))) m.1 (and_first _ _ (kept.0 rule.Terminator)) kept.1,
    )
