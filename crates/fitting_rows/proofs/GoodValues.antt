-- The values of a verified function have value types that are formed.
use Rattle.std.proofs.Common.{◌≡◌, ℕ, ◌+◌, Bool, true, List, [], ◌∷◌, Option, Some, None, subst, inl, inr}
use Rattle.std.specs.Prelude.{◌⊎◌}
use Rattle.std.specs.List.{list_all}
use Rattle.plain_tree.specs.Types.{PlainType}
use Rattle.plain_tree.specs.ValueTypes.{is_value}
use Rattle.plain_tree.specs.Ops.{Kind, Op, op, Ops, end_of_ops, more_ops, Regions, end_of_regions, region, Blocks, end_of_blocks, block, Values}
use Rattle.plain_tree.specs.Values.{blocks_values, op_values, ops_values, regions_values}
use Rattle.rule_model.specs.declared.rules.Rule.TheVariants as rule
use Rattle.rule_model.specs.Words.{types}
use Rattle.rule_model.specs.Facts.{facts_of, Functions, Head, heads, Holder, regions_heads}
use Rattle.rule_model.specs.Rules.{keeps}
use Rattle.rule_model.specs.Sites.{holds}
use Rattle.rule_model.specs.Formed.{are_formed_blocks, are_formed_ops, are_formed_regions, are_formed_values, is_formed_here, is_formed_op, is_formed_type, is_inner_name, own_labels}
use Rattle.rule_model.proofs.Numbers.{and_first, and_second}
use Rattle.line_rules.specs.Lines.{HasValue}
use Rattle.line_rules.specs.Kept.{KeptBlocks, KeptOp, KeptOps, KeptRegions}
use Rattle.line_rules.proofs.Once.{value_cases}
use Rattle.fitting_rows.proofs.SourceFits.{GoodType}

good_values : (x : ℕ) (t : PlainType) (vs : Values) → list_all is_value (types vs) ≡ true → are_formed_values vs ≡ true → HasValue x t vs → GoodType t
good_values x t [] v f h = absurd h
good_values x t (w ∷ vs) v f (inl h) = subst GoodType h.1 (and_first (is_value w.1) _ v, and_first (is_formed_type w.1) _ f)
good_values x t (w ∷ vs) v f (inr h) = good_values x t vs (and_second (is_value w.1) _ v) (and_second (is_formed_type w.1) _ f) h

abbrev pub values_in : List (List Head) → Bool
values_in rs = list_all (λ hs. list_all (λ (h : Head). list_all is_value h.args) hs) rs

mutual
  op_good : (c : Functions) (T : ℕ → PlainType) (h : Option Holder) (bs : Blocks) (rest : Ops) (was labels : List ℕ) (x : ℕ) (t : PlainType) (o : Op) (more : Values) → KeptOp c T h bs rest o → is_formed_op was labels o ≡ true → HasValue x t (op_values o more)
      → GoodType t ⊎ HasValue x t more
  op_good c T h bs rest was labels x t (op k rs os r ls) more kept e v =
      let value : keeps c (facts_of T h bs rest (op k rs os r ls)) rule.ValueType ≡ true = kept.0 rule.ValueType in
      let parts = and_second (is_inner_name k.name) _ e in
      let own = and_first (is_formed_here was labels k rs os ls) _ parts in
      elim (value_cases x t rs (regions_values r more) v) [
        | inl a ↦ inl (good_values x t rs (and_first (list_all is_value (types rs)) _ value) (and_first (are_formed_values rs) _ (and_second _ _ (and_second _ _ own))) a)
        | inr a ↦ regions_good c T (holds T (op k rs os r ls)) 0 was x t r more (and_second (list_all is_value (types rs)) _ value) kept.1 (and_second (is_formed_here was labels k rs os ls) _ parts) a
      ]

  ops_good : (c : Functions) (T : ℕ → PlainType) (h : Option Holder) (bs : Blocks) (was labels : List ℕ) (x : ℕ) (t : PlainType) (os : Ops) (more : Values) → KeptOps c T h bs os → are_formed_ops was labels os ≡ true → HasValue x t (ops_values os more)
      → GoodType t ⊎ HasValue x t more
  ops_good c T h bs was labels x t end_of_ops more kept e v = inr v
  ops_good c T h bs was labels x t (more_ops o rest) more kept e v = elim (op_good c T h bs rest was labels x t o (ops_values rest more) kept.0 (and_first (is_formed_op was labels o) _ e) v) [
    | inl g ↦ inl g
    | inr a ↦ ops_good c T h bs was labels x t rest more kept.1 (and_second (is_formed_op was labels o) _ e) a
  ]

  pub regions_good : (c : Functions) (T : ℕ → PlainType) (holder : ℕ → Holder) (n : ℕ) (was : List ℕ) (x : ℕ) (t : PlainType) (rs : Regions) (more : Values) → values_in (regions_heads rs) ≡ true → KeptRegions c T holder n rs → are_formed_regions was rs ≡ true
      → HasValue x t (regions_values rs more) → GoodType t ⊎ HasValue x t more
  regions_good c T holder n was x t end_of_regions more args kept e v = inr v
  regions_good c T holder n was x t (region b r) more args kept e v =
      elim (blocks_good c T (Some (holder n)) b was (own_labels b) x t b (regions_values r more) (and_first (list_all (λ (h : Head). list_all is_value h.args) (heads b)) _ args) kept.0 (and_first (are_formed_blocks was (own_labels b) b) _ e) v) [
        | inl g ↦ inl g
        | inr a ↦ regions_good c T holder (n + 1) was x t r more (and_second (list_all (λ (h : Head). list_all is_value h.args) (heads b)) _ args) kept.1 (and_second (are_formed_blocks was (own_labels b) b) _ e) a
      ]

  blocks_good : (c : Functions) (T : ℕ → PlainType) (h : Option Holder) (bs : Blocks) (was labels : List ℕ) (x : ℕ) (t : PlainType) (cs : Blocks) (more : Values) → list_all (λ (d : Head). list_all is_value d.args) (heads cs) ≡ true → KeptBlocks c T h bs cs
      → are_formed_blocks was labels cs ≡ true → HasValue x t (blocks_values cs more) → GoodType t ⊎ HasValue x t more
  blocks_good c T h bs was labels x t end_of_blocks more args kept e v = inr v
  blocks_good c T h bs was labels x t (block l vs ops b) more args kept e v =
      let parts = and_second (are_formed_values vs) _ e in
      elim (value_cases x t vs (ops_values ops (blocks_values b more)) v) [
        | inl a ↦ inl (good_values x t vs (and_first (list_all is_value (types vs)) _ args) (and_first (are_formed_values vs) _ e) a)
        | inr a ↦ elim (ops_good c T h bs was labels x t ops (blocks_values b more) kept.0 (and_first (are_formed_ops was labels ops) _ parts) a) [
          | inl g ↦ inl g
          | inr d ↦ blocks_good c T h bs was labels x t b more (and_second (list_all is_value (types vs)) _ args) kept.1 (and_second (are_formed_ops was labels ops) _ parts) d
        ]
      ]

-- in a function
pub function_good : (c : Functions) (T : ℕ → PlainType) (was : List ℕ) (k : Kind) (rs : Values) (os ls : List ℕ) (r : Regions) (x : ℕ) (t : PlainType) → KeptOp c T None end_of_blocks end_of_ops (op k rs os r ls) → is_formed_here was [] k rs os ls ≡ true
    → are_formed_regions was r ≡ true → HasValue x t (op_values (op k rs os r ls) []) → GoodType t
function_good c T was k rs os ls r x t kept own e v =
    let value : keeps c (facts_of T None end_of_blocks end_of_ops (op k rs os r ls)) rule.ValueType ≡ true = kept.0 rule.ValueType in
    elim (value_cases x t rs (regions_values r []) v) [
      | inl a ↦ good_values x t rs (and_first (list_all is_value (types rs)) _ value) (and_first (are_formed_values rs) _ (and_second _ _ (and_second _ _ own))) a
      | inr a ↦ elim (regions_good c T (holds T (op k rs os r ls)) 0 was x t r [] (and_second (list_all is_value (types rs)) _ value) kept.1 e a) [ inl g ↦ g | inr b ↦ absurd b ]
    ]
