-- Reconciliation keeps all rules.
use Rattle.std.proofs.Common.{◌≡◌, ℕ, zero, suc, ◌+◌, ◌==◌, Bool, true, false, List, [], ◌∷◌, Option, Some, None, refl, sym, ap, ◌∙◌, subst, map, length, arith, inl, inr, true≢false}
use Rattle.std.specs.Prelude.{◌||◌, ◌⊎◌, codes, Ok, Err, Result, if◌then◌else◌}
use Rattle.std.specs.List.{list_all, list_any}
use Rattle.std.specs.Str.{bytes_eq}
use Rattle.std.proofs.lemmas.Bool.{eqb-true, eq-eqb}
use Rattle.std.proofs.lemmas.Slice.Eq.{bytes_eq-Decides}
use Rattle.pipeline_text.specs.declared.pass.PassName.TheVariants.{ReconcileUnrealizedCasts}
use Rattle.plain_tree.specs.Types.{PlainType}
use Rattle.plain_tree.specs.Ops.{Kind, Op, op, Ops, end_of_ops, more_ops, Regions, end_of_regions, region, Blocks, end_of_blocks, block, Values}
use Rattle.plain_tree.specs.Values.{op_values, type_in, types_of}
use Rattle.rule_model.specs.declared.rules.Rule.TheVariants as rule
use Rattle.rule_model.specs.Words.{has, name_of, numbers, results_of}
use Rattle.rule_model.specs.Chains.{blocks_operands, op_operands, ops_operands, regions_operands}
use Rattle.rule_model.specs.Facts.{facts_of, Functions, Holder, regions_heads}
use Rattle.rule_model.specs.Formed.{are_formed_blocks, are_formed_ops, are_formed_regions, are_formed_values, are_once, is_formed_function, is_formed_here, is_formed_op, is_function_name, is_inner_name, own_labels, regions_labels}
use Rattle.rule_model.specs.Parts.{no_regions, regions_fit}
use Rattle.rule_model.specs.Control.{ends_well}
use Rattle.rule_model.specs.Rows.{is_terminator, shape_of}
use Rattle.rule_model.specs.Rules.{if_registered}
use Rattle.rule_model.specs.Sites.{holds}
use Rattle.rule_model.proofs.Numbers.{and_first, and_second, has_of, not_true}
use Rattle.conversion_model.specs.Counts.{DefinesOnce, hits, none}
use Rattle.conversion_model.specs.Conversion.{regions_of, Unlegalised}
use Rattle.conversion_model.specs.Items.{blocks_size, op_size, ops_size}
use Rattle.conversion_model.specs.Uses.{blocks_listed, blocks_uses, blocks_without, op_listed, op_uses, op_without, operations, ops_listed, ops_uses, ops_without, regions_listed, regions_uses, regions_without, replaced}
use Rattle.conversion_model.specs.Reconciled.{is_cast, is_cast_of, is_unused_cast, is_used, pair_of, pairs_left_out, reconciled, unused_left_out, without_pair}
use Rattle.conversion_model.proofs.OnceStages.{op_without_total}
use Rattle.kept_rules.specs.Casts.{LeftOut, MayLeave, MayLeaveBlocks, MayLeaveOps, MayLeaveRegions}
use Rattle.line_rules.specs.Kept.{KeptBlocks, KeptOp, KeptOps, KeptRegions}
use Rattle.fitting_rows.specs.Widths.{IsWidth}
use Rattle.kept_rules.specs.Promises.{PassKeepsVerified}
use Rattle.line_rules.proofs.Words.{clash, has_cases, has_left, has_right, not_so, or_first, or_left, or_right, or_second}
use Rattle.kept_rules.proofs.CastPairs.{CastPair, HasCast, HasCastRegions, op_cast_operand, op_cast_used, op_cast_value, pair_found, regions_use_for}
use Rattle.line_rules.proofs.KeptSites.{Parts}
use Rattle.line_rules.proofs.LinedFormed.{all_true}
use Rattle.kept_rules.proofs.Modules.{formed_once, FunctionKept, Kept, keeps_verified}
use Rattle.line_rules.proofs.Once.{type_of_value, type_once}
use Rattle.kept_rules.proofs.RemovedRules.{cut_formed, cut_kept, cut_own, cut_tests}
use Rattle.kept_rules.proofs.RemovedScopes.{function_cut}
use Rattle.line_rules.proofs.SameTypes.{equal_type}
use Rattle.kept_rules.proofs.SubstitutedRules.{function_formed, function_own, function_tests, op_operands_map, op_values_same}
use Rattle.kept_rules.proofs.SubstitutedScopes.{function_uses, was_of}

-- Casts, left out where a test holds

abbrev cast_name : List ℕ
cast_name = codes "builtin.unrealized_conversion_cast"

name_facts : (P : List ℕ → Type 0) → P cast_name → (o : Op) → is_cast o ≡ true → P (name_of o)
name_facts P p (op k rs os r ls) e = subst P (sym ((bytes_eq-Decides k.name cast_name).0 e)) p

no_region : (r : Regions) → no_regions (regions_heads r) ≡ true → r ≡ end_of_regions
no_region end_of_regions e = refl
no_region (region b r) e = absurd (true≢false (sym e))

cast_bare : (c : Functions) (T : ℕ → PlainType) (h : Option Holder) (bs : Blocks) (rest : Ops) (o : Op) → is_cast o ≡ true → KeptOp c T h bs rest o → regions_of o ≡ end_of_regions
cast_bare c T h bs rest (op k rs os r ls) e kept =
    let same : k.name ≡ cast_name = (bytes_eq-Decides k.name cast_name).0 e in
    no_region r (ap (λ n. if_registered (regions_fit (facts_of T h bs rest (op k rs os r ls))) (shape_of n)) (sym same) ∙ kept.0 rule.Regions)

-- Each operand of a formed tree is defined

operand_defined : (defined os : List ℕ) (x : ℕ) → list_all (λ v. has v defined) os ≡ true → has x os ≡ true → has x defined ≡ true
operand_defined defined os x e h = has_of (λ y. has y defined ≡ true) x os (all_true (λ v. has v defined) os e) h

mutual
  op_operand_defined : (defined labels : List ℕ) (x : ℕ) (o : Op) → is_formed_op defined labels o ≡ true → has x (op_operands o) ≡ true → has x defined ≡ true
  op_operand_defined defined labels x (op k rs os r ls) e h =
      let parts = and_second (is_inner_name k.name) _ e in
      elim (has_cases x os (regions_operands r) h) [
        | inl a ↦ operand_defined defined os x (and_first (list_all (λ v. has v defined) os) _ (and_first (is_formed_here defined labels k rs os ls) _ parts)) a
        | inr a ↦ regions_operand_defined defined x r (and_second (is_formed_here defined labels k rs os ls) _ parts) a
      ]

  ops_operand_defined : (defined labels : List ℕ) (x : ℕ) (os : Ops) → are_formed_ops defined labels os ≡ true → has x (ops_operands os) ≡ true → has x defined ≡ true
  ops_operand_defined defined labels x end_of_ops e h = absurd (true≢false (sym h))
  ops_operand_defined defined labels x (more_ops o os) e h = elim (has_cases x (op_operands o) (ops_operands os) h) [
    | inl a ↦ op_operand_defined defined labels x o (and_first (is_formed_op defined labels o) _ e) a
    | inr a ↦ ops_operand_defined defined labels x os (and_second (is_formed_op defined labels o) _ e) a
  ]

  regions_operand_defined : (defined : List ℕ) (x : ℕ) (rs : Regions) → are_formed_regions defined rs ≡ true → has x (regions_operands rs) ≡ true → has x defined ≡ true
  regions_operand_defined defined x end_of_regions e h = absurd (true≢false (sym h))
  regions_operand_defined defined x (region b r) e h = elim (has_cases x (blocks_operands b) (regions_operands r) h) [
    | inl a ↦ blocks_operand_defined defined (own_labels b) x b (and_first (are_formed_blocks defined (own_labels b) b) _ e) a
    | inr a ↦ regions_operand_defined defined x r (and_second (are_formed_blocks defined (own_labels b) b) _ e) a
  ]

  blocks_operand_defined : (defined labels : List ℕ) (x : ℕ) (bs : Blocks) → are_formed_blocks defined labels bs ≡ true → has x (blocks_operands bs) ≡ true → has x defined ≡ true
  blocks_operand_defined defined labels x end_of_blocks e h = absurd (true≢false (sym h))
  blocks_operand_defined defined labels x (block l args ops b) e h =
      let parts = and_second (are_formed_values args) _ e in
      elim (has_cases x (ops_operands ops) (blocks_operands b) h) [
        | inl a ↦ ops_operand_defined defined labels x ops (and_first (are_formed_ops defined labels ops) _ parts) a
        | inr a ↦ blocks_operand_defined defined labels x b (and_second (are_formed_ops defined labels ops) _ parts) a
      ]

function_operand_defined : (f : Op) (x : ℕ) → is_formed_function f ≡ true → has x (op_operands f) ≡ true → has x (numbers (op_values f [])) ≡ true
function_operand_defined (op k rs os r ls) x e h =
    let was : List ℕ = numbers (op_values (op k rs os r ls) []) in
    let p3 = and_second (are_once (regions_labels r)) _ (and_second (are_once was) _ (and_second (is_function_name k.name) _ e)) in
    elim (has_cases x os (regions_operands r) h) [
      | inl a ↦ operand_defined was os x (and_first (list_all (λ v. has v was) os) _ (and_first (is_formed_here was [] k rs os ls) _ p3)) a
      | inr a ↦ regions_operand_defined was x r (and_second (is_formed_here was [] k rs os ls) _ p3) a
    ]

module _ (test : Op → Bool) (Used : ℕ → Type 0) (gone : (o : Op) → test o ≡ true → (is_cast o ≡ true) × ((x : ℕ) → Used x → has x (results_of o) ≡ false)) where
  left_out : (c : Functions) (T : ℕ → PlainType) (h : Option Holder) (bs : Blocks) (rest : Ops) (o : Op) → test o ≡ true → KeptOp c T h bs rest o → LeftOut Used o
  left_out c T h bs rest o e kept =
      let g = gone o e in
      record { bare = cast_bare c T h bs rest o g.0 kept; on = name_facts (λ n. is_terminator n ≡ false) refl o g.0; not_last = name_facts (λ n. ends_well (Some n) ≡ false) refl o g.0; unused = g.1 }

  mutual
    op_leaves : (c : Functions) (T : ℕ → PlainType) (h : Option Holder) (bs : Blocks) (rest : Ops) (o : Op) → KeptOp c T h bs rest o → ((x : ℕ) → has x (op_operands o) ≡ true → Used x) → MayLeave test Used o
    op_leaves c T h bs rest (op k rs os r ls) kept into =
        (λ x a. into x (has_left x os (regions_operands r) a), regions_leave c T (holds T (op k rs os r ls)) 0 r kept.1 (λ x a. into x (has_right x os (regions_operands r) a)))

    ops_leave : (c : Functions) (T : ℕ → PlainType) (h : Option Holder) (bs : Blocks) (os : Ops) → KeptOps c T h bs os → ((x : ℕ) → has x (ops_operands os) ≡ true → Used x) → MayLeaveOps test Used os
    ops_leave c T h bs end_of_ops kept into = tt
    ops_leave c T h bs (more_ops o rest) kept into = (
      λ e. left_out c T h bs rest o e kept.0,
      op_leaves c T h bs rest o kept.0 (λ x a. into x (has_left x (op_operands o) (ops_operands rest) a)),
      ops_leave c T h bs rest kept.1 (λ x a. into x (has_right x (op_operands o) (ops_operands rest) a)),
    )

    regions_leave : (c : Functions) (T : ℕ → PlainType) (hold : ℕ → Holder) (n : ℕ) (rs : Regions) → KeptRegions c T hold n rs → ((x : ℕ) → has x (regions_operands rs) ≡ true → Used x) → MayLeaveRegions test Used rs
    regions_leave c T hold n end_of_regions kept into = tt
    regions_leave c T hold n (region b r) kept into = (
      blocks_leave c T (Some (hold n)) b b kept.0 (λ x a. into x (has_left x (blocks_operands b) (regions_operands r) a)),
      regions_leave c T hold (n + 1) r kept.1 (λ x a. into x (has_right x (blocks_operands b) (regions_operands r) a)),
    )

    blocks_leave : (c : Functions) (T : ℕ → PlainType) (h : Option Holder) (bs cs : Blocks) → KeptBlocks c T h bs cs → ((x : ℕ) → has x (blocks_operands cs) ≡ true → Used x) → MayLeaveBlocks test Used cs
    blocks_leave c T h bs end_of_blocks kept into = tt
    blocks_leave c T h bs (block l args ops more) kept into =
        (ops_leave c T h bs ops kept.0 (λ x a. into x (has_left x (ops_operands ops) (blocks_operands more) a)), blocks_leave c T h bs more kept.1 (λ x a. into x (has_right x (ops_operands ops) (blocks_operands more) a)))

  cut_once : (f : Op) → DefinesOnce f → DefinesOnce (op_without test f)
  cut_once f once v = omega (arith, op_without_total (hits v) none test f, once v)

-- a function without casts that aren't used
abbrev Operand : Op → ℕ → Type 0
Operand f x = has x (op_operands f) ≡ true

cut_function : (test : Op → Bool) (c : Functions) (f : Op) → ((o : Op) → test o ≡ true → (is_cast o ≡ true) × ((x : ℕ) → Operand f x → has x (results_of o) ≡ false)) → is_formed_function f ≡ true → Parts c f → Kept c f (op_without test f)
cut_function test c (op k rs os r ls) gone formed parts =
    let f : Op = op k rs os r ls in
    let g : Op = op_without test f in
    let leaves : MayLeave test (Operand f) f = op_leaves test (Operand f) gone c (types_of f) None end_of_blocks end_of_ops f parts.tests (λ x h. h) in
    let once : DefinesOnce g = cut_once test (Operand f) gone f (formed_once f formed) in
    let new_formed : is_formed_function g ≡ true = cut_formed test (Operand f) k rs os ls r leaves once formed in
    let g_once : are_once (numbers (op_values g [])) ≡ true = and_first (are_once (numbers (op_values g []))) _ (and_second (is_function_name k.name) _ new_formed) in
    let same : (x : ℕ) → Operand f x → types_of g x ≡ types_of f x = λ x u.
    type_once (op_values g []) x (types_of f x) g_once (cut_kept test (Operand f) k rs os ls r x (types_of f x) u leaves (type_of_value (op_values f []) x (function_operand_defined f x formed u))) in
    record {
      formed = new_formed;
      parts = record {
        tests = cut_tests test (Operand f) (types_of g) (types_of f) same c k rs os ls r leaves parts.tests;
        scopes = function_cut test (Operand f) k rs os ls r leaves parts.scopes;
        none_own = cut_own test f parts.none_own;
      };
      declared_same = refl;
    }

-- Casts without uses

not_used : (os : List (ℕ × Op)) (rs : Values) (x : ℕ) → list_any (λ (r : ℕ × PlainType). is_used os r.0) rs ≡ false → is_used os x ≡ true → has x (numbers rs) ≡ false
not_used os [] x e u = refl
not_used os (r ∷ rs) x e u = go (r.0 == x) refl (not_used os rs x (or_second (is_used os r.0) _ e) u)
  where
    go : (b : Bool) → (r.0 == x) ≡ b → has x (numbers rs) ≡ false → (b || has x (numbers rs)) ≡ false
    go true same rest = clash (subst (λ n. is_used os n ≡ true) (sym (eqb-true r.0 x same)) u) (or_first (is_used os r.0) _ e)
    go false other rest = rest

among_operands : (os : List ℕ) (x : ℕ) → has x os ≡ true → list_any (λ v. v == x) os ≡ true
among_operands [] x h = h
among_operands (o ∷ os) x h = go (o == x) h (among_operands os x)
  where
    go : (b : Bool) → (b || has x os) ≡ true → (has x os ≡ true → list_any (λ v. v == x) os ≡ true) → (b || list_any (λ v. v == x) os) ≡ true
    go true f rest = refl
    go false f rest = rest f

mutual
  op_listed_used : (n x : ℕ) (o : Op) (more : List (ℕ × Op)) → (has x (op_operands o) ≡ true) ⊎ (is_used more x ≡ true) → is_used (op_listed n o more) x ≡ true
  op_listed_used n x (op k rs os r ls) more (inl h) = elim (has_cases x os (regions_operands r) h) [
    | inl a ↦ or_left (list_any (λ v. v == x) os) _ (among_operands os x a)
    | inr a ↦ or_right (list_any (λ v. v == x) os) _ (regions_listed_used (n + 1) x r more (inl a))
  ]
  op_listed_used n x (op k rs os r ls) more (inr h) = or_right (list_any (λ v. v == x) os) _ (regions_listed_used (n + 1) x r more (inr h))

  ops_listed_used : (n x : ℕ) (os : Ops) (more : List (ℕ × Op)) → (has x (ops_operands os) ≡ true) ⊎ (is_used more x ≡ true) → is_used (ops_listed n os more) x ≡ true
  ops_listed_used n x end_of_ops more (inl h) = absurd (true≢false (sym h))
  ops_listed_used n x end_of_ops more (inr h) = h
  ops_listed_used n x (more_ops o os) more (inl h) = elim (has_cases x (op_operands o) (ops_operands os) h) [
    | inl a ↦ op_listed_used n x o (ops_listed (n + op_size o) os more) (inl a)
    | inr a ↦ op_listed_used n x o (ops_listed (n + op_size o) os more) (inr (ops_listed_used (n + op_size o) x os more (inl a)))
  ]
  ops_listed_used n x (more_ops o os) more (inr h) = op_listed_used n x o (ops_listed (n + op_size o) os more) (inr (ops_listed_used (n + op_size o) x os more (inr h)))

  regions_listed_used : (n x : ℕ) (rs : Regions) (more : List (ℕ × Op)) → (has x (regions_operands rs) ≡ true) ⊎ (is_used more x ≡ true) → is_used (regions_listed n rs more) x ≡ true
  regions_listed_used n x end_of_regions more (inl h) = absurd (true≢false (sym h))
  regions_listed_used n x end_of_regions more (inr h) = h
  regions_listed_used n x (region b r) more (inl h) = elim (has_cases x (blocks_operands b) (regions_operands r) h) [
    | inl a ↦ blocks_listed_used n x b (regions_listed (n + blocks_size b) r more) (inl a)
    | inr a ↦ blocks_listed_used n x b (regions_listed (n + blocks_size b) r more) (inr (regions_listed_used (n + blocks_size b) x r more (inl a)))
  ]
  regions_listed_used n x (region b r) more (inr h) = blocks_listed_used n x b (regions_listed (n + blocks_size b) r more) (inr (regions_listed_used (n + blocks_size b) x r more (inr h)))

  blocks_listed_used : (n x : ℕ) (bs : Blocks) (more : List (ℕ × Op)) → (has x (blocks_operands bs) ≡ true) ⊎ (is_used more x ≡ true) → is_used (blocks_listed n bs more) x ≡ true
  blocks_listed_used n x end_of_blocks more (inl h) = absurd (true≢false (sym h))
  blocks_listed_used n x end_of_blocks more (inr h) = h
  blocks_listed_used n x (block l args ops b) more (inl h) = elim (has_cases x (ops_operands ops) (blocks_operands b) h) [
    | inl a ↦ ops_listed_used n x ops (blocks_listed (n + ops_size ops) b more) (inl a)
    | inr a ↦ ops_listed_used n x ops (blocks_listed (n + ops_size ops) b more) (inr (blocks_listed_used (n + ops_size ops) x b more (inl a)))
  ]
  blocks_listed_used n x (block l args ops b) more (inr h) = ops_listed_used n x ops (blocks_listed (n + ops_size ops) b more) (inr (blocks_listed_used (n + ops_size ops) x b more (inr h)))

unused_gone : (f o : Op) → is_unused_cast (operations f) o ≡ true → (is_cast o ≡ true) × ((x : ℕ) → Operand f x → has x (results_of o) ≡ false)
unused_gone f (op k rs os r ls) e = (
  and_first (is_cast (op k rs os r ls)) _ e,
  λ x h. not_used (operations f) rs x (not_true (list_any (λ (w : ℕ × PlainType). is_used (operations f) w.0) rs) (and_second (is_cast (op k rs os r ls)) _ e)) (op_listed_used 0 x f [] (inl h)),
)

-- both, one after another
pub then_kept : (c : Functions) (f g h : Op) → Kept c f g → Kept c g h → Kept c f h
then_kept c f g h a b = record { formed = b.formed; parts = b.parts; declared_same = b.declared_same ∙ a.declared_same }

unused_kept : (c : Functions) (room : ℕ) (f : Op) → is_formed_function f ≡ true → Parts c f → Kept c f (unused_left_out room f)
unused_kept c zero f formed parts = record { formed = formed; parts = parts; declared_same = refl }
unused_kept c (suc room) f formed parts =
    go (list_any (λ (o : ℕ × Op). is_unused_cast (operations f) o.1) (operations f)) (λ g k. unused_kept c room g k.formed k.parts)
  where
    go : (b : Bool) → ((g : Op) → Kept c f g → Kept c g (unused_left_out room g)) → Kept c f (elim b [ false ↦ f | true ↦ unused_left_out room (op_without (is_unused_cast (operations f)) f) ])
    go false rest = record { formed = formed; parts = parts; declared_same = refl }
    go true rest =
        let k = cut_function (is_unused_cast (operations f)) c f (unused_gone f) formed parts in
        then_kept c f (op_without (is_unused_cast (operations f)) f) (unused_left_out room (op_without (is_unused_cast (operations f)) f)) k (rest (op_without (is_unused_cast (operations f)) f) k)

-- A pair of casts

-- an operation with other operands is such a cast alike
same_cast : (to : ℕ → ℕ) (r : ℕ) (o : Op) → is_cast_of r (op_uses to o) ≡ is_cast_of r o
same_cast to r (op k [] os g ls) = refl
same_cast to r (op k (x ∷ []) [] g ls) = refl
same_cast to r (op k (x ∷ []) (v ∷ []) g ls) = refl
same_cast to r (op k (x ∷ []) (v ∷ w ∷ os) g ls) = refl
same_cast to r (op k (x ∷ y ∷ rs) os g ls) = refl

mutual
  pub op_swap : (to : ℕ → ℕ) (r : ℕ) (o : Op) → op_without (is_cast_of r) (op_uses to o) ≡ op_uses to (op_without (is_cast_of r) o)
  op_swap to r (op k rs os g ls) = ap (λ x. op k rs (map to os) x ls) (regions_swap to r g)

  ops_swap : (to : ℕ → ℕ) (r : ℕ) (os : Ops) → ops_without (is_cast_of r) (ops_uses to os) ≡ ops_uses to (ops_without (is_cast_of r) os)
  ops_swap to r end_of_ops = refl
  ops_swap to r (more_ops o os) =
      ap (λ b. if b then ops_without (is_cast_of r) (ops_uses to os) else more_ops (op_without (is_cast_of r) (op_uses to o)) (ops_without (is_cast_of r) (ops_uses to os))) (same_cast to r o)
      ∙ go (is_cast_of r o) (op_swap to r o) (ops_swap to r os)
    where
      go : (b : Bool) → op_without (is_cast_of r) (op_uses to o) ≡ op_uses to (op_without (is_cast_of r) o) → ops_without (is_cast_of r) (ops_uses to os) ≡ ops_uses to (ops_without (is_cast_of r) os)
          → (if b then ops_without (is_cast_of r) (ops_uses to os) else more_ops (op_without (is_cast_of r) (op_uses to o)) (ops_without (is_cast_of r) (ops_uses to os)))
          ≡ ops_uses to (if b then ops_without (is_cast_of r) os else more_ops (op_without (is_cast_of r) o) (ops_without (is_cast_of r) os))
      go true a b = b
      go false a b = ap (λ x. more_ops x (ops_without (is_cast_of r) (ops_uses to os))) a ∙ ap (more_ops (op_uses to (op_without (is_cast_of r) o))) b

  regions_swap : (to : ℕ → ℕ) (r : ℕ) (rs : Regions) → regions_without (is_cast_of r) (regions_uses to rs) ≡ regions_uses to (regions_without (is_cast_of r) rs)
  regions_swap to r end_of_regions = refl
  regions_swap to r (region b g) = ap (λ x. region x (regions_without (is_cast_of r) (regions_uses to g))) (blocks_swap to r b) ∙ ap (region (blocks_uses to (blocks_without (is_cast_of r) b))) (regions_swap to r g)

  blocks_swap : (to : ℕ → ℕ) (r : ℕ) (bs : Blocks) → blocks_without (is_cast_of r) (blocks_uses to bs) ≡ blocks_uses to (blocks_without (is_cast_of r) bs)
  blocks_swap to r end_of_blocks = refl
  blocks_swap to r (block l args ops b) =
      ap (λ x. block l args x (blocks_without (is_cast_of r) (blocks_uses to b))) (ops_swap to r ops) ∙ ap (block l args (ops_uses to (ops_without (is_cast_of r) ops))) (blocks_swap to r b)

-- a cast of that result
cast_of_gone : (Used : ℕ → Type 0) (r : ℕ) (o : Op) → (Used r → ⊥) → is_cast_of r o ≡ true → (is_cast o ≡ true) × ((x : ℕ) → Used x → has x (results_of o) ≡ false)
cast_of_gone Used r (op k (y ∷ []) (v ∷ []) g ls) never e = (
  and_first (bytes_eq k.name cast_name) _ e,
  λ x u. not_so (has x (y.0 ∷ [])) (λ h. never (subst Used (sym (one_only y.0 x h) ∙ eqb-true y.0 r (and_second (bytes_eq k.name cast_name) _ e)) u)),
)
  where
    one_only : (n x : ℕ) → has x (n ∷ []) ≡ true → n ≡ x
    one_only n x h = go (n == x) refl h
      where
        go : (b : Bool) → (n == x) ≡ b → (b || false) ≡ true → n ≡ x
        go true same f = eqb-true n x same
        go false other f = absurd (true≢false (sym f))
cast_of_gone Used r (op k [] os g ls) never e = absurd (true≢false (sym e))
cast_of_gone Used r (op k (y ∷ []) [] g ls) never e = absurd (true≢false (sym e))
cast_of_gone Used r (op k (y ∷ []) (v ∷ w ∷ os) g ls) never e = absurd (true≢false (sym e))
cast_of_gone Used r (op k (y ∷ z ∷ rs) os g ls) never e = absurd (true≢false (sym e))

not_root : (k : Kind) → is_function_name k.name ≡ true → bytes_eq k.name cast_name ≡ true → ⊥
not_root k f e = true≢false (sym (subst (λ n. is_function_name n ≡ true) ((bytes_eq-Decides k.name cast_name).0 e) f))

pub inner_cast : (v r : ℕ) (t : PlainType) (k : Kind) (rs : Values) (os ls : List ℕ) (g : Regions) → is_function_name k.name ≡ true → HasCast v r t (op k rs os g ls) → HasCastRegions v r t g
inner_cast v r t k rs os ls g f (inl h) = absurd (not_root k f h.0)
inner_cast v r t k rs os ls g f (inr h) = h

replaced_types : (T : ℕ → PlainType) (r u x : ℕ) → T u ≡ T r → T (replaced r u x) ≡ T x
replaced_types T r u x same = go (x == r) refl
  where
    go : (b : Bool) → (x == r) ≡ b → T (if b then u else x) ≡ T x
    go true e = same ∙ ap T (sym (eqb-true x r e))
    go false e = refl

-- the uses of r become uses of u
use_kept : (c : Functions) (k : Kind) (rs : Values) (os ls : List ℕ) (g : Regions) (p : ℕ × ℕ) → CastPair (op k rs os g ls) p → is_formed_function (op k rs os g ls) ≡ true → Parts c (op k rs os g ls)
    → Kept c (op k rs os g ls) (op_uses (replaced p.0 p.1) (op k rs os g ls))
use_kept c k rs os ls g p pair formed parts =
    let f : Op = op k rs os g ls in
    let r : ℕ = p.0 in
    let u : ℕ = p.1 in
    let w : ℕ = pair.middle in
    let once : DefinesOnce f = formed_once f formed in
    let name : is_function_name k.name ≡ true = and_first (is_function_name k.name) _ formed in
    let was : List ℕ = numbers (op_values f []) in
    let was_once : are_once was ≡ true = and_first (are_once was) _ (and_second (is_function_name k.name) _ formed) in
    let last = inner_cast w r pair.to k rs os ls g name pair.last in
    let first = inner_cast u w pair.between k rs os ls g name pair.first in
    let u_there : has u was ≡ true = function_operand_defined f u formed (op_cast_operand u w pair.between f pair.first) in
    let same_types : types_of f u ≡ types_of f r = equal_type (types_of f u) pair.to pair.type_there ∙ sym (type_once (op_values f []) r pair.to was_once (op_cast_value w r pair.to f [] pair.last)) in
    record {
      formed = function_formed (replaced r u) f (λ x h. by_number x r (λ n. has n was ≡ true) h u_there) formed;
      parts = record {
        tests = subst (λ vs. KeptOp c (type_in vs) None end_of_blocks end_of_ops (op_uses (replaced r u) f)) (sym (op_values_same (replaced r u) f []))
            (function_tests (replaced r u) (types_of f) c f (λ x. replaced_types (types_of f) r u x same_types) parts.tests);
        scopes = function_uses r w u k rs os ls g
            (record {
              first = regions_use_for w r pair.to g last (omega (arith, once r));
              second = regions_use_for u w pair.between g first (omega (arith, once w));
              one_w = omega (arith, once w);
              one_u = omega (arith, once u);
            }) parts.scopes;
        none_own = function_own f r w u (op_cast_used w r pair.to f pair.last) (op_cast_used u w pair.between f pair.first) parts.none_own;
      };
      declared_same = refl;
    }
  where
    by_number : (x r : ℕ) (P : ℕ → Type 0) → P x → {u : ℕ} → P u → P (if x == r then u else x)
    by_number x r P px {u = u} pu = go (x == r)
      where
        go : (b : Bool) → P (if b then u else x)
        go true = pu
        go false = px

-- and r is used no more
no_more : (f : Op) (r u : ℕ) → (u == r) ≡ false → Operand (op_uses (replaced r u) f) r → ⊥
no_more f r u apart h =
    let y = was_of (replaced r u) (op_operands f) r (sym (ap (λ l. has r l) (op_operands_map (replaced r u) f)) ∙ h) in
    go y.number (y.number == r) refl y.is
  where
    go : (n : ℕ) (b : Bool) → (n == r) ≡ b → (if b then u else n) ≡ r → ⊥
    go n true e is = true≢false (sym (eq-eqb u r is) ∙ apart)
    go n false e is = true≢false (sym (eq-eqb n r is) ∙ e)

pub pair_kept : (c : Functions) (f : Op) (p : ℕ × ℕ) → CastPair f p → is_formed_function f ≡ true → Parts c f → Kept c f (without_pair p f)
pair_kept c (op k rs os g ls) p pair formed parts =
    let f : Op = op k rs os g ls in
    let first = use_kept c k rs os ls g p pair formed parts in
    let f1 : Op = op_uses (replaced p.0 p.1) f in
    let second = cut_function (is_cast_of p.0) c f1 (λ o. cast_of_gone (Operand f1) p.0 o (no_more f p.0 p.1 pair.apart)) first.formed first.parts in
    subst (Kept c f) (op_swap (replaced p.0 p.1) p.0 f) (then_kept c f f1 (op_without (is_cast_of p.0) f1) first second)

pub pairs_kept : (c : Functions) (room : ℕ) (f : Op) → is_formed_function f ≡ true → Parts c f → Kept c f (pairs_left_out room f)
pairs_kept c zero f formed parts = record { formed = formed; parts = parts; declared_same = refl }
pairs_kept c (suc room) f formed parts = go (pair_of f) refl (λ g k. pairs_kept c room g k.formed k.parts)
  where
    go : (x : Option (ℕ × ℕ)) → pair_of f ≡ x → ((g : Op) → Kept c f g → Kept c g (pairs_left_out room g)) → Kept c f (elim x [ None ↦ f | Some p ↦ pairs_left_out room (without_pair p f) ])
    go None e rest = record { formed = formed; parts = parts; declared_same = refl }
    go (Some p) e rest = let k = pair_kept c f p (pair_found f p e) formed parts in then_kept c f (without_pair p f) (pairs_left_out room (without_pair p f)) k (rest (without_pair p f) k)

pub reconciled_kept : (c : Functions) (f : Op) → is_formed_function f ≡ true → Parts c f → Kept c f (reconciled f)
reconciled_kept c f formed parts =
    let room : ℕ = length (operations f) in
    let first = pairs_kept c room f formed parts in
    then_kept c f (pairs_left_out room f) (unused_left_out room (pairs_left_out room f)) first (unused_kept c room (pairs_left_out room f) first.formed first.parts)

pub casts_kept : (bits : ℕ) → IsWidth bits → FunctionKept ReconcileUnrealizedCasts bits
casts_kept bits w new c f g fresh formed parts is =
    subst (Kept c f) (ap (λ (r : Result Op Unlegalised). elim r as (λ x. Op) [ Ok a ↦ a | Err b ↦ f ]) is) (reconciled_kept c f formed parts)

pub casts_verified : PassKeepsVerified ReconcileUnrealizedCasts
casts_verified = keeps_verified ReconcileUnrealizedCasts casts_kept
