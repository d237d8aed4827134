-- The rules that are tests are kept where operations that are no terminators are replaced by others one after another.
use Rattle.std.proofs.Common.{◌≡◌, ℕ, ◌+◌, ◌==◌, Bool, true, false, List, [], ◌∷◌, Option, Some, None, refl, sym, ap, ◌∙◌, subst, map, true≢false}
use Rattle.std.specs.Prelude.{if◌then◌else◌}
use Rattle.std.specs.List.{list_all}
use Rattle.std.specs.Option.{option_map}
use Rattle.plain_tree.specs.Types.{PlainType}
use Rattle.plain_tree.specs.Ops.{Kind, Op, op, Ops, end_of_ops, Regions, end_of_regions, Blocks, end_of_blocks, PlainBlock, Values}
use Rattle.plain_tree.specs.Values.{blocks_values, ops_values, regions_values}
use Rattle.rule_model.specs.declared.rules.Rule.TheVariants as rule
use Rattle.rule_model.specs.Words.{AllOf, block_of, has, is_first, name_of, results_of, successors_of, types}
use Rattle.rule_model.specs.Facts.{Facts, facts_of, Functions, Head, heads, Holder, is_end, last_in, last_name, regions_heads, Target, target}
use Rattle.rule_model.specs.Control.{ends_well}
use Rattle.rule_model.specs.Formed.{are_formed_blocks, are_formed_ops, are_formed_regions, are_formed_values, is_formed_here, is_formed_op, is_inner_name, own_labels}
use Rattle.rule_model.specs.Rules.{keeps}
use Rattle.rule_model.specs.Sites.{holds}
use Rattle.rule_model.proofs.Numbers.{and_first, and_second, has_of}
use Rattle.conversion_model.specs.Targets.{operands_of, shape_of as of_shape}
use Rattle.conversion_model.specs.Conversion.{regions_of}
use Rattle.line_rules.specs.Lines.{HasValue, is_empty, Line, lined_block, lined_end, lined_no_block, lined_no_region, lined_region, LinedBlocks, LinedOps, LinedRegions, LineKeeps, put_ops, stays, swaps, turns}
use Rattle.line_rules.specs.Fits.{Fits, LineFits}
use Rattle.line_rules.specs.Kept.{KeptBlocks, KeptOp, KeptOps, KeptRegions}
use Rattle.line_rules.proofs.Words.{clash}
use Rattle.line_rules.proofs.Once.{value_right}
use Rattle.line_rules.proofs.LinedValues.{behind_blocks, behind_ops, behind_regions, list_value, tail_value}
use Rattle.line_rules.proofs.LinedFormed.{all_true, operands_defined, steps_bare}
use Rattle.line_rules.proofs.LineTests.{line_keeps}

-- One operation that fits

types_map : (vs : Values) → types vs ≡ map (λ v. v.1) vs
types_map [] = refl
types_map (v ∷ vs) = ap (λ ts. v.1 ∷ ts) (types_map vs)

abbrev pub facts_with : Kind → List PlainType → List PlainType → List Target → List (List Head) → Option Holder → Bool → Facts
facts_with k operands results successors regions holder last =
    record { name = k.name; props = k.props; operands = operands; results = results; successors = successors; regions = regions; holder = holder; last = last }

pub one_kept : (c : Functions) (types_of : ℕ → PlainType) (h : Option Holder) (cs : Blocks) (tail : Ops) (p : Op) → regions_of p ≡ end_of_regions → successors_of p ≡ [] → Fits (of_shape types_of p) → KeptOp c types_of h cs tail p
one_kept c types_of h cs tail (op k rs os r ls) bare none f = (
  λ q. subst (λ x. keeps c x q ≡ true)
      (sym (
      ap (λ ts. facts_with k (map types_of os) ts (map (target cs) ls) (regions_heads r) h (is_end tail)) (types_map rs)
      ∙ ap (λ xs. facts_with k (map types_of os) (map (λ v. v.1) rs) (map (target cs) xs) (regions_heads r) h (is_end tail)) none
      ∙ ap (λ x. facts_with k (map types_of os) (map (λ v. v.1) rs) [] (regions_heads x) h (is_end tail)) bare
      ))
      (line_keeps c (of_shape types_of (op k rs os r ls)) h (is_end tail) f q),
  subst (λ x. KeptRegions c types_of (holds types_of (op k rs os r ls)) 0 x) (sym bare) tt,
)

pub line_kept : (c : Functions) (types_of : ℕ → PlainType) (h : Option Holder) (cs : Blocks) (l : List Op) (tail : Ops) → AllOf (λ p. regions_of p ≡ end_of_regions) l → AllOf (λ p. successors_of p ≡ []) l → AllOf (λ p. Fits (of_shape types_of p)) l
    → KeptOps c types_of h cs tail → KeptOps c types_of h cs (put_ops l tail)
line_kept c types_of h cs [] tail bare none fits rest = rest
line_kept c types_of h cs (p ∷ l) tail bare none fits rest = (one_kept c types_of h cs (put_ops l tail) p bare.0 none.0 fits.0, line_kept c types_of h cs l tail bare.1 none.1 fits.1 rest)

not_empty_end : (l : List Op) (tail : Ops) → is_empty l ≡ false → is_end (put_ops l tail) ≡ false
not_empty_end [] tail e = absurd (true≢false e)
not_empty_end (p ∷ l) tail e = refl

pub last_of : List ℕ → List Op → List ℕ
last_of name [] = name
last_of name (p ∷ l) = last_of (name_of p) l

pub last_put : (name : List ℕ) (l : List Op) (tail : Ops) → last_name name (put_ops l tail) ≡ last_name (last_of name l) tail
unfolding last_of
last_put name [] tail = refl
last_put name (p ∷ l) tail = last_put (name_of p) l tail

pub same_operands : (s t : ℕ → PlainType) (os : List ℕ) → AllOf (λ x. s x ≡ t x) os → map s os ≡ map t os
same_operands s t [] all = refl
same_operands s t (x ∷ os) all = ap (λ u. u ∷ map s os) all.0 ∙ ap (λ us. t x ∷ us) (same_operands s t os all.1)

pub all_agree : {s t : ℕ → PlainType} (was os : List ℕ) → ((x : ℕ) → has x was ≡ true → s x ≡ t x) → AllOf (λ x. has x was ≡ true) os → AllOf (λ x. s x ≡ t x) os
all_agree was [] agree all = tt
all_agree was (x ∷ os) agree all = (agree x all.0, all_agree was os agree all.1)

abbrev ended : Ops → Bool
ended os = ends_well (last_in os)

module _ (Old : ℕ → Type 0) (T S : ℕ → PlainType) (K : ℕ → Op → Type 0) (G : ℕ → Op → List Op → Type 0) (H : ℕ → Op → List Op → Op → Type 0)
    (line : (n : ℕ) (o : Op) (l : List Op) → G n o l → Line Old o l) (keeping : (n : ℕ) (o : Op) (l : List Op) → G n o l → LineKeeps o l) (fitting : (n : ℕ) (o : Op) (l : List Op) → G n o l → LineFits T o l)
    (no_turn : (n : ℕ) (o : Op) (l : List Op) (t : Op) → H n o l t → ⊥) where
  end_kept : {n : ℕ} {os ps : Ops} → LinedOps K G H n os ps → is_end ps ≡ is_end os
  end_kept lined_end = refl
  end_kept (stays _ y d) = refl
  end_kept (swaps {n = n} {o = o} l {more = more} g d) = not_empty_end l more (fitting n o l g).some
  end_kept (turns {n = n} {o = o} l t h d) = absurd (no_turn n o l t h)

  -- the last operation of a block stays
  last_kept : {n : ℕ} {os ps : Ops} (before after : List ℕ) → LinedOps K G H n os ps → (ends_well (Some before) ≡ true → before ≡ after) → ends_well (Some (last_name before os)) ≡ true → last_name after ps ≡ last_name before os
  last_kept before after lined_end same e = sym (same e)
  last_kept before after (stays {k = k} _ y d) same e = last_kept k.name k.name d (λ f. refl) e
  last_kept before after (swaps {n = n} {o = o} l {more = more} g d) same e =
      last_put after l more ∙ last_kept (name_of o) (last_of after l) d (λ f. clash f (fitting n o l g).not_last) e
  last_kept before after (turns {n = n} {o = o} l t h d) same e = absurd (no_turn n o l t h)

  block_end : {n : ℕ} {os ps : Ops} → LinedOps K G H n os ps → ended os ≡ true → last_in ps ≡ last_in os
  block_end lined_end e = refl
  block_end (stays {k = k} _ y d) e = ap Some (last_kept k.name k.name d (λ f. refl) e)
  block_end (swaps {n = n} {o = o} l {rest = rest} {more = more} g d) e = go l (fitting n o l g).some
    where
      go : (m : List Op) → is_empty m ≡ false → last_in (put_ops m more) ≡ Some (last_name (name_of o) rest)
      go [] f = absurd (true≢false f)
      go (p ∷ m) f = ap Some (last_put (name_of p) m more ∙ last_kept (name_of o) (last_of (name_of p) m) d (λ f2. clash f2 (fitting n o l g).not_last) e)
  block_end (turns {n = n} {o = o} l t h d) e = absurd (no_turn n o l t h)

  abbrev head_of : List PlainType → Option (List ℕ) → Head
  head_of args last = record { args = args; last = last }

  heads_kept : {n : ℕ} {bs cs : Blocks} → LinedBlocks K G H n bs cs → list_all (λ (h : Head). ends_well h.last) (heads bs) ≡ true → heads cs ≡ heads bs
  heads_kept lined_no_block e = refl
  heads_kept (lined_block {args = args} {ops = ops} {c = c} y d) e =
      ap (λ x. head_of (types args) x ∷ heads c) (block_end y (and_first (ended ops) _ e)) ∙ ap (λ xs. head_of (types args) (last_in ops) ∷ xs) (heads_kept d (and_second (ended ops) _ e))

  regions_heads_kept : {n : ℕ} {rs ss : Regions} → LinedRegions K G H n rs ss → list_all (λ hs. list_all (λ (h : Head). ends_well h.last) hs) (regions_heads rs) ≡ true → regions_heads ss ≡ regions_heads rs
  regions_heads_kept lined_no_region e = refl
  regions_heads_kept (lined_region {b = b} {s = s} y d) e =
      ap (λ x. x ∷ regions_heads s) (heads_kept y (and_first (list_all (λ (h : Head). ends_well h.last) (heads b)) _ e))
      ∙ ap (λ xs. heads b ∷ xs) (regions_heads_kept d (and_second (list_all (λ (h : Head). ends_well h.last) (heads b)) _ e))

  -- targets
  abbrev args_at : Option PlainBlock → Option (List PlainType)
  args_at o = option_map (λ (b : PlainBlock). types b.args) o

  args_kept : {n : ℕ} {bs cs : Blocks} (l : ℕ) → LinedBlocks K G H n bs cs → args_at (block_of l cs) ≡ args_at (block_of l bs)
  args_kept l lined_no_block = refl
  args_kept l (lined_block {l = m} {args = args} {ops = ops} {qs = qs} {b = b} {c = c} y d) = go (m == l) (args_kept l d)
    where
      go : (x : Bool) → args_at (block_of l c) ≡ args_at (block_of l b)
          → args_at (if x then Some (record { label = m; args = args; ops = qs }) else block_of l c) ≡ args_at (if x then Some (record { label = m; args = args; ops = ops }) else block_of l b)
      go true e = refl
      go false e = e

  first_kept : {n : ℕ} {bs cs : Blocks} (l : ℕ) → LinedBlocks K G H n bs cs → is_first l cs ≡ is_first l bs
  first_kept l lined_no_block = refl
  first_kept l (lined_block y d) = refl

  target_kept : {n : ℕ} {bs cs : Blocks} → LinedBlocks K G H n bs cs → (l : ℕ) → target cs l ≡ target bs l
  target_kept {bs = bs} {cs = cs} d l =
      ap (λ x. target_of x (is_first l cs)) (args_kept l d) ∙ ap (λ x. target_of (args_at (block_of l bs)) x) (first_kept l d)
    where
      target_of : Option (List PlainType) → Bool → Target
      target_of args first = record { args = args; first = first }

  facts_kept : (h : Option Holder) (bs cs : Blocks) (rest more : Ops) (k : Kind) (rs : Values) (os ls : List ℕ) (r s : Regions) → AllOf (λ x. S x ≡ T x) os → ((l : ℕ) → target cs l ≡ target bs l) → regions_heads s ≡ regions_heads r → is_end more ≡ is_end rest
      → facts_of S h cs more (op k rs os s ls) ≡ facts_of T h bs rest (op k rs os r ls)
  facts_kept h bs cs rest more k rs os ls r s same to heads_same end =
      ap (λ x. facts_with k x (types rs) (map (target cs) ls) (regions_heads s) h (is_end more)) (same_operands S T os same)
      ∙ ap (λ x. facts_with k (map T os) (types rs) x (regions_heads s) h (is_end more)) (targets ls)
      ∙ ap (λ x. facts_with k (map T os) (types rs) (map (target bs) ls) x h (is_end more)) heads_same
      ∙ ap (λ x. facts_with k (map T os) (types rs) (map (target bs) ls) (regions_heads r) h x) end
    where
      targets : (ms : List ℕ) → map (target cs) ms ≡ map (target bs) ms
      targets [] = refl
      targets (m ∷ ms) = ap (λ t. t ∷ map (target cs) ms) (to m) ∙ ap (λ ts. target bs m ∷ ts) (targets ms)

  abbrev holder_with : Kind → List PlainType → List PlainType → ℕ → Holder
  holder_with k operands results n = record { name = k.name; props = k.props; operands = operands; results = results; region = n }

  mutual
    ops_tests : {n : ℕ} {os ps : Ops} (c : Functions) (h : Option Holder) (bs cs : Blocks) (was labels : List ℕ) (more : Values) → LinedOps K G H n os ps → ((l : ℕ) → target cs l ≡ target bs l)
        → ((x : ℕ) → has x was ≡ true → S x ≡ T x) → ((x : ℕ) (t : PlainType) → HasValue x t (ops_values ps more) → S x ≡ t) → are_formed_ops was labels os ≡ true → KeptOps c T h bs os → KeptOps c S h cs ps
    ops_tests c h bs cs was labels more lined_end to agree inside e kept = tt
    ops_tests c h bs cs was labels more (stays {k = k} {rs = rs} {os = os} {ls = ls} {r = r} {s = s} {rest = rest} {more = after} _ y d) to agree inside e kept =
        let here : is_formed_op was labels (op k rs os r ls) ≡ true = and_first (is_formed_op was labels (op k rs os r ls)) _ e in
        let parts = and_second (is_inner_name k.name) _ here in
        let operands : AllOf (λ x. S x ≡ T x) os = all_agree was os agree (operands_defined was labels (op k rs os r ls) here) in
        let terminator : keeps c (facts_of T h bs rest (op k rs os r ls)) rule.Terminator ≡ true = kept.0.0 rule.Terminator in (
          (
            λ q. subst (λ f. keeps c f q ≡ true)
                (sym (facts_kept h bs cs rest after k rs os ls r s operands to (regions_heads_kept y (and_first _ _ terminator)) (end_kept d))) (kept.0.0 q),
            regions_tests c (holds T (op k rs os r ls)) (holds S (op k rs os s ls)) 0 was (ops_values after more) y (λ m. ap (λ x. holder_with k x (types rs) m) (same_operands S T os operands)) agree
                (λ x t v. inside x t (value_right x t rs (regions_values s (ops_values after more)) v)) (and_second (is_formed_here was labels k rs os ls) _ parts) kept.0.1,
          ),
          ops_tests c h bs cs was labels more d to agree (λ x t v. inside x t (value_right x t rs (regions_values s (ops_values after more)) (behind_regions x t s (ops_values after more) v)))
              (and_second (is_formed_op was labels (op k rs os r ls)) _ e) kept.1,
        )
    ops_tests c h bs cs was labels more (swaps {n = n} {o = o} l {rest = rest} {more = after} g d) to agree inside e kept =
        line_kept c S h cs l after (steps_bare Old (results_of o) (operands_of o) [] l (line n o l g).steps) (keeping n o l g).none
        ((fitting n o l g).fits S (λ x a. agree x (has_of (λ y. has y was ≡ true) x (operands_of o) (operands_defined was labels o (and_first (is_formed_op was labels o) _ e)) a)) (λ x t v. inside x t (list_value x t l after more v)))
        (ops_tests c h bs cs was labels more d to agree (λ x t v. inside x t (tail_value x t l after more v)) (and_second (is_formed_op was labels o) _ e) kept.1)
    ops_tests c h bs cs was labels more (turns {n = n} {o = o} l t x d) to agree inside e kept = absurd (no_turn n o l t x)

    regions_tests : {n : ℕ} {rs ss : Regions} (c : Functions) (hold other : ℕ → Holder) (m : ℕ) (was : List ℕ) (more : Values) → LinedRegions K G H n rs ss → ((i : ℕ) → other i ≡ hold i)
        → ((x : ℕ) → has x was ≡ true → S x ≡ T x) → ((x : ℕ) (t : PlainType) → HasValue x t (regions_values ss more) → S x ≡ t) → are_formed_regions was rs ≡ true → KeptRegions c T hold m rs → KeptRegions c S other m ss
    regions_tests c hold other m was more lined_no_region same agree inside e kept = tt
    regions_tests c hold other m was more (lined_region {b = b} {c = d} {r = r} {s = s} y z) same agree inside e kept = (
      subst (λ x. KeptBlocks c S (Some x) d d) (sym (same m))
          (blocks_tests c (Some (hold m)) b d was (own_labels b) (regions_values s more) y (target_kept y) agree inside (and_first (are_formed_blocks was (own_labels b) b) _ e) kept.0),
      regions_tests c hold other (m + 1) was more z same agree (λ x t v. inside x t (behind_blocks x t d (regions_values s more) v)) (and_second (are_formed_blocks was (own_labels b) b) _ e) kept.1,
    )

    blocks_tests : {n : ℕ} {xs ys : Blocks} (c : Functions) (h : Option Holder) (bs cs : Blocks) (was labels : List ℕ) (more : Values) → LinedBlocks K G H n xs ys → ((l : ℕ) → target cs l ≡ target bs l)
        → ((x : ℕ) → has x was ≡ true → S x ≡ T x) → ((x : ℕ) (t : PlainType) → HasValue x t (blocks_values ys more) → S x ≡ t) → are_formed_blocks was labels xs ≡ true → KeptBlocks c T h bs xs → KeptBlocks c S h cs ys
    blocks_tests c h bs cs was labels more lined_no_block to agree inside e kept = tt
    blocks_tests c h bs cs was labels more (lined_block {args = args} {ops = ops} {qs = qs} {b = b} {c = d} y z) to agree inside e kept =
        let parts = and_second (are_formed_values args) _ e in (
          ops_tests c h bs cs was labels (blocks_values d more) y to agree (λ x t v. inside x t (value_right x t args (ops_values qs (blocks_values d more)) v)) (and_first (are_formed_ops was labels ops) _ parts) kept.0,
          blocks_tests c h bs cs was labels more z to agree (λ x t v. inside x t (value_right x t args (ops_values qs (blocks_values d more)) (behind_ops x t qs (blocks_values d more) v))) (and_second (are_formed_ops was labels ops) _ parts) kept.1,
        )

  -- a function in whose regions operations are replaced keeps the tests
  pub lined_tests : {n : ℕ} (c : Functions) (k : Kind) (rs : Values) (os ls : List ℕ) {r s : Regions} (was : List ℕ) → LinedRegions K G H n r s → ((x : ℕ) → has x was ≡ true → S x ≡ T x) → ((x : ℕ) (t : PlainType) → HasValue x t (regions_values s []) → S x ≡ t)
      → is_formed_here was [] k rs os ls ≡ true → are_formed_regions was r ≡ true → KeptOp c T None end_of_blocks end_of_ops (op k rs os r ls) → KeptOp c S None end_of_blocks end_of_ops (op k rs os s ls)
  lined_tests c k rs os ls {r = r} {s = s} was y agree inside e formed kept =
      let operands : AllOf (λ x. S x ≡ T x) os = all_agree was os agree (all_true (λ v. has v was) os (and_first (list_all (λ v. has v was) os) _ e)) in
      let terminator : keeps c (facts_of T None end_of_blocks end_of_ops (op k rs os r ls)) rule.Terminator ≡ true = kept.0 rule.Terminator in (
        λ q. subst (λ f. keeps c f q ≡ true)
            (sym (facts_kept None end_of_blocks end_of_blocks end_of_ops end_of_ops k rs os ls r s operands (λ l. refl) (regions_heads_kept y (and_first _ _ terminator)) refl)) (kept.0 q),
        regions_tests c (holds T (op k rs os r ls)) (holds S (op k rs os s ls)) 0 was [] y (λ m. ap (λ x. holder_with k x (types rs) m) (same_operands S T os operands)) agree inside formed kept.1,
      )
