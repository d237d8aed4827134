-- The rules that are tests are kept where branches and the arguments of blocks get converted types.
use Rattle.std.proofs.Common.{◌≡◌, ℕ, ◌+◌, ◌==◌, Bool, true, false, List, [], ◌∷◌, Option, Some, None, refl, sym, ap, ◌∙◌, subst, map, inl, inr, true≢false}
use Rattle.std.specs.Prelude.{◌||◌, if◌then◌else◌}
use Rattle.std.specs.List.{list_all}
use Rattle.std.specs.Option.{option_map}
use Rattle.std.proofs.lemmas.Option.{none-some}
use Rattle.plain_tree.specs.Types.{PlainType}
use Rattle.plain_tree.specs.ValueTypes.{is_own, is_value}
use Rattle.plain_tree.specs.Ops.{Kind, Op, op, Ops, end_of_ops, more_ops, Regions, end_of_regions, Blocks, end_of_blocks, PlainBlock, Values}
use Rattle.plain_tree.specs.Values.{blocks_values, ops_values, regions_values}
use Rattle.rule_model.specs.declared.rules.Rule.TheVariants as rule
use Rattle.rule_model.specs.Words.{AllOf, block_of, has, name_of, types}
use Rattle.rule_model.specs.Rows.{shape_of}
use Rattle.rule_model.specs.Facts.{facts_of, Functions, Head, heads, Holder, is_end, last_in, last_name, regions_heads, target}
use Rattle.rule_model.specs.Control.{ends_well}
use Rattle.rule_model.specs.Formed.{are_formed_blocks, are_formed_ops, are_formed_regions, are_formed_values, is_formed_here, is_formed_op, is_formed_type, is_inner_name, own_labels}
use Rattle.rule_model.specs.Rules.{keeps}
use Rattle.rule_model.specs.Sites.{holds}
use Rattle.rule_model.proofs.Numbers.{and_first, and_second, has_of, itself, some_same}
use Rattle.conversion_model.specs.Types.{becomes, new_type, or_same}
use Rattle.conversion_model.specs.Targets.{operands_of}
use Rattle.conversion_model.specs.Conversion.{blocks_blocks, cast_back, cast_op, casts_back, new_argument, new_arguments, op_blocks, ops_blocks, regions_blocks, regions_of}
use Rattle.block_rules.specs.Branches.{branch, converted_operands, fronts}
use Rattle.line_rules.specs.Fits.{Fits}
use Rattle.line_rules.specs.Kept.{KeepsAll, KeptBlocks, KeptOp, KeptOps, KeptRegions}
use Rattle.line_rules.specs.Lines.{HasValue, LinedBlocks, LinedOps, LinedRegions, lined_block, lined_end, lined_no_block, lined_no_region, lined_region, put_ops, stays, swaps, turns}
use Rattle.fitting_rows.specs.Typed.{cast_shape}
use Rattle.block_rules.proofs.AlikeTests.{HeadsAlike, LaterAlike, RegionsAlike, SameEnd, stays_keeps, TargetMade, TargetsMade, turned_keeps}
use Rattle.block_rules.proofs.BlockFormed.{behind_front}
use Rattle.block_rules.proofs.BranchLines.{fronts_bare, fronts_fit, fronts_stay, operands_made}
use Rattle.block_rules.proofs.BranchTurns.{a_turn, BranchTurns, is_branch_form}
use Rattle.fitting_rows.proofs.FitShapes.{becomes_own, casts_fit, good_own, Width}
use Rattle.fitting_rows.proofs.GoodValues.{values_in}
use Rattle.line_rules.proofs.LinedFormed.{operands_defined}
use Rattle.line_rules.proofs.LinedTests.{all_agree, facts_with, last_put, line_kept, one_kept, same_operands}
use Rattle.line_rules.proofs.LinedValues.{behind_blocks, behind_ops, behind_regions, list_value, tail_value}
use Rattle.line_rules.proofs.Once.{value_left, value_right}
use Rattle.line_rules.proofs.SameTypes.{and_true}
use Rattle.fitting_rows.proofs.SourceFits.{GoodType}

module _ (bits : ℕ) (w : Width bits) (arg new : ℕ → ℕ → ℕ) (T S : ℕ → PlainType) (at : ℕ → List ℕ) (K : ℕ → Op → Type 0) (G : ℕ → Op → List Op → Type 0) (H : ℕ → Op → List Op → Op → Type 0)
    (own : (n : ℕ) (o : Op) → K n o → is_branch_form (shape_of (name_of o)) ≡ true → list_all is_own (map T (operands_of o)) ≡ true) (no_line : (n : ℕ) (o : Op) (l : List Op) → G n o l → ⊥)
    (turn : (n : ℕ) (o : Op) (l : List Op) (t : Op) → H n o l t → BranchTurns bits T new at n o l t) where
  abbrev ops_at : Ops → Ops
  ops_at os = ops_blocks bits arg os

  abbrev regions_at : Regions → Regions
  regions_at rs = regions_blocks bits arg rs

  abbrev blocks_at : Bool → Blocks → Blocks
  blocks_at first bs = blocks_blocks bits arg first bs

  -- Lines have no blocks

  bare_blocks : (p : Op) → regions_of p ≡ end_of_regions → op_blocks bits arg p ≡ p
  bare_blocks (op k rs os r ls) e = ap (λ x. op k rs os (regions_at x) ls) e ∙ ap (λ x. op k rs os x ls) (sym e)

  put_blocks : (l : List Op) (tail : Ops) → AllOf (λ p. regions_of p ≡ end_of_regions) l → ops_at (put_ops l tail) ≡ put_ops l (ops_at tail)
  put_blocks [] tail bare = refl
  put_blocks (p ∷ l) tail bare = ap (λ o. more_ops o (ops_at (put_ops l tail))) (bare_blocks p bare.0) ∙ ap (more_ops p) (put_blocks l tail bare.1)

  turn_blocks : (n : ℕ) (o : Op) (l : List Op) (t : Op) (more : Ops) → BranchTurns bits T new at n o l t → ops_at (put_ops l (more_ops t more)) ≡ put_ops l (more_ops t (ops_at more))
  turn_blocks n o l t more (a_turn k os ls name props goes is each) =
      put_blocks (fronts bits T (new n) 0 os) (more_ops (branch name props (converted_operands bits T (new n) 0 os) ls) more) (fronts_bare bits T (new n) os 0)

  turn_shape : (n : ℕ) (o : Op) (l : List Op) (t : Op) → BranchTurns bits T new at n o l t → shape_of (name_of t) ≡ shape_of (name_of o)
  turn_shape n o l t (a_turn k os ls name props goes is each) = goes.same

  -- Last operations

  last_alike : {n : ℕ} {os ps : Ops} (before after : List ℕ) → LinedOps K G H n os ps → shape_of after ≡ shape_of before → shape_of (last_name after (ops_at ps)) ≡ shape_of (last_name before os)
  last_alike before after lined_end same = same
  last_alike before after (stays {k = k} _ y d) same = last_alike k.name k.name d refl
  last_alike before after (swaps {n = n} {o = o} l g d) same = absurd (no_line n o l g)
  last_alike before after (turns {n = n} {o = o} l t {more = more} h d) same =
      ap (λ x. shape_of (last_name after x)) (turn_blocks n o l t more (turn n o l t h)) ∙ ap shape_of (last_put after l (more_ops t (ops_at more)))
      ∙ last_alike (name_of o) (name_of t) d (turn_shape n o l t (turn n o l t h))

  last_in_put : (l : List Op) (t : Op) (more : Ops) → last_in (put_ops l (more_ops t more)) ≡ Some (last_name (name_of t) more)
  last_in_put [] t more = refl
  last_in_put (p ∷ l) t more = ap Some (last_put (name_of p) l (more_ops t more))

  ops_end : {n : ℕ} {os ps : Ops} → LinedOps K G H n os ps → SameEnd (last_in os) (last_in (ops_at ps))
  ops_end lined_end = refl
  ops_end (stays {k = k} _ y d) = ap Some (last_alike k.name k.name d refl)
  ops_end (swaps {n = n} {o = o} l g d) = absurd (no_line n o l g)
  ops_end (turns {n = n} {o = o} l t {more = more} h d) =
      ap (λ x. option_map shape_of (last_in x)) (turn_blocks n o l t more (turn n o l t h)) ∙ ap (option_map shape_of) (last_in_put l t (ops_at more)) ∙ ap Some (last_alike (name_of o) (name_of t) d (turn_shape n o l t (turn n o l t h)))

  end_alike : {n : ℕ} {os ps : Ops} → LinedOps K G H n os ps → is_end (ops_at ps) ≡ is_end os
  end_alike lined_end = refl
  end_alike (stays _ y d) = refl
  end_alike (swaps {n = n} {o = o} l g d) = absurd (no_line n o l g)
  end_alike (turns {n = n} {o = o} l t {more = more} h d) = ap is_end (turn_blocks n o l t more (turn n o l t h)) ∙ put_some l
    where
      put_some : (m : List Op) → is_end (put_ops m (more_ops t (ops_at more))) ≡ false
      put_some [] = refl
      put_some (p ∷ m) = refl

  -- casts in front of operations change nothing at the end
  any_last : (name before : List ℕ) (os : Ops) → last_in os ≡ Some name → last_name before os ≡ name
  any_last name before end_of_ops e = absurd (none-some name e)
  any_last name before (more_ops o rest) e = some_same (last_name (name_of o) rest) name e

  front_last : (l k : ℕ) (args : Values) (qs : Ops) (name : List ℕ) → last_in qs ≡ Some name → last_in (casts_back bits (arg l) k args qs) ≡ Some name
  front_last l k [] qs name e = e
  front_last l k (a ∷ args) qs name e = go (new_type bits a.1) (front_last l (k + 1) args qs name e)
    where
      go : (c : Option PlainType) → last_in (casts_back bits (arg l) (k + 1) args qs) ≡ Some name → last_in (cast_back (arg l k) a c (casts_back bits (arg l) (k + 1) args qs)) ≡ Some name
      go None f = f
      go (Some u) f = ap Some (any_last name (name_of (cast_op (arg l k) a)) (casts_back bits (arg l) (k + 1) args qs) f)

  front_end : (l : ℕ) (args : Values) (a : Option (List ℕ)) (qs : Ops) → ends_well a ≡ true → SameEnd a (last_in qs) → SameEnd a (last_in (casts_back bits (arg l) 0 args qs))
  front_end l args None qs e same = absurd (true≢false (sym e))
  front_end l args (Some name) qs e same = go (last_in qs) refl same
    where
      go : (x : Option (List ℕ)) → last_in qs ≡ x → SameEnd (Some name) x → SameEnd (Some name) (last_in (casts_back bits (arg l) 0 args qs))
      go None is f = absurd (none-some (shape_of name) f)
      go (Some other) is f = ap (option_map shape_of) (front_last l 0 args qs other is) ∙ f

  -- Arguments

  args_types : (l k : ℕ) (args : Values) → types (new_arguments bits (arg l) k args) ≡ map (becomes bits) (types args)
  args_types l k [] = refl
  args_types l k (a ∷ args) = go (new_type bits a.1) (args_types l (k + 1) args)
    where
      go : (c : Option PlainType) → types (new_arguments bits (arg l) (k + 1) args) ≡ map (becomes bits) (types args) → types (new_argument (arg l k) a c ∷ new_arguments bits (arg l) (k + 1) args) ≡ or_same a.1 c ∷ map (becomes bits) (types args)
      go None e = ap (λ ts. a.1 ∷ ts) e
      go (Some u) e = ap (λ ts. u ∷ ts) e

  args_values : (l k : ℕ) (args : Values) → list_all is_value (types args) ≡ true → are_formed_values args ≡ true → list_all is_value (types (new_arguments bits (arg l) k args)) ≡ true
  args_values l k args e f = ap (list_all is_value) (args_types l k args) ∙ each args e f
    where
      each : (vs : Values) → list_all is_value (types vs) ≡ true → are_formed_values vs ≡ true → list_all is_value (map (becomes bits) (types vs)) ≡ true
      each [] a b = refl
      each (v ∷ vs) a b =
          and_true (is_value (becomes bits v.1)) _ (good_own (becomes bits v.1) (becomes_own bits v.1 w (record { value = and_first (is_value v.1) _ a; formed = and_first (is_formed_type v.1) _ b }))).value
          (each vs (and_second (is_value v.1) _ a) (and_second (is_formed_type v.1) _ b))

  abbrev head_values : List Head → Bool
  head_values hs = list_all (λ (h : Head). list_all is_value h.args) hs

  abbrev heads_well : List Head → Bool
  heads_well hs = list_all (λ (h : Head). ends_well h.last) hs

  later_alike : {n : ℕ} {bs cs : Blocks} (was labels : List ℕ) → LinedBlocks K G H n bs cs → heads_well (heads bs) ≡ true → head_values (heads bs) ≡ true → are_formed_blocks was labels bs ≡ true → LaterAlike (heads bs) (heads (blocks_at false cs))
  later_alike was labels lined_no_block e v f = tt
  later_alike was labels (lined_block {l = l} {args = args} {ops = ops} {qs = qs} y d) e v f = (
    front_end l args (last_in ops) (ops_at qs) (and_first (ends_well (last_in ops)) _ e) (ops_end y),
    args_values l 0 args (and_first (list_all is_value (types args)) _ v) (and_first (are_formed_values args) _ f),
    later_alike was labels d (and_second (ends_well (last_in ops)) _ e) (and_second (list_all is_value (types args)) _ v) (and_second (are_formed_ops was labels ops) _ (and_second (are_formed_values args) _ f)),
  )

  heads_alike : {n : ℕ} {bs cs : Blocks} (was labels : List ℕ) → LinedBlocks K G H n bs cs → heads_well (heads bs) ≡ true → head_values (heads bs) ≡ true → are_formed_blocks was labels bs ≡ true → HeadsAlike (heads bs) (heads (blocks_at true cs))
  heads_alike was labels lined_no_block e v f = tt
  heads_alike was labels (lined_block {args = args} {ops = ops} y d) e v f = (
    ops_end y,
    refl,
    later_alike was labels d (and_second (ends_well (last_in ops)) _ e) (and_second (list_all is_value (types args)) _ v) (and_second (are_formed_ops was labels ops) _ (and_second (are_formed_values args) _ f)),
  )

  regions_alike : {n : ℕ} {rs ss : Regions} (was : List ℕ) → LinedRegions K G H n rs ss → list_all heads_well (regions_heads rs) ≡ true → list_all head_values (regions_heads rs) ≡ true → are_formed_regions was rs ≡ true → RegionsAlike (regions_heads rs) (regions_heads (regions_at ss))
  regions_alike was lined_no_region e v f = tt
  regions_alike was (lined_region {b = b} y d) e v f = (
    heads_alike was (own_labels b) y (and_first (heads_well (heads b)) _ e) (and_first (head_values (heads b)) _ v) (and_first (are_formed_blocks was (own_labels b) b) _ f),
    regions_alike was d (and_second (heads_well (heads b)) _ e) (and_second (head_values (heads b)) _ v) (and_second (are_formed_blocks was (own_labels b) b) _ f),
  )

  -- Targets

  abbrev args_at : Option PlainBlock → Option (List PlainType)
  args_at o = option_map (λ (b : PlainBlock). types b.args) o

  abbrev block_with : ℕ → Values → Ops → PlainBlock
  block_with l args ops = record { label = l; args = args; ops = ops }

  later_args : {n : ℕ} {bs cs : Blocks} (l : ℕ) → LinedBlocks K G H n bs cs → args_at (block_of l (blocks_at false cs)) ≡ option_map (map (becomes bits)) (args_at (block_of l bs))
  later_args l lined_no_block = refl
  later_args l (lined_block {l = m} {args = args} {ops = ops} {qs = qs} {b = b} {c = c} y d) = go (m == l) (later_args l d)
    where
      go : (x : Bool) → args_at (block_of l (blocks_at false c)) ≡ option_map (map (becomes bits)) (args_at (block_of l b))
          → args_at (if x then Some (block_with m (new_arguments bits (arg m) 0 args) (casts_back bits (arg m) 0 args (ops_at qs))) else block_of l (blocks_at false c))
          ≡ option_map (map (becomes bits)) (args_at (if x then Some (block_with m args ops) else block_of l b))
      go true e = ap Some (args_types m 0 args)
      go false e = e

  target_made : {n : ℕ} {bs cs : Blocks} (l : ℕ) → LinedBlocks K G H n bs cs → TargetMade bits (target bs l) (target (blocks_at true cs) l)
  target_made l lined_no_block = record { first = refl; args = λ e. refl }
  target_made l (lined_block {l = m} {args = args} {ops = ops} {qs = qs} {b = b} {c = c} y d) = record { first = refl; args = λ e. go (m == l) e (later_args l d) }
    where
      go : (x : Bool) → x ≡ false → args_at (block_of l (blocks_at false c)) ≡ option_map (map (becomes bits)) (args_at (block_of l b))
          → args_at (if x then Some (block_with m args (ops_at qs)) else block_of l (blocks_at false c)) ≡ option_map (map (becomes bits)) (args_at (if x then Some (block_with m args ops) else block_of l b))
      go true e f = absurd (true≢false e)
      go false e f = f

  targets_made : (bs cs : Blocks) → ((l : ℕ) → TargetMade bits (target bs l) (target cs l)) → (ls : List ℕ) → TargetsMade bits (map (target bs) ls) (map (target cs) ls)
  targets_made bs cs to [] = tt
  targets_made bs cs to (l ∷ ls) = (to l, targets_made bs cs to ls)

  -- Operations

  op_keeps : (c : Functions) (h : Option Holder) (bs cs : Blocks) (rest more : Ops) (k : Kind) (rs : Values) (os ls : List ℕ) (r s : Regions) → AllOf (λ x. S x ≡ T x) os → TargetsMade bits (map (target bs) ls) (map (target cs) ls) → RegionsAlike (regions_heads r) (regions_heads s)
      → is_end more ≡ is_end rest → (is_branch_form (shape_of k.name) ≡ true → list_all is_own (map T os) ≡ true) → KeepsAll c (facts_of T h bs rest (op k rs os r ls)) → KeepsAll c (facts_of S h cs more (op k rs os s ls))
  op_keeps c h bs cs rest more k rs os ls r s same made alike end all_own kept =
      subst (KeepsAll c)
      (ap (λ l. facts_with k (map T os) (types rs) (map (target cs) ls) (regions_heads s) h l) (sym end) ∙ ap (λ l. facts_with k l (types rs) (map (target cs) ls) (regions_heads s) h (is_end more)) (sym (same_operands S T os same)))
      (stays_keeps c bits k (map T os) (types rs) (map (target bs) ls) (map (target cs) ls) (regions_heads r) (regions_heads s) h (is_end rest) alike made all_own kept)

  become_values : (os : List ℕ) → ((x : ℕ) → has x os ≡ true → GoodType (T x)) → list_all is_value (map (becomes bits) (map T os)) ≡ true
  become_values [] good = refl
  become_values (x ∷ os) good =
      let g = good x (ap (λ b. b || has x os) (itself x)) in
      and_true (is_value (becomes bits (T x))) _ (good_own (becomes bits (T x)) (becomes_own bits (T x) w (record { value = g.0; formed = g.1 }))).value (become_values os (λ y h. good y (later (x == y) h)))
    where
      later : (a : Bool) {b : Bool} → b ≡ true → (a || b) ≡ true
      later true e = refl
      later false e = e

  turn_tests : (c : Functions) (h : Option Holder) (bs cs : Blocks) (rest tail : Ops) (n : ℕ) (o : Op) (l : List Op) (t : Op) (more : Values) → BranchTurns bits T new at n o l t → ((m : ℕ) → TargetMade bits (target bs m) (target cs m))
      → ((x : ℕ) → has x (operands_of o) ≡ true → S x ≡ T x) → ((x : ℕ) (u : PlainType) → HasValue x u (ops_values (put_ops l (more_ops t tail)) more) → S x ≡ u) → is_end tail ≡ is_end rest
      → KeptOp c T h bs rest o → KeptOps c S h cs tail → KeptOps c S h cs (put_ops l (more_ops t tail))
  turn_tests c h bs cs rest tail n o l t more (a_turn k os ls name props turned is each) to agree inside end kept later =
      let casts : List Op = fronts bits T (new n) 0 os in
      let operands : List ℕ = converted_operands bits T (new n) 0 os in
      let made : map S operands ≡ map (becomes bits) (map T os) = operands_made bits T (new n) S os 0 agree (λ x u v. inside x u (list_value x u casts (more_ops (branch name props operands ls) tail) more v)) in
      line_kept c S h cs casts (more_ops (branch name props operands ls) tail) (fronts_bare bits T (new n) os 0) (fronts_stay bits T (new n) os 0) (fronts_fit bits T (new n) w S os 0 agree each) (
        (
          subst (KeepsAll c)
              (ap (λ x. facts_with (record { name = name; props = props; attrs = [] }) (map (becomes bits) (map T os)) [] (map (target cs) ls) [] h x) (sym end)
              ∙ ap (λ x. facts_with (record { name = name; props = props; attrs = [] }) x [] (map (target cs) ls) [] h (is_end tail)) (sym made))
              (turned_keeps c bits k name props (map T os) (map (target bs) ls) (map (target cs) ls) h (is_end rest) turned (targets_made bs cs to ls) (become_values os each) kept.0),
          tt,
        ),
        later,
      )

  -- casts back to the arguments of a block
  front_tests : (c : Functions) (h : Option Holder) (cs : Blocks) (l k : ℕ) (args : Values) (qs : Ops) → list_all is_value (types args) ≡ true → are_formed_values args ≡ true → ((x : ℕ) (t : PlainType) → HasValue x t (new_arguments bits (arg l) k args) → S x ≡ t)
      → KeptOps c S h cs qs → KeptOps c S h cs (casts_back bits (arg l) k args qs)
  front_tests c h cs l k [] qs v f inside kept = kept
  front_tests c h cs l k (a ∷ args) qs v f inside kept =
      go (new_type bits a.1) refl inside (λ others. front_tests c h cs l (k + 1) args qs (and_second (is_value a.1) _ v) (and_second (is_formed_type a.1) _ f) others kept)
    where
      go : (o : Option PlainType) → new_type bits a.1 ≡ o → ((x : ℕ) (t : PlainType) → HasValue x t (new_argument (arg l k) a o ∷ new_arguments bits (arg l) (k + 1) args) → S x ≡ t)
          → (((x : ℕ) (t : PlainType) → HasValue x t (new_arguments bits (arg l) (k + 1) args) → S x ≡ t) → KeptOps c S h cs (casts_back bits (arg l) (k + 1) args qs)) → KeptOps c S h cs (cast_back (arg l k) a o (casts_back bits (arg l) (k + 1) args qs))
      go None e known rest = rest (λ x t b. known x t (inr b))
      go (Some u) e known rest = (
        one_kept c S h cs (casts_back bits (arg l) (k + 1) args qs) (cast_op (arg l k) a) refl refl
            (subst (λ t. Fits (cast_shape t a.1)) (sym (known (arg l k) u (inl (refl, refl)))) (casts_fit bits a.1 w (record { value = and_first (is_value a.1) _ v; formed = and_first (is_formed_type a.1) _ f }) u e).1),
        rest (λ x t b. known x t (inr b)),
      )

  abbrev holder_with : Kind → List PlainType → List PlainType → ℕ → Holder
  holder_with k operands results n = record { name = k.name; props = k.props; operands = operands; results = results; region = n }

  mutual
    ops_tests : {n : ℕ} {os ps : Ops} (c : Functions) (h : Option Holder) (bs cs : Blocks) (was labels : List ℕ) (more : Values) → LinedOps K G H n os ps → ((l : ℕ) → TargetMade bits (target bs l) (target cs l))
        → ((x : ℕ) → has x was ≡ true → S x ≡ T x) → ((x : ℕ) (t : PlainType) → HasValue x t (ops_values (ops_at ps) more) → S x ≡ t) → are_formed_ops was labels os ≡ true → KeptOps c T h bs os → KeptOps c S h cs (ops_at ps)
    ops_tests c h bs cs was labels more lined_end to agree inside e kept = tt
    ops_tests c h bs cs was labels more (stays {n = n} {k = k} {rs = rs} {os = os} {ls = ls} {r = r} {s = s} {rest = rest} {more = after} stay y d) to agree inside e kept =
        let here : is_formed_op was labels (op k rs os r ls) ≡ true = and_first (is_formed_op was labels (op k rs os r ls)) _ e in
        let parts = and_second (is_inner_name k.name) _ here in
        let formed : are_formed_regions was r ≡ true = and_second (is_formed_here was labels k rs os ls) _ parts in
        let operands : AllOf (λ x. S x ≡ T x) os = all_agree was os agree (operands_defined was labels (op k rs os r ls) here) in
        let terminator : keeps c (facts_of T h bs rest (op k rs os r ls)) rule.Terminator ≡ true = kept.0.0 rule.Terminator in
        let value : keeps c (facts_of T h bs rest (op k rs os r ls)) rule.ValueType ≡ true = kept.0.0 rule.ValueType in
        let args : values_in (regions_heads r) ≡ true = and_second (list_all is_value (types rs)) _ value in
        let behind : Values = ops_values (ops_at after) more in (
          (
            op_keeps c h bs cs rest (ops_at after) k rs os ls r (regions_at s) operands (targets_made bs cs to ls) (regions_alike was y (and_first _ _ terminator) args formed) (end_alike d) (own n (op k rs os r ls) stay) kept.0.0,
            regions_tests c (holds T (op k rs os r ls)) (holds S (op k rs os (regions_at s) ls)) 0 was behind y (λ m. ap (λ x. holder_with k x (types rs) m) (same_operands S T os operands)) agree (λ x t v. inside x t (value_right x t rs (regions_values (regions_at s) behind) v)) args formed kept.0.1,
          ),
          ops_tests c h bs cs was labels more d to agree (λ x t v. inside x t (value_right x t rs (regions_values (regions_at s) behind) (behind_regions x t (regions_at s) behind v))) (and_second (is_formed_op was labels (op k rs os r ls)) _ e) kept.1,
        )
    ops_tests c h bs cs was labels more (swaps {n = n} {o = o} l g d) to agree inside e kept = absurd (no_line n o l g)
    ops_tests c h bs cs was labels more (turns {n = n} {o = o} l t {rest = rest} {more = after} x d) to agree inside e kept =
        let split : ops_at (put_ops l (more_ops t after)) ≡ put_ops l (more_ops t (ops_at after)) = turn_blocks n o l t after (turn n o l t x) in
        let within : (y : ℕ) (u : PlainType) → HasValue y u (ops_values (put_ops l (more_ops t (ops_at after))) more) → S y ≡ u = λ y u v. inside y u (subst (λ q. HasValue y u (ops_values q more)) (sym split) v) in
        subst (KeptOps c S h cs) (sym split)
        (turn_tests c h bs cs rest (ops_at after) n o l t more (turn n o l t x) to (λ y a. agree y (has_of (λ z. has z was ≡ true) y (operands_of o) (operands_defined was labels o (and_first (is_formed_op was labels o) _ e)) a)) within (end_alike d) kept.0
        (ops_tests c h bs cs was labels more d to agree (λ y u v. within y u (tail_value y u l (more_ops t (ops_at after)) more (tail_value y u (t ∷ []) (ops_at after) more v))) (and_second (is_formed_op was labels o) _ e) kept.1))

    regions_tests : {n : ℕ} {rs ss : Regions} (c : Functions) (hold other : ℕ → Holder) (m : ℕ) (was : List ℕ) (more : Values) → LinedRegions K G H n rs ss → ((i : ℕ) → other i ≡ hold i) → ((x : ℕ) → has x was ≡ true → S x ≡ T x)
        → ((x : ℕ) (t : PlainType) → HasValue x t (regions_values (regions_at ss) more) → S x ≡ t) → values_in (regions_heads rs) ≡ true → are_formed_regions was rs ≡ true → KeptRegions c T hold m rs → KeptRegions c S other m (regions_at ss)
    regions_tests c hold other m was more lined_no_region same agree inside v e kept = tt
    regions_tests c hold other m was more (lined_region {b = b} {c = d} {r = r} {s = s} y z) same agree inside v e kept = (
      subst (λ x. KeptBlocks c S (Some x) (blocks_at true d) (blocks_at true d)) (sym (same m))
          (blocks_tests c (Some (hold m)) b (blocks_at true d) was (own_labels b) (regions_values (regions_at s) more) true y (λ l. target_made l y) agree inside (and_first (head_values (heads b)) _ v) (and_first (are_formed_blocks was (own_labels b) b) _ e) kept.0),
      regions_tests c hold other (m + 1) was more z same agree (λ x t a. inside x t (behind_blocks x t (blocks_at true d) (regions_values (regions_at s) more) a)) (and_second (head_values (heads b)) _ v) (and_second (are_formed_blocks was (own_labels b) b) _ e) kept.1,
    )

    blocks_tests : {n : ℕ} {xs ys : Blocks} (c : Functions) (h : Option Holder) (bs cs : Blocks) (was labels : List ℕ) (more : Values) (first : Bool) → LinedBlocks K G H n xs ys → ((l : ℕ) → TargetMade bits (target bs l) (target cs l)) → ((x : ℕ) → has x was ≡ true → S x ≡ T x)
        → ((x : ℕ) (t : PlainType) → HasValue x t (blocks_values (blocks_at first ys) more) → S x ≡ t) → head_values (heads xs) ≡ true → are_formed_blocks was labels xs ≡ true → KeptBlocks c T h bs xs → KeptBlocks c S h cs (blocks_at first ys)
    blocks_tests c h bs cs was labels more first lined_no_block to agree inside v e kept = tt
    blocks_tests c h bs cs was labels more true (lined_block {args = args} {ops = ops} {qs = qs} {c = d} y z) to agree inside v e kept =
        let parts = and_second (are_formed_values args) _ e in
        let behind : Values = blocks_values (blocks_at false d) more in (
          ops_tests c h bs cs was labels behind y to agree (λ x t a. inside x t (value_right x t args (ops_values (ops_at qs) behind) a)) (and_first (are_formed_ops was labels ops) _ parts) kept.0,
          blocks_tests c h bs cs was labels more false z to agree (λ x t a. inside x t (value_right x t args (ops_values (ops_at qs) behind) (behind_ops x t (ops_at qs) behind a))) (and_second (list_all is_value (types args)) _ v) (and_second (are_formed_ops was labels ops) _ parts) kept.1,
        )
    blocks_tests c h bs cs was labels more false (lined_block {l = l} {args = args} {ops = ops} {qs = qs} {c = d} y z) to agree inside v e kept =
        let parts = and_second (are_formed_values args) _ e in
        let behind : Values = blocks_values (blocks_at false d) more in
        let news : Values = new_arguments bits (arg l) 0 args in
        let front : Ops = casts_back bits (arg l) 0 args (ops_at qs) in (
          front_tests c h cs l 0 args (ops_at qs) (and_first (list_all is_value (types args)) _ v) (and_first (are_formed_values args) _ e) (λ x t a. inside x t (value_left x t news (ops_values front behind) a))
              (ops_tests c h bs cs was labels behind y to agree (λ x t a. inside x t (value_right x t news (ops_values front behind) (behind_front bits arg w x t l 0 args (ops_at qs) behind a))) (and_first (are_formed_ops was labels ops) _ parts) kept.0),
          blocks_tests c h bs cs was labels more false z to agree (λ x t a. inside x t (value_right x t news (ops_values front behind) (behind_ops x t front behind a))) (and_second (list_all is_value (types args)) _ v) (and_second (are_formed_ops was labels ops) _ parts) kept.1,
        )

  -- a function keeps the tests
  pub function_tests : {n : ℕ} (c : Functions) (k : Kind) (rs : Values) (os ls : List ℕ) {r s : Regions} (was : List ℕ) → is_branch_form (shape_of k.name) ≡ false → LinedRegions K G H n r s → ((x : ℕ) → has x was ≡ true → S x ≡ T x)
      → ((x : ℕ) (t : PlainType) → HasValue x t (regions_values (regions_at s) []) → S x ≡ t) → AllOf (λ x. has x was ≡ true) os → are_formed_regions was r ≡ true → KeptOp c T None end_of_blocks end_of_ops (op k rs os r ls)
      → KeptOp c S None end_of_blocks end_of_ops (op k rs os (regions_at s) ls)
  function_tests c k rs os ls {r = r} {s = s} was none y agree inside defined formed kept =
      let operands : AllOf (λ x. S x ≡ T x) os = all_agree was os agree defined in
      let terminator : keeps c (facts_of T None end_of_blocks end_of_ops (op k rs os r ls)) rule.Terminator ≡ true = kept.0 rule.Terminator in
      let value : keeps c (facts_of T None end_of_blocks end_of_ops (op k rs os r ls)) rule.ValueType ≡ true = kept.0 rule.ValueType in
      let args : values_in (regions_heads r) ≡ true = and_second (list_all is_value (types rs)) _ value in (
        op_keeps c None end_of_blocks end_of_blocks end_of_ops end_of_ops k rs os ls r (regions_at s) operands (targets_made end_of_blocks end_of_blocks (λ l. record { first = refl; args = λ e. refl }) ls)
            (regions_alike was y (and_first _ _ terminator) args formed) refl (λ e. absurd (true≢false (sym e ∙ none))) kept.0,
        regions_tests c (holds T (op k rs os r ls)) (holds S (op k rs os (regions_at s) ls)) 0 was [] y (λ m. ap (λ x. holder_with k x (types rs) m) (same_operands S T os operands)) agree inside args formed kept.1,
      )
