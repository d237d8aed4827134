-- Where branches are converted, casts and branches keep the rules on numbers, and their numbers are old or new.
use Rattle.std.proofs.Common.{◌≡◌, ℕ, ◌+◌, List, [], ◌∷◌, Option, Some, None, refl, ap}
use Rattle.plain_tree.specs.Types.{PlainType}
use Rattle.plain_tree.specs.Ops.{Kind, Op, op, Ops, more_ops, Regions, Blocks, Values}
use Rattle.rule_model.specs.Words.{AllOf}
use Rattle.rule_model.specs.Rows.{ends_block_as}
use Rattle.conversion_model.specs.Types.{new_type}
use Rattle.conversion_model.specs.Targets.{operands_of}
use Rattle.conversion_model.specs.Fresh.{EachBlock, EachOf, EachOp, EachOps, EachRegion, EachValue}
use Rattle.block_rules.specs.Branches.{converted_operands, either_number, fronts, next, put_cast}
use Rattle.line_rules.specs.Lines.{LinedBlocks, LinedOps, LinedRegions, lined_block, lined_end, lined_no_block, lined_no_region, lined_region, put_ops, stays, swaps, Turn, TurnKeeps, TurnRanks, turns}
use Rattle.block_rules.proofs.BranchLines.{fronts_formed, fronts_ranks, fronts_stay, fronts_steps, operands_bound, operands_low, room}
use Rattle.block_rules.proofs.BranchTurns.{a_turn, BranchTurns}
use Rattle.fitting_rows.proofs.FitShapes.{Width}

module _ (bits : ℕ) (T : ℕ → PlainType) (new : ℕ → ℕ → ℕ) (at : ℕ → List ℕ) where
  pub turn_kept : (Old : ℕ → Type 0) (n : ℕ) (o : Op) (l : List Op) (t : Op) → ((x j : ℕ) → Old x → x ≡ new n j → ⊥) → BranchTurns bits T new at n o l t → Turn Old o l t
  turn_kept Old n o l t fresh (a_turn k os ls name props goes is good) = record {
    steps = fronts_steps bits T (new n) Old os os [] 0 fresh (λ x h. h);
    bare = refl;
    same_end = ap ends_block_as goes.same;
    successors = refl;
    none = refl;
    was_none = refl;
    operands = operands_bound bits T (new n) os os 0 (λ x h. h);
  }

  pub turn_ranks : (n : ℕ) (o : Op) (l : List Op) (t : Op) → BranchTurns bits T new at n o l t → TurnRanks (new n) o l t
  turn_ranks n o l t (a_turn k os ls name props goes is good) = record {
    room = room bits T (new n) 0 os;
    ranks = fronts_ranks bits T (new n) os os 0 (λ x h. h);
    bare = refl;
    none = refl;
    operands = operands_low bits T (new n) os os 0 (λ x h. h);
  }

  pub turn_at : (n : ℕ) (o : Op) (l : List Op) (t : Op) → BranchTurns bits T new at n o l t → at n ≡ operands_of o
  turn_at n o l t (a_turn k os ls name props goes is good) = is

  pub turn_keeps : Width bits → (n : ℕ) (o : Op) (l : List Op) (t : Op) → BranchTurns bits T new at n o l t → TurnKeeps o l t
  turn_keeps w n o l t (a_turn k os ls name props goes is good) = record {
    bare = refl;
    values = refl;
    formed = fronts_formed bits T (new n) w os 0 good;
    none = fronts_stay bits T (new n) os 0;
    last = (goes.inner, refl, goes.formed, refl);
  }

  -- Numbers that are old or new

  module _ (Old OldLabel P Q : ℕ → Type 0) (old : (x : ℕ) → Old x → P x) (old_label : (l : ℕ) → OldLabel l → Q l) (made : (n j : ℕ) → P (new n j)) where
    each_to : (ns : List ℕ) → EachOf Old ns → EachOf P ns
    each_to [] e = tt
    each_to (n ∷ ns) e = (old n e.0, each_to ns e.1)

    labels_to : (ns : List ℕ) → EachOf OldLabel ns → EachOf Q ns
    labels_to [] e = tt
    labels_to (n ∷ ns) e = (old_label n e.0, labels_to ns e.1)

    values_to : (vs : Values) → EachValue Old vs → EachValue P vs
    values_to [] e = tt
    values_to (v ∷ vs) e = (old v.0 e.0, values_to vs e.1)

    fronts_each : (n m : ℕ) (os : List ℕ) → EachOf Old os → AllOf (EachOp P Q) (fronts bits T (new n) m os)
    fronts_each n m [] e = tt
    fronts_each n m (x ∷ os) e = go (new_type bits (T x)) (λ j. fronts_each n j os e.1)
      where
        go : (c : Option PlainType) → ((j : ℕ) → AllOf (EachOp P Q) (fronts bits T (new n) j os)) → AllOf (EachOp P Q) (put_cast (new n m) x c (fronts bits T (new n) (next m c) os))
        go None f = f (m + 0)
        go (Some u) f = (((made n m, tt), (old x e.0, tt), tt, tt), f (m + 1))

    operands_each : (n m : ℕ) (os : List ℕ) → EachOf Old os → EachOf P (converted_operands bits T (new n) m os)
    operands_each n m [] e = tt
    operands_each n m (x ∷ os) e = go (new_type bits (T x)) (λ j. operands_each n j os e.1)
      where
        go : (c : Option PlainType) → ((j : ℕ) → EachOf P (converted_operands bits T (new n) j os)) → EachOf P (either_number (new n m) x c ∷ converted_operands bits T (new n) (next m c) os)
        go None f = (old x e.0, f (m + 0))
        go (Some u) f = (made n m, f (m + 1))

    put_each : (l : List Op) (tail : Ops) → AllOf (EachOp P Q) l → EachOps P Q tail → EachOps P Q (put_ops l tail)
    put_each [] tail all e = e
    put_each (p ∷ l) tail all e = (all.0, put_each l tail all.1 e)

    turn_each : (n : ℕ) (o : Op) (l : List Op) (t : Op) (tail : Ops) → BranchTurns bits T new at n o l t → EachOp Old OldLabel o → EachOps P Q tail → EachOps P Q (put_ops l (more_ops t tail))
    turn_each n o l t tail (a_turn k os ls name props goes is good) e rest = put_each (fronts bits T (new n) 0 os) _ (fronts_each n 0 os e.1) ((tt, operands_each n 0 os e.1, tt, labels_to ls e.3), rest)

    module _ (K : ℕ → Op → Type 0) (G : ℕ → Op → List Op → Type 0) (H : ℕ → Op → List Op → Op → Type 0) (no_line : (n : ℕ) (o : Op) (l : List Op) → G n o l → ⊥) (turn : (n : ℕ) (o : Op) (l : List Op) (t : Op) → H n o l t → BranchTurns bits T new at n o l t) where
      mutual
        ops_each : {n : ℕ} {os ps : Ops} → LinedOps K G H n os ps → EachOps Old OldLabel os → EachOps P Q ps
        ops_each lined_end e = tt
        ops_each (stays {rs = rs} {os = os} {ls = ls} _ y d) e = ((values_to rs e.0.0, each_to os e.0.1, regions_each y e.0.2, labels_to ls e.0.3), ops_each d e.1)
        ops_each (swaps {n = n} {o = o} l g d) e = absurd (no_line n o l g)
        ops_each (turns {n = n} {o = o} l t {more = more} h d) e = turn_each n o l t more (turn n o l t h) e.0 (ops_each d e.1)

        pub regions_each : {n : ℕ} {rs ss : Regions} → LinedRegions K G H n rs ss → EachRegion Old OldLabel rs → EachRegion P Q ss
        regions_each lined_no_region e = tt
        regions_each (lined_region y d) e = (blocks_each y e.0, regions_each d e.1)

        blocks_each : {n : ℕ} {bs cs : Blocks} → LinedBlocks K G H n bs cs → EachBlock Old OldLabel bs → EachBlock P Q cs
        blocks_each lined_no_block e = tt
        blocks_each (lined_block {l = l} {args = args} y d) e = (old_label l e.0, values_to args e.1, ops_each y e.2, blocks_each d e.3)

      pub function_each : {n : ℕ} (k : Kind) (rs : Values) (os ls : List ℕ) {r s : Regions} → LinedRegions K G H n r s → EachOp Old OldLabel (op k rs os r ls) → EachOp P Q (op k rs os s ls)
      function_each k rs os ls y e = (values_to rs e.0, each_to os e.1, regions_each y e.2, labels_to ls e.3)
