-- Renaming: paths and chains go back to paths and chains of the tree before.
use Rattle.std.proofs.Common.{◌≡◌, ℕ, ◌==◌, Bool, true, false, List, [], ◌∷◌, ◌++◌, Option, Some, refl, sym, ap, ◌∙◌, subst, inl, inr, true≢false}
use Rattle.std.specs.Prelude.{◌||◌, if◌then◌else◌}
use Rattle.std.proofs.lemmas.Option.{none-some}
use Rattle.std.proofs.lemmas.Bool.{eqb-true}
use Rattle.plain_tree.specs.Ops.{Op, op, Ops, more_ops, Regions, region, Blocks, block, PlainBlock, Values}
use Rattle.plain_tree.specs.Renamings.{RenAll, none_all, more_all, RenValues, none_values, more_values, RenOp, ren_op, RenOps, ops_ended, ren_more, RenRegions, regions_ended, ren_region, RenBlocks, blocks_ended, ren_block, OneToOne}
use Rattle.rule_model.specs.Words.{has, numbers, results_of, successors_of, block_of, binds, AnyOf}
use Rattle.rule_model.specs.Rows.{is_terminator}
use Rattle.rule_model.specs.Paths.{Either, ends, Frame, Reach, enters, passes, jumps, Undefined}
use Rattle.rule_model.specs.Chains.{Chain, uses, by_way_of, op_operands, ops_operands, regions_operands, blocks_operands, op_used, ops_used, regions_used, blocks_used}
use Rattle.rule_model.proofs.Numbers.{itself, or_right, some_same}
use Rattle.rule_model.proofs.RenamedFacts.{all_joined, binds_same, block_found, first_found, has_same, name_same, numbers_ren, RenBlock, RenFound, none_found, one_found, results_ren, successors_ren}

-- A number that goes with another one is the only one

pub one_number : {R : ℕ → ℕ → Type 0} (one : OneToOne R) (m n k : ℕ) → R m k → R n k → m ≡ n
one_number one m n k r s = eqb-true m n (one m k n k r s ∙ itself k)

pub one_list : {R : ℕ → ℕ → Type 0} {ms ns ks : List ℕ} → OneToOne R → RenAll R ms ks → RenAll R ns ks → ms ≡ ns
one_list one none_all none_all = refl
one_list one (more_all {m = m} {n = k} {ms = ms} r rest) (more_all {m = n} s more) =
    ap (λ x. x ∷ ms) (one_number one m n k r s) ∙ ap (λ xs. n ∷ xs) (one_list one rest more)

one_values : {R : ℕ → ℕ → Type 0} {vs ws xs : Values} → OneToOne R → RenValues R vs xs → RenValues R ws xs → vs ≡ ws
one_values one none_values none_values = refl
one_values one (more_values {m = m} {n = k} {t = t} {vs = vs} r rest) (more_values {m = n} s more) =
    ap (λ x. (x, t) ∷ vs) (one_number one m n k r s) ∙ ap (λ xs. (n, t) ∷ xs) (one_values one rest more)

mutual
  one_op : {R L : ℕ → ℕ → Type 0} {o p q : Op} → OneToOne R → OneToOne L → RenOp R L o q → RenOp R L p q → o ≡ p
  one_op one own (ren_op {k = k} {rs = rs} {os = os} {r = r} {ls = ls} vs us regions labels) (ren_op {rs = ss} {os = ps} {r = s} {ls = ms} ws xs others targets) =
      ap (λ x. op k x os r ls) (one_values one vs ws) ∙ ap (λ x. op k ss x r ls) (one_list one us xs)
      ∙ ap (λ x. op k ss ps x ls) (one_regions one own regions others) ∙ ap (λ x. op k ss ps s x) (one_list own labels targets)

  pub one_ops : {R L : ℕ → ℕ → Type 0} {o p q : Ops} → OneToOne R → OneToOne L → RenOps R L o q → RenOps R L p q → o ≡ p
  one_ops one own ops_ended ops_ended = refl
  one_ops one own (ren_more {os = os} o rest) (ren_more {o = p} q more) = ap (λ x. more_ops x os) (one_op one own o q) ∙ ap (more_ops p) (one_ops one own rest more)

  one_regions : {R L : ℕ → ℕ → Type 0} {o p q : Regions} → OneToOne R → OneToOne L → RenRegions R L o q → RenRegions R L p q → o ≡ p
  one_regions one own regions_ended regions_ended = refl
  one_regions one own (ren_region {r = r} b rest) (ren_region {b = c} d more) = ap (λ x. region x r) (one_blocks one own b d) ∙ ap (region c) (one_regions one own rest more)

  one_blocks : {R L : ℕ → ℕ → Type 0} {o p q : Blocks} → OneToOne R → OneToOne L → RenBlocks R L o q → RenBlocks R L p q → o ≡ p
  one_blocks one own blocks_ended blocks_ended = refl
  one_blocks one own (ren_block {l = l} {m = k} {vs = vs} {os = os} {b = b} here args ops rest) (ren_block {l = m} {vs = ws} {os = ps} there args2 ops2 more) =
      ap (λ x. block x vs os b) (one_number own l m k here there) ∙ ap (λ x. block m x os b) (one_values one args args2)
      ∙ ap (λ x. block m ws x b) (one_ops one own ops ops2) ∙ ap (λ x. block m ws ps x) (one_blocks one own rest more)

-- Paths

-- a place that goes with one that is reached, and is reached
pub record Back (R L : ℕ → ℕ → Type 0) (bs : Blocks) (v m : ℕ) (bound : List ℕ) (ops : Ops) : Type 0 where
  pub label : ℕ
  pub was : List ℕ
  pub left : Ops
  pub labels : L label m
  pub bounds : RenAll R was bound
  pub rests : RenOps R L left ops
  pub path : Reach bs v label was left

pub record FoundBlock (R L : ℕ → ℕ → Type 0) (o : Option PlainBlock) (c : PlainBlock) : Type 0 where
  pub at : PlainBlock
  pub is : o ≡ Some at
  pub ren : RenBlock R L at c

found_back : {R L : ℕ → ℕ → Type 0} {o p : Option PlainBlock} (c : PlainBlock) → RenFound R L o p → p ≡ Some c → FoundBlock R L o c
found_back c none_found e = absurd (none-some c e)
found_back {R = R} {L = L} c (one_found {b = b} {c = d} ren) e =
    subst (λ (x : PlainBlock). FoundBlock R L (Some b) x) (some_same d c e) (record { at = b; is = refl; ren = ren })

-- a number that goes with one among others is among those that go with them
pub record Picked (R : ℕ → ℕ → Type 0) (ms : List ℕ) (n : ℕ) : Type 0 where
  pub number : ℕ
  pub among : has number ms ≡ true
  pub ren : R number n

pub pick : {R : ℕ → ℕ → Type 0} {ms ns : List ℕ} (n : ℕ) → RenAll R ms ns → has n ns ≡ true → Picked R ms n
pick n none_all h = absurd (true≢false (sym h))
pick {R = R} n (more_all {m = a} {n = b} {ms = ms} {ns = ns} r rest) h = go (b == n) refl h (λ k. pick n rest k)
  where
    go : (c : Bool) → (b == n) ≡ c → (c || has n ns) ≡ true → (has n ns ≡ true → Picked R ms n) → Picked R (a ∷ ms) n
    go true e k later = record { number = a; among = ap (λ d. d || has a ms) (itself a); ren = subst (R a) (eqb-true b n e) r }
    go false e k later =
        let p = later k in
        record { number = p.number; among = or_right (a == p.number) _ p.among; ren = p.ren }

pass_back : {R L : ℕ → ℕ → Type 0} {bs : Blocks} {v w l m : ℕ} {was bound : List ℕ} {left : Ops} (p : Op) {rest : Ops}
    → OneToOne R → R v w → L l m → RenAll R was bound → RenOps R L left (more_ops p rest) → Reach bs v l was left → ends p ≡ false → has w (results_of p) ≡ false
    → Back R L bs v m (results_of p ++ bound) rest
pass_back {l = l} {was = was} p one r labels bounds (ren_more {o = o} {os = os} op_ren rest_ren) path e f = record {
  label = l;
  was = results_of o ++ was;
  left = os;
  labels = labels;
  bounds = all_joined (results_ren op_ren) bounds;
  rests = rest_ren;
  path = passes o path (ap is_terminator (name_same op_ren) ∙ e) (has_same one r (results_ren op_ren) ∙ f);
}

jump_back : {R L : ℕ → ℕ → Type 0} {bs cs : Blocks} {v w l : ℕ} {was : List ℕ} {left : Ops} (p : Op) (t : ℕ) (c : PlainBlock) {rest : Ops}
    → OneToOne R → OneToOne L → RenBlocks R L bs cs → R v w → RenOps R L left (more_ops p rest) → Reach bs v l was left
    → ends p ≡ true → has t (successors_of p) ≡ true → block_of t cs ≡ Some c → has w (numbers c.args) ≡ false
    → Back R L bs v t (numbers c.args) c.ops
jump_back p t c one own blocks r (ren_more {o = o} op_ren rest_ren) path e h is f =
    let s = pick t (successors_ren op_ren) h in
    let b = found_back c (block_found own s.ren blocks) is in
    let ren = b.ren in
    let at : PlainBlock = b.at in
    record {
      label = s.number;
      was = numbers at.args;
      left = at.ops;
      labels = s.ren;
      bounds = numbers_ren ren.args;
      rests = ren.ops;
      path = jumps o s.number at path (ap is_terminator (name_same op_ren) ∙ e) s.among b.is (has_same one r (numbers_ren ren.args) ∙ f);
    }

pub reach_back : {R L : ℕ → ℕ → Type 0} {bs cs : Blocks} {v w m : ℕ} {bound : List ℕ} {ops : Ops}
    → OneToOne R → OneToOne L → RenBlocks R L bs cs → R v w → Reach cs w m bound ops → Back R L bs v m bound ops
reach_back one own blocks r (enters c e f) =
    let b = found_back c (first_found blocks) e in
    let ren = b.ren in
    let at : PlainBlock = b.at in
    record {
      label = at.label;
      was = numbers at.args;
      left = at.ops;
      labels = ren.label;
      bounds = numbers_ren ren.args;
      rests = ren.ops;
      path = enters at b.is (has_same one r (numbers_ren ren.args) ∙ f);
    }
reach_back one own blocks r (passes p path e f) =
    let b = reach_back one own blocks r path in
    pass_back p one r b.labels b.bounds b.rests b.path e f
reach_back one own blocks r (jumps p t c path e h is f) =
    let b = reach_back one own blocks r path in
    jump_back p t c one own blocks r b.rests b.path e h is f

-- Places

pub record RenFrame (R L : ℕ → ℕ → Type 0) (f g : Frame) : Type 0 where
  pub blocks : RenBlocks R L f.blocks g.blocks
  pub label : L f.label g.label
  pub bound : RenAll R f.bound g.bound
  pub ops : RenOps R L f.ops g.ops

pub data RenFrames (R L : ℕ → ℕ → Type 0) : List Frame → List Frame → Type 0 where
  no_frames : RenFrames R L [] []
  more_frames : {f g : Frame} {fs gs : List Frame} → RenFrame R L f g → RenFrames R L fs gs → RenFrames R L (f ∷ fs) (g ∷ gs)

frame_back : {R L : ℕ → ℕ → Type 0} {v w : ℕ} (f g : Frame) → OneToOne R → OneToOne L → R v w → RenFrame R L f g → Reach g.blocks w g.label g.bound g.ops
    → Reach f.blocks v f.label f.bound f.ops
frame_back {v = v} f g one own r ren path =
    let b = reach_back one own ren.blocks r path in
    subst (λ l. Reach f.blocks v l f.bound f.ops) (one_number own b.label f.label g.label b.labels ren.label)
    (subst (λ ns. Reach f.blocks v b.label ns f.ops) (one_list one b.bounds ren.bound)
    (subst (λ os. Reach f.blocks v b.label b.was os) (one_ops one own b.rests ren.ops) b.path))

either_back : (a b : Bool) {P Q S T : Type 0} → a ≡ b → (Q → P) → (T → S) → Either b Q T → Either a P S
either_back true true e f g x = f x
either_back false false e f g x = g x
either_back true false e f g x = absurd (true≢false e)
either_back false true e f g x = absurd (true≢false (sym e))

pub undefined_back : {R L : ℕ → ℕ → Type 0} {fs gs : List Frame} (v w : ℕ) → OneToOne R → OneToOne L → R v w → RenFrames R L fs gs → Undefined gs w → Undefined fs v
undefined_back v w one own r no_frames u = u
undefined_back v w one own r (more_frames {f = f} {g = g} ren rest) u =
    either_back (binds v f.blocks) (binds w g.blocks) (binds_same one r ren.blocks) (frame_back f g one own r ren) (undefined_back v w one own r rest) u

pub any_back : {R : ℕ → ℕ → Type 0} {ms ns : List ℕ} (P Q : ℕ → Type 0) → ((m n : ℕ) → R m n → Q n → P m) → RenAll R ms ns → AnyOf Q ns → AnyOf P ms
any_back P Q each none_all x = x
any_back P Q each (more_all {m = m} {n = n} r rest) (inl x) = inl (each m n r x)
any_back P Q each (more_all r rest) (inr x) = inr (any_back P Q each rest x)

-- Chains

mutual
  operands_ren : {R L : ℕ → ℕ → Type 0} {o p : Op} → RenOp R L o p → RenAll R (op_operands o) (op_operands p)
  operands_ren (ren_op vs os r ls) = all_joined os (regions_operands_ren r)

  ops_operands_ren : {R L : ℕ → ℕ → Type 0} {o p : Ops} → RenOps R L o p → RenAll R (ops_operands o) (ops_operands p)
  ops_operands_ren ops_ended = none_all
  ops_operands_ren (ren_more o rest) = all_joined (operands_ren o) (ops_operands_ren rest)

  regions_operands_ren : {R L : ℕ → ℕ → Type 0} {o p : Regions} → RenRegions R L o p → RenAll R (regions_operands o) (regions_operands p)
  regions_operands_ren regions_ended = none_all
  regions_operands_ren (ren_region b rest) = all_joined (blocks_operands_ren b) (regions_operands_ren rest)

  blocks_operands_ren : {R L : ℕ → ℕ → Type 0} {o p : Blocks} → RenBlocks R L o p → RenAll R (blocks_operands o) (blocks_operands p)
  blocks_operands_ren blocks_ended = none_all
  blocks_operands_ren (ren_block l vs os rest) = all_joined (ops_operands_ren os) (blocks_operands_ren rest)

if_ren : {R : ℕ → ℕ → Type 0} (a b : Bool) {ms ns : List ℕ} → a ≡ b → RenAll R ms ns → RenAll R (if a then ms else []) (if b then ns else [])
if_ren true true e r = r
if_ren false false e r = none_all
if_ren true false e r = absurd (true≢false e)
if_ren false true e r = absurd (true≢false (sym e))

mutual
  pub used_ren : {R L : ℕ → ℕ → Type 0} {o p : Op} (v w : ℕ) → OneToOne R → R v w → RenOp R L o p → RenAll R (op_used v o) (op_used w p)
  used_ren v w one r (ren_op {rs = rs} {ss = ss} vs os regions ls) =
      all_joined (if_ren (has v (numbers rs)) (has w (numbers ss)) (has_same one r (numbers_ren vs)) (all_joined os (regions_operands_ren regions))) (regions_used_ren v w one r regions)

  ops_used_ren : {R L : ℕ → ℕ → Type 0} {o p : Ops} (v w : ℕ) → OneToOne R → R v w → RenOps R L o p → RenAll R (ops_used v o) (ops_used w p)
  ops_used_ren v w one r ops_ended = none_all
  ops_used_ren v w one r (ren_more o rest) = all_joined (used_ren v w one r o) (ops_used_ren v w one r rest)

  regions_used_ren : {R L : ℕ → ℕ → Type 0} {o p : Regions} (v w : ℕ) → OneToOne R → R v w → RenRegions R L o p → RenAll R (regions_used v o) (regions_used w p)
  regions_used_ren v w one r regions_ended = none_all
  regions_used_ren v w one r (ren_region b rest) = all_joined (blocks_used_ren v w one r b) (regions_used_ren v w one r rest)

  blocks_used_ren : {R L : ℕ → ℕ → Type 0} {o p : Blocks} (v w : ℕ) → OneToOne R → R v w → RenBlocks R L o p → RenAll R (blocks_used v o) (blocks_used w p)
  blocks_used_ren v w one r blocks_ended = none_all
  blocks_used_ren v w one r (ren_block l vs os rest) = all_joined (ops_used_ren v w one r os) (blocks_used_ren v w one r rest)

pub record ChainBack (R : ℕ → ℕ → Type 0) (f : Op) (v x : ℕ) : Type 0 where
  pub number : ℕ
  pub ren : R number x
  pub chain : Chain f v number

chain_back : {R L : ℕ → ℕ → Type 0} {f g : Op} {w x : ℕ} (v : ℕ) → OneToOne R → RenOp R L f g → R v w → Chain g w x → ChainBack R f v x
chain_back {w = w} {x = x} v one ren r (uses e) =
    let p = pick x (used_ren v w one r ren) e in
    record { number = p.number; ren = p.ren; chain = uses p.among }
chain_back {w = w} v one ren r (by_way_of u e rest) =
    let p = pick u (used_ren v w one r ren) e in
    let c = chain_back p.number one ren p.ren rest in
    record { number = c.number; ren = c.ren; chain = by_way_of p.number p.among c.chain }

pub own_back : {R L : ℕ → ℕ → Type 0} {f g : Op} (v w : ℕ) → OneToOne R → RenOp R L f g → R v w → Chain g w w → Chain f v v
own_back {f = f} v w one ren r chain =
    let c = chain_back v one ren r chain in
    subst (Chain f v) (one_number one c.number v w c.ren r) c.chain
