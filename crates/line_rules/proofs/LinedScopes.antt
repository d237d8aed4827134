-- Rule `Defined` is kept where operations are replaced by others one after another.
use Rattle.std.proofs.Common.{◌≡◌, ℕ, Bool, true, false, List, [], ◌∷◌, ◌++◌, sym, ◌∙◌, subst, inl, inr, true≢false}
use Rattle.std.specs.Prelude.{◌⊎◌}
use Rattle.plain_tree.specs.Ops.{Kind, Op, op, Ops, end_of_ops, more_ops, Regions, end_of_regions, region, Blocks, end_of_blocks, block, Values}
use Rattle.rule_model.specs.Words.{AllOf, binds, binds_in_ops, has, numbers, results_of}
use Rattle.rule_model.specs.Paths.{Either, Reach}
use Rattle.rule_model.specs.Scopes.{DefinedAt, DefinedBlocks, DefinedFunction, DefinedOp, DefinedOps, DefinedRegions, FreeBlocks, FreeOp, FreeOps, FreeRegions}
use Rattle.rule_model.proofs.Numbers.{all_of, has_of}
use Rattle.conversion_model.specs.Targets.{operands_of}
use Rattle.conversion_model.specs.Conversion.{regions_of}
use Rattle.conversion_model.specs.Fresh.{EachBlock, EachOf, EachOp, EachOps, EachRegion}
use Rattle.line_rules.specs.Lines.{bound_by, Line, LinedBlocks, LinedOps, LinedRegions, lined_block, lined_end, lined_no_block, lined_no_region, lined_region, put_ops, stays, Steps, swaps, Turn, turns}
use Rattle.line_rules.proofs.Words.{clash, either_when, has_cases, has_left, has_right, or_left, or_right}
use Rattle.line_rules.proofs.Follows.{Alike, followed, free_unreached, has_none, unused}
use Rattle.line_rules.proofs.LinedPaths.{alike, blocks_bind, free_operand, regions_free}

-- Free uses of a tree that keeps the rule are defined outside

otherwise : (b : Bool) (P Q : Type 0) → b ≡ false → Either b P Q → Q
otherwise true P Q e x = absurd (true≢false e)
otherwise false P Q e x = x

mutual
  free_op : (here : ℕ → Type 0) (u : ℕ) (o : Op) → DefinedOp here o → FreeOp u o → here u
  free_op here u (op k results operands regions successors) d (inl x) = has_of here u operands d.0 x
  free_op here u (op k results operands regions successors) d (inr x) = free_regions here u regions d.1 x

  free_ops : (bs : Blocks) (outer : ℕ → Type 0) (u l : ℕ) (bound : List ℕ) (ops : Ops) → binds u bs ≡ false → DefinedOps bs outer l bound ops → FreeOps u ops → outer u
  free_ops bs outer u l bound end_of_ops none d x = absurd x
  free_ops bs outer u l bound (more_ops o rest) none d (inl x) =
      otherwise (binds u bs) (Reach bs u l bound (more_ops o rest) → ⊥) (outer u) none (free_op (DefinedAt bs outer l bound (more_ops o rest)) u o d.0 x)
  free_ops bs outer u l bound (more_ops o rest) none d (inr x) = free_ops bs outer u l (results_of o ++ bound) rest none d.1 x

  pub free_regions : (outer : ℕ → Type 0) (u : ℕ) (rs : Regions) → DefinedRegions outer rs → FreeRegions u rs → outer u
  free_regions outer u end_of_regions d x = absurd x
  free_regions outer u (region blocks more) d (inl x) = free_blocks blocks outer u blocks x.0 d.0 x.1
  free_regions outer u (region blocks more) d (inr x) = free_regions outer u more d.1 x

  pub free_blocks : (bs : Blocks) (outer : ℕ → Type 0) (u : ℕ) (cs : Blocks) → binds u bs ≡ false → DefinedBlocks bs outer cs → FreeBlocks u cs → outer u
  free_blocks bs outer u end_of_blocks none d x = absurd x
  free_blocks bs outer u (block label args ops more) none d (inl x) = free_ops bs outer u label (numbers args) ops none d.0 x
  free_blocks bs outer u (block label args ops more) none d (inr x) = free_blocks bs outer u more none d.1 x

-- Where operations of a region stand, and what was defined so far is of the region

pub record Within (cs : Blocks) (ps : Ops) : Type 0 where
  pub free : (u : ℕ) → FreeOps u ps → FreeBlocks u cs
  pub binds : (u : ℕ) → binds_in_ops u ps ≡ true → binds u cs ≡ true

abbrev pub Bounds : Blocks → List ℕ → Type 0
Bounds cs bound = (u : ℕ) → has u bound ≡ true → binds u cs ≡ true

pub behind : {cs : Blocks} {p : Op} {ps : Ops} → Within cs (more_ops p ps) → Within cs ps
behind {p = p} w = record { free = λ u f. w.free u (inr f); binds = λ u e. w.binds u (or_right (has u (results_of p)) _ e) }

pub bounds_on : {cs : Blocks} {ps : Ops} (p : Op) (bound : List ℕ) → Within cs (more_ops p ps) → Bounds cs bound → Bounds cs (results_of p ++ bound)
bounds_on p bound w b u e = elim (has_cases u (results_of p) bound e) [ inl h ↦ w.binds u (or_left (has u (results_of p)) _ h) | inr h ↦ b u h ]

-- each old number that is used freely at a place is defined there
pub record Settled (Old : ℕ → Type 0) (cs : Blocks) (outer : ℕ → Type 0) : Type 0 where
  pub used : (u l : ℕ) (bound : List ℕ) (p : Op) (ps : Ops) → Old u → FreeOp u p → FreeBlocks u cs → DefinedAt cs outer l bound (more_ops p ps) u

-- where the old region keeps the rule and the new one is followed in it
pub settled : (Old : ℕ → Type 0) (bs cs : Blocks) (was outer : ℕ → Type 0) → DefinedBlocks bs was bs → ((u : ℕ) → Old u → Alike bs cs u (FreeOp u)) → ((u : ℕ) → Old u → binds u cs ≡ true → binds u bs ≡ true)
    → ((u : ℕ) → Old u → binds u cs ≡ false → FreeBlocks u cs → outer u) → Settled Old cs outer
settled Old bs cs was outer d like own covers = record {
  used = λ u l bound p ps old free inside. either_when (binds u cs) (Reach cs u l bound (more_ops p ps) → ⊥) (outer u)
      (λ e r. unused p (free_unreached bs was u d (own u old e)) (followed (like u old) r) free)
      (λ e. covers u old e inside);
}

-- what was made in the block
pub made_here : (cs : Blocks) (outer : ℕ → Type 0) (l : ℕ) (bound : List ℕ) (ps : Ops) (u : ℕ) → Bounds cs bound → has u bound ≡ true → DefinedAt cs outer l bound ps u
made_here cs outer l bound ps u b h = either_when (binds u cs) (Reach cs u l bound ps → ⊥) (outer u) (λ e r. clash h (has_none r)) (λ e. clash (b u h) e)

pub bare_defined : (here : ℕ → Type 0) (p : Op) → regions_of p ≡ end_of_regions → AllOf here (operands_of p) → DefinedOp here p
bare_defined here (op k rs os r ls) bare all = (all, subst (λ x. DefinedRegions here x) (sym bare) tt)

-- an operation without regions that uses old numbers and such that were made in the block
pub mixed_defined : (Old : ℕ → Type 0) (cs : Blocks) (outer : ℕ → Type 0) (l : ℕ) (bound os : List ℕ) (p : Op) (ps : Ops) → Settled Old cs outer → AllOf Old os → Bounds cs bound → Within cs (more_ops p ps)
    → regions_of p ≡ end_of_regions → ((x : ℕ) → has x (operands_of p) ≡ true → (has x os ≡ true) ⊎ (has x bound ≡ true)) → DefinedOp (DefinedAt cs outer l bound (more_ops p ps)) p
mixed_defined Old cs outer l bound os p ps s all b w bare from =
    bare_defined (DefinedAt cs outer l bound (more_ops p ps)) p bare
    (all_of (DefinedAt cs outer l bound (more_ops p ps)) (operands_of p) (λ x h. elim (from x h) [
      | inl o ↦ s.used x l bound p ps (has_of Old x os all o) (free_operand x p h) (w.free x (inl (free_operand x p h)))
      | inr m ↦ made_here cs outer l bound (more_ops p ps) x b m
    ]))

pub each_all : (P : ℕ → Type 0) (ns : List ℕ) → EachOf P ns → AllOf P ns
each_all P [] all = tt
each_all P (n ∷ ns) all = (all.0, each_all P ns all.1)

pub each_operands : (P Q : ℕ → Type 0) (o : Op) → EachOp P Q o → AllOf P (operands_of o)
each_operands P Q (op k rs os r ls) all = each_all P os all.1

pub steps_defined : (Old : ℕ → Type 0) (cs : Blocks) (outer : ℕ → Type 0) (l : ℕ) (rs os made bound : List ℕ) (ps : List Op) (tail : Ops) → Settled Old cs outer → AllOf Old os
    → Steps Old rs os made ps → ((x : ℕ) → has x made ≡ true → has x bound ≡ true) → Bounds cs bound → Within cs (put_ops ps tail)
    → ((b : List ℕ) → ((x : ℕ) → has x bound ≡ true → has x b ≡ true) → ((x : ℕ) → has x (bound_by ps) ≡ true → has x b ≡ true) → Bounds cs b → Within cs tail → DefinedOps cs outer l b tail)
    → DefinedOps cs outer l bound (put_ops ps tail)
steps_defined Old cs outer l rs os made bound [] tail s all steps known b w rest = rest bound (λ x h. h) (λ x h. absurd (true≢false (sym h))) b w
steps_defined Old cs outer l rs os made bound (p ∷ ps) tail s all steps known b w rest = (
  mixed_defined Old cs outer l bound os p (put_ops ps tail) s all b w steps.0
      (λ x h. elim (has_of (λ y. (has y os ≡ true) ⊎ (has y made ≡ true)) x (operands_of p) steps.2 h) [ inl o ↦ inl o | inr m ↦ inr (known x m) ]),
  steps_defined Old cs outer l rs os (results_of p ++ made) (results_of p ++ bound) ps tail s all steps.4
      (λ x h. elim (has_cases x (results_of p) made h) [ inl e ↦ has_left x (results_of p) bound e | inr e ↦ has_right x (results_of p) bound (known x e) ])
      (bounds_on p bound w b) (behind w)
      (λ c keeps inner. rest c (λ x h. keeps x (has_right x (results_of p) bound h))
      (λ x h. elim (has_cases x (results_of p) (bound_by ps) h) [ inl e ↦ keeps x (has_left x (results_of p) bound e) | inr e ↦ inner x e ])),
)

module _ (Old : ℕ → Type 0) (OldLabel : ℕ → Type 0) (K : ℕ → Op → Type 0) (G : ℕ → Op → List Op → Type 0) (H : ℕ → Op → List Op → Op → Type 0)
    (line : (n : ℕ) (o : Op) (l : List Op) → G n o l → Line Old o l) (turn : (n : ℕ) (o : Op) (l : List Op) (t : Op) → H n o l t → Turn Old o l t) where
  mutual
    lined_ops : {n : ℕ} {os ps : Ops} (bs : Blocks) (was : ℕ → Type 0) (before : List ℕ) (cs : Blocks) (outer : ℕ → Type 0) (l : ℕ) (bound : List ℕ) → Settled Old cs outer
        → LinedOps K G H n os ps → EachOps Old OldLabel os → DefinedOps bs was l before os → Bounds cs bound → Within cs ps → DefinedOps cs outer l bound ps
    lined_ops bs was before cs outer l bound s lined_end each d b w = tt
    lined_ops bs was before cs outer l bound s (stays {k = k} {rs = rs} {os = os} {ls = ls} {r = r} {s = t} {rest = rest} {more = more} _ x y) each d b w = (
      (
        all_of (DefinedAt cs outer l bound (more_ops (op k rs os t ls) more)) os
            (λ u h. s.used u l bound (op k rs os t ls) more (has_of Old u os (each_all Old os each.0.1) h) (inl h) (w.free u (inl (inl h)))),
        lined_regions (DefinedAt bs was l before (more_ops (op k rs os r ls) rest)) (DefinedAt cs outer l bound (more_ops (op k rs os t ls) more)) x d.0.1 each.0.2
            (λ u old free. s.used u l bound (op k rs os t ls) more old (inr free) (w.free u (inl (inr free)))),
      ),
      lined_ops bs was (numbers rs ++ before) cs outer l (numbers rs ++ bound) s y each.1 d.1 (bounds_on (op k rs os t ls) bound w b) (behind w),
    )
    lined_ops bs was before cs outer l bound s (swaps {n = n} {o = o} ps {more = more} g y) each d b w =
        steps_defined Old cs outer l (results_of o) (operands_of o) [] bound ps more s (each_operands Old OldLabel o each.0) (line n o ps g).steps (λ x h. absurd (true≢false (sym h))) b w
        (λ c keeps inner d2 v. lined_ops bs was (results_of o ++ before) cs outer l c s y each.1 d.1 d2 v)
    lined_ops bs was before cs outer l bound s (turns {n = n} {o = o} ps t {more = more} h y) each d b w =
        steps_defined Old cs outer l [] (operands_of o) [] bound ps (more_ops t more) s (each_operands Old OldLabel o each.0) (turn n o ps t h).steps (λ x k. absurd (true≢false (sym k))) b w
        (λ c keeps inner d2 v. (
          mixed_defined Old cs outer l c (operands_of o) t more s (each_operands Old OldLabel o each.0) d2 v (turn n o ps t h).bare
              (λ x k. elim (has_of (λ z. (has z (operands_of o) ≡ true) ⊎ (has z (bound_by ps) ≡ true)) x (operands_of t) (turn n o ps t h).operands k) [ inl a ↦ inl a | inr a ↦ inr (inner x a) ]),
          lined_ops bs was (results_of o ++ before) cs outer l (results_of t ++ c) s y each.1 d.1 (bounds_on t c v d2) (behind v),
        ))

    pub lined_regions : {n : ℕ} {rs ss : Regions} (was outer : ℕ → Type 0) → LinedRegions K G H n rs ss → DefinedRegions was rs → EachRegion Old OldLabel rs → ((u : ℕ) → Old u → FreeRegions u ss → outer u) → DefinedRegions outer ss
    lined_regions was outer lined_no_region d each covers = tt
    lined_regions was outer (lined_region {b = bs} {c = cs} x y) d each covers = (
      lined_blocks bs was cs outer
          (settled Old bs cs was outer d.0 (λ u old. alike Old K G H line turn u old x) (λ u old e. sym (blocks_bind Old K G H line turn u old x) ∙ e) (λ u old none free. covers u old (inl (none, free))))
          (λ u f. f) (λ u e. e) x each.0 d.0,
      lined_regions was outer y d.1 each.1 (λ u old free. covers u old (inr free)),
    )

    lined_blocks : {n : ℕ} {xs ys : Blocks} (bs : Blocks) (was : ℕ → Type 0) (cs : Blocks) (outer : ℕ → Type 0) → Settled Old cs outer → ((u : ℕ) → FreeBlocks u ys → FreeBlocks u cs) → ((u : ℕ) → binds u ys ≡ true → binds u cs ≡ true)
        → LinedBlocks K G H n xs ys → EachBlock Old OldLabel xs → DefinedBlocks bs was xs → DefinedBlocks cs outer ys
    lined_blocks bs was cs outer s free own lined_no_block each d = tt
    lined_blocks bs was cs outer s free own (lined_block {l = l} {args = args} {qs = qs} x y) each d = (
      lined_ops bs was (numbers args) cs outer l (numbers args) s x each.2 d.0 (λ u h. own u (or_left (has u (numbers args)) _ h))
          (record { free = λ u f. free u (inl f); binds = λ u e. own u (or_right (has u (numbers args)) _ (or_left (binds_in_ops u qs) _ e)) }),
      lined_blocks bs was cs outer s (λ u f. free u (inr f)) (λ u e. own u (or_right (has u (numbers args)) _ (or_right (binds_in_ops u qs) _ e))) y each.3 d.1,
    )

  -- a function in whose regions operations are replaced keeps the rule
  pub lined_defined : {n : ℕ} (k : Kind) (rs : Values) (os ls : List ℕ) {r s : Regions} → LinedRegions K G H n r s → EachOp Old OldLabel (op k rs os r ls) → DefinedFunction (op k rs os r ls) → DefinedFunction (op k rs os s ls)
  lined_defined k rs os ls {r = r} x each d = (
    d.0,
    lined_regions (λ u. ⊥) (λ u. ⊥) x d.1 each.2 (λ u old free. free_regions (λ v. ⊥) u r d.1 (regions_free Old K G H line turn u old x free)),
  )
