-- What the rules say of each operation of a function.
use Rattle.std.proofs.Common.{◌≡◌, ◌⊎◌, inl, inr, ℕ, ◌+◌, ◌==◌, Bool, true, false, List, [], ◌∷◌, ◌++◌, Option, Some, map, refl, sym, ap, ◌∙◌, subst, true≢false}
use Rattle.std.specs.Prelude.{◌||◌, codes}
use Rattle.std.proofs.lemmas.Bool.{eqb-true}
use Rattle.plain_tree.specs.Types.{PlainType}
use Rattle.plain_tree.specs.Ops.{Op, op, Ops, end_of_ops, more_ops, Regions, end_of_regions, region, Blocks, end_of_blocks, block, Values}
use Rattle.std.proofs.lemmas.Slice.Eq.{bytes_eq-Decides}
use Rattle.conversion_model.specs.Reconciled.{is_cast}
use Rattle.conversion_model.specs.Targets.{shape_of}
use Rattle.rule_model.specs.declared.rules.Rule.TheVariants as rule
use Rattle.rule_model.specs.Words.{AllOf, AnyOf, has, numbers, results_of, types}
use Rattle.rule_model.specs.declared.shapes.Shape.{Shape as RuleShape}
use Rattle.rule_model.specs.Facts.{Facts, Functions, Holder, facts_of, is_end, regions_heads, target}
use Rattle.rule_model.specs.Rows.{shape_of as rule_shape}
use Rattle.rule_model.specs.Types.{operands_fit, results_fit}
use Rattle.rule_model.specs.Parts.{attributes_fit, no_regions, regions_fit}
use Rattle.rule_model.specs.Chains.{Chain}
use Rattle.rule_model.specs.Paths.{Frame}
use Rattle.rule_model.specs.Sites.{Around, Site, frame_of, holds, op_sites, ops_sites, regions_sites, blocks_sites}
use Rattle.rule_model.specs.Rules.{Sound, if_registered}
use Rattle.sound_model.specs.Soundness.{IsFit, facts_with}

-- what is known of each operation of a tree in a function
abbrev mutual
  pub OpFit : Op → (ℕ → PlainType) → Op → Type 0
  OpFit f ty (op k results operands regions successors) =
      IsFit (shape_of ty (op k results operands regions successors)) × ((r : ℕ) → has r (numbers results) ≡ true → Chain f r r → ⊥) × (is_cast (op k results operands regions successors) ≡ true → regions ≡ end_of_regions) × RegionsFit f ty regions

  pub OpsFit : Op → (ℕ → PlainType) → Ops → Type 0
  OpsFit f ty end_of_ops = Unit {0}
  OpsFit f ty (more_ops o os) = OpFit f ty o × OpsFit f ty os

  pub RegionsFit : Op → (ℕ → PlainType) → Regions → Type 0
  RegionsFit f ty end_of_regions = Unit {0}
  RegionsFit f ty (region blocks more) = BlocksFit f ty blocks × RegionsFit f ty more

  pub BlocksFit : Op → (ℕ → PlainType) → Blocks → Type 0
  BlocksFit f ty end_of_blocks = Unit {0}
  BlocksFit f ty (block label args ops more) = OpsFit f ty ops × BlocksFit f ty more

not_false : (b : Bool) → (b ≡ false → ⊥) → b ≡ true
not_false true h = refl
not_false false h = absurd (h refl)

types_are : (vs : Values) → types vs ≡ map (λ v. v.1) vs
types_are [] = refl
types_are (v ∷ vs) = ap (λ ts. v.1 ∷ ts) (types_are vs)

any_of : (P : ℕ → Type 0) (ns : List ℕ) (n : ℕ) → has n ns ≡ true → P n → AnyOf P ns
any_of P [] n h p = absurd (true≢false (sym h))
any_of P (m ∷ ns) n h p = go (m == n) refl (any_of P ns n)
  where
    go : (b : Bool) → (m == n) ≡ b → (has n ns ≡ true → P n → AnyOf P ns) → P m ⊎ AnyOf P ns
    go true is again = inl (subst P (sym (eqb-true m n is)) p)
    go false is again = inr (again (sym (ap (λ c. c || has n ns) is) ∙ h) p)

no_heads : (regions : Regions) → no_regions (regions_heads regions) ≡ true → regions ≡ end_of_regions
no_heads end_of_regions h = refl
no_heads (region blocks more) h = absurd (true≢false (sym h))

module _ (c : Functions) (f : Op) (ty : ℕ → PlainType) where
  site_fit : (k : _) (rs : Values) (os : List ℕ) (regions : Regions) (ls : List ℕ) (holder : Option Holder) (blocks : Blocks) (frames : List Frame) (rest : Ops)
      → Sound c f (record { facts = facts_of ty holder blocks rest (op k rs os regions ls); operands = os; results = numbers rs; frames = frames })
      → IsFit (shape_of ty (op k rs os regions ls)) × ((r : ℕ) → has r (numbers rs) ≡ true → Chain f r r → ⊥) × (is_cast (op k rs os regions ls) ≡ true → regions ≡ end_of_regions)
  unfolding Sound
  site_fit k rs os regions ls holder blocks frames rest sound = (fit, λ r among chain. sound rule.OwnUse (any_of (λ v. Chain f v v) (numbers rs) r among chain), bare)
    where
      kept : (keeps : Facts → RuleShape → Bool) → if_registered (keeps (facts_of ty holder blocks rest (op k rs os regions ls))) (rule_shape k.name) ≡ true
          → if_registered (keeps (facts_with (shape_of ty (op k rs os regions ls)) (map (target blocks) ls) (regions_heads regions) holder (is_end rest))) (rule_shape k.name) ≡ true
      kept keeps is =
          subst (λ ts. if_registered (keeps (record {
            name = k.name;
            props = k.props;
            operands = map ty os;
            results = ts;
            successors = map (target blocks) ls;
            regions = regions_heads regions;
            holder = holder;
            last = is_end rest;
          })) (rule_shape k.name) ≡ true) (types_are rs) is

      bare : is_cast (op k rs os regions ls) ≡ true → regions ≡ end_of_regions
      bare cast =
          no_heads regions (subst (λ n. if_registered (regions_fit (facts_of ty holder blocks rest (op k rs os regions ls))) (rule_shape n) ≡ true) ((bytes_eq-Decides k.name (codes "builtin.unrealized_conversion_cast")).0 cast)
          (not_false _ (sound rule.Regions)))

      fit : IsFit (shape_of ty (op k rs os regions ls))
      fit = record {
        successors = map (target blocks) ls;
        regions = regions_heads regions;
        holder = holder;
        last = is_end rest;
        operands_are = kept operands_fit (not_false _ (sound rule.Operands));
        results_are = kept results_fit (not_false _ (sound rule.Results));
        props_are = kept attributes_fit (not_false _ (sound rule.Attribute));
      }

  mutual
    pub op_fit : (o : Op) (holder : Option Holder) (blocks : Blocks) (frames : List Frame) (rest : Ops) (more : List Site) → AllOf (Sound c f) (op_sites ty holder blocks frames rest o more) → OpFit f ty o × AllOf (Sound c f) more
    op_fit (op k rs os regions ls) holder blocks frames rest more all =
        let a = site_fit k rs os regions ls holder blocks frames rest all.0 in
        let b = all_regions_fit regions (holds ty (op k rs os regions ls)) 0 frames more all.1 in ((a.0, a.1, a.2, b.0), b.1)

    ops_fit : (os : Ops) (a : Around) (label : ℕ) (bound : List ℕ) (more : List Site) → AllOf (Sound c f) (ops_sites ty a label bound os more) → OpsFit f ty os × AllOf (Sound c f) more
    ops_fit end_of_ops a label bound more all = (tt, all)
    ops_fit (more_ops o os) a label bound more all =
        let x = op_fit o a.holder a.blocks (frame_of a label bound (more_ops o os)) os (ops_sites ty a label (results_of o ++ bound) os more) all in
        let y = ops_fit os a label (results_of o ++ bound) more x.1 in ((x.0, y.0), y.1)

    all_regions_fit : (rs : Regions) (holder : ℕ → Holder) (n : ℕ) (frames : List Frame) (more : List Site) → AllOf (Sound c f) (regions_sites ty holder n frames rs more) → RegionsFit f ty rs × AllOf (Sound c f) more
    all_regions_fit end_of_regions holder n frames more all = (tt, all)
    all_regions_fit (region blocks rest) holder n frames more all =
        let x = blocks_fit blocks (record { holder = Some (holder n); blocks = blocks; outer = frames }) (regions_sites ty holder (n + 1) frames rest more) all in
        let y = all_regions_fit rest holder (n + 1) frames more x.1 in ((x.0, y.0), y.1)

    blocks_fit : (bs : Blocks) (a : Around) (more : List Site) → AllOf (Sound c f) (blocks_sites ty a bs more) → BlocksFit f ty bs × AllOf (Sound c f) more
    blocks_fit end_of_blocks a more all = (tt, all)
    blocks_fit (block label args ops rest) a more all =
        let x = ops_fit ops a label (numbers args) (blocks_sites ty a rest more) all in
        let y = blocks_fit rest a more x.1 in ((x.0, y.0), y.1)
