-- Casts that undo earlier ones may be left out.
use Rattle.std.proofs.Common.{◌≡◌, ℕ, zero, suc, ◌==◌, Bool, true, false, List, [], ◌∷◌, ◌++◌, length, Option, Some, None, Ok, Err, Result, map, refl, sym, ap, ◌∙◌, subst, arith, inl, inr, true≢false, append_assoc}
use Rattle.std.specs.Prelude.{not, ◌||◌, if◌then◌else◌}
use Rattle.std.specs.List.{list_all}
use Rattle.std.proofs.lemmas.Bool.{eqb-true, eq-eqb}
use Rattle.pipeline_text.specs.declared.pass.PassName.TheVariants.{ReconcileUnrealizedCasts}
use Rattle.form_model.specs.Codes.{Env, Target, bind, entry}
use Rattle.form_model.specs.Codes as code
use Rattle.plain_tree.specs.Types.{PlainType}
use Rattle.plain_tree.specs.Attrs.{entries_tree}
use Rattle.plain_tree.specs.Ops.{Kind, Op, op, Ops, end_of_ops, more_ops, Regions, end_of_regions, region, Blocks, end_of_blocks, block, PlainModule, Values}
use Rattle.plain_tree.specs.Values.{op_values, type_in, types_of}
use Rattle.conversion_model.specs.Conversion.{Unlegalised}
use Rattle.conversion_model.specs.Counts.{DefinesOnce}
use Rattle.conversion_model.specs.Reconciled.{Cast, is_cast, is_cast_of, pair_of, pairs_left_out, reconciled, unused_left_out, without_pair}
use Rattle.conversion_model.specs.Uses.{blocks_uses, op_uses, op_without, operations, ops_uses, regions_uses, replaced}
use Rattle.rule_model.specs.Words.{AnyOf, numbers}
use Rattle.rule_model.specs.Chains.{Chain, uses}
use Rattle.rule_model.specs.Facts.{Functions, functions}
use Rattle.rule_model.specs.Formed.{are_formed_entries, are_once, is_formed_function, is_function_name}
use Rattle.rule_model.specs.Rules.{SoundFrom, Verified}
use Rattle.rule_model.proofs.Numbers.{and_first, and_second}
use Rattle.sound_model.specs.Agreement.{AgreesS}
use Rattle.sound_model.proofs.Agreeing.{agreements_join, agrees_with_itself}
use Rattle.code_laws.specs.PlainCodes.{blocks_codes, first_region, regions_codes}
use Rattle.sim_laws.proofs.Local.{Each}
use Rattle.pass_laws.specs.Promises.{KeepsMeaning, Passed, no_functions, passes, stays, with_functions}
use Rattle.pass_laws.proofs.UnusedCasts.{BlocksCasts, BlocksReady, Fair, Keeps, OpCasts, OpReady, OpsCasts, OpsReady, RegionsCasts, RegionsReady, Used, cut_keeps, function_bare, keeps_on, keeps_self, rounds_keep}
use Rattle.line_rules.proofs.Words.{not_so}
use Rattle.kept_rules.proofs.CastPairs.{Among, CastPair, found_pair, op_cast_used, op_cast_value, pair_by}
use Rattle.line_rules.proofs.KeptSites.{Parts, parts_of, sound_by}
use Rattle.kept_rules.proofs.Modules.{formed_once}
use Rattle.line_rules.proofs.Once.{type_once}
use Rattle.kept_rules.proofs.Reconciles.{inner_cast, op_swap, pair_kept, pairs_kept}
use Rattle.line_rules.proofs.SameTypes.{equal_type}
use Rattle.kept_rules.proofs.SubstitutedRules.{op_values_same}
use Rattle.cast_laws.specs.Promises.{AllUndone, PairsAreUndone, Undone, UndoneCastsKeep, as_it_is, no_function, one_less, undone}
use Rattle.cast_laws.proofs.Mapped.{blocks_to}
use Rattle.cast_laws.proofs.Everywhere.{Any, BothIn, BothOf, Calm, CastOf, EachRegions, NoArgument, region_counts, region_defined, region_each, region_of, regions_both, regions_calm, regions_cast, regions_follow}
use Rattle.cast_laws.proofs.Levels.{Fit, FitArguments, Known, RegionOk}
use Rattle.cast_laws.proofs.Places.{In, in_begins, in_closed, in_same}
use Rattle.cast_laws.proofs.Codes.{all_same, first_to, front_same, modules_agree, regions_mapped, with_mapped}

first_blocks : (bits : ℕ) (T : ℕ → PlainType) (g : Regions) → first_region (regions_codes bits T g) ≡ blocks_codes bits T (region_of 0 g)
first_blocks bits T end_of_regions = refl
first_blocks bits T (region b g) = refl

-- the type of what takes the uses is that of what had them
replaced_type : (T : ℕ → PlainType) (r u x : ℕ) → T u ≡ T r → T (replaced r u x) ≡ T x
replaced_type T r u x same = go (x == r) refl
  where
    go : (b : Bool) → (x == r) ≡ b → T (if b then u else x) ≡ T x
    go true e = same ∙ ap T (sym (eqb-true x r e))
    go false e = refl

-- Uses of the second cast go to what was cast first

module _ (c : Functions) (k : Kind) (rs : Values) (os : List ℕ) (g : Regions) (ls : List ℕ) (p : ℕ × ℕ) (pair : CastPair (op k rs os g ls) p) (formed : is_formed_function (op k rs os g ls) ≡ true) (parts : Parts c (op k rs os g ls)) where
  abbrev f : Op
  f = op k rs os g ls

  abbrev r : ℕ
  r = p.0

  abbrev u : ℕ
  u = p.1

  abbrev w : ℕ
  w = pair.middle

  abbrev T : ℕ → PlainType
  T = types_of f

  name : is_function_name k.name ≡ true
  name = and_first (is_function_name k.name) _ formed

  was_once : are_once (numbers (op_values f [])) ≡ true
  was_once = and_first (are_once (numbers (op_values f []))) _ (and_second (is_function_name k.name) _ formed)

  once : DefinesOnce f
  once = formed_once f formed

  same_type : T u ≡ T r
  same_type = equal_type (T u) pair.to pair.type_there ∙ sym (type_once (op_values f []) r pair.to was_once (op_cast_value w r pair.to f [] pair.last))

  -- a cast doesn't use its own result
  w_apart : (u == w) ≡ false
  w_apart = not_so (u == w) (λ e. parts.none_own w (subst (Chain f w) (eqb-true u w e) (uses (op_cast_used u w pair.between f pair.first))))

  fits : EachRegions (Fit u w r w_apart pair.apart) (FitArguments u w r w_apart pair.apart) g
  fits =
      regions_follow (BothOf (BothOf Calm (CastOf u w) Any (NoArgument w)) (CastOf w r) (BothIn Calm (CastOf u w) Any (NoArgument w)) (NoArgument r)) (Fit u w r w_apart pair.apart)
      (BothIn (BothOf Calm (CastOf u w) Any (NoArgument w)) (CastOf w r) (BothIn Calm (CastOf u w) Any (NoArgument w)) (NoArgument r)) (FitArguments u w r w_apart pair.apart)
      (λ o h. record { calm = h.0.0; first = h.0.1; last = h.1 }) (λ vs h. record { first = h.0.1; last = h.1 }) g
      (regions_both (BothOf Calm (CastOf u w) Any (NoArgument w)) (CastOf w r) (BothIn Calm (CastOf u w) Any (NoArgument w)) (NoArgument r) g
      (regions_both Calm (CastOf u w) Any (NoArgument w) g (regions_calm c T _ 0 g parts.tests.1) (regions_cast u w pair.between g (inner_cast u w pair.between k rs os ls g name pair.first) (omega (arith, once w))))
      (regions_cast w r pair.to g (inner_cast w r pair.to k rs os ls g name pair.last) (omega (arith, once r))))

  body_ok : RegionOk u w r w_apart pair.apart (region_of 0 g) []
  body_ok = record {
    defined = region_defined (Known []) 0 g parts.scopes.1;
    each = region_each (Fit u w r w_apart pair.apart) (FitArguments u w r w_apart pair.apart) 0 g fits;
    once = λ v. omega (arith, region_counts v 0 g, once v);
    inside = λ v some never. never;
  }

  module _ (bits : ℕ) (m : PlainModule) where
    abbrev body : code.Blocks
    body = first_region (regions_codes bits T g)

    abbrev f1 : Op
    f1 = op_uses (replaced r u) f

    abbrev body1 : code.Blocks
    body1 = first_region (regions_codes bits (types_of f1) (regions_uses (replaced r u) g))

    body_is : blocks_to (replaced r u) body ≡ body1
    body_is =
        sym (first_to (replaced r u) (regions_codes bits T g))
        ∙ ap first_region (sym (regions_mapped bits T (replaced r u) (λ x. replaced_type T r u x same_type) g))
        ∙ ap (λ vs. first_region (regions_codes bits (type_in vs) (regions_uses (replaced r u) g))) (sym (op_values_same (replaced r u) f []))

    begins : (t : Target) → entry body ≡ Some t → (xs : List _) (e : Env) → bind t.args xs [] ≡ Some e → In bits T u w r w_apart pair.apart t.ops body e []
    begins t found xs e is =
        subst (λ b. In bits T u w r w_apart pair.apart t.ops b e []) (sym (first_blocks bits T g))
        (in_begins bits T u w r w_apart pair.apart (region_of 0 g) body_ok t (sym (ap entry (first_blocks bits T g)) ∙ found) xs e is)

    pub uses_keep : Keeps bits m f f1
    uses_keep front back =
        let to : ℕ → ℕ = replaced r u in
        let closed = in_closed bits T u w r w_apart pair.apart in
        let values = in_same bits T u w r w_apart pair.apart in
        modules_agree to (In bits T u w r w_apart pair.apart) closed values bits m (front ++ f ∷ back) (front ++ f1 ∷ back)
        (front_same to (In bits T u w r w_apart pair.apart) closed values bits m front (f ∷ back) (f1 ∷ back)
        (with_mapped to (In bits T u w r w_apart pair.apart) closed values bits body body1 body_is begins _ _
        (all_same to (In bits T u w r w_apart pair.apart) closed values bits m back) (entries_tree k.props)))

-- and the second cast is left out

module _ (r u : ℕ) (apart : (u == r) ≡ false) where
  abbrev other : ℕ → Bool
  other n = not (n == r)

  other_used : (n : ℕ) → (n == r) ≡ false → other (replaced r u n) ≡ true
  other_used n e = ap (λ b. not ((if b then u else n) == r)) e ∙ ap not e

  all_used : (os : List ℕ) → Each (Used other) (map (replaced r u) os)
  all_used [] = tt
  all_used (n ∷ os) = (go (n == r) refl, all_used os)
    where
      go : (b : Bool) → (n == r) ≡ b → not ((if n == r then u else n) == r) ≡ true
      go true e = ap (λ b. not ((if b then u else n) == r)) e ∙ ap not apart
      go false e = other_used n e

  mutual
    op_ready : (o : Op) → OpCasts o → OpReady other (op_uses (replaced r u) o)
    op_ready (op k rs os g ls) casts = (all_used os, (λ e. ap (regions_uses (replaced r u)) (casts.0 e)), regions_ready g casts.1)

    ops_ready : (os : Ops) → OpsCasts os → OpsReady other (ops_uses (replaced r u) os)
    ops_ready end_of_ops casts = tt
    ops_ready (more_ops o os) casts = (op_ready o casts.0, ops_ready os casts.1)

    regions_ready : (g : Regions) → RegionsCasts g → RegionsReady other (regions_uses (replaced r u) g)
    regions_ready end_of_regions casts = tt
    regions_ready (region b g) casts = (blocks_ready b casts.0, regions_ready g casts.1)

    blocks_ready : (bs : Blocks) → BlocksCasts bs → BlocksReady other (blocks_uses (replaced r u) bs)
    blocks_ready end_of_blocks casts = tt
    blocks_ready (block l args ops more) casts = (ops_ready ops casts.0, blocks_ready more casts.1)

  fair : Fair other (is_cast_of r)
  fair (op k (y ∷ []) (v ∷ []) g ls) e = (
    and_first (is_cast (op k (y ∷ []) (v ∷ []) g ls)) _ e,
    λ n used. ap (λ b. b || false) (not_so (y.0 == n) (λ same. false_not (n == r) used (eq-eqb n r (sym (eqb-true y.0 n same) ∙ eqb-true y.0 r (and_second (is_cast (op k (y ∷ []) (v ∷ []) g ls)) _ e))))),
  )
    where
      false_not : (b : Bool) → not b ≡ true → b ≡ true → ⊥
      false_not true h e = true≢false (sym h)
      false_not false h e = true≢false (sym e)
  fair (op k [] os g ls) e = absurd (true≢false (sym e))
  fair (op k (y ∷ []) [] g ls) e = absurd (true≢false (sym e))
  fair (op k (y ∷ []) (v ∷ x ∷ os) g ls) e = absurd (true≢false (sym e))
  fair (op k (y ∷ z ∷ rs) os g ls) e = absurd (true≢false (sym e))

-- Casts among those of a function

among : (c : Cast) (ds : List Cast) → AnyOf (λ d. c ≡ d) ds → Among c ds
among c [] any = any
among c (d ∷ ds) (inl is) = inl is
among c (d ∷ ds) (inr later) = inr (among c ds later)

any_among : (c : Cast) (ds : List Cast) → Among c ds → AnyOf (λ d. c ≡ d) ds
any_among c [] any = any
any_among c (d ∷ ds) (inl is) = inl is
any_among c (d ∷ ds) (inr later) = inr (any_among c ds later)

pub pairs_are_undone : PairsAreUndone
pairs_are_undone zero f = as_it_is
pairs_are_undone (suc room) f = go (pair_of f) refl (λ h. pairs_are_undone room h)
  where
    go : (x : Option (ℕ × ℕ)) → pair_of f ≡ x → ((h : Op) → Undone h (pairs_left_out room h)) → Undone f (elim x [ None ↦ f | Some p ↦ pairs_left_out room (without_pair p f) ])
    go None e again = as_it_is
    go (Some p) e again =
        let x = found_pair f p e in
        one_less x.cast x.earlier (any_among x.cast _ x.there) (any_among x.earlier _ x.earlier_there) x.undone
        (subst (λ q. Undone (without_pair q f) (pairs_left_out room (without_pair p f))) (sym x.is) (again (without_pair p f)))

module _ (bits : ℕ) (m : PlainModule) (c : Functions) where
  pair_keeps : (f : Op) (p : ℕ × ℕ) → CastPair f p → is_formed_function f ≡ true → Parts c f → Keeps bits m f (without_pair p f)
  pair_keeps (op k rs os g ls) p pair formed parts =
      let f : Op = op k rs os g ls in
      let f1 : Op = op_uses (replaced p.0 p.1) f in
      let casts = function_bare c f formed (sound_by c f parts) in
      subst (Keeps bits m f) (op_swap (replaced p.0 p.1) p.0 f)
      (keeps_on bits m f f1 (op_without (is_cast_of p.0) f1) (uses_keep c k rs os g ls p pair formed parts bits m)
      (cut_keeps bits m (other p.0 p.1 pair.apart) (is_cast_of p.0) (fair p.0 p.1 pair.apart) k rs (map (replaced p.0 p.1) os) (regions_uses (replaced p.0 p.1) g) ls (regions_ready p.0 p.1 pair.apart g casts.1)))

  undone_keeps : {f h : Op} → is_formed_function f ≡ true → Parts c f → Undone f h → Keeps bits m f h
  undone_keeps formed parts (as_it_is {f = f}) = keeps_self bits m f
  undone_keeps formed parts (one_less {f = f} {g = h} cast other there other_there both more) =
      let p : ℕ × ℕ = (cast.result, other.operand) in
      let pair = pair_by f cast other (among cast _ there) (among other _ other_there) both in
      let k = pair_kept c f p pair formed parts in
      keeps_on bits m f (without_pair p f) h (pair_keeps f p pair formed parts) (undone_keeps k.formed k.parts more)

  reconciled_keeps : (f : Op) → is_formed_function f ≡ true → Parts c f → Keeps bits m f (reconciled f)
  reconciled_keeps f formed parts =
      let room : ℕ = length (operations f) in
      let h : Op = pairs_left_out room f in
      let k = pairs_kept c room f formed parts in
      keeps_on bits m f h (unused_left_out room h) (undone_keeps formed parts (pairs_are_undone room f)) (rounds_keep bits m room h (function_bare c h k.formed (sound_by c h k.parts)))

-- Functions one after another

module _ (bits : ℕ) (m : PlainModule) where
  data AllKeep : List Op → List Op → Type 0 where
    all_kept : AllKeep [] []
    one_kept : {f h : Op} {fs hs : List Op} → Keeps bits m f h → AllKeep fs hs → AllKeep (f ∷ fs) (h ∷ hs)

  walk : (front : List Op) {fs hs : List Op} → AllKeep fs hs → AgreesS bits (with_functions m (front ++ fs)) (with_functions m (front ++ hs))
  walk front all_kept = agrees_with_itself bits (with_functions m (front ++ []))
  walk front (one_kept {f = f} {h = h} {fs = fs} {hs = hs} keeps more) =
      agreements_join bits (with_functions m (front ++ f ∷ fs)) (with_functions m (front ++ h ∷ fs)) (with_functions m (front ++ h ∷ hs)) (keeps front fs)
      (subst (λ xs. AgreesS bits (with_functions m xs) (with_functions m (front ++ h ∷ hs))) (append_assoc front (h ∷ []) fs)
      (subst (λ ys. AgreesS bits (with_functions m ((front ++ h ∷ []) ++ fs)) (with_functions m ys)) (append_assoc front (h ∷ []) hs) (walk (front ++ h ∷ []) more)))

  undone_all : (all earlier : List Op) {fs hs : List Op} → list_all is_formed_function fs ≡ true → SoundFrom all earlier fs → AllUndone fs hs → AllKeep fs hs
  undone_all all earlier formed sound no_function = all_kept
  undone_all all earlier formed sound (undone {f = f} casts more) =
      one_kept (undone_keeps bits m (functions all earlier) (and_first (is_formed_function f) _ formed) (parts_of (functions all earlier) f sound.0) casts)
      (undone_all all (earlier ++ f ∷ []) (and_second (is_formed_function f) _ formed) sound.1 more)

  passed_all : (all earlier : List Op) {fs hs : List Op} → list_all is_formed_function fs ≡ true → SoundFrom all earlier fs → Passed ReconcileUnrealizedCasts bits fs hs → AllKeep fs hs
  passed_all all earlier formed sound no_functions = all_kept
  passed_all all earlier formed sound (stays {f = f} more) = one_kept (keeps_self bits m f) (passed_all all (earlier ++ f ∷ []) (and_second (is_formed_function f) _ formed) sound.1 more)
  passed_all all earlier formed sound (passes {f = f} {g = h} new fresh is more) =
      one_kept
      (subst (Keeps bits m f) (ap (λ (x : Result Op Unlegalised). elim x as (λ y. Op) [ Ok a ↦ a | Err b ↦ f ]) is)
      (reconciled_keeps bits m (functions all earlier) f (and_first (is_formed_function f) _ formed) (parts_of (functions all earlier) f sound.0)))
      (passed_all all (earlier ++ f ∷ []) (and_second (is_formed_function f) _ formed) sound.1 more)

all_formed : (m : PlainModule) → Verified m → list_all is_formed_function m.funcs ≡ true
all_formed m verified = and_second (are_formed_entries m.attrs) _ (and_second (are_formed_entries m.props) _ verified.0)

pub undone_casts_keep : UndoneCastsKeep
undone_casts_keep bits m funcs verified out = walk bits m [] (undone_all bits m m.funcs [] (all_formed m verified) verified.1 out)

pub casts_keep : KeepsMeaning ReconcileUnrealizedCasts
casts_keep bits width m funcs verified passed = walk bits m [] (passed_all bits m m.funcs [] (all_formed m verified) verified.1 passed)
