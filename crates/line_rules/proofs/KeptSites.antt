-- A function breaks no rule exactly where it keeps the tests region by region, rule `Defined` so, and no value uses itself.
use Rattle.std.proofs.Common.{◌≡◌, ℕ, ◌+◌, ◌==◌, Bool, true, false, List, [], ◌∷◌, ◌++◌, Option, Some, None, refl, sym, ◌∙◌, subst, inl, inr, true≢false}
use Rattle.std.specs.Prelude.{◌⊎◌, ◌||◌, if◌then◌else◌}
use Rattle.std.proofs.lemmas.Bool.{eqb-true}
use Rattle.plain_tree.specs.Types.{PlainType}
use Rattle.plain_tree.specs.Ops.{Op, op, Ops, end_of_ops, more_ops, Regions, end_of_regions, region, Blocks, end_of_blocks, block}
use Rattle.plain_tree.specs.Values.{types_of}
use Rattle.rule_model.specs.declared.rules.Rule.TheVariants as rule
use Rattle.rule_model.specs.Words.{AllOf, AnyOf, has, numbers, results_of}
use Rattle.rule_model.specs.Facts.{Functions, Holder}
use Rattle.rule_model.specs.Paths.{Frame, Undefined}
use Rattle.rule_model.specs.Chains.{blocks_used, by_way_of, Chain, op_used, ops_used, regions_operands, regions_used, uses}
use Rattle.rule_model.specs.Rules.{keeps, Sound, SoundFunction}
use Rattle.rule_model.specs.Scopes.{DefinedFunction}
use Rattle.rule_model.specs.Sites.{Around, blocks_sites, frame_of, holds, op_sites, ops_sites, regions_sites, Site, sites}
use Rattle.rule_model.proofs.ScopeLaws.{defined_by_regions}
use Rattle.line_rules.specs.Kept.{KeepsAll, KeptBlocks, KeptFunction, KeptOp, KeptOps, KeptRegions}
use Rattle.line_rules.proofs.Words.{has_cases}
use Rattle.line_rules.proofs.LinedFormed.{all_to}
use Rattle.line_rules.proofs.LinedChains.{if_has}

abbrev Tests : Functions → Site → Type 0
Tests c s = KeepsAll c s.facts

mutual
  from_op : (c : Functions) (type_of : ℕ → PlainType) (holder : Option Holder) (blocks : Blocks) (frames : List Frame) (rest : Ops) (o : Op) (more : List Site)
      → AllOf (Tests c) (op_sites type_of holder blocks frames rest o more) → KeptOp c type_of holder blocks rest o × AllOf (Tests c) more
  from_op c type_of holder blocks frames rest (op k results operands regions successors) more all =
      let r = from_regions c type_of (holds type_of (op k results operands regions successors)) 0 frames regions more all.1 in
      ((all.0, r.0), r.1)

  from_ops : (c : Functions) (type_of : ℕ → PlainType) (a : Around) (l : ℕ) (bound : List ℕ) (ops : Ops) (more : List Site) → AllOf (Tests c) (ops_sites type_of a l bound ops more) → KeptOps c type_of a.holder a.blocks ops × AllOf (Tests c) more
  from_ops c type_of a l bound end_of_ops more all = (tt, all)
  from_ops c type_of a l bound (more_ops o rest) more all =
      let first = from_op c type_of a.holder a.blocks (frame_of a l bound (more_ops o rest)) rest o (ops_sites type_of a l (results_of o ++ bound) rest more) all in
      let later = from_ops c type_of a l (results_of o ++ bound) rest more first.1 in
      ((first.0, later.0), later.1)

  from_regions : (c : Functions) (type_of : ℕ → PlainType) (holder : ℕ → Holder) (n : ℕ) (frames : List Frame) (rs : Regions) (more : List Site) → AllOf (Tests c) (regions_sites type_of holder n frames rs more) → KeptRegions c type_of holder n rs × AllOf (Tests c) more
  from_regions c type_of holder n frames end_of_regions more all = (tt, all)
  from_regions c type_of holder n frames (region blocks rest) more all =
      let first = from_blocks c type_of (record { holder = Some (holder n); blocks = blocks; outer = frames }) blocks (regions_sites type_of holder (n + 1) frames rest more) all in
      let later = from_regions c type_of holder (n + 1) frames rest more first.1 in
      ((first.0, later.0), later.1)

  from_blocks : (c : Functions) (type_of : ℕ → PlainType) (a : Around) (bs : Blocks) (more : List Site) → AllOf (Tests c) (blocks_sites type_of a bs more) → KeptBlocks c type_of a.holder a.blocks bs × AllOf (Tests c) more
  from_blocks c type_of a end_of_blocks more all = (tt, all)
  from_blocks c type_of a (block label args ops rest) more all =
      let first = from_ops c type_of a label (numbers args) ops (blocks_sites type_of a rest more) all in
      let later = from_blocks c type_of a rest more first.1 in
      ((first.0, later.0), later.1)

mutual
  to_op : (c : Functions) (type_of : ℕ → PlainType) (holder : Option Holder) (blocks : Blocks) (frames : List Frame) (rest : Ops) (o : Op) (more : List Site)
      → KeptOp c type_of holder blocks rest o → AllOf (Tests c) more → AllOf (Tests c) (op_sites type_of holder blocks frames rest o more)
  to_op c type_of holder blocks frames rest (op k results operands regions successors) more d later =
      (d.0, to_regions c type_of (holds type_of (op k results operands regions successors)) 0 frames regions more d.1 later)

  to_ops : (c : Functions) (type_of : ℕ → PlainType) (a : Around) (l : ℕ) (bound : List ℕ) (ops : Ops) (more : List Site) → KeptOps c type_of a.holder a.blocks ops → AllOf (Tests c) more → AllOf (Tests c) (ops_sites type_of a l bound ops more)
  to_ops c type_of a l bound end_of_ops more d later = later
  to_ops c type_of a l bound (more_ops o rest) more d later =
      to_op c type_of a.holder a.blocks (frame_of a l bound (more_ops o rest)) rest o (ops_sites type_of a l (results_of o ++ bound) rest more) d.0 (to_ops c type_of a l (results_of o ++ bound) rest more d.1 later)

  to_regions : (c : Functions) (type_of : ℕ → PlainType) (holder : ℕ → Holder) (n : ℕ) (frames : List Frame) (rs : Regions) (more : List Site) → KeptRegions c type_of holder n rs → AllOf (Tests c) more → AllOf (Tests c) (regions_sites type_of holder n frames rs more)
  to_regions c type_of holder n frames end_of_regions more d later = later
  to_regions c type_of holder n frames (region blocks rest) more d later =
      to_blocks c type_of (record { holder = Some (holder n); blocks = blocks; outer = frames }) blocks (regions_sites type_of holder (n + 1) frames rest more) d.0 (to_regions c type_of holder (n + 1) frames rest more d.1 later)

  to_blocks : (c : Functions) (type_of : ℕ → PlainType) (a : Around) (bs : Blocks) (more : List Site) → KeptBlocks c type_of a.holder a.blocks bs → AllOf (Tests c) more → AllOf (Tests c) (blocks_sites type_of a bs more)
  to_blocks c type_of a end_of_blocks more d later = later
  to_blocks c type_of a (block label args ops rest) more d later =
      to_ops c type_of a label (numbers args) ops (blocks_sites type_of a rest more) d.0 (to_blocks c type_of a rest more d.1 later)

-- Own uses

abbrev NoneOwn : Op → Site → Type 0
NoneOwn f s = AnyOf (λ v. Chain f v v) s.results → ⊥

any_has : (P : ℕ → Type 0) (v : ℕ) (ns : List ℕ) → has v ns ≡ true → P v → AnyOf P ns
any_has P v [] e p = absurd (true≢false (sym e))
any_has P v (n ∷ ns) e p = go (n == v) refl e (λ f. any_has P v ns f p)
  where
    go : (b : Bool) → (n == v) ≡ b → (b || has v ns) ≡ true → (has v ns ≡ true → AnyOf P ns) → P n ⊎ AnyOf P ns
    go true same f rest = inl (subst P (sym (eqb-true n v same)) p)
    go false other f rest = inr (rest f)

abbrev Free : (ℕ → Type 0) → Site → Type 0
Free P s = AnyOf P s.results → ⊥

-- what a tree uses for v
abbrev Unused : (ℕ → Type 0) → (ℕ → List ℕ) → Type 0
Unused P used = (v u : ℕ) → has u (used v) ≡ true → P v → ⊥

mutual
  own_op : (P : ℕ → Type 0) (type_of : ℕ → PlainType) (holder : Option Holder) (blocks : Blocks) (frames : List Frame) (rest : Ops) (o : Op) (more : List Site)
      → AllOf (Free P) (op_sites type_of holder blocks frames rest o more) → Unused P (λ v. op_used v o) × AllOf (Free P) more
  own_op P type_of holder blocks frames rest (op k results operands regions successors) more all =
      let r = own_regions P type_of (holds type_of (op k results operands regions successors)) 0 frames regions more all.1 in (
        λ v u h p. elim (has_cases u (if has v (numbers results) then operands ++ regions_operands regions else []) (regions_used v regions) h) [
          | inl e ↦ all.0 (any_has P v (numbers results) (if_has v u (has v (numbers results)) (operands ++ regions_operands regions) e).0 p)
          | inr e ↦ r.0 v u e p
        ],
        r.1,
      )

  own_ops : (P : ℕ → Type 0) (type_of : ℕ → PlainType) (a : Around) (l : ℕ) (bound : List ℕ) (ops : Ops) (more : List Site) → AllOf (Free P) (ops_sites type_of a l bound ops more) → Unused P (λ v. ops_used v ops) × AllOf (Free P) more
  own_ops P type_of a l bound end_of_ops more all = (λ v u h p. true≢false (sym h), all)
  own_ops P type_of a l bound (more_ops o rest) more all =
      let first = own_op P type_of a.holder a.blocks (frame_of a l bound (more_ops o rest)) rest o (ops_sites type_of a l (results_of o ++ bound) rest more) all in
      let later = own_ops P type_of a l (results_of o ++ bound) rest more first.1 in
      (λ v u h p. elim (has_cases u (op_used v o) (ops_used v rest) h) [ inl e ↦ first.0 v u e p | inr e ↦ later.0 v u e p ], later.1)

  own_regions : (P : ℕ → Type 0) (type_of : ℕ → PlainType) (holder : ℕ → Holder) (n : ℕ) (frames : List Frame) (rs : Regions) (more : List Site) → AllOf (Free P) (regions_sites type_of holder n frames rs more) → Unused P (λ v. regions_used v rs) × AllOf (Free P) more
  own_regions P type_of holder n frames end_of_regions more all = (λ v u h p. true≢false (sym h), all)
  own_regions P type_of holder n frames (region blocks rest) more all =
      let first = own_blocks P type_of (record { holder = Some (holder n); blocks = blocks; outer = frames }) blocks (regions_sites type_of holder (n + 1) frames rest more) all in
      let later = own_regions P type_of holder (n + 1) frames rest more first.1 in
      (λ v u h p. elim (has_cases u (blocks_used v blocks) (regions_used v rest) h) [ inl e ↦ first.0 v u e p | inr e ↦ later.0 v u e p ], later.1)

  own_blocks : (P : ℕ → Type 0) (type_of : ℕ → PlainType) (a : Around) (bs : Blocks) (more : List Site) → AllOf (Free P) (blocks_sites type_of a bs more) → Unused P (λ v. blocks_used v bs) × AllOf (Free P) more
  own_blocks P type_of a end_of_blocks more all = (λ v u h p. true≢false (sym h), all)
  own_blocks P type_of a (block label args ops rest) more all =
      let first = own_ops P type_of a label (numbers args) ops (blocks_sites type_of a rest more) all in
      let later = own_blocks P type_of a rest more first.1 in
      (λ v u h p. elim (has_cases u (ops_used v ops) (blocks_used v rest) h) [ inl e ↦ first.0 v u e p | inr e ↦ later.0 v u e p ], later.1)

-- where a chain begins something is used
chain_uses : {P : Type 0} (f : Op) (v w : ℕ) → Chain f v w → ((u : ℕ) → has u (op_used v f) ≡ true → P) → P
chain_uses f v w (uses h) g = g w h
chain_uses f v w (by_way_of u h c) g = g u h

no_any : (P : ℕ → Type 0) (ns : List ℕ) → ((v : ℕ) → P v → ⊥) → AnyOf P ns → ⊥
no_any P [] none any = any
no_any P (n ∷ ns) none (inl p) = none n p
no_any P (n ∷ ns) none (inr p) = no_any P ns none p

-- Together

pub record Parts (c : Functions) (f : Op) : Type 0 where
  pub tests : KeptFunction c f
  pub scopes : DefinedFunction f
  pub none_own : (v : ℕ) → Chain f v v → ⊥

only_true : (b : Bool) → (b ≡ false → ⊥) → b ≡ true
only_true true never = refl
only_true false never = absurd (never refl)

pub sound_tests : (c : Functions) (f : Op) (s : Site) → Sound c f s → Tests c s
unfolding Sound
sound_tests c f s sound rule.Operands = only_true (keeps c s.facts rule.Operands) (sound rule.Operands)
sound_tests c f s sound rule.Results = only_true (keeps c s.facts rule.Results) (sound rule.Results)
sound_tests c f s sound rule.Regions = only_true (keeps c s.facts rule.Regions) (sound rule.Regions)
sound_tests c f s sound rule.Attribute = only_true (keeps c s.facts rule.Attribute) (sound rule.Attribute)
sound_tests c f s sound rule.Successors = only_true (keeps c s.facts rule.Successors) (sound rule.Successors)
sound_tests c f s sound rule.Terminator = only_true (keeps c s.facts rule.Terminator) (sound rule.Terminator)
sound_tests c f s sound rule.Signature = only_true (keeps c s.facts rule.Signature) (sound rule.Signature)
sound_tests c f s sound rule.Symbol = only_true (keeps c s.facts rule.Symbol) (sound rule.Symbol)
sound_tests c f s sound rule.Reserved = only_true (keeps c s.facts rule.Reserved) (sound rule.Reserved)
sound_tests c f s sound rule.ValueType = only_true (keeps c s.facts rule.ValueType) (sound rule.ValueType)
sound_tests c f s sound rule.Defined = refl
sound_tests c f s sound rule.OwnUse = refl

sound_defined : (c : Functions) (f : Op) (s : Site) → Sound c f s → AnyOf (Undefined s.frames) s.operands → ⊥
unfolding Sound
sound_defined c f s sound any = sound rule.Defined any

sound_own : (c : Functions) (f : Op) (s : Site) → Sound c f s → Free (λ v. Chain f v v) s
unfolding Sound
sound_own c f s sound any = sound rule.OwnUse any

never_false : {b : Bool} → b ≡ true → b ≡ false → ⊥
never_false e f = true≢false (sym e ∙ f)

sound_here : (c : Functions) (f : Op) (s : Site) → Tests c s → (AnyOf (Undefined s.frames) s.operands → ⊥) → ((v : ℕ) → Chain f v v → ⊥) → Sound c f s
unfolding Sound
sound_here c f s tests defined own rule.Operands = never_false (tests rule.Operands)
sound_here c f s tests defined own rule.Results = never_false (tests rule.Results)
sound_here c f s tests defined own rule.Regions = never_false (tests rule.Regions)
sound_here c f s tests defined own rule.Attribute = never_false (tests rule.Attribute)
sound_here c f s tests defined own rule.Successors = never_false (tests rule.Successors)
sound_here c f s tests defined own rule.Terminator = never_false (tests rule.Terminator)
sound_here c f s tests defined own rule.Signature = never_false (tests rule.Signature)
sound_here c f s tests defined own rule.Symbol = never_false (tests rule.Symbol)
sound_here c f s tests defined own rule.Reserved = never_false (tests rule.Reserved)
sound_here c f s tests defined own rule.ValueType = never_false (tests rule.ValueType)
sound_here c f s tests defined own rule.Defined = defined
sound_here c f s tests defined own rule.OwnUse = no_any (λ v. Chain f v v) s.results own

sound_all : (c : Functions) (f : Op) (ss : List Site) → AllOf (Tests c) ss → AllOf (λ s. AnyOf (Undefined s.frames) s.operands → ⊥) ss → ((v : ℕ) → Chain f v v → ⊥) → AllOf (Sound c f) ss
sound_all c f [] tests defined own = tt
sound_all c f (s ∷ ss) tests defined own = (sound_here c f s tests.0 defined.0 own, sound_all c f ss tests.1 defined.1 own)

pub parts_of : (c : Functions) (f : Op) → SoundFunction c f → Parts c f
parts_of c f sound = record {
  tests = (from_op c (types_of f) None end_of_blocks [] end_of_ops f [] (all_to (Sound c f) (Tests c) (sites f) (sound_tests c f) sound)).0;
  scopes = (defined_by_regions f).0 (all_to (Sound c f) (λ s. AnyOf (Undefined s.frames) s.operands → ⊥) (sites f) (sound_defined c f) sound);
  none_own = λ v chain. chain_uses f v v chain
      (λ u h. (own_op (λ w. Chain f w w) (types_of f) None end_of_blocks [] end_of_ops f [] (all_to (Sound c f) (Free (λ w. Chain f w w)) (sites f) (sound_own c f) sound)).0 v u h chain);
}

pub sound_by : (c : Functions) (f : Op) → Parts c f → SoundFunction c f
sound_by c f parts = sound_all c f (sites f) (to_op c (types_of f) None end_of_blocks [] end_of_ops f [] parts.tests tt) ((defined_by_regions f).1 parts.scopes) parts.none_own
