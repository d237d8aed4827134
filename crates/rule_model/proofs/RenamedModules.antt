-- Renaming: what is verified stays so.
use Rattle.std.proofs.Common.{◌≡◌, ℕ, ◌+◌, ◌==◌, List, [], ◌∷◌, ◌++◌, Option, Some, refl, sym, ap, ◌∙◌, subst, map}
use Rattle.std.specs.Prelude.{◌&&◌}
use Rattle.std.specs.List.{list_all}
use Rattle.plain_tree.specs.Types.{PlainType}
use Rattle.plain_tree.specs.Ops.{Kind, Op, Ops, Regions, Blocks, PlainModule}
use Rattle.plain_tree.specs.Renamings.{RenAll, none_all, more_all, RenOp, ren_op, RenOps, ops_ended, ren_more, RenRegions, regions_ended, ren_region, RenBlocks, blocks_ended, ren_block, OneToOne, TypesAgree}
use Rattle.rule_model.specs.declared.rules.Rule.{Rule}
use Rattle.rule_model.specs.declared.rules.Rule.TheVariants as rule
use Rattle.rule_model.specs.Words.{AllOf, types}
use Rattle.rule_model.specs.Facts.{Declared, declared, functions, Functions, Holder}
use Rattle.rule_model.specs.Paths.{Frame, Undefined}
use Rattle.rule_model.specs.Chains.{Chain}
use Rattle.rule_model.specs.Sites.{Around, blocks_sites, holds, op_sites, ops_sites, regions_sites, Site, sites}
use Rattle.rule_model.specs.Formed.{are_formed_entries, is_formed, is_formed_function}
use Rattle.rule_model.specs.Rules.{Breaks, keeps, Sound, SoundFrom, SoundFunction, Verified}
use Rattle.rule_model.specs.Promises.{IsOneToOne, Maps, Mapped, no_mapped, more_mapped, VerifiedRenames}
use Rattle.rule_model.proofs.RenamedFacts.{all_joined, facts_same, numbers_ren, results_ren, types_agree, types_same}
use Rattle.rule_model.proofs.RenamedPaths.{any_back, more_frames, no_frames, own_back, RenFrames, undefined_back}
use Rattle.rule_model.proofs.RenamedFormed.{function_same}

-- functions in order that are the same but for numbers of values and labels, one-to-one in each
pub data RenFunctions : List Op → List Op → Type 1 where
  no_functions : RenFunctions [] []
  more_functions : (R L : ℕ → ℕ → Type 0) {f g : Op} {fs gs : List Op} → OneToOne R → OneToOne L → RenOp R L f g → RenFunctions fs gs → RenFunctions (f ∷ fs) (g ∷ gs)

-- operations with what surrounds them that go together
pub record RenSite (R L : ℕ → ℕ → Type 0) (s t : Site) : Type 0 where
  pub facts : s.facts ≡ t.facts
  pub operands : RenAll R s.operands t.operands
  pub results : RenAll R s.results t.results
  pub frames : RenFrames R L s.frames t.frames

pub data RenSites (R L : ℕ → ℕ → Type 0) : List Site → List Site → Type 0 where
  no_sites : RenSites R L [] []
  more_sites : {s t : Site} {ss ts : List Site} → RenSite R L s t → RenSites R L ss ts → RenSites R L (s ∷ ss) (t ∷ ts)

-- Where operations stand

operands_same : {R : ℕ → ℕ → Type 0} {ms ns : List ℕ} (s t : ℕ → PlainType) → TypesAgree R s t → RenAll R ms ns → map s ms ≡ map t ns
operands_same s t agree none_all = refl
operands_same s t agree (more_all {m = m} {n = n} {ms = ms} r rest) = ap (λ u. u ∷ map s ms) (agree m n r) ∙ ap (λ us. t n ∷ us) (operands_same s t agree rest)

abbrev held : Kind → List PlainType → List PlainType → ℕ → Holder
held k operands results n = record { name = k.name; props = k.props; operands = operands; results = results; region = n }

holds_same : {R L : ℕ → ℕ → Type 0} {o p : Op} (s t : ℕ → PlainType) → TypesAgree R s t → RenOp R L o p → (n : ℕ) → holds s o n ≡ holds t p n
holds_same s t agree (ren_op {k = k} {rs = rs} {ps = ps} vs os r ls) n =
    ap (λ ts. held k ts (types rs) n) (operands_same s t agree os) ∙ ap (λ ts. held k (map t ps) ts n) (types_same vs)

pub record RenAround (R L : ℕ → ℕ → Type 0) (a b : Around) : Type 0 where
  pub holder : a.holder ≡ b.holder
  pub blocks : RenBlocks R L a.blocks b.blocks
  pub outer : RenFrames R L a.outer b.outer

-- what the walk is told of both trees: numbers and labels one-to-one, values of the same types
pub record Told (R L : ℕ → ℕ → Type 0) (s t : ℕ → PlainType) : Type 0 where
  pub labels : OneToOne L
  pub types : TypesAgree R s t

mutual
  op_ren : {R L : ℕ → ℕ → Type 0} {s t : ℕ → PlainType} {o p : Op} {h i : Option Holder} {bs cs : Blocks} {fs gs : List Frame} {rest more : Ops} {xs ys : List Site}
      → Told R L s t → RenOp R L o p → h ≡ i → RenBlocks R L bs cs → RenFrames R L fs gs → RenOps R L rest more → RenSites R L xs ys
      → RenSites R L (op_sites s h bs fs rest o xs) (op_sites t i cs gs more p ys)
  op_ren {s = s} {t = t} told (ren_op {k = k} vs os r ls) same blocks frames rest later =
      more_sites (record {
        facts = facts_same s t told.labels told.types same blocks rest (ren_op {k = k} vs os r ls);
        operands = os;
        results = numbers_ren vs;
        frames = frames;
      })
      (regions_ren told r (holds_same s t told.types (ren_op {k = k} vs os r ls)) 0 frames later)

  ops_ren : {R L : ℕ → ℕ → Type 0} {s t : ℕ → PlainType} {os ps : Ops} {a b : Around} {l m : ℕ} {bound other : List ℕ} {xs ys : List Site}
      → Told R L s t → RenOps R L os ps → RenAround R L a b → L l m → RenAll R bound other → RenSites R L xs ys
      → RenSites R L (ops_sites s a l bound os xs) (ops_sites t b m other ps ys)
  ops_ren told ops_ended around labels bounds later = later
  ops_ren told (ren_more o rest) around labels bounds later =
      op_ren told o around.holder around.blocks
      (more_frames (record { blocks = around.blocks; label = labels; bound = bounds; ops = ren_more o rest }) around.outer) rest
      (ops_ren told rest around labels (all_joined (results_ren o) bounds) later)

  regions_ren : {R L : ℕ → ℕ → Type 0} {s t : ℕ → PlainType} {r q : Regions} {h i : ℕ → Holder} {fs gs : List Frame} {xs ys : List Site}
      → Told R L s t → RenRegions R L r q → ((n : ℕ) → h n ≡ i n) → (n : ℕ) → RenFrames R L fs gs → RenSites R L xs ys
      → RenSites R L (regions_sites s h n fs r xs) (regions_sites t i n gs q ys)
  regions_ren told regions_ended same n frames later = later
  regions_ren told (ren_region b rest) same n frames later =
      blocks_ren told b (record { holder = ap Some (same n); blocks = b; outer = frames }) (regions_ren told rest same (n + 1) frames later)

  blocks_ren : {R L : ℕ → ℕ → Type 0} {s t : ℕ → PlainType} {bs cs : Blocks} {a b : Around} {xs ys : List Site}
      → Told R L s t → RenBlocks R L bs cs → RenAround R L a b → RenSites R L xs ys → RenSites R L (blocks_sites s a bs xs) (blocks_sites t b cs ys)
  blocks_ren told blocks_ended around later = later
  blocks_ren told (ren_block l vs os rest) around later = ops_ren told os around l (numbers_ren vs) (blocks_ren told rest around later)

sites_ren : {R L : ℕ → ℕ → Type 0} {f g : Op} → OneToOne R → OneToOne L → RenOp R L f g → RenSites R L (sites f) (sites g)
sites_ren one own ren = op_ren (record { labels = own; types = types_agree one ren }) ren refl blocks_ended no_frames ops_ended no_sites

-- Rules

breaks_back : {R L : ℕ → ℕ → Type 0} {f g : Op} {s t : Site} (c : Functions) (r : Rule) → OneToOne R → OneToOne L → RenOp R L f g → RenSite R L s t → Breaks c g t r → Breaks c f s r
breaks_back {s = s} {t = t} c rule.Defined one own ren site b =
    any_back (Undefined s.frames) (Undefined t.frames) (λ m n r u. undefined_back m n one own r site.frames u) site.operands b
breaks_back {f = f} {g = g} c rule.OwnUse one own ren site b = any_back (λ v. Chain f v v) (λ v. Chain g v v) (λ m n r chain. own_back m n one ren r chain) site.results b
breaks_back c rule.Operands one own ren site b = ap (λ x. keeps c x rule.Operands) site.facts ∙ b
breaks_back c rule.Results one own ren site b = ap (λ x. keeps c x rule.Results) site.facts ∙ b
breaks_back c rule.Regions one own ren site b = ap (λ x. keeps c x rule.Regions) site.facts ∙ b
breaks_back c rule.Attribute one own ren site b = ap (λ x. keeps c x rule.Attribute) site.facts ∙ b
breaks_back c rule.Successors one own ren site b = ap (λ x. keeps c x rule.Successors) site.facts ∙ b
breaks_back c rule.Terminator one own ren site b = ap (λ x. keeps c x rule.Terminator) site.facts ∙ b
breaks_back c rule.Signature one own ren site b = ap (λ x. keeps c x rule.Signature) site.facts ∙ b
breaks_back c rule.Symbol one own ren site b = ap (λ x. keeps c x rule.Symbol) site.facts ∙ b
breaks_back c rule.Reserved one own ren site b = ap (λ x. keeps c x rule.Reserved) site.facts ∙ b
breaks_back c rule.ValueType one own ren site b = ap (λ x. keeps c x rule.ValueType) site.facts ∙ b

sound_same : {R L : ℕ → ℕ → Type 0} {f g : Op} {s t : Site} (c : Functions) → OneToOne R → OneToOne L → RenOp R L f g → RenSite R L s t → Sound c f s → Sound c g t
unfolding Sound
sound_same c one own ren site sound = λ r b. sound r (breaks_back c r one own ren site b)

all_same : {R L : ℕ → ℕ → Type 0} {f g : Op} {ss ts : List Site} (c : Functions) → OneToOne R → OneToOne L → RenOp R L f g → RenSites R L ss ts
    → AllOf (Sound c f) ss → AllOf (Sound c g) ts
all_same c one own ren no_sites sound = tt
all_same c one own ren (more_sites site rest) sound = (sound_same c one own ren site sound.0, all_same c one own ren rest sound.1)

-- Modules

declared_same : {R L : ℕ → ℕ → Type 0} {f g : Op} → RenOp R L f g → declared f ≡ declared g
declared_same (ren_op vs os r ls) = refl

all_declared : {fs gs : List Op} → RenFunctions fs gs → map declared fs ≡ map declared gs
all_declared no_functions = refl
all_declared (more_functions R L {g = g} {fs = fs} one own ren rest) = ap (λ d. d ∷ map declared fs) (declared_same ren) ∙ ap (λ ds. declared g ∷ ds) (all_declared rest)

declared_joined : (fs : List Op) (f : Op) → map declared (fs ++ f ∷ []) ≡ map declared fs ++ declared f ∷ []
declared_joined [] f = refl
declared_joined (g ∷ gs) f = ap (λ ds. declared g ∷ ds) (declared_joined gs f)

abbrev context : List Declared → List Declared → Functions
context all earlier = record { all = all; earlier = earlier }

from_same : (all other before after : List Op) {fs gs : List Op} → map declared all ≡ map declared other → map declared before ≡ map declared after → RenFunctions fs gs
    → SoundFrom all before fs → SoundFrom other after gs
from_same all other before after whole past no_functions sound = tt
from_same all other before after whole past (more_functions R L {f = f} {g = g} one own ren rest) sound = (
  subst (λ c. SoundFunction c g) (ap (λ x. context x (map declared before)) whole ∙ ap (λ x. context (map declared other) x) past)
      (all_same (functions all before) one own ren (sites_ren one own ren) sound.0),
  from_same all other (before ++ f ∷ []) (after ++ g ∷ []) whole
      (declared_joined before f ∙ ap (λ x. x ++ declared f ∷ []) past ∙ ap (λ x. map declared after ++ x ∷ []) (declared_same ren) ∙ sym (declared_joined after g)) rest sound.1,
)

formed_same : {fs gs : List Op} → RenFunctions fs gs → list_all is_formed_function fs ≡ list_all is_formed_function gs
formed_same no_functions = refl
formed_same (more_functions R L {g = g} {fs = fs} one own ren rest) =
    ap (λ x. x && list_all is_formed_function fs) (function_same one own ren) ∙ ap (λ x. is_formed_function g && x) (formed_same rest)

same_entries : (m n : PlainModule) → m.props ≡ n.props → m.attrs ≡ n.attrs → RenFunctions m.funcs n.funcs → is_formed m ≡ is_formed n
same_entries m n props attrs funcs =
    ap (λ es. are_formed_entries es && (are_formed_entries m.attrs && list_all is_formed_function m.funcs)) props
    ∙ ap (λ es. are_formed_entries n.props && (are_formed_entries es && list_all is_formed_function m.funcs)) attrs
    ∙ ap (λ x. are_formed_entries n.props && (are_formed_entries n.attrs && x)) (formed_same funcs)

-- by any relations of numbers that are one-to-one
pub verified_by : (m n : PlainModule) → m.props ≡ n.props → m.attrs ≡ n.attrs → RenFunctions m.funcs n.funcs → Verified m → Verified n
verified_by m n props attrs funcs verified =
    (sym (same_entries m n props attrs funcs) ∙ verified.0, from_same m.funcs n.funcs [] [] (all_declared funcs) refl funcs verified.1)

maps_one : (to : ℕ → ℕ) → IsOneToOne to → OneToOne (Maps to)
maps_one to one a b c d r s = sym (one a c) ∙ ap (λ x. x == to c) r ∙ ap (λ x. b == x) s

by_maps : {fs gs : List Op} → Mapped fs gs → RenFunctions fs gs
by_maps no_mapped = no_functions
by_maps (more_mapped values labels one own ren rest) = more_functions (Maps values) (Maps labels) (maps_one values one) (maps_one labels own) ren (by_maps rest)

pub verified_renames : VerifiedRenames
verified_renames m n ren verified = verified_by m n ren.props ren.attrs (by_maps ren.funcs) verified
