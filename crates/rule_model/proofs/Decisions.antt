-- What the search finds is right.
use Rattle.std.proofs.Common.{◌≡◌, ℕ, zero, suc, ◌+◌, ◌<◌, ◌≤◌, Bool, true, false, List, [], ◌∷◌, ◌++◌, Option, Some, None, refl, sym, ap, ◌∙◌, subst, true≢false, inl, inr, arith}
use Rattle.std.specs.Prelude.{◌⊎◌, not, ⊤}
use Rattle.plain_tree.specs.Ops.{Op, PlainModule}
use Rattle.rule_model.specs.declared.rules.Rule.{Rule}
use Rattle.rule_model.specs.declared.rules.Rule.TheVariants as rule
use Rattle.rule_model.specs.Words.{AllOf, AnyOf, binds}
use Rattle.rule_model.specs.Facts.{functions, Functions}
use Rattle.rule_model.specs.Paths.{Either, Frame, Reach, Undefined}
use Rattle.rule_model.specs.Chains.{Chain, op_used}
use Rattle.rule_model.specs.Sites.{Site, sites}
use Rattle.rule_model.specs.Rules.{Breaks, BreaksFirst, BrokenAt, BrokenFrom, keeps, place, Sound, SoundFrom, SoundFunction}
use Rattle.rule_model.specs.Search.{all_rules, among_reached, AmongSites, Answer, answer, any_of, AtSite, behind_one, choose, first_function, FirstBroken, first_rule, first_site, if_apart, in_function, is_broken, is_reached, IsRight, is_undefined, NothingBroken, one_more, op_apart, Open, or_behind, or_else, or_later, or_next, SiteBreaks, SiteOpen, SitesBreak, SitesOpen, SitesSound, SiteSound}
use Rattle.std.proofs.Math.Nat.{eq-or-lt_of_le}
use Rattle.rule_model.proofs.Places.{InPlace, reaches, reaches_not}
use Rattle.rule_model.proofs.Own.{not_own, own}
use Rattle.rule_model.proofs.InPlaces.{all_placed, Placed}

-- an answer, where there is one, is right
abbrev pub Decided : Type 0 → Option Bool → Type 0
Decided P None = ⊤
Decided P (Some true) = P
Decided P (Some false) = P → ⊥

decided_by : (P : Type 0) (o : Option Bool) → (o ≡ Some true → P) → (o ≡ Some false → P → ⊥) → Decided P o
decided_by P None so never = tt
decided_by P (Some true) so never = so refl
decided_by P (Some false) so never = never refl

either : (P Q : Type 0) (b : Bool) (x y : Option Bool) → Decided P x → Decided Q y → Decided (Either b P Q) (choose b x y)
either P Q true x y p q = p
either P Q false x y p q = q

no_use : (frames : List Frame) (u : ℕ) → AllOf InPlace frames → Decided (Undefined frames u) (is_undefined frames u)
no_use [] u placed = tt
no_use (f ∷ outer) u placed =
    either (Reach f.blocks u f.label f.bound f.ops) (Undefined outer u) (binds u f.blocks) (is_reached f u) (is_undefined outer u)
    (decided_by _ (is_reached f u) (reaches f u placed.0) (reaches_not f u)) (no_use outer u placed.1)

one_or : (P Q : Type 0) (x y : Option Bool) → Decided P x → Decided Q y → Decided (P ⊎ Q) (or_else x y)
one_or P Q None y p q = tt
one_or P Q (Some true) y p q = inl p
one_or P Q (Some false) None p q = tt
one_or P Q (Some false) (Some true) p q = inr q
one_or P Q (Some false) (Some false) p q = elim [ inl a ↦ p a | inr b ↦ q b ]

one_of : (P : ℕ → Type 0) (test : ℕ → Option Bool) (ns : List ℕ) → ((n : ℕ) → Decided (P n) (test n)) → Decided (AnyOf P ns) (any_of test ns)
one_of P test [] each = λ none. none
one_of P test (n ∷ ns) each = one_or (P n) (AnyOf P ns) (test n) (any_of test ns) (each n) (one_of P test ns each)

by_test : (b : Bool) → Decided (b ≡ false) (Some (not b))
by_test true = λ e. true≢false e
by_test false = refl

-- each rule
pub decides : (c : Functions) (f : Op) (s : Site) (r : Rule) → Placed s → Decided (Breaks c f s r) (is_broken c f s r)
decides c f s rule.Defined placed = one_of (Undefined s.frames) (is_undefined s.frames) s.operands (λ u. no_use s.frames u placed)
decides c f s rule.OwnUse placed =
    one_of (λ v. Chain f v v) (λ v. among_reached (λ u. op_used u f) (op_used v f) v) s.results (λ v. decided_by (Chain f v v) _ (own f v) (not_own f v))
decides c f s rule.Operands placed = by_test (keeps c s.facts rule.Operands)
decides c f s rule.Results placed = by_test (keeps c s.facts rule.Results)
decides c f s rule.Regions placed = by_test (keeps c s.facts rule.Regions)
decides c f s rule.Attribute placed = by_test (keeps c s.facts rule.Attribute)
decides c f s rule.Successors placed = by_test (keeps c s.facts rule.Successors)
decides c f s rule.Terminator placed = by_test (keeps c s.facts rule.Terminator)
decides c f s rule.Signature placed = by_test (keeps c s.facts rule.Signature)
decides c f s rule.Symbol placed = by_test (keeps c s.facts rule.Symbol)
decides c f s rule.Reserved placed = by_test (keeps c s.facts rule.Reserved)
decides c f s rule.ValueType placed = by_test (keeps c s.facts rule.ValueType)

-- Rules in their order

rule_at : ℕ → Rule
rule_at zero = rule.Operands
rule_at (suc zero) = rule.Results
rule_at (suc (suc zero)) = rule.Regions
rule_at (suc (suc (suc zero))) = rule.Attribute
rule_at (suc (suc (suc (suc zero)))) = rule.Successors
rule_at (suc (suc (suc (suc (suc zero))))) = rule.Terminator
rule_at (suc (suc (suc (suc (suc (suc zero)))))) = rule.Signature
rule_at (suc (suc (suc (suc (suc (suc (suc zero))))))) = rule.Symbol
rule_at (suc (suc (suc (suc (suc (suc (suc (suc zero)))))))) = rule.Reserved
rule_at (suc (suc (suc (suc (suc (suc (suc (suc (suc zero))))))))) = rule.ValueType
rule_at (suc (suc (suc (suc (suc (suc (suc (suc (suc (suc zero)))))))))) = rule.Defined
rule_at n = rule.OwnUse

at_place : (r : Rule) → rule_at (place r) ≡ r
unfolding rule_at
at_place rule.Operands = refl
at_place rule.Results = refl
at_place rule.Regions = refl
at_place rule.Attribute = refl
at_place rule.Successors = refl
at_place rule.Terminator = refl
at_place rule.Signature = refl
at_place rule.Symbol = refl
at_place rule.Reserved = refl
at_place rule.ValueType = refl
at_place rule.Defined = refl
at_place rule.OwnUse = refl

-- rules of one place are one rule
pub one_rule : (q r : Rule) → place q ≡ place r → q ≡ r
one_rule q r e = sym (at_place q) ∙ ap rule_at e ∙ at_place r

-- rules from a place on to the last
abbrev InOrder : ℕ → List Rule → Type 0
InOrder k [] = (q : Rule) → place q < k
InOrder k (r ∷ rs) = (place r ≡ k) × InOrder (k + 1) rs

pub all_below : (q : Rule) → place q < 12
all_below rule.Operands = omega arith
all_below rule.Results = omega arith
all_below rule.Regions = omega arith
all_below rule.Attribute = omega arith
all_below rule.Successors = omega arith
all_below rule.Terminator = omega arith
all_below rule.Signature = omega arith
all_below rule.Symbol = omega arith
all_below rule.Reserved = omega arith
all_below rule.ValueType = omega arith
all_below rule.Defined = omega arith
all_below rule.OwnUse = omega arith

in_order : InOrder 0 all_rules
in_order = (refl, (refl, (refl, (refl, (refl, (refl, (refl, (refl, (refl, (refl, (refl, (refl, all_below))))))))))))

-- no rule of a place below k is broken
abbrev pub NoneBelow : Functions → Op → Site → ℕ → Type 0
NoneBelow c f s k = (q : Rule) → place q < k → Breaks c f s q → ⊥

pub none_on : (c : Functions) (f : Op) (s : Site) (k : ℕ) (r : Rule) → place r ≡ k → (Breaks c f s r → ⊥) → NoneBelow c f s k → NoneBelow c f s (k + 1)
none_on c f s k r e never before q less b =
    let at_most : place q ≤ k = omega (arith, less) in
    let cases : (place q ≡ k) ⊎ (place q < k) = eq-or-lt_of_le at_most in
    elim cases [
      | inl same ↦ never (subst (Breaks c f s) (one_rule q r (same ∙ sym e)) b)
      | inr h ↦ before q h b
    ]

pub none_below : (c : Functions) (f : Op) (s : Site) → NoneBelow c f s 0
none_below c f s q less = absurd (omega (arith, less))

-- what is found at an operation is right
abbrev SiteIs : Functions → Op → Site → AtSite → Type 0
SiteIs c f s SiteOpen = ⊤
SiteIs c f s SiteSound = Sound c f s
SiteIs c f s (SiteBreaks r) = BreaksFirst c f s r

next_rule : (c : Functions) (f : Op) (s : Site) (k : ℕ) (r : Rule) (o : Option Bool) (x : AtSite) → place r ≡ k → NoneBelow c f s k
    → Decided (Breaks c f s r) o → (NoneBelow c f s (k + 1) → SiteIs c f s x) → SiteIs c f s (or_next o r x)
unfolding BreaksFirst
next_rule c f s k r None x e before d later = tt
next_rule c f s k r (Some true) x e before d later = (d, λ q less. before q (subst (λ n. place q < n) e less))
next_rule c f s k r (Some false) x e before d later = later (none_on c f s k r e d before)

rules_right : (c : Functions) (f : Op) (s : Site) (k : ℕ) (rs : List Rule) → InOrder k rs → Placed s → NoneBelow c f s k → SiteIs c f s (first_rule c f s rs)
unfolding Sound
rules_right c f s k [] order placed before = λ r b. before r (order r) b
rules_right c f s k (r ∷ rs) order placed before =
    next_rule c f s k r (is_broken c f s r) (first_rule c f s rs) order.0 before (decides c f s r placed) (λ on. rules_right c f s (k + 1) rs order.1 placed on)

site_right : (c : Functions) (f : Op) (s : Site) → Placed s → SiteIs c f s (first_rule c f s all_rules)
site_right c f s placed = rules_right c f s 0 all_rules in_order placed (none_below c f s)

abbrev SitesAre : Functions → Op → List Site → AmongSites → Type 0
SitesAre c f ss SitesOpen = ⊤
SitesAre c f ss SitesSound = AllOf (Sound c f) ss
SitesAre c f ss (SitesBreak n r) = BrokenAt c f ss n r

more_sites : (c : Functions) (f : Op) (s : Site) (ss : List Site) (x : AmongSites) → Sound c f s → SitesAre c f ss x → SitesAre c f (s ∷ ss) (one_more x)
more_sites c f s ss SitesOpen sound rest = tt
more_sites c f s ss SitesSound sound rest = (sound, rest)
more_sites c f s ss (SitesBreak n r) sound rest = (sound, rest)

next_site : (c : Functions) (f : Op) (s : Site) (ss : List Site) (a : AtSite) (x : AmongSites) → SiteIs c f s a → SitesAre c f ss x → SitesAre c f (s ∷ ss) (or_later a x)
next_site c f s ss SiteOpen x here rest = tt
next_site c f s ss SiteSound x here rest = more_sites c f s ss x here rest
next_site c f s ss (SiteBreaks r) x here rest = here

sites_right : (c : Functions) (f : Op) (ss : List Site) → AllOf Placed ss → SitesAre c f ss (first_site c f ss)
sites_right c f [] placed = tt
sites_right c f (s ∷ ss) placed =
    next_site c f s ss (first_rule c f s all_rules) (first_site c f ss) (site_right c f s placed.0) (sites_right c f ss placed.1)

if_placed : (c : Functions) (f : Op) (b : Bool) → op_apart f ≡ b → SitesAre c f (sites f) (if_apart b (first_site c f (sites f)))
if_placed c f false e = tt
if_placed c f true e = sites_right c f (sites f) (all_placed f e)

abbrev FunctionsAre : (all earlier fs : List Op) → Answer → Type 0
FunctionsAre all earlier fs Open = ⊤
FunctionsAre all earlier fs NothingBroken = SoundFrom all earlier fs
FunctionsAre all earlier fs (FirstBroken g n r) = BrokenFrom all earlier fs g n r

more_functions : (all earlier fs : List Op) (f : Op) (x : Answer) → SoundFunction (functions all earlier) f
    → FunctionsAre all (earlier ++ f ∷ []) fs x → FunctionsAre all earlier (f ∷ fs) (behind_one x)
more_functions all earlier fs f Open sound rest = tt
more_functions all earlier fs f NothingBroken sound rest = (sound, rest)
more_functions all earlier fs f (FirstBroken g n r) sound rest = (sound, rest)

next_function : (all earlier fs : List Op) (f : Op) (a : AmongSites) (x : Answer) → SitesAre (functions all earlier) f (sites f) a
    → FunctionsAre all (earlier ++ f ∷ []) fs x → FunctionsAre all earlier (f ∷ fs) (or_behind a x)
next_function all earlier fs f SitesOpen x here rest = tt
next_function all earlier fs f SitesSound x here rest = more_functions all earlier fs f x here rest
next_function all earlier fs f (SitesBreak n r) x here rest = here

functions_right : (all earlier fs : List Op) → FunctionsAre all earlier fs (first_function all earlier fs)
functions_right all earlier [] = tt
functions_right all earlier (f ∷ fs) =
    next_function all earlier fs f (in_function (functions all earlier) f) (first_function all (earlier ++ f ∷ []) fs)
    (if_placed (functions all earlier) f (op_apart f) refl) (functions_right all (earlier ++ f ∷ []) fs)

as_said : (m : PlainModule) (a : Answer) → FunctionsAre m.funcs [] m.funcs a → IsRight m a
as_said m Open h = h
as_said m NothingBroken h = h
as_said m (FirstBroken g n r) h = h

-- whatever the search answers is right
pub answer_right : (m : PlainModule) → IsRight m (answer m)
answer_right m = as_said m (answer m) (functions_right m.funcs [] m.funcs)
