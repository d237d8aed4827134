-- The first rule broken of a function, from the first places at which a test, `Defined` and `OwnUse` are broken.
use Rattle.std.proofs.Common.{◌≡◌, ℕ, zero, suc, ◌+◌, ◌<◌, Bool, true, false, true≢false, List, [], ◌∷◌, refl, sym, ap, subst, ◌∙◌, arith}
use Rattle.std.specs.Prelude.{Option, Some, None}
use Rattle.plain_tree.specs.Ops.{Op}
use Rattle.rule_model.specs.declared.rules.Rule.{Rule}
use Rattle.rule_model.specs.declared.rules.Rule.TheVariants as rule
use Rattle.rule_model.specs.Words.{AllOf}
use Rattle.rule_model.specs.Facts.{Functions}
use Rattle.rule_model.specs.Rules.{Breaks, BreaksFirst, BrokenAt, Sound, place}
use Rattle.rule_model.specs.Sites.{Site, sites}
use Rattle.rule_model.proofs.Decisions.{all_below}
use Rattle.rule_tests.specs.Firsts.{keeps}
use Rattle.function_tests.specs.Firsts.{BreaksTest, BreaksTestAt, KeepsTests, TellsTests}
use Rattle.ir_verifier.specs.Telling.{TellsFunction}
use Rattle.first_places.specs.First.{FirstAt}
use Rattle.ir_verifier.specs.Sooner.{Found, at_place, sooner}
use Rattle.ir_verifier.proofs.Below.{BreaksBelow, Keeps, TellsBelow, one_more}

-- The tests are the rules whose place is below 10

not_both : (b : Bool) → b ≡ true → b ≡ false → ⊥
not_both b p q = true≢false (sym p ∙ q)

kept : (c : Functions) (f : Op) (s : Site) → KeepsTests c s → Keeps c f 10 s
unfolding keeps
kept c f s all rule.Defined less b = absurd (omega (arith, less))
kept c f s all rule.OwnUse less b = absurd (omega (arith, less))
kept c f s all rule.Operands less b = not_both _ (all rule.Operands) b
kept c f s all rule.Results less b = not_both _ (all rule.Results) b
kept c f s all rule.Regions less b = not_both _ (all rule.Regions) b
kept c f s all rule.Attribute less b = not_both _ (all rule.Attribute) b
kept c f s all rule.Successors less b = not_both _ (all rule.Successors) b
kept c f s all rule.Terminator less b = not_both _ (all rule.Terminator) b
kept c f s all rule.Signature less b = not_both _ (all rule.Signature) b
kept c f s all rule.Symbol less b = not_both _ (all rule.Symbol) b
kept c f s all rule.Reserved less b = not_both _ (all rule.Reserved) b
kept c f s all rule.ValueType less b = not_both _ (all rule.ValueType) b

-- those in front of a test are tests
kept_before : (c : Functions) (f : Op) (s : Site) (r : Rule) → place r < 10 → ((q : Rule) → place q < place r → keeps c s.facts q ≡ true) → Keeps c f (place r) s
unfolding keeps
kept_before c f s r low before rule.Defined less b = absurd (omega (arith, less, low))
kept_before c f s r low before rule.OwnUse less b = absurd (omega (arith, less, low))
kept_before c f s r low before rule.Operands less b = not_both _ (before rule.Operands less) b
kept_before c f s r low before rule.Results less b = not_both _ (before rule.Results less) b
kept_before c f s r low before rule.Regions less b = not_both _ (before rule.Regions less) b
kept_before c f s r low before rule.Attribute less b = not_both _ (before rule.Attribute less) b
kept_before c f s r low before rule.Successors less b = not_both _ (before rule.Successors less) b
kept_before c f s r low before rule.Terminator less b = not_both _ (before rule.Terminator less) b
kept_before c f s r low before rule.Signature less b = not_both _ (before rule.Signature less) b
kept_before c f s r low before rule.Symbol less b = not_both _ (before rule.Symbol less) b
kept_before c f s r low before rule.Reserved less b = not_both _ (before rule.Reserved less) b
kept_before c f s r low before rule.ValueType less b = not_both _ (before rule.ValueType less) b

broken : (c : Functions) (f : Op) (s : Site) (r : Rule) → keeps c s.facts r ≡ false → (place r < 10) × Breaks c f s r
unfolding keeps
broken c f s rule.Defined b = absurd (true≢false b)
broken c f s rule.OwnUse b = absurd (true≢false b)
broken c f s rule.Operands b = (omega arith, b)
broken c f s rule.Results b = (omega arith, b)
broken c f s rule.Regions b = (omega arith, b)
broken c f s rule.Attribute b = (omega arith, b)
broken c f s rule.Successors b = (omega arith, b)
broken c f s rule.Terminator b = (omega arith, b)
broken c f s rule.Signature b = (omega arith, b)
broken c f s rule.Symbol b = (omega arith, b)
broken c f s rule.Reserved b = (omega arith, b)
broken c f s rule.ValueType b = (omega arith, b)

all_kept : (c : Functions) (f : Op) (ss : List Site) → AllOf (KeepsTests c) ss → AllOf (Keeps c f 10) ss
all_kept c f [] a = tt
all_kept c f (s ∷ ss) a = (kept c f s a.0, all_kept c f ss a.1)

test_at : (c : Functions) (f : Op) (ss : List Site) (n : ℕ) (r : Rule) → BreaksTestAt c ss n r → BreaksBelow c f 10 ss n r
test_at c f [] n r b = b
test_at c f (s ∷ ss) zero r b = let here : (place r < 10) × Breaks c f s r = broken c f s r b.0 in (here.0, (here.1, kept_before c f s r here.0 b.1))
test_at c f (s ∷ ss) (suc n) r b = (kept c f s b.0, test_at c f ss n r b.1)

tests_below : (c : Functions) (f : Op) (a : Found) → TellsTests c f a → TellsBelow c f 10 (sites f) a
tests_below c f None p = all_kept c f (sites f) p
tests_below c f (Some a) p = test_at c f (sites f) a.0 a.1 p

-- All twelve rules

sound_site : (c : Functions) (f : Op) (s : Site) → Keeps c f 12 s → Sound c f s
unfolding Sound
sound_site c f s keeps r b = keeps r (all_below r) b

breaks_site : (c : Functions) (f : Op) (s : Site) (r : Rule) → Breaks c f s r → Keeps c f (place r) s → BreaksFirst c f s r
unfolding BreaksFirst
breaks_site c f s r b keeps = (b, keeps)

all_sound : (c : Functions) (f : Op) (ss : List Site) → AllOf (Keeps c f 12) ss → AllOf (Sound c f) ss
all_sound c f [] a = tt
all_sound c f (s ∷ ss) a = (sound_site c f s a.0, all_sound c f ss a.1)

broken_at : (c : Functions) (f : Op) (ss : List Site) (n : ℕ) (r : Rule) → BreaksBelow c f 12 ss n r → BrokenAt c f ss n r
broken_at c f [] n r b = b
broken_at c f (s ∷ ss) zero r b = breaks_site c f s r b.1.0 b.1.1
broken_at c f (s ∷ ss) (suc n) r b = (sound_site c f s b.0, broken_at c f ss n r b.1)

told : (c : Functions) (f : Op) (a : Found) → TellsBelow c f 12 (sites f) a → TellsFunction c f a
told c f None p = all_sound c f (sites f) p
told c f (Some a) p = broken_at c f (sites f) a.0 a.1 p

-- the first rule broken is the soonest of three
pub least_of_three : (c : Functions) (f : Op) (test : Found) (undefined own : Option ℕ)
    → TellsTests c f test → FirstAt (λ s. Breaks c f s rule.Defined) (sites f) undefined → FirstAt (λ s. Breaks c f s rule.OwnUse) (sites f) own
    → TellsFunction c f (sooner (sooner test (at_place rule.Defined undefined)) (at_place rule.OwnUse own))
least_of_three c f test undefined own p q r =
    let eleven : TellsBelow c f 11 (sites f) (sooner test (at_place rule.Defined undefined)) = one_more c f rule.Defined (sites f) test undefined (tests_below c f test p) q in
    told c f _ (one_more c f rule.OwnUse (sites f) (sooner test (at_place rule.Defined undefined)) own eleven r)

pub least_found : (c : Functions) (f : Op) (test : Found) (undefined own : Option ℕ) (one two three least : Found)
    → TellsTests c f test → FirstAt (λ s. Breaks c f s rule.Defined) (sites f) undefined → FirstAt (λ s. Breaks c f s rule.OwnUse) (sites f) own
    → one ≡ at_place rule.Defined undefined → two ≡ sooner test one → three ≡ at_place rule.OwnUse own → least ≡ sooner two three → TellsFunction c f least
least_found c f test undefined own one two three least p q r is_one is_two is_three is =
    let same : least ≡ sooner (sooner test (at_place rule.Defined undefined)) (at_place rule.OwnUse own) =
    is ∙ ap (sooner two) is_three ∙ ap (λ x. sooner x (at_place rule.OwnUse own)) (is_two ∙ ap (sooner test) is_one) in
    subst (TellsFunction c f) (sym same) (least_of_three c f test undefined own p q r)
