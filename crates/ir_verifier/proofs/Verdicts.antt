-- A module passes or fails, and not both.
use Rattle.std.proofs.Common.{◌≡◌, ◌↔◌, ℕ, zero, suc, Bool, true, false, List, [], ◌∷◌, ◌++◌, refl, sym, ap, ◌∙◌, true≢false}
use Rattle.std.specs.Prelude.{◌&&◌}
use Rattle.std.specs.List.{list_all}
use Rattle.plain_tree.specs.Ops.{Op, op, PlainModule}
use Rattle.plain_tree.specs.Values.{op_values}
use Rattle.rule_model.specs.declared.rules.Rule.{Rule}
use Rattle.rule_model.specs.Words.{AllOf, numbers}
use Rattle.rule_model.specs.Facts.{functions, Functions}
use Rattle.rule_model.specs.Sites.{Site, sites}
use Rattle.rule_model.specs.Formed.{are_formed_regions, are_once, Formed, is_formed_function, is_formed_here, is_function_name, op_labels}
use Rattle.rule_model.specs.Rules.{BreaksFirst, BrokenAt, BrokenFrom, Sound, SoundFrom, Verified}
use Rattle.rule_model.proofs.Firsts.{one_answer}
use Rattle.ir_verifier.specs.declared.broken.BrokenRule.{BrokenRule}
use Rattle.first_places.specs.Numbering.{is_numbered_once}
use Rattle.ir_verifier.specs.Promises.{OneVerdict, PassesVerified}
use Rattle.ir_verifier.specs.Telling.{Fails, Numbered, Passes}

-- Both ways

not_sound : (c : Functions) (f : Op) (s : Site) (r : Rule) → Sound c f s → BreaksFirst c f s r → ⊥
unfolding Sound BreaksFirst
not_sound c f s r sound b = sound r b.0

none_at : (c : Functions) (f : Op) (ss : List Site) (n : ℕ) (r : Rule) → AllOf (Sound c f) ss → BrokenAt c f ss n r → ⊥
none_at c f [] n r sound b = b
none_at c f (s ∷ ss) zero r sound b = not_sound c f s r sound.0 b
none_at c f (s ∷ ss) (suc n) r sound b = none_at c f ss n r sound.1 b.1

none_from : (all earlier fs : List Op) (g n : ℕ) (r : Rule) → SoundFrom all earlier fs → BrokenFrom all earlier fs g n r → ⊥
none_from all earlier [] g n r sound b = b
none_from all earlier (f ∷ fs) zero n r sound b = none_at (functions all earlier) f (sites f) n r sound.0 b
none_from all earlier (f ∷ fs) (suc g) n r sound b = none_from all (earlier ++ f ∷ []) fs g n r sound.1 b.1

pub never_both : (m : PlainModule) (b : BrokenRule) → Fails m b → Passes m → ⊥
never_both m b fails passes = none_from m.funcs [] m.funcs b.function b.operation b.rule (passes fails.0) fails.1

pub one_way : (m : PlainModule) (b c : BrokenRule) → Fails m b → Fails m c → b ≡ c
one_way m b c p q =
    let same = one_answer m b.function c.function b.operation c.operation b.rule c.rule p.1 q.1 in
    λ i. record { function = same.0 i; operation = same.1 i; rule = same.2 i }

pub one_verdict : OneVerdict
one_verdict m b c fails = (never_both m b fails, one_way m b c fails)

-- A formed function numbers each value and each block once

behind_first : (a b : Bool) → (a && b) ≡ true → b ≡ true
behind_first true b e = e
behind_first false b e = absurd (true≢false (sym e))

two_of : (a b c : Bool) → (a && (b && c)) ≡ true → (a && b) ≡ true
two_of true true c e = refl
two_of true false c e = absurd (true≢false (sym e))
two_of false b c e = absurd (true≢false (sym e))

function_numbered : (f : Op) → is_formed_function f ≡ true → is_numbered_once f ≡ true
function_numbered (op k results operands regions successors) e =
    let f : Op = op k results operands regions successors in
    let defined : List ℕ = numbers (op_values f []) in
    two_of (are_once defined) (are_once (op_labels f)) (is_formed_here defined [] k results operands successors && are_formed_regions defined regions)
    (behind_first (is_function_name k.name) _ e)

and_both : (a b c d : Bool) → (a ≡ true → c ≡ true) → (b ≡ true → d ≡ true) → (a && b) ≡ true → (c && d) ≡ true
and_both true b c d p q e = ap (λ x. x && d) (p refl) ∙ q e
and_both false b c d p q e = absurd (true≢false (sym e))

all_numbered : (fs : List Op) → list_all is_formed_function fs ≡ true → list_all is_numbered_once fs ≡ true
all_numbered [] e = refl
all_numbered (f ∷ fs) e = and_both (is_formed_function f) (list_all is_formed_function fs) _ _ (function_numbered f) (all_numbered fs) e

pub numbered : (m : PlainModule) → Formed m → Numbered m
numbered m formed = all_numbered m.funcs (behind_first _ _ (behind_first _ _ formed))

pub passes_verified : PassesVerified
passes_verified m formed = (λ passes. (formed, passes (numbered m formed)), λ verified given. verified.1)
