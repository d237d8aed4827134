-- The first broken rule: there is at most one, and none exactly where no rule is broken.
use Rattle.std.proofs.Common.{◌≡◌, ℕ, zero, suc, ◌<◌, ◌≤◌, List, [], ◌∷◌, ◌++◌, refl, ap, subst, inl, inr, arith}
use Rattle.std.proofs.Math.Nat.{eq-or-lt_of_le}
use Rattle.plain_tree.specs.Ops.{Op}
use Rattle.rule_model.specs.declared.rules.Rule.{Rule}
use Rattle.rule_model.specs.Words.{AllOf}
use Rattle.rule_model.specs.Facts.{functions, Functions}
use Rattle.rule_model.specs.Sites.{Site, sites}
use Rattle.rule_model.specs.Rules.{BreaksFirst, BrokenAt, BrokenFrom, place, Sound, SoundFrom, SoundFunction}
use Rattle.rule_model.specs.Promises.{NothingIsBroken, OneAnswer}
use Rattle.rule_model.proofs.Decisions.{all_below, NoneBelow, none_below, one_rule}
use Rattle.std.proofs.lemmas.Bool.{cases_order}

-- At most one

one_first : (c : Functions) (f : Op) (s : Site) (r q : Rule) → BreaksFirst c f s r → BreaksFirst c f s q → r ≡ q
unfolding BreaksFirst
one_first c f s r q a b = elim (cases_order (place r) (place q)) [
  | inl same ↦ one_rule r q same
  | inr rest ↦ elim rest [ inl less ↦ absurd (b.1 r less a.0) | inr more ↦ absurd (a.1 q more b.0) ]
]

not_sound : (c : Functions) (f : Op) (s : Site) (r : Rule) → Sound c f s → BreaksFirst c f s r → ⊥
unfolding Sound BreaksFirst
not_sound c f s r sound b = sound r b.0

one_at : (c : Functions) (f : Op) (ss : List Site) (n k : ℕ) (r q : Rule) → BrokenAt c f ss n r → BrokenAt c f ss k q → (n ≡ k) × (r ≡ q)
one_at c f [] n k r q a b = absurd a
one_at c f (s ∷ ss) zero zero r q a b = (refl, one_first c f s r q a b)
one_at c f (s ∷ ss) zero (suc k) r q a b = absurd (not_sound c f s r b.0 a)
one_at c f (s ∷ ss) (suc n) zero r q a b = absurd (not_sound c f s q a.0 b)
one_at c f (s ∷ ss) (suc n) (suc k) r q a b = let both = one_at c f ss n k r q a.1 b.1 in (ap (λ i. suc i) both.0, both.1)

none_at : (c : Functions) (f : Op) (ss : List Site) (n : ℕ) (r : Rule) → AllOf (Sound c f) ss → BrokenAt c f ss n r → ⊥
none_at c f [] n r sound b = b
none_at c f (s ∷ ss) zero r sound b = not_sound c f s r sound.0 b
none_at c f (s ∷ ss) (suc n) r sound b = none_at c f ss n r sound.1 b.1

one_from : (all earlier fs : List Op) (g h n k : ℕ) (r q : Rule) → BrokenFrom all earlier fs g n r → BrokenFrom all earlier fs h k q → (g ≡ h) × (n ≡ k) × (r ≡ q)
one_from all earlier [] g h n k r q a b = absurd a
one_from all earlier (f ∷ fs) zero zero n k r q a b = let both = one_at (functions all earlier) f (sites f) n k r q a b in (refl, both.0, both.1)
one_from all earlier (f ∷ fs) zero (suc h) n k r q a b = absurd (none_at (functions all earlier) f (sites f) n r b.0 a)
one_from all earlier (f ∷ fs) (suc g) zero n k r q a b = absurd (none_at (functions all earlier) f (sites f) k q a.0 b)
one_from all earlier (f ∷ fs) (suc g) (suc h) n k r q a b =
    let rest = one_from all (earlier ++ f ∷ []) fs g h n k r q a.1 b.1 in
    (ap (λ i. suc i) rest.0, rest.1, rest.2)

pub one_answer : OneAnswer
one_answer m g h n k r q a b = one_from m.funcs [] m.funcs g h n k r q a b

-- None, where nothing is broken

none_up_to : (c : Functions) (f : Op) (s : Site) (k : ℕ) → ((r : Rule) → BreaksFirst c f s r → ⊥) → NoneBelow c f s k
unfolding BreaksFirst
none_up_to c f s zero never = none_below c f s
none_up_to c f s (suc k) never = λ q less b.
    let at_most : place q ≤ k = omega (arith, less) in
    elim (eq-or-lt_of_le at_most) [
      | inl same ↦ never q (b, λ p before. none_up_to c f s k never p (subst (λ n. place p < n) same before))
      | inr below ↦ none_up_to c f s k never q below b
    ]

sound_here : (c : Functions) (f : Op) (s : Site) → ((r : Rule) → BreaksFirst c f s r → ⊥) → Sound c f s
unfolding Sound
sound_here c f s never = λ r b. none_up_to c f s 12 never r (all_below r) b

all_sound : (c : Functions) (f : Op) (ss : List Site) → ((n : ℕ) (r : Rule) → BrokenAt c f ss n r → ⊥) → AllOf (Sound c f) ss
all_sound c f [] never = tt
all_sound c f (s ∷ ss) never =
    let here : Sound c f s = sound_here c f s (never 0) in
    (here, all_sound c f ss (λ n r b. never (suc n) r (here, b)))

sound_from : (all earlier fs : List Op) → ((g n : ℕ) (r : Rule) → BrokenFrom all earlier fs g n r → ⊥) → SoundFrom all earlier fs
sound_from all earlier [] never = tt
sound_from all earlier (f ∷ fs) never =
    let here : SoundFunction (functions all earlier) f = all_sound (functions all earlier) f (sites f) (never 0) in
    (here, sound_from all (earlier ++ f ∷ []) fs (λ g n r b. never (suc g) n r (here, b)))

none_from : (all earlier fs : List Op) (g n : ℕ) (r : Rule) → SoundFrom all earlier fs → BrokenFrom all earlier fs g n r → ⊥
none_from all earlier [] g n r sound b = b
none_from all earlier (f ∷ fs) zero n r sound b = none_at (functions all earlier) f (sites f) n r sound.0 b
none_from all earlier (f ∷ fs) (suc g) n r sound b = none_from all (earlier ++ f ∷ []) fs g n r sound.1 b.1

pub nothing_broken : NothingIsBroken
nothing_broken m formed =
    (λ verified g n r b. none_from m.funcs [] m.funcs g n r verified.1 b, λ never. (formed, sound_from m.funcs [] m.funcs never))
