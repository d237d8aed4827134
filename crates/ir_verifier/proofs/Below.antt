-- The first broken rule among those whose place is below a number, and how one rule more joins them.
use Rattle.std.proofs.Common.{◌≡◌, ℕ, zero, suc, ◌+◌, ◌<◌, ◌≤◌, Bool, true, false, List, [], ◌∷◌, refl, sym, ap, subst, ◌∙◌, inl, inr, arith}
use Rattle.std.specs.Prelude.{◌⊎◌, nat_lt, Option, Some, None, if◌then◌else◌}
use Rattle.std.proofs.Math.Nat.{eq-or-lt_of_le}
use Rattle.std.proofs.lemmas.Bool.{ltb-true, ltb-false}
use Rattle.plain_tree.specs.Ops.{Op}
use Rattle.rule_model.specs.declared.rules.Rule.{Rule}
use Rattle.rule_model.specs.Words.{AllOf}
use Rattle.rule_model.specs.Facts.{Functions}
use Rattle.rule_model.specs.Rules.{Breaks, place}
use Rattle.rule_model.specs.Sites.{Site}
use Rattle.rule_model.proofs.Decisions.{one_rule}
use Rattle.first_places.specs.First.{FirstAt, IsFirst}
use Rattle.ir_verifier.specs.Sooner.{Found, at_place, sooner}

-- no rule whose place is below k is broken at an operation
abbrev pub Keeps : Functions → Op → ℕ → Site → Type 0
Keeps c f k s = (q : Rule) → place q < k → Breaks c f s q → ⊥

-- the first of these operations at which one is broken is the n-th, and the first rule that it breaks is r
abbrev pub BreaksBelow : Functions → Op → ℕ → List Site → ℕ → Rule → Type 0
BreaksBelow c f k [] n r = ⊥
BreaksBelow c f k (s ∷ ss) zero r = (place r < k) × (Breaks c f s r × Keeps c f (place r) s)
BreaksBelow c f k (s ∷ ss) (suc n) r = Keeps c f k s × BreaksBelow c f k ss n r

abbrev pub TellsBelow : Functions → Op → ℕ → List Site → Found → Type 0
TellsBelow c f k ss None = AllOf (Keeps c f k) ss
TellsBelow c f k ss (Some found) = BreaksBelow c f k ss found.0 found.1

-- A rule more

keeps_more : (c : Functions) (f : Op) (r : Rule) (s : Site) → Keeps c f (place r) s → (Breaks c f s r → ⊥) → Keeps c f (place r + 1) s
keeps_more c f r s below here q less b =
    let at_most : place q ≤ place r = omega (arith, less) in
    let cases : (place q ≡ place r) ⊎ (place q < place r) = eq-or-lt_of_le at_most in
    elim cases [ inl same ↦ here (subst (Breaks c f s) (one_rule q r same) b) | inr h ↦ below q h b ]

neither : (c : Functions) (f : Op) (r : Rule) (ss : List Site) → AllOf (Keeps c f (place r)) ss → AllOf (λ s. Breaks c f s r → ⊥) ss → AllOf (Keeps c f (place r + 1)) ss
neither c f r [] a b = tt
neither c f r (s ∷ ss) a b = (keeps_more c f r s a.0 b.0, neither c f r ss a.1 b.1)

-- only the new rule is broken
new_one : (c : Functions) (f : Op) (r : Rule) (ss : List Site) (n : ℕ) → AllOf (Keeps c f (place r)) ss → IsFirst (λ s. Breaks c f s r) ss n → BreaksBelow c f (place r + 1) ss n r
new_one c f r [] n a b = b
new_one c f r (s ∷ ss) zero a b = (omega arith, (b, a.0))
new_one c f r (s ∷ ss) (suc n) a b = (keeps_more c f r s a.0 b.0, new_one c f r ss n a.1 b.1)

-- only an old one is
old_one : (c : Functions) (f : Op) (r : Rule) (ss : List Site) (m : ℕ) (q : Rule) → BreaksBelow c f (place r) ss m q → AllOf (λ s. Breaks c f s r → ⊥) ss → BreaksBelow c f (place r + 1) ss m q
old_one c f r [] m q a b = a
old_one c f r (s ∷ ss) zero q a b = (omega (arith, a.0), (a.1.0, a.1.1))
old_one c f r (s ∷ ss) (suc m) q a b = (keeps_more c f r s a.0 b.0, old_one c f r ss m q a.1 b.1)

-- the new one in front of an old one, and not in front of it
new_first : (c : Functions) (f : Op) (r : Rule) (ss : List Site) (m : ℕ) (q : Rule) (n : ℕ) → BreaksBelow c f (place r) ss m q → IsFirst (λ s. Breaks c f s r) ss n → n < m
    → BreaksBelow c f (place r + 1) ss n r
new_first c f r [] m q n a b less = a
new_first c f r (s ∷ ss) zero q n a b less = absurd (omega (arith, less))
new_first c f r (s ∷ ss) (suc m) q zero a b less = (omega arith, (b, a.0))
new_first c f r (s ∷ ss) (suc m) q (suc n) a b less = (keeps_more c f r s a.0 b.0, new_first c f r ss m q n a.1 b.1 (omega (arith, less)))

old_first : (c : Functions) (f : Op) (r : Rule) (ss : List Site) (m : ℕ) (q : Rule) (n : ℕ) → BreaksBelow c f (place r) ss m q → IsFirst (λ s. Breaks c f s r) ss n → m ≤ n
    → BreaksBelow c f (place r + 1) ss m q
old_first c f r [] m q n a b most = a
old_first c f r (s ∷ ss) zero q n a b most = (omega (arith, a.0), (a.1.0, a.1.1))
old_first c f r (s ∷ ss) (suc m) q zero a b most = absurd (omega (arith, most))
old_first c f r (s ∷ ss) (suc m) q (suc n) a b most = (keeps_more c f r s a.0 b.0, old_first c f r ss m q n a.1 b.1 (omega (arith, most)))

-- the sooner one of the first old one and the first place of the new one
pub one_more : (c : Functions) (f : Op) (r : Rule) (ss : List Site) (a : Found) (b : Option ℕ) → TellsBelow c f (place r) ss a → FirstAt (λ s. Breaks c f s r) ss b
    → TellsBelow c f (place r + 1) ss (sooner a (at_place r b))
one_more c f r ss None None p q = neither c f r ss p q
one_more c f r ss None (Some n) p q = new_one c f r ss n p q
one_more c f r ss (Some a) None p q = old_one c f r ss a.0 a.1 p q
one_more c f r ss (Some a) (Some n) p q = go (nat_lt n a.0) refl
  where
    go : (b : Bool) → nat_lt n a.0 ≡ b → TellsBelow c f (place r + 1) ss (if b then Some (record { 0 = n; 1 = r }) else Some a)
    go true e = new_first c f r ss a.0 a.1 n p q (ltb-true n a.0 e)
    go false e = old_first c f r ss a.0 a.1 n p q (ltb-false n a.0 e)
