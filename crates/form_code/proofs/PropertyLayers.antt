-- What each kind of attribute tells.
use Rattle.std.proofs.Common.{◌≡◌, ℕ, ◌<◌, List, [], ◌∷◌, length, refl, arith}
use Rattle.std.specs.Prelude.{Option, Some, None, ℤ}
use Rattle.std.proofs.lemmas.Grind.{common_steps}
use Rattle.tree_model.specs.declared.attr_tree.AttrTree.TheVariants.{outs-Unit, outs-Int, outs-Str, outs-List, outs-Dict, outs-OfType, outs-Symbol, outs-Ints, outs-Dialect}
use Rattle.form_model.specs.Properties.{if_some, natural, naturals, and_natural, successor_counts}

pub ruleset layers = (common_steps, outs-Unit, outs-Int, outs-Str, outs-List, outs-Dict, outs-OfType, outs-Symbol, outs-Ints, outs-Dialect)

-- fewer than three numbers, and more
pub few : (zs : List ℤ) → length zs < 3 → if_some (naturals zs) successor_counts ≡ None
few [] h = refl
few (a ∷ []) h = one (natural a)
  where
    one : (p : Option ℕ) → if_some (and_natural p (Some [])) successor_counts ≡ None
    one None = refl
    one (Some n) = refl
few (a ∷ b ∷ []) h = two (natural a) (natural b)
  where
    two : (p q : Option ℕ) → if_some (and_natural p (and_natural q (Some []))) successor_counts ≡ None
    two None q = refl
    two (Some n) None = refl
    two (Some n) (Some m) = refl
few (a ∷ b ∷ c ∷ zs) h = absurd (omega arith)

four : (p q r s : Option ℕ) (o : Option (List ℕ)) → if_some (and_natural p (and_natural q (and_natural r (and_natural s o)))) successor_counts ≡ None
four None q r s o = refl
four (Some p) None r s o = refl
four (Some p) (Some q) None s o = refl
four (Some p) (Some q) (Some r) None o = refl
four (Some p) (Some q) (Some r) (Some s) None = refl
four (Some p) (Some q) (Some r) (Some s) (Some ns) = refl

pub many : (zs : List ℤ) → 3 < length zs → if_some (naturals zs) successor_counts ≡ None
many [] h = absurd (omega arith)
many (a ∷ []) h = absurd (omega arith)
many (a ∷ b ∷ []) h = absurd (omega arith)
many (a ∷ b ∷ c ∷ []) h = absurd (omega arith)
many (a ∷ b ∷ c ∷ d ∷ zs) h = four (natural a) (natural b) (natural c) (natural d) (naturals zs)
