-- Equality of values by their codes.
use Rattle.std.specs.Prelude.{◌≡◌, Bool, true, false, ◌&&◌, nat_eq}
use Rattle.std.proofs.Common.{sym, ap, refl}
use mathlib.Core.Bool.{true≢false}
use mathlib.Core.Path.{subst}
use Rattle.std.specs.Bool.{Decides}
use Rattle.std.specs.Cmp.{unsigned_Decides}
use base.Stored.{Gv, gnil, gnum, gcons, Coded}

-- whether two codes are one
abbrev pub alike : Gv → Gv → Bool
alike gnil gnil = true
alike gnil (gnum n) = false
alike gnil (gcons c d) = false
alike (gnum m) gnil = false
alike (gnum m) (gnum n) = nat_eq m n
alike (gnum m) (gcons c d) = false
alike (gcons a b) gnil = false
alike (gcons a b) (gnum n) = false
alike (gcons a b) (gcons c d) = alike a c && alike b d

both : (p q : Bool) → (p && q) ≡ true → (p ≡ true) × (q ≡ true)
both true true e = (refl, refl)
both true false e = absurd (true≢false (sym e))
both false q e = absurd (true≢false (sym e))

joint : (p q : Bool) → p ≡ true → q ≡ true → (p && q) ≡ true
joint true true e f = refl
joint true false e f = f
joint false q e f = e

pub alike_sound : (a b : Gv) → alike a b ≡ true → a ≡ b
alike_sound gnil gnil e = refl
alike_sound gnil (gnum n) e = absurd (true≢false (sym e))
alike_sound gnil (gcons c d) e = absurd (true≢false (sym e))
alike_sound (gnum m) gnil e = absurd (true≢false (sym e))
alike_sound (gnum m) (gnum n) e = ap gnum ((unsigned_Decides m n).0 e)
alike_sound (gnum m) (gcons c d) e = absurd (true≢false (sym e))
alike_sound (gcons a b) gnil e = absurd (true≢false (sym e))
alike_sound (gcons a b) (gnum n) e = absurd (true≢false (sym e))
alike_sound (gcons a b) (gcons c d) e = λ i. gcons (alike_sound a c (both _ _ e).0 i) (alike_sound b d (both _ _ e).1 i)

pub alike_refl : (a : Gv) → alike a a ≡ true
alike_refl gnil = refl
alike_refl (gnum n) = (unsigned_Decides n n).1 refl
alike_refl (gcons a b) = joint _ _ (alike_refl a) (alike_refl b)

module _ {A : Type 0} (coded : Coded A) where
  -- whether two values are one
  abbrev pub alike_by : A → A → Bool
  alike_by x y = alike (coded.code x) (coded.code y)

  pub alike_by-Decides : (x y : A) → Decides (alike_by x y) (x ≡ y)
  alike_by-Decides x y = (λ e. coded.inj x y (alike_sound _ _ e), λ e. subst (λ z. alike_by x z ≡ true) e (alike_refl (coded.code x)))
