-- Numbers one after another.
use Rattle.std.proofs.Common.{◌≡◌, ℕ, ℤ, zero, suc, List, [], ◌∷◌, ◌++◌, drop, length, refl, sym, ap, ◌∙◌, arith}
use Rattle.std.specs.Prelude.{min}
use Rattle.run_code.specs.declared.width.Width.{Width}
use Rattle.run_code.specs.Views.{bits_of}
use Rattle.run_lines.specs.Lines.{numbers_text}

-- none are left behind the end of either list
none_left : (lead : List ℕ) (ws : List Width) (zs : List ℤ) (n : ℕ) → n ≡ min (length ws) (length zs) → numbers_text lead (bits_of (drop n ws)) (drop n zs) ≡ []
none_left lead [] [] zero e = refl
none_left lead [] (z ∷ zs) zero e = refl
none_left lead (w ∷ ws) [] zero e = refl
none_left lead (w ∷ ws) (z ∷ zs) zero e = absurd (omega (arith, e))
none_left lead [] zs (suc n) e = absurd (omega (arith, e))
none_left lead (w ∷ ws) [] (suc n) e = absurd (omega (arith, e))
none_left lead (w ∷ ws) (z ∷ zs) (suc n) e = none_left lead ws zs n (omega (arith, e))

nothing_behind : (xs : List ℕ) → xs ++ [] ≡ xs
nothing_behind [] = refl
nothing_behind (x ∷ xs) = ap (λ l. x ∷ l) (nothing_behind xs)

-- the text is whole where the numbers are at an end
pub numbers_end : (out whole lead : List ℕ) (ws : List Width) (zs : List ℤ) (n : ℕ) → n ≡ min (length ws) (length zs)
    → out ++ numbers_text lead (bits_of (drop n ws)) (drop n zs) ≡ whole → out ≡ whole
numbers_end out whole lead ws zs n e is = sym (nothing_behind out) ∙ ap (λ l. out ++ l) (sym (none_left lead ws zs n e)) ∙ is
