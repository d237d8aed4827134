-- How a text grows step by step.
use Rattle.std.proofs.Common.{◌≡◌, ℕ, List, [], ◌++◌, ap, ◌∙◌, sym, take, length, append_assoc}
use Rattle.std.proofs.lemmas.List.{append-nil}
use Rattle.std.proofs.Math.Seq.{take-append_seam}
use Rattle.std.proofs.lemmas.Grind.{common_steps}
use Rattle.tree_text.specs.Grew.{Grew}

pub grew_refl : (a : List ℕ) → Grew a a
grew_refl a = record { added = []; is = sym (append-nil a) }

pub grew_put : (a b x : List ℕ) → b ≡ a ++ x → Grew a b
grew_put a b x e = record { added = x; is = e }

pub grew_on : (a b c : List ℕ) → Grew a b → Grew b c → Grew a c
grew_on a b c g h = record { added = g.added ++ h.added; is = h.is ∙ ap (λ l. l ++ h.added) g.is ∙ append_assoc a g.added h.added }

-- the old text, taken out of the new one
pub grew_cut : (a b : List ℕ) → Grew a b → take (length a) b ≡ a
grew_cut a b g = ap (take (length a)) g.is ∙ take-append_seam a g.added

pub ruleset grew_laws = (common_steps, grew_refl, grew_on, grew_cut)

pub grew_same : (a b : List ℕ) → b ≡ a → Grew a b
grew_same a b e = record { added = []; is = e ∙ sym (append-nil a) }

pub ruleset put_laws = (common_steps, grew_same, grew_put)
