-- The slot of each known name has its number, so no two known names are one text.
use Rattle.std.proofs.Common.{◌≡◌, ℕ, ◌+◌, ◌<◌, Bool, nat_eq, true, ◌&&◌, ◌==◌, List, [], ◌∷◌, get_or, length, refl, sym, ◌∙◌, ap, subst, arith, suc, zero}
use Rattle.std.proofs.lemmas.Grind.{common_steps}
use Rattle.std.proofs.lemmas.Slice.Eq.{bytes_eq-Decides}
use Rattle.std.proofs.lemmas.Bool.Decides.{Decides-eqb, same_from_decides}
use Rattle.std.specs.Str.{bytes_eq}
use Rattle.tree_model.specs.Known.{known, known_count, known_text, slot_of, StandsAt, IsUnknown}
use Rattle.tree_model.specs.declared.known.TheConstants.{SLOTS}

-- the number that the slot of a text has
unfoldable pub guess : List ℕ → ℕ
guess text = get_or SLOTS.now (slot_of text) 0

-- the slot of each text has its number, counted from n
abbrev pub all_lead : ℕ → List (List ℕ) → Bool
all_lead n [] = true
all_lead n (t ∷ ts) = (guess t == n) && all_lead (n + 1) ts

all_known_lead : all_lead 0 known ≡ true
unfolding known guess slot_of
all_known_lead = refl

count_is : length known ≡ known_count
unfolding known
count_is = refl

leads : (n : ℕ) (ts : List (List ℕ)) → all_lead n ts ≡ true → (k : ℕ) → k < length ts → guess (get_or ts k []) ≡ n + k
leads n [] h k b = absurd (omega arith)
leads n (t ∷ ts) h zero b = grind (arith, common_steps)
leads n (t ∷ ts) h (suc k) b =
    let rest : all_lead (n + 1) ts ≡ true = grind (arith, common_steps) in
    let short : k < length ts = omega arith in
    leads (n + 1) ts rest k short ∙ omega arith

known_leads : (k : ℕ) → k < known_count → guess (known_text k) ≡ k
unfolding known_text
known_leads k b = leads 0 known all_known_lead k (rw count_is b) ∙ omega arith

pub unknown : (text : List ℕ) (number : ℕ) → number ≡ guess text → (StandsAt number text → ⊥) → IsUnknown text
unknown text number e other = record { apart = λ k s. other (subst (λ j. StandsAt j text) (sym (known_leads k s.0) ∙ ap guess s.1 ∙ sym e) s) }

-- no two known names are one text
pub one_number : (j k : ℕ) → j < known_count → k < known_count → known_text j ≡ known_text k → j ≡ k
one_number j k a b e = sym (known_leads j a) ∙ ap guess e ∙ known_leads k b

-- two known names are one text where their numbers are equal
pub same_number : (j k : ℕ) → j < known_count → k < known_count → nat_eq j k ≡ bytes_eq (known_text j) (known_text k)
same_number j k a b =
    let text = bytes_eq-Decides (known_text j) (known_text k) in
    same_from_decides _ _ (Decides-eqb j k) (λ t. one_number j k a b (text.0 t), λ e. text.1 (ap known_text e))
