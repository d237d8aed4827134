-- The grammar, word by word.
use Rattle.std.proofs.Common.{◌≡◌, ℕ, zero, suc, Bool, true, false, List, [], ◌∷◌, ◌++◌, Option, Some, None, refl, subst}
use Rattle.std.specs.Prelude.{if◌then◌else◌}
use Rattle.line_grammar.specs.Grammar.{Has, here, later, done, takes, opens, leaves}
use Rattle.text_grammar.specs.declared.kinds.Kind.{Kind}
use Rattle.text_grammar.specs.declared.places.Place.{Place}
use Rattle.text_grammar.specs.declared.parts.Part.{Part}
use Rattle.text_grammar.specs.Places.{fits_at}
use Rattle.text_grammar.specs.Table.{Wanted, lines_of, empty_at, at, some}
use Rattle.printed_words.specs.Words.{PrintedWord, word, AreRead}

-- the element at a place is in the list

abbrev pub nth : {X : Type 0} → ℕ → List X → Option X
nth n [] = None
nth zero (x ∷ xs) = Some x
nth (suc n) (x ∷ xs) = nth n xs

no_none : {X : Type 0} (x : X) → ◌≡◌ {A = Option X} None (Some x) → ⊥
no_none x e = cc

same : {X : Type 0} (y x : X) → Some y ≡ Some x → y ≡ x
same y x e = cc

pub has_at : {X : Type 0} (n : ℕ) (xs : List X) (x : X) → nth n xs ≡ Some x → Has x xs
has_at n [] x h = let e : ◌≡◌ {A = Option _} None (Some x) = h in absurd (no_none x e)
has_at zero (y ∷ xs) x h = subst (λ z. Has z (y ∷ xs)) (same y x h) (here xs)
has_at (suc n) (y ∷ xs) x h = later y (has_at n xs x h)

-- no words
pub nothing : AreRead [] []
nothing = record { is = done }

-- a word at its place
pub took : {wanted : List Wanted} {ws : List PrintedWord} (gap : List ℕ) (place : Place) (kind : Kind) (bytes : List ℕ) → fits_at place kind ≡ true → AreRead wanted ws → AreRead (at place ∷ wanted) (word gap place kind bytes ∷ ws)
took gap place kind bytes fits h = record { is = takes place kind fits h.is }

-- a word that opens a part
pub opened : {wanted : List Wanted} {ws : List PrintedWord} (gap : List ℕ) (part : Part) (place : Place) (line : List Wanted) (kind : Kind) (bytes : List ℕ) → Has (place, line) (lines_of part) → fits_at place kind ≡ true → AreRead (line ++ wanted) ws
    → AreRead (some part ∷ wanted) (word gap place kind bytes ∷ ws)
opened gap part place line kind bytes has fits h = record { is = opens part (place, line) kind has fits h.is }

-- a part that is left out
pub left : {wanted : List Wanted} {ws : List PrintedWord} (part : Part) → empty_at part ≡ true → AreRead wanted ws → AreRead (some part ∷ wanted) ws
left part empty h = record { is = leaves part empty h.is }

-- one of two lists of words
pub if_read : (b : Bool) (wanted : List Wanted) (xs ys : List PrintedWord) → (b ≡ true → AreRead wanted xs) → (b ≡ false → AreRead wanted ys) → AreRead wanted (if b then xs else ys)
if_read true wanted xs ys f g = f refl
if_read false wanted xs ys f g = g refl
