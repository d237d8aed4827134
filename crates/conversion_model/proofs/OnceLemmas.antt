-- At most one new number: which operation and which piece it is of.
use Rattle.std.proofs.Common.{◌≡◌, ℕ, zero, suc, ◌+◌, ◌==◌, ◌≤◌, ◌<◌, Bool, true, false, List, [], ◌∷◌, refl, sym, ap, subst, arith, true≢false}
use Rattle.std.specs.Prelude.{◌&&◌, if◌then◌else◌}
use Rattle.std.proofs.lemmas.Bool.{eqb-true}
use Rattle.conversion_model.specs.Rows.{Piece, Product, Opens, Held, Stands}
use Rattle.conversion_model.specs.Counts.{held_count, named_count}
use Rattle.conversion_model.proofs.ReconcileLaws.{same_number}

-- one new number is of one operation and one piece
abbrev pub Unique : (ℕ → ℕ → Type 0) → Type 0
Unique Has = (n k m j : ℕ) → Has n k → Has m j → (n ≡ m) × (k ≡ j)

pub record Found (Has In : ℕ → ℕ → Type 0) : Type 0 where
  pub number : ℕ
  pub piece : ℕ
  pub has : Has number piece
  pub inside : In number piece

-- at most one, and where it is one then it is found in there
pub record Few (Has In : ℕ → ℕ → Type 0) (c : ℕ) : Type 0 where
  pub most : c ≤ 1
  pub from : 1 ≤ c → Found Has In

-- the operations from m on up to n
abbrev pub Range : ℕ → ℕ → ℕ → ℕ → Type 0
Range m n i k = (m ≤ i) × (i < n)

-- the pieces of an operation from k on
abbrev pub Behind : ℕ → ℕ → ℕ → ℕ → Type 0
Behind n k i j = (i ≡ n) × (k ≤ j)

abbrev pub Just : ℕ → ℕ → ℕ → ℕ → Type 0
Just n k i j = (i ≡ n) × (j ≡ k)

abbrev pub Apart : (ℕ → ℕ → Type 0) → (ℕ → ℕ → Type 0) → Type 0
Apart A B = (n k : ℕ) → A n k → B n k → ⊥

abbrev pub Part : (ℕ → ℕ → Type 0) → (ℕ → ℕ → Type 0) → Type 0
Part A B = (n k : ℕ) → A n k → B n k

pub few_none : {Has In : ℕ → ℕ → Type 0} → Few Has In 0
few_none = record { most = omega arith; from = λ is. absurd (omega (arith, is)) }

pub widen : {Has A B : ℕ → ℕ → Type 0} → Part A B → Found Has A → Found Has B
widen part f = record { number = f.number; piece = f.piece; has = f.has; inside = part f.number f.piece f.inside }

pub wider : {Has A B : ℕ → ℕ → Type 0} {c : ℕ} → Part A B → Few Has A c → Few Has B c
wider part f = record { most = f.most; from = λ is. widen part (f.from is) }

both_found : {Has A B : ℕ → ℕ → Type 0} → Unique Has → Apart A B → Found Has A → Found Has B → ⊥
both_found {A = A} one apart f g =
    let same : (f.number ≡ g.number) × (f.piece ≡ g.piece) = one f.number f.piece g.number g.piece f.has g.has in
    apart g.number g.piece (subst (λ n. A n g.piece) same.0 (subst (λ k. A f.number k) same.1 f.inside)) g.inside

pub join : {Has A B C : ℕ → ℕ → Type 0} (a b : ℕ) → Unique Has → Apart A B → Part A C → Part B C → Few Has A a → Few Has B b → Few Has C (a + b)
join zero b one apart left right f g = record { most = omega (arith, g.most); from = λ is. widen right (g.from (omega (arith, is))) }
join (suc a) zero one apart left right f g = record { most = omega (arith, f.most); from = λ is. widen left (f.from (omega (arith, is))) }
join (suc a) (suc b) one apart left right f g = absurd (both_found one apart (f.from (omega arith)) (g.from (omega arith)))

-- Names

pub record NamedAt (v : ℕ) (name : ℕ → ℕ) (n : ℕ) : Type 0 where
  pub place : ℕ
  pub is : name place ≡ v
  pub low : n ≤ place

named_by : (v : ℕ) (name : ℕ → ℕ) (n rest : ℕ) (b : Bool) → (name n == v) ≡ b → (1 ≤ rest → NamedAt v name (n + 1)) → 1 ≤ (if b then 1 else 0) + rest → NamedAt v name n
named_by v name n rest true is more some = record { place = n; is = eqb-true (name n) v is; low = omega arith }
named_by v name n rest false is more some =
    let there : NamedAt v name (n + 1) = more (omega (arith, some)) in
    record { place = there.place; is = there.is; low = omega (arith, there.low) }

pub named_at : (v : ℕ) (name : ℕ → ℕ) (n room : ℕ) → 1 ≤ named_count v name n room → NamedAt v name n
named_at v name n zero some = absurd (omega (arith, some))
named_at v name n (suc room) some = named_by v name n (named_count v name (n + 1) room) (name n == v) refl (named_at v name (n + 1) room) some

no_more : (v : ℕ) (name : ℕ → ℕ) (n rest : ℕ) (b : Bool) → (name n == v) ≡ b → ((j k : ℕ) → name j ≡ v → name k ≡ v → j ≡ k)
    → rest ≤ 1 → (1 ≤ rest → NamedAt v name (n + 1)) → (if b then 1 else 0) + rest ≤ 1
no_more v name n zero true is one most more = omega arith
no_more v name n (suc rest) true is one most more =
    let there : NamedAt v name (n + 1) = more (omega arith) in
    absurd (omega (arith, there.low, one n there.place (eqb-true (name n) v is) there.is))
no_more v name n rest false is one most more = omega (arith, most)

pub named_most : (v : ℕ) (name : ℕ → ℕ) → ((j k : ℕ) → name j ≡ v → name k ≡ v → j ≡ k) → (n room : ℕ) → named_count v name n room ≤ 1
named_most v name one n zero = omega arith
named_most v name one n (suc room) =
    no_more v name n (named_count v name (n + 1) room) (name n == v) refl one (named_most v name one (n + 1) room) (named_at v name (n + 1) room)

-- Amounts of the blocks that are held

abbrev pub amount_in : ℕ → List ℕ → ℕ
amount_in b [] = 0
amount_in zero (a ∷ amounts) = a
amount_in (suc b) (a ∷ amounts) = amount_in b amounts

abbrev pub amount_at : ℕ → ℕ → List (List ℕ) → ℕ
amount_at r b [] = 0
amount_at zero b (a ∷ amounts) = amount_in b a
amount_at (suc r) b (a ∷ amounts) = amount_at r b amounts

abbrev without_in : ℕ → List ℕ → List ℕ
without_in b [] = []
without_in zero (a ∷ amounts) = 0 ∷ amounts
without_in (suc b) (a ∷ amounts) = a ∷ without_in b amounts

abbrev without_at : ℕ → ℕ → List (List ℕ) → List (List ℕ)
without_at r b [] = []
without_at zero b (a ∷ amounts) = without_in b a ∷ amounts
without_at (suc r) b (a ∷ amounts) = a ∷ without_at r b amounts

abbrev pub sum_in : List ℕ → ℕ
sum_in [] = 0
sum_in (a ∷ amounts) = a + sum_in amounts

abbrev pub sum_at : List (List ℕ) → ℕ
sum_at [] = 0
sum_at (a ∷ amounts) = sum_in a + sum_at amounts

taken_in : (b : ℕ) (a : List ℕ) → amount_in b a + sum_in (without_in b a) ≡ sum_in a
taken_in b [] = omega arith
taken_in zero (a ∷ amounts) = omega arith
taken_in (suc b) (a ∷ amounts) = omega (arith, taken_in b amounts)

taken_at : (r b : ℕ) (a : List (List ℕ)) → amount_at r b a + sum_at (without_at r b a) ≡ sum_at a
taken_at r b [] = omega arith
taken_at zero b (a ∷ amounts) = omega (arith, taken_in b a)
taken_at (suc r) b (a ∷ amounts) = omega (arith, taken_at r b amounts)

other_in : (b c : ℕ) (a : List ℕ) → (c ≡ b → ⊥) → amount_in c (without_in b a) ≡ amount_in c a
other_in b c [] apart = refl
other_in zero zero (a ∷ amounts) apart = absurd (apart refl)
other_in zero (suc c) (a ∷ amounts) apart = refl
other_in (suc b) zero (a ∷ amounts) apart = refl
other_in (suc b) (suc c) (a ∷ amounts) apart = other_in b c amounts (λ same. apart (ap (λ n. suc n) same))

other_at : (r b q c : ℕ) (a : List (List ℕ)) → (q ≡ r → c ≡ b → ⊥) → amount_at q c (without_at r b a) ≡ amount_at q c a
other_at r b q c [] apart = refl
other_at zero b zero c (a ∷ amounts) apart = other_in b c a (apart refl)
other_at zero b (suc q) c (a ∷ amounts) apart = refl
other_at (suc r) b zero c (a ∷ amounts) apart = refl
other_at (suc r) b (suc q) c (a ∷ amounts) apart = other_at r b q c amounts (λ same. apart (ap (λ n. suc n) same))

-- what the blocks that pieces hold amount to
abbrev pub held_sum : List (List ℕ) → List Piece → ℕ
held_sum a [] = 0
held_sum a (Product o types ∷ ps) = held_sum a ps
held_sum a (Opens l args ∷ ps) = held_sum a ps
held_sum a (Held r b ∷ ps) = amount_at r b a + held_sum a ps
held_sum a (Stands result value ∷ ps) = held_sum a ps

abbrev one_if : Bool → ℕ
one_if b = if b then 1 else 0

one_of_both : (a b : Bool) → a ≡ true → b ≡ true → 1 ≤ one_if (a && b)
one_of_both true true p q = omega arith
one_of_both true false p q = absurd (true≢false (sym q))
one_of_both false b p q = absurd (true≢false (sym p))

not_here : (q r c b rest : ℕ) → (if (q == r) && (c == b) then 1 else 0) + rest ≤ 0 → q ≡ r → c ≡ b → ⊥
not_here q r c b rest small same also =
    omega (arith, one_of_both (q == r) (c == b) (same_number q r same) (same_number c b also), small)

held_apart : (r b : ℕ) (a : List (List ℕ)) (ps : List Piece) → held_count r b ps ≤ 0 → held_sum (without_at r b a) ps ≡ held_sum a ps
held_apart r b a [] small = refl
held_apart r b a (Product o types ∷ ps) small = held_apart r b a ps small
held_apart r b a (Opens l args ∷ ps) small = held_apart r b a ps small
held_apart r b a (Held q c ∷ ps) small =
    omega (arith, other_at r b q c a (not_here q r c b (held_count r b ps) small), held_apart r b a ps (omega (arith, small)))
held_apart r b a (Stands result value ∷ ps) small = held_apart r b a ps small

no_later : (r b rest : ℕ) → (if (r == r) && (b == b) then 1 else 0) + rest ≤ 1 → rest ≤ 0
no_later r b rest small =
    omega (arith, one_of_both (r == r) (b == b) (same_number r r refl) (same_number b b refl), small)

-- pieces that hold no block twice
pub held_most : (a : List (List ℕ)) (ps : List Piece) → ((r b : ℕ) → held_count r b ps ≤ 1) → held_sum a ps ≤ sum_at a
held_most a [] once = omega arith
held_most a (Product o types ∷ ps) once = held_most a ps once
held_most a (Opens l args ∷ ps) once = held_most a ps once
held_most a (Held r b ∷ ps) once =
    omega (
      arith,
      taken_at r b a,
      held_apart r b a ps (no_later r b (held_count r b ps) (once r b)),
      held_most (without_at r b a) ps (λ q c. omega (arith, once q c)),
    )
held_most a (Stands result value ∷ ps) once = held_most a ps once
