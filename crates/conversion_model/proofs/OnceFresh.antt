-- Which operation and which piece a new number is of.
use Rattle.std.proofs.Common.{◌≡◌, ℕ, ◌==◌, ◌≤◌, Bool, true, false, refl, sym, ◌∙◌, subst, arith, true≢false}
use Rattle.std.specs.Prelude.{◌&&◌, if◌then◌else◌}
use Rattle.std.proofs.lemmas.Bool.{eqb-true}
use Rattle.plain_tree.specs.Ops.{Op}
use Rattle.conversion_model.specs.Conversion.{Supply}
use Rattle.conversion_model.specs.Fresh.{Place, of_row, of_line, of_function, of_block, new_value, same_place, Fresh, IsOld, IsOldLabel}
use Rattle.conversion_model.specs.Counts.{hits, label_count, named_count, none, op_count}
use Rattle.conversion_model.proofs.ReconcileLaws.{same_number}
use Rattle.conversion_model.proofs.OnceLemmas.{Unique, Few, Just, NamedAt, named_at, named_most}
use Rattle.conversion_model.proofs.OnceStages.{op_there}

-- parameters count as piece 1 of the function, and arguments of blocks as piece 2
abbrev pub key_number : Place → ℕ
key_number (of_row n k) = n
key_number (of_line n piece k) = n
key_number (of_function k) = 0
key_number (of_block label k) = 0

abbrev pub key_piece : Place → ℕ
key_piece (of_row n k) = 0
key_piece (of_line n piece k) = piece
key_piece (of_function k) = 1
key_piece (of_block label k) = 2

pub record HasValue (new : Supply) (v n k : ℕ) : Type 0 where
  pub place : Place
  pub is : new_value new place ≡ v
  pub number : key_number place ≡ n
  pub piece : key_piece place ≡ k

pub record HasLabel (new : Supply) (l n k : ℕ) : Type 0 where
  pub index : ℕ
  pub is : (new.row n).label index ≡ l
  pub piece : k ≡ 0

both_by : (a b : Bool) → (a && b) ≡ true → (a ≡ true) × (b ≡ true)
both_by true b is = (refl, is)
both_by false b is = absurd (true≢false (sym is))

pub both : (m n j k : ℕ) → ((m == n) && (j == k)) ≡ true → (m ≡ n) × (j ≡ k)
both m n j k is = (eqb-true m n (both_by (m == n) (j == k) is).0, eqb-true j k (both_by (m == n) (j == k) is).1)

keys_same : (p q : Place) → same_place p q ≡ true → (key_number p ≡ key_number q) × (key_piece p ≡ key_piece q)
keys_same (of_row m j) (of_row n k) is = ((both m n j k is).0, refl)
keys_same (of_row m j) (of_line n y k) is = absurd (true≢false (sym is))
keys_same (of_row m j) (of_function k) is = absurd (true≢false (sym is))
keys_same (of_row m j) (of_block n k) is = absurd (true≢false (sym is))
keys_same (of_line m x j) (of_row n k) is = absurd (true≢false (sym is))
keys_same (of_line m x j) (of_line n y k) is =
    let first : ((m == n) ≡ true) × (((x == y) && (j == k)) ≡ true) = both_by (m == n) ((x == y) && (j == k)) is in
    (eqb-true m n first.0, (both x y j k first.1).0)
keys_same (of_line m x j) (of_function k) is = absurd (true≢false (sym is))
keys_same (of_line m x j) (of_block n k) is = absurd (true≢false (sym is))
keys_same (of_function j) (of_row n k) is = absurd (true≢false (sym is))
keys_same (of_function j) (of_line n y k) is = absurd (true≢false (sym is))
keys_same (of_function j) (of_function k) is = (refl, refl)
keys_same (of_function j) (of_block n k) is = absurd (true≢false (sym is))
keys_same (of_block m j) (of_row n k) is = absurd (true≢false (sym is))
keys_same (of_block m j) (of_line n y k) is = absurd (true≢false (sym is))
keys_same (of_block m j) (of_function k) is = absurd (true≢false (sym is))
keys_same (of_block m j) (of_block n k) is = (refl, refl)

pub places_same : (new : Supply) (f : Op) → Fresh new f → (v : ℕ) (p q : Place) → new_value new p ≡ v → new_value new q ≡ v → same_place p q ≡ true
places_same new f fresh v p q a b = sym (fresh.values p q) ∙ same_number (new_value new p) (new_value new q) (a ∙ sym b)

pub value_unique : (new : Supply) (f : Op) → Fresh new f → (v : ℕ) → Unique (HasValue new v)
value_unique new f fresh v n k m j a b =
    let same : (key_number a.place ≡ key_number b.place) × (key_piece a.place ≡ key_piece b.place) = keys_same a.place b.place (places_same new f fresh v a.place b.place a.is b.is) in
    (sym a.number ∙ same.0 ∙ b.number, sym a.piece ∙ same.1 ∙ b.piece)

pub label_unique : (new : Supply) (f : Op) → Fresh new f → (l : ℕ) → Unique (HasLabel new l)
label_unique new f fresh l n k m j a b =
    ((both n m a.index b.index (sym (fresh.labels n a.index m b.index) ∙ same_number ((new.row n).label a.index) ((new.row m).label b.index) (a.is ∙ sym b.is))).0, a.piece ∙ sym b.piece)

-- the new numbers at places of one operation and one piece
pub named_few : (new : Supply) (f : Op) → Fresh new f → (v : ℕ) (place : ℕ → Place) (n m : ℕ) → ((k : ℕ) → key_number (place k) ≡ n) → ((k : ℕ) → key_piece (place k) ≡ m)
    → ((j k : ℕ) → same_place (place j) (place k) ≡ true → j ≡ k) → (room : ℕ) → Few (HasValue new v) (Just n m) (named_count v (λ k. new_value new (place k)) 0 room)
named_few new f fresh v place n m number piece one room = record {
  most = named_most v (λ k. new_value new (place k)) (λ j k a b. one j k (places_same new f fresh v (place j) (place k) a b)) 0 room;
  from = λ some.
      let there : NamedAt v (λ k. new_value new (place k)) 0 = named_at v (λ k. new_value new (place k)) 0 room some in
      record { number = n; piece = m; has = record { place = place there.place; is = there.is; number = number there.place; piece = piece there.place }; inside = (refl, refl) };
}

pub row_few : (new : Supply) (f : Op) → Fresh new f → (v n room : ℕ) → Few (HasValue new v) (Just n 0) (named_count v (new.row n).value 0 room)
row_few new f fresh v n room = named_few new f fresh v (λ k. of_row n k) n 0 (λ k. refl) (λ k. refl) (λ j k is. (both n n j k is).1) room

pub line_few : (new : Supply) (f : Op) → Fresh new f → (v n piece room : ℕ) → Few (HasValue new v) (Just n piece) (named_count v (new.value n piece) 0 room)
line_few new f fresh v n piece room =
    named_few new f fresh v (λ k. of_line n piece k) n piece (λ k. refl) (λ k. refl) (λ j k is. (both piece piece j k (both_by (n == n) ((piece == piece) && (j == k)) is).1).1) room

pub function_few : (new : Supply) (f : Op) → Fresh new f → (v room : ℕ) → Few (HasValue new v) (Just 0 1) (named_count v new.parameter 0 room)
function_few new f fresh v room = named_few new f fresh v (λ k. of_function k) 0 1 (λ k. refl) (λ k. refl) (λ j k is. eqb-true j k is) room

pub label_few : (new : Supply) (f : Op) → Fresh new f → (l n room : ℕ) → Few (HasLabel new l) (Just n 0) (named_count l (new.row n).label 0 room)
label_few new f fresh l n room = record {
  most = named_most l (new.row n).label (λ j k a b. (both n n j k (sym (fresh.labels n j n k) ∙ same_number ((new.row n).label j) ((new.row n).label k) (a ∙ sym b))).1) 0 room;
  from = λ some.
      let there : NamedAt l (new.row n).label 0 = named_at l (new.row n).label 0 room some in
      record { number = n; piece = 0; has = record { index = there.place; is = there.is; piece = refl }; inside = (refl, refl) };
}

pub block_most : (new : Supply) (f : Op) → Fresh new f → (v label room : ℕ) → named_count v (new.argument label) 0 room ≤ 1
block_most new f fresh v label room =
    named_most v (new.argument label) (λ j k a b. (both label label j k (places_same new f fresh v (of_block label j) (of_block label k) a b)).1) 0 room

-- Old numbers

hit_by : (v n : ℕ) (b : Bool) → (n == v) ≡ b → 1 ≤ (if b then 1 else 0) → n ≡ v
hit_by v n true is some = eqb-true n v is
hit_by v n false is some = absurd (omega (arith, some))

hit_is : (v n : ℕ) → 1 ≤ hits v n → n ≡ v
hit_is v n some = hit_by v n (n == v) refl some

-- what the function defines is old
pub value_old : (new : Supply) (f : Op) → Fresh new f → (v : ℕ) → 1 ≤ op_count v f → IsOld new v
value_old new f fresh v some =
    op_there {P = IsOld new} {Q = IsOldLabel new} (hits v) none (λ n here old. subst (IsOld new) (hit_is v n here) old) (λ l here old. absurd (omega (arith, here))) f fresh.apart some

pub label_old : (new : Supply) (f : Op) → Fresh new f → (l : ℕ) → 1 ≤ label_count l f → IsOldLabel new l
label_old new f fresh l some =
    op_there {P = IsOld new} {Q = IsOldLabel new} none (hits l) (λ n here old. absurd (omega (arith, here))) (λ m here old. subst (IsOldLabel new) (hit_is l m here) old) f fresh.apart some

pub old_or_new : (new : Supply) (v n k : ℕ) → IsOld new v → HasValue new v n k → ⊥
old_or_new new v n k old has = true≢false (sym (same_number v (new_value new has.place) (sym has.is)) ∙ old has.place)

pub label_old_or_new : (new : Supply) (l n k : ℕ) → IsOldLabel new l → HasLabel new l n k → ⊥
label_old_or_new new l n k old has = true≢false (sym (same_number l ((new.row n).label has.index) (sym has.is)) ∙ old n has.index)
