-- New buffers and new memrefs.
use Rattle.std.proofs.Common.{◌≡◌, ℕ, zero, suc, ◌+◌, ◌*◌, ◌^◌, ◌<◌, ◌≤◌, min, List, [], ◌∷◌, length, get_or, refl, sym, ap, ap₂, subst, ◌∙◌, ⊎_elim, arith}
use Rattle.std.proofs.lemmas.Bool.{cases_lt}
use Rattle.std.proofs.Math.Nat.{mul_comm, mul-suc}
use Rattle.number_model.specs.Answers.{Answer, Gives}
use Rattle.number_model.specs.Answers.{Answer as answer}
use Rattle.number_model.specs.Numbers.{unsigned}
use Rattle.operation_model.specs.Values as values
use Rattle.operation_model.specs.Doings as model
use Rattle.operation_model.specs.Doings.{Doing as doing}
use Rattle.operation_model.specs.Doings.{Question as question}
use Rattle.operation_model.specs.Forms as forms
use Rattle.operation_model.specs.Straight.{does, allocate_aligned, allocate_at, Size, elements, byte_size, size_values, strides, memref_at}
use Rattle.value_code.specs.declared.value.Value.{Value}
use Rattle.value_code.specs.Models.{value_of, values_of}
use Rattle.doing_code.specs.declared.kinds.Doing.{Doing}
use Rattle.doing_code.specs.Doings.{Does, Asked, made_at}

-- an alignment and a size

pub not_two : (ls : List ℕ) (xs : List Value) → (length xs ≡ 2 → ⊥) → doing.Outside ≡ does forms.AllocateAligned ls (values_of xs)
not_two ls [] h = refl
not_two ls (x ∷ []) h = refl
not_two ls (x ∷ y ∷ []) h = absurd (h refl)
not_two ls (x ∷ y ∷ z ∷ zs) h = refl

pub just_two : (d : Doing) (ls : List ℕ) (xs : List Value) (a n : Value) → 2 ≤ length xs → length xs < 3 → a ≡ get_or xs 0 a → n ≡ get_or xs 1 n
    → Does d (allocate_aligned (value_of a) (value_of n)) → Does d (does forms.AllocateAligned ls (values_of xs))
just_two d ls [] a n two three ea en h = absurd (omega (arith, two))
just_two d ls (x ∷ []) a n two three ea en h = absurd (omega (arith, two))
just_two d ls (x ∷ y ∷ []) a n two three ea en h = subst (Does d) (ap₂ (λ u v. allocate_aligned (value_of u) (value_of v)) ea en) h
just_two d ls (x ∷ y ∷ z ∷ zs) a n two three ea en h = absurd (omega (arith, three))

pub both_given : (d : Doing) (x y : values.Value) (a n : ℕ) → Gives a ≡ values.number x → Gives n ≡ values.number y → Does d (allocate_at (unsigned 64 a) (unsigned 64 n)) → Does d (allocate_aligned x y)
both_given d x y a n ex ey h =
    subst (Does d) (ap₂ (λ u v. model.on u (λ alignment. model.on v (λ size. allocate_at (unsigned 64 alignment) (unsigned 64 size)))) ex ey) h

pub first_undefined : (x y : values.Value) → answer.Undefined ≡ values.number x → doing.Undefined ≡ allocate_aligned x y
first_undefined x y ex = ap (λ u. model.on u (λ alignment. model.on (values.number y) (λ size. allocate_at (unsigned 64 alignment) (unsigned 64 size)))) ex

pub first_outside : (x y : values.Value) → answer.Outside ≡ values.number x → doing.Outside ≡ allocate_aligned x y
first_outside x y ex = ap (λ u. model.on u (λ alignment. model.on (values.number y) (λ size. allocate_at (unsigned 64 alignment) (unsigned 64 size)))) ex

pub second_undefined : (x y : values.Value) (a : ℕ) → Gives a ≡ values.number x → answer.Undefined ≡ values.number y → doing.Undefined ≡ allocate_aligned x y
second_undefined x y a ex ey = ap₂ (λ u v. model.on u (λ alignment. model.on v (λ size. allocate_at (unsigned 64 alignment) (unsigned 64 size)))) ex ey

pub second_outside : (x y : values.Value) (a : ℕ) → Gives a ≡ values.number x → answer.Outside ≡ values.number y → doing.Outside ≡ allocate_aligned x y
second_outside x y a ex ey = ap₂ (λ u v. model.on u (λ alignment. model.on v (λ size. allocate_at (unsigned 64 alignment) (unsigned 64 size)))) ex ey

-- a number of bytes up to a cap

below_cap : (e b c : ℕ) → e < c → min (min e c * b) c ≡ min (e * b) c
below_cap e b c le = let same : min e c ≡ e = omega (arith, le) in ap (λ x. min (x * b) c) same

above_cap : (e b c : ℕ) → c ≤ e → min (min e c * suc b) c ≡ min (e * suc b) c
above_cap e b c le =
    let same : min e c ≡ c = omega (arith, le) in
    let left : min (c * suc b) c ≡ c = omega (arith, mul-suc c b) in
    let right : min (e * suc b) c ≡ c = omega (arith, mul-suc e b, le) in
    ap (λ x. min (x * suc b) c) same ∙ left ∙ sym right

capped : (e b c : ℕ) → min (min e c * b) c ≡ min (e * b) c
capped e zero c = let left : min e c * 0 ≡ 0 = omega arith in let right : e * 0 ≡ 0 = omega arith in ap (λ x. min x c) (left ∙ sym right)
capped e (suc b) c = ⊎_elim (below_cap e (suc b) c) (above_cap e b c) (cases_lt e c)

same_length : (ss : List Size) → length (size_values ss) ≡ length ss
same_length [] = refl
same_length (s ∷ ss) = ap (λ n. suc n) (same_length ss)

goes_on_same : (bits : ℕ) (ss : List Size) (vs ws : List values.Value) → vs ≡ size_values ss → ws ≡ strides bits ss → (ys : List values.Value) → memref_at bits ss ys ≡ made_at vs ws ys
goes_on_same bits ss vs ws ev ew [] = refl
goes_on_same bits ss vs ws ev ew (p ∷ []) =
    ap (λ n. doing.Ends (values.descriptor n p p (values.Integer 0) (size_values ss) (strides bits ss) ∷ [])) (sym (same_length ss))
    ∙ ap₂ (λ s t. doing.Ends (values.descriptor (length s) p p (values.Integer 0) s t ∷ [])) (sym ev) (sym ew)
goes_on_same bits ss vs ws ev ew (p ∷ q ∷ ys) = refl

-- a new memref
pub asked : (alignment bits w count bytes n : ℕ) (ss : List Size) (vs ws : List values.Value) → count ≡ min (elements ss) (2 ^ 65) → bytes ≡ byte_size w → n ≡ min (count * bytes) (2 ^ 65)
    → vs ≡ size_values ss → ws ≡ strides bits ss → Asked alignment n (made_at vs ws) (doing.Asks (question.Allocate alignment (elements ss * byte_size w)) (memref_at bits ss))
asked alignment bits w count bytes n ss vs ws ec eb en ev ew = record {
  size = elements ss * byte_size w;
  capped = en ∙ ap₂ (λ x y. min (x * y) (2 ^ 65)) ec eb ∙ capped (elements ss) (byte_size w) (2 ^ 65);
  goes_on = memref_at bits ss;
  is = refl;
  same = goes_on_same bits ss vs ws ev ew;
}
