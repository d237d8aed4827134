-- Bytes one after another.
use Rattle.std.proofs.Common.{◌≡◌, ◌∷◌, ℕ, suc, ◌+◌, ◌*◌, ◌/◌, ◌%◌, ◌^◌, ◌<◌, ◌≤◌, nat_eq, cond, Option, Some, None, refl, ap, ap₂, ◌∙◌, arith}
use Rattle.std.proofs.Math.Nat.{pow-le-pow_right, pow-succ'}
use Rattle.std.specs.Prelude.{Result, Ok, Err, OnOk}
use Rattle.std.specs.HashMap.{get}
use Rattle.meaning_model.specs.Buffers.{Bytes, byte_at, bytes_from, put_bytes, little_end}
use Rattle.memory_code.specs.declared.bytes.ByteMap.{ByteMap}
use Rattle.memory_code.specs.Stands.{HoldsBytes}

-- the number of one byte more
pub both_set : (j count place low high : ℕ) (bs : Bytes) → count ≡ suc j → byte_at place bs ≡ Some low → bytes_from j (place + 1) bs ≡ Some high
    → bytes_from count place bs ≡ Some (low + 256 * high)
both_set j count place low high bs e b h = ap (λ c. bytes_from c place bs) e ∙ ap₂ little_end b h

pub low_unset : (j count place : ℕ) (bs : Bytes) → count ≡ suc j → byte_at place bs ≡ None → bytes_from count place bs ≡ None
low_unset j count place bs e b = ap (λ c. bytes_from c place bs) e ∙ ap (λ l. little_end l (bytes_from j (place + 1) bs)) b

no_end : (low : Option ℕ) → little_end low None ≡ None
no_end None = refl
no_end (Some n) = refl

pub high_unset : (j count place : ℕ) (bs : Bytes) → count ≡ suc j → bytes_from j (place + 1) bs ≡ None → bytes_from count place bs ≡ None
high_unset j count place bs e h = ap (λ c. bytes_from c place bs) e ∙ ap (little_end (byte_at place bs)) h ∙ no_end (byte_at place bs)

pub high_fits : (j high : ℕ) → j ≤ 7 → high < 256 ^ j → high < 2 ^ 56
high_fits j high le lt = let most : 256 ^ j ≤ 256 ^ 7 = pow-le-pow_right (omega arith) le in omega (arith, most, lt)

pub one_byte_fits : (j count low high : ℕ) → count ≡ suc j → low < 256 → high < 256 ^ j → low + 256 * high < 256 ^ count
one_byte_fits j count low high e l h =
    let whole : 256 ^ count ≡ 256 * 256 ^ j = ap (λ c. 256 ^ c) e ∙ pow-succ' 256 j in omega (arith, whole, l, h)

-- one byte is put and then the others
pub put_more : (m next last : ByteMap) (j count place n : ℕ) → count ≡ suc j
    → ((q : ℕ) → get nat_eq next.bytes q ≡ cond (nat_eq place q) (Some (n % 256)) (get nat_eq m.bytes q))
    → ((bs : Bytes) → HoldsBytes next bs → HoldsBytes last (put_bytes j (place + 1) (n / 256) bs))
    → (bs : Bytes) → HoldsBytes m bs → HoldsBytes last (put_bytes count place n bs)
put_more m next last j count place n e new others bs h =
    rw e (others ((place, n % 256) ∷ bs) (λ q. new q ∙ ap (cond (nat_eq place q) (Some (n % 256))) (h q)))

pub on_ok : {T E : Type 0} {P Q : Type 0} (r : Result T E) → (P → Q) → OnOk r P → OnOk r Q
on_ok (Ok x) f p = f p
on_ok (Err e) f p = tt
