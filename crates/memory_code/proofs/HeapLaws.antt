-- Buffers, at a place, changed and added.
use Rattle.std.proofs.Common.{◌≡◌, ℕ, zero, suc, ◌+◌, ◌≤◌, ◌^◌, ◌==◌, ◌&&◌, min, subst, List, [], ◌∷◌, ◌++◌, Bool, true, false, cond, length, Option, Some, None, refl, sym, ap, ◌∙◌, arith}
use Rattle.std.specs.List.{slice_get, slice_set}
use Rattle.std.proofs.lemmas.Option.{same_Some, none-some}
use Rattle.number_model.specs.Numbers.{unsigned}
use Rattle.operation_model.specs.Values as values
use Rattle.operation_model.specs.Straight.{byte_size}
use Rattle.machine_model.specs.Worlds.{Undefined, Answers, Refuses}
use Rattle.meaning_model.specs.Buffers as model
use Rattle.memory_code.specs.declared.buffers.Buffer.{Buffer}
use Rattle.memory_code.specs.Stands.{IsBuffer, AreBuffers, HoldsBytes}

-- the buffer of the definition at a place
pub record Found (ms : List model.Buffer) (i : ℕ) (b : Buffer) : Type 0 where
  pub of : model.Buffer
  pub at : model.buffer_at i ms ≡ Some of
  pub is : IsBuffer b of

pub found : (bs : List Buffer) (ms : List model.Buffer) (i : ℕ) (b : Buffer) → AreBuffers bs ms → slice_get bs i ≡ Some b → Found ms i b
found [] [] i b are at = absurd (none-some b at)
found [] (m ∷ ms) i b are at = absurd are
found (x ∷ bs) [] i b are at = absurd are
found (x ∷ bs) (m ∷ ms) zero b are at = record { of = m; at = refl; is = subst (λ y. IsBuffer y m) (same_Some x b at) are.0 }
found (x ∷ bs) (m ∷ ms) (suc i) b are at = let f = found bs ms i b are.1 at in record { of = f.of; at = f.at; is = f.is }

pub absent : (bs : List Buffer) (ms : List model.Buffer) (i : ℕ) → AreBuffers bs ms → length bs ≤ i → model.buffer_at i ms ≡ None
absent [] [] i are past = refl
absent [] (m ∷ ms) i are past = absurd are
absent (x ∷ bs) [] i are past = absurd are
absent (x ∷ bs) (m ∷ ms) zero are past = absurd (omega (arith, past))
absent (x ∷ bs) (m ∷ ms) (suc i) are past = absent bs ms i are.1 (omega (arith, past))

pub missing : (bs : List Buffer) (ms : List model.Buffer) (i : ℕ) → AreBuffers bs ms → slice_get bs i ≡ None → model.buffer_at i ms ≡ None
missing [] [] i are at = refl
missing [] (m ∷ ms) i are at = absurd are
missing (x ∷ bs) [] i are at = absurd are
missing (x ∷ bs) (m ∷ ms) zero are at = absurd (none-some x (sym at))
missing (x ∷ bs) (m ∷ ms) (suc i) are at = missing bs ms i are.1 at

pub replaced : (bs : List Buffer) (ms : List model.Buffer) (i : ℕ) (b : Buffer) (of : model.Buffer) → AreBuffers bs ms → IsBuffer b of → AreBuffers (slice_set bs i b) (model.with_buffer i of ms)
replaced [] [] i b of are is = tt
replaced [] (m ∷ ms) i b of are is = absurd are
replaced (x ∷ bs) [] i b of are is = absurd are
replaced (x ∷ bs) (m ∷ ms) zero b of are is = (is, are.1)
replaced (x ∷ bs) (m ∷ ms) (suc i) b of are is = (are.0, replaced bs ms i b of are.1 is)

pub added : (bs : List Buffer) (ms : List model.Buffer) (b : Buffer) (of : model.Buffer) → AreBuffers bs ms → IsBuffer b of → AreBuffers (bs ++ b ∷ []) (ms ++ of ∷ [])
added [] [] b of are is = (is, tt)
added [] (m ∷ ms) b of are is = absurd are
added (x ∷ bs) [] b of are is = absurd are
added (x ∷ bs) (m ∷ ms) b of are is = (are.0, added bs ms b of are.1 is)

pub same_count : (bs : List Buffer) (ms : List model.Buffer) → AreBuffers bs ms → length bs ≡ length ms
same_count [] [] are = refl
same_count [] (m ∷ ms) are = absurd are
same_count (x ∷ bs) [] are = absurd are
same_count (x ∷ bs) (m ∷ ms) are = ap (λ n. suc n) (same_count bs ms are.1)

-- what is undefined

pub load_absent : (w : ℕ) (offset : ℕ) (o : Option model.Buffer) (h : model.Heap) → o ≡ None → model.load_from w offset o h ≡ Refuses Undefined
load_absent w offset o h e = ap (λ x. model.load_from w offset x h) e

pub store_absent : (w n : ℕ) (p : values.Place) (o : Option model.Buffer) (h : model.Heap) → o ≡ None → model.store_to w n p o h ≡ Refuses Undefined
store_absent w n p o h e = ap (λ x. model.store_to w n p x h) e

pub free_absent : (p : values.Place) (o : Option model.Buffer) (h : model.Heap) → o ≡ None → model.free_at p o h ≡ Refuses Undefined
free_absent p o h e = ap (λ x. model.free_at p x h) e

pub store_refused : (w n count : ℕ) (p : values.Place) (bs : List Buffer) (h : model.Heap) (b : Buffer) (answer : Bool) → AreBuffers bs h.buffers
    → count ≡ byte_size w → slice_get bs p.buffer ≡ Some b → ((of : model.Buffer) → IsBuffer b of → answer ≡ model.holds count p.offset of) → answer ≡ false
    → model.store_to w n p (model.buffer_at p.buffer h.buffers) h ≡ Refuses Undefined
store_refused w n count p bs h b answer are size at test refused =
    let f = found bs h.buffers p.buffer b are at in
    ap (λ x. model.store_to w n p x h) f.at
    ∙ ap (λ t. cond t (Answers [] (model.changed p.buffer (model.with_bytes f.of (model.put_bytes (byte_size w) p.offset (unsigned w n) f.of.bytes)) h)) (Refuses Undefined))
    (ap (λ k. model.holds k p.offset f.of) (sym size) ∙ sym (test f.of f.is) ∙ refused)

pub store_done : (w n number count : ℕ) (p : values.Place) (bs : List Buffer) (h : model.Heap) (b old new : Buffer) (answer : Bool) → AreBuffers bs h.buffers
    → count ≡ byte_size w → number ≡ unsigned w n → slice_get bs p.buffer ≡ Some b → slice_get bs p.buffer ≡ Some old
    → ((of : model.Buffer) → IsBuffer b of → answer ≡ model.holds count p.offset of) → answer ≡ true
    → new.size ≡ old.size → new.is_live ≡ old.is_live
    → ((s : model.Bytes) → HoldsBytes old.bytes s → HoldsBytes new.bytes (model.put_bytes count p.offset number s))
    → (x : model.Heap) × (model.store_to w n p (model.buffer_at p.buffer h.buffers) h ≡ Answers [] x) × AreBuffers (slice_set bs p.buffer new) x.buffers
store_done w n number count p bs h b old new answer are size is_number at old_at test passed same_size same_live put =
    let f = found bs h.buffers p.buffer b are at in
    let g = subst (λ y. IsBuffer y f.of) (same_Some b old (sym at ∙ old_at)) f.is in
    let bytes : HoldsBytes new.bytes (model.put_bytes (byte_size w) p.offset (unsigned w n) f.of.bytes) =
    subst (λ k. HoldsBytes new.bytes (model.put_bytes k p.offset (unsigned w n) f.of.bytes)) size
    (subst (λ k. HoldsBytes new.bytes (model.put_bytes count p.offset k f.of.bytes)) is_number (put f.of.bytes g.bytes)) in (
      model.changed p.buffer (model.with_bytes f.of (model.put_bytes (byte_size w) p.offset (unsigned w n) f.of.bytes)) h,
      ap (λ x. model.store_to w n p x h) f.at
          ∙ ap (λ t. cond t (Answers [] (model.changed p.buffer (model.with_bytes f.of (model.put_bytes (byte_size w) p.offset (unsigned w n) f.of.bytes)) h)) (Refuses Undefined))
          (ap (λ k. model.holds k p.offset f.of) (sym size) ∙ sym (test f.of f.is) ∙ passed),
      replaced bs h.buffers p.buffer new (model.with_bytes f.of (model.put_bytes (byte_size w) p.offset (unsigned w n) f.of.bytes)) are
          (record { size = same_size ∙ g.size; live = same_live ∙ g.live; bytes = bytes }),
    )

pub free_refused : (p : values.Place) (bs : List Buffer) (h : model.Heap) (b : Buffer) (answer : Bool) → AreBuffers bs h.buffers → slice_get bs p.buffer ≡ Some b
    → ((of : model.Buffer) → IsBuffer b of → answer ≡ (of.is_live && (p.offset == 0))) → answer ≡ false
    → model.free_at p (model.buffer_at p.buffer h.buffers) h ≡ Refuses Undefined
free_refused p bs h b answer are at test refused =
    let f = found bs h.buffers p.buffer b are at in
    ap (λ x. model.free_at p x h) f.at ∙ ap (λ t. cond t (Answers [] (model.changed p.buffer (model.ended f.of) h)) (Refuses Undefined)) (sym (test f.of f.is) ∙ refused)

pub free_done : (p : values.Place) (bs : List Buffer) (h : model.Heap) (b old new : Buffer) (answer : Bool) → AreBuffers bs h.buffers
    → slice_get bs p.buffer ≡ Some b → slice_get bs p.buffer ≡ Some old
    → ((of : model.Buffer) → IsBuffer b of → answer ≡ (of.is_live && (p.offset == 0))) → answer ≡ true
    → new.size ≡ old.size → new.is_live ≡ false → new.bytes ≡ old.bytes
    → (x : model.Heap) × (model.free_at p (model.buffer_at p.buffer h.buffers) h ≡ Answers [] x) × AreBuffers (slice_set bs p.buffer new) x.buffers
free_done p bs h b old new answer are at old_at test passed same_size dead same_bytes =
    let f = found bs h.buffers p.buffer b are at in
    let g = subst (λ y. IsBuffer y f.of) (same_Some b old (sym at ∙ old_at)) f.is in (
      model.changed p.buffer (model.ended f.of) h,
      ap (λ x. model.free_at p x h) f.at ∙ ap (λ t. cond t (Answers [] (model.changed p.buffer (model.ended f.of) h)) (Refuses Undefined)) (sym (test f.of f.is) ∙ passed),
      replaced bs h.buffers p.buffer new (model.ended f.of) are
          (record { size = same_size ∙ g.size; live = dead; bytes = subst (λ y. HoldsBytes y f.of.bytes) (sym same_bytes) g.bytes }),
    )

-- a new buffer
pub allocate_done : (alignment size n number : ℕ) (bs more : List Buffer) (h : model.Heap) (new : Buffer) → AreBuffers bs h.buffers → number ≡ length bs → n ≡ min size (2 ^ 65)
    → more ≡ bs ++ new ∷ [] → new.size ≡ n → new.is_live ≡ true → HoldsBytes new.bytes []
    → (x : model.Heap) × (model.allocated alignment size h ≡ Answers (values.Pointer number 0 ∷ []) x) × AreBuffers more x.buffers
allocate_done alignment size n number bs more h new are is_number is_size is_more new_size live bytes = (
  record { buffers = h.buffers ++ model.new_buffer size ∷ []; need = h.need + model.needed alignment size },
  ap (λ k. Answers (values.Pointer k 0 ∷ []) (record { buffers = h.buffers ++ model.new_buffer size ∷ []; need = h.need + model.needed alignment size }))
      (sym (is_number ∙ same_count bs h.buffers are)),
  subst (λ l. AreBuffers l (h.buffers ++ model.new_buffer size ∷ [])) (sym is_more)
      (added bs h.buffers new (model.new_buffer size) are (record { size = new_size ∙ is_size; live = live; bytes = bytes })),
)
