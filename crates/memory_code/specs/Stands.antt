-- Which memory of the definitions a memory of the code stands for.
use Rattle.std.specs.Prelude.{◌≡◌, ℕ, nat_eq, nat_lt, min, ◌^◌, Bool, true, false, List, [], ◌∷◌, Option, Some, None, if◌then◌else◌}
use Rattle.std.specs.HashMap.{get}
use Rattle.number_model.specs.Answers.{Answer}
use Rattle.number_model.specs.Answers.{Answer as answer}
use Rattle.operation_model.specs.Values as values
use Rattle.machine_model.specs.Worlds.{Reply, Answers, Refuses}
use Rattle.machine_model.specs.Worlds.{Stop as stop}
use Rattle.meaning_model.specs.Buffers as model
use Rattle.value_code.specs.declared.look.Looked.{Looked}
use Rattle.value_code.specs.declared.value.Place.{Place}
use Rattle.value_code.specs.Models.{looked_of}
use Rattle.memory_code.specs.declared.bytes.ByteMap.{ByteMap}
use Rattle.memory_code.specs.declared.buffers.Buffer.{Buffer}
use Rattle.memory_code.specs.declared.buffers.Buffers.{Buffers}

-- Replies

-- a number that is read
abbrev pub read_of : Looked ℕ → Answer ℕ
read_of l = looked_of l

-- the number that is read from bytes, where they are all set and it is one of the width
abbrev pub loads : ℕ → Option ℕ → Answer ℕ
loads w None = answer.Undefined
loads w (Some n) = if nat_lt n (2 ^ w) then answer.Gives n else answer.Undefined

-- a number that is read as a reply
abbrev pub reply_from : {S : Type 0} → Answer ℕ → S → Reply S
reply_from (answer.Gives n) s = Answers (values.Integer n ∷ []) s
reply_from answer.Undefined s = Refuses stop.Undefined
reply_from answer.Outside s = Refuses stop.Outside

abbrev pub reply_of : {S : Type 0} → Looked ℕ → S → Reply S
reply_of l s = reply_from (read_of l) s

-- a change that is made, or is undefined
abbrev pub Changes : {M S : Type 0} → (M → S → Type 0) → Bool → M → Reply S → Type 0
Changes {S = S} stands true m reply = (s : S) × (reply ≡ Answers [] s) × stands m s
Changes stands false m reply = reply ≡ Refuses stop.Undefined

-- new bytes that begin at a place, or no room for them
abbrev pub Makes : {M S : Type 0} → (M → S → Type 0) → Option Place → M → Reply S → Type 0
Makes {S = S} stands (Some p) m reply = (s : S) × (reply ≡ Answers (values.Pointer p.buffer p.offset ∷ []) s) × stands m s
Makes stands None m reply = reply ≡ Refuses stop.NoRoom

-- Bytes and buffers

-- the same byte at each place, or none
abbrev pub HoldsBytes : ByteMap → model.Bytes → Type 0
HoldsBytes m bs = (place : ℕ) → get nat_eq m.bytes place ≡ model.byte_at place bs

-- a buffer, with its size up to 2 to the 65
pub record IsBuffer (b : Buffer) (of : model.Buffer) : Type 0 where
  pub size : b.size ≡ min of.size (2 ^ 65)
  pub live : b.is_live ≡ of.is_live
  pub bytes : HoldsBytes b.bytes of.bytes

abbrev pub AreBuffers : List Buffer → List model.Buffer → Type 0
AreBuffers [] [] = Unit {0}
AreBuffers (b ∷ bs) (m ∷ ms) = IsBuffer b m × AreBuffers bs ms
AreBuffers _ _ = ⊥

abbrev pub IsHeap : Buffers → model.Heap → Type 0
IsHeap b h = AreBuffers b.buffers.items h.buffers
