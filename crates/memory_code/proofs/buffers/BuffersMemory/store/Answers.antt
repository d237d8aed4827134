use Rattle.std.proofs.Common.{◌≡◌, ◌≤◌, length, refl, Some, arith}
use Rattle.std.specs.List.{slice_get}
use Rattle.std.proofs.lemmas.Option.{slice_get_read}
use Rattle.value_code.specs.Models.{place_of}
use Rattle.meaning_model.specs.Buffers.{buffer_at}
use Rattle.memory_code.proofs.HeapLaws.{absent, store_absent, store_refused, store_done}
use Rattle.memory_code.proofs.buffers.BuffersMemory.store.Goals as goal

pub returns-then-i-len : goal.returns-then-i-len
returns-then-i-len c = λ s h.
    let past : length c.args.self.now.buffers.items ≤ c.args.p.buffer = omega (arith, c.len.ensures, c.args.self.now.buffers.ok.0, c.if-i-len.true) in
    store_absent c.args.w.bits c.args.n (place_of c.args.p) (buffer_at c.args.p.buffer s.buffers) s (absent c.args.self.now.buffers.items s.buffers c.args.p.buffer h past)

pub returns-then-not-holds : goal.returns-then-not-holds
returns-then-not-holds c = λ s h.
    let at : slice_get c.args.self.now.buffers.items c.args.p.buffer ≡ Some c.index.result.now =
    slice_get_read c.args.self.now.buffers.items c.args.self.now.buffers.len c.args.p.buffer c.index.result.now c.args.self.now.buffers.ok.0 (omega (arith, c.len.ensures, c.if-i-len.false)) c.index.ensures in
    store_refused c.args.w.bits c.args.n c.byte_size-count.result (place_of c.args.p) c.args.self.now.buffers.items s c.index.result.now c.holds.result h c.byte_size-count.ensures.value at c.holds.ensures c.if-not-holds.true

pub returns : goal.returns
returns c = λ s h.
    let at : slice_get c.args.self.now.buffers.items c.args.p.buffer ≡ Some c.index.result.now =
    slice_get_read c.args.self.now.buffers.items c.args.self.now.buffers.len c.args.p.buffer c.index.result.now c.args.self.now.buffers.ok.0 (omega (arith, c.len.ensures, c.if-i-len.false)) c.index.ensures in
    let old_at : slice_get c.args.self.now.buffers.items c.args.p.buffer ≡ Some c.index_mut.result.now =
    slice_get_read c.args.self.now.buffers.items c.args.self.now.buffers.len c.args.p.buffer c.index_mut.result.now c.args.self.now.buffers.ok.0 (omega (arith, c.len.ensures, c.if-i-len.false)) c.index_mut.ensures.value in
    store_done c.args.w.bits c.args.n c.unsigned.result c.byte_size-count.result (place_of c.args.p) c.args.self.now.buffers.items s c.index.result.now c.index_mut.result.now
    (record { size = c.index_mut.result.now.size; is_live = c.index_mut.result.now.is_live; bytes = c.put_number.new.map }) c.holds.result h c.byte_size-count.ensures.value c.unsigned.ensures at old_at
    c.holds.ensures c.if-not-holds.false refl refl c.in_ok-put_number.ensures
