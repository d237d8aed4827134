use Rattle.std.proofs.Common.{◌≡◌, ◌≤◌, length, false, refl, Some, arith}
use Rattle.std.specs.List.{slice_get}
use Rattle.std.proofs.lemmas.Option.{slice_get_read}
use Rattle.value_code.specs.Models.{place_of}
use Rattle.meaning_model.specs.Buffers.{buffer_at}
use Rattle.memory_code.proofs.HeapLaws.{absent, free_absent, free_refused, free_done}
use Rattle.memory_code.proofs.buffers.BuffersMemory.free.Goals as goal

pub returns-then-i-len : goal.returns-then-i-len
returns-then-i-len c = λ s h.
    let past : length c.args.self.now.buffers.items ≤ c.args.p.buffer = omega (arith, c.len.ensures, c.args.self.now.buffers.ok.0, c.if-i-len.true) in
    free_absent (place_of c.args.p) (buffer_at c.args.p.buffer s.buffers) s (absent c.args.self.now.buffers.items s.buffers c.args.p.buffer h past)

pub returns-then-not-begins : goal.returns-then-not-begins
returns-then-not-begins c = λ s h.
    let at : slice_get c.args.self.now.buffers.items c.args.p.buffer ≡ Some c.index.result.now =
    slice_get_read c.args.self.now.buffers.items c.args.self.now.buffers.len c.args.p.buffer c.index.result.now c.args.self.now.buffers.ok.0 (omega (arith, c.len.ensures, c.if-i-len.false)) c.index.ensures in
    free_refused (place_of c.args.p) c.args.self.now.buffers.items s c.index.result.now c.begins.result h at c.begins.ensures c.if-not-begins.true

pub returns : goal.returns
returns c = λ s h.
    let at : slice_get c.args.self.now.buffers.items c.args.p.buffer ≡ Some c.index.result.now =
    slice_get_read c.args.self.now.buffers.items c.args.self.now.buffers.len c.args.p.buffer c.index.result.now c.args.self.now.buffers.ok.0 (omega (arith, c.len.ensures, c.if-i-len.false)) c.index.ensures in
    let old_at : slice_get c.args.self.now.buffers.items c.args.p.buffer ≡ Some c.index_mut.result.now =
    slice_get_read c.args.self.now.buffers.items c.args.self.now.buffers.len c.args.p.buffer c.index_mut.result.now c.args.self.now.buffers.ok.0 (omega (arith, c.len.ensures, c.if-i-len.false)) c.index_mut.ensures.value in
    free_done (place_of c.args.p) c.args.self.now.buffers.items s c.index.result.now c.index_mut.result.now
    (record { size = c.index_mut.result.now.size; is_live = false; bytes = c.index_mut.result.now.bytes }) c.begins.result h at old_at c.begins.ensures c.if-not-begins.false refl refl refl
