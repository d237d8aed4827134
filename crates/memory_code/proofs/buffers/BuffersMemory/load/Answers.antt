use Rattle.std.proofs.Common.{◌≡◌, sym, ap, ◌∙◌, Some, None}
use Rattle.std.specs.List.{slice_get}
use Rattle.meaning_model.specs.Buffers.{load_from, buffer_at}
use Rattle.memory_code.proofs.HeapLaws.{found, missing, load_absent}
use Rattle.memory_code.proofs.buffers.BuffersMemory.load.Goals as goal

pub returns-in-Some : goal.returns-in-Some
returns-in-Some c = λ s h.
    let at : slice_get c.args.self.now.buffers.items c.args.p.buffer ≡ Some c.in-Some.b.now =
    ap (λ xs. slice_get xs c.args.p.buffer) (sym c.as_slice.ensures.value) ∙ sym c.in-Some.ensures in
    let f = found c.args.self.now.buffers.items s.buffers c.args.p.buffer c.in-Some.b.now h at in
    c.read.ensures f.of f.is s ∙ sym (ap (λ o. load_from c.args.w.bits c.args.p.offset o s) f.at)

pub returns-in-None : goal.returns-in-None
returns-in-None c = λ s h.
    let at : slice_get c.args.self.now.buffers.items c.args.p.buffer ≡ None =
    ap (λ xs. slice_get xs c.args.p.buffer) (sym c.as_slice.ensures.value) ∙ sym c.in-None.ensures in
    sym (load_absent c.args.w.bits c.args.p.offset (buffer_at c.args.p.buffer s.buffers) s (missing c.args.self.now.buffers.items s.buffers c.args.p.buffer h at))
