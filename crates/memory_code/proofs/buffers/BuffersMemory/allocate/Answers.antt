use Rattle.std.proofs.Common.{◌≡◌, length, true, refl, ◌∙◌}
use Rattle.memory_code.proofs.HeapLaws.{allocate_done}
use Rattle.memory_code.proofs.buffers.BuffersMemory.allocate.Goals as goal

pub returns : goal.returns
returns c = λ size e s h.
    let number : c.len-buffer.result ≡ length c.args.self.now.buffers.items = c.len-buffer.ensures ∙ c.args.self.now.buffers.ok.0 in
    allocate_done c.args._alignment size c.args.n c.len-buffer.result c.args.self.now.buffers.items c.push.new.self.items s
    (record { size = c.args.n; is_live = true; bytes = c.no_bytes.result }) h number e c.in_ok-push.ensures.items refl refl c.no_bytes.ensures
