use Rattle.std.proofs.Common.{◌≡◌, ◌+◌, ◌<◌, length, false, Some, refl, sym, ◌∙◌, arith}
use Rattle.std.specs.List.{position_from, slice_get}
use Rattle.std.specs.VecDeque.{deque_with_item}
use Rattle.std.proofs.lemmas.Option.{slice_get_read}
use Rattle.memory_code.proofs.CellLaws.{within, here, free_refused, free_done}
use Rattle.memory_code.proofs.cells.CellsMemory.free.Goals as goal

pub index_mut-requires : goal.index_mut-requires
index_mut-requires c =
    let inside : c.in-Some.i < 0 + length c.args.self.now.allocations.items = within c.args.p.offset c.args.self.now.allocations.items 0 c.in-Some.i (sym c.newest.ensures ∙ c.in-Some.is) in
    omega (arith, inside, c.args.self.now.allocations.ok.0)

pub returns-in-Some : goal.returns-in-Some
returns-in-Some c = λ s is.
    let place : position_from (here c.args.p.offset) 0 c.args.self.now.allocations.items ≡ Some c.in-Some.i = sym c.newest.ensures ∙ c.in-Some.is in
    let inside : c.in-Some.i < 0 + length c.args.self.now.allocations.items = within c.args.p.offset c.args.self.now.allocations.items 0 c.in-Some.i place in
    let at : slice_get c.args.self.now.allocations.items c.in-Some.i ≡ Some c.index_mut.result.now =
    slice_get_read c.args.self.now.allocations.items (length c.args.self.now.allocations.items) c.in-Some.i c.index_mut.result.now refl (omega (arith, inside)) c.index_mut.ensures.value in
    free_done c.args.self.now s is c.args.p.offset c.in-Some.i c.index_mut.result.now
    (record { start = c.index_mut.result.now.start; size = c.index_mut.result.now.size; is_live = false })
    (record {
      room = c.args.self.now.room;
      bytes = c.args.self.now.bytes;
      allocations = deque_with_item c.args.self.now.allocations c.in-Some.i (record { start = c.index_mut.result.now.start; size = c.index_mut.result.now.size; is_live = false });
      free = c.args.self.now.free;
    })
    place at refl refl refl refl refl

pub returns-in-None : goal.returns-in-None
returns-in-None c = λ s is. free_refused c.args.self.now s is c.args.p.offset (sym c.newest.ensures ∙ c.in-None.is)
