use Rattle.std.proofs.Common.{◌≡◌, ◌%◌, sym, ◌∙◌, slice_get, Some}
use Rattle.std.proofs.lemmas.Nat.{mod_below}
use Rattle.std.proofs.lemmas.List.{length-set}
use Rattle.std.proofs.lemmas.Option.{slice_get_read}
use Rattle.intern_api.proofs.PlaceLaws.{each_set, keys_set, placed_set, unchanged_set, room_set}
use Rattle.intern_api.proofs.tables.Tables.place.Goals as goal

pub invariant_of-self-clause-sized : goal.invariant_of-self-clause-sized
invariant_of-self-clause-sized c = length-set c.args.self.now.list.items _ _ ∙ c.args.self.now.sized

pub invariant_of-self-clause-numbered : goal.invariant_of-self-clause-numbered
invariant_of-self-clause-numbered c =
    let at : slice_get c.args.self.now.list.items (c.args.hash % c.args.self.now.shards) ≡ Some c.index_mut.result.now = slice_get_read _ _ _ _ (sym c.args.self.now.sized) (mod_below _ _ c.args.self.now.some) c.index_mut.ensures.value in
    each_set (λ k t. t.shard ≡ k) _ _ _ _ at (c.put.ensures.shard ∙ c.args.self.now.numbered _ _ at) c.args.self.now.numbered

pub invariant_of-self-clause-capped : goal.invariant_of-self-clause-capped
invariant_of-self-clause-capped c =
    let at : slice_get c.args.self.now.list.items (c.args.hash % c.args.self.now.shards) ≡ Some c.index_mut.result.now = slice_get_read _ _ _ _ (sym c.args.self.now.sized) (mod_below _ _ c.args.self.now.some) c.index_mut.ensures.value in
    each_set (λ k t. t.cap ≡ c.args.self.now.cap) _ _ _ _ at (c.put.ensures.cap ∙ c.args.self.now.capped _ _ at) c.args.self.now.capped

pub invariant_of-self-clause-keys : goal.invariant_of-self-clause-keys
invariant_of-self-clause-keys c =
    let at : slice_get c.args.self.now.list.items (c.args.hash % c.args.self.now.shards) ≡ Some c.index_mut.result.now = slice_get_read _ _ _ _ (sym c.args.self.now.sized) (mod_below _ _ c.args.self.now.some) c.index_mut.ensures.value in
    keys_set _ _ _ _ at c.args.self.now.shards c.args.entry c.requires.key c.put.result (c.args.self.now.numbered _ _ at) c.requires.own c.requires.heads c.requires.parts c.put.ensures.put c.put.ensures.kept c.args.self.now.keys

pub returns-clause-ok : goal.returns-clause-ok
returns-clause-ok c =
    let at : slice_get c.args.self.now.list.items (c.args.hash % c.args.self.now.shards) ≡ Some c.index_mut.result.now = slice_get_read _ _ _ _ (sym c.args.self.now.sized) (mod_below _ _ c.args.self.now.some) c.index_mut.ensures.value in
    placed_set _ _ _ _ at c.args.entry c.put.result (c.args.self.now.numbered _ _ at) c.put.ensures.put

pub returns-clause-same : goal.returns-clause-same
returns-clause-same c =
    let at : slice_get c.args.self.now.list.items (c.args.hash % c.args.self.now.shards) ≡ Some c.index_mut.result.now = slice_get_read _ _ _ _ (sym c.args.self.now.sized) (mod_below _ _ c.args.self.now.some) c.index_mut.ensures.value in
    unchanged_set _ _ _ _ at c.put.result c.put.ensures.kept

pub returns-clause-err : goal.returns-clause-err
returns-clause-err c =
    let at : slice_get c.args.self.now.list.items (c.args.hash % c.args.self.now.shards) ≡ Some c.index_mut.result.now = slice_get_read _ _ _ _ (sym c.args.self.now.sized) (mod_below _ _ c.args.self.now.some) c.index_mut.ensures.value in
    room_set c.args.self.now.list.items (c.args.hash % c.args.self.now.shards) c.index_mut.result.now c.put.new.self at c.args.entry c.args.self.now.cap c.put.result (c.args.self.now.capped _ _ at) c.put.ensures.kept c.put.ensures.absent c.put.ensures.fault
