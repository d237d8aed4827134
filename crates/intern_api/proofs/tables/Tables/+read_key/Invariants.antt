use Rattle.std.proofs.Common.{◌≡◌, ◌*◌, ◌+◌, List, take}
use Rattle.std.specs.List.{AllZip}
use Rattle.key_model.specs.declared.key.Key.{Key}
use Rattle.intern_api.specs.Interning.{Holds}
use Rattle.intern_api.proofs.tables.Tables.+read_key.Given as goal

abbrev pub invariant-read_all-loop-handle : goal.invariant-read_all-loop-handle
invariant-read_all-loop-handle l = (ks : List Key) → AllZip (Holds l.self) l.handles ks → l.keys.items ≡ take l.handle-index ks

abbrev pub decreases-read_within : goal.decreases-read_within
decreases-read_within l = 2 * l.room

abbrev pub decreases-read_all : goal.decreases-read_all
decreases-read_all l = 2 * l.room + 1
