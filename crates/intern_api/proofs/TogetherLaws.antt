-- Tables that make up an interner.
use Rattle.std.specs.Prelude.{◌≡◌, ◌+◌, ◌-◌, ◌≤◌, ℕ, List, Option, Some, slice_get, length}
use Rattle.std.proofs.Common.{sym, ◌∙◌, arith}
use Rattle.intern_api.specs.declared.shard_table.ShardTable.{ShardTable}
use Rattle.intern_api.specs.Together.{AreTogether}
use Rattle.intern_api.proofs.InterningLaws.{table_at}

-- they are at most 16, since the last one has a shard below 16
pub together_few : (ts : List ShardTable) → AreTogether ts → length ts ≤ 16
together_few ts are =
    let last : ℕ = length ts - 1 in
    let t : (t : ShardTable) × (slice_get ts last ≡ Some t) = table_at ts last (omega (arith, are.some)) in
    omega (arith, are.some, t.0.low, are.numbered last t.0 t.1)

-- each has the cap of the first one
pub together_capped : (ts : List ShardTable) (cap : Option ℕ) → AreTogether ts → ((t : ShardTable) → slice_get ts 0 ≡ Some t → cap ≡ t.cap) → (k : ℕ) (t : ShardTable) → slice_get ts k ≡ Some t → t.cap ≡ cap
together_capped ts cap are first k t at =
    let f : (t : ShardTable) × (slice_get ts 0 ≡ Some t) = table_at ts 0 are.some in
    are.capped k 0 t f.0 at f.1 ∙ sym (first f.0 f.1)
