-- Cells: what is covered, what is freed, and what is placed.
use Rattle.std.proofs.Common.{◌≡◌, ℕ, zero, suc, ◌+◌, ◌≤◌, ◌<◌, ◌^◌, min, List, [], ◌∷◌, map, length, nat_lt, Bool, true, false, cond, ◌||◌, Option, Some, None, refl, sym, ap, ap₂, ◌∙◌, subst, arith}
use Rattle.std.specs.List.{slice_get, slice_set, list_any, position_from}
use Rattle.std.proofs.lemmas.Option.{same_Some, none-some}
use Rattle.number_model.specs.Numbers.{unsigned}
use Rattle.operation_model.specs.Straight.{byte_size}
use Rattle.machine_model.specs.Worlds.{Undefined, NoRoom, Answers, Refuses}
use Rattle.std.proofs.lemmas.Bool.{le-leb}
use Rattle.number_model.specs.Answers.{Answer as answer}
use Rattle.operation_model.specs.Values as values
use Rattle.meaning_model.specs.Buffers.{Bytes, loaded, bytes_from, put_bytes, positive_multiple}
use Rattle.value_code.specs.declared.look.Looked.{Looked}
use Rattle.value_code.specs.declared.look.Looked.TheVariants as looked
use Rattle.meaning_model.specs.Cells as model
use Rattle.memory_code.specs.declared.cells.Allocation.{Allocation}
use Rattle.memory_code.specs.declared.cells.Cells.{Cells}
use Rattle.memory_code.specs.Stands.{HoldsBytes, read_of, loads, reply_of, reply_from}
use Rattle.memory_code.specs.CellsStand.{allocation_of, IsCells}

or_is : (b c : Bool) → (b || c) ≡ cond b true c
or_is true c = refl
or_is false c = refl

pub covered : (count start : ℕ) (xs : List Allocation) → list_any (λ a. model.covers count start (allocation_of a)) xs ≡ model.is_covered count start (map allocation_of xs)
covered count start [] = refl
covered count start (x ∷ xs) =
    or_is (model.covers count start (allocation_of x)) (list_any (λ a. model.covers count start (allocation_of a)) xs)
    ∙ ap (cond (model.covers count start (allocation_of x)) true) (covered count start xs)

abbrev pub here : ℕ → Allocation → Bool
here start a = model.begins_at start (allocation_of a)

-- the first place that passes a test, from a place on
found_first : (b : Bool) (j i : ℕ) (rest : Option ℕ) → (rest ≡ Some i → j + 1 ≤ i) → cond b (Some j) rest ≡ Some i → j ≤ i
found_first true j i rest later e = let same : j ≡ i = same_Some j i e in omega (arith, same)
found_first false j i rest later e = let more : j + 1 ≤ i = later e in omega (arith, more)

at_least : (start : ℕ) (xs : List Allocation) (j i : ℕ) → position_from (here start) j xs ≡ Some i → j ≤ i
at_least start [] j i e = absurd (none-some i e)
at_least start (x ∷ xs) j i e = found_first (here start x) j i (position_from (here start) (j + 1) xs) (at_least start xs (j + 1) i) e

found_within : (b : Bool) (j i n : ℕ) (rest : Option ℕ) → (rest ≡ Some i → i < j + 1 + n) → cond b (Some j) rest ≡ Some i → i < j + suc n
found_within true j i n rest later e = let same : j ≡ i = same_Some j i e in omega (arith, same)
found_within false j i n rest later e = let more : i < j + 1 + n = later e in omega (arith, more)

pub within : (start : ℕ) (xs : List Allocation) (j i : ℕ) → position_from (here start) j xs ≡ Some i → i < j + length xs
within start [] j i e = absurd (none-some i e)
within start (x ∷ xs) j i e = found_within (here start x) j i (length xs) (position_from (here start) (j + 1) xs) (within start xs (j + 1) i) e

none_here : (b : Bool) (j : ℕ) (rest : Option ℕ) (a : model.Allocation) (ended : List model.Allocation) (others : Option (List model.Allocation)) → (rest ≡ None → others ≡ None)
    → cond b (Some j) rest ≡ None → cond b (Some ended) (model.and_allocation a others) ≡ None
none_here true j rest a ended others later e = absurd (none-some j (sym e))
none_here false j rest a ended others later e = ap (model.and_allocation a) (later e)

pub none_begins : (start : ℕ) (xs : List Allocation) (j : ℕ) → position_from (here start) j xs ≡ None → model.without start (map allocation_of xs) ≡ None
none_begins start [] j e = refl
none_begins start (x ∷ xs) j e =
    none_here (here start x) j (position_from (here start) (j + 1) xs) (allocation_of x) (model.ended (allocation_of x) ∷ map allocation_of xs) (model.without start (map allocation_of xs))
    (none_begins start xs (j + 1)) e

first_here : (b : Bool) (j i : ℕ) (rest : Option ℕ) (ended new : List model.Allocation) (others : Option (List model.Allocation)) → i ≡ j → (rest ≡ Some i → j + 1 ≤ i)
    → ended ≡ new → cond b (Some j) rest ≡ Some i → cond b (Some ended) others ≡ Some new
first_here true j i rest ended new others is later same e = ap (λ l. Some l) same
first_here false j i rest ended new others is later same e = let more : j + 1 ≤ i = later e in absurd (omega (arith, more, is))

later_here : (b : Bool) (j i k : ℕ) (rest : Option ℕ) (a : model.Allocation) (ended new : List model.Allocation) (others : Option (List model.Allocation)) → i ≡ j + suc k
    → (rest ≡ Some i → others ≡ Some new) → cond b (Some j) rest ≡ Some i → cond b (Some ended) (model.and_allocation a others) ≡ Some (a ∷ new)
later_here true j i k rest a ended new others is later e = let same : j ≡ i = same_Some j i e in absurd (omega (arith, same, is))
later_here false j i k rest a ended new others is later e = ap (model.and_allocation a) (later e)

pub newest_begins : (start : ℕ) (xs : List Allocation) (j i k : ℕ) (x new : Allocation) → i ≡ j + k → position_from (here start) j xs ≡ Some i → slice_get xs k ≡ Some x
    → allocation_of new ≡ model.ended (allocation_of x) → model.without start (map allocation_of xs) ≡ Some (map allocation_of (slice_set xs k new))
newest_begins start [] j i k x new is e at ended = absurd (none-some i e)
newest_begins start (y ∷ ys) j i zero x new is e at ended =
    first_here (here start y) j i (position_from (here start) (j + 1) ys) (model.ended (allocation_of y) ∷ map allocation_of ys) (allocation_of new ∷ map allocation_of ys)
    (model.and_allocation (allocation_of y) (model.without start (map allocation_of ys))) (omega (arith, is)) (at_least start ys (j + 1) i)
    (ap (λ a. a ∷ map allocation_of ys) (ap (λ a. model.ended (allocation_of a)) (same_Some y x at) ∙ sym ended)) e
newest_begins start (y ∷ ys) j i (suc k) x new is e at ended =
    later_here (here start y) j i k (position_from (here start) (j + 1) ys) (allocation_of y) (model.ended (allocation_of y) ∷ map allocation_of ys)
    (map allocation_of (slice_set ys k new)) (model.without start (map allocation_of ys)) is
    (λ rest. newest_begins start ys (j + 1) i k x new (omega (arith, is)) rest at ended) e

-- replies

replies_if : (b : Bool) (n : ℕ) (s : model.Cells) → reply_from (cond b (answer.Gives n) answer.Undefined) s ≡ cond b (Answers (values.Integer n ∷ []) s) (Refuses Undefined)
replies_if true n s = refl
replies_if false n s = refl

replies_loaded : (w : ℕ) (o : Option ℕ) (s : model.Cells) → reply_from (loads w o) s ≡ loaded w o s
replies_loaded w None s = refl
replies_loaded w (Some n) s = replies_if (nat_lt n (2 ^ w)) n s

replies_looked : (r : Looked ℕ) (s : model.Cells) → reply_of r s ≡ reply_from (read_of r) s
replies_looked (looked.Gives n) s = refl
replies_looked looked.Undefined s = refl
replies_looked looked.Outside s = refl

module _ (c : Cells) (s : model.Cells) (is : IsCells c s) where
  test : (count start : ℕ) (b : Bool) → b ≡ list_any (λ a. model.covers count start (allocation_of a)) c.allocations.items → b ≡ model.is_covered count start s.allocations
  test count start b e = e ∙ covered count start c.allocations.items ∙ ap (model.is_covered count start) is.allocations

  pub load_covered : (w count start : ℕ) (b : Bool) (r : Looked ℕ) (o : Option ℕ) → count ≡ byte_size w → b ≡ list_any (λ a. model.covers count start (allocation_of a)) c.allocations.items
      → b ≡ true → ((bs : Bytes) → HoldsBytes c.bytes bs → o ≡ bytes_from count start bs) → read_of r ≡ loads w o → reply_of r s ≡ model.load_cells w start s
  load_covered w count start b r o size e passed reads is_read =
      replies_looked r s ∙ ap (λ l. reply_from l s) is_read ∙ replies_loaded w o s ∙ ap (λ p. loaded w p s) (reads s.bytes is.bytes ∙ ap (λ k. bytes_from k start s.bytes) size)
      ∙ sym (ap (λ t. cond t (loaded w (bytes_from (byte_size w) start s.bytes) s) (Refuses Undefined)) (ap (λ k. model.is_covered k start s.allocations) (sym size) ∙ sym (test count start b e) ∙ passed))

  pub load_refused : (w count start : ℕ) (b : Bool) → count ≡ byte_size w → b ≡ list_any (λ a. model.covers count start (allocation_of a)) c.allocations.items
      → b ≡ false → model.load_cells w start s ≡ Refuses Undefined
  load_refused w count start b size e refused =
      ap (λ t. cond t (loaded w (bytes_from (byte_size w) start s.bytes) s) (Refuses Undefined)) (ap (λ k. model.is_covered k start s.allocations) (sym size) ∙ sym (test count start b e) ∙ refused)

  pub store_refused : (w n count start : ℕ) (b : Bool) → count ≡ byte_size w → b ≡ list_any (λ a. model.covers count start (allocation_of a)) c.allocations.items
      → b ≡ false → model.store_cells w n start s ≡ Refuses Undefined
  store_refused w n count start b size e refused =
      ap (λ t. cond t (Answers [] (model.with_cells (put_bytes (byte_size w) start (unsigned w n) s.bytes) s)) (Refuses Undefined))
      (ap (λ k. model.is_covered k start s.allocations) (sym size) ∙ sym (test count start b e) ∙ refused)

  pub store_done : (w n number count start : ℕ) (b : Bool) (new : Cells) → count ≡ byte_size w → number ≡ unsigned w n
      → b ≡ list_any (λ a. model.covers count start (allocation_of a)) c.allocations.items → b ≡ true
      → ((bs : Bytes) → HoldsBytes c.bytes bs → HoldsBytes new.bytes (put_bytes count start number bs)) → new.room ≡ c.room → new.allocations ≡ c.allocations → new.free ≡ c.free
      → (x : model.Cells) × (model.store_cells w n start s ≡ Answers [] x) × IsCells new x
  store_done w n number count start b new size is_number e passed put room allocations free =
      let bytes : HoldsBytes new.bytes (put_bytes (byte_size w) start (unsigned w n) s.bytes) =
      subst (λ k. HoldsBytes new.bytes (put_bytes k start (unsigned w n) s.bytes)) size
      (subst (λ k. HoldsBytes new.bytes (put_bytes count start k s.bytes)) is_number (put s.bytes is.bytes)) in (
        model.with_cells (put_bytes (byte_size w) start (unsigned w n) s.bytes) s,
        ap (λ t. cond t (Answers [] (model.with_cells (put_bytes (byte_size w) start (unsigned w n) s.bytes) s)) (Refuses Undefined))
            (ap (λ k. model.is_covered k start s.allocations) (sym size) ∙ sym (test count start b e) ∙ passed),
        record { room = room ∙ is.room; bytes = bytes; allocations = ap (λ d. map allocation_of d.items) allocations ∙ is.allocations; free = free ∙ is.free },
      )

  pub free_refused : (start : ℕ) → position_from (here start) 0 c.allocations.items ≡ None → model.freed (model.without start s.allocations) s ≡ Refuses Undefined
  free_refused start e = ap (λ o. model.freed o s) (ap (model.without start) (sym is.allocations) ∙ none_begins start c.allocations.items 0 e)

  pub free_done : (start i : ℕ) (x ended : Allocation) (new : Cells) → position_from (here start) 0 c.allocations.items ≡ Some i → slice_get c.allocations.items i ≡ Some x
      → allocation_of ended ≡ model.ended (allocation_of x) → new.allocations.items ≡ slice_set c.allocations.items i ended → new.bytes ≡ c.bytes → new.room ≡ c.room → new.free ≡ c.free
      → (y : model.Cells) × (model.freed (model.without start s.allocations) s ≡ Answers [] y) × IsCells new y
  free_done start i x ended new e at is_ended items bytes room free = (
    record { room = s.room; bytes = s.bytes; allocations = map allocation_of (slice_set c.allocations.items i ended); free = s.free },
    ap (λ o. model.freed o s) (ap (model.without start) (sym is.allocations) ∙ newest_begins start c.allocations.items 0 i i x ended (omega arith) e at is_ended),
    record { room = room ∙ is.room; bytes = subst (λ b. HoldsBytes b s.bytes) (sym bytes) is.bytes; allocations = ap (map allocation_of) items; free = free ∙ is.free },
  )

  pub allocate_done : (alignment size n start rounded : ℕ) (first : Allocation) (new : Cells) → n ≡ min size (2 ^ 65) → n ≤ c.room → c.room < 2 ^ 64
      → start ≡ model.aligned alignment c.free → rounded ≡ positive_multiple 16 n → start + rounded ≤ c.room
      → new.allocations.items ≡ first ∷ c.allocations.items → allocation_of first ≡ record { start = start; size = n; is_live = true }
      → new.bytes ≡ c.bytes → new.room ≡ c.room → new.free ≡ start + rounded
      → (y : model.Cells) × (model.placed (model.aligned alignment s.free) size s ≡ Answers (values.Pointer 0 start ∷ []) y) × IsCells new y
  allocate_done alignment size n start rounded first new capped few small at is_rounded fits items is_first bytes room free =
      let whole : n ≡ size = omega (arith, capped, few, small) in
      let first_is : model.aligned alignment s.free ≡ start = ap (model.aligned alignment) (sym is.free) ∙ sym at in
      let more : rounded ≡ positive_multiple 16 size = is_rounded ∙ ap (positive_multiple 16) whole in
      let there : start + positive_multiple 16 size ≤ s.room = subst (λ r. start + r ≤ s.room) more (subst (λ r. start + rounded ≤ r) is.room fits) in (
        record { room = s.room; bytes = s.bytes; allocations = record { start = start; size = size; is_live = true } ∷ s.allocations; free = start + positive_multiple 16 size },
        ap (λ k. model.placed k size s) first_is
            ∙ ap (λ t. cond t (Answers (values.Pointer 0 start ∷ []) (record { room = s.room; bytes = s.bytes; allocations = record { start = start; size = size; is_live = true } ∷ s.allocations; free = start + positive_multiple 16 size })) (Refuses NoRoom))
            (le-leb (start + positive_multiple 16 size) s.room there),
        record {
          room = room ∙ is.room;
          bytes = subst (λ b. HoldsBytes b s.bytes) (sym bytes) is.bytes;
          allocations = ap (map allocation_of) items ∙ ap₂ (λ x xs. x ∷ xs) (is_first ∙ ap (λ k. record { start = start; size = k; is_live = true }) whole) is.allocations;
          free = free ∙ ap (λ k. start + k) more;
        },
      )
