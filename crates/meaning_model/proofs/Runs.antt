-- Laws of whole runs over the two memories.
use Rattle.std.proofs.Common.{◌≡◌, inl, inr, ℕ, ◌≤◌, List, [], ◌∷◌, Bool, true, false, Option, Some, None, refl, sym, ap, subst, arith}
use Rattle.std.specs.Prelude.{◌%◌, ◌^◌, ◌==◌, nat_lt, ◌&&◌, ℤ, if◌then◌else◌}
use Rattle.number_model.specs.Answers.{Answer, Gives}
use Rattle.number_model.specs.Answers.{Answer as answer}
use Rattle.operation_model.specs.Values.{Integer, Place}
use Rattle.operation_model.specs.Doings.{Question, Load, Store, Allocate, Free}
use Rattle.form_model.specs.Codes.{Function}
use Rattle.machine_model.specs.Worlds.{Stop, Undefined, NoRoom, Reply, Answers, Refuses}
use Rattle.machine_model.specs.Machine.{Outcome, Finish, Returned, Stopped, at_top, exec}
use Rattle.meaning_model.specs.Buffers.{Heap, Buffer, no_heap, ask_heap, holds, bytes_from, put_bytes, loaded, load_from, with_bytes, changed, store_to, ended, free_at, buffer_at}
use Rattle.operation_model.specs.Straight.{byte_size}
use Rattle.meaning_model.specs.Cells.{Cells, no_cells, ask_cells}
use Rattle.meaning_model.specs.Meaning.{End, Done, Stops, Entry, entry_of, from_entry, result_of, results, end_of, finished, first_world, structured, stepped}
use Rattle.meaning_model.specs.Promises.{SameForms, IsContinued, MoreFuel, IsContinuedCells, MoreFuelCells, AlwaysRoom}
use Rattle.machine_model.proofs.Forms.{same_outcome}
use Rattle.machine_model.specs.Structured.{runs, outcome_of}
use Rattle.machine_model.proofs.Fuel as fuel_laws

-- The two forms

pub same_forms : SameForms
same_forms fs name args answers fuel = go (entry_of fs name args)
  where
    go : (e : Answer Entry)
        → from_entry e no_heap (λ x. result_of x (outcome_of (runs ask_heap fs x.spot.ops x.spot.blocks x.spot.env fuel (first_world no_heap answers))))
        ≡ from_entry e no_heap (λ x. result_of x (exec ask_heap fs fuel (at_top x.spot) [] (first_world no_heap answers)))
    go (Gives x) = ap (result_of x) (same_outcome ask_heap fs x.spot fuel (first_world no_heap answers))
    go answer.Undefined = refl
    go answer.Outside = refl

-- Buffers

abbrev NeedsNoLess : Heap → Heap → Type 0
NeedsNoLess h k = h.need ≤ k.need

needs_refl : (h : Heap) → NeedsNoLess h h
needs_refl h = omega arith

needs_trans : (h k l : Heap) → NeedsNoLess h k → NeedsNoLess k l → NeedsNoLess h l
needs_trans h k l a b = omega arith

abbrev HasRoom : Stop → Type 0
HasRoom NoRoom = ⊥
HasRoom _ = Unit {0}

-- a reply of buffers
abbrev GoodReply : Heap → Reply Heap → Type 0
GoodReply h (Answers ys k) = NeedsNoLess h k
GoodReply h (Refuses e) = HasRoom e

good_if : (h : Heap) (b : Bool) (r s : Reply Heap) → GoodReply h r → GoodReply h s → GoodReply h (if b then r else s)
good_if h true r s x y = x
good_if h false r s x y = y

good_load : (h : Heap) (w : ℕ) (o : Option ℕ) → GoodReply h (loaded w o h)
good_load h w None = tt
good_load h w (Some n) = good_if h (nat_lt n (2 ^ w)) (Answers (Integer n ∷ []) h) (Refuses Undefined) (needs_refl h) tt

load_good : (w offset : ℕ) (b : Option Buffer) (h : Heap) → GoodReply h (load_from w offset b h)
load_good w offset None h = tt
load_good w offset (Some b) h =
    good_if h (holds (byte_size w) offset b) (loaded w (bytes_from (byte_size w) offset b.bytes) h) (Refuses Undefined) (good_load h w (bytes_from (byte_size w) offset b.bytes)) tt

store_good : (w n : ℕ) (p : Place) (b : Option Buffer) (h : Heap) → GoodReply h (store_to w n p b h)
store_good w n p None h = tt
store_good w n p (Some b) h =
    good_if h (holds (byte_size w) p.offset b) (Answers [] (changed p.buffer (with_bytes b (put_bytes (byte_size w) p.offset (n % 2 ^ w) b.bytes)) h)) (Refuses Undefined)
    (needs_refl h) tt

free_good : (p : Place) (b : Option Buffer) (h : Heap) → GoodReply h (free_at p b h)
free_good p None h = tt
free_good p (Some b) h = good_if h (b.is_live && (p.offset == 0)) (Answers [] (changed p.buffer (ended b) h)) (Refuses Undefined) (needs_refl h) tt

heap_good : (q : Question) (h : Heap) → GoodReply h (ask_heap q h)
heap_good (Load w p) h = load_good w p.offset (buffer_at p.buffer h.buffers) h
heap_good (Store w n p) h = store_good w n p (buffer_at p.buffer h.buffers) h
heap_good (Allocate alignment n) h = omega arith
heap_good (Free p) h = free_good p (buffer_at p.buffer h.buffers) h

module _ (fs : List Function) where
  heap_asks : (q : Question) (h : Heap) → fuel_laws.ReplyFrom ask_heap fs NeedsNoLess needs_refl needs_trans HasRoom tt tt tt h (ask_heap q h)
  heap_asks q h = go (ask_heap q h) (heap_good q h)
    where
      go : (r : Reply Heap) → GoodReply h r → fuel_laws.ReplyFrom ask_heap fs NeedsNoLess needs_refl needs_trans HasRoom tt tt tt h r
      go (Answers ys k) g = g
      go (Refuses e) g = g

  extended : (e : Entry) (o longer : Outcome Heap)
      → fuel_laws.Extends ask_heap fs NeedsNoLess needs_refl needs_trans HasRoom tt tt tt heap_asks o longer → IsContinued (result_of e o) (result_of e longer)
  extended e o longer (inl same) = inl (ap (result_of e) same)
  extended e o longer (inr (stops, leads)) = inr (ap (finished e) stops, leads.trace, leads.memory)

  continued : (e : Answer Entry) (answers : List ℤ) (n m : ℕ) → n ≤ m
      → IsContinued (from_entry e no_heap (λ x. result_of x (exec ask_heap fs n (at_top x.spot) [] (first_world no_heap answers))))
      (from_entry e no_heap (λ x. result_of x (exec ask_heap fs m (at_top x.spot) [] (first_world no_heap answers))))
  continued (Gives e) answers n m le =
      extended e _ _ (fuel_laws.exec_more ask_heap fs NeedsNoLess needs_refl needs_trans HasRoom tt tt tt heap_asks n m le (at_top e.spot) [] (first_world no_heap answers))
  continued answer.Undefined answers n m le = inl refl
  continued answer.Outside answers n m le = inl refl

pub more_fuel : MoreFuel
more_fuel fs name args answers n m le =
    subst (λ r. IsContinued r (structured fs name args answers m)) (sym (same_forms fs name args answers n))
    (subst (λ r. IsContinued (stepped ask_heap no_heap fs name args answers n) r) (sym (same_forms fs name args answers m))
    (continued fs (entry_of fs name args) answers n m le))

-- Room

abbrev EndHasRoom : End → Type 0
EndHasRoom (Done zs) = Unit {0}
EndHasRoom (Stops e) = HasRoom e

answer_has_room : (a : Answer (List ℤ)) → EndHasRoom (end_of a)
answer_has_room (Gives zs) = tt
answer_has_room answer.Undefined = tt
answer_has_room answer.Outside = tt

module _ (fs : List Function) where
  finish_has_room : (e : Entry) (f : Finish) → fuel_laws.AllowedFinish ask_heap fs NeedsNoLess needs_refl needs_trans HasRoom tt tt tt f → EndHasRoom (finished e f)
  finish_has_room e (Returned xs) a = answer_has_room (results e xs)
  finish_has_room e (Stopped stop) a = a

  run_has_room : (e : Answer Entry) (answers : List ℤ) (n : ℕ)
      → EndHasRoom (from_entry e no_heap (λ x. result_of x (exec ask_heap fs n (at_top x.spot) [] (first_world no_heap answers)))).end
  run_has_room (Gives e) answers n =
      finish_has_room e _ (fuel_laws.exec_from ask_heap fs NeedsNoLess needs_refl needs_trans HasRoom tt tt tt (heap_asks fs) n (at_top e.spot) [] (first_world no_heap answers)).finish
  run_has_room answer.Undefined answers n = tt
  run_has_room answer.Outside answers n = tt

pub always_room : AlwaysRoom
always_room fs name args answers n short =
    subst EndHasRoom short
    (subst (λ r. EndHasRoom r.end) (sym (same_forms fs name args answers n)) (run_has_room fs (entry_of fs name args) answers n))

-- Cells

abbrev AnyCells : Cells → Cells → Type 0
AnyCells c d = Unit {0}

abbrev AnyStop : Stop → Type 0
AnyStop e = Unit {0}

module _ (fs : List Function) where
  cell_asks : (q : Question) (c : Cells) → fuel_laws.ReplyFrom ask_cells fs AnyCells (λ c. tt) (λ b c d x y. tt) AnyStop tt tt tt c (ask_cells q c)
  cell_asks q c = go (ask_cells q c)
    where
      go : (r : Reply Cells) → fuel_laws.ReplyFrom ask_cells fs AnyCells (λ c. tt) (λ b c d x y. tt) AnyStop tt tt tt c r
      go (Answers ys k) = tt
      go (Refuses e) = tt

  extended_cells : (e : Entry) (o longer : Outcome Cells)
      → fuel_laws.Extends ask_cells fs AnyCells (λ c. tt) (λ b c d x y. tt) AnyStop tt tt tt cell_asks o longer → IsContinuedCells (result_of e o) (result_of e longer)
  extended_cells e o longer (inl same) = inl (ap (result_of e) same)
  extended_cells e o longer (inr (stops, leads)) = inr (ap (finished e) stops, leads.trace)

  continued_cells : (e : Answer Entry) (answers : List ℤ) (room n m : ℕ) → n ≤ m
      → IsContinuedCells (from_entry e (no_cells room) (λ x. result_of x (exec ask_cells fs n (at_top x.spot) [] (first_world (no_cells room) answers))))
      (from_entry e (no_cells room) (λ x. result_of x (exec ask_cells fs m (at_top x.spot) [] (first_world (no_cells room) answers))))
  continued_cells (Gives e) answers room n m le =
      extended_cells e _ _ (fuel_laws.exec_more ask_cells fs AnyCells (λ c. tt) (λ b c d x y. tt) AnyStop tt tt tt cell_asks n m le (at_top e.spot) [] (first_world (no_cells room) answers))
  continued_cells answer.Undefined answers room n m le = inl refl
  continued_cells answer.Outside answers room n m le = inl refl

pub more_fuel_cells : MoreFuelCells
more_fuel_cells fs name args answers room n m le = continued_cells fs (entry_of fs name args) answers room n m le
