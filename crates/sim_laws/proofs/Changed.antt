-- Functions in which operations are replaced by lines agree with those that had them.
use Rattle.std.proofs.Common.{◌≡◌, ℕ, ◌≤◌, Bool, true, false, List, [], ◌∷◌, Option, Some, None, refl, ap, subst, arith}
use Rattle.std.specs.Prelude.{bytes_eq, if◌then◌else◌, ◌%◌, ◌^◌, ◌==◌, nat_lt, ◌&&◌}
use Rattle.number_model.specs.Answers.{Answer, Gives, and_then, present}
use Rattle.number_model.specs.Answers.{Answer as answer}
use Rattle.operation_model.specs.Values.{Value, Integer}
use Rattle.operation_model.specs.Values.{Place as address}
use Rattle.operation_model.specs.Doings.{Question, Load, Store, Allocate, Free}
use Rattle.operation_model.specs.Calling.{Shapes, gathered}
use Rattle.operation_model.specs.Straight.{byte_size}
use Rattle.form_model.specs.Codes.{Ops, OpsEnd, Op, Blocks, BlocksEnd, Block, Regions, RegionsEnd, Region, Target, Env, Face, Function, find_function, bind}
use Rattle.machine_model.specs.Worlds.{Stop, Undefined, Reply, Answers, Refuses}
use Rattle.machine_model.specs.Machine.{Spot, Place}
use Rattle.meaning_model.specs.Buffers.{Heap, Buffer, ask_heap, buffer_at, bytes_from, changed, ended, free_at, holds, load_from, loaded, put_bytes, store_to, with_bytes}
use Rattle.sound_model.specs.Agreement.{AgreeFunctions}
use Rattle.sim_laws.proofs.Simulation as sim
use Rattle.sim_laws.proofs.Entries.{agree}
use Rattle.sim_laws.proofs.Local.{Agree, BoundMatch, Each, SameBlocks, SameEntry, SameOps, SameRegions, all_blocks, bind_agree, keeps, same_block, same_blocks_end, same_end, same_entry, same_entry_end, same_frames_end, same_region, same_regions_end, restores_itself}
use Rattle.sim_laws.proofs.Matches.{IsBad, Near, near_match}

-- What the heap refuses for

abbrev BadReply : Reply Heap → Type 0
BadReply (Answers ys m) = Unit {0}
BadReply (Refuses e) = IsBad e

bad_if : (b : Bool) (r s : Reply Heap) → BadReply r → BadReply s → BadReply (if b then r else s)
bad_if true r s x y = x
bad_if false r s x y = y

bad_loaded : (w : ℕ) (o : Option ℕ) (h : Heap) → BadReply (loaded w o h)
bad_loaded w None h = tt
bad_loaded w (Some n) h = bad_if (nat_lt n (2 ^ w)) (Answers (Integer n ∷ []) h) (Refuses Undefined) tt tt

bad_load : (w offset : ℕ) (b : Option Buffer) (h : Heap) → BadReply (load_from w offset b h)
bad_load w offset None h = tt
bad_load w offset (Some b) h = bad_if (holds (byte_size w) offset b) (loaded w (bytes_from (byte_size w) offset b.bytes) h) (Refuses Undefined) (bad_loaded w (bytes_from (byte_size w) offset b.bytes) h) tt

bad_store : (w n : ℕ) (p : address) (b : Option Buffer) (h : Heap) → BadReply (store_to w n p b h)
bad_store w n p None h = tt
bad_store w n p (Some b) h =
    bad_if (holds (byte_size w) p.offset b) (Answers [] (changed p.buffer (with_bytes b (put_bytes (byte_size w) p.offset (n % 2 ^ w) b.bytes)) h)) (Refuses Undefined) tt tt

bad_free : (p : address) (b : Option Buffer) (h : Heap) → BadReply (free_at p b h)
bad_free p None h = tt
bad_free p (Some b) h = bad_if (b.is_live && (p.offset == 0)) (Answers [] (changed p.buffer (ended b) h)) (Refuses Undefined) tt tt

bad_reply : (q : Question) (h : Heap) → BadReply (ask_heap q h)
bad_reply (Load w p) h = bad_load w p.offset (buffer_at p.buffer h.buffers) h
bad_reply (Store w n p) h = bad_store w n p (buffer_at p.buffer h.buffers) h
bad_reply (Allocate alignment n) h = tt
bad_reply (Free p) h = bad_free p (buffer_at p.buffer h.buffers) h

heap_refuses : (q : Question) (m : Heap) (e : Stop) → ask_heap q m ≡ Refuses e → IsBad e
heap_refuses q m e is = subst BadReply is (bad_reply q m)

-- Functions

-- a function in which operations stay or are replaced by lines
pub record FunctionChanged (g g' : Function) : Type 1 where
  pub old : ℕ → Type 0
  pub name : g.name ≡ g'.name
  pub face : g.face ≡ g'.face
  pub shapes : g.shapes ≡ g'.shapes
  pub body : SameEntry old g.body g'.body

pub data FunctionsChanged : List Function → List Function → Type 1 where
  ended_functions : FunctionsChanged [] []
  changed_function : {g g' : Function} {fs fs' : List Function} → FunctionChanged g g' → FunctionsChanged fs fs' → FunctionsChanged (g ∷ fs) (g' ∷ fs')

-- A function that stays is such a one.
abbrev Any : ℕ → Type 0
Any n = Unit {0}

each_any : (ns : List ℕ) → Each Any ns
each_any [] = tt
each_any (n ∷ ns) = (tt, each_any ns)

mutual
  ops_stay : (ops : Ops) → SameOps Any ops ops
  ops_stay OpsEnd = same_end
  ops_stay (Op form rs os ls r rest) = keeps (each_any os) (regions_stay r) (ops_stay rest)

  blocks_stay : (b : Blocks) → SameBlocks Any b b
  blocks_stay BlocksEnd = same_blocks_end
  blocks_stay (Block l args ops more) = same_block [] (restores_itself Any args) (ops_stay ops) (blocks_stay more)

  entry_stays : (b : Blocks) → SameEntry Any b b
  entry_stays BlocksEnd = same_entry_end
  entry_stays (Block l args ops more) = same_entry (ops_stay ops) (blocks_stay more)

  regions_stay : (r : Regions) → SameRegions Any r r
  regions_stay RegionsEnd = same_regions_end
  regions_stay (Region b r) = same_region (entry_stays b) (regions_stay r)

pub function_stays : (g : Function) → FunctionChanged g g
function_stays g = record { old = Any; name = refl; face = refl; shapes = refl; body = entry_stays g.body }

module _ (fs fs' : List Function) where
  abbrev NearH : Place → Heap → Place → Heap → Type 1
  NearH = Near ask_heap heap_refuses fs fs'

  abbrev Same : Heap → Heap → Type 0
  Same m m' = m ≡ m'

  abbrev BeginM : Answer Spot → Answer Spot → Type 1
  BeginM = sim.BeginMatch ask_heap ask_heap fs fs' Same NearH

  abbrev begin_in : Blocks → Target → List Value → Answer Spot
  begin_in b t args = and_then (present (bind t.args args [])) (λ env. Gives (record { ops = t.ops; blocks = b; env = env }))

  bound_begins : (old : ℕ → Type 0) (ops ops' : Ops) (b b' : Blocks) (o o' : Option Env) → SameOps old ops ops' → SameBlocks old b b' → BoundMatch old o o'
      → BeginM (and_then (present o) (λ env. Gives (record { ops = ops; blocks = b; env = env }))) (and_then (present o') (λ env. Gives (record { ops = ops'; blocks = b'; env = env })))
  bound_begins old ops ops' b b' None o' same blocks h = record { down = tt }
  bound_begins old ops ops' b b' (Some e) o' same blocks h = record {
    spot = record { ops = ops'; blocks = b'; env = h.0 };
    is = ap (λ o. and_then (present o) (λ env. Gives (record { ops = ops'; blocks = b'; env = env }))) h.1;
    related = λ m m' is. record {
      old = old;
      place = record { spot = record { ops = ops'; blocks = b'; env = h.0 }; frames = [] };
      leads = sim.at_once;
      related = record { ops = same; blocks = blocks; env = h.2; frames = same_frames_end };
      same = is;
    };
  }

  agree_self : (old : ℕ → Type 0) → Agree old [] []
  agree_self old n h = refl

  gathered_begins : (old : ℕ → Type 0) (ops ops' : Ops) (args : List ℕ) (b b' : Blocks) (a : Answer (List Value)) → SameOps old ops ops' → SameBlocks old b b'
      → BeginM (and_then a (begin_in b (record { args = args; ops = ops }))) (and_then a (begin_in b' (record { args = args; ops = ops' })))
  gathered_begins old ops ops' args b b' (Gives xs) same blocks = bound_begins old ops ops' b b' (bind args xs []) (bind args xs []) same blocks (bind_agree old args xs [] [] (agree_self old))
  gathered_begins old ops ops' args b b' answer.Undefined same blocks = record { down = tt }
  gathered_begins old ops ops' args b b' answer.Outside same blocks = record { down = tt }

  bodies_match : (old : ℕ → Type 0) (name name' : List ℕ) (face face' : Face) (shapes : Shapes) {b b' : Blocks} → SameEntry old b b'
      → sim.BodyMatch ask_heap ask_heap fs fs' Same NearH (record { name = name; face = face; shapes = shapes; body = b }) (record { name = name'; face = face'; shapes = shapes; body = b' }) b b'
  bodies_match old name name' face face' shapes same_entry_end = sim.both_external
  bodies_match old name name' face face' shapes (same_entry {l = l} {args = args} {ops = ops} {ops' = ops'} {b = b} {b' = b'} same more) =
      sim.both_inner (λ xs. gathered_begins old ops ops' args (Block l args ops b) (Block l args ops' b') (gathered shapes xs) same (all_blocks (same_entry same more)))

  function_match : (g g' : Function) → FunctionChanged g g' → sim.FunctionMatch ask_heap ask_heap fs fs' Same NearH g g'
  function_match g g' c = record {
    name = c.name;
    face = c.face;
    bodies = subst (λ z. sim.BodyMatch ask_heap ask_heap fs fs' Same NearH g (record { name = g'.name; face = g'.face; shapes = z; body = g'.body }) g.body g'.body) c.shapes
        (bodies_match c.old g.name g'.name g.face g'.face g.shapes c.body);
  }

  either_find : (c : Bool) (g g' : Function) (o o' : Option Function) → sim.FindMatch ask_heap ask_heap fs fs' Same NearH (Some g) (Some g') → sim.FindMatch ask_heap ask_heap fs fs' Same NearH o o'
      → sim.FindMatch ask_heap ask_heap fs fs' Same NearH (if c then Some g else o) (if c then Some g' else o')
  either_find true g g' o o' h k = h
  either_find false g g' o o' h k = k

  find_match : {gs gs' : List Function} (name : List ℕ) → FunctionsChanged gs gs' → sim.FindMatch ask_heap ask_heap fs fs' Same NearH (find_function name gs) (find_function name gs')
  find_match name ended_functions = record { down = tt }
  find_match name (changed_function {g = g} {g' = g'} {fs = gs} {fs' = gs'} change more) =
      subst (λ x. sim.FindMatch ask_heap ask_heap fs fs' Same NearH (if bytes_eq g.name name then Some g else find_function name gs) (if bytes_eq x name then Some g' else find_function name gs')) change.name
      (either_find (bytes_eq g.name name) g g' (find_function name gs) (find_function name gs') (record { found = g'; is = refl; match = function_match g g' change }) (find_match name more))

  simulates : FunctionsChanged fs fs' → sim.Simulates ask_heap ask_heap fs fs' Same NearH
  simulates change = record {
    worlds = λ p m q m' n. n.same;
    steps = λ p m q m' n. near_match ask_heap heap_refuses fs fs' p m q m' n;
    functions = λ name. find_match name change;
  }

  -- The functions agree.
  pub changed_agree : FunctionsChanged fs fs' → AgreeFunctions fs fs'
  changed_agree change = agree fs fs' Same (λ h k is. subst (λ z. z.need ≤ h.need) is (le_self h.need)) refl NearH (simulates change)
    where
      le_self : (n : ℕ) → n ≤ n
      le_self n = omega arith
