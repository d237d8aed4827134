-- Functions that are the same but for numbers have the same runs, over any memory.
use Rattle.std.proofs.Common.{◌≡◌, ℕ, zero, suc, Bool, true, false, List, [], ◌∷◌, Option, Some, None, refl, ap, ◌∙◌}
use Rattle.std.specs.Prelude.{ℤ, bytes_eq, if◌then◌else◌}
use Rattle.plain_tree.specs.Renamings.{RenAll, OneToOne}
use Rattle.number_model.specs.Answers.{Answer, Gives, and_then, present, with_answer}
use Rattle.number_model.specs.Answers.{Answer as answer}
use Rattle.operation_model.specs.Values.{Value}
use Rattle.operation_model.specs.Doings.{Doing, Question}
use Rattle.operation_model.specs.Calling.{Shapes, gathered}
use Rattle.form_model.specs.Codes.{Blocks, BlocksEnd, Face, Function, bind, entry, find_function}
use Rattle.machine_model.specs.Worlds.{Reply, World}
use Rattle.machine_model.specs.Machine.{Spot, Place, Step, Caller, Outcome, Finish, Returned, Stopped, Next, at_top, begins, calls_body, ending, exec, external, follows, gives_back, resumes, settles, with_memory}
use Rattle.meaning_model.specs.Meaning.{Entry, arguments, entry_at, finished, first_world, from_entry, result_of, stepped, with_blocks}
use Rattle.run_renames.proofs.RenamedCodes.{BothHave, neither_has, both_have, CodeBlocks, no_block, one_block, bind_ren, entry_ren, no_value}
use Rattle.run_renames.proofs.RenamedDoings.{DoingRen}
use Rattle.run_renames.proofs.RenamedSteps.{PlaceRen, SpotRen, StepRen, goes_ren, calls_ren, same_return, same_stop, no_frame, performs_ren, step_ren, within_ren}

-- Functions

-- both find a function, or neither does: with the same name and the same face, and blocks that are the same but for numbers
pub data FoundRen : Option Function → Option Function → Type 1 where
  none_found : FoundRen None None
  one_found : (R L : ℕ → ℕ → Type 0) {name : List ℕ} {face : Face} {shapes : Shapes} {b c : Blocks} → OneToOne R → OneToOne L → CodeBlocks R L b c
      → FoundRen (Some (record { name = name; face = face; shapes = shapes; body = b })) (Some (record { name = name; face = face; shapes = shapes; body = c }))

pub data FunctionsRen : List Function → List Function → Type 1 where
  no_function : FunctionsRen [] []
  one_function : (R L : ℕ → ℕ → Type 0) {name : List ℕ} {face : Face} {shapes : Shapes} {b c : Blocks} {fs gs : List Function} → OneToOne R → OneToOne L → CodeBlocks R L b c → FunctionsRen fs gs
      → FunctionsRen (record { name = name; face = face; shapes = shapes; body = b } ∷ fs) (record { name = name; face = face; shapes = shapes; body = c } ∷ gs)

either_found : (b : Bool) {f g o x : Option Function} → FoundRen f g → FoundRen o x → FoundRen (if b then f else o) (if b then g else x)
either_found true h k = h
either_found false h k = k

pub found_ren : {fs gs : List Function} (name : List ℕ) → FunctionsRen fs gs → FoundRen (find_function name fs) (find_function name gs)
found_ren name no_function = none_found
found_ren name (one_function R L {name = n} one labels blocks rest) = either_found (bytes_eq n name) (one_found R L one labels blocks) (found_ren name rest)

-- Calls that are under way, each in a function of its own

pub data CallersRen : List Caller → List Caller → Type 1 where
  no_caller : CallersRen [] []
  one_caller : (R L : ℕ → ℕ → Type 0) {k j : List Value → Doing} {rs ss : List ℕ} {p q : Place} {cs ds : List Caller} → OneToOne R → OneToOne L → ((ys : List Value) → DoingRen L (k ys) (j ys)) → RenAll R rs ss → PlaceRen R L p q → CallersRen cs ds
      → CallersRen (record { goes_on = k; results = rs; place = p } ∷ cs) (record { goes_on = j; results = ss; place = q } ∷ ds)

-- Spots at which calls begin

pub data SpotsRen (R L : ℕ → ℕ → Type 0) : Answer Spot → Answer Spot → Type 0 where
  ren_given : {s t : Spot} → SpotRen R L s t → SpotsRen R L (Gives s) (Gives t)
  both_undefined : SpotsRen R L answer.Undefined answer.Undefined
  both_outside : SpotsRen R L answer.Outside answer.Outside

module _ (R L : ℕ → ℕ → Type 0) where
  then_spots : {A : Type 0} {B : A → A → Type 0} {o x : Option A} (next after : A → Answer Spot) → BothHave B o x → ((a b : A) → B a b → SpotsRen R L (next a) (after b)) → SpotsRen R L (and_then (present o) next) (and_then (present x) after)
  then_spots next after neither_has h = both_outside
  then_spots next after (both_have {x = a} {y = b} r) h = h a b r

  begins_ren : {b c : Blocks} (name : List ℕ) (face : Face) (shapes : Shapes) (xs : List Value) → CodeBlocks R L b c
      → SpotsRen R L (begins (record { name = name; face = face; shapes = shapes; body = b }) xs) (begins (record { name = name; face = face; shapes = shapes; body = c }) xs)
  begins_ren {b = b} {c = c} name face shapes xs blocks = go (gathered shapes xs)
    where
      go : (a : Answer (List Value))
          → SpotsRen R L (and_then a (λ args. and_then (present (entry b)) (λ t. and_then (present (bind t.args args [])) (λ env. Gives (record { ops = t.ops; blocks = b; env = env })))))
          (and_then a (λ args. and_then (present (entry c)) (λ t. and_then (present (bind t.args args [])) (λ env. Gives (record { ops = t.ops; blocks = c; env = env })))))
      go (Gives args) =
          then_spots (λ t. and_then (present (bind t.args args [])) (λ env. Gives (record { ops = t.ops; blocks = b; env = env }))) (λ t. and_then (present (bind t.args args [])) (λ env. Gives (record { ops = t.ops; blocks = c; env = env })))
          (entry_ren blocks) (λ t u target.
          then_spots (λ env. Gives (record { ops = t.ops; blocks = b; env = env })) (λ env. Gives (record { ops = u.ops; blocks = c; env = env }))
          (bind_ren target.args args no_value) (λ e d env. ren_given (record { ops = target.ops; blocks = blocks; env = env })))
      go answer.Undefined = both_undefined
      go answer.Outside = both_outside

-- Runs

module _ {State : Type 0} (ask : Question → State → Reply State) where
  -- ways to go on that come to the same from places that go together
  abbrev pub SameNext : Next State → Next State → Type 1
  SameNext next after =
      (R L : ℕ → ℕ → Type 0) (p q : Place) (cs ds : List Caller) (w : World State) → OneToOne R → OneToOne L → PlaceRen R L p q → CallersRen cs ds → next p cs w ≡ after q ds w

  ending_same : {A : Type 0} (a : Answer A) (w : World State) (next after : A → Outcome State) → ((x : A) → next x ≡ after x) → ending a w next ≡ ending a w after
  ending_same (Gives x) w next after h = h x
  ending_same answer.Undefined w next after h = refl
  ending_same answer.Outside w next after h = refl

  module _ (next after : Next State) (same : SameNext next after) where
    settles_same : (R L : ℕ → ℕ → Type 0) (cs ds : List Caller) (w : World State) {s t : Step Place State} → OneToOne R → OneToOne L → StepRen R L (PlaceRen R L) s t → CallersRen cs ds → settles next s cs w ≡ settles after t ds w
    settles_same R L cs ds w one labels (goes_ren {p = p} {q = q} {m = m} place) callers = same R L p q cs ds (with_memory w m) one labels place callers
    settles_same R L cs ds w one labels (calls_ren more results place) callers = refl
    settles_same R L cs ds w one labels same_return callers = refl
    settles_same R L cs ds w one labels same_stop callers = refl

    resumes_same : (R L : ℕ → ℕ → Type 0) (rs ss : List ℕ) (p q : Place) (cs ds : List Caller) (w : World State) {d e : Doing} → OneToOne R → OneToOne L → DoingRen L d e → RenAll R rs ss → PlaceRen R L p q → CallersRen cs ds
        → resumes ask next d rs p cs w ≡ resumes ask after e ss q ds w
    resumes_same R L rs ss p q cs ds w one labels doing results place callers =
        settles_same R L cs ds w one labels (within_ren R L one labels ask place.frames (performs_ren R L one labels ask doing results place.spot w.memory)) callers

    gives_same : (xs : List Value) (w : World State) {cs ds : List Caller} → CallersRen cs ds → gives_back ask next xs cs w ≡ gives_back ask after xs ds w
    gives_same xs w no_caller = refl
    gives_same xs w (one_caller R L {rs = rs} {ss = ss} {p = p} {q = q} {cs = cs} {ds = ds} one labels more results place callers) = resumes_same R L rs ss p q cs ds w one labels (more xs) results place callers

    begun_same : (R L : ℕ → ℕ → Type 0) (cs ds : List Caller) (w : World State) {a b : Answer Spot} → OneToOne R → OneToOne L → SpotsRen R L a b → CallersRen cs ds
        → ending a w (λ s. next (at_top s) cs w) ≡ ending b w (λ s. after (at_top s) ds w)
    begun_same R L cs ds w one labels (ren_given {s = s} {t = t} spot) callers = same R L (at_top s) (at_top t) cs ds w one labels (record { spot = spot; frames = no_frame }) callers
    begun_same R L cs ds w one labels both_undefined callers = refl
    begun_same R L cs ds w one labels both_outside callers = refl

    -- a call of a function that was found, from a place in another one
    called_same : (R L : ℕ → ℕ → Type 0) (xs : List Value) (k j : List Value → Doing) (rs ss : List ℕ) (p q : Place) (cs ds : List Caller) (w : World State) {o x : Option Function}
        → OneToOne R → OneToOne L → ((ys : List Value) → DoingRen L (k ys) (j ys)) → RenAll R rs ss → PlaceRen R L p q → CallersRen cs ds → FoundRen o x
        → ending (present o) w (λ g. calls_body ask next g.body g xs (record { goes_on = k; results = rs; place = p }) cs w)
        ≡ ending (present x) w (λ g. calls_body ask after g.body g xs (record { goes_on = j; results = ss; place = q }) ds w)
    called_same R L xs k j rs ss p q cs ds w one labels more results place callers none_found = refl
    called_same R L xs k j rs ss p q cs ds w one labels more results place callers (one_found S M {name = name} {face = face} {shapes = shapes} first second no_block) =
        ending_same (external (record { name = name; face = face; shapes = shapes; body = BlocksEnd }) xs w) w _ _ (λ told. resumes_same R L rs ss p q cs ds told.world one labels (more told.values) results place callers)
    called_same R L xs k j rs ss p q cs ds w one labels more results place callers (one_found S M {name = name} {face = face} {shapes = shapes} first second (one_block l args ops rest)) =
        begun_same S M (record { goes_on = k; results = rs; place = p } ∷ cs) (record { goes_on = j; results = ss; place = q } ∷ ds) w first second
        (begins_ren S M name face shapes xs (one_block l args ops rest)) (one_caller R L one labels more results place callers)

    follows_same : (fs gs : List Function) → FunctionsRen fs gs → (R L : ℕ → ℕ → Type 0) (cs ds : List Caller) (w : World State) {s t : Step Place State} → OneToOne R → OneToOne L → StepRen R L (PlaceRen R L) s t → CallersRen cs ds
        → follows ask fs next s cs w ≡ follows ask gs after t ds w
    follows_same fs gs functions R L cs ds w one labels (goes_ren {p = p} {q = q} {m = m} place) callers = same R L p q cs ds (with_memory w m) one labels place callers
    follows_same fs gs functions R L cs ds w one labels (calls_ren {f = f} {xs = xs} {k = k} {j = j} {rs = rs} {ss = ss} {p = p} {q = q} {m = m} more results place) callers =
        called_same R L xs k j rs ss p q cs ds (with_memory w m) one labels more results place callers (found_ren f functions)
    follows_same fs gs functions R L cs ds w one labels (same_return {xs = xs} {m = m}) callers = gives_same xs (with_memory w m) callers
    follows_same fs gs functions R L cs ds w one labels same_stop callers = refl

  module _ (fs gs : List Function) (functions : FunctionsRen fs gs) where
    exec_same : (n : ℕ) → SameNext (exec ask fs n) (exec ask gs n)
    exec_same zero = λ R L p q cs ds w one labels place callers. refl
    exec_same (suc n) = λ R L p q cs ds w one labels place callers.
        follows_same (exec ask fs n) (exec ask gs n) (exec_same n) fs gs functions R L cs ds w one labels (step_ren R L one labels ask place w.memory) callers

    -- From the entry to the result

    data EntriesRen : Answer Entry → Answer Entry → Type 1 where
      both_enter : (R L : ℕ → ℕ → Type 0) {outputs name : List ℕ} {face : Face} {shapes : Shapes} {b c : Blocks} {s t : Spot} → OneToOne R → OneToOne L → SpotRen R L s t
          → EntriesRen (Gives (record { outputs = outputs; function = record { name = name; face = face; shapes = shapes; body = b }; spot = s })) (Gives (record { outputs = outputs; function = record { name = name; face = face; shapes = shapes; body = c }; spot = t }))
      undefined_entries : EntriesRen answer.Undefined answer.Undefined
      outside_entries : EntriesRen answer.Outside answer.Outside

    then_entries : {A : Type 0} (a : Answer A) (next after : A → Answer Entry) → ((x : A) → EntriesRen (next x) (after x)) → EntriesRen (and_then a next) (and_then a after)
    then_entries (Gives x) next after h = h x
    then_entries answer.Undefined next after h = undefined_entries
    then_entries answer.Outside next after h = outside_entries

    entered : (R L : ℕ → ℕ → Type 0) (outputs name : List ℕ) (face : Face) (shapes : Shapes) (b c : Blocks) {x y : Answer Spot} → OneToOne R → OneToOne L → SpotsRen R L x y
        → EntriesRen (with_answer (λ s. record { outputs = outputs; function = record { name = name; face = face; shapes = shapes; body = b }; spot = s }) x)
        (with_answer (λ s. record { outputs = outputs; function = record { name = name; face = face; shapes = shapes; body = c }; spot = s }) y)
    entered R L outputs name face shapes b c one labels (ren_given spot) = both_enter R L one labels spot
    entered R L outputs name face shapes b c one labels both_undefined = undefined_entries
    entered R L outputs name face shapes b c one labels both_outside = outside_entries

    entry_at_ren : (R L : ℕ → ℕ → Type 0) (name : List ℕ) (face : Face) (shapes : Shapes) (b c : Blocks) (args : List ℤ) → OneToOne R → OneToOne L → CodeBlocks R L b c
        → EntriesRen (entry_at (record { name = name; face = face; shapes = shapes; body = b }) args) (entry_at (record { name = name; face = face; shapes = shapes; body = c }) args)
    entry_at_ren R L name face shapes b c args one labels blocks =
        then_entries (present face.inputs) _ _ (λ inputs. then_entries (present face.outputs) _ _ (λ outputs. then_entries (arguments inputs args) _ _ (λ vs.
        entered R L outputs name face shapes b c one labels (begins_ren R L name face shapes vs blocks))))

    entries_ren : {o x : Option Function} (args : List ℤ) → FoundRen o x
        → EntriesRen (and_then (present o) (λ f. and_then (with_blocks f.body f) (λ g. entry_at g args))) (and_then (present x) (λ f. and_then (with_blocks f.body f) (λ g. entry_at g args)))
    entries_ren args none_found = outside_entries
    entries_ren args (one_found R L one labels no_block) = outside_entries
    entries_ren args (one_found R L {name = name} {face = face} {shapes = shapes} {b = b} {c = c} one labels (one_block l xs ops rest)) = entry_at_ren R L name face shapes b c args one labels (one_block l xs ops rest)

    finished_same : (outputs name : List ℕ) (face : Face) (shapes : Shapes) (b c : Blocks) (s t : Spot) (f : Finish)
        → finished (record { outputs = outputs; function = record { name = name; face = face; shapes = shapes; body = b }; spot = s }) f
        ≡ finished (record { outputs = outputs; function = record { name = name; face = face; shapes = shapes; body = c }; spot = t }) f
    finished_same outputs name face shapes b c s t (Returned vs) = refl
    finished_same outputs name face shapes b c s t (Stopped e) = refl

    from_same : (m : State) (answers : List ℤ) (fuel : ℕ) {a b : Answer Entry} → EntriesRen a b
        → from_entry a m (λ e. result_of e (exec ask fs fuel (at_top e.spot) [] (first_world m answers))) ≡ from_entry b m (λ e. result_of e (exec ask gs fuel (at_top e.spot) [] (first_world m answers)))
    from_same m answers fuel (both_enter R L {outputs = outputs} {name = name} {face = face} {shapes = shapes} {b = b} {c = c} {s = s} {t = t} one labels spot) =
        let here : Outcome State = exec ask fs fuel (at_top s) [] (first_world m answers) in
        let there : Outcome State = exec ask gs fuel (at_top t) [] (first_world m answers) in
        let same : here ≡ there = exec_same fuel R L (at_top s) (at_top t) [] [] (first_world m answers) one labels (record { spot = spot; frames = no_frame }) no_caller in
        ap (result_of (record { outputs = outputs; function = record { name = name; face = face; shapes = shapes; body = b }; spot = s })) same
        ∙ ap (λ f. record { end = f; trace = there.world.trace; memory = there.world.memory }) (finished_same outputs name face shapes b c s t there.finish)
    from_same m answers fuel undefined_entries = refl
    from_same m answers fuel outside_entries = refl

    -- Both have the same end, results, trace and memory.
    pub stepped_same : (m : State) (name : List ℕ) (args answers : List ℤ) (fuel : ℕ) → stepped ask m fs name args answers fuel ≡ stepped ask m gs name args answers fuel
    stepped_same m name args answers fuel = from_same m answers fuel (entries_ren args (found_ren name functions))
