-- An operation with regions comes to the same at every state of the memory, and another one is what it does.
use Rattle.std.proofs.Common.{◌≡◌, ℕ, List, [], ◌∷◌, Bool, true, false, ℤ, refl, sym, ap, true≢false}
use Rattle.number_model.specs.Answers.{Answer, Gives, present}
use Rattle.number_model.specs.Answers.{Answer as answer}
use Rattle.operation_model.specs.Values.{Value, Integer, number}
use Rattle.operation_model.specs.Pures.{truth}
use Rattle.operation_model.specs.Doings.{Question}
use Rattle.operation_model.specs.Forms.{Form, If, For, While, Switch, Execute, Yield, Condition, Computes, Branch, BranchOn, Call, Return, Load, Store, Allocate, AllocateAligned, Free, NewMemref, EndMemref, LoadElement, StoreElement, Unknown}
use Rattle.operation_model.specs.Straight.{does}
use Rattle.form_model.specs.Codes.{Blocks, BlocksEnd, Block, Regions, Env, Target, entry, bind, region_at}
use Rattle.machine_model.specs.Worlds.{Reply}
use Rattle.machine_model.specs.Machine as model
use Rattle.machine_model.specs.Machine.{Frame, Once, Body, Before, After, Behind, Counting, Looping, Step, Place, stepping, counts, case_of, first_if, next_number, has_round}
use Rattle.frame_code.specs.Frames.{Move, moves, has_regions}
use Rattle.step_code.specs.Turns.{at_state, performed}

stepping_at : {A S : Type 0} (s : S) (a : Answer A) (f : A → Step Place S) (g : A → Move) → ((x : A) → f x ≡ at_state s (g x)) → stepping a s f ≡ at_state s (stepping a tt g)
stepping_at s (Gives x) f g h = h x
stepping_at s answer.Undefined f g h = refl
stepping_at s answer.Outside f g h = refl

enters_at : {S : Type 0} (s : S) (b : Blocks) (xs : List Value) (env : Env) (frames : List Frame) → model.enters b xs env frames s ≡ at_state s (model.enters b xs env frames tt)
enters_at s b xs env frames =
    stepping_at s (present (entry b)) _ _ (λ t. stepping_at s (present (bind t.args xs env)) _ _ (λ inner. refl))

leaves_at : {S : Type 0} (s : S) (b : Behind) (xs : List Value) (env : Env) (frames : List Frame) → model.leaves b xs env frames s ≡ at_state s (model.leaves b xs env frames tt)
leaves_at s b xs env frames = stepping_at s (present (bind b.results xs env)) _ _ (λ outer. refl)

tested_at : {S : Type 0} (s : S) (round : Bool) (t : Target) (c : Counting) (i : ℕ) (xs : List Value) (b : Behind) (env : Env) (frames : List Frame) → model.tested round t c i xs b env frames s ≡ at_state s (model.tested round t c i xs b env frames tt)
tested_at s true t c i xs b env frames = refl
tested_at s false t c i xs b env frames = leaves_at s b xs env frames

turns_at : {S : Type 0} (s : S) (c : Counting) (i : ℕ) (xs : List Value) (b : Behind) (env : Env) (frames : List Frame) → model.turns c i xs b env frames s ≡ at_state s (model.turns c i xs b env frames tt)
turns_at s c i xs b env frames =
    stepping_at s (present (entry c.body)) _ _ (λ t. stepping_at s (present (bind t.args (Integer i ∷ xs) env)) _ _ (λ inner. tested_at s (has_round c i) t c i xs b inner frames))

enters_once_at : {S : Type 0} (s : S) (bs : Blocks) (b : Behind) (env : Env) (frames : List Frame) → model.enters_once bs b env frames s ≡ at_state s (model.enters_once bs b env frames tt)
enters_once_at s BlocksEnd b env frames = leaves_at s b [] env frames
enters_once_at s (Block l args ops more) b env frames = enters_at s (Block l args ops more) [] env (Once b ∷ frames)

yields_at : {S : Type 0} (s : S) (xs : List Value) (env : Env) (frames : List Frame) → model.yields xs env frames s ≡ at_state s (model.yields xs env frames tt)
yields_at s xs env [] = refl
yields_at s xs env (Once b ∷ frames) = leaves_at s b xs env frames
yields_at s xs env (Body c i b ∷ frames) = stepping_at s (next_number c i) _ _ (λ next. turns_at s c next xs b env frames)
yields_at s xs env (Before l b ∷ frames) = refl
yields_at s xs env (After l b ∷ frames) = enters_at s l.before xs env (Before l b ∷ frames)

decided_at : {S : Type 0} (s : S) (holds : Bool) (l : Looping) (xs : List Value) (b : Behind) (env : Env) (frames : List Frame) → model.decided holds l xs b env frames s ≡ at_state s (model.decided holds l xs b env frames tt)
decided_at s true l xs b env frames = enters_at s l.after xs env (After l b ∷ frames)
decided_at s false l xs b env frames = leaves_at s b xs env frames

decides_at : {S : Type 0} (s : S) (c : Value) (xs : List Value) (env : Env) (frames : List Frame) → model.decides c xs env frames s ≡ at_state s (model.decides c xs env frames tt)
decides_at s c xs env [] = refl
decides_at s c xs env (Once b ∷ frames) = refl
decides_at s c xs env (Body n i b ∷ frames) = refl
decides_at s c xs env (Before l b ∷ frames) = stepping_at s (truth c) _ _ (λ holds. decided_at s holds l xs b env frames)
decides_at s c xs env (After l b ∷ frames) = refl

if_at : {S : Type 0} (ask : Question → S → Reply S) (s : S) (rs : List ℕ) (xs : List Value) (ls : List ℕ) (regions : Regions) (b : Behind) (env : Env) (frames : List Frame)
    → model.acts ask If rs xs ls regions b env frames s ≡ at_state s (moves If xs regions b env frames)
if_at ask s rs [] ls regions b env frames = refl
if_at ask s rs (c ∷ []) ls regions b env frames = stepping_at s (truth c) _ _ (λ holds. enters_once_at s (region_at (first_if holds) regions) b env frames)
if_at ask s rs (c ∷ d ∷ xs) ls regions b env frames = refl

for_at : {S : Type 0} (ask : Question → S → Reply S) (s : S) (w : ℕ) (rs : List ℕ) (xs : List Value) (ls : List ℕ) (regions : Regions) (b : Behind) (env : Env) (frames : List Frame)
    → model.acts ask (For w) rs xs ls regions b env frames s ≡ at_state s (moves (For w) xs regions b env frames)
for_at ask s w rs [] ls regions b env frames = refl
for_at ask s w rs (x ∷ []) ls regions b env frames = refl
for_at ask s w rs (x ∷ y ∷ []) ls regions b env frames = refl
for_at ask s w rs (x ∷ y ∷ z ∷ xs) ls regions b env frames = stepping_at s (counts w x y z (region_at 0 regions)) _ _ (λ start. turns_at s start.1 start.0 xs b env frames)

switch_at : {S : Type 0} (ask : Question → S → Reply S) (s : S) (w : ℕ) (cases : List ℤ) (rs : List ℕ) (xs : List Value) (ls : List ℕ) (regions : Regions) (b : Behind) (env : Env) (frames : List Frame)
    → model.acts ask (Switch w cases) rs xs ls regions b env frames s ≡ at_state s (moves (Switch w cases) xs regions b env frames)
switch_at ask s w cases rs [] ls regions b env frames = refl
switch_at ask s w cases rs (x ∷ []) ls regions b env frames = stepping_at s (number x) _ _ (λ n. enters_once_at s (region_at (case_of w n 1 cases) regions) b env frames)
switch_at ask s w cases rs (x ∷ y ∷ xs) ls regions b env frames = refl

execute_at : {S : Type 0} (ask : Question → S → Reply S) (s : S) (rs : List ℕ) (xs : List Value) (ls : List ℕ) (regions : Regions) (b : Behind) (env : Env) (frames : List Frame)
    → model.acts ask Execute rs xs ls regions b env frames s ≡ at_state s (moves Execute xs regions b env frames)
execute_at ask s rs [] ls regions b env frames = enters_at s (region_at 0 regions) [] env (Once b ∷ frames)
execute_at ask s rs (x ∷ xs) ls regions b env frames = refl

condition_at : {S : Type 0} (ask : Question → S → Reply S) (s : S) (rs : List ℕ) (xs : List Value) (ls : List ℕ) (regions : Regions) (b : Behind) (env : Env) (frames : List Frame)
    → model.acts ask Condition rs xs ls regions b env frames s ≡ at_state s (moves Condition xs regions b env frames)
condition_at ask s rs [] ls regions b env frames = refl
condition_at ask s rs (c ∷ xs) ls regions b env frames = decides_at s c xs env frames

pub with_regions : {S : Type 0} (ask : Question → S → Reply S) (s : S) (form : Form) (rs : List ℕ) (xs : List Value) (ls : List ℕ) (regions : Regions) (b : Behind) (env : Env) (frames : List Frame)
    → has_regions form ≡ true → model.acts ask form rs xs ls regions b env frames s ≡ at_state s (moves form xs regions b env frames)
with_regions ask s If rs xs ls regions b env frames h = if_at ask s rs xs ls regions b env frames
with_regions ask s (For w) rs xs ls regions b env frames h = for_at ask s w rs xs ls regions b env frames
with_regions ask s While rs xs ls regions b env frames h =
    enters_at s (region_at 0 regions) xs env (Before (record { before = region_at 0 regions; after = region_at 1 regions }) b ∷ frames)
with_regions ask s (Switch w cases) rs xs ls regions b env frames h = switch_at ask s w cases rs xs ls regions b env frames
with_regions ask s Execute rs xs ls regions b env frames h = execute_at ask s rs xs ls regions b env frames
with_regions ask s Yield rs xs ls regions b env frames h = yields_at s xs env frames
with_regions ask s Condition rs xs ls regions b env frames h = condition_at ask s rs xs ls regions b env frames
with_regions ask s (Computes p) rs xs ls regions b env frames h = absurd (true≢false (sym h))
with_regions ask s Branch rs xs ls regions b env frames h = absurd (true≢false (sym h))
with_regions ask s (BranchOn m n) rs xs ls regions b env frames h = absurd (true≢false (sym h))
with_regions ask s (Call f shapes packing) rs xs ls regions b env frames h = absurd (true≢false (sym h))
with_regions ask s (Return packing) rs xs ls regions b env frames h = absurd (true≢false (sym h))
with_regions ask s (Load w) rs xs ls regions b env frames h = absurd (true≢false (sym h))
with_regions ask s (Store w) rs xs ls regions b env frames h = absurd (true≢false (sym h))
with_regions ask s Allocate rs xs ls regions b env frames h = absurd (true≢false (sym h))
with_regions ask s AllocateAligned rs xs ls regions b env frames h = absurd (true≢false (sym h))
with_regions ask s Free rs xs ls regions b env frames h = absurd (true≢false (sym h))
with_regions ask s (NewMemref l) rs xs ls regions b env frames h = absurd (true≢false (sym h))
with_regions ask s EndMemref rs xs ls regions b env frames h = absurd (true≢false (sym h))
with_regions ask s (LoadElement m w) rs xs ls regions b env frames h = absurd (true≢false (sym h))
with_regions ask s (StoreElement m w) rs xs ls regions b env frames h = absurd (true≢false (sym h))
with_regions ask s Unknown rs xs ls regions b env frames h = absurd (true≢false (sym h))

pub without_regions : {S : Type 0} (ask : Question → S → Reply S) (s : S) (form : Form) (rs : List ℕ) (xs : List Value) (ls : List ℕ) (regions : Regions) (b : Behind) (env : Env) (frames : List Frame)
    → has_regions form ≡ false → b.results ≡ rs → model.acts ask form rs xs ls regions b env frames s ≡ performed ask (does form ls xs) b env frames s
without_regions ask s If rs xs ls regions b env frames h e = absurd (true≢false h)
without_regions ask s (For w) rs xs ls regions b env frames h e = absurd (true≢false h)
without_regions ask s While rs xs ls regions b env frames h e = absurd (true≢false h)
without_regions ask s (Switch w cases) rs xs ls regions b env frames h e = absurd (true≢false h)
without_regions ask s Execute rs xs ls regions b env frames h e = absurd (true≢false h)
without_regions ask s Yield rs xs ls regions b env frames h e = absurd (true≢false h)
without_regions ask s Condition rs xs ls regions b env frames h e = absurd (true≢false h)
without_regions ask s form rs xs ls regions b env frames h e =
    ap (λ is. model.within frames (model.performs ask (does form ls xs) is (record { ops = b.rest; blocks = b.blocks; env = env }) s)) (sym e)
