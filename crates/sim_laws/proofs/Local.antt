-- Local changes: functions in which operations are replaced by lines, and the places of both.
use Rattle.std.proofs.Common.{◌≡◌, ℕ, zero, suc, ◌==◌, Bool, true, false, List, [], ◌∷◌, Option, Some, None, refl, ap, ◌∙◌, subst}
use Rattle.std.specs.Prelude.{if◌then◌else◌}
use Rattle.operation_model.specs.Values.{Value}
use Rattle.operation_model.specs.Doings.{Doing, Ends, Asks, Jumps}
use Rattle.operation_model.specs.Doings.{Doing as doing}
use Rattle.operation_model.specs.Forms.{Form}
use Rattle.operation_model.specs.Straight.{does}
use Rattle.form_model.specs.Codes.{Ops, OpsEnd, Op, Blocks, BlocksEnd, Block, Regions, RegionsEnd, Region, Target, Env, entry, find_block, lookup, lookups, and_value, bind, region_at}
use Rattle.machine_model.specs.Machine.{Behind, Frame, Once, Body, Before, After, Place}
use Rattle.sim_laws.proofs.Lines.{Line, in_front, Run, Ended, Asked, Called, Jumped, Returned, with_env, doing_run, settled_run, line_run, IsStructured}

-- Values that agree

-- P of each number
abbrev pub Each : (ℕ → Type 0) → List ℕ → Type 0
Each P [] = Unit {0}
Each P (n ∷ ns) = P n × Each P ns

-- the same values under the numbers that P holds of
abbrev pub Agree : (ℕ → Type 0) → Env → Env → Type 0
Agree P env env' = (n : ℕ) → P n → lookup n env ≡ lookup n env'

pub lookups_agree : (P : ℕ → Type 0) (ns : List ℕ) (env env' : Env) → Each P ns → Agree P env env' → lookups ns env ≡ lookups ns env'
lookups_agree P [] env env' each agree = refl
lookups_agree P (n ∷ ns) env env' each agree =
    ap (λ x. and_value x (lookups ns env)) (agree n each.0) ∙ ap (and_value (lookup n env')) (lookups_agree P ns env env' each.1 agree)

pub agree_more : (P : ℕ → Type 0) (n : ℕ) (v : Value) (env env' : Env) → Agree P env env' → Agree P ((n, v) ∷ env) ((n, v) ∷ env')
agree_more P n v env env' agree k old = ap (λ x. if n == k then Some v else x) (agree k old)

-- what was bound in both
abbrev pub BoundMatch : (ℕ → Type 0) → Option Env → Option Env → Type 0
BoundMatch P None o = Unit {0}
BoundMatch P (Some e) o = (e' : Env) × (o ≡ Some e') × Agree P e e'

pub bind_agree : (P : ℕ → Type 0) (rs : List ℕ) (xs : List Value) (env env' : Env) → Agree P env env' → BoundMatch P (bind rs xs env) (bind rs xs env')
bind_agree P [] [] env env' agree = (env', refl, agree)
bind_agree P [] (x ∷ xs) env env' agree = tt
bind_agree P (r ∷ rs) [] env env' agree = tt
bind_agree P (r ∷ rs) (x ∷ xs) env env' agree = bind_agree P rs xs ((r, x) ∷ env) ((r, x) ∷ env') (agree_more P r x env env' agree)

-- What a line owes

-- a line keeps to a doing with these results, in these values: behind a call
abbrev pub SettledMeets : (ℕ → Type 0) → List ℕ → Env → Doing → Run → Type 0
SettledMeets P rs env (Ends ys) r = (e : Env) → bind rs ys env ≡ Some e → (e' : Env) × (r ≡ Ended e') × Agree P e e'
SettledMeets P rs env (Asks q k) r = (next : List Value → Run) × (r ≡ Asked q next) × ((ys : List Value) → SettledMeets P rs env (k ys) (next ys))
SettledMeets P rs env (doing.Calls f xs k) r = Unit {0}
SettledMeets P rs env (Jumps l ys) r = (e' : Env) × (r ≡ Jumped l ys e') × Agree P env e'
SettledMeets P rs env (doing.Returns ys) r = Unit {0}
SettledMeets P rs env doing.Undefined r = Unit {0}
SettledMeets P rs env doing.Outside r = Unit {0}

-- and as a whole
abbrev pub Meets : (ℕ → Type 0) → List ℕ → Env → Doing → Run → Type 0
Meets P rs env (Ends ys) r = (e : Env) → bind rs ys env ≡ Some e → (e' : Env) × (r ≡ Ended e') × Agree P e e'
Meets P rs env (Asks q k) r = (next : List Value → Run) × (r ≡ Asked q next) × ((ys : List Value) → Meets P rs env (k ys) (next ys))
Meets P rs env (doing.Calls f xs k) r = (next : List Value → Run) × (r ≡ Called f xs next) × ((ys : List Value) → SettledMeets P rs env (k ys) (next ys))
Meets P rs env (Jumps l ys) r = (e' : Env) × (r ≡ Jumped l ys e') × Agree P env e'
Meets P rs env (doing.Returns ys) r = r ≡ Returned ys
Meets P rs env doing.Undefined r = Unit {0}
Meets P rs env doing.Outside r = Unit {0}

-- an operation keeps to itself
module _ (P : ℕ → Type 0) (rs : List ℕ) (env env' : Env) (agree : Agree P env env') where
  ends_meet : (ys : List Value) (e : Env) → bind rs ys env ≡ Some e → (e' : Env) × (with_env (bind rs ys env') Ended ≡ Ended e') × Agree P e e'
  ends_meet ys e is = go (subst (λ o. BoundMatch P o (bind rs ys env')) is (bind_agree P rs ys env env' agree))
    where
      go : BoundMatch P (Some e) (bind rs ys env') → (e' : Env) × (with_env (bind rs ys env') Ended ≡ Ended e') × Agree P e e'
      go b = (b.0, ap (λ o. with_env o Ended) b.1, b.2)

  settled_itself : (d : Doing) → SettledMeets P rs env d (settled_run d rs env' Ended)
  settled_itself (Ends ys) = ends_meet ys
  settled_itself (Asks q k) = (λ ys. settled_run (k ys) rs env' Ended, refl, λ ys. settled_itself (k ys))
  settled_itself (doing.Calls f xs k) = tt
  settled_itself (Jumps l ys) = (env', refl, agree)
  settled_itself (doing.Returns ys) = tt
  settled_itself doing.Undefined = tt
  settled_itself doing.Outside = tt

  pub meets_itself : (d : Doing) → Meets P rs env d (doing_run d rs env' Ended)
  meets_itself (Ends ys) = ends_meet ys
  meets_itself (Asks q k) = (λ ys. doing_run (k ys) rs env' Ended, refl, λ ys. meets_itself (k ys))
  meets_itself (doing.Calls f xs k) = (λ ys. settled_run (k ys) rs env' Ended, refl, λ ys. settled_itself (k ys))
  meets_itself (Jumps l ys) = (env', refl, agree)
  meets_itself (doing.Returns ys) = refl
  meets_itself doing.Undefined = tt
  meets_itself doing.Outside = tt

-- a line does what an operation of this form, with these results, operands and labels does
abbrev pub Computing : (ℕ → Type 0) → Form → List ℕ → List ℕ → List ℕ → List Line → Type 0
Computing P form rs os ls line = (env env' : Env) (vs : List Value) → Agree P env env' → lookups os env ≡ Some vs → Meets P rs env (does form ls vs) (line_run line env')

-- where new arguments are bound a line gives the old ones
abbrev pub Restores : (ℕ → Type 0) → List ℕ → List ℕ → List Line → Type 0
Restores P args args' line =
    (xs : List Value) (env env' e : Env) → Agree P env env' → bind args xs env ≡ Some e
    → (b : Env) × (bind args' xs env' ≡ Some b) × ((e' : Env) × (line_run line b ≡ Ended e') × Agree P e e')

mutual
  -- operations that stay or are replaced by lines
  pub data SameOps (P : ℕ → Type 0) : Ops → Ops → Type 0 where
    same_end : SameOps P OpsEnd OpsEnd
    keeps : {form : Form} {rs os ls : List ℕ} {r r' : Regions} {rest rest' : Ops} → Each P os → SameRegions P r r' → SameOps P rest rest' → SameOps P (Op form rs os ls r rest) (Op form rs os ls r' rest')
    swaps : {form : Form} {rs os ls : List ℕ} {r : Regions} {rest rest' : Ops} (line : List Line) → (IsStructured form → ⊥) → Computing P form rs os ls line → SameOps P rest rest' → SameOps P (Op form rs os ls r rest) (in_front line rest')

  pub data SameRegions (P : ℕ → Type 0) : Regions → Regions → Type 0 where
    same_regions_end : SameRegions P RegionsEnd RegionsEnd
    same_region : {b b' : Blocks} {r r' : Regions} → SameEntry P b b' → SameRegions P r r' → SameRegions P (Region b r) (Region b' r')

  pub data SameBlocks (P : ℕ → Type 0) : Blocks → Blocks → Type 0 where
    same_blocks_end : SameBlocks P BlocksEnd BlocksEnd
    same_block : {l : ℕ} {args args' : List ℕ} (line : List Line) {ops ops' : Ops} {b b' : Blocks} → Restores P args args' line → SameOps P ops ops' → SameBlocks P b b'
        → SameBlocks P (Block l args ops b) (Block l args' (in_front line ops') b')

  -- the first block of a region keeps its arguments
  pub data SameEntry (P : ℕ → Type 0) : Blocks → Blocks → Type 0 where
    same_entry_end : SameEntry P BlocksEnd BlocksEnd
    same_entry : {l : ℕ} {args : List ℕ} {ops ops' : Ops} {b b' : Blocks} → SameOps P ops ops' → SameBlocks P b b' → SameEntry P (Block l args ops b) (Block l args ops' b')

pub restores_itself : (P : ℕ → Type 0) (args : List ℕ) → Restores P args args []
restores_itself P args xs env env' e agree is = go (subst (λ o. BoundMatch P o (bind args xs env')) is (bind_agree P args xs env env' agree))
  where
    go : BoundMatch P (Some e) (bind args xs env') → (b : Env) × (bind args xs env' ≡ Some b) × ((e' : Env) × (Ended b ≡ Ended e') × Agree P e e')
    go h = (h.0, h.1, (h.0, refl, h.2))

pub all_blocks : {P : ℕ → Type 0} {b b' : Blocks} → SameEntry P b b' → SameBlocks P b b'
all_blocks same_entry_end = same_blocks_end
all_blocks {P} (same_entry {args = args} ops more) = same_block [] (restores_itself P args) ops more

-- blocks that stand for each other
pub record TargetMatch (P : ℕ → Type 0) (t t' : Target) : Type 0 where
  pub line : List Line
  pub rest : Ops
  pub is : t'.ops ≡ in_front line rest
  pub restores : Restores P t.args t'.args line
  pub same : SameOps P t.ops rest

pub record FoundTarget (P : ℕ → Type 0) (t : Target) (o : Option Target) : Type 0 where
  pub target : Target
  pub is : o ≡ Some target
  pub match : TargetMatch P t target

abbrev pub TargetsMatch : (ℕ → Type 0) → Option Target → Option Target → Type 0
TargetsMatch P None o = Unit {0}
TargetsMatch P (Some t) o = FoundTarget P t o

this_block : {P : ℕ → Type 0} {args args' : List ℕ} (line : List Line) {ops ops' : Ops} → Restores P args args' line → SameOps P ops ops'
    → TargetsMatch P (Some (record { args = args; ops = ops })) (Some (record { args = args'; ops = in_front line ops' }))
this_block {args' = args'} line {ops' = ops'} restores same = record {
  target = record { args = args'; ops = in_front line ops' };
  is = refl;
  match = record { line = line; rest = ops'; is = refl; restores = restores; same = same };
}

pub entry_matches : {P : ℕ → Type 0} {b b' : Blocks} → SameBlocks P b b' → TargetsMatch P (entry b) (entry b')
entry_matches same_blocks_end = tt
entry_matches (same_block line restores same more) = this_block line restores same

either_target : (P : ℕ → Type 0) (c : Bool) (x y x' y' : Option Target) → TargetsMatch P x x' → TargetsMatch P y y' → TargetsMatch P (if c then x else y) (if c then x' else y')
either_target P true x y x' y' f g = f
either_target P false x y x' y' f g = g

pub find_matches : {P : ℕ → Type 0} {b b' : Blocks} (l : ℕ) → SameBlocks P b b' → TargetsMatch P (find_block l b) (find_block l b')
find_matches {P} l same_blocks_end = tt
find_matches {P} l (same_block {l = k} line restores same more) = either_target P (k == l) _ _ _ _ (this_block line restores same) (find_matches l more)

pub regions_match : {P : ℕ → Type 0} {r r' : Regions} (i : ℕ) → SameRegions P r r' → SameEntry P (region_at i r) (region_at i r')
regions_match i same_regions_end = same_entry_end
regions_match zero (same_region b more) = b
regions_match (suc i) (same_region b more) = regions_match i more

-- Places

pub data SameBehind (P : ℕ → Type 0) : Behind → Behind → Type 0 where
  same_behind : {rs : List ℕ} {rest rest' : Ops} {b b' : Blocks} → SameOps P rest rest' → SameBlocks P b b' → SameBehind P (record { results = rs; rest = rest; blocks = b }) (record { results = rs; rest = rest'; blocks = b' })

pub data SameFrames (P : ℕ → Type 0) : List Frame → List Frame → Type 0 where
  same_frames_end : SameFrames P [] []
  same_once : {b b' : Behind} {fs fs' : List Frame} → SameBehind P b b' → SameFrames P fs fs' → SameFrames P (Once b ∷ fs) (Once b' ∷ fs')
  same_body : {w upper by i : ℕ} {body body' : Blocks} {b b' : Behind} {fs fs' : List Frame} → SameEntry P body body' → SameBehind P b b' → SameFrames P fs fs'
      → SameFrames P (Body (record { width = w; upper = upper; by = by; body = body }) i b ∷ fs) (Body (record { width = w; upper = upper; by = by; body = body' }) i b' ∷ fs')
  same_before : {x x' y y' : Blocks} {b b' : Behind} {fs fs' : List Frame} → SameEntry P x x' → SameEntry P y y' → SameBehind P b b' → SameFrames P fs fs'
      → SameFrames P (Before (record { before = x; after = y }) b ∷ fs) (Before (record { before = x'; after = y' }) b' ∷ fs')
  same_after : {x x' y y' : Blocks} {b b' : Behind} {fs fs' : List Frame} → SameEntry P x x' → SameEntry P y y' → SameBehind P b b' → SameFrames P fs fs'
      → SameFrames P (After (record { before = x; after = y }) b ∷ fs) (After (record { before = x'; after = y' }) b' ∷ fs')

pub record SamePlaces (P : ℕ → Type 0) (p q : Place) : Type 0 where
  pub ops : SameOps P p.spot.ops q.spot.ops
  pub blocks : SameBlocks P p.spot.blocks q.spot.blocks
  pub env : Agree P p.spot.env q.spot.env
  pub frames : SameFrames P p.frames q.frames
