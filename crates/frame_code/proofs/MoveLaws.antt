-- To other spots.
use Rattle.std.proofs.Common.{◌≡◌, ℕ, zero, suc, ◌+◌, ◌<◌, ◌≤◌, List, [], ◌∷◌, ◌++◌, length, take, drop, ◌-◌, get_or, Bool, true, false, Option, Some, None, refl, sym, ap, subst, ◌∙◌, arith, map}
use Rattle.std.specs.List.{slice_get}
use Rattle.std.proofs.lemmas.Option.{same_Some, none-some}
use Rattle.number_model.specs.Answers.{Answer, Gives, present}
use Rattle.number_model.specs.Answers.{Answer as answer}
use Rattle.operation_model.specs.Values as values
use Rattle.form_model.specs.Codes.{Ops, Blocks, Regions, Env, bind}
use Rattle.form_model.specs.Codes as codes
use Rattle.machine_model.specs.Worlds.{Undefined, Outside}
use Rattle.machine_model.specs.Machine as model
use Rattle.run_code.specs.declared.function.Block.{Block, out-Block}
use Rattle.run_code.specs.declared.function.Region.{Region, out-Region}
use Rattle.run_code.specs.Views.{ops_of, blocks_of, regions_of}
use Rattle.run_code.proofs.Shapes.{block_is, region_is}
use Rattle.table_code.specs.Agreement.{Agrees, Binds}
use Rattle.frame_code.specs.declared.frame.Place.{Place}
use Rattle.frame_code.specs.declared.frame.Moving.{Moving}
use Rattle.frame_code.specs.declared.frame.Moving.TheVariants as moving
use Rattle.frame_code.specs.Frames.{Move, Moved, Went, place_of, goes_to, target_of}

abbrev pub goes_at : Ops → Blocks → Env → List model.Frame → Move
goes_at ops blocks env frames = model.Goes (record { spot = record { ops = ops; blocks = blocks; env = env }; frames = frames }) tt

pub bound_there : (p : Place) (ids : List ℕ) (xs : List values.Value) (env : Env) (ops : Ops) (blocks : Blocks) (frames : List model.Frame)
    → ((e : Env) → record { spot = record { ops = ops; blocks = blocks; env = e }; frames = frames } ≡ place_of p e)
    → Binds true p.table (bind ids xs env) → Moved moving.Went p (goes_to ids xs env ops blocks frames)
bound_there p ids xs env ops blocks frames same b = record {
  env = b.0;
  agrees = b.2;
  is = ap (λ o. model.stepping (present o) tt (λ inner. model.Goes (record { spot = record { ops = ops; blocks = blocks; env = inner }; frames = frames }) tt)) b.1
      ∙ ap (λ q. model.Goes q tt) (same b.0);
}

pub not_bound : (ids : List ℕ) (xs : List values.Value) (env : Env) (ops : Ops) (blocks : Blocks) (frames : List model.Frame)
    → bind ids xs env ≡ None → goes_to ids xs env ops blocks frames ≡ model.Stops Outside tt
not_bound ids xs env ops blocks frames e =
    ap (λ o. model.stepping (present o) tt (λ inner. model.Goes (record { spot = record { ops = ops; blocks = blocks; env = inner }; frames = frames }) tt)) e

pub not_one : (ids : List ℕ) (x : values.Value) (env : Env) (ops : Ops) (blocks : Blocks) (frames : List model.Frame)
    → (length ids ≡ 1 → ⊥) → goes_to ids (x ∷ []) env ops blocks frames ≡ model.Stops Outside tt
not_one [] x env ops blocks frames h = refl
not_one (n ∷ []) x env ops blocks frames h = absurd (h refl)
not_one (n ∷ m ∷ ids) x env ops blocks frames h = refl

-- the first block, and one that isn't there

pub entry_some : (bs : List Block) (b : Block) → Some b ≡ slice_get bs 0 → codes.entry (blocks_of bs) ≡ Some (target_of b)
entry_some [] b e = absurd (none-some b (sym e))
entry_some (x ∷ bs) b e = ap codes.entry (block_is x (blocks_of bs)) ∙ ap (λ y. Some (target_of y)) (same_Some x b (sym e))

pub entry_none : (bs : List Block) → None ≡ slice_get bs 0 → codes.entry (blocks_of bs) ≡ None
entry_none [] e = refl
entry_none (x ∷ bs) e = absurd (none-some x e)

pub region_some : (rs : List Region) (i : ℕ) (r : Region) → Some r ≡ slice_get rs i → blocks_of (out-Region r).blocks ≡ codes.region_at i (regions_of rs)
region_some [] i r e = absurd (none-some r (sym e))
region_some (x ∷ rs) zero r e = ap (λ y. blocks_of (out-Region y).blocks) (sym (same_Some x r (sym e))) ∙ sym (ap (codes.region_at 0) (region_is x (regions_of rs)))
region_some (x ∷ rs) (suc i) r e = region_some rs i r e ∙ sym (ap (codes.region_at (suc i)) (region_is x (regions_of rs)))

pub region_none : (rs : List Region) (i : ℕ) → None ≡ slice_get rs i → codes.BlocksEnd ≡ codes.region_at i (regions_of rs)
region_none [] i e = refl
region_none (x ∷ rs) zero e = absurd (none-some x e)
region_none (x ∷ rs) (suc i) e = region_none rs i e ∙ sym (ap (codes.region_at (suc i)) (region_is x (regions_of rs)))

take_all : (xs : List ℕ) (n : ℕ) → n ≡ length xs → take n xs ≡ xs
take_all [] n e = rw e refl
take_all (x ∷ xs) zero e = absurd (omega (arith, e))
take_all (x ∷ xs) (suc n) e = ap (λ l. x ∷ l) (take_all xs n (omega (arith, e)))

pub first_and_rest : (xs : List ℕ) → 1 ≤ length xs → get_or xs 0 0 ∷ take (length xs - 1) (drop 1 xs) ≡ xs
first_and_rest [] le = absurd (omega (arith, le))
first_and_rest (x ∷ xs) le = ap (λ l. x ∷ l) (take_all xs (suc (length xs) - 1) (omega arith))

-- on with what is given

pub given : {A : Type 0} (m : Moving) (p : Place) (a : Answer A) (x : A) (next : A → Move) → Gives x ≡ a → Moved m p (next x) → Moved m p (model.stepping a tt next)
given m p a x next e h = subst (λ y. Moved m p (model.stepping y tt next)) e h

pub there : {A : Type 0} (m : Moving) (p : Place) (o : Option A) (x : A) (next : A → Move) → o ≡ Some x → Moved m p (next x) → Moved m p (model.stepping (present o) tt next)
there m p o x next e h = subst (λ y. Moved m p (model.stepping (present y) tt next)) (sym e) h

pub not_there : {A : Type 0} (o : Option A) (next : A → Move) → o ≡ None → model.stepping (present o) tt next ≡ model.Stops Outside tt
not_there o next e = ap (λ y. model.stepping (present y) tt next) e

pub undefined_there : {A : Type 0} (a : Answer A) (next : A → Move) → answer.Undefined ≡ a → model.stepping a tt next ≡ model.Stops Undefined tt
undefined_there a next e = ap (λ y. model.stepping y tt next) (sym e)

pub outside_there : {A : Type 0} (a : Answer A) (next : A → Move) → answer.Outside ≡ a → model.stepping a tt next ≡ model.Stops Outside tt
outside_there a next e = ap (λ y. model.stepping y tt next) (sym e)

-- into a region that may be empty

pub once_empty : (bs : List Block) (b : model.Behind) (env : Env) (frames : List model.Frame) → length bs ≡ 0 → model.leaves {State = Unit {0}} b [] env frames tt ≡ model.enters_once {State = Unit {0}} (blocks_of bs) b env frames tt
once_empty [] b env frames e = refl
once_empty (x ∷ bs) b env frames e = absurd (omega (arith, e))

pub once_full : (bs : List Block) (b : model.Behind) (env : Env) (frames : List model.Frame) → (length bs ≡ 0 → ⊥)
    → model.enters {State = Unit {0}} (blocks_of bs) [] env (model.Once b ∷ frames) tt ≡ model.enters_once {State = Unit {0}} (blocks_of bs) b env frames tt
once_full [] b env frames h = absurd (h refl)
once_full (x ∷ bs) b env frames h = ap (λ y. model.enters {State = Unit {0}} y [] env (model.Once b ∷ frames) tt) (block_is x (blocks_of bs)) ∙ sym (ap (λ y. model.enters_once {State = Unit {0}} y b env frames tt) (block_is x (blocks_of bs)))
