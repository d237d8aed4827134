-- Definitions that are right, as far as a scope goes.
use Rattle.std.proofs.Common.{◌≡◌, ℕ, zero, suc, ◌+◌, Bool, true, false, List, [], ◌∷◌, ◌++◌, length, Option, refl, sym, subst, true≢false, arith, append_assoc, length-append}
use Rattle.text_events.specs.declared.event.Event.{Event}
use Rattle.text_scopes.specs.declared.steps.Step.{Step}
use Rattle.text_scopes.specs.declared.steps.Step.TheVariants as steps
use Rattle.text_scopes.specs.Seen.{Turn, told}
use Rattle.scope_laws.specs.Turns.{Level, level_end, level_nest, level_step, RightAhead, RightBack, is_flat, pass}
use Rattle.scope_laws.proofs.TurnLaws.{pass_append}

-- each definition behind, at any depth, up to where the scope began
abbrev pub AllBack : (ℕ → ℕ → Type 0) → List Turn → Type 0
AllBack R [] = Unit {0}
AllBack R ((steps.Defines, e) ∷ ts) = R e.name (length ts) × AllBack R ts
AllBack R ((steps.Ends, e) ∷ ts) = Unit {0}
AllBack R ((_, e) ∷ ts) = AllBack R ts

-- and ahead, from this place on, up to where it ends
abbrev pub AllAhead : (ℕ → ℕ → Type 0) → ℕ → List Turn → Type 0
AllAhead R at [] = Unit {0}
AllAhead R at ((steps.Defines, e) ∷ ts) = R e.name at × AllAhead R (suc at) ts
AllAhead R at ((steps.Ends, e) ∷ ts) = Unit {0}
AllAhead R at ((_, e) ∷ ts) = AllAhead R (suc at) ts

-- the scope has only begun
abbrev pub is_fresh : List Turn → Bool
is_fresh [] = true
is_fresh ((steps.Ends, e) ∷ ts) = true
is_fresh ((steps.Stays, e) ∷ ts) = is_fresh ts
is_fresh ((_, e) ∷ ts) = false

module _ (R : ℕ → ℕ → Type 0) where
  pub fresh_back : (ts : List Turn) → is_fresh ts ≡ true → AllBack R ts
  fresh_back [] h = tt
  fresh_back ((steps.Ends, e) ∷ ts) h = tt
  fresh_back ((steps.Stays, e) ∷ ts) h = fresh_back ts h
  fresh_back ((steps.Defines, e) ∷ ts) h = absurd (true≢false (sym h))
  fresh_back ((steps.Uses, e) ∷ ts) h = absurd (true≢false (sym h))
  fresh_back ((steps.Misses, e) ∷ ts) h = absurd (true≢false (sym h))
  fresh_back ((steps.Opens, e) ∷ ts) h = absurd (true≢false (sym h))
  fresh_back ((steps.Closes, e) ∷ ts) h = absurd (true≢false (sym h))

  pub right_back : (over : ℕ) (ts : List Turn) → AllBack R ts → RightBack true R over ts
  right_back over [] h = tt
  right_back zero ((steps.Defines, e) ∷ ts) h = (h.0, right_back 0 ts h.1)
  right_back (suc over) ((steps.Defines, e) ∷ ts) h = right_back (suc over) ts h.1
  right_back zero ((steps.Closes, e) ∷ ts) h = right_back 1 ts h
  right_back (suc over) ((steps.Closes, e) ∷ ts) h = right_back (suc (suc over)) ts h
  right_back zero ((steps.Opens, e) ∷ ts) h = right_back 0 ts h
  right_back (suc over) ((steps.Opens, e) ∷ ts) h = right_back over ts h
  right_back zero ((steps.Ends, e) ∷ ts) h = tt
  right_back (suc over) ((steps.Ends, e) ∷ ts) h = tt
  right_back zero ((steps.Uses, e) ∷ ts) h = right_back 0 ts h
  right_back (suc over) ((steps.Uses, e) ∷ ts) h = right_back (suc over) ts h
  right_back zero ((steps.Misses, e) ∷ ts) h = right_back 0 ts h
  right_back (suc over) ((steps.Misses, e) ∷ ts) h = right_back (suc over) ts h
  right_back zero ((steps.Stays, e) ∷ ts) h = right_back 0 ts h
  right_back (suc over) ((steps.Stays, e) ∷ ts) h = right_back (suc over) ts h

  pub right_ahead : (over at : ℕ) (ts : List Turn) → AllAhead R at ts → RightAhead true R over at ts
  right_ahead over at [] h = tt
  right_ahead zero at ((steps.Defines, e) ∷ ts) h = (h.0, right_ahead 0 (suc at) ts h.1)
  right_ahead (suc over) at ((steps.Defines, e) ∷ ts) h = right_ahead (suc over) (suc at) ts h.1
  right_ahead zero at ((steps.Opens, e) ∷ ts) h = right_ahead 1 (suc at) ts h
  right_ahead (suc over) at ((steps.Opens, e) ∷ ts) h = right_ahead (suc (suc over)) (suc at) ts h
  right_ahead zero at ((steps.Closes, e) ∷ ts) h = right_ahead 0 (suc at) ts h
  right_ahead (suc over) at ((steps.Closes, e) ∷ ts) h = right_ahead over (suc at) ts h
  right_ahead zero at ((steps.Ends, e) ∷ ts) h = tt
  right_ahead (suc over) at ((steps.Ends, e) ∷ ts) h = tt
  right_ahead zero at ((steps.Uses, e) ∷ ts) h = right_ahead 0 (suc at) ts h
  right_ahead (suc over) at ((steps.Uses, e) ∷ ts) h = right_ahead (suc over) (suc at) ts h
  right_ahead zero at ((steps.Misses, e) ∷ ts) h = right_ahead 0 (suc at) ts h
  right_ahead (suc over) at ((steps.Misses, e) ∷ ts) h = right_ahead (suc over) (suc at) ts h
  right_ahead zero at ((steps.Stays, e) ∷ ts) h = right_ahead 0 (suc at) ts h
  right_ahead (suc over) at ((steps.Stays, e) ∷ ts) h = right_ahead (suc over) (suc at) ts h

  -- all definitions of a scope
  pub record AllRight (before ahead : List Turn) : Type 0 where
    pub back : AllBack R before
    pub front : AllAhead R (length before) ahead

  flat_all : (d : Bool) (s : Step) (e : Event) (before ahead : List Turn) → is_flat d s ≡ true → AllRight before ((s, e) ∷ ahead) → AllRight ((s, e) ∷ before) ahead
  flat_all d steps.Opens e before ahead f h = absurd (true≢false (sym f))
  flat_all d steps.Closes e before ahead f h = absurd (true≢false (sym f))
  flat_all d steps.Ends e before ahead f h = absurd (true≢false (sym f))
  flat_all d steps.Defines e before ahead f h = record { back = (h.front.0, h.back); front = h.front.1 }
  flat_all d _ e before ahead f h = record { back = h.back; front = h.front }

  pub open_all : (e : Event) (before ahead : List Turn) → AllRight before ((steps.Opens, e) ∷ ahead) → AllRight ((steps.Opens, e) ∷ before) ahead
  open_all e before ahead h = record { back = h.back; front = h.front }

  close_all : (e : Event) (before ahead : List Turn) → AllRight before ((steps.Closes, e) ∷ ahead) → AllRight ((steps.Closes, e) ∷ before) ahead
  close_all e before ahead h = record { back = h.back; front = h.front }

  pub move_all : {d : Bool} {xs : List Turn} → Level d xs → (before ahead : List Turn) → AllRight before (xs ++ ahead) → AllRight (pass before xs) ahead
  move_all (level_end d) before ahead h = h
  move_all (level_step d s e {ts} f more) before ahead h = move_all more ((s, e) ∷ before) ahead (flat_all d s e before (ts ++ ahead) f h)
  move_all (level_nest d e f {inner} {ts} i more) before ahead h =
      let one = open_all e before (inner ++ (steps.Closes, f) ∷ (ts ++ ahead)) (subst (λ (zs : List Turn). AllRight before ((steps.Opens, e) ∷ zs)) (append_assoc inner ((steps.Closes, f) ∷ ts) ahead) h) in
      let two = close_all f (pass ((steps.Opens, e) ∷ before) inner) (ts ++ ahead) (move_all i ((steps.Opens, e) ∷ before) ((steps.Closes, f) ∷ (ts ++ ahead)) one) in
      subst (λ (z : List Turn). AllRight z ahead) (sym (pass_append ((steps.Opens, e) ∷ before) inner ((steps.Closes, f) ∷ ts))) (move_all more ((steps.Closes, f) ∷ pass ((steps.Opens, e) ∷ before) inner) ahead two)

-- What is told of turns that are no uses
abbrev pub tells_nothing : Step → Bool
tells_nothing steps.Uses = false
tells_nothing steps.Misses = false
tells_nothing _ = true

pub nothing_told : (s : Step) (o : Option ℕ) (os : List (Option ℕ)) → tells_nothing s ≡ true → told s o ++ os ≡ os
nothing_told steps.Uses o os h = absurd (true≢false (sym h))
nothing_told steps.Misses o os h = absurd (true≢false (sym h))
nothing_told _ o os h = refl

-- Across turns without definitions
pub weaken : {d : Bool} {xs : List Turn} → Level d xs → Level true xs
weaken (level_end d) = level_end true
weaken (level_step d s e f more) = level_step true s e (flat_weak d s f) (weaken more)
  where
    flat_weak : (d : Bool) (s : Step) → is_flat d s ≡ true → is_flat true s ≡ true
    flat_weak d steps.Opens h = absurd (true≢false (sym h))
    flat_weak d steps.Closes h = absurd (true≢false (sym h))
    flat_weak d steps.Ends h = absurd (true≢false (sym h))
    flat_weak d _ h = refl
weaken (level_nest d e f i more) = level_nest true e f i (weaken more)

module _ (out : Bool) (R : ℕ → ℕ → Type 0) where
  deep_step : (d : Bool) (s : Step) (e : Event) (over at : ℕ) (ts : List Turn) → is_flat d s ≡ true → RightAhead out R (suc over) (suc at) ts → RightAhead out R (suc over) at ((s, e) ∷ ts)
  deep_step d steps.Opens e over at ts f h = absurd (true≢false (sym f))
  deep_step d steps.Closes e over at ts f h = absurd (true≢false (sym f))
  deep_step d steps.Ends e over at ts f h = absurd (true≢false (sym f))
  deep_step d steps.Defines e over at ts f h = h
  deep_step d _ e over at ts f h = h

  skip_deep : {d : Bool} {xs : List Turn} → Level d xs → (over at : ℕ) (ahead : List Turn) → RightAhead out R (suc over) (at + length xs) ahead → RightAhead out R (suc over) at (xs ++ ahead)
  skip_deep (level_end d) over at ahead h = subst (λ (n : ℕ). RightAhead out R (suc over) n ahead) (omega arith) h
  skip_deep (level_step d s e {ts} f more) over at ahead h =
      deep_step d s e over at (ts ++ ahead) f (skip_deep more over (suc at) ahead (subst (λ (n : ℕ). RightAhead out R (suc over) n ahead) (omega arith) h))
  skip_deep (level_nest d e f {inner} {ts} i more) over at ahead h =
      subst (λ (zs : List Turn). RightAhead out R (suc (suc over)) (suc at) zs) (sym (append_assoc inner ((steps.Closes, f) ∷ ts) ahead))
      (skip_deep i (suc over) (suc at) ((steps.Closes, f) ∷ (ts ++ ahead))
      (skip_deep more over (suc (suc at + length inner)) ahead (subst (λ (n : ℕ). RightAhead out R (suc over) n ahead) (counts at (length inner) (length ts) (length (inner ++ (steps.Closes, f) ∷ ts)) (length-append inner ((steps.Closes, f) ∷ ts))) h)))
    where
      counts : (at i t n : ℕ) → n ≡ i + suc t → at + suc n ≡ suc (suc at + i) + t
      counts at i t n e = omega arith

  level_step_right : (s : Step) (e : Event) (at : ℕ) (ts : List Turn) → is_flat false s ≡ true → RightAhead out R 0 (suc at) ts → RightAhead out R 0 at ((s, e) ∷ ts)
  level_step_right steps.Opens e at ts f h = absurd (true≢false (sym f))
  level_step_right steps.Closes e at ts f h = absurd (true≢false (sym f))
  level_step_right steps.Ends e at ts f h = absurd (true≢false (sym f))
  level_step_right steps.Defines e at ts f h = absurd (true≢false (sym f))
  level_step_right _ e at ts f h = h

  pub skip_level : {d : Bool} {xs : List Turn} → d ≡ false → Level d xs → (at : ℕ) (ahead : List Turn) → RightAhead out R 0 (at + length xs) ahead → RightAhead out R 0 at (xs ++ ahead)
  skip_level none (level_end d) at ahead h = subst (λ (n : ℕ). RightAhead out R 0 n ahead) (omega arith) h
  skip_level none (level_step d s e {ts} f more) at ahead h =
      level_step_right s e at (ts ++ ahead) (subst (λ (b : Bool). is_flat b s ≡ true) none f) (skip_level none more (suc at) ahead (subst (λ (n : ℕ). RightAhead out R 0 n ahead) (omega arith) h))
  skip_level none (level_nest d e f {inner} {ts} i more) at ahead h =
      subst (λ (zs : List Turn). RightAhead out R 1 (suc at) zs) (sym (append_assoc inner ((steps.Closes, f) ∷ ts) ahead))
      (skip_deep i 0 (suc at) ((steps.Closes, f) ∷ (ts ++ ahead))
      (skip_level none more (suc (suc at + length inner)) ahead (subst (λ (n : ℕ). RightAhead out R 0 n ahead) (counts at (length inner) (length ts) (length (inner ++ (steps.Closes, f) ∷ ts)) (length-append inner ((steps.Closes, f) ∷ ts))) h)))
    where
      counts : (at i t n : ℕ) → n ≡ i + suc t → at + suc n ≡ suc (suc at + i) + t
      counts at i t n e = omega arith
