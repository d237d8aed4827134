-- A sound template that is written down keeps to the operation that it replaces.
use Rattle.std.proofs.Common.{◌≡◌, ◌⊎◌, inl, inr, ℕ, suc, ◌==◌, Bool, true, false, List, [], ◌∷◌, Option, Some, None, length, map, refl, sym, ap, ◌∙◌, subst, arith}
use Rattle.std.specs.Prelude.{if◌then◌else◌}
use Rattle.conversion_model.proofs.ReconcileLaws.{same_number}
use Rattle.operation_model.specs.Values.{Value}
use Rattle.operation_model.specs.Doings.{Doing, Ends, Asks, Calls, Jumps, Returns, Undefined, Outside}
use Rattle.operation_model.specs.Straight.{does}
use Rattle.form_model.specs.Codes.{Env, lookup, lookups, bind}
use Rattle.plain_tree.specs.Types.{PlainType}
use Rattle.conversion_model.specs.Templates.{Template, named, number_of}
use Rattle.conversion_model.specs.Targets.{Shape}
use Rattle.rule_model.specs.Words.{has}
use Rattle.sound_model.specs.Refinement.{Refines, settled_then, then_on}
use Rattle.sound_model.specs.Runs.{counted, if_there, items_of, root_form}
use Rattle.sound_model.specs.Soundness.{IsReplaceable, Sound}
use Rattle.chosen_laws.proofs.Lists.{none_some, some_same}
use Rattle.chosen_laws.proofs.Derivations.{mapped_count}
use Rattle.sim_laws.proofs.Lines.{Run, Ended, line_run}
use Rattle.sim_laws.proofs.Local.{Agree, Computing, Each, Meets, SettledMeets, lookups_agree}
use Rattle.conversion_laws.proofs.Names.{Named, both_values, found_values}
use Rattle.conversion_laws.proofs.Written.{StepsTyped, Tracks, steps_lines, steps_track}
use Rattle.conversion_laws.proofs.Quiet.{NoJumps, bound_at, quiet}

lookups_count : (os : List ℕ) (env : Env) (vs : List Value) → lookups os env ≡ Some vs → length vs ≡ length os
lookups_count [] env vs e = ap length (sym (some_same e))
lookups_count (o ∷ os) env vs e =
    let b = both_values (lookup o env) (lookups os env) vs e in ap length b.is ∙ ap suc (lookups_count os env b.rest b.rest_is)

bind_count : (rs : List ℕ) (ys : List Value) (env e : Env) → bind rs ys env ≡ Some e → length ys ≡ length rs
bind_count [] [] env e is = refl
bind_count [] (y ∷ ys) env e is = absurd (none_some is)
bind_count (r ∷ rs) [] env e is = absurd (none_some is)
bind_count (r ∷ rs) (y ∷ ys) env e is = ap suc (bind_count rs ys ((r, y) ∷ env) e is)

none_among : (rs : List ℕ) (j : ℕ) → rs ≡ [] → has j rs ≡ false
none_among rs j none = ap (has j) none

module _ (P : ℕ → Type 0) (rs os : List ℕ) (name : ℕ → ℕ) (one : (m n : ℕ) → name m ≡ name n → m ≡ n) (apart : (k : ℕ) → has (name k) os ≡ false)
    (names_old : (k j : ℕ) → P j → has j rs ≡ false → (name k == j) ≡ false) (args : List Value) (env env' : Env) (agree : Agree P env env') (types : List PlainType) (many : length types ≡ length rs) where
  abbrev TracksM : Doing → Run → Type 0
  TracksM = Tracks P rs os name one apart names_old args env'

  counted_is : (ys : List Value) → length ys ≡ length rs → counted types ys (Ends ys) ≡ Ends ys
  counted_is ys is = ap (λ b. if b then Ends ys else Outside) (same_number (length ys) (length types) (is ∙ sym many))

  ends_meets : (ys : List Value) (d : Doing) (r : Run) → Refines (counted types ys (Ends ys)) d → TracksM d r → (e : Env) → bind rs ys env ≡ Some e → (e' : Env) × (r ≡ Ended e') × Agree P e e'
  ends_meets ys d r refines tracks e is =
      let same : d ≡ Ends ys = subst (λ x. Refines x d) (counted_is ys (bind_count rs ys env e is)) refines in
      let t : TracksM (Ends ys) r = subst (λ x. TracksM x r) same tracks in
      (t.0, t.1, λ j old. bound_at rs ys env e t.0 j is t.3 (but j old t.0 t.2 (has j rs) refl))
    where
      but : (j : ℕ) → P j → (e' : Env) → ((k : ℕ) → P k → has k rs ≡ false → lookup k env' ≡ lookup k e') → (b : Bool) → has j rs ≡ b → (lookup j env ≡ lookup j e') ⊎ (has j rs ≡ true)
      but j old e' h true among = inr among
      but j old e' h false among = inl (agree j old ∙ h j old among)

  settled_meets : (d e : Doing) (r : Run) → Refines (settled_then d (λ ys. counted types ys (Ends ys))) e → TracksM e r → (rs ≡ []) ⊎ NoJumps d → SettledMeets P rs env d r
  settled_meets (Ends ys) e r refines tracks still = ends_meets ys e r refines tracks
  settled_meets (Asks q k) e r refines tracks still =
      let t : TracksM (Asks q refines.0) r = subst (λ x. TracksM x r) refines.1 tracks in
      (t.0, t.1, λ ys. settled_meets (k ys) (refines.0 ys) (t.0 ys) (refines.2 ys) (t.2 ys) (on_still ys still))
    where
      on_still : (ys : List Value) → (rs ≡ []) ⊎ NoJumps (Asks q k) → (rs ≡ []) ⊎ NoJumps (k ys)
      on_still ys (inl none) = inl none
      on_still ys (inr h) = inr (h ys)
  settled_meets (Calls f xs k) e r refines tracks still = tt
  settled_meets (Jumps l ys) e r refines tracks (inl none) =
      let t : TracksM (Jumps l ys) r = subst (λ x. TracksM x r) refines tracks in
      (t.0, t.1, λ j old. agree j old ∙ t.2 j old (none_among rs j none))
  settled_meets (Jumps l ys) e r refines tracks (inr h) = absurd h
  settled_meets (Returns ys) e r refines tracks still = tt
  settled_meets Undefined e r refines tracks still = tt
  settled_meets Outside e r refines tracks still = tt

  pub doing_meets : (d e : Doing) (r : Run) → Refines (then_on d (λ ys. counted types ys (Ends ys))) e → TracksM e r → (rs ≡ []) ⊎ NoJumps d → Meets P rs env d r
  doing_meets (Ends ys) e r refines tracks still = ends_meets ys e r refines tracks
  doing_meets (Asks q k) e r refines tracks still =
      let t : TracksM (Asks q refines.0) r = subst (λ x. TracksM x r) refines.1 tracks in
      (t.0, t.1, λ ys. doing_meets (k ys) (refines.0 ys) (t.0 ys) (refines.2 ys) (t.2 ys) (on_still ys still))
    where
      on_still : (ys : List Value) → (rs ≡ []) ⊎ NoJumps (Asks q k) → (rs ≡ []) ⊎ NoJumps (k ys)
      on_still ys (inl none) = inl none
      on_still ys (inr h) = inr (h ys)
  doing_meets (Calls f xs k) e r refines tracks still =
      let t : TracksM (Calls f xs refines.0) r = subst (λ x. TracksM x r) refines.1 tracks in
      (t.0, t.1, λ ys. settled_meets (k ys) (refines.0 ys) (t.0 ys) (refines.2 ys) (t.2 ys) (on_still ys still))
    where
      on_still : (ys : List Value) → (rs ≡ []) ⊎ NoJumps (Calls f xs k) → (rs ≡ []) ⊎ NoJumps (k ys)
      on_still ys (inl none) = inl none
      on_still ys (inr h) = inr (h ys)
  doing_meets (Jumps l ys) e r refines tracks (inl none) =
      let t : TracksM (Jumps l ys) r = subst (λ x. TracksM x r) refines tracks in
      (t.0, t.1, λ j old. agree j old ∙ t.2 j old (none_among rs j none))
  doing_meets (Jumps l ys) e r refines tracks (inr h) = absurd h
  doing_meets (Returns ys) e r refines tracks still = subst (λ x. TracksM x r) refines tracks
  doing_meets Undefined e r refines tracks still = tt
  doing_meets Outside e r refines tracks still = tt

none_of : (rs : List ℕ) (types : List PlainType) → length types ≡ length rs → types ≡ [] → rs ≡ []
none_of [] types many none = refl
none_of (r ∷ rs) types many none = absurd (omega (arith, sym many ∙ ap length none))

-- an operation with a sound template
pub record Replaced (P : ℕ → Type 0) (bits : ℕ) (ty : ℕ → PlainType) (o : Shape) (rs os ls : List ℕ) (name : ℕ → ℕ) (t : Template) : Type 0 where
  pub sound : Sound bits o t
  pub replaceable : IsReplaceable (root_form bits o) o.results
  pub operands : Each P os
  pub apart : (k : ℕ) → has (name k) os ≡ false
  pub names_old : (k j : ℕ) → P j → has j rs ≡ false → (name k == j) ≡ false
  pub one : (m n : ℕ) → name m ≡ name n → m ≡ n
  pub types_are : map ty os ≡ o.operands
  pub typed : StepsTyped ty name 0 t.steps
  pub results_are : map (number_of name os) t.results ≡ rs
  pub many : length o.results ≡ length rs
  pub places : length ls ≡ o.successors

-- The line of a sound template computes what its operation does.
pub written_computes : (P : ℕ → Type 0) (bits : ℕ) (ty : ℕ → PlainType) (o : Shape) (rs os ls : List ℕ) (name : ℕ → ℕ) (t : Template) → Replaced P bits ty o rs os ls name t
    → Computing P (root_form bits o) rs os ls (steps_lines bits ty name os ls 0 t.steps)
written_computes P bits ty o rs os ls name t h env env' vs agree found =
    doing_meets P rs os name h.one h.apart h.names_old vs env env' agree o.results h.many (does (root_form bits o) ls vs) _ (line_run (steps_lines bits ty name os ls 0 t.steps) env')
    (h.sound.same vs ls Ends counts counts h.places)
    (steps_track P rs os name h.one h.apart h.names_old vs env' bits ty o.operands h.types_are ls (λ made. if_there (items_of vs made t.results) Ends) last t.steps 0 [] [] env'
    (record { count = refl; named = λ k v e. absurd (none_some e); operands = found'; agree = λ j old other. refl }) refl (λ k u e. absurd (none_some e)) h.typed)
    still
  where
    found' : lookups os env' ≡ Some vs
    found' = sym (lookups_agree P os env env' h.operands agree) ∙ found

    counts : length vs ≡ length o.operands
    counts = lookups_count os env vs found ∙ sym (mapped_count ty os) ∙ ap length h.types_are

    last : (made : List Value) (e : Env) → Named name made e → lookups os e ≡ Some vs → ((j : ℕ) → P j → has j rs ≡ false → lookup j env' ≡ lookup j e)
        → Tracks P rs os name h.one h.apart h.names_old vs env' (if_there (items_of vs made t.results) Ends) (Ended e)
    last made e named operands but = go (items_of vs made t.results) refl
      where
        go : (x : Option (List Value)) → items_of vs made t.results ≡ x → Tracks P rs os name h.one h.apart h.names_old vs env' (if_there x Ends) (Ended e)
        go None is = tt
        go (Some zs) is = (e, refl, but, ap (λ ns. lookups ns e) (sym h.results_are) ∙ found_values name os e vs made t.results zs operands named is)

    still : (rs ≡ []) ⊎ NoJumps (does (root_form bits o) ls vs)
    still = go (quiet (root_form bits o) o.results h.replaceable)
      where
        go : (o.results ≡ []) ⊎ ((js : List ℕ) (xs : List Value) → NoJumps (does (root_form bits o) js xs)) → (rs ≡ []) ⊎ NoJumps (does (root_form bits o) ls vs)
        go (inl none) = inl (none_of rs o.results h.many none)
        go (inr calm) = inr (calm ls vs)
