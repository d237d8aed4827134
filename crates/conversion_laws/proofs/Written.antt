-- A sound template that is written down does what its operation does.
use Rattle.std.proofs.Common.{◌≡◌, ◌⊎◌, inl, inr, ℕ, zero, suc, ◌+◌, ◌==◌, Bool, true, false, List, [], ◌∷◌, ◌++◌, Option, Some, None, length, map, refl, sym, ap, ◌∙◌, subst, arith, append_assoc, append-nil}
use Rattle.std.specs.Prelude.{slice_get, if◌then◌else◌}
use Rattle.std.proofs.lemmas.Bool.{eqb-true}
use Rattle.conversion_model.proofs.ReconcileLaws.{same_number}
use Rattle.operation_model.specs.Values.{Value}
use Rattle.operation_model.specs.Doings.{Doing, Ends, Asks, Calls, Jumps, Returns, Undefined, Outside}
use Rattle.operation_model.specs.Straight.{does}
use Rattle.form_model.specs.Codes.{Env, lookup, lookups, and_value, bind}
use Rattle.plain_tree.specs.Types.{PlainType}
use Rattle.conversion_model.specs.Templates.{Step, labels_at, named, number_of, values_made}
use Rattle.rule_model.specs.Words.{has}
use Rattle.sound_model.specs.Refinement.{settled_then, then_on}
use Rattle.sound_model.specs.Runs.{counted, form_at, if_there, items_of, labels_in, operation_runs, steps_run}
use Rattle.chosen_laws.proofs.Lists.{none_some, some_same}
use Rattle.chosen_laws.proofs.Derivations.{length_joined}
use Rattle.code_laws.specs.PlainCodes.{numbers_in, types_in}
use Rattle.sim_laws.proofs.Lines.{Line, Run, Ended, Asked, Called, Jumped, Returned, doing_run, line_run, settled_run, with_env, with_values}
use Rattle.conversion_laws.proofs.Names.{Named, TypesNamed, differ, found_labels, found_types, found_values, has_rest, not_same}

-- the line of a step
abbrev pub step_line : ℕ → (ℕ → PlainType) → (ℕ → ℕ) → List ℕ → List ℕ → ℕ → Step → Line
step_line bits ty name os labels n s = record {
  form = form_at bits s.name s.props (map ty (map (number_of name os) s.sources)) (types_in (values_made name n s.makes));
  results = numbers_in (values_made name n s.makes);
  operands = map (number_of name os) s.sources;
  labels = labels_at labels s.successors;
}

abbrev pub steps_lines : ℕ → (ℕ → PlainType) → (ℕ → ℕ) → List ℕ → List ℕ → ℕ → List Step → List Line
steps_lines bits ty name os labels n [] = []
steps_lines bits ty name os labels n (s ∷ steps) = step_line bits ty name os labels n s ∷ steps_lines bits ty name os labels (n + length s.makes) steps

-- each value that is made has the type of its name
abbrev pub MadeTyped : (ℕ → PlainType) → (ℕ → ℕ) → ℕ → List PlainType → Type 0
MadeTyped ty name n [] = Unit {0}
MadeTyped ty name n (t ∷ ts) = (ty (name n) ≡ t) × MadeTyped ty name (n + 1) ts

abbrev pub StepsTyped : (ℕ → PlainType) → (ℕ → ℕ) → ℕ → List Step → Type 0
StepsTyped ty name n [] = Unit {0}
StepsTyped ty name n (s ∷ steps) = MadeTyped ty name n s.makes × StepsTyped ty name (n + length s.makes) steps

types_made_in : (name : ℕ → ℕ) (n : ℕ) (ts : List PlainType) → types_in (values_made name n ts) ≡ ts
types_made_in name n [] = refl
types_made_in name n (t ∷ ts) = ap (λ us. t ∷ us) (types_made_in name (n + 1) ts)

-- where a list grows by one at its end
at_or_before : {A : Type 0} (xs : List A) (y : A) (n k : ℕ) (v : A) → length xs ≡ n → slice_get (xs ++ y ∷ []) k ≡ Some v → ((n ≡ k) × (y ≡ v)) ⊎ (slice_get xs k ≡ Some v)
at_or_before [] y n zero v is e = inl (sym is, some_same e)
at_or_before [] y n (suc k) v is e = absurd (none_some e)
at_or_before (x ∷ xs) y n zero v is e = inr e
at_or_before (x ∷ xs) y n (suc k) v is e = later (at_or_before xs y (length xs) k v refl e)
  where
    later : ((length xs ≡ k) × (y ≡ v)) ⊎ (slice_get xs k ≡ Some v) → ((n ≡ suc k) × (y ≡ v)) ⊎ (slice_get xs k ≡ Some v)
    later (inl h) = inl (omega (arith, is, h.0), h.1)
    later (inr h) = inr h

lookups_over : (os : List ℕ) (n : ℕ) (v : Value) (env : Env) → has n os ≡ false → lookups os ((n, v) ∷ env) ≡ lookups os env
lookups_over [] n v env apart = refl
lookups_over (o ∷ os) n v env apart =
    let h = has_rest o n os apart in
    ap (λ x. and_value x (lookups os ((n, v) ∷ env))) (ap (λ b. if b then Some v else lookup o env) (turned o n h.0)) ∙ ap (and_value (lookup o env)) (lookups_over os n v env h.1)
  where
    turned : (m k : ℕ) → (m == k) ≡ false → (k == m) ≡ false
    turned m k is = differ k m (λ same. not_same m k is (sym same))

module _ (P : ℕ → Type 0) (rs os : List ℕ) (name : ℕ → ℕ) (one_name : (m n : ℕ) → name m ≡ name n → m ≡ n) (apart : (k : ℕ) → has (name k) os ≡ false)
    (names_old : (k j : ℕ) → P j → has j rs ≡ false → (name k == j) ≡ false) (args : List Value) (env0 : Env) where
  -- the same values under old numbers but the results
  abbrev pub AgreeBut : Env → Type 0
  AgreeBut env = (j : ℕ) → P j → has j rs ≡ false → lookup j env0 ≡ lookup j env

  pub record Holds (n : ℕ) (made : List Value) (env : Env) : Type 0 where
    pub count : length made ≡ n
    pub named : Named name made env
    pub operands : lookups os env ≡ Some args
    pub agree : AgreeBut env

  holds_more : (n : ℕ) (made : List Value) (env : Env) (y : Value) → Holds n made env → Holds (n + 1) (made ++ y ∷ []) ((name n, y) ∷ env)
  holds_more n made env y h = record {
    count = length_joined made (y ∷ []) ∙ omega (arith, h.count);
    named = λ k v e. by_place k v (at_or_before made y n k v h.count e);
    operands = lookups_over os (name n) y env (apart n) ∙ h.operands;
    agree = λ j old other. h.agree j old other ∙ sym (ap (λ b. if b then Some y else lookup j env) (names_old n j old other));
  }
    where
      over : (k : ℕ) (v : Value) (b : Bool) → (name n == name k) ≡ b → slice_get made k ≡ Some v → (if b then Some y else lookup (name k) env) ≡ Some v
      over k v true is e = absurd (none_some (sym (at_none made n k h.count (one_name n k (eqb-true (name n) (name k) is))) ∙ e))
        where
          past_end : (xs : List Value) → slice_get xs (length xs) ≡ None
          past_end [] = refl
          past_end (x ∷ xs) = past_end xs

          at_none : (xs : List Value) (m j : ℕ) → length xs ≡ m → m ≡ j → slice_get xs j ≡ None
          at_none xs m j is_m is_j = ap (slice_get xs) (sym is_j ∙ sym is_m) ∙ past_end xs
      over k v false is e = h.named k v e

      by_place : (k : ℕ) (v : Value) → ((n ≡ k) × (y ≡ v)) ⊎ (slice_get made k ≡ Some v) → lookup (name k) ((name n, y) ∷ env) ≡ Some v
      by_place k v (inl p) = ap (λ b. if b then Some y else lookup (name k) env) (same_number (name n) (name k) (ap name p.0)) ∙ ap Some p.1
      by_place k v (inr e) = over k v (name n == name k) refl e

  record Bound (ts : List PlainType) (n : ℕ) (ys made : List Value) (o : Option Env) : Type 0 where
    env : Env
    is : o ≡ Some env
    holds : Holds (n + length ts) (made ++ ys) env

  bind_made : (ts : List PlainType) (n : ℕ) (ys made : List Value) (env : Env) → length ys ≡ length ts → Holds n made env → Bound ts n ys made (bind (numbers_in (values_made name n ts)) ys env)
  bind_made [] n [] made env is h = record {
    env = env;
    is = refl;
    holds = subst (λ k. Holds k (made ++ []) env) (omega arith) (subst (λ xs. Holds n xs env) (sym (append-nil made)) h);
  }
  bind_made [] n (y ∷ ys) made env is h = absurd (omega (arith, is))
  bind_made (t ∷ ts) n [] made env is h = absurd (omega (arith, is))
  bind_made (t ∷ ts) n (y ∷ ys) made env is h =
      let b = bind_made ts (n + 1) ys (made ++ y ∷ []) ((name n, y) ∷ env) (omega (arith, is)) (holds_more n made env y h) in
      record {
        env = b.env;
        is = b.is;
        holds = subst (λ k. Holds k (made ++ y ∷ ys) b.env) (omega arith) (subst (λ xs. Holds (n + 1 + length ts) xs b.env) (append_assoc made (y ∷ []) ys) b.holds);
      }

  -- a run tracks a template: old values stay but the results, and at the end the results have their values
  abbrev pub Tracks : Doing → Run → Type 0
  Tracks (Ends zs) r = (env : Env) × (r ≡ Ended env) × AgreeBut env × (lookups rs env ≡ Some zs)
  Tracks (Asks q k) r = (next : List Value → Run) × (r ≡ Asked q next) × ((ys : List Value) → Tracks (k ys) (next ys))
  Tracks (Calls f xs k) r = (next : List Value → Run) × (r ≡ Called f xs next) × ((ys : List Value) → Tracks (k ys) (next ys))
  Tracks (Jumps l ys) r = (env : Env) × (r ≡ Jumped l ys env) × AgreeBut env
  Tracks (Returns ys) r = r ≡ Returned ys
  Tracks Undefined r = Unit {0}
  Tracks Outside r = Unit {0}

  module _ (ts : List PlainType) (n : ℕ) (made : List Value) (env : Env) (h : Holds n made env) (next : List Value → Doing) (after : Env → Run)
      (tracks : (ys : List Value) (e : Env) → length ys ≡ length ts → Holds (n + length ts) (made ++ ys) e → Tracks (next ys) (after e)) where
    ends_track : (ys : List Value) → Tracks (counted ts ys (next ys)) (with_env (bind (numbers_in (values_made name n ts)) ys env) after)
    ends_track ys = go (length ys == length ts) refl
      where
        go : (b : Bool) → (length ys == length ts) ≡ b → Tracks (if b then next ys else Outside) (with_env (bind (numbers_in (values_made name n ts)) ys env) after)
        go true is =
            let b = bind_made ts n ys made env (eqb-true (length ys) (length ts) is) h in
            subst (λ o. Tracks (next ys) (with_env o after)) (sym b.is) (tracks ys b.env (eqb-true (length ys) (length ts) is) b.holds)
        go false is = tt

    settled_tracks : (d : Doing) → Tracks (settled_then d (λ ys. counted ts ys (next ys))) (settled_run d (numbers_in (values_made name n ts)) env after)
    settled_tracks (Ends ys) = ends_track ys
    settled_tracks (Asks q k) = (λ ys. settled_run (k ys) (numbers_in (values_made name n ts)) env after, refl, λ ys. settled_tracks (k ys))
    settled_tracks (Calls f xs k) = tt
    settled_tracks (Jumps l ys) = (env, refl, h.agree)
    settled_tracks (Returns ys) = tt
    settled_tracks Undefined = tt
    settled_tracks Outside = tt

    doing_tracks : (d : Doing) → Tracks (then_on d (λ ys. counted ts ys (next ys))) (doing_run d (numbers_in (values_made name n ts)) env after)
    doing_tracks (Ends ys) = ends_track ys
    doing_tracks (Asks q k) = (λ ys. doing_run (k ys) (numbers_in (values_made name n ts)) env after, refl, λ ys. doing_tracks (k ys))
    doing_tracks (Calls f xs k) = (λ ys. settled_run (k ys) (numbers_in (values_made name n ts)) env after, refl, λ ys. settled_tracks (k ys))
    doing_tracks (Jumps l ys) = (env, refl, h.agree)
    doing_tracks (Returns ys) = refl
    doing_tracks Undefined = tt
    doing_tracks Outside = tt

  module _ (bits : ℕ) (ty : ℕ → PlainType) (types : List PlainType) (types_are : map ty os ≡ types) (labels : List ℕ) where
    there_tracks : {A : Type 0} (o : Option A) (next : A → Doing) (r : Run) → ((x : A) → o ≡ Some x → Tracks (next x) r) → Tracks (if_there o next) r
    there_tracks None next r h = tt
    there_tracks (Some x) next r h = h x refl

    typed_more : (ts : List PlainType) (n : ℕ) (made : List PlainType) → length made ≡ n → TypesNamed ty name made → MadeTyped ty name n ts → TypesNamed ty name (made ++ ts)
    typed_more [] n made count named typed = subst (TypesNamed ty name) (sym (append-nil made)) named
    typed_more (t ∷ ts) n made count named typed =
        subst (TypesNamed ty name) (append_assoc made (t ∷ []) ts)
        (typed_more ts (n + 1) (made ++ t ∷ []) (length_joined made (t ∷ []) ∙ omega (arith, count)) (λ k u e. by_place k u (at_or_before made t n k u count e)) typed.1)
      where
        by_place : (k : ℕ) (u : PlainType) → ((n ≡ k) × (t ≡ u)) ⊎ (slice_get made k ≡ Some u) → ty (name k) ≡ u
        by_place k u (inl p) = ap (λ j. ty (name j)) (sym p.0) ∙ typed.0 ∙ p.1
        by_place k u (inr e) = named k u e

    pub steps_track : (next : List Value → Doing)
        → ((made : List Value) (env : Env) → Named name made env → lookups os env ≡ Some args → AgreeBut env → Tracks (next made) (Ended env))
        → (steps : List Step) (n : ℕ) (made_types : List PlainType) (made : List Value) (env : Env) → Holds n made env → length made_types ≡ n → TypesNamed ty name made_types → StepsTyped ty name n steps
        → Tracks (steps_run bits types args labels steps made_types made next) (line_run (steps_lines bits ty name os labels n steps) env)
    steps_track next last [] n made_types made env h count named typed = last made env h.named h.operands h.agree
    steps_track next last (s ∷ steps) n made_types made env h count named typed =
        there_tracks (items_of types made_types s.sources) _ _ (λ ts ts_are.
        there_tracks (items_of args made s.sources) _ _ (λ vs vs_are.
        there_tracks (labels_in labels s.successors) _ _ (λ ls ls_are.
        step_tracks ts vs ls ts_are vs_are ls_are
        (λ ys e ys_count after. steps_track next last steps (n + length s.makes) (made_types ++ s.makes) (made ++ ys) e after (length_joined made_types s.makes ∙ omega (arith, count))
        (typed_more s.makes n made_types count named typed.0) typed.1))))
      where
        step_tracks : (ts : List PlainType) (vs : List Value) (ls : List ℕ) → items_of types made_types s.sources ≡ Some ts → items_of args made s.sources ≡ Some vs → labels_in labels s.successors ≡ Some ls
            → ((ys : List Value) (e : Env) → length ys ≡ length s.makes → Holds (n + length s.makes) (made ++ ys) e
            → Tracks (steps_run bits types args labels steps (made_types ++ s.makes) (made ++ ys) next) (line_run (steps_lines bits ty name os labels (n + length s.makes) steps) e))
            → Tracks (operation_runs (form_at bits s.name s.props ts s.makes) s.makes ls vs (λ ys. steps_run bits types args labels steps (made_types ++ s.makes) (made ++ ys) next))
            (line_run (steps_lines bits ty name os labels n (s ∷ steps)) env)
        step_tracks ts vs ls ts_are vs_are ls_are again =
            let after : Env → Run = λ e. line_run (steps_lines bits ty name os labels (n + length s.makes) steps) e in
            let rs1 : List ℕ = numbers_in (values_made name n s.makes) in
            let form_is : form_at bits s.name s.props (map ty (map (number_of name os) s.sources)) (types_in (values_made name n s.makes)) ≡ form_at bits s.name s.props ts s.makes =
            ap (λ us. form_at bits s.name s.props us (types_in (values_made name n s.makes))) (found_types ty name os types made_types s.sources ts types_are named ts_are)
            ∙ ap (form_at bits s.name s.props ts) (types_made_in name n s.makes) in
            subst (λ o. Tracks (operation_runs (form_at bits s.name s.props ts s.makes) s.makes ls vs (λ ys. steps_run bits types args labels steps (made_types ++ s.makes) (made ++ ys) next))
            (with_values o (λ ws. doing_run (does (form_at bits s.name s.props (map ty (map (number_of name os) s.sources)) (types_in (values_made name n s.makes))) (labels_at labels s.successors) ws) rs1 env after)))
            (sym (found_values name os env args made s.sources vs h.operands h.named vs_are))
            (subst (λ f. Tracks (operation_runs (form_at bits s.name s.props ts s.makes) s.makes ls vs (λ ys. steps_run bits types args labels steps (made_types ++ s.makes) (made ++ ys) next))
            (doing_run (does f (labels_at labels s.successors) vs) rs1 env after)) (sym form_is)
            (subst (λ ks. Tracks (operation_runs (form_at bits s.name s.props ts s.makes) s.makes ls vs (λ ys. steps_run bits types args labels steps (made_types ++ s.makes) (made ++ ys) next))
            (doing_run (does (form_at bits s.name s.props ts s.makes) ks vs) rs1 env after)) (sym (found_labels labels s.successors ls ls_are))
            (doing_tracks s.makes n made env h _ after again (does (form_at bits s.name s.props ts s.makes) ls vs))))
