-- Operations of two integers and branches that hand over no values, done without a list of their operands.
use Rattle.std.proofs.Common.{◌≡◌, ℕ, List, [], ◌∷◌, true, false, if◌then◌else◌, MatchOption, Option, Some, None, refl, sym, ap, subst, ◌∙◌}
use Rattle.std.specs.Prelude.{⊤}
use Rattle.number_model.specs.Answers.{Answer, Gives, with_answer}
use Rattle.number_model.specs.Answers.{Answer as answer}
use Rattle.operation_model.specs.Doings.{Doing, Question, Ends, Jumps, on}
use Rattle.operation_model.specs.Doings.{Doing as doing}
use Rattle.operation_model.specs.Forms as forms
use Rattle.operation_model.specs.Pures as pures
use Rattle.operation_model.specs.Straight.{branch_on, does}
use Rattle.operation_model.specs.Values as values
use Rattle.form_model.specs.Codes.{Env, lookups}
use Rattle.machine_model.specs.Worlds.{Reply}
use Rattle.machine_model.specs.Machine as model
use Rattle.run_code.specs.declared.form.Form.TheVariants as form
use Rattle.run_code.specs.declared.form.Pure.{Pure}
use Rattle.run_code.specs.declared.function.Operation.{Operation, out-Operation}
use Rattle.run_code.specs.Views.{blocks_of, form_of, ops_of, pure_of}
use Rattle.value_code.specs.declared.look.Looked.{Looked}
use Rattle.value_code.specs.declared.look.Looked.TheVariants as looked
use Rattle.value_code.specs.Models.{integer_of, looked_of}
use Rattle.frame_code.specs.declared.frame.Place.{Place as CodePlace}
use Rattle.frame_code.specs.declared.frame.Moving.{Moving}
use Rattle.frame_code.specs.Frames.{Moved, goes_to, has_regions, frames_of, place_of}
use Rattle.step_code.specs.declared.turns.Stop.TheVariants as code_stop
use Rattle.step_code.specs.declared.turns.Turn.TheVariants as turn
use Rattle.step_code.specs.Turns.{Paired, Stepped, jumps_to, turn_of}
use Rattle.step_code.proofs.StepLaws.{stepped_pair}
use Rattle.step_code.proofs.TurnLaws.{does_end, does_jump, stepped_move}

pub pair_done : (op : Operation) (p : Pure) (a : Answer (List values.Value)) (x y : values.Value) (ids : List ℕ) (env : Env)
    → (out-Operation op).form ≡ form.Computes p → ids ≡ (out-Operation op).operands → Some (x ∷ y ∷ []) ≡ lookups ids env
    → a ≡ pures.gives (pure_of p) (x ∷ y ∷ []) → Paired (on a Ends) op env
pair_done op p a x y ids env e same at given = record {
  xs = x ∷ y ∷ [];
  are = subst (λ ns. Some (x ∷ y ∷ []) ≡ lookups ns env) same at;
  alone = ap (λ f. has_regions (form_of f)) e;
  does = ap (λ b. on b Ends) given ∙ sym (ap (λ f. does (form_of f) (out-Operation op).successors (x ∷ y ∷ [])) e);
}

-- the same of what is perhaps given
pub pair_perhaps : (agrees : Env → Type 0) (r : Option (Looked ℕ)) (op : Operation) (p : Pure) (x y : values.Value) (ids : List ℕ)
    → (out-Operation op).form ≡ form.Computes p → ids ≡ (out-Operation op).operands → ((env : Env) → agrees env → Some (x ∷ y ∷ []) ≡ lookups ids env)
    → MatchOption r ⊤ (λ l. integer_of l ≡ pures.gives (pure_of p) (x ∷ y ∷ [])) → MatchOption r ⊤ (λ l. (env : Env) → agrees env → Paired (on (integer_of l) Ends) op env)
pair_perhaps agrees None op p x y ids e same at given = given
pair_perhaps agrees (Some l) op p x y ids e same at given = λ env a. pair_done op p (integer_of l) x y ids env e same (at env a) given

-- a choice of a label is the choice of a successor that takes no values
chosen_is : (c : Answer _) (first second : ℕ) → on (with_answer (λ holds. if holds then first else second) c) (λ n. Jumps n []) ≡ on c (branch_on first second 0 0 [])
chosen_is (Gives true) first second = refl
chosen_is (Gives false) first second = refl
chosen_is answer.Undefined first second = refl
chosen_is answer.Outside first second = refl

pub branch_done : (op : Operation) (a : Answer ℕ) (x : values.Value) (first second : ℕ) (ids ls : List ℕ) (env : Env)
    → form_of (out-Operation op).form ≡ forms.BranchOn 0 0 → ids ≡ (out-Operation op).operands → ls ≡ (out-Operation op).successors → ls ≡ first ∷ second ∷ [] → Some (x ∷ []) ≡ lookups ids env
    → a ≡ with_answer (λ holds. if holds then first else second) (pures.truth x) → Paired (on a (λ n. Jumps n [])) op env
branch_done op a x first second ids ls env e same labels two at given = record {
  xs = x ∷ [];
  are = subst (λ ns. Some (x ∷ []) ≡ lookups ns env) same at;
  alone = ap has_regions e;
  does =
      ap (λ b. on b (λ n. Jumps n [])) given ∙ chosen_is (pures.truth x) first second ∙ ap (λ l. does (forms.BranchOn 0 0) l (x ∷ [])) (sym two ∙ labels)
      ∙ sym (ap (λ f. does f (out-Operation op).successors (x ∷ [])) e);
}

-- the step, by what was looked at

pub pair_went : {M S : Type 0} (stands : M → S → Type 0) (ask : Question → S → Reply S) (mv : Moving) (old new : CodePlace) (m : M) (s : S) (op : Operation) (rest : List Operation) (rs : List ℕ) (env : Env) (l : Looked ℕ) (n : ℕ)
    → l ≡ looked.Gives n → old.ops.now ≡ op ∷ rest → rs ≡ (out-Operation op).results → Paired (on (integer_of l) Ends) op env
    → Moved mv new (goes_to rs (values.Integer n ∷ []) env (ops_of rest) (blocks_of old.blocks.now) (frames_of old)) → stands m s
    → Stepped stands (turn_of mv) new m (model.step ask (place_of old env) s)
pair_went stands ask mv old new m s op rest rs env l n e at same p moved st =
    stepped_pair stands ask (turn_of mv) old new m s op rest (Ends (values.Integer n ∷ [])) rs env at same (subst (λ k. Paired (on (integer_of k) Ends) op env) e p)
    (stepped_move stands mv new m s (goes_to rs (values.Integer n ∷ []) env (ops_of rest) (blocks_of old.blocks.now) (frames_of old)) _ moved st
    (does_end ask (values.Integer n ∷ []) (record { results = rs; rest = ops_of rest; blocks = blocks_of old.blocks.now }) env (frames_of old) s))

pub branch_went : {M S : Type 0} (stands : M → S → Type 0) (ask : Question → S → Reply S) (mv : Moving) (old new : CodePlace) (m : M) (s : S) (op : Operation) (rest : List Operation) (rs : List ℕ) (env : Env) (l : Looked ℕ) (n : ℕ)
    → l ≡ looked.Gives n → old.ops.now ≡ op ∷ rest → rs ≡ (out-Operation op).results → Paired (on (looked_of l) (λ k. Jumps k [])) op env
    → Moved mv new (jumps_to n [] (blocks_of old.blocks.now) env (frames_of old)) → stands m s
    → Stepped stands (turn_of mv) new m (model.step ask (place_of old env) s)
branch_went stands ask mv old new m s op rest rs env l n e at same p moved st =
    stepped_pair stands ask (turn_of mv) old new m s op rest (Jumps n []) rs env at same (subst (λ k. Paired (on (looked_of k) (λ j. Jumps j [])) op env) e p)
    (stepped_move stands mv new m s (jumps_to n [] (blocks_of old.blocks.now) env (frames_of old)) _ moved st
    (does_jump ask n [] (record { results = rs; rest = ops_of rest; blocks = blocks_of old.blocks.now }) env (frames_of old) s))

-- where looking was undefined or outside, so is the step
pub pair_undefined : {M S : Type 0} {A : Type 0} (stands : M → S → Type 0) (ask : Question → S → Reply S) (old new : CodePlace) (m : M) (s : S) (op : Operation) (rest : List Operation) (rs : List ℕ) (env : Env) (a : Answer A) (next : A → Doing)
    → a ≡ answer.Undefined → old.ops.now ≡ op ∷ rest → rs ≡ (out-Operation op).results → Paired (on a next) op env → Stepped stands (turn.Stops code_stop.Undefined) new m (model.step ask (place_of old env) s)
pair_undefined stands ask old new m s op rest rs env a next e at same p =
    stepped_pair stands ask (turn.Stops code_stop.Undefined) old new m s op rest doing.Undefined rs env at same (subst (λ b. Paired (on b next) op env) e p) (record { state = s; is = refl })

pub pair_outside : {M S : Type 0} {A : Type 0} (stands : M → S → Type 0) (ask : Question → S → Reply S) (old new : CodePlace) (m : M) (s : S) (op : Operation) (rest : List Operation) (rs : List ℕ) (env : Env) (a : Answer A) (next : A → Doing)
    → a ≡ answer.Outside → old.ops.now ≡ op ∷ rest → rs ≡ (out-Operation op).results → Paired (on a next) op env → Stepped stands (turn.Stops code_stop.Outside) new m (model.step ask (place_of old env) s)
pair_outside stands ask old new m s op rest rs env a next e at same p =
    stepped_pair stands ask (turn.Stops code_stop.Outside) old new m s op rest doing.Outside rs env at same (subst (λ b. Paired (on b next) op env) e p) (record { state = s; is = refl })
