-- Descriptors, and a step by the operation ahead.
use Rattle.std.proofs.Common.{◌≡◌, ℕ, List, [], ◌∷◌, ◌++◌, true, false, arith, length, Option, Some, None, refl, sym, ap, ap₂, subst, ◌∙◌, append_assoc}
use Rattle.std.proofs.lemmas.List.{map-append}
use Rattle.number_model.specs.Answers.{present}
use Rattle.operation_model.specs.Values as values
use Rattle.operation_model.specs.Doings.{Doing, Question}
use Rattle.operation_model.specs.Forms as forms
use Rattle.operation_model.specs.Straight.{does}
use Rattle.form_model.specs.Codes.{Regions, Env, lookups}
use Rattle.machine_model.specs.Worlds.{Reply, Outside}
use Rattle.machine_model.specs.Machine as model
use Rattle.machine_model.specs.Machine.{Frame, Behind, Step, Place}
use Rattle.value_code.specs.declared.value.Value.{Value}
use Rattle.value_code.specs.Models.{value_of, values_of}
use Rattle.run_code.specs.declared.function.Operation.{Operation, out-Operation}
use Rattle.run_code.specs.Views.{form_of, ops_of, blocks_of, regions_of}
use Rattle.run_code.proofs.Shapes.{op_is}
use Rattle.table_code.specs.Agreement.{Agrees}
use Rattle.frame_code.specs.declared.frame.Place.{Place as CodePlace}
use Rattle.frame_code.specs.declared.frame.Moving.{Moving}
use Rattle.frame_code.specs.Frames.{Move, Moved, MovedIf, has_regions, moves, frames_of, place_of}
use Rattle.step_code.specs.declared.turns.Turn.{Turn}
use Rattle.step_code.specs.Turns.{Paired, Stepped, Stopped, turn_of, descriptor_at, performed}
use Rattle.step_code.proofs.ActLaws.{with_regions, without_regions}
use Rattle.step_code.proofs.TurnLaws.{stepped_move}

pub empty_of : (sizes : List Value) → length sizes ≡ 0 → sizes ≡ []
empty_of [] e = refl
empty_of (x ∷ sizes) e = absurd (omega (arith, e))

pub descriptor_flat : (p : values.Value) (sizes strides : List Value) → length sizes ≡ 0 → descriptor_at p (values_of sizes) (values_of strides) ≡ values.together (p ∷ p ∷ values.Integer 0 ∷ [])
descriptor_flat p [] strides e = refl
descriptor_flat p (x ∷ sizes) strides e = absurd (omega (arith, e))

pub descriptor_full : (p : values.Value) (sizes strides : List Value) → (length sizes ≡ 0 → ⊥)
    → descriptor_at p (values_of sizes) (values_of strides) ≡ values.together (p ∷ p ∷ values.Integer 0 ∷ values.together (values_of sizes) ∷ values.together (values_of strides) ∷ [])
descriptor_full p [] strides h = absurd (h refl)
descriptor_full p (x ∷ sizes) strides h = refl

moved_some : {o : Option Moving} (mv : Moving) (old new : CodePlace) (form : forms.Form) (u : Move) → o ≡ Some mv → MovedIf o old new form u → (has_regions form ≡ true) × Moved mv new u
moved_some mv old new form u e h = subst (λ x. MovedIf x old new form u) e h

pub act_moved : {M S : Type 0} (stands : M → S → Type 0) (ask : Question → S → Reply S) (mv : Moving) (o : Option Moving) (old new : CodePlace) (m : M) (s : S) (form : forms.Form) (rs ls : List ℕ)
    (ys xs : List values.Value) (regions1 regions : Regions) (b : Behind) (env : Env) (frames : List Frame)
    → o ≡ Some mv → ys ≡ xs → regions1 ≡ regions → MovedIf o old new form (moves form ys regions1 b env frames) → stands m s
    → Stepped stands (turn_of mv) new m (model.acts ask form rs xs ls regions b env frames s)
act_moved stands ask mv o old new m s form rs ls ys xs regions1 regions b env frames e ex er h st =
    let moved = moved_some mv old new form (moves form ys regions1 b env frames) e h in
    stepped_move stands mv new m s (moves form xs regions b env frames) (model.acts ask form rs xs ls regions b env frames s)
    (subst (Moved mv new) (ap₂ (λ l r. moves form l r b env frames) ex er) moved.1) st (with_regions ask s form rs xs ls regions b env frames moved.0)

moved_none : {o : Option Moving} (old new : CodePlace) (form : forms.Form) (u : Move) → o ≡ None → MovedIf o old new form u → (has_regions form ≡ false) × (new ≡ old)
moved_none old new form u e h = subst (λ x. MovedIf x old new form u) e h

pub act_performed : {M S : Type 0} (stands : M → S → Type 0) (ask : Question → S → Reply S) (t : Turn) (o : Option Moving) (old between new : CodePlace) (m : M) (s : S) (form : forms.Form) (rs ls ls1 : List ℕ)
    (ys xs : List values.Value) (regions1 regions : Regions) (b : Behind) (env : Env)
    → o ≡ None → b.results ≡ rs → ls1 ≡ ls → MovedIf o old between form (moves form ys regions1 b env (frames_of old)) → Agrees old.table env
    → (Agrees between.table env → Stepped stands t new m (performed ask (does form ls1 xs) b env (frames_of between) s))
    → Stepped stands t new m (model.acts ask form rs xs ls regions b env (frames_of old) s)
act_performed stands ask t o old between new m s form rs ls ls1 ys xs regions1 regions b env e er el h agrees next =
    let moved = moved_none old between form (moves form ys regions1 b env (frames_of old)) e h in
    subst (Stepped stands t new m)
    (ap₂ (λ p l. performed ask (does form l xs) b env (frames_of p) s) moved.1 el ∙ sym (without_regions ask s form rs xs ls regions b env (frames_of old) moved.0 er))
    (next (subst (λ p. Agrees p.table env) (sym moved.1) agrees))

-- a step is what the operation ahead comes to with its operands
pub step_is : {S : Type 0} (ask : Question → S → Reply S) (s : S) (p : CodePlace) (op : Operation) (rest : List Operation) (env : Env) → p.ops.now ≡ op ∷ rest
    → model.step ask (place_of p env) s
    ≡ model.stepping (present (lookups (out-Operation op).operands env)) s (λ xs. model.acts ask (form_of (out-Operation op).form) (out-Operation op).results xs (out-Operation op).successors (regions_of (out-Operation op).regions) (record { results = (out-Operation op).results; rest = ops_of rest; blocks = blocks_of p.blocks.now }) env (frames_of p) s)
step_is ask s p op rest env e =
    ap (λ os. model.step_at ask (ops_of os) (blocks_of p.blocks.now) env (frames_of p) s) e ∙ ap (λ os. model.step_at ask os (blocks_of p.blocks.now) env (frames_of p) s) (op_is op (ops_of rest))

pub stepped_on : {M S : Type 0} (stands : M → S → Type 0) (t : Turn) (new : CodePlace) (m : M) (s : S) (o : Option (List values.Value)) (xs : List values.Value) (next : List values.Value → Step Place S) (step : Step Place S)
    → Some xs ≡ o → step ≡ model.stepping (present o) s next → Stepped stands t new m (next xs) → Stepped stands t new m step
stepped_on stands t new m s o xs next step e is h = subst (Stepped stands t new m) (ap (λ x. model.stepping (present x) s next) e ∙ sym is) h

-- an operation without regions whose operands have values, and which does this
pub stepped_pair : {M S : Type 0} (stands : M → S → Type 0) (ask : Question → S → Reply S) (t : Turn) (old new : CodePlace) (m : M) (s : S) (op : Operation) (rest : List Operation) (d : Doing) (rs : List ℕ) (env : Env)
    → old.ops.now ≡ op ∷ rest → rs ≡ (out-Operation op).results → Paired d op env
    → Stepped stands t new m (performed ask d (record { results = rs; rest = ops_of rest; blocks = blocks_of old.blocks.now }) env (frames_of old) s)
    → Stepped stands t new m (model.step ask (place_of old env) s)
stepped_pair stands ask t old new m s op rest d rs env at same p next =
    stepped_on stands t new m s (lookups (out-Operation op).operands env) p.xs
    (λ xs. model.acts ask (form_of (out-Operation op).form) (out-Operation op).results xs (out-Operation op).successors (regions_of (out-Operation op).regions) (record { results = (out-Operation op).results; rest = ops_of rest; blocks = blocks_of old.blocks.now }) env (frames_of old) s)
    (model.step ask (place_of old env) s) p.are (step_is ask s old op rest env at)
    (subst
    (λ r. Stepped stands t new m (model.acts ask (form_of (out-Operation op).form) r p.xs (out-Operation op).successors (regions_of (out-Operation op).regions) (record { results = r; rest = ops_of rest; blocks = blocks_of old.blocks.now }) env (frames_of old) s))
    same
    (subst (Stepped stands t new m)
    (sym (without_regions ask s (form_of (out-Operation op).form) rs p.xs (out-Operation op).successors (regions_of (out-Operation op).regions) (record { results = rs; rest = ops_of rest; blocks = blocks_of old.blocks.now }) env (frames_of old) p.alone refl))
    (subst (λ e. Stepped stands t new m (performed ask e (record { results = rs; rest = ops_of rest; blocks = blocks_of old.blocks.now }) env (frames_of old) s)) p.does next)))

pub stopped_there : {S : Type 0} (s : S) (o : Option (List values.Value)) (next : List values.Value → Step Place S) (step : Step Place S)
    → None ≡ o → step ≡ model.stepping (present o) s next → Stopped Outside step
stopped_there s o next step e is = record { state = s; is = is ∙ sym (ap (λ x. model.stepping (present x) s next) e) }

pub two_behind : (head sizes strides : List Value) (a b : Value) (one two : List Value) → value_of a ≡ values.together (values_of sizes) → value_of b ≡ values.together (values_of strides) → one ≡ head ++ a ∷ [] → two ≡ one ++ b ∷ []
    → values_of two ≡ values_of head ++ values.together (values_of sizes) ∷ values.together (values_of strides) ∷ []
two_behind head sizes strides a b one two ea eb e1 e2 =
    ap values_of (e2 ∙ ap (λ l. l ++ b ∷ []) e1 ∙ append_assoc head (a ∷ []) (b ∷ [])) ∙ map-append value_of head (a ∷ b ∷ []) ∙ ap₂ (λ x y. values_of head ++ x ∷ y ∷ []) ea eb
