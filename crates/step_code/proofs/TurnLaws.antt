-- What is done, as a turn.
use Rattle.std.proofs.Common.{◌≡◌, ℕ, List, [], ◌∷◌, length, Option, Some, None, refl, min, ◌^◌, sym, ap, subst, ◌∙◌}
use Rattle.number_model.specs.Answers.{present}
use Rattle.operation_model.specs.Values as values
use Rattle.operation_model.specs.Doings.{Doing, Question}
use Rattle.operation_model.specs.Doings.{Doing as doing}
use Rattle.operation_model.specs.Doings.{Question as question}
use Rattle.form_model.specs.Codes.{Ops, Blocks, Env, Target, bind, find_block}
use Rattle.machine_model.specs.Worlds.{Reply, Answers, Refuses}
use Rattle.machine_model.specs.Worlds.{Stop}
use Rattle.machine_model.specs.Machine as model
use Rattle.machine_model.specs.Machine.{Frame, Behind, Step, Place}
use Rattle.table_code.specs.Agreement.{Agrees}
use Rattle.doing_code.specs.Doings.{made_at, Asked}
use Rattle.frame_code.specs.declared.frame.Place.{Place as CodePlace}
use Rattle.frame_code.specs.declared.frame.Moving.{Moving}
use Rattle.frame_code.specs.declared.frame.Moving.TheVariants as moving
use Rattle.frame_code.specs.Frames.{Move, Moved, goes_to, place_of}
use Rattle.step_code.specs.declared.turns.Turn.{Turn}
use Rattle.step_code.specs.Turns.{place_behind, Called, Stepped, turn_of, at_state, ends, after, made, memref_behind, jumps_to, performed}

pub stepped_move : {M S : Type 0} (stands : M → S → Type 0) (mv : Moving) (p : CodePlace) (m : M) (s : S) (u : Move) (step : Step Place S)
    → Moved mv p u → stands m s → step ≡ at_state s u → Stepped stands (turn_of mv) p m step
stepped_move stands moving.Went p m s u step w st e = record { env = w.env; state = s; agrees = w.agrees; stand = st; is = e ∙ ap (at_state s) w.is }
stepped_move stands moving.Undefined p m s u step w st e = record { state = s; is = e ∙ ap (at_state s) w }
stepped_move stands moving.Outside p m s u step w st e = record { state = s; is = e ∙ ap (at_state s) w }

-- what the memory has answered

pub after_answers : {S : Type 0} (s s1 : S) (reply : Reply S) (ys : List values.Value) (b : Behind) (env : Env) (frames : List Frame)
    → reply ≡ Answers ys s1 → after s reply b env frames ≡ at_state s1 (ends ys b env frames)
after_answers s s1 reply ys b env frames e = ap (λ r. after s r b env frames) e

pub after_refuses : {S : Type 0} (s : S) (reply : Reply S) (e : Stop) (b : Behind) (env : Env) (frames : List Frame)
    → reply ≡ Refuses e → after s reply b env frames ≡ model.Stops e s
after_refuses s reply e b env frames h = ap (λ r. after s r b env frames) h

pub made_answers : {S : Type 0} (s s1 : S) (reply : Reply S) (ys sizes strides : List values.Value) (b : Behind) (env : Env) (frames : List Frame)
    → reply ≡ Answers ys s1 → made s reply sizes strides b env frames ≡ at_state s1 (memref_behind sizes strides b env frames ys)
made_answers s s1 reply ys sizes strides b env frames e = ap (λ r. made s r sizes strides b env frames) e

pub made_refuses : {S : Type 0} (s : S) (reply : Reply S) (e : Stop) (sizes strides : List values.Value) (b : Behind) (env : Env) (frames : List Frame)
    → reply ≡ Refuses e → made s reply sizes strides b env frames ≡ model.Stops e s
made_refuses s reply e sizes strides b env frames h = ap (λ r. made s r sizes strides b env frames) h

-- what is done, by cases

within_bound : {S : Type 0} (s : S) (o : Option Env) (ops : Ops) (blocks : Blocks) (frames : List Frame)
    → model.within frames (model.stepping (present o) s (λ env. model.Goes (record { ops = ops; blocks = blocks; env = env }) s))
    ≡ at_state s (model.stepping (present o) tt (λ env. model.Goes (record { spot = record { ops = ops; blocks = blocks; env = env }; frames = frames }) tt))
within_bound s None ops blocks frames = refl
within_bound s (Some env) ops blocks frames = refl

pub does_end : {S : Type 0} (ask : Question → S → Reply S) (ys : List values.Value) (b : Behind) (env : Env) (frames : List Frame) (s : S)
    → performed ask (doing.Ends ys) b env frames s ≡ at_state s (ends ys b env frames)
does_end ask ys b env frames s = within_bound s (bind b.results ys env) b.rest b.blocks frames

asks_on : {S : Type 0} (ask : Question → S → Reply S) (reply : Reply S) (b : Behind) (env : Env) (frames : List Frame) (s : S)
    → model.within frames (model.on_reply s reply (λ ys s1. model.performs ask (doing.Ends ys) b.results (record { ops = b.rest; blocks = b.blocks; env = env }) s1)) ≡ after s reply b env frames
asks_on ask (Answers ys s1) b env frames s = does_end ask ys b env frames s1
asks_on ask (Refuses e) b env frames s = refl

pub does_ask : {S : Type 0} (ask : Question → S → Reply S) (q : Question) (b : Behind) (env : Env) (frames : List Frame) (s : S)
    → performed ask (doing.Asks q doing.Ends) b env frames s ≡ after s (ask q s) b env frames
does_ask ask q b env frames s = asks_on ask (ask q s) b env frames s

same_on : {S : Type 0} (ask : Question → S → Reply S) (reply : Reply S) (f g : List values.Value → Doing) (b : Behind) (env : Env) (frames : List Frame) (s : S) → ((ys : List values.Value) → f ys ≡ g ys)
    → model.within frames (model.on_reply s reply (λ ys s1. model.performs ask (f ys) b.results (record { ops = b.rest; blocks = b.blocks; env = env }) s1))
    ≡ model.within frames (model.on_reply s reply (λ ys s1. model.performs ask (g ys) b.results (record { ops = b.rest; blocks = b.blocks; env = env }) s1))
same_on ask (Answers ys s1) f g b env frames s h = ap (λ d. performed ask d b env frames s1) (h ys)
same_on ask (Refuses e) f g b env frames s h = refl

pub does_same : {S : Type 0} (ask : Question → S → Reply S) (q : Question) (f g : List values.Value → Doing) (b : Behind) (env : Env) (frames : List Frame) (s : S) → ((ys : List values.Value) → f ys ≡ g ys)
    → performed ask (doing.Asks q f) b env frames s ≡ performed ask (doing.Asks q g) b env frames s
does_same ask q f g b env frames s h = same_on ask (ask q s) f g b env frames s h

makes_on : {S : Type 0} (ask : Question → S → Reply S) (reply : Reply S) (sizes strides : List values.Value) (b : Behind) (env : Env) (frames : List Frame) (s : S)
    → model.within frames (model.on_reply s reply (λ ys s1. model.performs ask (made_at sizes strides ys) b.results (record { ops = b.rest; blocks = b.blocks; env = env }) s1)) ≡ made s reply sizes strides b env frames
makes_on ask (Answers [] s1) sizes strides b env frames s = refl
makes_on ask (Answers (y ∷ []) s1) sizes strides b env frames s = does_end ask (values.descriptor (length sizes) y y (values.Integer 0) sizes strides ∷ []) b env frames s1
makes_on ask (Answers (y ∷ z ∷ ys) s1) sizes strides b env frames s = refl
makes_on ask (Refuses e) sizes strides b env frames s = refl

pub does_make : {S : Type 0} (ask : Question → S → Reply S) (q : Question) (sizes strides : List values.Value) (b : Behind) (env : Env) (frames : List Frame) (s : S)
    → performed ask (doing.Asks q (made_at sizes strides)) b env frames s ≡ made s (ask q s) sizes strides b env frames
does_make ask q sizes strides b env frames s = makes_on ask (ask q s) sizes strides b env frames s

jumps_on : {S : Type 0} (o : Option Target) (ys : List values.Value) (b : Behind) (env : Env) (frames : List Frame) (s : S)
    → model.within frames (model.stepping (present o) s (model.at_block ys (record { ops = b.rest; blocks = b.blocks; env = env }) s)) ≡ at_state s (model.stepping (present o) tt (λ t. goes_to t.args ys env t.ops b.blocks frames))
jumps_on None ys b env frames s = refl
jumps_on (Some t) ys b env frames s = within_bound s (bind t.args ys env) t.ops b.blocks frames

pub does_jump : {S : Type 0} (ask : Question → S → Reply S) (l : ℕ) (ys : List values.Value) (b : Behind) (env : Env) (frames : List Frame) (s : S)
    → performed ask (doing.Jumps l ys) b env frames s ≡ at_state s (jumps_to l ys b.blocks env frames)
does_jump ask l ys b env frames s = jumps_on (find_block l b.blocks) ys b env frames s

-- turns of the code, by what is done

pub performed_asks : {M S : Type 0} (stands : M → S → Type 0) (ask : Question → S → Reply S) (t : Turn) (p : CodePlace) (m : M) (q : Question) (d : Doing) (b : Behind) (env : Env) (frames : List Frame) (s : S)
    → doing.Asks q doing.Ends ≡ d → Stepped stands t p m (after s (ask q s) b env frames) → Stepped stands t p m (performed ask d b env frames s)
performed_asks stands ask t p m q d b env frames s e h =
    subst (Stepped stands t p m) (sym (does_ask ask q b env frames s) ∙ ap (λ x. performed ask x b env frames s) e) h

pub performed_asked : {M S : Type 0} (stands : M → S → Type 0) (ask : Question → S → Reply S) (t : Turn) (p : CodePlace) (m : M) (alignment n : ℕ) (d : Doing) (b : Behind) (env : Env) (frames : List Frame) (s : S)
    → Asked alignment n doing.Ends d → ((size : ℕ) → n ≡ min size (2 ^ 65) → Stepped stands t p m (after s (ask (question.Allocate alignment size) s) b env frames)) → Stepped stands t p m (performed ask d b env frames s)
performed_asked stands ask t p m alignment n d b env frames s a h =
    subst (Stepped stands t p m)
    (sym (does_ask ask (question.Allocate alignment a.size) b env frames s) ∙ sym (does_same ask (question.Allocate alignment a.size) a.goes_on doing.Ends b env frames s a.same) ∙ ap (λ x. performed ask x b env frames s) (sym a.is))
    (h a.size a.capped)

pub performed_made : {M S : Type 0} (stands : M → S → Type 0) (ask : Question → S → Reply S) (t : Turn) (p : CodePlace) (m : M) (alignment n : ℕ) (sizes strides : List values.Value) (d : Doing) (b : Behind) (env : Env) (frames : List Frame) (s : S)
    → Asked alignment n (made_at sizes strides) d → ((size : ℕ) → n ≡ min size (2 ^ 65) → Stepped stands t p m (made s (ask (question.Allocate alignment size) s) sizes strides b env frames)) → Stepped stands t p m (performed ask d b env frames s)
performed_made stands ask t p m alignment n sizes strides d b env frames s a h =
    subst (Stepped stands t p m)
    (sym (does_make ask (question.Allocate alignment a.size) sizes strides b env frames s) ∙ sym (does_same ask (question.Allocate alignment a.size) a.goes_on (made_at sizes strides) b env frames s a.same) ∙ ap (λ x. performed ask x b env frames s) (sym a.is))
    (h a.size a.capped)

pub performed_jumps : {M S : Type 0} (stands : M → S → Type 0) (ask : Question → S → Reply S) (mv : Moving) (p : CodePlace) (m : M) (l : ℕ) (ys : List values.Value) (d : Doing) (b : Behind) (env : Env) (frames : List Frame) (s : S)
    → doing.Jumps l ys ≡ d → Moved mv p (jumps_to l ys b.blocks env frames) → stands m s → Stepped stands (turn_of mv) p m (performed ask d b env frames s)
performed_jumps stands ask mv p m l ys d b env frames s e h st =
    stepped_move stands mv p m s (jumps_to l ys b.blocks env frames) (performed ask d b env frames s) h st (sym (ap (λ x. performed ask x b env frames s) e) ∙ does_jump ask l ys b env frames s)

pub performed_calls : {M S : Type 0} (stands : M → S → Type 0) (ask : Question → S → Reply S) (p : CodePlace) (m : M) (f : List ℕ) (ys : List values.Value) (k : List values.Value → Doing) (d : Doing) (b : Behind) (env : Env) (frames : List Frame) (s : S)
    → doing.Calls f ys k ≡ d → place_of p env ≡ place_behind b env frames → Agrees p.table env → stands m s → Called stands p m f ys k b.results (performed ask d b env frames s)
performed_calls stands ask p m f ys k d b env frames s e there agrees st = record {
  env = env;
  state = s;
  agrees = agrees;
  stand = st;
  is = sym (ap (λ x. performed ask x b env frames s) e) ∙ ap (λ q. model.Calls f ys k b.results q s) (sym there);
}
