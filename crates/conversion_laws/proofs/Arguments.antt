-- Where the arguments of a block are converted, casts at its start give the old ones.
use Rattle.std.proofs.Common.{◌≡◌, ℕ, suc, ◌+◌, ◌==◌, ◌≤◌, Bool, true, false, List, [], ◌∷◌, ◌++◌, Option, Some, None, map, refl, sym, ap, ◌∙◌, subst, arith, append_assoc, append-nil}
use Rattle.std.specs.Prelude.{codes, ◌||◌, if◌then◌else◌}
use Rattle.std.proofs.lemmas.Bool.{eqb-true}
use Rattle.conversion_model.proofs.ReconcileLaws.{same_number}
use Rattle.operation_model.specs.Values.{Value}
use Rattle.operation_model.specs.Pures.{Moves}
use Rattle.operation_model.specs.Forms.{Form, Computes}
use Rattle.operation_model.specs.Straight.{does}
use Rattle.form_model.specs.Codes.{Env, lookup, lookups, bind}
use Rattle.plain_tree.specs.Types.{PlainType}
use Rattle.plain_tree.specs.Ops.{Values}
use Rattle.conversion_model.specs.Types.{new_type}
use Rattle.conversion_model.specs.Conversion.{new_argument, new_arguments}
use Rattle.rule_model.specs.Words.{has}
use Rattle.sound_model.specs.Runs.{form_at}
use Rattle.chosen_laws.proofs.Lists.{none_some, some_same}
use Rattle.chosen_laws.proofs.CastForms.{changes_move}
use Rattle.code_laws.specs.PlainCodes.{numbers_in}
use Rattle.sim_laws.proofs.Lines.{Line, Ended, doing_run, line_run, with_values}
use Rattle.sim_laws.proofs.Local.{Agree, Restores}
use Rattle.conversion_laws.proofs.Names.{Distinct, and_values, differ, has_rest, not_same, one_more}

-- the lines of the casts
abbrev pub cast_line : ℕ → (ℕ → PlainType) → ℕ → ℕ × PlainType → Line
cast_line bits ty from a = record {
  form = form_at bits (codes "builtin.unrealized_conversion_cast") [] (map ty (from ∷ [])) (a.1 ∷ []);
  results = a.0 ∷ [];
  operands = from ∷ [];
  labels = [];
}

abbrev pub cast_lines_at : Option PlainType → Line → List Line → List Line
cast_lines_at None line rest = rest
cast_lines_at (Some u) line rest = line ∷ rest

abbrev pub cast_lines : ℕ → (ℕ → PlainType) → (ℕ → ℕ) → ℕ → Values → List Line
cast_lines bits ty new k [] = []
cast_lines bits ty new k (a ∷ args) = cast_lines_at (new_type bits a.1) (cast_line bits ty (new k) a) (cast_lines bits ty new (k + 1) args)

-- each new argument has its converted type
abbrev pub ArgumentTyped : Option PlainType → (ℕ → PlainType) → ℕ → Type 0
ArgumentTyped None ty n = Unit {0}
ArgumentTyped (Some u) ty n = ty n ≡ u

abbrev pub ArgumentsTyped : ℕ → (ℕ → PlainType) → (ℕ → ℕ) → ℕ → Values → Type 0
ArgumentsTyped bits ty new k [] = Unit {0}
ArgumentsTyped bits ty new k (a ∷ args) = ArgumentTyped (new_type bits a.1) ty (new k) × ArgumentsTyped bits ty new (k + 1) args

-- each argument's number is old
abbrev pub ArgsOld : (ℕ → Type 0) → Values → Type 0
ArgsOld P [] = Unit {0}
ArgsOld P (a ∷ args) = P a.0 × ArgsOld P args

-- an argument that waits for its cast: its number, the new one, and its value
record Waiting : Type 0 where
  old : ℕ
  now : ℕ
  value : Value

abbrev AllWait : (Waiting → Type 0) → List Waiting → Type 0
AllWait Q [] = Unit {0}
AllWait Q (w ∷ ws) = Q w × AllWait Q ws

all_wait : (Q S : Waiting → Type 0) → ((w : Waiting) → Q w → S w) → (ws : List Waiting) → AllWait Q ws → AllWait S ws
all_wait Q S f [] each = tt
all_wait Q S f (w ∷ ws) each = (f w each.0, all_wait Q S f ws each.1)

all_behind : (Q : Waiting → Type 0) (ws : List Waiting) (w : Waiting) → AllWait Q ws → Q w → AllWait Q (ws ++ w ∷ [])
all_behind Q [] w each h = (h, tt)
all_behind Q (v ∷ ws) w each h = (each.0, all_behind Q ws w each.1 h)

abbrev olds : List Waiting → List ℕ
olds ws = map (λ w. w.old) ws

has_behind : (n : ℕ) (ws : List Waiting) (w : Waiting) → has n (olds (ws ++ w ∷ [])) ≡ false → ((w.old == n) ≡ false) × (has n (olds ws) ≡ false)
has_behind n [] w h = (let r = has_rest w.old n [] h in (r.0, refl))
has_behind n (v ∷ ws) w h =
    let r = has_rest v.old n (olds (ws ++ w ∷ [])) h in
    let s = has_behind n ws w r.1 in
    (s.0, ap (λ b. b || has n (olds ws)) r.0 ∙ s.1)

module _ (P : ℕ → Type 0) (bits : ℕ) (ty : ℕ → PlainType) (new : ℕ → ℕ) (apart : (j k : ℕ) → new j ≡ new k → j ≡ k) (not_old : (k j : ℕ) → P j → (new k == j) ≡ false) where
  turned : (m k : ℕ) → (m == k) ≡ false → (k == m) ≡ false
  turned m k is = differ k m (λ same. not_same m k is (sym same))

  over : (n m : ℕ) (v : Value) (env : Env) → (n == m) ≡ false → lookup m ((n, v) ∷ env) ≡ lookup m env
  over n m v env other = ap (λ b. if b then Some v else lookup m env) other

  top : (n : ℕ) (v : Value) (env : Env) → lookup n ((n, v) ∷ env) ≡ Some v
  top n v env = ap (λ b. if b then Some v else lookup n env) (same_number n n refl)

  -- the source's values and the target's, where these arguments wait
  record Inv (ws : List Waiting) (e b : Env) : Type 0 where
    agree : (n : ℕ) → P n → has n (olds ws) ≡ false → lookup n e ≡ lookup n b
    waiting : AllWait (λ w. P w.old × (lookup w.old e ≡ Some w.value) × (lookup w.now b ≡ Some w.value)) ws
    are_new : AllWait (λ w. (j : ℕ) → P j → (w.now == j) ≡ false) ws

  data LinesFor : List Waiting → List Line → Type 0 where
    no_lines : LinesFor [] []
    more_lines : {w : Waiting} {ws : List Waiting} {form : Form} {lines : List Line} → form ≡ Computes Moves → LinesFor ws lines
        → LinesFor (w ∷ ws) (record { form = form; results = w.old ∷ []; operands = w.now ∷ []; labels = [] } ∷ lines)

  lines_behind : {ws : List Waiting} {lines : List Line} (w : Waiting) (form : Form) → form ≡ Computes Moves → LinesFor ws lines → LinesFor (ws ++ w ∷ []) (lines ++ record { form = form; results = w.old ∷ []; operands = w.now ∷ []; labels = [] } ∷ [])
  lines_behind w form is no_lines = more_lines is no_lines
  lines_behind w form is (more_lines h rest) = more_lines h (lines_behind w form is rest)

  cast_runs : (form : Form) (old now : ℕ) (v : Value) (b : Env) (lines : List Line) → form ≡ Computes Moves → lookup now b ≡ Some v
      → line_run (record { form = form; results = old ∷ []; operands = now ∷ []; labels = [] } ∷ lines) b ≡ line_run lines ((old, v) ∷ b)
  cast_runs form old now v b lines is found =
      ap (λ o. with_values o (λ vs. doing_run (does form [] vs) (old ∷ []) b (λ e. line_run lines e))) (and_values {xs = lookups [] b} found refl)
      ∙ ap (λ f. doing_run (does f [] (v ∷ [])) (old ∷ []) b (λ e. line_run lines e)) is

  -- the casts give the old arguments
  casts_run : (ws : List Waiting) (lines : List Line) (e b : Env) → LinesFor ws lines → Inv ws e b → (e' : Env) × (line_run lines b ≡ Ended e') × Agree P e e'
  casts_run _ _ e b no_lines inv = (b, refl, λ n old. inv.agree n old refl)
  casts_run _ _ e b (more_lines {w = w} {ws = ws} {form = form} {lines = lines} is rest) inv =
      let r = casts_run ws lines e ((w.old, w.value) ∷ b) rest (record {
        agree = λ n old among. by_old n old (w.old == n) refl among;
        waiting = next_wait ws inv.waiting.1 inv.are_new.1;
        are_new = inv.are_new.1;
      }) in
      (r.0, cast_runs form w.old w.now w.value b lines is inv.waiting.0.2 ∙ r.1, r.2)
    where
      by_old : (n : ℕ) → P n → (c : Bool) → (w.old == n) ≡ c → has n (olds ws) ≡ false → lookup n e ≡ lookup n ((w.old, w.value) ∷ b)
      by_old n old true same among =
          ap (λ k. lookup k e) (sym (eqb-true w.old n same)) ∙ inv.waiting.0.1 ∙ sym (ap (λ c. if c then Some w.value else lookup n b) same)
      by_old n old false same among = inv.agree n old (ap (λ c. c || has n (olds ws)) same ∙ among) ∙ sym (over w.old n w.value b same)

      next_wait : (vs : List Waiting) → AllWait (λ v. P v.old × (lookup v.old e ≡ Some v.value) × (lookup v.now b ≡ Some v.value)) vs → AllWait (λ v. (j : ℕ) → P j → (v.now == j) ≡ false) vs
          → AllWait (λ v. P v.old × (lookup v.old e ≡ Some v.value) × (lookup v.now ((w.old, w.value) ∷ b) ≡ Some v.value)) vs
      next_wait [] each news = tt
      next_wait (v ∷ vs) each news = ((each.0.0, each.0.1, over w.old v.now w.value b (turned v.now w.old (news.0 w.old inv.waiting.0.0)) ∙ each.0.2), next_wait vs each.1 news.1)

  record Bound (e1 : Env) (o : Option Env) (lines : List Line) : Type 0 where
    env : Env
    is : o ≡ Some env
    left : List Waiting
    inv : Inv left e1 env
    left_lines : LinesFor left lines

  bind_next : (c : Option PlainType) (a : ℕ × PlainType) (k : ℕ) (x : Value) (ws : List Waiting) (lines : List Line) (rest : List Line) (numbers new_numbers : List ℕ) (xs : List Value) (e b e1 : Env)
      → new_type bits a.1 ≡ c → P a.0 → ArgumentTyped c ty (new k) → Inv ws e b → AllWait (λ w. has w.old (a.0 ∷ numbers) ≡ false) ws → AllWait (λ w. (j : ℕ) × (w.now ≡ new j) × (suc j ≤ k)) ws → has a.0 numbers ≡ false → LinesFor ws lines
      → ((ws1 : List Waiting) (lines1 : List Line) (b1 : Env) → Inv ws1 ((a.0, x) ∷ e) b1 → AllWait (λ w. has w.old numbers ≡ false) ws1 → AllWait (λ w. (j : ℕ) × (w.now ≡ new j) × (suc j ≤ k + 1)) ws1 → LinesFor ws1 lines1
      → Bound e1 (bind new_numbers xs b1) (lines1 ++ rest))
      → Bound e1 (bind ((new_argument (new k) a c).0 ∷ new_numbers) (x ∷ xs) b) (lines ++ cast_lines_at c (cast_line bits ty (new k) a) rest)
  bind_next None a k x ws lines rest numbers new_numbers xs e b e1 is old typed inv out before distinct h again =
      again ws lines ((a.0, x) ∷ b)
      (record {
        agree = λ n is_old among. both_over n (a.0 == n) (inv.agree n is_old among);
        waiting = still ws inv.waiting inv.are_new out;
        are_new = inv.are_new;
      })
      (all_wait _ _ (λ w o. (has_rest a.0 w.old numbers o).1) ws out) (all_wait _ _ (λ w j. (j.0, j.1, omega (arith, j.2))) ws before) h
    where
      both_over : (n : ℕ) (c : Bool) → lookup n e ≡ lookup n b → (if c then Some x else lookup n e) ≡ (if c then Some x else lookup n b)
      both_over n true same = refl
      both_over n false same = same

      still : (vs : List Waiting) → AllWait (λ v. P v.old × (lookup v.old e ≡ Some v.value) × (lookup v.now b ≡ Some v.value)) vs → AllWait (λ v. (j : ℕ) → P j → (v.now == j) ≡ false) vs → AllWait (λ w. has w.old (a.0 ∷ numbers) ≡ false) vs
          → AllWait (λ v. P v.old × (lookup v.old ((a.0, x) ∷ e) ≡ Some v.value) × (lookup v.now ((a.0, x) ∷ b) ≡ Some v.value)) vs
      still [] each news out = tt
      still (v ∷ vs) each news out =
          ((each.0.0, over a.0 v.old x e (has_rest a.0 v.old numbers out.0).0 ∙ each.0.1, over a.0 v.now x b (turned v.now a.0 (news.0 a.0 old)) ∙ each.0.2), still vs each.1 news.1 out.1)
  bind_next (Some u) a k x ws lines rest numbers new_numbers xs e b e1 is old typed inv out before distinct h again =
      let w : Waiting = record { old = a.0; now = new k; value = x } in
      let line : Line = cast_line bits ty (new k) a in
      let moves : form_at bits (codes "builtin.unrealized_conversion_cast") [] (ty (new k) ∷ []) (a.1 ∷ []) ≡ Computes Moves =
      ap (λ t. form_at bits (codes "builtin.unrealized_conversion_cast") [] (t ∷ []) (a.1 ∷ [])) typed ∙ (changes_move bits true).back a.1 u is in
      subst (λ ls. Bound e1 (bind (new k ∷ new_numbers) (x ∷ xs) b) ls) (append_assoc lines (line ∷ []) rest)
      (again (ws ++ w ∷ []) (lines ++ line ∷ []) ((new k, x) ∷ b)
      (record {
        agree = λ n is_old among. let m = has_behind n ws w among in over a.0 n x e m.0 ∙ inv.agree n is_old m.1 ∙ sym (over (new k) n x b (not_old k n is_old));
        waiting = all_behind _ ws w (still ws inv.waiting out before) (old, top a.0 x e, top (new k) x b);
        are_new = all_behind _ ws w inv.are_new (λ j is_old. not_old k j is_old);
      })
      (all_behind _ ws w (all_wait _ _ (λ v o. (has_rest a.0 v.old numbers o).1) ws out) distinct)
      (all_behind _ ws w (all_wait _ _ (λ v j. (j.0, j.1, omega (arith, j.2))) ws before) (k, refl, omega arith))
      (lines_behind w line.form moves h))
    where
      apart_from : (n j : ℕ) → n ≡ new j → suc j ≤ k → (new k == n) ≡ false
      apart_from n j same less = differ (new k) n (λ e. omega (arith, apart k j (e ∙ same), less))

      still : (vs : List Waiting) → AllWait (λ v. P v.old × (lookup v.old e ≡ Some v.value) × (lookup v.now b ≡ Some v.value)) vs → AllWait (λ w. has w.old (a.0 ∷ numbers) ≡ false) vs → AllWait (λ w. (j : ℕ) × (w.now ≡ new j) × (suc j ≤ k)) vs
          → AllWait (λ v. P v.old × (lookup v.old ((a.0, x) ∷ e) ≡ Some v.value) × (lookup v.now ((new k, x) ∷ b) ≡ Some v.value)) vs
      still [] each out before = tt
      still (v ∷ vs) each out before =
          ((each.0.0, over a.0 v.old x e (has_rest a.0 v.old numbers out.0).0 ∙ each.0.1, over (new k) v.now x b (apart_from v.now before.0.0 before.0.1 before.0.2) ∙ each.0.2), still vs each.1 out.1 before.1)

  bind_args : (args : Values) (k : ℕ) (xs : List Value) (ws : List Waiting) (lines : List Line) (e b e1 : Env) → ArgsOld P args → Distinct (numbers_in args) → ArgumentsTyped bits ty new k args
      → Inv ws e b → AllWait (λ w. has w.old (numbers_in args) ≡ false) ws → AllWait (λ w. (j : ℕ) × (w.now ≡ new j) × (suc j ≤ k)) ws → LinesFor ws lines → bind (numbers_in args) xs e ≡ Some e1
      → Bound e1 (bind (numbers_in (new_arguments bits new k args)) xs b) (lines ++ cast_lines bits ty new k args)
  bind_args [] k [] ws lines e b e1 old distinct typed inv out before h is = record {
    env = b;
    is = refl;
    left = ws;
    inv = subst (λ z. Inv ws z b) (some_same is) inv;
    left_lines = subst (LinesFor ws) (sym (append-nil lines)) h;
  }
  bind_args [] k (x ∷ xs) ws lines e b e1 old distinct typed inv out before h is = absurd (none_some is)
  bind_args (a ∷ args) k [] ws lines e b e1 old distinct typed inv out before h is = absurd (none_some is)
  bind_args (a ∷ args) k (x ∷ xs) ws lines e b e1 old (one_more single distinct) typed inv out before h is =
      bind_next (new_type bits a.1) a k x ws lines (cast_lines bits ty new (k + 1) args) (numbers_in args) (numbers_in (new_arguments bits new (k + 1) args)) xs e b e1 refl old.0 typed.0 inv out before single h
      (λ ws1 lines1 b1 inv1 out1 before1 h1. bind_args args (k + 1) xs ws1 lines1 ((a.0, x) ∷ e) b1 e1 old.1 distinct typed.1 inv1 out1 before1 h1 is)

  -- Where the new arguments are bound the casts give the old ones.
  pub args_restored : (args : Values) → ArgsOld P args → Distinct (numbers_in args) → ArgumentsTyped bits ty new 0 args
      → Restores P (numbers_in args) (numbers_in (new_arguments bits new 0 args)) (cast_lines bits ty new 0 args)
  args_restored args old distinct typed xs env env' e agree is =
      let b = bind_args args 0 xs [] [] env env' e old distinct typed (record { agree = λ n is_old among. agree n is_old; waiting = tt; are_new = tt }) tt tt no_lines is in
      (b.env, b.is, casts_run b.left (cast_lines bits ty new 0 args) e b.env b.left_lines b.inv)
