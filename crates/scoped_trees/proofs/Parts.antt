-- The parts of a printed operation as runs.
use Rattle.std.proofs.Common.{◌≡◌, ℕ, suc, ◌+◌, ◌-◌, Bool, true, false, not, List, [], ◌∷◌, ◌++◌, length, drop, Option, Some, None, refl, sym, ap, ◌∙◌, subst, arith}
use Rattle.std.specs.Prelude.{codes, decimal, ◌==◌}
use Rattle.std.specs.List.{list_all}
use Rattle.std.proofs.lemmas.Bool.{false≢true}
use Rattle.mlir_lex.proofs.Lengths.{and-left, and-right, eqb-is}
use Rattle.text_grammar.specs.declared.kinds.Kind.TheVariants as kinds
use Rattle.text_grammar.specs.declared.places.Place.TheVariants as places
use Rattle.plain_tree.specs.Types.{PlainType}
use Rattle.plain_tree.specs.Attrs.{Entries, dict_in}
use Rattle.plain_tree.specs.Ops.{Values}
use Rattle.rule_model.specs.Formed.{are_formed_types}
use Rattle.text_model.specs.declared.value_name.ValueName.{ValueName}
use Rattle.text_model.specs.declared.value_name.ValueName.TheVariants.{Argument, Single, Part}
use Rattle.text_model.specs.PrintedNames.{Names}
use Rattle.text_model.specs.PrintedOps.{found_number}
use Rattle.text_events.specs.declared.event.Event.{Event}
use Rattle.text_types.specs.Items.{place_next}
use Rattle.text_scopes.specs.declared.bodies.Body.{Body}
use Rattle.text_scopes.specs.declared.steps.Step.TheVariants as steps
use Rattle.text_scopes.specs.Bodies.{behind as body_behind}
use Rattle.text_scopes.specs.Seen.{Turn}
use Rattle.event_trees.specs.declared.counts.Counts.{Counts}
use Rattle.event_trees.specs.Numbers.{begins_operation, first_count}
use Rattle.printed_words.specs.Words.{PrintedWord}
use Rattle.printed_ops.specs.OpWords.{arg_words, args_words, attrs_words, label_words, lead_words, more_args, more_successors, more_uses, operand_types, operands_words, props_words, signature_words, successors_words, use_words, uses_words, value_types}
use Rattle.printed_ops.specs.Named.{are_named, is_alone, is_known_arg, is_named, is_placed}
use Rattle.printed_terms.specs.Told.{spells}
use Rattle.printed_terms.proofs.SeenWords.{Seen, known, one_more, seen, told}
use Rattle.printed_marks.proofs.TypeWords.{type_kept, types_kept, results_kept}
use Rattle.printed_marks.proofs.AttrWords.{dict_kept}
use Rattle.printed_trees.specs.Numbering.{Count, are_counted, none_counted, past_head, past_values}
use Rattle.printed_trees.specs.Roles.{at}
use Rattle.printed_trees.proofs.Fronts.{Front, Passed, after, behind_front, front_kept, here, past, whole}
use Rattle.printed_trees.proofs.Suffixes.{Suffix, next}
use Rattle.printed_trees.proofs.Steps.{skip_waits}
use Rattle.printed_trees.proofs.Parts.{first, passed_to, signature_read}
use Rattle.scoped_trees.proofs.Names.{alone_named, alone_number}
use Rattle.scoped_trees.proofs.States.{Moved, Setting, St, event, st, waits}
use Rattle.scoped_trees.proofs.Runs.{ArgsRun, Calls, Definition, LeadRun, Quiet, Spelt, TargetsRun, UsesRun, args_end, args_more, hush, lead_none, lead_some, quiet, target_at, targets_end, targets_more, uses_end, uses_more}
use Rattle.scoped_trees.proofs.Moves.{arg_moves, colon_moves, count_moves, end_moves, head_moves, hushed_moves, naming, op_moves, quiet_hushed, result_moves, successor_moves, use_moves}

-- a run from what is counted here to what is counted there, over the events up to those behind
pub record To (P : St → St → Type 0) (c d : Counts) (vs ls : List Turn) (es behind : List Event) : Type 0 where
  pub values : List Turn
  pub labels : List Turn
  pub run : P (st c vs ls es) (st d values labels behind)

pub to_count : (P : St → St → Type 0) (c d e : Counts) (vs ls : List Turn) (es behind : List Event) → d ≡ e → To P c d vs ls es behind → To P c e vs ls es behind
to_count P c d e vs ls es behind same t = subst (λ (z : Counts). To P c z vs ls es behind) same t

module _ (g : Setting) (n : Names) where
  abbrev pub Is : List PrintedWord → List Event → Type 0
  Is ws es = Seen g.words g.wording (Suffix g.all) ws es

  -- Quiet events in front of others, and behind them

  pub quiet_join : {x y z : St} → Quiet g n x y → Quiet g n y z → Quiet g n x z
  quiet_join (hush x) r = r
  quiet_join (quiet e m more) r = quiet e m (quiet_join more r)

  pub uses_after : {vs : List ℕ} {x y z : St} → Quiet g n x y → UsesRun g n vs y z → UsesRun g n vs x z
  uses_after q (uses_end r) = uses_end (quiet_join q r)
  uses_after q (uses_more v vs e r m s c h more) = uses_more v vs e (quiet_join q r) m s c h more

  pub uses_then : {vs : List ℕ} {x y z : St} → UsesRun g n vs x y → Quiet g n y z → UsesRun g n vs x z
  uses_then (uses_end r) q = uses_end (quiet_join r q)
  uses_then (uses_more v vs e r m s c h more) q = uses_more v vs e r m s c h (uses_then more q)

  pub targets_after : {deep : Bool} {ls : List ℕ} {x y z : St} → Quiet g n x y → TargetsRun g n deep ls y z → TargetsRun g n deep ls x z
  targets_after q (targets_end deep r) = targets_end deep (quiet_join q r)
  targets_after q (targets_more deep l ls e r m s c h more) = targets_more deep l ls e (quiet_join q r) m s c h more

  pub targets_then : {deep : Bool} {ls : List ℕ} {x y z : St} → TargetsRun g n deep ls x y → Quiet g n y z → TargetsRun g n deep ls x z
  targets_then (targets_end deep r) q = targets_end deep (quiet_join r q)
  targets_then (targets_more deep l ls e r m s c h more) q = targets_more deep l ls e r m s c h (targets_then more q)

  pub args_after : {vs : Values} {x y z : St} → Quiet g n x y → ArgsRun g n vs y z → ArgsRun g n vs x z
  args_after q (args_end r) = args_end (quiet_join q r)
  args_after q (args_more v vs r d more) = args_more v vs (quiet_join q r) d more

  pub args_then : {vs : Values} {x y z : St} → ArgsRun g n vs x y → Quiet g n y z → ArgsRun g n vs x z
  args_then (args_end r) q = args_end (quiet_join r q)
  args_then (args_more v vs r d more) q = args_more v vs r d (args_then more q)

  pub pass_quiet : {es behind : List Event} → Passed es behind → (c : Counts) (vs ls : List Turn) → To (Quiet g n) c c vs ls es behind
  pass_quiet (here es) c vs ls = record { values = vs; labels = ls; run = hush (st c vs ls es) }
  pass_quiet (past e {es} q more) c vs ls =
      let r = pass_quiet more c ((steps.Stays, e) ∷ vs) ((steps.Stays, e) ∷ ls) in
      record { values = r.values; labels = r.labels; run = quiet e (hushed_moves g e.place e.name es c (quiet_hushed e.place q) vs ls) r.run }

  -- words at quiet places
  pub record QuietRead (rest : List PrintedWord) (es : List Event) : Type 0 where
    pub behind : List Event
    pub told_behind : Is rest behind
    pub passed : Passed es behind

  ends : {xs ys : List Event} → Passed xs ys → Suffix g.all xs → Suffix g.all ys
  ends (here xs) s = s
  ends (past e q more) s = ends more (next g.all e _ s)

  pub quiet_to : {ws rest : List PrintedWord} {es : List Event} → Is ws es → Front rest ws → QuietRead rest es
  quiet_to h f =
      let b = behind_front g.words g.wording f (told g.words g.wording (Suffix g.all) h) in
      record { behind = b.behind; told_behind = seen g.words g.wording (Suffix g.all) (next g.all) (ends b.passed (known g.words g.wording (Suffix g.all) h)) b.told; passed = b.passed }

  waits_quiet : {es behind : List Event} → Passed es behind → waits g es ≡ waits g behind
  waits_quiet p = skip_waits g.words g.wording g.aliases g.class g.numbers p

  -- The results and the name

  pub record LeadRead (vs : Values) (name : List ℕ) (rest : List PrintedWord) (es : List Event) : Type 0 where
    pub number : ℕ
    pub others : List Event
    pub there : Suffix g.all (event places.OpName number ∷ others)
    pub behind : List Event
    pub told_behind : Is rest behind
    pub spelled : g.wording.spelled number ≡ spells kinds.Text name
    pub waiting : waits g es ≡ drop 1 (waits g behind)
    pub operation : begins_operation (place_next es) ≡ true
    pub go : (body : Body) (c : Count) (values labels : List Turn) → are_counted c.values vs ≡ true
        → To (LeadRun g n vs) (at body c) (at (body_behind g.class body (event places.OpName number)) (past_values c (first_count (waits g behind)))) values labels es behind

  first_number : (m k : ℕ) → k ≡ m → m + 0 ≡ k
  first_number m k e = omega (arith, e)

  pub lead_read : (gap : List ℕ) (vs : Values) (name : List ℕ) (rest : List PrintedWord) (es : List Event) → are_named n vs ≡ true → Is (lead_words n gap vs name rest) es → LeadRead vs name rest es
  lead_read gap [] name rest es named (one_more w k {es = zs} says there more) = record {
    number = k;
    others = zs;
    there = there;
    behind = zs;
    told_behind = more;
    spelled = says;
    waiting = refl;
    operation = refl;
    go = λ body c values labels counted. record {
      values = (steps.Stays, event places.OpName k) ∷ values;
      labels = (steps.Stays, event places.OpName k) ∷ labels;
      run = lead_none (quiet (event places.OpName k) (op_moves g k zs body c 0 values labels) (hush _));
    };
  }
  lead_read gap (v ∷ []) name rest es named (one_more w r {es = ys} says here_told (one_more x q {es = xs} said _ (one_more y k {es = zs} spelled there more))) = record {
    number = k;
    others = zs;
    there = there;
    behind = zs;
    told_behind = more;
    spelled = spelled;
    waiting = refl;
    operation = refl;
    go = λ body c values labels counted.
        let own : c.values + 0 ≡ v.0 = first_number c.values v.0 (eqb-is v.0 c.values (and-left _ _ counted)) in
        let d : Definition g n v.0 (st (at body c) values labels es) (st (naming body c (0 + 1)) ((steps.Defines, event places.ResultName r) ∷ values) ((steps.Stays, event places.ResultName r) ∷ labels) ys) = record {
          e = event places.ResultName r;
          moved = result_moves g r ys body c values labels;
          spelt = record { place = places.ResultName; rest = ys; naming = refl; there = here_told };
          calls = says ∙ ap (spells kinds.Value) (alone_number (n.name v.0) named);
          named = alone_named (n.name v.0) named;
          number = own;
        } in
        record {
          values = (steps.Stays, event places.OpName k) ∷ (steps.Stays, event places.ResultsEquals q) ∷ (steps.Defines, event places.ResultName r) ∷ values;
          labels = (steps.Stays, event places.OpName k) ∷ (steps.Stays, event places.ResultsEquals q) ∷ (steps.Stays, event places.ResultName r) ∷ labels;
          run = lead_some v [] d (quiet (event places.ResultsEquals q) (hushed_moves g places.ResultsEquals q xs (naming body c (0 + 1)) refl _ _) (quiet (event places.OpName k) (op_moves g k zs body c (0 + 1) _ _) (hush _)));
        };
  }
  lead_read gap (v ∷ u ∷ vs) name rest es named (one_more a r {es = firsts} says here_told (one_more b p {es = bs} said _ (one_more d m {es = ds} counts _ (one_more x q {es = xs} equals _ (one_more y k {es = zs} spelled there more))))) = record {
    number = k;
    others = zs;
    there = there;
    behind = zs;
    told_behind = more;
    spelled = spelled;
    waiting = refl;
    operation = refl;
    go = λ body c values labels counted.
        let own : c.values + 0 ≡ v.0 = first_number c.values v.0 (eqb-is v.0 c.values (and-left _ _ counted)) in
        let one : Definition g n v.0 (st (at body c) values labels es) (st (naming body c (0 + 1)) ((steps.Defines, event places.ResultName r) ∷ values) ((steps.Stays, event places.ResultName r) ∷ labels) firsts) = record {
          e = event places.ResultName r;
          moved = result_moves g r firsts body c values labels;
          spelt = record { place = places.ResultName; rest = firsts; naming = refl; there = here_told };
          calls = says;
          named = and-left _ _ named;
          number = own;
        } in
        record {
          values = (steps.Stays, event places.OpName k) ∷ (steps.Stays, event places.ResultsEquals q) ∷ (steps.Stays, event places.ResultNumber m) ∷ (steps.Stays, event places.ResultColon p) ∷ (steps.Defines, event places.ResultName r) ∷ values;
          labels = (steps.Stays, event places.OpName k) ∷ (steps.Stays, event places.ResultsEquals q) ∷ (steps.Stays, event places.ResultNumber m) ∷ (steps.Stays, event places.ResultColon p) ∷ (steps.Stays, event places.ResultName r) ∷ labels;
          run = lead_some v (u ∷ vs) one
              (quiet (event places.ResultColon p) (hushed_moves g places.ResultColon p bs (naming body c (0 + 1)) refl _ _)
              (quiet (event places.ResultNumber m) (count_moves g m ds body c (0 + 1) _ _)
              (quiet (event places.ResultsEquals q) (hushed_moves g places.ResultsEquals q xs (naming body c (0 + 1 + g.wording.number m - 1)) refl _ _) (quiet (event places.OpName k) (op_moves g k zs body c (0 + 1 + g.wording.number m - 1) _ _) (hush _)))));
        };
  }

  -- Operands

  record OneUse (v : ℕ) (rest : List PrintedWord) (es : List Event) : Type 0 where
    name : ℕ
    others : List Event
    event_is : es ≡ event places.UseName name ∷ others
    spelt : Spelt g n name
    calls : Calls g n v name
    behind : List Event
    told_behind : Is rest behind
    passed : Passed others behind

  use_read : (v : ℕ) (gap : List ℕ) (o : Option ValueName) (rest : List PrintedWord) (es : List Event) → n.name v ≡ o → is_named o ≡ true → Is (use_words gap o rest) es → OneUse v rest es
  use_read v gap None rest es same h t = absurd (false≢true h)
  use_read v gap (Some (Argument k)) rest es same h (one_more w u {es = zs} says there more) = record {
    name = u;
    others = zs;
    event_is = refl;
    spelt = record { place = places.UseName; rest = zs; naming = refl; there = there };
    calls = says ∙ ap (λ o. spells kinds.Value (found_number o)) (sym same);
    behind = zs;
    told_behind = more;
    passed = here zs;
  }
  use_read v gap (Some (Single k)) rest es same h (one_more w u {es = zs} says there more) = record {
    name = u;
    others = zs;
    event_is = refl;
    spelt = record { place = places.UseName; rest = zs; naming = refl; there = there };
    calls = says ∙ ap (λ o. spells kinds.Value (found_number o)) (sym same);
    behind = zs;
    told_behind = more;
    passed = here zs;
  }
  use_read v gap (Some (Part k j)) rest es same h (one_more w u {es = ys} says there (one_more x i {es = zs} index _ more)) = record {
    name = u;
    others = ys;
    event_is = refl;
    spelt = record { place = places.UseName; rest = ys; naming = refl; there = there };
    calls = says ∙ ap (λ o. spells kinds.Value (found_number o)) (sym same);
    behind = zs;
    told_behind = more;
    passed = past (event places.UseNumber i) refl (here zs);
  }

  pub record UsesRead (vs : List ℕ) (rest : List PrintedWord) (es : List Event) : Type 0 where
    pub behind : List Event
    pub told_behind : Is rest behind
    pub waiting : waits g es ≡ waits g behind
    pub go : (c : Counts) (values labels : List Turn) → To (UsesRun g n vs) c c values labels es behind

  uses_one : (v : ℕ) (vs : List ℕ) (rest middle : List PrintedWord) (es : List Event) → is_named (n.name v) ≡ true → OneUse v middle es → ((zs : List Event) → Is middle zs → UsesRead vs rest zs) → UsesRead (v ∷ vs) rest es
  uses_one v vs rest middle es h one others =
      let more = others one.behind one.told_behind in
      record {
        behind = more.behind;
        told_behind = more.told_behind;
        waiting = ap (waits g) one.event_is ∙ waits_quiet one.passed ∙ more.waiting;
        go = λ c values labels.
            let moved = use_moves g one.name one.others c values labels in
            let q = pass_quiet one.passed c ((steps.Uses, event places.UseName one.name) ∷ values) ((steps.Stays, event places.UseName one.name) ∷ labels) in
            let r = more.go c q.values q.labels in
            record {
              values = r.values;
              labels = r.labels;
              run = subst (λ (zs : List Event). UsesRun g n (v ∷ vs) (st c values labels zs) (st c r.values r.labels more.behind)) (sym one.event_is)
                  (uses_more v vs (event places.UseName one.name) (hush _) moved one.spelt one.calls h (uses_after q.run r.run));
            };
      }

  more_uses_read : (vs : List ℕ) (rest : List PrintedWord) (es : List Event) → list_all (λ v. is_named (n.name v)) vs ≡ true → Is (more_uses n vs rest) es → UsesRead vs rest es
  more_uses_read [] rest es h t = record { behind = es; told_behind = t; waiting = refl; go = λ c values labels. record { values = values; labels = labels; run = uses_end (hush _) } }
  more_uses_read (v ∷ vs) rest es h (one_more w k {es = zs} says _ more) =
      let u = uses_one v vs rest (more_uses n vs rest) zs (and-left _ _ h) (use_read v (codes " ") (n.name v) _ zs refl (and-left _ _ h) more) (λ ys t. more_uses_read vs rest ys (and-right (is_named (n.name v)) _ h) t) in
      record {
        behind = u.behind;
        told_behind = u.told_behind;
        waiting = u.waiting;
        go = λ c values labels.
            let r = u.go c ((steps.Stays, event places.UseComma k) ∷ values) ((steps.Stays, event places.UseComma k) ∷ labels) in
            record { values = r.values; labels = r.labels; run = uses_after (quiet (event places.UseComma k) (hushed_moves g places.UseComma k zs c refl values labels) (hush _)) r.run };
      }

  uses_read : (vs : List ℕ) (rest : List PrintedWord) (es : List Event) → list_all (λ v. is_named (n.name v)) vs ≡ true → Is (uses_words n vs rest) es → UsesRead vs rest es
  uses_read [] rest es h t = record { behind = es; told_behind = t; waiting = refl; go = λ c values labels. record { values = values; labels = labels; run = uses_end (hush _) } }
  uses_read (v ∷ vs) rest es h t =
      uses_one v vs rest (more_uses n vs rest) es (and-left _ _ h) (use_read v [] (n.name v) _ es refl (and-left _ _ h) t) (λ ys t. more_uses_read vs rest ys (and-right (is_named (n.name v)) _ h) t)

  pub operands_read : (vs : List ℕ) (rest : List PrintedWord) (es : List Event) → list_all (λ v. is_named (n.name v)) vs ≡ true → Is (operands_words n vs rest) es → UsesRead vs rest es
  operands_read vs rest es h (one_more w k {es = zs} says _ more) =
      let u = uses_read vs _ zs h more in
      let c = first g.words g.wording g.aliases g.class g.numbers g.all u.told_behind in
      record {
        behind = c.behind;
        told_behind = c.here;
        waiting = u.waiting ∙ ap (waits g) c.is;
        go = λ counts values labels.
            let r = u.go counts ((steps.Stays, event places.OperandsOpen k) ∷ values) ((steps.Stays, event places.OperandsOpen k) ∷ labels) in
            let end : Quiet g n (st counts r.values r.labels u.behind) (st counts ((steps.Stays, event places.OperandsClose c.name) ∷ r.values) ((steps.Stays, event places.OperandsClose c.name) ∷ r.labels) c.behind) =
            subst (λ (ys : List Event). Quiet g n (st counts r.values r.labels ys) (st counts ((steps.Stays, event places.OperandsClose c.name) ∷ r.values) ((steps.Stays, event places.OperandsClose c.name) ∷ r.labels) c.behind)) (sym c.is)
            (quiet (event places.OperandsClose c.name) (hushed_moves g places.OperandsClose c.name c.behind counts refl r.values r.labels) (hush _)) in
            record {
              values = (steps.Stays, event places.OperandsClose c.name) ∷ r.values;
              labels = (steps.Stays, event places.OperandsClose c.name) ∷ r.labels;
              run = uses_after (quiet (event places.OperandsOpen k) (hushed_moves g places.OperandsOpen k zs counts refl values labels) (hush _)) (uses_then r.run end);
            };
      }

  -- Successors

  pub record TargetsRead (ls : List ℕ) (rest : List PrintedWord) (es : List Event) : Type 0 where
    pub behind : List Event
    pub told_behind : Is rest behind
    pub waiting : waits g es ≡ waits g behind
    pub go : (deep : Bool) (c : Counts) (values labels : List Turn) → (c.body.within == 0) ≡ not deep → To (TargetsRun g n deep ls) c c values labels es behind

  more_successors_read : (ls : List ℕ) (rest : List PrintedWord) (es : List Event) → list_all (λ l. is_placed (n.position l)) ls ≡ true → Is (more_successors n ls rest) es → TargetsRead ls rest es
  more_successors_read [] rest es h t = record { behind = es; told_behind = t; waiting = refl; go = λ deep c values labels e. record { values = values; labels = labels; run = targets_end deep (hush _) } }
  more_successors_read (l ∷ ls) rest es h (one_more w k {es = ys} says _ (one_more x i {es = zs} said there more)) =
      let others = more_successors_read ls rest zs (and-right (is_placed (n.position l)) _ h) more in
      record {
        behind = others.behind;
        told_behind = others.told_behind;
        waiting = others.waiting;
        go = λ deep c values labels e.
            let r = others.go deep c ((steps.Stays, event places.SuccessorName i) ∷ (steps.Stays, event places.SuccessorComma k) ∷ values) ((target_at deep, event places.SuccessorName i) ∷ (steps.Stays, event places.SuccessorComma k) ∷ labels) e in
            record {
              values = r.values;
              labels = r.labels;
              run = targets_more deep l ls (event places.SuccessorName i) (quiet (event places.SuccessorComma k) (hushed_moves g places.SuccessorComma k ys c refl values labels) (hush _)) (successor_moves g deep i zs c e _ _)
                  (record { place = places.SuccessorName; rest = zs; naming = refl; there = there }) said (and-left _ _ h) r.run;
            };
      }

  pub successors_read : (ls : List ℕ) (rest : List PrintedWord) (es : List Event) → list_all (λ l. is_placed (n.position l)) ls ≡ true → Is (successors_words n ls rest) es → TargetsRead ls rest es
  successors_read [] rest es h t = record { behind = es; told_behind = t; waiting = refl; go = λ deep c values labels e. record { values = values; labels = labels; run = targets_end deep (hush _) } }
  successors_read (l ∷ ls) rest es h (one_more w k {es = ys} says _ (one_more x i {es = zs} said there more)) =
      let u = more_successors_read ls _ zs (and-right (is_placed (n.position l)) _ h) more in
      let c = first g.words g.wording g.aliases g.class g.numbers g.all u.told_behind in
      record {
        behind = c.behind;
        told_behind = c.here;
        waiting = u.waiting ∙ ap (waits g) c.is;
        go = λ deep counts values labels e.
            let r = u.go deep counts ((steps.Stays, event places.SuccessorName i) ∷ (steps.Stays, event places.SuccessorsOpen k) ∷ values) ((target_at deep, event places.SuccessorName i) ∷ (steps.Stays, event places.SuccessorsOpen k) ∷ labels) e in
            let end : Quiet g n (st counts r.values r.labels u.behind) (st counts ((steps.Stays, event places.SuccessorsClose c.name) ∷ r.values) ((steps.Stays, event places.SuccessorsClose c.name) ∷ r.labels) c.behind) =
            subst (λ (ys : List Event). Quiet g n (st counts r.values r.labels ys) (st counts ((steps.Stays, event places.SuccessorsClose c.name) ∷ r.values) ((steps.Stays, event places.SuccessorsClose c.name) ∷ r.labels) c.behind)) (sym c.is)
            (quiet (event places.SuccessorsClose c.name) (hushed_moves g places.SuccessorsClose c.name c.behind counts refl r.values r.labels) (hush _)) in
            record {
              values = (steps.Stays, event places.SuccessorsClose c.name) ∷ r.values;
              labels = (steps.Stays, event places.SuccessorsClose c.name) ∷ r.labels;
              run = targets_more deep l ls (event places.SuccessorName i) (quiet (event places.SuccessorsOpen k) (hushed_moves g places.SuccessorsOpen k ys counts refl values labels) (hush _)) (successor_moves g deep i zs counts e _ _)
                  (record { place = places.SuccessorName; rest = zs; naming = refl; there = there }) said (and-left _ _ h) (targets_then r.run end);
            };
      }

  -- Dictionaries

  pub record PartRead (rest : List PrintedWord) (es : List Event) : Type 0 where
    pub behind : List Event
    pub told_behind : Is rest behind
    pub waiting : waits g es ≡ waits g behind
    pub go : (c : Counts) (values labels : List Turn) → To (Quiet g n) c c values labels es behind

  pub props_read : (ps : Entries) (rest : List PrintedWord) (es : List Event) → Is (props_words ps rest) es → PartRead rest es
  props_read [] rest es t = record { behind = es; told_behind = t; waiting = refl; go = λ c values labels. record { values = values; labels = labels; run = hush _ } }
  props_read (p ∷ ps) rest es (one_more w k {es = ys} says _ (one_more x m {es = zs} said _ more)) =
      let q = quiet_to more (dict_kept (Front rest) (front_kept rest) (dict_in (p ∷ ps)) _ (after _ refl (after _ refl whole))) in
      record {
        behind = q.behind;
        told_behind = q.told_behind;
        waiting = waits_quiet q.passed;
        go = λ c values labels.
            let r = pass_quiet q.passed c ((steps.Stays, event places.PropsOpen m) ∷ (steps.Stays, event places.PropsLess k) ∷ values) ((steps.Stays, event places.PropsOpen m) ∷ (steps.Stays, event places.PropsLess k) ∷ labels) in
            record {
              values = r.values;
              labels = r.labels;
              run = quiet (event places.PropsLess k) (hushed_moves g places.PropsLess k ys c refl values labels) (quiet (event places.PropsOpen m) (hushed_moves g places.PropsOpen m zs c refl _ _) r.run);
            };
      }

  pub attrs_read : (ps : Entries) (rest : List PrintedWord) (es : List Event) → Is (attrs_words ps rest) es → PartRead rest es
  attrs_read [] rest es t = record { behind = es; told_behind = t; waiting = refl; go = λ c values labels. record { values = values; labels = labels; run = hush _ } }
  attrs_read (p ∷ ps) rest es (one_more x m {es = zs} said _ more) =
      let q = quiet_to more (dict_kept (Front rest) (front_kept rest) (dict_in (p ∷ ps)) _ (after _ refl whole)) in
      record {
        behind = q.behind;
        told_behind = q.told_behind;
        waiting = waits_quiet q.passed;
        go = λ c values labels.
            let r = pass_quiet q.passed c ((steps.Stays, event places.DictOpen m) ∷ values) ((steps.Stays, event places.DictOpen m) ∷ labels) in
            record { values = r.values; labels = r.labels; run = quiet (event places.DictOpen m) (hushed_moves g places.DictOpen m zs c refl values labels) r.run };
      }

  -- The function type

  -- of a function: its scope ends
  pub record Ended (body : Body) (c : Count) (vs ls : List Turn) (es behind : List Event) : Type 0 where
    pub e : Event
    pub middle : St
    pub values : List Turn
    pub labels : List Turn
    pub ends : Moved g steps.Ends steps.Stays e (st (at body c) vs ls es) middle
    pub run : Quiet g n middle (st (at body none_counted) values labels behind)

  pub record SignatureRead (results : Values) (rest : List PrintedWord) (es : List Event) : Type 0 where
    pub behind : List Event
    pub told_behind : Is rest behind
    pub waiting : waits g es ≡ length results ∷ waits g behind
    pub go : (body : Body) (c : Count) (values labels : List Turn) → (body.within == 0) ≡ false → To (Quiet g n) (at body c) (at body c) values labels es behind
    pub end : (body : Body) (c : Count) (values labels : List Turn) → (body.within == 0) ≡ true → Ended body c values labels es behind

  pub type_read : (operands : List ℕ) (results : Values) (rest : List PrintedWord) (es : List Event) → are_formed_types (operand_types n operands) ≡ true → are_formed_types (value_types results) ≡ true
      → Is (signature_words n operands results rest) es → SignatureRead results rest es
  type_read operands results rest es f h (one_more w k {es = ys} says there (one_more x m {es = zs} said there_too more)) =
      let s = signature_read g.words g.wording g.aliases g.class g.numbers g.all n operands results rest es f h (one_more w k {es = ys} says there (one_more x m {es = zs} said there_too more)) in
      let inner : Passed zs s.behind =
      passed_to g.words g.wording g.aliases g.class g.numbers g.all more (types_kept (Front rest) (front_kept rest) false (operand_types n operands) _ (after _ refl (after _ refl (results_kept (Front rest) (front_kept rest) false (value_types results) rest whole)))) s.here in
      record {
        behind = s.behind;
        told_behind = s.here;
        waiting = s.waiting;
        go = λ body c values labels e.
            let r = pass_quiet inner (at body c) ((steps.Stays, event places.SignatureOpen m) ∷ (steps.Stays, event places.SignatureColon k) ∷ values) ((steps.Stays, event places.SignatureOpen m) ∷ (steps.Stays, event places.SignatureColon k) ∷ labels) in
            record {
              values = r.values;
              labels = r.labels;
              run = quiet (event places.SignatureColon k) (colon_moves g k ys body c e values labels) (quiet (event places.SignatureOpen m) (hushed_moves g places.SignatureOpen m zs (at body c) refl _ _) r.run);
            };
        end = λ body c values labels e.
            let r = pass_quiet inner (at body none_counted) ((steps.Stays, event places.SignatureOpen m) ∷ (steps.Ends, event places.SignatureColon k) ∷ values) ((steps.Stays, event places.SignatureOpen m) ∷ (steps.Stays, event places.SignatureColon k) ∷ labels) in
            record {
              e = event places.SignatureColon k;
              middle = st (at body none_counted) ((steps.Ends, event places.SignatureColon k) ∷ values) ((steps.Stays, event places.SignatureColon k) ∷ labels) ys;
              values = r.values;
              labels = r.labels;
              ends = end_moves g k ys body c e values labels;
              run = quiet (event places.SignatureOpen m) (hushed_moves g places.SignatureOpen m zs (at body none_counted) refl _ _) r.run;
            };
      }

  -- Arguments

  pub record ArgsRead (vs : Values) (rest : List PrintedWord) (es : List Event) : Type 0 where
    pub behind : List Event
    pub told_behind : Is rest behind
    pub waiting : waits g es ≡ waits g behind
    pub go : (body : Body) (c : Count) (values labels : List Turn) → are_counted c.values vs ≡ true → To (ArgsRun g n vs) (at body c) (at body (past_values c (length vs))) values labels es behind

  no_args : (rest : List PrintedWord) (es : List Event) → Is rest es → ArgsRead [] rest es
  no_args rest es t = record {
    behind = es;
    told_behind = t;
    waiting = refl;
    go = λ body c values labels h. to_count (ArgsRun g n []) (at body c) (at body c) (at body (past_values c 0)) values labels es es (ap (λ k. at body (record { values = k; labels = c.labels })) (none c.values)) (record { values = values; labels = labels; run = args_end (hush _) });
  }
    where
      none : (k : ℕ) → k ≡ k + 0
      none k = omega arith

  one_arg : (v : ℕ × PlainType) (vs : Values) (gap : List ℕ) (middle rest : List PrintedWord) (es : List Event) → is_alone (n.name v.0) ≡ true → Is (arg_words n gap v middle) es → ((zs : List Event) → Is middle zs → ArgsRead vs rest zs) → ArgsRead (v ∷ vs) rest es
  one_arg v vs gap middle rest es h (one_more w k {es = ys} says there (one_more x m {es = zs} said _ more)) others =
      let q = quiet_to more (type_kept (Front middle) (front_kept middle) false places.IntegerWord (codes " ") v.1 middle refl whole) in
      let o = others q.behind q.told_behind in
      record {
        behind = o.behind;
        told_behind = o.told_behind;
        waiting = waits_quiet q.passed ∙ o.waiting;
        go = λ body c values labels counted.
            let own : c.values ≡ v.0 = sym (eqb-is v.0 c.values (and-left _ _ counted)) in
            let d : Definition g n v.0 (st (at body c) values labels es) (st (at body (past_values c 1)) ((steps.Defines, event places.ArgName k) ∷ values) ((steps.Stays, event places.ArgName k) ∷ labels) ys) = record {
              e = event places.ArgName k;
              moved = arg_moves g k ys body c values labels;
              spelt = record { place = places.ArgName; rest = ys; naming = refl; there = there };
              calls = says ∙ ap (spells kinds.Value) (alone_number (n.name v.0) h);
              named = alone_named (n.name v.0) h;
              number = own;
            } in
            let r = pass_quiet q.passed (at body (past_values c 1)) ((steps.Stays, event places.ArgColon m) ∷ (steps.Defines, event places.ArgName k) ∷ values) ((steps.Stays, event places.ArgColon m) ∷ (steps.Stays, event places.ArgName k) ∷ labels) in
            let t = o.go body (past_values c 1) r.values r.labels (and-right (v.0 == c.values) _ counted) in
            to_count (ArgsRun g n (v ∷ vs)) (at body c) (at body (past_values (past_values c 1) (length vs))) (at body (past_values c (suc (length vs)))) values labels es o.behind
            (ap (λ j. at body (record { values = j; labels = c.labels })) (counts c.values (length vs)))
            (record {
              values = t.values;
              labels = t.labels;
              run = args_more v vs (hush _) d (args_after (quiet (event places.ArgColon m) (hushed_moves g places.ArgColon m zs (at body (past_values c 1)) refl _ _) r.run) t.run);
            });
      }
    where
      counts : (n k : ℕ) → n + 1 + k ≡ n + suc k
      counts n k = omega arith

  more_args_read : (vs : Values) (rest : List PrintedWord) (es : List Event) → list_all (is_known_arg n) vs ≡ true → Is (more_args n vs rest) es → ArgsRead vs rest es
  more_args_read [] rest es h t = no_args rest es t
  more_args_read (v ∷ vs) rest es h (one_more w k {es = zs} says _ more) =
      let o = one_arg v vs (codes " ") (more_args n vs rest) rest zs (and-left _ _ (and-left _ _ h)) more (λ ys t. more_args_read vs rest ys (and-right (is_known_arg n v) _ h) t) in
      record {
        behind = o.behind;
        told_behind = o.told_behind;
        waiting = o.waiting;
        go = λ body c values labels counted.
            let r = o.go body c ((steps.Stays, event places.ArgComma k) ∷ values) ((steps.Stays, event places.ArgComma k) ∷ labels) counted in
            record { values = r.values; labels = r.labels; run = args_after (quiet (event places.ArgComma k) (hushed_moves g places.ArgComma k zs (at body c) refl values labels) (hush _)) r.run };
      }

  args_read : (vs : Values) (rest : List PrintedWord) (es : List Event) → list_all (is_known_arg n) vs ≡ true → Is (args_words n vs rest) es → ArgsRead vs rest es
  args_read [] rest es h t = no_args rest es t
  args_read (v ∷ vs) rest es h (one_more w k {es = zs} says _ more) =
      let o = one_arg v vs [] (more_args n vs _) _ zs (and-left _ _ (and-left _ _ h)) more (λ ys t. more_args_read vs _ ys (and-right (is_known_arg n v) _ h) t) in
      let c = first g.words g.wording g.aliases g.class g.numbers g.all o.told_behind in
      record {
        behind = c.behind;
        told_behind = c.here;
        waiting = o.waiting ∙ ap (waits g) c.is;
        go = λ body counts values labels counted.
            let r = o.go body counts ((steps.Stays, event places.ArgsOpen k) ∷ values) ((steps.Stays, event places.ArgsOpen k) ∷ labels) counted in
            let last : Counts = at body (past_values counts (length (v ∷ vs))) in
            let end : Quiet g n (st last r.values r.labels o.behind) (st last ((steps.Stays, event places.ArgsClose c.name) ∷ r.values) ((steps.Stays, event places.ArgsClose c.name) ∷ r.labels) c.behind) =
            subst (λ (ys : List Event). Quiet g n (st last r.values r.labels ys) (st last ((steps.Stays, event places.ArgsClose c.name) ∷ r.values) ((steps.Stays, event places.ArgsClose c.name) ∷ r.labels) c.behind)) (sym c.is)
            (quiet (event places.ArgsClose c.name) (hushed_moves g places.ArgsClose c.name c.behind last refl r.values r.labels) (hush _)) in
            record {
              values = (steps.Stays, event places.ArgsClose c.name) ∷ r.values;
              labels = (steps.Stays, event places.ArgsClose c.name) ∷ r.labels;
              run = args_after (quiet (event places.ArgsOpen k) (hushed_moves g places.ArgsOpen k zs (at body counts) refl values labels) (hush _)) (args_then r.run end);
            };
      }

  -- The head of a block

  pub record HeadRead (k : ℕ) (args : Values) (rest : List PrintedWord) (es : List Event) : Type 0 where
    pub name : ℕ
    pub others : List Event
    pub event_is : es ≡ event places.BlockLabel name ∷ others
    pub spelt : Spelt g n name
    pub calls : g.wording.spelled name ≡ spells kinds.Label (codes "^bb" ++ decimal k)
    pub behind : List Event
    pub told_behind : Is rest behind
    pub waiting : waits g es ≡ waits g behind
    pub operation : begins_operation (place_next es) ≡ false
    pub go : (body : Body) (c : Count) (values labels : List Turn) → (body.within == 0) ≡ false → are_counted c.values args ≡ true
        → To (ArgsRun g n args) (at body (record { values = c.values; labels = c.labels + 1 })) (at body (past_head c args)) values labels others behind

  pub head_read : (indent : List ℕ) (k : ℕ) (args : Values) (rest : List PrintedWord) (es : List Event) → list_all (is_known_arg n) args ≡ true → Is (label_words n indent k args rest) es → HeadRead k args rest es
  head_read indent k args rest es h (one_more w m {es = zs} says there more) =
      let a = args_read args _ zs h more in
      let c = first g.words g.wording g.aliases g.class g.numbers g.all a.told_behind in
      record {
        name = m;
        others = zs;
        event_is = refl;
        spelt = record { place = places.BlockLabel; rest = zs; naming = refl; there = there };
        calls = says;
        behind = c.behind;
        told_behind = c.here;
        waiting = a.waiting ∙ ap (waits g) c.is;
        operation = refl;
        go = λ body counts values labels e counted.
            let r = a.go body (record { values = counts.values; labels = counts.labels + 1 }) values labels counted in
            let last : Counts = at body (past_head counts args) in
            let end : Quiet g n (st last r.values r.labels a.behind) (st last ((steps.Stays, event places.BlockColon c.name) ∷ r.values) ((steps.Stays, event places.BlockColon c.name) ∷ r.labels) c.behind) =
            subst (λ (ys : List Event). Quiet g n (st last r.values r.labels ys) (st last ((steps.Stays, event places.BlockColon c.name) ∷ r.values) ((steps.Stays, event places.BlockColon c.name) ∷ r.labels) c.behind)) (sym c.is)
            (quiet (event places.BlockColon c.name) (head_moves g c.name c.behind body (past_head counts args) e r.values r.labels) (hush _)) in
            record { values = (steps.Stays, event places.BlockColon c.name) ∷ r.values; labels = (steps.Stays, event places.BlockColon c.name) ∷ r.labels; run = args_then r.run end };
      }
