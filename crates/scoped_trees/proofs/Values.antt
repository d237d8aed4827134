-- The values of a scoped function: each use finds the definition of what is used.
use Rattle.std.proofs.Common.{◌≡◌, inr, ℕ, suc, ◌+◌, ◌||◌, Bool, true, false, List, [], ◌∷◌, ◌++◌, length, get_or, Option, Some, None, refl, sym, ap, ◌∙◌, subst, true≢false, arith}
use Rattle.std.specs.Prelude.{◌==◌}
use Rattle.std.specs.List.{list_all}
use Rattle.std.proofs.lemmas.Bool.{false≢true}
use Rattle.mlir_lex.proofs.Lengths.{and-left, and-right, eqb-is}
use Rattle.text_grammar.specs.declared.kinds.Kind.TheVariants as kinds
use Rattle.plain_tree.specs.Ops.{Op, op, Ops, Regions, region, Blocks, block, Values}
use Rattle.text_model.specs.declared.value_name.ValueName.{ValueName}
use Rattle.text_model.specs.PrintedNames.{Names}
use Rattle.text_model.specs.PrintedOps.{found_number}
use Rattle.text_events.specs.declared.event.Event.{Event}
use Rattle.text_scopes.specs.declared.steps.Step.{Step}
use Rattle.text_scopes.specs.declared.steps.Step.TheVariants as steps
use Rattle.text_scopes.specs.Seen.{Turn, resolved, stands_for, told}
use Rattle.scope_laws.specs.Turns.{Ahead, Near, RightAhead}
use Rattle.scope_laws.proofs.TurnLaws.{Found, ahead_flat, ahead_here, enter, found_right, move}
use Rattle.named_trees.specs.Named.{ArgsNamed, BlocksNamed, OpNamed, OpsNamed, Owns, RegionsNamed, ResultsNamed, Share, shown}
use Rattle.printed_ops.specs.Named.{is_named}
use Rattle.printed_terms.specs.Told.{spells}
use Rattle.printed_trees.specs.Serving.{Serve, Use, block_uses, index_in, op_uses, operand_uses, ops_uses, region_uses}
use Rattle.scoped_trees.specs.Scoped.{are_scoped, are_scoped_blocks, are_scoped_regions, blocks_define, blocks_have, is_among, is_scoped, ops_define, results_of}
use Rattle.scoped_trees.specs.Laws.{NamesAgree}
use Rattle.scoped_trees.proofs.Turns.{AllAhead, AllBack, AllRight, move_all, nothing_told, open_all, right_ahead, right_back, tells_nothing}
use Rattle.scoped_trees.proofs.Names.{number_shown, same_shown}
use Rattle.scoped_trees.proofs.States.{Aligned, Listed, Moved, Setting, St, ahead, ahead_moved, ahead_opens, ahead_closes, aligned_listed, aligned_moved, before_opens, listed_nest, listed_one, number_here}
use Rattle.scoped_trees.proofs.Runs.{ArgsRun, BlocksRun, BodyRun, Calls, Definition, LeadRun, OpsRun, Quiet, RegionsRun, Spelt, TargetsRun, UsesRun, args_end, args_listed, args_more, blocks_end, blocks_hidden, blocks_label, blocks_listed, body_listed, body_run, definition_listed, hush, lead_listed, lead_none, lead_some, ops_end, ops_listed, ops_more, quiet, quiet_listed, regions_end, regions_more, targets_end, targets_listed, targets_more, uses_end, uses_listed, uses_more}

or_false : (a b : Bool) → a ≡ false → (a || b) ≡ true → b ≡ true
or_false true b e h = absurd (true≢false e)
or_false false b e h = h

some_name : (o : Option ValueName) → is_named o ≡ true → (w : ValueName) × (o ≡ Some w)
some_name None h = absurd (false≢true h)
some_name (Some w) h = (w, refl)

-- the values that are printed as the first result
share_of : (n : Names) (u v : ℕ) (vs : Values) → Share n u vs → is_among v vs ≡ true → shown (n.name v) ≡ shown (n.name u)
share_of n u v [] s h = absurd (false≢true h)
share_of n u v (w ∷ ws) s h = by_test (w.0 == v) refl h (λ more. share_of n u v ws s.2 more)
  where
    by_test : (b : Bool) → (w.0 == v) ≡ b → (b || is_among v ws) ≡ true → (is_among v ws ≡ true → shown (n.name v) ≡ shown (n.name u)) → shown (n.name v) ≡ shown (n.name u)
    by_test true e h deep = ap (λ k. shown (n.name k)) (sym (eqb-is w.0 v e)) ∙ s.1
    by_test false e h deep = deep h

module _ (g : Setting) (n : Names) (agree : NamesAgree g.wording g.all) where
  -- two names of the text that spell the same
  pub one_name : (a b : ℕ) → Spelt g n a → Spelt g n b → g.wording.spelled a ≡ g.wording.spelled b → a ≡ b
  one_name a b p q e = agree p.place q.place a b p.there.front p.rest q.there.front q.rest p.naming q.naming p.there.is q.there.is e

  -- what holds of a definition: its number is that of each value that is printed with its name, less the index
  abbrev pub R : ℕ → ℕ → Type 0
  R a place = (v : ℕ) (w : ValueName) → n.name v ≡ Some w → is_named (Some w) ≡ true → g.wording.spelled a ≡ spells kinds.Value (found_number (Some w)) → get_or g.numbers place 0 + index_in (Some w) ≡ v

  definition_right : {u : ℕ} {x y : St} (d : Definition g n u x y) → Owns n u → Aligned g true x → R d.e.name (length x.values)
  definition_right {u} {x} d owns al = λ v w e small s.
      let alike : shown (Some w) ≡ shown (n.name u) = same_shown (Some w) (n.name u) small d.named (sym s ∙ d.calls) in
      ap (λ k. k + index_in (Some w)) (number_here g true d.moved al ∙ d.number) ∙ sym (owns v w e alike)

  -- Definitions ahead

  abbrev pub Front : St → Type 0
  Front x = AllAhead R (length x.values) (ahead g true x)

  abbrev passes : Step → Bool
  passes steps.Defines = false
  passes steps.Ends = false
  passes _ = true

  pass_front : (s : Step) (e : Event) (at : ℕ) (ts : List Turn) → passes s ≡ true → AllAhead R (suc at) ts → AllAhead R at ((s, e) ∷ ts)
  pass_front steps.Defines e at ts h f = absurd (true≢false (sym h))
  pass_front steps.Ends e at ts h f = absurd (true≢false (sym h))
  pass_front _ e at ts h f = f

  later : {s t : Step} {e : Event} {x y : St} → Moved g s t e x y → Front y → AllAhead R (suc (length x.values)) (ahead g true y)
  later {y = y} m f = subst (λ (k : ℕ). AllAhead R k (ahead g true y)) (ap length m.values_is) f

  pub front_pass : {s t : Step} {e : Event} {x y : St} → passes s ≡ true → Moved g s t e x y → Front y → Front x
  front_pass {s} {t} {e} {x} {y} h m f = subst (λ (ts : List Turn). AllAhead R (length x.values) ts) (sym (ahead_moved g true m)) (pass_front s e (length x.values) (ahead g true y) h (later m f))

  front_define : {t : Step} {e : Event} {x y : St} → Moved g steps.Defines t e x y → R e.name (length x.values) → Front y → Front x
  front_define {t} {e} {x} {y} m r f = subst (λ (ts : List Turn). AllAhead R (length x.values) ts) (sym (ahead_moved g true m)) (r, later m f)

  pub front_end : {t : Step} {e : Event} {x y : St} → Moved g steps.Ends t e x y → Front x
  front_end {t} {e} {x} {y} m = subst (λ (ts : List Turn). AllAhead R (length x.values) ts) (sym (ahead_moved g true m)) tt

  pub quiet_front : {x y : St} → Quiet g n x y → Front y → Front x
  quiet_front (hush x) f = f
  quiet_front (quiet e m more) f = front_pass refl m (quiet_front more f)

  lead_front : {vs : Values} {x y : St} → ResultsNamed n vs → LeadRun g n vs x y → Aligned g true x → Front y → Front x
  lead_front names (lead_none q) al f = quiet_front q f
  lead_front names (lead_some v vs d q) al f = front_define d.moved (definition_right d names.0 al) (quiet_front q f)

  uses_front : {vs : List ℕ} {x y : St} → UsesRun g n vs x y → Front y → Front x
  uses_front (uses_end q) f = quiet_front q f
  uses_front (uses_more v vs e q m s c h more) f = quiet_front q (front_pass refl m (uses_front more f))

  targets_front : {deep : Bool} {ls : List ℕ} {x y : St} → TargetsRun g n deep ls x y → Front y → Front x
  targets_front (targets_end deep q) f = quiet_front q f
  targets_front (targets_more deep l ls e q m s c h more) f = quiet_front q (front_pass refl m (targets_front more f))

  args_front : {vs : Values} {x y : St} → ArgsNamed n vs → ArgsRun g n vs x y → Aligned g true x → Front y → Front x
  args_front names (args_end q) al f = quiet_front q f
  args_front names (args_more v vs q d more) al f =
      let here = aligned_listed g (quiet_listed g n true true q) al in
      quiet_front q (front_define d.moved (definition_right d names.0 here) (args_front names.2 more (aligned_moved g true d.moved here) f))

  mutual
    pub body_front : {deep : Bool} {o : Op} {x y : St} → OpNamed n o → BodyRun g n deep o x y → Aligned g true x → Front y → Front x
    body_front names (body_run deep k results operands regions successors lead uses targets inner q) al f =
        let one = aligned_listed g (lead_listed g n true lead) al in
        let two = aligned_listed g (uses_listed g n true true uses) one in
        let three = aligned_listed g (targets_listed g n true true targets) two in
        lead_front names.0 lead al (uses_front uses (targets_front targets (regions_front names.1 inner three (quiet_front q f))))

    ops_front : {os : Ops} {x y : St} → OpsNamed n os → OpsRun g n os x y → Aligned g true x → Front y → Front x
    ops_front names (ops_end x) al f = f
    ops_front names (ops_more o os b q more) al f =
        let one = aligned_listed g (body_listed g n true b) al in
        let two = aligned_listed g (quiet_listed g n true true q) one in
        body_front names.0 b al (quiet_front q (ops_front names.1 more two f))

    regions_front : {rs : Regions} {x y : St} → RegionsNamed n rs → RegionsRun g n rs x y → Aligned g true x → Front y → Front x
    regions_front names (regions_end q) al f = quiet_front q f
    regions_front names (regions_more blocks rest e h q m inner l more) al f =
        let one = aligned_listed g (quiet_listed g n true true q) al in
        let two = aligned_moved g true m one in
        let three = aligned_listed g (blocks_listed g n true inner) two in
        let four = aligned_moved g true l three in
        quiet_front q (front_pass refl m (blocks_front names.0 inner two (front_pass refl l (regions_front names.1 more four f))))

    blocks_front : {k : ℕ} {bs : Blocks} {x y : St} → BlocksNamed n k bs → BlocksRun g n k bs x y → Aligned g true x → Front y → Front x
    blocks_front names (blocks_end k x) al f = f
    blocks_front names (blocks_label k label args ops more e m s c h u a os rest) al f =
        let one = aligned_moved g true m al in
        let two = aligned_listed g (args_listed g n true a) one in
        let three = aligned_listed g (ops_listed g n true os) two in
        front_pass refl m (args_front names.1 a one (ops_front names.2 os two (blocks_front names.3 rest three f)))
    blocks_front names (blocks_hidden k label args ops more none h os rest) al f =
        let three = aligned_listed g (ops_listed g n true os) al in
        ops_front names.2 os al (blocks_front names.3 rest three f)

  -- A value of a region is defined in it

  abbrev Defined : ℕ → St → Type 0
  Defined v x = (a : ℕ) → Spelt g n a → Calls g n v a → Ahead true a (ahead g true x)

  defined_behind : {d : Bool} {x y : St} (v : ℕ) → Listed g true d x y → Defined v y → Defined v x
  defined_behind {d} {x} {y} v l h = λ a s c. subst (λ (ts : List Turn). Ahead true a ts) (sym l.ahead_is) (ahead_flat true a l.level (ahead g true y) (h a s c))

  defined_here : {u : ℕ} {x y : St} (v : ℕ) → Definition g n u x y → shown (n.name v) ≡ shown (n.name u) → Defined v x
  defined_here {u} {x} {y} v d alike = λ a s c.
      let text : found_number (n.name v) ≡ found_number (n.name u) = number_shown (n.name v) ∙ ap found_number alike ∙ sym (number_shown (n.name u)) in
      let same : d.e.name ≡ a = one_name d.e.name a d.spelt s (d.calls ∙ ap (spells kinds.Value) (sym text) ∙ sym c) in
      subst (λ (ts : List Turn). Ahead true a ts) (sym (ahead_moved g true d.moved)) (ahead_here true a d.e (ahead g true y) same)

  lead_defined : {vs : Values} {x y : St} (v : ℕ) → ResultsNamed n vs → LeadRun g n vs x y → is_among v vs ≡ true → Defined v x
  lead_defined v names (lead_none q) h = absurd (false≢true h)
  lead_defined v names (lead_some u us d q) h = defined_here v d (share_of n u.0 v (u ∷ us) names.1 h)

  args_defined : {vs : Values} {x y : St} (v : ℕ) → ArgsRun g n vs x y → is_among v vs ≡ true → Defined v x
  args_defined v (args_end q) h = absurd (false≢true h)
  args_defined v (args_more u us {x} {a} {b} q d more) h = by_test (u.0 == v) refl h (λ k. args_defined v more k)
    where
      by_test : (t : Bool) → (u.0 == v) ≡ t → (t || is_among v us) ≡ true → (is_among v us ≡ true → Defined v b) → Defined v x
      by_test true e h deep = defined_behind v (quiet_listed g n true true q) (defined_here v d (ap (λ k. shown (n.name k)) (sym (eqb-is u.0 v e))))
      by_test false e h deep = defined_behind v (quiet_listed g n true true q) (defined_behind v (definition_listed g n true d) (deep h))

  body_defined : {deep : Bool} {o : Op} {x y : St} (v : ℕ) → OpNamed n o → BodyRun g n deep o x y → is_among v (results_of o) ≡ true → Defined v x
  body_defined v names (body_run deep k results operands regions successors lead uses targets inner q) h = lead_defined v names.0 lead h

  ops_defined : {os : Ops} {x y : St} (v : ℕ) → OpsNamed n os → OpsRun g n os x y → ops_define v os ≡ true → Defined v x
  ops_defined v names (ops_end x) h = absurd (false≢true h)
  ops_defined v names (ops_more o os {x} {b = z} b q more) h = by_test (is_among v (results_of o)) refl h (λ k. ops_defined v names.1 more k)
    where
      by_test : (t : Bool) → is_among v (results_of o) ≡ t → (t || ops_define v os) ≡ true → (ops_define v os ≡ true → Defined v z) → Defined v x
      by_test true e h deep = body_defined v names.0 b e
      by_test false e h deep = defined_behind v (body_listed g n true b) (defined_behind v (quiet_listed g n true true q) (deep h))

  pub blocks_defined : {k : ℕ} {bs : Blocks} {x y : St} (v : ℕ) → BlocksNamed n k bs → BlocksRun g n k bs x y → blocks_define v bs ≡ true → Defined v x
  blocks_defined v names (blocks_end k x) h = absurd (false≢true h)
  blocks_defined v names (blocks_label k label args ops more e {x} {b} {c = z} m s c t u arguments os rest) h = by_args (is_among v args) refl h (λ j. blocks_defined v names.3 rest j)
    where
      by_ops : (q : Bool) → ops_define v ops ≡ q → (q || blocks_define v more) ≡ true → (blocks_define v more ≡ true → Defined v z) → Defined v b
      by_ops true e h deep = ops_defined v names.2 os e
      by_ops false e h deep = defined_behind v (ops_listed g n true os) (deep h)

      by_args : (q : Bool) → is_among v args ≡ q → (q || (ops_define v ops || blocks_define v more)) ≡ true → (blocks_define v more ≡ true → Defined v z) → Defined v x
      by_args true e h deep = defined_behind v (listed_one g true true refl m) (args_defined v arguments e)
      by_args false e h deep = defined_behind v (listed_one g true true refl m) (defined_behind v (args_listed g n true arguments) (by_ops (ops_define v ops) refl h deep))
  blocks_defined v names (blocks_hidden k label args ops more {x} {b = z} none t os rest) h =
      by_ops (ops_define v ops) refl (or_false (is_among v args) (ops_define v ops || blocks_define v more) (ap (is_among v) none) h) (λ j. blocks_defined v names.3 rest j)
    where
      by_ops : (q : Bool) → ops_define v ops ≡ q → (q || blocks_define v more) ≡ true → (blocks_define v more ≡ true → Defined v z) → Defined v x
      by_ops true e h deep = ops_defined v names.2 os e
      by_ops false e h deep = defined_behind v (ops_listed g n true os) (deep h)

  -- What is in scope

  pub record Looks (known : ℕ → Bool) (x : St) : Type 0 where
    pub near : (v : ℕ) → known v ≡ true → (a : ℕ) → Spelt g n a → Calls g n v a → Near true a x.values (ahead g true x)
    pub right : AllRight R x.values (ahead g true x)

  pub looks_listed : {known : ℕ → Bool} {d : Bool} {x y : St} → Listed g true d x y → Looks known x → Looks known y
  looks_listed {known} {d} {x} {y} l k = record {
    near = λ v h a s c. subst (λ (ts : List Turn). Near true a ts (ahead g true y)) (sym l.before_is) (move true a l.level x.values (ahead g true y) (subst (λ (ts : List Turn). Near true a x.values ts) l.ahead_is (k.near v h a s c)));
    right = subst (λ (ts : List Turn). AllRight R ts (ahead g true y)) (sym l.before_is) (move_all R l.level x.values (ahead g true y) (subst (λ (ts : List Turn). AllRight R x.values ts) l.ahead_is k.right));
  }

  -- into a region
  looks_within : {known : ℕ → Bool} {bs : Blocks} {e f : Event} {x b c z : St} → Moved g steps.Opens steps.Opens e x b → BlocksNamed n 0 bs → BlocksRun g n 0 bs b c → Moved g steps.Closes steps.Closes f c z → Looks known x
      → Looks (λ v. known v || blocks_define v bs) b
  looks_within {known} {bs} {e} {f} {x} {b} {c} {z} m names inner l k = record {
    near = λ v h a s call. by_test v a s call (known v) refl h;
    right = subst (λ (ts : List Turn). AllRight R ts (ahead g true b)) (sym (before_opens g true m)) (open_all R e x.values (ahead g true b) (subst (λ (ts : List Turn). AllRight R x.values ts) (ahead_opens g true m) k.right));
  }
    where
      li : Listed g true true b c
      li = blocks_listed g n true inner

      inside : ahead g true b ≡ li.between ++ (steps.Closes, f) ∷ ahead g true z
      inside = li.ahead_is ∙ ap (λ ts. li.between ++ ts) (ahead_closes g true l)

      by_test : (v a : ℕ) → Spelt g n a → Calls g n v a → (t : Bool) → known v ≡ t → (t || blocks_define v bs) ≡ true → Near true a b.values (ahead g true b)
      by_test v a s call true e1 h =
          subst (λ (ts : List Turn). Near true a ts (ahead g true b)) (sym (before_opens g true m))
          (subst (λ (ts : List Turn). Near true a ((steps.Opens, e) ∷ x.values) ts) (sym inside)
          (enter a e f x.values li.between (ahead g true z) li.level
          (subst (λ (ts : List Turn). Near true a x.values ts) (ahead_opens g true m ∙ ap (λ ts. (steps.Opens, e) ∷ ts) inside) (k.near v e1 a s call))))
      by_test v a s call false e1 h = inr (blocks_defined v names inner h a s call)

  -- Uses

  abbrev pub found : St → List (Option ℕ)
  found x = resolved true x.values (ahead g true x)

  found_moved : {s t : Step} {e : Event} {x y : St} → Moved g s t e x y → found x ≡ told s (stands_for true e.name x.values (ahead g true y)) ++ found y
  found_moved {s} {t} {e} {x} {y} m =
      ap (resolved true x.values) (ahead_moved g true m) ∙ ap (λ (b : List Turn). told s (stands_for true e.name x.values (ahead g true y)) ++ resolved true b (ahead g true y)) (sym m.values_is)

  pub found_still : {s t : Step} {e : Event} {x y : St} → tells_nothing s ≡ true → Moved g s t e x y → found x ≡ found y
  found_still {s} {t} {e} {x} {y} h m = found_moved m ∙ nothing_told s (stands_for true e.name x.values (ahead g true y)) (found y) h

  pub found_quiet : {x y : St} → Quiet g n x y → found x ≡ found y
  found_quiet (hush x) = refl
  found_quiet (quiet e m more) = found_still refl m ∙ found_quiet more

  found_lead : {vs : Values} {x y : St} → LeadRun g n vs x y → found x ≡ found y
  found_lead (lead_none q) = found_quiet q
  found_lead (lead_some v vs d q) = found_still refl d.moved ∙ found_quiet q

  found_targets : {deep : Bool} {ls : List ℕ} {x y : St} → TargetsRun g n deep ls x y → found x ≡ found y
  found_targets (targets_end deep q) = found_quiet q
  found_targets (targets_more deep l ls e q m s c h more) = found_quiet q ∙ found_still refl m ∙ found_targets more

  found_args : {vs : Values} {x y : St} → ArgsRun g n vs x y → found x ≡ found y
  found_args (args_end q) = found_quiet q
  found_args (args_more v vs q d more) = found_quiet q ∙ found_still refl d.moved ∙ found_args more

  abbrev pub Served : List Use → St → Type 0
  Served us x = Serve g.numbers us (found x)

  pub served_by : {ds fs : List (Option ℕ)} (us : List Use) → ds ≡ fs → Serve g.numbers us fs → Serve g.numbers us ds
  served_by us e s = subst (λ (ds : List (Option ℕ)). Serve g.numbers us ds) (sym e) s

  -- a use of a value in scope
  use_found : {known : ℕ → Bool} {e : Event} {a b : St} (v : ℕ) → Moved g steps.Uses steps.Stays e a b → Spelt g n e.name → Calls g n v e.name → known v ≡ true → Looks known a → Found true R e.name (stands_for true e.name a.values (ahead g true b))
  use_found {known} {e} {a} {b} v m s c h k =
      found_right true R e.name a.values (ahead g true b) (right_back R 0 a.values k.right.back)
      (subst (λ (j : ℕ). RightAhead true R 0 j (ahead g true b)) (one (length a.values)) (right_ahead R 0 (suc (length a.values)) (ahead g true b) (subst (λ (ts : List Turn). AllAhead R (length a.values) ts) (ahead_moved g true m) k.right.front)))
      (subst (λ (ts : List Turn). Near true e.name a.values ts) (ahead_moved g true m) (k.near v h e.name s c))
    where
      one : (j : ℕ) → suc j ≡ j + 1
      one j = omega arith

  use_serve : {known : ℕ → Bool} {e : Event} {a b : St} (v : ℕ) (us : List Use) → Moved g steps.Uses steps.Stays e a b → Spelt g n e.name → Calls g n v e.name → is_named (n.name v) ≡ true → known v ≡ true → Looks known a
      → Served us b → Served ((index_in (n.name v), v) ∷ us) a
  use_serve {known} {e} {a} {b} v us m s c small h k rest =
      let f = use_found v m s c h k in
      let (w, is) = some_name (n.name v) small in
      let own : get_or g.numbers f.place 0 + index_in (Some w) ≡ v = f.right v w is (sym (ap is_named is) ∙ small) (c ∙ ap (λ o. spells kinds.Value (found_number o)) is) in
      subst (λ (ds : List (Option ℕ)). Serve g.numbers ((index_in (n.name v), v) ∷ us) ds) (sym (found_moved m ∙ ap (λ (d : Option ℕ). d ∷ found b) f.is))
      (ap (λ o. get_or g.numbers f.place 0 + index_in o) is ∙ own, rest)

  uses_serve : {known : ℕ → Bool} {vs : List ℕ} {x y : St} (us : List Use) → UsesRun g n vs x y → list_all known vs ≡ true → Looks known x → Served us y → Served (operand_uses n vs us) x
  uses_serve us (uses_end q) h k s = served_by us (found_quiet q) s
  uses_serve {known} us (uses_more v vs e q m p c small more) h k s =
      let here = looks_listed (quiet_listed g n true true q) k in
      served_by (operand_uses n (v ∷ vs) us) (found_quiet q)
      (use_serve v (operand_uses n vs us) m p c small (and-left _ _ h) here (uses_serve us more (and-right (known v) _ h) (looks_listed (listed_one g true true refl m) here) s))

  mutual
    pub body_serve : {known : ℕ → Bool} (labels : ℕ → Bool) {deep : Bool} {o : Op} {x y : St} (us : List Use) → BodyRun g n deep o x y → OpNamed n o → is_scoped known labels o ≡ true → Looks known x → Served us y → Served (op_uses n o us) x
    body_serve {known} labels us (body_run deep k results operands regions successors lead uses targets inner q) names h look s =
        let one = looks_listed (lead_listed g n true lead) look in
        let two = looks_listed (uses_listed g n true true uses) one in
        let three = looks_listed (targets_listed g n true true targets) two in
        served_by (op_uses n (op k results operands regions successors) us) (found_lead lead)
        (uses_serve (region_uses n regions us) uses (and-left _ _ h) one
        (served_by (region_uses n regions us) (found_targets targets)
        (regions_serve us inner names.1 (and-right (list_all labels successors) _ (and-right (list_all known operands) _ h)) three (served_by us (found_quiet q) s))))

    ops_serve : {known : ℕ → Bool} (labels : ℕ → Bool) {os : Ops} {x y : St} (us : List Use) → OpsRun g n os x y → OpsNamed n os → are_scoped known labels os ≡ true → Looks known x → Served us y → Served (ops_uses n os us) x
    ops_serve labels us (ops_end x) names h look s = s
    ops_serve {known} labels us (ops_more o os b q more) names h look s =
        let one = looks_listed (body_listed g n true b) look in
        let two = looks_listed (quiet_listed g n true true q) one in
        body_serve labels (ops_uses n os us) b names.0 (and-left _ _ h) look (served_by (ops_uses n os us) (found_quiet q) (ops_serve labels us more names.1 (and-right (is_scoped known labels o) _ h) two s))

    regions_serve : {known : ℕ → Bool} {rs : Regions} {x y : St} (us : List Use) → RegionsRun g n rs x y → RegionsNamed n rs → are_scoped_regions known rs ≡ true → Looks known x → Served us y → Served (region_uses n rs us) x
    regions_serve us (regions_end q) names h look s = served_by us (found_quiet q) s
    regions_serve {known} us (regions_more blocks rest e f q m inner l more) names h look s =
        let one = looks_listed (quiet_listed g n true true q) look in
        let within = looks_within m names.0 inner l one in
        let behind = looks_listed (listed_nest g true true m (blocks_listed g n true inner) l) one in
        served_by (region_uses n (region blocks rest) us) (found_quiet q ∙ found_still refl m)
        (blocks_serve (λ l. blocks_have l blocks) (region_uses n rest us) inner names.0 (and-left _ _ h) within
        (served_by (region_uses n rest us) (found_still refl l) (regions_serve us more names.1 (and-right (are_scoped_blocks (λ v. known v || blocks_define v blocks) (λ l. blocks_have l blocks) blocks) _ h) behind s)))

    blocks_serve : {known : ℕ → Bool} (labels : ℕ → Bool) {k : ℕ} {bs : Blocks} {x y : St} (us : List Use) → BlocksRun g n k bs x y → BlocksNamed n k bs → are_scoped_blocks known labels bs ≡ true → Looks known x → Served us y → Served (block_uses n bs us) x
    blocks_serve labels us (blocks_end k x) names h look s = s
    blocks_serve {known} labels us (blocks_label k label args ops more e m p c t u a os rest) names h look s =
        let one = looks_listed (listed_one g true true refl m) look in
        let two = looks_listed (args_listed g n true a) one in
        let three = looks_listed (ops_listed g n true os) two in
        served_by (block_uses n (block label args ops more) us) (found_still refl m ∙ found_args a)
        (ops_serve labels (block_uses n more us) os names.2 (and-left _ _ h) two (blocks_serve labels us rest names.3 (and-right (are_scoped known labels ops) _ h) three s))
    blocks_serve {known} labels us (blocks_hidden k label args ops more none t os rest) names h look s =
        let three = looks_listed (ops_listed g n true os) look in
        ops_serve labels (block_uses n more us) os names.2 (and-left _ _ h) look (blocks_serve labels us rest names.3 (and-right (are_scoped known labels ops) _ h) three s)

  -- A function sees its own results
  pub function_looks : {o : Op} {x y z : St} {e : Event} {t : Step} → OpNamed n o → BodyRun g n false o x y → Moved g steps.Ends t e y z → Aligned g true x → AllBack R x.values → Looks (λ v. is_among v (results_of o)) x
  function_looks names b m al back = record {
    near = λ v h a s c. inr (body_defined v names b h a s c);
    right = record { back = back; front = body_front names b al (front_end m) };
  }
