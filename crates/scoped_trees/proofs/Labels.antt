-- The labels of a scoped function: each successor finds its block.
use Rattle.std.proofs.Common.{◌≡◌, inr, ℕ, zero, suc, ◌+◌, ◌||◌, Bool, true, false, List, ◌∷◌, ◌++◌, length, get_or, Option, Some, None, refl, sym, ap, ◌∙◌, subst, true≢false, arith}
use Rattle.std.specs.Prelude.{◌==◌, codes, decimal}
use Rattle.std.specs.List.{list_all}
use Rattle.std.proofs.lemmas.Bool.{false≢true}
use Rattle.mlir_lex.proofs.Lengths.{and-left, and-right, eqb-is}
use Rattle.text_grammar.specs.declared.kinds.Kind.TheVariants as kinds
use Rattle.plain_tree.specs.Ops.{Op, op, Ops, Regions, region, Blocks, end_of_blocks, block, Values}
use Rattle.text_model.specs.PrintedNames.{Names}
use Rattle.text_model.specs.PrintedOps.{found_label}
use Rattle.text_events.specs.declared.event.Event.{Event}
use Rattle.text_scopes.specs.declared.steps.Step.{Step}
use Rattle.text_scopes.specs.declared.steps.Step.TheVariants as steps
use Rattle.text_scopes.specs.Seen.{Turn, resolved, stands_for, told}
use Rattle.scope_laws.specs.Turns.{Ahead, Near, RightAhead, RightBack}
use Rattle.scope_laws.proofs.TurnLaws.{Rights, ahead_flat, ahead_here, found_right, length_pass, move, move_rights}
use Rattle.named_trees.specs.Named.{BlocksNamed, OpNamed, OpsNamed, RegionsNamed}
use Rattle.printed_ops.specs.Named.{is_placed, is_small}
use Rattle.printed_terms.specs.Told.{spells}
use Rattle.printed_trees.specs.Serving.{ServeLabels, block_targets, op_targets, ops_targets, region_targets, successor_targets}
use Rattle.scoped_trees.specs.Scoped.{are_scoped, are_scoped_blocks, are_scoped_regions, blocks_define, blocks_have, is_scoped}
use Rattle.scoped_trees.specs.Laws.{NamesAgree}
use Rattle.scoped_trees.proofs.Turns.{nothing_told, skip_level, tells_nothing}
use Rattle.scoped_trees.proofs.Names.{same_label}
use Rattle.scoped_trees.proofs.Targets.{BlocksTarget, OpTargets, OpsTarget, RegionsTarget}
use Rattle.scoped_trees.proofs.States.{Aligned, Listed, Moved, Setting, St, ahead, ahead_closes, ahead_moved, aligned_listed, aligned_moved, before_opens, listed_join, listed_one, number_here}
use Rattle.scoped_trees.proofs.Runs.{ArgsRun, BlocksRun, BodyRun, CallsLabel, LeadRun, OpsRun, Quiet, RegionsRun, Spelt, TargetsRun, UsesRun, args_end, args_listed, args_more, blocks_end, blocks_hidden, blocks_label, blocks_listed, body_listed, body_run, hush, lead_listed, lead_none, lead_some, ops_end, ops_listed, ops_more, quiet, quiet_listed, regions_end, regions_more, target_at, targets_end, targets_listed, targets_more, uses_end, uses_listed, uses_more, wider}
use Rattle.scoped_trees.proofs.Values.{one_name}

-- the label of the block at a position
abbrev pub label_at : Blocks → ℕ → Option ℕ
label_at end_of_blocks j = None
label_at (block label args ops more) zero = Some label
label_at (block label args ops more) (suc j) = label_at more j

-- where a label is among blocks
record Placed (n : Names) (k l : ℕ) (bs : Blocks) : Type 0 where
  index : ℕ
  position : n.position l ≡ Some (k + index)
  label_is : label_at bs index ≡ Some l

placed : (n : Names) (k l : ℕ) (bs : Blocks) → BlocksNamed n k bs → blocks_have l bs ≡ true → Placed n k l bs
placed n k l end_of_blocks names h = absurd (false≢true h)
placed n k l (block label args ops more) names h = by_test (label == l) refl h (λ j. placed n (k + 1) l more names.3 j)
  where
    by_test : (b : Bool) → (label == l) ≡ b → (b || blocks_have l more) ≡ true → (blocks_have l more ≡ true → Placed n (k + 1) l more) → Placed n k l (block label args ops more)
    by_test true e h deep =
        let same : label ≡ l = eqb-is label l e in
        let none : k ≡ k + 0 = omega arith in
        record { index = 0; position = ap n.position (sym same) ∙ names.0 ∙ ap (λ j. Some j) none; label_is = ap (λ j. Some j) same }
    by_test false e h deep =
        let p = deep h in
        let sums : k + 1 + p.index ≡ k + suc p.index = omega arith in
        record { index = suc p.index; position = p.position ∙ ap (λ j. Some j) sums; label_is = p.label_is }

some_is : (x y : ℕ) → ◌≡◌ {A = Option ℕ} (Some x) (Some y) → x ≡ y
some_is x y e = cc

module _ (g : Setting) (n : Names) (agree : NamesAgree g.wording g.all) where
  -- what holds of a definition of a label among these blocks
  abbrev pub R : Blocks → ℕ → ℕ → Type 0
  R bs a place = (j : ℕ) → is_small j ≡ true → g.wording.spelled a ≡ spells kinds.Label (codes "^bb" ++ decimal j) → label_at bs j ≡ Some (get_or g.numbers place 0)

  abbrev Front : Blocks → St → Type 0
  Front bs x = RightAhead false (R bs) 0 (length x.labels) (ahead g false x)

  -- events without labels at their level
  front_behind : (bs : Blocks) {x y : St} → Listed g false false x y → Front bs y → Front bs x
  front_behind bs {x} {y} l f =
      subst (λ (ts : List Turn). RightAhead false (R bs) 0 (length x.labels) ts) (sym l.ahead_is)
      (skip_level false (R bs) refl l.level (length x.labels) (ahead g false y)
      (subst (λ (k : ℕ). RightAhead false (R bs) 0 k (ahead g false y)) (ap length l.before_is ∙ length_pass x.labels l.between) f))

  front_label : (bs : Blocks) {e : Event} {x y : St} → Moved g steps.Stays steps.Defines e x y → R bs e.name (length x.labels) → Front bs y → Front bs x
  front_label bs {e} {x} {y} m r f =
      subst (λ (ts : List Turn). RightAhead false (R bs) 0 (length x.labels) ts) (sym (ahead_moved g false m)) (r, subst (λ (k : ℕ). RightAhead false (R bs) 0 k (ahead g false y)) (ap length m.labels_is) f)

  front_close : (bs : Blocks) {e : Event} {x y : St} → Moved g steps.Closes steps.Closes e x y → Front bs x
  front_close bs {e} {x} {y} m = subst (λ (ts : List Turn). RightAhead false (R bs) 0 (length x.labels) ts) (sym (ahead_closes g false m)) tt

  -- the blocks from a position on, of all blocks
  blocks_front : {k : ℕ} {bs : Blocks} {x y : St} (all : Blocks) → BlocksRun g n k bs x y → ((i : ℕ) → label_at bs i ≡ label_at all (k + i)) → Aligned g false x → Front all y → Front all x
  blocks_front all (blocks_end k x) same al f = f
  blocks_front all (blocks_label k label args ops more e {x} {a} {b} {c} m s call few own arguments os rest) same al f =
      let one = aligned_moved g false m al in
      let inner = listed_join g (args_listed g n false arguments) (ops_listed g n false os) in
      front_label all m (λ j small spelled. here j (same_label j k small few (sym spelled ∙ call)))
      (front_behind all inner (blocks_front all rest (λ i. later i) (aligned_listed g inner one) f))
    where
      none : k + 0 ≡ k
      none = omega arith

      here : (j : ℕ) → j ≡ k → label_at all j ≡ Some (get_or g.numbers (length x.labels) 0)
      here j e1 = ap (label_at all) (e1 ∙ sym none) ∙ sym (same 0) ∙ ap (λ l. Some l) (sym (number_here g false m al ∙ own))

      later : (i : ℕ) → label_at more i ≡ label_at all (k + 1 + i)
      later i = let sums : k + suc i ≡ k + 1 + i = omega arith in same (suc i) ∙ ap (label_at all) sums
  blocks_front all (blocks_hidden k label args ops more none t os rest) same al f =
      front_behind all (ops_listed g n false os) (blocks_front all rest (λ i. later i) (aligned_listed g (ops_listed g n false os) al) f)
    where
      later : (i : ℕ) → label_at more i ≡ label_at all (k + 1 + i)
      later i = let sums : k + suc i ≡ k + 1 + i = omega arith in same (suc i) ∙ ap (label_at all) sums

  -- A label of a region that is a target is defined in it

  abbrev Defined : ℕ → St → Type 0
  Defined l x = (a : ℕ) → Spelt g n a → CallsLabel g n l a → Ahead false a (ahead g false x)

  defined_behind : {d : Bool} {x y : St} (l : ℕ) → Listed g false d x y → Defined l y → Defined l x
  defined_behind {d} {x} {y} l t h = λ a s c. subst (λ (ts : List Turn). Ahead false a ts) (sym t.ahead_is) (ahead_flat false a t.level (ahead g false y) (h a s c))

  blocks_defined : {k : ℕ} {bs : Blocks} {x y : St} (l : ℕ) → BlocksNamed n k bs → BlocksRun g n k bs x y → blocks_have l bs ≡ true → n.is_target l ≡ true → Defined l x
  blocks_defined l names (blocks_end k x) h t = absurd (false≢true h)
  blocks_defined l names (blocks_label k label args ops more e {x} {a} {b} {c} m s call few own arguments os rest) h t = by_test (label == l) refl h (λ j. blocks_defined l names.3 rest j t)
    where
      by_test : (q : Bool) → (label == l) ≡ q → (q || blocks_have l more) ≡ true → (blocks_have l more ≡ true → Defined l c) → Defined l x
      by_test true e1 h deep = λ z sz cz.
          let position : n.position l ≡ Some k = ap n.position (sym (eqb-is label l e1)) ∙ names.0 in
          let same : e.name ≡ z = one_name g n agree e.name z s sz (call ∙ sym (cz ∙ ap (λ o. spells kinds.Label (found_label o)) position)) in
          subst (λ (ts : List Turn). Ahead false z ts) (sym (ahead_moved g false m)) (ahead_here false z e (ahead g false a) same)
      by_test false e1 h deep = defined_behind l (listed_join g (listed_one g false true refl m) (listed_join g (wider g n (args_listed g n false arguments)) (wider g n (ops_listed g n false os)))) (deep h)
  blocks_defined l names (blocks_hidden k label args ops more {x} {b} none hidden os rest) h t = by_test (label == l) refl h (λ j. blocks_defined l names.3 rest j t)
    where
      by_test : (q : Bool) → (label == l) ≡ q → (q || blocks_have l more) ≡ true → (blocks_have l more ≡ true → Defined l b) → Defined l x
      by_test true e1 h deep = absurd (true≢false (sym t ∙ ap n.is_target (sym (eqb-is label l e1)) ∙ hidden))
      by_test false e1 h deep = defined_behind l (ops_listed g n false os) (deep h)

  -- What is in scope: the blocks of a region
  pub record Looks (bs : Blocks) (x : St) : Type 0 where
    pub named : BlocksNamed n 0 bs
    pub near : (l : ℕ) → blocks_have l bs ≡ true → n.is_target l ≡ true → (a : ℕ) → Spelt g n a → CallsLabel g n l a → Near false a x.labels (ahead g false x)
    pub rights : Rights false (R bs) x.labels (ahead g false x)

  looks_listed : {bs : Blocks} {d : Bool} {x y : St} → Listed g false d x y → Looks bs x → Looks bs y
  looks_listed {bs} {d} {x} {y} l k = record {
    named = k.named;
    near = λ v h t a s c. subst (λ (ts : List Turn). Near false a ts (ahead g false y)) (sym l.before_is) (move false a l.level x.labels (ahead g false y) (subst (λ (ts : List Turn). Near false a x.labels ts) l.ahead_is (k.near v h t a s c)));
    rights = subst (λ (ts : List Turn). Rights false (R bs) ts (ahead g false y)) (sym l.before_is) (move_rights false (R bs) l.level x.labels (ahead g false y) (subst (λ (ts : List Turn). Rights false (R bs) x.labels ts) l.ahead_is k.rights));
  }

  looks_within : {bs : Blocks} {e f : Event} {x b c z : St} → Moved g steps.Opens steps.Opens e x b → BlocksNamed n 0 bs → BlocksRun g n 0 bs b c → Moved g steps.Closes steps.Closes f c z → Aligned g false b → Looks bs b
  looks_within {bs} {e} {f} {x} {b} {c} {z} m names inner l al = record {
    named = names;
    near = λ v h t a s call. inr (blocks_defined v names inner h t a s call);
    rights = record {
      back = subst (λ (ts : List Turn). RightBack false (R bs) 0 ts) (sym (before_opens g false m)) tt;
      ahead_right = blocks_front bs inner (λ i. ap (label_at bs) (zero_plus i)) al (front_close bs l);
    };
  }
    where
      zero_plus : (i : ℕ) → i ≡ 0 + i
      zero_plus i = omega arith

  -- Successors

  abbrev pub found : St → List (Option ℕ)
  found x = resolved false x.labels (ahead g false x)

  found_moved : {s t : Step} {e : Event} {x y : St} → Moved g s t e x y → found x ≡ told t (stands_for false e.name x.labels (ahead g false y)) ++ found y
  found_moved {s} {t} {e} {x} {y} m =
      ap (resolved false x.labels) (ahead_moved g false m) ∙ ap (λ (b : List Turn). told t (stands_for false e.name x.labels (ahead g false y)) ++ resolved false b (ahead g false y)) (sym m.labels_is)

  pub found_still : {s t : Step} {e : Event} {x y : St} → tells_nothing t ≡ true → Moved g s t e x y → found x ≡ found y
  found_still {s} {t} {e} {x} {y} h m = found_moved m ∙ nothing_told t (stands_for false e.name x.labels (ahead g false y)) (found y) h

  pub found_quiet : {x y : St} → Quiet g n x y → found x ≡ found y
  found_quiet (hush x) = refl
  found_quiet (quiet e m more) = found_still refl m ∙ found_quiet more

  pub found_lead : {vs : Values} {x y : St} → LeadRun g n vs x y → found x ≡ found y
  found_lead (lead_none q) = found_quiet q
  found_lead (lead_some v vs d q) = found_still refl d.moved ∙ found_quiet q

  pub found_uses : {vs : List ℕ} {x y : St} → UsesRun g n vs x y → found x ≡ found y
  found_uses (uses_end q) = found_quiet q
  found_uses (uses_more v vs e q m s c h more) = found_quiet q ∙ found_still refl m ∙ found_uses more

  found_args : {vs : Values} {x y : St} → ArgsRun g n vs x y → found x ≡ found y
  found_args (args_end q) = found_quiet q
  found_args (args_more v vs q d more) = found_quiet q ∙ found_still refl d.moved ∙ found_args more

  abbrev pub Served : List ℕ → St → Type 0
  Served ts x = ServeLabels g.numbers ts (found x)

  pub served_by : {ds fs : List (Option ℕ)} (ts : List ℕ) → ds ≡ fs → ServeLabels g.numbers ts fs → ServeLabels g.numbers ts ds
  served_by ts e s = subst (λ (ds : List (Option ℕ)). ServeLabels g.numbers ts ds) (sym e) s

  -- a successor that is a block of the region
  target_serve : {bs : Blocks} {e : Event} {a b : St} (l : ℕ) (ts : List ℕ) → Moved g steps.Stays steps.Uses e a b → Spelt g n e.name → CallsLabel g n l e.name → is_placed (n.position l) ≡ true → blocks_have l bs ≡ true → n.is_target l ≡ true → Looks bs a
      → Served ts b → Served (l ∷ ts) a
  target_serve {bs} {e} {a} {b} l ts m s c small h t k rest =
      let f = found_right false (R bs) e.name a.labels (ahead g false b) k.rights.back
      (subst (λ (j : ℕ). RightAhead false (R bs) 0 j (ahead g false b)) (one (length a.labels)) (subst (λ (ts : List Turn). RightAhead false (R bs) 0 (length a.labels) ts) (ahead_moved g false m) k.rights.ahead_right))
      (subst (λ (ts : List Turn). Near false e.name a.labels ts) (ahead_moved g false m) (k.near l h t e.name s c)) in
      let p = placed n 0 l bs k.named h in
      let position : n.position l ≡ Some p.index = p.position ∙ ap (λ j. Some j) (zero_plus p.index) in
      let number : label_at bs p.index ≡ Some (get_or g.numbers f.place 0) = f.right p.index (sym (ap is_placed position) ∙ small) (c ∙ ap (λ o. spells kinds.Label (found_label o)) position) in
      let own : get_or g.numbers f.place 0 ≡ l = some_is (get_or g.numbers f.place 0) l (sym number ∙ p.label_is) in
      subst (λ (ds : List (Option ℕ)). ServeLabels g.numbers (l ∷ ts) ds) (sym (found_moved m ∙ ap (λ (d : Option ℕ). d ∷ found b) f.is)) (own, rest)
    where
      one : (j : ℕ) → suc j ≡ j + 1
      one j = omega arith

      zero_plus : (j : ℕ) → 0 + j ≡ j
      zero_plus j = omega arith

  targets_serve : {bs : Blocks} {ls : List ℕ} {x y : St} (ts : List ℕ) (deep : Bool) → deep ≡ true → TargetsRun g n deep ls x y → list_all (λ l. blocks_have l bs) ls ≡ true → list_all n.is_target ls ≡ true → Looks bs x → Served ts y → Served (successor_targets ls ts) x
  targets_serve ts deep is (targets_end _ q) h t k s = served_by ts (found_quiet q) s
  targets_serve {bs} ts deep is (targets_more _ l ls e {x} {a} {b} {y} q m p c small more) h t k s =
      let here = looks_listed (quiet_listed g n false false q) k in
      let used : Moved g steps.Stays steps.Uses e a b = subst (λ (z : Step). Moved g steps.Stays z e a b) (ap target_at is) m in
      served_by (successor_targets (l ∷ ls) ts) (found_quiet q)
      (target_serve l (successor_targets ls ts) used p c small (and-left _ _ h) (and-left _ _ t) here
      (targets_serve ts deep is more (and-right (blocks_have l bs) _ h) (and-right (n.is_target l) _ t) (looks_listed (listed_one g false false refl used) here) s))

  mutual
    body_serve : (known : ℕ → Bool) {bs : Blocks} {o : Op} {x y : St} (ts : List ℕ) (deep : Bool) → deep ≡ true → BodyRun g n deep o x y → OpNamed n o → OpTargets n o → is_scoped known (λ l. blocks_have l bs) o ≡ true → Looks bs x → Aligned g false x → Served ts y → Served (op_targets o ts) x
    body_serve known {bs} ts deep is (body_run _ k results operands regions successors lead uses targets inner q) names aims h look al s =
        let one = looks_listed (lead_listed g n false lead) look in
        let two = looks_listed (uses_listed g n false false uses) one in
        let placed = aligned_listed g (listed_join g (lead_listed g n false lead) (listed_join g (uses_listed g n false false uses) (targets_listed g n false false targets))) al in
        served_by (op_targets (op k results operands regions successors) ts) (found_lead lead ∙ found_uses uses)
        (targets_serve (region_targets regions ts) deep is targets (and-left _ _ (and-right (list_all known operands) _ h)) aims.0 two
        (regions_serve known ts inner names.1 aims.1 (and-right (list_all (λ l. blocks_have l bs) successors) _ (and-right (list_all known operands) _ h)) placed (served_by ts (found_quiet q) s)))

    ops_serve : (known : ℕ → Bool) {bs : Blocks} {os : Ops} {x y : St} (ts : List ℕ) → OpsRun g n os x y → OpsNamed n os → OpsTarget n os → are_scoped known (λ l. blocks_have l bs) os ≡ true → Looks bs x → Aligned g false x → Served ts y → Served (ops_targets os ts) x
    ops_serve known ts (ops_end x) names aims h look al s = s
    ops_serve known {bs} ts (ops_more o os b q more) names aims h look al s =
        let over = listed_join g (body_listed g n false b) (quiet_listed g n false false q) in
        body_serve known (ops_targets os ts) true refl b names.0 aims.0 (and-left _ _ h) look al
        (served_by (ops_targets os ts) (found_quiet q) (ops_serve known ts more names.1 aims.1 (and-right (is_scoped known (λ l. blocks_have l bs) o) _ h) (looks_listed over look) (aligned_listed g over al) s))

    pub regions_serve : (known : ℕ → Bool) {rs : Regions} {x y : St} (ts : List ℕ) → RegionsRun g n rs x y → RegionsNamed n rs → RegionsTarget n rs → are_scoped_regions known rs ≡ true → Aligned g false x → Served ts y → Served (region_targets rs ts) x
    regions_serve known ts (regions_end q) names aims h al s = served_by ts (found_quiet q) s
    regions_serve known ts (regions_more blocks rest e f q m inner l more) names aims h al s =
        let one = aligned_listed g (quiet_listed g n false false q) al in
        let two = aligned_moved g false m one in
        let three = aligned_moved g false l (aligned_listed g (blocks_listed g n false inner) two) in
        let within = looks_within m names.0 inner l two in
        served_by (region_targets (region blocks rest) ts) (found_quiet q ∙ found_still refl m)
        (blocks_serve (λ v. known v || blocks_define v blocks) (region_targets rest ts) inner names.0 aims.0 (and-left _ _ h) within two
        (served_by (region_targets rest ts) (found_still refl l) (regions_serve known ts more names.1 aims.1 (and-right (are_scoped_blocks (λ v. known v || blocks_define v blocks) (λ l. blocks_have l blocks) blocks) _ h) three s)))

    blocks_serve : (known : ℕ → Bool) {all : Blocks} {k : ℕ} {bs : Blocks} {x y : St} (ts : List ℕ) → BlocksRun g n k bs x y → BlocksNamed n k bs → BlocksTarget n bs → are_scoped_blocks known (λ l. blocks_have l all) bs ≡ true → Looks all x → Aligned g false x → Served ts y
        → Served (block_targets bs ts) x
    blocks_serve known ts (blocks_end k x) names aims h look al s = s
    blocks_serve known {all} ts (blocks_label k label args ops more e m p c t u a os rest) names aims h look al s =
        let head = listed_join g (listed_one g false true refl m) (wider g n (args_listed g n false a)) in
        let one = looks_listed head look in
        let two = aligned_listed g head al in
        served_by (block_targets (block label args ops more) ts) (found_still refl m ∙ found_args a)
        (ops_serve known (block_targets more ts) os names.2 aims.0 (and-left _ _ h) one two
        (blocks_serve known ts rest names.3 aims.1 (and-right (are_scoped known (λ l. blocks_have l all) ops) _ h) (looks_listed (ops_listed g n false os) one) (aligned_listed g (ops_listed g n false os) two) s))
    blocks_serve known {all} ts (blocks_hidden k label args ops more none t os rest) names aims h look al s =
        ops_serve known (block_targets more ts) os names.2 aims.0 (and-left _ _ h) look al
        (blocks_serve known ts rest names.3 aims.1 (and-right (are_scoped known (λ l. blocks_have l all) ops) _ h) (looks_listed (ops_listed g n false os) look) (aligned_listed g (ops_listed g n false os) al) s)
