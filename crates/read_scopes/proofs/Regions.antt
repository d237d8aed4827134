-- The successors of what stands in a function are in scope.
use Rattle.std.proofs.Common.{◌≡◌, ℕ, Bool, true, false, List, ◌∷◌, length, refl, sym, ap, ◌∙◌, subst, true≢false}
use Rattle.text_grammar.specs.declared.places.Place.{Place}
use Rattle.text_grammar.specs.declared.places.Place.TheVariants as places
use Rattle.text_scopes.specs.declared.bodies.Body.{Body}
use Rattle.text_scopes.specs.declared.bodies.Class.{Class}
use Rattle.text_scopes.specs.declared.steps.Step.TheVariants as steps
use Rattle.text_scopes.specs.Bodies.{opens_body}
use Rattle.text_scopes.specs.Seen.{Turn}
use Rattle.text_scopes.specs.Tables.{label_step}
use Rattle.event_trees.specs.Wording.{Wording}
use Rattle.event_trees.specs.Numbers.{defined_at, index_at, meant_at}
use Rattle.event_trees.specs.Levels.{Levels, block_labelled}
use Rattle.scope_laws.specs.Turns.{RightAhead, RightBack, is_flat}
use Rattle.scope_laws.proofs.TurnLaws.{length_pass}
use Rattle.text_forms.specs.Forms.{IsArgs, IsBlocks, IsBody, IsLoc, IsNames, IsOps, IsRegions, Still, arg, block, body, is_still, loc, name, no_args, no_blocks, no_loc, no_names, no_ops, no_regions, op, region, still_end, still_more}
use Rattle.text_forms.proofs.Carried.{args_carried, blocks_carried, body_carried, loc_carried, names_carried, ops_carried, regions_carried, still_carried}
use Rattle.read_states.specs.States.{State}
use Rattle.read_states.specs.Levels.{below, blocks_in, first, ops_in}
use Rattle.read_states.proofs.Moves.{read_moved}
use Rattle.read_states.proofs.Words.{arg_levels, close_levels, kept_levels, label_levels, levels, op_levels, open_levels, there_bodies}
use Rattle.read_states.proofs.Parts.{T, loc_alike, names_alike, still_alike}
use Rattle.read_states.proofs.Forms.{args_heading, blocks_labelled, ops_inside, region_below}
use Rattle.read_states.proofs.Counting.{inside, inside_closed}
use Rattle.read_states.proofs.Bodies.{args_stay, blocks_stay, body_stays, closes_stay, name_stays, ops_stay, opens_stay, regions_stay}
use Rattle.scoped_trees.specs.Scoped.{blocks_have}
use Rattle.scoped_trees.proofs.Turns.{skip_level}
use Rattle.read_numbers.proofs.Fitting.{blocks_of}
use Rattle.read_scopes.proofs.Mapped.{args_mapped, blocks_mapped, body_mapped, loc_mapped, names_mapped, ops_mapped, regions_mapped, still_mapped}
use Rattle.read_scopes.proofs.Turned.{Ahead, Full, Listed, Looks, Moved, R, ahead, ahead_moved, ahead_on, args_listed, body_listed, loc_listed, looks_listed, listed_join, listed_one, names_listed, nest_listed, number_here, ops_listed, regions_listed, still_listed, target_in}
use Rattle.read_scopes.proofs.Kept.{Scopes, arg_scopes, blocks_here, is_adding, label_first, label_later, label_scopes, labels_begun, op_scopes, open_scopes, word_scopes}

still_adds : (p : Place) → is_still p ≡ true → is_adding p ≡ false
still_adds places.OpName h = absurd (true≢false (sym h))
still_adds places.ArgName h = absurd (true≢false (sym h))
still_adds places.BlockLabel h = absurd (true≢false (sym h))
still_adds places.RegionOpen h = absurd (true≢false (sym h))
still_adds places.RegionClose h = absurd (true≢false (sym h))
still_adds _ h = refl

module _ (words : Wording) (class : ℕ → Class) (numbers : List ℕ) where
  abbrev pub Takes : Place → Full → Full → Type 0
  Takes p x y = Moved words class numbers p x y

  abbrev pub lv : Full → Levels
  lv x = levels words class numbers x.state

  abbrev pub now : Full → Body
  now x = x.state.counts.body

  -- forms of states alone
  pub step : (p : Place) (x y : Full) → Takes p x y → T words class numbers p x.state y.state
  step p x y m = m.move

  abbrev pub of : Full → State
  of x = x.state

  pub plain_still : {x y : Full} → Still Takes x y → Still (T words class numbers) x.state y.state
  plain_still s = still_mapped Takes (T words class numbers) of step s

  pub plain_loc : {x y : Full} → IsLoc Takes x y → IsLoc (T words class numbers) x.state y.state
  plain_loc s = loc_mapped Takes (T words class numbers) of step s

  pub plain_names : {x y : Full} → IsNames Takes x y → IsNames (T words class numbers) x.state y.state
  plain_names s = names_mapped Takes (T words class numbers) of step s

  pub plain_args : {x y : Full} → IsArgs Takes x y → IsArgs (T words class numbers) x.state y.state
  plain_args s = args_mapped Takes (T words class numbers) of step s

  pub plain_body : {x y : Full} → IsBody Takes x y → IsBody (T words class numbers) x.state y.state
  plain_body s = body_mapped Takes (T words class numbers) of step s

  pub plain_ops : {x y : Full} → IsOps Takes x y → IsOps (T words class numbers) x.state y.state
  plain_ops s = ops_mapped Takes (T words class numbers) of step s

  pub plain_regions : {x y : Full} → IsRegions Takes x y → IsRegions (T words class numbers) x.state y.state
  plain_regions s = regions_mapped Takes (T words class numbers) of step s

  pub plain_blocks : {x y : Full} → IsBlocks Takes x y → IsBlocks (T words class numbers) x.state y.state
  plain_blocks s = blocks_mapped Takes (T words class numbers) of step s

  -- What is known at a state of a region with these labels
  pub record At (labels : ℕ → Bool) (x : Full) : Type 0 where
    pub on : Ahead words class numbers x
    pub looks : Looks words class numbers labels x

  abbrev pub On : Full → Type 0
  On x = Ahead words class numbers x

  abbrev pub List_of : Bool → Full → Full → Type 0
  List_of d x y = Listed words class numbers d x y

  pub on_step : (p : Place) (x y : Full) → Takes p x y → On x → On y
  on_step = ahead_on words class numbers

  pub at_listed : {d : Bool} (labels : ℕ → Bool) {x y : Full} → List_of d x y → now y ≡ now x → On y → At labels x → At labels y
  at_listed labels l same on a = record { on = on; looks = looks_listed words class numbers labels l same a.looks }

  pub at_still : (labels : ℕ → Bool) {x y : Full} → Still Takes x y → At labels x → At labels y
  at_still labels s a = at_listed labels (still_listed words class numbers true s) (still_alike words class numbers (plain_still s)).body_is (still_carried Takes On on_step s a.on) a

  at_loc : (labels : ℕ → Bool) {x y : Full} → IsLoc Takes x y → At labels x → At labels y
  at_loc labels s a = at_listed labels (loc_listed words class numbers true s) (loc_alike words class numbers (plain_loc s)).body_is (loc_carried Takes On on_step s a.on) a

  at_names : (labels : ℕ → Bool) {x y : Full} → IsNames Takes x y → At labels x → At labels y
  at_names labels s a = at_listed labels (names_listed words class numbers true s) (names_alike words class numbers (plain_names s)).body_is (names_carried Takes On on_step s a.on) a

  pub at_args : (labels : ℕ → Bool) {x y : Full} → IsArgs Takes x y → At labels x → At labels y
  at_args labels s a = at_listed labels (args_listed words class numbers true s) (args_stay words class numbers (plain_args s)) (args_carried Takes On on_step s a.on) a

  -- One word

  pub word_ok : (labels : ℕ → Bool) {p : Place} {x y : Full} → is_adding p ≡ false → Takes p x y → At labels x → Scopes labels (lv y) → Scopes labels (lv x)
  word_ok labels {p} {x} {y} h m a s =
      subst (λ (k : Levels). Scopes labels k) (sym (read_moved words class numbers m.move))
      (word_scopes words labels p m.move.name _ m.move.term (lv y) h (λ e. successor p m h e) s)
    where
      successor : (p : Place) (m : Takes p x y) → is_adding p ≡ false → p ≡ places.SuccessorName → labels (meant_at numbers x.state.left p (index_at words y.state.events) (defined_at x.state.counts p)) ≡ true
      successor p m h e =
          ap (λ q. labels (meant_at numbers x.state.left q (index_at words y.state.events) (defined_at x.state.counts p))) e
          ∙ target_in words class numbers labels (subst (λ (q : Place). Takes q x y) e m) a.on a.looks

  pub still_ok : (labels : ℕ → Bool) {x y : Full} → Still Takes x y → At labels x → Scopes labels (lv y) → Scopes labels (lv x)
  still_ok labels (still_end x) a s = s
  still_ok labels (still_more p h m more) a s =
      word_ok labels (still_adds p h) m a (still_ok labels more (at_still labels (still_more p h m (still_end _)) a) s)

  next : (labels : ℕ → Bool) {p : Place} {x y : Full} → label_step (now x) p ≡ steps.Stays → now y ≡ now x → Takes p x y → At labels x → At labels y
  next labels {p} {x} {y} h same m a =
      at_listed labels (listed_one words class numbers true (ap (is_flat true) h) m) same (on_step p x y m a.on) a

  pub loc_ok : (labels : ℕ → Bool) {x y : Full} → IsLoc Takes x y → At labels x → Scopes labels (lv y) → Scopes labels (lv x)
  loc_ok labels (no_loc x) a s = s
  loc_ok labels (loc b t e) a s =
      let one = next labels refl (there_bodies words class numbers refl b.move) b a in
      let two = at_still labels t one in
      word_ok labels refl b a (still_ok labels t one (word_ok labels refl e two s))

  pub names_ok : (labels : ℕ → Bool) {x y : Full} → IsNames Takes x y → At labels x → Scopes labels (lv y) → Scopes labels (lv x)
  names_ok labels (no_names x) a s = s
  names_ok labels (name n t more) a s =
      let one = next labels refl (there_bodies words class numbers refl n.move) n a in
      word_ok labels refl n a (still_ok labels t one (names_ok labels more (at_still labels t one) s))

  pub args_ok : (labels : ℕ → Bool) {x y : Full} → IsArgs Takes x y → At labels x → Scopes labels (lv y) → Scopes labels (lv x)
  args_ok labels (no_args s) a h = still_ok labels s a h
  args_ok labels (arg {a = p} {b = q} s m t l more) a h =
      let one = at_still labels s a in
      let two = next labels refl (there_bodies words class numbers refl m.move) m one in
      let three = at_still labels t two in
      let four = at_loc labels l three in
      still_ok labels s a
      (subst (λ (k : Levels). Scopes labels k) (sym (arg_levels words class numbers m.move))
      (arg_scopes labels _ (lv q) (still_ok labels t two (loc_ok labels l three (args_ok labels more four h)))))

  -- The labels of a region's blocks

  front_on : (labels : ℕ → Bool) {x y : Full} → List_of false x y → RightAhead false (R words class numbers labels) 0 (length y.before) (ahead words class numbers y) → RightAhead false (R words class numbers labels) 0 (length x.before) (ahead words class numbers x)
  front_on labels {x} {y} l f =
      subst (λ (ts : List Turn). RightAhead false (R words class numbers labels) 0 (length x.before) ts) (sym l.ahead_is)
      (skip_level false (R words class numbers labels) refl l.level (length x.before) (ahead words class numbers y)
      (subst (λ (k : ℕ). RightAhead false (R words class numbers labels) 0 k (ahead words class numbers y)) (ap length l.before_is ∙ length_pass x.before l.between) f))

  blocks_front : (labels : ℕ → Bool) {x y : Full} → IsBlocks Takes x y → On x → ((l : ℕ) → blocks_have l (blocks_of (blocks_in (lv x))) ≡ true → labels l ≡ true)
      → RightAhead false (R words class numbers labels) 0 (length y.before) (ahead words class numbers y) → RightAhead false (R words class numbers labels) 0 (length x.before) (ahead words class numbers x)
  blocks_front labels (no_blocks x) on have f = f
  blocks_front labels (block {x} {a} {b} {c} {d} m args colon ops more) on have f =
      let on_a = on_step places.BlockLabel x a m on in
      let on_d = ops_carried Takes On on_step ops (on_step places.BlockColon b c colon (args_carried Takes On on_step args on_a)) in
      let same : blocks_in (lv a) ≡ blocks_in (lv d) =
      (args_heading words class numbers (plain_args args)).blocks_is ∙ (kept_levels words class numbers refl colon.move).blocks ∙ (ops_inside words class numbers (plain_ops ops)).blocks_is in
      let here : blocks_in (lv x) ≡ block_labelled x.state.counts.labels (first (lv a)) ∷ blocks_in (lv a) = ap blocks_in (label_levels words class numbers m.move) in
      let inner = listed_join words class numbers (args_listed words class numbers false args) (listed_join words class numbers (listed_one words class numbers false refl colon) (ops_listed words class numbers false ops)) in
      let rest = blocks_front labels more on_d (λ l h. have l (ap (λ bs. blocks_have l (blocks_of bs)) here ∙ label_later l (block_labelled x.state.counts.labels (first (lv a))) (blocks_in (lv a)) (ap (λ bs. blocks_have l (blocks_of bs)) same ∙ h))) f in
      let own : labels x.state.counts.labels ≡ true = have x.state.counts.labels (ap (λ bs. blocks_have x.state.counts.labels (blocks_of bs)) here ∙ label_first x.state.counts.labels (first (lv a)) (blocks_in (lv a))) in
      subst (λ (ts : List Turn). RightAhead false (R words class numbers labels) 0 (length x.before) ts) (sym (ahead_moved words class numbers m))
      (ap labels (number_here words class numbers m on) ∙ own, subst (λ (k : ℕ). RightAhead false (R words class numbers labels) 0 k (ahead words class numbers a)) (ap length m.before_is) (front_on labels inner rest))

  -- what is known where a region has begun
  at_begin : {a b c d z : Full} → Takes places.RegionOpen a b → IsOps Takes b c → IsBlocks Takes c d → Takes places.RegionClose d z → On a → At (λ l. blocks_have l (blocks_here a.state.counts.labels (lv b))) b
  at_begin {a} {b} {c} {d} {z} o ops blocks close on = record {
    on = on_b;
    looks = λ e. record {
      back = subst (λ (ts : List Turn). RightBack false (R words class numbers labels) 0 ts) (sym o.before_is) tt;
      ahead_right = front_on labels (ops_listed words class numbers false ops) (blocks_front labels blocks (ops_carried Takes On on_step ops on_b) have last);
    };
  }
    where
      labels : ℕ → Bool
      labels l = blocks_have l (blocks_here a.state.counts.labels (lv b))

      on_b : On b
      on_b = on_step places.RegionOpen a b o on

      have : (l : ℕ) → blocks_have l (blocks_of (blocks_in (lv c))) ≡ true → blocks_have l (blocks_here a.state.counts.labels (lv b)) ≡ true
      have l h = labels_begun a.state.counts.labels l (ops_in (lv b)) (blocks_in (lv b)) (ap (λ bs. blocks_have l (blocks_of bs)) (ops_inside words class numbers (plain_ops ops)).blocks_is ∙ h)

      last : RightAhead false (R words class numbers (λ l. blocks_have l (blocks_here a.state.counts.labels (lv b)))) 0 (length d.before) (ahead words class numbers d)
      last = subst (λ (ts : List Turn). RightAhead false (R words class numbers (λ l. blocks_have l (blocks_here a.state.counts.labels (lv b)))) 0 (length d.before) ts) (sym (ahead_moved words class numbers close)) tt

  pub closed : {d z : Full} (labels : ℕ → Bool) → Takes places.RegionClose d z → Scopes labels (lv d)
  closed labels m = subst (λ (k : Levels). Scopes labels k) (sym (close_levels words class numbers m.move)) (record { targets = refl; regions = refl; ops = refl; blocks = refl })

  open_ok : (labels : ℕ → Bool) {a b : Full} (z : Full) → Takes places.RegionOpen a b → below (lv b) ≡ lv z → Scopes (λ l. blocks_have l (blocks_here a.state.counts.labels (lv b))) (lv b) → Scopes labels (lv z) → Scopes labels (lv a)
  open_ok labels {a} {b} z m e inner s = subst (λ (k : Levels). Scopes labels k) (sym (open_levels words class numbers z.state m.move e)) (open_scopes labels a.state.counts.labels (lv b) (lv z) inner s)

  mutual
    pub body_ok : (labels : ℕ → Bool) {x y : Full} → IsBody Takes x y → opens_body (now x) ≡ false → At labels x → Scopes labels (lv y) → Scopes labels (lv x)
    body_ok labels (body s regions t colon begins types arrow results l) shut a h =
        let one = at_still labels s a in
        let shut_one = ap opens_body (still_alike words class numbers (plain_still s)).body_is ∙ shut in
        let two = at_listed labels (regions_listed words class numbers true regions) (regions_stay words class numbers (plain_regions regions) shut_one) (regions_carried Takes On on_step regions one.on) one in
        let three = at_still labels t two in
        let four = next labels refl (there_bodies words class numbers refl colon.move) colon three in
        let five = next labels refl (there_bodies words class numbers refl begins.move) begins four in
        let six = at_still labels types five in
        let seven = next labels refl (there_bodies words class numbers refl arrow.move) arrow six in
        let eight = at_still labels results seven in
        still_ok labels s a (regions_ok labels regions shut_one one (still_ok labels t two (word_ok labels refl colon three (word_ok labels refl begins four
        (still_ok labels types five (word_ok labels refl arrow six (still_ok labels results seven (loc_ok labels l eight h))))))))

    pub ops_ok : (labels : ℕ → Bool) (j : ℕ) (m : Bool) {x y : Full} → IsOps Takes x y → now x ≡ inside j m → At labels x → Scopes labels (lv y) → Scopes labels (lv x)
    ops_ok labels j m (no_ops x) e a h = h
    ops_ok labels j m (op {a = p} {b = q} names o b more) e a h =
        let one = at_names labels names a in
        let there = (names_alike words class numbers (plain_names names)).body_is ∙ e in
        let named = name_stays words class numbers j m o.move there in
        let two = next labels refl (named ∙ sym there) o one in
        let shut = ap opens_body named ∙ inside_closed j m in
        let behind = body_stays words class numbers (plain_body b) shut in
        let three = at_listed labels (body_listed words class numbers true b) behind (body_carried Takes On on_step b two.on) two in
        names_ok labels names a
        (subst (λ (k : Levels). Scopes labels k) (sym (op_levels words class numbers o.move))
        (op_scopes words labels o.move.name p.state.counts.values (lv q) (body_ok labels b shut two (ops_ok labels j m more (behind ∙ named) three h))))

    pub regions_ok : (labels : ℕ → Bool) {x y : Full} → IsRegions Takes x y → opens_body (now x) ≡ false → At labels x → Scopes labels (lv y) → Scopes labels (lv x)
    regions_ok labels (no_regions s) shut a h = still_ok labels s a h
    regions_ok labels (region {x} {a = p} {b = q} {c = r} {d = s2} {e = z} s o ops blocks close more) shut a h =
        let j = p.state.counts.body.within in
        let m = p.state.counts.body.at_module in
        let same = (still_alike words class numbers (plain_still s)).body_is in
        let one = at_still labels s a in
        let shut_one = ap opens_body same ∙ shut in
        let opened = opens_stay words class numbers o.move shut_one in
        let behind = ops_stay words class numbers j m (plain_ops ops) opened in
        let last = blocks_stay words class numbers j m (plain_blocks blocks) behind in
        let there = closes_stay words class numbers j m close.move last in
        let on_z = on_step places.RegionClose s2 z close (blocks_carried Takes On on_step blocks (ops_carried Takes On on_step ops (on_step places.RegionOpen p q o one.on))) in
        let two = at_listed labels (nest_listed words class numbers true o ops blocks close) there on_z one in
        let begin = at_begin o ops blocks close one.on in
        let middle = at_listed (λ l. blocks_have l (blocks_here p.state.counts.labels (lv q))) (ops_listed words class numbers true ops) (behind ∙ sym opened) (ops_carried Takes On on_step ops begin.on) begin in
        still_ok labels s a
        (open_ok labels z o (region_below words class numbers (ops_inside words class numbers (plain_ops ops)) (blocks_labelled words class numbers (plain_blocks blocks)) close.move)
        (ops_ok (λ l. blocks_have l (blocks_here p.state.counts.labels (lv q))) j m ops opened begin
        (blocks_ok (λ l. blocks_have l (blocks_here p.state.counts.labels (lv q))) j m blocks behind middle (closed (λ l. blocks_have l (blocks_here p.state.counts.labels (lv q))) close)))
        (regions_ok labels more (ap opens_body there ∙ shut_one) two h))

    pub blocks_ok : (labels : ℕ → Bool) (j : ℕ) (m : Bool) {x y : Full} → IsBlocks Takes x y → now x ≡ inside j m → At labels x → Scopes labels (lv y) → Scopes labels (lv x)
    blocks_ok labels j m (no_blocks x) e a h = h
    blocks_ok labels j m (block {x} {a = p} {b = q} {c = r} {d = s} l args colon ops more) e a h =
        let one = at_listed labels (listed_one words class numbers true refl l) (there_bodies words class numbers refl l.move) (on_step places.BlockLabel x p l a.on) a in
        let two = at_args labels args one in
        let three = next labels refl (there_bodies words class numbers refl colon.move) colon two in
        let under = there_bodies words class numbers refl colon.move ∙ args_stay words class numbers (plain_args args) ∙ there_bodies words class numbers refl l.move ∙ e in
        let behind = ops_stay words class numbers j m (plain_ops ops) under in
        let four = at_listed labels (ops_listed words class numbers true ops) (behind ∙ sym under) (ops_carried Takes On on_step ops three.on) three in
        subst (λ (k : Levels). Scopes labels k) (sym (label_levels words class numbers l.move))
        (label_scopes labels x.state.counts.labels (lv p)
        (args_ok labels args one (word_ok labels refl colon two (ops_ok labels j m ops under three (blocks_ok labels j m more behind four h)))))
