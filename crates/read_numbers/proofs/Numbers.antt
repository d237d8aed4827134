-- What stands in a function is numbered in order, where what is behind it is.
use Rattle.std.proofs.Common.{◌≡◌, ℕ, suc, ◌+◌, ◌==◌, Bool, true, false, List, [], ◌∷◌, length, refl, sym, ap, ◌∙◌, subst}
use Rattle.std.specs.Prelude.{if◌then◌else◌}
use Rattle.mlir_lex.proofs.Lengths.{and-both, eqb-refl}
use Rattle.text_grammar.specs.declared.places.Place.{Place}
use Rattle.text_grammar.specs.declared.places.Place.TheVariants as places
use Rattle.tree_model.specs.declared.type_tree.TypeTree.{TypeTree}
use Rattle.tree_model.specs.declared.op_tree.OpTree.{OpTree}
use Rattle.plain_tree.specs.Types.{type_tree, type_trees}
use Rattle.event_trees.specs.Attrs.{written_of}
use Rattle.event_trees.specs.Dictionaries.{attrs_of, props_of}
use Rattle.plain_tree.specs.Ops.{Kind, Op, Values, PlainBlock, more_ops, block, op, plain_op, plain_values}
use Rattle.plain_tree.specs.Attrs.{plain_entries}
use Rattle.plain_tree.proofs.OpOpens.{block-roll, plain-roll}
use Rattle.text_events.specs.declared.event.Event.{Event}
use Rattle.text_types.specs.Items.{place_next}
use Rattle.text_types.specs.Plain.{type_of, types_of}
use Rattle.text_scopes.specs.declared.bodies.Body.{Body}
use Rattle.text_scopes.specs.declared.bodies.Class.{Class}
use Rattle.text_scopes.specs.Bodies.{opens_body}
use Rattle.term_table.specs.declared.node.Form.TheVariants as forms
use Rattle.term_table.specs.Terms.{Term, node}
use Rattle.event_trees.specs.Wording.{Wording}
use Rattle.event_trees.specs.Numbers.{begins_operation, first_count, length_of, results_in}
use Rattle.event_trees.specs.Levels.{Levels, Parts, numbered, op_named, region_opened, result_types, with_block, with_op, with_region}
use Rattle.read_states.specs.Numbering.{Count, are_counted, none_counted, past_values}
use Rattle.text_forms.specs.Forms.{IsArgs, IsBlocks, IsBody, IsOps, IsRegions, arg, block as a_block, body, name, no_args, no_blocks, no_names, no_ops, no_regions, op as an_op, region}
use Rattle.read_states.specs.States.{State, waits}
use Rattle.read_states.specs.Levels.{args_in, below, blocks_in, first, ops_in, regions_in, signature_in}
use Rattle.read_states.proofs.Words.{Alike, Same, alike_join, arg_levels, close_levels, kept_levels, label_levels, levels, op_levels, open_levels, plain_alike, quiet_counts, signature_levels, there_bodies}
use Rattle.read_states.proofs.Parts.{T, loc_alike, names_alike, still_alike}
use Rattle.read_states.proofs.Forms.{Typed, args_heading, blocks_labelled, body_typed, ops_inside, region_below}
use Rattle.read_states.proofs.Counting.{arg_count, close_count, colon_count, count_at, head_count, inside, inside_closed, label_count, not_zero, op_count, open_count, past_open}
use Rattle.read_states.proofs.Bodies.{args_stay, at, blocks_stay, closes_stay, name_stays, ops_stay, opens_stay, regions_stay}
use Rattle.read_numbers.proofs.Fitting.{FitsAt, FitsOf, InnerFits, OpensWith, blocks_of, inner_arg, inner_close, inner_label, inner_op, open_front, ops_of, regions_of}

-- The results of an operation

pub results_counted : (n : ℕ) (ts : List TypeTree) → are_counted n (plain_values (numbered n ts)) ≡ true
results_counted n [] = refl
results_counted n (t ∷ ts) = and-both _ _ (eqb-refl n) (results_counted (n + 1) ts)

pub results_length : (n : ℕ) (ts : List TypeTree) → length (plain_values (numbered n ts)) ≡ length ts
results_length n [] = refl
results_length n (t ∷ ts) = ap suc (results_length (n + 1) ts)

types_length : (t : Term) → length (type_trees (types_of t)) ≡ length_of t
types_length (node forms.Types value first more) = ap suc (types_length more)
types_length _ = refl

pub types_counted : (t : Term) → length (result_types t) ≡ results_in t
types_counted (node forms.Func value inputs results) = types_length results
types_counted _ = refl

-- Levels with the same parts

pub same_fits : (n : ℕ) (c : Count) {k m : Levels} → Same k m → FitsAt n c m → FitsAt n c k
same_fits n c {k} {m} s h =
    subst (λ rs. FitsOf n c rs (args_in k) (ops_in k) (blocks_in k) (below k)) (sym s.regions)
    (subst (λ vs. FitsOf n c (regions_in m) vs (ops_in k) (blocks_in k) (below k)) (sym s.args)
    (subst (λ os. FitsOf n c (regions_in m) (args_in m) os (blocks_in k) (below k)) (sym s.ops)
    (subst (λ bs. FitsOf n c (regions_in m) (args_in m) (ops_in m) bs (below k)) (sym s.blocks)
    (subst (λ ks. FitsOf n c (regions_in m) (args_in m) (ops_in m) (blocks_in m) ks) (sym s.below_is) h))))

-- without regions, and without arguments
without_regions : (n : ℕ) (c : Count) (k : Levels) → regions_in k ≡ [] → FitsAt n c k → FitsOf n c [] (args_in k) (ops_in k) (blocks_in k) (below k)
without_regions n c k e h = subst (λ rs. FitsOf n c rs (args_in k) (ops_in k) (blocks_in k) (below k)) e h

without_args : (n : ℕ) (c : Count) (k : Levels) → args_in k ≡ [] → FitsAt n c k → FitsOf n c (regions_in k) [] (ops_in k) (blocks_in k) (below k)
without_args n c k e h = subst (λ vs. FitsOf n c (regions_in k) vs (ops_in k) (blocks_in k) (below k)) e h

-- an operation as plain data
abbrev kind_named : Wording → ℕ → Parts → Kind
kind_named words called p = record {
  name = words.spelled called;
  props = plain_entries (props_of (words.spelled called) (written_of words p.props) (written_of words p.attrs));
  attrs = plain_entries (attrs_of (words.spelled called) (written_of words p.attrs));
}

pub op_plain : (words : Wording) (called number : ℕ) (p : Parts)
    → plain_op (op_named words called number p) ≡ op (kind_named words called p) (plain_values (numbered number (result_types p.signature))) p.operands (regions_of p.regions) p.successors
op_plain words called number p = plain-roll _

module _ (words : Wording) (class : ℕ → Class) (numbers : List ℕ) where
  abbrev Takes : Place → State → State → Type 0
  Takes p x y = T words class numbers p x y

  abbrev k : State → Levels
  k x = levels words class numbers x

  abbrev now : State → Body
  now x = at words class numbers x

  abbrev count : State → Count
  count x = count_at words class numbers x

  -- what is left at a state is numbered in order
  abbrev pub Fits : ℕ → State → Type 0
  Fits n x = FitsAt n (count x) (k x)

  pub alike_fits : (n : ℕ) {x y : State} → Alike words class numbers x y → Fits n y → Fits n x
  alike_fits n {x} {y} a h = subst (λ c. FitsAt n c (k x)) a.count_is (same_fits n (count y) a.same h)

  inside_count : (j : ℕ) (m : Bool) (b : Body) (c : Count) → b ≡ inside j m → (if b.within == 0 then none_counted else c) ≡ c
  inside_count j m b c e = ap (λ (b : Body). if b.within == 0 then none_counted else c) e ∙ ap (λ b. if b then none_counted else c) (not_zero j)

  -- One word

  pub signature_fits : (n : ℕ) {x y : State} → Takes places.SignatureOpen x y → Fits n y → Fits n x
  signature_fits n {x} {y} m h =
      subst (λ ks. FitsAt n (count x) ks) (sym (signature_levels words class numbers m)) (subst (λ c. FitsAt n c (k y)) (quiet_counts words class numbers refl m) h)

  colon_fits : (n j : ℕ) (m : Bool) {x y : State} → Takes places.SignatureColon x y → now x ≡ inside j m → Fits n y → Fits n x
  colon_fits n j m {x} {y} t e h =
      subst (λ c. FitsAt n c (k x)) (colon_count words class numbers t ∙ inside_count j m (now x) (count x) e) (same_fits n (count y) (kept_levels words class numbers refl t) h)

  head_fits : (n j : ℕ) (m : Bool) {x y : State} → Takes places.BlockColon x y → now x ≡ inside j m → Fits n y → Fits n x
  head_fits n j m {x} {y} t e h =
      subst (λ c. FitsAt n c (k x)) (head_count words class numbers t ∙ inside_count j m (now x) (count x) e) (same_fits n (count y) (kept_levels words class numbers refl t) h)

  close_fits : (n j : ℕ) (m : Bool) {x y : State} → Takes places.RegionClose x y → now x ≡ inside j m → Fits n y → Fits (suc n) x
  close_fits n j m {x} {y} t e h =
      subst (λ ks. FitsAt (suc n) (count x) ks) (sym (close_levels words class numbers t))
      (inner_close (count x) (λ d. FitsAt n d (k y)) (subst (λ c. FitsAt n c (k y)) (close_count words class numbers t ∙ inside_count j m (now x) (count x) e) h))

  label_fits : (n : ℕ) {x y : State} → Takes places.BlockLabel x y → regions_in (k y) ≡ [] → Fits (suc n) y → Fits (suc n) x
  label_fits n {x} {y} t e h =
      let counted = subst (λ c. FitsAt (suc n) c (k y)) (label_count words class numbers t) h in
      let clean = without_regions (suc n) (record { values = x.counts.values; labels = x.counts.labels + 1 }) (k y) e counted in
      let labelled = inner_label (count x) (plain_values (args_in (k y))) (ops_of (ops_in (k y))) (blocks_of (blocks_in (k y))) (λ d. FitsAt n d (below (k y))) clean in
      let rolled : FitsOf (suc n) (count x) [] [] [] (Rattle.event_trees.specs.Levels.block_labelled x.counts.labels (first (k y)) ∷ blocks_in (k y)) (below (k y)) =
      subst (λ (b : PlainBlock). InnerFits (count x) (regions_of []) [] (ops_of []) (block b.label b.args b.ops (blocks_of (blocks_in (k y)))) (λ d. FitsAt n d (below (k y)))) (sym (block-roll _)) labelled in
      subst (λ ks. FitsAt (suc n) (count x) ks) (sym (label_levels words class numbers t)) (subst (λ rs. FitsOf (suc n) (count x) rs [] [] (Rattle.event_trees.specs.Levels.block_labelled x.counts.labels (first (k y)) ∷ blocks_in (k y)) (below (k y))) (sym e) rolled)

  arg_fits : (n : ℕ) {x y : State} → Takes places.ArgName x y → regions_in (k y) ≡ [] → Fits (suc n) y → Fits (suc n) x
  arg_fits n {x} {y} t e h =
      let counted = subst (λ c. FitsAt (suc n) c (k y)) (arg_count words class numbers t) h in
      let clean = without_regions (suc n) (past_values (count x) 1) (k y) e counted in
      let more = inner_arg (count x) (Rattle.plain_tree.specs.Types.plain_type (type_tree (type_of t.term))) (plain_values (args_in (k y))) (ops_of (ops_in (k y))) (blocks_of (blocks_in (k y))) (λ d. FitsAt n d (below (k y))) clean in
      subst (λ ks. FitsAt (suc n) (count x) ks) (sym (arg_levels words class numbers t))
      (subst (λ rs. FitsOf (suc n) (count x) rs ((x.counts.values, type_tree (type_of t.term)) ∷ args_in (k y)) (ops_in (k y)) (blocks_in (k y)) (below (k y))) (sym e) more)

  -- how many results an operation has
  pub results_here : {x y : State} → Typed words class numbers x y → first_count (waits x) ≡ length (result_types (signature_in (k x)))
  results_here t = ap first_count t.waits_is ∙ sym (types_counted t.term) ∙ ap (λ s. length (result_types s)) (sym t.signature_is)

  op_fits : (n : ℕ) {x y z : State} → Takes places.OpName x y → Typed words class numbers y z → args_in (k y) ≡ [] → Fits (suc n) y → Fits (suc n) x
  op_fits n {x} {y} m typed e h =
      let results : Values = plain_values (numbered x.counts.values (result_types (signature_in (k y)))) in
      let many : first_count (waits y) ≡ length results = results_here typed ∙ sym (results_length x.counts.values (result_types (signature_in (k y)))) in
      let counted = subst (λ c. FitsAt (suc n) c (k y)) (op_count words class numbers m ∙ ap (past_values (count x)) many) h in
      let clean = without_args (suc n) (past_values (count x) (length results)) (k y) e counted in
      let parts : Parts = (first (k y)).parts in
      let fits = inner_op (count x) (kind_named words m.name parts) results parts.operands (regions_of (regions_in (k y))) parts.successors (ops_of (ops_in (k y))) (blocks_of (blocks_in (k y))) (λ d. FitsAt n d (below (k y)))
      (results_counted x.counts.values (result_types (signature_in (k y)))) clean in
      let rolled : FitsOf (suc n) (count x) [] [] (op_named words m.name x.counts.values parts ∷ ops_in (k y)) (blocks_in (k y)) (below (k y)) =
      subst (λ (o : Op). InnerFits (count x) (regions_of []) [] (more_ops o (ops_of (ops_in (k y)))) (blocks_of (blocks_in (k y))) (λ d. FitsAt n d (below (k y)))) (sym (op_plain words m.name x.counts.values parts)) fits in
      subst (λ ks. FitsAt (suc n) (count x) ks) (sym (op_levels words class numbers m))
      (subst (λ vs. FitsOf (suc n) (count x) [] vs (op_named words m.name x.counts.values parts ∷ ops_in (k y)) (blocks_in (k y)) (below (k y))) (sym e) rolled)

  -- the first word of operations in front of labels

  opens_so : (x : State) (es : List Event) (os : List OpTree) → x.events ≡ es → ops_in (k x) ≡ os → OpensWith (begins_operation (place_next es)) os → OpensWith (begins_operation (place_next x.events)) (ops_in (k x))
  opens_so x es os e o h = subst (λ xs. OpensWith (begins_operation (place_next xs)) (ops_in (k x))) (sym e) (subst (λ ys. OpensWith (begins_operation (place_next es)) ys) (sym o) h)

  begins_label : {c d e : State} → IsBlocks Takes c d → Takes places.RegionClose d e → OpensWith (begins_operation (place_next c.events)) (ops_in (k c))
  begins_label (no_blocks x) close = opens_so x _ [] close.event_is (ap ops_in (close_levels words class numbers close)) tt
  begins_label (a_block {x} l args colon ops more) close = opens_so x _ [] l.event_is (ap ops_in (label_levels words class numbers l)) tt

  begins_with : {b c d e : State} → IsOps Takes b c → IsBlocks Takes c d → Takes places.RegionClose d e → OpensWith (begins_operation (place_next b.events)) (ops_in (k b))
  begins_with (no_ops x) blocks close = begins_label blocks close
  begins_with (an_op (no_names x) o b more) blocks close = opens_so x _ _ o.event_is (ap ops_in (op_levels words class numbers o)) tt
  begins_with (an_op {x} (name n s names) o b more) blocks close =
      opens_so x _ _ n.event_is ((names_alike words class numbers (name n s names)).same.ops ∙ ap ops_in (op_levels words class numbers o)) tt

  open_fits : (n : ℕ) {x y : State} (z : State) → Takes places.RegionOpen x y → below (k y) ≡ k z → opens_body (now x) ≡ false → regions_in (k y) ≡ [] → args_in (k y) ≡ []
      → OpensWith (begins_operation (place_next y.events)) (ops_in (k y)) → Fits (suc n) y → Fits n x
  open_fits n {x} {y} z m e closed clean bare opens h =
      let counted = subst (λ c. FitsAt (suc n) c (k y)) (open_count words class numbers m ∙ ap (λ b. if b then none_counted else past_open (begins_operation (place_next y.events)) (count x)) closed) h in
      let one = without_regions (suc n) (past_open (begins_operation (place_next y.events)) (count x)) (k y) clean counted in
      let two = subst (λ vs. FitsOf (suc n) (past_open (begins_operation (place_next y.events)) (count x)) [] vs (ops_in (k y)) (blocks_in (k y)) (below (k y))) bare one in
      let three = subst (λ ks. FitsOf (suc n) (past_open (begins_operation (place_next y.events)) (count x)) [] [] (ops_in (k y)) (blocks_in (k y)) ks) e two in
      subst (λ ks. FitsAt n (count x) ks) (sym (open_levels words class numbers z m e))
      (open_front n (count x) (begins_operation (place_next y.events)) (first (k y)) (regions_in (k z)) (args_in (k z)) (ops_in (k z)) (blocks_in (k z)) (below (k z)) opens three)

  -- Parts

  args_fit : (n : ℕ) {x y : State} → IsArgs Takes x y → regions_in (k y) ≡ [] → Fits (suc n) y → Fits (suc n) x
  args_fit n (no_args s) clean h = alike_fits (suc n) (still_alike words class numbers s) h
  args_fit n (arg s a t l more) clean h =
      let behind = alike_join words class numbers (still_alike words class numbers t) (loc_alike words class numbers l) in
      alike_fits (suc n) (still_alike words class numbers s)
      (arg_fits n a (behind.same.regions ∙ (args_heading words class numbers more).regions_is ∙ clean) (alike_fits (suc n) behind (args_fit n more clean h)))

  pub record Clean (x : State) : Type 0 where
    pub regions : regions_in (k x) ≡ []
    pub args : args_in (k x) ≡ []

  mutual
    -- an operation in a function, behind its name
    body_fits : (n j : ℕ) (m : Bool) {x y : State} → IsBody Takes x y → now x ≡ inside j m → Fits (suc n) y → Fits (suc n) x
    body_fits n j m (body s regions t colon begins types arrow results l) e h =
        let one = (still_alike words class numbers s).body_is ∙ e in
        let two = (still_alike words class numbers t).body_is ∙ regions_stay words class numbers regions (ap opens_body one ∙ inside_closed j m) ∙ one in
        alike_fits (suc n) (still_alike words class numbers s)
        (regions_fit (suc n) regions (ap opens_body one ∙ inside_closed j m)
        (alike_fits (suc n) (still_alike words class numbers t)
        (colon_fits (suc n) j m colon two
        (signature_fits (suc n) begins
        (alike_fits (suc n) (still_alike words class numbers types)
        (alike_fits (suc n) (plain_alike words class numbers refl arrow)
        (alike_fits (suc n) (still_alike words class numbers results) (alike_fits (suc n) (loc_alike words class numbers l) h))))))))

    ops_fit : (n j : ℕ) (m : Bool) {x y : State} → IsOps Takes x y → now x ≡ inside j m → args_in (k y) ≡ [] → Fits (suc n) y → Fits (suc n) x
    ops_fit n j m (no_ops x) e bare h = h
    ops_fit n j m (an_op names o b more) e bare h =
        let named = name_stays words class numbers j m o ((names_alike words class numbers names).body_is ∙ e) in
        let typed = body_typed words class numbers b in
        let behind = Rattle.read_states.proofs.Bodies.body_stays words class numbers b (ap opens_body named ∙ inside_closed j m) ∙ named in
        let empty = (ops_inside words class numbers more).args_is ∙ bare in
        alike_fits (suc n) (names_alike words class numbers names) (op_fits n o typed (typed.args_is ∙ empty) (body_fits n j m b named (ops_fit n j m more behind bare h)))

    pub regions_fit : (n : ℕ) {x y : State} → IsRegions Takes x y → opens_body (now x) ≡ false → Fits n y → Fits n x
    regions_fit n (no_regions s) closed h = alike_fits n (still_alike words class numbers s) h
    regions_fit n (region {x} {a} {b} {c} {d} {e} s o ops blocks close more) closed h =
        let j = a.counts.body.within in
        let m = a.counts.body.at_module in
        let one = (still_alike words class numbers s).body_is in
        let shut = ap opens_body one ∙ closed in
        let opened = opens_stay words class numbers o shut in
        let behind = ops_stay words class numbers j m ops opened in
        let last = blocks_stay words class numbers j m blocks behind in
        let there = closes_stay words class numbers j m close last in
        let ended : Clean d = record { regions = ap regions_in (close_levels words class numbers close); args = ap args_in (close_levels words class numbers close) } in
        let inner = ops_inside words class numbers ops in
        let labelled = blocks_labelled words class numbers blocks in
        alike_fits n (still_alike words class numbers s)
        (open_fits n e o (region_below words class numbers inner labelled close) shut (inner.clean (labelled.clean ended.regions)) (inner.args_is ∙ labelled.args_clean ended.args) (begins_with ops blocks close)
        (ops_fit n j m ops opened (labelled.args_clean ended.args) (blocks_fit n j m blocks behind ended (close_fits n j m close last (regions_fit n more (ap opens_body (there ∙ one) ∙ closed) h)))))

    blocks_fit : (n j : ℕ) (m : Bool) {x y : State} → IsBlocks Takes x y → now x ≡ inside j m → Clean y → Fits (suc n) y → Fits (suc n) x
    blocks_fit n j m (no_blocks x) e clean h = h
    blocks_fit n j m (a_block l args colon ops more) e clean h =
        let labelled = blocks_labelled words class numbers more in
        let inner = ops_inside words class numbers ops in
        let head = args_stay words class numbers args ∙ there_bodies words class numbers refl l ∙ e in
        let under = there_bodies words class numbers refl colon ∙ head in
        let behind = ops_stay words class numbers j m ops under in
        let bare = (kept_levels words class numbers refl colon).regions ∙ inner.clean (labelled.clean clean.regions) in
        label_fits n l ((args_heading words class numbers args).regions_is ∙ bare)
        (args_fit n args bare (head_fits (suc n) j m colon head (ops_fit n j m ops under (labelled.args_clean clean.args) (blocks_fit n j m more behind clean h))))
