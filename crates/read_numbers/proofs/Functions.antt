-- Functions: each one in a list is numbered from none on.
use Rattle.std.proofs.Common.{◌≡◌, ℕ, ◌==◌, Bool, true, false, List, [], ◌∷◌, length, refl, sym, ap, ◌∙◌, subst, true≢false}
use Rattle.std.specs.Prelude.{codes, not, if◌then◌else◌}
use Rattle.std.specs.Str.{bytes_eq}
use Rattle.std.specs.List.{list_all}
use Rattle.mlir_lex.proofs.Lengths.{and-both}
use Rattle.text_grammar.specs.declared.places.Place.{Place}
use Rattle.text_grammar.specs.declared.places.Place.TheVariants as places
use Rattle.tree_model.specs.declared.op_tree.OpTree.{OpTree, out-roll-OpTree}
use Rattle.tree_model.specs.declared.op_tree.BlockTree.{BlockTree, out-roll-BlockTree}
use Rattle.tree_model.specs.declared.op_tree.RegionTree.{out-roll-RegionTree}
use Rattle.plain_tree.specs.Ops.{Op, Values, plain_values}
use Rattle.text_scopes.specs.declared.bodies.Body.{Body}
use Rattle.text_scopes.specs.declared.bodies.Class.{Class}
use Rattle.text_scopes.specs.declared.bodies.Class.TheVariants as classes
use Rattle.text_scopes.specs.Bodies.{is_module, opens_body}
use Rattle.text_kinds.specs.declared.misplaced.Spot.{Spot}
use Rattle.text_kinds.specs.Shapes.{begins, may_stand}
use Rattle.event_trees.specs.Wording.{Wording}
use Rattle.text_types.specs.Items.{place_next}
use Rattle.event_trees.specs.Numbers.{begins_operation, first_count}
use Rattle.event_trees.specs.Levels.{Levels, Parts, block_labelled, numbered, op_named, region_blocks, result_types}
use Rattle.event_trees.specs.Modules.{body_of, first_ops}
use Rattle.read_states.specs.Numbering.{Count, is_numbered, none_counted, past_values}
use Rattle.text_forms.specs.Forms.{IsArgs, IsBlocks, IsBody, IsNames, IsOps, IsRegions, block, body, no_blocks, no_ops, no_regions, op, region}
use Rattle.read_states.specs.States.{State, waits}
use Rattle.read_states.specs.Levels.{first, ops_in, blocks_in, regions_in}
use Rattle.read_states.proofs.Words.{Alike, Same, close_levels, kept_levels, label_levels, levels, op_levels, open_levels, plain_alike, signature_levels, there_bodies}
use Rattle.read_states.proofs.Parts.{T, loc_alike, names_alike, still_alike}
use Rattle.read_states.proofs.Forms.{args_heading, blocks_labelled, body_typed, ops_inside, region_below}
use Rattle.read_states.proofs.Counting.{colon_count, count_at, head_count, inside, op_body, op_count, open_body, open_count, outside_at, past_open}
use Rattle.read_states.proofs.Bodies.{args_stay, at, regions_stay}
use Rattle.read_numbers.proofs.Fitting.{Functions, is_fit, regions_of}
use Rattle.read_numbers.proofs.Numbers.{Fits, alike_fits, op_plain, regions_fit, results_counted, results_here, results_length}
use Rattle.text_forms.proofs.Carried.{args_carried, body_carried, names_carried, ops_carried, still_carried}

-- an operation of a function's list, behind the first operation of the file, is no module
no_module : (spot : Spot) (c : Class) → spot.body.within ≡ 0 → spot.begun ≡ true → not (may_stand spot c) ≡ false → is_module c ≡ false
no_module spot classes.Module w b h =
    absurd (true≢false (sym (ap (λ n. not (if n == 0 then not spot.begun else false)) w ∙ ap (λ b. not (not b)) b) ∙ h))
no_module spot _ w b h = refl

begins_still : (p : Place) (b : Bool) → b ≡ true → begins b p ≡ true
begins_still places.OpName b h = refl
begins_still _ b h = h

-- the first operations of a region
pub first_fits : (label : ℕ) (os : List OpTree) (bs : List BlockTree) → Functions os bs → list_all is_fit (first_ops (region_blocks label os bs)) ≡ true
first_fits label [] bs f = f.first_fit
first_fits label (o ∷ os) bs f = ap (λ b. list_all is_fit b.ops) (out-roll-BlockTree _) ∙ f.ops_fit

module _ (words : Wording) (class : ℕ → Class) (numbers : List ℕ) where
  abbrev Takes : Place → State → State → Type 0
  Takes p x y = T words class numbers p x y

  abbrev k : State → Levels
  k x = levels words class numbers x

  abbrev now : State → Body
  now x = at words class numbers x

  abbrev count : State → Count
  count x = count_at words class numbers x

  -- a list of functions goes on
  pub record Ready (x : State) : Type 0 where
    pub within : x.counts.body.within ≡ 0
    pub count_is : count x ≡ none_counted

  abbrev pub Begun : State → Type 0
  Begun x = x.begun ≡ true

  pub begun_moved : (p : Place) (x y : State) → Takes p x y → Begun x → Begun y
  begun_moved p x y m h = m.begun_so ∙ begins_still p x.begun h

  pub ready_alike : {x y : State} → Alike words class numbers x y → Ready x → Ready y
  ready_alike a r = record { within = ap (λ (b : Body). b.within) a.body_is ∙ r.within; count_is = a.count_is ∙ r.count_is }

  -- the functions of a list, and nothing else of the region
  pub record Listed (x : State) : Type 0 where
    pub functions : Functions (ops_in (k x)) (blocks_in (k x))
    pub regions : regions_in (k x) ≡ []

  pub listed_alike : {x y : State} → Alike words class numbers x y → Listed y → Listed x
  listed_alike {x} {y} a l = record {
    functions = subst (λ os. Functions os (blocks_in (k x))) (sym a.same.ops) (subst (λ bs. Functions (ops_in (k y)) bs) (sym a.same.blocks) l.functions);
    regions = a.same.regions ∙ l.regions;
  }

  listed_fits : {x : State} → Listed x → Fits words class numbers 0 x
  listed_fits {x} l = (subst (λ rs. Rattle.read_states.specs.Numbering.are_numbered_regions (count x) (regions_of rs) ≡ true) (sym l.regions) refl, l.functions)

  listed_colon : {x y : State} → Takes places.SignatureColon x y → Listed y → Listed x
  listed_colon {x} {y} m l =
      let s = kept_levels words class numbers refl m in
      record {
        functions = subst (λ os. Functions os (blocks_in (k x))) (sym s.ops) (subst (λ bs. Functions (ops_in (k y)) bs) (sym s.blocks) l.functions);
        regions = s.regions ∙ l.regions;
      }

  listed_signature : {x y : State} → Takes places.SignatureOpen x y → Listed y → Listed x
  listed_signature {x} {y} m l =
      let e = signature_levels words class numbers m in
      record {
        functions = subst (λ os. Functions os (blocks_in (k x))) (sym (ap ops_in e)) (subst (λ bs. Functions (ops_in (k y)) bs) (sym (ap blocks_in e)) l.functions);
        regions = ap regions_in e ∙ l.regions;
      }

  -- a function behind its name
  function_fits : {x y : State} → IsBody Takes x y → now x ≡ outside_at false → Listed y → Fits words class numbers 0 x
  function_fits (body s regions t colon begins types arrow results l) e h =
      let typed = listed_alike (still_alike words class numbers types) (listed_alike (plain_alike words class numbers refl arrow) (listed_alike (still_alike words class numbers results) (listed_alike (loc_alike words class numbers l) h))) in
      let last = listed_colon colon (listed_signature begins typed) in
      alike_fits words class numbers 0 (still_alike words class numbers s)
      (regions_fit words class numbers 0 regions (ap opens_body ((still_alike words class numbers s).body_is ∙ e)) (alike_fits words class numbers 0 (still_alike words class numbers t) (listed_fits last)))

  -- behind its function type counting begins anew
  function_ready : {x y : State} → IsBody Takes x y → now x ≡ outside_at false → Ready y
  function_ready {x} {y} (body {c = q} s regions t colon begins types arrow results l) e =
      let one = (still_alike words class numbers s).body_is ∙ e in
      let two = (still_alike words class numbers t).body_is ∙ regions_stay words class numbers regions (ap opens_body one) ∙ one in
      let fresh = colon_count words class numbers colon ∙ ap (λ (b : Body). if b.within == 0 then none_counted else count q) two in
      let there = there_bodies words class numbers refl colon ∙ two in
      ready_alike (loc_alike words class numbers l) (ready_alike (still_alike words class numbers results) (ready_alike (plain_alike words class numbers refl arrow) (ready_alike (still_alike words class numbers types)
      (record { within = ap (λ (b : Body). b.within) (there_bodies words class numbers refl begins ∙ there); count_is = Rattle.read_states.proofs.Words.quiet_counts words class numbers refl begins ∙ fresh }))))

  -- a function with its name
  pub function_named : {x y : State} (m : Takes places.OpName x y) → is_module (class m.name) ≡ false → Ready x → now y ≡ outside_at false
  function_named {x} {y} m h r =
      op_body words class numbers m ∙ ap (λ n. if n == 0 then outside_at (is_module (class m.name)) else now x) r.within ∙ ap outside_at h

  numbered_function : {x y z : State} (m : Takes places.OpName x y) → IsBody Takes y z → is_module (class m.name) ≡ false → Ready x → Listed z
      → is_fit (op_named words m.name x.counts.values (first (k y)).parts) ≡ true
  numbered_function {x} {y} m b h r l =
      let parts : Parts = (first (k y)).parts in
      let fits = function_fits b (function_named m h r) l in
      let zero_is : x.counts.values ≡ 0 = ap (λ (c : Count). c.values) r.count_is in
      let results : Values = plain_values (numbered x.counts.values (result_types parts.signature)) in
      let many : first_count (waits y) ≡ length results = results_here words class numbers (body_typed words class numbers b) ∙ sym (results_length x.counts.values (result_types parts.signature)) in
      let counted : count y ≡ past_values none_counted (length results) = op_count words class numbers m ∙ ap (past_values (count x)) many ∙ ap (λ c. past_values c (length results)) r.count_is in
      let regions = subst (λ c. Rattle.read_states.specs.Numbering.are_numbered_regions c (regions_of parts.regions) ≡ true) counted fits.0 in
      let own = subst (λ n. Rattle.read_states.specs.Numbering.are_counted n results ≡ true) zero_is (results_counted x.counts.values (result_types parts.signature)) in
      and-both _ _ (subst (λ (o : Op). is_numbered none_counted o ≡ true) (sym (op_plain words m.name x.counts.values parts)) (and-both _ _ own regions))
      (ap (λ o. not (bytes_eq o.name (codes "builtin.module"))) (out-roll-OpTree _) ∙ ap not (sym (m.told refl) ∙ h))

  pub function_listed : {x a y z : State} → IsNames Takes x a → (m : Takes places.OpName a y) → IsBody Takes y z → is_module (class m.name) ≡ false → Ready x → Listed z → Listed x
  function_listed {a = a} {y = y} names m b h r l =
      let e = op_levels words class numbers m in
      let typed = body_typed words class numbers b in
      let ready = ready_alike (names_alike words class numbers names) r in
      let behind : Functions (ops_in (k y)) (blocks_in (k y)) = (function_fits b (function_named m h ready) l).1 in
      let all : Functions (op_named words m.name a.counts.values (first (k y)).parts ∷ ops_in (k y)) (blocks_in (k y)) =
      record { ops_fit = and-both _ _ (numbered_function m b h ready l) behind.ops_fit; first_fit = behind.first_fit } in
      listed_alike (names_alike words class numbers names) (record {
        functions = subst (λ os. Functions os (blocks_in (k a))) (sym (ap ops_in e)) (subst (λ bs. Functions (op_named words m.name a.counts.values (first (k y)).parts ∷ ops_in (k y)) bs) (sym (ap blocks_in e)) all);
        regions = ap regions_in e;
      })

  pub function_behind : {x a y z : State} → IsNames Takes x a → (m : Takes places.OpName a y) → IsBody Takes y z → is_module (class m.name) ≡ false → Ready x → Ready z
  function_behind names m b h r = function_ready b (function_named m h (ready_alike (names_alike words class numbers names) r))

  pub not_a_module : {x a y : State} → IsNames Takes x a → (m : Takes places.OpName a y) → Ready x → Begun x → is_module (class m.name) ≡ false
  not_a_module {a = a} names m r b =
      no_module (record { body = a.counts.body; begun = a.begun }) (class m.name) (ready_alike (names_alike words class numbers names) r).within (names_carried Takes Begun begun_moved names b) m.well_placed

  -- The body of a module

  ops_ready : {x y : State} → IsOps Takes x y → Ready x → Begun x → Ready y
  ops_ready (no_ops x) r b = r
  ops_ready (op names m rest more) r b =
      ops_ready more (function_behind names m rest (not_a_module names m r b) r) (body_carried Takes Begun begun_moved rest (begun_moved _ _ _ m (names_carried Takes Begun begun_moved names b)))

  ops_listed : {x y : State} → IsOps Takes x y → Ready x → Begun x → Listed y → Listed x
  ops_listed (no_ops x) r b l = l
  ops_listed (op names m rest more) r b l =
      let h = not_a_module names m r b in
      function_listed names m rest h r
      (ops_listed more (function_behind names m rest h r) (body_carried Takes Begun begun_moved rest (begun_moved _ _ _ m (names_carried Takes Begun begun_moved names b))) l)

  head_ready : {x y : State} → Takes places.BlockColon x y → x.counts.body.within ≡ 0 → Ready y
  head_ready {x} m w = record { within = ap (λ (b : Body). b.within) (there_bodies words class numbers refl m) ∙ w; count_is = head_count words class numbers m ∙ ap (λ n. if n == 0 then none_counted else count x) w }

  label_listed : {x a b c : State} → Takes places.BlockLabel x a → IsArgs Takes a b → Takes places.BlockColon b c → Listed c → Listed x
  label_listed {x} {a} {b} {c} m args colon l =
      let e = label_levels words class numbers m in
      let s = kept_levels words class numbers refl colon in
      let h = args_heading words class numbers args in
      let ops : ops_in (k a) ≡ ops_in (k c) = h.ops_is ∙ s.ops in
      let fits : list_all is_fit (first_ops (block_labelled x.counts.labels (first (k a)) ∷ blocks_in (k a))) ≡ true =
      ap (λ b. list_all is_fit b.ops) (out-roll-BlockTree _) ∙ ap (list_all is_fit) ops ∙ l.functions.ops_fit in
      record {
        functions = record { ops_fit = ap (λ ks. list_all is_fit (ops_in ks)) e; first_fit = ap (λ ks. list_all is_fit (first_ops (blocks_in ks))) e ∙ fits };
        regions = ap regions_in e ∙ h.regions_is ∙ s.regions ∙ l.regions;
      }

  blocks_listed : {x y : State} → IsBlocks Takes x y → x.counts.body.within ≡ 0 → Begun x → Listed y → Listed x
  blocks_listed (no_blocks x) w b l = l
  blocks_listed (block m args colon ops more) w b l =
      let head = ap (λ (b : Body). b.within) (args_stay words class numbers args ∙ there_bodies words class numbers refl m) ∙ w in
      let ready = head_ready colon head in
      let begun = begun_moved _ _ _ colon (args_carried Takes Begun begun_moved args (begun_moved _ _ _ m b)) in
      label_listed m args colon (ops_listed ops ready begun (blocks_listed more (ops_ready ops ready begun).within (ops_carried Takes Begun begun_moved ops begun) l))

  body_opens : {a b : State} → Takes places.RegionOpen a b → now a ≡ outside_at true → Ready b
  body_opens {a} {b} m e =
      let opens : opens_body (now a) ≡ true = ap opens_body e in
      record {
        within = ap (λ (b : Body). b.within) (open_body words class numbers m ∙ ap (λ t. if t then now a else inside a.counts.body.within a.counts.body.at_module) opens ∙ e);
        count_is = open_count words class numbers m ∙ ap (λ t. if t then none_counted else past_open (begins_operation (place_next b.events)) (count a)) opens;
      }

  -- the functions of the module: the first operations of its first region
  pub body_listed : {x y : State} → IsRegions Takes x y → now x ≡ outside_at true → Begun x → regions_in (k y) ≡ [] → list_all is_fit (body_of (regions_in (k x))) ≡ true
  body_listed (no_regions s) e b h = ap (λ rs. list_all is_fit (body_of rs)) ((still_alike words class numbers s).same.regions ∙ h)
  body_listed (region {a = p} {b = q} {d} {e = z} s o ops blocks close more) there b h =
      let one = (still_alike words class numbers s).body_is ∙ there in
      let begun = begun_moved _ _ _ o (still_carried Takes Begun begun_moved s b) in
      let ready = body_opens o one in
      let ended : Listed d = record {
        functions = record { ops_fit = ap (λ ks. list_all is_fit (ops_in ks)) (close_levels words class numbers close); first_fit = ap (λ ks. list_all is_fit (first_ops (blocks_in ks))) (close_levels words class numbers close) };
        regions = ap regions_in (close_levels words class numbers close);
      } in
      let opened = ops_listed ops ready begun (blocks_listed blocks (ops_ready ops ready begun).within (ops_carried Takes Begun begun_moved ops begun) ended) in
      let levels_are = open_levels words class numbers z o (region_below words class numbers (ops_inside words class numbers ops) (blocks_labelled words class numbers blocks) close) in
      ap (λ rs. list_all is_fit (body_of rs)) ((still_alike words class numbers s).same.regions ∙ ap regions_in levels_are)
      ∙ ap (λ r. list_all is_fit (first_ops r.blocks)) (out-roll-RegionTree _)
      ∙ first_fits p.counts.labels (ops_in (k q)) (blocks_in (k q)) opened.functions

  pub module_body : {x y : State} → IsBody Takes x y → now x ≡ outside_at true → Begun x → regions_in (k y) ≡ [] → list_all is_fit (body_of (regions_in (k x))) ≡ true
  module_body (body s regions t colon begins types arrow results l) e b h =
      let behind = (still_alike words class numbers types).same.regions ∙ (plain_alike words class numbers refl arrow).same.regions ∙ (still_alike words class numbers results).same.regions ∙ (loc_alike words class numbers l).same.regions ∙ h in
      let last = (still_alike words class numbers t).same.regions ∙ (kept_levels words class numbers refl colon).regions ∙ ap regions_in (signature_levels words class numbers begins) ∙ behind in
      ap (λ rs. list_all is_fit (body_of rs)) (still_alike words class numbers s).same.regions
      ∙ body_listed regions ((still_alike words class numbers s).body_is ∙ e) (still_carried Takes Begun begun_moved s b) last
