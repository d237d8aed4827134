-- Lists of functions: of the body of a module, and of a file.
use Rattle.std.proofs.Common.{◌≡◌, ◌⊎◌, inl, inr, ℕ, ◌==◌, Bool, true, false, List, [], ◌∷◌, map, refl, sym, ap, ◌∙◌, subst, true≢false}
use Rattle.std.specs.Prelude.{codes, if◌then◌else◌}
use Rattle.std.specs.Str.{bytes_eq}
use Rattle.std.specs.List.{list_all}
use Rattle.mlir_lex.proofs.Lengths.{and-both, and-left, and-right}
use Rattle.text_grammar.specs.declared.places.Place.{Place}
use Rattle.text_grammar.specs.declared.places.Place.TheVariants as places
use Rattle.tree_model.specs.declared.op_tree.OpTree.{OpTree, out-OpTree, out-roll-OpTree}
use Rattle.tree_model.specs.declared.op_tree.BlockTree.{BlockTree, out-BlockTree, out-roll-BlockTree, roll-out-BlockTree}
use Rattle.tree_model.specs.declared.op_tree.RegionTree.{out-roll-RegionTree}
use Rattle.plain_tree.specs.Ops.{PlainBlock, plain_func, plain_module, plain_op, plain_values}
use Rattle.plain_tree.proofs.OpOpens.{block-roll, plain_block}
use Rattle.text_scopes.specs.declared.bodies.Body.{Body}
use Rattle.text_scopes.specs.declared.bodies.Class.{Class}
use Rattle.text_scopes.specs.Bodies as bodies
use Rattle.text_scopes.specs.Bodies.{opens_body}
use Rattle.text_types.specs.Items.{place_next}
use Rattle.event_trees.specs.Wording.{Wording}
use Rattle.event_trees.specs.Numbers.{begins_operation}
use Rattle.event_trees.specs.Levels.{Levels, op_named, region_blocks}
use Rattle.event_trees.specs.Modules.{around, as_module, body_of, first_ops, funcs_of, is_module, module_of}
use Rattle.text_forms.specs.Forms.{IsBlocks, IsBody, IsFile, IsNames, IsOps, IsRegions, block, body, file_alias, file_op, is_alias, no_blocks, no_file, no_ops, no_regions, op, region}
use Rattle.text_forms.proofs.Carried.{args_carried, body_carried, loc_carried, names_carried, ops_carried, still_carried}
use Rattle.read_states.specs.Numbering.{none_counted}
use Rattle.read_states.specs.Levels.{blocks_in, first, ops_in, regions_in}
use Rattle.read_states.proofs.Words.{alias_plain, alike_join, kept_levels, label_levels, op_levels, open_levels, plain_alike, signature_levels, there_bodies}
use Rattle.read_states.proofs.Parts.{T, loc_alike, names_alike, still_alike}
use Rattle.read_states.proofs.Forms.{blocks_labelled, body_typed, ops_inside, region_below}
use Rattle.read_states.proofs.Counting.{count_at, head_count, inside, op_body, open_body, open_count, outside_at, past_open}
use Rattle.read_states.proofs.Bodies.{args_stay}
use Rattle.read_states.proofs.Stages.{Before, alias_before, file_after, loc_before, module_after, module_named, names_before, still_before}
use Rattle.read_numbers.proofs.Fitting.{blocks_of, ops_of}
use Rattle.read_numbers.proofs.Functions.{Begun, Ready, begun_moved, function_behind, function_named, not_a_module, ready_alike}
use Rattle.scoped_trees.specs.Scoped.{are_scoped, are_scoped_blocks}
use Rattle.read_scopes.specs.Laws.{has_labels}
use Rattle.read_scopes.proofs.Mapped.{file_mapped}
use Rattle.read_scopes.proofs.Turned.{Full}
use Rattle.read_scopes.proofs.Kept.{Scopes, all_known, is_adding, label_scopes, op_scopes}
use Rattle.read_scopes.proofs.Regions.{At, On, Takes, args_ok, body_ok, closed, loc_ok, lv, names_ok, now, of, on_step, plain_args, plain_blocks, plain_body, plain_loc, plain_names, plain_ops, plain_still, step, still_ok, word_ok}

-- no label
abbrev none : ℕ → Bool
none l = false

abbrev fits : OpTree → Bool
fits o = has_labels (plain_op o)

scoped_list : (os : List OpTree) → are_scoped all_known none (ops_of os) ≡ true → list_all fits os ≡ true
scoped_list [] h = refl
scoped_list (o ∷ os) h = and-both _ _ (and-left _ _ h) (scoped_list os (and-right (fits o) _ h))

-- the first operations of a region
first_fit : (bs : List BlockTree) → are_scoped_blocks all_known none (blocks_of bs) ≡ true → list_all fits (first_ops bs) ≡ true
first_fit [] h = refl
first_fit (b ∷ bs) h =
    let opened : plain_block b ≡ record { label = (out-BlockTree b).label; args = plain_values (out-BlockTree b).args; ops = ops_of (out-BlockTree b).ops } = ap plain_block (sym (roll-out-BlockTree b)) ∙ block-roll (out-BlockTree b) in
    scoped_list (out-BlockTree b).ops (sym (ap (λ (c : PlainBlock). are_scoped all_known none c.ops) opened) ∙ and-left _ _ h)

begun_fit : (label : ℕ) (os : List OpTree) (bs : List BlockTree) → are_scoped all_known none (ops_of os) ≡ true → are_scoped_blocks all_known none (blocks_of bs) ≡ true → list_all fits (first_ops (region_blocks label os bs)) ≡ true
begun_fit label [] bs f g = first_fit bs g
begun_fit label (o ∷ os) bs f g = ap (λ b. list_all fits b.ops) (out-roll-BlockTree _) ∙ scoped_list (o ∷ os) f

-- an operation alone, which is a module with such functions
pub record OneModule (os : List OpTree) : Type 0 where
  pub it : OpTree
  pub is : os ≡ it ∷ []
  pub module_is : is_module it ≡ true
  pub all_fit : list_all fits (body_of (out-OpTree it).regions) ≡ true

-- the first of these operations is no module
abbrev pub FirstOther : List OpTree → Type 0
FirstOther [] = Unit {0}
FirstOther (o ∷ os) = is_module o ≡ false

pub record Functions (os : List OpTree) : Type 0 where
  pub all_fit : list_all fits os ≡ true
  pub other : FirstOther os

abbrev pub FileFits : List OpTree → Type 0
FileFits os = Functions os ⊎ OneModule os

module _ (words : Wording) (class : ℕ → Class) (numbers : List ℕ) where
  abbrev Steps : Place → Full → Full → Type 0
  Steps p x y = Takes words class numbers p x y

  abbrev k : Full → Levels
  k x = lv words class numbers x

  abbrev at : Full → Body
  at x = now words class numbers x

  abbrev Here : Full → Type 0
  Here x = On words class numbers x

  abbrev Free : Full → Type 0
  Free x = Ready words class numbers x.state

  abbrev Started : Full → Type 0
  Started x = Begun words class numbers x.state

  on_here : (p : Place) (x y : Full) → Steps p x y → Here x → Here y
  on_here = on_step words class numbers

  started : (p : Place) (x y : Full) → Steps p x y → Started x → Started y
  started p x y m = begun_moved words class numbers p x.state y.state m.move

  at_none : {x : Full} → x.state.counts.body.within ≡ 0 → Here x → At words class numbers none x
  at_none {x} w on = record { on = on; looks = λ e. absurd (true≢false (ap (λ n. n == 0) (sym w) ∙ e)) }

  -- a function with its name
  function_ok : {x a y z : Full} → IsNames Steps x a → (m : Steps places.OpName a y) → IsBody Steps y z → bodies.is_module (class m.move.name) ≡ false → Free x → Here x → Scopes none (k z) → Scopes none (k x)
  function_ok {x} {a} {y} {z} names m b h r on s =
      let ready = ready_alike words class numbers (names_alike words class numbers (plain_names words class numbers names)) r in
      let on_y = on_here places.OpName a y m (names_carried Steps Here on_here names on) in
      let there : at y ≡ outside_at false = function_named words class numbers m.move h ready in
      names_ok words class numbers none names (at_none r.within on)
      (subst (λ (ks : Levels). Scopes none ks) (sym (op_levels words class numbers m.move))
      (op_scopes words none m.move.name a.state.counts.values (k y) (body_ok words class numbers none b (ap opens_body there) (at_none (ap (λ (b : Body). b.within) there) on_y) s)))

  function_on : {x a y z : Full} → IsNames Steps x a → Steps places.OpName a y → IsBody Steps y z → Here x → Here z
  function_on {x} {a} {y} names m b on = body_carried Steps Here on_here b (on_here places.OpName a y m (names_carried Steps Here on_here names on))

  function_started : {x a y z : Full} → IsNames Steps x a → Steps places.OpName a y → IsBody Steps y z → Started x → Started z
  function_started {x} {a} {y} names m b s = body_carried Steps Started started b (started places.OpName a y m (names_carried Steps Started started names s))

  other : {x a y : Full} → IsNames Steps x a → (m : Steps places.OpName a y) → Free x → Started x → bodies.is_module (class m.move.name) ≡ false
  other names m r b = not_a_module words class numbers (plain_names words class numbers names) m.move r b

  behind : {x a y z : Full} → IsNames Steps x a → (m : Steps places.OpName a y) → IsBody Steps y z → bodies.is_module (class m.move.name) ≡ false → Free x → Free z
  behind names m b h r = function_behind words class numbers (plain_names words class numbers names) m.move (plain_body words class numbers b) h r

  -- The body of a module

  list_free : {x y : Full} → IsOps Steps x y → Free x → Started x → Free y
  list_free (no_ops x) r b = r
  list_free (op names m rest more) r b = list_free more (behind names m rest (other names m r b) r) (function_started names m rest b)

  list_ok : {x y : Full} → IsOps Steps x y → Free x → Started x → Here x → Scopes none (k y) → Scopes none (k x)
  list_ok (no_ops x) r b on s = s
  list_ok (op names m rest more) r b on s =
      let h = other names m r b in
      function_ok names m rest h r on (list_ok more (behind names m rest h r) (function_started names m rest b) (function_on names m rest on) s)

  head_free : {x y : Full} → Steps places.BlockColon x y → x.state.counts.body.within ≡ 0 → Free y
  head_free {x} m w = record {
    within = ap (λ (b : Body). b.within) (there_bodies words class numbers refl m.move) ∙ w;
    count_is = head_count words class numbers m.move ∙ ap (λ n. if n == 0 then none_counted else count_at words class numbers x.state) w;
  }

  blocks_ok : {x y : Full} → IsBlocks Steps x y → x.state.counts.body.within ≡ 0 → Started x → Here x → Scopes none (k y) → Scopes none (k x)
  blocks_ok (no_blocks x) w b on s = s
  blocks_ok (block {x} {a} {b = p} {c = q} {d = r} m args colon ops more) w b on s =
      let within_a = ap (λ (b : Body). b.within) (there_bodies words class numbers refl m.move) ∙ w in
      let within_p = ap (λ (b : Body). b.within) (args_stay words class numbers (plain_args words class numbers args)) ∙ within_a in
      let free = head_free colon within_p in
      let on_a = on_here places.BlockLabel x a m on in
      let on_p = args_carried Steps Here on_here args on_a in
      let on_q = on_here places.BlockColon p q colon on_p in
      let begun = started places.BlockColon p q colon (args_carried Steps Started started args (started places.BlockLabel x a m b)) in
      subst (λ (ks : Levels). Scopes none ks) (sym (label_levels words class numbers m.move))
      (label_scopes none x.state.counts.labels (k a)
      (args_ok words class numbers none args (at_none within_a on_a) (word_ok words class numbers none refl colon (at_none within_p on_p)
      (list_ok ops free begun on_q (blocks_ok more (list_free ops free begun).within (ops_carried Steps Started started ops begun) (ops_carried Steps Here on_here ops on_q) s)))))

  body_opens : {a b : Full} → Steps places.RegionOpen a b → at a ≡ outside_at true → Free b
  body_opens {a} {b} m e =
      let opens : opens_body (at a) ≡ true = ap opens_body e in
      record {
        within = ap (λ (b : Body). b.within) (open_body words class numbers m.move ∙ ap (λ t. if t then at a else inside a.state.counts.body.within a.state.counts.body.at_module) opens ∙ e);
        count_is = open_count words class numbers m.move ∙ ap (λ t. if t then none_counted else past_open (begins_operation (place_next b.state.events)) (count_at words class numbers a.state)) opens;
      }

  region_fits : {x y : Full} → IsRegions Steps x y → at x ≡ outside_at true → Started x → Here x → regions_in (k y) ≡ [] → list_all fits (body_of (regions_in (k x))) ≡ true
  region_fits (no_regions s) e b on h = ap (λ rs. list_all fits (body_of rs)) ((still_alike words class numbers (plain_still words class numbers s)).same.regions ∙ h)
  region_fits (region {x} {a = p} {b = q} {c = r} {d = t} {e = z} s o ops blocks close more) there b on h =
      let alike = still_alike words class numbers (plain_still words class numbers s) in
      let on_q = on_here places.RegionOpen p q o (still_carried Steps Here on_here s on) in
      let begun = started places.RegionOpen p q o (still_carried Steps Started started s b) in
      let free = body_opens o (alike.body_is ∙ there) in
      let inner = list_ok ops free begun on_q (blocks_ok blocks (list_free ops free begun).within (ops_carried Steps Started started ops begun) (ops_carried Steps Here on_here ops on_q) (closed words class numbers none close)) in
      let levels_are = open_levels words class numbers z.state o.move (region_below words class numbers (ops_inside words class numbers (plain_ops words class numbers ops)) (blocks_labelled words class numbers (plain_blocks words class numbers blocks)) close.move) in
      ap (λ rs. list_all fits (body_of rs)) (alike.same.regions ∙ ap regions_in levels_are)
      ∙ ap (λ r. list_all fits (first_ops r.blocks)) (out-roll-RegionTree _)
      ∙ begun_fit p.state.counts.labels (ops_in (k q)) (blocks_in (k q)) inner.ops inner.blocks

  module_fits : {x y : Full} → IsBody Steps x y → at x ≡ outside_at true → Started x → Here x → regions_in (k y) ≡ [] → list_all fits (body_of (regions_in (k x))) ≡ true
  module_fits (body s regions t colon begins types arrow results l) e b on h =
      let alike = still_alike words class numbers (plain_still words class numbers s) in
      let last = (still_alike words class numbers (plain_still words class numbers types)).same.regions ∙ (plain_alike words class numbers refl arrow.move).same.regions ∙ (still_alike words class numbers (plain_still words class numbers results)).same.regions
      ∙ (loc_alike words class numbers (plain_loc words class numbers l)).same.regions ∙ h in
      let typed = (still_alike words class numbers (plain_still words class numbers t)).same.regions ∙ (kept_levels words class numbers refl colon.move).regions ∙ ap regions_in (signature_levels words class numbers begins.move) ∙ last in
      ap (λ rs. list_all fits (body_of rs)) alike.same.regions ∙ region_fits regions (alike.body_is ∙ e) (still_carried Steps Started started s b) (still_carried Steps Here on_here s on) typed

  -- A file

  plain_file : {x y : Full} → IsFile Steps x y → IsFile (T words class numbers) x.state y.state
  plain_file f = file_mapped Steps (T words class numbers) (of words class numbers) (step words class numbers) f

  -- an alias is nothing to the levels
  adds_nothing : (p : Place) → is_alias p ≡ true → is_adding p ≡ false
  adds_nothing places.TypeAliasName h = refl
  adds_nothing places.AttrAliasName h = refl
  adds_nothing places.OpName h = absurd (true≢false (sym h))
  adds_nothing _ h = absurd (true≢false (sym h))

  -- behind the first operation
  file_ok : {x y : Full} → IsFile Steps x y → Free x → Started x → Here x → Scopes none (k y) → Scopes none (k x)
  file_ok (no_file x) r b on s = s
  file_ok (file_op names m rest more) r b on s =
      let h = other names m r b in
      function_ok names m rest h r on (file_ok more (behind names m rest h r) (function_started names m rest b) (function_on names m rest on) s)
  file_ok (file_alias p {x} {a = q} {b = t} {c = u} h m still o more) r b on s =
      let one = plain_alike words class numbers (alias_plain p h) m.move in
      let two = still_alike words class numbers (plain_still words class numbers still) in
      let three = loc_alike words class numbers (plain_loc words class numbers o) in
      let free_q = ready_alike words class numbers one r in
      let free_t = ready_alike words class numbers two free_q in
      let free_u = ready_alike words class numbers three free_t in
      let on_q = on_here p x q m on in
      let on_t = still_carried Steps Here on_here still on_q in
      word_ok words class numbers none (adds_nothing p h) m (at_none r.within on)
      (still_ok words class numbers none still (at_none free_q.within on_q)
      (loc_ok words class numbers none o (at_none free_t.within on_t)
      (file_ok more free_u (loc_carried Steps Started started o (still_carried Steps Started started still (started p x q m b))) (loc_carried Steps Here on_here o on_t) s)))

  one_module : {x a b c y : Full} → IsNames Steps x a → (m : Steps places.OpName a b) → IsBody Steps b c → IsFile Steps c y → bodies.is_module (class m.move.name) ≡ true → Free x → Before x.state.shape → Here x → ops_in (k y) ≡ [] → regions_in (k y) ≡ []
      → OneModule (ops_in (k x))
  one_module {x} {a} {b} {c} names m rest more h r before on none_left clean =
      let plain = plain_names words class numbers names in
      let alone = file_after words class numbers (plain_file more) (module_after words class numbers (plain_body words class numbers rest) (module_named words class numbers m.move h (names_before words class numbers plain before))) in
      let there : at b ≡ outside_at true =
      op_body words class numbers m.move ∙ ap (λ n. if n == 0 then outside_at (bodies.is_module (class m.move.name)) else at a) (ready_alike words class numbers (names_alike words class numbers plain) r).within ∙ ap outside_at h in
      record {
        it = op_named words m.move.name a.state.counts.values (first (k b)).parts;
        is = (names_alike words class numbers plain).same.ops ∙ ap ops_in (op_levels words class numbers m.move)
            ∙ ap (λ os. op_named words m.move.name a.state.counts.values (first (k b)).parts ∷ os) ((body_typed words class numbers (plain_body words class numbers rest)).ops_is ∙ alone.same.ops ∙ none_left);
        module_is = ap (λ o. bytes_eq o.name (codes "builtin.module")) (out-roll-OpTree _) ∙ sym (m.move.told refl) ∙ h;
        all_fit = ap (λ o. list_all fits (body_of o.regions)) (out-roll-OpTree _) ∙ module_fits rest there m.move.begun_so (on_here places.OpName a b m (names_carried Steps Here on_here names on)) (alone.same.regions ∙ clean);
      }

  -- the first operation is a function
  first_function : {x a b c y : Full} → IsNames Steps x a → (m : Steps places.OpName a b) → IsBody Steps b c → IsFile Steps c y → bodies.is_module (class m.move.name) ≡ false → Free x → Here x → Scopes none (k y) → Functions (ops_in (k x))
  first_function {x} {a} {b} names m rest more h r on s =
      let same : ops_in (k x) ≡ op_named words m.move.name a.state.counts.values (first (k b)).parts ∷ ops_in (k b) = (names_alike words class numbers (plain_names words class numbers names)).same.ops ∙ ap ops_in (op_levels words class numbers m.move) in
      record {
        all_fit = scoped_list (ops_in (k x)) (function_ok names m rest h r on (file_ok more (behind names m rest h r) (body_carried Steps Started started rest m.move.begun_so) (function_on names m rest on) s)).ops;
        other = subst FirstOther (sym same) (ap (λ o. bytes_eq o.name (codes "builtin.module")) (out-roll-OpTree _) ∙ sym (m.move.told refl) ∙ h);
      }

  pub file_fits : {x y : Full} → IsFile Steps x y → Free x → Before x.state.shape → Here x → Scopes none (k y) → ops_in (k y) ≡ [] → regions_in (k y) ≡ [] → FileFits (ops_in (k x))
  file_fits (no_file x) r before on s none_left clean = subst FileFits (sym none_left) (inl (record { all_fit = refl; other = tt }))
  file_fits (file_alias p {x} {a = q} h m still o more) r before on s none_left clean =
      let a = alike_join words class numbers (plain_alike words class numbers (alias_plain p h) m.move)
      (alike_join words class numbers (still_alike words class numbers (plain_still words class numbers still)) (loc_alike words class numbers (plain_loc words class numbers o))) in
      subst FileFits (sym a.same.ops)
      (file_fits more (ready_alike words class numbers a r) (loc_before words class numbers (plain_loc words class numbers o) (still_before words class numbers (plain_still words class numbers still) (alias_before words class numbers p h m.move before)))
      (loc_carried Steps Here on_here o (still_carried Steps Here on_here still (on_here p x q m on))) s none_left clean)
  file_fits (file_op {x} names m rest more) r before on s none_left clean = by_class (bodies.is_module (class m.move.name)) refl
    where
      by_class : (b : Bool) → bodies.is_module (class m.move.name) ≡ b → FileFits (ops_in (k x))
      by_class true h = inr (one_module names m rest more h r before on none_left clean)
      by_class false h = inl (first_function names m rest more h r on s)

-- The module of the file

funcs_fit : (os : List OpTree) → list_all fits os ≡ true → list_all has_labels (map plain_func (funcs_of os)) ≡ true
funcs_fit [] h = refl
funcs_fit (o ∷ os) h = and-both _ _ (and-left _ _ h) (funcs_fit os (and-right (fits o) _ h))

pub module_fits_whole : (os : List OpTree) → FileFits os → list_all has_labels (plain_module (module_of os)).funcs ≡ true
module_fits_whole [] (inl f) = refl
module_fits_whole (o ∷ []) (inl f) = ap (λ b. list_all has_labels (plain_module (if b then as_module o else around (o ∷ []))).funcs) f.other ∙ funcs_fit (o ∷ []) f.all_fit
module_fits_whole (o ∷ p ∷ os) (inl f) = funcs_fit (o ∷ p ∷ os) f.all_fit
module_fits_whole os (inr m) =
    ap (λ xs. list_all has_labels (plain_module (module_of xs)).funcs) m.is
    ∙ ap (λ b. list_all has_labels (plain_module (if b then as_module m.it else around (m.it ∷ []))).funcs) m.module_is ∙ funcs_fit (body_of (out-OpTree m.it).regions) m.all_fit
