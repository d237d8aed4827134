-- States of reading with the turns of labels before them.
use Rattle.std.proofs.Common.{◌≡◌, inl, inr, ℕ, suc, ◌+◌, ◌-◌, ◌==◌, Bool, true, false, List, [], ◌∷◌, ◌++◌, map, length, drop, get_or, Option, Some, None, refl, sym, ap, ◌∙◌, subst, true≢false, arith, append_assoc}
use Rattle.std.specs.Prelude.{is_some, not, option_map, if◌then◌else◌}
use Rattle.std.proofs.lemmas.List.{drop-drop, get_or-drop}
use Rattle.text_grammar.specs.declared.places.Place.{Place}
use Rattle.text_grammar.specs.declared.places.Place.TheVariants as places
use Rattle.text_scopes.specs.declared.bodies.Body.{Body}
use Rattle.text_scopes.specs.declared.bodies.Class.{Class}
use Rattle.text_scopes.specs.declared.steps.Step.TheVariants as steps
use Rattle.text_scopes.specs.declared.tables.Names.TheVariants as names
use Rattle.text_scopes.specs.Seen.{Turn, first_undefined, is_undefined, or_else, resolved, seen, mirror, stands_for, told, turns}
use Rattle.text_scopes.specs.Tables.{label_step, steps_of}
use Rattle.event_trees.specs.declared.counts.Counts.{Counts}
use Rattle.event_trees.specs.Wording.{Wording}
use Rattle.event_trees.specs.Numbers.{Left, defined_at, first_of, left_at, number_at, numbers_from, result_counts}
use Rattle.scope_laws.specs.Turns.{Level, Near, RightAhead, is_flat, level_end, level_nest, level_step, pass}
use Rattle.scope_laws.proofs.TurnLaws.{Rights, found_right, level_append, move_rights, pass_append}
use Rattle.text_forms.specs.Forms.{IsArgs, IsBlocks, IsBody, IsLoc, IsNames, IsOps, IsRegions, Still, arg, block, body, is_still, loc, name, no_args, no_blocks, no_loc, no_names, no_ops, no_regions, op, region, still_end, still_more}
use Rattle.read_states.specs.States.{Move, State, event}

pub record Full : Type 0 where
  pub state : State
  pub before : List Turn

-- lists
here_is : (numbers : List ℕ) (k v : ℕ) (rest : List ℕ) → drop k numbers ≡ v ∷ rest → get_or numbers k 0 ≡ v
here_is numbers k v rest e =
    let z : k ≡ k + 0 = omega arith in
    ap (λ j. get_or numbers j 0) z ∙ sym (get_or-drop k numbers 0 0) ∙ ap (λ xs. get_or xs 0 0) e

one_more : (numbers : List ℕ) (k : ℕ) → drop (suc k) numbers ≡ drop 1 (drop k numbers)
one_more numbers k = let e : suc k ≡ k + 1 = omega arith in ap (λ j. drop j numbers) e ∙ sym (drop-drop 1 k numbers)

-- what is left of the definitions of successors
left_step : (p : Place) (b : Body) (l : Left) (o : Option ℕ) (os : List (Option ℕ)) → l.labels ≡ told (label_step b p) o ++ os → (left_at p l).labels ≡ os
left_step places.SuccessorName b l o os h = by_test (b.within == 0) h
  where
    by_test : (t : Bool) → l.labels ≡ told (if t then steps.Misses else steps.Uses) o ++ os → drop 1 l.labels ≡ os
    by_test true h = ap (drop 1) h
    by_test false h = ap (drop 1) h
left_step places.UseName b l o os h = h
left_step _ b l o os h = h

-- a use that is not undefined
not_undefined : (b : Bool) (n : ℕ) (o : Option ℕ) → (if b then Some n else o) ≡ None → (b ≡ false) × (o ≡ None)
not_undefined true n o h = absurd cc
not_undefined false n o h = (refl, h)

not_not : (b : Bool) → not b ≡ false → b ≡ true
not_not true h = refl
not_not false h = sym h

pub near_of : (called : ℕ) (before after : List Turn) → is_some (stands_for false called before after) ≡ true → Near false called before after
near_of called before after h = by_back (seen false called 0 before) refl h
  where
    mapped : (o : Option ℕ) (f : ℕ → ℕ) → is_some (option_map f o) ≡ true → is_some o ≡ true
    mapped None f h = h
    mapped (Some n) f h = refl

    by_back : (o : Option ℕ) → seen false called 0 before ≡ o → is_some (or_else o (option_map (λ beyond. length before + length after - beyond) (seen false called 0 (map mirror after)))) ≡ true → Near false called before after
    by_back (Some n) e h = inl (ap is_some e)
    by_back None e h = inr (mapped (seen false called 0 (map mirror after)) (λ beyond. length before + length after - beyond) h)

-- still words are flat
pub flat_still : (d : Bool) (p : Place) (b : Body) → is_still p ≡ true → is_flat d (label_step b p) ≡ true
flat_still d places.SuccessorName b h = by_test (b.within == 0)
  where
    by_test : (t : Bool) → is_flat d (if t then steps.Misses else steps.Uses) ≡ true
    by_test true = refl
    by_test false = refl
flat_still d places.BlockLabel b h = absurd (true≢false (sym h))
flat_still d places.RegionOpen b h = absurd (true≢false (sym h))
flat_still d places.RegionClose b h = absurd (true≢false (sym h))
flat_still d _ b h = refl

module _ (words : Wording) (class : ℕ → Class) (numbers : List ℕ) where
  pub record Moved (p : Place) (x y : Full) : Type 0 where
    pub move : Move words class numbers p x.state y.state
    pub before_is : y.before ≡ (label_step x.state.counts.body p, event p move.name) ∷ x.before

  abbrev pub body_at : Full → Body
  body_at x = x.state.counts.body

  abbrev pub ahead : Full → List Turn
  ahead x = turns (steps_of names.Labels class x.state.counts.body x.state.events) x.state.events

  abbrev pub own : Full → List ℕ
  own x = numbers_from words class x.state.counts x.state.events (result_counts x.state.events x.state.terms)

  pub ahead_moved : {p : Place} {x y : Full} (m : Moved p x y) → ahead x ≡ (label_step (body_at x) p, event p m.move.name) ∷ ahead y
  ahead_moved {p} {x} {y} m =
      ap (λ es. turns (steps_of names.Labels class x.state.counts.body es) es) m.move.event_is
      ∙ ap (λ (b : Body). (label_step x.state.counts.body p, event p m.move.name) ∷ turns (steps_of names.Labels class b y.state.events) y.state.events) (sym (ap (λ (c : Counts). c.body) m.move.counted_so))

  own_moved : {p : Place} {x y : Full} → Moved p x y → own x ≡ defined_at x.state.counts p ∷ own y
  own_moved {p} {x} {y} m =
      ap (λ es. numbers_from words class x.state.counts es (result_counts es x.state.terms)) m.move.event_is
      ∙ ap (λ ts. numbers_from words class x.state.counts (event p m.move.name ∷ y.state.events) (result_counts (event p m.move.name ∷ y.state.events) ts)) m.move.term_is
      ∙ ap (λ c. defined_at x.state.counts p ∷ numbers_from words class c y.state.events (result_counts y.state.events y.state.terms)) (sym m.move.counted_so)

  -- What holds from the begin of a text on: the numbers and definitions that are left are those of what is ahead, and each successor has one
  pub record Ahead (x : Full) : Type 0 where
    pub aligned : drop (length x.before) numbers ≡ own x
    pub left_is : x.state.left.labels ≡ resolved false x.before (ahead x)
    pub defined : first_undefined false x.before (ahead x) ≡ None

  resolved_moved : {p : Place} {x y : Full} (m : Moved p x y) → resolved false x.before (ahead x) ≡ told (label_step (body_at x) p) (stands_for false m.move.name x.before (ahead y)) ++ resolved false y.before (ahead y)
  resolved_moved {p} {x} {y} m =
      ap (resolved false x.before) (ahead_moved m) ∙ ap (λ (b : List Turn). told (label_step (body_at x) p) (stands_for false m.move.name x.before (ahead y)) ++ resolved false b (ahead y)) (sym m.before_is)

  undefined_moved : {p : Place} {x y : Full} (m : Moved p x y) → first_undefined false x.before (ahead x) ≡ None
      → (is_undefined false x.before (label_step (body_at x) p, event p m.move.name) (ahead y) ≡ false) × (first_undefined false y.before (ahead y) ≡ None)
  undefined_moved {p} {x} {y} m h =
      let both = not_undefined (is_undefined false x.before (label_step (body_at x) p, event p m.move.name) (ahead y)) (length x.before) (first_undefined false ((label_step (body_at x) p, event p m.move.name) ∷ x.before) (ahead y))
      (sym (ap (first_undefined false x.before) (ahead_moved m)) ∙ h) in
      (both.0, ap (λ (b : List Turn). first_undefined false b (ahead y)) m.before_is ∙ both.1)

  pub ahead_on : (p : Place) (x y : Full) → Moved p x y → Ahead x → Ahead y
  ahead_on p x y m a = record {
    aligned = ap (λ (b : List Turn). drop (length b) numbers) m.before_is ∙ one_more numbers (length x.before) ∙ ap (drop 1) (a.aligned ∙ own_moved m);
    left_is = ap (λ (l : Left). l.labels) m.move.left_so ∙ left_step p (body_at x) x.state.left (stands_for false m.move.name x.before (ahead y)) (resolved false y.before (ahead y)) (a.left_is ∙ resolved_moved m);
    defined = (undefined_moved m a.defined).1;
  }

  pub number_here : {p : Place} {x y : Full} → Moved p x y → Ahead x → get_or numbers (length x.before) 0 ≡ defined_at x.state.counts p
  number_here {p} {x} {y} m a = here_is numbers (length x.before) (defined_at x.state.counts p) (own y) (a.aligned ∙ own_moved m)

  -- The labels in scope

  -- what holds of a definition: its number is in scope
  abbrev pub R : (ℕ → Bool) → ℕ → ℕ → Type 0
  R labels a place = labels (get_or numbers place 0) ≡ true

  -- in a region of a function
  abbrev pub Looks : (ℕ → Bool) → Full → Type 0
  Looks labels x = (x.state.counts.body.within == 0) ≡ false → Rights false (R labels) x.before (ahead x)

  -- a successor is in scope
  pub target_in : (labels : ℕ → Bool) {x y : Full} → Moved places.SuccessorName x y → Ahead x → Looks labels x → labels (number_at numbers (first_of x.state.left.labels)) ≡ true
  target_in labels {x} {y} m a look = by_test (x.state.counts.body.within == 0) refl
    where
      turn : Bool → Turn
      turn t = (if t then steps.Misses else steps.Uses, event places.SuccessorName m.move.name)

      undefined : is_undefined false x.before (label_step (body_at x) places.SuccessorName, event places.SuccessorName m.move.name) (ahead y) ≡ false
      undefined = (undefined_moved m a.defined).0

      by_test : (t : Bool) → (x.state.counts.body.within == 0) ≡ t → labels (number_at numbers (first_of x.state.left.labels)) ≡ true
      by_test true e = absurd (true≢false (sym (ap (λ t. is_undefined false x.before (if t then steps.Misses else steps.Uses, event places.SuccessorName m.move.name) (ahead y)) e) ∙ undefined))
      by_test false e =
          let some : is_some (stands_for false m.move.name x.before (ahead y)) ≡ true =
          not_not (is_some (stands_for false m.move.name x.before (ahead y))) (sym (ap (λ t. is_undefined false x.before (if t then steps.Misses else steps.Uses, event places.SuccessorName m.move.name) (ahead y)) e) ∙ undefined) in
          let here : ahead x ≡ (steps.Uses, event places.SuccessorName m.move.name) ∷ ahead y = ahead_moved m ∙ ap (λ t. (if t then steps.Misses else steps.Uses, event places.SuccessorName m.move.name) ∷ ahead y) e in
          let rights = look e in
          let f = found_right false (R labels) m.move.name x.before (ahead y) rights.back
          (subst (λ (j : ℕ). RightAhead false (R labels) 0 j (ahead y)) (one (length x.before)) (subst (λ (ts : List Turn). RightAhead false (R labels) 0 (length x.before) ts) here rights.ahead_right))
          (near_of m.move.name x.before (ahead y) some) in
          let left : x.state.left.labels ≡ Some f.place ∷ resolved false y.before (ahead y) =
          a.left_is ∙ resolved_moved m ∙ ap (λ t. told (if t then steps.Misses else steps.Uses) (stands_for false m.move.name x.before (ahead y)) ++ resolved false y.before (ahead y)) e
          ∙ ap (λ (o : Option ℕ). o ∷ resolved false y.before (ahead y)) f.is in
          ap (λ ls. labels (number_at numbers (first_of ls))) left ∙ f.right
        where
          one : (j : ℕ) → suc j ≡ j + 1
          one j = omega arith

  -- Turns between

  pub record Listed (d : Bool) (x y : Full) : Type 0 where
    pub between : List Turn
    pub level : Level d between
    pub ahead_is : ahead x ≡ between ++ ahead y
    pub before_is : y.before ≡ pass x.before between

  pub listed_refl : (d : Bool) (x : Full) → Listed d x x
  listed_refl d x = record { between = []; level = level_end d; ahead_is = refl; before_is = refl }

  pub listed_one : (d : Bool) {p : Place} {x y : Full} → is_flat d (label_step (body_at x) p) ≡ true → Moved p x y → Listed d x y
  listed_one d {p} {x} {y} h m = record {
    between = (label_step (body_at x) p, event p m.move.name) ∷ [];
    level = level_step d (label_step (body_at x) p) (event p m.move.name) h (level_end d);
    ahead_is = ahead_moved m;
    before_is = m.before_is;
  }

  pub listed_join : {d : Bool} {x y z : Full} → Listed d x y → Listed d y z → Listed d x z
  listed_join {d} {x} {y} {z} a b = record {
    between = a.between ++ b.between;
    level = level_append b.between a.level b.level;
    ahead_is = a.ahead_is ∙ ap (λ ts. a.between ++ ts) b.ahead_is ∙ sym (append_assoc a.between b.between (ahead z));
    before_is = b.before_is ∙ ap (λ ts. pass ts b.between) a.before_is ∙ sym (pass_append x.before a.between b.between);
  }

  listed_nest : (d : Bool) {a b c z : Full} → Moved places.RegionOpen a b → Listed true b c → Moved places.RegionClose c z → Listed d a z
  listed_nest d {a} {b} {c} {z} m i l = record {
    between = (steps.Opens, event places.RegionOpen m.move.name) ∷ (i.between ++ (steps.Closes, event places.RegionClose l.move.name) ∷ []);
    level = level_nest d (event places.RegionOpen m.move.name) (event places.RegionClose l.move.name) i.level (level_end d);
    ahead_is = ahead_moved m ∙ ap (λ ts. (steps.Opens, event places.RegionOpen m.move.name) ∷ ts) (i.ahead_is ∙ ap (λ ts. i.between ++ ts) (ahead_moved l) ∙ sym (append_assoc i.between ((steps.Closes, event places.RegionClose l.move.name) ∷ []) (ahead z)));
    before_is = l.before_is ∙ ap (λ ts. (steps.Closes, event places.RegionClose l.move.name) ∷ ts) (i.before_is ∙ ap (λ ts. pass ts i.between) m.before_is)
        ∙ sym (pass_append ((steps.Opens, event places.RegionOpen m.move.name) ∷ a.before) i.between ((steps.Closes, event places.RegionClose l.move.name) ∷ []));
  }

  pub still_listed : (d : Bool) {x y : Full} → Still Moved x y → Listed d x y
  still_listed d (still_end x) = listed_refl d x
  still_listed d (still_more p {x} s m more) = listed_join (listed_one d (flat_still d p (body_at x) s) m) (still_listed d more)

  pub loc_listed : (d : Bool) {x y : Full} → IsLoc Moved x y → Listed d x y
  loc_listed d (no_loc x) = listed_refl d x
  loc_listed d (loc b s e) = listed_join (listed_one d refl b) (listed_join (still_listed d s) (listed_one d refl e))

  pub names_listed : (d : Bool) {x y : Full} → IsNames Moved x y → Listed d x y
  names_listed d (no_names x) = listed_refl d x
  names_listed d (name n s more) = listed_join (listed_one d refl n) (listed_join (still_listed d s) (names_listed d more))

  pub args_listed : (d : Bool) {x y : Full} → IsArgs Moved x y → Listed d x y
  args_listed d (no_args s) = still_listed d s
  args_listed d (arg s a t l more) = listed_join (still_listed d s) (listed_join (listed_one d refl a) (listed_join (still_listed d t) (listed_join (loc_listed d l) (args_listed d more))))

  mutual
    pub body_listed : (d : Bool) {x y : Full} → IsBody Moved x y → Listed d x y
    body_listed d (body s regions t colon begins types arrow results l) =
        listed_join (still_listed d s) (listed_join (regions_listed d regions) (listed_join (still_listed d t) (listed_join (listed_one d refl colon) (listed_join (listed_one d refl begins)
        (listed_join (still_listed d types) (listed_join (listed_one d refl arrow) (listed_join (still_listed d results) (loc_listed d l))))))))

    pub ops_listed : (d : Bool) {x y : Full} → IsOps Moved x y → Listed d x y
    ops_listed d (no_ops x) = listed_refl d x
    ops_listed d (op names o b more) = listed_join (names_listed d names) (listed_join (listed_one d refl o) (listed_join (body_listed d b) (ops_listed d more)))

    pub regions_listed : (d : Bool) {x y : Full} → IsRegions Moved x y → Listed d x y
    regions_listed d (no_regions s) = still_listed d s
    regions_listed d (region s o ops blocks close more) =
        listed_join (still_listed d s) (listed_join (listed_nest d o (listed_join (ops_listed true ops) (blocks_listed blocks)) close) (regions_listed d more))

    pub blocks_listed : {x y : Full} → IsBlocks Moved x y → Listed true x y
    blocks_listed (no_blocks x) = listed_refl true x
    blocks_listed (block l args colon ops more) = listed_join (listed_one true refl l) (listed_join (args_listed true args) (listed_join (listed_one true refl colon) (listed_join (ops_listed true ops) (blocks_listed more))))

  -- a region that ends, with what stands in it
  pub nest_listed : (d : Bool) {a b c e z : Full} → Moved places.RegionOpen a b → IsOps Moved b c → IsBlocks Moved c e → Moved places.RegionClose e z → Listed d a z
  nest_listed d o ops blocks close = listed_nest d o (listed_join (ops_listed true ops) (blocks_listed blocks)) close

  pub looks_listed : {d : Bool} (labels : ℕ → Bool) {x y : Full} → Listed d x y → body_at y ≡ body_at x → Looks labels x → Looks labels y
  looks_listed labels {x} {y} l same look = λ e.
      let r = look (ap (λ (b : Body). b.within == 0) (sym same) ∙ e) in
      subst (λ (ts : List Turn). Rights false (R labels) ts (ahead y)) (sym l.before_is) (move_rights false (R labels) l.level x.before (ahead y) (subst (λ (ts : List Turn). Rights false (R labels) x.before ts) l.ahead_is r))
