-- What one word does to the levels behind it, and to what is counted.
use Rattle.std.proofs.Common.{◌≡◌, ℕ, Bool, true, false, List, [], ◌∷◌, Option, refl, sym, ap, ◌∙◌, subst, true≢false}
use Rattle.text_grammar.specs.declared.places.Place.{Place}
use Rattle.text_grammar.specs.declared.places.Place.TheVariants as places
use Rattle.text_scopes.specs.declared.bodies.Body.{Body}
use Rattle.text_scopes.specs.declared.bodies.Class.{Class}
use Rattle.text_scopes.specs.Bodies.{behind}
use Rattle.term_table.specs.Terms.{Term}
use Rattle.event_trees.specs.declared.counts.Counts.{Counts}
use Rattle.event_trees.specs.Wording.{Wording}
use Rattle.event_trees.specs.Numbers.{counted, waiting_at}
use Rattle.event_trees.specs.Roles.{Role}
use Rattle.plain_tree.specs.Types.{type_tree}
use Rattle.text_types.specs.Plain.{type_of}
use Rattle.event_trees.specs.Levels.{Level, Levels, closed_over, empty, in_level, levels_of, on_first, region_opened, with_block, with_op, with_region, with_word}
use Rattle.read_states.specs.Numbering.{Count}
use Rattle.text_forms.specs.Forms.{is_alias, is_still}
use Rattle.read_states.specs.Levels.{args_in, below, blocks_in, first, ops_in, regions_in, signature_in}
use Rattle.read_states.specs.States.{Move, State, read, role, roles_from, waits}
use Rattle.read_states.proofs.Moves.{read_moved, waits_moved}

-- There is always a level

pub record IsSome (k : Levels) : Type 0 where
  pub level : Level
  pub more : Levels
  pub is : k ≡ level ∷ more

some_on : (f : Level → Level) (k : Levels) → IsSome k → IsSome (on_first f k)
some_on f k s = record { level = f s.level; more = s.more; is = ap (on_first f) s.is }

some_closed : (label : ℕ) (l : Level) (ls : Levels) → IsSome (closed_over label (l ∷ ls))
some_closed label l [] = record { level = l; more = []; is = refl }
some_closed label l (o ∷ ls) = record { level = _; more = ls; is = refl }

some_word : (words : Wording) (place : Place) (name number : ℕ) (term : Term) (k : Levels) → IsSome k → IsSome (with_word words (record { place = place; name = name; number = number; term = term }) k)
some_word words places.RegionClose name number term k s = record { level = empty; more = k; is = refl }
some_word words places.RegionOpen name number term k s = let c = some_closed number s.level s.more in record { level = c.level; more = c.more; is = ap (closed_over number) s.is ∙ c.is }
some_word words p name number term k s = some_on (in_level words (record { place = p; name = name; number = number; term = term })) k s

pub some_levels : (words : Wording) (rs : List Role) → IsSome (levels_of words rs)
some_levels words [] = record { level = empty; more = []; is = refl }
some_levels words (r ∷ rs) = some_word words r.place r.name r.number r.term (levels_of words rs) (some_levels words rs)

pub opened : (k : Levels) → IsSome k → k ≡ first k ∷ below k
opened k s = s.is ∙ ap (λ x. first x ∷ below x) (sym s.is)

-- Words that leave the form of the levels

abbrev pub is_kept : Place → Bool
is_kept places.OpName = false
is_kept places.SignatureOpen = false
is_kept places.RegionOpen = false
is_kept places.RegionClose = false
is_kept places.BlockLabel = false
is_kept places.ArgName = false
is_kept _ = true

pub record Same (k m : Levels) : Type 0 where
  pub regions : regions_in k ≡ regions_in m
  pub signature : signature_in k ≡ signature_in m
  pub args : args_in k ≡ args_in m
  pub ops : ops_in k ≡ ops_in m
  pub blocks : blocks_in k ≡ blocks_in m
  pub below_is : below k ≡ below m

pub same_refl : (k : Levels) → Same k k
same_refl k = record { regions = refl; signature = refl; args = refl; ops = refl; blocks = refl; below_is = refl }

pub same_join : {k m n : Levels} → Same k m → Same m n → Same k n
same_join s t = record {
  regions = s.regions ∙ t.regions;
  signature = s.signature ∙ t.signature;
  args = s.args ∙ t.args;
  ops = s.ops ∙ t.ops;
  blocks = s.blocks ∙ t.blocks;
  below_is = s.below_is ∙ t.below_is;
}

same_word : (words : Wording) (place : Place) (name number : ℕ) (term : Term) (k : Levels) → is_kept place ≡ true → Same (with_word words (record { place = place; name = name; number = number; term = term }) k) k
same_word words places.OpName name number term k h = absurd (true≢false (sym h))
same_word words places.SignatureOpen name number term k h = absurd (true≢false (sym h))
same_word words places.RegionOpen name number term k h = absurd (true≢false (sym h))
same_word words places.RegionClose name number term k h = absurd (true≢false (sym h))
same_word words places.BlockLabel name number term k h = absurd (true≢false (sym h))
same_word words places.ArgName name number term k h = absurd (true≢false (sym h))
same_word words _ name number term [] h = same_refl []
same_word words _ name number term (l ∷ ls) h = record { regions = refl; signature = refl; args = refl; ops = refl; blocks = refl; below_is = refl }

kept_waits : (place : Place) (n : ℕ) (ws : List ℕ) → is_kept place ≡ true → waiting_at place n ws ≡ ws
kept_waits places.OpName n ws h = absurd (true≢false (sym h))
kept_waits places.SignatureOpen n ws h = absurd (true≢false (sym h))
kept_waits _ n ws h = refl

-- What is counted

abbrev pub count_of : Counts → Count
count_of c = record { values = c.values; labels = c.labels }

-- words that count nothing
abbrev pub is_quiet : Place → Bool
is_quiet places.OpName = false
is_quiet places.SignatureColon = false
is_quiet places.RegionOpen = false
is_quiet places.RegionClose = false
is_quiet places.BlockLabel = false
is_quiet places.BlockColon = false
is_quiet places.ArgName = false
is_quiet _ = true

quiet_count : (words : Wording) (class : ℕ → Class) (c : Counts) (place : Place) (name results : ℕ) (next : Option Place) → is_quiet place ≡ true → count_of (counted words class c (record { place = place; name = name }) results next) ≡ count_of c
quiet_count words class c places.OpName name results next h = absurd (true≢false (sym h))
quiet_count words class c places.SignatureColon name results next h = absurd (true≢false (sym h))
quiet_count words class c places.RegionOpen name results next h = absurd (true≢false (sym h))
quiet_count words class c places.RegionClose name results next h = absurd (true≢false (sym h))
quiet_count words class c places.BlockLabel name results next h = absurd (true≢false (sym h))
quiet_count words class c places.BlockColon name results next h = absurd (true≢false (sym h))
quiet_count words class c places.ArgName name results next h = absurd (true≢false (sym h))
quiet_count words class c _ name results next h = refl

-- words that leave where the next event stands
abbrev pub is_there : Place → Bool
is_there places.OpName = false
is_there places.RegionOpen = false
is_there places.RegionClose = false
is_there _ = true

there_body : (class : ℕ → Class) (b : Body) (place : Place) (name : ℕ) → is_there place ≡ true → behind class b (record { place = place; name = name }) ≡ b
there_body class b places.OpName name h = absurd (true≢false (sym h))
there_body class b places.RegionOpen name h = absurd (true≢false (sym h))
there_body class b places.RegionClose name h = absurd (true≢false (sym h))
there_body class b _ name h = refl

-- words that do none of the three
abbrev pub is_plain : Place → Bool
is_plain places.OpName = false
is_plain places.SignatureColon = false
is_plain places.SignatureOpen = false
is_plain places.RegionOpen = false
is_plain places.RegionClose = false
is_plain places.BlockLabel = false
is_plain places.BlockColon = false
is_plain places.ArgName = false
is_plain _ = true

abbrev Three : Place → Type 0
Three p = (is_kept p ≡ true) × (is_quiet p ≡ true) × (is_there p ≡ true)

three : (p : Place) → is_plain p ≡ true → Three p
three places.OpName h = absurd (true≢false (sym h))
three places.SignatureColon h = absurd (true≢false (sym h))
three places.SignatureOpen h = absurd (true≢false (sym h))
three places.RegionOpen h = absurd (true≢false (sym h))
three places.RegionClose h = absurd (true≢false (sym h))
three places.BlockLabel h = absurd (true≢false (sym h))
three places.BlockColon h = absurd (true≢false (sym h))
three places.ArgName h = absurd (true≢false (sym h))
three _ h = (refl, refl, refl)

pub still_plain : (p : Place) → is_still p ≡ true → is_plain p ≡ true
still_plain places.OpName h = absurd (true≢false (sym h))
still_plain places.SignatureColon h = absurd (true≢false (sym h))
still_plain places.SignatureOpen h = absurd (true≢false (sym h))
still_plain places.RegionOpen h = absurd (true≢false (sym h))
still_plain places.RegionClose h = absurd (true≢false (sym h))
still_plain places.BlockLabel h = absurd (true≢false (sym h))
still_plain places.BlockColon h = absurd (true≢false (sym h))
still_plain places.ArgName h = absurd (true≢false (sym h))
still_plain _ h = refl

pub alias_plain : (p : Place) → is_alias p ≡ true → is_plain p ≡ true
alias_plain places.TypeAliasName h = refl
alias_plain places.AttrAliasName h = refl
alias_plain places.OpName h = absurd (true≢false (sym h))
alias_plain _ h = absurd (true≢false (sym h))

module _ (words : Wording) (class : ℕ → Class) (numbers : List ℕ) where
  abbrev pub levels : State → Levels
  levels x = read words class numbers x

  abbrev pub Moves : Place → State → State → Type 0
  Moves p x y = Move words class numbers p x y

  pub some_read : (x : State) → IsSome (levels x)
  some_read x = some_levels words (roles_from words class numbers x.counts x.left x.events x.terms)

  pub opened_read : (x : State) → levels x ≡ first (levels x) ∷ below (levels x)
  opened_read x = opened (levels x) (some_read x)

  pub kept_levels : {p : Place} {x y : State} → is_kept p ≡ true → Moves p x y → Same (levels x) (levels y)
  kept_levels {p} {x} {y} h m = subst (λ k. Same k (levels y)) (sym (read_moved words class numbers m)) (same_word words p m.name _ m.term (levels y) h)

  pub kept_waiting : {p : Place} {x y : State} → is_kept p ≡ true → Moves p x y → waits x ≡ waits y
  kept_waiting {p} {x} {y} h m = waits_moved words class numbers m ∙ kept_waits p _ (waits y) h

  pub quiet_counts : {p : Place} {x y : State} → is_quiet p ≡ true → Moves p x y → count_of y.counts ≡ count_of x.counts
  quiet_counts {p} {x} {y} h m = ap count_of m.counted_so ∙ quiet_count words class x.counts p m.name _ _ h

  pub there_bodies : {p : Place} {x y : State} → is_there p ≡ true → Moves p x y → y.counts.body ≡ x.counts.body
  there_bodies {p} {x} {y} h m = ap (λ (c : Counts). c.body) m.counted_so ∙ there_body class x.counts.body p m.name h

  -- what reading finds at two states is the same
  pub record Alike (x y : State) : Type 0 where
    pub same : Same (levels x) (levels y)
    pub waits_is : waits x ≡ waits y
    pub count_is : count_of y.counts ≡ count_of x.counts
    pub body_is : y.counts.body ≡ x.counts.body

  pub alike_refl : (x : State) → Alike x x
  alike_refl x = record { same = same_refl _; waits_is = refl; count_is = refl; body_is = refl }

  pub alike_join : {x y z : State} → Alike x y → Alike y z → Alike x z
  alike_join a b = record { same = same_join a.same b.same; waits_is = a.waits_is ∙ b.waits_is; count_is = b.count_is ∙ a.count_is; body_is = b.body_is ∙ a.body_is }

  pub plain_alike : {p : Place} {x y : State} → is_plain p ≡ true → Moves p x y → Alike x y
  plain_alike {p} h m =
      let t = three p h in
      record { same = kept_levels t.0 m; waits_is = kept_waiting t.0 m; count_is = quiet_counts t.1 m; body_is = there_bodies t.2 m }

  -- Words that change the innermost level

  pub signature_levels : {x y : State} (m : Moves places.SignatureOpen x y)
      → levels x ≡ record (first (levels y)) { parts = record (first (levels y)).parts { signature = m.term } } ∷ below (levels y)
  signature_levels {x} {y} m = read_moved words class numbers m ∙ ap (with_word words (role words class numbers places.SignatureOpen x y m.name m.term)) (opened_read y)

  pub arg_levels : {x y : State} (m : Moves places.ArgName x y)
      → levels x ≡ record (first (levels y)) { args = (x.counts.values, type_tree (type_of m.term)) ∷ args_in (levels y) } ∷ below (levels y)
  arg_levels {x} {y} m = read_moved words class numbers m ∙ ap (with_word words (role words class numbers places.ArgName x y m.name m.term)) (opened_read y)

  pub label_levels : {x y : State} (m : Moves places.BlockLabel x y) → levels x ≡ with_block x.counts.labels (first (levels y)) ∷ below (levels y)
  label_levels {x} {y} m = read_moved words class numbers m ∙ ap (with_word words (role words class numbers places.BlockLabel x y m.name m.term)) (opened_read y)

  pub op_levels : {x y : State} (m : Moves places.OpName x y) → levels x ≡ with_op words m.name x.counts.values (first (levels y)) ∷ below (levels y)
  op_levels {x} {y} m = read_moved words class numbers m ∙ ap (with_word words (role words class numbers places.OpName x y m.name m.term)) (opened_read y)

  pub close_levels : {x y : State} → Moves places.RegionClose x y → levels x ≡ empty ∷ levels y
  close_levels m = read_moved words class numbers m

  -- what is behind a region's end is below its begin
  pub open_levels : {x y : State} (z : State) (m : Moves places.RegionOpen x y) → below (levels y) ≡ levels z
      → levels x ≡ with_region (region_opened x.counts.labels (first (levels y))) (first (levels z)) ∷ below (levels z)
  open_levels {x} {y} z m h =
      read_moved words class numbers m ∙ ap (with_word words (role words class numbers places.RegionOpen x y m.name m.term)) (opened_read y ∙ ap (λ k. first (levels y) ∷ k) (h ∙ opened_read z))
