-- How far the module of a file is read: behind it no operation comes.
use Rattle.std.proofs.Common.{◌≡◌, ◌⊎◌, inl, inr, ℕ, zero, suc, Bool, true, false, List, refl, sym, ap, ◌∙◌, subst, true≢false, arith}
use Rattle.text_grammar.specs.declared.places.Place.{Place}
use Rattle.text_grammar.specs.declared.places.Place.TheVariants as places
use Rattle.text_scopes.specs.declared.bodies.Class.{Class}
use Rattle.text_scopes.specs.Bodies.{is_module}
use Rattle.text_kinds.specs.declared.shape.Phase.{Phase}
use Rattle.text_kinds.specs.declared.shape.Phase.TheVariants as phases
use Rattle.text_kinds.specs.declared.shape.Shape.{Shape}
use Rattle.text_kinds.specs.Shapes.{decides, located_behind, named_behind, shape_behind, typed_behind}
use Rattle.event_trees.specs.Wording.{Wording}
use Rattle.text_forms.specs.Forms.{IsArgs, IsBlocks, IsBody, IsFile, IsLoc, IsNames, IsOps, IsRegions, Still, arg, block, body, file_alias, file_op, is_alias, is_still, loc, name, no_args, no_blocks, no_file, no_loc, no_names, no_ops, no_regions, op, region, still_end, still_more}
use Rattle.read_states.specs.States.{State, event}
use Rattle.read_states.proofs.Words.{Alike, alias_plain, alike_join, alike_refl, plain_alike}
use Rattle.read_states.proofs.Parts.{T, loc_alike, still_alike}

-- Before any operation

pub record Before (s : Shape) : Type 0 where
  pub phase : s.phase ≡ phases.Before
  pub depth : s.depth ≡ 0

abbrev is_name : Place → Bool
is_name places.OpName = true
is_name _ = false

before_at : (class : ℕ → Class) (s : Shape) (p : Place) (called : ℕ) → s.depth ≡ 0 → is_name p ≡ false → Before (shape_behind class (record s { phase = phases.Before }) (event p called))
before_at class s places.OpName called d h = absurd (true≢false h)
before_at class s places.ResultName called d h = record { phase = refl; depth = d }
before_at class s _ called d h = record { phase = refl; depth = d }

before_word : (class : ℕ → Class) (s : Shape) (p : Place) (called : ℕ) → is_name p ≡ false → Before s → Before (shape_behind class s (event p called))
before_word class s p called h b = subst (λ (ph : Phase). Before (shape_behind class (record s { phase = ph }) (event p called))) (sym b.phase) (before_at class s p called b.depth h)

-- In the module

pub record In (d : ℕ) (s : Shape) : Type 0 where
  pub phase : s.phase ≡ phases.Named
  pub depth : s.depth ≡ d

in_so : (class : ℕ → Class) (s : Shape) (p : Place) (called d e : ℕ) → In d s → In e (named_behind (record s { phase = phases.Named; depth = d }) p) → In e (shape_behind class s (event p called))
in_so class s p called d e i h =
    subst (λ (ph : Phase). In e (shape_behind class (record s { phase = ph }) (event p called))) (sym i.phase)
    (subst (λ (n : ℕ). In e (named_behind (record s { phase = phases.Named; depth = n }) p)) (sym i.depth) h)

-- words that open or close nothing
abbrev is_level : Place → Bool
is_level places.RegionOpen = false
is_level places.RegionClose = false
is_level places.SignatureArrow = false
is_level _ = true

named_level : (s : Shape) (d : ℕ) (p : Place) → is_level p ≡ true → In d (named_behind (record s { phase = phases.Named; depth = d }) p)
named_level s zero places.RegionOpen h = absurd (true≢false (sym h))
named_level s zero places.RegionClose h = absurd (true≢false (sym h))
named_level s zero places.SignatureArrow h = absurd (true≢false (sym h))
named_level s zero _ h = record { phase = refl; depth = refl }
named_level s (suc zero) places.RegionOpen h = absurd (true≢false (sym h))
named_level s (suc zero) places.RegionClose h = absurd (true≢false (sym h))
named_level s (suc zero) places.SignatureArrow h = absurd (true≢false (sym h))
named_level s (suc zero) _ h = record { phase = refl; depth = refl }
named_level s (suc (suc n)) places.RegionOpen h = absurd (true≢false (sym h))
named_level s (suc (suc n)) places.RegionClose h = absurd (true≢false (sym h))
named_level s (suc (suc n)) places.SignatureArrow h = absurd (true≢false (sym h))
named_level s (suc (suc n)) _ h = record { phase = refl; depth = refl }

named_arrow : (s : Shape) (d : ℕ) → In (suc d) (named_behind (record s { phase = phases.Named; depth = suc d }) places.SignatureArrow)
named_arrow s zero = record { phase = refl; depth = refl }
named_arrow s (suc d) = record { phase = refl; depth = refl }

named_open : (s : Shape) (d : ℕ) → In (suc d) (named_behind (record s { phase = phases.Named; depth = d }) places.RegionOpen)
named_open s zero = record { phase = refl; depth = refl }
named_open s (suc zero) = record { phase = refl; depth = refl }
named_open s (suc (suc d)) = record { phase = refl; depth = omega arith }

named_close : (s : Shape) (d : ℕ) → In d (named_behind (record s { phase = phases.Named; depth = suc d }) places.RegionClose)
named_close s zero = record { phase = refl; depth = refl }
named_close s (suc d) = record { phase = refl; depth = omega arith }

still_level : (p : Place) → is_still p ≡ true → is_level p ≡ true
still_level places.RegionOpen h = absurd (true≢false (sym h))
still_level places.RegionClose h = absurd (true≢false (sym h))
still_level places.SignatureArrow h = absurd (true≢false (sym h))
still_level _ h = refl

-- Behind it

abbrev pub After : Shape → Type 0
After s = (s.phase ≡ phases.Typed) ⊎ (s.phase ≡ phases.Behind)

typed_still : (s : Shape) (p : Place) → is_still p ≡ true → (typed_behind (record s { phase = phases.Typed }) p).phase ≡ phases.Typed
typed_still s places.LocWord h = absurd (true≢false (sym h))
typed_still s places.TypeAliasName h = absurd (true≢false (sym h))
typed_still s places.AttrAliasName h = absurd (true≢false (sym h))
typed_still s _ h = refl

located_still : (s : Shape) (p : Place) → is_still p ≡ true → (located_behind (record s { phase = phases.Located }) p).phase ≡ phases.Located
located_still s places.LocClose h = absurd (true≢false (sym h))
located_still s _ h = refl

typed_alias : (s : Shape) (p : Place) → is_alias p ≡ true → (typed_behind (record s { phase = phases.Typed }) p).phase ≡ phases.Behind
typed_alias s places.TypeAliasName h = refl
typed_alias s places.AttrAliasName h = refl
typed_alias s places.OpName h = absurd (true≢false (sym h))
typed_alias s _ h = absurd (true≢false (sym h))

module _ (words : Wording) (class : ℕ → Class) (numbers : List ℕ) where
  abbrev Takes : Place → State → State → Type 0
  Takes p x y = T words class numbers p x y

  -- Before

  pub before_moved : {p : Place} {x y : State} → is_name p ≡ false → Takes p x y → Before x.shape → Before y.shape
  before_moved {p} {x} h m b = subst Before (sym m.shape_so) (before_word class x.shape p m.name h b)

  still_name : (p : Place) → is_still p ≡ true → is_name p ≡ false
  still_name places.OpName h = absurd (true≢false (sym h))
  still_name _ h = refl

  alias_name : (p : Place) → is_alias p ≡ true → is_name p ≡ false
  alias_name places.OpName h = absurd (true≢false (sym h))
  alias_name _ h = refl

  pub still_before : {x y : State} → Still Takes x y → Before x.shape → Before y.shape
  still_before (still_end x) b = b
  still_before (still_more p h m more) b = still_before more (before_moved (still_name p h) m b)

  pub loc_before : {x y : State} → IsLoc Takes x y → Before x.shape → Before y.shape
  loc_before (no_loc x) b = b
  loc_before (loc o s c) b = before_moved refl c (still_before s (before_moved refl o b))

  pub names_before : {x y : State} → IsNames Takes x y → Before x.shape → Before y.shape
  names_before (no_names x) b = b
  names_before (name n s more) b = names_before more (still_before s (before_moved refl n b))

  pub alias_before : (p : Place) {x y : State} → is_alias p ≡ true → Takes p x y → Before x.shape → Before y.shape
  alias_before p h m b = before_moved (alias_name p h) m b

  -- the name of a module
  named_here : (b : Bool) (s : Shape) → b ≡ true → s.depth ≡ 0 → In 0 (Rattle.std.specs.Prelude.cond b (record s { phase = phases.Named }) (record s { phase = phases.Other }))
  named_here true s h d = record { phase = refl; depth = d }
  named_here false s h d = absurd (true≢false (sym h))

  pub module_named : {x y : State} (m : Takes places.OpName x y) → is_module (class m.name) ≡ true → Before x.shape → In 0 y.shape
  module_named {x} m h b =
      subst (In 0) (sym m.shape_so)
      (subst (λ (ph : Phase). In 0 (shape_behind class (record x.shape { phase = ph }) (event places.OpName m.name))) (sym b.phase) (named_here (is_module (class m.name)) (record x.shape { phase = phases.Before }) h b.depth))

  -- In it

  in_level : {p : Place} {x y : State} (d : ℕ) → is_level p ≡ true → Takes p x y → In d x.shape → In d y.shape
  in_level {p} {x} d h m i = subst (In d) (sym m.shape_so) (in_so class x.shape p m.name d d i (named_level x.shape d p h))

  in_arrow : {x y : State} (d : ℕ) → Takes places.SignatureArrow x y → In (suc d) x.shape → In (suc d) y.shape
  in_arrow {x} d m i = subst (In (suc d)) (sym m.shape_so) (in_so class x.shape places.SignatureArrow m.name (suc d) (suc d) i (named_arrow x.shape d))

  in_open : {x y : State} (d : ℕ) → Takes places.RegionOpen x y → In d x.shape → In (suc d) y.shape
  in_open {x} d m i = subst (In (suc d)) (sym m.shape_so) (in_so class x.shape places.RegionOpen m.name d (suc d) i (named_open x.shape d))

  in_close : {x y : State} (d : ℕ) → Takes places.RegionClose x y → In (suc d) x.shape → In d y.shape
  in_close {x} d m i = subst (In d) (sym m.shape_so) (in_so class x.shape places.RegionClose m.name (suc d) d i (named_close x.shape d))

  still_in : {x y : State} (d : ℕ) → Still Takes x y → In d x.shape → In d y.shape
  still_in d (still_end x) i = i
  still_in d (still_more p h m more) i = still_in d more (in_level d (still_level p h) m i)

  loc_in : {x y : State} (d : ℕ) → IsLoc Takes x y → In d x.shape → In d y.shape
  loc_in d (no_loc x) i = i
  loc_in d (loc o s c) i = in_level d refl c (still_in d s (in_level d refl o i))

  names_in : {x y : State} (d : ℕ) → IsNames Takes x y → In d x.shape → In d y.shape
  names_in d (no_names x) i = i
  names_in d (name n s more) i = names_in d more (still_in d s (in_level d refl n i))

  args_in : {x y : State} (d : ℕ) → IsArgs Takes x y → In d x.shape → In d y.shape
  args_in d (no_args s) i = still_in d s i
  args_in d (arg s a t l more) i = args_in d more (loc_in d l (still_in d t (in_level d refl a (still_in d s i))))

  mutual
    body_in : {x y : State} (d : ℕ) → IsBody Takes x y → In (suc d) x.shape → In (suc d) y.shape
    body_in d (body s regions t colon begins types arrow results l) i =
        loc_in (suc d) l (still_in (suc d) results (in_arrow d arrow (still_in (suc d) types (in_level (suc d) refl begins (in_level (suc d) refl colon (still_in (suc d) t (regions_in (suc d) regions (still_in (suc d) s i))))))))

    ops_in : {x y : State} (d : ℕ) → IsOps Takes x y → In (suc d) x.shape → In (suc d) y.shape
    ops_in d (no_ops x) i = i
    ops_in d (op names o b more) i = ops_in d more (body_in d b (in_level (suc d) refl o (names_in (suc d) names i)))

    regions_in : {x y : State} (d : ℕ) → IsRegions Takes x y → In d x.shape → In d y.shape
    regions_in d (no_regions s) i = still_in d s i
    regions_in d (region s o ops blocks close more) i = regions_in d more (in_close d close (blocks_in d blocks (ops_in d ops (in_open d o (still_in d s i)))))

    blocks_in : {x y : State} (d : ℕ) → IsBlocks Takes x y → In (suc d) x.shape → In (suc d) y.shape
    blocks_in d (no_blocks x) i = i
    blocks_in d (block l args colon ops more) i = blocks_in d more (ops_in d ops (in_level (suc d) refl colon (args_in (suc d) args (in_level (suc d) refl l i))))

  -- Behind it

  abbrev Stands : Phase → State → Type 0
  Stands ph x = x.shape.phase ≡ ph

  moved_so : {p : Place} {x y : State} (ph qh : Phase) (m : Takes p x y) → Stands ph x → (shape_behind class (record x.shape { phase = ph }) (event p m.name)).phase ≡ qh → Stands qh y
  moved_so {p} {x} ph qh m e h =
      ap (λ (s : Shape). s.phase) m.shape_so ∙ subst (λ (q : Phase). (shape_behind class (record x.shape { phase = q }) (event p m.name)).phase ≡ qh) (sym e) h

  still_typed : {x y : State} → Still Takes x y → Stands phases.Typed x → Stands phases.Typed y
  still_typed (still_end x) e = e
  still_typed (still_more p {x} h m more) e = still_typed more (moved_so phases.Typed phases.Typed m e (typed_still x.shape p h))

  still_located : {x y : State} → Still Takes x y → Stands phases.Located x → Stands phases.Located y
  still_located (still_end x) e = e
  still_located (still_more p {x} h m more) e = still_located more (moved_so phases.Located phases.Located m e (located_still x.shape p h))

  behind_moved : {p : Place} {x y : State} → Takes p x y → Stands phases.Behind x → Stands phases.Behind y
  behind_moved m e = moved_so phases.Behind phases.Behind m e refl

  still_behind : {x y : State} → Still Takes x y → Stands phases.Behind x → Stands phases.Behind y
  still_behind (still_end x) e = e
  still_behind (still_more p h m more) e = still_behind more (behind_moved m e)

  loc_behind : {x y : State} → IsLoc Takes x y → Stands phases.Behind x → Stands phases.Behind y
  loc_behind (no_loc x) e = e
  loc_behind (loc o s c) e = behind_moved c (still_behind s (behind_moved o e))

  loc_after : {x y : State} → IsLoc Takes x y → Stands phases.Typed x → After y.shape
  loc_after (no_loc x) e = inl e
  loc_after (loc o s c) e = inr (moved_so phases.Located phases.Behind c (still_located s (moved_so phases.Typed phases.Located o e refl)) refl)

  pub module_after : {x y : State} → IsBody Takes x y → In 0 x.shape → After y.shape
  module_after (body {f = f} s regions t colon begins types arrow results l) i =
      let j = still_in 0 types (in_level 0 refl begins (in_level 0 refl colon (still_in 0 t (regions_in 0 regions (still_in 0 s i))))) in
      loc_after l (still_typed results (ap (λ (s : Shape). s.phase) arrow.shape_so
      ∙ subst (λ (n : ℕ). (shape_behind class (record f.shape { depth = n }) (event places.SignatureArrow arrow.name)).phase ≡ phases.Typed) (sym j.depth)
      (subst (λ (q : Phase). (shape_behind class (record f.shape { phase = q; depth = 0 }) (event places.SignatureArrow arrow.name)).phase ≡ phases.Typed) (sym j.phase) refl)))

  -- no operation comes
  never_op : {x y : State} → Takes places.OpName x y → After x.shape → ⊥
  never_op {x} m (inl e) = true≢false (sym (subst (λ (q : Phase). decides (record x.shape { phase = q }) places.OpName ≡ true) (sym e) refl) ∙ m.undecided)
  never_op {x} m (inr e) = true≢false (sym (subst (λ (q : Phase). decides (record x.shape { phase = q }) places.OpName ≡ true) (sym e) refl) ∙ m.undecided)

  never_result : {x y : State} → Takes places.ResultName x y → After x.shape → ⊥
  never_result {x} m (inl e) = true≢false (sym (subst (λ (q : Phase). decides (record x.shape { phase = q }) places.ResultName ≡ true) (sym e) refl) ∙ m.undecided)
  never_result {x} m (inr e) = true≢false (sym (subst (λ (q : Phase). decides (record x.shape { phase = q }) places.ResultName ≡ true) (sym e) refl) ∙ m.undecided)

  alias_after : (p : Place) {x y : State} → is_alias p ≡ true → Takes p x y → After x.shape → Stands phases.Behind y
  alias_after p {x} h m (inl e) = moved_so phases.Typed phases.Behind m e (typed_alias x.shape p h)
  alias_after p {x} h m (inr e) = behind_moved m e

  pub file_after : {x y : State} → IsFile Takes x y → After x.shape → Alike words class numbers x y
  file_after (no_file x) a = alike_refl words class numbers x
  file_after (file_op (no_names x) o b more) a = absurd (never_op o a)
  file_after (file_op (name n s names) o b more) a = absurd (never_result n a)
  file_after (file_alias p h m s l more) a =
      alike_join words class numbers (plain_alike words class numbers (alias_plain p h) m)
      (alike_join words class numbers (still_alike words class numbers s) (alike_join words class numbers (loc_alike words class numbers l) (file_after more (inr (loc_behind l (still_behind s (alias_after p h m a)))))))
