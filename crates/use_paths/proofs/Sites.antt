-- What is missed at an operation's places isn't defined there.
use Rattle.std.proofs.Common.{◌≡◌, ℕ, zero, suc, ◌+◌, ◌≤◌, true, List, [], ◌∷◌, ◌++◌, map, Option, Some, None, refl, sym, ap, ◌∙◌, subst, inl, inr, arith}
use Rattle.std.specs.Prelude.{◌↔◌, ◌⊎◌, is_some}
use Rattle.plain_tree.specs.Types.{PlainType}
use Rattle.plain_tree.specs.Ops.{Op, op, Ops, end_of_ops, more_ops, Regions, end_of_regions, region, Blocks, end_of_blocks, block, Values}
use Rattle.plain_tree.specs.Values.{blocks_values, op_values, ops_values, regions_values, types_of}
use Rattle.rule_model.specs.Words.{AllOf, AnyOf, binds, numbers, results_of}
use Rattle.rule_model.specs.Facts.{Holder}
use Rattle.first_places.specs.Numbering.{is_numbered_once}
use Rattle.rule_model.specs.Paths.{Either, Frame, Reach, Undefined}
use Rattle.rule_model.specs.Sites.{Around, blocks_sites, frame_of, holds, op_sites, ops_sites, regions_sites, Site, sites}
use Rattle.rule_model.proofs.Places.{InPlace}
use Rattle.rule_model.proofs.InPlaces.{all_placed, Placed}
use Rattle.use_paths.specs.declared.homes.Home.{Home}
use Rattle.use_paths.specs.Blocks.{place_in}
use Rattle.first_places.specs.First.{FirstAt, IsFirst}
use Rattle.use_paths.specs.Undefined.{UsesUndefined}
use Rattle.use_paths.specs.Levels.{known_of, Missed, MissingIn, spot_of}
use Rattle.use_paths.specs.Uses.{blocks_uses, Misses, op_uses, ops_uses, regions_uses, Use, use_at}
use Rattle.use_paths.proofs.HomeLaws.{home_from, home_is, home_there}
use Rattle.first_places.proofs.Once.{args_first, behind_blocks, behind_op, behind_ops, count_in, numbered_once, own_counted, own_values, times}
use Rattle.use_paths.proofs.Paths.{missing_by, reach_by}

-- In a region each value stands once

abbrev pub Single : Frame → Type 0
Single f = (v : ℕ) → count_in v (own_values f.blocks) ≤ 1

abbrev pub Singles : Site → Type 0
Singles s = AllOf Single s.frames

mutual
  op_single : (type_of : ℕ → PlainType) (holder : Option Holder) (blocks : Blocks) (frames : List Frame) (rest : Ops) (o : Op) (more : List Site) (behind : Values)
      → ((v : ℕ) → times v (op_values o behind) ≤ 1) → AllOf Single frames → AllOf Singles more → AllOf Singles (op_sites type_of holder blocks frames rest o more)
  op_single type_of holder blocks frames rest (op k results operands regions successors) more behind once placed later = (
    placed,
    regions_single type_of (holds type_of (op k results operands regions successors)) 0 frames regions more behind
        (λ v. let sum = args_first v results (regions_values regions behind) in omega (arith, sum, once v)) placed later,
  )

  ops_single : (type_of : ℕ → PlainType) (a : Around) (l : ℕ) (bound : List ℕ) (ops : Ops) (more : List Site) (behind : Values)
      → ((v : ℕ) → times v (ops_values ops behind) ≤ 1) → ((v : ℕ) → count_in v (own_values a.blocks) ≤ 1) → AllOf Single a.outer → AllOf Singles more
      → AllOf Singles (ops_sites type_of a l bound ops more)
  ops_single type_of a l bound end_of_ops more behind once own placed later = later
  ops_single type_of a l bound (more_ops o rest) more behind once own placed later =
      op_single type_of a.holder a.blocks (frame_of a l bound (more_ops o rest)) rest o (ops_sites type_of a l (results_of o ++ bound) rest more) (ops_values rest behind)
      once (own, placed)
      (ops_single type_of a l (results_of o ++ bound) rest more behind (λ v. let less = behind_op v o (ops_values rest behind) in omega (arith, less, once v)) own placed later)

  regions_single : (type_of : ℕ → PlainType) (holder : ℕ → Holder) (n : ℕ) (frames : List Frame) (rs : Regions) (more : List Site) (behind : Values)
      → ((v : ℕ) → times v (regions_values rs behind) ≤ 1) → AllOf Single frames → AllOf Singles more → AllOf Singles (regions_sites type_of holder n frames rs more)
  regions_single type_of holder n frames end_of_regions more behind once placed later = later
  regions_single type_of holder n frames (region blocks rest) more behind once placed later =
      blocks_single type_of (record { holder = Some (holder n); blocks = blocks; outer = frames }) blocks (regions_sites type_of holder (n + 1) frames rest more) (regions_values rest behind)
      once (λ v. let own = own_counted v blocks (regions_values rest behind) in omega (arith, own, once v)) placed
      (regions_single type_of holder (n + 1) frames rest more behind (λ v. let less = behind_blocks v blocks (regions_values rest behind) in omega (arith, less, once v)) placed later)

  blocks_single : (type_of : ℕ → PlainType) (a : Around) (bs : Blocks) (more : List Site) (behind : Values)
      → ((v : ℕ) → times v (blocks_values bs behind) ≤ 1) → ((v : ℕ) → count_in v (own_values a.blocks) ≤ 1) → AllOf Single a.outer → AllOf Singles more
      → AllOf Singles (blocks_sites type_of a bs more)
  blocks_single type_of a end_of_blocks more behind once own placed later = later
  blocks_single type_of a (block label args ops rest) more behind once own placed later =
      ops_single type_of a label (numbers args) ops (blocks_sites type_of a rest more) (blocks_values rest behind)
      (λ v. let sum = args_first v args (ops_values ops (blocks_values rest behind)) in omega (arith, sum, once v)) own placed
      (blocks_single type_of a rest more behind
      (λ v. let sum = args_first v args (ops_values ops (blocks_values rest behind)) in let less = behind_ops v ops (blocks_values rest behind) in omega (arith, sum, less, once v)) own placed later)

-- Missed and undefined

one_frame : (f : Frame) (v : ℕ) (Outer Other : Type 0) → InPlace f → Single f → (Outer ↔ Other) → (o : Option Home) → home_from v 0 f.blocks ≡ o
    → MissingIn o (spot_of f) Outer ↔ Either (is_some o) (Reach f.blocks v f.label f.bound f.ops) Other
one_frame f v Outer Other place once outer None e = outer
one_frame f v Outer Other place once outer (Some h) e =
    (reach_by f v h e (once v) place.at place.is place.along, missing_by f v h e (once v) place.at place.is place.along)

homes_at : (f : Frame) (v : ℕ) → (spot_of f).known.homes v ≡ home_from v 0 f.blocks
unfolding known_of
homes_at f v = home_is f.blocks v

missed_is : (frames : List Frame) (v : ℕ) → AllOf InPlace frames → AllOf Single frames → Missed (map spot_of frames) v ↔ Undefined frames v
missed_is [] v places once = (λ t. t, λ t. t)
missed_is (f ∷ outer) v places once =
    subst (λ (o : Option Home). MissingIn o (spot_of f) (Missed (map spot_of outer) v) ↔ Either (binds v f.blocks) (Reach f.blocks v f.label f.bound f.ops) (Undefined outer v)) (sym (homes_at f v))
    (subst (λ b. MissingIn (home_from v 0 f.blocks) (spot_of f) (Missed (map spot_of outer) v) ↔ Either b (Reach f.blocks v f.label f.bound f.ops) (Undefined outer v)) (home_there v 0 f.blocks)
    (one_frame f v (Missed (map spot_of outer) v) (Undefined outer v) places.0 once.0 (missed_is outer v places.1 once.1) (home_from v 0 f.blocks) refl))

any_is : (P Q : ℕ → Type 0) (vs : List ℕ) → ((v : ℕ) → P v ↔ Q v) → AnyOf P vs ↔ AnyOf Q vs
any_is P Q [] same = (λ t. t, λ t. t)
any_is P Q (v ∷ vs) same =
    let rest = any_is P Q vs same in
    let here = same v in (
      λ h. elim h as (λ (_ : P v ⊎ AnyOf P vs). Q v ⊎ AnyOf Q vs) [ inl p ↦ inl (here.0 p) | inr r ↦ inr (rest.0 r) ],
      λ h. elim h as (λ (_ : Q v ⊎ AnyOf Q vs). P v ⊎ AnyOf P vs) [ inl p ↦ inl (here.1 p) | inr r ↦ inr (rest.1 r) ],
    )

-- Uses and sites

abbrev use_of : Site → Use
use_of s = use_at (map spot_of s.frames) s.operands

abbrev Fits : Site → Type 0
Fits s = Misses (use_of s) ↔ UsesUndefined s

all_fit : (ss : List Site) → AllOf Placed ss → AllOf Singles ss → AllOf Fits ss
all_fit [] places once = tt
all_fit (s ∷ ss) places once =
    (any_is (Missed (map spot_of s.frames)) (Undefined s.frames) s.operands (λ v. missed_is s.frames v places.0 once.0), all_fit ss places.1 once.1)

-- the first one is the same
none_fit : (ss : List Site) → AllOf Fits ss → AllOf (λ u. Misses u → ⊥) (map use_of ss) → AllOf (λ s. UsesUndefined s → ⊥) ss
none_fit [] fits none = tt
none_fit (s ∷ ss) fits none = ((λ u. none.0 ((fits.0).1 u)), none_fit ss fits.1 none.1)

first_fits : (ss : List Site) (n : ℕ) → AllOf Fits ss → IsFirst Misses (map use_of ss) n → IsFirst UsesUndefined ss n
first_fits [] n fits first = first
first_fits (s ∷ ss) zero fits first = (fits.0).0 first
first_fits (s ∷ ss) (suc n) fits first = ((λ u. first.0 ((fits.0).1 u)), first_fits ss n fits.1 first.1)

first_at : (ss : List Site) (o : Option ℕ) → AllOf Fits ss → FirstAt Misses (map use_of ss) o → FirstAt UsesUndefined ss o
first_at ss None fits first = none_fit ss fits first
first_at ss (Some n) fits first = first_fits ss n fits first

places_at : (bs : Blocks) (l : ℕ) → (known_of bs).places l ≡ place_in bs l
unfolding known_of
places_at bs l = refl

mutual
  op_same : (type_of : ℕ → PlainType) (holder : Option Holder) (blocks : Blocks) (frames : List Frame) (rest : Ops) (o : Op) (more : List Site)
      → op_uses (map spot_of frames) o (map use_of more) ≡ map use_of (op_sites type_of holder blocks frames rest o more)
  op_same type_of holder blocks frames rest (op k results operands regions successors) more =
      ap (λ us. use_at (map spot_of frames) operands ∷ us) (regions_same type_of (holds type_of (op k results operands regions successors)) 0 frames regions more)

  ops_same : (type_of : ℕ → PlainType) (a : Around) (l : ℕ) (bound : List ℕ) (ops : Ops) (more : List Site)
      → ops_uses (map spot_of a.outer) (known_of a.blocks) (place_in a.blocks l) ops (map use_of more) ≡ map use_of (ops_sites type_of a l bound ops more)
  ops_same type_of a l bound end_of_ops more = refl
  ops_same type_of a l bound (more_ops o rest) more =
      ap (op_uses (map spot_of (frame_of a l bound (more_ops o rest))) o) (ops_same type_of a l (results_of o ++ bound) rest more)
      ∙ op_same type_of a.holder a.blocks (frame_of a l bound (more_ops o rest)) rest o (ops_sites type_of a l (results_of o ++ bound) rest more)

  regions_same : (type_of : ℕ → PlainType) (holder : ℕ → Holder) (n : ℕ) (frames : List Frame) (rs : Regions) (more : List Site)
      → regions_uses (map spot_of frames) rs (map use_of more) ≡ map use_of (regions_sites type_of holder n frames rs more)
  regions_same type_of holder n frames end_of_regions more = refl
  regions_same type_of holder n frames (region blocks rest) more =
      ap (blocks_uses (map spot_of frames) (known_of blocks) blocks) (regions_same type_of holder (n + 1) frames rest more)
      ∙ blocks_same type_of (record { holder = Some (holder n); blocks = blocks; outer = frames }) blocks (regions_sites type_of holder (n + 1) frames rest more)

  blocks_same : (type_of : ℕ → PlainType) (a : Around) (bs : Blocks) (more : List Site)
      → blocks_uses (map spot_of a.outer) (known_of a.blocks) bs (map use_of more) ≡ map use_of (blocks_sites type_of a bs more)
  blocks_same type_of a end_of_blocks more = refl
  blocks_same type_of a (block label args ops rest) more =
      ap (ops_uses (map spot_of a.outer) (known_of a.blocks) ((known_of a.blocks).places label) ops) (blocks_same type_of a rest more)
      ∙ ap (λ n. ops_uses (map spot_of a.outer) (known_of a.blocks) n ops (map use_of (blocks_sites type_of a rest more))) (places_at a.blocks label)
      ∙ ops_same type_of a label (numbers args) ops (blocks_sites type_of a rest more)

-- A function

pub undefined_at : (f : Op) (o : Option ℕ) → FirstAt Misses (op_uses [] f []) o → is_numbered_once f ≡ true → FirstAt UsesUndefined (sites f) o
undefined_at f o first numbered =
    let once = numbered_once f numbered in
    let places = all_placed f once.apart in
    let single = op_single (types_of f) None end_of_blocks [] end_of_ops f [] [] once.values tt tt in
    first_at (sites f) o (all_fit (sites f) places single) (subst (λ us. FirstAt Misses us o) (op_same (types_of f) None end_of_blocks [] end_of_ops f []) first)
