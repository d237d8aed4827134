-- Places in regions, the innermost last or first, and operations that are passed.
use Rattle.std.proofs.Common.{◌≡◌, inl, inr, Bool, true, false, ℕ, zero, suc, ◌+◌, ◌<◌, List, [], ◌∷◌, ◌++◌, map, length, reverse, ◌≤◌, get_or, set, take, drop, Option, Some, None, refl, sym, ap, ◌∙◌, subst, append_assoc, length-append, length-drop, ◌-◌, true≢false, arith}
use Rattle.std.specs.Prelude.{◌↔◌, ◌⊎◌, IsSome}
use Rattle.std.specs.Option.{option_to_list}
use Rattle.std.specs.List.{All}
use Rattle.std.proofs.lemmas.List.Elements.{All-push, All-tail}
use Rattle.std.proofs.lemmas.List.{drop_all, get_or_append_left, take_all, take_more}
use Rattle.std.proofs.lemmas.Grind.{common_steps}
use Rattle.std.proofs.lemmas.List.{append-nil, map-append, reverse-append}
use Rattle.rule_model.specs.Words.{AllOf, AnyOf}
use Rattle.tree_model.specs.declared.op_tree.OpTree.{OpTree, out-OpTree}
use Rattle.tree_model.specs.declared.op_tree.BlockTree.{BlockTree, out-BlockTree}
use Rattle.tree_model.specs.declared.op_tree.RegionTree.{RegionTree, out-RegionTree}
use Rattle.plain_tree.specs.Ops.{Op, Ops, Blocks, blocks_in, ops_in, plain_op, regions_in}
use Rattle.value_types.specs.Trees.{plain_block, plain_region}
use Rattle.value_types.proofs.Layers.{plain_block_at, plain_op_at}
use Rattle.rule_model.specs.Words.{count_of}
use Rattle.use_paths.specs.declared.homes.Home.{Home}
use Rattle.use_paths.specs.declared.walk.HomeLevel.{HomeLevel}
use Rattle.use_paths.specs.declared.level.Level.{Level}
use Rattle.first_places.specs.First.{FirstAt, IsFirst}
use Rattle.use_paths.specs.Levels.{Known, known_of, Missed, Missing, MissingIn, Spot, spot_at, with_block, with_left, without_first}
use Rattle.use_paths.specs.Uses.{Ahead, blocks_uses, FoundBy, InBlock, InRegion, Misses, op_uses, ops_uses, Passes, regions_uses, SoFar, Use, use_at}
use Rattle.use_paths.specs.Views.{HomeBy, IsRight, spot_in, spots_in}
use Rattle.value_types.proofs.Layers.{ops_in_block, plain_region_at}
use Rattle.use_paths.proofs.Layers.{count_of_ops, label_in_block}
use Rattle.use_paths.proofs.Noting.{dropped}

pub spots_pushed : (ls : List Level) (l : Level) → spots_in (ls ++ l ∷ []) ≡ spot_in l ∷ spots_in ls
spots_pushed ls l = ap reverse (map-append spot_in ls (l ∷ [])) ∙ reverse-append (map spot_in ls) (spot_in l ∷ [])

-- The first one of a list that grows

first_more : (P : Use → Type 0) (us vs : List Use) (n : ℕ) → IsFirst P us n → IsFirst P (us ++ vs) n
first_more P [] vs n h = absurd h
first_more P (u ∷ us) vs zero h = h
first_more P (u ∷ us) vs (suc n) h = (h.0, first_more P us vs n h.1)

first_last : (P : Use → Type 0) (us : List Use) (v : Use) → AllOf (λ u. P u → ⊥) us → P v → IsFirst P (us ++ v ∷ []) (length us)
first_last P [] v none p = p
first_last P (u ∷ us) v none p = (none.0, first_last P us v none.1 p)

none_more : (P : Use → Type 0) (us : List Use) (v : Use) → AllOf (λ u. P u → ⊥) us → (P v → ⊥) → AllOf (λ u. P u → ⊥) (us ++ v ∷ [])
none_more P [] v none p = (p, tt)
none_more P (u ∷ us) v none p = (none.0, none_more P us v none.1 p)

first_on : (u : Use) (us : List Use) (count : ℕ) (found new : Option ℕ) → FoundBy u count found new → count ≡ length us → FirstAt Misses us found → FirstAt Misses (us ++ u ∷ []) new
first_on u us count (Some n) new by size first = subst (λ o. FirstAt Misses (us ++ u ∷ []) o) (sym by) (first_more Misses us (u ∷ []) n first)
first_on u us count None None by size first = none_more Misses us u first by
first_on u us count None (Some n) by size first =
    subst (λ k. IsFirst Misses (us ++ u ∷ []) k) (sym (by.0 ∙ size)) (first_last Misses us u first by.1)

-- one operation on
pub passes_one : (u : Use) (count new_count : ℕ) (found new_found : Option ℕ) → FoundBy u count found new_found → new_count ≡ count + 1
    → Passes (λ rest. u ∷ rest) count found new_count new_found
passes_one u count new_count found new_found by more = λ rest whole s. record {
  before = s.before ++ u ∷ [];
  is = append_assoc s.before (u ∷ []) rest ∙ s.is;
  counted = let size = length-append s.before (u ∷ []) in let was = s.counted in omega (arith, size, was, more);
  first = first_on u s.before count found new_found by s.counted s.first;
}

pub ruleset stack = (common_steps, spots_pushed, count_of_ops, label_in_block, ops_in_block, plain_region_at)

-- The whole of it

pub all_ahead : (whole : List Use) (count : ℕ) (found : Option ℕ) → count ≡ 0 → found ≡ None → SoFar count found whole whole
all_ahead whole count found c f = record {
  before = [];
  is = refl;
  counted = c;
  first = subst (λ o. FirstAt Misses [] o) (sym f) tt;
}

pub all_behind : (whole : List Use) (count : ℕ) (found : Option ℕ) → SoFar count found [] whole → FirstAt Misses whole found
all_behind whole count found s = subst (λ us. FirstAt Misses us found) (sym (append-nil s.before) ∙ s.is) s.first

-- Levels that come and go

pub all_front : (P : Level → Type 0) (ls ms : List Level) → All P (ls ++ ms) → All P ls
all_front P ls ms all = λ k d less. subst P (get_or_append_left ls ms d k less) (all k d (let sum = length-append ls ms in omega (arith, sum, less)))

pub one_last : (P : Level → Type 0) (ls : List Level) (l : Level) → All P (ls ++ l ∷ []) → P l
one_last P [] l all = all 0 l (omega arith)
one_last P (m ∷ ls) l all = one_last P ls l (All-tail P m (ls ++ l ∷ []) all)

pub moved_right : (old popped pushed : List Level) (level new : Level) → old ≡ popped ++ level ∷ [] → pushed ≡ popped ++ new ∷ [] → All IsRight old
    → (IsRight level → IsRight new) → All IsRight pushed
moved_right old popped pushed level new e f all right =
    let whole : All IsRight (popped ++ level ∷ []) = subst (All IsRight) e all in
    subst (All IsRight) (sym f) (All-push IsRight popped new (all_front IsRight popped (level ∷ []) whole) (right (one_last IsRight popped level whole)))

pub moved_spots : (g : List Spot → List Spot) (old popped pushed : List Level) (level new : Level) → old ≡ popped ++ level ∷ [] → pushed ≡ popped ++ new ∷ []
    → g (spot_in level ∷ spots_in popped) ≡ spot_in new ∷ spots_in popped → spots_in pushed ≡ g (spots_in old)
moved_spots g old popped pushed level new e f is =
    ap spots_in f ∙ spots_pushed popped new ∙ sym is ∙ sym (ap g (ap spots_in e ∙ spots_pushed popped level))

-- a level is left
pub left_spots : (old new : List Level) (r : Option Level) → old ≡ new ++ option_to_list r → (r ≡ None → length old ≡ 0) → spots_in new ≡ without_first (spots_in old)
left_spots old new (Some level) e none = sym (ap without_first (ap spots_in e ∙ spots_pushed new level))
left_spots old new None e none = ap spots_in (sym (append-nil new) ∙ sym e ∙ empty old (none refl)) ∙ sym (ap (λ ls. without_first (spots_in ls)) (empty old (none refl)))
  where
    empty : (ls : List Level) → length ls ≡ 0 → ls ≡ []
    empty [] z = refl
    empty (l ∷ ls) z = absurd (omega (arith, z))

pub left_right : (old new : List Level) (r : Option Level) → old ≡ new ++ option_to_list r → All IsRight old → All IsRight new
left_right old new r e all = all_front IsRight new (option_to_list r) (subst (All IsRight) e all)

-- a level that changes and stays the same place
pub spots_set : (ls : List Level) (i : ℕ) (x y : Level) → i < length ls → get_or ls i x ≡ x → spot_in y ≡ spot_in x → spots_in (set ls i y) ≡ spots_in ls
spots_set ls i x y less at same = ap reverse (maps ls i less at)
  where
    maps : (ms : List Level) (j : ℕ) → j < length ms → get_or ms j x ≡ x → map spot_in (set ms j y) ≡ map spot_in ms
    maps [] j h k = absurd (omega (arith, h))
    maps (m ∷ ms) zero h k = ap (λ s. s ∷ map spot_in ms) (same ∙ ap spot_in (sym k))
    maps (m ∷ ms) (suc j) h k = ap (λ ss. spot_in m ∷ ss) (maps ms j (omega (arith, h)) k)

-- The home of a value

taken : (ls : List Level) (d n : ℕ) (x : Level) → d + 1 ≡ n → n ≤ length ls → x ≡ get_or ls d x → spots_in (take n ls) ≡ spot_in x ∷ spots_in (take d ls)
taken ls d n x e most at =
    ap (λ k. spots_in (take k ls)) (sym e) ∙ ap spots_in (take_more ls d x (omega (arith, e, most))) ∙ spots_pushed (take d ls) (get_or ls d x)
    ∙ ap (λ (l : Level). spot_in l ∷ spots_in (take d ls)) (sym at)

pub home_not_here : (ls : List Level) (d n u : ℕ) (x : Level) → d + 1 ≡ n → n ≤ length ls → x ≡ get_or ls d x → None ≡ (spot_in x).known.homes u
    → Missed (spots_in (take n ls)) u ↔ Missed (spots_in ls) u → Missed (spots_in (take d ls)) u ↔ Missed (spots_in ls) u
home_not_here ls d n u x e most at none still =
    subst (λ (o : Option Home). MissingIn o (spot_in x) (Missed (spots_in (take d ls)) u) ↔ Missed (spots_in ls) u) (sym none)
    (subst (λ ss. Missed ss u ↔ Missed (spots_in ls) u) (taken ls d n x e most at) still)

pub home_here : (ls : List Level) (d n u : ℕ) (x : Level) (h : Home) → d + 1 ≡ n → n ≤ length ls → x ≡ get_or ls d x → Some h ≡ (spot_in x).known.homes u
    → Missed (spots_in (take n ls)) u ↔ Missed (spots_in ls) u → Missed (spots_in ls) u ↔ Missing (spot_in x) h
home_here ls d n u x h e most at some still =
    let two : Missing (spot_in x) h ↔ Missed (spots_in ls) u =
    subst (λ (o : Option Home). MissingIn o (spot_in x) (Missed (spots_in (take d ls)) u) ↔ Missed (spots_in ls) u) (sym some)
    (subst (λ ss. Missed ss u ↔ Missed (spots_in ls) u) (taken ls d n x e most at) still) in
    (two.1, two.0)

pub all_taken : (ls : List Level) (n u : ℕ) → n ≡ length ls → Missed (spots_in (take n ls)) u ↔ Missed (spots_in ls) u
all_taken ls n u e =
    let same : take n ls ≡ ls = take_all n ls (omega (arith, e)) in
    subst (λ ms. Missed (spots_in ms) u ↔ Missed (spots_in ls) u) (sym same) (λ h. h, λ h. h)

pub none_left : (ls : List Level) (n u : ℕ) → n ≤ 0 → Missed (spots_in (take n ls)) u ↔ Missed (spots_in ls) u → Missed (spots_in ls) u
none_left ls zero u z still = still.0 tt
none_left ls (suc n) u z still = absurd (omega (arith, z))

pub empty_by : (r : Option Level) (n k : ℕ) → n ≡ k → (0 < n → IsSome r) → r ≡ None → k ≡ 0
empty_by r zero k e some none = sym e
empty_by r (suc n) k e some none = absurd (true≢false (sym (subst (λ o. IsSome o) none (some (omega arith)))))

pub found_here : (ls : List Level) (d n u : ℕ) (x : Level) (h : Home) → d + 1 ≡ n → n ≤ length ls → x ≡ get_or ls d x → Some h ≡ (spot_in x).known.homes u
    → Missed (spots_in (take n ls)) u ↔ Missed (spots_in ls) u → HomeBy ls u (Some (record { depth = d; home = h }))
found_here ls d n u x h e most at some still = (
  omega (arith, e, most),
  λ y. subst (λ (z : Level). Missed (spots_in ls) u ↔ Missing (spot_in z) h) (at ∙ get_or_same ls d x y (omega (arith, e, most))) (home_here ls d n u x h e most at some still),
)
  where
    get_or_same : (ms : List Level) (k : ℕ) (a b : Level) → k < length ms → get_or ms k a ≡ get_or ms k b
    get_or_same [] k a b less = absurd (omega (arith, less))
    get_or_same (m ∷ ms) zero a b less = refl
    get_or_same (m ∷ ms) (suc k) a b less = get_or_same ms k a b (omega (arith, less))

pub pushed_right : (old pushed : List Level) (new : Level) → pushed ≡ old ++ new ∷ [] → All IsRight old → IsRight new → All IsRight pushed
pushed_right old pushed new e all right = subst (All IsRight) (sym e) (All-push IsRight old new all right)

-- One of some values

pub any_on : (P : ℕ → Type 0) (vs : List ℕ) (i v : ℕ) (b : Bool) → i < length vs → v ≡ get_or vs i v → ((b ≡ true) ↔ P v) → b ≡ false
    → AnyOf P (drop i vs) ↔ AnyOf P vs → AnyOf P (drop (i + 1) vs) ↔ AnyOf P vs
any_on P vs i v b less at tells missed still =
    let e : drop i vs ≡ v ∷ drop (i + 1) vs = dropped vs i v less at in
    let two : (P v ⊎ AnyOf P (drop (i + 1) vs)) ↔ AnyOf P vs = subst (λ us. AnyOf P us ↔ AnyOf P vs) e still in
    (λ h. two.0 (inr h), λ h. elim (two.1 h) [ inl p ↦ absurd (true≢false (sym (tells.1 p) ∙ missed)) | inr r ↦ r ])

pub any_here : (P : ℕ → Type 0) (vs : List ℕ) (i v : ℕ) (b : Bool) → i < length vs → v ≡ get_or vs i v → ((b ≡ true) ↔ P v) → b ≡ true
    → AnyOf P (drop i vs) ↔ AnyOf P vs → AnyOf P vs
any_here P vs i v b less at tells so still =
    let e : drop i vs ≡ v ∷ drop (i + 1) vs = dropped vs i v less at in
    let two : (P v ⊎ AnyOf P (drop (i + 1) vs)) ↔ AnyOf P vs = subst (λ us. AnyOf P us ↔ AnyOf P vs) e still in
    two.0 (inl (tells.0 so))

pub any_none : (P : ℕ → Type 0) (vs : List ℕ) (i : ℕ) → length vs ≤ i → AnyOf P (drop i vs) ↔ AnyOf P vs → AnyOf P vs → ⊥
any_none P vs i most still h = subst (AnyOf P) (drop_all i vs most) (still.1 h)

-- The walk

pub op_passes : (spots now : List Spot) (o : OpTree) (operands : List ℕ) (regions : List RegionTree) (c d e : ℕ) (f g h : Option ℕ) → operands ≡ (out-OpTree o).operands → regions ≡ (out-OpTree o).regions
    → now ≡ spots → Passes (λ rest. use_at spots operands ∷ rest) c f d g → Passes (λ rest. regions_uses now (regions_in (map plain_region regions)) rest) d g e h
    → Passes (λ rest. op_uses spots (plain_op o) rest) c f e h
op_passes spots now o operands regions c d e f g h eo er en one rest = λ more whole s.
    let inner : List Use = regions_uses spots (regions_in (map plain_region regions)) more in
    let a : SoFar c f (op_uses spots (plain_op o) more) whole = s in
    let b : SoFar c f (use_at spots (out-OpTree o).operands ∷ regions_uses spots (regions_in (map plain_region (out-OpTree o).regions)) more) whole =
    subst (λ (p : Op). SoFar c f (op_uses spots p more) whole) (plain_op_at o) a in
    let k : SoFar c f (use_at spots operands ∷ inner) whole =
    subst (λ us. SoFar c f (use_at spots us ∷ inner) whole) (sym eo) (subst (λ (rs : List RegionTree). SoFar c f (use_at spots (out-OpTree o).operands ∷ regions_uses spots (regions_in (map plain_region rs)) more) whole) (sym er) b) in
    rest more whole (subst (λ ss. SoFar d g (regions_uses ss (regions_in (map plain_region regions)) more) whole) (sym en) (one inner whole k))

pub regions_on : (spots now : List Spot) (rs : List RegionTree) (i : ℕ) (r : RegionTree) (all : List Use → List Use) (c d e : ℕ) (f g h : Option ℕ) → i < length rs → r ≡ get_or rs i r → now ≡ spots
    → Ahead c f d g all (λ rest. regions_uses spots (regions_in (map plain_region (drop i rs))) rest)
    → Passes (λ rest. blocks_uses now (known_of (plain_region r)) (plain_region r) rest) d g e h
    → Ahead c f e h all (λ rest. regions_uses spots (regions_in (map plain_region (drop (i + 1) rs))) rest)
regions_on spots now rs i r all c d e f g h less at en before one = λ rest whole s.
    let more : List Use = regions_uses spots (regions_in (map plain_region (drop (i + 1) rs))) rest in
    one more whole (subst (λ ss. SoFar d g (blocks_uses ss (known_of (plain_region r)) (plain_region r) more) whole) (sym en)
    (subst (λ (xs : List RegionTree). SoFar d g (regions_uses spots (regions_in (map plain_region xs)) rest) whole) (dropped rs i r less at) (before rest whole s)))

-- where the places are in a region
abbrev pub Inside : List Spot → Known → List Spot → Type 0
Inside spots known outer = (n : ℕ) × (left : ℕ) × (spots ≡ spot_at known n left ∷ outer)

abbrev pub InRegionSoFar : (first spots : List Spot) → (bs : List BlockTree) (i c : ℕ) (f : Option ℕ) (d : ℕ) (g : Option ℕ) → Type 0
InRegionSoFar first spots bs i c f d g =
    (known : Known) (n left : ℕ) (outer : List Spot) → first ≡ spot_at known n left ∷ outer
    → Inside spots known outer
    × Ahead c f d g (λ rest. blocks_uses outer known (blocks_in (map plain_block bs)) rest) (λ rest. blocks_uses outer known (blocks_in (map plain_block (drop i bs))) rest)

pub blocks_on : (first now new : List Spot) (bs : List BlockTree) (i : ℕ) (b : BlockTree) (c d e : ℕ) (f g h : Option ℕ) → i < length bs → b ≡ get_or bs i b
    → InRegionSoFar first now bs i c f d g
    → InRegion now new (λ outer known rest. ops_uses outer known (known.places (plain_block b).label) (plain_block b).ops rest) d g e h
    → InRegionSoFar first new bs (i + 1) c f e h
blocks_on first now new bs i b c d e f g h less at before one = λ known n left outer is.
    let was = before known n left outer is in
    let on = one known was.0.0 was.0.1 outer was.0.2 in (
      on.0,
      λ rest whole s. on.1 (blocks_uses outer known (blocks_in (map plain_block (drop (i + 1) bs))) rest) whole
          (subst (λ (xs : List BlockTree). SoFar d g (blocks_uses outer known (blocks_in (map plain_block xs)) rest) whole) (dropped bs i b less at) (was.1 rest whole s)),
    )

abbrev pub InBlockSoFar : (first spots : List Spot) → (os : List OpTree) (i c : ℕ) (f : Option ℕ) (d : ℕ) (g : Option ℕ) → Type 0
InBlockSoFar first spots os i c f d g =
    (known : Known) (n left : ℕ) (outer : List Spot) → first ≡ spot_at known n left ∷ outer
    → ((new_left : ℕ) × (spots ≡ spot_at known n new_left ∷ outer))
    × Ahead c f d g (λ rest. ops_uses outer known n (ops_in (map plain_op os)) rest) (λ rest. ops_uses outer known n (ops_in (map plain_op (drop i os))) rest)

pub ops_on : (first now stood new : List Spot) (os : List OpTree) (i left : ℕ) (o : OpTree) (c d d2 e : ℕ) (f g g2 h : Option ℕ) → i < length os → o ≡ get_or os i o → left ≡ length os - i
    → stood ≡ with_left left now → new ≡ stood → d2 ≡ d → g2 ≡ g
    → InBlockSoFar first now os i c f d g
    → Passes (λ rest. op_uses stood (plain_op o) rest) d2 g2 e h
    → InBlockSoFar first new os (i + 1) c f e h
ops_on first now stood new os i left o c d d2 e f g g2 h less at size st same ec eg before one = λ known n was_left outer is.
    let was = before known n was_left outer is in
    let here : stood ≡ spot_at known n left ∷ outer = st ∙ ap (with_left left) was.0.1 in
    let behind : count_of (ops_in (map plain_op (drop (i + 1) os))) + 1 ≡ left =
    let count = count_of_ops (drop (i + 1) os) in
    let long = length-drop (i + 1) os in omega (arith, count, long, size, less) in (
      (left, same ∙ here),
      λ rest whole s.
          let more : List Use = ops_uses outer known n (ops_in (map plain_op (drop (i + 1) os))) rest in
          let at_it : SoFar d g (op_uses (spot_at known n (count_of (ops_in (map plain_op (drop (i + 1) os))) + 1) ∷ outer) (plain_op o) more) whole =
          subst (λ (xs : List OpTree). SoFar d g (ops_uses outer known n (ops_in (map plain_op xs)) rest) whole) (dropped os i o less at) (was.1 rest whole s) in
          one more whole
          (subst (λ k. SoFar k g2 (op_uses stood (plain_op o) more) whole) (sym ec) (subst (λ k. SoFar d k (op_uses stood (plain_op o) more) whole) (sym eg)
          (subst (λ (ss : List Spot). SoFar d g (op_uses ss (plain_op o) more) whole) (sym here) (subst (λ k. SoFar d g (op_uses (spot_at known n k ∷ outer) (plain_op o) more) whole) behind at_it)))),
    )

-- a region that is entered and left
pub region_passes : (spots entered walked left_behind : List Spot) (r : RegionTree) (blocks : List BlockTree) (c d e d2 e2 : ℕ) (f g h g2 h2 : Option ℕ) → blocks ≡ (out-RegionTree r).blocks
    → entered ≡ spot_at (known_of (blocks_in (map plain_block blocks))) 0 0 ∷ spots → left_behind ≡ without_first walked → d ≡ c → g ≡ f → e2 ≡ e → h2 ≡ h
    → InRegion entered walked (λ outer known rest. blocks_uses outer known (blocks_in (map plain_block blocks)) rest) d g e h
    → (left_behind ≡ spots) × Passes (λ rest. blocks_uses spots (known_of (plain_region r)) (plain_region r) rest) c f e2 h2
region_passes spots entered walked left_behind r blocks c d e d2 e2 f g h g2 h2 eb en el ec ef ee eh one =
    let in_it = one (known_of (blocks_in (map plain_block blocks))) 0 0 spots en in
    let same : plain_region r ≡ blocks_in (map plain_block blocks) = plain_region_at r ∙ ap (λ (bs : List BlockTree). blocks_in (map plain_block bs)) (sym eb) in (
      el ∙ ap without_first in_it.0.2,
      λ rest whole s.
          subst (λ k. SoFar e2 k rest whole) (sym eh) (subst (λ k. SoFar k h rest whole) (sym ee)
          (in_it.1 rest whole (subst (λ k. SoFar k g (blocks_uses spots (known_of (blocks_in (map plain_block blocks))) (blocks_in (map plain_block blocks)) rest) whole) (sym ec)
          (subst (λ k. SoFar c k (blocks_uses spots (known_of (blocks_in (map plain_block blocks))) (blocks_in (map plain_block blocks)) rest) whole) (sym ef)
          (subst (λ (bs : Blocks). SoFar c f (blocks_uses spots (known_of bs) bs rest) whole) same s))))),
    )

-- a block that is begun
pub block_passes : (spots begun new : List Spot) (b : BlockTree) (ops : List OpTree) (c d e : ℕ) (f g h : Option ℕ) → ops ≡ (out-BlockTree b).ops
    → begun ≡ with_block (out-BlockTree b).label spots → d ≡ c → g ≡ f
    → InBlock begun new (λ outer known n rest. ops_uses outer known n (ops_in (map plain_op ops)) rest) d g e h
    → InRegion spots new (λ outer known rest. ops_uses outer known (known.places (plain_block b).label) (plain_block b).ops rest) c f e h
block_passes spots begun new b ops c d e f g h eo eb ec ef one = λ known n left outer is.
    let label : (plain_block b).label ≡ (out-BlockTree b).label = label_in_block b in
    let body : (plain_block b).ops ≡ ops_in (map plain_op ops) = ops_in_block b ∙ ap (λ (os : List OpTree). ops_in (map plain_op os)) (sym eo) in
    let here : begun ≡ spot_at known (known.places (out-BlockTree b).label) left ∷ outer = eb ∙ ap (with_block (out-BlockTree b).label) is in
    let on = one known (known.places (out-BlockTree b).label) left outer here in (
      (known.places (out-BlockTree b).label, on.0.0, on.0.1),
      λ rest whole s. on.1 rest whole
          (subst (λ k. SoFar k g (ops_uses outer known (known.places (out-BlockTree b).label) (ops_in (map plain_op ops)) rest) whole) (sym ec)
          (subst (λ k. SoFar c k (ops_uses outer known (known.places (out-BlockTree b).label) (ops_in (map plain_op ops)) rest) whole) (sym ef)
          (subst (λ k. SoFar c f (ops_uses outer known (known.places k) (ops_in (map plain_op ops)) rest) whole) label
          (subst (λ (os : Ops). SoFar c f (ops_uses outer known (known.places (plain_block b).label) os rest) whole) body s)))),
    )

pub from_start : (spots : List Spot) (o : Op) (c d : ℕ) (f g : Option ℕ) → spots ≡ [] → c ≡ 0 → f ≡ None → Passes (λ rest. op_uses spots o rest) c f d g → FirstAt Misses (op_uses [] o []) g
from_start spots o c d f g e ec ef passed =
    all_behind (op_uses [] o []) d g (passed [] (op_uses [] o []) (subst (λ ss. SoFar c f (op_uses ss o []) (op_uses [] o [])) (sym e) (all_ahead (op_uses [] o []) c f ec ef)))

pub within_levels : (ls : List Level) (u : ℕ) (r : Option HomeLevel) (p : HomeLevel) → r ≡ Some p → HomeBy ls u r → p.depth < length ls
within_levels ls u r p e h = let both : HomeBy ls u (Some p) = subst (HomeBy ls u) e h in both.0

-- what the level of the home answers
pub missing_at : (ls : List Level) (u : ℕ) (r : Option HomeLevel) (p : HomeLevel) (x : Level) (b : Bool) → r ≡ Some p → HomeBy ls u r → x ≡ get_or ls p.depth x
    → (b ≡ true) ↔ Missing (spot_in x) p.home → (b ≡ true) ↔ Missed (spots_in ls) u
missing_at ls u r p x b e h at exact =
    let whole : HomeBy ls u (Some p) = subst (HomeBy ls u) e h in
    let two : Missed (spots_in ls) u ↔ Missing (spot_in x) p.home = subst (λ (y : Level). Missed (spots_in ls) u ↔ Missing (spot_in y) p.home) (sym at) (whole.1 x) in
    (λ k. two.1 (exact.0 k), λ m. exact.1 (two.0 m))
