-- Trees that are read part by part.
use Rattle.std.proofs.Common.{◌≡◌, ℕ, zero, suc, ◌<◌, ◌+◌, List, [], ◌∷◌, ◌++◌, length, get_or, take, refl, sym, ap, subst, ◌∙◌, arith}
use Rattle.std.specs.List.{AllZip}
use Rattle.std.proofs.lemmas.Grind.{common_steps}
use Rattle.key_model.specs.declared.handle.Handle.{Handle}
use Rattle.key_model.specs.declared.key.Key.{Key}
use Rattle.key_model.specs.declared.key.Key.TheVariants.{OfType, OfAttr}
use Rattle.tree_model.specs.declared.type_tree.TypeTree.{TypeTree}
use Rattle.tree_model.specs.declared.attr_tree.AttrTree.{AttrTree}
use Rattle.tree_model.specs.declared.op_tree.OpTree.{OpTree, out-OpTree, roll-OpTree, roll-out-OpTree}
use Rattle.tree_model.specs.declared.op_tree.BlockTree.{BlockTree, out-BlockTree, roll-BlockTree, roll-out-BlockTree}
use Rattle.tree_model.specs.declared.op_tree.RegionTree.{RegionTree, out-RegionTree, roll-RegionTree, roll-out-RegionTree}
use Rattle.flat_model.specs.declared.nodes.NamedAttr.{NamedAttr}
use Rattle.flat_model.specs.Flat.{Flat, op_at, block_at, blocks_at, type_at}
use Rattle.flat_model.specs.Growth.{Kept}
use Rattle.flat_model.specs.Shows.{Itself, EntryShows, ValueShows, FrontShows, BlockFrontShows, OpShows, op_shown, OpsShow, ops_shown, next_op_shown, RegionsShow, regions_shown, next_region_shown, BlocksShow, blocks_shown, next_block_shown}
use Rattle.flat_model.proofs.GrowthLaws.{kept_refl, kept_on, grown_refl, op_later, ops_later, blocks_later, block_front_later}

pub ruleset to_tree_laws = (common_steps, kept_refl, kept_on)

-- the part of a list at a place, by what ties it to another list
pub record IsAt {B : Type 0} (P : B → Type 0) (ts : List B) (k : ℕ) : Type 0 where
  pub tree : B
  pub is : P tree
  pub next : take (k + 1) ts ≡ take k ts ++ tree ∷ []

at_zero : {B : Type 0} (P : B → Type 0) (t : B) (ts : List B) → P t → IsAt P (t ∷ ts) 0
at_zero P t ts p = record { tree = t; is = p; next = refl }

at_more : {B : Type 0} (P : B → Type 0) (t : B) (ts : List B) (k : ℕ) → IsAt P ts k → IsAt P (t ∷ ts) (suc k)
at_more P t ts k a = let e : suc k + 1 ≡ suc (k + 1) = omega arith in record {
  tree = a.tree;
  is = a.is;
  next = ap (λ n. take n (t ∷ ts)) e ∙ ap (λ xs. t ∷ xs) a.next;
}

pub zip_at : {A B : Type 0} (R : A → B → Type 0) (xs : List A) (ts : List B) (k : ℕ) (d : A) → AllZip R xs ts → k < length xs → IsAt (R (get_or xs k d)) ts k
zip_at R [] ts k d z h = absurd (omega arith)
zip_at R (x ∷ xs) [] k d z h = absurd z
zip_at R (x ∷ xs) (t ∷ ts) zero d z h = at_zero (R x) t ts z.0
zip_at R (x ∷ xs) (t ∷ ts) (suc k) d z h = at_more (R (get_or xs k d)) t ts k (zip_at R xs ts k d z.1 (omega arith))

pub zip_all : {A B : Type 0} (R : A → B → Type 0) (xs : List A) (ts : List B) (k : ℕ) → AllZip R xs ts → k ≡ length xs → take k ts ≡ ts
zip_all R [] [] k z e = ap (λ n. take n []) e
zip_all R [] (t ∷ ts) k z e = absurd z
zip_all R (x ∷ xs) [] k z e = absurd z
zip_all R (x ∷ xs) (t ∷ ts) k z e = ap (λ n. take n (t ∷ ts)) e ∙ ap (λ us. t ∷ us) (zip_all R xs ts (length xs) z.1 refl)

pub zip_itself : (xs ys : List ℕ) → AllZip Itself xs ys → xs ≡ ys
zip_itself [] [] z = refl
zip_itself [] (y ∷ ys) z = absurd z
zip_itself (x ∷ xs) [] z = absurd z
zip_itself (x ∷ xs) (y ∷ ys) z = ap (λ n. n ∷ xs) z.0 ∙ ap (λ ns. y ∷ ns) (zip_itself xs ys z.1)

-- one part more was read
pub one_read : {B : Type 0} (P : B → Type 0) (ts made more : List B) (k : ℕ) (r : B) → IsAt P ts k → made ≡ take k ts → more ≡ made ++ r ∷ [] → ((t : B) → P t → r ≡ t) → more ≡ take (k + 1) ts
one_read P ts made more k r a e d f = d ∙ ap (λ xs. xs ++ r ∷ []) e ∙ ap (λ x. take k ts ++ x ∷ []) (f a.tree a.is) ∙ sym a.next

pub entry_read : (H J : Handle → Key → Type 0) (xs : List NamedAttr) (x : NamedAttr) (made more : List (List ℕ × AttrTree)) (k : ℕ) (n : List ℕ) (a : AttrTree)
    → Kept H J → ((ts : List (List ℕ × AttrTree)) → AllZip (EntryShows H) xs ts → made ≡ take k ts) → x ≡ get_or xs k x → k < length xs → n ≡ x.name
    → ((t : AttrTree) → J x.value (OfAttr t) → a ≡ t) → more ≡ made ++ (n, a) ∷ [] → (ts : List (List ℕ × AttrTree)) → AllZip (EntryShows H) xs ts → more ≡ take (k + 1) ts
entry_read H J xs x made more k n a kept inv e h m f d ts z =
    one_read (EntryShows H x) ts made more k (n, a) (subst (λ y. IsAt (EntryShows H y) ts k) (sym e) (zip_at (EntryShows H) xs ts k x z h)) (inv ts z) d
    (λ t s. ap (λ u. (u, a)) (m ∙ s.name) ∙ ap (λ u. (t.0, u)) (f t.1 (kept.kept x.value (OfAttr t.1) s.value)))

pub value_read : (H J : Handle → Key → Type 0) (f : Flat) (xs : List ℕ) (made more : List (ℕ × TypeTree)) (k : ℕ) (a : TypeTree)
    → Kept H J → ((ts : List (ℕ × TypeTree)) → AllZip (ValueShows H Itself f) xs ts → made ≡ take k ts) → k < length xs
    → ((t : TypeTree) → J (type_at f (get_or xs k 0)) (OfType t) → a ≡ t) → more ≡ made ++ (get_or xs k 0, a) ∷ [] → (ts : List (ℕ × TypeTree)) → AllZip (ValueShows H Itself f) xs ts → more ≡ take (k + 1) ts
value_read H J f xs made more k a kept inv h g d ts z = let x = get_or xs k 0 in
    one_read (ValueShows H Itself f x) ts made more k (x, a) (zip_at (ValueShows H Itself f) xs ts k 0 z h) (inv ts z) d
    (λ t s. ap (λ u. (u, a)) s.number ∙ ap (λ u. (t.0, u)) (g t.1 (kept.kept (type_at f x) (OfType t.1) s.type)))

-- an operation of its parts
pub op_read : (t : OpTree) (name : List ℕ) (results : List (ℕ × TypeTree)) (operands : List ℕ) (props attrs : List (List ℕ × AttrTree)) (regions : List RegionTree) (successors : List ℕ)
    → name ≡ (out-OpTree t).name → results ≡ (out-OpTree t).results → operands ≡ (out-OpTree t).operands → props ≡ (out-OpTree t).props → attrs ≡ (out-OpTree t).attrs
    → regions ≡ (out-OpTree t).regions → successors ≡ (out-OpTree t).successors
    → roll-OpTree (record { name = name; results = results; operands = operands; props = props; attrs = attrs; regions = regions; successors = successors }) ≡ t
op_read t name results operands props attrs regions successors a b c d e f g = let o = out-OpTree t in
    ap (λ x. roll-OpTree (record { name = x; results = results; operands = operands; props = props; attrs = attrs; regions = regions; successors = successors })) a
    ∙ ap (λ x. roll-OpTree (record { name = o.name; results = x; operands = operands; props = props; attrs = attrs; regions = regions; successors = successors })) b
    ∙ ap (λ x. roll-OpTree (record { name = o.name; results = o.results; operands = x; props = props; attrs = attrs; regions = regions; successors = successors })) c
    ∙ ap (λ x. roll-OpTree (record { name = o.name; results = o.results; operands = o.operands; props = x; attrs = attrs; regions = regions; successors = successors })) d
    ∙ ap (λ x. roll-OpTree (record { name = o.name; results = o.results; operands = o.operands; props = o.props; attrs = x; regions = regions; successors = successors })) e
    ∙ ap (λ x. roll-OpTree (record { name = o.name; results = o.results; operands = o.operands; props = o.props; attrs = o.attrs; regions = x; successors = successors })) f
    ∙ ap (λ x. roll-OpTree (record { name = o.name; results = o.results; operands = o.operands; props = o.props; attrs = o.attrs; regions = o.regions; successors = x })) g
    ∙ roll-out-OpTree t

pub block_read : (t : BlockTree) (label : ℕ) (args : List (ℕ × TypeTree)) (ops : List OpTree) → label ≡ (out-BlockTree t).label → args ≡ (out-BlockTree t).args → ops ≡ (out-BlockTree t).ops
    → roll-BlockTree (record { label = label; args = args; ops = ops }) ≡ t
block_read t label args ops a b c = let o = out-BlockTree t in
    ap (λ x. roll-BlockTree (record { label = x; args = args; ops = ops })) a
    ∙ ap (λ x. roll-BlockTree (record { label = o.label; args = x; ops = ops })) b
    ∙ ap (λ x. roll-BlockTree (record { label = o.label; args = o.args; ops = x })) c
    ∙ roll-out-BlockTree t

region_read : (t : RegionTree) (blocks : List BlockTree) → blocks ≡ (out-RegionTree t).blocks → roll-RegionTree (record { blocks = blocks }) ≡ t
region_read t blocks e = ap (λ x. roll-RegionTree (record { blocks = x })) e ∙ roll-out-RegionTree t

module _ (H J : Handle → Key → Type 0) (f : Flat) where
  ops_at : {is : List ℕ} {ts : List OpTree} (k : ℕ) → OpsShow H Itself Itself f is ts → k < length is → IsAt (OpShows H Itself Itself f (get_or is k 0)) ts k
  ops_at k ops_shown h = absurd (omega arith)
  ops_at zero (next_op_shown {op} {ops} {tree} {trees} s more) h = at_zero (OpShows H Itself Itself f op) tree trees s
  ops_at (suc k) (next_op_shown {op} {ops} {tree} {trees} s more) h = at_more (OpShows H Itself Itself f (get_or ops k 0)) tree trees k (ops_at k more (omega arith))

  pub ops_all : {is : List ℕ} {ts : List OpTree} (k : ℕ) → OpsShow H Itself Itself f is ts → k ≡ length is → take k ts ≡ ts
  ops_all k ops_shown e = ap (λ n. take n []) e
  ops_all k (next_op_shown {op} {ops} {tree} {trees} s more) e = ap (λ n. take n (tree ∷ trees)) e ∙ ap (λ us. tree ∷ us) (ops_all (length ops) more refl)

  pub op_again : (is : List ℕ) (made more : List OpTree) (k x : ℕ) (r : OpTree) → Kept H J → ((ts : List OpTree) → OpsShow H Itself Itself f is ts → made ≡ take k ts) → k < length is → x ≡ get_or is k 0
      → ((t : OpTree) → OpShows J Itself Itself f x t → r ≡ t) → more ≡ made ++ r ∷ [] → (ts : List OpTree) → OpsShow H Itself Itself f is ts → more ≡ take (k + 1) ts
  op_again is made more k x r kept inv h e g d ts z = one_read (OpShows H Itself Itself f (get_or is k 0)) ts made more k r (ops_at k z h) (inv ts z) d
      (λ t s. g t (subst (λ y. OpShows J Itself Itself f y t) (sym e) (op_later H J Itself Itself f f kept (grown_refl f) s)))

  BlockAt : ℕ → BlockTree → Type 0
  BlockAt b t = BlockFrontShows H Itself Itself f b t × OpsShow H Itself Itself f (block_at f b).ops (out-BlockTree t).ops

  blocks_at_place : {is : List ℕ} {ts : List BlockTree} (k : ℕ) → BlocksShow H Itself Itself f is ts → k < length is → IsAt (BlockAt (get_or is k 0)) ts k
  unfolding BlockAt
  blocks_at_place k blocks_shown h = absurd (omega arith)
  blocks_at_place zero (next_block_shown {block} {blocks} {tree} {trees} s o more) h = at_zero (BlockAt block) tree trees (s, o)
  blocks_at_place (suc k) (next_block_shown {block} {blocks} {tree} {trees} s o more) h = at_more (BlockAt (get_or blocks k 0)) tree trees k (blocks_at_place k more (omega arith))

  pub blocks_all : {is : List ℕ} {ts : List BlockTree} (k : ℕ) → BlocksShow H Itself Itself f is ts → k ≡ length is → take k ts ≡ ts
  blocks_all k blocks_shown e = ap (λ n. take n []) e
  blocks_all k (next_block_shown {block} {blocks} {tree} {trees} s o more) e = ap (λ n. take n (tree ∷ trees)) e ∙ ap (λ us. tree ∷ us) (blocks_all (length blocks) more refl)

  RegionAt : ℕ → RegionTree → Type 0
  RegionAt r t = BlocksShow H Itself Itself f (blocks_at f r) (out-RegionTree t).blocks

  regions_at : {is : List ℕ} {ts : List RegionTree} (k : ℕ) → RegionsShow H Itself Itself f is ts → k < length is → IsAt (RegionAt (get_or is k 0)) ts k
  unfolding RegionAt
  regions_at k regions_shown h = absurd (omega arith)
  regions_at zero (next_region_shown {region} {regions} {tree} {trees} i s more) h = at_zero (RegionAt region) tree trees s
  regions_at (suc k) (next_region_shown {region} {regions} {tree} {trees} i s more) h = at_more (RegionAt (get_or regions k 0)) tree trees k (regions_at k more (omega arith))

  pub regions_all : {is : List ℕ} {ts : List RegionTree} (k : ℕ) → RegionsShow H Itself Itself f is ts → k ≡ length is → take k ts ≡ ts
  regions_all k regions_shown e = ap (λ n. take n []) e
  regions_all k (next_region_shown {region} {regions} {tree} {trees} i s more) e = ap (λ n. take n (tree ∷ trees)) e ∙ ap (λ us. tree ∷ us) (regions_all (length regions) more refl)

  pub region_again : (is bs : List ℕ) (made more : List RegionTree) (k : ℕ) (r : List BlockTree) → Kept H J → ((ts : List RegionTree) → RegionsShow H Itself Itself f is ts → made ≡ take k ts) → k < length is → bs ≡ blocks_at f (get_or is k 0)
      → ((us : List BlockTree) → BlocksShow J Itself Itself f bs us → r ≡ us) → more ≡ made ++ roll-RegionTree (record { blocks = r }) ∷ [] → (ts : List RegionTree) → RegionsShow H Itself Itself f is ts → more ≡ take (k + 1) ts
  unfolding RegionAt
  region_again is bs made more k r kept inv h e g d ts z = one_read (RegionAt (get_or is k 0)) ts made more k (roll-RegionTree (record { blocks = r })) (regions_at k z h) (inv ts z) d
      (λ t s. region_read t r (g (out-RegionTree t).blocks (subst (λ ys. BlocksShow J Itself Itself f ys (out-RegionTree t).blocks) (sym e) (blocks_later H J Itself Itself f f kept (grown_refl f) s))))

  pub block_again : (is : List ℕ) (made more : List BlockTree) (k : ℕ) (r : BlockTree) → Kept H J → ((ts : List BlockTree) → BlocksShow H Itself Itself f is ts → made ≡ take k ts) → k < length is
      → ((t : BlockTree) → BlockFrontShows J Itself Itself f (get_or is k 0) t → OpsShow J Itself Itself f (block_at f (get_or is k 0)).ops (out-BlockTree t).ops → r ≡ t)
      → more ≡ made ++ r ∷ [] → (ts : List BlockTree) → BlocksShow H Itself Itself f is ts → more ≡ take (k + 1) ts
  unfolding BlockAt
  block_again is made more k r kept inv h g d ts z = one_read (BlockAt (get_or is k 0)) ts made more k r (blocks_at_place k z h) (inv ts z) d
      (λ t s. g t (block_front_later H J Itself Itself f f kept (grown_refl f) (get_or is k 0) t s.0) (ops_later H J Itself Itself f f kept (grown_refl f) s.1))

  -- what an operation that is shown has
  pub split_op : (op : ℕ) (tree : OpTree) → OpShows H Itself Itself f op tree → {A : Type 0} → (FrontShows H Itself Itself f (op_at f op) tree → RegionsShow H Itself Itself f (op_at f op).regions (out-OpTree tree).regions → A) → A
  split_op op tree (op_shown h s r) g = g s r
