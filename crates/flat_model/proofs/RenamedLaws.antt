-- A function that shows a tree by names of its numbers shows the tree with its own numbers, and that one is the same.
use Rattle.std.proofs.Common.{◌≡◌, ◌<◌, ℕ, length, List, [], ◌∷◌, ◌++◌, map, refl, sym, ap, subst, ◌∙◌}
use Rattle.std.specs.Prelude.{flat_map}
use Rattle.std.proofs.lemmas.List.{map-append}
use Rattle.flat_model.specs.declared.nodes.OpNode.{OpNode}
use Rattle.std.specs.List.{AllZip}
use Rattle.key_model.specs.declared.handle.Handle.{Handle}
use Rattle.key_model.specs.declared.key.Key.{Key}
use Rattle.tree_model.specs.declared.type_tree.TypeTree.{TypeTree}
use Rattle.tree_model.specs.declared.attr_tree.AttrTree.{AttrTree}
use Rattle.tree_model.specs.declared.op_tree.OpTree.{OpTree, out-OpTree, roll-OpTree, out-roll-OpTree}
use Rattle.tree_model.specs.declared.op_tree.BlockTree.{BlockTree, out-BlockTree, roll-BlockTree, out-roll-BlockTree}
use Rattle.tree_model.specs.declared.op_tree.RegionTree.{RegionTree, out-RegionTree, roll-RegionTree, out-roll-RegionTree}
use Rattle.tree_model.specs.declared.op_tree.BlockTree.TheOpen.{OpTree-F, BlockTree-F, RegionTree-F}
use Rattle.tree_model.specs.declared.op_tree.BlockTree.TheFolds.{fold_out-OpTree, fold_out-BlockTree, fold_out-RegionTree, fold-roll-OpTree, fold-roll-BlockTree, fold-roll-RegionTree}
use Rattle.tree_model.specs.declared.op_tree.FuncTree.{FuncTree}
use Rattle.tree_shape.specs.Same.{Same}
use Rattle.tree_shape.specs.WithoutNumbers.{zeros, types_alone, bare_block, bare_op, bare_region, op_without_numbers, block_without_numbers, region_without_numbers}
use Rattle.tree_shape.specs.NumbersOf.{numbers_of_values, block_values, op_values, region_values, block_labels, op_labels, region_labels, values_of_op, values_of_block, values_of_region, labels_of_op, labels_of_block, labels_of_region}
use Rattle.flat_model.specs.Flat.{Flat, op_at, block_at, blocks_at}
use Rattle.flat_model.specs.Shows.{Itself, ValueShows, EntryShows, FrontShows, BlockFrontShows, OpShows, op_shown, OpsShow, ops_shown, next_op_shown, RegionsShow, regions_shown, next_region_shown, BlocksShow, blocks_shown, next_block_shown, FuncShows}
use Rattle.flat_model.specs.Renamed.{values_renamed, op_step, block_step, region_step, op_renamed, block_renamed, region_renamed, ShowsSame}

-- what a renaming takes to another list, and another one back
pub record There (v w : ℕ → ℕ) (ns ms : List ℕ) : Type 0 where
  pub there : map v ns ≡ ms
  pub back : map w ms ≡ ns

there_nil : (v w : ℕ → ℕ) → There v w [] []
there_nil v w = record { there = refl; back = refl }

there_next : (v w : ℕ → ℕ) (k l : ℕ) (ms ns : List ℕ) → v k ≡ l → w l ≡ k → There v w ms ns → There v w (k ∷ ms) (l ∷ ns)
there_next v w k l ms ns e d t = record {
  there = ap (λ x. x ∷ map v ms) e ∙ ap (λ xs. l ∷ xs) t.there;
  back = ap (λ x. x ∷ map w ns) d ∙ ap (λ xs. k ∷ xs) t.back;
}

there_both : (v w : ℕ → ℕ) (ks ls ms ns : List ℕ) → There v w ks ls → There v w ms ns → There v w (ks ++ ms) (ls ++ ns)
there_both v w ks ls ms ns s t = record {
  there = map-append v ks ms ∙ ap (λ xs. xs ++ map v ms) s.there ∙ ap (λ xs. ls ++ xs) t.there;
  back = map-append w ls ns ∙ ap (λ xs. xs ++ map w ns) s.back ∙ ap (λ xs. ks ++ xs) t.back;
}

there_along : (v w : ℕ → ℕ) (ks ls ms ns : List ℕ) → ms ≡ ks → ns ≡ ls → There v w ks ls → There v w ms ns
there_along v w ks ls ms ns d e t = subst (λ xs. There v w xs ns) (sym d) (subst (λ xs. There v w ks xs) (sym e) t)

zeros_again : (v : ℕ → ℕ) (ns : List ℕ) → zeros (map v ns) ≡ zeros ns
zeros_again v [] = refl
zeros_again v (n ∷ ns) = ap (λ xs. 0 ∷ xs) (zeros_again v ns)

types_again : (v : ℕ → ℕ) (vs : List (ℕ × TypeTree)) → types_alone (values_renamed v vs) ≡ types_alone vs
types_again v [] = refl
types_again v (x ∷ vs) = ap (λ xs. (0, x.1) ∷ xs) (types_again v vs)

same_op : (n : List ℕ) (props attrs : List (List ℕ × AttrTree)) (rs ss : List (ℕ × TypeTree)) (os ps : List ℕ) (qs us : List RegionTree) (ls ms : List ℕ) → rs ≡ ss → os ≡ ps → qs ≡ us → ls ≡ ms
    → roll-OpTree (record { name = n; results = rs; operands = os; props = props; attrs = attrs; regions = qs; successors = ls })
    ≡ roll-OpTree (record { name = n; results = ss; operands = ps; props = props; attrs = attrs; regions = us; successors = ms })
same_op n props attrs rs ss os ps qs us ls ms a b c d =
    ap (λ x. roll-OpTree (record { name = n; results = x; operands = os; props = props; attrs = attrs; regions = qs; successors = ls })) a
    ∙ ap (λ x. roll-OpTree (record { name = n; results = ss; operands = x; props = props; attrs = attrs; regions = qs; successors = ls })) b
    ∙ ap (λ x. roll-OpTree (record { name = n; results = ss; operands = ps; props = props; attrs = attrs; regions = x; successors = ls })) c
    ∙ ap (λ x. roll-OpTree (record { name = n; results = ss; operands = ps; props = props; attrs = attrs; regions = us; successors = x })) d

same_block : (rs ss : List (ℕ × TypeTree)) (os ps : List OpTree) → rs ≡ ss → os ≡ ps → roll-BlockTree (record { label = 0; args = rs; ops = os }) ≡ roll-BlockTree (record { label = 0; args = ss; ops = ps })
same_block rs ss os ps a b = ap (λ x. roll-BlockTree (record { label = 0; args = x; ops = os })) a ∙ ap (λ x. roll-BlockTree (record { label = 0; args = ss; ops = x })) b

-- a name of a number: V says so, v gives it, and w gives the number of a name
pub record IsNaming (V : ℕ → ℕ → Type 0) (v w : ℕ → ℕ) : Type 0 where
  pub name : (p n : ℕ) → V p n → v n ≡ p
  pub number : (p n : ℕ) → V p n → w p ≡ n

module _ (H : Handle → Key → Type 0) (V : ℕ → ℕ → Type 0) (v w : ℕ → ℕ) (f : Flat) (named : IsNaming V v w) where
  one_there : (p n : ℕ) → V p n → w (v n) ≡ n
  one_there p n h = ap w (named.name p n h) ∙ named.number p n h

  all_named : (ps ns : List ℕ) → AllZip V ps ns → AllZip Itself ps (map v ns)
  all_named [] [] z = tt
  all_named [] (n ∷ ns) z = absurd z
  all_named (p ∷ ps) [] z = absurd z
  all_named (p ∷ ps) (n ∷ ns) z = (sym (named.name p n z.0), all_named ps ns z.1)

  all_there : (ps ns : List ℕ) → AllZip V ps ns → There v w ns (map v ns)
  all_there [] [] z = there_nil v w
  all_there [] (n ∷ ns) z = absurd z
  all_there (p ∷ ps) [] z = absurd z
  all_there (p ∷ ps) (n ∷ ns) z = there_next v w n (v n) ns (map v ns) refl (one_there p n z.0) (all_there ps ns z.1)

  values_named : (ps : List ℕ) (vs : List (ℕ × TypeTree)) → AllZip (ValueShows H V f) ps vs → AllZip (ValueShows H Itself f) ps (values_renamed v vs)
  values_named [] [] z = tt
  values_named [] (x ∷ vs) z = absurd z
  values_named (p ∷ ps) [] z = absurd z
  values_named (p ∷ ps) (x ∷ vs) z = (record { inside = z.0.inside; number = sym (named.name p x.0 z.0.number); type = z.0.type }, values_named ps vs z.1)

  values_there : (ps : List ℕ) (vs : List (ℕ × TypeTree)) → AllZip (ValueShows H V f) ps vs → There v w (numbers_of_values vs) (numbers_of_values (values_renamed v vs))
  values_there [] [] z = there_nil v w
  values_there [] (x ∷ vs) z = absurd z
  values_there (p ∷ ps) [] z = absurd z
  values_there (p ∷ ps) (x ∷ vs) z = there_next v w x.0 (v x.0) (numbers_of_values vs) (numbers_of_values (values_renamed v vs)) refl (one_there p x.0 z.0.number) (values_there ps vs z.1)

module _ (H : Handle → Key → Type 0) (V L : ℕ → ℕ → Type 0) (v w l m : ℕ → ℕ) (f : Flat) (nv : IsNaming V v w) (nl : IsNaming L l m) where
  -- what holds of a tree that is shown, and of the tree with its names for numbers
  record OpSame (i : ℕ) (t : OpTree) : Type 0 where
    pub shown : OpShows H Itself Itself f i (op_renamed v l t)
    pub rest : op_without_numbers (op_renamed v l t) ≡ op_without_numbers t
    pub values : There v w (values_of_op t) (values_of_op (op_renamed v l t))
    pub labels : There l m (labels_of_op t) (labels_of_op (op_renamed v l t))

  record OpsSame (is : List ℕ) (ts : List OpTree) : Type 0 where
    pub shown : OpsShow H Itself Itself f is (map (op_renamed v l) ts)
    pub rest : map op_without_numbers (map (op_renamed v l) ts) ≡ map op_without_numbers ts
    pub values : There v w (flat_map (λ ns. ns) (map values_of_op ts)) (flat_map (λ ns. ns) (map values_of_op (map (op_renamed v l) ts)))
    pub labels : There l m (flat_map (λ ns. ns) (map labels_of_op ts)) (flat_map (λ ns. ns) (map labels_of_op (map (op_renamed v l) ts)))

  record RegionsSame (is : List ℕ) (ts : List RegionTree) : Type 0 where
    pub shown : RegionsShow H Itself Itself f is (map (region_renamed v l) ts)
    pub rest : map region_without_numbers (map (region_renamed v l) ts) ≡ map region_without_numbers ts
    pub values : There v w (flat_map (λ ns. ns) (map values_of_region ts)) (flat_map (λ ns. ns) (map values_of_region (map (region_renamed v l) ts)))
    pub labels : There l m (flat_map (λ ns. ns) (map labels_of_region ts)) (flat_map (λ ns. ns) (map labels_of_region (map (region_renamed v l) ts)))

  record BlocksSame (is : List ℕ) (ts : List BlockTree) : Type 0 where
    pub shown : BlocksShow H Itself Itself f is (map (block_renamed v l) ts)
    pub rest : map block_without_numbers (map (block_renamed v l) ts) ≡ map block_without_numbers ts
    pub values : There v w (flat_map (λ ns. ns) (map values_of_block ts)) (flat_map (λ ns. ns) (map values_of_block (map (block_renamed v l) ts)))
    pub labels : There l m (flat_map (λ ns. ns) (map labels_of_block ts)) (flat_map (λ ns. ns) (map labels_of_block (map (block_renamed v l) ts)))

  op_layer : OpTree → OpTree-F BlockTree OpTree RegionTree
  op_layer t = let o = out-OpTree t in record {
    name = o.name;
    results = values_renamed v o.results;
    operands = map v o.operands;
    props = o.props;
    attrs = o.attrs;
    regions = map (region_renamed v l) o.regions;
    successors = map l o.successors;
  }

  block_layer : BlockTree → BlockTree-F BlockTree OpTree RegionTree
  block_layer t = let o = out-BlockTree t in record { label = l o.label; args = values_renamed v o.args; ops = map (op_renamed v l) o.ops }

  region_layer : RegionTree → RegionTree-F BlockTree OpTree RegionTree
  region_layer t = record { blocks = map (block_renamed v l) (out-RegionTree t).blocks }

  op_is : (t : OpTree) → op_renamed v l t ≡ roll-OpTree (op_layer t)
  unfolding op_layer
  op_is t = fold_out-OpTree BlockTree OpTree RegionTree (block_step v l) (op_step v l) region_step t

  block_is : (t : BlockTree) → block_renamed v l t ≡ roll-BlockTree (block_layer t)
  unfolding block_layer
  block_is t = fold_out-BlockTree BlockTree OpTree RegionTree (block_step v l) (op_step v l) region_step t

  region_is : (t : RegionTree) → region_renamed v l t ≡ roll-RegionTree (region_layer t)
  unfolding region_layer
  region_is t = fold_out-RegionTree BlockTree OpTree RegionTree (block_step v l) (op_step v l) region_step t

  op_out : (t : OpTree) → op_layer t ≡ out-OpTree (op_renamed v l t)
  op_out t = sym (ap out-OpTree (op_is t) ∙ out-roll-OpTree (op_layer t))

  block_out : (t : BlockTree) → block_layer t ≡ out-BlockTree (block_renamed v l t)
  block_out t = sym (ap out-BlockTree (block_is t) ∙ out-roll-BlockTree (block_layer t))

  region_out : (t : RegionTree) → region_layer t ≡ out-RegionTree (region_renamed v l t)
  region_out t = sym (ap out-RegionTree (region_is t) ∙ out-roll-RegionTree (region_layer t))

  front_same : (node : OpNode) (t : OpTree) → FrontShows H V L f node t → FrontShows H Itself Itself f node (op_renamed v l t)
  unfolding op_layer
  front_same node t s = let o = out-OpTree t in let e : op_layer t ≡ out-OpTree (op_renamed v l t) = op_out t in record {
    name = s.name ∙ ap (λ x. x.name) e;
    results = subst (λ (x : OpTree-F BlockTree OpTree RegionTree). AllZip (ValueShows H Itself f) node.results x.results) e (values_named H V v w f nv node.results o.results s.results);
    operands = subst (λ (x : OpTree-F BlockTree OpTree RegionTree). AllZip Itself node.operands x.operands) e (all_named H V v w f nv node.operands o.operands s.operands);
    props = subst (λ (x : OpTree-F BlockTree OpTree RegionTree). AllZip (EntryShows H) node.props x.props) e s.props;
    attrs = subst (λ (x : OpTree-F BlockTree OpTree RegionTree). AllZip (EntryShows H) node.attrs x.attrs) e s.attrs;
    successors = subst (λ (x : OpTree-F BlockTree OpTree RegionTree). AllZip Itself node.successors x.successors) e (all_named H L l m f nl node.successors o.successors s.successors);
  }

  op_same : (i : ℕ) (t : OpTree) → i < length f.ops → FrontShows H V L f (op_at f i) t → RegionsSame (op_at f i).regions (out-OpTree t).regions → OpSame i t
  unfolding op_layer
  op_same i t h s r = let o = out-OpTree t in record {
    shown = op_shown h (front_same (op_at f i) t s)
        (subst (λ (x : OpTree-F BlockTree OpTree RegionTree). RegionsShow H Itself Itself f (op_at f i).regions x.regions) (op_out t) r.shown);
    rest = ap op_without_numbers (op_is t) ∙ fold-roll-OpTree BlockTree OpTree RegionTree bare_block bare_op bare_region (op_layer t)
        ∙ same_op o.name o.props o.attrs (types_alone (values_renamed v o.results)) (types_alone o.results) (zeros (map v o.operands)) (zeros o.operands)
        (map region_without_numbers (map (region_renamed v l) o.regions)) (map region_without_numbers o.regions) (zeros (map l o.successors)) (zeros o.successors)
        (types_again v o.results) (zeros_again v o.operands) r.rest (zeros_again l o.successors)
        ∙ sym (fold_out-OpTree BlockTree OpTree RegionTree bare_block bare_op bare_region t);
    values = there_along v w (numbers_of_values o.results ++ o.operands ++ flat_map (λ ns. ns) (map values_of_region o.regions))
        (numbers_of_values (values_renamed v o.results) ++ map v o.operands ++ flat_map (λ ns. ns) (map values_of_region (map (region_renamed v l) o.regions)))
        (values_of_op t) (values_of_op (op_renamed v l t))
        (fold_out-OpTree (List ℕ) (List ℕ) (List ℕ) block_values op_values region_values t)
        (ap values_of_op (op_is t) ∙ fold-roll-OpTree (List ℕ) (List ℕ) (List ℕ) block_values op_values region_values (op_layer t))
        (there_both v w _ _ _ _ (there_both v w _ _ _ _ (values_there H V v w f nv (op_at f i).results o.results s.results) (all_there H V v w f nv (op_at f i).operands o.operands s.operands)) r.values);
    labels = there_along l m (o.successors ++ flat_map (λ ns. ns) (map labels_of_region o.regions))
        (map l o.successors ++ flat_map (λ ns. ns) (map labels_of_region (map (region_renamed v l) o.regions)))
        (labels_of_op t) (labels_of_op (op_renamed v l t))
        (fold_out-OpTree (List ℕ) (List ℕ) (List ℕ) block_labels op_labels region_labels t)
        (ap labels_of_op (op_is t) ∙ fold-roll-OpTree (List ℕ) (List ℕ) (List ℕ) block_labels op_labels region_labels (op_layer t))
        (there_both l m _ _ _ _ (all_there H L l m f nl (op_at f i).successors o.successors s.successors) r.labels);
  }

  next_op_same : (i : ℕ) (is : List ℕ) (t : OpTree) (ts : List OpTree) → OpSame i t → OpsSame is ts → OpsSame (i ∷ is) (t ∷ ts)
  next_op_same i is t ts s more = record {
    shown = next_op_shown s.shown more.shown;
    rest = ap (λ x. x ∷ map op_without_numbers (map (op_renamed v l) ts)) s.rest ∙ ap (λ xs. op_without_numbers t ∷ xs) more.rest;
    values = there_both v w _ _ _ _ s.values more.values;
    labels = there_both l m _ _ _ _ s.labels more.labels;
  }

  next_region_same : (i : ℕ) (is : List ℕ) (t : RegionTree) (ts : List RegionTree) → i < length f.regions → BlocksSame (blocks_at f i) (out-RegionTree t).blocks → RegionsSame is ts → RegionsSame (i ∷ is) (t ∷ ts)
  unfolding region_layer
  next_region_same i is t ts h s more = let bs = (out-RegionTree t).blocks in record {
    shown = next_region_shown h (subst (λ (x : RegionTree-F BlockTree OpTree RegionTree). BlocksShow H Itself Itself f (blocks_at f i) x.blocks) (region_out t) s.shown) more.shown;
    rest = ap (λ x. x ∷ map region_without_numbers (map (region_renamed v l) ts))
        (ap region_without_numbers (region_is t) ∙ fold-roll-RegionTree BlockTree OpTree RegionTree bare_block bare_op bare_region (region_layer t)
        ∙ ap (λ x. roll-RegionTree (record { blocks = x })) s.rest ∙ sym (fold_out-RegionTree BlockTree OpTree RegionTree bare_block bare_op bare_region t))
        ∙ ap (λ xs. region_without_numbers t ∷ xs) more.rest;
    values = there_both v w _ _ _ _ (there_along v w _ _ (values_of_region t) (values_of_region (region_renamed v l t))
        (fold_out-RegionTree (List ℕ) (List ℕ) (List ℕ) block_values op_values region_values t)
        (ap values_of_region (region_is t) ∙ fold-roll-RegionTree (List ℕ) (List ℕ) (List ℕ) block_values op_values region_values (region_layer t)) s.values) more.values;
    labels = there_both l m _ _ _ _ (there_along l m _ _ (labels_of_region t) (labels_of_region (region_renamed v l t))
        (fold_out-RegionTree (List ℕ) (List ℕ) (List ℕ) block_labels op_labels region_labels t)
        (ap labels_of_region (region_is t) ∙ fold-roll-RegionTree (List ℕ) (List ℕ) (List ℕ) block_labels op_labels region_labels (region_layer t)) s.labels) more.labels;
  }

  next_block_same : (i : ℕ) (is : List ℕ) (t : BlockTree) (ts : List BlockTree) → BlockFrontShows H V L f i t → OpsSame (block_at f i).ops (out-BlockTree t).ops → BlocksSame is ts → BlocksSame (i ∷ is) (t ∷ ts)
  unfolding block_layer
  next_block_same i is t ts h s more = let o = out-BlockTree t in record {
    shown = next_block_shown (record {
      inside = h.inside;
      label = sym (nl.name i o.label h.label) ∙ ap (λ x. x.label) (block_out t);
      args = subst (λ (x : BlockTree-F BlockTree OpTree RegionTree). AllZip (ValueShows H Itself f) (block_at f i).args x.args) (block_out t) (values_named H V v w f nv (block_at f i).args o.args h.args);
    })
        (subst (λ (x : BlockTree-F BlockTree OpTree RegionTree). OpsShow H Itself Itself f (block_at f i).ops x.ops) (block_out t) s.shown) more.shown;
    rest = ap (λ x. x ∷ map block_without_numbers (map (block_renamed v l) ts))
        (ap block_without_numbers (block_is t) ∙ fold-roll-BlockTree BlockTree OpTree RegionTree bare_block bare_op bare_region (block_layer t)
        ∙ same_block (types_alone (values_renamed v o.args)) (types_alone o.args) (map op_without_numbers (map (op_renamed v l) o.ops)) (map op_without_numbers o.ops) (types_again v o.args) s.rest
        ∙ sym (fold_out-BlockTree BlockTree OpTree RegionTree bare_block bare_op bare_region t))
        ∙ ap (λ xs. block_without_numbers t ∷ xs) more.rest;
    values = there_both v w _ _ _ _ (there_along v w _ _ (values_of_block t) (values_of_block (block_renamed v l t))
        (fold_out-BlockTree (List ℕ) (List ℕ) (List ℕ) block_values op_values region_values t)
        (ap values_of_block (block_is t) ∙ fold-roll-BlockTree (List ℕ) (List ℕ) (List ℕ) block_values op_values region_values (block_layer t))
        (there_both v w _ _ _ _ (values_there H V v w f nv (block_at f i).args o.args h.args) s.values)) more.values;
    labels = there_both l m _ _ _ _ (there_along l m _ _ (labels_of_block t) (labels_of_block (block_renamed v l t))
        (fold_out-BlockTree (List ℕ) (List ℕ) (List ℕ) block_labels op_labels region_labels t)
        (ap labels_of_block (block_is t) ∙ fold-roll-BlockTree (List ℕ) (List ℕ) (List ℕ) block_labels op_labels region_labels (block_layer t))
        (there_next l m o.label (l o.label) _ _ refl (one_there H L l m f nl i o.label h.label) s.labels)) more.labels;
  }

  mutual
    shown_same : {i : ℕ} {t : OpTree} → OpShows H V L f i t → OpSame i t
    shown_same (op_shown {op} {tree} h s r) = op_same op tree h s (regions_same r)

    ops_same : {is : List ℕ} {ts : List OpTree} → OpsShow H V L f is ts → OpsSame is ts
    ops_same ops_shown = record { shown = ops_shown; rest = refl; values = there_nil v w; labels = there_nil l m }
    ops_same (next_op_shown {op} {ops} {tree} {trees} s more) = next_op_same op ops tree trees (shown_same s) (ops_same more)

    regions_same : {is : List ℕ} {ts : List RegionTree} → RegionsShow H V L f is ts → RegionsSame is ts
    regions_same regions_shown = record { shown = regions_shown; rest = refl; values = there_nil v w; labels = there_nil l m }
    regions_same (next_region_shown {region} {regions} {tree} {trees} h s more) = next_region_same region regions tree trees h (blocks_same s) (regions_same more)

    blocks_same : {is : List ℕ} {ts : List BlockTree} → BlocksShow H V L f is ts → BlocksSame is ts
    blocks_same blocks_shown = record { shown = blocks_shown; rest = refl; values = there_nil v w; labels = there_nil l m }
    blocks_same (next_block_shown {block} {blocks} {tree} {trees} h s more) = next_block_same block blocks tree trees h (ops_same s) (blocks_same more)

  pub shows_same : (tree : FuncTree) → OpShows H V L f f.root tree.op → ShowsSame H f tree
  shows_same tree s = let r : OpSame f.root tree.op = shown_same s in (
    record { op = op_renamed v l tree.op },
    (
      record {
        rest = sym r.rest;
        values = ((v, r.values.there), (w, r.values.back));
        labels = ((l, r.labels.there), (m, r.labels.back));
      },
      r.shown,
    ),
  )
