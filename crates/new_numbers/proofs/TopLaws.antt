-- Each number of a tree is below the tops behind it.
use Rattle.std.proofs.Common.{ℕ, ◌<◌, ◌≤◌, List, [], ◌∷◌, arith}
use Rattle.plain_tree.specs.Ops.{Op, op, Ops, end_of_ops, more_ops, Regions, end_of_regions, region, Blocks, end_of_blocks, block, Values}
use Rattle.conversion_model.specs.Fresh.{EachOf, EachValue, EachOp, EachOps, EachRegion, EachBlock}
use Rattle.new_numbers.specs.declared.tops.Tops.{Tops}
use Rattle.new_numbers.specs.Tops.{over_blocks, over_labels, over_numbers, over_op, over_ops, over_regions, over_values, with_label, with_value}

pub record AtMost (s t : Tops) : Type 0 where
  pub values : s.values ≤ t.values
  pub labels : s.labels ≤ t.labels

itself : (t : Tops) → AtMost t t
itself t = record { values = omega arith; labels = omega arith }

further : (s t u : Tops) → AtMost s t → AtMost t u → AtMost s u
further s t u a b = record { values = omega (arith, a.values, b.values); labels = omega (arith, a.labels, b.labels) }

value_seen : (t : Tops) (n : ℕ) → AtMost t (with_value t n)
value_seen t n = record { values = omega arith; labels = omega arith }

label_seen : (t : Tops) (l : ℕ) → AtMost t (with_label t l)
label_seen t l = record { values = omega arith; labels = omega arith }

grow_values : (vs : Values) (t : Tops) → AtMost t (over_values vs t)
grow_values [] t = itself t
grow_values (v ∷ vs) t = further t (with_value t v.0) (over_values vs (with_value t v.0)) (value_seen t v.0) (grow_values vs (with_value t v.0))

grow_numbers : (ns : List ℕ) (t : Tops) → AtMost t (over_numbers ns t)
grow_numbers [] t = itself t
grow_numbers (n ∷ ns) t = further t (with_value t n) (over_numbers ns (with_value t n)) (value_seen t n) (grow_numbers ns (with_value t n))

grow_labels : (ls : List ℕ) (t : Tops) → AtMost t (over_labels ls t)
grow_labels [] t = itself t
grow_labels (l ∷ ls) t = further t (with_label t l) (over_labels ls (with_label t l)) (label_seen t l) (grow_labels ls (with_label t l))

mutual
  grow_op : (o : Op) (t : Tops) → AtMost t (over_op o t)
  grow_op (op k results operands regions successors) t =
      let a : Tops = over_values results t in
      let b : Tops = over_numbers operands a in
      let c : Tops = over_regions regions b in
      further t a (over_labels successors c) (grow_values results t)
      (further a b (over_labels successors c) (grow_numbers operands a) (further b c (over_labels successors c) (grow_regions regions b) (grow_labels successors c)))

  grow_ops : (os : Ops) (t : Tops) → AtMost t (over_ops os t)
  grow_ops end_of_ops t = itself t
  grow_ops (more_ops o os) t = further t (over_op o t) (over_ops os (over_op o t)) (grow_op o t) (grow_ops os (over_op o t))

  grow_regions : (rs : Regions) (t : Tops) → AtMost t (over_regions rs t)
  grow_regions end_of_regions t = itself t
  grow_regions (region blocks more) t = further t (over_blocks blocks t) (over_regions more (over_blocks blocks t)) (grow_blocks blocks t) (grow_regions more (over_blocks blocks t))

  grow_blocks : (bs : Blocks) (t : Tops) → AtMost t (over_blocks bs t)
  grow_blocks end_of_blocks t = itself t
  grow_blocks (block label args ops more) t =
      let a : Tops = with_label t label in
      let b : Tops = over_values args a in
      let c : Tops = over_ops ops b in
      further t a (over_blocks more c) (label_seen t label) (further a b (over_blocks more c) (grow_values args a) (further b c (over_blocks more c) (grow_ops ops b) (grow_blocks more c)))

abbrev Value : Tops → ℕ → Type 0
Value u n = n < u.values

abbrev Label : Tops → ℕ → Type 0
Label u l = l < u.labels

below_value : (t u : Tops) (n : ℕ) → AtMost (with_value t n) u → n < u.values
below_value t u n h = omega (arith, h.values)

below_label : (t u : Tops) (l : ℕ) → AtMost (with_label t l) u → l < u.labels
below_label t u l h = omega (arith, h.labels)

each_value : (vs : Values) (t u : Tops) → AtMost (over_values vs t) u → EachValue (Value u) vs
each_value [] t u h = tt
each_value (v ∷ vs) t u h = (below_value t u v.0 (further _ _ u (grow_values vs (with_value t v.0)) h), each_value vs (with_value t v.0) u h)

each_number : (ns : List ℕ) (t u : Tops) → AtMost (over_numbers ns t) u → EachOf (Value u) ns
each_number [] t u h = tt
each_number (n ∷ ns) t u h = (below_value t u n (further _ _ u (grow_numbers ns (with_value t n)) h), each_number ns (with_value t n) u h)

each_label : (ls : List ℕ) (t u : Tops) → AtMost (over_labels ls t) u → EachOf (Label u) ls
each_label [] t u h = tt
each_label (l ∷ ls) t u h = (below_label t u l (further _ _ u (grow_labels ls (with_label t l)) h), each_label ls (with_label t l) u h)

mutual
  pub each_op : (o : Op) (t u : Tops) → AtMost (over_op o t) u → EachOp (Value u) (Label u) o
  each_op (op k results operands regions successors) t u h =
      let a : Tops = over_values results t in
      let b : Tops = over_numbers operands a in
      let c : Tops = over_regions regions b in
      let third : AtMost c u = further c (over_labels successors c) u (grow_labels successors c) h in
      let second : AtMost b u = further b c u (grow_regions regions b) third in
      (each_value results t u (further a b u (grow_numbers operands a) second), each_number operands a u second, each_region regions b u third, each_label successors c u h)

  each_ops : (os : Ops) (t u : Tops) → AtMost (over_ops os t) u → EachOps (Value u) (Label u) os
  each_ops end_of_ops t u h = tt
  each_ops (more_ops o os) t u h = (each_op o t u (further (over_op o t) (over_ops os (over_op o t)) u (grow_ops os (over_op o t)) h), each_ops os (over_op o t) u h)

  each_region : (rs : Regions) (t u : Tops) → AtMost (over_regions rs t) u → EachRegion (Value u) (Label u) rs
  each_region end_of_regions t u h = tt
  each_region (region blocks more) t u h =
      (each_block blocks t u (further (over_blocks blocks t) (over_regions more (over_blocks blocks t)) u (grow_regions more (over_blocks blocks t)) h), each_region more (over_blocks blocks t) u h)

  each_block : (bs : Blocks) (t u : Tops) → AtMost (over_blocks bs t) u → EachBlock (Value u) (Label u) bs
  each_block end_of_blocks t u h = tt
  each_block (block label args ops more) t u h =
      let a : Tops = with_label t label in
      let b : Tops = over_values args a in
      let c : Tops = over_ops ops b in
      let third : AtMost c u = further c (over_blocks more c) u (grow_blocks more c) h in
      let second : AtMost b u = further b c u (grow_ops ops b) third in
      (below_label t u label (further a b u (grow_values args a) second), each_value args a u second, each_ops ops b u third, each_block more c u h)

pub each_below : (o : Op) (t : Tops) → EachOp (Value (over_op o t)) (Label (over_op o t)) o
each_below o t = each_op o t (over_op o t) (itself (over_op o t))
