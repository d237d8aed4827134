-- The operations of a function in order, and new values that are apart from them.
use Rattle.std.proofs.Common.{◌≡◌, ℕ, suc, ◌+◌, Bool, true, false, ◌&&◌, List, [], ◌∷◌, ◌++◌, append_assoc, drop, length, map, refl, sym, ap, subst, ◌∙◌, arith}
use Rattle.std.specs.Prelude.{◌==◌, ⊤, if◌then◌else◌}
use Rattle.std.proofs.lemmas.List.{append-nil}
use Rattle.std.proofs.lemmas.Bool.Decides.{Decides-eqb}
use Rattle.plain_tree.specs.Types.{PlainType, Void}
use Rattle.plain_tree.specs.Ops.{Op, op, Ops, end_of_ops, more_ops, Regions, end_of_regions, region, Blocks, end_of_blocks, block, Values}
use Rattle.conversion_model.specs.Conversion.{Supply, regions_of}
use Rattle.conversion_model.specs.Fresh.{EachBlock, EachOf, EachOp, EachOps, EachRegion, EachValue, Fresh, IsOld, IsOldLabel, Place, new_value, of_row}
use Rattle.conversion_model.specs.Items.{op_size, ops_size, regions_size, blocks_size}
use Rattle.conversion_model.specs.Uses.{op_listed, ops_listed, regions_listed, blocks_listed, op_values, ops_values, regions_values, blocks_values, operations, type_in, types_of}
use Rattle.tree_walk.specs.Walks.{op_list, ops_list, region_list, regions_list}
use Rattle.unit_choices.specs.Separate.{Separate, Without}
use Rattle.unit_choices.specs.Slotting.{EachSeparate, numbered}

-- Numbers

numbered_join : (n : ℕ) (xs ys : List Op) → numbered n xs ++ numbered (n + length xs) ys ≡ numbered n (xs ++ ys)
numbered_join n [] ys = let e : n + 0 ≡ n = omega arith in ap (λ m. numbered m ys) e
numbered_join n (x ∷ xs) ys =
    let e : n + suc (length xs) ≡ n + 1 + length xs = omega arith in
    ap (λ m. (n, x) ∷ (numbered (n + 1) xs ++ numbered m ys)) e ∙ ap (λ zs. (n, x) ∷ zs) (numbered_join (n + 1) xs ys)

joined : (n m : ℕ) (xs ys : List Op) (more : List (ℕ × Op)) → m ≡ length xs → numbered n xs ++ (numbered (n + m) ys ++ more) ≡ numbered n (xs ++ ys) ++ more
joined n m xs ys more e =
    ap (λ k. numbered n xs ++ (numbered (n + k) ys ++ more)) e
    ∙ sym (append_assoc (numbered n xs) (numbered (n + length xs) ys) more)
    ∙ ap (λ zs. zs ++ more) (numbered_join n xs ys)

length_join : (xs ys : List Op) → length xs + length ys ≡ length (xs ++ ys)
length_join [] ys = omega arith
length_join (x ∷ xs) ys = let e : suc (length xs) + length ys ≡ suc (length xs + length ys) = omega arith in e ∙ ap suc (length_join xs ys)

mutual
  op_count : (o : Op) → op_size o ≡ length (op_list o)
  op_count (op k results operands regions successors) =
      let e : length (regions_list regions) + 1 ≡ suc (length (regions_list regions)) = omega arith in ap (λ n. n + 1) (regions_count regions) ∙ e

  ops_count : (os : Ops) → ops_size os ≡ length (ops_list os)
  ops_count end_of_ops = refl
  ops_count (more_ops o os) = ap (λ n. n + ops_size os) (op_count o) ∙ ap (λ n. length (op_list o) + n) (ops_count os) ∙ length_join (op_list o) (ops_list os)

  regions_count : (rs : Regions) → regions_size rs ≡ length (regions_list rs)
  regions_count end_of_regions = refl
  regions_count (region blocks more) = ap (λ n. n + regions_size more) (blocks_count blocks) ∙ ap (λ n. length (region_list blocks) + n) (regions_count more) ∙ length_join (region_list blocks) (regions_list more)

  blocks_count : (bs : Blocks) → blocks_size bs ≡ length (region_list bs)
  blocks_count end_of_blocks = refl
  blocks_count (block label args ops more) = ap (λ n. n + blocks_size more) (ops_count ops) ∙ ap (λ n. length (ops_list ops) + n) (blocks_count more) ∙ length_join (ops_list ops) (region_list more)

mutual
  op_numbered : (n : ℕ) (o : Op) (more : List (ℕ × Op)) → op_listed n o more ≡ numbered n (op_list o) ++ more
  op_numbered n (op k results operands regions successors) more = ap (λ xs. (n, op k results operands regions successors) ∷ xs) (regions_numbered (n + 1) regions more)

  ops_numbered : (n : ℕ) (os : Ops) (more : List (ℕ × Op)) → ops_listed n os more ≡ numbered n (ops_list os) ++ more
  ops_numbered n end_of_ops more = refl
  ops_numbered n (more_ops o os) more =
      op_numbered n o (ops_listed (n + op_size o) os more)
      ∙ ap (λ xs. numbered n (op_list o) ++ xs) (ops_numbered (n + op_size o) os more)
      ∙ joined n (op_size o) (op_list o) (ops_list os) more (op_count o)

  regions_numbered : (n : ℕ) (rs : Regions) (more : List (ℕ × Op)) → regions_listed n rs more ≡ numbered n (regions_list rs) ++ more
  regions_numbered n end_of_regions more = refl
  regions_numbered n (region blocks rest) more =
      blocks_numbered n blocks (regions_listed (n + blocks_size blocks) rest more)
      ∙ ap (λ xs. numbered n (region_list blocks) ++ xs) (regions_numbered (n + blocks_size blocks) rest more)
      ∙ joined n (blocks_size blocks) (region_list blocks) (regions_list rest) more (blocks_count blocks)

  blocks_numbered : (n : ℕ) (bs : Blocks) (more : List (ℕ × Op)) → blocks_listed n bs more ≡ numbered n (region_list bs) ++ more
  blocks_numbered n end_of_blocks more = refl
  blocks_numbered n (block label args ops rest) more =
      ops_numbered n ops (blocks_listed (n + ops_size ops) rest more)
      ∙ ap (λ xs. numbered n (ops_list ops) ++ xs) (blocks_numbered (n + ops_size ops) rest more)
      ∙ joined n (ops_size ops) (ops_list ops) (region_list rest) more (ops_count ops)

-- the operations in a function
abbrev pub inner : Op → List Op
inner f = regions_list (regions_of f)

pub list_first : (f : Op) → op_list f ≡ f ∷ inner f
list_first (op k results operands regions successors) = refl

pub operations_first : (f : Op) → operations f ≡ (0, f) ∷ regions_listed 1 (regions_of f) []
operations_first (op k results operands regions successors) = refl

pub inner_numbered : (f : Op) → regions_listed 1 (regions_of f) [] ≡ numbered 1 (inner f)
inner_numbered f = regions_numbered 1 (regions_of f) [] ∙ append-nil (numbered 1 (inner f))

-- Each operation in a tree

abbrev EachIn : (Op → Type 0) → List Op → Type 0
EachIn R [] = ⊤
EachIn R (o ∷ os) = R o × EachIn R os

each_join : (R : Op → Type 0) (xs ys : List Op) → EachIn R xs → EachIn R ys → EachIn R (xs ++ ys)
each_join R [] ys h k = k
each_join R (x ∷ xs) ys h k = (h.0, each_join R xs ys h.1 k)

mutual
  each_op : (P Q : ℕ → Type 0) (o : Op) → EachOp P Q o → EachIn (EachOp P Q) (op_list o)
  each_op P Q (op k results operands regions successors) h = (h, each_regions P Q regions h.2)

  each_ops : (P Q : ℕ → Type 0) (os : Ops) → EachOps P Q os → EachIn (EachOp P Q) (ops_list os)
  each_ops P Q end_of_ops h = tt
  each_ops P Q (more_ops o os) h = each_join (EachOp P Q) (op_list o) (ops_list os) (each_op P Q o h.0) (each_ops P Q os h.1)

  each_regions : (P Q : ℕ → Type 0) (rs : Regions) → EachRegion P Q rs → EachIn (EachOp P Q) (regions_list rs)
  each_regions P Q end_of_regions h = tt
  each_regions P Q (region blocks more) h = each_join (EachOp P Q) (region_list blocks) (regions_list more) (each_blocks P Q blocks h.0) (each_regions P Q more h.1)

  each_blocks : (P Q : ℕ → Type 0) (bs : Blocks) → EachBlock P Q bs → EachIn (EachOp P Q) (region_list bs)
  each_blocks P Q end_of_blocks h = tt
  each_blocks P Q (block label args ops more) h = each_join (EachOp P Q) (ops_list ops) (region_list more) (each_ops P Q ops h.2) (each_blocks P Q more h.3)

-- Weaker facts of numbers

of_all : (P R : ℕ → Type 0) → ((n : ℕ) → P n → R n) → (ns : List ℕ) → EachOf P ns → EachOf R ns
of_all P R f [] h = tt
of_all P R f (n ∷ ns) h = (f n h.0, of_all P R f ns h.1)

no_labels : (Q : ℕ → Type 0) (ns : List ℕ) → EachOf Q ns → EachOf (λ l. ⊤) ns
no_labels Q [] h = tt
no_labels Q (n ∷ ns) h = (tt, no_labels Q ns h.1)

values_all : (P R : ℕ → Type 0) → ((n : ℕ) → P n → R n) → (vs : Values) → EachValue P vs → EachValue R vs
values_all P R f [] h = tt
values_all P R f (v ∷ vs) h = (f v.0 h.0, values_all P R f vs h.1)

mutual
  op_all : (P Q R : ℕ → Type 0) → ((n : ℕ) → P n → R n) → (o : Op) → EachOp P Q o → EachOp R (λ l. ⊤) o
  op_all P Q R f (op k results operands regions successors) h = (values_all P R f results h.0, of_all P R f operands h.1, regions_all P Q R f regions h.2, no_labels Q successors h.3)

  ops_all : (P Q R : ℕ → Type 0) → ((n : ℕ) → P n → R n) → (os : Ops) → EachOps P Q os → EachOps R (λ l. ⊤) os
  ops_all P Q R f end_of_ops h = tt
  ops_all P Q R f (more_ops o os) h = (op_all P Q R f o h.0, ops_all P Q R f os h.1)

  regions_all : (P Q R : ℕ → Type 0) → ((n : ℕ) → P n → R n) → (rs : Regions) → EachRegion P Q rs → EachRegion R (λ l. ⊤) rs
  regions_all P Q R f end_of_regions h = tt
  regions_all P Q R f (region blocks more) h = (blocks_all P Q R f blocks h.0, regions_all P Q R f more h.1)

  blocks_all : (P Q R : ℕ → Type 0) → ((n : ℕ) → P n → R n) → (bs : Blocks) → EachBlock P Q bs → EachBlock R (λ l. ⊤) bs
  blocks_all P Q R f end_of_blocks h = tt
  blocks_all P Q R f (block label args ops more) h = (tt, values_all P R f args h.1, ops_all P Q R f ops h.2, blocks_all P Q R f more h.3)

-- Types

values_join : (P : ℕ → Type 0) (vs ws : Values) → EachValue P vs → EachValue P ws → EachValue P (vs ++ ws)
values_join P [] ws h k = k
values_join P (v ∷ vs) ws h k = (h.0, values_join P vs ws h.1 k)

mutual
  op_defines : (P Q : ℕ → Type 0) (o : Op) (more : Values) → EachOp P Q o → EachValue P more → EachValue P (op_values o more)
  op_defines P Q (op k results operands regions successors) more h m = values_join P results (regions_values regions more) h.0 (regions_define P Q regions more h.2 m)

  ops_define : (P Q : ℕ → Type 0) (os : Ops) (more : Values) → EachOps P Q os → EachValue P more → EachValue P (ops_values os more)
  ops_define P Q end_of_ops more h m = m
  ops_define P Q (more_ops o os) more h m = op_defines P Q o (ops_values os more) h.0 (ops_define P Q os more h.1 m)

  regions_define : (P Q : ℕ → Type 0) (rs : Regions) (more : Values) → EachRegion P Q rs → EachValue P more → EachValue P (regions_values rs more)
  regions_define P Q end_of_regions more h m = m
  regions_define P Q (region blocks rest) more h m = blocks_define P Q blocks (regions_values rest more) h.0 (regions_define P Q rest more h.1 m)

  blocks_define : (P Q : ℕ → Type 0) (bs : Blocks) (more : Values) → EachBlock P Q bs → EachValue P more → EachValue P (blocks_values bs more)
  blocks_define P Q end_of_blocks more h m = m
  blocks_define P Q (block label args ops rest) more h m =
      values_join P args (ops_values ops (blocks_values rest more)) h.1 (ops_define P Q ops (blocks_values rest more) h.2 (blocks_define P Q rest more h.3 m))

no_type : (new : Supply) (p : Place) (vs : Values) → EachValue (IsOld new) vs → type_in vs (new_value new p) ≡ Void
no_type new p [] h = refl
no_type new p (v ∷ vs) h = ap (λ b. if b then v.1 else type_in vs (new_value new p)) (h.0 p) ∙ no_type new p vs h.1

-- New values apart

one_each : (n j k : ℕ) → ((n == n) && (j == k)) ≡ (j == k)
one_each n j k = ap (λ b. b && (j == k)) ((Decides-eqb n n).1 refl)

separate : (new : Supply) (f : Op) (n : ℕ) (o : Op) → Fresh new f → EachOp (IsOld new) (IsOldLabel new) o → Separate (new.row n) (types_of f) o
separate new f n o fresh h = record {
  one = λ j k. fresh.values (of_row n j) (of_row n k) ∙ one_each n j k;
  untyped = λ k. no_type new (of_row n k) (op_values f []) (op_defines (IsOld new) (IsOldLabel new) f [] fresh.apart tt);
  apart = λ k. op_all (IsOld new) (IsOldLabel new) (λ m. (m == (new.row n).value k) ≡ false) (λ m old. old (of_row n k)) o h;
}

-- the function itself
pub separate_first : (new : Supply) (f : Op) (n : ℕ) → Fresh new f → Separate (new.row n) (types_of f) f
separate_first new f n fresh = separate new f n f fresh fresh.apart

all_separate : (new : Supply) (f : Op) → Fresh new f → (os : List Op) → EachIn (EachOp (IsOld new) (IsOldLabel new)) os → EachSeparate new (types_of f) os
all_separate new f fresh [] h = tt
all_separate new f fresh (o ∷ os) h = ((λ n. separate new f n o fresh h.0), all_separate new f fresh os h.1)

in_regions : (new : Supply) (f : Op) → EachOp (IsOld new) (IsOldLabel new) f → EachRegion (IsOld new) (IsOldLabel new) (regions_of f)
in_regions new (op k results operands regions successors) h = h.2

-- each operation in it
pub separate_inner : (new : Supply) (f : Op) → Fresh new f → EachSeparate new (types_of f) (inner f)
separate_inner new f fresh = all_separate new f fresh (inner f) (each_regions (IsOld new) (IsOldLabel new) (regions_of f) (in_regions new f fresh.apart))
