-- What is known of the operations of a function, and the copies in it, one after another.
use Rattle.std.proofs.Common.{◌≡◌, ℕ, ◌+◌, Bool, true, false, List, [], ◌∷◌, ◌++◌, get_or, length, refl, sym, ap, ◌∙◌}
use Rattle.std.specs.Prelude.{if◌then◌else◌}
use Rattle.std.proofs.lemmas.List.{append_assoc, length-append}
use Rattle.std.proofs.Math.Seq.{get_or-append_seam}
use Rattle.plain_tree.specs.Ops.{Op, op, Ops, end_of_ops, more_ops, Regions, end_of_regions, region, Blocks, end_of_blocks, block}
use Rattle.conversion_model.specs.Conversion.{regions_of}
use Rattle.conversion_model.specs.Items.{op_size, ops_size, regions_size, blocks_size}
use Rattle.conversion_model.specs.Uses.{blocks_listed, copies_in, is_copy, op_listed, operations, ops_listed, pair_in, regions_listed}
use Rattle.unit_slots.specs.Slots.{EachListed}
use Rattle.unit_writer.specs.Copies.{blocks_pairs, op_pairs, ops_pairs, own_pair, regions_pairs}
use Rattle.unit_writer.specs.Says.{EachBlockIn, EachOpIn, EachOpsIn, EachRegionIn}
use Rattle.unit_writer.specs.Sizes.{blocks_sizes, op_sizes, ops_sizes, regions_sizes}
use Rattle.unit_writer.proofs.Behind.{and_nothing}
use Rattle.unit_writer.proofs.SizeLayers.{blocks_counted, op_counted, ops_counted}

-- From a list to the tree

module _ (P : ℕ → Op → Type 0) where
  mutual
    op_known : (n : ℕ) (o : Op) (more : List (ℕ × Op)) → EachListed P (op_listed n o more) → EachOpIn P n o × EachListed P more
    op_known n (op k results operands regions successors) more h = let r = regions_known (n + 1) regions more h.1 in ((h.0, r.0), r.1)

    ops_known : (n : ℕ) (os : Ops) (more : List (ℕ × Op)) → EachListed P (ops_listed n os more) → EachOpsIn P n os × EachListed P more
    ops_known n end_of_ops more h = (tt, h)
    ops_known n (more_ops o os) more h =
        let a = op_known n o (ops_listed (n + op_size o) os more) h in
        let b = ops_known (n + op_size o) os more a.1 in
        ((a.0, b.0), b.1)

    pub regions_known : (n : ℕ) (rs : Regions) (more : List (ℕ × Op)) → EachListed P (regions_listed n rs more) → EachRegionIn P n rs × EachListed P more
    regions_known n end_of_regions more h = (tt, h)
    regions_known n (region blocks rest) more h =
        let a = blocks_known n blocks (regions_listed (n + blocks_size blocks) rest more) h in
        let b = regions_known (n + blocks_size blocks) rest more a.1 in
        ((a.0, b.0), b.1)

    blocks_known : (n : ℕ) (bs : Blocks) (more : List (ℕ × Op)) → EachListed P (blocks_listed n bs more) → EachBlockIn P n bs × EachListed P more
    blocks_known n end_of_blocks more h = (tt, h)
    blocks_known n (block label args ops rest) more h =
        let a = ops_known n ops (blocks_listed (n + ops_size ops) rest more) h in
        let b = blocks_known (n + ops_size ops) rest more a.1 in
        ((a.0, b.0), b.1)

-- Two things that are known

module _ (P Q R : ℕ → Op → Type 0) (both : (n : ℕ) (o : Op) → P n o → Q n o → R n o) where
  mutual
    op_both : (n : ℕ) (o : Op) → EachOpIn P n o → EachOpIn Q n o → EachOpIn R n o
    op_both n (op k results operands regions successors) p q = (both n (op k results operands regions successors) p.0 q.0, regions_both (n + 1) regions p.1 q.1)

    ops_both : (n : ℕ) (os : Ops) → EachOpsIn P n os → EachOpsIn Q n os → EachOpsIn R n os
    ops_both n end_of_ops p q = tt
    ops_both n (more_ops o os) p q = (op_both n o p.0 q.0, ops_both (n + op_size o) os p.1 q.1)

    pub regions_both : (n : ℕ) (rs : Regions) → EachRegionIn P n rs → EachRegionIn Q n rs → EachRegionIn R n rs
    regions_both n end_of_regions p q = tt
    regions_both n (region blocks more) p q = (blocks_both n blocks p.0 q.0, regions_both (n + blocks_size blocks) more p.1 q.1)

    blocks_both : (n : ℕ) (bs : Blocks) → EachBlockIn P n bs → EachBlockIn Q n bs → EachBlockIn R n bs
    blocks_both n end_of_blocks p q = tt
    blocks_both n (block label args ops more) p q = (ops_both n ops p.0 q.0, blocks_both (n + ops_size ops) more p.1 q.1)

-- Sizes at their numbers

abbrev pub Sized : List ℕ → ℕ → Op → Type 0
Sized all n o = get_or all n 0 ≡ op_size o

module _ (all : List ℕ) where
  mutual
    op_sized : (pre suf : List ℕ) (n : ℕ) (o : Op) → all ≡ pre ++ (op_sizes o ++ suf) → n ≡ length pre → EachOpIn (Sized all) n o
    op_sized pre suf n (op k results operands regions successors) e at =
        let size : ℕ = regions_size regions + 1 in (
          ap (λ xs. get_or xs n 0) e ∙ ap (λ j. get_or (pre ++ (size ∷ (regions_sizes regions ++ suf))) j 0) at ∙ get_or-append_seam pre size (regions_sizes regions ++ suf) 0,
          regions_sized (pre ++ size ∷ []) suf (n + 1) regions (e ∙ sym (append_assoc pre (size ∷ []) (regions_sizes regions ++ suf))) (ap (λ j. j + 1) at ∙ sym (length-append pre (size ∷ []))),
        )

    ops_sized : (pre suf : List ℕ) (n : ℕ) (os : Ops) → all ≡ pre ++ (ops_sizes os ++ suf) → n ≡ length pre → EachOpsIn (Sized all) n os
    ops_sized pre suf n end_of_ops e at = tt
    ops_sized pre suf n (more_ops o os) e at =
        let split : all ≡ pre ++ (op_sizes o ++ (ops_sizes os ++ suf)) = e ∙ ap (λ xs. pre ++ xs) (append_assoc (op_sizes o) (ops_sizes os) suf) in (
          op_sized pre (ops_sizes os ++ suf) n o split at,
          ops_sized (pre ++ op_sizes o) suf (n + op_size o) os (split ∙ sym (append_assoc pre (op_sizes o) (ops_sizes os ++ suf)))
              (ap (λ j. j + op_size o) at ∙ ap (λ j. length pre + j) (sym (op_counted o)) ∙ sym (length-append pre (op_sizes o))),
        )

    regions_sized : (pre suf : List ℕ) (n : ℕ) (rs : Regions) → all ≡ pre ++ (regions_sizes rs ++ suf) → n ≡ length pre → EachRegionIn (Sized all) n rs
    regions_sized pre suf n end_of_regions e at = tt
    regions_sized pre suf n (region blocks more) e at =
        let split : all ≡ pre ++ (blocks_sizes blocks ++ (regions_sizes more ++ suf)) = e ∙ ap (λ xs. pre ++ xs) (append_assoc (blocks_sizes blocks) (regions_sizes more) suf) in (
          blocks_sized pre (regions_sizes more ++ suf) n blocks split at,
          regions_sized (pre ++ blocks_sizes blocks) suf (n + blocks_size blocks) more (split ∙ sym (append_assoc pre (blocks_sizes blocks) (regions_sizes more ++ suf)))
              (ap (λ j. j + blocks_size blocks) at ∙ ap (λ j. length pre + j) (sym (blocks_counted blocks)) ∙ sym (length-append pre (blocks_sizes blocks))),
        )

    blocks_sized : (pre suf : List ℕ) (n : ℕ) (bs : Blocks) → all ≡ pre ++ (blocks_sizes bs ++ suf) → n ≡ length pre → EachBlockIn (Sized all) n bs
    blocks_sized pre suf n end_of_blocks e at = tt
    blocks_sized pre suf n (block label args ops more) e at =
        let split : all ≡ pre ++ (ops_sizes ops ++ (blocks_sizes more ++ suf)) = e ∙ ap (λ xs. pre ++ xs) (append_assoc (ops_sizes ops) (blocks_sizes more) suf) in (
          ops_sized pre (blocks_sizes more ++ suf) n ops split at,
          blocks_sized (pre ++ ops_sizes ops) suf (n + ops_size ops) more (split ∙ sym (append_assoc pre (ops_sizes ops) (blocks_sizes more ++ suf)))
              (ap (λ j. j + ops_size ops) at ∙ ap (λ j. length pre + j) (sym (ops_counted ops)) ∙ sym (length-append pre (ops_sizes ops))),
        )

pub function_sized : (all : List ℕ) (f : Op) → all ≡ op_sizes f → EachRegionIn (Sized all) 1 (regions_of f)
function_sized all (op k results operands regions successors) e =
    (op_sized all [] [] 0 (op k results operands regions successors) (e ∙ sym (and_nothing (op_sizes (op k results operands regions successors)))) refl).1

-- The copies in a tree

own_listed : (o : Op) (b : Bool) (rest : List (ℕ × ℕ)) → (if b then pair_in o ++ rest else rest) ≡ (if b then pair_in o else []) ++ rest
own_listed o true rest = refl
own_listed o false rest = refl

mutual
  op_copies : (n : ℕ) (o : Op) (more : List (ℕ × Op)) → copies_in (op_listed n o more) ≡ op_pairs o ++ copies_in more
  op_copies n (op k results operands regions successors) more =
      let o : Op = op k results operands regions successors in
      own_listed o (is_copy o) (copies_in (regions_listed (n + 1) regions more)) ∙ ap (λ xs. own_pair o ++ xs) (regions_copies (n + 1) regions more)
      ∙ sym (append_assoc (own_pair o) (regions_pairs regions) (copies_in more))

  ops_copies : (n : ℕ) (os : Ops) (more : List (ℕ × Op)) → copies_in (ops_listed n os more) ≡ ops_pairs os ++ copies_in more
  ops_copies n end_of_ops more = refl
  ops_copies n (more_ops o os) more =
      op_copies n o (ops_listed (n + op_size o) os more) ∙ ap (λ xs. op_pairs o ++ xs) (ops_copies (n + op_size o) os more) ∙ sym (append_assoc (op_pairs o) (ops_pairs os) (copies_in more))

  regions_copies : (n : ℕ) (rs : Regions) (more : List (ℕ × Op)) → copies_in (regions_listed n rs more) ≡ regions_pairs rs ++ copies_in more
  regions_copies n end_of_regions more = refl
  regions_copies n (region blocks rest) more =
      blocks_copies n blocks (regions_listed (n + blocks_size blocks) rest more) ∙ ap (λ xs. blocks_pairs blocks ++ xs) (regions_copies (n + blocks_size blocks) rest more)
      ∙ sym (append_assoc (blocks_pairs blocks) (regions_pairs rest) (copies_in more))

  blocks_copies : (n : ℕ) (bs : Blocks) (more : List (ℕ × Op)) → copies_in (blocks_listed n bs more) ≡ blocks_pairs bs ++ copies_in more
  blocks_copies n end_of_blocks more = refl
  blocks_copies n (block label args ops rest) more =
      ops_copies n ops (blocks_listed (n + ops_size ops) rest more) ∙ ap (λ xs. ops_pairs ops ++ xs) (blocks_copies (n + ops_size ops) rest more)
      ∙ sym (append_assoc (ops_pairs ops) (blocks_pairs rest) (copies_in more))

pub copies_are : (o : Op) → copies_in (operations o) ≡ op_pairs o
copies_are o = op_copies 0 o [] ∙ and_nothing (op_pairs o)
