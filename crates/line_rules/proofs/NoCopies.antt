-- Where there are no copies, none are left out.
use Rattle.std.proofs.Common.{◌≡◌, ℕ, ◌+◌, false, List, [], ◌∷◌, ◌++◌, refl, ap, ◌∙◌, map}
use Rattle.std.specs.Prelude.{⊤, if◌then◌else◌}
use Rattle.std.specs.Str.{bytes_eq}
use Rattle.plain_tree.specs.Ops.{Op, op, Ops, end_of_ops, more_ops, Regions, end_of_regions, region, Blocks, end_of_blocks, block}
use Rattle.conversion_model.specs.Templates.{copy_name}
use Rattle.conversion_model.specs.Items.{blocks_size, op_size, ops_size}
use Rattle.conversion_model.specs.Uses.{blocks_listed, blocks_uses, blocks_without, copies_in, copies_left_out, followed, is_copy, op_listed, op_uses, op_without, ops_listed, ops_uses, ops_without, pair_in, regions_listed, regions_uses, regions_without}

abbrev mutual
  -- no operation of a tree is a copy
  pub NoCopyOp : Op → Type 0
  NoCopyOp (op k rs os r ls) = (bytes_eq k.name copy_name ≡ false) × NoCopyRegions r

  pub NoCopyOps : Ops → Type 0
  NoCopyOps end_of_ops = ⊤
  NoCopyOps (more_ops o os) = NoCopyOp o × NoCopyOps os

  pub NoCopyRegions : Regions → Type 0
  NoCopyRegions end_of_regions = ⊤
  NoCopyRegions (region b r) = NoCopyBlocks b × NoCopyRegions r

  pub NoCopyBlocks : Blocks → Type 0
  NoCopyBlocks end_of_blocks = ⊤
  NoCopyBlocks (block l args ops more) = NoCopyOps ops × NoCopyBlocks more

same_all : (os : List ℕ) → map (λ v. v) os ≡ os
same_all [] = refl
same_all (o ∷ os) = ap (λ l. o ∷ l) (same_all os)

mutual
  op_same : (o : Op) → op_uses (λ v. v) o ≡ o
  op_same (op k rs os r ls) = ap (λ x. op k rs x (regions_uses (λ v. v) r) ls) (same_all os) ∙ ap (λ x. op k rs os x ls) (regions_same r)

  ops_same : (os : Ops) → ops_uses (λ v. v) os ≡ os
  ops_same end_of_ops = refl
  ops_same (more_ops o os) = ap (λ x. more_ops x (ops_uses (λ v. v) os)) (op_same o) ∙ ap (more_ops o) (ops_same os)

  regions_same : (rs : Regions) → regions_uses (λ v. v) rs ≡ rs
  regions_same end_of_regions = refl
  regions_same (region b r) = ap (λ x. region x (regions_uses (λ v. v) r)) (blocks_same b) ∙ ap (region b) (regions_same r)

  blocks_same : (bs : Blocks) → blocks_uses (λ v. v) bs ≡ bs
  blocks_same end_of_blocks = refl
  blocks_same (block l args ops more) = ap (λ x. block l args x (blocks_uses (λ v. v) more)) (ops_same ops) ∙ ap (block l args ops) (blocks_same more)

none_copied : (o : Op) → NoCopyOp o → is_copy o ≡ false
none_copied (op k rs os r ls) n = n.0

mutual
  op_whole : (o : Op) → NoCopyOp o → op_without is_copy o ≡ o
  op_whole (op k rs os r ls) n = ap (λ x. op k rs os x ls) (regions_whole r n.1)

  ops_whole : (os : Ops) → NoCopyOps os → ops_without is_copy os ≡ os
  ops_whole end_of_ops n = refl
  ops_whole (more_ops o os) n =
      ap (λ b. if b then ops_without is_copy os else more_ops (op_without is_copy o) (ops_without is_copy os)) (none_copied o n.0)
      ∙ ap (λ x. more_ops x (ops_without is_copy os)) (op_whole o n.0) ∙ ap (more_ops o) (ops_whole os n.1)

  regions_whole : (rs : Regions) → NoCopyRegions rs → regions_without is_copy rs ≡ rs
  regions_whole end_of_regions n = refl
  regions_whole (region b r) n = ap (λ x. region x (regions_without is_copy r)) (blocks_whole b n.0) ∙ ap (region b) (regions_whole r n.1)

  blocks_whole : (bs : Blocks) → NoCopyBlocks bs → blocks_without is_copy bs ≡ bs
  blocks_whole end_of_blocks n = refl
  blocks_whole (block l args ops more) n = ap (λ x. block l args x (blocks_without is_copy more)) (ops_whole ops n.0) ∙ ap (block l args ops) (blocks_whole more n.1)

one_listed : (n : ℕ) (o : Op) (more : List (ℕ × Op)) → is_copy o ≡ false → copies_in ((n, o) ∷ more) ≡ copies_in more
one_listed n o more e = ap (λ b. if b then pair_in o ++ copies_in more else copies_in more) e

mutual
  op_none : (n : ℕ) (o : Op) (more : List (ℕ × Op)) → NoCopyOp o → copies_in (op_listed n o more) ≡ copies_in more
  op_none n (op k rs os r ls) more c = one_listed n (op k rs os r ls) (regions_listed (n + 1) r more) c.0 ∙ regions_none (n + 1) r more c.1

  ops_none : (n : ℕ) (os : Ops) (more : List (ℕ × Op)) → NoCopyOps os → copies_in (ops_listed n os more) ≡ copies_in more
  ops_none n end_of_ops more c = refl
  ops_none n (more_ops o os) more c = op_none n o (ops_listed (n + op_size o) os more) c.0 ∙ ops_none (n + op_size o) os more c.1

  regions_none : (n : ℕ) (rs : Regions) (more : List (ℕ × Op)) → NoCopyRegions rs → copies_in (regions_listed n rs more) ≡ copies_in more
  regions_none n end_of_regions more c = refl
  regions_none n (region b r) more c = blocks_none n b (regions_listed (n + blocks_size b) r more) c.0 ∙ regions_none (n + blocks_size b) r more c.1

  blocks_none : (n : ℕ) (bs : Blocks) (more : List (ℕ × Op)) → NoCopyBlocks bs → copies_in (blocks_listed n bs more) ≡ copies_in more
  blocks_none n end_of_blocks more c = refl
  blocks_none n (block l args ops rest) more c = ops_none n ops (blocks_listed (n + ops_size ops) rest more) c.0 ∙ blocks_none (n + ops_size ops) rest more c.1

pub none_left_out : (f : Op) → NoCopyOp f → copies_left_out f ≡ f
none_left_out f n =
    ap (λ cs. op_uses (followed cs (λ v. v)) (op_without is_copy f)) (op_none 0 f [] n) ∙ ap (op_uses (λ v. v)) (op_whole f n) ∙ op_same f
