-- What is known of parts of a tree, and the numbers behind them.
use Rattle.std.proofs.Common.{◌≡◌, ℕ, ◌+◌, ◌<◌, List, ◌∷◌, get_or, drop, length, sym, ap, ◌∙◌, arith}
use Rattle.std.proofs.lemmas.List.{drop_more}
use Rattle.plain_tree.specs.Ops.{Op, op, Ops, end_of_ops, more_ops, Blocks, end_of_blocks, block}
use Rattle.conversion_model.specs.Conversion.{regions_of}
use Rattle.conversion_model.specs.Items.{op_size, ops_size, blocks_size}
use Rattle.unit_slots.specs.declared.slots.Slot.{Slot}
use Rattle.unit_writer.specs.Says.{EachBlockIn, EachOpIn, EachOpsIn, EachRegionIn, Reading, Said}
use Rattle.unit_writer.specs.Sizes.{behind_blocks, behind_ops}

pub front : {A : Type 0} (xs : List A) (i : ℕ) (x : A) → i < length xs → x ≡ get_or xs i x → drop i xs ≡ x ∷ drop (i + 1) xs
front xs i x h is = drop_more xs i x h ∙ ap (λ y. y ∷ drop (i + 1) xs) (sym is)

pub own : (P : ℕ → Op → Type 0) (n : ℕ) (o : Op) → EachOpIn P n o → P n o
own P n (op k results operands regions successors) h = h.0

pub inside : (P : ℕ → Op → Type 0) (n : ℕ) (o : Op) → EachOpIn P n o → EachRegionIn P (n + 1) (regions_of o)
inside P n (op k results operands regions successors) h = h.1

module _ (slots : List Slot) (sizes : List ℕ) (m : Reading) where
  pub behind_is : (n : ℕ) (os : Ops) → EachOpsIn (Said slots sizes m) n os → behind_ops sizes n os ≡ n + ops_size os
  behind_is n end_of_ops h = omega arith
  behind_is n (more_ops o os) h =
      let size : get_or sizes n 0 ≡ op_size o = (own (Said slots sizes m) n o h.0).size in
      ap (λ k. behind_ops sizes (n + k) os) size ∙ behind_is (n + op_size o) os h.1 ∙ omega arith

  pub blocks_behind_is : (n : ℕ) (bs : Blocks) → EachBlockIn (Said slots sizes m) n bs → behind_blocks sizes n bs ≡ n + blocks_size bs
  blocks_behind_is n end_of_blocks h = omega arith
  blocks_behind_is n (block label args ops more) h =
      ap (λ k. behind_blocks sizes k more) (behind_is n ops h.0) ∙ blocks_behind_is (n + ops_size ops) more h.1 ∙ omega arith
