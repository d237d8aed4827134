-- Conversion without cuts replaces operations by others one after another.
use Rattle.std.proofs.Common.{◌≡◌, ℕ, ◌+◌, false, List, [], ◌∷◌, ◌++◌, Option, None, refl, sym, ap, ◌∙◌, subst}
use Rattle.plain_tree.specs.Ops.{Kind, Op, op, Ops, end_of_ops, more_ops, Regions, end_of_regions, region, Blocks, end_of_blocks, block, Values}
use Rattle.conversion_model.specs.Items.{blocks_size, From, HeldBlock, held_blocks, held_regions, Item, items, op_at, op_size, ops_size, puts, text_of, Ways, whole_items, whole_regions}
use Rattle.conversion_model.specs.Rows.{Piece}
use Rattle.line_rules.specs.Lines.{LinedBlocks, LinedOps, LinedRegions, lined_block, lined_end, lined_no_block, lined_no_region, lined_region, Put, put_itself, put_line, put_ops, put_turn, stays, swaps, turns}

puts_ops : (l : List Op) (more : List Item) → (text_of (puts l more)).ops ≡ put_ops l (text_of more).ops
puts_ops [] more = refl
puts_ops (o ∷ l) more = ap (more_ops o) (puts_ops l more)

puts_blocks : (l : List Op) (more : List Item) → (text_of (puts l more)).blocks ≡ (text_of more).blocks
puts_blocks [] more = refl
puts_blocks (o ∷ l) more = puts_blocks l more

joined_ops : (l : List Op) (t : Op) (more : Ops) → put_ops (l ++ t ∷ []) more ≡ put_ops l (more_ops t more)
joined_ops [] t more = refl
joined_ops (o ∷ l) t more = ap (more_ops o) (joined_ops l t more)

module _ (w : Ways) (K : ℕ → Op → Type 0) (G : ℕ → Op → List Op → Type 0) (H : ℕ → Op → List Op → Op → Type 0) (uncut : (n : ℕ) (o : Op) → w.cuts n o ≡ None) where
  abbrev from : ℕ → From
  from n = record { number = n; piece = 0; path = [] }

  abbrev mutual
    -- what stands for each operation of a tree from number n on
    pub PutOp : ℕ → Op → Type 0
    PutOp n (op k rs os r ls) = ((s : Regions) → Put K G H n (op k rs os r ls) (op k rs os s ls) (w.line (from n) (w.shape (op k rs os r ls)) (op k rs os s ls))) × PutRegions (n + 1) r

    pub PutOps : ℕ → Ops → Type 0
    PutOps n end_of_ops = Unit {0}
    PutOps n (more_ops o os) = PutOp n o × PutOps (n + op_size o) os

    pub PutRegions : ℕ → Regions → Type 0
    PutRegions n end_of_regions = Unit {0}
    PutRegions n (region b r) = PutBlocks n b × PutRegions (n + blocks_size b) r

    pub PutBlocks : ℕ → Blocks → Type 0
    PutBlocks n end_of_blocks = Unit {0}
    PutBlocks n (block l args ops more) = PutOps n ops × PutBlocks (n + ops_size ops) more

  op_text : (n : ℕ) (source kept : Op) (hs : List (List HeldBlock)) (more : List Item) → op_at w n source kept (w.cuts n source) hs more ≡ puts (w.line (from n) (w.shape source) kept) more
  op_text n source kept hs more = ap (λ (c : Option (ℕ × List Piece)). op_at w n source kept c hs more) (uncut n source)

  put_one : (n : ℕ) (k : Kind) (rs : Values) (os ls : List ℕ) {r s : Regions} {rest : Ops} (l : List Op) (x : Ops) → LinedRegions K G H (n + 1) r s → Put K G H n (op k rs os r ls) (op k rs os s ls) l
      → LinedOps K G H (n + op_size (op k rs os r ls)) rest x → LinedOps K G H n (more_ops (op k rs os r ls) rest) (put_ops l x)
  put_one n k rs os ls l x regions (put_itself e) d = stays e regions d
  put_one n k rs os ls l x regions (put_line m g) d = swaps m g d
  put_one n k rs os ls {r = r} {rest = rest} l x regions (put_turn m t h) d = subst (λ y. LinedOps K G H n (more_ops (op k rs os r ls) rest) y) (sym (joined_ops m t x)) (turns m t h d)

  begins_empty : (n : ℕ) (bs : Blocks) → (text_of (whole_items (held_blocks w n bs))).ops ≡ end_of_ops
  begins_empty n end_of_blocks = refl
  begins_empty n (block l args ops more) = refl

  mutual
    items_blocks : (n : ℕ) (os : Ops) (more : List Item) → (text_of (items w false n os more)).blocks ≡ (text_of more).blocks
    items_blocks n end_of_ops more = refl
    items_blocks n (more_ops (op k rs os r ls) rest) more =
        ap (λ (xs : List Item). (text_of xs).blocks) (op_text n (op k rs os r ls) (op k rs os (whole_regions (held_regions w (n + 1) r)) ls) (held_regions w (n + 1) r) (items w false (n + op_size (op k rs os r ls)) rest more))
        ∙ puts_blocks (w.line (from n) (w.shape (op k rs os r ls)) (op k rs os (whole_regions (held_regions w (n + 1) r)) ls)) (items w false (n + op_size (op k rs os r ls)) rest more)
        ∙ items_blocks (n + op_size (op k rs os r ls)) rest more

    items_ops : (n : ℕ) (os : Ops) (more : List Item) → (text_of more).ops ≡ end_of_ops → PutOps n os → LinedOps K G H n os (text_of (items w false n os more)).ops
    items_ops n end_of_ops more e p = subst (λ x. LinedOps K G H n end_of_ops x) (sym e) lined_end
    items_ops n (more_ops (op k rs os r ls) rest) more e p =
        subst (λ x. LinedOps K G H n (more_ops (op k rs os r ls) rest) x)
        (sym (
        ap (λ (xs : List Item). (text_of xs).ops) (op_text n (op k rs os r ls) (op k rs os (whole_regions (held_regions w (n + 1) r)) ls) (held_regions w (n + 1) r) (items w false (n + op_size (op k rs os r ls)) rest more))
        ∙ puts_ops (w.line (from n) (w.shape (op k rs os r ls)) (op k rs os (whole_regions (held_regions w (n + 1) r)) ls)) (items w false (n + op_size (op k rs os r ls)) rest more)
        ))
        (put_one n k rs os ls (w.line (from n) (w.shape (op k rs os r ls)) (op k rs os (whole_regions (held_regions w (n + 1) r)) ls)) (text_of (items w false (n + op_size (op k rs os r ls)) rest more)).ops
        (whole_lined (n + 1) r p.0.1) (p.0.0 (whole_regions (held_regions w (n + 1) r))) (items_ops (n + op_size (op k rs os r ls)) rest more e p.1))

    pub whole_lined : (n : ℕ) (r : Regions) → PutRegions n r → LinedRegions K G H n r (whole_regions (held_regions w n r))
    whole_lined n end_of_regions p = lined_no_region
    whole_lined n (region b r) p = lined_region (blocks_lined n b p.0) (whole_lined (n + blocks_size b) r p.1)

    blocks_lined : (n : ℕ) (b : Blocks) → PutBlocks n b → LinedBlocks K G H n b (text_of (whole_items (held_blocks w n b))).blocks
    blocks_lined n end_of_blocks p = lined_no_block
    blocks_lined n (block l args ops more) p =
        lined_block (items_ops n ops (whole_items (held_blocks w (n + ops_size ops) more)) (begins_empty (n + ops_size ops) more) p.0)
        (subst (λ x. LinedBlocks K G H (n + ops_size ops) more x) (sym (items_blocks n ops (whole_items (held_blocks w (n + ops_size ops) more)))) (blocks_lined (n + ops_size ops) more p.1))
