-- Texts without copies, and the copies in them.
use Rattle.std.proofs.Common.{◌≡◌, Bool, true, false, List, [], ◌∷◌, ◌++◌, refl, sym, ap, ◌∙◌}
use Rattle.std.specs.Prelude.{if◌then◌else◌}
use Rattle.std.proofs.lemmas.List.{append_assoc}
use Rattle.plain_tree.specs.Ops.{Op, end_of_ops, more_ops, Regions, end_of_regions, region, Blocks, end_of_blocks, block, PlainBlock, blocks_in, regions_in}
use Rattle.conversion_model.specs.Items.{Item, Puts, Begins, HeldBlock, Text, text_of, whole_items}
use Rattle.conversion_model.specs.Uses.{is_copy, op_without, ops_without, blocks_without}
use Rattle.unit_writer.specs.Copies.{blocks_pairs, clean, op_pairs, ops_pairs, pairs_of}
use Rattle.unit_writer.specs.Pages.{blocks_before, regions_before}

-- a text without copies
abbrev without : Text → Text
without t = record { ops = ops_without is_copy t.ops; blocks = blocks_without is_copy t.blocks }

put_clean : (o : Op) (xs : List Item) (b : Bool) → is_copy o ≡ b → text_of (clean xs) ≡ without (text_of xs)
    → text_of (if b then clean xs else Puts (op_without is_copy o) ∷ clean xs)
    ≡ record { ops = if b then ops_without is_copy (text_of xs).ops else more_ops (op_without is_copy o) (ops_without is_copy (text_of xs).ops); blocks = blocks_without is_copy (text_of xs).blocks }
put_clean o xs true e h = h
put_clean o xs false e h = ap (λ (t : Text). record { ops = more_ops (op_without is_copy o) t.ops; blocks = t.blocks }) h

pub text_clean : (xs : List Item) → text_of (clean xs) ≡ without (text_of xs)
text_clean [] = refl
text_clean (Puts o ∷ xs) = put_clean o xs (is_copy o) refl (text_clean xs)
text_clean (Begins label args ∷ xs) = ap (λ (t : Text). record { ops = end_of_ops; blocks = block label args t.ops t.blocks }) (text_clean xs)

pub pairs_text : (xs : List Item) → ops_pairs (text_of xs).ops ++ blocks_pairs (text_of xs).blocks ≡ pairs_of xs
pairs_text [] = refl
pairs_text (Puts o ∷ xs) = append_assoc (op_pairs o) (ops_pairs (text_of xs).ops) (blocks_pairs (text_of xs).blocks) ∙ ap (λ ys. op_pairs o ++ ys) (pairs_text xs)
pairs_text (Begins label args ∷ xs) = pairs_text xs

-- whole blocks have no operations before them
pub whole_first : (hs : List HeldBlock) → (text_of (clean (whole_items hs))).ops ≡ end_of_ops
whole_first [] = refl
whole_first (h ∷ hs) = refl

whole_plain : (hs : List HeldBlock) → (text_of (whole_items hs)).ops ≡ end_of_ops
whole_plain [] = refl
whole_plain (h ∷ hs) = refl

pub whole_pairs : (hs : List HeldBlock) → blocks_pairs (text_of (whole_items hs)).blocks ≡ pairs_of (whole_items hs)
whole_pairs hs = sym (ap (λ os. ops_pairs os ++ blocks_pairs (text_of (whole_items hs)).blocks) (whole_plain hs)) ∙ pairs_text (whole_items hs)

pub whole_clean : (hs : List HeldBlock) → blocks_without is_copy (text_of (whole_items hs)).blocks ≡ (text_of (clean (whole_items hs))).blocks
whole_clean hs = sym (ap (λ (t : Text). t.blocks) (text_clean (whole_items hs)))

pub blocks_alone : (bs : List PlainBlock) → blocks_in bs ≡ blocks_before bs end_of_blocks
blocks_alone [] = refl
blocks_alone (b ∷ bs) = ap (block b.label b.args b.ops) (blocks_alone bs)

pub regions_alone : (rs : List Blocks) → regions_in rs ≡ regions_before rs end_of_regions
regions_alone [] = refl
regions_alone (r ∷ rs) = ap (region r) (regions_alone rs)

pub regions_pushed : (rs : List Blocks) (r : Blocks) (more : Regions) → regions_before (rs ++ r ∷ []) more ≡ regions_before rs (region r more)
regions_pushed [] r more = refl
regions_pushed (x ∷ rs) r more = ap (region x) (regions_pushed rs r more)
