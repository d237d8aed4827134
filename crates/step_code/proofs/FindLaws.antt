-- Finding a block by its label.
use Rattle.std.proofs.Common.{◌≡◌, ℕ, ◌+◌, ◌≤◌, List, ◌∷◌, length, drop, Some, None, sym, ap, ◌∙◌, ⊎_elim, cond, ◌==◌}
use Rattle.std.specs.List.{slice_get}
use Rattle.std.proofs.lemmas.Bool.Decides.{eqb_tells}
use Rattle.form_model.specs.Codes.{find_block}
use Rattle.run_code.specs.declared.function.Block.{Block, out-Block}
use Rattle.run_code.specs.Views.{blocks_of}
use Rattle.run_code.proofs.Shapes.{block_is}
use Rattle.table_code.proofs.TableLaws.{drop_at, drop_whole}
use Rattle.frame_code.specs.Frames.{target_of}

first_block : (l : ℕ) (b : Block) (bs : List Block) → find_block l (blocks_of (b ∷ bs)) ≡ cond ((out-Block b).label == l) (Some (target_of b)) (find_block l (blocks_of bs))
first_block l b bs = ap (find_block l) (block_is b (blocks_of bs))

at_place : (bs : List Block) (i : ℕ) (b : Block) (l : ℕ) → slice_get bs i ≡ Some b
    → find_block l (blocks_of (drop i bs)) ≡ cond ((out-Block b).label == l) (Some (target_of b)) (find_block l (blocks_of (drop (i + 1) bs)))
at_place bs i b l at = ap (λ r. find_block l (blocks_of r)) (drop_at bs i b at) ∙ first_block l b (drop (i + 1) bs)

pub block_found : (bs : List Block) (i : ℕ) (b : Block) (l : ℕ) → slice_get bs i ≡ Some b → (out-Block b).label ≡ l
    → find_block l (blocks_of (drop i bs)) ≡ find_block l (blocks_of bs) → Some (target_of b) ≡ find_block l (blocks_of bs)
block_found bs i b l at same so =
    ⊎_elim
    (λ h. sym (ap (λ t. cond t (Some (target_of b)) (find_block l (blocks_of (drop (i + 1) bs)))) h.0) ∙ sym (at_place bs i b l at) ∙ so)
    (λ h. absurd (h.1 same))
    (eqb_tells (out-Block b).label l)

pub block_passed : (bs : List Block) (i : ℕ) (b : Block) (l : ℕ) → slice_get bs i ≡ Some b → ((out-Block b).label ≡ l → ⊥)
    → find_block l (blocks_of (drop i bs)) ≡ find_block l (blocks_of bs) → find_block l (blocks_of (drop (i + 1) bs)) ≡ find_block l (blocks_of bs)
block_passed bs i b l at other so =
    ⊎_elim
    (λ h. absurd (other h.1))
    (λ h. sym (ap (λ t. cond t (Some (target_of b)) (find_block l (blocks_of (drop (i + 1) bs)))) h.0) ∙ sym (at_place bs i b l at) ∙ so)
    (eqb_tells (out-Block b).label l)

pub block_absent : (bs : List Block) (i : ℕ) (l : ℕ) → length bs ≤ i → find_block l (blocks_of (drop i bs)) ≡ find_block l (blocks_of bs) → None ≡ find_block l (blocks_of bs)
block_absent bs i l past so = sym (ap (λ r. find_block l (blocks_of r)) (drop_whole bs i past)) ∙ so
