-- What comes of a page when an operation, a copy or a block is written.
use Rattle.std.proofs.Common.{◌≡◌, ℕ, false, List, [], ◌∷◌, ◌++◌, refl, sym, ap, ◌∙◌}
use Rattle.std.specs.Prelude.{if◌then◌else◌}
use Rattle.std.proofs.lemmas.List.{append_assoc}
use Rattle.plain_tree.specs.Types.{PlainType}
use Rattle.plain_tree.specs.Ops.{Op, op, Ops, end_of_ops, more_ops, Regions, Blocks, block, PlainBlock, Values, ops_in}
use Rattle.conversion_model.specs.Conversion.{regions_of}
use Rattle.conversion_model.specs.Items.{Item, Puts, Begins, Text, text_of}
use Rattle.conversion_model.specs.Templates.{copy}
use Rattle.conversion_model.specs.Uses.{is_copy, op_without, pair_in, regions_without}
use Rattle.unit_writer.specs.Copies.{clean, op_pairs, pairs_of, regions_pairs}
use Rattle.unit_writer.specs.Pages.{PageView, blocks_before, ended, ops_before, page_blocks, with_block, with_op}
use Rattle.unit_writer.specs.Writes.{Outcome, State, behind, with_regions}

abbrev both : Blocks → List (ℕ × ℕ) → Outcome
both b p = record { blocks = b; pairs = p }

pub outcome : (b c : Blocks) (p q : List (ℕ × ℕ)) → b ≡ c → p ≡ q → both b p ≡ both c q
outcome b c p q e f = ap (λ x. both x p) e ∙ ap (both c) f

pub and_nothing : {A : Type 0} (xs : List A) → xs ++ [] ≡ xs
and_nothing [] = refl
and_nothing (x ∷ xs) = ap (λ ys. x ∷ ys) (and_nothing xs)

ops_pushed : (os : List Op) (o : Op) (more : Ops) → ops_before (os ++ o ∷ []) more ≡ ops_before os (more_ops o more)
ops_pushed [] o more = refl
ops_pushed (x ∷ os) o more = ap (more_ops x) (ops_pushed os o more)

pub blocks_joined : (bs cs : List PlainBlock) (more : Blocks) → blocks_before (bs ++ cs) more ≡ blocks_before bs (blocks_before cs more)
blocks_joined [] cs more = refl
blocks_joined (b ∷ bs) cs more = ap (block b.label b.args b.ops) (blocks_joined bs cs more)

ops_alone : (os : List Op) → ops_in os ≡ ops_before os end_of_ops
ops_alone [] = refl
ops_alone (o ∷ os) = ap (more_ops o) (ops_alone os)

clean_put : (o : Op) (xs : List Item) → is_copy o ≡ false → clean (Puts o ∷ xs) ≡ Puts (op_without is_copy o) ∷ clean xs
clean_put o xs e = ap (λ b. if b then clean xs else Puts (op_without is_copy o) ∷ clean xs) e

pub own_pairs : (o : Op) → is_copy o ≡ false → op_pairs o ≡ regions_pairs (regions_of o)
own_pairs (op k results operands regions successors) e = ap (λ b. (if b then pair_in (op k results operands regions successors) else []) ++ regions_pairs regions) e

-- an operation that is no copy
pub put_behind : (s new : State) (o q : Op) (ps : List (ℕ × ℕ)) → is_copy o ≡ false → op_without is_copy o ≡ q → regions_pairs (regions_of o) ≡ ps
    → new.page ≡ with_op s.page q → new.notes.pairs ≡ s.notes.pairs ++ ps → (more : List Item) → behind s (Puts o ∷ more) ≡ behind new more
put_behind s new o q ps e without pairs page noted more =
    let p : PageView = s.page in
    let t : Text = text_of (clean more) in
    outcome (page_blocks s.page (text_of (clean (Puts o ∷ more)))) (page_blocks new.page t) (s.notes.pairs ++ (op_pairs o ++ pairs_of more)) (new.notes.pairs ++ pairs_of more)
    (ap (λ xs. page_blocks p (text_of xs)) (clean_put o more e)
    ∙ ap (λ x. blocks_before p.blocks (block p.label p.args (ops_before p.ops (more_ops x t.ops)) t.blocks)) without
    ∙ ap (λ x. blocks_before p.blocks (block p.label p.args x t.blocks)) (sym (ops_pushed p.ops q t.ops))
    ∙ ap (λ x. page_blocks x t) (sym page))
    (ap (λ x. s.notes.pairs ++ (x ++ pairs_of more)) (own_pairs o e ∙ pairs) ∙ sym (append_assoc s.notes.pairs ps (pairs_of more)) ∙ ap (λ x. x ++ pairs_of more) (sym noted))

-- a copy
pub copy_behind : (s new : State) (r : ℕ × PlainType) (v : ℕ) → new.page ≡ s.page → new.notes.pairs ≡ s.notes.pairs ++ (r.0, v) ∷ [] → (more : List Item)
    → behind s (Puts (copy r v) ∷ more) ≡ behind new more
copy_behind s new r v page noted more =
    outcome (page_blocks s.page (text_of (clean more))) (page_blocks new.page (text_of (clean more))) (s.notes.pairs ++ ((r.0, v) ∷ pairs_of more)) (new.notes.pairs ++ pairs_of more)
    (ap (λ x. page_blocks x (text_of (clean more))) (sym page))
    (sym (append_assoc s.notes.pairs ((r.0, v) ∷ []) (pairs_of more)) ∙ ap (λ x. x ++ pairs_of more) (sym noted))

-- a block that opens
pub begin_behind : (s new : State) (label : ℕ) (args : Values) → new.page ≡ with_block s.page label args → new.notes.pairs ≡ s.notes.pairs → (more : List Item)
    → behind s (Begins label args ∷ more) ≡ behind new more
begin_behind s new label args page noted more =
    let p : PageView = s.page in
    let t : Text = text_of (clean more) in
    outcome (page_blocks p (text_of (clean (Begins label args ∷ more)))) (page_blocks new.page t) (s.notes.pairs ++ pairs_of more) (new.notes.pairs ++ pairs_of more)
    (ap (λ x. blocks_before p.blocks (block p.label p.args x (block label args t.ops t.blocks))) (sym (ops_alone p.ops))
    ∙ sym (blocks_joined p.blocks (record { label = p.label; args = p.args; ops = ops_in p.ops } ∷ []) (block label args t.ops t.blocks))
    ∙ ap (λ x. page_blocks x t) (sym page))
    (ap (λ x. x ++ pairs_of more) (sym noted))

-- a page that ends
pub end_behind : (p : PageView) (bs : List PlainBlock) (t : Text) → bs ≡ ended p → t.ops ≡ end_of_ops → page_blocks p t ≡ blocks_before bs t.blocks
end_behind p bs t e none =
    ap (λ x. blocks_before p.blocks (block p.label p.args (ops_before p.ops x) t.blocks)) none
    ∙ ap (λ x. blocks_before p.blocks (block p.label p.args x t.blocks)) (sym (ops_alone p.ops))
    ∙ sym (blocks_joined p.blocks (record { label = p.label; args = p.args; ops = ops_in p.ops } ∷ []) t.blocks)
    ∙ ap (λ x. blocks_before x t.blocks) (sym e)

pub regions_left : (o : Op) (rs : Regions) → regions_of (with_regions o rs) ≡ rs
regions_left (op k results operands regions successors) rs = refl

pub without_regions : (o : Op) (rs ss : Regions) → regions_without is_copy rs ≡ ss → op_without is_copy (with_regions o rs) ≡ with_regions o ss
without_regions (op k results operands regions successors) rs ss e = ap (λ x. op k results operands x successors) e

pub copy_same : (o : Op) (rs : Regions) → is_copy (with_regions o rs) ≡ is_copy o
copy_same (op k results operands regions successors) rs = refl
