-- The cuts of trees are those of the rows.
use Rattle.std.proofs.Common.{◌≡◌, ℕ, ◌+◌, ◌*◌, ◌==◌, zero, Bool, true, false, List, [], ◌∷◌, ◌++◌, append_assoc, length, map, Option, Some, None, refl, sym, ap, ◌∙◌}
use Rattle.std.specs.Prelude.{ℤ, codes, option_map, pos, if◌then◌else◌}
use Rattle.std.proofs.lemmas.List.{length-map}
use Rattle.tree_model.specs.declared.type_tree.TypeTree.{TypeTree}
use Rattle.tree_model.specs.declared.type_tree.TypeTree as type
use Rattle.plain_tree.specs.Types.{PlainType, Int, Index, plain_type}
use Rattle.plain_tree.specs.Attrs.{Entries, PlainAttr, entries_tree, plain_entries}
use Rattle.plain_tree.specs.Attrs as attr
use Rattle.plain_tree.proofs.AttrOpens.{entries_again}
use Rattle.plain_tree.proofs.TypeOpens.{plain-Index, plain-Int}
use Rattle.conversion_model.specs.Rows.{Numbers, Piece, Opens, Stands}
use Rattle.pattern_model.specs.Drafts.{constant_value, predicate, sizes}
use Rattle.pattern_model.specs.ScfRows.{Single, branch, case_pieces, conditional, for_of, head_pieces, held_block, if_alone, if_of, product, stand_for, switch_blocks, switch_cases, switch_pieces, test_pieces, tests, while_of, while_passed, with_single, with_type, yields_to}
use Rattle.cut_code.specs.Pieces.{known_types, label_at, piece_of, pieces_of, pieces_or_none, value_at}
use Rattle.cut_code.specs.Sketches.{block_view, plain_values, region_view}
use Rattle.cut_code.specs.declared.pieces.CutValue.{CutValue}
use Rattle.cut_code.specs.declared.pieces.CutValue.TheVariants.{Old, New}
use Rattle.cut_code.specs.declared.pieces.CutLabel.{CutLabel}
use Rattle.cut_code.specs.declared.pieces.CutLabel.TheVariants as labels
use Rattle.cut_code.specs.declared.pieces.PieceTree.{PieceTree}
use Rattle.cut_code.specs.declared.pieces.PieceTree.TheVariants as made
use Rattle.cut_code.specs.declared.sketch.BlockSketch.{BlockSketch}
use Rattle.cut_code.specs.declared.sketch.RegionSketch.{RegionSketch}
use Rattle.scf_rows.specs.Trees as trees
use Rattle.scf_rows.specs.declared.regions.Alone.{Alone}
use Rattle.scf_rows.specs.Trees.{Typed, all_alone, alone, branch_tree, compare_tree, conditional_tree, loop_values, old_values, only_block, product_tree, test_values, with_alone}
use Rattle.scf_rows.specs.Seen.{execute_from, execute_seen, for_seen, for_single, held_seen, if_either_seen, if_seen, single_seen, singles_seen, switch_seen, while_seen}

abbrev plain_alone : Alone → Single
plain_alone a = record { label = a.label; args = plain_values a.args; passed = a.passed }

cons2 : {p q : Piece} {ps qs : List Piece} → p ≡ q → ps ≡ qs → p ∷ ps ≡ q ∷ qs
cons2 {q} {ps} e f = ap (λ x. x ∷ ps) e ∙ ap (λ xs. q ∷ xs) f

-- Products

product_is : (new : Numbers) (type_of : ℕ → PlainType) (known : Typed) (name : List ℕ) (results : Typed) (operands : List CutValue) (props : Entries) (successors : List CutLabel)
    → piece_of new type_of (product_tree known name results operands props successors)
    ≡ product (known_types new known type_of) name (map (λ r. (new.value r.0, plain_type r.1)) results) (map (value_at new) operands) props (map (label_at new) successors)
product_is new type_of known name results operands props successors =
    ap (λ ps. product (known_types new known type_of) name (map (λ r. (new.value r.0, plain_type r.1)) results) (map (value_at new) operands) ps (map (label_at new) successors)) (entries_again props)

olds : (new : Numbers) (ns : List ℕ) → map (value_at new) (old_values ns) ≡ ns
olds new [] = refl
olds new (n ∷ ns) = ap (λ ms. n ∷ ms) (olds new ns)

branch_is : (new : Numbers) (type_of types : ℕ → PlainType) (known : Typed) (passed : List CutValue) (ns : List ℕ) (to : CutLabel) → known_types new known type_of ≡ types → map (value_at new) passed ≡ ns
    → piece_of new type_of (branch_tree known passed to) ≡ branch types ns (label_at new to)
branch_is new type_of types known passed ns to e h =
    product_is new type_of known (codes "cf.br") [] passed [] (to ∷ [])
    ∙ ap (λ (f : ℕ → PlainType). branch f (map (value_at new) passed) (label_at new to)) e ∙ ap (λ ms. branch types ms (label_at new to)) h

branch_old : (new : Numbers) (type_of : ℕ → PlainType) (ns : List ℕ) (to : CutLabel) → piece_of new type_of (branch_tree [] (old_values ns) to) ≡ branch type_of ns (label_at new to)
branch_old new type_of ns to = branch_is new type_of type_of [] (old_values ns) ns to refl (olds new ns)

conditional_is : (new : Numbers) (type_of types : ℕ → PlainType) (known : Typed) (c : CutValue) (passed : List CutValue) (ns : List ℕ) (to other : CutLabel)
    → known_types new known type_of ≡ types → map (value_at new) passed ≡ ns
    → piece_of new type_of (conditional_tree known c passed to other) ≡ conditional types (value_at new c) ns (label_at new to) (label_at new other)
conditional_is new type_of types known c passed ns to other e h =
    product_is new type_of known (codes "cf.cond_br") [] (c ∷ passed) (sizes (pos 1 ∷ pos (length passed) ∷ pos 0 ∷ [])) (to ∷ other ∷ [])
    ∙ ap (λ n. product (known_types new known type_of) (codes "cf.cond_br") [] (value_at new c ∷ map (value_at new) passed) (sizes (pos 1 ∷ pos n ∷ pos 0 ∷ [])) (label_at new to ∷ label_at new other ∷ [])) (sym (length-map passed (value_at new)))
    ∙ ap (λ (f : ℕ → PlainType). conditional f (value_at new c) (map (value_at new) passed) (label_at new to) (label_at new other)) e
    ∙ ap (λ ms. conditional types (value_at new c) ms (label_at new to) (label_at new other)) h

compare_is : (new : Numbers) (type_of types : ℕ → PlainType) (known : Typed) (k : ℕ) (x y : CutValue) (n : ℕ) → known_types new known type_of ≡ types
    → piece_of new type_of (compare_tree known k x y n) ≡ product types (codes "arith.cmpi") ((new.value k, Int 1) ∷ []) (value_at new x ∷ value_at new y ∷ []) (predicate n) []
compare_is new type_of types known k x y n e =
    product_is new type_of known (codes "arith.cmpi") ((k, type.Int 1) ∷ []) (x ∷ y ∷ []) (predicate n) []
    ∙ ap (λ t. product (known_types new known type_of) (codes "arith.cmpi") ((new.value k, t) ∷ []) (value_at new x ∷ value_at new y ∷ []) (predicate n) []) (plain-Int 1)
    ∙ ap (λ (f : ℕ → PlainType). product f (codes "arith.cmpi") ((new.value k, Int 1) ∷ []) (value_at new x ∷ value_at new y ∷ []) (predicate n) []) e

-- Regions

only_is : (bs : List BlockSketch) → single_seen (map block_view bs) ≡ option_map plain_alone (only_block bs)
only_is [] = refl
only_is (b ∷ []) = refl
only_is (b ∷ c ∷ bs) = refl

with_is : (x : Option Alone) (xs : Option (List Alone)) → with_single (option_map plain_alone x) (option_map (map plain_alone) xs) ≡ option_map (map plain_alone) (with_alone x xs)
with_is None xs = refl
with_is (Some a) None = refl
with_is (Some a) (Some rest) = refl

all_are : (rs : List RegionSketch) → singles_seen (map region_view rs) ≡ option_map (map plain_alone) (all_alone rs)
all_are [] = refl
all_are (r ∷ rs) =
    ap (λ s. with_single s (singles_seen (map region_view rs))) (only_is r.blocks)
    ∙ ap (with_single (option_map plain_alone (alone r))) (all_are rs)
    ∙ with_is (alone r) (all_alone rs)

stands_are : (new : Numbers) (type_of : ℕ → PlainType) (rs : Typed) (vs : List ℕ) → stand_for (plain_values rs) vs ≡ pieces_of new type_of (trees.stand_trees rs vs)
stands_are new type_of [] vs = refl
stands_are new type_of (r ∷ rs) [] = refl
stands_are new type_of (r ∷ rs) (v ∷ vs) = ap (λ (ps : List Piece). Stands (r.0, plain_type r.1) v ∷ ps) (stands_are new type_of rs vs)

pieces_more : (new : Numbers) (type_of : ℕ → PlainType) (xs ys : List PieceTree) → pieces_of new type_of (xs ++ ys) ≡ pieces_of new type_of xs ++ pieces_of new type_of ys
pieces_more new type_of [] ys = refl
pieces_more new type_of (x ∷ xs) ys = ap (λ (ps : List Piece). piece_of new type_of x ∷ ps) (pieces_more new type_of xs ys)

yields_are : (new : Numbers) (type_of : ℕ → PlainType) (r : ℕ) (a : Alone) (more : List PieceTree) (ps : List Piece) → ps ≡ pieces_of new type_of more
    → yields_to type_of (new.label 0) r (plain_alone a) ps ≡ pieces_of new type_of (trees.yields_trees (labels.New 0) r a ++ more)
yields_are new type_of r a more ps e = cons2 refl (cons2 refl (cons2 (sym (branch_old new type_of a.passed (labels.New 0))) e))

-- scf.if

one_is : (new : Numbers) (type_of : ℕ → PlainType) (results : Typed) (c : ℕ) (x : Option Alone)
    → if_alone new type_of (plain_values results) c (option_map plain_alone x) ≡ pieces_or_none new type_of (trees.if_one results c x)
one_is new type_of results c None = refl
one_is new type_of results c (Some a) =
    ap Some (cons2 (sym (conditional_is new type_of type_of [] (Old c) [] [] (labels.Old a.label) (labels.New 0) refl refl)) (yields_are new type_of 0 a (made.Opens (labels.New 0) results ∷ []) (Opens (new.label 0) (plain_values results) ∷ []) refl))

two_are : (new : Numbers) (type_of : ℕ → PlainType) (results : Typed) (c : ℕ) (x y : Option Alone)
    → if_of new type_of (plain_values results) c (option_map plain_alone x) (option_map plain_alone y) ≡ pieces_or_none new type_of (trees.if_two results c x y)
two_are new type_of results c None y = refl
two_are new type_of results c (Some a) None = refl
two_are new type_of results c (Some a) (Some b) =
    ap Some (cons2 (sym (conditional_is new type_of type_of [] (Old c) [] [] (labels.Old a.label) (labels.Old b.label) refl refl)) (yields_are new type_of 0 a (trees.yields_trees (labels.New 0) 1 b ++ (made.Opens (labels.New 0) results ∷ [])) (yields_to type_of (new.label 0) 1 (plain_alone b) (Opens (new.label 0) (plain_values results) ∷ [])) (yields_are new type_of 1 b (made.Opens (labels.New 0) results ∷ []) (Opens (new.label 0) (plain_values results) ∷ []) refl)))

either_is : (new : Numbers) (type_of : ℕ → PlainType) (results : Typed) (c : ℕ) (a : RegionSketch) (bs : List BlockSketch)
    → if_either_seen new type_of (plain_values results) c (single_seen (region_view a)) (map block_view bs) ≡ pieces_or_none new type_of (trees.if_either results c (alone a) bs)
either_is new type_of results c a [] = ap (if_alone new type_of (plain_values results) c) (only_is a.blocks) ∙ one_is new type_of results c (alone a)
either_is new type_of results c a (b ∷ bs) =
    ap (λ s. if_of new type_of (plain_values results) c s (single_seen (map block_view (b ∷ bs)))) (only_is a.blocks)
    ∙ ap (if_of new type_of (plain_values results) c (option_map plain_alone (alone a))) (only_is (b ∷ bs))
    ∙ two_are new type_of results c (alone a) (only_block (b ∷ bs))

pub if_made : (new : Numbers) (type_of : ℕ → PlainType) (results : Typed) (operands : List ℕ) (regions : List RegionSketch) (successors : ℕ)
    → if_seen new type_of (plain_values results) operands (map region_view regions) successors ≡ pieces_or_none new type_of (trees.if_trees results operands regions successors)
if_made new type_of results (c ∷ []) (a ∷ b ∷ []) zero = either_is new type_of results c a b.blocks
if_made new type_of results _ _ _ = refl

-- scf.for

loop_types : (new : Numbers) (type_of : ℕ → PlainType) (t : TypeTree) → known_types new (loop_values t) type_of ≡ with_type (new.value 0) (Int 1) (with_type (new.value 1) (plain_type t) type_of)
loop_types new type_of t = ap (λ u. with_type (new.value 0) u (with_type (new.value 1) (plain_type t) type_of)) (plain-Int 1)

same_numbers : (vs : Typed) → map (λ a. a.0) (plain_values vs) ≡ map (λ a. a.0) vs
same_numbers [] = refl
same_numbers (v ∷ vs) = ap (λ ns. v.0 ∷ ns) (same_numbers vs)

for_args_are : (new : Numbers) (type_of : ℕ → PlainType) (results : Typed) (lower upper step : ℕ) (initial : List ℕ) (body : ℕ) (args : Typed) (passed : List ℕ)
    → for_of new type_of (plain_values results) lower upper step initial body (plain_values args) passed ≡ pieces_or_none new type_of (trees.for_args results lower upper step initial body args passed)
for_args_are new type_of results lower upper step initial body [] passed = refl
for_args_are new type_of results lower upper step initial body (iv ∷ accs) passed =
    let types : ℕ → PlainType = with_type (new.value 0) (Int 1) (with_type (new.value 1) (plain_type iv.1) type_of) in
    let known : Typed = loop_values iv.1 in
    let e : known_types new known type_of ≡ types = loop_types new type_of iv.1 in
    ap Some (cons2 (sym (branch_is new type_of types known (Old lower ∷ old_values initial) (lower ∷ initial) (labels.New 0) e (ap (λ ns. lower ∷ ns) (olds new initial))))
    (cons2 refl
    (cons2 (sym (compare_is new type_of types known 0 (Old iv.0) (Old upper) 2 e))
    (cons2 (sym (conditional_is new type_of types known (New 0) [] [] (labels.Old body) (labels.New 1) e refl))
    (cons2 refl
    (cons2 refl
    (cons2 (sym (product_is new type_of known (codes "arith.addi") ((1, iv.1) ∷ []) (Old iv.0 ∷ Old step ∷ []) [] []
    ∙ ap (λ (f : ℕ → PlainType). product f (codes "arith.addi") ((new.value 1, plain_type iv.1) ∷ []) (iv.0 ∷ step ∷ []) [] []) e))
    (cons2 (sym (branch_is new type_of types known (New 1 ∷ old_values passed) (new.value 1 ∷ passed) (labels.New 0) e (ap (λ ns. new.value 1 ∷ ns) (olds new passed))))
    (cons2 refl
    (ap (stand_for (plain_values results)) (same_numbers accs) ∙ stands_are new type_of results (map (λ a. a.0) accs)))))))))))

for_one_is : (new : Numbers) (type_of : ℕ → PlainType) (results : Typed) (lower upper step : ℕ) (initial : List ℕ) (x : Option Alone)
    → for_single new type_of (plain_values results) lower upper step initial (option_map plain_alone x) ≡ pieces_or_none new type_of (trees.for_one results lower upper step initial x)
for_one_is new type_of results lower upper step initial None = refl
for_one_is new type_of results lower upper step initial (Some a) = for_args_are new type_of results lower upper step initial a.label a.args a.passed

pub for_made : (new : Numbers) (type_of : ℕ → PlainType) (results : Typed) (operands : List ℕ) (regions : List RegionSketch) (successors : ℕ)
    → for_seen new type_of (plain_values results) operands (map region_view regions) successors ≡ pieces_or_none new type_of (trees.for_trees results operands regions successors)
for_made new type_of results (lower ∷ upper ∷ step ∷ initial) (a ∷ []) zero =
    ap (for_single new type_of (plain_values results) lower upper step initial) (only_is a.blocks) ∙ for_one_is new type_of results lower upper step initial (alone a)
for_made new type_of results _ _ _ = refl

-- scf.while

passed_are : (new : Numbers) (type_of : ℕ → PlainType) (results : Typed) (initial : List ℕ) (before : Alone) (passed : List ℕ) (after : Alone)
    → while_passed new type_of (plain_values results) initial (plain_alone before) passed (plain_alone after) ≡ pieces_or_none new type_of (trees.while_passed results initial before passed after)
passed_are new type_of results initial before [] after = refl
passed_are new type_of results initial before (c ∷ values) after =
    ap Some (cons2 (sym (branch_old new type_of initial (labels.Old before.label)))
    (cons2 refl
    (cons2 refl
    (cons2 (sym (conditional_is new type_of type_of [] (Old c) (old_values values) values (labels.Old after.label) (labels.New 0) refl (olds new values)))
    (cons2 refl
    (cons2 refl
    (cons2 (sym (branch_old new type_of after.passed (labels.Old before.label)))
    (cons2 refl
    (stands_are new type_of results values)))))))))

while_two_are : (new : Numbers) (type_of : ℕ → PlainType) (results : Typed) (initial : List ℕ) (x y : Option Alone)
    → while_of new type_of (plain_values results) initial (option_map plain_alone x) (option_map plain_alone y) ≡ pieces_or_none new type_of (trees.while_two results initial x y)
while_two_are new type_of results initial None y = refl
while_two_are new type_of results initial (Some a) None = refl
while_two_are new type_of results initial (Some a) (Some b) = passed_are new type_of results initial a a.passed b

pub while_made : (new : Numbers) (type_of : ℕ → PlainType) (results : Typed) (operands : List ℕ) (regions : List RegionSketch) (successors : ℕ)
    → while_seen new type_of (plain_values results) operands (map region_view regions) successors ≡ pieces_or_none new type_of (trees.while_trees results operands regions successors)
while_made new type_of results initial (a ∷ b ∷ []) zero =
    ap (λ s. while_of new type_of (plain_values results) initial s (single_seen (region_view b))) (only_is a.blocks)
    ∙ ap (while_of new type_of (plain_values results) initial (option_map plain_alone (alone a))) (only_is b.blocks)
    ∙ while_two_are new type_of results initial (alone a) (alone b)
while_made new type_of results _ _ _ = refl

-- scf.execute_region

held_block_is : (new : Numbers) (type_of : ℕ → PlainType) (k label : ℕ) (args : Typed) (passed : Option (List ℕ)) (ps : List Piece) (more : List PieceTree) → ps ≡ pieces_of new type_of more
    → held_block type_of (new.label 0) k label (plain_values args) passed ps ≡ pieces_of new type_of ((made.Opens (labels.Old label) args ∷ made.Held 0 k ∷ trees.passed_tree passed) ++ more)
held_block_is new type_of k label args None ps more e = cons2 refl (cons2 refl e)
held_block_is new type_of k label args (Some passed) ps more e = cons2 refl (cons2 refl (cons2 (sym (branch_old new type_of passed (labels.New 0))) e))

held_are : (new : Numbers) (type_of : ℕ → PlainType) (k : ℕ) (bs : List BlockSketch) (ps : List Piece) (more : List PieceTree) → ps ≡ pieces_of new type_of more
    → held_seen type_of (new.label 0) k (map block_view bs) ps ≡ pieces_of new type_of (trees.held_trees k bs ++ more)
held_are new type_of k [] ps more e = e
held_are new type_of k (b ∷ bs) ps more e =
    held_block_is new type_of k b.label b.args b.passed (held_seen type_of (new.label 0) (k + 1) (map block_view bs) ps) (trees.held_trees (k + 1) bs ++ more) (held_are new type_of (k + 1) bs ps more e)
    ∙ sym (ap (pieces_of new type_of) (append_assoc (made.Opens (labels.Old b.label) b.args ∷ made.Held 0 k ∷ trees.passed_tree b.passed) (trees.held_trees (k + 1) bs) more))

blocks_are : (new : Numbers) (type_of : ℕ → PlainType) (results : Typed) (bs : List BlockSketch)
    → execute_from new type_of (plain_values results) (map block_view bs) ≡ pieces_or_none new type_of (trees.execute_blocks results bs)
blocks_are new type_of results [] = refl
blocks_are new type_of results (b ∷ bs) =
    ap Some (cons2 (sym (branch_old new type_of [] (labels.Old b.label))) (held_are new type_of 0 (b ∷ bs) (Opens (new.label 0) (plain_values results) ∷ []) (made.Opens (labels.New 0) results ∷ []) refl))

pub execute_made : (new : Numbers) (type_of : ℕ → PlainType) (results : Typed) (operands : List ℕ) (regions : List RegionSketch) (successors : ℕ)
    → execute_seen new type_of (plain_values results) operands (map region_view regions) successors ≡ pieces_or_none new type_of (trees.execute_trees results operands regions successors)
execute_made new type_of results [] (r ∷ []) zero = blocks_are new type_of results r.blocks
execute_made new type_of results _ _ _ = refl

-- scf.index_switch

test_types : (new : Numbers) (type_of : ℕ → PlainType) (j : ℕ)
    → known_types new (test_values j) type_of ≡ with_type (new.value (2 * j)) Index (with_type (new.value (2 * j + 1)) (Int 1) type_of)
test_types new type_of j =
    ap (λ u. with_type (new.value (2 * j)) u (with_type (new.value (2 * j + 1)) (plain_type (type.Int 1)) type_of)) plain-Index
    ∙ ap (λ u. with_type (new.value (2 * j)) Index (with_type (new.value (2 * j + 1)) u type_of)) (plain-Int 1)

test_is : (new : Numbers) (type_of : ℕ → PlainType) (index j : ℕ) (number : ℤ) (case other : CutLabel) (ps : List Piece) (more : List PieceTree) → ps ≡ pieces_of new type_of more
    → test_pieces new type_of index j number (label_at new case) (label_at new other) ps ≡ pieces_of new type_of (trees.test_trees index j number case other ++ more)
test_is new type_of index j number case other ps more e =
    let types : ℕ → PlainType = with_type (new.value (2 * j)) Index (with_type (new.value (2 * j + 1)) (Int 1) type_of) in
    let known : Typed = test_values j in
    let h : known_types new known type_of ≡ types = test_types new type_of j in
    cons2 (sym (product_is new type_of known (codes "arith.constant") ((2 * j, type.Index) ∷ []) [] (constant_value Index number) []
    ∙ ap (λ t. product (known_types new known type_of) (codes "arith.constant") ((new.value (2 * j), t) ∷ []) [] (constant_value Index number) []) plain-Index
    ∙ ap (λ (f : ℕ → PlainType). product f (codes "arith.constant") ((new.value (2 * j), Index) ∷ []) [] (constant_value Index number) []) h))
    (cons2 (sym (compare_is new type_of types known (2 * j + 1) (Old index) (New (2 * j)) 0 h))
    (cons2 (sym (conditional_is new type_of types known (New (2 * j + 1)) [] [] case other h refl)) e))

tests_are : (new : Numbers) (type_of : ℕ → PlainType) (index j : ℕ) (numbers : List ℤ) (cases : List Alone) (default : ℕ) (ps : List Piece) (more : List PieceTree) → ps ≡ pieces_of new type_of more
    → tests new type_of index j numbers (map plain_alone cases) default ps ≡ pieces_of new type_of (trees.tests_trees index j numbers cases default ++ more)
tests_are new type_of index j [] cases default ps more e = e
tests_are new type_of index j (number ∷ []) [] default ps more e = e
tests_are new type_of index j (number ∷ []) (case ∷ []) default ps more e = test_is new type_of index j number (labels.Old case.label) (labels.Old default) ps more e
tests_are new type_of index j (number ∷ []) (case ∷ second ∷ cases) default ps more e =
    test_is new type_of index j number (labels.Old case.label) (labels.New (j + 1)) _ (made.Opens (labels.New (j + 1)) [] ∷ more) (cons2 refl e)
    ∙ sym (ap (pieces_of new type_of) (append_assoc (trees.test_trees index j number (labels.Old case.label) (labels.New (j + 1))) (made.Opens (labels.New (j + 1)) [] ∷ []) more))
tests_are new type_of index j (number ∷ next ∷ numbers) [] default ps more e = e
tests_are new type_of index j (number ∷ next ∷ numbers) (case ∷ cases) default ps more e =
    test_is new type_of index j number (labels.Old case.label) (labels.New (j + 1)) _ (made.Opens (labels.New (j + 1)) [] ∷ (trees.tests_trees index (j + 1) (next ∷ numbers) cases default ++ more))
    (cons2 refl (tests_are new type_of index (j + 1) (next ∷ numbers) cases default ps more e))
    ∙ sym (ap (pieces_of new type_of) (append_assoc (trees.test_trees index j number (labels.Old case.label) (labels.New (j + 1))) (made.Opens (labels.New (j + 1)) [] ∷ trees.tests_trees index (j + 1) (next ∷ numbers) cases default) more))

cases_are : (new : Numbers) (type_of : ℕ → PlainType) (r : ℕ) (cases : List Alone) (ps : List Piece) (more : List PieceTree) → ps ≡ pieces_of new type_of more
    → case_pieces type_of (new.label 0) r (map plain_alone cases) ps ≡ pieces_of new type_of (trees.case_trees r cases ++ more)
cases_are new type_of r [] ps more e = e
cases_are new type_of r (a ∷ cases) ps more e =
    yields_are new type_of r a (trees.case_trees (r + 1) cases ++ more) _ (cases_are new type_of (r + 1) cases ps more e)
    ∙ sym (ap (pieces_of new type_of) (append_assoc (trees.yields_trees (labels.New 0) r a) (trees.case_trees (r + 1) cases) more))

head_is : (new : Numbers) (type_of : ℕ → PlainType) (index : ℕ) (numbers : List ℤ) (cases : List Alone) (default : ℕ) (ps : List Piece) (more : List PieceTree) → ps ≡ pieces_of new type_of more
    → head_pieces new type_of index numbers (map plain_alone cases) default ps ≡ pieces_of new type_of (trees.head_trees index numbers cases default ++ more)
head_is new type_of index [] cases default ps more e = cons2 (sym (branch_old new type_of [] (labels.Old default))) e
head_is new type_of index (number ∷ numbers) cases default ps more e = tests_are new type_of index 0 (number ∷ numbers) cases default ps more e

pieces_are : (new : Numbers) (type_of : ℕ → PlainType) (results : Typed) (index : ℕ) (numbers : List ℤ) (default : Alone) (cases : List Alone)
    → switch_pieces new type_of (plain_values results) index numbers (plain_alone default) (map plain_alone cases) ≡ pieces_of new type_of (trees.switch_pieces results index numbers default cases)
pieces_are new type_of results index numbers default cases =
    head_is new type_of index numbers cases default.label _ (trees.case_trees 1 cases ++ (trees.yields_trees (labels.New 0) 0 default ++ made.Opens (labels.New 0) results ∷ []))
    (cases_are new type_of 1 cases _ (trees.yields_trees (labels.New 0) 0 default ++ made.Opens (labels.New 0) results ∷ []) (yields_are new type_of 0 default (made.Opens (labels.New 0) results ∷ []) _ refl))

when_equal : (new : Numbers) (type_of : ℕ → PlainType) (b : Bool) (ps : List Piece) (ts : List PieceTree) → ps ≡ pieces_of new type_of ts
    → (if b then Some ps else None) ≡ pieces_or_none new type_of (if b then Some ts else None)
when_equal new type_of true ps ts e = ap Some e
when_equal new type_of false ps ts e = refl

switch_blocks_are : (new : Numbers) (type_of : ℕ → PlainType) (results : Typed) (index : ℕ) (numbers : List ℤ) (x : Option (List Alone))
    → switch_blocks new type_of (plain_values results) index numbers (option_map (map plain_alone) x) ≡ pieces_or_none new type_of (trees.switch_blocks results index numbers x)
switch_blocks_are new type_of results index numbers None = refl
switch_blocks_are new type_of results index numbers (Some []) = refl
switch_blocks_are new type_of results index numbers (Some (default ∷ cases)) =
    ap (λ n. if length numbers == n then Some (switch_pieces new type_of (plain_values results) index numbers (plain_alone default) (map plain_alone cases)) else None) (length-map cases plain_alone)
    ∙ when_equal new type_of (length numbers == length cases) _ _ (pieces_are new type_of results index numbers default cases)

numbers_are : (new : Numbers) (type_of : ℕ → PlainType) (results : Typed) (index : ℕ) (a : Option PlainAttr) (x : Option (List Alone))
    → switch_cases new type_of (plain_values results) index a (option_map (map plain_alone) x) ≡ pieces_or_none new type_of (trees.switch_numbers results index (trees.case_numbers a) x)
numbers_are new type_of results index None x = refl
numbers_are new type_of results index (Some (attr.Numbers width numbers)) x = switch_blocks_are new type_of results index numbers x
numbers_are new type_of results index (Some attr.Unit) x = refl
numbers_are new type_of results index (Some (attr.Number n t)) x = refl
numbers_are new type_of results index (Some (attr.Text t)) x = refl
numbers_are new type_of results index (Some (attr.Attrs t)) x = refl
numbers_are new type_of results index (Some (attr.Dict t)) x = refl
numbers_are new type_of results index (Some (attr.OfType t)) x = refl
numbers_are new type_of results index (Some (attr.Symbol t)) x = refl
numbers_are new type_of results index (Some (attr.Dialect n t)) x = refl

pub switch_made : (new : Numbers) (type_of : ℕ → PlainType) (results : Typed) (operands : List ℕ) (props : Entries) (regions : List RegionSketch) (successors : ℕ)
    → switch_seen new type_of (plain_values results) operands props (map region_view regions) successors
    ≡ pieces_or_none new type_of (trees.switch_trees results operands (trees.case_numbers (attr.entry (codes "cases") props)) regions successors)
switch_made new type_of results (index ∷ []) props regions zero =
    ap (switch_cases new type_of (plain_values results) index (attr.entry (codes "cases") props)) (all_are regions)
    ∙ numbers_are new type_of results index (attr.entry (codes "cases") props) (all_alone regions)
switch_made new type_of results _ props regions _ = refl
