-- The rows look at sketches alone.
use Rattle.std.proofs.Common.{◌≡◌, ℕ, ◌+◌, List, [], ◌∷◌, Option, Some, refl, ap, ◌∙◌}
use Rattle.std.specs.Prelude.{codes}
use Rattle.plain_tree.specs.Types.{PlainType}
use Rattle.plain_tree.specs.Attrs.{entry}
use Rattle.plain_tree.specs.Ops.{Op, op, Regions, end_of_regions, region, Blocks, end_of_blocks, block}
use Rattle.conversion_model.specs.Rows.{Numbers, Piece, Opens}
use Rattle.pattern_model.specs.ScfRows.{branch, execute_row, for_row, held_block, held_blocks, if_alone, if_of, if_row, passed_by, single, singles, switch_cases, switch_row, while_of, while_row, with_single}
use Rattle.cut_code.specs.Sketches.{OpView, blocks_seen, regions_seen, sketch_of}
use Rattle.scf_rows.specs.Seen.{execute_seen, for_seen, held_seen, if_seen, single_seen, singles_seen, switch_seen, while_seen}

single_is : (bs : Blocks) → single bs ≡ single_seen (blocks_seen bs)
single_is end_of_blocks = refl
single_is (block label args ops end_of_blocks) = refl
single_is (block label args ops (block other others more blocks)) = refl

singles_are : (rs : Regions) → singles rs ≡ singles_seen (regions_seen rs)
singles_are end_of_regions = refl
singles_are (region blocks more) = ap (λ s. with_single s (singles more)) (single_is blocks) ∙ ap (with_single (single_seen (blocks_seen blocks))) (singles_are more)

abbrev pub if_by : Numbers → (ℕ → PlainType) → OpView → Option (List Piece)
if_by new type_of v = if_seen new type_of v.results v.operands v.regions v.successors

pub if_is : (new : Numbers) (type_of : ℕ → PlainType) (o : Op) → if_row new type_of o ≡ if_by new type_of (sketch_of o)
if_is new type_of (op k results (c ∷ []) (region first (region end_of_blocks end_of_regions)) []) = ap (if_alone new type_of results c) (single_is first)
if_is new type_of (op k results (c ∷ []) (region first (region (block label args ops blocks) end_of_regions)) []) =
    ap (λ s. if_of new type_of results c s (single (block label args ops blocks))) (single_is first)
    ∙ ap (if_of new type_of results c (single_seen (blocks_seen first))) (single_is (block label args ops blocks))
if_is new type_of _ = refl

abbrev pub for_by : Numbers → (ℕ → PlainType) → OpView → Option (List Piece)
for_by new type_of v = for_seen new type_of v.results v.operands v.regions v.successors

pub for_is : (new : Numbers) (type_of : ℕ → PlainType) (o : Op) → for_row new type_of o ≡ for_by new type_of (sketch_of o)
for_is new type_of (op k results (lower ∷ upper ∷ step ∷ initial) (region (block body args ops end_of_blocks) end_of_regions) []) = refl
for_is new type_of (op k results (lower ∷ upper ∷ step ∷ initial) (region end_of_blocks end_of_regions) []) = refl
for_is new type_of (op k results (lower ∷ upper ∷ step ∷ initial) (region (block body args ops (block other others rest blocks)) end_of_regions) []) = refl
for_is new type_of _ = refl

abbrev pub while_by : Numbers → (ℕ → PlainType) → OpView → Option (List Piece)
while_by new type_of v = while_seen new type_of v.results v.operands v.regions v.successors

pub while_is : (new : Numbers) (type_of : ℕ → PlainType) (o : Op) → while_row new type_of o ≡ while_by new type_of (sketch_of o)
while_is new type_of (op k results initial (region before (region after end_of_regions)) []) =
    ap (λ s. while_of new type_of results initial s (single after)) (single_is before) ∙ ap (while_of new type_of results initial (single_seen (blocks_seen before))) (single_is after)
while_is new type_of _ = refl

abbrev pub switch_by : Numbers → (ℕ → PlainType) → OpView → Option (List Piece)
switch_by new type_of v = switch_seen new type_of v.results v.operands v.props v.regions v.successors

pub switch_is : (new : Numbers) (type_of : ℕ → PlainType) (o : Op) → switch_row new type_of o ≡ switch_by new type_of (sketch_of o)
switch_is new type_of (op k results (index ∷ []) regions []) = ap (switch_cases new type_of results index (entry (codes "cases") k.props)) (singles_are regions)
switch_is new type_of _ = refl

held_are : (type_of : ℕ → PlainType) (rest k : ℕ) (bs : Blocks) (more : List Piece) → held_blocks type_of rest k bs more ≡ held_seen type_of rest k (blocks_seen bs) more
held_are type_of rest k end_of_blocks more = refl
held_are type_of rest k (block label args ops blocks) more = ap (held_block type_of rest k label args (passed_by ops)) (held_are type_of rest (k + 1) blocks more)

abbrev pub execute_by : Numbers → (ℕ → PlainType) → OpView → Option (List Piece)
execute_by new type_of v = execute_seen new type_of v.results v.operands v.regions v.successors

pub execute_is : (new : Numbers) (type_of : ℕ → PlainType) (o : Op) → execute_row new type_of o ≡ execute_by new type_of (sketch_of o)
execute_is new type_of (op k results [] (region (block label args ops blocks) end_of_regions) []) =
    ap (λ (ps : List Piece). Some (branch type_of [] label ∷ ps)) (held_are type_of (new.label 0) 0 (block label args ops blocks) (Opens (new.label 0) results ∷ []))
execute_is new type_of (op k results [] (region end_of_blocks end_of_regions) []) = refl
execute_is new type_of _ = refl
