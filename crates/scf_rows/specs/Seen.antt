-- The rows by what a cut sees of an operation.
use Rattle.std.specs.Prelude.{ℕ, zero, ◌+◌, List, [], ◌∷◌, Option, Some, None, codes}
use Rattle.plain_tree.specs.Types.{PlainType}
use Rattle.plain_tree.specs.Attrs.{Entries, entry}
use Rattle.plain_tree.specs.Ops.{Values}
use Rattle.conversion_model.specs.Rows.{Numbers, Piece, Opens}
use Rattle.pattern_model.specs.ScfRows.{Single, branch, for_of, held_block, if_alone, if_of, or_none, switch_cases, while_of, with_single}
use Rattle.cut_code.specs.Sketches.{BlockView}

abbrev pub single_seen : List BlockView → Option Single
single_seen (b ∷ []) = Some (record { label = b.label; args = b.args; passed = or_none b.passed })
single_seen _ = None

abbrev pub singles_seen : List (List BlockView) → Option (List Single)
singles_seen [] = Some []
singles_seen (b ∷ bs) = with_single (single_seen b) (singles_seen bs)

abbrev pub if_either_seen : Numbers → (ℕ → PlainType) → Values → ℕ → Option Single → List BlockView → Option (List Piece)
if_either_seen new type_of results c first [] = if_alone new type_of results c first
if_either_seen new type_of results c first (b ∷ bs) = if_of new type_of results c first (single_seen (b ∷ bs))

abbrev pub if_seen : Numbers → (ℕ → PlainType) → Values → List ℕ → List (List BlockView) → ℕ → Option (List Piece)
if_seen new type_of results (c ∷ []) (a ∷ b ∷ []) zero = if_either_seen new type_of results c (single_seen a) b
if_seen new type_of results _ _ _ = None

abbrev pub for_single : Numbers → (ℕ → PlainType) → Values → ℕ → ℕ → ℕ → List ℕ → Option Single → Option (List Piece)
for_single new type_of results lower upper step initial None = None
for_single new type_of results lower upper step initial (Some s) = for_of new type_of results lower upper step initial s.label s.args s.passed

abbrev pub for_seen : Numbers → (ℕ → PlainType) → Values → List ℕ → List (List BlockView) → ℕ → Option (List Piece)
for_seen new type_of results (lower ∷ upper ∷ step ∷ initial) (a ∷ []) zero = for_single new type_of results lower upper step initial (single_seen a)
for_seen new type_of results _ _ _ = None

abbrev pub while_seen : Numbers → (ℕ → PlainType) → Values → List ℕ → List (List BlockView) → ℕ → Option (List Piece)
while_seen new type_of results initial (a ∷ b ∷ []) zero = while_of new type_of results initial (single_seen a) (single_seen b)
while_seen new type_of results initial _ _ = None

abbrev pub switch_seen : Numbers → (ℕ → PlainType) → Values → List ℕ → Entries → List (List BlockView) → ℕ → Option (List Piece)
switch_seen new type_of results (index ∷ []) props regions zero = switch_cases new type_of results index (entry (codes "cases") props) (singles_seen regions)
switch_seen new type_of results _ props regions _ = None

abbrev pub held_seen : (ℕ → PlainType) → ℕ → ℕ → List BlockView → List Piece → List Piece
held_seen type_of rest k [] more = more
held_seen type_of rest k (b ∷ bs) more = held_block type_of rest k b.label b.args b.passed (held_seen type_of rest (k + 1) bs more)

abbrev pub execute_from : Numbers → (ℕ → PlainType) → Values → List BlockView → Option (List Piece)
execute_from new type_of results [] = None
execute_from new type_of results (b ∷ bs) = Some (branch type_of [] b.label ∷ held_seen type_of (new.label 0) 0 (b ∷ bs) (Opens (new.label 0) results ∷ []))

abbrev pub execute_seen : Numbers → (ℕ → PlainType) → Values → List ℕ → List (List BlockView) → ℕ → Option (List Piece)
execute_seen new type_of results [] (bs ∷ []) zero = execute_from new type_of results bs
execute_seen new type_of results _ _ _ = None
